-- One step of the merge: the least line is taken, and what is left of its output read on.
use Rattle.std.proofs.Common.{◌≡◌, ℕ, ◌+◌, ◌<◌, ◌++◌, List, [], ◌∷◌, length, get_or, set, refl, ap, sym, ◌∙◌, subst, inl, inr, arith, Bool, true, false, cond, Option, None, Some, map}
use Rattle.std.specs.Prelude.{IfSome}
use Rattle.std.proofs.lemmas.List.{append-nil, append_assoc, map-append, get_or_at, set_at, length_push}
use Rattle.std.proofs.lemmas.Cmp.{nat_list_cmp_total, tied_itself}
use Rattle.std.specs.List.{AllByRecursion}
use Rattle.std.specs.Ordering.{is_lt, ordering_reverse}
use Rattle.std.specs.declared.cmp.Ordering.{Ordering}
use Rattle.std.specs.declared.cmp.Ordering.TheVariants.{Less, Equal, Greater}
use Rattle.mr_bytes.specs.Lists.{Has}
use Rattle.mr_bytes.specs.Order.{key_order}
use Rattle.mr_jobs.specs.JobSpec.{JobSpec}
use Rattle.mr_sequential.proofs.KeyLaws.{key_tie}
use Rattle.mr_bytes.proofs.ListLaws.{Has-all, all_from_Has, Has-map_from}
use Rattle.mr_shards.specs.declared.cursor.Cursor.{Cursor}
use Rattle.mr_shards.specs.declared.line.Line.{Line}
use Rattle.mr_shards.specs.Merged.{Group, with_group, merged}
use Rattle.mr_shards.specs.Lines.{groups_in, NoneFalls}
use Rattle.mr_shards.specs.Views.{group_of}
use Rattle.mr_shards.specs.Cursors.{AreBeyond, Differs, NotBefore, Past, least_from, lesser, headed, left, IsHeadFor, DoesNotFall, ReadsOn}
use Rattle.mr_shards.specs.Refused.{IsRestOf}
use Rattle.mr_shards.specs.Outputs.{Stands}
use Rattle.mr_shards.proofs.MergedLaws.{keys, merged-keys, with_keys-cases}
use Rattle.mr_shards.specs.Portions.{merged_groups, shifted_group}
use Rattle.mr_shards.proofs.MergeLemmas.{merged_groups-rise, through}

-- ---- keys that aren't before others

abbrev pub NotLess : List ℕ → List ℕ → Type 0
NotLess j k = key_order j k ≡ Less → ⊥

pub not_less-itself : (k : List ℕ) → NotLess k k
not_less-itself k h = cc (tied_itself nat_list_cmp_total k, h)

-- j is before k or k isn't after j
pub turned : (j k : List ℕ) → key_order j k ≡ Greater → key_order k j ≡ Less
turned j k e = nat_list_cmp_total.antisymm k j ∙ ap ordering_reverse e

-- l before k, and k not after j
pub less-not : (l k j : List ℕ) → key_order l k ≡ Less → NotLess j k → key_order l j ≡ Less
less-not l k j lk jk = by (key_order j k) refl
  where
    by : (o : Ordering) → key_order j k ≡ o → key_order l j ≡ Less
    by Less e = absurd (jk e)
    by Equal e = ap (key_order l) (key_tie j k e) ∙ lk
    by Greater e = nat_list_cmp_total.trans l k j lk (turned j k e)

pub not_less-trans : (a b c : List ℕ) → NotLess a b → NotLess b c → NotLess a c
not_less-trans a b c ab bc ac = ab (less-not a c b ac bc)

pub not_less-differs : (a b : List ℕ) → NotLess a b → (b ≡ a → ⊥) → key_order b a ≡ Less
not_less-differs a b h ne = by (key_order b a) refl
  where
    by : (o : Ordering) → key_order b a ≡ o → key_order b a ≡ Less
    by Less e = e
    by Equal e = absurd (ne (key_tie b a e))
    by Greater e = absurd (h (turned b a e))

-- all groups have keys that aren't before k
abbrev pub NoneBefore : List ℕ → List Group → Type 0
NoneBefore k gs = AllByRecursion (λ g. NotLess g.key k) gs

pub all-map : {X : Type 0} (P Q : X → Type 0) (xs : List X) → ((x : X) → P x → Q x) → AllByRecursion P xs → AllByRecursion Q xs
all-map P Q [] f all = tt
all-map P Q (x ∷ xs) f all = (f x all.0, all-map P Q xs f all.1)

pub all-append : {X : Type 0} (P : X → Type 0) (xs ys : List X) → AllByRecursion P xs → AllByRecursion P ys → AllByRecursion P (xs ++ ys)
all-append P [] ys a b = b
all-append P (x ∷ xs) ys a b = (a.0, all-append P xs ys a.1 b)

pub all-split : {X : Type 0} (P : X → Type 0) (xs ys : List X) → AllByRecursion P (xs ++ ys) → AllByRecursion P xs × AllByRecursion P ys
all-split P [] ys a = (tt, a)
all-split P (x ∷ xs) ys a = let r = all-split P xs ys a.1 in ((a.0, r.0), r.1)

none-later : (j k : List ℕ) (gs : List Group) → NotLess k j → NoneBefore k gs → NoneBefore j gs
none-later j k gs h all = all-map (λ g. NotLess g.key k) (λ g. NotLess g.key j) gs (λ g f. not_less-trans g.key k j f h) all

-- ---- the least of cursors

pub record IsLeast (cs : List Cursor) (at : ℕ) (line : Line) : Type 0 where
  pub front : List Cursor
  pub one : Cursor
  pub back : List Cursor
  pub is : cs ≡ front ++ one ∷ back
  pub place : length front ≡ at
  pub head : one.head ≡ Some line
  pub past : AllByRecursion (λ c. Past line c.head) front
  pub not_before : AllByRecursion (λ c. NotBefore line c.head) back

abbrev pub IsBest : List Cursor → Option (ℕ × Line) → Type 0
IsBest cs None = AllByRecursion (λ c. c.head ≡ None) cs
IsBest cs (Some b) = IsLeast cs b.0 b.1

past-none : (line : Line) (cs : List Cursor) → AllByRecursion (λ c. c.head ≡ None) cs → AllByRecursion (λ c. Past line c.head) cs
past-none line cs all = all-map (λ c. c.head ≡ None) (λ c. Past line c.head) cs (λ c e. subst (Past line) (sym e) tt) all

past-past : (line best : Line) (o : Option Line) → key_order line.key.now best.key.now ≡ Less → Past best o → Past line o
past-past line best None h p = tt
past-past line best (Some l) h p = nat_list_cmp_total.trans line.key.now best.key.now l.key.now h p

past-not_before : (line best : Line) (o : Option Line) → key_order line.key.now best.key.now ≡ Less → NotBefore best o → Past line o
past-not_before line best None h p = tt
past-not_before line best (Some l) h p = less-not line.key.now best.key.now l.key.now h p

pub is_lt-less : (o : Ordering) → is_lt o ≡ true → o ≡ Less
is_lt-less Less e = refl
is_lt-less Equal e = absurd (cc e)
is_lt-less Greater e = absurd (cc e)

best-more : (done : List Cursor) (least : Option (ℕ × Line)) (c : Cursor) → IsBest done least → IsBest (done ++ c ∷ []) (lesser least (length done) c.head)
best-more done least c best = by c.head refl least best
  where
    compared : (line : Line) (b : ℕ × Line) (t : Bool) → is_lt (key_order line.key.now b.1.key.now) ≡ t → c.head ≡ Some line → IsLeast done b.0 b.1
        → IsBest (done ++ c ∷ []) (cond t (Some (length done, line)) (Some b))
    compared line b true e is l =
        let less : key_order line.key.now b.1.key.now ≡ Less = is_lt-less (key_order line.key.now b.1.key.now) e in
        record {
          front = done;
          one = c;
          back = [];
          is = refl;
          place = refl;
          head = is;
          past = subst (AllByRecursion (λ (q : Cursor). Past line q.head)) (sym l.is)
              (all-append (λ (q : Cursor). Past line q.head) l.front (l.one ∷ l.back)
              (all-map (λ (q : Cursor). Past b.1 q.head) (λ (q : Cursor). Past line q.head) l.front (λ q p. past-past line b.1 q.head less p) l.past) (
                subst (Past line) (sym l.head) less,
                all-map (λ (q : Cursor). NotBefore b.1 q.head) (λ (q : Cursor). Past line q.head) l.back (λ q p. past-not_before line b.1 q.head less p) l.not_before,
              ));
          not_before = tt;
        }
    compared line b false e is l =
        record {
          front = l.front;
          one = l.one;
          back = l.back ++ c ∷ [];
          is = ap (λ (xs : List Cursor). xs ++ c ∷ []) l.is ∙ append_assoc l.front (l.one ∷ l.back) (c ∷ []);
          place = l.place;
          head = l.head;
          past = l.past;
          not_before = all-append (λ (q : Cursor). NotBefore b.1 q.head) l.back (c ∷ []) l.not_before
              (subst (NotBefore b.1) (sym is) (λ h. cc (ap is_lt (sym h) ∙ e)), tt);
        }

    by : (o : Option Line) → c.head ≡ o → (m : Option (ℕ × Line)) → IsBest done m → IsBest (done ++ c ∷ []) (lesser m (length done) o)
    by None is None best = all-append (λ (q : Cursor). q.head ≡ None) done (c ∷ []) best (is, tt)
    by None is (Some b) best =
        record {
          front = best.front;
          one = best.one;
          back = best.back ++ c ∷ [];
          is = ap (λ (xs : List Cursor). xs ++ c ∷ []) best.is ∙ append_assoc best.front (best.one ∷ best.back) (c ∷ []);
          place = best.place;
          head = best.head;
          past = best.past;
          not_before = all-append (λ (q : Cursor). NotBefore b.1 q.head) best.back (c ∷ []) best.not_before (subst (NotBefore b.1) (sym is) tt, tt);
        }
    by (Some line) is None best =
        record { front = done; one = c; back = []; is = refl; place = refl; head = is; past = past-none line done best; not_before = tt }
    by (Some line) is (Some b) best = compared line b (is_lt (key_order line.key.now b.1.key.now)) refl is best

best-all : (done : List Cursor) (least : Option (ℕ × Line)) (n : ℕ) (rest : List Cursor) → length done ≡ n → IsBest done least → IsBest (done ++ rest) (least_from least n rest)
unfolding least_from
best-all done least n [] e best = subst (λ (xs : List Cursor). IsBest xs least) (sym (append-nil done)) best
best-all done least n (c ∷ cs) e best =
    let more : length (done ++ c ∷ []) ≡ n + 1 = length_push done c ∙ ap (λ k. k + 1) e in
    let here : IsBest (done ++ c ∷ []) (lesser least n c.head) = subst (λ k. IsBest (done ++ c ∷ []) (lesser least k c.head)) e (best-more done least c best) in
    subst (λ (xs : List Cursor). IsBest xs (least_from (lesser least n c.head) (n + 1) cs)) (append_assoc done (c ∷ []) cs)
    (best-all (done ++ c ∷ []) (lesser least n c.head) (n + 1) cs more here)

pub best-of : (cs : List Cursor) (o : Option (ℕ × Line)) → o ≡ least_from None 0 cs → IsBest cs o
best-of cs o e = subst (IsBest cs) (sym e) (best-all [] None 0 cs refl tt)

-- ---- what is left of cursors

none-before_line : (line : Line) (o : Option Line) (gs : List Group) → NotBefore line o → NoneFalls (headed o gs) → NoneBefore line.key.now (headed o gs)
none-before_line line None gs h falls = tt
none-before_line line (Some l) gs h falls = (h, none-later line.key.now l.key.now gs h falls.0)

none-equal : (line : Line) (o : Option Line) (gs : List Group) → Past line o → NoneFalls (headed o gs) → AllByRecursion (λ g. g.key ≡ line.key.now → ⊥) (headed o gs)
none-equal line None gs h falls = tt
none-equal line (Some l) gs h falls = (
  λ e. not_less-itself line.key.now (subst (λ k. key_order line.key.now k ≡ Less) e h),
  all-map (λ g. NotLess g.key l.key.now) (λ g. g.key ≡ line.key.now → ⊥) gs (λ g f e. f (subst (λ k. key_order k l.key.now ≡ Less) (sym e) h)) falls.0,
)

pull_split : (front : List (List Group)) (g : Group) (gs : List Group) (back : List (List Group)) → AllByRecursion (AllByRecursion (λ h. h.key ≡ g.key → ⊥)) front
    → merged_groups (front ++ (g ∷ gs) ∷ back) ≡ with_group g (merged_groups (front ++ gs ∷ back))
pull_split [] g gs back apart = refl
pull_split (hs ∷ front) g gs back apart =
    ap (merged hs) (pull_split front g gs back apart.1) ∙ through hs g (merged_groups (front ++ gs ∷ back)) apart.0 (merged_groups-rise (front ++ gs ∷ back))

-- the keys of merged lists aren't before k where those of each list aren't
pub merged-none_before : (k : List ℕ) (gss : List (List Group)) → AllByRecursion (NoneBefore k) gss → AllByRecursion (λ q. NotLess q k) (keys (merged_groups gss))
merged-none_before k [] all = tt
merged-none_before k (gs ∷ gss) all =
    let later = merged-none_before k gss all.1 in
    all_from_Has (λ q. NotLess q k) (keys (merged gs (merged_groups gss))) (λ q h.
    elim (with_keys-cases (keys gs) (keys (merged_groups gss)) q (subst (λ (l : List (List ℕ)). Has l q) (merged-keys gs (merged_groups gss)) h)) [
      | inl a ↦ (let w = Has-map_from (λ (g : Group). g.key) gs q a in subst (λ r. NotLess r k) w.2 (Has-all (λ g. NotLess g.key k) gs w.0 all.0 w.1))
      | inr b ↦ Has-all (λ r. NotLess r k) (keys (merged_groups gss)) q later b
    ])

-- ---- one step of the cursors

-- cursors before and behind a step
pub record Step (job : JobSpec) (old new : List Cursor) (line : Line) : Type 0 where
  pub front : List Cursor
  pub one : Cursor
  pub next : Cursor
  pub back : List Cursor
  pub was : old ≡ front ++ one ∷ back
  pub now : new ≡ front ++ next ∷ back
  pub left_one : left job one ≡ group_of line ∷ left job next
  pub head : one.head ≡ Some line
  pub past : AllByRecursion (λ c. Past line c.head) front
  pub not_before : AllByRecursion (λ c. NotBefore line c.head) back
  pub kind : IsHeadFor job next
  pub order : NotBefore line next.head
  pub behind : IsRestOf job next → IsRestOf job one

in_order-some : (line : Line) (was next : Option Line) → was ≡ Some line → IfSome next (λ l. DoesNotFall was l) → NotBefore line next
in_order-some line was None e h = tt
in_order-some line was (Some l) e h = subst (λ o. DoesNotFall o l) e h

pub step-of : (job : JobSpec) (at : ℕ) (old new : List Cursor) (line : Line) → IsLeast old at line → ReadsOn job at old new → Step job old new line
step-of job at old new line b r =
    let same : r.one ≡ b.one = sym r.was ∙ ap (λ (xs : List Cursor). get_or xs at r.one) b.is ∙ get_or_at b.front b.one b.back r.one at b.place in
    record {
      front = b.front;
      one = b.one;
      next = r.next;
      back = b.back;
      was = b.is;
      now = r.set ∙ ap (λ (xs : List Cursor). set xs at r.next) b.is ∙ set_at b.front b.one b.back r.next at b.place;
      left_one = ap (λ (o : Option Line). headed o (map (shifted_group b.one.held.before) (groups_in job b.one.rest.now))) b.head
          ∙ ap (λ (gs : List Group). group_of line ∷ gs) (sym (r.left ∙ ap (λ (c : Cursor). map (shifted_group c.held.before) (groups_in job c.rest.now)) same));
      head = b.head;
      past = b.past;
      not_before = b.not_before;
      kind = r.kind;
      order = in_order-some line r.one.head r.next.head (ap (λ (c : Cursor). c.head) same ∙ b.head) r.order;
      behind = λ t. subst (IsRestOf job) same (r.behind t);
    }

module _ (job : JobSpec) (old new : List Cursor) (line : Line) (s : Step job old new line) where
  pub step-kinds : AllByRecursion (IsHeadFor job) old → AllByRecursion (IsHeadFor job) new
  step-kinds all =
      let r = all-split (IsHeadFor job) s.front (s.one ∷ s.back) (subst (AllByRecursion (IsHeadFor job)) s.was all) in
      subst (AllByRecursion (IsHeadFor job)) (sym s.now) (all-append (IsHeadFor job) s.front (s.next ∷ s.back) r.0 (s.kind, r.1.1))

  step-stands_one : Stands job s.next → Stands job s.one
  step-stands_one h = record {
    rest = s.behind h.rest;
    in_order = subst NoneFalls (sym s.left_one) (none-before_line line s.next.head (map (shifted_group s.next.held.before) (groups_in job s.next.rest.now)) s.order h.in_order, h.in_order);
  }

  pub step-stands : AllByRecursion (Stands job) new → AllByRecursion (Stands job) old
  step-stands all =
      let r = all-split (Stands job) s.front (s.next ∷ s.back) (subst (AllByRecursion (Stands job)) s.now all) in
      subst (AllByRecursion (Stands job)) (sym s.was) (all-append (Stands job) s.front (s.one ∷ s.back) r.0 (step-stands_one r.1.0, r.1.1))

  lefts-of : (front : List Cursor) (c : Cursor) (back : List Cursor) → map (left job) (front ++ c ∷ back) ≡ map (left job) front ++ left job c ∷ map (left job) back
  lefts-of front c back = map-append (left job) front (c ∷ back)

  apart-all : (cs : List Cursor) → AllByRecursion (λ c. Past line c.head) cs → AllByRecursion (Stands job) cs → AllByRecursion (AllByRecursion (λ h. h.key ≡ line.key.now → ⊥)) (map (left job) cs)
  apart-all [] p h = tt
  apart-all (c ∷ cs) p h = (none-equal line c.head (map (shifted_group c.held.before) (groups_in job c.rest.now)) p.0 h.0.in_order, apart-all cs p.1 h.1)

  none_before-past : (cs : List Cursor) → AllByRecursion (λ c. Past line c.head) cs → AllByRecursion (λ c. NotBefore line c.head) cs
  none_before-past cs p = all-map (λ (c : Cursor). Past line c.head) (λ (c : Cursor). NotBefore line c.head) cs (λ c q. one c.head q) p
    where
      one : (o : Option Line) → Past line o → NotBefore line o
      one None q = tt
      one (Some l) q = λ h. not_less-itself line.key.now (nat_list_cmp_total.trans line.key.now l.key.now line.key.now q h)

  none_before-all : (cs : List Cursor) → AllByRecursion (λ c. NotBefore line c.head) cs → AllByRecursion (Stands job) cs → AllByRecursion (NoneBefore line.key.now) (map (left job) cs)
  none_before-all [] p h = tt
  none_before-all (c ∷ cs) p h = (none-before_line line c.head (map (shifted_group c.held.before) (groups_in job c.rest.now)) p.0 h.0.in_order, none_before-all cs p.1 h.1)

  pub step-pull : AllByRecursion (Stands job) new → merged_groups (map (left job) old) ≡ with_group (group_of line) (merged_groups (map (left job) new))
  step-pull all =
      let r = all-split (Stands job) s.front (s.next ∷ s.back) (subst (AllByRecursion (Stands job)) s.now all) in
      ap (λ (cs : List Cursor). merged_groups (map (left job) cs)) s.was ∙ ap merged_groups (lefts-of s.front s.one s.back)
      ∙ ap (λ (gs : List Group). merged_groups (map (left job) s.front ++ gs ∷ map (left job) s.back)) s.left_one
      ∙ pull_split (map (left job) s.front) (group_of line) (left job s.next) (map (left job) s.back) (apart-all s.front s.past r.0)
      ∙ ap (λ (gss : List (List Group)). with_group (group_of line) (merged_groups gss)) (sym (lefts-of s.front s.next s.back))
      ∙ ap (λ (cs : List Cursor). with_group (group_of line) (merged_groups (map (left job) cs))) (sym s.now)

  pub step-behind : AllByRecursion (Stands job) new → AllByRecursion (NoneBefore line.key.now) (map (left job) new)
  step-behind all =
      let st = subst (AllByRecursion (Stands job)) s.now all in
      let r = all-split (Stands job) s.front (s.next ∷ s.back) st in
      subst (λ (cs : List Cursor). AllByRecursion (NoneBefore line.key.now) (map (left job) cs)) (sym s.now)
      (none_before-all (s.front ++ s.next ∷ s.back)
      (all-append (λ (c : Cursor). NotBefore line c.head) s.front (s.next ∷ s.back) (none_before-past s.front s.past) (s.order, s.not_before)) st)

  -- the key is one of those that were left
  pub step-at : (k : List ℕ) → AllByRecursion (NoneBefore k) (map (left job) old) → NotLess line.key.now k
  step-at k all =
      let r = all-split (NoneBefore k) (map (left job) s.front) (left job s.one ∷ map (left job) s.back)
      (subst (AllByRecursion (NoneBefore k)) (ap (map (left job)) s.was ∙ lefts-of s.front s.one s.back) all) in
      (subst (NoneBefore k) s.left_one r.1.0).0

-- ---- behind a step

abbrev PastFound : Line → Option (ℕ × Line) → Type 0
PastFound line None = Unit {0}
PastFound line (Some b) = key_order line.key.now b.1.key.now ≡ Less

past-lesser : (line : Line) (m : Option (ℕ × Line)) (n : ℕ) (o : Option Line) → PastFound line m → Past line o → PastFound line (lesser m n o)
past-lesser line m n None f p = f
past-lesser line None n (Some l) f p = p
past-lesser line (Some b) n (Some l) f p = by (is_lt (key_order l.key.now b.1.key.now))
  where
    by : (t : Bool) → PastFound line (cond t (Some (n, l)) (Some b))
    by true = p
    by false = f

lesser-here : (line : Line) (m : Option (ℕ × Line)) (n : ℕ) (o : Option Line) → o ≡ Some line → PastFound line m → lesser m n o ≡ Some (n, line)
lesser-here line m n None is f = absurd (cc is)
lesser-here line None n (Some l) is f = ap (λ (x : Option Line). lesser None n x) is
lesser-here line (Some b) n (Some l) is f =
    ap (λ (x : Option Line). lesser (Some b) n x) is
    ∙ ap (λ (t : Ordering). cond (is_lt t) (Some (n, line)) (Some b)) f

is_lt-not : (o : Ordering) → (o ≡ Less → ⊥) → is_lt o ≡ false
is_lt-not Less f = absurd (f refl)
is_lt-not Equal f = refl
is_lt-not Greater f = refl

lesser-kept : (line : Line) (at n : ℕ) (o : Option Line) → NotBefore line o → lesser (Some (at, line)) n o ≡ Some (at, line)
lesser-kept line at n None f = refl
lesser-kept line at n (Some l) f = ap (λ (t : Bool). cond t (Some (n, l)) (Some (at, line))) (is_lt-not (key_order l.key.now line.key.now) f)

least-kept : (line : Line) (at n : ℕ) (cs : List Cursor) → AllByRecursion (λ c. NotBefore line c.head) cs → least_from (Some (at, line)) n cs ≡ Some (at, line)
unfolding least_from
least-kept line at n [] all = refl
least-kept line at n (c ∷ cs) all =
    ap (λ (m : Option (ℕ × Line)). least_from m (n + 1) cs) (lesser-kept line at n c.head all.0) ∙ least-kept line at (n + 1) cs all.1

-- behind cursors that are past the line, the one at it is the least
least-found : (line : Line) (m : Option (ℕ × Line)) (n at : ℕ) (front : List Cursor) (one : Cursor) (back : List Cursor) → PastFound line m → n + length front ≡ at
    → AllByRecursion (λ c. Past line c.head) front → one.head ≡ Some line → AllByRecursion (λ c. NotBefore line c.head) back
    → Some (at, line) ≡ least_from m n (front ++ one ∷ back)
unfolding least_from
least-found line m n at [] one back f place past is rest =
    let here : n ≡ at = omega (arith, place) in
    sym (ap (λ (x : Option (ℕ × Line)). least_from x (n + 1) back) (lesser-here line m n one.head is f) ∙ least-kept line n (n + 1) back rest ∙ ap (λ k. Some (k, line)) here)
least-found line m n at (c ∷ front) one back f place past is rest =
    least-found line (lesser m n c.head) (n + 1) at front one back (past-lesser line m n c.head f past.0) (omega (arith, place)) past.1 is rest

past-alike : (line l : Line) (o : Option Line) → l.key.now ≡ line.key.now → Past line o → Past l o
past-alike line l None e p = tt
past-alike line l (Some q) e p = ap (λ k. key_order k q.key.now) e ∙ p

not_before-alike : (line l : Line) (o : Option Line) → l.key.now ≡ line.key.now → NotBefore line o → NotBefore l o
not_before-alike line l None e p = tt
not_before-alike line l (Some q) e p = λ h. p (ap (key_order q.key.now) (sym e) ∙ h)

-- what stands at a place behind others
split-at : (cs front back : List Cursor) (at : ℕ) (d : Cursor) → cs ≡ front ++ back → length front ≡ at → at < length cs
    → (rest : List Cursor) × (back ≡ get_or cs at d ∷ rest)
split-at cs front [] at d is place less = absurd (omega (arith, less, place, ap length is, ap length (append-nil front)))
split-at cs front (c ∷ back) at d is place less =
    (back, ap (λ (q : Cursor). q ∷ back) (sym (ap (λ (xs : List Cursor). get_or xs at d) is ∙ get_or_at front c back d at place)))

-- a line of the same key, at that place, is the least
pub found-alike : (cs : List Cursor) (at : ℕ) (d : Cursor) (line l : Line) → AreBeyond at line cs → at < length cs → (get_or cs at d).head ≡ Some l → l.key.now ≡ line.key.now
    → Some (at, l) ≡ least_from None 0 cs
found-alike cs at d line l b less is e =
    let w = split-at cs b.front b.back at d b.is b.place less in
    let rest = subst (AllByRecursion (λ (c : Cursor). NotBefore line c.head)) w.1 b.not_before in
    least-found l None 0 at b.front (get_or cs at d) w.0 tt (omega (arith, b.place))
    (all-map (λ (c : Cursor). Past line c.head) (λ (c : Cursor). Past l c.head) b.front (λ c p. past-alike line l c.head e p) b.past) is
    (all-map (λ (c : Cursor). NotBefore line c.head) (λ (c : Cursor). NotBefore l c.head) w.0 (λ c p. not_before-alike line l c.head e p) rest.1)
    ∙ ap (least_from None 0) (ap (λ (xs : List Cursor). b.front ++ xs) (sym w.1) ∙ sym b.is)

past-differs : (line : Line) (o : Option Line) → NotBefore line o → Differs line o → Past line o
past-differs line None f ne = tt
past-differs line (Some l) f ne = not_less-differs l.key.now line.key.now f (λ e. ne (sym e))

-- past a cursor at another key
pub beyond-more : (cs : List Cursor) (at : ℕ) (d : Cursor) (line : Line) → AreBeyond at line cs → at < length cs → Differs line (get_or cs at d).head → AreBeyond (at + 1) line cs
beyond-more cs at d line b less ne =
    let w = split-at cs b.front b.back at d b.is b.place less in
    let rest = subst (AllByRecursion (λ (c : Cursor). NotBefore line c.head)) w.1 b.not_before in
    record {
      front = b.front ++ get_or cs at d ∷ [];
      back = w.0;
      is = b.is ∙ ap (λ (xs : List Cursor). b.front ++ xs) w.1 ∙ sym (append_assoc b.front (get_or cs at d ∷ []) w.0);
      place = length_push b.front (get_or cs at d) ∙ ap (λ k. k + 1) b.place;
      past = all-append (λ (c : Cursor). Past line c.head) b.front (get_or cs at d ∷ []) b.past (past-differs line (get_or cs at d).head rest.0 ne, tt);
      not_before = rest.1;
    }
