-- The next line of an output, and what is held behind it.
use Rattle.std.proofs.Common.{◌≡◌, ℕ, ◌+◌, ◌^◌, ◌%◌, ◌++◌, List, [], ◌∷◌, length, refl, ap, sym, ◌∙◌, subst, inl, inr, arith, Bool, cond, Option, None, Some, map}
use Rattle.std.proofs.lemmas.List.{append_assoc, append_cancel_left, length-append, length-map, length-replicate}
use Rattle.std.proofs.lemmas.Bool.{cases_lt, lt-ltb, le-ltb}
use Rattle.std.specs.List.{AllByRecursion}
use Rattle.mr_bytes.specs.declared.Value.TheVariants.{One}
use Rattle.mr_jobs.specs.JobSpec.{JobSpec, group_text_of}
use Rattle.mr_jobs.specs.declared.job.GroupText.{GroupText}
use Rattle.mr_jobs.specs.declared.job.GroupText.TheVariants.{Count, Lines, Files as Listing}
use Rattle.mr_shards.specs.declared.cursor.Cursor.{Cursor}
use Rattle.mr_shards.specs.declared.cursor.Held.{Held}
use Rattle.mr_shards.specs.declared.line.Line.{Line}
use Rattle.mr_shards.specs.declared.merger.MergeFault.{MergeFault}
use Rattle.mr_shards.specs.declared.line.Tally.{Tally}
use Rattle.mr_shards.specs.declared.line.Tally.TheVariants.{Total, Place, Files}
use Rattle.mr_shards.specs.Cursors.{BlamesNext, HasFront, IsAtLine, IsSum, IsWholeHead, all_pairs, on, pairs_in, pairs_told, passed, passed_with, with_pairs}
use Rattle.mr_shards.specs.Lines.{groups_in}
use Rattle.mr_shards.specs.Merged.{Group, group_text, texts}
use Rattle.mr_shards.specs.Portions.{Shift, shifted_group, shifted_value}
use Rattle.mr_shards.specs.Refused.{AreInFiles, BlamesOnly, Follows, InTurn, IsLineOf, IsReadTo, IsRest, MayFollow, NoLineFollows, TellsFiles, last_key, lines_read, lines_with}
use Rattle.mr_shards.specs.Views.{BeginsWithLine, IsFor, IsTallyFor, group_of, values_of}
use Rattle.mr_bytes.specs.Cut.{Lacks}
use Rattle.mr_shards.proofs.LineLemmas.{there}
use Rattle.mr_shards.proofs.ReadingLemmas.{none-read}
use Rattle.mr_shards.proofs.RefusedLemmas.{front-read, front-text, none-begins, read-end, read-line, rest-before, weaker}

-- a cursor at a line, or at the end
abbrev pub cursor-at : Held → Option Line → List ℕ → List ℕ → Bool → Cursor
cursor-at h head text rest is_last = record {
  head = head;
  text = record { ref_ptr = (0, 0); now = text };
  rest = record { ref_ptr = (0, 0); now = rest };
  held = h;
  is_last = is_last;
}

pub both-none : (xs ys : List ℕ) → xs ≡ [] → ys ≡ [] → xs ++ ys ≡ []
both-none xs ys e f = λ i. e i ++ f i

pub some-bytes : (bytes rest text : List ℕ) → text ≡ bytes ++ 10 ∷ rest → text ≡ [] → ⊥
some-bytes bytes rest text e none = omega (arith, ap length e, length-append bytes (10 ∷ rest), ap length none)

-- a text that begins with no line of the job has none that follows
pub bad-line : (job : JobSpec) (last : Option (List ℕ)) (bytes rest text : List ℕ) → text ≡ bytes ++ 10 ∷ rest → (BeginsWithLine job (bytes ++ 10 ∷ rest) → ⊥) → NoLineFollows job last text
bad-line job last bytes rest text is none = none-begins job last text (λ b. none (subst (BeginsWithLine job) is b))

-- lines behind the first one
rest-behind : (job : JobSpec) (text rest : List ℕ) (g : Group) → (text ≡ [] → ⊥) → IsLineOf job g → text ≡ group_text job g ++ rest → IsRest job None text → IsRest job (Some g.key) rest
rest-behind job text rest g some line is r = by r.groups r.text_is r.lines r.in_turn
  where
    by : (gs : List Group) → text ≡ texts job gs → AllByRecursion (IsLineOf job) gs → InTurn job None gs → IsRest job (Some g.key) rest
    by [] e lines turn = absurd (some e)
    by (b ∷ bs) e lines turn =
        let whole : b ∷ groups_in job (texts job bs) ≡ g ∷ groups_in job rest =
        sym (front-read job b (texts job bs) lines.0) ∙ ap (groups_in job) (sym e ∙ is) ∙ front-read job g rest line in
        let same : b ≡ g = cc whole in
        let later : rest ≡ texts job bs =
        append_cancel_left (group_text job g) rest (texts job bs) (sym is ∙ e ∙ ap (λ (q : Group). group_text job q ++ texts job bs) same) in
        record { groups = bs; text_is = later; lines = lines.1; in_turn = subst (λ (q : Group). InTurn job (Some q.key) bs) same turn.1 }

module _ (job : JobSpec) (h : Held) (text rest bytes : List ℕ) (is_last : Bool) (line next : Line)
    (text_is : text ≡ bytes ++ 10 ∷ rest)
    (read : groups_in job text ≡ group_of line ∷ groups_in job rest)
    (of : IsLineOf job (group_of line)) (first : text ≡ group_text job (group_of line) ++ rest)
    (moved : group_of next ≡ shifted_group h.before (group_of line)) (kind : IsFor job next.tally) (front : HasFront next)
    (own : AreInFiles h.count (values_of line.tally)) where
  same-key : next.key.now ≡ line.key.now
  same-key = ap (λ (g : Group). g.key) moved

  follows-all : (last : Option (List ℕ)) → MayFollow job last line.key.now → Follows job last text
  follows-all last may g more l e =
      let whole : g ∷ groups_in job more ≡ group_of line ∷ groups_in job rest = sym (front-read job g more l) ∙ ap (groups_in job) (sym e) ∙ read in
      let same : g ≡ group_of line = cc whole in
      subst (MayFollow job last) (sym (ap (λ (q : Group). q.key) same)) may

  pub at-line : IsAtLine job h text (cursor-at h (Some next) text rest is_last)
  at-line = record {
    left_is = ap (λ (g : Group). g ∷ map (shifted_group h.before) (groups_in job rest)) moved ∙ sym (ap (map (shifted_group h.before)) read);
    kind = (kind, front);
    first = λ last f. subst (MayFollow job last) (sym same-key) (f (group_of line) rest of first);
    follows = λ last may. follows-all last (subst (MayFollow job last) same-key may);
    read = λ whole last r may.
        subst (λ (k : List ℕ). IsReadTo job whole (Some k) rest ((h.lines + 1) % 2 ^ 64)) (sym same-key)
        (read-line job whole last text h.lines line rest (some-bytes bytes rest text text_is) of first (subst (MayFollow job last) same-key may) r);
    stands = λ r files. (
      subst (λ (k : List ℕ). IsRest job (Some k) rest) (sym same-key) (rest-behind job text rest (group_of line) (some-bytes bytes rest text text_is) of first r),
      (subst (AllByRecursion (λ (g : Group). AreInFiles h.count g.values)) read files).1,
    );
    behind = λ last may r. (
      rest-before job last text line rest of first (subst (MayFollow job last) same-key may) (subst (λ (k : List ℕ). IsRest job (Some k) rest) same-key r.0),
      subst (AllByRecursion (λ (g : Group). AreInFiles h.count g.values)) (sym read) (own, r.1),
    );
  }

no-line : (job : JobSpec) (g : Group) (more : List ℕ) → IsLineOf job g → [] ≡ group_text job g ++ more → ⊥
no-line job g more l e =
    let none : [] ≡ g ∷ groups_in job more = sym (none-read (group_text_of job)) ∙ ap (groups_in job) e ∙ front-read job g more l in
    cc none

-- bytes without a line feed begin with no line
pub no-line-here : (job : JobSpec) (text : List ℕ) → Lacks 10 text → (g : Group) (more : List ℕ) → IsLineOf job g → text ≡ group_text job g ++ more → ⊥
no-line-here job text clear g more l e = there 10 text (g.key ++ 9 ∷ l.told) more (e ∙ front-text job g l more) clear

pub at-end : (job : JobSpec) (h : Held) (text rest : List ℕ) (is_last : Bool) → text ≡ [] → rest ≡ [] → IsAtLine job h text (cursor-at h None text rest is_last)
at-end job h text rest is_last none end =
    let empty : groups_in job text ≡ [] = ap (groups_in job) none ∙ none-read (group_text_of job) in
    let files : TellsFiles job h.count text = subst (AllByRecursion (λ (g : Group). AreInFiles h.count g.values)) (sym empty) tt in
    let rest_files : TellsFiles job h.count rest = subst (TellsFiles job h.count) (none ∙ sym end) files in
    record {
      left_is = sym (ap (map (shifted_group h.before)) empty);
      kind = end;
      first = λ last f. tt;
      follows = λ last may g more l e. absurd (no-line job g more l (sym none ∙ e));
      read = λ whole last r may. subst (λ (t : List ℕ). IsReadTo job whole None t h.lines) (none ∙ sym end) (read-end job whole last text h.lines none r);
      stands = λ r f. (record { groups = []; text_is = end; lines = tt; in_turn = tt }, rest_files);
      behind = λ last may r. (record { groups = []; text_is = none; lines = tt; in_turn = tt }, files);
    }

-- ---- pairs

pub pairs-cons : (job : JobSpec) (g : Group) (gs : List Group) → all_pairs job (g ∷ gs) ≡ pairs_in (group_text_of job) g + all_pairs job gs
unfolding all_pairs
pairs-cons job g gs = refl

one-moved : (form : GroupText) (s : Shift) (g : Group) → pairs_in form (shifted_group s g) ≡ pairs_in form g
one-moved Count s g = length-map g.values (shifted_value s)
one-moved Lines s g = length-map g.values (shifted_value s)
one-moved Listing s g = refl

pub pairs-moved : (job : JobSpec) (s : Shift) (gs : List Group) → all_pairs job (map (shifted_group s) gs) ≡ all_pairs job gs
unfolding all_pairs
pairs-moved job s [] = refl
pairs-moved job s (g ∷ gs) = λ i. one-moved (group_text_of job) s g i + pairs-moved job s gs i

-- what a line states is what its group has
pub told-pairs : (job : JobSpec) (l : Line) → IsFor job l.tally → pairs_told l.tally ≡ pairs_in (group_text_of job) (group_of l)
told-pairs job l kind = by (group_text_of job) l.tally kind
  where
    by : (form : GroupText) (t : Tally) → IsTallyFor form t → pairs_told t ≡ pairs_in form (record { key = l.key.now; values = values_of t })
    by Count (Total n) k = sym (length-replicate n One)
    by Lines (Place file offset) k = refl
    by Listing (Files list last moved) k = refl
    by form t k = absurd k

-- the pairs behind a line are those before it, with its own
pub sum-behind : (job : JobSpec) (o : Option ℕ) (n : ℕ) (g : Group) (gs all : List Group) → n ≡ pairs_in (group_text_of job) g → IsSum job o (g ∷ gs) all → IsSum job (with_pairs o n) gs all
sum-behind job None n g gs all e s = s
sum-behind job (Some m) n g gs all e s =
    let whole : m + (n + all_pairs job gs) ≡ all_pairs job all = ap (λ k. m + (k + all_pairs job gs)) e ∙ ap (λ k. m + k) (sym (pairs-cons job g gs)) ∙ s in
    elim (cases_lt (m + n) (2 ^ 64)) [
      | inl less ↦ subst (λ (b : Bool). IsSum job (cond b (Some (m + n)) None) gs all) (sym (lt-ltb (m + n) (2 ^ 64) less)) (omega (arith, whole))
      | inr more ↦ subst (λ (b : Bool). IsSum job (cond b (Some (m + n)) None) gs all) (sym (le-ltb (m + n) (2 ^ 64) more)) (omega (arith, whole, more))
    ]

-- moved groups state as many
pub sum-moved : (job : JobSpec) (o : Option ℕ) (s : Shift) (gs hs all : List Group) → gs ≡ map (shifted_group s) hs → IsSum job o gs all → IsSum job o hs all
sum-moved job None s gs hs all e h = h
sum-moved job (Some n) s gs hs all e h = ap (λ k. n + k) (sym (ap (all_pairs job) e ∙ pairs-moved job s hs)) ∙ h

pub sum-here : (job : JobSpec) (o : Option ℕ) (s : Shift) (gs hs all : List Group) → gs ≡ map (shifted_group s) hs → IsSum job o hs all → IsSum job o gs all
sum-here job None s gs hs all e h = h
sum-here job (Some n) s gs hs all e h = ap (λ k. n + k) (ap (all_pairs job) e ∙ pairs-moved job s hs) ∙ h

-- ---- behind the head

pub passed-before : (o : Option Line) (h : Held) → (passed_with o h).before ≡ h.before
passed-before None h = refl
passed-before (Some l) h = refl

pub passed-count : (o : Option Line) (h : Held) → (passed_with o h).count ≡ h.count
passed-count None h = refl
passed-count (Some l) h = refl

pub passed-lines : (o : Option Line) (h : Held) → (passed_with o h).lines ≡ lines_with o h.lines
passed-lines None h = refl
passed-lines (Some l) h = refl

pub blames-passed : (job : JobSpec) (at : ℕ) (c : Cursor) (h : Held) (more : List ℕ) (e : MergeFault) → h ≡ passed c
    → BlamesOnly job at h.count h.before None (c.rest.now ++ more) h.lines e → BlamesNext job at (on c more) e
blames-passed job at c h more e is b =
    let n = ap (λ (q : Held). q.count) is ∙ passed-count c.head c.held in
    let s = ap (λ (q : Held). q.before) is ∙ passed-before c.head c.held in
    let l = ap (λ (q : Held). q.lines) is ∙ passed-lines c.head c.held in
    weaker job at c.held.count c.held.before (last_key c.head) (c.rest.now ++ more) (lines_read c) e
    (subst (λ (k : ℕ). BlamesOnly job at c.held.count c.held.before None (c.rest.now ++ more) k e) l
    (subst (λ (q : Shift). BlamesOnly job at c.held.count q None (c.rest.now ++ more) h.lines e) s
    (subst (λ (k : ℕ). BlamesOnly job at k h.before None (c.rest.now ++ more) h.lines e) n b)))

-- the first line of a text is one
pub one-first : (job : JobSpec) (last : Option (List ℕ)) (text : List ℕ) (g : Group) (more : List ℕ) → IsLineOf job g → text ≡ group_text job g ++ more → MayFollow job last g.key
    → Follows job last text
one-first job last text g more l is may h rest k e =
    let whole : h ∷ groups_in job rest ≡ g ∷ groups_in job more = sym (front-read job h rest k) ∙ ap (groups_in job) (sym e ∙ is) ∙ front-read job g more l in
    let same : h ≡ g = cc whole in
    subst (MayFollow job last) (sym (ap (λ (q : Group). q.key) same)) may

-- what the line of a whole head goes on with
pub head-text : (job : JobSpec) (c : Cursor) (l : Line) (more : List ℕ) → (w : IsWholeHead job c l) → c.text.now ++ more ≡ w.line ++ 10 ∷ (c.rest.now ++ more)
head-text job c l more w = ap (λ (t : List ℕ). t ++ more) w.text_is ∙ append_assoc w.line (10 ∷ c.rest.now) more
