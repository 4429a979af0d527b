-- Cursors over windows, whatever comes behind these.
use Rattle.std.proofs.Common.{Bor, ◌≡◌, ℕ, zero, suc, ◌+◌, ◌<◌, ◌≤◌, ◌++◌, List, [], ◌∷◌, length, get_or, set, refl, ap, sym, ◌∙◌, subst, inl, inr, arith, Bool, true, false, Option, None, Some, map}
use Rattle.std.specs.Prelude.{IfSome, sum_by}
use Rattle.std.proofs.lemmas.List.Sums.{sum_by-cons}
use Rattle.std.proofs.lemmas.Bool.{cases_eq}
use Rattle.std.proofs.lemmas.List.{append_assoc, get_or-set_same, get_or-set_other, get_or_append_left, get_or_at, get_or-map, get_or_default, length-append, length-map, length-set, set_at}
use Rattle.std.specs.List.{AllByRecursion}
use Rattle.mr_bytes.specs.Cut.{Lacks}
use Rattle.mr_jobs.specs.JobSpec.{JobSpec}
use Rattle.mr_shards.specs.declared.cursor.Cursor.{Cursor}
use Rattle.mr_shards.specs.declared.cursor.Held.{Held}
use Rattle.mr_shards.specs.declared.line.Line.{Line}
use Rattle.mr_shards.specs.declared.merger.MergeFault.{MergeFault}
use Rattle.mr_shards.specs.declared.merger.ShardText.{ShardText}
use Rattle.mr_shards.specs.declared.merger.Window.{Window}
use Rattle.mr_shards.specs.Cursors.{AreBehind, BlamesNext, DoesNotFall, Goes, HeadFollows, IsAdvanced, IsAtLine, IsFronted, IsHeadFor, IsHeadOf, IsOpen, IsSum, IsWholeHead, MayGoOn, NotBefore, ReadsOn, headed, left, least_from, lesser, on, passed, passed_with, pairs_told}
use Rattle.mr_shards.specs.Lines.{NoneFalls, groups_in}
use Rattle.mr_shards.specs.Merged.{Group}
use Rattle.mr_shards.specs.Outputs.{Stands}
use Rattle.mr_shards.specs.Portions.{Shift, shifted_group}
use Rattle.mr_shards.specs.Refused.{AreRead, Blames, Follows, IsReadAt, IsReadOf, IsReadTo, IsRest, IsRestOf, TakesNot, TellsFiles, last_key, text_at}
use Rattle.mr_shards.specs.Rounds.{AreFurther, AreHeads, AreOpen, AreStanding, AreWindows, HasDry, HasDryHead, IsAfter, IsAt, IsFurther, IsGoing, IsReadUpTo, IsStanding, IsWindow, IsWithin, Reading, Standing, Told, behind, extended, no_held, output_with, outputs_of, rests}
use Rattle.mr_shards.specs.Views.{IsFor, WaitsFor, group_of}
use Rattle.mr_shards.proofs.HeadLemmas.{cursor-at, sum-here, sum-moved, passed-before, passed-count, passed-lines, sum-behind, told-pairs}
use Rattle.mr_shards.proofs.LoopLemmas.{goes-front, kept-step}
use Rattle.mr_shards.proofs.FrontLemmas.{all-at}
use Rattle.mr_shards.proofs.RefusedLemmas.{blames-left, blames-taken, read-step}
use Rattle.mr_shards.proofs.TotalLemmas.{too-large}
use Rattle.mr_shards.proofs.StepLemmas.{IsLeast, best-of, step-of}

-- ---- windows

pub windows-count : (rs : List Reading) (ws : List Window) → AreWindows rs ws → length rs ≡ length ws
windows-count [] [] v = refl
windows-count [] (w ∷ ws) v = absurd v
windows-count (r ∷ rs) [] v = absurd v
windows-count (r ∷ rs) (w ∷ ws) v = ap suc (windows-count rs ws v.1)

pub window-at : (rs : List Reading) (ws : List Window) (i : ℕ) (r : Reading) (w : Window) → AreWindows rs ws → i < length ws → IsWindow (get_or rs i r) (get_or ws i w)
window-at [] [] i r w v l = absurd (omega (arith, l))
window-at [] (x ∷ ws) i r w v l = absurd v
window-at (q ∷ rs) [] i r w v l = absurd v
window-at (q ∷ rs) (x ∷ ws) zero r w v l = v.0
window-at (q ∷ rs) (x ∷ ws) (suc i) r w v l = window-at rs ws i r w v.1 (omega (arith, l))

pub dry-at : (ws : List Window) (i : ℕ) (d : Window) → i < length ws → Lacks 10 (get_or ws i d).bytes.now → (get_or ws i d).is_last ≡ false → HasDry ws
dry-at [] i d l clear more = absurd (omega (arith, l))
dry-at (w ∷ ws) zero d l clear more = inl (clear, more)
dry-at (w ∷ ws) (suc i) d l clear more = inr (dry-at ws i d (omega (arith, l)) clear more)

-- what comes behind each window
pub mores : (rs : List Reading) (ws : List Window) → AreWindows rs ws → ℕ → List ℕ
mores [] [] v i = []
mores [] (w ∷ ws) v i = []
mores (r ∷ rs) [] v i = []
mores (r ∷ rs) (w ∷ ws) v zero = v.0.more
mores (r ∷ rs) (w ∷ ws) v (suc i) = mores rs ws v.1 i

-- a line that was read makes a cursor
pub open-here : (job : JobSpec) (held : Held) (text : Bor (List ℕ)) (is_last : Bool) (found : Option (Option Line × Bor (List ℕ))) (head : Option Line) (rest : Bor (List ℕ)) → found ≡ Some (head, rest)
    → IfSome found (λ r. IsOpen job held text.now is_last (record { head = r.0; text = text; rest = r.1; held = held; is_last = is_last }))
    → IsOpen job held text.now is_last (record { head = head; text = text; rest = rest; held = held; is_last = is_last })
open-here job held text is_last found head rest is =
    subst (λ (o : Option (Option Line × Bor (List ℕ))). IfSome o (λ r. IsOpen job held text.now is_last (record { head = r.0; text = text; rest = r.1; held = held; is_last = is_last }))) is

pub open-push : (job : JobSpec) (hs : List Held) (ws : List Window) (cs cs' : List Cursor) (n : ℕ) (one : Cursor) (x : Held) (y z : Window) → length cs ≡ n → n < length ws
    → cs' ≡ cs ++ one ∷ [] → IsOpen job (get_or hs n x) (get_or ws n y).bytes.now (get_or ws n z).is_last one
    → ((i : ℕ) (h : Held) (w : Window) (c : Cursor) → i < n → IsOpen job (get_or hs i h) (get_or ws i w).bytes.now (get_or ws i w).is_last (get_or cs i c))
    → (n < length hs)
    → (i : ℕ) (h : Held) (w : Window) (c : Cursor) → i < n + 1 → IsOpen job (get_or hs i h) (get_or ws i w).bytes.now (get_or ws i w).is_last (get_or cs' i c)
open-push job hs ws cs cs' n one x y z count less e here before many i h w c l =
    subst (λ (xs : List Cursor). IsOpen job (get_or hs i h) (get_or ws i w).bytes.now (get_or ws i w).is_last (get_or xs i c)) (sym e)
    (elim (cases_eq i n) [
      | inl same ↦
          (let was : IsOpen job (get_or hs n h) (get_or ws n w).bytes.now (get_or ws n w).is_last one =
          subst (λ (q : Held). IsOpen job q (get_or ws n w).bytes.now (get_or ws n w).is_last one) (get_or_default hs n x h many)
          (subst (λ (q : Window). IsOpen job (get_or hs n x) (get_or ws n w).bytes.now q.is_last one) (get_or_default ws n z w less)
          (subst (λ (q : Window). IsOpen job (get_or hs n x) q.bytes.now (get_or ws n z).is_last one) (get_or_default ws n y w less) here)) in
          subst (λ (q : Cursor). IsOpen job (get_or hs i h) (get_or ws i w).bytes.now (get_or ws i w).is_last q) (sym (get_or_at cs one [] c i (omega (arith, count, same))))
          (subst (λ (k : ℕ). IsOpen job (get_or hs k h) (get_or ws k w).bytes.now (get_or ws k w).is_last one) (sym same) was))
      | inr other ↦
          (let low : i < n = omega (arith, l, other) in
          subst (λ (q : Cursor). IsOpen job (get_or hs i h) (get_or ws i w).bytes.now (get_or ws i w).is_last q) (sym (get_or_append_left cs (one ∷ []) c i (omega (arith, low, count)))) (before i h w c low))
    ])

-- ---- cursors with what comes behind their windows

pub extended-length : (cs : List Cursor) (f : ℕ → List ℕ) → length (extended cs f) ≡ length cs
extended-length [] f = refl
extended-length (c ∷ cs) f = ap suc (extended-length cs (λ i. f (suc i)))

pub extended-at : (cs : List Cursor) (f : ℕ → List ℕ) (i : ℕ) (d e : Cursor) → i < length cs → get_or (extended cs f) i e ≡ on (get_or cs i d) (f i)
extended-at [] f i d e h = absurd (omega (arith, h))
extended-at (c ∷ cs) f zero d e h = refl
extended-at (c ∷ cs) f (suc i) d e h = extended-at cs (λ k. f (suc k)) i d e (omega (arith, h))

pub extended-set : (cs : List Cursor) (f : ℕ → List ℕ) (at : ℕ) (c : Cursor) → extended (set cs at c) f ≡ set (extended cs f) at (on c (f at))
extended-set [] f at c = refl
extended-set (b ∷ cs) f zero c = refl
extended-set (b ∷ cs) f (suc at) c = ap (λ (l : List Cursor). on b (f 0) ∷ l) (extended-set cs (λ i. f (suc i)) at c)

extended-least : (m : Option (ℕ × Line)) (n : ℕ) (cs : List Cursor) (f : ℕ → List ℕ) → least_from m n (extended cs f) ≡ least_from m n cs
unfolding least_from
extended-least m n [] f = refl
extended-least m n (c ∷ cs) f = extended-least (lesser m n c.head) (n + 1) cs (λ i. f (suc i))

pub least-extended : (cs : List Cursor) (f : ℕ → List ℕ) (at : ℕ) (line : Line) → Some (at, line) ≡ least_from None 0 cs → IsLeast (extended cs f) at line
least-extended cs f at line e = best-of (extended cs f) (Some (at, line)) (e ∙ sym (extended-least None 0 cs f))

-- ---- a line is taken

order-of : (job : JobSpec) (o next : Option Line) → HeadFollows job (last_key o) next → IfSome next (λ l. DoesNotFall o l)
order-of job o None h = tt
order-of job None (Some l) h = tt
order-of job (Some last) (Some l) h = h.0

module _ (job : JobSpec) (one next : Cursor) (a : IsAdvanced job one next) (more : List ℕ) (may : MayGoOn one.is_last more) where
  at-next : IsAtLine job (passed one) (one.rest.now ++ more) (on next more)
  at-next = a.opened.at more may

  held-before : next.held.before ≡ one.held.before
  held-before = ap (λ (h : Held). h.before) a.opened.held ∙ passed-before one.head one.held

  held-count : next.held.count ≡ one.held.count
  held-count = ap (λ (h : Held). h.count) a.opened.held ∙ passed-count one.head one.held

  read-past : (text : List ℕ) → IsReadOf job text (on one more) → IsReadTo job text (last_key one.head) (one.rest.now ++ more) (passed one).lines
  read-past text r = subst (IsReadTo job text (last_key one.head) (one.rest.now ++ more)) (sym (passed-lines one.head one.held)) r

  left-past : left job (on next more) ≡ map (shifted_group one.held.before) (groups_in job (one.rest.now ++ more))
  left-past = at-next.left_is ∙ ap (λ (s : Shift). map (shifted_group s) (groups_in job (one.rest.now ++ more))) (passed-before one.head one.held)

  rest-past : IsRestOf job (on next more) → IsRestOf job (on one more)
  rest-past r =
      let b = at-next.behind (last_key one.head) a.turn r in
      (b.0, subst (λ (n : ℕ). TellsFiles job n (one.rest.now ++ more)) (passed-count one.head one.held) b.1)

  same-text : one.rest.now ++ more ≡ next.text.now ++ more
  same-text = ap (λ (t : List ℕ). t ++ more) (sym a.opened.text_is)

  pairs-past : (line : Line) (all : List Group) → one.head ≡ Some line → IsFor job line.tally → IsSum job one.held.pairs (left job (on one more)) all
      → IsSum job next.held.pairs (left job (on next more)) all
  pairs-past line all head kind sum =
      let rest : List Group = map (shifted_group one.held.before) (groups_in job (one.rest.now ++ more)) in
      let was : IsSum job one.held.pairs (group_of line ∷ rest) all =
      subst (λ (o : Option Line). IsSum job one.held.pairs (headed o rest) all) head sum in
      let here = sum-behind job one.held.pairs (pairs_told line.tally) (group_of line) rest all (told-pairs job line kind) was in
      let held : next.held.pairs ≡ (passed_with (Some line) one.held).pairs = ap (λ (h : Held). h.pairs) a.opened.held ∙ ap (λ (o : Option Line). (passed_with o one.held).pairs) head in
      subst (λ (gs : List Group). IsSum job next.held.pairs gs all) (sym left-past) (subst (λ (o : Option ℕ). IsSum job o rest all) (sym held) here)

  pub at-advanced : (text : List ℕ) (line : Line) → one.head ≡ Some line → IsFor job line.tally → IsReadOf job text (on one more)
      → IsSum job one.held.pairs (left job (on one more)) (groups_in job text) → IsAt job text (on next more)
  at-advanced text line head kind r sum = record {
    last = last_key one.head;
    read = subst (λ (t : List ℕ). IsReadTo job text (last_key one.head) t next.held.lines) same-text
        (subst (λ (h : Held). IsReadTo job text (last_key one.head) (one.rest.now ++ more) h.lines) (sym a.opened.held) (read-past text r));
    follows = subst (Follows job (last_key one.head)) same-text (at-next.follows (last_key one.head) a.turn);
    left_is = left-past ∙ (λ i. map (shifted_group (sym held-before i)) (groups_in job (same-text i)));
    stands = λ rest files. at-next.stands (subst (IsRest job None) (sym same-text) rest)
        (subst (λ (n : ℕ). TellsFiles job n (one.rest.now ++ more)) (held-count ∙ sym (passed-count one.head one.held)) (subst (TellsFiles job next.held.count) (sym same-text) files));
    pairs = pairs-past line (groups_in job text) head kind sum;
  }

-- all cursors read on, whatever comes behind their windows
pub reads-on : (job : JobSpec) (at : ℕ) (cs : List Cursor) (d next : Cursor) (f : ℕ → List ℕ) → at < length cs → IsAdvanced job (get_or cs at d) next → MayGoOn (get_or cs at d).is_last (f at)
    → ReadsOn job at (extended cs f) (extended (set cs at next) f)
reads-on job at cs d next f l a may =
    let one : Cursor = get_or cs at d in
    record {
      one = on one (f at);
      next = on next (f at);
      was = extended-at cs f at d (on one (f at)) l;
      set = extended-set cs f at next;
      left = left-past job one next a (f at) may;
      kind = (at-next job one next a (f at) may).kind;
      order = order-of job one.head next.head a.turn;
      behind = rest-past job one next a (f at) may;
      read = λ text r. (at-next job one next a (f at) may).read text (last_key one.head) (read-past job one next a (f at) may text r) a.turn;
      files = (held-before job one next a (f at) may, held-count job one next a (f at) may);
    }

read-extended : (job : JobSpec) (os : List ShardText) (cs : List Cursor) (f : ℕ → List ℕ) (i : ℕ) (d : Cursor) → i < length cs → AreRead job (extended cs f) os → IsReadAt job os i (on (get_or cs i d) (f i))
read-extended job os cs f i d l read =
    subst (IsReadAt job os i) (extended-at cs f i d d l) (read i d (omega (arith, l, extended-length cs f)))

pub going-step : (job : JobSpec) (os : List ShardText) (f : ℕ → List ℕ) (cs : List Cursor) (at : ℕ) (d next : Cursor) (line : Line) (waiting : Option Group) (w : Group) (text out out' : List ℕ)
    → at < length cs → Some (at, line) ≡ least_from None 0 cs → (get_or cs at d).head ≡ Some line → IsFor job line.tally → IsAdvanced job (get_or cs at d) next
    → Goes job waiting (group_of line) w out out' → IsGoing job os f cs waiting (text ++ out) → IsGoing job os f (set cs at next) (Some w) (text ++ out')
going-step job os f cs at d next line waiting w text out out' l least head kind a goes g =
    let may : MayGoOn (get_or cs at d).is_last (f at) = (g.at at d l).1 in
    let r = reads-on job at cs d next f l a may in
    let step = step-of job at (extended cs f) (extended (set cs at next) f) line (least-extended cs f at line least) r in
    record {
      kept = kept-step job os (extended cs f) (extended (set cs at next) f) waiting line w (text ++ out) (text ++ out') step
          (read-step job os at (extended cs f) (extended (set cs at next) f) (omega (arith, l, extended-length cs f)) r g.kept.read) (goes-front job waiting (group_of line) w text out out' goes) g.kept;
      at = λ i e m.
          elim (cases_eq i at) [
            | inl same ↦
                (let now : get_or (set cs at next) at e ≡ next = get_or-set_same cs at next e l in
                subst (λ (k : ℕ). IsAt job (text_at os k) (on (get_or (set cs at next) k e) (f k)) × MayGoOn (get_or (set cs at next) k e).is_last (f k)) (sym same)
                (subst (λ (c : Cursor). IsAt job (text_at os at) (on c (f at)) × MayGoOn c.is_last (f at)) (sym now) (
                  at-advanced job (get_or cs at d) next a (f at) may (text_at os at) line head kind (read-extended job os cs f at d l g.kept.read).0 (g.at at d l).0.pairs,
                  subst (λ (b : Bool). MayGoOn b (f at)) (sym a.opened.last) may,
                )))
            | inr other ↦
                (let low : i < length cs = omega (arith, m, length-set cs at next) in
                subst (λ (c : Cursor). IsAt job (text_at os i) (on c (f i)) × MayGoOn c.is_last (f i)) (sym (get_or-set_other cs at i next e other)) (g.at i e low))
          ];
    }

-- ---- readings and cursors

-- each cursor is at the bytes that were not taken
abbrev pub AreTexts : List Reading → List Cursor → (ℕ → List ℕ) → Type 0
AreTexts [] [] f = Unit {0}
AreTexts [] (c ∷ cs) f = ⊥
AreTexts (r ∷ rs) [] f = ⊥
AreTexts (r ∷ rs) (c ∷ cs) f = (r.taken ≤ length r.output.text.now) × (behind r ≡ c.text.now ++ f 0) × AreTexts rs cs (λ i. f (suc i))

pub texts-count : (rs : List Reading) (cs : List Cursor) (f : ℕ → List ℕ) → AreTexts rs cs f → length rs ≡ length cs
texts-count [] [] f t = refl
texts-count [] (c ∷ cs) f t = absurd t
texts-count (r ∷ rs) [] f t = absurd t
texts-count (r ∷ rs) (c ∷ cs) f t = ap suc (texts-count rs cs (λ i. f (suc i)) t.2)

pub text-of : (rs : List Reading) (cs : List Cursor) (f : ℕ → List ℕ) (i : ℕ) (r : Reading) (c : Cursor) → AreTexts rs cs f → i < length cs
    → ((get_or rs i r).taken ≤ length (get_or rs i r).output.text.now) × (behind (get_or rs i r) ≡ (get_or cs i c).text.now ++ f i)
text-of [] [] f i r c t l = absurd (omega (arith, l))
text-of [] (d ∷ cs) f i r c t l = absurd t
text-of (q ∷ rs) [] f i r c t l = absurd t
text-of (q ∷ rs) (d ∷ cs) f zero r c t l = (t.0, t.1)
text-of (q ∷ rs) (d ∷ cs) f (suc i) r c t l = text-of rs cs (λ k. f (suc k)) i r c t.2 (omega (arith, l))

abbrev pub helds : List Cursor → List Held
helds cs = map (λ (c : Cursor). c.held) cs

-- what is left of each is what was not taken
abbrev AreLeft : JobSpec → List Cursor → (ℕ → List ℕ) → Type 0
AreLeft job cs f = (i : ℕ) (d : Cursor) → i < length cs
    → left job (on (get_or cs i d) (f i)) ≡ map (shifted_group (get_or cs i d).held.before) (groups_in job ((get_or cs i d).text.now ++ f i))

pub lefts-rests : (job : JobSpec) (rs : List Reading) (cs : List Cursor) (f : ℕ → List ℕ) → AreTexts rs cs f → AreLeft job cs f → map (left job) (extended cs f) ≡ rests job (helds cs) rs
lefts-rests job [] [] f t a = refl
lefts-rests job [] (c ∷ cs) f t a = absurd t
lefts-rests job (r ∷ rs) [] f t a = absurd t
lefts-rests job (r ∷ rs) (c ∷ cs) f t a =
    let here : left job (on c (f 0)) ≡ map (shifted_group c.held.before) (groups_in job (behind r)) =
    a 0 c (omega arith) ∙ ap (λ (x : List ℕ). map (shifted_group c.held.before) (groups_in job x)) (sym t.1) in
    λ i. here i ∷ lefts-rests job rs cs (λ k. f (suc k)) t.2 (λ k d l. a (suc k) d (omega (arith, l))) i

held-at : (cs : List Cursor) (i : ℕ) (h : Held) (d : Cursor) → i < length cs → get_or (helds cs) i h ≡ (get_or cs i d).held
held-at cs i h d l = get_or-map (λ (c : Cursor). c.held) cs i d h l

stands-rests : (job : JobSpec) (rs : List Reading) (cs : List Cursor) (f : ℕ → List ℕ) → AreTexts rs cs f → AreLeft job cs f
    → ((i : ℕ) (d : Cursor) → i < length cs → IsRest job None ((get_or cs i d).text.now ++ f i) → TellsFiles job (get_or cs i d).held.count ((get_or cs i d).text.now ++ f i) → IsRestOf job (on (get_or cs i d) (f i)))
    → AreStanding job (helds cs) rs → AllByRecursion (Stands job) (extended cs f)
stands-rests job [] [] f t a stands all = tt
stands-rests job [] (c ∷ cs) f t a stands all = absurd t
stands-rests job (r ∷ rs) [] f t a stands all = absurd t
stands-rests job (r ∷ rs) (c ∷ cs) f t a stands all =
    let s : IsStanding job c.held (c.text.now ++ f 0) = subst (IsStanding job c.held) t.1 all.0 in (
      record {
        rest = stands 0 c (omega arith) s.rest s.files;
        in_order = subst NoneFalls (sym (a 0 c (omega arith))) s.in_order;
      },
      stands-rests job rs cs (λ k. f (suc k)) t.2 (λ k d l. a (suc k) d (omega (arith, l))) (λ k d l. stands (suc k) d (omega (arith, l))) all.1,
    )

-- ---- a merge between rounds

pub after-going : (job : JobSpec) (rs : List Reading) (cs : List Cursor) (f : ℕ → List ℕ) (text : List ℕ) (m : Standing) (w : Option Group) → AreTexts rs cs f → m.held ≡ helds cs → WaitsFor job m.waiting w
    → IsGoing job (outputs_of rs) f cs w text → IsAfter job rs text m
after-going job rs cs f text m w t held waits g =
    let lefts : AreLeft job cs f = λ i d l. (g.at i d l).0.left_is in
    let same : map (left job) (extended cs f) ≡ rests job m.held rs = lefts-rests job rs cs f t lefts ∙ ap (λ (hs : List Held). rests job hs rs) (sym held) in
    record {
      count = ap length held ∙ length-map cs (λ (c : Cursor). c.held) ∙ sym (texts-count rs cs f t);
      read = λ i h r l.
          (let low : i < length cs = omega (arith, l, texts-count rs cs f t) in
          let d : Cursor = cursor-at h None [] [] true in
          let x = g.at i d low in
          let y = text-of rs cs f i r d t low in
          let here : get_or m.held i h ≡ (get_or cs i d).held = ap (λ (hs : List Held). get_or hs i h) held ∙ held-at cs i h d low in
          let k = read-extended job (outputs_of rs) cs f i d low g.kept.read in
          subst (λ (q : Held). IsReadUpTo job (outputs_of rs) i q (get_or rs i r)) (sym here) (record {
            within = y.0;
            last = x.0.last;
            read = subst (λ (u : List ℕ). IsReadTo job (text_at (outputs_of rs) i) x.0.last u (get_or cs i d).held.lines) (sym y.1) x.0.read;
            follows = subst (Follows job x.0.last) (sym y.1) x.0.follows;
            before = k.1;
            count = k.2;
            pairs = subst (λ (u : List ℕ). IsSum job (get_or cs i d).held.pairs (groups_in job u) (groups_in job (text_at (outputs_of rs) i))) (sym y.1)
                (sum-moved job (get_or cs i d).held.pairs (get_or cs i d).held.before (left job (on (get_or cs i d) (f i))) (groups_in job ((get_or cs i d).text.now ++ f i)) (groups_in job (text_at (outputs_of rs) i))
                x.0.left_is x.0.pairs);
          }));
      waiting = w;
      waits = waits;
      few = subst (λ (gss : List (List Group)). IsWithin job (outputs_of rs) gss w) same g.kept.few;
      told = λ s. subst (λ (gss : List (List Group)). Told job (outputs_of rs) gss w text) same
          (g.kept.told (stands-rests job rs cs f t lefts (λ i d l. (g.at i d l).0.stands) (subst (λ (hs : List Held). AreStanding job hs rs) held s)));
    }

-- ---- a round begins

abbrev pub no_reading : Reading
no_reading = record { output = output_with (record { count = 0; cut = None }) []; taken = 0 }

mores-at : (rs : List Reading) (ws : List Window) (v : AreWindows rs ws) (i : ℕ) (r : Reading) (w : Window) → i < length ws
    → (behind (get_or rs i r) ≡ (get_or ws i w).bytes.now ++ mores rs ws v i) × MayGoOn (get_or ws i w).is_last (mores rs ws v i)
unfolding mores
mores-at [] [] v i r w l = absurd (omega (arith, l))
mores-at [] (x ∷ ws) v i r w l = absurd v
mores-at (q ∷ rs) [] v i r w l = absurd v
mores-at (q ∷ rs) (x ∷ ws) v zero r w l = (v.0.is, v.0.none_more)
mores-at (q ∷ rs) (x ∷ ws) v (suc i) r w l = mores-at rs ws v.1 i r w (omega (arith, l))

-- each cursor has the bytes of its window
abbrev AreBytesOf : List Window → List Cursor → Type 0
AreBytesOf ws cs = (i : ℕ) (w : Window) (c : Cursor) → i < length cs → ((get_or cs i c).text.now ≡ (get_or ws i w).bytes.now) × ((get_or cs i c).is_last ≡ (get_or ws i w).is_last)

opened-texts : (rs : List Reading) (ws : List Window) (cs : List Cursor) (v : AreWindows rs ws) → length cs ≡ length ws → AreBytesOf ws cs
    → ((i : ℕ) (r : Reading) → i < length rs → (get_or rs i r).taken ≤ length (get_or rs i r).output.text.now) → AreTexts rs cs (mores rs ws v)
unfolding mores
opened-texts [] [] [] v count same within = tt
opened-texts [] [] (c ∷ cs) v count same within = absurd (omega (arith, count))
opened-texts [] (w ∷ ws) cs v count same within = absurd v
opened-texts (r ∷ rs) [] cs v count same within = absurd v
opened-texts (r ∷ rs) (w ∷ ws) [] v count same within = absurd (omega (arith, count))
opened-texts (r ∷ rs) (w ∷ ws) (c ∷ cs) v count same within = (
  within 0 r (omega arith),
  v.0.is ∙ ap (λ (t : List ℕ). t ++ v.0.more) (sym (same 0 w c (omega arith)).0),
  opened-texts rs ws cs v.1 (omega (arith, count)) (λ i x d l. same (suc i) x d (omega (arith, l))) (λ i q l. within (suc i) q (omega (arith, l))),
)

helds-are : (cs : List Cursor) (hs : List Held) → length cs ≡ length hs → ((i : ℕ) (c : Cursor) (h : Held) → i < length cs → (get_or cs i c).held ≡ get_or hs i h) → helds cs ≡ hs
helds-are [] [] e same = refl
helds-are [] (h ∷ hs) e same = absurd (omega (arith, e))
helds-are (c ∷ cs) [] e same = absurd (omega (arith, e))
helds-are (c ∷ cs) (h ∷ hs) e same = λ i. same 0 c h (omega arith) i ∷ helds-are cs hs (omega (arith, e)) (λ k d x l. same (suc k) d x (omega (arith, l))) i

-- each is at its first line
abbrev AreLines : JobSpec → List Cursor → (ℕ → List ℕ) → Type 0
AreLines job cs f = (i : ℕ) (d : Cursor) → i < length cs → IsAtLine job (get_or cs i d).held ((get_or cs i d).text.now ++ f i) (on (get_or cs i d) (f i))

open-line : (job : JobSpec) (h : Held) (text more : List ℕ) (is_last : Bool) (c : Cursor) → IsOpen job h text is_last c → MayGoOn is_last more → IsAtLine job c.held (c.text.now ++ more) (on c more)
open-line job h text more is_last c o may =
    subst (λ (t : List ℕ). IsAtLine job c.held (t ++ more) (on c more)) (sym o.text_is)
    (subst (λ (q : Held). IsAtLine job q (text ++ more) (on c more)) (sym o.held) (o.at more may))

kinds-all : (job : JobSpec) (cs : List Cursor) (f : ℕ → List ℕ) → AreLines job cs f → AllByRecursion (IsHeadFor job) (extended cs f)
kinds-all job [] f a = tt
kinds-all job (c ∷ cs) f a = ((a 0 c (omega arith)).kind, kinds-all job cs (λ i. f (suc i)) (λ i d l. a (suc i) d (omega (arith, l))))

follows-none : (job : JobSpec) (o : Option Line) → HeadFollows job None o
follows-none job None = tt
follows-none job (Some l) = tt

rests-stand : (job : JobSpec) (rs : List Reading) (cs : List Cursor) (f : ℕ → List ℕ) → AreTexts rs cs f → AreLines job cs f → AllByRecursion (Stands job) (extended cs f) → AreStanding job (helds cs) rs
rests-stand job [] [] f t a all = tt
rests-stand job [] (c ∷ cs) f t a all = absurd t
rests-stand job (r ∷ rs) [] f t a all = absurd t
rests-stand job (r ∷ rs) (c ∷ cs) f t a all =
    let x = a 0 c (omega arith) in
    let b = x.behind None (follows-none job c.head) all.0.rest in (
      subst (IsStanding job c.held) (sym t.1) (record { rest = b.0; files = b.1; in_order = subst NoneFalls x.left_is all.0.in_order }),
      rests-stand job rs cs (λ i. f (suc i)) t.2 (λ i d l. a (suc i) d (omega (arith, l))) all.1,
    )

pub going-opened : (job : JobSpec) (rs : List Reading) (ws : List Window) (cs : List Cursor) (text : List ℕ) (m : Standing) (v : AreWindows rs ws) → AreOpen job m.held ws cs → length m.held ≡ length ws
    → (a : IsAfter job rs text m) → IsGoing job (outputs_of rs) (mores rs ws v) cs a.waiting text × AreTexts rs cs (mores rs ws v)
going-opened job rs ws cs text m v all count a =
    let f : ℕ → List ℕ = mores rs ws v in
    let os : List ShardText = outputs_of rs in
    let many : length rs ≡ length ws = windows-count rs ws v in
    let h0 : Held = no_held in
    let w0 : Window = record { bytes = record { ref_ptr = (0, 0); now = [] }; is_last = true } in
    let same : AreBytesOf ws cs = λ i w c l. ((all.1 i h0 w c l).text_is, (all.1 i h0 w c l).last) in
    let texts : AreTexts rs cs f = opened-texts rs ws cs v all.0 same (λ i r l. (a.read i h0 r l).within) in
    let may : (i : ℕ) (d : Cursor) → i < length cs → MayGoOn (get_or cs i d).is_last (f i) =
    λ i d l. subst (λ (b : Bool). MayGoOn b (f i)) (sym (same i w0 d l).1) (mores-at rs ws v i no_reading w0 (omega (arith, l, all.0))).1 in
    let lines : AreLines job cs f =
    λ i d l. open-line job (get_or m.held i h0) (get_or ws i w0).bytes.now (f i) (get_or ws i w0).is_last (get_or cs i d) (all.1 i h0 w0 d l)
    (mores-at rs ws v i no_reading w0 (omega (arith, l, all.0))).1 in
    let held : helds cs ≡ m.held = helds-are cs m.held (omega (arith, all.0, count)) (λ i c h l. (all.1 i h w0 c l).held) in
    let lefts : AreLeft job cs f = λ i d l. (lines i d l).left_is in
    let gone : rests job m.held rs ≡ map (left job) (extended cs f) = ap (λ (hs : List Held). rests job hs rs) (sym held) ∙ sym (lefts-rests job rs cs f texts lefts) in
    let up : (i : ℕ) (d : Cursor) → i < length cs → IsReadUpTo job os i (get_or cs i d).held (get_or rs i no_reading) =
    λ i d l. subst (λ (h : Held). IsReadUpTo job os i h (get_or rs i no_reading)) (sym (all.1 i h0 w0 d l).held) (a.read i h0 no_reading (omega (arith, l, all.0, many))) in
    let is : (i : ℕ) (d : Cursor) → i < length cs → behind (get_or rs i no_reading) ≡ (get_or cs i d).text.now ++ f i = λ i d l. (text-of rs cs f i no_reading d texts l).1 in
    let follow : (i : ℕ) (d : Cursor) (l : i < length cs) → Follows job (up i d l).last ((get_or cs i d).text.now ++ f i) = λ i d l. subst (Follows job (up i d l).last) (is i d l) (up i d l).follows in
    let read : (i : ℕ) (d : Cursor) (l : i < length cs) → IsReadTo job (text_at os i) (up i d l).last ((get_or cs i d).text.now ++ f i) (get_or cs i d).held.lines =
    λ i d l. subst (λ (t : List ℕ). IsReadTo job (text_at os i) (up i d l).last t (get_or cs i d).held.lines) (is i d l) (up i d l).read in (
      record {
        kept = record {
          kinds = kinds-all job cs f lines;
          read = λ i d l.
              (let low : i < length cs = omega (arith, l, extended-length cs f) in
              subst (IsReadAt job os i) (sym (extended-at cs f i d d low)) (
                (lines i d low).read (text_at os i) (up i d low).last (read i d low) ((lines i d low).first (up i d low).last (follow i d low)),
                (up i d low).before,
                (up i d low).count,
              ));
          few = subst (λ (gss : List (List Group)). IsWithin job os gss a.waiting) gone a.few;
          told = λ s. subst (λ (gss : List (List Group)). Told job os gss a.waiting text) gone
              (a.told (subst (λ (hs : List Held). AreStanding job hs rs) held (rests-stand job rs cs f texts lines s)));
        };
        at = λ i d l. (
          record {
            last = (up i d l).last;
            read = read i d l;
            follows = follow i d l;
            left_is = lefts i d l;
            stands = (lines i d l).stands;
            pairs = sum-here job (get_or cs i d).held.pairs (get_or cs i d).held.before (left job (on (get_or cs i d) (f i))) (groups_in job ((get_or cs i d).text.now ++ f i)) (groups_in job (text_at os i))
                (lefts i d l) (subst (λ (t : List ℕ). IsSum job (get_or cs i d).held.pairs (groups_in job t) (groups_in job (text_at os i))) (is i d l) (up i d l).pairs);
          },
          may i d l,
        );
      },
      texts,
    )

-- ---- cursors line by line

pub further-all : (cs : List Cursor) → AreFurther cs cs
further-all [] = tt
further-all (c ∷ cs) = (record { passed = []; is = refl; last = refl }, further-all cs)

pub further-set : (cs ds : List Cursor) (at : ℕ) (d next : Cursor) → AreFurther cs ds → at < length ds → IsFurther (get_or ds at d) next → AreFurther cs (set ds at next)
further-set [] [] at d next f l h = absurd (omega (arith, l))
further-set [] (x ∷ ds) at d next f l h = absurd f
further-set (c ∷ cs) [] at d next f l h = absurd f
further-set (c ∷ cs) (x ∷ ds) zero d next f l h = (
  record { passed = f.0.passed ++ h.passed; is = f.0.is ∙ ap (λ (t : List ℕ). f.0.passed ++ t) h.is ∙ sym (append_assoc f.0.passed h.passed next.text.now); last = h.last ∙ f.0.last },
  f.1,
)
further-set (c ∷ cs) (x ∷ ds) (suc at) d next f l h = (f.0, further-set cs ds at d next f.1 (omega (arith, l)) h)

pub all-set : {X : Type 0} (P : X → Type 0) (xs : List X) (at : ℕ) (x : X) → AllByRecursion P xs → P x → AllByRecursion P (set xs at x)
all-set P [] at x all h = tt
all-set P (y ∷ xs) zero x all h = (h, all.1)
all-set P (y ∷ xs) (suc at) x all h = (all.0, all-set P xs at x all.1 h)

head-fronted : (job : JobSpec) (c : Cursor) (o : Option Line) → IsHeadOf job c o → IsFronted o
head-fronted job c None h = tt
head-fronted job c (Some l) h = h.front

pub heads-fronted : (job : JobSpec) (cs : List Cursor) → AreHeads job cs → AllByRecursion (λ c. IsFronted c.head) cs
heads-fronted job [] h = tt
heads-fronted job (c ∷ cs) h = (head-fronted job c c.head h.0, heads-fronted job cs h.1)

pub head-is : (cs : List Cursor) (at : ℕ) (d : Cursor) (line : Line) → IsLeast cs at line → (get_or cs at d).head ≡ Some line
head-is cs at d line b = ap (λ (c : Cursor). c.head) (ap (λ (xs : List Cursor). get_or xs at d) b.is ∙ get_or_at b.front b.one b.back d at b.place) ∙ b.head

-- the line of the least cursor
pub whole-head : (job : JobSpec) (cs : List Cursor) (at : ℕ) (d : Cursor) (line : Line) → IsLeast cs at line → at < length cs → AreHeads job cs → IsWholeHead job (get_or cs at d) line
whole-head job cs at d line b l h = subst (IsHeadOf job (get_or cs at d)) (head-is cs at d line b) (all-at (λ (c : Cursor). IsHeadOf job c c.head) cs at d h l)

pub dry-head : (job : JobSpec) (cs : List Cursor) (at : ℕ) (d : Cursor) (line : Line) → at < length cs → IsWholeHead job (get_or cs at d) line → Lacks 10 (get_or cs at d).rest.now
    → (get_or cs at d).is_last ≡ false → HasDryHead cs
dry-head job [] at d line l w clear more = absurd (omega (arith, l))
dry-head job (c ∷ cs) zero d line l w clear more = inl (record { line = w.line; rest = c.rest.now; is = w.text_is; clear = w.clear; no_more = clear }, more)
dry-head job (c ∷ cs) (suc at) d line l w clear more = inr (dry-head job cs at d line (omega (arith, l)) w clear more)

-- the next line is further on
pub further-next : (job : JobSpec) (one next : Cursor) (line : Line) → IsWholeHead job one line → IsAdvanced job one next → IsFurther one next
further-next job one next line w a = record {
  passed = w.line ++ 10 ∷ [];
  is = w.text_is ∙ sym (append_assoc w.line (10 ∷ []) one.rest.now) ∙ ap (λ (t : List ℕ). (w.line ++ 10 ∷ []) ++ t) (sym a.opened.text_is);
  last = a.opened.last;
}

pub set-smaller : (cs : List Cursor) (at : ℕ) (d next : Cursor) → at < length cs → length next.text.now < length (get_or cs at d).text.now
    → sum_by (λ (c : Cursor). length c.text.now) (set cs at next) < sum_by (λ (c : Cursor). length c.text.now) cs
set-smaller [] at d next l h = absurd (omega (arith, l))
set-smaller (c ∷ cs) zero d next l h =
    omega (arith, h, sum_by-cons (λ (q : Cursor). length q.text.now) next cs, sum_by-cons (λ (q : Cursor). length q.text.now) c cs)
set-smaller (c ∷ cs) (suc at) d next l h =
    omega (arith, set-smaller cs at d next (omega (arith, l)) h, sum_by-cons (λ (q : Cursor). length q.text.now) c (set cs at next), sum_by-cons (λ (q : Cursor). length q.text.now) c cs)

pub next-smaller : (job : JobSpec) (one next : Cursor) (line : Line) → IsWholeHead job one line → IsAdvanced job one next → length next.text.now < length one.text.now
next-smaller job one next line w a =
    omega (arith, ap length a.opened.text_is, ap length w.text_is, length-append w.line (10 ∷ one.rest.now))

pub going-blames : (job : JobSpec) (os : List ShardText) (f : ℕ → List ℕ) (cs : List Cursor) (at : ℕ) (d : Cursor) (waiting : Option Group) (text : List ℕ) (e : MergeFault) → at < length cs
    → IsGoing job os f cs waiting text → ((more : List ℕ) → MayGoOn (get_or cs at d).is_last more → BlamesNext job at (on (get_or cs at d) more) e) → Blames job os e
going-blames job os f cs at d waiting text e l g blames =
    blames-left job at (extended cs f) os (on (get_or cs at d) (f at)) e (omega (arith, l, extended-length cs f)) (extended-at cs f at d (on (get_or cs at d) (f at)) l) g.kept.read
    (blames (f at) (g.at at d l).1)

pub going-large : (job : JobSpec) (os : List ShardText) (f : ℕ → List ℕ) (cs : List Cursor) (at : ℕ) (d next : Cursor) (line : Line) (waiting : Option Group) (text : List ℕ) (e : MergeFault)
    → at < length cs → Some (at, line) ≡ least_from None 0 cs → IsAdvanced job (get_or cs at d) next → IsGoing job os f cs waiting text → TakesNot waiting (group_of line) e → Blames job os e
going-large job os f cs at d next line waiting text e l least a g t =
    let r = reads-on job at cs d next f l a (g.at at d l).1 in
    let step = step-of job at (extended cs f) (extended (set cs at next) f) line (least-extended cs f at line least) r in
    blames-taken job os waiting (group_of line) e t (too-large job os (extended cs f) (extended (set cs at next) f) waiting line step g.kept.few)

pub behind-next : (job : JobSpec) (at : ℕ) (cs : List Cursor) (d next : Cursor) (line : Line) → IsLeast cs at line → at < length cs → AreHeads job cs → IsAdvanced job (get_or cs at d) next
    → AreBehind (Some (at, line)) (set cs at next)
behind-next job at cs d next line b l heads a =
    let w = whole-head job cs at d line b l heads in (
      w.front,
      record {
        front = b.front;
        back = next ∷ b.back;
        is = ap (λ (xs : List Cursor). set xs at next) b.is ∙ set_at b.front b.one b.back next at b.place;
        place = b.place;
        past = b.past;
        not_before = (not-before line (get_or cs at d).head next.head (head-is cs at d line b) (order-of job (get_or cs at d).head next.head a.turn), b.not_before);
      },
    )
  where
    not-before : (line : Line) (o next : Option Line) → o ≡ Some line → IfSome next (λ l. DoesNotFall o l) → NotBefore line next
    not-before line o None e h = tt
    not-before line o (Some l) e h = subst (λ (q : Option Line). DoesNotFall q l) e h
