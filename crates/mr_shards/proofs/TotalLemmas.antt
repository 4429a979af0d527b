-- No more values wait and are left of a key than the outputs tell.
use Rattle.std.proofs.Common.{◌≡◌, ℕ, ◌+◌, ◌≤◌, ◌^◌, ◌++◌, List, [], ◌∷◌, length, refl, ap, ◌∙◌, inl, inr, arith, Bool, true, false, cond, Option, None, Some, map}
use Rattle.std.proofs.lemmas.List.{length-append, length-map, map-append}
use Rattle.std.specs.Str.{bytes_eq}
use Rattle.mr_jobs.specs.JobSpec.{JobSpec}
use Rattle.mr_sequential.proofs.KeyLaws.{bytes_eq-same}
use Rattle.mr_shards.specs.declared.cursor.Cursor.{Cursor}
use Rattle.mr_shards.specs.declared.line.Line.{Line}
use Rattle.mr_shards.specs.declared.merger.ShardText.{ShardText}
use Rattle.mr_shards.specs.Merged.{Group, joined}
use Rattle.mr_shards.specs.Lines.{groups_in}
use Rattle.mr_shards.specs.Views.{group_of}
use Rattle.mr_shards.specs.Cursors.{left, Goes}
use Rattle.mr_shards.specs.Refused.{Overflows, total_of, values_among, values_with}
use Rattle.mr_shards.specs.Outputs.{parts_in}
use Rattle.mr_shards.specs.Portions.{Shift, behind, no_shift, past_shard, shifted_group, shifted_parts, shifted_value}
use Rattle.mr_shards.specs.Rounds.{IsWithin, one_of, waits_with}
use Rattle.mr_shards.proofs.StepLemmas.{Step}

-- ---- sums

pub with-cons : (key : List ℕ) (g : Group) (gs : List Group) → values_with key (g ∷ gs) ≡ one_of key g + values_with key gs
unfolding values_with
with-cons key g gs = refl

pub among-cons : (key : List ℕ) (gs : List Group) (gss : List (List Group)) → values_among key (gs ∷ gss) ≡ values_with key gs + values_among key gss
unfolding values_among
among-cons key gs gss = refl

among-append : (key : List ℕ) (xs ys : List (List Group)) → values_among key (xs ++ ys) ≡ values_among key xs + values_among key ys
unfolding values_among
among-append key [] ys = omega arith
among-append key (x ∷ xs) ys = omega (arith, among-append key xs ys)

with-shifted : (key : List ℕ) (s : Shift) (gs : List Group) → values_with key (map (shifted_group s) gs) ≡ values_with key gs
unfolding values_with
with-shifted key s [] = refl
with-shifted key s (g ∷ gs) =
    let same : length (map (shifted_value s) g.values) ≡ length g.values = length-map g.values (shifted_value s) in
    ap (λ k. cond (bytes_eq g.key key) k 0 + values_with key (map (shifted_group s) gs)) same
    ∙ ap (λ k. one_of key g + k) (with-shifted key s gs)

among-shifted : (key : List ℕ) (job : JobSpec) (s : Shift) (os : List ShardText) → values_among key (shifted_parts s (parts_in job os)) ≡ total_of job os key
unfolding values_among
among-shifted key job s [] = refl
among-shifted key job s (o ∷ os) =
    let next : Shift = behind s (past_shard o.files) in
    ap (λ k. k + values_among key (shifted_parts next (parts_in job os))) (with-shifted key s (groups_in job o.text.now))
    ∙ ap (λ k. values_with key (groups_in job o.text.now) + k) (among-shifted key job next os)

pub within-first : (job : JobSpec) (outputs : List ShardText) (gss : List (List Group)) → gss ≡ shifted_parts no_shift (parts_in job outputs) → IsWithin job outputs gss None
within-first job outputs gss lefts key = omega (arith, ap (values_among key) lefts, among-shifted key job no_shift outputs)

-- ---- a line that goes in

among-step : (job : JobSpec) (old new : List Cursor) (line : Line) (key : List ℕ) → Step job old new line
    → values_among key (map (left job) old) ≡ one_of key (group_of line) + values_among key (map (left job) new)
among-step job old new line key s =
    let front : List (List Group) = map (left job) s.front in
    let back : List (List Group) = map (left job) s.back in
    let was : values_among key (map (left job) old) ≡ values_among key front + (values_with key (left job s.one) + values_among key back) =
    ap (λ (cs : List Cursor). values_among key (map (left job) cs)) s.was ∙ ap (values_among key) (map-append (left job) s.front (s.one ∷ s.back))
    ∙ among-append key front (left job s.one ∷ back) ∙ ap (λ k. values_among key front + k) (among-cons key (left job s.one) back) in
    let now : values_among key (map (left job) new) ≡ values_among key front + (values_with key (left job s.next) + values_among key back) =
    ap (λ (cs : List Cursor). values_among key (map (left job) cs)) s.now ∙ ap (values_among key) (map-append (left job) s.front (s.next ∷ s.back))
    ∙ among-append key front (left job s.next ∷ back) ∙ ap (λ k. values_among key front + k) (among-cons key (left job s.next) back) in
    let one : values_with key (left job s.one) ≡ one_of key (group_of line) + values_with key (left job s.next) =
    ap (values_with key) s.left_one ∙ with-cons key (group_of line) (left job s.next) in
    omega (arith, was, now, one)

-- a line for one of the same key, as two
joined-one : (key : List ℕ) (g h : Group) → g.key ≡ h.key → one_of key (joined g h) ≡ one_of key g + one_of key h
joined-one key g h same =
    by (bytes_eq g.key key) ∙ ap (λ (k : List ℕ). one_of key g + cond (bytes_eq k key) (length h.values) 0) same
  where
    by : (b : Bool) → cond b (length (g.values ++ h.values)) 0 ≡ cond b (length g.values) 0 + cond b (length h.values) 0
    by true = length-append g.values h.values
    by false = refl

goes-within : (job : JobSpec) (waiting : Option Group) (g next : Group) (old new key : List ℕ) → Goes job waiting g next old new
    → one_of key next ≤ waits_with key waiting + one_of key g
goes-within job None g next old new key h = omega (arith, ap (one_of key) h.0)
goes-within job (Some w) g next old new key (inl h) =
    omega (arith, ap (one_of key) h.1, joined-one key w g h.0)
goes-within job (Some w) g next old new key (inr h) = omega (arith, ap (one_of key) h.0)

pub within-step : (job : JobSpec) (outputs : List ShardText) (old new : List Cursor) (waiting : Option Group) (line : Line) (next : Group) (out out' : List ℕ)
    → Step job old new line → Goes job waiting (group_of line) next out out' → IsWithin job outputs (map (left job) old) waiting → IsWithin job outputs (map (left job) new) (Some next)
within-step job outputs old new waiting line next out out' s g few key =
    omega (arith, few key, among-step job old new line key s, goes-within job waiting (group_of line) next out out' key g)

-- ---- a total that doesn't fit

one-own : (g : Group) (key : List ℕ) → g.key ≡ key → one_of key g ≡ length g.values
one-own g key same = ap (λ b. cond b (length g.values) 0) (ap (λ (k : List ℕ). bytes_eq k key) same ∙ bytes_eq-same key)

pub too-large : (job : JobSpec) (outputs : List ShardText) (old new : List Cursor) (waiting : Option Group) (line : Line) → Step job old new line → IsWithin job outputs (map (left job) old) waiting
    → Overflows waiting (group_of line) → (key : List ℕ) × (2 ^ 64 ≤ total_of job outputs key)
too-large job outputs old new None line s few o = absurd o
too-large job outputs old new (Some w) line s few o =
    let key : List ℕ = line.key.now in
    (key, omega (arith, o.1, few key, among-step job old new line key s, one-own w key o.0, one-own (group_of line) key refl))
