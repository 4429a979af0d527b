-- Of no public promise: a walk over a certificate's items that takes each entry at its word.
use Rattle.std.specs.Prelude.{◌≡◌, ℕ, ◌+◌, ◌≤◌, List, [], ◌∷◌, Some, IfSome, drop}
use Rattle.mr_bytes.specs.Lists.{Has}
use Rattle.mr_input.specs.Files.{contents}
use Rattle.mr_certform.specs.declared.grammar_state.Item.{Item}
use Rattle.mr_certform.specs.declared.grammar_state.Item.TheVariants.{End}
use Rattle.mr_verdict.specs.Verdict.{Reached, Subject, part_faults, entries_in, tests, after}
use Rattle.mr_verdict.specs.Steps.{Known, subject, Room}
use Rattle.mr_verdict.specs.Items.{Coming}
use Rattle.mr_index.specs.Index.{triples_of}
use Rattle.mr_judge.specs.Borders.{at_border, between}
use Rattle.mr_judge.specs.Outputs.{Leaves}
use Rattle.mr_check.specs.Joined.{joined}
use Rattle.mr_check.specs.Lines.{told_key}
use Rattle.mr_check.specs.Claims.{Claim, AreRight, claims_of}
use Rattle.mr_check.specs.declared.given.Given.{Given}
use Rattle.mr_check.specs.declared.walk.Told.{Told}
use Rattle.mr_check.specs.declared.walk.Came.{Came}
use Rattle.mr_check.specs.declared.walk.Came.TheVariants.{To, ToEnd, Nowhere}
use Rattle.mr_check.specs.declared.walk.Walk.{Walk}

-- what is known of what is given: the pairs are those that the job emits for the records that are kept
abbrev pub known : Given → Known
known g = record {
  request = g.request.now;
  triples = triples_of g.request.now.job g.kept.now.cut g.kept.now.skips;
  outputs = g.outputs.now;
}

-- the line that stands at this place of all outputs tells the key of the group
abbrev pub IsTold : Known → Told → Type 0
IsTold k t = told_key (drop t.line (joined k.outputs)) ≡ Some t.key.now

-- what was put off is right
abbrev pub HoldsFor : Known → List Claim → Type 0
HoldsFor k claims = AreRight k.triples (joined k.outputs) claims

-- the walk stands in these outputs; its group's line tells the key, which the group's entries so far have
pub record Stands (k : Known) (w : Walk) : Type 0 where
  pub left : Leaves w.judging k.outputs w.outputs.rest.now (contents w.outputs.later.now)
  pub place : w.outputs.passed ≡ w.judging.from
  pub told : IfSome w.told (IsTold k)
  pub key : 1 ≤ w.judging.entry → IfSome w.told (λ t. t.key.now ≡ w.judging.key)

-- an item was taken: what was put off is kept, there is room for more, and if all that was put off is right, its tests are
-- passed, and so much is remembered behind it
pub record TakesItem (k : Known) (old new : Walk) (i : Item) : Type 0 where
  pub kept : (c : Claim) → Has (claims_of old.claims) c → Has (claims_of new.claims) c
  pub room : (more all : ℕ) → Room old.judging (more + 1) all → Room new.judging more all
  pub passed : HoldsFor k (claims_of new.claims) → (tests (subject k) old.judging i ≡ []) × (new.judging ≡ after (subject k) old.judging i)

-- so many entries more were named before
abbrev pub named_more : ℕ → Reached → Reached
named_more n st = record st { named = n + st.named }

-- the items that are no longer left were tested, and passed: all faults from here on are those of the others, however many
-- entries were named before
pub record Passed (s : Subject) (old new : Reached) (is left : List Item) : Type 0 where
  pub faults : (at n : ℕ) → part_faults s at (named_more n old) is ≡ part_faults s at (named_more n new) left
  pub named : old.named + entries_in is ≡ new.named + entries_in left

-- of items that might come a walk took so many, or all up to the end: if what it put off is right, they passed
abbrev pub Takes : Coming → Coming → Known → Reached → Walk → ℕ → Came → Type 0
Takes old new k st w n (To b) =
    (at_border b ≡ between w.judging)
    × (HoldsFor k (claims_of w.claims)
    → (left : List Item) (at : ℕ) → new left at
    → (is : List Item) × (old is at × ((left ≡ drop n is) × Passed (subject k) st w.judging is left)))
Takes old new k st w n ToEnd =
    HoldsFor k (claims_of w.claims) → (is : List Item) × ((at : ℕ) × (old is at × Passed (subject k) st w.judging is (End ∷ [])))
Takes old new k st w n Nowhere = Unit {0}
