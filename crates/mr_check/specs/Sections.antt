-- Of no public promise: the sections of a certificate, which are walked each by itself.
use Rattle.std.specs.Prelude.{◌≡◌, ◌≤◌, ◌<◌, ◌+◌, ℕ, List, [], ◌∷◌, IfSome, MatchResult, None, Ok, Result, drop, length, nat_le, slice_index_or}
use Rattle.mr_certform.specs.declared.grammar_state.Item.{Item}
use Rattle.mr_certform.specs.declared.grammar_state.Item.TheVariants.{Entries, End}
use Rattle.mr_certform.specs.declared.walker.Walker.{Walker}
use Rattle.mr_certform.specs.Walking.{items_left, halt}
use Rattle.mr_verdict.specs.declared.answers.No.{No}
use Rattle.mr_verdict.specs.declared.answers.No.TheVariants.{Unnamed}
use Rattle.mr_verdict.specs.Verdict.{Reached, Subject, start, entries_in, first, part_faults, passes}
use Rattle.mr_verdict.specs.Steps.{Answers, Known, subject}
use Rattle.mr_judge.specs.Borders.{at_border, behind_entries, between}
use Rattle.mr_judge.specs.declared.border.Border.{Border}
use Rattle.mr_check.specs.declared.joining.Joined.{Joined}
use Rattle.mr_check.specs.declared.section.Section.{Section}
use Rattle.mr_check.specs.declared.walk.Came.{Came}
use Rattle.mr_check.specs.declared.walk.Came.TheVariants.{To, ToEnd, Nowhere}
use Rattle.mr_check.specs.declared.walk.Walked.{Walked}
use Rattle.mr_check.specs.Claims.{claims_of}
use Rattle.mr_check.specs.Walk.{HoldsFor, Passed}

-- a group begins
abbrev pub BeginsGroup : List Item → Type 0
BeginsGroup (Entries n ∷ is) = Unit {0}
BeginsGroup is = ⊥

-- so many of all items come before it
pub record IsAt (all : Walker) (s : Section) : Type 0 where
  pub left : items_left s.walker ≡ drop s.at (items_left all)
  pub stop : halt s.walker ≡ halt all

-- a section begins behind so many of all items, and at a group unless it is the first
pub record IsSection (all : Walker) (s : Section) : Type 0 where
  pub here : IsAt all s
  pub begins : 1 ≤ s.at → BeginsGroup (items_left s.walker)

-- where a walk over items came to: it passed those of them that it was to take, or all
abbrev pub CameTo : Subject → List Item → Walked → Came → Type 0
CameTo s is w (To b) =
    (st : Reached) × ((at_border b ≡ between st) × ((w.named ≡ st.named) × Passed s (at_border w.began) st is (drop w.most is)))
CameTo s is w ToEnd = (st : Reached) × ((w.named ≡ st.named) × Passed s (at_border w.began) st is (End ∷ []))
CameTo s is w Nowhere = Unit {0}

-- so it is if what was put off is right
abbrev pub IsWalked : Known → List Item → Walked → Type 0
IsWalked k is w = HoldsFor k (claims_of w.claims) → CameTo (subject k) is w w.came

-- each section was walked
abbrev pub AreWalked : Known → List Section → List Walked → Type 0
AreWalked k ss ws = (i : ℕ) (s : Section) (w : Walked) → i < length ws → IsWalked k (items_left (slice_index_or ss i s).walker) (slice_index_or ws i w)

-- all items pass up to these, which a border comes before: the faults of all are theirs, and so many entries were named
pub record JoinedTo (s : Subject) (all is : List Item) (b : Border) (n : ℕ) : Type 0 where
  pub faults : (at : ℕ) → part_faults s at start all ≡ part_faults s at (behind_entries b n) is
  pub named : entries_in all ≡ n + entries_in is

-- what is tested at the end, where so many entries were named
abbrev pub end_tests : Subject → ℕ → List No
end_tests s n = passes (nat_le (length s.triples) n) (Unnamed (length s.triples) n)

-- all items pass up to the end; so many are entries
pub record AllPass (s : Subject) (is : List Item) (n : ℕ) : Type 0 where
  pub faults : (at : ℕ) → part_faults s at start is ≡ end_tests s n
  pub named : entries_in is ≡ n

-- what so many of the walks put off is right
abbrev pub HoldTo : Known → ℕ → List Walked → Type 0
HoldTo k n ws = (i : ℕ) (d : Walked) → i < n → i < length ws → HoldsFor k (claims_of (slice_index_or ws i d).claims)

-- the walk over the section to which others came goes on from their border; behind it so many entries were named
pub record GoesOn (ws : List Walked) (j : Joined) (w : Walked) (n : ℕ) : Type 0 where
  pub within : j.walks < length ws
  pub walk : (d : Walked) → slice_index_or ws j.walks d ≡ w
  pub border : at_border w.began ≡ at_border j.border
  pub named : n ≡ j.named + w.named

-- walks came to a section: if what they put off is right, all items before it pass, and it begins at this border
pub record CameToSection (k : Known) (all : Walker) (ss : List Section) (ws : List Walked) (j : Joined) : Type 0 where
  pub within : j.walks < length ss
  pub section : (d : Section) → slice_index_or ss j.walks d ≡ j.section
  pub joined : HoldTo k j.walks ws → JoinedTo (subject k) (items_left all) (items_left j.section.walker) j.border j.named

-- and if the next walk goes on from there to the end, and what it put off is right too, all items pass
pub record AreJoined (k : Known) (all : Walker) (ss : List Section) (ws : List Walked) (j : Joined) : Type 0 where
  pub section : CameToSection k all ss ws j
  pub ended : IfSome j.all (λ n. HoldTo k (j.walks + 1) ws → AllPass (subject k) (items_left all) n)

-- an answer on all items: none of their faults, and so many entries; or the first of them, or want of memory
abbrev pub AreJudged : Known → Walker → Result ℕ No → Type 0
AreJudged k all answer =
    let fs = part_faults (subject k) (halt all) start (items_left all) in
    MatchResult answer (λ n. (first fs ≡ None) × (n ≡ entries_in (items_left all))) (Answers fs)

-- all is right up to this section; and if all entries are counted, to the end
pub record IsRightTo (k : Known) (all : Walker) (j : Joined) : Type 0 where
  pub section : IsSection all j.section
  pub joined : JoinedTo (subject k) (items_left all) (items_left j.section.walker) j.border j.named
  pub ended : IfSome j.all (λ n. AreJudged k all (Ok n))
