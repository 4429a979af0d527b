-- Of no public promise: the triples that a part's tables show, and parts one after another.
use Rattle.std.specs.Prelude.{◌≡◌, ℕ, ◌+◌, ◌<◌, ◌≤◌, Option, None, Some, MatchOption, ◌==◌, if◌then◌else◌, List, [], ◌∷◌, ◌++◌, length, slice_range}
use Rattle.std.specs.List.{AllByRecursion, flat_map}
use Rattle.mr_bytes.specs.declared.Name.{Name}
use Rattle.mr_bytes.specs.Pairs.{Triple}
use Rattle.mr_jobs.specs.Emissions.{Emission, nth_emission}
use Rattle.mr_sequential.specs.Emitted.{placed_from}
use Rattle.mr_sequential.specs.Good.{named}
use Rattle.mr_index.specs.Pairs.{EndsRise, filled}
use Rattle.mr_index.specs.Windows.{PieceView}

-- the pairs of the records of a split, from `number` on, each record's from the end of those of the one before
unfoldable pub numbered : ℕ → ℕ → ℕ → List ℕ → List Emission → List Triple
numbered split number at [] pairs = []
numbered split number at (e ∷ ends) pairs =
    placed_from (record { split = split; rec = number }) 0 (slice_range pairs at e) ++ numbered split (number + 1) e ends pairs

-- the ends once the record `number` is mapped: none comes where it gave no pairs, and else those before it that have none
-- end where it begins
abbrev pub ended : ℕ → ℕ → ℕ → List ℕ → List ℕ
ended number before after ends = if before == after then ends else filled number before ends ++ after ∷ []

-- what a name tells among the pairs of the records from `first` on, which end at `ends`: the pair of this number, or none
abbrev pub Tells : List ℕ → ℕ → Name → List Emission → Option ℕ → Type 0
Tells ends first n pairs at =
    MatchOption at (named (numbered n.split first 0 ends pairs) n ≡ None)
    (λ i. (i < length pairs) × (named (numbered n.split first 0 ends pairs) n
    ≡ Some (record { key = (nth_emission pairs i).0; value = (nth_emission pairs i).1; name = n })))

-- the number of the pair at a place of a record, whatever the number of the first record is
abbrev pub IsPlaceOf : List ℕ → List Emission → ℕ → ℕ → Option ℕ → Type 0
IsPlaceOf ends pairs number place at = (first : ℕ) (n : Name) → n.rec ≡ first + number → n.place ≡ place → Tells ends first n pairs at

-- all parts, one after another
abbrev pub joined : List (List Triple) → List Triple
joined parts = flat_map (λ p. p) parts

-- each part has triples of its split alone, the first those of `split`
abbrev pub AreApart : ℕ → List (List Triple) → Type 0
AreApart split [] = Unit {0}
AreApart split (p ∷ parts) = AllByRecursion (λ t. t.name.split ≡ split) p × AreApart (split + 1) parts

-- tables that show what a piece gives
pub record Shows (p : PieceView) (ends : List ℕ) (es : List Emission) : Type 0 where
  pub rise : EndsRise 0 (length es) ends
  pub few : p.from + length ends ≤ p.end
  pub pairs : es ≡ p.pairs
  pub triples : numbered p.split p.from 0 ends es ≡ p.triples
