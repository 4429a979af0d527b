-- What a map value is: it rises, and has the pairs of its split and partition.
use Rattle.std.proofs.Common.{◌≡◌, ◌↔◌, ℕ, true, false, not, ◌||◌, ◌==◌, List, [], ◌∷◌, refl, sym, ◌∙◌, ap, inl, inr}
use Rattle.std.proofs.lemmas.Bool.{and_from, and_parts, cases_Bool, eq-eqb, eqb-true, false≢true, not-true, or_parts}
use Rattle.mr_bytes.specs.Lists.{Has, Rises}
use Rattle.mr_bytes.specs.Pairs.{Triple}
use Rattle.mr_bytes.proofs.ListLaws.{Has-filter, Has-filter_from, Rises-filter}
use Rattle.mr_sequential.specs.Rules.{Key}
use Rattle.mr_spill.proofs.RegionLaws.{by_name, regions_have, regions_rise}
use Rattle.mr_task.specs.Laws.{MapValuesHave, MapValuesRise}
use Rattle.mr_task.specs.Values.{emitted_in, has_number, is_of, map_value}
use Rattle.mr_task.proofs.SourceLemmas.{emitted-rises, names-rises}

has-none : (ns : List ℕ) (n : ℕ) → has_number ns n ≡ false → Has ns n → ⊥
has-none [] n e h = h
has-none (m ∷ ns) n e (inl is) = false≢true (sym (or_parts (m == n) (has_number ns n) e).0 ∙ eq-eqb m n is)
has-none (m ∷ ns) n e (inr h) = has-none ns n (or_parts (m == n) (has_number ns n) e).1 h

none-has : (ns : List ℕ) (n : ℕ) → (Has ns n → ⊥) → not (has_number ns n) ≡ true
none-has [] n f = refl
none-has (m ∷ ns) n f =
    elim (cases_Bool (m == n)) [
      | inl e ↦ absurd (f (inl (eqb-true m n e)))
      | inr e ↦ ap (λ b. not (b || has_number ns n)) e ∙ none-has ns n (λ h. f (inr h))
    ]

-- of pairs whose names rise
pub map_value-Has : (part : Key → ℕ) (ts : List Triple) (split : ℕ) (skips : List ℕ) (p : ℕ) → Rises by_name ts
    → (t : Triple) → Has (map_value part ts split skips p) t ↔ (Has ts t × (t.name.split ≡ split) × (Has skips t.name.rec → ⊥) × (part t.key ≡ p))
map_value-Has part ts split skips p rise t =
    let own : List Triple = emitted_in ts split skips in
    let in_region = regions_have part own p (names-rises own (Rises-filter by_name (is_of split skips) ts rise)) t in (
      λ h.
          let r = in_region.0 h in
          let f = Has-filter_from (is_of split skips) ts t r.0 in
          let b = and_parts (t.name.split == split) (not (has_number skips t.name.rec)) f.1 in
          (f.0, eqb-true t.name.split split b.0, has-none skips t.name.rec (not-true (has_number skips t.name.rec) b.1), r.1),
      λ w.
          in_region.1 (
            Has-filter (is_of split skips) ts t w.0
                (and_from (t.name.split == split) (not (has_number skips t.name.rec)) (eq-eqb t.name.split split w.1) (none-has skips t.name.rec w.2)),
            w.3,
          ),
    )

pub map_values_rise : MapValuesRise
map_values_rise part ts split skips p = regions_rise part (emitted_in ts split skips) p

pub map_values_have : MapValuesHave
map_values_have part job size files split skips p some t = map_value-Has part _ split skips p (emitted-rises job size files some) t
