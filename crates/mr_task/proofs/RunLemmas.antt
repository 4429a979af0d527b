-- Pairs taken run by run: one run more, one pair more, and the end.
use Rattle.std.proofs.Common.{◌≡◌, ℕ, ◌+◌, ◌<◌, ◌≤◌, List, [], ◌∷◌, ◌++◌, length, get_or, map, refl, sym, ap, ◌∙◌, subst, arith, append_assoc, inl, inr}
use Rattle.std.proofs.lemmas.List.{append-nil, map-append}
use Rattle.std.proofs.lemmas.List.FromFn.{get_or-map-range_with_len, length-map-range_with_len}
use Rattle.std.specs.List.{range_with_len}
use Rattle.std.specs.declared.cmp.Ordering.TheVariants.{Less}
use Rattle.mr_bytes.specs.declared.By.{By}
use Rattle.mr_bytes.specs.declared.Name.{Name}
use Rattle.mr_bytes.specs.Lists.{Rises}
use Rattle.mr_bytes.specs.Order.{name_order}
use Rattle.mr_bytes.specs.Pairs.{Triple}
use Rattle.mr_bytes.proofs.ListLaws.{all_from_Has, Has-all, Has-append_left}
use Rattle.mr_partition.specs.Hosts.{partition_by}
use Rattle.mr_sequential.proofs.SourceLemmas.{flat_map-append}
use Rattle.mr_spill.specs.Column.{names_of}
use Rattle.mr_spill.specs.Regions.{region}
use Rattle.mr_task.specs.declared.runs.Runs.{Runs}
use Rattle.mr_spill.specs.Sealed.{RunText, SpellsRun}
use Rattle.mr_spill.specs.Spelling.{SpellsRegion}
use Rattle.mr_merge.specs.Bytes.{AreSpelled}
use Rattle.mr_merge.specs.Merged.{joined}
use Rattle.mr_task.specs.Mapped.{IsMapped, regions_at}
use Rattle.mr_task.specs.Runs.{AreAlike, AreNext, AreRuns, HasTaken, Takes, part_in}

-- one run more
pub runs-more : (split : ℕ) (part : List ℕ → ℕ) (parts : ℕ) (sealed : List (List Triple)) (ts : List Triple) (runs : List RunText) (run : RunText) → AreRuns split part parts sealed runs
    → SpellsRun run split parts (region part ts) → AreRuns split part parts (sealed ++ ts ∷ []) (runs ++ run ∷ [])
runs-more split part parts [] ts [] run all one = (one, tt)
runs-more split part parts [] ts (r ∷ rs) run all one = absurd all
runs-more split part parts (s ∷ ss) ts [] run all one = absurd all
runs-more split part parts (s ∷ ss) ts (r ∷ rs) run all one = (all.0, runs-more split part parts ss ts rs run all.1 one)

-- its pairs come behind
pub joined-one : (sealed : List (List Triple)) (ts : List Triple) → joined (sealed ++ ts ∷ []) ≡ joined sealed ++ ts
joined-one sealed ts = flat_map-append (λ (l : List Triple). l) sealed (ts ∷ []) ∙ ap (λ (l : List Triple). joined sealed ++ l) (append-nil ts)

-- the runs spell the regions of a partition
spelled-at : (split : ℕ) (part : List ℕ → ℕ) (parts : ℕ) (sealed : List (List Triple)) (runs : List RunText) (p : ℕ) → p < parts → AreRuns split part parts sealed runs
    → AreSpelled p (regions_at p runs) (map (λ ts. region part ts p) sealed)
spelled-at split part parts [] [] p h all = tt
spelled-at split part parts [] (r ∷ rs) p h all = absurd all
spelled-at split part parts (s ∷ ss) [] p h all = absurd all
spelled-at split part parts (s ∷ ss) (r ∷ rs) p h all = (
  subst (λ n. SpellsRegion (get_or r.regions p []) n p (region part s p)) (sym all.0.own) (all.0.each p h),
  spelled-at split part parts ss rs p h all.1,
)

mapped-by : (pairs : List Triple) (split : ℕ) (part : List ℕ → ℕ) (parts : ℕ) (sealed : List (List Triple)) (runs : List RunText) → AreRuns split part parts sealed runs → joined sealed ≡ pairs
    → IsMapped part parts pairs (record { parts = parts; runs = runs })
mapped-by pairs split part parts sealed runs all is =
    let regions_for : ℕ → List (List Triple) = λ p. map (λ ts. region part ts p) sealed in
    let at : (p : ℕ) → p < parts → get_or (map regions_for (range_with_len 0 parts)) p [] ≡ regions_for p =
    λ p h. get_or-map-range_with_len regions_for 0 parts p p [] h (omega arith) in
    record {
      regions = map regions_for (range_with_len 0 parts);
      parts_are = refl;
      cut = record { runs = sealed; all = is; one_each = length-map-range_with_len regions_for 0 parts; each = at };
      spelled = λ p h. subst (AreSpelled p (regions_at p runs)) (sym (at p h)) (spelled-at split part parts sealed runs p h all);
    }

-- what holds of the partition that runs give, holds where that is written out
pub written : (P : (List ℕ → ℕ) → ℕ → Type 0) (r : Runs) (by : By) (parts : ℕ) → r.by ≡ by → r.sealed.parts ≡ parts
    → P (part_in r) r.sealed.parts → P (λ k. partition_by by k parts) parts
written P r by parts b e holds =
    subst (λ (n : ℕ). P (λ k. partition_by by k n) n) e (subst (λ (w : By). P (λ k. partition_by w k r.sealed.parts) r.sealed.parts) b holds)

-- where nothing waits, all that was taken is in the runs
pub all-mapped : (pairs : List Triple) (r : Runs) (by : By) (parts : ℕ) → HasTaken pairs r → r.buffer.pairs ≡ [] → r.by ≡ by → r.sealed.parts ≡ parts
    → IsMapped (λ k. partition_by by k parts) parts pairs r.sealed
all-mapped pairs r by parts h none b e =
    let same : joined h.sealed ≡ pairs = sym (append-nil (joined h.sealed)) ∙ ap (λ (l : List Triple). joined h.sealed ++ l) (sym none) ∙ h.all in
    written (λ part n. IsMapped part n pairs r.sealed) r by parts b e (mapped-by pairs r.split (part_in r) r.sealed.parts h.sealed r.sealed.runs h.each same)

pub alike-then : (old mid new : Runs) → AreAlike old mid → AreAlike mid new → AreAlike old new
alike-then old mid new a b = record { split = b.split ∙ a.split; by = b.by ∙ a.by; parts = b.parts ∙ a.parts }

pub takes-none : (r : Runs) → Takes [] r r
takes-none r pairs h = subst (λ (l : List Triple). HasTaken l r) (sym (append-nil pairs)) h

-- some were taken, and then some more
pub takes-more : (first then both : List Triple) (old mid new : Runs) → both ≡ first ++ then → Takes first old mid → Takes then mid new → Takes both old new
takes-more first then both old mid new e f g pairs h =
    subst (λ (l : List Triple). HasTaken l new) (append_assoc pairs first then ∙ ap (λ (l : List Triple). pairs ++ l) (sym e)) (g (pairs ++ first) (f pairs h))

-- no more are left
pub none-left : {X : Type 0} (xs : List X) → length xs ≤ 0 → xs ≡ []
none-left [] h = refl
none-left (x ∷ xs) h = absurd (omega (arith, h))

-- ---- names that rise

pub front-rises : (xs ys : List Name) → Rises name_order (xs ++ ys) → Rises name_order xs
front-rises [] ys r = tt
front-rises (x ∷ xs) ys r = (
  all_from_Has (λ n. name_order x n ≡ Less) xs (λ n h. Has-all (λ m. name_order x m ≡ Less) (xs ++ ys) n r.0 (Has-append_left xs ys n h)),
  front-rises xs ys r.1,
)

pub back-rises : (xs ys : List Name) → Rises name_order (xs ++ ys) → Rises name_order ys
back-rises [] ys r = r
back-rises (x ∷ xs) ys r = back-rises xs ys r.1

-- of pairs whose names rise, those so far with the next
pub next-rises : (waiting : List Triple) (t : Triple) (rest : List Triple) → Rises name_order (names_of (waiting ++ t ∷ rest))
    → Rises name_order (names_of waiting ++ t.name ∷ [])
next-rises waiting t rest r =
    front-rises (names_of waiting ++ t.name ∷ []) (names_of rest)
    (subst (Rises name_order) (map-append (λ (u : Triple). u.name) waiting (t ∷ rest) ∙ sym (append_assoc (names_of waiting) (t.name ∷ []) (names_of rest))) r)

-- and then those that wait with the rest
pub later-rise : (old new : List Triple) (t : Triple) (rest : List Triple) → AreNext t old new → Rises name_order (names_of (old ++ t ∷ rest))
    → Rises name_order (names_of (new ++ rest))
later-rise old new t rest (inl e) r =
    subst (λ (l : List Triple). Rises name_order (names_of l)) (sym (ap (λ (l : List Triple). l ++ rest) e ∙ append_assoc old (t ∷ []) rest)) r
later-rise old new t rest (inr e) r =
    subst (λ (l : List Triple). Rises name_order (names_of l)) (sym (ap (λ (l : List Triple). l ++ rest) e))
    (back-rises (names_of old) (names_of (t ∷ rest)) (subst (Rises name_order) (map-append (λ (u : Triple). u.name) old (t ∷ rest)) r))
