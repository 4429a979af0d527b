-- What is good can be spelled in each version: in good groups names rise.
use Rattle.std.proofs.Common.{◌≡◌, ℕ, zero, suc, ◌<◌, List, [], ◌∷◌, length, refl, sym, ◌∙◌, arith, inl, inr}
use Rattle.std.specs.Prelude.{slice_index_or}
use Rattle.std.specs.List.{AllByRecursion}
use Rattle.std.specs.declared.cmp.Ordering.TheVariants.{Less}
use Rattle.mr_bytes.specs.declared.Name.{Name}
use Rattle.mr_bytes.specs.Lists.{Rises}
use Rattle.mr_bytes.specs.Order.{name_order}
use Rattle.mr_bytes.specs.Pairs.{Triple}
use Rattle.mr_jobs.specs.JobSpec.{RequestSpec}
use Rattle.mr_certform.specs.declared.version.Version.{Version}
use Rattle.mr_certform.specs.declared.version.Version.TheVariants.{V1, V2}
use Rattle.mr_certform.specs.Places.{first_name}
use Rattle.mr_certform.specs.Short.{IsAtLeast}
use Rattle.mr_certform.specs.Value.{Contents, CanFollow, CanRow, CanSpell}
use Rattle.mr_certform.proofs.ShortLaws.{least_in_order}
use Rattle.mr_sequential.specs.Rules.{Key}
use Rattle.mr_sequential.specs.Good.{IsGood, IsGoodGroup}

-- ---- names that rise

-- no name is less than the first
least_of_all : (split rec place : ℕ) → IsAtLeast first_name (record { split = split; rec = rec; place = place })
least_of_all (suc split) rec place = inl (omega arith)
least_of_all zero (suc rec) place = inr (refl, inl (omega arith))
least_of_all zero zero place = inr (refl, inr (refl, omega arith))

can_follow : (version : Version) (before n : Name) → IsAtLeast before n → CanFollow version before n
can_follow V1 before n least = tt
can_follow V2 before n least = least

can_row : (version : Version) (before : Name) (ns : List Name) → AllByRecursion (λ n. name_order before n ≡ Less) ns → Rises name_order ns → CanRow version before ns
can_row version before [] less rises = tt
can_row version before (n ∷ ns) less rises =
    (can_follow version before n (least_in_order before n (λ e. cc (sym less.0 ∙ e))), can_row version n ns rises.0 rises.1)

can_group : (version : Version) (ns : List Name) → Rises name_order ns → CanRow version first_name ns
can_group version [] rises = tt
can_group version (n ∷ ns) rises = (can_follow version first_name n (least_of_all n.split n.rec n.place), can_row version n ns rises.0 rises.1)

-- ---- good certificates

can_part : (version : Version) (part : Key → ℕ) (ts : List Triple) (p : ℕ) (gs : List (List Name)) → AllByRecursion (IsGoodGroup part ts p) gs → CanSpell version gs
can_part version part ts p [] good = tt
can_part version part ts p (ns ∷ gs) good = (can_group version ns good.0.names_rise, can_part version part ts p gs good.1)

pub by_places : {X : Type 0} (P : X → Type 0) (d : X) (xs : List X) → ((i : ℕ) → i < length xs → P (slice_index_or xs i d)) → AllByRecursion P xs
by_places P d [] each = tt
by_places P d (x ∷ xs) each = (each 0 (omega arith), by_places P d xs (λ i l. each (suc i) (omega (arith, l))))

pub good_can : (version : Version) (request : RequestSpec) (files outputs : List (List ℕ)) (c : Contents) → IsGood request files outputs c → AllByRecursion (CanSpell version) c.groups
good_can version request files outputs c good = by_places (CanSpell version) [] c.groups (λ p l. can_part version _ _ p _ (good.result.each p l).groups.each)
