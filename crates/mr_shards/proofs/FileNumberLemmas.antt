-- The numbers of files that lines of an index tell.
use Rattle.std.proofs.Common.{◌≡◌, ℕ, ◌+◌, ◌<◌, List, [], ◌∷◌, map, refl, sym, ap, subst, arith}
use Rattle.std.proofs.lemmas.Cmp.{nat_cmp_total, ranked}
use Rattle.std.specs.List.{flat_map}
use Rattle.std.specs.Ordering.{nat_cmp}
use Rattle.std.specs.declared.cmp.Ordering.TheVariants.{Less, Equal}
use Rattle.mr_bytes.specs.declared.Value.{Value}
use Rattle.mr_bytes.specs.declared.Value.TheVariants.{One, At}
use Rattle.mr_bytes.specs.Lists.{Has, Rises}
use Rattle.mr_bytes.proofs.ListLaws.{Has-all, Has-map, Has-map_from, all_from_Has}
use Rattle.mr_bytes.proofs.SortLaws.{rising_is_one, sorted-Has, sorted-Has_from}
use Rattle.mr_reduce.specs.Text.{file_in, files_of}
use Rattle.mr_reduce.proofs.FileLemmas.{files_rise}
use Rattle.mr_sequential.proofs.NameLaws.{less}
use Rattle.mr_shards.specs.Portions.{Shift, shifted_value}
use Rattle.mr_shards.specs.Index.{NumbersMove}

-- ---- the files of values

cmp-less : (a b : ℕ) → nat_cmp a b ≡ Less → a < b
cmp-less a b e = ranked a b Less (sym e)

no_ties : (x y : ℕ) → nat_cmp x y ≡ Equal → y ≡ x
no_ties x y e = sym (ranked x y Equal (sym e))

pub told-in : (vs : List Value) (f : ℕ) → Has (files_of vs) f → Has (flat_map file_in vs) f
told-in vs f h = sorted-Has_from nat_cmp (flat_map file_in vs) f h

pub sorted-in : (vs : List Value) (f : ℕ) → Has (flat_map file_in vs) f → Has (files_of vs) f
sorted-in vs f h = sorted-Has nat_cmp (flat_map file_in vs) (λ x y a b e. no_ties x y e) f h

pub files-shifted : (s : Shift) (vs : List Value) → flat_map file_in (map (shifted_value s) vs) ≡ map (λ f. s.files + f) (flat_map file_in vs)
files-shifted s [] = refl
files-shifted s (One ∷ vs) = files-shifted s vs
files-shifted s (At file start ∷ vs) = ap (λ l. (s.files + file) ∷ l) (files-shifted s vs)

rises-moved : (n : ℕ) (xs : List ℕ) → Rises nat_cmp xs → Rises nat_cmp (map (λ f. n + f) xs)
rises-moved n [] r = tt
rises-moved n (x ∷ xs) r = (
  all_from_Has (λ y. nat_cmp (n + x) y ≡ Less) (map (λ f. n + f) xs)
      (λ y h. (let w = Has-map_from (λ f. n + f) xs y h in
      let past : x < w.0 = cmp-less x w.0 (Has-all (λ z. nat_cmp x z ≡ Less) xs w.0 r.0 w.1) in less (n + x) y (omega (arith, past, w.2)))),
  rises-moved n xs r.1,
)

pub numbers_move : NumbersMove
numbers_move s vs =
    let move : ℕ → ℕ = λ f. s.files + f in
    rising_is_one nat_cmp (files_of (map (shifted_value s) vs)) (map move (files_of vs)) nat_cmp_total (files_rise (map (shifted_value s) vs))
    (rises-moved s.files (files_of vs) (files_rise vs))
    (λ f. (
      λ h. (let w = Has-map_from move (flat_map file_in vs) f (subst (λ l. Has l f) (files-shifted s vs) (told-in (map (shifted_value s) vs) f h)) in
          subst (Has (map move (files_of vs))) w.2 (Has-map move (files_of vs) w.0 (sorted-in vs w.0 w.1))),
      λ h. (let w = Has-map_from move (files_of vs) f h in
          sorted-in (map (shifted_value s) vs) f (subst (λ l. Has l f) (sym (files-shifted s vs)) (subst (Has (map move (flat_map file_in vs))) w.2 (Has-map move (flat_map file_in vs) w.0 (told-in vs w.0 w.1))))),
    ))
