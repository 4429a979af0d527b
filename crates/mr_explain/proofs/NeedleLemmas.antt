-- A record that gives a key contains its bytes.
use Rattle.std.proofs.Common.{◌≡◌, ℕ, ◌<◌, Bool, true, false, cond, ltb, List, [], ◌∷◌, All, length, take, map, refl, ap, sym, ◌∙◌, subst, arith}
use Rattle.std.proofs.lemmas.Bool.{false≢true, lt-ltb}
use Rattle.std.proofs.lemmas.List.{length-take, get_or-take}
use Rattle.std.proofs.lemmas.List.Elements.{All-head, All-tail}
use Rattle.std.specs.Str.{bytes_eq}
use Rattle.mr_bytes.specs.declared.Value.{Value}
use Rattle.mr_jobs.specs.JobSpec.{JobSpec, folds_words}
use Rattle.mr_jobs.specs.Emissions.{Emission, emissions, keys_of, value_at}
use Rattle.mr_jobs.specs.Literal.{Holds, compared, holds}
use Rattle.mr_jobs.proofs.KeyLemmas.{keys_stand}
use Rattle.mr_jobs.proofs.LiteralLemmas.{place_found}
use Rattle.mr_sequential.proofs.KeyLaws.{bytes_eq-is}
use Rattle.mr_explain.specs.Explained.{has_key, pairs_with}

stands_front : (fold : Bool) (line key : List ℕ) (n : ℕ) → Holds fold line key → Holds fold line (take n key)
stands_front fold line key n h = (
  h.0,
  record {
    fits = omega (arith, h.1.fits, length-take n key);
    reads = λ j less.
        let inside : j < n = omega (arith, less, length-take n key) in
        h.1.reads j (omega (arith, less, length-take n key)) ∙ ap (compared fold) (sym (get_or-take n key j 0 inside));
  },
)

-- ---- so a line without the front of a key doesn't give the key

none_with : (fold : Bool) (line key : List ℕ) (n : ℕ) (value : Value) (ks : List (List ℕ)) → holds fold line (take n key) ≡ false → All (Holds fold line) ks
    → pairs_with key (map (λ k. (k, value)) ks) ≡ []
none_with fold line key n value [] none all = refl
none_with fold line key n value (k ∷ ks) none all =
    by (bytes_eq k key) refl (none_with fold line key n value ks none (All-tail (Holds fold line) k ks all))
  where
    others : List Emission
    others = pairs_with key (map (λ l. (l, value)) ks)

    by : (t : Bool) → bytes_eq k key ≡ t → others ≡ [] → cond t ((k, value) ∷ others) others ≡ []
    by true same later =
        let here : Holds fold line key = subst (Holds fold line) (bytes_eq-is k key same) (All-head (Holds fold line) k ks all) in
        let front = stands_front fold line key n here in
        absurd (false≢true (sym none ∙ place_found fold line (take n key) front.0 front.1))
    by false other later = later

none_without : (job : JobSpec) (key : List ℕ) (n : ℕ) (file start : ℕ) (line : List ℕ)
    → holds (folds_words job) line (take n key) ≡ false → pairs_with key (emissions job file start line) ≡ []
none_without job key n file start line none = none_with (folds_words job) line key n (value_at job file start) (keys_of job line) none (keys_stand job line)

-- ---- a line without the front of a key is not looked for

pub needle_fits : (job : JobSpec) (key : List ℕ) (n : ℕ) (file start : ℕ) (line : List ℕ)
    → holds (folds_words job) line (take n key) ≡ false → has_key key (emissions job file start line) ≡ false
needle_fits job key n file start line none = ap (λ (es : List Emission). ltb 0 (length es)) (none_without job key n file start line none)

-- nothing stands everywhere
pub nothing_stands : (fold : Bool) (line : List ℕ) → holds fold line [] ≡ true
nothing_stands fold line = place_found fold line [] 0 (record { fits = omega arith; reads = λ j less. absurd (omega (arith, less)) })

-- who doesn't give a key has no value for it
pub no_pair : (key : List ℕ) (es : List Emission) → has_key key es ≡ false → pairs_with key es ≡ []
no_pair key es none = empty (pairs_with key es) none
  where
    empty : (ps : List Emission) → ltb 0 (length ps) ≡ false → ps ≡ []
    empty [] e = refl
    empty (p ∷ ps) e = absurd (false≢true (sym e ∙ lt-ltb 0 (length (p ∷ ps)) (omega arith)))
