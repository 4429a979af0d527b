-- The text of a key while its values come, record by record.
use Rattle.std.proofs.Common.{◌≡◌, ℕ, ◌<◌, ◌^◌, cond, Bool, true, false, List, [], ◌∷◌, ◌++◌, length, map, refl, sym, ap, ◌∙◌, subst, arith}
use Rattle.std.proofs.lemmas.List.{append-nil}
use Rattle.std.proofs.lemmas.List.Concat.{flat_map-append}
use Rattle.std.specs.Str.{bytes_eq}
use Rattle.mr_bytes.specs.declared.Value.{Value}
use Rattle.mr_jobs.specs.JobSpec.{JobSpec}
use Rattle.mr_jobs.specs.Emissions.{Emission}
use Rattle.mr_reduce.specs.Text.{text_of}
use Rattle.mr_reduce.specs.Writing.{IsWritable}
use Rattle.mr_splits.specs.Named.{NamedRecord}
use Rattle.mr_splits.specs.Cut.{records_of}
use Rattle.mr_splits.specs.Kept.{Choice, kept_records}
use Rattle.mr_sequential.specs.Names.{triples_of}
use Rattle.mr_sequential.specs.Sequential.{values_of}
use Rattle.mr_explain.specs.Explained.{pairs_of, pairs_with}
use Rattle.mr_explain.specs.Group.{expected_text, values_in, values_with}
use Rattle.mr_explain.proofs.GroupLemmas.{values_are, values_rise}

-- the value of one pair
pub pair-values : (key : List ℕ) (e : Emission) (es : List Emission)
    → values_with key (e ∷ es) ≡ cond (bytes_eq e.0 key) (e.1 ∷ []) [] ++ values_with key es
pair-values key e es = by (bytes_eq e.0 key)
  where
    by : (t : Bool) → map (λ (x : Emission). x.1) (cond t (e ∷ pairs_with key es) (pairs_with key es)) ≡ cond t (e.1 ∷ []) [] ++ values_with key es
    by true = refl
    by false = refl

-- the values of one record more
pub record-values : (job : JobSpec) (key : List ℕ) (done : List NamedRecord) (r : NamedRecord)
    → values_in job key (done ++ r ∷ []) ≡ values_in job key done ++ values_with key (pairs_of job r)
record-values job key done r =
    flat_map-append (λ (x : NamedRecord). values_with key (pairs_of job x)) done (r ∷ [])
    ∙ ap (λ (l : List Value). values_in job key done ++ l) (append-nil (values_with key (pairs_of job r)))

-- all records are done
pub all-values : (job : JobSpec) (choice : Choice) (key : List ℕ) (done left : List NamedRecord) → left ≡ []
    → done ++ left ≡ kept_records choice.skips (records_of choice.cut) → values_in job key done ≡ values_of (triples_of job choice) key
all-values job choice key done left none all =
    ap (values_in job key) (sym (append-nil done) ∙ ap (λ (l : List NamedRecord). done ++ l) (sym none) ∙ all)
    ∙ values_are job key choice.skips (records_of choice.cut)

pub no-text : (job : JobSpec) (key : List ℕ) (vs : List Value) → length vs ≡ 0 → [] ≡ expected_text job key vs
no-text job key [] e = refl
no-text job key (v ∷ vs) e = absurd (omega (arith, e))

some-text : (job : JobSpec) (key : List ℕ) (vs : List Value) → (length vs ≡ 0 → ⊥) → text_of job key vs ≡ expected_text job key vs
some-text job key [] some = absurd (some refl)
some-text job key (v ∷ vs) some = refl

pub whole-text : (job : JobSpec) (choice : Choice) (key : List ℕ) (vs : List Value) (count : ℕ) (out : List ℕ) → 0 < choice.cut.size
    → vs ≡ values_of (triples_of job choice) key → count ≡ length vs → count < 2 ^ 64 → (count ≡ 0 → ⊥)
    → (IsWritable job vs → out ≡ [] ++ text_of job key vs) → out ≡ expected_text job key (values_of (triples_of job choice) key)
whole-text job choice key vs count out size is counted few some written =
    let fits : IsWritable job vs =
    subst (IsWritable job) (sym is) (record { few = λ _. omega (arith, few, counted, ap length is); rising = λ _. values_rise job choice key size }) in
    written fits
    ∙ some-text job key vs (λ none. some (counted ∙ none))
    ∙ ap (expected_text job key) is
