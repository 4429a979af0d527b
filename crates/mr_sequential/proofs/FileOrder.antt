-- Pairs stand in the order of their files, and so do the pairs of each row.
use Rattle.std.proofs.Common.{◌≡◌, ℕ, zero, suc, ◌+◌, ◌/◌, eqb, ◌<◌, ◌≤◌, true, false, cond, not, Bool, List, [], ◌∷◌, ◌++◌, ◌∙◌, filter, length, map, sym, ap, subst, arith, inl, inr, All}
use Rattle.std.proofs.lemmas.List.Elements.{All-head, All-tail, All-filter}
use Rattle.mr_bytes.specs.declared.Name.{Name}
use Rattle.mr_bytes.specs.declared.Value.{Value}
use Rattle.mr_bytes.specs.Lists.{Has}
use Rattle.mr_records.specs.Records.{Record, records}
use Rattle.mr_input.specs.Files.{split_count}
use Rattle.mr_jobs.specs.declared.job.GroupText.{GroupText}
use Rattle.mr_jobs.specs.declared.job.GroupText.TheVariants.{Count, Lines, Files}
use Rattle.mr_jobs.specs.JobSpec.{JobSpec, counts, group_text_of}
use Rattle.mr_jobs.specs.Emissions.{emissions, value_for}
use Rattle.std.specs.List.{flat_map}
use Rattle.mr_reduce.specs.Text.{file_in}
use Rattle.mr_reduce.specs.Files.{NeverFalls, Tells}
use Rattle.mr_reduce.specs.Writing.{IsWritable}
use Rattle.mr_splits.specs.Named.{NamedRecord, is_left_out, named_files, named_from, of_split}
use Rattle.mr_splits.specs.Cut.{Cut, nth_named, records_of}
use Rattle.mr_splits.specs.Kept.{Choice, kept_records}
use Rattle.mr_bytes.specs.Pairs.{Triple}
use Rattle.std.specs.Str.{bytes_eq}
use Rattle.mr_sequential.specs.Certified.{names_with}
use Rattle.mr_sequential.specs.Sequential.{triples_with}
use Rattle.mr_certform.specs.Packed.{names_from}
use Rattle.mr_sequential.specs.Names.{record_names, record_under, triples_of, value_under}
use Rattle.mr_sequential.proofs.SourceLemmas.{kept-names}
use Rattle.mr_sequential.proofs.ValueLemmas.{all-found}

-- the files of items never fall, and none is below the floor
abbrev pub Climbs : {X : Type 0} → (X → ℕ) → ℕ → List X → Type 0
Climbs file floor [] = Unit {0}
Climbs file floor (x ∷ xs) = (floor ≤ file x) × Climbs file (file x) xs

module _ {X : Type 0} (file : X → ℕ) where
  climbs-lower : (low high : ℕ) (xs : List X) → low ≤ high → Climbs file high xs → Climbs file low xs
  climbs-lower low high [] h up = up
  climbs-lower low high (x ∷ xs) h up = (omega (arith, h, up.0), up.1)

  climbs-filter : (keep : X → Bool) (floor : ℕ) (xs : List X) → Climbs file floor xs → Climbs file floor (filter keep xs)
  climbs-filter keep floor [] up = up
  climbs-filter keep floor (x ∷ xs) up =
      let later : Climbs file (file x) (filter keep xs) = climbs-filter keep (file x) xs up.1 in
      elim (keep x) as (λ b. Climbs file floor (cond b (x ∷ filter keep xs) (filter keep xs))) [
        | true ↦ (up.0, later)
        | false ↦ climbs-lower floor (file x) (filter keep xs) up.0 later
      ]

  module _ (value : X → Value) (tells : (x : X) (f : ℕ) → Has (file_in (value x)) f → f ≡ file x) where
    over-floor : (floor : ℕ) (xs : List X) → Climbs file floor xs → (j g : ℕ) → Tells (map value xs) j g → floor ≤ g
    over-floor floor [] up j g t = absurd (omega (arith, t.0))
    over-floor floor (x ∷ xs) up zero g t = omega (arith, up.0, tells x g t.1)
    over-floor floor (x ∷ xs) up (suc j) g t = omega (arith, up.0, over-floor (file x) xs up.1 j g (omega (arith, t.0), t.1))

    pub climbs-values : (floor : ℕ) (xs : List X) → Climbs file floor xs → NeverFalls (map value xs)
    climbs-values floor [] up i j f g less a b = absurd (omega (arith, a.0))
    climbs-values floor (x ∷ xs) up i zero f g less a b = absurd (omega (arith, less))
    climbs-values floor (x ∷ xs) up zero (suc j) f g less a b =
        omega (arith, tells x f a.1, over-floor (file x) xs up.1 j g (omega (arith, b.0), b.1))
    climbs-values floor (x ∷ xs) up (suc i) (suc j) f g less a b =
        climbs-values (file x) xs up.1 i j f g (omega (arith, less)) (omega (arith, a.0), a.1) (omega (arith, b.0), b.1)

-- ---- records come file by file

abbrev file_of : NamedRecord → ℕ
file_of r = r.file

from-climbs : (size file first : ℕ) (rest : List NamedRecord) (split next : ℕ) (rs : List Record)
    → Climbs file_of file rest → Climbs file_of file (named_from size file first split next rs ++ rest)
unfolding named_from
from-climbs size file first rest split next [] up = up
from-climbs size file first rest split next (r ∷ rs) up =
    let here : ℕ = first + r.start / size in
    let number : ℕ = cond (eqb here split) next 0 in
    (omega arith, from-climbs size file first rest here (number + 1) rs up)

files-climb : (size file first : ℕ) (fs : List (List ℕ)) → Climbs file_of file (named_files size file first fs)
unfolding named_files
files-climb size file first [] = tt
files-climb size file first (f ∷ fs) =
    let rest : List NamedRecord = named_files size (file + 1) (first + split_count size f) fs in
    from-climbs size file first rest first 0 (records f)
    (climbs-lower file_of file (file + 1) rest (omega arith) (files-climb size (file + 1) (first + split_count size f) fs))

-- ---- and names record by record

module _ (all : List NamedRecord) where
  -- the file of the record that a name tells
  abbrev pub file_under : Name → ℕ
  file_under n = (record_under all n).file

  abbrev IsThere : NamedRecord → Type 0
  IsThere r = nth_named (of_split r.name.split all) r.name.rec ≡ r

  names-climb : (r : NamedRecord) (place count : ℕ) (rest : List Name) → IsThere r
      → Climbs file_under r.file rest → Climbs file_under r.file (names_from r.name place count ++ rest)
  unfolding names_from
  names-climb r place zero rest there up = up
  names-climb r place (suc count) rest there up =
      let n : Name = record { split = r.name.split; rec = r.name.rec; place = place } in
      let is : r.file ≡ file_under n = ap (λ (x : NamedRecord). x.file) (sym there) in (
        omega (arith, is),
        subst (λ (f : ℕ). Climbs file_under f (names_from r.name (place + 1) count ++ rest)) is
            (names-climb r (place + 1) count rest there up),
      )

  records-climb : (job : JobSpec) (floor : ℕ) (rs : List NamedRecord) → All IsThere rs
      → Climbs file_of floor rs → Climbs file_under floor (flat_map (record_names job) rs)
  records-climb job floor [] there up = tt
  records-climb job floor (r ∷ rs) there up =
      let rest : List Name = flat_map (record_names job) rs in
      climbs-lower file_under floor r.file (record_names job r ++ rest) up.0
      (names-climb r 0 (length (emissions job r.file r.start r.bytes)) rest (All-head IsThere r rs there)
      (records-climb job r.file rs (All-tail IsThere r rs there) up.1))

triples-climb : (job : JobSpec) (choice : Choice) → 0 < choice.cut.size
    → Climbs (file_under (records_of choice.cut)) 0 (map (λ (t : Triple). t.name) (triples_of job choice))
triples-climb job choice some =
    let cut : Cut = choice.cut in
    let all : List NamedRecord = records_of cut in
    let keep : NamedRecord → Bool = λ r. not (is_left_out choice.skips r.name) in
    subst (Climbs (file_under all) 0) (kept-names job choice.skips all)
    (records-climb all job 0 (kept_records choice.skips all)
    (All-filter keep (IsThere all) all (λ k d h. (all-found cut.size cut.files some k d h).found))
    (climbs-filter file_of keep 0 all (files-climb cut.size 0 0 cut.files)))

-- ---- what a writer of texts asks

-- a value tells no file but its record's
tells-file : (form : GroupText) (file start f : ℕ) → Has (file_in (value_for form file start)) f → f ≡ file
tells-file Count file start f h = absurd h
tells-file Lines file start f (inl e) = sym e
tells-file Lines file start f (inr none) = absurd none
tells-file Files file start f (inl e) = sym e
tells-file Files file start f (inr none) = absurd none

climbs-inside : {X Y : Type 0} (file : X → ℕ) (g : Y → X) (floor : ℕ) (ys : List Y) → Climbs file floor (map g ys) → Climbs (λ y. file (g y)) floor ys
climbs-inside file g floor [] up = tt
climbs-inside file g floor (y ∷ ys) up = (up.0, climbs-inside file g (file (g y)) ys up.1)

climbs-outside : {X Y : Type 0} (file : X → ℕ) (g : Y → X) (floor : ℕ) (ys : List Y) → Climbs (λ y. file (g y)) floor ys → Climbs file floor (map g ys)
climbs-outside file g floor [] up = tt
climbs-outside file g floor (y ∷ ys) up = (up.0, climbs-outside file g (file (g y)) ys up.1)

-- the files of the triples of a key never fall
pub key-rises : (job : JobSpec) (choice : Choice) (k : List ℕ) → 0 < choice.cut.size
    → NeverFalls (map (value_under job (records_of choice.cut)) (names_with (triples_of job choice) k))
key-rises job choice k some =
    let all : List NamedRecord = records_of choice.cut in
    let ts : List Triple = triples_of job choice in
    let name : Triple → Name = λ t. t.name in
    let file : Triple → ℕ = λ t. file_under all t.name in
    climbs-values (file_under all) (value_under job all)
    (λ n f h. tells-file (group_text_of job) (record_under all n).file (record_under all n).start f h)
    0 (names_with ts k)
    (climbs-outside (file_under all) name 0 (triples_with ts k)
    (climbs-filter file (λ t. bytes_eq t.key k) 0 ts (climbs-inside (file_under all) name 0 ts (triples-climb job choice some))))

pub writable : (job : JobSpec) (vs : List Value) → counts job ≡ false → NeverFalls vs → IsWritable job vs
writable job vs counting rise = record { few = λ is. absurd (let never : true ≡ false = sym is ∙ counting in cc); rising = λ is. rise }
