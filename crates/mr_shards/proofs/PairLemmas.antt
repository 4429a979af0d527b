-- What the keys and values of all emitted pairs are.
use Rattle.std.proofs.Common.{◌≡◌, ◌≢◌, ℕ, zero, suc, ◌+◌, ◌<◌, ◌^◌, List, [], ◌∷◌, length, refl, ap, subst, inl, inr, arith, Bool, true, false, cond, All}
use Rattle.std.proofs.lemmas.List.Elements.{recursion_from_All}
use Rattle.std.specs.List.{AllByRecursion, flat_map}
use Rattle.mr_bytes.specs.Cut.{Lacks}
use Rattle.mr_bytes.specs.Lists.{Has}
use Rattle.mr_bytes.specs.declared.RecordName.{RecordName}
use Rattle.mr_bytes.specs.declared.Value.{Value}
use Rattle.mr_bytes.specs.declared.Value.TheVariants.{One, At}
use Rattle.mr_input.specs.Files.{nth_file}
use Rattle.mr_jobs.specs.JobSpec.{JobSpec, RequestSpec, folds_words, group_text_of}
use Rattle.mr_jobs.specs.declared.job.GroupText.{GroupText}
use Rattle.mr_jobs.specs.declared.job.GroupText.TheVariants.{Count, Lines, Files}
use Rattle.mr_jobs.specs.Emissions.{Emission, emissions, keys_of, value_at, value_for}
use Rattle.mr_jobs.specs.Literal.{Holds}
use Rattle.mr_jobs.proofs.KeyLemmas.{clear_key, keys_stand}
use Rattle.mr_records.specs.Records.{Record, records}
use Rattle.mr_records.proofs.LawLemmas.{no_line_feeds}
use Rattle.mr_splits.specs.Belongs.{Belongs}
use Rattle.mr_splits.specs.Named.{NamedRecord, named_records, is_left_out}
use Rattle.mr_splits.proofs.BelongLemmas.{records-belong}
use Rattle.mr_splits.proofs.JoinedLemmas.{named-are-records}
use Rattle.mr_splits.specs.Laws.{record_of}
use Rattle.mr_bytes.specs.Pairs.{Triple}
use Rattle.mr_sequential.specs.Emitted.{placed_from, record_triples, emitted}
use Rattle.mr_bytes.proofs.ListLaws.{Has-all, Has-flat_map_from, Has-map, Has-map_from}
use Rattle.mr_shards.specs.Outputs.{IsJudged}
use Rattle.mr_shards.specs.Portions.{Portion}

-- ---- what a record emits

pub record IsPairOf (form : GroupText) (file start : ℕ) (key : List ℕ) (value : Value) : Type 0 where
  pub clear : Lacks 10 key
  pub value_is : value ≡ value_for form file start

emission-pairs : (job : JobSpec) (file start : ℕ) (line : List ℕ) (e : Emission) → Lacks 10 line → Has (emissions job file start line) e → IsPairOf (group_text_of job) file start e.0 e.1
emission-pairs job file start line e clear h =
    let w = Has-map_from (λ key. (key, value_at job file start)) (keys_of job line) e h in
    let stands = Has-all (Holds (folds_words job) line) (keys_of job line) w.0 (recursion_from_All (Holds (folds_words job) line) (keys_of job line) (keys_stand job line)) w.1 in
    subst (λ (f : Emission). IsPairOf (group_text_of job) file start f.0 f.1) w.2 (record { clear = clear_key (folds_words job) line w.0 clear stands; value_is = refl })

placed-from : (name : RecordName) (place : ℕ) (es : List Emission) (t : Triple) → Has (placed_from name place es) t → (e : Emission) × Has es e × (e.0 ≡ t.key) × (e.1 ≡ t.value)
unfolding placed_from
placed-from name place [] t h = absurd h
placed-from name place (e ∷ es) t (inl is) = (e, inl refl, ap (λ (u : Triple). u.key) is, ap (λ (u : Triple). u.value) is)
placed-from name place (e ∷ es) t (inr h) = let r = placed-from name (place + 1) es t h in (r.0, inr r.1, r.2, r.3)

-- ---- records

Lacks-all : (b : ℕ) (xs : List ℕ) → AllByRecursion (λ x. x ≢ b) xs → Lacks b xs
Lacks-all b [] h = tt
Lacks-all b (x ∷ xs) h = (h.0, Lacks-all b xs h.1)

file-small : (files : List (List ℕ)) (i : ℕ) → AllByRecursion (λ f. length f < 2 ^ 64) files → length (nth_file files i) < 2 ^ 64
file-small [] i all = omega arith
file-small (f ∷ fs) zero all = all.0
file-small (f ∷ fs) (suc i) all = file-small fs i all.1

-- a record of the input: no line feed, and its file and start can be counted
record IsFineRecord (r : NamedRecord) : Type 0 where
  pub clear : Lacks 10 r.bytes
  pub file : r.file < 2 ^ 64
  pub start : r.start < 2 ^ 64

-- a record by its name is one of a file's
record-bytes : (size : ℕ) (files : List (List ℕ)) (r : NamedRecord) → Has (named_records size files) r → Lacks 10 r.bytes
record-bytes size files r h =
    let one : Has (flat_map records files) (record_of r) = subst (λ (rs : List Record). Has rs (record_of r)) (named-are-records size files) (Has-map record_of (named_records size files) r h) in
    let w = Has-flat_map_from records files (record_of r) one in
    let each = recursion_from_All (λ (q : Record). All (λ x. x ≢ 10) q.bytes) (records w.0) (no_line_feeds w.0) in
    let bytes : All (λ x. x ≢ 10) r.bytes = Has-all (λ (q : Record). All (λ x. x ≢ 10) q.bytes) (records w.0) (record_of r) each w.2 in
    Lacks-all 10 r.bytes (recursion_from_All (λ x. x ≢ 10) r.bytes bytes)

record-fine : (size : ℕ) (files : List (List ℕ)) (r : NamedRecord) → length files < 2 ^ 64 → AllByRecursion (λ f. length f < 2 ^ 64) files
    → Has (named_records size files) r → Belongs size files r → IsFineRecord r
record-fine size files r few small h b = record {
  clear = record-bytes size files r h;
  file = omega (arith, few, b.split.file, b.file);
  start = omega (arith, b.before, b.split.end, file-small files b.place.file small);
}

-- ---- all pairs

-- a pair's key and value, where the value can be counted
abbrev pub IsCounted : GroupText → Value → Type 0
IsCounted Count v = v ≡ One
IsCounted Lines v = (file : ℕ) × (offset : ℕ) × (file < 2 ^ 64) × (offset < 2 ^ 64) × (v ≡ At file offset)
IsCounted Files v = (file : ℕ) × (offset : ℕ) × (file < 2 ^ 64) × (offset < 2 ^ 64) × (v ≡ At file offset)

pub record IsFinePair (form : GroupText) (t : Triple) : Type 0 where
  pub clear : Lacks 10 t.key
  pub value_is : IsCounted form t.value

counted : (form : GroupText) (file start : ℕ) (v : Value) → file < 2 ^ 64 → start < 2 ^ 64 → v ≡ value_for form file start → IsCounted form v
counted Count file start v f s is = is
counted Lines file start v f s is = (file, start, f, s, is)
counted Files file start v f s is = (file, start, f, s, is)

record-pairs : (job : JobSpec) (skips : List RecordName) (r : NamedRecord) (t : Triple) → IsFineRecord r → Has (record_triples job skips r) t → IsFinePair (group_text_of job) t
record-pairs job skips r t fine h = by (is_left_out skips r.name) h
  where
    by : (b : Bool) → Has (cond b [] (placed_from r.name 0 (emissions job r.file r.start r.bytes))) t → IsFinePair (group_text_of job) t
    by true none = absurd none
    by false there =
        let w = placed-from r.name 0 (emissions job r.file r.start r.bytes) t there in
        let p : IsPairOf (group_text_of job) r.file r.start w.0.0 w.0.1 = emission-pairs job r.file r.start r.bytes w.0 fine.clear w.1 in
        record { clear = subst (Lacks 10) w.2 p.clear; value_is = subst (IsCounted (group_text_of job)) w.3 (counted (group_text_of job) r.file r.start w.0.1 fine.file fine.start p.value_is) }

pub pairs-fine : (request : RequestSpec) (s : Portion) (t : Triple) → 0 < request.split → IsJudged request s → Has (emitted request.job request.split s.files s.skips) t → IsFinePair (group_text_of request.job) t
pairs-fine request s t some judged h =
    let w = Has-flat_map_from (record_triples request.job s.skips) (named_records request.split s.files) t h in
    let b : Belongs request.split s.files w.0 =
    Has-all (Belongs request.split s.files) (named_records request.split s.files) w.0
    (recursion_from_All (Belongs request.split s.files) (named_records request.split s.files) (records-belong request.split s.files some)) w.1 in
    record-pairs request.job s.skips w.0 t (record-fine request.split s.files w.0 judged.few_files judged.small_files w.1 b) w.2
