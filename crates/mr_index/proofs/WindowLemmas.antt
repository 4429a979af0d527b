-- Windows beside all records: what one gives is of all that is emitted, and windows that tile give all.
use Rattle.std.proofs.Common.{◌≡◌, ℕ, zero, suc, ◌+◌, ◌-◌, ◌<◌, ◌≤◌, Some, List, [], ◌∷◌, ◌++◌, length, get_or, drop, take, slice_range, map, eqb, refl, sym, ◌∙◌, ap, subst, arith, inl, inr, length-append}
use Rattle.std.proofs.lemmas.List.{take-append-drop}
use Rattle.std.specs.List.{flat_map, zip}
use Rattle.mr_bytes.specs.declared.By.TheVariants.{Key as WholeKey}
use Rattle.mr_bytes.specs.declared.Name.{Name}
use Rattle.mr_bytes.specs.declared.RecordName.{RecordName}
use Rattle.mr_bytes.specs.declared.Value.{Value}
use Rattle.mr_bytes.specs.Lists.{Distinct, Has}
use Rattle.mr_bytes.specs.Pairs.{Triple}
use Rattle.mr_bytes.proofs.ListLaws.{Distinct-rises, Has-append_left, Has-append_right, Has-filter_from, Has-flat_map, Has-flat_map_from}
use Rattle.mr_input.specs.Files.{split_total}
use Rattle.mr_jobs.specs.JobSpec.{JobSpec}
use Rattle.mr_jobs.specs.Emissions.{Emission}
use Rattle.mr_splits.specs.Named.{NamedRecord, of_split}
use Rattle.mr_splits.specs.Cut.{Cut, records_of}
use Rattle.mr_splits.specs.Laws.{joined_splits}
use Rattle.mr_splits.proofs.JoinedLemmas.{joined-zero, splits-join}
use Rattle.mr_splits.proofs.ReadLemmas.{around, joined-last}
use Rattle.mr_sequential.specs.Emitted.{placed_from, record_triples}
use Rattle.mr_sequential.specs.Good.{named}
use Rattle.mr_sequential.specs.Names.{value_under}
use Rattle.mr_sequential.proofs.EntryLaws.{names_total}
use Rattle.mr_sequential.proofs.NameLaws.{names_rise}
use Rattle.mr_sequential.proofs.NamedLaws.{named-Has, named-of}
use Rattle.mr_sequential.proofs.SourceLemmas.{pair_of}
use Rattle.mr_sequential.proofs.ValueLemmas.{emitted-valued}
use Rattle.mr_index.specs.Index.{triples_of}
use Rattle.mr_index.specs.Windows.{window_records, window_triples, number_of, IsWindow, Follow, Tiles}
use Rattle.mr_index.specs.declared.window.Window.{Window}
use Rattle.mr_index.proofs.PairLemmas.{range-more, range-behind}
use Rattle.mr_index.proofs.GrowLemmas.{slice-none, slice-all, gives-join}

-- ---- windows one behind another

-- one more window
pub follow-push : (cut : Cut) (at middle last : ℕ) (ws : List Window) (w : Window) → Follow cut at ws middle → IsWindow cut w
    → number_of cut w.split w.from ≡ middle → number_of cut w.split w.end ≡ last → Follow cut at (ws ++ w ∷ []) last
follow-push cut at middle last [] w f own from end = (own, from ∙ sym f, end)
follow-push cut at middle last (v ∷ ws) w f own from end =
    (f.0, f.1, follow-push cut (number_of cut v.split v.end) middle last ws w f.2 own from end)

-- where records are counted from
pub number-first : (cut : Cut) → number_of cut 0 0 ≡ 0
number-first cut = ap (λ (l : List NamedRecord). length l + 0) (joined-zero 0 (records_of cut))

-- the next split begins where a split ends
pub number-next : (cut : Cut) (s : ℕ) → number_of cut s (length (of_split s (records_of cut))) ≡ number_of cut (s + 1) 0
number-next cut s =
    let rs : List NamedRecord = records_of cut in
    let next : s + 1 ≡ suc s = omega arith in
    let here : 0 + s ≡ s = omega arith in
    omega (
      arith,
      length-append (joined_splits 0 s rs) (of_split s rs),
      ap length (ap (λ (k : ℕ). joined_splits 0 k rs) next ∙ joined-last 0 s rs ∙ ap (λ (k : ℕ). joined_splits 0 s rs ++ of_split k rs) here),
    )

-- behind the last split there is no more record
pub number-last : (cut : Cut) (s : ℕ) → 0 < cut.size → s ≡ split_total cut.size cut.files → number_of cut s 0 ≡ length (records_of cut)
number-last cut s some is =
    let all = ap length (ap (λ (k : ℕ). joined_splits 0 k (records_of cut)) is ∙ splits-join cut.size cut.files some) in
    omega (arith, all)

-- the records of a window are some of all, one after another
window-range : (cut : Cut) (w : Window) → 0 < cut.size → IsWindow cut w
    → window_records cut w.split w.from w.end ≡ slice_range (records_of cut) (number_of cut w.split w.from) (number_of cut w.split w.end)
window-range cut w some own =
    let rs : List NamedRecord = records_of cut in
    let before : List NamedRecord = joined_splits 0 w.split rs in
    let mine : List NamedRecord = of_split w.split rs in
    let after : List NamedRecord = joined_splits (w.split + 1) (split_total cut.size cut.files - w.split - 1) rs in
    sym (range-more mine after w.from w.end own.order own.within)
    ∙ sym (range-behind before (mine ++ after) w.from w.end)
    ∙ ap (λ (l : List NamedRecord). slice_range l (length before + w.from) (length before + w.end)) (sym (around cut.size cut.files w.split some own.split))

follow-order : (cut : Cut) (at last : ℕ) (ws : List Window) → Follow cut at ws last → at ≤ last
follow-order cut at last [] f = omega (arith, f)
follow-order cut at last (w ∷ ws) f = omega (arith, f.0.order, f.1, follow-order cut (number_of cut w.split w.end) last ws f.2)

-- what windows give that follow one another
follow-all : {Y : Type 0} (gives : NamedRecord → List Y) (cut : Cut) (at last : ℕ) (ws : List Window) → 0 < cut.size → Follow cut at ws last
    → flat_map (λ (w : Window). flat_map gives (window_records cut w.split w.from w.end)) ws ≡ flat_map gives (slice_range (records_of cut) at last)
follow-all gives cut at last [] some f = sym (ap (flat_map gives) (ap (slice_range (records_of cut) at) (sym f) ∙ slice-none (records_of cut) at))
follow-all {Y} gives cut at last (w ∷ ws) some f =
    let rs : List NamedRecord = records_of cut in
    let mid : ℕ = number_of cut w.split w.end in
    let rest : List Y = flat_map (λ (v : Window). flat_map gives (window_records cut v.split v.from v.end)) ws in
    ap (λ (l : List NamedRecord). flat_map gives l ++ rest) (window-range cut w some f.0 ∙ ap (λ (k : ℕ). slice_range rs k mid) f.1)
    ∙ ap (λ (l : List Y). flat_map gives (slice_range rs at mid) ++ l) (follow-all gives cut mid last ws some f.2)
    ∙ sym (gives-join gives rs at mid last (omega (arith, f.0.order, f.1)) (follow-order cut mid last ws f.2))

-- windows that tile give all that is emitted
pub windows_all : (job : JobSpec) (cut : Cut) (skips : List RecordName) (ws : List Window) → 0 < cut.size → Tiles cut 0 0 ws
    → flat_map (λ (w : Window). window_triples job cut skips w.split w.from w.end) ws ≡ triples_of job cut skips
windows_all job cut skips ws some tiles =
    let rs : List NamedRecord = records_of cut in
    follow-all (record_triples job skips) cut (number_of cut 0 0) (length rs) ws some tiles
    ∙ ap (λ (k : ℕ). flat_map (record_triples job skips) (slice_range rs k (length rs))) (number-first cut)
    ∙ ap (flat_map (record_triples job skips)) (slice-all rs (length rs) refl)

follow-window : (cut : Cut) (at last i : ℕ) (ws : List Window) (none : Window) → Follow cut at ws last → i < length ws → IsWindow cut (get_or ws i none)
follow-window cut at last i [] none f h = absurd (omega arith)
follow-window cut at last zero (w ∷ ws) none f h = f.0
follow-window cut at last (suc i) (w ∷ ws) none f h = follow-window cut (number_of cut w.split w.end) last i ws none f.2 (omega arith)

-- each of them is a window
pub tiles_window : (cut : Cut) (s r i : ℕ) (ws : List Window) (none : Window) → Tiles cut s r ws → i < length ws → IsWindow cut (get_or ws i none)
tiles_window cut s r i ws none tiles h = follow-window cut (number_of cut s r) (length (records_of cut)) i ws none tiles h

-- ---- what a name finds in a window

names-distinct : (job : JobSpec) (cut : Cut) (skips : List RecordName) → 0 < cut.size → Distinct (map (λ (t : Triple). t.name) (triples_of job cut skips))
names-distinct job cut skips some =
    Distinct-rises names_total _ (names_rise (record { job = job; by = WholeKey; parts = 1; split = cut.size; skips = 0 }) cut.files skips some)

has-part : {X : Type 0} (xs : List X) (a b : ℕ) (x : X) → Has (slice_range xs a b) x → Has xs x
has-part {X} xs a b x h =
    subst (λ (l : List X). Has l x) (take-append-drop a xs)
    (Has-append_right (take a xs) (drop a xs) x
    (subst (λ (l : List X). Has l x) (take-append-drop (b - a) (drop a xs)) (Has-append_left (take (b - a) (drop a xs)) (drop (b - a) (drop a xs)) x h)))

-- what a window gives is given by all records
has-all : (job : JobSpec) (cut : Cut) (skips : List RecordName) (split from end : ℕ) (t : Triple)
    → Has (window_triples job cut skips split from end) t → Has (triples_of job cut skips) t
has-all job cut skips split from end t h =
    let rs : List NamedRecord = records_of cut in
    let from_record = Has-flat_map_from (record_triples job skips) (window_records cut split from end) t h in
    let there = Has-filter_from (λ (r : NamedRecord). eqb r.name.split split) rs from_record.0 (has-part (of_split split rs) from end from_record.0 from_record.1) in
    Has-flat_map (record_triples job skips) rs from_record.0 t there.0 from_record.2

-- the triple that a name finds in a window is the one that it finds among all
pub window_named : (job : JobSpec) (cut : Cut) (skips : List RecordName) (split from end : ℕ) (n : Name) (t : Triple) → 0 < cut.size
    → named (window_triples job cut skips split from end) n ≡ Some t → named (triples_of job cut skips) n ≡ Some t
window_named job cut skips split from end n t some is =
    let found = named-Has (window_triples job cut skips split from end) n t is in
    subst (λ (m : Name). named (triples_of job cut skips) m ≡ Some t) found.1
    (named-of (triples_of job cut skips) t (names-distinct job cut skips some) (has-all job cut skips split from end t found.0))

-- ---- what a name tells of its triple

zip-told : (f : Name → Value) (ts : List Triple) (t : Triple)
    → zip (map (λ (u : Triple). u.key) ts) (map f (map (λ (u : Triple). u.name) ts)) ≡ map pair_of ts → Has ts t → t.value ≡ f t.name
zip-told f [] t same h = absurd h
zip-told f (u ∷ ts) t same (inl is) =
    let here : (u.key, f u.name) ≡ (u.key, u.value) = ap (λ (l : List Emission). get_or l 0 (u.key, u.value)) same in
    subst (λ (w : Triple). w.value ≡ f w.name) is (sym (ap (λ (e : Emission). e.1) here))
zip-told f (u ∷ ts) t same (inr later) = zip-told f ts t (ap (drop 1) same) later

-- it has this name, and the value of the record that the name tells
pub value_told : (job : JobSpec) (cut : Cut) (skips : List RecordName) (n : Name) (t : Triple) → 0 < cut.size → named (triples_of job cut skips) n ≡ Some t
    → (t.name ≡ n) × (t.value ≡ value_under job (records_of cut) n)
value_told job cut skips n t some is =
    let found = named-Has (triples_of job cut skips) n t is in
    let told = zip-told (value_under job (records_of cut)) (triples_of job cut skips) t (emitted-valued job cut.size cut.files skips some) found.0 in
    (found.1, told ∙ ap (value_under job (records_of cut)) found.1)

-- ---- a window has each triple of its records

placed-of : (name : RecordName) (place : ℕ) (es : List Emission) (t : Triple) → Has (placed_from name place es) t
    → (t.name.split ≡ name.split) × (t.name.rec ≡ name.rec)
unfolding placed_from
placed-of name place [] t h = absurd h
placed-of name place (e ∷ es) t (inl is) = (ap (λ (u : Triple). u.name.split) (sym is), ap (λ (u : Triple). u.name.rec) (sym is))
placed-of name place (e ∷ es) t (inr later) = placed-of name (place + 1) es t later
