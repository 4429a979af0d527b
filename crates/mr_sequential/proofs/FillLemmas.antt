-- Texts from the groups: of a job that counts by their sizes, and of another by the values that their names tell.
use Rattle.std.proofs.Common.{◌≡◌, Bool, ℕ, ◌+◌, ◌-◌, ◌<◌, ◌≤◌, List, length, get_or, drop, filter, map, sym, ◌∙◌, ap, arith, subst, IsTrue, All}
use Rattle.std.proofs.lemmas.List.{get_or-map, length-map, length-take, length-drop}
use Rattle.std.proofs.lemmas.List.Elements.{All-filter, All-map}
use Rattle.std.specs.List.{flat_map}
use Rattle.std.specs.Str.{bytes_eq}
use Rattle.mr_bytes.specs.declared.Name.{Name}
use Rattle.mr_bytes.specs.declared.Value.{Value}
use Rattle.mr_bytes.specs.Pairs.{Triple}
use Rattle.mr_certform.specs.declared.certificate.FlatGroups.{FlatGroups}
use Rattle.mr_jobs.specs.JobSpec.{JobSpec, RequestSpec, counts}
use Rattle.mr_reduce.specs.Files.{NeverFalls}
use Rattle.mr_reduce.specs.Text.{text_of, total_line}
use Rattle.mr_reduce.proofs.TextLemmas.{counters_tell_the_number}
use Rattle.mr_group.specs.declared.rows.Row.{Row}
use Rattle.mr_group.specs.Rows.{no_row, row_key}
use Rattle.mr_group.proofs.BucketLemmas.{before-more, before-rises}
use Rattle.mr_splits.specs.Cut.{records_of}
use Rattle.mr_splits.specs.Kept.{Choice}
use Rattle.mr_splits.specs.Named.{NamedRecord}
use Rattle.mr_sequential.specs.Names.{IsOfRecord, triples_of, value_under}
use Rattle.mr_sequential.specs.Rows.{AreGrouped, HaveNames, count_line, names_text, row_names, row_start, row_texts}
use Rattle.mr_sequential.specs.Rules.{part, rules_of}
use Rattle.mr_sequential.specs.Sequential.{texts_of, triples_with, values_of}
use Rattle.mr_sequential.proofs.FileOrder.{key-rises}
use Rattle.mr_sequential.proofs.RankLemmas.{row_texts-keys}
use Rattle.mr_sequential.proofs.TextLemmas.{row_texts-congr}
use Rattle.mr_sequential.proofs.ValueLemmas.{names-named, told-each, told-values}

-- ---- the names of a row

pub row-next : (cs : List ℕ) (r : ℕ) → row_start cs (r + 1) ≡ row_start cs r + get_or cs r 0
row-next cs r = before-more (λ k. get_or cs k 0) r

pub row-within : (cs : List ℕ) (r n : ℕ) → r < n → row_start cs (r + 1) ≤ row_start cs n
row-within cs r n h = before-rises (λ k. get_or cs k 0) (r + 1) n (omega (arith, h))

row-length : (g : FlatGroups) (r : ℕ) → row_start g.entry_counts.items (r + 1) ≤ length g.names → length (row_names g r) ≡ get_or g.entry_counts.items r 0
row-length g r h =
    let a : ℕ = row_start g.entry_counts.items r in
    let b : ℕ = row_start g.entry_counts.items (r + 1) in
    omega (arith, length-take (b - a) (drop a g.names), length-drop a g.names, row-next g.entry_counts.items r, h)

-- the lines of a job that counts
pub counted-texts : (job : JobSpec) (all : List NamedRecord) (rows : List Row) (g : FlatGroups) (p : ℕ) → IsTrue (counts job)
    → row_start g.entry_counts.items (length rows) ≤ length g.names
    → row_texts (count_line g.entry_counts.items) p 0 rows ≡ row_texts (names_text job all g) p 0 rows
counted-texts job all rows g p counting room =
    let cs : List ℕ = g.entry_counts.items in
    row_texts-congr (count_line cs) (names_text job all g) p 0 rows
    (λ j h.
    (let key : List ℕ = (get_or rows j no_row).key.now in
    let r : ℕ = 0 + j in
    let vs : List Value = map (value_under job all) (row_names g r) in
    let within : row_start cs (r + 1) ≤ length g.names = omega (arith, row-within cs r (length rows) (omega (arith, h)), room) in
    ap (total_line key) (sym (length-map (row_names g r) (value_under job all) ∙ row-length g r within))
    ∙ sym (counters_tell_the_number job key vs counting)))

-- ---- the names of groups

some-names : (P : Name → Type 0) (keep : Triple → Bool) (ts : List Triple) → All P (map (λ (t : Triple). t.name) ts)
    → All P (map (λ (t : Triple). t.name) (filter keep ts))
some-names P keep ts all =
    All-map P (λ (t : Triple). t.name) (filter keep ts)
    (All-filter keep (λ (t : Triple). P t.name) ts
    (λ k d h. subst P (get_or-map (λ (t : Triple). t.name) ts k d d.name h) (all k d.name (omega (arith, h, length-map ts (λ (t : Triple). t.name))))))

pub have-names : (request : RequestSpec) (choice : Choice) (rows : List Row) (g : FlatGroups) → 0 < choice.cut.size
    → AreGrouped request (triples_of request.job choice) rows g → HaveNames request.job choice.cut (length rows) g
have-names request choice rows g some grouped =
    let ts : List Triple = triples_of request.job choice in
    let value : Name → Value = value_under request.job (records_of choice.cut) in
    record {
      one_each = grouped.one_each;
      within = grouped.within;
      named = λ r h. subst (All (IsOfRecord choice.cut)) (sym (grouped.names_are r h))
          (some-names (IsOfRecord choice.cut) (λ t. bytes_eq t.key (row_key (get_or rows r no_row))) ts
          (names-named request.job choice.cut choice.skips some));
      rising = λ r h. subst (λ (l : List Name). NeverFalls (map value l)) (sym (grouped.names_are r h))
          (key-rises request.job choice (row_key (get_or rows r no_row)) some);
    }

-- the texts of rows by the values that their names tell
pub grouped-texts : (request : RequestSpec) (choice : Choice) (rows : List Row) (g : FlatGroups) (p : ℕ) → 0 < choice.cut.size
    → AreGrouped request (triples_of request.job choice) rows g
    → row_texts (names_text request.job (records_of choice.cut) g) p 0 rows ≡ texts_of (rules_of request) (triples_of request.job choice) p
grouped-texts request choice rows g p some grouped =
    let job : JobSpec = request.job in
    let ts : List Triple = triples_of job choice in
    let value : Name → Value = value_under job (records_of choice.cut) in
    let T : List ℕ → List ℕ = λ k. text_of job k (values_of ts k) in
    let told : All (λ (t : Triple). value t.name ≡ t.value) ts = told-each job choice.cut.size choice.cut.files choice.skips some in
    row_texts-keys (part request) p 0 (names_text job (records_of choice.cut) g) T rows grouped.part_is
    (λ j h.
    (let key : List ℕ = row_key (get_or rows j no_row) in
    ap (λ n. text_of job key (map value (row_names g n))) (let e : 0 + j ≡ j = omega arith in e)
    ∙ ap (λ (l : List Name). text_of job key (map value l)) (grouped.names_are j h)
    ∙ ap (text_of job key) (told-values value (triples_with ts key) (All-filter (λ (t : Triple). bytes_eq t.key key) (λ (t : Triple). value t.name ≡ t.value) ts told))))
    ∙ ap (flat_map T) (grouped.keys_are p)
