use Rattle.std.proofs.Common.{◌≡◌, ℕ, ◌<◌, ◌≤◌, ◌+◌, ◌-◌, ◌++◌, List, All, drop, take, length, get_or, ap, ◌∙◌, sym, refl, arith, Vec, Global, set, subst, map}
use Rattle.std.proofs.lemmas.List.{drop-drop, get_or_default, length-drop, length-map}
use Rattle.mr_bytes.specs.declared.Name.{Name}
use Rattle.mr_certform.specs.declared.certificate.FlatGroups.{FlatGroups}
use Rattle.mr_reduce.specs.Files.{NeverFalls}
use Rattle.mr_reduce.specs.Text.{text_of}
use Rattle.mr_input.specs.Files.{contents, nth_file}
use Rattle.mr_group.specs.declared.rows.Row.{Row}
use Rattle.mr_group.specs.Rows.{no_row}
use Rattle.mr_splits.specs.Cut.{records_of}
use Rattle.mr_sequential.specs.Names.{IsOfRecord, value_under}
use Rattle.mr_sequential.specs.Rows.{names_text, row_names, row_start}
use Rattle.mr_group.proofs.BucketLemmas.{before-zero}
use Rattle.mr_sequential.proofs.FillLemmas.{row-next, row-within}
use Rattle.mr_sequential.proofs.TextLemmas.{row_more, row_end}
use Rattle.mr_sequential.proofs.texts.name_texts.Goals as goal

pub loop-rank-init : goal.loop-rank-init
loop-rank-init c = record {
  left = c.names-left.ensures ∙ sym (ap (λ n. drop n c.args.groups.now.names) (before-zero (λ k. get_or c.args.groups.now.entry_counts.items k 0)));
  count = refl;
  texts = λ p h. refl;
}

-- the next row's names are among those that are left
within : (g : FlatGroups) (left : List Name) (rank rows : ℕ) → left ≡ drop (row_start g.entry_counts.items rank) g.names → rank < rows
    → row_start g.entry_counts.items rows ≤ length g.names → get_or g.entry_counts.items rank 0 ≤ length left
within g left rank rows at h room =
    let cs : List ℕ = g.entry_counts.items in
    omega (arith, ap length at, length-drop (row_start cs rank) g.names, row-next cs rank, row-within cs rank rows h, room)

-- the names of the next row
row_is : (g : FlatGroups) (left here : List Name) (rank count : ℕ) → left ≡ drop (row_start g.entry_counts.items rank) g.names
    → count ≡ get_or g.entry_counts.items rank 0 → here ≡ take count left → here ≡ row_names g rank
row_is g left here rank count at counted is =
    let cs : List ℕ = g.entry_counts.items in
    is ∙ ap (take count) at
    ∙ ap (λ n. take n (drop (row_start cs rank) g.names)) (let e : count ≡ row_start cs (rank + 1) - row_start cs rank = omega (arith, counted, row-next cs rank) in e)

-- and those behind them
behind_is : (g : FlatGroups) (left behind : List Name) (rank count : ℕ) → left ≡ drop (row_start g.entry_counts.items rank) g.names
    → count ≡ get_or g.entry_counts.items rank 0 → behind ≡ drop count left → behind ≡ drop (row_start g.entry_counts.items (rank + 1)) g.names
behind_is g left behind rank count at counted is =
    let cs : List ℕ = g.entry_counts.items in
    is ∙ ap (drop count) at ∙ drop-drop count (row_start cs rank) g.names
    ∙ ap (λ n. drop n g.names) (let e : row_start cs rank + count ≡ row_start cs (rank + 1) = omega (arith, counted, row-next cs rank) in e)

-- how many names the next row has
count_is : (g : FlatGroups) (rank rows seen : ℕ) → rank < rows → length g.entry_counts.items ≡ rows → seen ≡ get_or g.entry_counts.items rank seen
    → seen ≡ get_or g.entry_counts.items rank 0
count_is g rank rows seen h all is = is ∙ get_or_default g.entry_counts.items rank seen 0 (omega (arith, h, all))

pub split_at-here-requires : goal.split_at-here-requires
split_at-here-requires c =
    let g = c.args.groups.now in
    let l = c.loop-rank in
    omega (
      arith,
      count_is g l.rank (length c.args.rows.now) c.index.result.now c.loop-rank-test.true c.requires.names.one_each c.index.ensures,
      within g l.left l.rank (length c.args.rows.now) l.invariant.left c.loop-rank-test.true c.requires.names.within,
    )

pub add_names-requires-clause-named : goal.add_names-requires-clause-named
add_names-requires-clause-named c =
    let g = c.args.groups.now in
    let l = c.loop-rank in
    let count = count_is g l.rank (length c.args.rows.now) c.index.result.now c.loop-rank-test.true c.requires.names.one_each c.index.ensures in
    subst (All (IsOfRecord c.args.plan.now)) (sym (row_is g l.left c.split_at-here.result.0 l.rank c.index.result.now l.invariant.left count c.split_at-here.ensures.front))
    (c.requires.names.named l.rank c.loop-rank-test.true)

pub add_names-requires-clause-rising : goal.add_names-requires-clause-rising
add_names-requires-clause-rising c =
    let g = c.args.groups.now in
    let l = c.loop-rank in
    let count = count_is g l.rank (length c.args.rows.now) c.index.result.now c.loop-rank-test.true c.requires.names.one_each c.index.ensures in
    subst (λ (names : List Name). NeverFalls (map (value_under c.args.job.now (records_of c.args.plan.now)) names))
    (sym (row_is g l.left c.split_at-here.result.0 l.rank c.index.result.now l.invariant.left count c.split_at-here.ensures.front))
    (c.requires.names.rising l.rank c.loop-rank-test.true)

pub loop-rank-preserved : goal.loop-rank-preserved
loop-rank-preserved c =
    let rows : List Row = c.args.rows.now in
    let l = c.loop-rank in
    let r : ℕ = l.rank in
    let x : Row = get_or rows r no_row in
    let g = c.args.groups.now in
    let job = c.args.job.now in
    let all = records_of c.args.plan.now in
    let ts : List (List ℕ) = contents l.texts.items in
    let is : x ≡ get_or rows r x = get_or_default rows r no_row x c.loop-rank-test.true in
    let part : x.part < length ts =
    omega (arith, c.requires.parts r no_row c.loop-rank-test.true, l.invariant.count, length-map l.texts.items (λ (f : Vec ℕ Global). f.items)) in
    let count = count_is g r (length rows) c.index.result.now c.loop-rank-test.true c.requires.names.one_each c.index.ensures in
    let grown : contents c.add_names.new.texts.items ≡ set ts x.part (nth_file ts x.part ++ names_text job all g r x) =
    c.in_ok-add_names.ensures.ok
    ∙ ap (λ (names : List Name). set ts x.part (nth_file ts x.part ++ text_of job x.key.now (map (value_under job all) names)))
    (row_is g l.left c.split_at-here.result.0 r c.index.result.now l.invariant.left count c.split_at-here.ensures.front) in
    record {
      left = behind_is g l.left c.split_at-here.result.1 r c.index.result.now l.invariant.left count c.split_at-here.ensures.back;
      count = c.in_ok-add_names.ensures.count ∙ l.invariant.count;
      texts = λ p h.
          row_more (names_text job all g) rows r x ts (contents c.add_names.new.texts.items) p c.loop-rank-test.true is part grown
          ∙ l.invariant.texts p h;
    }

pub returns-clause-ok : goal.returns-clause-ok
returns-clause-ok c = λ p h.
    sym (row_end (names_text c.args.job.now (records_of c.args.plan.now) c.args.groups.now) c.args.rows.now c.loop-rank.rank p
    (nth_file (contents c.loop-rank.texts.items) p) c.loop-rank-test.false)
    ∙ c.loop-rank.invariant.texts p h
