use Rattle.std.proofs.Common.{ℕ, List, ◌++◌, length, sym, ap, ◌∙◌}
use Rattle.mr_spill.specs.Spelling.{u32}
use Rattle.mr_spill.proofs.ReadingLemmas.{front-cut, header-split}
use Rattle.mr_spill.proofs.reading.take_header.Goals as goal

pub returns-in_err-behind_split : goal.returns-in_err-behind_split
returns-in_err-behind_split c = rw c.from_residual-in_err-behind_split.ensures (λ n rest e.
    let behind : List ℕ = u32 c.args.partition ++ (u32 n ++ rest) in
    c.in_err-behind_split.ensures behind
    (header-split c.args.bytes.now c.in_ok-behind_magic.behind_magic.now c.args.split c.args.partition n rest c.in_ok-behind_magic.ensures e
    ∙ ap (λ (l : List ℕ). l ++ behind) (sym c.to_be_bytes.ensures)))

pub returns-in_err-behind_partition : goal.returns-in_err-behind_partition
returns-in_err-behind_partition c = rw c.from_residual-in_err-behind_partition.ensures (λ n rest e.
    c.in_err-behind_partition.ensures (u32 n ++ rest)
    ((front-cut c.to_be_bytes.result (u32 c.args.split) c.in_ok-behind_split.behind_split.now (u32 c.args.partition ++ (u32 n ++ rest)) (ap length c.to_be_bytes.ensures)
    (sym c.in_ok-behind_split.ensures ∙ header-split c.args.bytes.now c.in_ok-behind_magic.behind_magic.now c.args.split c.args.partition n rest c.in_ok-behind_magic.ensures e)).1
    ∙ ap (λ (l : List ℕ). l ++ (u32 n ++ rest)) (sym c.to_be_bytes-2.ensures)))
