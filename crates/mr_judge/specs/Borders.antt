-- Of no public promise: the borders between the groups of a partition, from which it may be judged on.
use Rattle.std.specs.Prelude.{ℕ, ◌≤◌, ◌^◌}
use Rattle.std.specs.Option.{option_map}
use Rattle.mr_verdict.specs.Verdict.{Reached, start}
use Rattle.mr_verdict.specs.Steps.{Ground}
use Rattle.mr_judge.specs.declared.border.Border.{Border}
use Rattle.mr_judge.specs.declared.parts.PlainWalk.{PlainWalk}

-- what is remembered at a border, of all that bears on what stands behind it
abbrev pub at_border : Border → Reached
at_border b = record start { next = b.next; groups = b.groups; group = b.group; key_before = option_map (λ k. k.now) b.key_before; from = b.from }

-- of what is remembered behind a group, that part
abbrev pub between : Reached → Reached
between st = record start { next = st.next; groups = st.groups; group = st.group; key_before = st.key_before; from = st.from }

-- the same, and so many entries were named before
abbrev pub behind_entries : Border → ℕ → Reached
behind_entries b named = record (at_border b) { named = named }

-- a border that leaves room to count on
pub record IsSmall (b : Border) : Type 0 where
  pub next : b.next ≤ 2 ^ 32
  pub group : b.group ≤ 2 ^ 32

-- what a walk judges against
abbrev pub ground_of : PlainWalk → Ground
ground_of w = record { request = w.request.now; triples = w.index.now }

-- what is remembered where it begins
abbrev pub begun_at : PlainWalk → Reached
begun_at w = behind_entries w.border w.named
