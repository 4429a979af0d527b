use Rattle.std.proofs.Common.{◌≡◌, ◌<◌, ℕ, [], length, get_or, map}
use Rattle.std.specs.List.{flat_map}
use Rattle.mr_spill.specs.Groups.{pairs_of, piece}
use Rattle.mr_spill.specs.Sealed.{IsText}
use Rattle.mr_spill.proofs.sealed.spelled_all.Given as goal

abbrev pub invariant-loop-part : goal.invariant-loop-part
invariant-loop-part l = record {
  count : length l.texts.items ≡ l.part;
  each : (p : ℕ) → p < l.part → IsText l.split p (flat_map pairs_of (piece l.cut.groups l.cut.ends.items p)) (get_or (map (λ b. b.items) l.texts.items) p []);
}
