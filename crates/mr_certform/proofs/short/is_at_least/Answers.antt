use Rattle.std.proofs.Common.{◌≡◌, ◌≤◌, sym, inl, inr, arith}
use Rattle.std.proofs.lemmas.Bool.{leb-true, le-leb}
use Rattle.mr_bytes.specs.declared.Name.{Name}
use Rattle.mr_certform.specs.Short.{IsAtLeast}
use Rattle.mr_certform.proofs.short.is_at_least.Goals as goal

-- in one record the places say it
places : (before name : Name) → name.split ≡ before.split → name.rec ≡ before.rec → IsAtLeast before name → before.place ≤ name.place
places before name split rec (inl less) = absurd (omega arith)
places before name split rec (inr (same, inl less)) = absurd (omega arith)
places before name split rec (inr (same, inr (same_rec, least))) = least

pub returns : goal.returns
returns c =
    let before = c.args.before in
    let name = c.args.name in
    (λ t. inr (sym c.if-name-before.false, inr (sym c.if-name-before-2.false, leb-true before.place name.place t)), λ h. le-leb before.place name.place (places before name c.if-name-before.false c.if-name-before-2.false h))
