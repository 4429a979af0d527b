use Rattle.std.proofs.Common.{◌≡◌, ◌++◌, ◌∷◌, ℕ, List, ap, ◌∙◌, subst}
use Rattle.std.specs.Prelude.{decimal, not}
use Rattle.std.specs.Str.{bytes_eq}
use Rattle.mr_shards.specs.Reading.{RangeFits}
use Rattle.mr_shards.specs.Verdict.{ending, place_told}
use Rattle.mr_shards.proofs.OneLaws.{ending-told, not-not}
use Rattle.mr_shards.proofs.SpellLemmas.{decimal-space, ending-space}
use Rattle.mr_shards.proofs.reading.place_of.Goals as goal

pub returns-clause-place : goal.returns-clause-place
returns-clause-place c = λ n fits e.
    let told : c.args.told.now ≡ decimal n.from ++ 32 ∷ (ending n ++ 32 ∷ n.name) = e ∙ ap (λ b. place_told b n) c.if-old.false in
    let how = ending-told n (subst (λ b. RangeFits b n) c.if-old.false fits) in
    let a = c.parted.ensures (decimal n.from) (ending n ++ 32 ∷ n.name) (decimal-space n.from fits.near) told in
    let b = c.parted-2.ensures (ending n) n.name (ending-space n) a.1 in (
      c.number_or_zero.ensures n.from fits.near a.0,
      c.ne.ensures ∙ ap (λ (w : List ℕ). not (bytes_eq w c.as_slice.result.now)) b.0 ∙ ap (λ (w : List ℕ). not (bytes_eq (ending n) w)) c.as_slice.ensures
          ∙ ap not how.0 ∙ not-not n.closed,
      c.ne-2.ensures ∙ ap (λ (w : List ℕ). not (bytes_eq w c.as_slice-2.result.now)) b.0 ∙ ap (λ (w : List ℕ). not (bytes_eq (ending n) w)) c.as_slice-2.ensures
          ∙ ap not how.1 ∙ not-not n.ends,
      b.1,
    )
