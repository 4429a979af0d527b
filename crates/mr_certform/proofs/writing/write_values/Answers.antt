use Rattle.std.proofs.Common.{◌≡◌, ℕ, List, [], ◌++◌, Bool, true, false, sym, ap, ◌∙◌, subst}
use Rattle.std.proofs.lemmas.List.{append-nil}
use Rattle.std.specs.Prelude.{Result, Ok, Err, OnOk, OnErr, MatchResult}
use Rattle.mr_store.specs.Devices.{Seen, FailsOnly, TookSome, with_bytes}
use Rattle.mr_certform.specs.Flat.{contents_of}
use Rattle.mr_certform.specs.Pieces.{all_bytes}
use Rattle.mr_certform.specs.Sinks.{Went}
use Rattle.mr_certform.specs.Buffers.{takes_joined}
use Rattle.mr_certform.proofs.writing.write_values.Goals as goal

-- how a buffer ends: with nothing held, or behind a failed call
abbrev Ended : {T E : Type 0} → Result T E → Bool → List ℕ → Type 0
Ended r failed held = MatchResult r (λ _. (failed ≡ false) × (held ≡ [])) (λ _. failed ≡ true)

ended_whole : {W T E : Type 0} (seen : W → Seen) (can_fail : W → Type 0) (lacked : W → Bool) (u w : W) (failed : Bool) (held all : List ℕ) (r : Result T E)
    → Went seen can_fail lacked u w false failed all held → Ended r failed held → OnOk r (seen w ≡ with_bytes (seen u) all)
ended_whole seen can_fail lacked u w failed held all (Err e) went ended = tt
ended_whole seen can_fail lacked u w failed held all (Ok x) went ended =
    let done : Went seen can_fail lacked u w false false all held = subst (λ b. Went seen can_fail lacked u w false b all held) ended.0 went in
    done.1 ∙ ap (with_bytes (seen u)) (sym (append-nil (done.0)) ∙ (ap (λ h. done.0 ++ h) (sym ended.1) ∙ done.2))

ended_broken : {W T E : Type 0} (seen : W → Seen) (can_fail : W → Type 0) (lacked : W → Bool) (u w : W) (failed : Bool) (held all : List ℕ) (r : Result T E)
    → Went seen can_fail lacked u w false failed all held → Ended r failed held → OnErr r (TookSome (seen u) (seen w) all) × FailsOnly (can_fail u) (lacked w) r
ended_broken seen can_fail lacked u w failed held all (Ok x) went ended = (tt, tt)
ended_broken seen can_fail lacked u w failed held all (Err e) went ended = subst (λ b. Went seen can_fail lacked u w false b all held) ended went

pub returns : goal.returns
returns g c =
    let seen = g.W.CountedWrite.seen in
    let can_fail = g.W.CountedWrite.can_fail in
    let lacked = g.W.CountedWrite.lacked in
    let old = c.args.buffered.now in
    let new = c.finish.new.self in
    let text = all_bytes c.args.version (contents_of c.args.flat.now) in
    let took = takes_joined seen can_fail lacked old c.put_values.new.out new text [] c.in-Ok.ensures.0 c.finish.ensures.takes in
    let begun : Went seen can_fail lacked old.writer.now new.writer.now false new.failed (old.piece ++ (text ++ [])) new.piece =
    subst (λ b. Went seen can_fail lacked old.writer.now new.writer.now b new.failed (old.piece ++ (text ++ [])) new.piece) c.requires.begins took.1.1 in
    let empty : Went seen can_fail lacked old.writer.now new.writer.now false new.failed (text ++ []) new.piece =
    subst (λ h. Went seen can_fail lacked old.writer.now new.writer.now false new.failed (h ++ (text ++ [])) new.piece) c.requires.empty begun in
    let went : Went seen can_fail lacked old.writer.now new.writer.now false new.failed text new.piece =
    subst (λ h. Went seen can_fail lacked old.writer.now new.writer.now false new.failed h new.piece) (append-nil text) empty in
    let broken = ended_broken seen can_fail lacked old.writer.now new.writer.now new.failed new.piece text c.finish.result went c.finish.ensures.ended in
    record {
      same_reference = took.0;
      whole = ended_whole seen can_fail lacked old.writer.now new.writer.now new.failed new.piece text c.finish.result went c.finish.ensures.ended;
      beginning = broken.0;
      fails = broken.1;
      later = took.1.0;
    }
