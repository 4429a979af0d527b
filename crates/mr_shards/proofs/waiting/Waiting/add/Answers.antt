use Rattle.std.proofs.Common.{◌∙◌, ◌++◌, [], ◌∷◌, ℕ, List, ap, refl, subst, sym}
use Rattle.mr_bytes.specs.declared.Value.TheVariants.{At}
use Rattle.mr_reduce.specs.Text.{text_of}
use Rattle.mr_shards.specs.Views.{HoldsValues, Waits}
use Rattle.mr_shards.proofs.WaitingLemmas.{holds-files, holds-place, holds-total}
use Rattle.mr_shards.proofs.waiting.Waiting.add.Goals as goal

pub returns-in-Some-clause-holds : goal.returns-in-Some-clause-holds
returns-in-Some-clause-holds c = λ vs h.
    let job = c.args.job.now in
    let w : Waits = record { some = c.self.inside.some; key = c.self.inside.key.items; total = c.self.inside.total; text = c.self.inside.text.items; last = c.self.inside.last } in
    let v : Waits = record { some = w.some; key = w.key; total = c.in-Some.total; text = w.text; last = w.last } in
    holds-total job c.args.line.tally c.in-Total.total w v vs c.in-Total.is c.requires c.in-Some.ensures.1 (subst (λ (x : Waits). HoldsValues job x vs) (sym c.self.view_is) h)

pub returns-in_ok-group_text-in-Place-clause-holds : goal.returns-in_ok-group_text-in-Place-clause-holds
returns-in_ok-group_text-in-Place-clause-holds c = λ vs h.
    let job = c.args.job.now in
    let w : Waits = record { some = c.self.inside.some; key = c.self.inside.key.items; total = c.self.inside.total; text = c.self.inside.text.items; last = c.self.inside.last } in
    let v : Waits = record { some = w.some; key = w.key; total = w.total; text = c.group_text.new.out.items; last = w.last } in
    holds-place job c.args.line.tally c.in-Place.file c.in-Place.offset w v vs c.in-Place.is c.requires refl refl
    (c.in_ok-group_text-in-Place.ensures.ok ∙ ap (λ (k : List ℕ). w.text ++ text_of job k (At c.in-Place.file c.in-Place.offset ∷ [])) c.as_slice.ensures.value)
    (subst (λ (x : Waits). HoldsValues job x vs) (sym c.self.view_is) h)

pub returns-in_ok-self-inside-in-Files-clause-holds : goal.returns-in_ok-self-inside-in-Files-clause-holds
returns-in_ok-self-inside-in-Files-clause-holds c = λ vs h.
    let job = c.args.job.now in
    let w : Waits = record { some = c.self.inside.some; key = c.self.inside.key.items; total = c.self.inside.total; text = c.self.inside.text.items; last = c.self.inside.last } in
    let v : Waits = record { some = w.some; key = w.key; total = w.total; text = c.append_files.new.text.items; last = c.in_ok-self-inside-in-Files.field-0 } in
    holds-files job c.args.line.tally c.in-Files.list c.in-Files.last c.in-Files.moved w v vs c.in-Files.is c.requires refl refl
    c.in_ok-self-inside-in-Files.ensures.text c.in_ok-self-inside-in-Files.ensures.last (subst (λ (x : Waits). HoldsValues job x vs) (sym c.self.view_is) h)
