use Rattle.std.proofs.Common.{◌≡◌, ◌++◌, ◌∷◌, ◌∙◌, [], List, All, map, ap, sym, subst, append_assoc}
use Rattle.std.proofs.lemmas.List.{append-nil, map-append}
use Rattle.std.proofs.lemmas.List.Elements.{All-tail}
use Rattle.std.proofs.lemmas.Result.{on_ok_weaker}
use Rattle.mr_bytes.specs.declared.Name.{Name}
use Rattle.mr_bytes.specs.declared.Value.{Value}
use Rattle.mr_jobs.specs.Emissions.{value_at}
use Rattle.mr_reduce.specs.Writing.{Writes}
use Rattle.mr_splits.specs.Cut.{records_of}
use Rattle.mr_splits.specs.Named.{NamedRecord}
use Rattle.mr_sequential.specs.Names.{IsOfRecord, value_under}
use Rattle.mr_sequential.proofs.FileOrder.{writable}
use Rattle.mr_sequential.proofs.texts.add_text.Goals as goal

pub loop-name-preserved : goal.loop-name-preserved
loop-name-preserved c =
    let job = c.args.job.now in
    let before = c.args.text.now.items in
    let value : Name → Value = value_under job (records_of c.args.plan.now) in
    let name : Name = c.in-Some.name in
    let was = c.loop-name.invariant in
    let done : List Name = was.0 in
    let is : c.value_at.result ≡ value name = c.value_at.ensures ∙ sym (ap (λ (r : NamedRecord). value_at job r.file r.start) c.locate-record.ensures.record) in
    let longer : map value (done ++ name ∷ []) ≡ map value done ++ c.value_at.result ∷ [] =
    map-append value done (name ∷ []) ∙ ap (λ (v : Value). map value done ++ v ∷ []) (sym is) in (
      done ++ name ∷ [],
      append_assoc done (name ∷ []) c.next.new.self ∙ ap (λ (l : List Name). done ++ l) (sym c.in-Some.ensures) ∙ was.1,
      All-tail (IsOfRecord c.args.plan.now) name c.next.new.self (subst (All (IsOfRecord c.args.plan.now)) c.in-Some.ensures was.2),
      subst (λ (vs : List Value). Writes job c.args.key.now vs before c.add.new.self c.add.new.out.items) (sym longer)
          (c.in_ok-add.ensures.ok job c.args.key.now (map value done) before was.3),
    )

pub returns : goal.returns
returns c =
    let job = c.args.job.now in
    let key = c.args.key.now in
    let names : List Name = c.args.names in
    let before = c.args.text.now.items in
    let value : Name → Value = value_under job (records_of c.args.plan.now) in
    let done : List Name = c.loop-name.invariant.0 in
    let all : done ≡ names = sym (append-nil done) ∙ ap (λ (l : List Name). done ++ l) (sym c.in_default.ensures.0) ∙ c.loop-name.invariant.1 in
    let was = subst (λ (l : List Name). Writes job key (map value l) before c.loop-name.writer c.loop-name.text.items) all c.loop-name.invariant.3 in
    let fits = writable job (map value names) c.requires.counts c.requires.rising in
    on_ok_weaker c.finish.result (λ all_written. all_written job key (map value names) before was fits) c.finish.ensures.ok
