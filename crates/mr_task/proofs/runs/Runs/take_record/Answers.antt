use Rattle.std.proofs.Common.{◌≡◌, ℕ, ◌+◌, List, [], ◌∷◌, ◌++◌, length, take, drop, refl, subst, sym, ap, ◌∙◌, arith}
use Rattle.std.proofs.lemmas.List.{append-nil, take-append-drop, take_more}
use Rattle.mr_group.proofs.ListLemmas.{head-of_drop}
use Rattle.mr_bytes.specs.declared.RecordName.{RecordName}
use Rattle.mr_bytes.specs.declared.Value.{Value}
use Rattle.mr_bytes.specs.Lists.{Rises}
use Rattle.mr_bytes.specs.Order.{name_order}
use Rattle.mr_bytes.specs.Pairs.{Triple}
use Rattle.mr_jobs.specs.Emissions.{Emission, emissions}
use Rattle.mr_jobs.proofs.CountLemmas.{few_emissions}
use Rattle.mr_sequential.specs.Emitted.{placed_from}
use Rattle.mr_spill.specs.Column.{names_of}
use Rattle.mr_task.specs.Runs.{Takes}
use Rattle.mr_task.proofs.RunLemmas.{alike-then, later-rise, next-rises, takes-more, takes-none}
use Rattle.mr_task.proofs.runs.Runs.take_record.Goals as goal

abbrev placed : RecordName → ℕ → List ℕ → Value → Triple
placed name place key value = record { key = key; value = value; name = record { split = name.split; rec = name.rec; place = place } }

placed-next : (name : RecordName) (place : ℕ) (key : List ℕ) (value : Value) (es : List Emission)
    → placed_from name place ((key, value) ∷ es) ≡ placed name place key value ∷ placed_from name (place + 1) es
unfolding placed_from
placed-next name place key value es = refl

placed-last : (name : RecordName) (place : ℕ) → placed_from name place [] ≡ []
unfolding placed_from
placed-last name place = refl

-- what is left begins with the next pair
left : (name : RecordName) (place : ℕ) (ts : List Triple) (now later : List Emission) (key : List ℕ) (value : Value)
    → drop place ts ≡ placed_from name place now → now ≡ (key, value) ∷ later
    → drop place ts ≡ placed name place key value ∷ placed_from name (place + 1) later
left name place ts now later key value e is = e ∙ ap (placed_from name place) is ∙ placed-next name place key value later

pub loop-key-init : goal.loop-key-init
loop-key-init c =
    let line = c.args.line in
    let all : c.emitter-emitter.result ≡ emissions c.args.mapper.now.job line.file line.start line.bytes.now = c.emitter-emitter.ensures ∙ c.in_ok-emit.ensures.emissions in
    record {
      alike = record { split = refl; by = refl; parts = refl };
      own = c.requires.own;
      count = omega (arith, ap length all);
      left = ap (placed_from c.args.number 0) (sym all);
      rise = c.requires.rise;
      taken = takes-none c.args.self.now;
    }

pub push-requires-clause-rise : goal.push-requires-clause-rise
push-requires-clause-rise c =
    let line = c.args.line in
    let ts : List Triple = placed_from c.args.number 0 (emissions c.args.mapper.now.job line.file line.start line.bytes.now) in
    let waiting : List Triple = c.loop-key.self.buffer.pairs in
    let t : Triple = placed c.args.number c.loop-key.place c.in-Some.key.now c.in-Some.value in
    let rest : List Triple = placed_from c.args.number (c.loop-key.place + 1) c.next.new.self in
    let is = left c.args.number c.loop-key.place ts c.loop-key.emitter c.next.new.self c.in-Some.key.now c.in-Some.value c.loop-key.invariant.left c.in-Some.ensures.next in
    next-rises waiting t rest (subst (λ (l : List Triple). Rises name_order (names_of (waiting ++ l))) is c.loop-key.invariant.rise)

pub overflow_add-place : goal.overflow_add-place
overflow_add-place c =
    let line = c.args.line in
    omega (arith, c.loop-key.invariant.count, ap length c.in-Some.ensures.next, few_emissions c.args.mapper.now.job line.file line.start line.bytes.now, c.requires.small)

pub loop-key-preserved : goal.loop-key-preserved
loop-key-preserved c =
    let line = c.args.line in
    let ts : List Triple = placed_from c.args.number 0 (emissions c.args.mapper.now.job line.file line.start line.bytes.now) in
    let waiting : List Triple = c.loop-key.self.buffer.pairs in
    let place : ℕ = c.loop-key.place in
    let t : Triple = placed c.args.number place c.in-Some.key.now c.in-Some.value in
    let rest : List Triple = placed_from c.args.number (place + 1) c.next.new.self in
    let is = left c.args.number place ts c.loop-key.emitter c.next.new.self c.in-Some.key.now c.in-Some.value c.loop-key.invariant.left c.in-Some.ensures.next in
    let next = head-of_drop place ts rest t t is in
    let later : drop (place + 1) ts ≡ rest = next.2 in
    record {
      alike = alike-then c.args.self.now c.loop-key.self c.push.new.self c.loop-key.invariant.alike c.in_ok-push.ensures.alike;
      own = c.in_ok-push.ensures.own;
      count = omega (arith, c.loop-key.invariant.count, ap length c.in-Some.ensures.next);
      left = later;
      rise = subst (λ (l : List Triple). Rises name_order (names_of (c.push.new.self.buffer.pairs ++ l))) (sym later)
          (later-rise waiting c.push.new.self.buffer.pairs t rest c.in_ok-push.ensures.waiting
          (subst (λ (l : List Triple). Rises name_order (names_of (waiting ++ l))) is c.loop-key.invariant.rise));
      taken = takes-more (take place ts) (t ∷ []) (take (place + 1) ts) c.args.self.now c.loop-key.self c.push.new.self
          (take_more ts place t next.0 ∙ ap (λ (u : Triple). take place ts ++ u ∷ []) next.1) c.loop-key.invariant.taken c.in_ok-push.ensures.taken;
    }

pub returns-clause-taken : goal.returns-clause-taken
returns-clause-taken c =
    let line = c.args.line in
    let ts : List Triple = placed_from c.args.number 0 (emissions c.args.mapper.now.job line.file line.start line.bytes.now) in
    let place : ℕ = c.loop-key.place in
    let none : drop place ts ≡ [] =
    c.loop-key.invariant.left ∙ ap (placed_from c.args.number place) c.in_default.ensures.next ∙ placed-last c.args.number place in
    let all : take place ts ≡ ts = sym (append-nil (take place ts)) ∙ ap (λ (l : List Triple). take place ts ++ l) (sym none) ∙ take-append-drop place ts in
    subst (λ (l : List Triple). Takes l c.args.self.now c.loop-key.self) all c.loop-key.invariant.taken
