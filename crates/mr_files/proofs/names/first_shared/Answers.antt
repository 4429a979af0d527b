use Rattle.std.proofs.Common.{◌≡◌, ◌+◌, ◌++◌, ◌∷◌, [], ◌∙◌, ℕ, suc, List, map, take, drop, get_or, ap, sym, string_bytes, append_assoc, append-nil, arith, rules, subst}
use Rattle.std.proofs.lemmas.List.{take_all}
use Rattle.mr_files.specs.Identities.{HasSeen}
use Rattle.mr_files.proofs.Known.{apart_next, seen_more, shared_here}
use Rattle.mr_files.proofs.Lists.{names_more, names_split}
use Rattle.mr_files.proofs.names.first_shared.Goals as goal

pub loop-other-preserved : goal.loop-other-preserved
loop-other-preserved g c =
    let known = g.S.Store.known_as c.args.store.now in
    let names = c.args.read.now in
    let i = c.loop-other.other-index in
    let d = c.other-item.result in
    let same : c.as_str.result.now ≡ string_bytes (get_or names i d) = c.as_str.ensures.value ∙ ap string_bytes c.other-item.is in
    let seen = c.in_ok-was_seen.ensures in
    seen_more known c.loop-other.seen c.was_seen.new.seen (map string_bytes (take i names)) (map string_bytes (take (i + 1) names)) c.as_str.result.now seen.0 c.in_ok-was_seen.field-0
    (names_more string_bytes names i d c.loop-other-test.true ∙ ap (λ v. map string_bytes (take i names) ++ v ∷ []) (sym same)) c.loop-other.invariant seen.1 seen.2

pub loop-name-init : goal.loop-name-init
loop-name-init g c =
    let names = c.args.read.now in
    let all = ap (map string_bytes) (take_all c.loop-other.other-index names (omega (arith, c.loop-other-test.false))) in
    record {
      seen = subst (HasSeen (g.S.Store.known_as c.args.store.now) c.loop-other.seen) (all ∙ sym (append-nil (map string_bytes names))) c.loop-other.invariant;
      apart = search rules;
    }

pub returns-then-branch : goal.returns-then-branch
returns-then-branch g c =
    let known = g.S.Store.known_as c.args.store.now in
    let read = map string_bytes c.args.read.now in
    let written = c.args.written.now in
    let i = c.loop-name.name-index in
    let d = c.name-item.result in
    let before = map string_bytes (take i written) in
    let after = map string_bytes (drop (suc i) written) in
    let same : c.as_str-in-loop-name.result.now ≡ string_bytes (get_or written i d) = c.as_str-in-loop-name.ensures.value ∙ ap string_bytes c.name-item.is in
    let told : string_bytes c.in_ok-from_str.field-0 ≡ c.as_str-in-loop-name.result.now = c.in_ok-from_str.ensures.ok ∙ (c.as_str-then-branch.ensures.value ∙ sym c.as_str-in-loop-name.ensures.value) in
    let seen = c.in_ok-was_seen-2.ensures in
    shared_here known c.loop-name.seen c.was_seen-in-loop-name.new.seen read (map string_bytes written) before after c.as_str-in-loop-name.result.now (string_bytes c.in_ok-from_str.field-0) seen.0 c.in_ok-was_seen-2.field-0
    (names_split string_bytes written i d c.loop-name-test.true ∙ ap (λ (v : List ℕ). before ++ v ∷ after) (sym same)) told c.loop-name.invariant.seen seen.1 seen.2 c.if-branch.true c.loop-name.invariant.apart

pub loop-name-preserved : goal.loop-name-preserved
loop-name-preserved g c =
    let known = g.S.Store.known_as c.args.store.now in
    let read = map string_bytes c.args.read.now in
    let written = c.args.written.now in
    let i = c.loop-name.name-index in
    let d = c.name-item.result in
    let before = map string_bytes (take i written) in
    let all = map string_bytes (take (i + 1) written) in
    let name = c.as_str-in-loop-name.result.now in
    let same : name ≡ string_bytes (get_or written i d) = c.as_str-in-loop-name.ensures.value ∙ ap string_bytes c.name-item.is in
    let more : all ≡ before ++ name ∷ [] = names_more string_bytes written i d c.loop-name-test.true ∙ ap (λ (v : List ℕ). before ++ v ∷ []) (sym same) in
    let seen = c.in_ok-was_seen-2.ensures in
    record {
      seen = seen_more known c.loop-name.seen c.was_seen-in-loop-name.new.seen (read ++ before) (read ++ all) name seen.0 c.in_ok-was_seen-2.field-0
          (ap (λ (v : List (List ℕ)). read ++ v) more ∙ sym (append_assoc read before (name ∷ []))) c.loop-name.invariant.seen seen.1 seen.2;
      apart = apart_next known c.loop-name.seen c.was_seen-in-loop-name.new.seen read before all name seen.0 c.in_ok-was_seen-2.field-0 more c.loop-name.invariant.seen seen.1 seen.2 c.if-branch.false c.loop-name.invariant.apart;
    }
