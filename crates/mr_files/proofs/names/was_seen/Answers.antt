use Rattle.std.proofs.Common.{◌≡◌, Bool, true, false, Result, Ok, Err, Some, refl, ap, ◌∙◌, subst, string_bytes}
use Rattle.std.specs.Prelude.{not, IfOk, MatchResult, is_ok, option_map}
use Rattle.std.proofs.lemmas.Map.Text.{btree_set_updates_text}
use Rattle.mr_files.proofs.names.was_seen.Goals as goal

not_not : (b : Bool) → not (not b) ≡ b
not_not true = refl
not_not false = refl

was_put : {X Y : Type 0} (r : Result Bool X) (s : Result Bool Y) (a : Bool) (P : Bool → Type 0) (Q : X → Type 0) → MatchResult r (λ v. s ≡ Ok v) Q → s ≡ Ok a → is_ok s ≡ is_ok r → IfOk r P → P a
was_put (Ok v) s a P Q m e k h = subst P (cc (m, e)) h
was_put (Err x) s a P Q m e k h = absurd (cc (ap is_ok e, k))

pub returns-in_ok-added-in-Some : goal.returns-in_ok-added-in-Some
returns-in_ok-added-in-Some g c = (
  Some (string_bytes c.in-Some.id),
  subst (λ o. g.S.Store.known_as c.args.store.now c.args.name.now (option_map string_bytes o)) c.in-Some.is c.in_ok-id.ensures.known,
  (
    ap not (was_put c.insert.result c.map_err.result c.in_ok-added-in-Some.added _ _ c.map_err.ensures.cases c.in_ok-added-in-Some.was c.map_err.ensures.variant c.insert.ensures.added) ∙ not_not _,
    btree_set_updates_text (string_bytes c.in-Some.id) c.args.seen.now c.insert.new.self _
        (was_put c.insert.result c.map_err.result c.in_ok-added-in-Some.added _ _ c.map_err.ensures.cases c.in_ok-added-in-Some.was c.map_err.ensures.variant c.insert.ensures.updates),
  ),
)
