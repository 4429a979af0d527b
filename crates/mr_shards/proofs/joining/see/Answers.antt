use Rattle.std.proofs.Common.{◌≡◌, ◌↔◌, ◌⊎◌, ℕ, List, Bor, ap, sym, ◌∙◌, subst, inl, inr, map}
use Rattle.std.specs.Prelude.{not}
use Rattle.std.specs.Ordering.{is_eq, nat_cmp}
use Rattle.std.specs.Cmp.Lexicographic.{slice_cmp}
use Rattle.std.specs.Str.{bytes_eq}
use Rattle.std.specs.declared.cmp.Ordering.{Ordering}
use Rattle.std.proofs.lemmas.Map.Text.{is_eq-slice_cmp}
use Rattle.std.specs.BTreeSet.{insert_key}
use Rattle.mr_bytes.specs.Lists.{Has}
use Rattle.mr_shards.proofs.SeenLemmas.{any-has, has-any, inserted, keeps, not-false, puts}
use Rattle.mr_shards.proofs.joining.see.Goals as goal

abbrev bytes_of : Bor (List ℕ) → List ℕ
bytes_of k = k.now

abbrev order : Bor (List ℕ) → Bor (List ℕ) → Ordering
order a b = slice_cmp nat_cmp a.now b.now

ties : (a b : Bor (List ℕ)) → is_eq (order a b) ≡ bytes_eq (bytes_of a) (bytes_of b)
ties a b = is_eq-slice_cmp a.now b.now

pub returns-in-Ok-clause-fresh : goal.returns-in-Ok-clause-fresh
returns-in-Ok-clause-fresh c = λ e h.
    let found = has-any bytes_of order ties c.args.name c.args.seen.now.keys h in
    cc (sym e ∙ c.in-Ok.ensures.added ∙ ap not found)

pub returns-in-Ok-clause-again : goal.returns-in-Ok-clause-again
returns-in-Ok-clause-again c = λ e. any-has bytes_of order ties c.args.name c.args.seen.now.keys (not-false _ (sym c.in-Ok.ensures.added ∙ e))

pub returns-in-Ok-clause-kept : goal.returns-in-Ok-clause-kept
returns-in-Ok-clause-kept c =
    subst (λ (ks : List (Bor (List ℕ))). (n : List ℕ) → Has (map bytes_of ks) n ↔ (Has (map bytes_of c.args.seen.now.keys) n ⊎ (c.args.name.now ≡ n))) (sym c.in-Ok.ensures.keys)
    (λ n. (inserted bytes_of order ties c.args.name c.args.seen.now.keys n, back n))
  where
    back : (n : List ℕ) → Has (map bytes_of c.args.seen.now.keys) n ⊎ (c.args.name.now ≡ n) → Has (map bytes_of (insert_key order c.args.seen.now.keys c.args.name)) n
    back n (inl h) = keeps bytes_of order ties c.args.name c.args.seen.now.keys n h
    back n (inr e) = subst (Has (map bytes_of (insert_key order c.args.seen.now.keys c.args.name))) e (puts bytes_of order ties c.args.name c.args.seen.now.keys)
