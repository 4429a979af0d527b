use Rattle.std.proofs.Common.{◌≡◌, ℕ, ◌+◌, List, [], ◌∷◌, ◌++◌, take, sym, ◌∙◌, ap, subst, arith}
use Rattle.std.proofs.lemmas.List.{append_assoc, take_more}
use Rattle.std.specs.List.{AllByRecursion, flat_map}
use Rattle.mr_bytes.specs.Pairs.{Triple}
use Rattle.mr_spill.specs.Column.{no_pair, nth_pair}
use Rattle.mr_spill.specs.Entries.{under_key}
use Rattle.mr_spill.specs.Groups.{nth_group}
use Rattle.mr_spill.specs.Spelling.{PairFits, pair_bytes}
use Rattle.mr_spill.proofs.SealedLemmas.{all-append, bytes-more}
use Rattle.mr_spill.proofs.sealed.spell_group.Goals as goal

pub loop-i-preserved : goal.loop-i-preserved
loop-i-preserved c =
    let ts : List Triple = (nth_group c.args.groups.now c.args.g).pairs in
    let i : ℕ = c.loop-i.i in
    let before : List Triple = take i ts in
    let pair : Triple = nth_pair ts i in
    let more : take (i + 1) ts ≡ before ++ pair ∷ [] = take_more ts i no_pair (omega (arith, c.loop-i-test.true, c.count-i-end.ensures.count)) in
    let put : under_key c.key-key.result.now c.get-value.result ≡ pair = ap (λ (k : List ℕ). under_key k c.get-value.result) c.key-key.ensures ∙ c.get-value.ensures in
    record {
      text = c.in_ok-put_pair.ensures.text
          ∙ ap (λ (t : Triple). c.loop-i.text.items ++ pair_bytes t) put
          ∙ ap (λ (l : List ℕ). l ++ pair_bytes pair) c.loop-i.invariant.text
          ∙ append_assoc c.args.text.now.items (flat_map pair_bytes before) (pair_bytes pair)
          ∙ ap (λ (l : List ℕ). c.args.text.now.items ++ l) (sym (bytes-more before pair))
          ∙ ap (λ (us : List Triple). c.args.text.now.items ++ flat_map pair_bytes us) (sym more);
      fit = subst (AllByRecursion PairFits) (sym more)
          (all-append PairFits before (pair ∷ []) c.loop-i.invariant.fit (subst PairFits put c.in_ok-put_pair.ensures.fits, tt));
    }
