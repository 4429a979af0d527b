use Rattle.std.proofs.Common.{arith, ap, sym, ◌∙◌, ◌≡◌, ◌++◌, ◌∷◌, [], List, ℕ, length, length-append, subst}
use Rattle.std.proofs.lemmas.List.{length_push}
use Rattle.mr_bytes.specs.declared.Value.{Value}
use Rattle.mr_index.specs.Pairs.{pairs_from, EndsRise}
use Rattle.mr_index.proofs.PairLemmas.{pairs-more, rise-push}
use Rattle.mr_index.proofs.pairs.Pairs.push.Goals as goal

pub returns : goal.returns
returns c =
    let p = c.args.self.now in
    let key : List ℕ = c.args.key.now in
    let keys : c.extend_from_slice.new.self.items ≡ p.keys.items ++ key = c.in_ok-extend_from_slice.ensures.items in
    let ends : c.push_end.new.ends.items ≡ p.ends.items ++ c.len.result ∷ [] = c.in_ok-push_end.ensures in
    let last : c.len.result ≡ length (p.keys.items ++ key) = c.len.ensures ∙ c.extend_from_slice.new.self.ok.0 ∙ ap length keys in
    let ends-are : c.push_end.new.ends.items ≡ p.ends.items ++ length (p.keys.items ++ key) ∷ [] = ends ∙ ap (λ (n : ℕ). p.ends.items ++ n ∷ []) last in
    let values : List Value = p.values in
    let values-are : c.push.new.self ≡ values ++ c.args.value ∷ [] = c.in_ok-push.ensures.ok in
    record {
      sound = record {
        rise = subst (λ (l : List ℕ). EndsRise 0 (length l) c.push_end.new.ends.items) (sym keys)
            (subst (λ (l : List ℕ). EndsRise 0 (length (p.keys.items ++ key)) l) (sym ends-are)
            (rise-push 0 (length p.keys.items) (length (p.keys.items ++ key)) p.ends.items c.requires.sound.rise (omega (arith, length-append p.keys.items key))));
        values = omega (
          arith,
          ap length values-are,
          ap length ends-are,
          length_push values c.args.value,
          length_push p.ends.items (length (p.keys.items ++ key)),
          c.requires.sound.values,
        );
      };
      pairs = ap (λ (l : List ℕ). pairs_from 0 l c.push_end.new.ends.items c.push.new.self) keys
          ∙ ap (λ (l : List ℕ). pairs_from 0 (p.keys.items ++ key) l c.push.new.self) ends-are
          ∙ ap (pairs_from 0 (p.keys.items ++ key) (p.ends.items ++ length (p.keys.items ++ key) ∷ [])) values-are
          ∙ pairs-more 0 p.keys.items key p.ends.items values c.args.value c.requires.sound.rise c.requires.sound.values;
    }

pub push-requires : goal.push-requires
push-requires c =
    let p = c.args.self.now in
    omega (arith, c.requires.sound.values, p.ends.ok.0, p.ends.small)

pub push_end-requires : goal.push_end-requires
push_end-requires c =
    let p = c.args.self.now in
    omega (
      arith,
      c.len.ensures,
      c.extend_from_slice.new.self.ok.0,
      ap length c.in_ok-extend_from_slice.ensures.items,
      length-append p.keys.items c.args.key.now,
      c.requires.room,
    )
