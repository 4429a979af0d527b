-- Each step keeps the rule.
use Rattle.std.proofs.Common.{◌≡◌, ◌≢◌, ⊎_elim, ℕ, zero, suc, ◌+◌, ◌-◌, ◌%◌, ◌^◌, ◌<◌, ◌≤◌, List, [], ◌∷◌, ◌++◌, set, length, get_or, refl, sym, ap, ◌∙◌, subst, arith, length-set, get_or-set_same}
use mathlib.Core.Option.{some, some-injective, some-ne-none}
use lib.ListN.{get_elem?}
use Rattle.atomic_table.specs.Table.{State, Me, step, keeps, Allows, Splits, Joins, opening}
use Rattle.atomic_table.proofs.Lists.{at_set, at_snoc, set_else}
use Rattle.mr_tickets.specs.declared.tickets.Hand.{Hand}
use Rattle.mr_tickets.specs.declared.tickets.Limits.{Limits}
use Rattle.mr_tickets.specs.Drawn.{weigh, below, total, past, kept}
use Rattle.mr_tickets.specs.Rule.{IsKept, hand}
use Rattle.mr_tickets.specs.Plays.{Draws, one_less, both}
use Rattle.mr_tickets.proofs.Sums.{total_set, total_more, total_within, total_alone, weigh_append, below_next, below_past, past_one, total_member, below_few, length_weigh, weigh_kept, cut}

-- a view has no more numbers past the limit than parts, and none with no part
abbrev Fits : Limits → Hand → Type 0
Fits l v = (weigh (past l.limit) v.drawn ≤ v.parts) × (v.parts ≡ 0 → v.drawn ≡ [])

pub begins : (l : Limits) → IsKept l (opening (0 ∷ []) [] (hand l.seats []))
begins l =
    record {
      one_word = refl;
      parts = omega arith;
      each = λ h. refl;
      backed = one;
    }
  where
    one : (id : ℕ) (v : Hand) → get_elem? (hand l.seats [] ∷ []) id ≡ some v → (weigh (past l.limit) v.drawn ≤ v.parts) × (v.parts ≡ 0 → v.drawn ≡ [])
    one zero v e = subst (λ (u : Hand). (weigh (past l.limit) u.drawn ≤ u.parts) × (u.parts ≡ 0 → u.drawn ≡ [])) (some-injective _ _ e) (omega arith, λ _. refl)
    one (suc id) v e = absurd (some-ne-none v (sym e))

-- the word is past the limit by no more than there are seats
pub bounded : (l : Limits) (s : State (Unit {0}) Hand) → IsKept l s → get_or s.words 0 0 ≤ l.limit + l.seats
bounded l s r =
    let over = r.each (past l.limit) ∙ below_past l.limit (get_or s.words 0 0) in
    let within = total_within (λ (v : Hand). weigh (past l.limit) v.drawn) (λ (v : Hand). v.parts) s.views (λ id v at. (r.backed id v at).0) in
    let parts = r.parts in
    omega arith

pub draws : (l : Limits) (slots id : ℕ) (me : Me (Unit {0}) Hand) → l.limit < 2 ^ 32 → l.seats < 2 ^ 32 → 0 < me.0.parts → weigh (past l.limit) me.0.drawn ≡ 0
    → Allows (IsKept l) slots id me 0 (λ n. (n + 1) % 2 ^ 64) (Draws (step slots 0 1 0 mathlib.Core.Option.none) me)
draws l slots id me small_limit small_seats part fresh s r _ at small =
    let x : ℕ = get_or s.words 0 0 in
    let w : Hand = hand me.0.parts (me.0.drawn ++ x ∷ []) in
    let fits = bounded l s r in
    let next : (x + 1) % 2 ^ 64 ≡ x + 1 = omega arith in
    let wide = r.one_word in
    let word : get_or (set s.words 0 ((x + 1) % 2 ^ 64)) 0 0 ≡ x + 1 = get_or-set_same s.words 0 ((x + 1) % 2 ^ 64) 0 (omega arith) ∙ next in (
      w,
      keeps,
      tt,
      record {
        one_word = length-set s.words 0 ((x + 1) % 2 ^ 64) ∙ wide;
        parts = (let t = total_set (λ (v : Hand). v.parts) s.views id me.0 w at in let p = r.parts in omega arith);
        each = λ h.
            (let t = total_set (λ (v : Hand). weigh h v.drawn) s.views id me.0 w at in
            let a = weigh_append h me.0.drawn (x ∷ []) in
            let e = r.each h in
            let b = below_next h x in
            let sum : total (λ (v : Hand). weigh h v.drawn) (set s.views id w) ≡ below h (x + 1) = omega arith in
            sum ∙ ap (below h) (sym word));
        backed = λ j v e.
            ⊎_elim
            (λ (t : (j ≡ id) × (w ≡ v)). subst (λ (u : Hand). (weigh (past l.limit) u.drawn ≤ u.parts) × (u.parts ≡ 0 → u.drawn ≡ [])) t.1
            ((let a = weigh_append (past l.limit) me.0.drawn (x ∷ []) in let p = past_one l.limit x in omega arith), λ none. absurd (omega arith)))
            (λ (t : (j ≢ id) × (get_elem? s.views j ≡ some v)). r.backed j v t.1)
            (at_set s.views id j w v e);
      },
      (
        refl,
        few w.drawn (λ n.
            (let f : Hand → ℕ = λ v. weigh (cut n (λ _. 1)) v.drawn in
            let t = total_set f s.views id me.0 w at in
            let a = weigh_append (cut n (λ _. 1)) me.0.drawn (x ∷ []) in
            let e = r.each (cut n (λ _. 1)) in
            let b = below_next (cut n (λ _. 1)) x in
            let m = total_member f s.views id me.0 at in
            let last = (below_few n (x + 1)).0 in
            omega arith)),
      ),
    )
  where
    few : (xs : List ℕ) → ((n : ℕ) → weigh (cut n (λ _. 1)) xs ≤ n) → (n : ℕ) → length (kept n xs) ≤ n
    few xs h n = let a = length_weigh (kept n xs) in let b = weigh_kept n (λ _. 1) xs in let c = h n in omega arith

pub splits : (l : Limits) (id : ℕ) (v : Hand) → 0 < v.parts → v.drawn ≡ [] → Splits (IsKept l) id v (one_less v) (hand 1 [])
splits l id v part none s r at =
    let left = one_less v in
    let right = hand 1 [] in
    let views = set s.views id left in
    record {
      one_word = r.one_word;
      parts = (let t = total_set (λ (u : Hand). u.parts) s.views id v left at in let m = total_more (λ (u : Hand). u.parts) views right in let p = r.parts in omega arith);
      each = λ h.
          (let t = total_set (λ (u : Hand). weigh h u.drawn) s.views id v left at in
          let m = total_more (λ (u : Hand). weigh h u.drawn) views right in
          let e = r.each h in
          omega arith);
      backed = λ j u e.
          ⊎_elim
          (λ (old : get_elem? views j ≡ some u).
          ⊎_elim
          (λ (t : (j ≡ id) × (left ≡ u)). subst (Fits l) t.1 (subst (λ (d : List ℕ). weigh (past l.limit) d ≤ v.parts - 1) (sym none) (omega arith), λ _. none))
          (λ (t : (j ≢ id) × (get_elem? s.views j ≡ some u)). r.backed j u t.1)
          (at_set s.views id j left u old))
          (λ (new : right ≡ u). subst (Fits l) new (omega arith, λ _. refl))
          (at_snoc views right u j e);
    }

pub joins : (l : Limits) (id : ℕ) (v : Hand) (other : ℕ) (w : Hand) → Joins (IsKept l) id v other w (both v w) (hand 0 [])
joins l id v other w s r at apart there =
    let sum = both v w in
    let gone = hand 0 [] in
    let views = set s.views id sum in
    let before : get_elem? s.views other ≡ some w = sym (set_else s.views id other sum apart) ∙ there in
    let mine = r.backed id v at in
    let theirs = r.backed other w before in
    record {
      one_word = r.one_word;
      parts = (let t = total_set (λ (u : Hand). u.parts) s.views id v sum at in let m = total_set (λ (u : Hand). u.parts) views other w gone there in let p = r.parts in omega arith);
      each = λ h.
          (let t = total_set (λ (u : Hand). weigh h u.drawn) s.views id v sum at in
          let m = total_set (λ (u : Hand). weigh h u.drawn) views other w gone there in
          let a = weigh_append h v.drawn w.drawn in
          let e = r.each h in
          omega arith);
      backed = λ j u e.
          ⊎_elim
          (λ (t : (j ≡ other) × (gone ≡ u)). subst (Fits l) t.1 (omega arith, λ _. refl))
          (λ (t : (j ≢ other) × (get_elem? views j ≡ some u)).
          ⊎_elim
          (λ (t' : (j ≡ id) × (sum ≡ u)).
          subst (Fits l) t'.1 (
            (let a = weigh_append (past l.limit) v.drawn w.drawn in let m = mine.0 in let n = theirs.0 in omega arith),
            λ none. (λ i. mine.1 (omega arith) i ++ theirs.1 (omega arith) i),
          ))
          (λ (t' : (j ≢ id) × (get_elem? s.views j ≡ some u)). r.backed j u t'.1)
          (at_set s.views id j sum u t.1))
          (at_set views other j gone u e);
    }

-- who has every part knows all numbers
pub knows : (l : Limits) (s : State (Unit {0}) Hand) (id : ℕ) (v : Hand) → IsKept l s → get_elem? s.views id ≡ some v → v.parts ≡ l.seats → (h : ℕ → ℕ) → weigh h v.drawn ≡ below h (get_or s.words 0 0)
knows l s id v r at all h =
    sym (total_alone (λ (u : Hand). weigh h u.drawn) (λ (u : Hand). u.parts) s.views id v at (r.parts ∙ sym all) (λ j u e none. ap (weigh h) ((r.backed j u e).1 none))) ∙ r.each h
