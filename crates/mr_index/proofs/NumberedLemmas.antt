-- The triples that a part's tables show, as they grow and as they are looked up.
use Rattle.std.proofs.Common.{◌≡◌, ◌≢◌, ◌⊎◌, ℕ, zero, suc, ◌+◌, ◌-◌, ◌<◌, ◌≤◌, Bool, true, false, cond, eqb, ◌&&◌, Option, Some, None, List, [], ◌∷◌, ◌++◌, length, get_or, drop, take, slice_range, replicate, refl, sym, ◌∙◌, ap, arith, inl, inr, append_assoc, length-append}
use Rattle.std.proofs.lemmas.Bool.{cases_eq, eq-eqb, ne_eqb}
use Rattle.std.proofs.lemmas.List.{append-nil, get_or-take, get_or-drop}
use Rattle.std.proofs.lemmas.List.Folds.{find-append}
use Rattle.std.specs.Option.{option_map, option_or}
use Rattle.std.specs.List.{find, slice_get}
use Rattle.mr_bytes.specs.declared.Name.{Name}
use Rattle.mr_bytes.specs.declared.RecordName.{RecordName}
use Rattle.mr_bytes.specs.declared.Value.TheVariants.{One}
use Rattle.mr_bytes.specs.Pairs.{Triple}
use Rattle.mr_jobs.specs.Emissions.{Emission}
use Rattle.mr_sequential.specs.Emitted.{placed_from}
use Rattle.mr_sequential.specs.Good.{has_name, named}
use Rattle.mr_index.specs.Pairs.{EndsRise}
use Rattle.mr_index.specs.Building.{numbered, Tells}
use Rattle.mr_index.proofs.PairLemmas.{range-more, range-end, range-size, rise-request, rise-at}

-- ---- as they grow

-- one more record
pub numbered-push : (split number at : ℕ) (ends : List ℕ) (pairs more : List Emission) → EndsRise at (length pairs) ends
    → numbered split number at (ends ++ length (pairs ++ more) ∷ []) (pairs ++ more)
    ≡ numbered split number at ends pairs ++ placed_from (record { split = split; rec = number + length ends }) 0 more
unfolding numbered
numbered-push split number at [] pairs more rise =
    let r : RecordName = record { split = split; rec = number } in
    let same : number ≡ number + 0 = omega arith in
    append-nil (placed_from r 0 (slice_range (pairs ++ more) at (length (pairs ++ more))))
    ∙ ap (placed_from r 0) (ap (λ (a : ℕ). slice_range (pairs ++ more) a (length (pairs ++ more))) rise ∙ range-end pairs more)
    ∙ ap (λ (n : ℕ). placed_from (record { split = split; rec = n }) 0 more) same
numbered-push split number at (e ∷ ends) pairs more rise =
    let r : RecordName = record { split = split; rec = number } in
    let next : number + 1 + length ends ≡ number + length (e ∷ ends) = omega arith in
    ap (λ (es : List Emission). placed_from r 0 es ++ numbered split (number + 1) e (ends ++ length (pairs ++ more) ∷ []) (pairs ++ more))
    (range-more pairs more at e rise.0 (rise-request e (length pairs) ends rise.1))
    ∙ ap (λ (ts : List Triple). placed_from r 0 (slice_range pairs at e) ++ ts) (numbered-push split (number + 1) e ends pairs more rise.1)
    ∙ sym (append_assoc (placed_from r 0 (slice_range pairs at e)) (numbered split (number + 1) e ends pairs) (placed_from (record { split = split; rec = number + 1 + length ends }) 0 more))
    ∙ ap (λ (n : ℕ). (placed_from r 0 (slice_range pairs at e) ++ numbered split (number + 1) e ends pairs) ++ placed_from (record { split = split; rec = n }) 0 more) next

range-none : (pairs : List Emission) (a b : ℕ) → a ≡ b → slice_range pairs a b ≡ []
range-none pairs a b h =
    let none : b - a ≡ 0 = omega (arith, h) in
    ap (λ (n : ℕ). take n (drop a pairs)) none

numbered-none : (split number at count : ℕ) (pairs : List Emission) → at ≡ length pairs → numbered split number at (replicate count (length pairs)) pairs ≡ []
unfolding numbered placed_from
numbered-none split number at zero pairs h = refl
numbered-none split number at (suc count) pairs h =
    let r : RecordName = record { split = split; rec = number } in
    ap (λ (es : List Emission). placed_from r 0 es ++ numbered split (number + 1) (length pairs) (replicate count (length pairs)) pairs)
    (range-none pairs at (length pairs) h)
    ∙ numbered-none split (number + 1) (length pairs) count pairs refl

-- more records that give nothing
pub numbered-pad : (split number at count : ℕ) (ends : List ℕ) (pairs : List Emission) → EndsRise at (length pairs) ends
    → numbered split number at (ends ++ replicate count (length pairs)) pairs ≡ numbered split number at ends pairs
unfolding numbered
numbered-pad split number at count [] pairs rise = numbered-none split number at count pairs rise
numbered-pad split number at count (e ∷ ends) pairs rise =
    ap (λ (ts : List Triple). placed_from (record { split = split; rec = number }) 0 (slice_range pairs at e) ++ ts)
    (numbered-pad split (number + 1) e count ends pairs rise.1)

pub rise-pad : (at last count : ℕ) (ends : List ℕ) → EndsRise at last ends → EndsRise at last (ends ++ replicate count last)
rise-pad at last zero [] r = r
rise-pad at last (suc count) [] r = (omega (arith, r), rise-pad last last count [] refl)
rise-pad at last count (e ∷ ends) r = (r.0, rise-pad e last count ends r.1)

pub length-placed : (r : RecordName) (k : ℕ) (es : List Emission) → length (placed_from r k es) ≡ length es
unfolding placed_from
length-placed r k [] = refl
length-placed r k (e ∷ es) = ap suc (length-placed r (k + 1) es)

-- as many triples as pairs
pub length-numbered : (split number at : ℕ) (ends : List ℕ) (pairs : List Emission) → EndsRise at (length pairs) ends
    → at + length (numbered split number at ends pairs) ≡ length pairs
unfolding numbered
length-numbered split number at [] pairs rise = omega (arith, rise)
length-numbered split number at (e ∷ ends) pairs rise =
    let r : RecordName = record { split = split; rec = number } in
    omega (
      arith,
      length-numbered split (number + 1) e ends pairs rise.1,
      length-append (placed_from r 0 (slice_range pairs at e)) (numbered split (number + 1) e ends pairs),
      length-placed r 0 (slice_range pairs at e),
      range-size pairs at e rise.0 (rise-request e (length pairs) ends rise.1),
      rise.0,
    )

-- ---- as they are looked up

-- an emission with a name
abbrev pub triple_for : Name → Emission → Triple
triple_for n e = record { key = e.0; value = e.1; name = n }

abbrev record_of : Name → RecordName
record_of n = record { split = n.split; rec = n.rec }

name-is : (m n : Name) → m.split ≡ n.split → m.rec ≡ n.rec → m.place ≡ n.place → m ≡ n
name-is m n a b d =
    ap (λ (s : ℕ). record { split = s; rec = m.rec; place = m.place }) a ∙ ap (λ (r : ℕ). record { split = n.split; rec = r; place = m.place }) b
    ∙ ap (λ (p : ℕ). record { split = n.split; rec = n.rec; place = p }) d

test-and : (a b : Bool) → b ≡ false → (a && b) ≡ false
test-and true b h = h
test-and false b h = refl

test-false : (n : Name) (t : Triple) → (t.name ≡ n → ⊥) → has_name n t ≡ false
test-false n t h =
    elim (cases_eq t.name.split n.split) [
      | inr ne ↦ ap (λ b. b && (eqb t.name.rec n.rec && eqb t.name.place n.place)) (ne_eqb t.name.split n.split ne)
      | inl a ↦ test-and (eqb t.name.split n.split) (eqb t.name.rec n.rec && eqb t.name.place n.place)
          (elim (cases_eq t.name.rec n.rec) [
            | inr ne ↦ ap (λ b. b && eqb t.name.place n.place) (ne_eqb t.name.rec n.rec ne)
            | inl b ↦ test-and (eqb t.name.rec n.rec) (eqb t.name.place n.place)
                (elim (cases_eq t.name.place n.place) [
                  | inr ne ↦ ne_eqb t.name.place n.place ne
                  | inl d ↦ absurd (h (name-is t.name n a b d))
                ])
          ])
    ]

pub test-other : (n : Name) (t : Triple) → (t.name.split ≡ n.split → ⊥) → has_name n t ≡ false
test-other n t h = test-false n t (λ e. h (ap (λ (x : Name). x.split) e))

pub test-true : (n : Name) (t : Triple) → t.name ≡ n → has_name n t ≡ true
test-true n t e =
    ap (λ b. b && (eqb t.name.rec n.rec && eqb t.name.place n.place)) (eq-eqb t.name.split n.split (ap (λ (x : Name). x.split) e))
    ∙ ap (λ b. b && eqb t.name.place n.place) (eq-eqb t.name.rec n.rec (ap (λ (x : Name). x.rec) e))
    ∙ eq-eqb t.name.place n.place (ap (λ (x : Name). x.place) e)

find-placed : (r : RecordName) (k j : ℕ) (es : List Emission) (n : Name) → r ≡ record_of n → n.place ≡ k + j
    → find (has_name n) (placed_from r k es) ≡ option_map (triple_for n) (slice_get es j)
unfolding placed_from
find-placed r k j [] n same place = refl
find-placed r k zero (e ∷ es) n same place =
    let name : record { split = r.split; rec = r.rec; place = k } ≡ n =
    name-is (record { split = r.split; rec = r.rec; place = k }) n (ap (λ (x : RecordName). x.split) same) (ap (λ (x : RecordName). x.rec) same) (omega (arith, place)) in
    let t : Triple = record { key = e.0; value = e.1; name = record { split = r.split; rec = r.rec; place = k } } in
    ap (λ b. cond b (Some t) (find (has_name n) (placed_from r (k + 1) es))) (test-true n t name)
    ∙ ap (λ (m : Name). Some (triple_for m e)) name
find-placed r k (suc j) (e ∷ es) n same place =
    let t : Triple = record { key = e.0; value = e.1; name = record { split = r.split; rec = r.rec; place = k } } in
    ap (λ b. cond b (Some t) (find (has_name n) (placed_from r (k + 1) es)))
    (test-false n t (λ e. omega (arith, place, ap (λ (x : Name). x.place) e)))
    ∙ find-placed r (k + 1) j es n same (omega (arith, place))

find-other : (r : RecordName) (k : ℕ) (es : List Emission) (n : Name) → (r ≡ record_of n → ⊥) → find (has_name n) (placed_from r k es) ≡ None
unfolding placed_from
find-other r k [] n other = refl
find-other r k (e ∷ es) n other =
    let t : Triple = record { key = e.0; value = e.1; name = record { split = r.split; rec = r.rec; place = k } } in
    ap (λ b. cond b (Some t) (find (has_name n) (placed_from r (k + 1) es)))
    (test-false n t (λ e. other (ap (λ (x : Name). record { split = x.split; rec = x.rec }) e)))
    ∙ find-other r (k + 1) es n other

pub or-none : (o : Option Triple) → option_or o None ≡ o
or-none None = refl
or-none (Some t) = refl

-- no triple, where no record has the name
pub find-none : (split number at : ℕ) (ends : List ℕ) (pairs : List Emission) (n : Name)
    → ((k : ℕ) → k < length ends → record { split = split; rec = number + k } ≡ record_of n → ⊥) → named (numbered split number at ends pairs) n ≡ None
unfolding numbered
find-none split number at [] pairs n none = refl
find-none split number at (e ∷ ends) pairs n none =
    let r : RecordName = record { split = split; rec = number } in
    find-append (has_name n) (placed_from r 0 (slice_range pairs at e)) (numbered split (number + 1) e ends pairs)
    ∙ ap (λ o. option_or o (named (numbered split (number + 1) e ends pairs) n))
    (find-other r 0 (slice_range pairs at e) n (λ h. none 0 (omega arith) (ap (λ (k : ℕ). record { split = split; rec = k }) (omega arith) ∙ h)))
    ∙ find-none split (number + 1) e ends pairs n (λ k h is. none (suc k) (omega (arith, h)) (ap (λ (m : ℕ). record { split = split; rec = m }) (omega arith) ∙ is))

-- the name of another split, or of a record that has no end
pub find-past : (split : ℕ) (ends : List ℕ) (pairs : List Emission) (n : Name) → ◌⊎◌ (n.split ≢ split) (length ends ≤ n.rec)
    → named (numbered split 0 0 ends pairs) n ≡ None
find-past split ends pairs n (inl other) =
    find-none split 0 0 ends pairs n (λ k h is. other (sym (ap (λ (r : RecordName). r.split) is)))
find-past split ends pairs n (inr past) =
    find-none split 0 0 ends pairs n (λ k h is. omega (arith, past, h, ap (λ (r : RecordName). r.rec) is))

-- the triple, among the pairs of the one record that has the name
pub find-there : (split number at : ℕ) (ends : List ℕ) (pairs : List Emission) (n : Name) (i : ℕ) → i < length ends → n.split ≡ split → n.rec ≡ number + i
    → named (numbered split number at ends pairs) n ≡ option_map (triple_for n) (slice_get (slice_range pairs (get_or (at ∷ ends) i 0) (get_or ends i 0)) n.place)
unfolding numbered
find-there split number at [] pairs n i h same is = absurd (omega arith)
find-there split number at (e ∷ ends) pairs n zero h same is =
    let r : RecordName = record { split = split; rec = number } in
    let rec-is : number ≡ n.rec = omega (arith, is) in
    find-append (has_name n) (placed_from r 0 (slice_range pairs at e)) (numbered split (number + 1) e ends pairs)
    ∙ ap (option_or (find (has_name n) (placed_from r 0 (slice_range pairs at e))))
    (find-none split (number + 1) e ends pairs n (λ k l m. omega (arith, is, ap (λ (x : RecordName). x.rec) m)))
    ∙ or-none (find (has_name n) (placed_from r 0 (slice_range pairs at e)))
    ∙ find-placed r 0 n.place (slice_range pairs at e) n
    (ap (λ (s : ℕ). record { split = s; rec = number }) (sym same) ∙ ap (λ (k : ℕ). record { split = n.split; rec = k }) rec-is) (omega arith)
find-there split number at (e ∷ ends) pairs n (suc i) h same is =
    let r : RecordName = record { split = split; rec = number } in
    find-append (has_name n) (placed_from r 0 (slice_range pairs at e)) (numbered split (number + 1) e ends pairs)
    ∙ ap (λ o. option_or o (named (numbered split (number + 1) e ends pairs) n))
    (find-other r 0 (slice_range pairs at e) n (λ m. omega (arith, is, ap (λ (x : RecordName). x.rec) m)))
    ∙ find-there split (number + 1) e ends pairs n i (omega (arith, h)) same (omega (arith, is))

slice_get-in : (es : List Emission) (i : ℕ) (d : Emission) → i < length es → slice_get es i ≡ Some (get_or es i d)
slice_get-in [] i d h = absurd (omega arith)
slice_get-in (e ∷ es) zero d h = refl
slice_get-in (e ∷ es) (suc i) d h = slice_get-in es i d (omega arith)

slice_get-past : (es : List Emission) (i : ℕ) → length es ≤ i → slice_get es i ≡ None
slice_get-past [] i h = refl
slice_get-past (e ∷ es) zero h = absurd (omega arith)
slice_get-past (e ∷ es) (suc i) h = slice_get-past es i (omega arith)

-- a pair of a part of the pairs
pub part-in : (pairs : List Emission) (a b i : ℕ) (d : Emission) → a ≤ b → b ≤ length pairs → a + i < b
    → slice_get (slice_range pairs a b) i ≡ Some (get_or pairs (a + i) d)
part-in pairs a b i d request within h =
    slice_get-in (slice_range pairs a b) i d (omega (arith, range-size pairs a b request within, h))
    ∙ ap (λ (e : Emission). Some e) (get_or-take (b - a) (drop a pairs) i d (omega (arith, h)) ∙ get_or-drop a pairs i d)

pub part-past : (pairs : List Emission) (a b i : ℕ) → a ≤ b → b ≤ length pairs → b ≤ a + i → slice_get (slice_range pairs a b) i ≡ None
part-past pairs a b i request within h = slice_get-past (slice_range pairs a b) i (omega (arith, range-size pairs a b request within, h))

-- ---- by the number of a pair among all

-- no record has ends there
pub tells-none : (ends : List ℕ) (first number : ℕ) (n : Name) (pairs : List Emission) → length ends ≤ number → n.rec ≡ first + number → Tells ends first n pairs None
tells-none ends first number n pairs past is =
    find-none n.split first 0 ends pairs n (λ k h same. omega (arith, past, is, h, ap (λ (r : RecordName). r.rec) same))

-- the record has no such place
pub tells-past : (ends : List ℕ) (first number : ℕ) (n : Name) (pairs : List Emission) → EndsRise 0 (length pairs) ends → number < length ends → n.rec ≡ first + number
    → get_or ends number 0 ≤ get_or (0 ∷ ends) number 0 + n.place → Tells ends first n pairs None
tells-past ends first number n pairs rise within is past =
    let order = rise-at 0 (length pairs) number ends rise within in
    find-there n.split first 0 ends pairs n number within refl is
    ∙ ap (option_map (triple_for n)) (part-past pairs (get_or (0 ∷ ends) number 0) (get_or ends number 0) n.place order.0 order.1 past)

-- it has
pub tells-there : (ends : List ℕ) (first number i : ℕ) (n : Name) (pairs : List Emission) → EndsRise 0 (length pairs) ends → number < length ends → n.rec ≡ first + number
    → i ≡ get_or (0 ∷ ends) number 0 + n.place → i < get_or ends number 0 → Tells ends first n pairs (Some i)
tells-there ends first number i n pairs rise within is at before =
    let order = rise-at 0 (length pairs) number ends rise within in (
      omega (arith, before, order.1),
      find-there n.split first 0 ends pairs n number within refl is
          ∙ ap (option_map (triple_for n)) (part-in pairs (get_or (0 ∷ ends) number 0) (get_or ends number 0) n.place ([], One) order.0 order.1 (omega (arith, at, before)))
          ∙ ap (λ (k : ℕ). Some (triple_for n (get_or pairs k ([], One)))) (sym at),
    )
