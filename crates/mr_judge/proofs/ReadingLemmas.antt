-- Outputs that readers give: what may be still to come of them.
use Rattle.std.proofs.Common.{◌≡◌, ◌⊎◌, ℕ, zero, suc, ◌+◌, ◌-◌, ◌<◌, ◌≤◌, Bool, true, false, cond, Option, Some, None, List, [], ◌∷◌, ◌++◌, length, map, take, drop, get_or, set, refl, ap, sym, subst, ◌∙◌, inl, inr, arith, append_assoc, length-append, take-append-drop}
use Rattle.std.specs.Prelude.{nat_eq, min, ◌^◌, Ok}
use Rattle.std.specs.List.{common_prefix_len}
use Rattle.std.specs.Io.KnownBytes.{Consumes, IsAtEnd}
use Rattle.std.proofs.lemmas.Bool.{false≢true, eqb-true, eqb-false, eq-eqb}
use Rattle.std.proofs.lemmas.List.{length-map, length-take}
use Rattle.mr_store.specs.Devices.{counted}
use Rattle.mr_input.specs.Files.{nth_file}
use Rattle.mr_judge.specs.Outputs.{counted_at, Opens, Compares, Ends, CanCome}
use Rattle.mr_certform.specs.Streaming.{Agrees}
use Rattle.mr_certform.proofs.Streams.{agrees_read, agrees_end}
use Rattle.mr_judge.specs.From.{AgreeAll}
use Rattle.mr_judge.specs.Reading.{Reading, IsLeft, IsToCome, known_at, coming}

-- ---- of a list of readers one is read

pub known_old : {R : Type 0} (f : R → Option (List ℕ)) (xs : List R) (n : ℕ) (d : R) → n < length xs → known_at (map f xs) n ≡ f (get_or xs n d)
known_old f [] n d h = absurd (omega (arith, h))
known_old f (x ∷ xs) zero d h = refl
known_old f (x ∷ xs) (suc n) d h = known_old f xs n d (omega (arith, h))

pub known_new : {R : Type 0} (f : R → Option (List ℕ)) (xs : List R) (n : ℕ) (x : R) → n < length xs → known_at (map f (set xs n x)) n ≡ f x
known_new f [] n x h = absurd (omega (arith, h))
known_new f (y ∷ xs) zero x h = refl
known_new f (y ∷ xs) (suc n) x h = known_new f xs n x (omega (arith, h))

known_behind_suc : {R : Type 0} (f : R → Option (List ℕ)) (xs : List R) (n : ℕ) (x : R) → drop (suc n) (map f (set xs n x)) ≡ drop (suc n) (map f xs)
known_behind_suc f [] n x = refl
known_behind_suc f (y ∷ xs) zero x = refl
known_behind_suc f (y ∷ xs) (suc n) x = known_behind_suc f xs n x

pub known_behind : {R : Type 0} (f : R → Option (List ℕ)) (xs : List R) (n : ℕ) (x : R) → drop (n + 1) (map f (set xs n x)) ≡ drop (n + 1) (map f xs)
known_behind f xs n x = let e : suc n ≡ n + 1 = omega arith in subst (λ k. drop k (map f (set xs n x)) ≡ drop k (map f xs)) e (known_behind_suc f xs n x)

pub failed_one : {R : Type 0} (f : R → ℕ) (xs : List R) (n : ℕ) (x d : R) → n < length xs → f x ≡ counted (f (get_or xs n d)) → map f (set xs n x) ≡ counted_at n (map f xs)
failed_one f [] n x d h e = absurd (omega (arith, h))
failed_one f (y ∷ xs) zero x d h e = ap (λ k. k ∷ map f xs) e
failed_one f (y ∷ xs) (suc n) x d h e = ap (λ ks. f y ∷ ks) (failed_one f xs n x d (omega (arith, h)) e)

pub no_bytes : (xs : List ℕ) → length xs ≡ 0 → xs ≡ []
no_bytes [] e = refl
no_bytes (x ∷ xs) e = absurd (omega (arith, e))

-- ---- what may come

-- once one is open, that is left of it which is held and what its reader is still to give
pub left_open : (k : ℕ) (r : Reading) (rest : List ℕ) (later : List (List ℕ)) → 1 ≤ k → IsLeft k r rest later → (more : List ℕ) × (rest ≡ r.held ++ more) × Agrees (coming r) more
left_open zero r rest later h l = absurd (omega (arith, h))
left_open (suc k) r rest later h l = l

pub open_left : (k : ℕ) (r : Reading) (rest : List ℕ) (later : List (List ℕ)) → 1 ≤ k → (more : List ℕ) → rest ≡ r.held ++ more → Agrees (coming r) more → IsLeft k r rest later
open_left zero r rest later h more e a = absurd (omega (arith, h))
open_left (suc k) r rest later h more e a = (more, e, a)

-- what may come behind a read may come before it
record IsRead (old new : Reading) (got : List ℕ) : Type 0 where
  begun : 1 ≤ old.opened
  opened : new.opened ≡ old.opened
  behind : drop old.opened new.known ≡ drop old.opened old.known
  held : old.held ++ got ≡ new.held
  agrees : (more : List ℕ) → Agrees (coming new) more → Agrees (coming old) (got ++ more)

come_back : (old new : Reading) (got : List ℕ) → IsRead old new got → (rest : List ℕ) (later : List (List ℕ)) → IsToCome new rest later → IsToCome old rest later
come_back old new got r rest later (l, a) =
    let cur = left_open new.opened new rest later (omega (arith, r.begun, r.opened)) l in (
      open_left old.opened old rest later r.begun (got ++ cur.0) (cur.1 ∙ (ap (λ w. w ++ cur.0) (sym r.held) ∙ append_assoc old.held got cur.0)) (r.agrees cur.0 cur.2),
      subst (λ ks. AgreeAll ks later) r.behind (subst (λ k. AgreeAll (drop k new.known) later) r.opened a),
    )

-- some bytes were read
agrees_new : (exhausted : Bool) (left : Option (List ℕ)) (more : List ℕ) → (exhausted ≡ true → IsAtEnd left) → Agrees (cond exhausted (Some []) left) more → Agrees left more
agrees_new true left more e a = subst (Agrees left) (sym a) (agrees_end left (e refl))
agrees_new false left more e a = a

pub come_read : (old new : Reading) (n : ℕ) → 1 ≤ old.opened → new.opened ≡ old.opened → old.exhausted ≡ false → old.held ≡ [] → drop old.opened new.known ≡ drop old.opened old.known → n ≡ old.opened - 1
    → Consumes (known_at old.known n) (known_at new.known n) new.held → (new.exhausted ≡ true → IsAtEnd (known_at new.known n)) → (rest : List ℕ) (later : List (List ℕ)) → IsToCome new rest later → IsToCome old rest later
come_read old new n begun opened more none behind here read ends =
    come_back old new new.held (record {
      begun = begun;
      opened = opened;
      behind = behind;
      held = ap (λ w. w ++ new.held) none;
      agrees = λ ms a. (
          let left : Option (List ℕ) = known_at new.known n in
          let same : new.opened - 1 ≡ n = omega (arith, opened, here) in
          let b : Agrees left ms = agrees_new new.exhausted left ms ends (subst (λ k. Agrees (cond new.exhausted (Some []) (known_at new.known k)) ms) same a) in
          let c : Agrees (known_at old.known n) (new.held ++ ms) = agrees_read (known_at old.known n) left new.held ms read b in
          subst (λ b. Agrees (cond b (Some []) (known_at old.known (old.opened - 1))) (new.held ++ ms)) (sym more) (subst (λ k. Agrees (known_at old.known k) (new.held ++ ms)) here c));
    })

-- some bytes may always come
agreeing : (k : Option (List ℕ)) → (more : List ℕ) × Agrees k more
agreeing None = ([], tt)
agreeing (Some xs) = (xs, refl)

pub all_agreeing : (ks : List (Option (List ℕ))) → (later : List (List ℕ)) × AgreeAll ks later
all_agreeing [] = ([], tt)
all_agreeing (k ∷ ks) = let first = agreeing k in let behind = all_agreeing ks in (first.0 ∷ behind.0, (first.1, behind.1))

some_left : (k : ℕ) (r : Reading) (later : List (List ℕ)) → (rest : List ℕ) × IsLeft k r rest later
some_left zero r later = (nth_file later 0, refl)
some_left (suc k) r later = let a = agreeing (coming r) in (r.held ++ a.0, (a.0, refl, a.1))

pub some_to_come : (r : Reading) → CanCome (IsToCome r)
some_to_come r = let later = all_agreeing (drop r.opened r.known) in let rest = some_left r.opened r later.0 in (rest.0, (later.0, (rest.1, later.1)))

-- ---- the next is opened

none_behind : (later : List (List ℕ)) → AgreeAll [] later → later ≡ []
none_behind [] a = refl
none_behind (l ∷ later) a = absurd a

drop_all : {A : Type 0} (n : ℕ) (xs : List A) → length xs ≤ n → drop n xs ≡ []
drop_all zero [] h = refl
drop_all zero (x ∷ xs) h = absurd (omega (arith, h))
drop_all (suc n) [] h = refl
drop_all (suc n) (x ∷ xs) h = drop_all n xs (omega (arith, h))

drop_next_suc : (ks : List (Option (List ℕ))) (n : ℕ) (rest : List ℕ) (later : List (List ℕ)) → n < length ks → Agrees (known_at ks n) rest → AgreeAll (drop (suc n) ks) later → AgreeAll (drop n ks) (rest ∷ later)
drop_next_suc [] n rest later h a b = absurd (omega (arith, h))
drop_next_suc (k ∷ ks) zero rest later h a b = (a, b)
drop_next_suc (k ∷ ks) (suc n) rest later h a b = drop_next_suc ks n rest later (omega (arith, h)) a b

drop_next : (ks : List (Option (List ℕ))) (n : ℕ) (rest : List ℕ) (later : List (List ℕ)) → n < length ks → Agrees (known_at ks n) rest → AgreeAll (drop (n + 1) ks) later → AgreeAll (drop n ks) (rest ∷ later)
drop_next ks n rest later h a b = let e : n + 1 ≡ suc n = omega arith in drop_next_suc ks n rest later h a (subst (λ k. AgreeAll (drop k ks) later) e b)

nth_nil : (q : ℕ) → nth_file [] q ≡ []
nth_nil zero = refl
nth_nil (suc q) = refl

opens_last : (old new : Reading) → length old.known ≤ old.opened → length new.known ≤ new.opened → 1 ≤ new.opened → new.held ≡ [] → new.exhausted ≡ true → Opens (IsToCome old) (IsToCome new)
opens_last old new past further begun none ended rest later (l, a) =
    let cur = left_open new.opened new rest later begun l in
    let nothing : later ≡ [] = none_behind later (subst (λ ks. AgreeAll ks later) (drop_all new.opened new.known further) a) in
    let more : cur.0 ≡ [] = subst (λ b. Agrees (cond b (Some []) (known_at new.known (new.opened - 1))) cur.0) ended cur.2 in
    let empty : rest ≡ [] = cur.1 ∙ (ap (λ w. w ++ cur.0) none ∙ more) in
    let before = some_left old.opened old [] in (
      before.0,
      ([], ((before.1, subst (λ ks. AgreeAll ks []) (sym (drop_all old.opened old.known past)) tt), (sym empty, λ q. (nth_nil (q + 1) ∙ sym (ap (λ (w : List (List ℕ)). nth_file w q) nothing ∙ nth_nil q))))),
    )

opens_next : (old new : Reading) → old.opened < length old.known → new.known ≡ old.known → new.opened ≡ old.opened + 1 → new.held ≡ [] → new.exhausted ≡ false → Opens (IsToCome old) (IsToCome new)
opens_next old new here known next none more rest later (l, a) =
    let cur = left_open new.opened new rest later (omega (arith, next)) l in
    let coming_is : Agrees (known_at new.known (new.opened - 1)) cur.0 = subst (λ b. Agrees (cond b (Some []) (known_at new.known (new.opened - 1))) cur.0) more cur.2 in
    let at : new.opened - 1 ≡ old.opened = omega (arith, next) in
    let same : rest ≡ cur.0 = cur.1 ∙ ap (λ w. w ++ cur.0) none in
    let first : Agrees (known_at old.known old.opened) rest = subst (Agrees (known_at old.known old.opened)) (sym same) (subst (λ (ks : List (Option (List ℕ))). Agrees (known_at ks old.opened) cur.0) known (subst (λ k. Agrees (known_at new.known k) cur.0) at coming_is)) in
    let behind : AgreeAll (drop (old.opened + 1) old.known) later = subst (λ (ks : List (Option (List ℕ))). AgreeAll (drop (old.opened + 1) ks) later) known (subst (λ k. AgreeAll (drop k new.known) later) next a) in
    let before = some_left old.opened old (rest ∷ later) in
    (before.0, (rest ∷ later, ((before.1, drop_next old.known old.opened rest later here first behind), (refl, λ q. nth_more rest later q))))
  where
    nth_more : (x : List ℕ) (xs : List (List ℕ)) (q : ℕ) → nth_file (x ∷ xs) (q + 1) ≡ nth_file xs q
    nth_more x xs q = let e : q + 1 ≡ suc q = omega arith in ap (nth_file (x ∷ xs)) e

pub opens : {R : Type 0} (f : R → Option (List ℕ)) (xs : List R) (old new : Reading) (b : Bool) → old.known ≡ map f xs → new.known ≡ map f xs → (b ≡ true → (length xs ≤ old.opened) × (old.opened < 2 ^ 64)) → (b ≡ false → (old.opened < length xs) × (old.opened + 1 < 2 ^ 64))
    → new.exhausted ≡ b → new.opened ≡ min (old.opened + 1) (2 ^ 64 - 1) → new.held ≡ [] → Opens (IsToCome old) (IsToCome new)
opens f xs old new true ok nk past among e next none =
    let l = length-map xs f in
    let p = past refl in
    opens_last old new (omega (arith, ap length ok, l, p.0)) (omega (arith, ap length nk, l, p.0, p.1, next)) (omega (arith, next)) none e
opens f xs old new false ok nk past among e next none =
    let l = length-map xs f in
    let p = among refl in
    opens_next old new (omega (arith, ap length ok, l, p.0)) (nk ∙ sym ok) (omega (arith, p.1, next)) none e

-- ---- a text is passed

front_is : (xs ys : List ℕ) → take (common_prefix_len nat_eq xs ys) xs ++ drop (common_prefix_len nat_eq xs ys) ys ≡ ys
front_is [] ys = refl
front_is (x ∷ xs) [] = refl
front_is (x ∷ xs) (y ∷ ys) = by (nat_eq x y) refl (front_is xs ys)
  where
    by : (b : Bool) → nat_eq x y ≡ b → take (common_prefix_len nat_eq xs ys) xs ++ drop (common_prefix_len nat_eq xs ys) ys ≡ ys
        → take (cond b (1 + common_prefix_len nat_eq xs ys) 0) (x ∷ xs) ++ drop (cond b (1 + common_prefix_len nat_eq xs ys) 0) (y ∷ ys) ≡ y ∷ ys
    by true e more =
        let one : 1 + common_prefix_len nat_eq xs ys ≡ suc (common_prefix_len nat_eq xs ys) = omega arith in
        ap (λ m. take m (x ∷ xs) ++ drop m (y ∷ ys)) one ∙ (ap (λ w. w ∷ (take (common_prefix_len nat_eq xs ys) xs ++ drop (common_prefix_len nat_eq xs ys) ys)) (eqb-true x y e) ∙ ap (λ w. y ∷ w) more)
    by false e more = refl

coming_same : (old new : Reading) → new.opened ≡ old.opened → new.exhausted ≡ old.exhausted → new.known ≡ old.known → coming new ≡ coming old
coming_same old new o e k =
    ap (λ b. cond b (Some []) (known_at new.known (new.opened - 1))) e
    ∙ (ap (λ (ks : List (Option (List ℕ))). cond old.exhausted (Some []) (known_at ks (new.opened - 1))) k
    ∙ ap (λ n. cond old.exhausted (Some []) (known_at old.known (n - 1))) o)

pub come_passed : (old new : Reading) (wanted : List ℕ) (n : ℕ) → 1 ≤ old.opened → new.opened ≡ old.opened → new.exhausted ≡ old.exhausted → new.known ≡ old.known → n ≡ common_prefix_len nat_eq wanted old.held → new.held ≡ drop n old.held
    → (rest : List ℕ) (later : List (List ℕ)) → IsToCome new rest later → IsToCome old (take n wanted ++ rest) later
come_passed old new wanted n begun opened ended known same held rest later (l, a) =
    let cur = left_open new.opened new rest later (omega (arith, begun, opened)) l in
    let front : take n wanted ++ new.held ≡ old.held = rw (held, same) (front_is wanted old.held) in (
      open_left old.opened old (take n wanted ++ rest) later begun cur.0 (ap (λ w. take n wanted ++ w) cur.1 ∙ (sym (append_assoc (take n wanted) new.held cur.0) ∙ ap (λ w. w ++ cur.0) front))
          (subst (λ c. Agrees c cur.0) (coming_same old new opened ended known) cur.2),
      subst (λ (ks : List (Option (List ℕ))). AgreeAll (drop old.opened ks) later) known (subst (λ k. AgreeAll (drop k new.known) later) opened a),
    )

nothing : (old : Reading) (wanted rest : List ℕ) (later : List (List ℕ)) (held : List ℕ) → 1 ≤ old.opened → held ≡ old.held → (1 ≤ length held) ⊎ (old.exhausted ≡ true) → 1 ≤ length wanted → common_prefix_len nat_eq wanted held ≡ 0 → IsToCome old rest later → common_prefix_len nat_eq wanted rest ≡ 0
nothing old [] rest later held begun is filled some none (l, a) = absurd (omega (arith, some))
nothing old (w ∷ wanted) rest later [] begun is (inl h) some none (l, a) = absurd (omega (arith, h))
nothing old (w ∷ wanted) rest later [] begun is (inr h) some none (l, a) =
    let cur = left_open old.opened old rest later begun l in
    let more : cur.0 ≡ [] = subst (λ b. Agrees (cond b (Some []) (known_at old.known (old.opened - 1))) cur.0) h cur.2 in
    let empty : rest ≡ [] = cur.1 ∙ (ap (λ t. t ++ cur.0) (sym is) ∙ more) in
    ap (common_prefix_len nat_eq (w ∷ wanted)) empty
nothing old (w ∷ wanted) rest later (x ∷ held) begun is filled some none (l, a) =
    let cur = left_open old.opened old rest later begun l in
    let front : rest ≡ x ∷ (held ++ cur.0) = cur.1 ∙ ap (λ t. t ++ cur.0) (sym is) in
    ap (common_prefix_len nat_eq (w ∷ wanted)) front ∙ by (nat_eq w x) cur.0 none
  where
    by : (b : Bool) (more : List ℕ) → cond b (1 + common_prefix_len nat_eq wanted held) 0 ≡ 0 → cond b (1 + common_prefix_len nat_eq wanted (held ++ more)) 0 ≡ 0
    by true more e = absurd (omega (arith, e))
    by false more e = refl

pub nothing_stands : (old : Reading) (wanted : List ℕ) → 1 ≤ old.opened → (1 ≤ length old.held) ⊎ (old.exhausted ≡ true) → 1 ≤ length wanted → 0 ≡ common_prefix_len nat_eq wanted old.held → (rest : List ℕ) (later : List (List ℕ)) → IsToCome old rest later → common_prefix_len nat_eq wanted rest ≡ 0
nothing_stands old wanted begun filled some none rest later t = nothing old wanted rest later old.held begun refl filled some (sym none) t

-- nothing is held, and the reader is at its end
pub passed_by : (old : Reading) → 1 ≤ old.opened → (1 ≤ length old.held) ⊎ (old.exhausted ≡ true) → old.held ≡ [] → (rest : List ℕ) (later : List (List ℕ)) → IsToCome old rest later → rest ≡ []
passed_by old begun (inl h) none rest later t = absurd (omega (arith, h, ap length none))
passed_by old begun (inr h) none rest later (l, a) =
    let cur = left_open old.opened old rest later begun l in
    let more : cur.0 ≡ [] = subst (λ b. Agrees (cond b (Some []) (known_at old.known (old.opened - 1))) cur.0) h cur.2 in
    cur.1 ∙ (ap (λ t. t ++ cur.0) none ∙ more)

-- something is held
pub more_left : (old : Reading) → 1 ≤ old.opened → 1 ≤ length old.held → (rest : List ℕ) (later : List (List ℕ)) → IsToCome old rest later → 1 ≤ length rest
more_left old begun some rest later (l, a) =
    let cur = left_open old.opened old rest later begun l in
    omega (arith, some, ap length cur.1, length-append old.held cur.0)

pub ends : (old new : Reading) (held : List ℕ) (b : Bool) → 1 ≤ new.opened → (1 ≤ length new.held) ⊎ (new.exhausted ≡ true) → ((rest : List ℕ) (later : List (List ℕ)) → IsToCome new rest later → IsToCome old rest later) → held ≡ new.held → b ≡ nat_eq (length held) 0
    → Ends (IsToCome old) (IsToCome new) (Ok b)
ends old new held true begun filled back is e = λ rest later t. (back rest later t, passed_by new begun filled (no_bytes new.held (omega (arith, ap length is, eqb-true (length held) 0 (sym e)))) rest later t)
ends old new held false begun filled back is e =
    let some = some_to_come new in
    (some.0, (some.1.0, (back some.0 some.1.0 some.1.1, more_left new begun (omega (arith, ap length is, eqb-false (length held) 0 (sym e))) some.0 some.1.0 some.1.1)))

-- ---- the front of a text that stood

-- so much of the text stood, and this is wanted behind it
abbrev pub Fronts : Reading → Reading → List ℕ → List ℕ → ℕ → ℕ → Type 0
Fronts old now text wanted was passed =
    (front : List ℕ) × (text ≡ front ++ wanted) × (passed ≡ was + length front) × ((rest : List ℕ) (later : List (List ℕ)) → IsToCome now rest later → IsToCome old (front ++ rest) later)

-- of what was wanted so many bytes were passed
record IsPassed (now mid new : Reading) (wanted : List ℕ) (n passed is : ℕ) : Type 0 where
  filled : (rest : List ℕ) (later : List (List ℕ)) → IsToCome mid rest later → IsToCome now rest later
  come : (rest : List ℕ) (later : List (List ℕ)) → IsToCome new rest later → IsToCome mid (take n wanted ++ rest) later
  count : is ≡ passed + n
  within : n ≤ length wanted

same_front : (front xs ys : List ℕ) → common_prefix_len nat_eq (front ++ xs) (front ++ ys) ≡ length front + common_prefix_len nat_eq xs ys
same_front [] xs ys = omega arith
same_front (x ∷ front) xs ys = by (nat_eq x x) (eq-eqb x x refl) (same_front front xs ys)
  where
    by : (b : Bool) → b ≡ true → common_prefix_len nat_eq (front ++ xs) (front ++ ys) ≡ length front + common_prefix_len nat_eq xs ys → cond b (1 + common_prefix_len nat_eq (front ++ xs) (front ++ ys)) 0 ≡ length (x ∷ front) + common_prefix_len nat_eq xs ys
    by true e more = omega (arith, more)
    by false e more = absurd (false≢true e)

front_more : (old now mid new : Reading) (text wanted : List ℕ) (n was passed is : ℕ) → Fronts old now text wanted was passed → IsPassed now mid new wanted n passed is → Fronts old new text (drop n wanted) was is
front_more old now mid new text wanted n was passed is f p = (
  f.0 ++ take n wanted,
  f.1 ∙ (ap (λ w. f.0 ++ w) (sym (take-append-drop n wanted)) ∙ sym (append_assoc f.0 (take n wanted) (drop n wanted))),
  omega (arith, f.2, p.count, p.within, length-append f.0 (take n wanted), length-take n wanted),
  λ rest later t. subst (λ w. IsToCome old w later) (sym (append_assoc f.0 (take n wanted) rest)) (f.3 (take n wanted ++ rest) later (p.filled (take n wanted ++ rest) later (p.come rest later t))),
)

pub front_passed : (old now mid new : Reading) (text wanted left : List ℕ) (n was passed between is : ℕ) → Fronts old now text wanted was passed → ((rest : List ℕ) (later : List (List ℕ)) → IsToCome mid rest later → IsToCome now rest later)
    → ((rest : List ℕ) (later : List (List ℕ)) → IsToCome new rest later → IsToCome mid (take n wanted ++ rest) later) → between ≡ passed → is ≡ between + n → n ≤ length wanted → left ≡ drop n wanted → Fronts old new text left was is
front_passed old now mid new text wanted left n was passed between is f filled come same count within rest_is =
    subst (λ w. Fronts old new text w was is) (sym rest_is) (front_more old now mid new text wanted n was passed is f (record { filled = filled; come = come; count = count ∙ ap (λ k. k + n) same; within = within }))

-- nothing of what is wanted stands next
pub front_ends : (old now mid new : Reading) (text wanted : List ℕ) (n was passed between is : ℕ) → Fronts old now text wanted was passed → ((rest : List ℕ) (later : List (List ℕ)) → IsToCome mid rest later → IsToCome now rest later)
    → ((rest : List ℕ) (later : List (List ℕ)) → IsToCome new rest later → IsToCome mid (take n wanted ++ rest) later) → between ≡ passed → is ≡ between + n → n ≡ 0 → 1 ≤ length wanted
    → ((rest : List ℕ) (later : List (List ℕ)) → IsToCome new rest later → common_prefix_len nat_eq wanted rest ≡ 0) → Compares (IsToCome old) (IsToCome new) was is text (Ok false)
front_ends old now mid new text wanted n was passed between is f filled come same count is_zero some none =
    let t = some_to_come new in
    let differs = none t.0 t.1.0 t.1.1 in
    let agree : common_prefix_len nat_eq text (f.0 ++ t.0) ≡ length f.0 = ap (λ w. common_prefix_len nat_eq w (f.0 ++ t.0)) f.1 ∙ (same_front f.0 wanted t.0 ∙ omega (arith, differs)) in
    let back : IsToCome mid t.0 t.1.0 = subst (λ k. IsToCome mid (take k wanted ++ t.0) t.1.0) is_zero (come t.0 t.1.0 t.1.1) in
    (f.0 ++ t.0, (t.1.0, (f.3 t.0 t.1.0 (filled t.0 t.1.0 back), (omega (arith, f.2, same, count, is_zero, agree), λ e. omega (arith, e, agree, ap length f.1, length-append f.0 wanted, some)))))
