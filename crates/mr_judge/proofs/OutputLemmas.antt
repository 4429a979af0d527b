-- Outputs that are compared in turn: what may be still to come of them.
use Rattle.std.proofs.Common.{◌&&◌, take, cond, ◌≡◌, ℕ, zero, suc, ◌+◌, ◌-◌, ◌≤◌, Bool, true, false, List, [], ◌∷◌, ◌++◌, length, drop, refl, ap, sym, subst, ◌∙◌, arith, length-drop}
use Rattle.std.specs.Prelude.{Result, Ok, Err, nat_eq, nat_le, Option, Some as Just, None}
use Rattle.std.specs.List.{common_prefix_len}
use Rattle.std.proofs.lemmas.Bool.{false≢true, eq-eqb, eqb-true, le-leb, lt-leb}
use Rattle.std.proofs.lemmas.List.{drop-drop}
use Rattle.std.proofs.Math.Seq.{drop-append_seam}
use Rattle.std.specs.Prelude.{Vec}
use Rattle.std.specs.Global.{Global}
use Rattle.std.specs.Cmp.Lexicographic.{pointwise}
use Rattle.mr_input.specs.Files.{contents, nth_file}
use Rattle.mr_certform.specs.declared.grammar_state.Item.{Item}
use Rattle.mr_certform.specs.declared.grammar_state.Item.TheVariants.{Groups, End}
use Rattle.mr_bytes.specs.declared.Name.{Name}
use Rattle.mr_bytes.specs.Pairs.{Triple}
use Rattle.mr_verdict.specs.declared.answers.No.{No}
use Rattle.mr_verdict.specs.declared.answers.No.TheVariants.{OutputDiffers}
use Rattle.mr_verdict.specs.declared.items.JudgeError.{JudgeError}
use Rattle.mr_verdict.specs.declared.items.JudgeError.TheVariants.{Fault, Device, TooLong, Output, LongOutput}
use Rattle.mr_verdict.specs.Verdict.{Reached, passes, end_tests, text_tests, order_tests, with_entry, group_tests, behind_group, entry_tests, after_entry}
use Rattle.mr_verdict.specs.Steps.{Answers, Ground, subject_with}
use Rattle.mr_sequential.specs.Rules.{rules_of}
use Rattle.mr_verdict.specs.Steps.{opens}
use Rattle.mr_judge.specs.Outputs.{Ahead, CanCome, Leaves, Fits, Onward, Through, Tested, Opens, TextTold, EndTold, begins}
use Rattle.mr_judge.proofs.Faults.{fine, failed, told_left, told_right, both_fine}

-- ---- going on

pub onward_same : (old : Ahead) (st next : Reached) (Holds : List (List ℕ) → Type 0) → next ≡ st → ((outs : List (List ℕ)) → Holds outs) → Onward old old st next Holds
onward_same old st next Holds e h rest later g = (rest, (later, (g, λ outs l. (subst (λ (w : Reached). Leaves w outs rest later) (sym e) l, h outs))))

pub onward_then : (a b c : Ahead) (st mid new : Reached) (P Q R : List (List ℕ) → Type 0) → Onward a b st mid P → Onward b c mid new Q → ((outs : List (List ℕ)) → P outs → Q outs → R outs) → Onward a c st new R
onward_then a b c st mid new P Q R f g both rest later n =
    let m = g rest later n in
    let o = f m.0 m.1.0 m.1.1.0 in
    (o.0, (o.1.0, (o.1.1.0, λ outs l. (let p = o.1.1.1 outs l in let q = m.1.1.1 outs p.0 in (q.0, both outs p.1 q.1)))))

pub onward_through : (a b : Ahead) (st mid : Reached) (P Q R : List (List ℕ) → Type 0) → Onward a b st mid P → Through b mid Q → ((outs : List (List ℕ)) → P outs → Q outs → R outs) → Through a st R
onward_through a b st mid P Q R f (r, (l, (g, h))) both =
    let o = f r l g in
    (o.0, (o.1.0, (o.1.1.0, λ outs w. (let p = o.1.1.1 outs w in both outs p.1 (h outs p.0)))))

pub through_as : (a : Ahead) (st : Reached) (P R : List (List ℕ) → Type 0) → Through a st P → ((outs : List (List ℕ)) → P outs → R outs) → Through a st R
through_as a st P R (r, (l, (g, h))) more = (r, (l, (g, λ outs w. more outs (h outs w))))

pub through_all : (a : Ahead) (st : Reached) (P : List (List ℕ) → Type 0) → CanCome a → ((outs : List (List ℕ)) → P outs) → Through a st P
through_all a st P (r, (l, g)) h = (r, (l, (g, λ outs w. h outs)))

-- of some outputs it holds
pub any_of : (a b : Ahead) (st mid : Reached) (P : List (List ℕ) → Type 0) → Onward a b st mid P → CanCome b → Fits a st → (outs : List (List ℕ)) × P outs
any_of a b st mid P f (r, (l, g)) fits =
    let o = f r l g in
    let w = fits o.0 o.1.0 o.1.1.0 in
    (w.0, (o.1.1.1 w.0 w.1).1)

-- what may come now, is left of some outputs
pub fits_on : (a b : Ahead) (st mid : Reached) (P : List (List ℕ) → Type 0) → Onward a b st mid P → Fits a st → Fits b mid
fits_on a b st mid P f fits rest later g =
    let o = f rest later g in
    let w = fits o.0 o.1.0 o.1.1.0 in
    (w.0, (o.1.1.1 w.0 w.1).0)

-- ---- bytes

same_front : (xs ys : List ℕ) → common_prefix_len nat_eq xs (xs ++ ys) ≡ length xs
same_front [] ys = refl
same_front (x ∷ xs) ys = by (nat_eq x x) (eq-eqb x x refl) (same_front xs ys)
  where
    by : (b : Bool) → b ≡ true → common_prefix_len nat_eq xs (xs ++ ys) ≡ length xs → cond b (1 + common_prefix_len nat_eq xs (xs ++ ys)) 0 ≡ length (x ∷ xs)
    by true e more = omega (arith, more)
    by false e more = absurd (false≢true e)

le_nil : (from : ℕ) (xs : List ℕ) → drop from xs ≡ [] → nat_le (length xs) from ≡ true
le_nil from xs e = le-leb (length xs) from (omega (arith, ap length e, length-drop from xs))

le_some : (from : ℕ) (xs rest : List ℕ) → drop from xs ≡ rest → 1 ≤ length rest → nat_le (length xs) from ≡ false
le_some from xs rest e h = lt-leb (length xs) from (omega (arith, ap length e, length-drop from xs))

-- a text that stands
pub text_stands : (output : List ℕ) (p from : ℕ) (text rest : List ℕ) → drop from output ≡ text ++ rest → text_tests output p from text ≡ []
text_stands output p from text rest e =
    let same : common_prefix_len nat_eq text (drop from output) ≡ length text = ap (common_prefix_len nat_eq text) e ∙ same_front text rest in
    fine (nat_eq (common_prefix_len nat_eq text (drop from output)) (length text)) (OutputDiffers p (from + common_prefix_len nat_eq text (drop from output))) (eq-eqb (common_prefix_len nat_eq text (drop from output)) (length text) same)

pub text_passed : (output : List ℕ) (from : ℕ) (text rest : List ℕ) → drop from output ≡ text ++ rest → drop (from + length text) output ≡ rest
text_passed output from text rest e = sym (drop-drop (length text) from output) ∙ (ap (drop (length text)) e ∙ drop-append_seam text rest)

pub end_fine : (output : List ℕ) (p groups from : ℕ) (rest : List ℕ) → drop from output ≡ rest → (groups ≡ 0 → rest ≡ []) → end_tests output p groups from ≡ []
end_fine output p zero from rest e h = fine (nat_le (length output) from) (OutputDiffers p from) (le_nil from output (e ∙ h refl))
end_fine output p (suc groups) from rest e h = refl

pub end_fault : (output : List ℕ) (p groups from : ℕ) (rest : List ℕ) (e : No) → drop from output ≡ rest → groups ≡ 0 → 1 ≤ length rest → e ≡ OutputDiffers p from → Answers (end_tests output p groups from) e
end_fault output p zero from rest e d z h is = subst (Answers (passes (nat_le (length output) from) (OutputDiffers p from))) (sym is) (failed (nat_le (length output) from) (OutputDiffers p from) (le_some from output rest d h))
end_fault output p (suc groups) from rest e d z h is = absurd (omega (arith, z))

-- ---- the tests on outputs

-- a partition opens, and its output ends too late
pub open_fault : (old mid new : Ahead) (st next : Reached) (groups place : ℕ) (behind : List (List ℕ) → Reached) (e : JudgeError) → Opens old mid → place ≡ 0 → EndTold mid new st.next groups place (Err e)
    → Tested old new st next (λ outs. end_tests (nth_file outs st.next) st.next groups 0) behind (Err e)
open_fault old mid new st next groups place behind (Fault f) opened first (r, (l, (g, (z, (h, is))))) =
    let o = opened r l g in (
      o.0,
      (
        o.1.0,
        (
          o.1.1.0,
          λ outs w. (let here : nth_file outs st.next ≡ r = ap (nth_file outs) (let d : st.next ≡ st.next + 0 = omega arith in d) ∙ (w.later_is 0 ∙ o.1.1.1.0) in
              end_fault (nth_file outs st.next) st.next groups 0 r f here z h (is ∙ ap (OutputDiffers st.next) first)),
        ),
      ),
    )
open_fault old mid new st next groups place behind Device opened first told = tt
open_fault old mid new st next groups place behind TooLong opened first told = tt
open_fault old mid new st next groups place behind (Output p) opened first told = tt
open_fault old mid new st next groups place behind LongOutput opened first told = tt

abbrev pub opened_at : Reached → ℕ → Reached
opened_at st groups = record st { next = st.next + 1; groups = groups; group = 0; key_before = None; from = 0 }

pub open_fine : (old mid new : Ahead) (st next : Reached) (groups place : ℕ) (u : Unit {0}) → Opens old mid → EndTold mid new st.next groups place (Ok u) → next ≡ opened_at st groups
    → Onward old new st next (λ outs. (end_tests (nth_file outs st.next) st.next groups 0 ≡ []) × (next ≡ opened_at st groups))
open_fine old mid new st next groups place u opened told e rest later n =
    let t = told rest later n in
    let o = opened rest later t.0 in (
      o.0,
      (
        o.1.0,
        (
          o.1.1.0,
          λ outs w. (let here : nth_file outs st.next ≡ rest = ap (nth_file outs) (let d : st.next ≡ st.next + 0 = omega arith in d) ∙ (w.later_is 0 ∙ o.1.1.1.0) in (
            subst (λ (k : Reached). Leaves k outs rest later) (sym e) (record {
              rest_is = ap (nth_file outs) (let d : st.next + 1 - 1 ≡ st.next = omega arith in d) ∙ here;
              later_is = λ q. (ap (nth_file outs) (let d : st.next + 1 + q ≡ st.next + (q + 1) = omega arith in d) ∙ (w.later_is (q + 1) ∙ o.1.1.1.1 q));
            }),
            (end_fine (nth_file outs st.next) st.next groups 0 rest here t.1, e),
          )),
        ),
      ),
    )

abbrev text_at : Ground → Reached → List ℕ
text_at b st = (rules_of b.request).text st.key st.values

text_same : (p from : ℕ) (text rest : List ℕ) (q n : ℕ) (ts output : List ℕ) → p ≡ q → from ≡ n → text ≡ ts → drop n output ≡ rest
    → passes (nat_eq (common_prefix_len nat_eq text rest) (length text)) (OutputDiffers p (from + common_prefix_len nat_eq text rest)) ≡ text_tests output q n ts
text_same p from text rest q n ts output a b c d =
    rw (sym d, a, b, c) refl

-- the text of a group isn't there
pub text_fault : (b : Ground) (old mid : Ahead) (st next : Reached) (p place : ℕ) (text : List ℕ) (behind : List (List ℕ) → Reached) (e : JudgeError) → p ≡ st.next - 1 → place ≡ st.from → text ≡ text_at b st → TextTold old mid p place text (Err e)
    → Tested old mid st next (λ outs. group_tests (subject_with b outs) p st 0) behind (Err e)
text_fault b old mid st next p place text behind (Fault f) here from is (r, (l, (g, told))) = (
  r,
  (
    l,
    (
      g,
      λ outs w. (let output : List ℕ = nth_file outs p in
          let rest : drop st.from output ≡ r = ap (λ k. drop st.from (nth_file outs k)) here ∙ w.rest_is in
          told_left (text_tests output p st.from (text_at b st)) (end_tests output p (st.groups - 1) (st.from + length (text_at b st))) f
          (subst (λ fs. Answers fs f) (text_same p place text r p st.from (text_at b st) output refl from is rest) told)),
    ),
  ),
)
text_fault b old mid st next p place text behind Device here from is told = tt
text_fault b old mid st next p place text behind TooLong here from is told = tt
text_fault b old mid st next p place text behind (Output q) here from is told = tt
text_fault b old mid st next p place text behind LongOutput here from is told = tt

-- it is there, and the output goes on behind the last
pub group_fault : (b : Ground) (old mid new : Ahead) (st next : Reached) (p place at groups : ℕ) (text : List ℕ) (behind : List (List ℕ) → Reached) (u : Unit {0}) (e : JudgeError) → p ≡ st.next - 1 → place ≡ st.from → text ≡ text_at b st → TextTold old mid p place text (Ok u)
    → at ≡ place + length text → groups ≡ st.groups - 1 → EndTold mid new p groups at (Err e) → Tested old new st next (λ outs. group_tests (subject_with b outs) p st 0) behind (Err e)
group_fault b old mid new st next p place at groups text behind u (Fault f) here from is stood there less (r, (l, (g, (z, (h, e))))) = (
  text ++ r,
  (
    l,
    (
      stood r l g,
      λ outs w. (let output : List ℕ = nth_file outs p in
          let ts : List ℕ = text_at b st in
          let rest : drop st.from output ≡ ts ++ r = ap (λ k. drop st.from (nth_file outs k)) here ∙ (w.rest_is ∙ ap (λ t. t ++ r) is) in
          let to : at ≡ st.from + length ts = there ∙ (ap (λ n. n + length text) from ∙ ap (λ t. st.from + length t) is) in
          told_right (text_tests output p st.from ts) (end_tests output p (st.groups - 1) (st.from + length ts)) f
          (text_stands output p st.from ts r rest)
          (end_fault output p (st.groups - 1) (st.from + length ts) r f (text_passed output st.from ts r rest) (sym less ∙ z) h (e ∙ ap (OutputDiffers p) to))),
    ),
  ),
)
group_fault b old mid new st next p place at groups text behind u Device here from is stood there less told = tt
group_fault b old mid new st next p place at groups text behind u TooLong here from is stood there less told = tt
group_fault b old mid new st next p place at groups text behind u (Output q) here from is stood there less told = tt
group_fault b old mid new st next p place at groups text behind u LongOutput here from is stood there less told = tt

abbrev pub closed_at : Reached → ℕ → Reached
closed_at st from = record st { groups = st.groups - 1; group = st.group + 1; key_before = Just st.key; from = from }

pub group_fine : (b : Ground) (old mid new : Ahead) (st next : Reached) (p place at groups : ℕ) (text : List ℕ) (u v : Unit {0}) → p ≡ st.next - 1 → place ≡ st.from → text ≡ text_at b st → TextTold old mid p place text (Ok u)
    → at ≡ place + length text → groups ≡ st.groups - 1 → EndTold mid new p groups at (Ok v) → next ≡ closed_at st at
    → Onward old new st next (λ outs. (group_tests (subject_with b outs) p st 0 ≡ []) × (next ≡ behind_group (subject_with b outs) st 0))
group_fine b old mid new st next p place at groups text u v here from is stood there less told e rest later n =
    let t = told rest later n in (
      text ++ rest,
      (
        later,
        (
          stood rest later t.0,
          λ outs w. (let output : List ℕ = nth_file outs p in
              let ts : List ℕ = text_at b st in
              let left : drop st.from output ≡ ts ++ rest = ap (λ k. drop st.from (nth_file outs k)) here ∙ (w.rest_is ∙ ap (λ t. t ++ rest) is) in
              let to : at ≡ st.from + length ts = there ∙ (ap (λ n. n + length text) from ∙ ap (λ t. st.from + length t) is) in
              let d : next ≡ closed_at st (st.from + length ts) = e ∙ ap (closed_at st) to in
              let passed : drop (st.from + length ts) output ≡ rest = text_passed output st.from ts rest left in (
                subst (λ (k : Reached). Leaves k outs rest later) (sym d) (record {
                  rest_is = ap (λ k. drop (st.from + length ts) (nth_file outs k)) (sym here) ∙ passed;
                  later_is = w.later_is;
                }),
                (both_fine (text_tests output p st.from ts) (end_tests output p (st.groups - 1) (st.from + length ts)) (text_stands output p st.from ts rest left) (end_fine output p (st.groups - 1) (st.from + length ts) rest passed (λ z. t.1 (less ∙ z))), d),
              )),
        ),
      ),
    )

-- ---- an entry

pub tested_as : (old new : Ahead) (st next : Reached) (fs gs : List (List ℕ) → List No) (f g : List (List ℕ) → Reached) (r : Result (Unit {0}) JudgeError)
    → ((outs : List (List ℕ)) → fs outs ≡ gs outs) → ((outs : List (List ℕ)) → f outs ≡ g outs) → Tested old new st next fs f r → Tested old new st next gs g r
tested_as old new st next fs gs f g (Ok u) a b t =
    λ rest later n. (let o = t rest later n in
    (o.0, (o.1.0, (o.1.1.0, λ outs w. (let d = o.1.1.1 outs w in (d.0, (sym (a outs) ∙ d.1.0, d.1.1 ∙ b outs)))))))
tested_as old new st next fs gs f g (Err (Fault e)) a b (r, (l, (h, t))) = (r, (l, (h, λ outs w. subst (λ xs. Answers xs e) (a outs) (t outs w))))
tested_as old new st next fs gs f g (Err Device) a b t = tt
tested_as old new st next fs gs f g (Err TooLong) a b t = tt
tested_as old new st next fs gs f g (Err (Output q)) a b t = tt
tested_as old new st next fs gs f g (Err LongOutput) a b t = tt

-- tests that were passed with no output come before others
pub tested_behind : (old new : Ahead) (st mid next : Reached) (fs gs hs : List (List ℕ) → List No) (f : List (List ℕ) → Reached) (r : Result (Unit {0}) JudgeError)
    → ((outs : List (List ℕ)) → fs outs ≡ []) → ((outs : List (List ℕ)) → hs outs ≡ fs outs ++ gs outs) → ((outs : List (List ℕ)) (rest : List ℕ) (later : List (List ℕ)) → Leaves st outs rest later → Leaves mid outs rest later)
    → Tested old new mid next gs f r → Tested old new st next hs f r
tested_behind old new st mid next fs gs hs f (Ok u) none all leaves t =
    λ rest later n. (let o = t rest later n in
    (o.0, (o.1.0, (o.1.1.0, λ outs w. (let d = o.1.1.1 outs (leaves outs o.0 o.1.0 w) in (d.0, (all outs ∙ both_fine (fs outs) (gs outs) (none outs) d.1.0, d.1.1)))))))
tested_behind old new st mid next fs gs hs f (Err (Fault e)) none all leaves (r, (l, (h, t))) =
    (r, (l, (h, λ outs w. subst (λ xs. Answers xs e) (sym (all outs)) (told_right (fs outs) (gs outs) e (none outs) (t outs (leaves outs r l w))))))
tested_behind old new st mid next fs gs hs f (Err Device) none all leaves t = tt
tested_behind old new st mid next fs gs hs f (Err TooLong) none all leaves t = tt
tested_behind old new st mid next fs gs hs f (Err (Output q)) none all leaves t = tt
tested_behind old new st mid next fs gs hs f (Err LongOutput) none all leaves t = tt

-- an entry leaves the output as it is
pub entry_leaves : (st : Reached) (t : Triple) (e : ℕ) (outs : List (List ℕ)) (rest : List ℕ) (later : List (List ℕ)) → Leaves st outs rest later → Leaves (with_entry st t e) outs rest later
entry_leaves st t zero outs rest later w = record { rest_is = w.rest_is; later_is = w.later_is }
entry_leaves st t (suc e) outs rest later w = record { rest_is = w.rest_is; later_is = w.later_is }

entry_entries : (st : Reached) (t : Triple) (e : ℕ) → (with_entry st t e).entries ≡ st.entries - 1
entry_entries st t zero = refl
entry_entries st t (suc e) = refl

-- behind its order an entry's group may end
pub entry_told : (b : Ground) (old new : Ahead) (st mid next : Reached) (p : ℕ) (name : Name) (t : Triple) (o : Option Triple) (r : Result (Unit {0}) JudgeError) → o ≡ Just t → order_tests (rules_of b.request).part p st name t.key st.entry ≡ [] → mid ≡ with_entry st t st.entry
    → Tested old new mid next (λ outs. group_tests (subject_with b outs) p mid mid.entries) (λ outs. behind_group (subject_with b outs) mid mid.entries) r
    → Tested old new st next (λ outs. entry_tests (subject_with b outs) p st name o) (λ outs. after_entry (subject_with b outs) st o) r
entry_told b old new st mid next p name t o r some none is told =
    let n : mid.entries ≡ st.entries - 1 = ap (λ (w : Reached). w.entries) is ∙ entry_entries st t st.entry in
    let same : (outs : List (List ℕ)) → group_tests (subject_with b outs) p mid mid.entries ≡ group_tests (subject_with b outs) p (with_entry st t st.entry) (st.entries - 1)
    = λ outs. (ap (group_tests (subject_with b outs) p mid) n ∙ ap (λ (w : Reached). group_tests (subject_with b outs) p w (st.entries - 1)) is) in
    let after : (outs : List (List ℕ)) → behind_group (subject_with b outs) mid mid.entries ≡ after_entry (subject_with b outs) st o
    = λ outs. (ap (behind_group (subject_with b outs) mid) n ∙ (ap (λ (w : Reached). behind_group (subject_with b outs) w (st.entries - 1)) is ∙ ap (after_entry (subject_with b outs) st) (sym some))) in
    tested_behind old new st mid next (λ outs. order_tests (rules_of b.request).part p st name t.key st.entry) (λ outs. group_tests (subject_with b outs) p (with_entry st t st.entry) (st.entries - 1)) (λ outs. entry_tests (subject_with b outs) p st name o) (λ outs. after_entry (subject_with b outs) st o) r
    (λ outs. none) (λ outs. ap (entry_tests (subject_with b outs) p st name) some)
    (λ outs rest later w. subst (λ (k : Reached). Leaves k outs rest later) (sym is) (entry_leaves st t st.entry outs rest later w))
    (tested_as old new mid next (λ outs. group_tests (subject_with b outs) p mid mid.entries) (λ outs. group_tests (subject_with b outs) p (with_entry st t st.entry) (st.entries - 1)) (λ outs. behind_group (subject_with b outs) mid mid.entries) (λ outs. after_entry (subject_with b outs) st o) r same after told)

-- ---- items

pub opens_first : (i : Item) (is : List Item) → begins (i ∷ is) ≡ true → (i ≡ End → ⊥) → opens i ≡ true
opens_first (Groups n) is h other = refl
opens_first End is h other = absurd (other refl)
opens_first i is h other = absurd (false≢true h)

-- ---- outputs at hand

pub starts_is : (xs ys : List ℕ) → pointwise nat_eq xs (take (length xs) ys) ≡ true → xs ++ drop (length xs) ys ≡ ys
starts_is [] ys h = refl
starts_is (x ∷ xs) [] h = absurd (false≢true h)
starts_is (x ∷ xs) (y ∷ ys) h = by (nat_eq x y) refl h (starts_is xs ys)
  where
    by : (b : Bool) → nat_eq x y ≡ b → (b && pointwise nat_eq xs (take (length xs) ys)) ≡ true → (pointwise nat_eq xs (take (length xs) ys) ≡ true → xs ++ drop (length xs) ys ≡ ys) → (x ∷ xs) ++ drop (length (x ∷ xs)) (y ∷ ys) ≡ y ∷ ys
    by true e h more = ap (λ w. w ∷ (xs ++ drop (length xs) ys)) (eqb-true x y e) ∙ ap (λ w. y ∷ w) (more h)
    by false e h more = absurd (false≢true h)

pub contents_drop : (n : ℕ) (xs : List (Vec ℕ Global)) → contents (drop n xs) ≡ drop n (contents xs)
contents_drop zero xs = refl
contents_drop (suc n) [] = refl
contents_drop (suc n) (x ∷ xs) = contents_drop n xs
