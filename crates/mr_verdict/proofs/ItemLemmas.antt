-- Items that are walked, whatever walks them.
use Rattle.std.proofs.Common.{◌≡◌, ℕ, List, [], ◌∷◌, ◌++◌, sym, ◌∙◌, refl, ap, subst}
use Rattle.std.specs.Prelude.{Result, Ok, Err}
use Rattle.mr_certform.specs.declared.grammar_state.Item.{Item}
use Rattle.mr_verdict.specs.declared.answers.No.{No}
use Rattle.mr_verdict.specs.declared.items.JudgeError.{JudgeError}
use Rattle.mr_verdict.specs.declared.items.JudgeError.TheVariants.{Fault, Device, TooLong, Output, LongOutput}
use Rattle.mr_certform.specs.declared.walker.Walker.{Walker}
use Rattle.mr_certform.specs.Walking.{items_left, halt}
use Rattle.mr_verdict.specs.Steps.{met}
use Rattle.mr_verdict.specs.Items.{Coming, Met, Leads, IsUnmet, Stops}
use Rattle.mr_verdict.proofs.MetLemmas.{met_more, met_not, met_then, met_fails}

-- one more of the wanted items came
pub leads_on : (old now next : Coming) (w : Item) (left ws wanted : List Item) (f : No) → left ≡ w ∷ ws → Leads old now left wanted f → ((is : List Item) (at : ℕ) → next is at → (js : List Item) × (now js at × (met at (w ∷ []) f js ≡ Ok is)))
    → Leads old next ws wanted f
leads_on old now next w left ws wanted f e leads came is at n =
    let here = came is at n in
    let there = leads here.0 at here.1.0 in
    (there.0, (there.1.0, met_more at at f w left ws here.0 is e refl here.1.1 ∙ there.1.1))

unmet_on : (at : ℕ) (w : Item) (left ws wanted : List Item) (f : No) (js ks : List Item) (e : JudgeError) → left ≡ w ∷ ws → met at left f js ≡ met at wanted f ks → IsUnmet at (w ∷ []) f js e → IsUnmet at wanted f ks e
unmet_on at w left ws wanted f js ks (Fault n) d same u = sym same ∙ met_not at at f w left ws js n d refl u
unmet_on at w left ws wanted f js ks Device d same u = tt
unmet_on at w left ws wanted f js ks TooLong d same u = tt
unmet_on at w left ws wanted f js ks (Output p) d same u = tt
unmet_on at w left ws wanted f js ks LongOutput d same u = tt

-- or it didn't
pub leads_not : (old now : Coming) (w : Item) (left ws wanted : List Item) (f : No) (e : JudgeError) → left ≡ w ∷ ws → Leads old now left wanted f → (js : List Item) × ((at : ℕ) × (now js at × IsUnmet at (w ∷ []) f js e))
    → (js : List Item) × ((at : ℕ) × (old js at × IsUnmet at wanted f js e))
leads_not old now w left ws wanted f e d leads (js, (at, (n, u))) =
    let there = leads js at n in
    (there.0, (at, (there.1.0, unmet_on at w left ws wanted f js there.0 e d there.1.1 u)))

-- ---- wanted items in two parts

-- they came
abbrev pub Came : Coming → Coming → List Item → No → Type 0
Came old new wanted f = (is : List Item) (at : ℕ) → new is at → (js : List Item) × (old js at × (met at wanted f js ≡ Ok is))

-- or didn't
abbrev pub Failed : Coming → List Item → No → JudgeError → Type 0
Failed old wanted f e = (js : List Item) × ((at : ℕ) × (old js at × IsUnmet at wanted f js e))

unmet_then : (at : ℕ) (us vs : List Item) (f : No) (is js : List Item) (e : JudgeError) → met at us f is ≡ Ok js → IsUnmet at vs f js e → IsUnmet at (us ++ vs) f is e
unmet_then at us vs f is js (Fault n) d u = met_then at f us vs is js d ∙ u
unmet_then at us vs f is js Device d u = tt
unmet_then at us vs f is js TooLong d u = tt
unmet_then at us vs f is js (Output p) d u = tt
unmet_then at us vs f is js LongOutput d u = tt

unmet_front : (at : ℕ) (us vs : List Item) (f : No) (is : List Item) (e : JudgeError) → IsUnmet at us f is e → IsUnmet at (us ++ vs) f is e
unmet_front at us vs f is (Fault n) u = met_fails at f us vs is n u
unmet_front at us vs f is Device u = tt
unmet_front at us vs f is TooLong u = tt
unmet_front at us vs f is (Output p) u = tt
unmet_front at us vs f is LongOutput u = tt

pub came_both : (old mid new : Coming) (us vs : List Item) (f : No) → Came old mid us f → Came mid new vs f → Came old new (us ++ vs) f
came_both old mid new us vs f a b is at n =
    let later = b is at n in
    let front = a later.0 at later.1.0 in
    (front.0, (front.1.0, met_then at f us vs front.0 later.0 front.1.1 ∙ later.1.1))

pub failed_later : (old mid : Coming) (us vs : List Item) (f : No) (e : JudgeError) → Came old mid us f → Failed mid vs f e → Failed old (us ++ vs) f e
failed_later old mid us vs f e a (js, (at, (n, u))) = let front = a js at n in (front.0, (at, (front.1.0, unmet_then at us vs f front.0 js e front.1.1 u)))

pub failed_front : (old : Coming) (us vs : List Item) (f : No) (e : JudgeError) → Failed old us f e → Failed old (us ++ vs) f e
failed_front old us vs f e (js, (at, (n, u))) = (js, (at, (n, unmet_front at us vs f js e u)))

pub met_behind_came : (old mid new : Coming) (us vs : List Item) (f : No) (r : Result (Unit {0}) JudgeError) → Came old mid us f → Met mid new vs f r → Met old new (us ++ vs) f r
met_behind_came old mid new us vs f (Ok u) a b = came_both old mid new us vs f a b
met_behind_came old mid new us vs f (Err e) a b = failed_later old mid us vs f e a b

-- ---- counts of failed reads

pub stops_on : (steady : Type 0) (a b c : ℕ) (r : Result (Unit {0}) JudgeError) → b ≡ a → Stops steady b c r → Stops steady a c r
stops_on steady a b c r d h = subst (λ n. Stops steady n c r) d h

-- ---- items over bytes

-- what is asked holds of the items that are left
pub walked_ok : {B : Type 0} (f : ℕ → List Item → Result B No) (b : B) (is js : List Item) (at to : ℕ) → (js ≡ is) × (to ≡ at) → f to js ≡ Ok b → f at is ≡ Ok b
walked_ok f b is js at to (d, e) h = ap (λ n. f n is) (sym e) ∙ (ap (f to) (sym d) ∙ h)

-- the items that are left, and the place behind them
abbrev pub over : Walker → Coming
over w is at = (is ≡ items_left w) × (at ≡ halt w)
