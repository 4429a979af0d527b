-- A list of left-out records has no fault just where it is short enough, rises, and names records that exist.
use Rattle.std.proofs.Common.{◌≡◌, ℕ, ◌≤◌, Bool, true, false, cond, Option, None, Some, List, [], ◌∷◌, length, refl, sym, ◌∙◌, ap, arith, inl, inr, nat_lt, IsTrue}
use Rattle.std.proofs.lemmas.Bool.{cases_Bool, cases_lt, lt-ltb, ltb-true, false≢true, true≢false}
use Rattle.std.proofs.lemmas.Cmp.{nat_cmp_total, then_total, on_total}
use Rattle.std.specs.declared.cmp.Ordering.{Ordering}
use Rattle.std.specs.declared.cmp.Ordering.TheVariants.{Less, Equal, Greater}
use Rattle.std.specs.Cmp.{IsTotalOrder}
use Rattle.std.specs.List.{AllByRecursion}
use Rattle.std.specs.Ordering.{is_lt}
use Rattle.mr_bytes.specs.declared.RecordName.{RecordName}
use Rattle.mr_bytes.specs.Lists.{Rises}
use Rattle.mr_bytes.specs.Order.{record_order}
use Rattle.mr_splits.specs.Named.{NamedRecord, named_records}
use Rattle.mr_splits.specs.Cut.{is_record}
use Rattle.mr_splits.specs.Kept.{first_fault, is_past}
use Rattle.mr_splits.specs.declared.kept_records.SkipFault.{SkipFault}
use Rattle.mr_splits.specs.declared.kept_records.SkipFault.TheVariants as split
use Rattle.mr_sequential.specs.declared.sequence.RunFault.{RunFault}
use Rattle.mr_sequential.specs.declared.sequence.RunFault.TheVariants.{NoSuchRecord, SkipOrder, TooManySkips}
use Rattle.mr_sequential.specs.Skips.{list_fault, GoodSkips}

record_total : IsTotalOrder record_order
record_total = then_total (on_total (λ (a : RecordName). a.split) nat_cmp_total) (on_total (λ (a : RecordName). a.rec) nat_cmp_total)

lt-less : (o : Ordering) → is_lt o ≡ true → o ≡ Less
lt-less Less h = refl
lt-less Equal h = absurd (false≢true h)
lt-less Greater h = absurd (false≢true h)

past-later : (before : Option RecordName) (name later : RecordName) → is_past before name ≡ true → record_order name later ≡ Less → is_past before later ≡ true
past-later None name later h l = refl
past-later (Some b) name later h l = ap is_lt (record_total.trans b name later (lt-less (record_order b name) h) l)

all_past-later : (before : Option RecordName) (name : RecordName) (names : List RecordName) → is_past before name ≡ true
    → AllByRecursion (λ n. record_order name n ≡ Less) names → AllByRecursion (λ n. is_past before n ≡ true) names
all_past-later before name [] h all = tt
all_past-later before name (n ∷ names) h all = (past-later before name n h all.0, all_past-later before name names h all.1)

past-less : (name : RecordName) (names : List RecordName) → AllByRecursion (λ n. is_past (Some name) n ≡ true) names → AllByRecursion (λ n. record_order name n ≡ Less) names
past-less name [] all = tt
past-less name (n ∷ names) all = (lt-less (record_order name n) all.0, past-less name names all.1)

less-past : (name : RecordName) (names : List RecordName) → AllByRecursion (λ n. record_order name n ≡ Less) names → AllByRecursion (λ n. is_past (Some name) n ≡ true) names
less-past name [] all = tt
less-past name (n ∷ names) all = (ap is_lt all.0, less-past name names all.1)

record IsGoodList (rs : List NamedRecord) (before : Option RecordName) (names : List RecordName) : Type 0 where
  pub past : AllByRecursion (λ n. is_past before n ≡ true) names
  pub rises : Rises record_order names
  pub exist : AllByRecursion (λ n. IsTrue (is_record rs n)) names

good : (rs : List NamedRecord) (before : Option RecordName) (names : List RecordName) → ◌≡◌ {A = Option RunFault} (list_fault rs before names) None → IsGoodList rs before names
good rs before [] h = record { past = tt; rises = tt; exist = tt }
good rs before (name ∷ names) h = by (is_past before name) (is_record rs name) refl refl h (good rs (Some name) names)
  where
    by : (p e : Bool) → is_past before name ≡ p → is_record rs name ≡ e
        → ◌≡◌ {A = Option RunFault} (cond p (cond e (list_fault rs (Some name) names) (Some NoSuchRecord)) (Some SkipOrder)) None
        → (◌≡◌ {A = Option RunFault} (list_fault rs (Some name) names) None → IsGoodList rs (Some name) names) → IsGoodList rs before (name ∷ names)
    by false e p-is e-is none rest = absurd (cc)
    by true false p-is e-is none rest = absurd (cc)
    by true true p-is e-is none rest =
        let later : IsGoodList rs (Some name) names = rest none in
        let less = past-less name names later.past in
        record { past = (p-is, all_past-later before name names p-is less); rises = (less, later.rises); exist = (e-is, later.exist) }

none_wrong : (rs : List NamedRecord) (before : Option RecordName) (names : List RecordName) → IsGoodList rs before names → ◌≡◌ {A = Option RunFault} (list_fault rs before names) None
none_wrong rs before [] g = refl
none_wrong rs before (name ∷ names) g =
    let later = none_wrong rs (Some name) names (record { past = less-past name names g.rises.0; rises = g.rises.1; exist = g.exist.1 }) in
    ap (λ p. cond p (cond (is_record rs name) (list_fault rs (Some name) names) (Some NoSuchRecord)) (Some SkipOrder)) g.past.0
    ∙ ap (λ e. cond e (list_fault rs (Some name) names) (Some NoSuchRecord)) g.exist.0 ∙ later

all_past : (names : List RecordName) → AllByRecursion (λ n. is_past None n ≡ true) names
all_past [] = tt
all_past (n ∷ names) = (refl, all_past names)

pub good_skips : GoodSkips
good_skips request files skips =
    let rs : List NamedRecord = named_records request.split files in (
      λ h. by (nat_lt request.skips (length skips)) refl h,
      λ g.
          (let few : nat_lt request.skips (length skips) ≡ false = not_less (length skips) request.skips g.0 in
          ap (λ t. cond t (Some TooManySkips) (list_fault rs None skips)) few
          ∙ none_wrong rs None skips (record { past = all_past skips; rises = g.1; exist = g.2 })),
    )
  where
    not_less : (n k : ℕ) → n ≤ k → nat_lt k n ≡ false
    not_less n k h = elim (cases_Bool (nat_lt k n)) [ inl t ↦ absurd (omega (arith, h, ltb-true k n t)) | inr f ↦ f ]

    by : (t : Bool) → nat_lt request.skips (length skips) ≡ t → ◌≡◌ {A = Option RunFault} (cond t (Some TooManySkips) (list_fault (named_records request.split files) None skips)) None
        → (length skips ≤ request.skips) × Rises record_order skips × AllByRecursion (λ name. IsTrue (is_record (named_records request.split files) name)) skips
    by true is none = absurd (cc)
    by false is none =
        let g = good (named_records request.split files) None skips none in
        (at_most (length skips) request.skips is, g.rises, g.exist)
      where
        at_most : (n k : ℕ) → nat_lt k n ≡ false → n ≤ k
        at_most n k f = elim (cases_lt k n) [ inl lt ↦ absurd (true≢false (sym (lt-ltb k n lt) ∙ f)) | inr le ↦ le ]

-- the fault of a run that a fault of a list is
abbrev pub told : Option SkipFault → Option RunFault
told None = None
told (Some split.TooMany) = Some TooManySkips
told (Some split.Order) = Some SkipOrder
told (Some split.NoSuchRecord) = Some NoSuchRecord

pub told-first : (rs : List NamedRecord) (before : Option RecordName) (names : List RecordName) → told (first_fault rs before names) ≡ list_fault rs before names
told-first rs before [] = refl
told-first rs before (name ∷ names) =
    by (is_past before name) (is_record rs name) (told-first rs (Some name) names)
  where
    by : (p e : Bool) → told (first_fault rs (Some name) names) ≡ list_fault rs (Some name) names
        → told (cond p (cond e (first_fault rs (Some name) names) (Some split.NoSuchRecord)) (Some split.Order))
        ≡ cond p (cond e (list_fault rs (Some name) names) (Some NoSuchRecord)) (Some SkipOrder)
    by false e h = refl
    by true false h = refl
    by true true h = h
