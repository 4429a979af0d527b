-- Left-out records one by one.
use Rattle.std.proofs.Common.{true, suc, ◌≡◌, ℕ, Option, Some, None, List, [], ◌∷◌, ◌++◌, length, refl, ap, sym, ◌∙◌}
use Rattle.std.specs.Prelude.{Err}
use Rattle.std.proofs.lemmas.Bool.{false≢true}
use Rattle.mr_bytes.specs.declared.RecordName.{RecordName}
use Rattle.mr_splits.specs.Named.{NamedRecord}
use Rattle.mr_certform.specs.declared.grammar_state.Item.{Item}
use Rattle.mr_certform.specs.declared.grammar_state.Item.TheVariants.{Skip}
use Rattle.mr_verdict.specs.declared.answers.No.{No}
use Rattle.mr_verdict.specs.Verdict.{last_of}
use Rattle.mr_verdict.specs.declared.answers.No.TheVariants.{Malformed}
use Rattle.mr_verdict.specs.Steps.{skip_fault, unless, listed, skips_in_front}
use Rattle.mr_verdict.specs.Items.{skip_next}

pub last_more : (ss : List RecordName) (s : RecordName) → last_of (ss ++ s ∷ []) ≡ Some s
last_more [] s = refl
last_more (t ∷ []) s = refl
last_more (t ∷ u ∷ ss) s = last_more (u ∷ ss) s

-- one more of so many left-out records
pub listed_more : (rs : List NamedRecord) (at k n m : ℕ) (ss ts : List RecordName) (is : List Item) (s : RecordName) (before : Option RecordName) (o : Option No) → k ≡ suc n → ts ≡ ss ++ s ∷ [] → before ≡ last_of ss → m ≡ length ss → o ≡ skip_fault rs before s m → o ≡ None
    → listed rs at n ts is ≡ listed rs at k ss (Skip s ∷ is)
listed_more rs at k n m ss ts is s before o d p b l f none =
    let fault : skip_fault rs (last_of ss) s (length ss) ≡ None = ap (λ w. skip_fault rs w s (length ss)) (sym b) ∙ (ap (skip_fault rs before s) (sym l) ∙ (sym f ∙ none)) in
    ap (λ w. listed rs at n w is) p ∙ (ap (λ w. unless w (listed rs at n (ss ++ s ∷ []) is)) (sym fault) ∙ ap (λ w. listed rs at w ss (Skip s ∷ is)) (sym d))

pub listed_fault : (rs : List NamedRecord) (at k n m : ℕ) (ss : List RecordName) (is : List Item) (s : RecordName) (before : Option RecordName) (o : Option No) (e : No) → k ≡ suc n → before ≡ last_of ss → m ≡ length ss → o ≡ skip_fault rs before s m → o ≡ Some e
    → listed rs at k ss (Skip s ∷ is) ≡ Err e
listed_fault rs at k n m ss is s before o e d b l f some =
    let fault : skip_fault rs (last_of ss) s (length ss) ≡ Some e = ap (λ w. skip_fault rs w s (length ss)) (sym b) ∙ (ap (skip_fault rs before s) (sym l) ∙ (sym f ∙ some)) in
    ap (λ w. listed rs at w ss (Skip s ∷ is)) d ∙ ap (λ w. unless w (listed rs at n (ss ++ s ∷ []) is)) fault

pub listed_stops : (rs : List NamedRecord) (at k n : ℕ) (ss : List RecordName) → k ≡ suc n → listed rs at k ss [] ≡ Err (Malformed at)
listed_stops rs at k n ss d = ap (λ w. listed rs at w ss []) d

-- so many are in front, and one less behind the first
pub front_more : (k n : ℕ) (s : RecordName) (is : List Item) → k ≡ suc n → skips_in_front k (Skip s ∷ is) ≡ true → skips_in_front n is ≡ true
front_more k n s is d h = ap (λ w. skips_in_front w (Skip s ∷ is)) (sym d) ∙ h

pub front_next : (k n : ℕ) (is : List Item) → k ≡ suc n → skips_in_front k is ≡ true → skip_next is ≡ true
front_next k n [] d h = refl
front_next k n (Skip s ∷ is) d h = refl
front_next k n (i ∷ is) d h = absurd (false≢true (ap (λ w. skips_in_front w (i ∷ is)) (sym d) ∙ h))
