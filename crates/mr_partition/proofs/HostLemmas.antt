-- The host of a key is the one that its parts give.
use Rattle.std.proofs.Common.{◌≡◌, ◌≢◌, ℕ, ◌⊎◌, true, false, eqb, List, [], ◌∷◌, ◌++◌, refl, sym, ◌∙◌, ap, subst, arith, inl, inr, Option, None, Some}
use Rattle.std.proofs.lemmas.Bool.{eq-eqb, ne_eqb, cases_eq, cases_Bool, cond-true, cond-false}
use Rattle.std.specs.Prelude.{codes}
use Rattle.std.specs.List.{AllByRecursion}
use Rattle.mr_bytes.specs.Bytes.{fold_byte, folded}
use Rattle.mr_bytes.specs.declared.By.TheVariants.{Key, Host}
use Rattle.mr_partition.specs.Hosts.{before_end, behind, ends_host, host, host_in}
use Rattle.mr_partition.specs.HostLaws.{EndsOrMark, HasNoHost, HostByParts, HostPartitionsAreBelow, IsHostOf, OneHost}

-- ---- the scheme

behind-here : (c b : ℕ) (front bytes : List ℕ) → fold_byte b ≡ c → behind (c ∷ front) (b ∷ bytes) ≡ behind front bytes
behind-here c b front bytes e = cond-true (eqb (fold_byte b) c) (behind front bytes) None (eq-eqb (fold_byte b) c e)

behind-not : (c b : ℕ) (front bytes : List ℕ) → (fold_byte b ≢ c) → behind (c ∷ front) (b ∷ bytes) ≡ None
behind-not c b front bytes ne = cond-false (eqb (fold_byte b) c) (behind front bytes) None (ne_eqb (fold_byte b) c ne)

-- the bytes begin with the front in some case, and these follow it
pub record Begins (front bytes rest : List ℕ) : Type 0 where
  pub scheme : List ℕ
  pub all : bytes ≡ scheme ++ rest
  pub folds : folded scheme ≡ front

begins : (front bytes rest : List ℕ) → behind front bytes ≡ Some rest → Begins front bytes rest
begins [] bytes rest h = record { scheme = []; all = (let same : Some bytes ≡ Some rest = h in cc); folds = refl }
begins (c ∷ front) [] rest h = absurd (let no : None ≡ Some rest = h in cc)
begins (c ∷ front) (b ∷ bytes) rest h =
    elim (cases_eq (fold_byte b) c) [
      | inl e ↦
          let later : Begins front bytes rest = begins front bytes rest (sym (behind-here c b front bytes e) ∙ h) in
          record {
            scheme = b ∷ later.scheme;
            all = ap (λ (l : List ℕ). b ∷ l) later.all;
            folds = ap (λ (x : ℕ). x ∷ folded later.scheme) e ∙ ap (λ (l : List ℕ). c ∷ l) later.folds;
          }
      | inr ne ↦ absurd (let no : None ≡ Some rest = sym (behind-not c b front bytes ne) ∙ h in cc)
    ]

begins-so : (scheme rest : List ℕ) → behind (folded scheme) (scheme ++ rest) ≡ Some rest
begins-so [] rest = refl
begins-so (b ∷ scheme) rest = behind-here (fold_byte b) b (folded scheme) (scheme ++ rest) refl ∙ begins-so scheme rest

-- a front that parts from another at a byte
parts-from : (shared f g scheme rest : List ℕ) (c d : ℕ) → (c ≢ d) → folded scheme ≡ shared ++ d ∷ g → behind (shared ++ c ∷ f) (scheme ++ rest) ≡ None
parts-from [] f g [] rest c d ne e = absurd (let no : [] ≡ d ∷ g = e in cc)
parts-from [] f g (b ∷ scheme) rest c d ne e =
    let head : fold_byte b ≡ d = (let all : fold_byte b ∷ folded scheme ≡ d ∷ g = e in cc) in
    behind-not c b f (scheme ++ rest) (λ same. ne (sym same ∙ head))
parts-from (p ∷ shared) f g [] rest c d ne e = absurd (let no : [] ≡ p ∷ (shared ++ d ∷ g) = e in cc)
parts-from (p ∷ shared) f g (b ∷ scheme) rest c d ne e =
    let head : fold_byte b ≡ p = (let all : fold_byte b ∷ folded scheme ≡ p ∷ (shared ++ d ∷ g) = e in cc) in
    let tail : folded scheme ≡ shared ++ d ∷ g = (let all : fold_byte b ∷ folded scheme ≡ p ∷ (shared ++ d ∷ g) = e in cc) in
    behind-here p b (shared ++ c ∷ f) (scheme ++ rest) head ∙ parts-from shared f g scheme rest c d ne tail

-- ---- what ends a host

before-here : (b : ℕ) (bytes : List ℕ) → ends_host b ≡ true → before_end (b ∷ bytes) ≡ []
before-here b bytes e = cond-true (ends_host b) [] (b ∷ before_end bytes) e

before-there : (b : ℕ) (bytes : List ℕ) → ends_host b ≡ false → before_end (b ∷ bytes) ≡ b ∷ before_end bytes
before-there b bytes e = cond-false (ends_host b) [] (b ∷ before_end bytes) e

abbrev HasNoEnd : List ℕ → Type 0
HasNoEnd bytes = AllByRecursion (λ b. ends_host b ≡ false) bytes

before-written : (written after : List ℕ) → HasNoEnd written → EndsOrMark after → before_end (written ++ after) ≡ written
before-written [] [] h e = refl
before-written [] (b ∷ bytes) h e = before-here b bytes e
before-written (b ∷ written) after h e = before-there b (written ++ after) h.0 ∙ ap (λ (l : List ℕ). b ∷ l) (before-written written after h.1 e)

before-no_end : (bytes : List ℕ) → HasNoEnd (before_end bytes)
before-no_end [] = tt
before-no_end (b ∷ bytes) =
    elim (cases_Bool (ends_host b)) [
      | inl e ↦ subst HasNoEnd (sym (before-here b bytes e)) tt
      | inr e ↦ subst HasNoEnd (sym (before-there b bytes e)) (e, before-no_end bytes)
    ]

-- what follows the bytes before an end
pub record Ended (bytes : List ℕ) : Type 0 where
  pub after : List ℕ
  pub all : bytes ≡ before_end bytes ++ after
  pub ends : EndsOrMark after

ended : (bytes : List ℕ) → Ended bytes
ended [] = record { after = []; all = refl; ends = tt }
ended (b ∷ bytes) =
    elim (cases_Bool (ends_host b)) [
      | inl e ↦ record { after = b ∷ bytes; all = ap (λ (l : List ℕ). l ++ b ∷ bytes) (sym (before-here b bytes e)); ends = e }
      | inr e ↦
          let later : Ended bytes = ended bytes in
          record {
            after = later.after;
            all = ap (λ (l : List ℕ). b ∷ l) later.all ∙ ap (λ (l : List ℕ). l ++ later.after) (sym (before-there b bytes e));
            ends = later.ends;
          }
    ]

-- ---- the parts give the host

abbrev plain : List ℕ
plain = codes "http://"

abbrev safe : List ℕ
safe = codes "https://"

host-plain : (key rest : List ℕ) → behind plain key ≡ Some rest → host key ≡ folded (before_end rest)
host-plain key rest e = ap (λ (o : Option (List ℕ)). folded (host_in o (behind safe key))) e

host-safe : (key rest : List ℕ) → behind plain key ≡ None → behind safe key ≡ Some rest → host key ≡ folded (before_end rest)
host-safe key rest none e =
    ap (λ (o : Option (List ℕ)). folded (host_in o (behind safe key))) none ∙ ap (λ (o : Option (List ℕ)). folded (host_in None o)) e

host-none : (key : List ℕ) → behind plain key ≡ None → behind safe key ≡ None → host key ≡ []
host-none key a b =
    ap (λ (o : Option (List ℕ)). folded (host_in o (behind safe key))) a ∙ ap (λ (o : Option (List ℕ)). folded (host_in None o)) b

front-begins : (front key scheme rest : List ℕ) → key ≡ scheme ++ rest → folded scheme ≡ front → behind front key ≡ Some rest
front-begins front key scheme rest all e =
    ap (behind front) all ∙ ap (λ (f : List ℕ). behind f (scheme ++ rest)) (sym e) ∙ begins-so scheme rest

safe-is_not-plain : (key scheme rest : List ℕ) → key ≡ scheme ++ rest → folded scheme ≡ safe → behind plain key ≡ None
safe-is_not-plain key scheme rest all e =
    ap (behind plain) all ∙ parts-from (codes "http") (codes "//") (codes "://") scheme rest 0x3A 0x73 (λ h. omega (arith, h)) e

pub host_of-parts : (key h : List ℕ) → IsHostOf key h → host key ≡ h
host_of-parts key h i =
    let rest : List ℕ = i.written ++ i.after in
    let is : folded (before_end rest) ≡ h = ap folded (before-written i.written i.after i.no_end i.ends) ∙ sym i.host_is in
    elim i.scheme_is [
      | inl e ↦ host-plain key rest (front-begins plain key i.scheme rest i.key_is e) ∙ is
      | inr e ↦ host-safe key rest (safe-is_not-plain key i.scheme rest i.key_is e) (front-begins safe key i.scheme rest i.key_is e) ∙ is
    ]

pub one_host : OneHost
one_host key a b i k = sym (host_of-parts key a i) ∙ host_of-parts key b k

-- ---- the host gives the parts

parted : (front key h rest : List ℕ) → (front ≡ plain) ⊎ (front ≡ safe) → Begins front key rest → host key ≡ h → host key ≡ folded (before_end rest) → IsHostOf key h
parted front key h rest which b of is =
    let e : Ended rest = ended rest in
    record {
      scheme = b.scheme;
      written = before_end rest;
      after = e.after;
      key_is = b.all ∙ ap (λ (l : List ℕ). b.scheme ++ l) e.all;
      scheme_is = elim which [ inl f ↦ inl (b.folds ∙ f) | inr f ↦ inr (b.folds ∙ f) ];
      no_end = before-no_end rest;
      ends = e.ends;
      host_is = sym of ∙ is;
    }

none_has : (key : List ℕ) → behind plain key ≡ None → behind safe key ≡ None → HasNoHost key
none_has key a b h i =
    let rest : List ℕ = i.written ++ i.after in
    elim i.scheme_is [
      | inl e ↦ (let no : None ≡ Some rest = sym a ∙ front-begins plain key i.scheme rest i.key_is e in cc)
      | inr e ↦ (let no : None ≡ Some rest = sym b ∙ front-begins safe key i.scheme rest i.key_is e in cc)
    ]

cases_found : (o : Option (List ℕ)) → (o ≡ None) ⊎ ((r : List ℕ) × (o ≡ Some r))
cases_found None = inl refl
cases_found (Some r) = inr (r, refl)

pub parts_of-host : (key h : List ℕ) → host key ≡ h → IsHostOf key h ⊎ (HasNoHost key × (h ≡ []))
parts_of-host key h of =
    elim (cases_found (behind plain key)) [
      | inl a ↦
          elim (cases_found (behind safe key)) [
            | inl b ↦ inr (none_has key a b, sym of ∙ host-none key a b)
            | inr found ↦ inl (parted safe key h found.0 (inr refl) (begins safe key found.0 found.1) of (host-safe key found.0 a found.1))
          ]
      | inr found ↦ inl (parted plain key h found.0 (inl refl) (begins plain key found.0 found.1) of (host-plain key found.0 found.1))
    ]

none_is : (key : List ℕ) → HasNoHost key → host key ≡ []
none_is key none =
    elim (parts_of-host key (host key) refl) [
      | inl i ↦ absurd (none (host key) i)
      | inr r ↦ r.1
    ]

from_either : (key h : List ℕ) → IsHostOf key h ⊎ (HasNoHost key × (h ≡ [])) → host key ≡ h
from_either key h either =
    elim either [
      | inl i ↦ host_of-parts key h i
      | inr r ↦ none_is key r.0 ∙ sym r.1
    ]

pub host_by_parts : HostByParts
host_by_parts key h = (λ of. parts_of-host key h of, λ either. from_either key h either)

pub below : HostPartitionsAreBelow
below Key key parts some = omega arith
below Host key parts some = omega arith
