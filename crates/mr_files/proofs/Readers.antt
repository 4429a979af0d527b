-- What several readers may give, and how many of their reads failed, one reader more.
use Rattle.std.proofs.Common.{◌≡◌, ℕ, zero, suc, Option, List, [], ◌∷◌, ◌++◌, get_or, map, drop, refl, ap, subst, sym, ◌∙◌}
use Rattle.std.proofs.lemmas.List.{map-append}
use Rattle.mr_files.specs.Holding.{Agrees, AllAgree, Holding}
use Rattle.mr_files.proofs.Lists.{holding_more}

-- what the last of them gives stands last
last_given : (ks : List (Option (List ℕ))) (k : Option (List ℕ)) (outs : List (List ℕ)) → AllAgree (ks ++ k ∷ []) outs
    → (first : List (List ℕ)) × (b : List ℕ) × (outs ≡ first ++ b ∷ []) × AllAgree ks first × Agrees k b
last_given [] k [] a = absurd a
last_given [] k (b ∷ []) a = ([], b, refl, tt, a.0)
last_given [] k (b ∷ c ∷ outs) a = absurd a.1
last_given (j ∷ ks) k [] a = absurd a
last_given (j ∷ ks) k (b ∷ outs) a =
    let (first, last, is, all, one) = last_given ks k outs a.1 in
    (b ∷ first, last, ap (λ (v : List (List ℕ)). b ∷ v) is, (a.0, all), one)

given_more : (holds : List ℕ → List ℕ → Type 0) (ks : List (Option (List ℕ))) (k : Option (List ℕ)) (names : List (List ℕ)) (n : List ℕ)
    → ((outs : List (List ℕ)) → AllAgree ks outs → Holding holds names outs) → ((b : List ℕ) → Agrees k b → holds n b)
    → (outs : List (List ℕ)) → AllAgree (ks ++ k ∷ []) outs → Holding holds (names ++ n ∷ []) outs
given_more holds ks k names n all one outs a =
    let (first, b, is, agree, last) = last_given ks k outs a in
    subst (λ (v : List (List ℕ)). Holding holds (names ++ n ∷ []) v) (sym is) (holding_more holds names first n b (all first agree) (one b last))

pub none_given : (holds : List ℕ → List ℕ → Type 0) (outs : List (List ℕ)) → AllAgree [] outs → Holding holds [] outs
none_given holds [] a = tt
none_given holds (b ∷ outs) a = absurd a

none_more : (ns : List ℕ) (n : ℕ) → ((p : ℕ) → get_or ns p 0 ≡ 0) → n ≡ 0 → (p : ℕ) → get_or (ns ++ n ∷ []) p 0 ≡ 0
none_more [] n all is zero = is
none_more [] n all is (suc p) = refl
none_more (m ∷ ns) n all is zero = all zero
none_more (m ∷ ns) n all is (suc p) = none_more ns n (λ q. all (suc q)) is p

-- one reader more
pub read_more : {A : Type 0} (before after : List A) (r : A) (f : A → Option (List ℕ)) (holds : List ℕ → List ℕ → Type 0) (names all : List (List ℕ)) (n : List ℕ) → after ≡ before ++ r ∷ [] → all ≡ names ++ n ∷ []
    → ((outs : List (List ℕ)) → AllAgree (map f before) outs → Holding holds names outs) → ((b : List ℕ) → Agrees (f r) b → holds n b)
    → (outs : List (List ℕ)) → AllAgree (map f after) outs → Holding holds all outs
read_more before after r f holds names all n more is h k outs a =
    subst (λ (v : List (List ℕ)). Holding holds v outs) (sym is)
    (given_more holds (map f before) (f r) names n h k outs (subst (λ (ks : List (Option (List ℕ))). AllAgree ks outs) (ap (map f) more ∙ map-append f before (r ∷ [])) a))

pub failed_more : {A : Type 0} (before after : List A) (r : A) (f : A → ℕ) → after ≡ before ++ r ∷ [] → ((p : ℕ) → get_or (map f before) p 0 ≡ 0) → f r ≡ 0 → (p : ℕ) → get_or (map f after) p 0 ≡ 0
failed_more before after r f more h k p = ap (λ ks. get_or ks p 0) (ap (map f) more ∙ map-append f before (r ∷ [])) ∙ none_more (map f before) (f r) h k p

-- bytes with so many in front
padded : ℕ → List ℕ → List ℕ
padded zero b = b
padded (suc n) b = 0 ∷ padded n b

drop_padded : (n : ℕ) (b : List ℕ) → b ≡ drop n (padded n b)
unfolding padded
drop_padded zero b = refl
drop_padded (suc n) b = drop_padded n b

-- any bytes stand behind some place of some file
pub some_file : (at : ℕ) (b : List ℕ) → (file : List ℕ) × (b ≡ drop at file)
some_file at b = (padded at b, drop_padded at b)
