-- Files that are written, apart from those that are read and from one another.
use Rattle.std.specs.Prelude.{◌≡◌, ◌≢◌, ◌↔◌, ℕ, Bool, true, false, cond, Option, Some, None, List, [], ◌∷◌, ◌++◌, Contains, ⊤}
use Rattle.std.specs.List.{AllByRecursion}
use Rattle.std.specs.Str.{bytes_eq}
use Rattle.std.specs.declared.string.String.{String}
use Rattle.std.specs.Global.{Global}
use Rattle.std.specs.BTreeSet.{BTreeSet, contains_text}

-- the identities that a name may have
abbrev pub Known : Type 1
Known = List ℕ → Option (List ℕ) → Type 0

-- one file may be under both names
abbrev pub AreOne : Known → List ℕ → List ℕ → Type 0
AreOne known name other = (id : List ℕ) × known name (Some id) × known other (Some id)

-- an identity is not another one; none is not any
abbrev pub AreOthers : Option (List ℕ) → Option (List ℕ) → Type 0
AreOthers None other = ⊤
AreOthers (Some id) other = other ≢ Some id

-- two files may be under these names, or a pipe, a socket or a device
abbrev pub AreTwo : Known → List ℕ → List ℕ → Type 0
AreTwo known name other = (id others : Option (List ℕ)) × known name id × known other others × AreOthers id others

-- no file that is written under those names is one that is read under these, or one that is written before
abbrev pub AreApart : Known → List (List ℕ) → List (List ℕ) → Type 0
AreApart known read [] = ⊤
AreApart known read (name ∷ written) = AllByRecursion (AreTwo known name) read × AreApart known (read ++ name ∷ []) written

-- of the names that are written this is the first whose file is one that is read, or that is written before
pub record IsFirstShared (known : Known) (read written : List (List ℕ)) (name : List ℕ) : Type 0 where
  pub before : List (List ℕ)
  pub after : List (List ℕ)
  pub names_are : written ≡ before ++ name ∷ after
  pub first : AreApart known read before
  pub other : List ℕ
  pub of_them : Contains (read ++ before) other
  pub shared : AreOne known name other

-- ---- what each step gives

-- these names have these identities, one for one
abbrev pub AreKnown : Known → List (List ℕ) → List (Option (List ℕ)) → Type 0
AreKnown known [] [] = ⊤
AreKnown known (n ∷ ns) (i ∷ is) = known n i × AreKnown known ns is
AreKnown known _ _ = ⊥

-- a set has the identities of these names
pub record HasSeen (known : Known) (seen : BTreeSet (String Global)) (names : List (List ℕ)) : Type 0 where
  pub ids : List (Option (List ℕ))
  pub are : AreKnown known names ids
  pub just : (id : List ℕ) → contains_text seen id ≡ true ↔ Contains ids (Some id)

-- an identity is put into a set, which may have it
abbrev pub Sees : BTreeSet (String Global) → BTreeSet (String Global) → Option (List ℕ) → Bool → Type 0
Sees old new None was = (was ≡ false) × (new ≡ old)
Sees old new (Some id) was = (was ≡ contains_text old id) × ((other : List ℕ) → contains_text new other ≡ cond (bytes_eq id other) true (contains_text old other))
