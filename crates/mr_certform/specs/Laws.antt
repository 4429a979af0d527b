-- What the definitions of certificates mean, in the words of the subject.
use Rattle.std.specs.Prelude.{◌≡◌, ℕ, List, [], ◌++◌, Some, true, length, take, map}
use Rattle.std.specs.List.{flat_map}
use Rattle.mr_certform.specs.declared.grammar_state.Item.{Item}
use Rattle.mr_certform.specs.declared.grammar_state.Item.TheVariants.{End}
use Rattle.mr_certform.specs.declared.grammar_state.GrammarState.{GrammarState}
use Rattle.mr_certform.specs.declared.grammar_state.GrammarState.TheVariants.{AtMagic}
use Rattle.mr_certform.specs.Spelling.{Front, version_of, standing, bytes_at, bytes_from, items_of, is_ended, stop}
use Rattle.mr_certform.specs.Flat.{total, chunks}
use Rattle.mr_certform.specs.declared.version.Version.{Version}
use Rattle.mr_certform.specs.Value.{Contents, certificate_items, SpellsIn, Spells}
use Rattle.mr_certform.specs.Pieces.{SpellsSoFar, all_bytes}
use Rattle.mr_certform.specs.Grammar.{MayStand, CanStand, InOrderIn, AreBytes}

-- the item that stands in front may stand there, and the bytes begin with its spelling
abbrev pub StandingIsSpelled : Type 0
StandingIsSpelled = (v : Version) (p : GrammarState) (bytes : List ℕ) (f : Front) → AreBytes bytes → standing v p bytes ≡ Some f
    → MayStand p f.item × CanStand v p f.item × (bytes ≡ bytes_at v p f.item ++ f.rest)

-- an item that may stand stands where it is spelled; the end, where no byte is left
abbrev pub SpelledStands : Type 0
SpelledStands = (v : Version) (p : GrammarState) (i : Item) (rest : List ℕ) → MayStand p i → CanStand v p i → (i ≡ End → rest ≡ [])
    → standing v p (bytes_at v p i ++ rest) ≡ Some (record { item = i; rest = rest })

-- before the end no item's spelling begins another's
abbrev pub SpellingsAreApart : Type 0
SpellingsAreApart = (v : Version) (p : GrammarState) (i j : Item) (more : List ℕ) → MayStand p i → CanStand v p i → MayStand p j → CanStand v p j → (i ≡ End → ⊥)
    → bytes_at v p j ≡ bytes_at v p i ++ more → i ≡ j

-- the items of bytes that spell a certificate are the certificate's
abbrev pub SpellingIsRead : Type 0
SpellingIsRead = (bytes : List ℕ) (c : Contents) → Spells bytes c → items_of bytes ≡ certificate_items c

-- where the items of bytes end, the bytes spell a certificate
abbrev pub EndedIsSpelled : Type 0
EndedIsSpelled = (bytes : List ℕ) → AreBytes bytes → is_ended (items_of bytes) ≡ true
    → (c : Contents) × (items_of bytes ≡ certificate_items c) × Spells bytes c

-- no two certificates have one spelling
abbrev pub OneCertificate : Type 0
OneCertificate = (bytes : List ℕ) (c d : Contents) → Spells bytes c → Spells bytes d → c ≡ d

-- the bytes are those of the certificate's parts, one behind another
abbrev pub SpelledByParts : Type 0
SpelledByParts = (v : Version) (bytes : List ℕ) (c : Contents) → SpellsIn v bytes c → bytes ≡ all_bytes v c

-- bytes that spell a certificate tell by their magic in which version
abbrev pub VersionIsTold : Type 0
VersionIsTold = (v : Version) (bytes : List ℕ) (c : Contents) → SpellsIn v bytes c → version_of bytes ≡ v

-- the items of bytes stand in their order, and up to where they stop the bytes are theirs
abbrev pub ItemsStand : Type 0
ItemsStand = (bytes : List ℕ) → AreBytes bytes
    → InOrderIn (version_of bytes) AtMagic (items_of bytes) × (take (stop bytes) bytes ≡ bytes_from (version_of bytes) AtMagic (items_of bytes))

-- no list of items that stand is longer
abbrev pub ItemsAreLongest : Type 0
ItemsAreLongest = (v : Version) (bytes : List ℕ) (is : List Item) (more : List ℕ) → InOrderIn v AtMagic is → (is_ended is ≡ true → more ≡ [])
    → bytes ≡ bytes_from v AtMagic is ++ more → (js : List Item) × (items_of bytes ≡ is ++ js)

-- cut by counts that add up to its length, a list gives pieces of these lengths, which one behind another are the list
abbrev pub CutByCounts : Type 0 → Type 0
CutByCounts X = (counts : List ℕ) (xs : List X) → total counts ≡ length xs
    → (map length (chunks counts xs) ≡ counts) × (flat_map (λ piece. piece) (chunks counts xs) ≡ xs)

-- bytes that spell a certificate as far as its partitions go spell it, where it has all of them
abbrev pub SpelledSoFarIsSpelled : Type 0
SpelledSoFarIsSpelled = (v : Version) (bytes : List ℕ) (c : Contents) → SpellsSoFar v bytes c → length c.groups ≡ c.parts → SpellsIn v bytes c
