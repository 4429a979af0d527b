-- What the grammar asks of the items of a certificate.
use Rattle.std.specs.Prelude.{◌≡◌, ℕ, ◌^◌, ◌<◌, ◌≤◌, List, [], ◌∷◌, slice_index}
use Rattle.mr_certform.specs.declared.grammar_state.Item.{Item}
use Rattle.mr_certform.specs.declared.grammar_state.Item.TheVariants.{Magic, Job, Flags, LiteralLength, LiteralByte, Parts, SplitSize, Files, FileLength, Skips, Skip, Groups, Entries, Entry, End}
use Rattle.mr_certform.specs.declared.grammar_state.GrammarState.{GrammarState}
use Rattle.mr_certform.specs.declared.grammar_state.GrammarState.TheVariants.{AtMagic, AtJob, AtFlags, AtLiteralLength, AtLiteralByte, AtParts, AtSplitSize, AtFiles, AtFileLength, AtSkips, AtSkip, AtGroups, AtEntries, AtEntry, AtEnd, Behind}
use Rattle.mr_certform.specs.declared.version.Version.{Version}
use Rattle.mr_certform.specs.Places.{behind}
use Rattle.mr_certform.specs.Value.{NameFits, SkipFits, CanFollow}

-- the item may stand at this place: it is of the kind that is awaited there, and within its limits
abbrev pub MayStand : GrammarState → Item → Type 0
MayStand AtMagic Magic = Unit {0}
MayStand AtJob (Job n) = n < 2 ^ 32
MayStand AtFlags (Flags n) = n < 2 ^ 32
MayStand AtLiteralLength (LiteralLength n) = n ≤ 4096
MayStand (AtLiteralByte m) (LiteralByte b) = b < 256
MayStand AtParts (Parts n) = (1 ≤ n) × (n ≤ 1024)
MayStand (AtSplitSize r) (SplitSize n) = n < 2 ^ 32
MayStand (AtFiles r) (Files n) = n ≤ 1024
MayStand (AtFileLength r m) (FileLength n) = n < 2 ^ 64
MayStand (AtSkips r) (Skips n) = n < 2 ^ 32
MayStand (AtSkip r m) (Skip s) = SkipFits s
MayStand (AtGroups r) (Groups n) = n < 2 ^ 32
MayStand (AtEntries r g) (Entries n) = (1 ≤ n) × (n < 2 ^ 32)
MayStand (AtEntry r g m before) (Entry n) = NameFits n
MayStand AtEnd End = Unit {0}
MayStand _ _ = ⊥

-- each item where it may stand, from this place on
abbrev pub InOrder : GrammarState → List Item → Type 0
InOrder p [] = Unit {0}
InOrder p (i ∷ is) = MayStand p i × InOrder (behind p i) is

-- the version can spell the item there
abbrev pub CanStand : Version → GrammarState → Item → Type 0
CanStand v (AtEntry r g m before) (Entry n) = CanFollow v before n
CanStand v p i = Unit {0}

-- each item where it may stand and is spelled, from this place on
abbrev pub InOrderIn : Version → GrammarState → List Item → Type 0
InOrderIn v p [] = Unit {0}
InOrderIn v p (i ∷ is) = MayStand p i × CanStand v p i × InOrderIn v (behind p i) is

-- the same, the last being the end
abbrev pub Follow : Version → GrammarState → List Item → Type 0
Follow v p [] = p ≡ Behind
Follow v p (i ∷ is) = MayStand p i × CanStand v p i × Follow v (behind p i) is

-- each of them is a byte
abbrev pub AreBytes : List ℕ → Type 0
AreBytes bytes = (i : ℕ) → slice_index bytes i < 256
