-- Of no public promise: which kind of item is awaited where, whatever its number.
use Rattle.std.specs.Prelude.{List, [], ◌∷◌}
use Rattle.mr_certform.specs.declared.grammar_state.Item.{Item}
use Rattle.mr_certform.specs.declared.grammar_state.Item.TheVariants.{Magic, Job, Flags, LiteralLength, LiteralByte, Parts, SplitSize, Files, FileLength, Skips, Skip, Groups, Entries, Entry, End}
use Rattle.mr_certform.specs.declared.grammar_state.GrammarState.{GrammarState}
use Rattle.mr_certform.specs.declared.grammar_state.GrammarState.TheVariants.{AtMagic, AtJob, AtFlags, AtLiteralLength, AtLiteralByte, AtParts, AtSplitSize, AtFiles, AtFileLength, AtSkips, AtSkip, AtGroups, AtEntries, AtEntry, AtEnd}
use Rattle.mr_certform.specs.Places.{behind}

-- an item of the kind that is awaited at this place
abbrev pub IsOfKind : GrammarState → Item → Type 0
IsOfKind AtMagic Magic = Unit {0}
IsOfKind AtJob (Job n) = Unit {0}
IsOfKind AtFlags (Flags n) = Unit {0}
IsOfKind AtLiteralLength (LiteralLength n) = Unit {0}
IsOfKind (AtLiteralByte m) (LiteralByte b) = Unit {0}
IsOfKind AtParts (Parts n) = Unit {0}
IsOfKind (AtSplitSize r) (SplitSize n) = Unit {0}
IsOfKind (AtFiles r) (Files n) = Unit {0}
IsOfKind (AtFileLength r m) (FileLength n) = Unit {0}
IsOfKind (AtSkips r) (Skips n) = Unit {0}
IsOfKind (AtSkip r m) (Skip s) = Unit {0}
IsOfKind (AtGroups r) (Groups n) = Unit {0}
IsOfKind (AtEntries r g) (Entries n) = Unit {0}
IsOfKind (AtEntry r g m before) (Entry n) = Unit {0}
IsOfKind AtEnd End = Unit {0}
IsOfKind _ _ = ⊥

-- each item is of the kind that is awaited where it stands, from this place on
abbrev pub InKind : GrammarState → List Item → Type 0
InKind p [] = Unit {0}
InKind p (i ∷ is) = IsOfKind p i × InKind (behind p i) is
