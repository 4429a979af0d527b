-- Of no public promise: the items that are a number of four bytes.
use Rattle.std.specs.Prelude.{ℕ, ◌&&◌, Option, Some, None, nat_le, if◌then◌else◌}
use Rattle.mr_certform.specs.declared.grammar_state.Item.{Item}
use Rattle.mr_certform.specs.declared.grammar_state.Item.TheVariants.{Job, Flags, LiteralLength, Parts, SplitSize, Files, Skips, Groups, Entries}
use Rattle.mr_certform.specs.declared.grammar_state.GrammarState.{GrammarState}
use Rattle.mr_certform.specs.declared.grammar_state.GrammarState.TheVariants.{AtJob, AtFlags, AtLiteralLength, AtParts, AtSplitSize, AtFiles, AtSkips, AtGroups, AtEntries}

-- the item of a number at a place where one stands; none where the number may not stand there
abbrev pub numbered : GrammarState → ℕ → Option Item
numbered AtJob n = Some (Job n)
numbered AtFlags n = Some (Flags n)
numbered AtLiteralLength n = if nat_le n 4096 then Some (LiteralLength n) else None
numbered AtParts n = if nat_le 1 n && nat_le n 1024 then Some (Parts n) else None
numbered (AtSplitSize r) n = Some (SplitSize n)
numbered (AtFiles r) n = if nat_le n 1024 then Some (Files n) else None
numbered (AtSkips r) n = Some (Skips n)
numbered (AtGroups r) n = Some (Groups n)
numbered (AtEntries r g) n = if nat_le 1 n then Some (Entries n) else None
numbered _ n = None
