-- Every item but the end takes a byte at least, in either version.
use Rattle.std.proofs.Common.{◌≡◌, ◌≤◌, length, refl, arith}
use Rattle.mr_bytes.specs.declared.Name.{Name}
use Rattle.mr_certform.specs.declared.grammar_state.Item.{Item}
use Rattle.mr_certform.specs.declared.grammar_state.Item.TheVariants.{Magic, Job, Flags, LiteralLength, LiteralByte, Parts, SplitSize, Files, FileLength, Skips, Skip, Groups, Entries, Entry, End}
use Rattle.mr_certform.specs.declared.grammar_state.GrammarState.{GrammarState}
use Rattle.mr_certform.specs.declared.version.Version.{Version}
use Rattle.mr_certform.specs.declared.version.Version.TheVariants.{V1, V2}
use Rattle.mr_certform.specs.Spelling.{before_of, bytes_at, name_bytes}
use Rattle.mr_certform.proofs.ShortLaws.{name_some}

named_byte : (v : Version) (before name : Name) → 1 ≤ length (name_bytes v before name)
named_byte V1 before name = omega arith
named_byte V2 before name = name_some before name

pub some_byte : (v : Version) (p : GrammarState) (i : Item) → (i ≡ End → ⊥) → 1 ≤ length (bytes_at v p i)
some_byte V1 p Magic h = omega arith
some_byte V2 p Magic h = omega arith
some_byte v p (Job n) h = omega arith
some_byte v p (Flags n) h = omega arith
some_byte v p (LiteralLength n) h = omega arith
some_byte v p (LiteralByte b) h = omega arith
some_byte v p (Parts n) h = omega arith
some_byte v p (SplitSize n) h = omega arith
some_byte v p (Files n) h = omega arith
some_byte v p (FileLength n) h = omega arith
some_byte v p (Skips n) h = omega arith
some_byte v p (Skip s) h = omega arith
some_byte v p (Groups n) h = omega arith
some_byte v p (Entries n) h = omega arith
some_byte v p (Entry n) h = named_byte v (before_of p) n
some_byte v p End h = absurd (h refl)
