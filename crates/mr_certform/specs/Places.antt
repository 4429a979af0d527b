-- Where an item may stand, and what is awaited behind it.
use Rattle.std.specs.Prelude.{ℕ, zero, suc}
use Rattle.mr_bytes.specs.declared.Name.{Name}
use Rattle.mr_certform.specs.declared.grammar_state.Item.{Item}
use Rattle.mr_certform.specs.declared.grammar_state.Item.TheVariants.{LiteralLength, Parts, Files, Skips, Groups, Entries, Entry, End}
use Rattle.mr_certform.specs.declared.grammar_state.GrammarState.{GrammarState}
use Rattle.mr_certform.specs.declared.grammar_state.GrammarState.TheVariants.{AtMagic, AtJob, AtFlags, AtLiteralLength, AtLiteralByte, AtParts, AtSplitSize, AtFiles, AtFileLength, AtSkips, AtSkip, AtGroups, AtEntries, AtEntry, AtEnd, Behind}

-- what the first entry of a group is counted from
abbrev pub first_name : Name
first_name = record { split = 0; rec = 0; place = 0 }

-- the place behind what comes before n literal bytes; so for the others: behind the partition, group or entry before
abbrev pub literal_bytes : ℕ → GrammarState
literal_bytes zero = AtParts
literal_bytes (suc n) = AtLiteralByte n

abbrev pub file_lengths : ℕ → ℕ → GrammarState
file_lengths parts zero = AtSkips parts
file_lengths parts (suc n) = AtFileLength parts n

abbrev pub partitions : ℕ → GrammarState
partitions zero = AtEnd
partitions (suc n) = AtGroups n

abbrev pub skips : ℕ → ℕ → GrammarState
skips parts zero = partitions parts
skips parts (suc n) = AtSkip parts n

abbrev pub groups : ℕ → ℕ → GrammarState
groups parts zero = partitions parts
groups parts (suc n) = AtEntries parts n

abbrev pub entries : ℕ → ℕ → ℕ → Name → GrammarState
entries parts gs zero before = groups parts gs
entries parts gs (suc n) before = AtEntry parts gs n before

-- what is awaited behind an item; an item elsewhere than at its place doesn't come
abbrev pub behind : GrammarState → Item → GrammarState
behind AtMagic i = AtJob
behind AtJob i = AtFlags
behind AtFlags i = AtLiteralLength
behind AtLiteralLength (LiteralLength n) = literal_bytes n
behind (AtLiteralByte n) i = literal_bytes n
behind AtParts (Parts r) = AtSplitSize r
behind (AtSplitSize r) i = AtFiles r
behind (AtFiles r) (Files n) = file_lengths r n
behind (AtFileLength r n) i = file_lengths r n
behind (AtSkips r) (Skips n) = skips r n
behind (AtSkip r n) i = skips r n
behind (AtGroups r) (Groups n) = groups r n
behind (AtEntries r g) (Entries n) = entries r g n first_name
behind (AtEntry r g n before) (Entry name) = entries r g n name
behind _ _ = Behind

-- a walker stays at the end
abbrev pub onward : GrammarState → Item → GrammarState
onward p End = p
onward p i = behind p i
