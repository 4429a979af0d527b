-- What a walker over a reader has before it.
use Rattle.std.specs.Prelude.{◌≡◌, ℕ, ◌+◌, Bool, List, [], ◌∷◌, ◌++◌, length, Option, None, Some, IfSome, Result, Ok, Err, if◌then◌else◌}
use Rattle.mr_store.specs.Devices.{counted}
use Rattle.mr_certform.specs.Grammar.{AreBytes}
use Rattle.mr_certform.specs.declared.grammar_state.Item.{Item}
use Rattle.mr_certform.specs.declared.grammar_state.Item.TheVariants.{End}
use Rattle.mr_certform.specs.declared.grammar_state.GrammarState.{GrammarState}
use Rattle.mr_certform.specs.declared.grammar_state.GrammarState.TheVariants.{AtMagic}
use Rattle.mr_certform.specs.declared.version.Version.{Version}
use Rattle.mr_certform.specs.declared.stream.StreamFault.{StreamFault}
use Rattle.mr_certform.specs.declared.stream.StreamWalker.{StreamWalker}
use Rattle.mr_certform.specs.declared.stream.StreamFault.TheVariants.{Malformed, Device}
use Rattle.mr_certform.specs.Spelling.{items_from, bytes_from, version_of}

-- the version and the place of the next item, and how many bytes the items so far have; the bytes that were read and not told yet, and
-- those that the reader is still to give, where they are known
pub record Stream : Type 0 where
  pub version : Version
  pub place : GrammarState
  pub passed : ℕ
  pub held : List ℕ
  pub coming : Option (List ℕ)

-- what a reader is still to give; one that told its end isn't asked again
abbrev pub coming_from : Bool → Option (List ℕ) → Option (List ℕ)
coming_from exhausted known = if exhausted then Some [] else known

-- what a walker has before it, given what its reader is still to give
abbrev pub stream : {R : Type 0} → (R → Option (List ℕ)) → StreamWalker R → Stream
stream remaining w = record { version = w.version; place = w.place; passed = w.passed; held = w.held; coming = coming_from w.exhausted (remaining w.reader) }

-- where the bytes are known, they are these
abbrev pub Agrees : Option (List ℕ) → List ℕ → Type 0
Agrees known bytes = IfSome known (λ xs. bytes ≡ xs)

-- these may be what a reader is still to give: where it is known, what is known; else any bytes
abbrev pub MayCome : Option (List ℕ) → List ℕ → Type 0
MayCome None bytes = AreBytes bytes
MayCome (Some xs) bytes = bytes ≡ xs

-- these bytes may be still to be told
abbrev pub IsToCome : Stream → List ℕ → Type 0
IsToCome s bytes = (more : List ℕ) × (bytes ≡ s.held ++ more) × MayCome s.coming more

-- the version of the items from this place on; at the front the bytes tell it
abbrev pub version_at : Version → GrammarState → List ℕ → Version
version_at v AtMagic bytes = version_of bytes
version_at v p bytes = v

-- these items may be still to be told, and the place behind the last of them
abbrev pub Gives : Stream → List Item → ℕ → Type 0
Gives s is at = (bytes : List ℕ) × IsToCome s bytes × (is ≡ items_from (version_at s.version s.place bytes) s.place bytes)
    × (at ≡ s.passed + length (bytes_from (version_at s.version s.place bytes) s.place is))

-- an answer takes the first of the items: behind `End` there is `End` alone, and where no item stands there is none
abbrev pub Told : Stream → Stream → Result Item StreamFault → Type 0
Told old new (Ok End) = (is : List Item) (at : ℕ) → Gives new is at → Gives old is at × (is ≡ End ∷ [])
Told old new (Ok i) = (is : List Item) (at : ℕ) → Gives new is at → Gives old (i ∷ is) at
Told old new (Err (Malformed place)) = (is : List Item) (at : ℕ) → Gives new is at → Gives old is at × (is ≡ []) × (at ≡ place)
Told old new (Err Device) = (is : List Item) (at : ℕ) → Gives new is at → Gives old is at

-- a call of the reader failed just where this is told
abbrev pub Counted : ℕ → ℕ → Result Item StreamFault → Type 0
Counted old new (Err Device) = new ≡ counted old
Counted old new answer = new ≡ old
