-- What holds of all lines and scripts.
use Rattle.std.specs.Prelude.{◌≡◌, ◌↔◌, ℕ, List, Some}
use Rattle.mr_records.specs.Records.{records}
use Rattle.mr_script.specs.declared.script.Directive.{Directive}
use Rattle.mr_script.specs.Lines.{SaysNothing, SpellsLine}
use Rattle.mr_script.specs.Scripts.{SpellsScript, IsFirstBad}
use Rattle.mr_script.specs.Meaning.{directive_of}

-- the relation and the function say the same
abbrev pub LinesByMeaning : Type 0
LinesByMeaning = (line : List ℕ) (d : Directive) → SpellsLine line d ↔ (directive_of line ≡ Some d)

-- a line spells at most one directive
abbrev pub OneDirective : Type 0
OneDirective = (line : List ℕ) (d e : Directive) → SpellsLine line d → SpellsLine line e → d ≡ e

-- a line that says nothing spells none
abbrev pub NothingIsNoDirective : Type 0
NothingIsNoDirective = (line : List ℕ) (d : Directive) → SaysNothing line → SpellsLine line d → ⊥

-- bytes spell at most one list of directives
abbrev pub OneScript : Type 0
OneScript = (bytes : List ℕ) (ds es : List Directive) → SpellsScript bytes ds → SpellsScript bytes es → ds ≡ es

-- bytes with a bad line spell none
abbrev pub NoScriptHasABadLine : Type 0
NoScriptHasABadLine = (bytes : List ℕ) (n : ℕ) (ds : List Directive) → IsFirstBad (records bytes) n → SpellsScript bytes ds → ⊥
