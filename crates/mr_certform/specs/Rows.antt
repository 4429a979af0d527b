-- The entries that stand next among items.
use Rattle.std.specs.Prelude.{ℕ, ◌+◌, List, ◌∷◌, length}
use Rattle.mr_certform.specs.declared.grammar_state.Item.{Item}
use Rattle.mr_certform.specs.declared.grammar_state.Item.TheVariants.{Entry}
use Rattle.mr_certform.specs.declared.grammar_state.GrammarState.{GrammarState}
use Rattle.mr_certform.specs.declared.version.Version.{Version}
use Rattle.mr_certform.specs.Spelling.{bytes_from, items_from}

-- how many they are
abbrev pub entries_ahead : List Item → ℕ
entries_ahead (Entry name ∷ is) = 1 + entries_ahead is
entries_ahead is = 0

-- the items behind them
abbrev pub behind_entries : List Item → List Item
behind_entries (Entry name ∷ is) = behind_entries is
behind_entries is = is

-- how many bytes the items from a place on take
abbrev pub items_size : Version → GrammarState → List ℕ → ℕ
items_size v p bytes = length (bytes_from v p (items_from v p bytes))
