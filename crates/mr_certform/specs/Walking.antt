-- What a walker has before it.
use Rattle.std.specs.Prelude.{ℕ, ◌+◌, ◌-◌, List, length}
use Rattle.mr_certform.specs.declared.grammar_state.Item.{Item}
use Rattle.mr_certform.specs.declared.walker.Walker.{Walker}
use Rattle.mr_certform.specs.Spelling.{items_from, bytes_from}

-- the items that are still to come
unfoldable pub items_left : Walker → List Item
items_left w = items_from w.version w.place w.rest.now

-- the place in bytes, from the front of them all, behind the last of these items
unfoldable pub halt : Walker → ℕ
halt w = w.whole - length w.rest.now + length (bytes_from w.version w.place (items_left w))
