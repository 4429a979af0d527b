-- How a history is read, line by line. No public clause cites it.
use Rattle.std.specs.Prelude.{◌≡◌, ℕ, ◌<◌, ◌≤◌, List, [], ◌∷◌, ◌++◌, length, drop}
use Rattle.mr_core.specs.Core.{InLimits}
use Rattle.mr_core.specs.declared.event.Event.{Event}
use Rattle.mr_core.specs.declared.event.Reply.{Reply}
use Rattle.mr_picture.specs.declared.reading.History.{History}
use Rattle.mr_picture.specs.HistoryLines.{entry_line, history_text}
use Rattle.mr_picture.specs.Histories.{AreSmallIn, AreSmallOf, Follow, MayFollow, given}

abbrev pub AreSmall : Event × Reply → Type 0
AreSmall e = AreSmallIn e.0 × AreSmallOf e.1

-- the text begins with this line of n bytes
pub record IsFront (n : ℕ) (line text : List ℕ) : Type 0 where
  pub is : text ≡ line ++ drop n text
  pub some : 0 < n
  pub within : n ≤ length text

-- the text begins with the line, of n bytes, of an entry that may come next
pub record IsNext (h : History) (text : List ℕ) (e : Event × Reply) (n : ℕ) : Type 0 where
  pub may : MayFollow h.shape h.entries.items e
  pub line : IsFront n (entry_line e) text

-- that entry is added
pub record AddsEntry (old new : History) (text : List ℕ) (n : ℕ) : Type 0 where
  pub entry : Event × Reply
  pub next : IsNext old text entry n
  pub shape : new.shape ≡ old.shape
  pub entries : new.entries.items ≡ old.entries.items ++ entry ∷ []
  pub tasks : new.tasks.items ≡ given new.entries.items

-- the text before `from` is what was read
pub record IsReadTo (text : List ℕ) (h : History) (from : ℕ) : Type 0 where
  pub text_is : text ≡ history_text h.shape h.entries.items ++ drop from text
  pub within : from ≤ length text
  pub count : length h.entries.items < from
  pub limits : InLimits h.shape
  pub follow : Follow h.shape [] h.entries.items
  pub tasks : h.tasks.items ≡ given h.entries.items
