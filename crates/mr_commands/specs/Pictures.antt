-- What `picture` answers, over the files of a store. No clause says what a page holds.
use Rattle.std.specs.Prelude.{◌≡◌, ◌⊎◌, ℕ, ◌∷◌, ◌++◌, List, [], codes, decimal, string_bytes, ⊤}
use Rattle.mr_picture.specs.Histories.{IsFirstBad, IsReadable}
use Rattle.mr_files.specs.Holding.{Begins, ChangesAmong, Faulty, Stored}
use Rattle.mr_files.specs.Identities.{AreApart, IsFirstShared, Known}
use Rattle.mr_args.specs.declared.fault.Fault.{Fault}
use Rattle.mr_args.specs.declared.fault.Fault.TheVariants.{BadHistory, CannotRead, CannotWrite, SameFile, OutOfMemory}
use Rattle.mr_args.specs.declared.request.PictureOptions.{PictureOptions}

-- what is said of a history of so many events
abbrev pub drawn_line : ℕ → List ℕ
drawn_line events = codes "drawn: " ++ (decimal events ++ codes " events\n")

-- some page stands under the name
abbrev pub HasPage : Stored → List ℕ → Type 0
HasPage new name = (page : List ℕ) × new name page

-- why a text isn't drawn
abbrev pub IsUndrawn : List ℕ → Fault → Type 0
IsUndrawn history (BadHistory line) = IsFirstBad history line
IsUndrawn history OutOfMemory = ⊤
IsUndrawn history fault = ⊥

-- a page can't be written under the name: there stands what stood there, or a beginning of the page
abbrev pub IsPageRefused : Stored → Stored → Faulty → List ℕ → Fault → Type 0
IsPageRefused old new unwritable name (CannotWrite told) = unwritable name × (string_bytes told ≡ name) × (page : List ℕ) × Begins old new name page
IsPageRefused old new unwritable name OutOfMemory = ⊤
IsPageRefused old new unwritable name fault = ⊥

-- the page is no file that is read
abbrev pub IsApart : Known → PictureOptions → Type 0
IsApart known o = AreApart known (o.history.now ∷ []) (o.page.now ∷ [])

-- it is
abbrev pub IsShared : Known → PictureOptions → Fault → Type 0
IsShared known o (SameFile told) = IsFirstShared known (o.history.now ∷ []) (o.page.now ∷ []) (string_bytes told)
IsShared known o OutOfMemory = ⊤
IsShared known o fault = ⊥

-- what `picture` did where it answers
pub record AnswersPicture (old new : Stored) (known : Known) (o : PictureOptions) (text : List ℕ) : Type 0 where
  pub history : List ℕ
  pub events : ℕ
  pub stood : old o.history.now history
  pub apart : IsApart known o
  pub counted : IsReadable history events
  pub drawn : HasPage new o.page.now
  pub said : text ≡ drawn_line events

-- why nothing is written: the file can't be read, the page would be written over it, or it is no history
abbrev pub IsPictureRefusal : Stored → Faulty → Known → PictureOptions → Fault → Type 0
IsPictureRefusal holds unreadable known o (CannotRead told) = unreadable o.history.now × (string_bytes told ≡ o.history.now)
IsPictureRefusal holds unreadable known o (SameFile told) = IsShared known o (SameFile told)
IsPictureRefusal holds unreadable known o fault = (history : List ℕ) × holds o.history.now history × IsApart known o × IsUndrawn history fault

-- why `picture` doesn't answer; memory may be wanting at any time
abbrev pub IsPictureUnanswered : Stored → Stored → Faulty → Faulty → Known → PictureOptions → Fault → Type 0
IsPictureUnanswered old new unreadable unwritable known o fault = (fault ≡ OutOfMemory)
    ⊎ (ChangesAmong old new [] × IsPictureRefusal old unreadable known o fault)
    ⊎ IsPageRefused old new unwritable o.page.now fault
