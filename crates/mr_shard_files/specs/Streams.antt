-- Parts of shards that are read in pieces.
use Rattle.std.specs.Prelude.{◌≡◌, ℕ, ◌+◌, ◌<◌, ◌≤◌, ◌&&◌, ◌||◌, ◌⊎◌, Bool, true, false, ⊤, List, [], ◌∷◌, ◌++◌, Option, Vec, drop, length, slice_index_or, string_bytes, take}
use Rattle.std.specs.Global.{Global}
use Rattle.std.specs.Io.KnownBytes.{Consumes, IsAtEnd}
use Rattle.sha2.specs.Hashers.{Holds256}
use Rattle.mr_files.specs.Folders.{IsFolderOf}
use Rattle.mr_files.specs.Holding.{Agrees, Faulty, Stored}
use Rattle.mr_files.specs.Names.{name_of_part}
use Rattle.mr_store.specs.Devices.{Seen}
use Rattle.mr_jobs.specs.JobSpec.{JobSpec}
use Rattle.mr_shards.specs.declared.cursor.Held.{Held}
use Rattle.mr_shards.specs.declared.shift.ShardFiles.{ShardFiles}
use Rattle.mr_shards.specs.declared.merger.MergeFault.{MergeFault}
use Rattle.mr_shards.specs.declared.merger.Window.{Window}
use Rattle.mr_shards.specs.Rounds.{AreCounted, AreWindows, IsAfter, IsMerged, Merges, Reading, Standing, outputs_of}
use Rattle.mr_shards.specs.Refused.{Blames}
use Rattle.mr_shards.specs.Joined.{verdict_at}
use Rattle.mr_shards.specs.Verdict.{Told}
use Rattle.mr_shard_files.specs.Beside.{ReportsCause, no_note}
use Rattle.mr_shard_files.specs.Made.{Gives, HasWritten}
use Rattle.mr_shard_files.specs.Told.{told_of_merge}
use Rattle.mr_shard_files.specs.declared.fault.ShardFault.{ShardFault}
use Rattle.mr_shard_files.specs.declared.fault.ShardFault.TheVariants.{CannotRead, OtherPart, OutOfMemory}
use Rattle.mr_shard_files.specs.declared.partition.Made.{Made}
use Rattle.mr_shard_files.specs.declared.partition.PartMerge.{PartMerge}
use Rattle.mr_shard_files.specs.declared.stream.Part.{Part}
use Rattle.mr_shard_files.specs.declared.tails.Tail.{Tail}
use Rattle.sha2.specs.declared.Sha256.{Sha256}
use Rattle.mr_shard_files.specs.declared.rounds.Stop.{Stop}
use Rattle.mr_shard_files.specs.declared.rounds.Stop.TheVariants as stop

-- ---- a part

-- of so many bytes that are told, so many are left behind those that were read; or more were read
abbrev pub CountsDown : ℕ → ℕ → Bool → ℕ → Type 0
CountsDown told left false read = read + left ≡ told
CountsDown told left true read = told < read

-- the digest has these bytes but for some of those that are held
pub record Digests {R : Type 0} (part : Part R) (bytes : List ℕ) : Type 0 where
  pub front : List ℕ
  pub is : bytes ≡ front ++ drop part.digested part.held
  pub within : part.digested ≤ length part.held
  pub holds : Holds256 part.hasher front

-- these bytes were read of the part, of so many that its verdict tells
abbrev pub HasRead : {R : Type 0} → ℕ → Part R → List ℕ → Type 0
HasRead told part bytes = Digests part bytes × CountsDown told part.left part.longer (length bytes)

-- the digest lacks none of those that are held, and else all is as before
pub record IsDigested {R : Type 0} (old new : Part R) : Type 0 where
  pub all : new.digested ≡ length new.held
  pub digests : (bytes : List ℕ) → Digests old bytes → Digests new bytes
  pub name : new.name ≡ old.name
  pub reader : new.reader ≡ old.reader
  pub held : new.held ≡ old.held
  pub left : new.left ≡ old.left
  pub longer : new.longer ≡ old.longer
  pub ended : new.ended ≡ old.ended

-- nothing more is read of it: it is at its end, or has more bytes than its verdict tells
abbrev pub is_done : {R : Type 0} → Part R → Bool
is_done part = part.ended || part.longer

-- how much of it may be read yet, its end with it
abbrev pub unread : {R : Type 0} → Part R → ℕ
unread part = left_of part.ended part.longer part.left
  where
    left_of : Bool → Bool → ℕ → ℕ
    left_of true longer left = 0
    left_of false true left = 0
    left_of false false left = left + 1

-- some bytes more were read of the part, and these of those that it held were passed
pub record Moves {R : Type 0} (remaining : R → Option (List ℕ)) (can_fail : R → Type 0) (passed : List ℕ) (old new : Part R) : Type 0 where
  pub got : List ℕ
  pub consumes : Consumes (remaining old.reader) (remaining new.reader) got
  pub held : old.held ++ got ≡ passed ++ new.held
  pub read : (told : ℕ) (bytes : List ℕ) → HasRead told old bytes → HasRead told new (bytes ++ got)
  pub still : is_done old ≡ true → got ≡ []
  pub done : is_done old ≡ true → is_done new ≡ true
  pub at_end : (old.ended ≡ true → IsAtEnd (remaining old.reader)) → new.ended ≡ true → IsAtEnd (remaining new.reader)
  pub name : new.name ≡ old.name
  pub later : can_fail new.reader → can_fail old.reader

-- a file of that name can't be read, which happens only so, or memory is wanting
abbrev pub ReportsUnread : Type 0 → List ℕ → ShardFault → Type 0
ReportsUnread can_fail name (CannotRead told) = can_fail × (string_bytes told ≡ name)
ReportsUnread can_fail name OutOfMemory = ⊤
ReportsUnread can_fail name fault = ⊥

-- how many bytes the verdict tells of that output
abbrev pub length_told : ℕ → Told → ℕ
length_told p v = (slice_index_or v.outputs p no_note).length

-- a part beside the verdict of that name, of which these bytes were read and passed
pub record IsStream {R : Type 0} (holds : Stored) (unreadable : Faulty) (remaining : R → Option (List ℕ)) (can_fail : R → Type 0) (p : ℕ) (name : List ℕ) (v : Told) (passed : List ℕ) (part : Part R) : Type 0 where
  pub folder : List ℕ
  pub is_folder : IsFolderOf name folder
  pub named : string_bytes part.name ≡ name_of_part folder p
  pub stands : (b : List ℕ) → Agrees (remaining part.reader) b → holds (name_of_part folder p) (passed ++ (part.held ++ b))
  pub fails : can_fail part.reader → unreadable (name_of_part folder p)
  pub read : HasRead (length_told p v) part (passed ++ part.held)
  pub at_end : part.ended ≡ true → IsAtEnd (remaining part.reader)

-- one that was opened: nothing was read of it
abbrev pub IsOpened : {R : Type 0} → Stored → Faulty → (R → Option (List ℕ)) → (R → Type 0) → ℕ → List ℕ → Told → Part R → Type 0
IsOpened holds unreadable remaining can_fail p name v part = IsStream holds unreadable remaining can_fail p name v [] part × (part.held ≡ [])

-- it was read as far as it goes, and is the part that the verdict tells of
pub record IsSettled {R : Type 0} (remaining : R → Option (List ℕ)) (can_fail : R → Type 0) (p : ℕ) (v : Told) (old new : Part R) : Type 0 where
  pub passed : List ℕ
  pub moves : Moves remaining can_fail passed old new
  pub done : is_done new ≡ true
  pub told : (bytes : List ℕ) → HasRead (length_told p v) new bytes → ReportsCause p v bytes

-- it was read as far as it goes, and is another
pub record IsOther {R : Type 0} (remaining : R → Option (List ℕ)) (can_fail : R → Type 0) (p : ℕ) (v : Told) (old : Part R) : Type 0 where
  pub new : Part R
  pub passed : List ℕ
  pub moves : Moves remaining can_fail passed old new
  pub done : is_done new ≡ true
  pub other : (bytes : List ℕ) → HasRead (length_told p v) new bytes → ReportsCause p v bytes → ⊥

-- ---- the parts of all shards

-- the relation holds of each, one for one
abbrev pub AllAre : {X A : Type 0} → (X → A → A → Type 0) → List X → List A → List A → Type 0
AllAre P [] [] [] = Unit {0}
AllAre P (x ∷ xs) (o ∷ os) (n ∷ ns) = P x o n × AllAre P xs os ns
AllAre P _ _ _ = ⊥

-- the fact holds of one of them
abbrev pub OneIs : {A : Type 0} → (ℕ → A → Type 0) → List A → Type 0
OneIs {A} P xs = (i : ℕ) × (d : A) × (i < length xs) × P i (slice_index_or xs i d)

abbrev pub AreOpened : {R : Type 0} → Stored → Faulty → (R → Option (List ℕ)) → (R → Type 0) → ℕ → List (List ℕ) → List Told → List (Part R) → Type 0
AreOpened holds unreadable remaining can_fail p [] [] [] = Unit {0}
AreOpened holds unreadable remaining can_fail p (n ∷ ns) (v ∷ vs) (q ∷ qs) = IsOpened holds unreadable remaining can_fail p n v q × AreOpened holds unreadable remaining can_fail p ns vs qs
AreOpened holds unreadable remaining can_fail p _ _ _ = ⊥

-- those for each partition from that one on; the rows are numbered by it
abbrev pub AreRows : {R : Type 0} → Stored → Faulty → (R → Option (List ℕ)) → (R → Type 0) → List (List ℕ) → List Told → ℕ → List (Vec (Part R) Global) → Type 0
AreRows {R} holds unreadable remaining can_fail names vs from rows =
    (p : ℕ) (d : Vec (Part R) Global) → from ≤ p → p < length rows → AreOpened holds unreadable remaining can_fail p names vs (slice_index_or rows p d).items

-- a window shows what is held of its part
abbrev pub AreWindowsOf : {R : Type 0} → List (Part R) → List Window → Type 0
AreWindowsOf [] [] = Unit {0}
AreWindowsOf (q ∷ qs) (w ∷ ws) = (w.bytes.now ≡ q.held) × (w.is_last ≡ is_done q) × AreWindowsOf qs ws
AreWindowsOf _ _ = ⊥

-- a tail shows the digest of its part, and what that lacks
abbrev pub AreTailsOf : {R : Type 0} → List (Part R) → List Tail → Type 0
AreTailsOf [] [] = Unit {0}
AreTailsOf (q ∷ qs) (t ∷ ts) = (t.hasher.now ≡ q.hasher) × (t.bytes.now ≡ drop q.digested q.held) × AreTailsOf qs ts
AreTailsOf _ _ = ⊥

-- a digest has some bytes more than another
abbrev pub HasMore : Sha256 → List ℕ → Sha256 → Type 0
HasMore old bytes new = (m : List ℕ) → Holds256 old m → Holds256 new (m ++ bytes)

-- the digests of tails, with what these lacked
abbrev pub AreTaken : List Tail → List Sha256 → Type 0
AreTaken [] [] = Unit {0}
AreTaken (t ∷ ts) (h ∷ hs) = HasMore t.hasher.now t.bytes.now h × AreTaken ts hs
AreTaken _ _ = ⊥

-- digests that parts may have next
abbrev pub AreNext : {R : Type 0} → List (Part R) → List Sha256 → Type 0
AreNext [] [] = Unit {0}
AreNext (q ∷ qs) (h ∷ hs) = HasMore q.hasher (drop q.digested q.held) h × AreNext qs hs
AreNext _ _ = ⊥

-- so many bytes are no more than are held
abbrev pub AreHeld : {R : Type 0} → List ℕ → List (Part R) → Type 0
AreHeld [] [] = Unit {0}
AreHeld (c ∷ cs) (q ∷ qs) = (c ≤ length q.held) × AreHeld cs qs
AreHeld _ _ = ⊥

abbrev pub all_done : {R : Type 0} → List (Part R) → Bool
all_done [] = true
all_done (q ∷ qs) = is_done q && all_done qs

-- an output may be the whole of the part, of which these bytes were passed
pub record MayBe {R : Type 0} (files : ShardFiles) (passed : List ℕ) (part : Part R) (r : Reading) : Type 0 where
  pub files_are : r.output.files ≡ files
  pub taken_is : r.taken ≡ length passed
  pub more : List ℕ
  pub text_is : r.output.text.now ≡ passed ++ (part.held ++ more)
  pub none_more : is_done part ≡ true → more ≡ []

abbrev pub AllMayBe : {R : Type 0} → List ShardFiles → List (List ℕ) → List (Part R) → List Reading → Type 0
AllMayBe [] [] [] [] = Unit {0}
AllMayBe (f ∷ fs) (x ∷ xs) (q ∷ qs) (r ∷ rs) = MayBe f x q r × AllMayBe fs xs qs rs
AllMayBe _ _ _ _ = ⊥

-- the text is merged of whatever the parts may be, and their pairs were counted
pub record AreMergedTo {R : Type 0} (remaining : R → Option (List ℕ)) (can_fail : R → Type 0) (job : JobSpec) (files : List ShardFiles) (old new : List (Part R)) (text : List ℕ) (held : List Held) : Type 0 where
  pub passed : List (List ℕ)
  pub moved : AllAre (Moves remaining can_fail) passed old new
  pub count : length held ≡ length old
  pub merged : (rs : List Reading) → AllMayBe files passed new rs → IsMerged job (outputs_of rs) text × AreCounted job (outputs_of rs) held

-- whatever the parts may be, they can't be merged
pub record AreBlamed {R : Type 0} (remaining : R → Option (List ℕ)) (can_fail : R → Type 0) (job : JobSpec) (files : List ShardFiles) (old new : List (Part R)) (fault : MergeFault) : Type 0 where
  pub passed : List (List ℕ)
  pub moved : AllAre (Moves remaining can_fail) passed old new
  pub blamed : (rs : List Reading) → AllMayBe files passed new rs → Blames job (outputs_of rs) fault

-- what is told where a part was read as far as it goes: it is the one that the verdict tells of, or another
abbrev pub Ends : {R : Type 0} → (R → Option (List ℕ)) → (R → Type 0) → ℕ → Told → Bool → Part R → Part R → Type 0
Ends remaining can_fail p v true old new = IsSettled remaining can_fail p v old new
Ends remaining can_fail p v false old new = IsOther remaining can_fail p v old

-- one of the parts is another, and those before it are the ones that their verdicts tell of; or one can't be read
abbrev pub AreUnsettled : {R : Type 0} → (R → Option (List ℕ)) → (R → Type 0) → ℕ → List Told → List (Part R) → ShardFault → Type 0
AreUnsettled {R} remaining can_fail p vs qs (OtherPart shard partition) = (partition ≡ p) × OneIs (λ i q. (shard ≡ i) × IsOther remaining can_fail p (verdict_at vs i) q) qs
    × ((ends : List (Part R)) × AllAre (IsSettled remaining can_fail p) (take shard vs) (take shard qs) ends)
AreUnsettled remaining can_fail p vs qs fault = OneIs (λ _ q. ReportsUnread (can_fail q.reader) (string_bytes q.name) fault) qs

-- ---- a round

-- windows on the parts were merged
pub record MergesHeld {R : Type 0} (job : JobSpec) (parts : List (Part R)) (old new : Standing) : Type 0 where
  pub windows : List Window
  pub shown : AreWindowsOf parts windows
  pub merges : Merges job windows old new

-- the windows are blamed, or memory is wanting
abbrev pub Refuses : JobSpec → List Window → Standing → MergeFault → Type 0
Refuses job ws m e = (rs : List Reading) (text : List ℕ) → IsAfter job rs text m → AreWindows rs ws → Blames job (outputs_of rs) e

-- windows on the parts are blamed
abbrev pub IsBlamedOver : {R : Type 0} → JobSpec → List (Part R) → Standing → MergeFault → Type 0
IsBlamedOver job parts m e = (ws : List Window) × AreWindowsOf parts ws × Refuses job ws m e

-- windows are not merged beside a write: they are blamed, or that failed
abbrev pub IsNotBeside : JobSpec → List Window → Standing → (ShardFault → Type 0) → Stop → Type 0
IsNotBeside job ws m unwritten (stop.Part fault) = unwritten fault
IsNotBeside job ws m unwritten (stop.Merge fault) = Refuses job ws m fault

-- so with windows on the parts
abbrev pub IsStoppedAt : {R : Type 0} → JobSpec → List (Part R) → (ShardFault → Type 0) → Standing → Stop → Type 0
IsStoppedAt job parts unwritten m (stop.Part fault) = unwritten fault
IsStoppedAt job parts unwritten m (stop.Merge fault) = IsBlamedOver job parts m fault

-- there is no next round: a part can't be read, or what was merged is not written, or windows on the parts are not merged
abbrev pub IsRoundFault : {R : Type 0} → (R → Option (List ℕ)) → (R → Type 0) → (ShardFault → Type 0) → JobSpec → List (Part R) → List (Part R) → Standing → Stop → Type 0
IsRoundFault remaining can_fail unwritten job old new m (stop.Part fault) =
    (fault ≡ OutOfMemory) ⊎ (OneIs (λ _ q. ReportsUnread (can_fail q.reader) (string_bytes q.name) fault) old ⊎ unwritten fault)
IsRoundFault remaining can_fail unwritten job old new m (stop.Merge fault) = AllAre (λ _ o n. Moves remaining can_fail [] o n) old old new × IsBlamedOver job new m fault

-- windows on the parts were merged, and the part of the result has the text too
pub record TakesRound {R W : Type 0} (seen : W → Seen) (job : JobSpec) (parts : List (Part R)) (old new : Standing) (before after : Made W) : Type 0 where
  pub merged : Standing
  pub merges : MergesHeld job parts old merged
  pub gives : Gives merged new
  pub written : (bytes : List ℕ) → HasWritten seen bytes before → HasWritten seen (bytes ++ merged.text) after

-- parts are not merged as they are read, or what they are merged to is not written
abbrev pub IsStopped : {R : Type 0} → (R → Option (List ℕ)) → (R → Type 0) → (ShardFault → Type 0) → JobSpec → List ShardFiles → List (Part R) → List (Part R) → Stop → Type 0
IsStopped remaining can_fail unwritten job files old new (stop.Part fault) =
    (fault ≡ OutOfMemory) ⊎ (OneIs (λ _ q. ReportsUnread (can_fail q.reader) (string_bytes q.name) fault) old ⊎ unwritten fault)
IsStopped remaining can_fail unwritten job files old new (stop.Merge fault) = AreBlamed remaining can_fail job files old new fault

-- the parts were merged to the text, and their pairs counted, and each is the one that its verdict tells of
pub record AreJoined {R : Type 0} (remaining : R → Option (List ℕ)) (can_fail : R → Type 0) (job : JobSpec) (files : List ShardFiles) (p : ℕ) (vs : List Told) (old : List (Part R)) (text : List ℕ) (held : List Held) : Type 0 where
  pub mid : List (Part R)
  pub new : List (Part R)
  pub merged : AreMergedTo remaining can_fail job files old mid text held
  pub settled : AllAre (IsSettled remaining can_fail p) vs mid new

-- each is, and they can't be merged
pub record AreUnjoined {R : Type 0} (remaining : R → Option (List ℕ)) (can_fail : R → Type 0) (job : JobSpec) (files : List ShardFiles) (p : ℕ) (vs : List Told) (old : List (Part R)) (fault : ShardFault) : Type 0 where
  pub mid : List (Part R)
  pub new : List (Part R)
  pub cause : MergeFault
  pub told : fault ≡ told_of_merge p cause
  pub merged : AreBlamed remaining can_fail job files old mid cause
  pub settled : AllAre (IsSettled remaining can_fail p) vs mid new

-- one is another, or can't be read, when some of their bytes were passed
pub record IsOneUnsettled {R : Type 0} (remaining : R → Option (List ℕ)) (can_fail : R → Type 0) (p : ℕ) (vs : List Told) (old : List (Part R)) (fault : ShardFault) : Type 0 where
  pub mid : List (Part R)
  pub passed : List (List ℕ)
  pub moved : AllAre (Moves remaining can_fail) passed old mid
  pub why : AreUnsettled remaining can_fail p vs mid fault

-- why parts are not joined
abbrev pub IsRefused : {R : Type 0} → (R → Option (List ℕ)) → (R → Type 0) → JobSpec → List ShardFiles → ℕ → List Told → List (Part R) → ShardFault → Type 0
IsRefused remaining can_fail job files p vs old fault = (fault ≡ OutOfMemory) ⊎ (OneIs (λ _ q. ReportsUnread (can_fail q.reader) (string_bytes q.name) fault) old
    ⊎ (IsOneUnsettled remaining can_fail p vs old fault ⊎ AreUnjoined remaining can_fail job files p vs old fault))

-- the same for what is merged to a part of the result
abbrev pub IsJoinedTo : {R : Type 0} → (R → Option (List ℕ)) → (R → Type 0) → PartMerge → List (Part R) → List ℕ → List Held → Type 0
IsJoinedTo remaining can_fail m old text held = AreJoined remaining can_fail m.job.now m.files.now m.partition m.verdicts.now old text held

abbrev pub IsNotJoined : {R : Type 0} → (R → Option (List ℕ)) → (R → Type 0) → PartMerge → List (Part R) → ShardFault → Type 0
IsNotJoined remaining can_fail m old fault = IsRefused remaining can_fail m.job.now m.files.now m.partition m.verdicts.now old fault
