-- Texts of lines with keys in turn, line by line.
use Rattle.std.proofs.Common.{Result, Err, ◌≤◌, ◌≡◌, ℕ, zero, suc, ◌+◌, ◌<◌, ◌%◌, ◌^◌, ◌++◌, List, [], ◌∷◌, length, get_or, set, refl, ap, sym, ◌∙◌, subst, inl, inr, arith, Option, None, Some, replicate, take}
use Rattle.std.proofs.lemmas.Bool.{cases_eq}
use Rattle.std.proofs.lemmas.List.Sums.{sum_by-cons, sum_by-take-le}
use Rattle.std.proofs.lemmas.List.{append_assoc, append-nil, append_cancel_left, get_or-set_same, get_or-set_other, length-set, length-replicate, length_push}
use Rattle.std.specs.Prelude.{IfErr}
use Rattle.std.specs.List.{AllByRecursion}
use Rattle.mr_bytes.specs.declared.Value.TheVariants.{One, At}
use Rattle.mr_bytes.specs.Lists.{Has}
use Rattle.mr_shards.specs.Portions.{Shift, behind, no_shift, past_cut, past_shard}
use Rattle.mr_shards.specs.Refused.{PassesNot}
use Rattle.mr_jobs.specs.JobSpec.{JobSpec, group_text_of}
use Rattle.mr_jobs.specs.declared.job.GroupText.{GroupText}
use Rattle.mr_jobs.specs.declared.job.GroupText.TheVariants.{Count, Lines, Files as Listing}
use Rattle.mr_bytes.specs.Cut.{Lacks}
use Rattle.mr_shards.specs.declared.cursor.Cursor.{Cursor}
use Rattle.mr_shards.specs.declared.merger.MergeFault.{MergeFault}
use Rattle.mr_shards.specs.declared.merger.MergeFault.TheVariants.{BadLine, TotalTooLarge, TooManyFiles, NoSuchFile, PlaceTooFar, OutOfMemory}
use Rattle.mr_shards.specs.declared.line.Line.{Line}
use Rattle.mr_shards.specs.declared.line.Tally.{Tally}
use Rattle.mr_shards.specs.declared.line.Tally.TheVariants.{Total, Place, Files}
use Rattle.mr_shards.specs.declared.shift.ShardFiles.{ShardFiles}
use Rattle.mr_shards.specs.declared.merger.ShardText.{ShardText}
use Rattle.mr_shards.specs.Merged.{Group, group_text, texts}
use Rattle.std.proofs.Math.Nat.{mod-add-mod}
use Rattle.mr_sequential.proofs.SourceLemmas.{flat_map-append}
use Rattle.mr_shards.specs.Lines.{HasLine, groups_in}
use Rattle.mr_shards.specs.Views.{BeginsWithLine, IsParsedFor, IsUnshifted, group_of, values_of}
use Rattle.mr_shards.specs.Cursors.{BlamesNext, ReadsOn}
use Rattle.mr_shards.specs.declared.cursor.Held.{Held}
use Rattle.mr_shards.specs.Rounds as Rounds
use Rattle.mr_shards.specs.Rounds.{IsReadUpTo, Reading}
use Rattle.mr_shards.specs.Refused.{AreRead, Blames, BlamesOnly, InTurn, HasBadPlace, IsBadLine, IsBadPlace, IsLineOf, IsReadAt, IsReadOf, IsReadTo, IsRest, IsUnmoved, MayFollow, NoLineFollows, Overflows, TakesNot, TellsPlace, count_at, files_in, last_key, last_of, lines_read, shift_before, shift_from, text_at, total_of}
use Rattle.mr_shards.proofs.LineLemmas.{IsCut, begun, cut-read, cut-text, list-has, list-told}
use Rattle.mr_shards.proofs.ReadingLemmas.{none-read}

has-line : (form : GroupText) (g : Group) (t : Tally) (told : List ℕ) → Lacks 10 g.key → IsParsedFor form t told → g.values ≡ values_of t → HasLine form g
has-line Count g (Total n) told clear is e =
    let l : length g.values ≡ n = ap length e ∙ length-replicate n One in
    (clear, omega (arith, l, is.1), e ∙ ap (λ k. replicate k One) (sym l))
has-line Lines g (Place file offset) told clear is e = (clear, (file, offset, omega (arith, is.1), is.2, e))
has-line Listing g (Files list last moved) told clear is e =
    let w = list-told list last moved told is in
    (clear, (w.0, w.1, w.2, w.3, e ∙ w.5))
has-line form g t told clear is e = absurd is

pub have-lines : (job : JobSpec) (gs : List Group) → AllByRecursion (IsLineOf job) gs → AllByRecursion (HasLine (group_text_of job)) gs
have-lines job [] all = tt
have-lines job (g ∷ gs) all = (has-line (group_text_of job) g all.0.tally all.0.told all.0.clear all.0.tells all.0.values, have-lines job gs all.1)

-- ---- one line in front of others

-- what a line of the job is cut into
line-cut : (job : JobSpec) (g : Group) (l : IsLineOf job g) (more : List ℕ)
    → IsCut ((g.key ++ 9 ∷ l.told) ++ 10 ∷ more) (g.key ++ 9 ∷ l.told) g.key l.told more
line-cut job g l more = record { first = refl; clear = begun (group_text_of job) l.tally g.key l.told l.clear l.tells; last = refl }

as-told : (job : JobSpec) (g : Group) (l : IsLineOf job g) → g ≡ record { key = g.key; values = values_of l.tally }
as-told job g l = λ i. record { key = g.key; values = l.values i }

pub front-text : (job : JobSpec) (g : Group) (l : IsLineOf job g) (more : List ℕ) → group_text job g ++ more ≡ (g.key ++ 9 ∷ l.told) ++ 10 ∷ more
front-text job g l more =
    ap (λ (h : Group). group_text job h ++ more) (as-told job g l)
    ∙ sym (cut-text (group_text_of job) l.tally ((g.key ++ 9 ∷ l.told) ++ 10 ∷ more) (g.key ++ 9 ∷ l.told) g.key l.told more (line-cut job g l more) l.tells)

-- it is read first
pub front-read : (job : JobSpec) (g : Group) (more : List ℕ) → IsLineOf job g → groups_in job (group_text job g ++ more) ≡ g ∷ groups_in job more
front-read job g more l =
    ap (groups_in job) (front-text job g l more)
    ∙ cut-read (group_text_of job) l.tally ((g.key ++ 9 ∷ l.told) ++ 10 ∷ more) (g.key ++ 9 ∷ l.told) g.key l.told more (line-cut job g l more) l.tells
    ∙ ap (λ (h : Group). h ∷ groups_in job more) (sym (as-told job g l))

front-begins : (job : JobSpec) (text : List ℕ) (g : Group) (more : List ℕ) → IsLineOf job g → text ≡ group_text job g ++ more → BeginsWithLine job text
front-begins job text g more l e = record {
  key = g.key;
  told = l.told;
  rest = more;
  tally = l.tally;
  text_is = e ∙ front-text job g l more;
  clear = l.clear;
  tells = l.tells;
}

-- a text that begins with no line has none that follows
pub none-begins : (job : JobSpec) (last : Option (List ℕ)) (text : List ℕ) → (BeginsWithLine job text → ⊥) → NoLineFollows job last text
none-begins job last text none g more l follows e = none (front-begins job text g more l e)

-- ---- lines that are read

last-push : (last : Option (List ℕ)) (gs : List Group) (g : Group) → last_of last (gs ++ g ∷ []) ≡ Some g.key
last-push last [] g = refl
last-push last (h ∷ gs) g = last-push (Some h.key) gs g

turn-push : (job : JobSpec) (last : Option (List ℕ)) (gs : List Group) (g : Group) → InTurn job last gs → MayFollow job (last_of last gs) g.key → InTurn job last (gs ++ g ∷ [])
turn-push job last [] g turn follows = (follows, tt)
turn-push job last (h ∷ gs) g turn follows = (turn.0, turn-push job (Some h.key) gs g turn.1 follows)

lines-push : (job : JobSpec) (gs : List Group) (g : Group) → AllByRecursion (IsLineOf job) gs → IsLineOf job g → AllByRecursion (IsLineOf job) (gs ++ g ∷ [])
lines-push job [] g all l = (l, tt)
lines-push job (h ∷ gs) g all l = (all.0, lines-push job gs g all.1 l)

pub read-line : (job : JobSpec) (text : List ℕ) (last : Option (List ℕ)) (rest : List ℕ) (number : ℕ) (line : Line) (more : List ℕ) → (rest ≡ [] → ⊥)
    → IsLineOf job (group_of line) → rest ≡ group_text job (group_of line) ++ more → MayFollow job last line.key.now
    → IsReadTo job text last rest number → IsReadTo job text (Some line.key.now) more ((number + 1) % 2 ^ 64)
read-line job text last rest number line more some l e follows r =
    let g : Group = group_of line in
    let texts-push : texts job (r.groups ++ g ∷ []) ≡ texts job r.groups ++ group_text job g =
    flat_map-append (group_text job) r.groups (g ∷ []) ∙ ap (λ (t : List ℕ). texts job r.groups ++ t) (append-nil (group_text job g)) in
    record {
      groups = r.groups ++ g ∷ [];
      text_is = r.text_is ∙ ap (λ (t : List ℕ). texts job r.groups ++ t) e
          ∙ sym (append_assoc (texts job r.groups) (group_text job g) more) ∙ ap (λ (t : List ℕ). t ++ more) (sym texts-push);
      lines = lines-push job r.groups g r.lines l;
      in_turn = turn-push job None r.groups g r.in_turn (subst (λ (o : Option (List ℕ)). MayFollow job o line.key.now) (sym (r.last_is some)) follows);
      last_is = λ _. last-push None r.groups g;
      number_is = ap (λ k. (k + 1) % 2 ^ 64) r.number_is ∙ mod-add-mod (length r.groups) (2 ^ 64) 1 ∙ ap (λ k. k % 2 ^ 64) (sym (length_push r.groups g));
    }

pub read-end : (job : JobSpec) (text : List ℕ) (last : Option (List ℕ)) (rest : List ℕ) (number : ℕ) → rest ≡ [] → IsReadTo job text last rest number → IsReadTo job text None rest number
read-end job text last rest number none r = record {
  groups = r.groups;
  text_is = r.text_is;
  lines = r.lines;
  in_turn = r.in_turn;
  last_is = λ some. absurd (some none);
  number_is = r.number_is;
}

pub read-none : (job : JobSpec) (text : List ℕ) → IsReadTo job text None text 0
read-none job text = record { groups = []; text_is = refl; lines = tt; in_turn = tt; last_is = λ _. refl; number_is = refl }

-- ---- a bad line

-- where lines stand in front of bytes that begin with none that may follow, no lines of the job are the whole
parts-ways : (job : JobSpec) (last : Option (List ℕ)) (before gs : List Group) (rest : List ℕ) → texts job before ++ rest ≡ texts job gs
    → AllByRecursion (IsLineOf job) before → AllByRecursion (IsLineOf job) gs → InTurn job last gs → (rest ≡ [] → ⊥) → NoLineFollows job (last_of last before) rest → ⊥
parts-ways job last [] [] rest e all lines turn some bad = some e
parts-ways job last [] (g ∷ gs) rest e all lines turn some bad = bad g (texts job gs) lines.0 turn.0 e
parts-ways job last (b ∷ bs) [] rest e all lines turn some bad =
    let none : [] ≡ b ∷ groups_in job (texts job bs ++ rest) =
    sym (none-read (group_text_of job)) ∙ ap (groups_in job) (sym e ∙ append_assoc (group_text job b) (texts job bs) rest) ∙ front-read job b (texts job bs ++ rest) all.0 in
    absurd (cc none)
parts-ways job last (b ∷ bs) (g ∷ gs) rest e all lines turn some bad =
    let split : group_text job b ++ (texts job bs ++ rest) ≡ group_text job g ++ texts job gs = sym (append_assoc (group_text job b) (texts job bs) rest) ∙ e in
    let whole : b ∷ groups_in job (texts job bs ++ rest) ≡ g ∷ groups_in job (texts job gs) =
    sym (front-read job b (texts job bs ++ rest) all.0) ∙ ap (groups_in job) split ∙ front-read job g (texts job gs) lines.0 in
    let same : b ≡ g = cc whole in
    let later : texts job bs ++ rest ≡ texts job gs =
    append_cancel_left (group_text job b) (texts job bs ++ rest) (texts job gs) (split ∙ ap (λ (h : Group). group_text job h ++ texts job gs) (sym same)) in
    parts-ways job (Some b.key) bs gs rest later all.1 lines.1 (subst (λ (h : Group). InTurn job (Some h.key) gs) (sym same) turn.1) some bad

pub bad-text : (job : JobSpec) (text : List ℕ) (line : ℕ) → IsBadLine job text line → IsRest job None text → ⊥
bad-text job text line b r =
    parts-ways job None b.before.groups r.groups b.rest (sym b.before.text_is ∙ r.text_is) b.before.lines r.lines r.in_turn b.some
    (subst (λ (o : Option (List ℕ)). NoLineFollows job o b.rest) (sym (b.before.last_is b.some)) b.bad)

-- ---- cursors and outputs

read-set : (job : JobSpec) (cs : List Cursor) (os : List ShardText) (at : ℕ) (one next : Cursor) → at < length cs → get_or cs at one ≡ one → AreRead job cs os
    → ((text : List ℕ) → IsReadOf job text one → IsReadOf job text next) → next.held.before ≡ one.held.before → next.held.count ≡ one.held.count → AreRead job (set cs at next) os
read-set job cs os at one next h is read here stays count j d l =
    elim (cases_eq j at) [
      | inl same ↦
          (let now : get_or (set cs at next) j d ≡ next = ap (λ k. get_or (set cs at next) k d) same ∙ get_or-set_same cs at next d h in
          let was : IsReadAt job os j one = subst (λ k. IsReadAt job os k one) (sym same) (subst (IsReadAt job os at) is (read at one h)) in
          subst (IsReadAt job os j) (sym now) (here (text_at os j) was.0, stays ∙ was.1, count ∙ was.2))
      | inr other ↦
          (let low : j < length cs = omega (arith, l, length-set cs at next) in
          subst (IsReadAt job os j) (sym (get_or-set_other cs at j next d other)) (read j d low))
    ]

pub read-step : (job : JobSpec) (os : List ShardText) (at : ℕ) (old new : List Cursor) → at < length old → ReadsOn job at old new → AreRead job old os → AreRead job new os
read-step job os at old new h r read = subst (λ (cs : List Cursor). AreRead job cs os) (sym r.set) (read-set job old os at r.one r.next h r.was read r.read r.files.0 r.files.1)

-- ---- places that are not moved

-- a line that tells one, in front of the text
module _ (job : JobSpec) (at count : ℕ) (before : Shift) (last : Option (List ℕ)) (text : List ℕ) (number : ℕ) (line : Line) (rest : List ℕ)
    (l : IsLineOf job (group_of line)) (first : text ≡ group_text job (group_of line) ++ rest) where
  place-line : (is_so : ℕ → ℕ → Type 0) (file offset : ℕ) → Has (values_of line.tally) (At file offset) → is_so file offset → TellsPlace job text is_so
  place-line is_so file offset there so = record {
    before = [];
    line = group_of line;
    rest = rest;
    file = file;
    offset = offset;
    text_is = first;
    lines = tt;
    is_line = l;
    place = there;
    so = so;
  }

  unmoved-place : (e : MergeFault) (file offset : ℕ) → Has (values_of line.tally) (At file offset) → IsBadPlace at count before e file offset
      → BlamesOnly job at count before last text number e
  unmoved-place (BadLine shard at_line) file offset there u = absurd u
  unmoved-place TotalTooLarge file offset there u = absurd u
  unmoved-place TooManyFiles file offset there u = place-line (IsBadPlace at count before TooManyFiles) file offset there u
  unmoved-place (NoSuchFile shard) file offset there u = place-line (IsBadPlace at count before (NoSuchFile shard)) file offset there u
  unmoved-place PlaceTooFar file offset there u = place-line (IsBadPlace at count before PlaceTooFar) file offset there u
  unmoved-place OutOfMemory file offset there u = absurd u

  pub unmoved-line : (e : MergeFault) → IsUnshifted line.tally → IsUnmoved at count before line.tally e → BlamesOnly job at count before last text number e
  unmoved-line e still unmoved = by line.tally refl still unmoved
    where
      by : (t : Tally) → line.tally ≡ t → IsUnshifted t → IsUnmoved at count before t e → BlamesOnly job at count before last text number e
      by (Total n) is s u = absurd u
      by (Place file offset) is s u = unmoved-place e file offset (subst (λ (t : Tally). Has (values_of t) (At file offset)) (sym is) (inl refl)) u
      by (Files list latest moved) is s u = unmoved-place e latest 0 (subst (λ (t : Tally). Has (values_of t) (At latest 0)) (sym is) (list-has list latest moved s)) u

pub lines-join : (job : JobSpec) (gs hs : List Group) → AllByRecursion (IsLineOf job) gs → AllByRecursion (IsLineOf job) hs → AllByRecursion (IsLineOf job) (gs ++ hs)
lines-join job [] hs all more = more
lines-join job (g ∷ gs) hs all more = (all.0, lines-join job gs hs all.1 more)

-- and behind lines of the job
pub place-behind : (job : JobSpec) (text rest : List ℕ) (is_so : ℕ → ℕ → Type 0) (gs : List Group) → text ≡ texts job gs ++ rest → AllByRecursion (IsLineOf job) gs
    → TellsPlace job rest is_so → TellsPlace job text is_so
place-behind job text rest is_so gs e all f = record {
  before = gs ++ f.before;
  line = f.line;
  rest = f.rest;
  file = f.file;
  offset = f.offset;
  text_is = e ∙ ap (λ (t : List ℕ). texts job gs ++ t) f.text_is
      ∙ sym (append_assoc (texts job gs) (texts job f.before) (group_text job f.line ++ f.rest))
      ∙ ap (λ (t : List ℕ). t ++ (group_text job f.line ++ f.rest)) (sym (flat_map-append (group_text job) gs f.before));
  lines = lines-join job gs f.before all f.lines;
  is_line = f.is_line;
  place = f.place;
  so = f.so;
}

-- ---- how many files

shift-files : (s : Shift) (os : List ShardText) → (shift_from s os).files ≡ s.files + files_in os
shift-files s [] = omega arith
shift-files s (o ∷ os) =
    omega (arith, shift-files (behind s (past_shard o.files)) os, sum_by-cons (λ (q : ShardText). (past_shard q.files).files) o os)

-- a file of a shard, behind those before it, is among all
pub own-file : (f : ShardFiles) (file : ℕ) → file < f.count → file ≤ (past_shard f).files
own-file f file less = by f.cut
  where
    by : (c : Option ℕ) → file ≤ (past_cut f.count c).files
    by None = omega (arith, less)
    by (Some last) = omega (arith, less)

within-all : (s : Shift) (i : ℕ) (os : List ShardText) (file : ℕ) → file < count_at os i → (shift_from s (take i os)).files + file ≤ s.files + files_in os
within-all s zero [] file less = absurd (omega (arith, less))
within-all s (suc i) [] file less = absurd (omega (arith, less))
within-all s zero (o ∷ os) file less =
    omega (arith, own-file o.files file less, sum_by-cons (λ (q : ShardText). (past_shard q.files).files) o os)
within-all s (suc i) (o ∷ os) file less =
    omega (arith, within-all (behind s (past_shard o.files)) i os file less, sum_by-cons (λ (q : ShardText). (past_shard q.files).files) o os)

-- ---- blame

-- who blames a line of what is left blames the output
bad-place : (job : JobSpec) (at count : ℕ) (before : Shift) (os : List ShardText) (last : Option (List ℕ)) (text : List ℕ) (number : ℕ) (e : MergeFault)
    → IsReadTo job (text_at os at) last text number → before ≡ shift_before os at → count ≡ count_at os at → TellsPlace job text (IsBadPlace at count before e)
    → HasBadPlace job os e
bad-place job at count before os last text number e read behind files t = (
  at,
  subst (λ (s : Shift). TellsPlace job (text_at os at) (IsBadPlace at (count_at os at) s e)) behind
      (subst (λ n. TellsPlace job (text_at os at) (IsBadPlace at n before e)) files
      (place-behind job (text_at os at) text (IsBadPlace at count before e) read.groups read.text_is read.lines t)),
)

blames-all : (job : JobSpec) (at count : ℕ) (before : Shift) (os : List ShardText) (last : Option (List ℕ)) (text : List ℕ) (number : ℕ) (e : MergeFault)
    → IsReadTo job (text_at os at) last text number → before ≡ shift_before os at → count ≡ count_at os at → BlamesOnly job at count before last text number e
    → Blames job os e
blames-all job at count before os last text number (BadLine shard line) read behind files b =
    let bad : IsBadLine job (text_at os at) number = record { last = last; rest = text; before = read; some = b.2; bad = b.3 } in
    let here : IsBadLine job (text_at os shard) line = subst (IsBadLine job (text_at os shard)) (sym b.1) (subst (λ k. IsBadLine job (text_at os k) number) (sym b.0) bad) in
    (here, bad-text job (text_at os shard) line here)
blames-all job at count before os last text number TotalTooLarge read behind files b = absurd b
blames-all job at count before os last text number TooManyFiles read behind files b =
    let less : b.file < count_at os at = subst (λ n. b.file < n) files b.so.0 in
    omega (arith, b.so.1, ap (λ (s : Shift). s.files) behind, within-all no_shift at os b.file less)
blames-all job at count before os last text number (NoSuchFile shard) read behind files b = bad-place job at count before os last text number (NoSuchFile shard) read behind files b
blames-all job at count before os last text number PlaceTooFar read behind files b = inr (bad-place job at count before os last text number PlaceTooFar read behind files b)
blames-all job at count before os last text number OutOfMemory read behind files b = tt

-- a text that begins with no line has none that follows, whatever is before it
pub weaker : (job : JobSpec) (at count : ℕ) (before : Shift) (last : Option (List ℕ)) (text : List ℕ) (number : ℕ) (e : MergeFault)
    → BlamesOnly job at count before None text number e → BlamesOnly job at count before last text number e
weaker job at count before last text number (BadLine shard line) b = (b.0, b.1, b.2, λ g more l follows e. b.3 g more l tt e)
weaker job at count before last text number TotalTooLarge b = b
weaker job at count before last text number TooManyFiles b = b
weaker job at count before last text number (NoSuchFile shard) b = b
weaker job at count before last text number PlaceTooFar b = b
weaker job at count before last text number OutOfMemory b = b

pub blames-opening : (job : JobSpec) (os : List ShardText) (i : ℕ) (h : Held) (r : Reading) (text : List ℕ) (e : MergeFault) → IsReadUpTo job os i h r → Rounds.behind r ≡ text
    → BlamesOnly job i h.count h.before None text h.lines e → Blames job os e
blames-opening job os i h r text e read is b =
    blames-all job i h.count h.before os read.last text h.lines e (subst (λ (t : List ℕ). IsReadTo job (text_at os i) read.last t h.lines) is read.read) read.before read.count
    (weaker job i h.count h.before read.last text h.lines e b)

pub blames-left : (job : JobSpec) (at : ℕ) (cs : List Cursor) (os : List ShardText) (one : Cursor) (e : MergeFault) → at < length cs → get_or cs at one ≡ one → AreRead job cs os
    → BlamesNext job at one e → Blames job os e
blames-left job at cs os one e h is read b =
    let here : IsReadAt job os at one = subst (IsReadAt job os at) is (read at one h) in
    blames-all job at one.held.count one.held.before os (last_key one.head) one.rest.now (lines_read one) e here.0 here.1 here.2 b

-- what is behind so many outputs is not moved so far
pub passes-not : (job : JobSpec) (os : List ShardText) (n : ℕ) (e : MergeFault) → PassesNot (shift_before os n) e → Blames job os e
passes-not job os n (BadLine shard line) not = absurd not
passes-not job os n TotalTooLarge not = absurd not
passes-not job os n TooManyFiles not =
    omega (arith, not, shift-files no_shift (take n os), sum_by-take-le (λ (o : ShardText). (past_shard o.files).files) os n)
passes-not job os n (NoSuchFile shard) not = absurd not
passes-not job os n PlaceTooFar not = inl (n, not)
passes-not job os n OutOfMemory not = absurd not

-- the error that is handed on
pub handed : {T : Type 0} (P : MergeFault → Type 0) (r : Result T MergeFault) (e : MergeFault) → (y : MergeFault) × (r ≡ Err y) × (y ≡ e) → P e → IfErr r P
handed {T} P r e w b = subst (λ (q : Result T MergeFault). IfErr q P) (sym w.1) (subst P (sym w.2) b)

pub blamed : {T : Type 0} (job : JobSpec) (os : List ShardText) (r : Result T MergeFault) (e : MergeFault) → (y : MergeFault) × (r ≡ Err y) × (y ≡ e) → Blames job os e → IfErr r (Blames job os)
blamed {T} job os r e w b = subst (λ (q : Result T MergeFault). IfErr q (Blames job os)) (sym w.1) (subst (Blames job os) (sym w.2) b)

pub blames-taken : (job : JobSpec) (os : List ShardText) (waiting : Option Group) (g : Group) (e : MergeFault) → TakesNot waiting g e
    → (Overflows waiting g → (key : List ℕ) × (2 ^ 64 ≤ total_of job os key)) → Blames job os e
blames-taken job os waiting g (BadLine shard at) b f = absurd b
blames-taken job os waiting g TotalTooLarge b f = f b
blames-taken job os waiting g TooManyFiles b f = absurd b
blames-taken job os waiting g (NoSuchFile shard) b f = absurd b
blames-taken job os waiting g PlaceTooFar b f = absurd b
blames-taken job os waiting g OutOfMemory b f = tt

-- the same from behind: a line of the job in front of such a text
pub rest-before : (job : JobSpec) (last : Option (List ℕ)) (text : List ℕ) (line : Line) (rest : List ℕ) → IsLineOf job (group_of line) → text ≡ group_text job (group_of line) ++ rest
    → MayFollow job last line.key.now → IsRest job (Some line.key.now) rest → IsRest job last text
rest-before job last text line rest l first follows r = record {
  groups = group_of line ∷ r.groups;
  text_is = first ∙ ap (λ (t : List ℕ). group_text job (group_of line) ++ t) r.text_is;
  lines = (l, r.lines);
  in_turn = (follows, r.in_turn);
}
