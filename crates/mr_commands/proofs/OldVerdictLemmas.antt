-- A verdict that is emptied before a result is written.
use Rattle.std.proofs.Common.{Option, None, Some, rules, arith, ◌≡◌, ◌≢◌, ◌⊎◌, ◌∙◌, inl, inr, ℕ, ◌≤◌, List, [], ◌∷◌, ◌++◌, length, take, ap, sym, refl, subst, append_assoc, string_bytes, codes}
use Rattle.std.proofs.lemmas.List.{append_cancel_left}
use Rattle.std.specs.Prelude.{IfSome, slice_range, unwrap_or}
use Rattle.mr_files.specs.Holding.{Begins, ChangesAmong, ChangesOnly, Differs, Stored, Faulty}
use Rattle.mr_files.specs.Identities.{Known}
use Rattle.mr_files.specs.Names.{name_of_certificate, name_of_verdict, part_names, result_names}
use Rattle.mr_files.specs.Ranges.{EndsLine, IsCutAt, IsPastEnd, IsRangeRefusal}
use Rattle.mr_files.specs.declared.ranges.RangeFault.{RangeFault}
use Rattle.mr_files.specs.declared.ranges.RangeFault.TheVariants as range
use Rattle.mr_files.specs.Refusals.{IsUnwritten, IsUnwrittenAt, IsWriteRefusal}
use Rattle.mr_files.specs.declared.store.FileFault.{FileFault}
use Rattle.mr_files.specs.declared.store.FileFault.TheVariants.{CannotRead, CannotWrite, OutOfMemory}
use Rattle.mr_commands.specs.Named.{named}
use Rattle.mr_commands.specs.OldVerdicts.{BeginsVerdict, IsEmptied, IsOldVerdict, IsVerdictLine, StoodThere, no_text}
use Rattle.mr_files.proofs.Digits.{differs_verdict}
use Rattle.mr_files.proofs.Lists.{differs_front, differs_last, differs_more}

no_certificate : (dir : List ℕ) → name_of_verdict dir ≢ name_of_certificate dir
no_certificate dir is =
    absurd (let no : codes "/verdict" ≡ codes "/certificate" = append_cancel_left dir (codes "/verdict") (codes "/certificate") is in cc)

-- the verdict is no file of the result
pub differs_result : (dir : List ℕ) (n : ℕ) → Differs (name_of_verdict dir) (result_names dir n)
differs_result dir n = differs_more (name_of_verdict dir) (name_of_certificate dir) (part_names dir n) (differs_verdict dir n) (no_certificate dir)

pub stood_there : (holds : Stored) (unreadable : Faulty) (known : Known) (dir : List ℕ) (verdict : Option (List ℕ)) → IsOldVerdict holds unreadable known dir verdict → StoodThere holds dir verdict
stood_there holds unreadable known dir None h = tt
stood_there holds unreadable known dir (Some name) h = h

-- ---- what a verdict begins with

ends_line : (line : List ℕ) → IsVerdictLine line → EndsLine line
ends_line line (inl is) = inr (codes "verdict 1", is)
ends_line line (inr is) = inr (codes "verdict 2", is)

-- its first ten bytes are a line
front_line : (text : List ℕ) → BeginsVerdict text → (10 ≤ length text) × IsVerdictLine (take 10 text)
front_line text (line, rest, inl is, told) =
    let whole : text ≡ codes "verdict 1\n" ++ rest = told ∙ ap (λ l. l ++ rest) is in
    let all = ap length whole in
    ((omega (arith, all)), inl (ap (take 10) whole))
front_line text (line, rest, inr is, told) =
    let whole : text ≡ codes "verdict 2\n" ++ rest = told ∙ ap (λ l. l ++ rest) is in
    let all = ap length whole in
    ((omega (arith, all)), inr (ap (take 10) whole))

-- so a file that can't be read so far is none
pub none_there : (holds : Stored) (unreadable : Faulty) (name : List ℕ) (e : RangeFault) → (e ≢ range.File OutOfMemory)
    → IsRangeRefusal holds unreadable name 0 (Some 10) 10 e → unreadable name ⊎ ((text : List ℕ) × holds name text × ¬ BeginsVerdict text)
none_there holds unreadable name (range.File (CannotRead told)) other r = inl r.0
none_there holds unreadable name (range.File (CannotWrite told)) other r = absurd r
none_there holds unreadable name (range.File OutOfMemory) other r = absurd (other refl)
none_there holds unreadable name range.PastEnd other (file, stands, past) = inr (file, stands, λ begins. by past (front_line file begins).0)
  where
    by : IsPastEnd file 0 (Some 10) → 10 ≤ length file → ⊥
    by (inl lt) le = omega (arith, lt)
    by (inr lt) le = omega (arith, lt, le)
none_there holds unreadable name (range.InsideALine byte) other (file, stands, past, cut) = inr (file, stands, λ begins. by cut (front_line file begins).1)
  where
    by : IsCutAt file 0 (Some 10) byte → IsVerdictLine (take 10 file) → ⊥
    by (inl (at, inside)) line = inside (inl refl)
    by (inr (begins, at, less, inside)) line =
        let ten : byte ≡ 10 = ap (λ o. unwrap_or o 10) (sym at) in
        inside (subst (λ n. EndsLine (take n file)) (sym ten) (ends_line (take 10 file) line))
none_there holds unreadable name range.TooLong other (file, bytes, ends, stands, range, long) = absurd (
    let most : length bytes ≤ 10 = subst (λ (bs : List ℕ). length bs ≤ 10) (sym range.bytes_are) (short file) in
    omega (arith, long, most)
    )
  where
    short : (file : List ℕ) → length (slice_range file 0 10) ≤ 10
    short file = search rules

-- ---- where writing stopped

pub first_refused : (old new : Stored) (unwritable : Faulty) (name : List ℕ) (e : FileFault)
    → Begins old new name [] → ChangesOnly old new name → IsUnwritten unwritable name e → IsWriteRefusal old new unwritable (name ∷ []) ([] ∷ []) e
first_refused old new unwritable name (CannotWrite told) begins only u =
    subst (λ (v : List ℕ). IsUnwrittenAt old new unwritable (name ∷ []) ([] ∷ []) v) (sym u.1)
    (record {
      before = [];
      after = [];
      written = [];
      text = [];
      left = [];
      names_are = refl;
      texts_are = refl;
      refused = u.0;
      whole = tt;
      begins = begins;
      others = λ n b d. only n b d.0;
    })
first_refused old new unwritable name (CannotRead told) begins only u = absurd u
first_refused old new unwritable name OutOfMemory begins only u = tt

pub front_refused : (old new : Stored) (unwritable : Faulty) (names texts more left : List (List ℕ)) (e : FileFault)
    → IsWriteRefusal old new unwritable names texts e → IsWriteRefusal old new unwritable (names ++ more) (texts ++ left) e
front_refused old new unwritable names texts more left (CannotWrite told) r = record {
  before = r.before;
  after = r.after ++ more;
  written = r.written;
  text = r.text;
  left = r.left ++ left;
  names_are = ap (λ (v : List (List ℕ)). v ++ more) r.names_are ∙ append_assoc r.before (string_bytes told ∷ r.after) more;
  texts_are = ap (λ (v : List (List ℕ)). v ++ left) r.texts_are ∙ append_assoc r.written (r.text ∷ r.left) left;
  refused = r.refused;
  whole = r.whole;
  begins = r.begins;
  others = r.others;
}
front_refused old new unwritable names texts more left (CannotRead told) r = absurd r
front_refused old new unwritable names texts more left OutOfMemory r = tt

module _ (old mid new : Stored) (name : List ℕ) where
  -- one file was written, then others
  pub over_others : (names : List (List ℕ)) → ChangesOnly old mid name → ChangesAmong mid new names → ChangesAmong old new (name ∷ names)
  over_others names only among n b d =
      let first = only n b d.0 in
      let second = among n b d.1 in
      ((λ h. second.0 (first.0 h)), (λ h. first.1 (second.1 h)))

  pub over_kept : (names : List (List ℕ)) (text : List ℕ) → Differs name names → ChangesAmong mid new names → mid name text → new name text
  over_kept names text d among h = (among name text d).0 h

  begins_over : (other text : List ℕ) → other ≢ name → ChangesOnly old mid name → Begins mid new other text → Begins old new other text
  begins_over other text d only begins b stands = was_there (begins b stands)
    where
      was_there : (mid other b ⊎ ((k : ℕ) × (k ≤ length text) × (b ≡ take k text))) → (old other b ⊎ ((k : ℕ) × (k ≤ length text) × (b ≡ take k text)))
      was_there (inl h) = inl ((only other b d).1 h)
      was_there (inr h) = inr h

  -- the writing stopped at one of the others
  pub over_refused : (first later : Faulty) (names texts : List (List ℕ)) (text : List ℕ) (e : FileFault)
      → Differs name names → ChangesOnly old mid name → mid name text → ((n : List ℕ) → later n → first n)
      → IsWriteRefusal mid new later names texts e → IsWriteRefusal old new first (name ∷ names) (text ∷ texts) e
  over_refused first later names texts text (CannotWrite told) d only stands still r =
      let other = string_bytes told in
      let all : Differs name ((r.before ++ other ∷ []) ++ r.after) =
      subst (Differs name) (sym (append_assoc r.before (other ∷ []) r.after)) (subst (Differs name) r.names_are d) in
      let front = differs_front name (r.before ++ other ∷ []) r.after all in
      record {
        before = name ∷ r.before;
        after = r.after;
        written = text ∷ r.written;
        text = r.text;
        left = r.left;
        names_are = ap (λ ns. name ∷ ns) r.names_are;
        texts_are = ap (λ ts. text ∷ ts) r.texts_are;
        refused = still other r.refused;
        whole = (over_kept (r.before ++ other ∷ []) text front r.others stands, r.whole);
        begins = begins_over other r.text (λ is. differs_last name other r.before front (sym is)) only r.begins;
        others = over_others (r.before ++ other ∷ []) only r.others;
      }
  over_refused first later names texts text (CannotRead told) d only stands still r = absurd r
  over_refused first later names texts text OutOfMemory d only stands still r = tt

-- ---- a verdict, if there is one

pub kept_empty : (mid new : Stored) (verdict : Option (List ℕ)) (dir : List ℕ) (n : ℕ) → IfSome verdict (λ name. name ≡ name_of_verdict dir)
    → ChangesAmong mid new (result_names dir n) → IsEmptied mid verdict → IsEmptied new verdict
kept_empty mid new None dir n is among h = tt
kept_empty mid new (Some name) dir n is among h = (among name [] (subst (λ v. Differs v (result_names dir n)) (sym is) (differs_result dir n))).0 h

-- nothing was written before
none_before : (old mid new : Stored) (first later : Faulty) (names texts : List (List ℕ)) (e : FileFault)
    → ChangesAmong old mid [] → ((n : List ℕ) → later n → first n) → IsWriteRefusal mid new later names texts e → IsWriteRefusal old new first names texts e
none_before old mid new first later names texts (CannotWrite told) same still r = record {
  before = r.before;
  after = r.after;
  written = r.written;
  text = r.text;
  left = r.left;
  names_are = r.names_are;
  texts_are = r.texts_are;
  refused = still (string_bytes told) r.refused;
  whole = r.whole;
  begins = λ b stands. was_there b (r.begins b stands);
  others = λ n b d. ((λ h. (r.others n b d).0 ((same n b tt).0 h)), (λ h. (same n b tt).1 ((r.others n b d).1 h)));
}
  where
    was_there : (b : List ℕ) → (mid (string_bytes told) b ⊎ ((k : ℕ) × (k ≤ length r.text) × (b ≡ take k r.text))) → (old (string_bytes told) b ⊎ ((k : ℕ) × (k ≤ length r.text) × (b ≡ take k r.text)))
    was_there b (inl h) = inl ((same (string_bytes told) b tt).1 h)
    was_there b (inr h) = inr h
none_before old mid new first later names texts (CannotRead told) same still r = absurd r
none_before old mid new first later names texts OutOfMemory same still r = tt

pub result_refused : (old mid new : Stored) (verdict : Option (List ℕ)) (dir : List ℕ) (n : ℕ) (first later : Faulty) (texts : List (List ℕ)) (e : FileFault)
    → IfSome verdict (λ name. name ≡ name_of_verdict dir) → IsEmptied mid verdict → ChangesAmong old mid (named verdict) → ((m : List ℕ) → later m → first m)
    → IsWriteRefusal mid new later (result_names dir n) texts e → IsWriteRefusal old new first (named verdict ++ result_names dir n) (no_text verdict ++ texts) e
result_refused old mid new None dir n first later texts e is h among still r = none_before old mid new first later (result_names dir n) texts e among still r
result_refused old mid new (Some name) dir n first later texts e is h among still r =
    over_refused old mid new name first later (result_names dir n) texts [] e (subst (λ v. Differs v (result_names dir n)) (sym is) (differs_result dir n))
    (λ m b d. among m b (d, tt)) h still r
