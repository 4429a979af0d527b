-- A sifter's pieces, one after another.
use Rattle.std.proofs.Common.{◌≡◌, ℕ, ◌+◌, ◌≤◌, ◌==◌, cond, eqb, ◌||◌, Bool, true, false, List, [], ◌∷◌, ◌++◌, length, map, refl, sym, ◌∙◌, ap, subst, arith, inl, inr, length-append, append_assoc}
use Rattle.std.proofs.lemmas.Bool.{and_parts, and_from, false≢true, false_from_ne_true, or_left, or_right}
use Rattle.std.proofs.lemmas.List.{append-nil, length-map}
use Rattle.std.proofs.lemmas.List.Concat.{flat_map-append}
use Rattle.std.proofs.lemmas.List.Sums.{count_by-le-length}
use Rattle.std.specs.List.{AllByRecursion}
use Rattle.mr_jobs.specs.Literal.{begins_with, compared, holds}
use Rattle.mr_records.specs.Records.{Record, lengthen, records, records_from}
use Rattle.mr_records.proofs.RecordLemmas.{cons_case, nil_case, lengthen-cons, lengthen-nil}
use Rattle.mr_explain.specs.Sifting.{AreCutAtLines, DropsOnly, Dropped, EndsLine, IsSifting, Kept, KeptLines, Piece, bytes_of, feeds_in, joined, kept_from, kept_lines}
use Rattle.mr_explain.specs.Needles.{AllLack, Lacks}
use Rattle.mr_explain.specs.Taking.{IsTaken, behind, closing, unless_empty}
use Rattle.mr_explain.specs.declared.sifting.Excerpt.{Excerpt}
use Rattle.mr_explain.proofs.CountLemmas.{count_by-append}

-- ---- where a literal stands nowhere in bytes, it stands in none of their records

module _ (fold : Bool) (literal : List ℕ) where
  begins-nil : (line : List ℕ) → begins_with fold line [] ≡ true
  unfolding begins_with
  begins-nil [] = refl
  begins-nil (b ∷ bs) = refl

  begins-more : (line more text : List ℕ) → begins_with fold line text ≡ true → begins_with fold (line ++ more) text ≡ true
  unfolding begins_with
  begins-more [] more [] h = begins-nil more
  begins-more [] more (x ∷ xs) h = absurd (false≢true h)
  begins-more (b ∷ bs) more [] h = refl
  begins-more (b ∷ bs) more (x ∷ xs) h =
      let parts = and_parts (eqb (compared fold b) (compared fold x)) (begins_with fold bs xs) h in
      and_from (eqb (compared fold b) (compared fold x)) (begins_with fold (bs ++ more) xs) parts.0 (begins-more bs more xs parts.1)

  -- it is no beginning of the bytes, and stands nowhere behind the first
  lacks-parts : (b : ℕ) (bs : List ℕ) → Lacks fold literal (b ∷ bs) → (begins_with fold (b ∷ bs) literal ≡ false) × Lacks fold literal bs
  unfolding holds
  lacks-parts b bs none = (
    false_from_ne_true (begins_with fold (b ∷ bs) literal) (λ h. false≢true (sym none ∙ or_left (begins_with fold (b ∷ bs) literal) (holds fold bs literal) h)),
    false_from_ne_true (holds fold bs literal) (λ h. false≢true (sym none ∙ or_right (begins_with fold (b ∷ bs) literal) (holds fold bs literal) h)),
  )

  lacks-nil : (b : ℕ) (bs : List ℕ) → begins_with fold (b ∷ bs) literal ≡ false → Lacks fold literal []
  unfolding holds
  lacks-nil b bs none = false_from_ne_true (begins_with fold [] literal) (λ h. false≢true (sym none ∙ begins-more [] (b ∷ bs) literal h))

  -- a front of the bytes that goes on with a front of the others
  lacks-longer : (b : ℕ) (front more : List ℕ) → begins_with fold (b ∷ (front ++ more)) literal ≡ false → Lacks fold literal front → Lacks fold literal (b ∷ front)
  unfolding holds
  lacks-longer b front more none later =
      let here : begins_with fold (b ∷ front) literal ≡ false =
      false_from_ne_true (begins_with fold (b ∷ front) literal) (λ h. false≢true (sym none ∙ begins-more (b ∷ front) more literal h)) in
      ap (λ t. t || holds fold front literal) here ∙ later

  -- the first record is a front of the bytes
  abbrev IsFront : List ℕ → List Record → Type 0
  IsFront bytes [] = Unit {0}
  IsFront bytes (r ∷ rs) = (more : List ℕ) × (bytes ≡ r.bytes ++ more)

  record AllLackFrom (bytes : List ℕ) (rs : List Record) : Type 0 where
    pub front : IsFront bytes rs
    pub lack : AllByRecursion (λ r. Lacks fold literal r.bytes) rs

  lack-longer : (at b : ℕ) (bs : List ℕ) (rs : List Record) → begins_with fold (b ∷ bs) literal ≡ false → AllLackFrom bs rs → AllLackFrom (b ∷ bs) (lengthen at b rs)
  lack-longer at b bs [] none later =
      subst (AllLackFrom (b ∷ bs)) (sym (lengthen-nil at b))
      (record { front = (bs, refl); lack = (lacks-longer b [] bs none (lacks-nil b bs none), tt) })
  lack-longer at b bs (r ∷ rs) none later =
      let front = later.front in
      subst (AllLackFrom (b ∷ bs)) (sym (lengthen-cons at b r.start r.bytes rs))
      (record {
        front = (front.0, ap (λ l. b ∷ l) front.1);
        lack = (
          lacks-longer b r.bytes front.0 (ap (λ (l : List ℕ). begins_with fold (b ∷ l) literal) (sym front.1) ∙ none) later.lack.0,
          later.lack.1,
        );
      })

  lack-from : (at : ℕ) (bs : List ℕ) → Lacks fold literal bs → AllLackFrom bs (records_from at bs)
  lack-from at [] none = subst (AllLackFrom []) (sym (nil_case at)) (record { front = tt; lack = tt })
  lack-from at (b ∷ bs) none =
      let parts = lacks-parts b bs none in
      let later : AllLackFrom bs (records_from (at + 1) bs) = lack-from (at + 1) bs parts.1 in
      subst (AllLackFrom (b ∷ bs)) (sym (cons_case at b bs)) (by (eqb b 10) parts.0 later)
    where
      by : (t : Bool) → begins_with fold (b ∷ bs) literal ≡ false → AllLackFrom bs (records_from (at + 1) bs)
          → AllLackFrom (b ∷ bs) (cond t (record { start = at; bytes = [] } ∷ records_from (at + 1) bs) (lengthen at b (records_from (at + 1) bs)))
      by true here later = record { front = (b ∷ bs, refl); lack = (lacks-nil b bs here, later.lack) }
      by false here later = lack-longer at b bs (records_from (at + 1) bs) here later

pub all-lack : (fold : Bool) (literal bytes : List ℕ) → holds fold bytes literal ≡ false → AllLack fold literal bytes
all-lack fold literal bytes none = (lack-from fold literal 0 bytes none).lack

-- ---- pieces

all-more : {X : Type 0} (P : X → Type 0) (xs : List X) (x : X) → AllByRecursion P xs → P x → AllByRecursion P (xs ++ x ∷ [])
all-more P [] x all here = (here, tt)
all-more P (y ∷ ys) x all here = (all.0, all-more P ys x all.1 here)

pub feeds-joined : (a b : List ℕ) → feeds_in (a ++ b) ≡ feeds_in a + feeds_in b
feeds-joined a b = count_by-append (λ (x : ℕ). x == 0x0A) a b

joined-more : (ps : List Piece) (p : Piece) → joined (ps ++ p ∷ []) ≡ joined ps ++ bytes_of p
joined-more ps p = flat_map-append bytes_of ps (p ∷ []) ∙ ap (λ l. joined ps ++ l) (append-nil (bytes_of p))

-- where what comes before is a piece longer
moved : (lines bytes : ℕ) (b rest : List ℕ) (p : Piece)
    → kept_from (lines + feeds_in b + feeds_in rest) (bytes + length b + length rest) (p ∷ []) ≡ kept_from (lines + feeds_in (b ++ rest)) (bytes + length (b ++ rest)) (p ∷ [])
moved lines bytes b rest p =
    ap (λ n. kept_from n (bytes + length b + length rest) (p ∷ []))
    (let e : lines + feeds_in b + feeds_in rest ≡ lines + feeds_in (b ++ rest) = omega (arith, feeds-joined b rest) in e)
    ∙ ap (λ n. kept_from (lines + feeds_in (b ++ rest)) n (p ∷ []))
    (let e : bytes + length b + length rest ≡ bytes + length (b ++ rest) = omega (arith, length-append b rest) in e)

kept-more : (lines bytes : ℕ) (ps : List Piece) (p : Piece)
    → kept_from lines bytes (ps ++ p ∷ []) ≡ kept_from lines bytes ps ++ kept_from (lines + feeds_in (joined ps)) (bytes + length (joined ps)) (p ∷ [])
kept-more lines bytes [] p =
    ap (λ n. kept_from n bytes (p ∷ [])) (let e : lines ≡ lines + 0 = omega arith in e)
    ∙ ap (λ n. kept_from (lines + 0) n (p ∷ [])) (let e : bytes ≡ bytes + 0 = omega arith in e)
kept-more lines bytes (Kept b ∷ ps) p =
    ap (λ l. record { bytes = b; lines_before = lines; bytes_before = bytes } ∷ l)
    (kept-more (lines + feeds_in b) (bytes + length b) ps p
    ∙ ap (λ l. kept_from (lines + feeds_in b) (bytes + length b) ps ++ l) (moved lines bytes b (joined ps) p))
kept-more lines bytes (Dropped b ∷ ps) p =
    kept-more (lines + feeds_in b) (bytes + length b) ps p
    ∙ ap (λ l. kept_from (lines + feeds_in b) (bytes + length b) ps ++ l) (moved lines bytes b (joined ps) p)

-- the same from the file's beginning
kept-next : (lines bytes : ℕ) (ps : List Piece) (p : Piece) → lines ≡ feeds_in (joined ps) → bytes ≡ length (joined ps)
    → kept_from 0 0 (ps ++ p ∷ []) ≡ kept_from 0 0 ps ++ kept_from lines bytes (p ∷ [])
kept-next lines bytes ps p lines_are bytes_are =
    kept-more 0 0 ps p
    ∙ ap (λ n. kept_from 0 0 ps ++ kept_from n (0 + length (joined ps)) (p ∷ [])) (let e : 0 + feeds_in (joined ps) ≡ lines = omega (arith, lines_are) in e)
    ∙ ap (λ n. kept_from 0 0 ps ++ kept_from lines n (p ∷ [])) (let e : 0 + length (joined ps) ≡ bytes = omega (arith, bytes_are) in e)

ends-joined : (a b : List ℕ) → EndsLine a → EndsLine b → EndsLine (a ++ b)
ends-joined a b ends (inl none) = subst EndsLine (sym (ap (λ l. a ++ l) none ∙ append-nil a)) ends
ends-joined a b ends (inr some) = inr (a ++ some.0, ap (λ l. a ++ l) some.1 ∙ sym (append_assoc a some.0 (10 ∷ [])))

cut-all : (ps : List Piece) → AllByRecursion (λ p. EndsLine (bytes_of p)) ps → AreCutAtLines ps
cut-all [] all = tt
cut-all (p ∷ ps) all = (inl all.0, cut-all ps all.1)

cut-last : (ps : List Piece) (p : Piece) → AllByRecursion (λ p. EndsLine (bytes_of p)) ps → AreCutAtLines (ps ++ p ∷ [])
cut-last [] p all = (inr refl, tt)
cut-last (q ∷ ps) p all = (inl all.0, cut-last ps p all.1)

abbrev at_place : List ℕ → ℕ → ℕ → KeptLines
at_place bytes lines place = record { bytes = bytes; lines_before = lines; bytes_before = place }

module _ (so : List ℕ → Type 0) where
  pub taken-none : IsTaken so [] [] (at_place [] 0 0) []
  taken-none = record {
    pieces = [];
    cut = tt;
    dropped = tt;
    closed_is = refl;
    lines = refl;
    bytes = refl;
    ends = inl refl;
    read_is = refl;
  }

  pub taken-more : (read : List ℕ) (closed : List KeptLines) (current : KeptLines) (rest more : List ℕ) → IsTaken so read closed current rest
      → IsTaken so (read ++ more) closed current (rest ++ more)
  taken-more read closed current rest more t = record {
    pieces = t.pieces;
    cut = t.cut;
    dropped = t.dropped;
    closed_is = t.closed_is;
    lines = t.lines;
    bytes = t.bytes;
    ends = t.ends;
    read_is = ap (λ l. l ++ more) t.read_is ∙ simp append_assoc;
  }

  -- lines are kept
  pub taken-kept : (read : List ℕ) (closed : List KeptLines) (b : List ℕ) (lines place : ℕ) (piece rest : List ℕ) → EndsLine piece
      → IsTaken so read closed (at_place b lines place) (piece ++ rest) → IsTaken so read closed (at_place (b ++ piece) lines place) rest
  taken-kept read closed b lines place piece rest ends t = record {
    pieces = t.pieces;
    cut = t.cut;
    dropped = t.dropped;
    closed_is = t.closed_is;
    lines = t.lines;
    bytes = t.bytes;
    ends = ends-joined b piece t.ends ends;
    read_is = t.read_is ∙ ap (λ l. joined t.pieces ++ l) (sym (append_assoc b piece rest));
  }

  -- lines are dropped, where none are open
  pub taken-dropped : (read : List ℕ) (closed : List KeptLines) (lines place : ℕ) (piece rest : List ℕ) → EndsLine piece
      → AllByRecursion (λ r. so r.bytes) (records piece) → IsTaken so read closed (at_place [] lines place) (piece ++ rest)
      → IsTaken so read closed (at_place [] (lines + feeds_in piece) (place + length piece)) rest
  taken-dropped read closed lines place piece rest ends none t =
      let all : joined (t.pieces ++ Dropped piece ∷ []) ≡ joined t.pieces ++ piece = joined-more t.pieces (Dropped piece) in
      record {
        pieces = t.pieces ++ Dropped piece ∷ [];
        cut = all-more (λ p. EndsLine (bytes_of p)) t.pieces (Dropped piece) t.cut ends;
        dropped = all-more (DropsOnly so) t.pieces (Dropped piece) t.dropped none;
        closed_is = t.closed_is ∙ sym (append-nil (kept_from 0 0 t.pieces)) ∙ sym (kept-next lines place t.pieces (Dropped piece) t.lines t.bytes);
        lines = ap (λ n. n + feeds_in piece) t.lines ∙ sym (ap feeds_in all ∙ feeds-joined (joined t.pieces) piece);
        bytes = ap (λ n. n + length piece) t.bytes ∙ sym (ap length all ∙ length-append (joined t.pieces) piece);
        ends = inl refl;
        read_is = t.read_is ∙ sym (append_assoc (joined t.pieces) piece rest) ∙ ap (λ l. l ++ rest) (sym all);
      }

  -- the open lines are closed
  pub taken-closed : (read : List ℕ) (closed : List KeptLines) (b : List ℕ) (lines place : ℕ) (rest : List ℕ) → IsTaken so read closed (at_place b lines place) rest
      → IsTaken so read (closed ++ closing (at_place b lines place)) (behind (at_place b lines place)) rest
  taken-closed read closed [] lines place rest t = record {
    pieces = t.pieces;
    cut = t.cut;
    dropped = t.dropped;
    closed_is = append-nil closed ∙ t.closed_is;
    lines = omega (arith, t.lines);
    bytes = omega (arith, t.bytes);
    ends = inl refl;
    read_is = t.read_is;
  }
  taken-closed read closed (x ∷ xs) lines place rest t =
      let b : List ℕ = x ∷ xs in
      let all : joined (t.pieces ++ Kept b ∷ []) ≡ joined t.pieces ++ b = joined-more t.pieces (Kept b) in
      record {
        pieces = t.pieces ++ Kept b ∷ [];
        cut = all-more (λ p. EndsLine (bytes_of p)) t.pieces (Kept b) t.cut t.ends;
        dropped = all-more (DropsOnly so) t.pieces (Kept b) t.dropped tt;
        closed_is = ap (λ (l : List KeptLines). l ++ at_place b lines place ∷ []) t.closed_is ∙ sym (kept-next lines place t.pieces (Kept b) t.lines t.bytes);
        lines = ap (λ n. n + feeds_in b) t.lines ∙ sym (ap feeds_in all ∙ feeds-joined (joined t.pieces) b);
        bytes = ap (λ n. n + length b) t.bytes ∙ sym (ap length all ∙ length-append (joined t.pieces) b);
        ends = inl refl;
        read_is = t.read_is ∙ sym (append_assoc (joined t.pieces) b rest) ∙ ap (λ l. l ++ rest) (sym all);
      }

  -- lines whose first goes on with the unfinished record
  abbrev Went : List ℕ → List KeptLines → List ℕ → ℕ → ℕ → List ℕ → Type 0
  Went read closed b lines place rest = IsTaken so read closed (at_place b lines place) rest

  goes-on : (read : List ℕ) (closed : List KeptLines) (b : List ℕ) (lines place : ℕ) (rest first others : List ℕ) → Went read closed b lines place rest
      → Went (read ++ (first ++ others)) closed b lines place ((rest ++ first) ++ others)
  goes-on read closed b lines place rest first others t =
      subst (Went (read ++ (first ++ others)) closed b lines place) (sym (append_assoc rest first others))
      (taken-more read closed (at_place b lines place) rest (first ++ others) t)

  ends-first : (rest first : List ℕ) → ((front : List ℕ) × (first ≡ front ++ 10 ∷ [])) → EndsLine (rest ++ first)
  ends-first rest first some = inr (rest ++ some.0, ap (λ l. rest ++ l) some.1 ∙ sym (append_assoc rest some.0 (10 ∷ [])))

  pub lines-kept : (read : List ℕ) (closed : List KeptLines) (b : List ℕ) (lines place : ℕ) (rest first others : List ℕ)
      → ((front : List ℕ) × (first ≡ front ++ 10 ∷ [])) → EndsLine others → Went read closed b lines place rest
      → Went (read ++ (first ++ others)) closed ((b ++ (rest ++ first)) ++ others) lines place []
  lines-kept read closed b lines place rest first others some ends t =
      let all : List ℕ = read ++ (first ++ others) in
      let one : Went all closed (b ++ (rest ++ first)) lines place others =
      taken-kept all closed b lines place (rest ++ first) others (ends-first rest first some) (goes-on read closed b lines place rest first others t) in
      taken-kept all closed (b ++ (rest ++ first)) lines place others [] ends
      (subst (Went all closed (b ++ (rest ++ first)) lines place) (sym (append-nil others)) one)

  pub lines-dropped : (read : List ℕ) (closed : List KeptLines) (b : List ℕ) (lines place : ℕ) (rest first others : List ℕ)
      → ((front : List ℕ) × (first ≡ front ++ 10 ∷ [])) → EndsLine others
      → AllByRecursion (λ r. so r.bytes) (records (rest ++ first)) → AllByRecursion (λ r. so r.bytes) (records others) → Went read closed b lines place rest
      → Went (read ++ (first ++ others)) (closed ++ closing (at_place b lines place)) []
      (lines + feeds_in b + feeds_in (rest ++ first) + feeds_in others) (place + length b + length (rest ++ first) + length others) []
  lines-dropped read closed b lines place rest first others some ends none none_others t =
      let all : List ℕ = read ++ (first ++ others) in
      let shut : List KeptLines = closed ++ closing (at_place b lines place) in
      let n : ℕ = lines + feeds_in b in
      let k : ℕ = place + length b in
      let one : Went all shut [] (n + feeds_in (rest ++ first)) (k + length (rest ++ first)) others =
      taken-dropped all shut n k (rest ++ first) others (ends-first rest first some) none
      (taken-closed all closed b lines place ((rest ++ first) ++ others) (goes-on read closed b lines place rest first others t)) in
      taken-dropped all shut (n + feeds_in (rest ++ first)) (k + length (rest ++ first)) others [] ends none_others
      (subst (Went all shut [] (n + feeds_in (rest ++ first)) (k + length (rest ++ first))) (sym (append-nil others)) one)

  -- ---- the last record

  pub last-dropped : (file : List ℕ) (closed : List KeptLines) (b : List ℕ) (lines place : ℕ) (rest : List ℕ) → AllByRecursion (λ r. so r.bytes) (records rest)
      → IsTaken so file closed (at_place b lines place) rest → IsSifting so file (closed ++ closing (at_place b lines place))
  last-dropped file closed b lines place rest none taken =
      let t : IsTaken so file (closed ++ closing (at_place b lines place)) (behind (at_place b lines place)) rest =
      taken-closed file closed b lines place rest taken in
      record {
        pieces = t.pieces ++ Dropped rest ∷ [];
        file_is = joined-more t.pieces (Dropped rest) ∙ sym t.read_is;
        cut = cut-last t.pieces (Dropped rest) t.cut;
        dropped = all-more (DropsOnly so) t.pieces (Dropped rest) t.dropped none;
        kept_is = t.closed_is ∙ sym (append-nil (kept_from 0 0 t.pieces))
            ∙ sym (kept-next (lines + feeds_in b) (place + length b) t.pieces (Dropped rest) t.lines t.bytes);
      }

  kept-whole : (file : List ℕ) (closed : List KeptLines) (all : List ℕ) (lines place : ℕ) (pieces : List Piece)
      → AllByRecursion (λ p. EndsLine (bytes_of p)) pieces → AllByRecursion (DropsOnly so) pieces → closed ≡ kept_from 0 0 pieces
      → lines ≡ feeds_in (joined pieces) → place ≡ length (joined pieces) → file ≡ joined pieces ++ all
      → IsSifting so file (closed ++ closing (at_place all lines place))
  kept-whole file closed [] lines place pieces cut dropped closed_is lines_are bytes_are file_is = record {
    pieces = pieces;
    file_is = sym (file_is ∙ append-nil (joined pieces));
    cut = cut-all pieces cut;
    dropped = dropped;
    kept_is = append-nil closed ∙ closed_is;
  }
  kept-whole file closed (x ∷ xs) lines place pieces cut dropped closed_is lines_are bytes_are file_is =
      let all : List ℕ = x ∷ xs in
      record {
        pieces = pieces ++ Kept all ∷ [];
        file_is = joined-more pieces (Kept all) ∙ sym file_is;
        cut = cut-last pieces (Kept all) cut;
        dropped = all-more (DropsOnly so) pieces (Kept all) dropped tt;
        kept_is = ap (λ (l : List KeptLines). l ++ at_place all lines place ∷ []) closed_is ∙ sym (kept-next lines place pieces (Kept all) lines_are bytes_are);
      }

  pub last-kept : (file : List ℕ) (closed : List KeptLines) (b : List ℕ) (lines place : ℕ) (rest : List ℕ) → IsTaken so file closed (at_place b lines place) rest
      → IsSifting so file (closed ++ closing (at_place (b ++ rest) lines place))
  last-kept file closed b lines place rest t =
      kept-whole file closed (b ++ rest) lines place t.pieces t.cut t.dropped t.closed_is t.lines t.bytes t.read_is

  -- there are no more line feeds than bytes, and no more bytes than were read
  pub taken-room : (read : List ℕ) (closed : List KeptLines) (current : KeptLines) (rest : List ℕ) → IsTaken so read closed current rest
      → (current.lines_before ≤ current.bytes_before) × (current.bytes_before + length current.bytes + length rest ≡ length read)
  taken-room read closed current rest t = (
    omega (arith, t.lines, t.bytes, count_by-le-length (λ (x : ℕ). x == 0x0A) (joined t.pieces)),
    omega (arith, t.bytes, ap length t.read_is, length-append (joined t.pieces) (current.bytes ++ rest), length-append current.bytes rest),
  )

  pub taken-as : (read : List ℕ) (closed closed' : List KeptLines) (current current' : KeptLines) (rest rest' : List ℕ) → closed ≡ closed' → current ≡ current' → rest ≡ rest'
      → IsTaken so read closed current rest → IsTaken so read closed' current' rest'
  taken-as read closed closed' current current' rest rest' a b c t =
      subst (λ (l : List ℕ). IsTaken so read closed' current' l) c (subst (λ (l : KeptLines). IsTaken so read closed' l rest) b (subst (λ (l : List KeptLines). IsTaken so read l current rest) a t))

pub lines-same : (l : KeptLines) (b : List ℕ) (lines place : ℕ) → l.bytes ≡ b → l.lines_before ≡ lines → l.bytes_before ≡ place → at_place b lines place ≡ l
lines-same l b lines place bytes_are lines_are place_is =
    sym (ap (λ (x : List ℕ). at_place x l.lines_before l.bytes_before) bytes_are ∙ ap (λ n. at_place b n l.bytes_before) lines_are ∙ ap (λ n. at_place b lines n) place_is)

few-closing : (b : List ℕ) (l : KeptLines) → length (unless_empty b l) ≤ 1
few-closing [] l = omega arith
few-closing (x ∷ xs) l = omega arith

pub few-closed : (new old : List Excerpt) (l : KeptLines) → map kept_lines new ≡ map kept_lines old ++ closing l → length new ≤ length old + 1
few-closed new old l e =
    omega (arith, ap length e, length-map new kept_lines, length-map old kept_lines, length-append (map kept_lines old) (closing l), few-closing l.bytes l)

-- what is so of dropped records, where more is so of them
sifting-so : (so more : List ℕ → Type 0) → ((line : List ℕ) → so line → more line) → (ps : List Piece)
    → AllByRecursion (DropsOnly so) ps → AllByRecursion (DropsOnly more) ps
sifting-so so more h [] all = tt
sifting-so so more h (Kept b ∷ ps) all = (tt, sifting-so so more h ps all.1)
sifting-so so more h (Dropped b ∷ ps) all = (each (records b) all.0, sifting-so so more h ps all.1)
  where
    each : (rs : List Record) → AllByRecursion (λ r. so r.bytes) rs → AllByRecursion (λ r. more r.bytes) rs
    each [] all = tt
    each (r ∷ rs) all = (h r.bytes all.0, each rs all.1)

pub sifting-weaker : (so more : List ℕ → Type 0) (file : List ℕ) (kept : List KeptLines) → ((line : List ℕ) → so line → more line)
    → IsSifting so file kept → IsSifting more file kept
sifting-weaker so more file kept h s = record {
  pieces = s.pieces;
  file_is = s.file_is;
  cut = s.cut;
  dropped = sifting-so so more h s.pieces s.dropped;
  kept_is = s.kept_is;
}
