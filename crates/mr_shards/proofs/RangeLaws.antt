-- The joined_ranges verdict is true of all.
use Rattle.std.proofs.Common.{◌≡◌, ℕ, ◌+◌, ◌<◌, ◌^◌, cond, Bool, true, false, List, [], ◌∷◌, ◌++◌, length, map, refl, sym, ◌∙◌, ap, subst, arith, inl, inr, length-append, eqb, ◌&&◌}
use Rattle.std.proofs.lemmas.List.{append-nil, append_assoc}
use Rattle.std.specs.List.{AllByRecursion}
use Rattle.std.specs.Prelude.{nat_lt}
use Rattle.std.specs.Str.{bytes_eq}
use Rattle.mr_bytes.specs.Pairs.{Triple}
use Rattle.mr_bytes.specs.declared.RecordName.{RecordName}
use Rattle.mr_jobs.specs.JobSpec.{RequestSpec}
use Rattle.mr_jobs.specs.Emissions.{Emission}
use Rattle.mr_sequential.specs.Emitted.{emitted}
use Rattle.mr_shards.specs.Merged.{texts}
use Rattle.mr_sequential.specs.Sequential.{sequential}
use Rattle.mr_shards.specs.Lines.{EndsLine, groups_in}
use Rattle.mr_shards.specs.PortionLaws.{pairs_of, shifted_pair}
use Rattle.mr_shards.specs.RangeNotes.{EndAtLines, RangeNote, assembled, first_goes_on, goes_on}
use Rattle.mr_shards.specs.Portions.{AreCutAtLines, Portion, Shift, glued, last_file, merged_portions, put_together, shift_behind, shift_of, whole_of, with_bytes}
use Rattle.mr_shards.specs.Spots.{SkipsExist, left_out_of, left_out_spots, shifted_spot, spots_of}
use Rattle.mr_shards.specs.PortionLines.{part_read}
use Rattle.mr_shards.specs.RangeVerdicts.{AreNotesOfRanges, AreTrueOfRanges, IsRangeCounted, IsTrueOfRanges, JoinedIsTrueOfRanges, RangesAreFiles, RangeVerdict, all_ranges, file_lengths, ranges_of, last_goes_on, last_number, left_out_in, pairs_in, parts_at, shift_past, with_length}
use Rattle.mr_shards.proofs.SpotLaws.{names_stand, spots_back}
use Rattle.mr_shards.proofs.LeftOutLemmas.{flags-whole}
use Rattle.mr_shards.proofs.LineLaws.{lines_are_whole}
use Rattle.mr_shards.proofs.EmissionLemmas.{all_pairs, emitted-all}
use Rattle.mr_shards.specs.Outputs.{IsJudged}
use Rattle.mr_shards.proofs.SpotLemmas.{map-length}
use Rattle.mr_shards.proofs.TileLemmas.{goes-on}

-- ---- the files that ranges make up

some-file : (n : RangeNote) (ns : List RangeNote) (r : List ℕ) (rs : List (List ℕ)) → (f : List ℕ) × (fs : List (List ℕ)) × (assembled (n ∷ ns) (r ∷ rs) ≡ f ∷ fs)
some-file n ns r rs = by (first_goes_on n ns) (assembled ns rs)
  where
    by : (b : Bool) (fs : List (List ℕ)) → (g : List ℕ) × (gs : List (List ℕ)) × (cond b (with_bytes r fs) (r ∷ fs) ≡ g ∷ gs)
    by true [] = (r, [], refl)
    by true (f ∷ fs) = (r ++ f, fs, refl)
    by false fs = (r, fs, refl)

with-glued : (r f : List ℕ) (fs gs : List (List ℕ)) → with_bytes r (glued (f ∷ fs) gs) ≡ glued (with_bytes r (f ∷ fs)) gs
with-glued r f [] [] = refl
with-glued r f [] (g ∷ gs) = ap (λ l. l ∷ gs) (sym (append_assoc r f g))
with-glued r f (f' ∷ fs) gs = refl

with-together : (cut : Bool) (r f : List ℕ) (fs gs : List (List ℕ)) → with_bytes r (put_together cut (f ∷ fs) gs) ≡ put_together cut (with_bytes r (f ∷ fs)) gs
with-together true r f fs gs = with-glued r f fs gs
with-together false r f fs gs = refl

before-together : (cut : Bool) (r f : List ℕ) (fs gs : List (List ℕ)) → r ∷ put_together cut (f ∷ fs) gs ≡ put_together cut (r ∷ f ∷ fs) gs
before-together true r f fs gs = refl
before-together false r f fs gs = refl

assembled-append : (ms ns : List RangeNote) (qs rs : List (List ℕ)) → AreNotesOfRanges ms qs
    → assembled (ms ++ ns) (qs ++ rs) ≡ put_together (last_goes_on ms ns) (assembled ms qs) (assembled ns rs)
assembled-append [] ns [] rs notes = refl
assembled-append [] ns (q ∷ qs) rs notes = absurd notes
assembled-append (m ∷ ms) ns [] rs notes = absurd notes
assembled-append (m ∷ []) ns (q ∷ []) rs notes = by (first_goes_on m ns)
  where
    by : (b : Bool) → cond b (with_bytes q (assembled ns rs)) (q ∷ assembled ns rs) ≡ put_together b (q ∷ []) (assembled ns rs)
    by true = refl
    by false = refl
assembled-append (m ∷ []) ns (q ∷ q' ∷ qs) rs notes = absurd notes.2
assembled-append (m ∷ m' ∷ ms) ns (q ∷ []) rs notes = absurd notes.2
assembled-append (m ∷ m' ∷ ms) ns (q ∷ q' ∷ qs) rs notes =
    let cut : Bool = last_goes_on (m' ∷ ms) ns in
    let some = some-file m' ms q' qs in
    by (goes_on m m') cut some.0 some.1 some.2 (assembled-append (m' ∷ ms) ns (q' ∷ qs) rs notes.2)
  where
    by : (b cut : Bool) (f : List ℕ) (fs : List (List ℕ)) → assembled (m' ∷ ms) (q' ∷ qs) ≡ f ∷ fs
        → assembled ((m' ∷ ms) ++ ns) ((q' ∷ qs) ++ rs) ≡ put_together cut (assembled (m' ∷ ms) (q' ∷ qs)) (assembled ns rs)
        → cond b (with_bytes q (assembled ((m' ∷ ms) ++ ns) ((q' ∷ qs) ++ rs))) (q ∷ assembled ((m' ∷ ms) ++ ns) ((q' ∷ qs) ++ rs))
        ≡ put_together cut (cond b (with_bytes q (assembled (m' ∷ ms) (q' ∷ qs))) (q ∷ assembled (m' ∷ ms) (q' ∷ qs))) (assembled ns rs)
    by true cut f fs is rest =
        ap (with_bytes q) (rest ∙ ap (λ l. put_together cut l (assembled ns rs)) is) ∙ with-together cut q f fs (assembled ns rs)
        ∙ ap (λ l. put_together cut (with_bytes q l) (assembled ns rs)) (sym is)
    by false cut f fs is rest =
        ap (λ l. q ∷ l) (rest ∙ ap (λ l. put_together cut l (assembled ns rs)) is) ∙ before-together cut q f fs (assembled ns rs)
        ∙ ap (λ l. put_together cut (q ∷ l) (assembled ns rs)) (sym is)

-- ---- their lengths

lengths-with : (r : List ℕ) (fs : List (List ℕ)) → map length (with_bytes r fs) ≡ with_length (length r) (map length fs)
lengths-with r [] = refl
lengths-with r (f ∷ fs) = ap (λ n. n ∷ map length fs) (length-append r f)

lengths-told : (ns : List RangeNote) (rs : List (List ℕ)) → AreNotesOfRanges ns rs → map length (assembled ns rs) ≡ file_lengths ns
lengths-told [] [] notes = refl
lengths-told [] (r ∷ rs) notes = absurd notes
lengths-told (n ∷ ns) [] notes = absurd notes
lengths-told (n ∷ ns) (r ∷ rs) notes = by (first_goes_on n ns) (lengths-told ns rs notes.2)
  where
    by : (b : Bool) → map length (assembled ns rs) ≡ file_lengths ns
        → map length (cond b (with_bytes r (assembled ns rs)) (r ∷ assembled ns rs)) ≡ cond b (with_length n.length (file_lengths ns)) (n.length ∷ file_lengths ns)
    by true rest = lengths-with r (assembled ns rs) ∙ ap (with_length (length r)) rest ∙ ap (λ k. with_length k (file_lengths ns)) (sym notes.0)
    by false rest = let here = sym notes.0 in λ i. here i ∷ rest i

last-length : (fs : List (List ℕ)) → length (last_file fs) ≡ last_number (map length fs)
last-length [] = refl
last-length (f ∷ []) = refl
last-length (f ∷ g ∷ fs) = last-length (g ∷ fs)

count-told : (ns : List RangeNote) (rs : List (List ℕ)) → AreNotesOfRanges ns rs → length (assembled ns rs) ≡ length (file_lengths ns)
count-told ns rs notes = sym (map-length length (assembled ns rs)) ∙ ap length (lengths-told ns rs notes)

last-told : (ns : List RangeNote) (rs : List (List ℕ)) → AreNotesOfRanges ns rs → length (last_file (assembled ns rs)) ≡ last_number (file_lengths ns)
last-told ns rs notes = last-length (assembled ns rs) ∙ ap last_number (lengths-told ns rs notes)

all-lengths : (fs : List (List ℕ)) → AllByRecursion (λ n. n < 2 ^ 64) (map length fs) → AllByRecursion (λ f. length f < 2 ^ 64) fs
all-lengths [] all = tt
all-lengths (f ∷ fs) all = (all.0, all-lengths fs all.1)

-- ---- they are cut where lines end

ends-append : (a b : List ℕ) → EndsLine a → EndsLine b → EndsLine (a ++ b)
ends-append a b e (inl none) = subst EndsLine (sym (ap (λ l. a ++ l) none ∙ append-nil a)) e
ends-append a b e (inr some) = inr (a ++ some.0, ap (λ l. a ++ l) (some.1) ∙ sym (append_assoc a some.0 (10 ∷ [])))

first-closed : (m : RangeNote) (ns : List RangeNote) → first_goes_on m ns ≡ true → m.closed ≡ true
first-closed m [] e = absurd cc
first-closed m (n ∷ ns) e = (goes-on m n e).closed

-- the last range ends where a line ends
abbrev IsClosed : List RangeNote → Type 0
IsClosed [] = Unit {0}
IsClosed (m ∷ []) = m.closed ≡ true
IsClosed (m ∷ k ∷ ms) = IsClosed (k ∷ ms)

closed-last : (ms ns : List RangeNote) → last_goes_on ms ns ≡ true → IsClosed ms
closed-last [] ns e = tt
closed-last (m ∷ []) ns e = first-closed m ns e
closed-last (m ∷ k ∷ ms) ns e = closed-last (k ∷ ms) ns e

last-with : (r f : List ℕ) (fs : List (List ℕ)) → EndsLine r → EndsLine (last_file (f ∷ fs)) → EndsLine (last_file (with_bytes r (f ∷ fs)))
last-with r f [] e l = ends-append r f e l
last-with r f (g ∷ fs) e l = l

ends-assembled : (ms : List RangeNote) (rs : List (List ℕ)) → EndAtLines ms rs → IsClosed ms → EndsLine (last_file (assembled ms rs))
ends-assembled [] [] lines is_closed = inl refl
ends-assembled [] (r ∷ rs) lines is_closed = absurd lines
ends-assembled (m ∷ ms) [] lines is_closed = absurd lines
ends-assembled (m ∷ []) (r ∷ []) lines is_closed = lines.0 is_closed
ends-assembled (m ∷ []) (r ∷ q ∷ rs) lines is_closed = absurd lines.1
ends-assembled (m ∷ k ∷ ms) (r ∷ []) lines is_closed = absurd lines.1
ends-assembled (m ∷ k ∷ ms) (r ∷ q ∷ rs) lines is_closed =
    let some = some-file k ms q rs in
    by (goes_on m k) refl some.0 some.1 some.2 (ends-assembled (k ∷ ms) (q ∷ rs) lines.1 is_closed)
  where
    by : (b : Bool) → goes_on m k ≡ b → (f : List ℕ) (fs : List (List ℕ)) → assembled (k ∷ ms) (q ∷ rs) ≡ f ∷ fs → EndsLine (last_file (assembled (k ∷ ms) (q ∷ rs)))
        → EndsLine (last_file (cond b (with_bytes r (assembled (k ∷ ms) (q ∷ rs))) (r ∷ assembled (k ∷ ms) (q ∷ rs))))
    by true e f fs is rest =
        subst (λ l. EndsLine (last_file (with_bytes r l))) (sym is) (last-with r f fs (lines.0 (goes-on m k e).closed) (subst (λ l. EndsLine (last_file l)) is rest))
    by false e f fs is rest = subst (λ l. EndsLine (last_file (r ∷ l))) (sym is) (subst (λ l. EndsLine (last_file l)) is rest)

-- ---- the portions that true verdicts are on

abbrev portions : (request : RequestSpec) (vs : List RangeVerdict) (rss pss : List (List (List ℕ))) → AreTrueOfRanges request vs rss pss → List Portion
portions request [] [] [] t = []
portions request [] [] (ps ∷ pss) t = []
portions request [] (rs ∷ rss) pss t = []
portions request (v ∷ vs) [] pss t = []
portions request (v ∷ vs) (rs ∷ rss) [] t = []
portions request (v ∷ vs) (rs ∷ rss) (ps ∷ pss) t =
    record { cut = last_goes_on v.inputs (ranges_of vs); files = assembled v.inputs rs; skips = t.0.skips } ∷ portions request vs rss pss t.1

-- what is the case of the verdicts one by one, is so of all
by_verdicts : (request : RequestSpec) (P : (vs : List RangeVerdict) (rss pss : List (List (List ℕ))) → AreTrueOfRanges request vs rss pss → Type 0) → P [] [] [] tt
    → ((v : RangeVerdict) (vs : List RangeVerdict) (rs : List (List ℕ)) (rss : List (List (List ℕ))) (ps : List (List ℕ)) (pss : List (List (List ℕ)))
    (a : IsTrueOfRanges request v rs ps) (t : AreTrueOfRanges request vs rss pss) → P vs rss pss t → P (v ∷ vs) (rs ∷ rss) (ps ∷ pss) (a, t))
    → (vs : List RangeVerdict) (rss pss : List (List (List ℕ))) (t : AreTrueOfRanges request vs rss pss) → P vs rss pss t
by_verdicts request P none more [] [] [] t = none
by_verdicts request P none more [] [] (ps ∷ pss) t = absurd t
by_verdicts request P none more [] (rs ∷ rss) pss t = absurd t
by_verdicts request P none more (v ∷ vs) [] pss t = absurd t
by_verdicts request P none more (v ∷ vs) (rs ∷ rss) [] t = absurd t
by_verdicts request P none more (v ∷ vs) (rs ∷ rss) (ps ∷ pss) t = more v vs rs rss ps pss t.0 t.1 (by_verdicts request P none more vs rss pss t.1)

notes-append : (ms ns : List RangeNote) (qs rs : List (List ℕ)) → AreNotesOfRanges ms qs → AreNotesOfRanges ns rs → AreNotesOfRanges (ms ++ ns) (qs ++ rs)
notes-append [] ns [] rs a b = b
notes-append [] ns (q ∷ qs) rs a b = absurd a
notes-append (m ∷ ms) ns [] rs a b = absurd a
notes-append (m ∷ ms) ns (q ∷ qs) rs a b = (a.0, a.1, notes-append ms ns qs rs a.2 b)

lines-append : (ms ns : List RangeNote) (qs rs : List (List ℕ)) → EndAtLines ms qs → EndAtLines ns rs → EndAtLines (ms ++ ns) (qs ++ rs)
lines-append [] ns [] rs a b = b
lines-append [] ns (q ∷ qs) rs a b = absurd a
lines-append (m ∷ ms) ns [] rs a b = absurd a
lines-append (m ∷ ms) ns (q ∷ qs) rs a b = (a.0, lines-append ms ns qs rs a.1 b)

module _ (request : RequestSpec) where
  notes-all : (vs : List RangeVerdict) (rss pss : List (List (List ℕ))) → AreTrueOfRanges request vs rss pss → AreNotesOfRanges (ranges_of vs) (all_ranges rss)
  notes-all =
      by_verdicts request (λ vs rss pss t. AreNotesOfRanges (ranges_of vs) (all_ranges rss)) tt
      (λ v vs rs rss ps pss a t rest. notes-append v.inputs (ranges_of vs) rs (all_ranges rss) a.notes rest)

  lines-all : (vs : List RangeVerdict) (rss pss : List (List (List ℕ))) → AreTrueOfRanges request vs rss pss → EndAtLines (ranges_of vs) (all_ranges rss)
  lines-all =
      by_verdicts request (λ vs rss pss t. EndAtLines (ranges_of vs) (all_ranges rss)) tt
      (λ v vs rs rss ps pss a t rest. lines-append v.inputs (ranges_of vs) rs (all_ranges rss) a.lines rest)

  -- their files, put together, are those that all ranges make up
  whole-all : (vs : List RangeVerdict) (rss pss : List (List (List ℕ))) (t : AreTrueOfRanges request vs rss pss)
      → assembled (ranges_of vs) (all_ranges rss) ≡ whole_of (portions request vs rss pss t)
  whole-all =
      by_verdicts request (λ vs rss pss t. assembled (ranges_of vs) (all_ranges rss) ≡ whole_of (portions request vs rss pss t)) refl
      (λ v vs rs rss ps pss a t rest.
      assembled-append v.inputs (ranges_of vs) rs (all_ranges rss) a.notes
      ∙ ap (put_together (last_goes_on v.inputs (ranges_of vs)) (assembled v.inputs rs)) rest)

  cut-all : (vs : List RangeVerdict) (rss pss : List (List (List ℕ))) (t : AreTrueOfRanges request vs rss pss) → AreCutAtLines (portions request vs rss pss t)
  cut-all =
      by_verdicts request (λ vs rss pss t. AreCutAtLines (portions request vs rss pss t)) tt
      (λ v vs rs rss ps pss a t rest. (λ e. ends-assembled v.inputs rs a.lines (closed-last v.inputs (ranges_of vs) e), rest))

  shift-told : (v : RangeVerdict) (vs : List RangeVerdict) (rs : List (List ℕ)) (skips : List RecordName) → AreNotesOfRanges v.inputs rs
      → shift_past v.inputs (ranges_of vs) ≡ shift_of (record { cut = last_goes_on v.inputs (ranges_of vs); files = assembled v.inputs rs; skips = skips })
  shift-told v vs rs skips notes =
      let files = sym (count-told v.inputs rs notes) in
      let last = sym (last-told v.inputs rs notes) in
      λ i. shift_behind (last_goes_on v.inputs (ranges_of vs)) (files i) (last i)

  spots-all : (vs : List RangeVerdict) (rss pss : List (List (List ℕ))) (t : AreTrueOfRanges request vs rss pss) → left_out_in vs ≡ left_out_spots request.split (portions request vs rss pss t)
  spots-all =
      by_verdicts request (λ vs rss pss t. left_out_in vs ≡ left_out_spots request.split (portions request vs rss pss t)) refl
      (λ v vs rs rss ps pss a t rest.
      ap (λ l. l ++ map (shifted_spot (shift_past v.inputs (ranges_of vs))) (left_out_in vs)) a.spots
      ∙ ap (λ h. spots_of request.split (assembled v.inputs rs) a.skips ++ map (shifted_spot h) (left_out_in vs)) (shift-told v vs rs a.skips a.notes)
      ∙ ap (λ l. spots_of request.split (assembled v.inputs rs) a.skips
      ++ map (shifted_spot (shift_of (record { cut = last_goes_on v.inputs (ranges_of vs); files = assembled v.inputs rs; skips = a.skips }))) l) rest)

  pairs-all : (vs : List RangeVerdict) (rss pss : List (List (List ℕ))) (t : AreTrueOfRanges request vs rss pss)
      → pairs_in vs ≡ length (all_pairs request.job request.split (portions request vs rss pss t))
  pairs-all =
      by_verdicts request (λ vs rss pss t. pairs_in vs ≡ length (all_pairs request.job request.split (portions request vs rss pss t))) refl
      (λ v vs rs rss ps pss a t rest.
      let ts : List Triple = emitted request.job request.split (assembled v.inputs rs) a.skips in
      let h : Shift = shift_of (record { cut = last_goes_on v.inputs (ranges_of vs); files = assembled v.inputs rs; skips = a.skips }) in
      let later : List Emission = all_pairs request.job request.split (portions request vs rss pss t) in
      omega (arith, a.all, rest, length-append (pairs_of ts) (map (shifted_pair h) later), map-length {Y = Emission} (λ (u : Triple). (u.key, u.value)) ts, map-length (shifted_pair h) later))

  judged-all : (vs : List RangeVerdict) (rss pss : List (List (List ℕ))) (t : AreTrueOfRanges request vs rss pss) → AllByRecursion IsRangeCounted vs
      → AllByRecursion (IsJudged request) (portions request vs rss pss t)
  judged-all =
      by_verdicts request (λ vs rss pss t. AllByRecursion IsRangeCounted vs → AllByRecursion (IsJudged request) (portions request vs rss pss t)) (λ c. tt)
      (λ v vs rs rss ps pss a t rest c. (
        record {
          skips_exist = a.exist;
          few_pairs = omega (arith, c.0.pairs, a.all);
          few_files = omega (arith, c.0.files, count-told v.inputs rs a.notes);
          small_files = all-lengths (assembled v.inputs rs) (subst (AllByRecursion (λ n. n < 2 ^ 64)) (sym (lengths-told v.inputs rs a.notes)) c.0.sizes);
        },
        rest c.1,
      ))

  parts-all : (p : ℕ) → p < request.parts → (vs : List RangeVerdict) (rss pss : List (List (List ℕ))) (t : AreTrueOfRanges request vs rss pss)
      → parts_at request.job p vs pss ≡ map (part_read request p) (portions request vs rss pss t)
  parts-all p inside =
      by_verdicts request (λ vs rss pss t. parts_at request.job p vs pss ≡ map (part_read request p) (portions request vs rss pss t)) refl
      (λ v vs rs rss ps pss a t rest.
      let shift = shift-told v vs rs a.skips a.notes in
      let groups = ap (groups_in request.job) (a.sequential_is p inside) in
      λ i. record { shift = shift i; groups = groups i } ∷ rest i)

pub joined_is_true : JoinedIsTrueOfRanges
joined_is_true request vs ranges parts outputs some counted true_of count merged =
    let ss : List Portion = portions request vs ranges parts true_of in
    let size : ℕ = request.split in
    let skips : List RecordName = left_out_of size ss in
    let files : assembled (ranges_of vs) (all_ranges ranges) ≡ whole_of ss = whole-all request vs ranges parts true_of in
    let cut : AreCutAtLines ss = cut-all request vs ranges parts true_of in
    let stand = names_stand size ss some in
    let ts : List Triple = emitted request.job size (whole_of ss) skips in
    let same : pairs_of ts ≡ all_pairs request.job size ss = emitted-all request.job size ss skips cut (flags-whole size ss some cut) in
    record {
      notes = notes-all request vs ranges parts true_of;
      lines = lines-all request vs ranges parts true_of;
      skips = skips;
      rise = stand.0;
      exist = subst (λ fs. SkipsExist size fs skips) (sym files) stand.1;
      spots = spots-all request vs ranges parts true_of ∙ sym (spots_back size ss some cut) ∙ ap (λ fs. spots_of size fs skips) (sym files);
      count = count;
      sequential_is = λ p inside. merged p inside ∙ ap (λ l. texts request.job (merged_portions l)) (parts-all request p inside vs ranges parts true_of)
          ∙ lines_are_whole request ss p some cut (judged-all request vs ranges parts true_of counted)
          ∙ ap (λ fs. sequential request fs skips p) (sym files);
      all = pairs-all request vs ranges parts true_of ∙ ap length (sym same) ∙ map-length {Y = Emission} (λ (u : Triple). (u.key, u.value)) ts
          ∙ ap (λ fs. length (emitted request.job size fs skips)) (sym files);
    }

-- ---- the ranges of one shard

and_false : (a : Bool) → (a && false) ≡ false
and_false true = refl
and_false false = refl

begins-anew : (m n : RangeNote) → n.from ≡ 0 → goes_on m n ≡ false
begins-anew m n e =
    ap (λ k. bytes_eq m.name n.name && ((eqb k (m.from + m.length)) && (nat_lt 0 k && m.closed))) e
    ∙ ap (λ b. bytes_eq m.name n.name && b) (and_false (eqb 0 (m.from + m.length))) ∙ and_false (bytes_eq m.name n.name)

pub ranges_are_files : RangesAreFiles
ranges_are_files [] [] notes zero = refl
ranges_are_files [] (r ∷ rs) notes zero = absurd notes
ranges_are_files (n ∷ ns) [] notes zero = absurd notes
ranges_are_files (n ∷ []) (r ∷ []) notes zero = refl
ranges_are_files (n ∷ []) (r ∷ q ∷ rs) notes zero = absurd notes.2
ranges_are_files (n ∷ m ∷ ns) (r ∷ []) notes zero = absurd notes.2
ranges_are_files (n ∷ m ∷ ns) (r ∷ q ∷ rs) notes zero =
    ap (λ b. cond b (with_bytes r (assembled (m ∷ ns) (q ∷ rs))) (r ∷ assembled (m ∷ ns) (q ∷ rs))) (begins-anew n m zero.0)
    ∙ ap (λ l. r ∷ l) (ranges_are_files (m ∷ ns) (q ∷ rs) notes.2 zero.1)
