-- What is taken of files, one file more.
use Rattle.std.proofs.Common.{◌≡◌, ℕ, zero, suc, ◌+◌, ◌-◌, ◌<◌, Bool, true, false, not, Option, None, List, [], ◌∷◌, ◌++◌, length, get_or, map, take, refl, sym, ap, ◌∙◌, subst, arith}
use Rattle.std.specs.Prelude.{◌==◌, Vec, if◌then◌else◌}
use Rattle.std.specs.Global.{Global}
use Rattle.std.proofs.Math.Seq.{take-suc}
use Rattle.std.proofs.lemmas.Bool.{cond-false, cond-true, eq-eqb, ne_eqb}
use Rattle.std.proofs.lemmas.List.{get_or-map, length-map, length-take-le, take_all}
use Rattle.mr_input.specs.Files.{contents, total_size}
use Rattle.mr_files.specs.Holding.{Faulty, Holding, Stored}
use Rattle.mr_files.specs.Ranges.{IsRangeOf}
use Rattle.mr_files.specs.Stretches.{AreTaken, AreTakenFrom, IsRefusedAt, IsTakenAt, IsUntaken, Stretch, begin_in, end_in}
use Rattle.mr_files.specs.declared.ranges.RangeFault.{RangeFault}
use Rattle.mr_files.proofs.Lists.{contents_more}

-- up to before which byte the last of the first so many files is taken
abbrev pub end_before : Stretch → ℕ → Option ℕ
end_before s i = if i == length s.names then s.to else None

-- the first file is taken from the stretch's first byte on, the others from their own
pub begin_later : (s : Stretch) (k : ℕ) → (k ≡ 0 → ⊥) → begin_in s k ≡ 0
begin_later s zero some = absurd (some refl)
begin_later s (suc k) some = refl

-- files that are taken to their ends end
ends_there : (holds : Stored) (ns : List (List ℕ)) (from : ℕ) (bs : List (List ℕ)) (ends : Bool) → AreTakenFrom holds ns from None bs ends → ends ≡ true
ends_there holds [] from [] ends t = t
ends_there holds [] from (b ∷ bs) ends t = absurd t
ends_there holds (n ∷ []) from [] ends t = absurd t
ends_there holds (n ∷ []) from (b ∷ []) ends t = t.2.ends_where.1 refl
ends_there holds (n ∷ []) from (b ∷ c ∷ bs) ends t = absurd t
ends_there holds (n ∷ m ∷ ns) from [] ends t = absurd t
ends_there holds (n ∷ m ∷ ns) from (b ∷ bs) ends t = ends_there holds (m ∷ ns) 0 bs ends t.1

-- one file more, behind files that are taken to their ends
taken_more : (holds : Stored) (s : Stretch) (ns : List (List ℕ)) (n : List ℕ) (to : Option ℕ) (bs : List (List ℕ)) (b : List ℕ) (ends : Bool)
    → AreTakenFrom holds ns s.from None bs true → (file : List ℕ) × holds n file × IsRangeOf file (begin_in s (length ns)) to b ends
    → AreTakenFrom holds (ns ++ n ∷ []) s.from to (bs ++ b ∷ []) ends
taken_more holds s [] n to [] b ends t r = r
taken_more holds s [] n to (c ∷ bs) b ends t r = absurd t
taken_more holds s (m ∷ []) n to [] b ends t r = absurd t
taken_more holds s (m ∷ []) n to (c ∷ []) b ends t r = (t, r)
taken_more holds s (m ∷ []) n to (c ∷ d ∷ bs) b ends t r = absurd t
taken_more holds s (m ∷ k ∷ ns) n to [] b ends t r = absurd t
taken_more holds s (m ∷ k ∷ ns) n to (c ∷ bs) b ends t r = (t.0, taken_more holds (record { names = s.names; from = 0; to = s.to }) (k ∷ ns) n to bs b ends t.1 r)

-- before the last file all are taken to their ends
taken_whole : (holds : Stored) (s : Stretch) (i : ℕ) (bs : List (List ℕ)) (ends : Bool) → i < length s.names
    → AreTakenFrom holds (take i s.names) s.from (end_before s i) bs ends → AreTakenFrom holds (take i s.names) s.from None bs true
taken_whole holds s i bs ends less t =
    let none : end_before s i ≡ None = cond-false (i == length s.names) s.to None (ne_eqb i (length s.names) (λ e. omega (arith, less, e))) in
    let whole = subst (λ (to : Option ℕ). AreTakenFrom holds (take i s.names) s.from to bs ends) none t in
    subst (AreTakenFrom holds (take i s.names) s.from None bs) (ends_there holds (take i s.names) s.from bs ends whole) whole

pub next_taken : (holds : Stored) (s : Stretch) (i : ℕ) (files after : List (Vec ℕ Global)) (v : Vec ℕ Global) (was ends : Bool)
    → i < length s.names → after ≡ files ++ v ∷ [] → AreTakenFrom holds (take i s.names) s.from (end_before s i) (contents files) was
    → IsTakenAt holds s i v.items ends → AreTakenFrom holds (take (i + 1) s.names) s.from (end_before s (i + 1)) (contents after) ends
next_taken holds s i files after v was ends less is t (file, held, range) =
    let next : take (i + 1) s.names ≡ take i s.names ++ get_or s.names i [] ∷ [] = ap (λ k. take k s.names) (let e : i + 1 ≡ suc i = omega arith in e) ∙ take-suc s.names i [] less in
    let more : contents after ≡ contents files ++ v.items ∷ [] = ap contents is ∙ contents_more files v in
    subst (λ (ns : List (List ℕ)). AreTakenFrom holds ns s.from (end_in s i) (contents after) ends) (sym next)
    (subst (λ (bs : List (List ℕ)). AreTakenFrom holds (take i s.names ++ get_or s.names i [] ∷ []) s.from (end_in s i) bs ends) (sym more)
    (taken_more holds s (take i s.names) (get_or s.names i []) (end_in s i) (contents files) v.items ends (taken_whole holds s i (contents files) was less t)
    (file, held, subst (λ (k : ℕ). IsRangeOf file (begin_in s k) (end_in s i) v.items ends) (sym (length-take-le i s.names (omega (arith, less)))) range)))

pub none_taken : (holds : Stored) (s : Stretch) → AreTakenFrom holds (take 0 s.names) s.from (end_before s 0) [] true
none_taken holds s = refl

pub all_taken : (holds : Stored) (s : Stretch) (i : ℕ) (bs : List (List ℕ)) (ends : Bool) → i ≡ length s.names
    → AreTakenFrom holds (take i s.names) s.from (end_before s i) bs ends → AreTaken holds s bs ends
all_taken holds s i bs ends all t =
    let last : end_before s i ≡ s.to = cond-true (i == length s.names) s.to None (eq-eqb i (length s.names) all) in
    subst (λ (ns : List (List ℕ)). AreTakenFrom holds ns s.from s.to bs ends) (take_all i s.names (omega (arith, all)))
    (subst (λ (to : Option ℕ). AreTakenFrom holds (take i s.names) s.from to bs ends) last t)

pub untaken : (holds : Stored) (unreadable : Faulty) (s : Stretch) (limit left i : ℕ) (bs : List (List ℕ)) (was : Bool) (fault : RangeFault)
    → i < length s.names → AreTakenFrom holds (take i s.names) s.from (end_before s i) bs was → total_size bs + left ≡ limit
    → IsRefusedAt holds unreadable s i left fault → IsUntaken holds unreadable s limit i fault
untaken holds unreadable s limit left i bs was fault less t room refused =
    let rest : left ≡ limit - total_size bs = omega (arith, room) in
    record {
      inside = less;
      before = bs;
      taken = taken_whole holds s i bs was less t;
      within = omega (arith, room);
      refused = subst (λ (l : ℕ). IsRefusedAt holds unreadable s i l fault) rest refused;
    }

-- ---- names as they stand in the code

pub name_at : {A : Type 0} (f : A → List ℕ) (xs : List A) (ns : List (List ℕ)) (i : ℕ) (d : A) → map f xs ≡ ns → i < length xs → f (get_or xs i d) ≡ get_or ns i []
name_at f xs ns i d is less = sym (get_or-map f xs i d [] less) ∙ ap (λ (v : List (List ℕ)). get_or v i []) is

pub number_below : {A : Type 0} (f : A → List ℕ) (xs : List A) (ns : List (List ℕ)) (i : ℕ) → map f xs ≡ ns → i < length xs → i < length ns
number_below f xs ns i is less = omega (arith, less, length-map xs f, ap length is)

-- ---- what was pushed

pub is_pushed : {A : Type 0} (was new : List A) (x : A) (ok err : Bool) → new ≡ (if ok then was ++ x ∷ [] else was) → ok ≡ not err → err ≡ false → new ≡ was ++ x ∷ []
is_pushed was new x ok err is negation none = is ∙ cond-true ok (was ++ x ∷ []) was (negation ∙ ap not none)

-- ---- whole files

whole_file : (file b : List ℕ) (ends : Bool) → IsRangeOf file 0 None b ends → file ≡ b
whole_file file b ends r = sym (r.bytes_are ∙ take_all (length file - 0) file (omega arith))

held_from : (holds : Stored) (ns bs : List (List ℕ)) (ends : Bool) → AreTakenFrom holds ns 0 None bs ends → Holding holds ns bs
held_from holds [] [] ends t = tt
held_from holds [] (b ∷ bs) ends t = absurd t
held_from holds (n ∷ []) [] ends t = absurd t
held_from holds (n ∷ []) (b ∷ []) ends (file, held, range) = (subst (holds n) (whole_file file b ends range) held, tt)
held_from holds (n ∷ []) (b ∷ c ∷ bs) ends t = absurd t
held_from holds (n ∷ m ∷ ns) [] ends t = absurd t
held_from holds (n ∷ m ∷ ns) (b ∷ bs) ends ((file, held, range), t) = (subst (holds n) (whole_file file b true range) held, held_from holds (m ∷ ns) bs ends t)

-- a stretch of whole files is what stands under their names
pub whole_held : (holds : Stored) (names taken : List (List ℕ)) (ends : Bool) → AreTaken holds (record { names = names; from = 0; to = None }) taken ends → Holding holds names taken
whole_held holds names taken ends t = held_from holds names taken ends t
