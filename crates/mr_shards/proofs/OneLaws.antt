-- Two verdicts of one text are one.
use Rattle.std.proofs.Common.{◌≡◌, ℕ, ◌<◌, ◌^◌, ◌++◌, List, [], ◌∷◌, map, refl, ap, sym, ◌∙◌, arith, Option, None, Some, Ok, Bool, true, false, cond}
use Rattle.std.specs.Prelude.{codes, decimal, not}
use Rattle.std.specs.Str.{bytes_eq}
use Rattle.std.proofs.lemmas.Fmt.{decimal_injective}
use Rattle.std.proofs.lemmas.List.{append-nil}
use Rattle.std.specs.List.{AllByRecursion}
use Rattle.hex.specs.Hex.{decode_of, encode_lower}
use Rattle.hex.proofs.HexLemmas.{decode_of-encode_lower}
use Rattle.mr_bytes.specs.Cut.{Lacks, cut}
use Rattle.mr_bytes.proofs.CutLemmas.{cut-parts}
use Rattle.mr_shards.specs.Lines.{lines}
use Rattle.mr_shards.specs.RangeNotes.{RangeNote}
use Rattle.mr_shards.specs.Spots.{Spot}
use Rattle.mr_shards.specs.Verdict.{Note, ending, note_told, place_told, range_told, spot_told}
use Rattle.mr_shards.specs.Reading.{NoteFits, RangeFits, SpotFits, told_under}
use Rattle.mr_shards.specs.Laws.{OneText}
use Rattle.mr_shards.proofs.SpellLemmas.{all_told, decimal-space, ending-space, hex-space, under-all}

abbrev parts_in : Option (List ℕ × List ℕ) → List ℕ × List ℕ
parts_in None = ([], [])
parts_in (Some p) = p

cut-same : (a b c d : List ℕ) → Lacks 32 a → Lacks 32 c → a ++ 32 ∷ b ≡ c ++ 32 ∷ d → (a ≡ c) × (b ≡ d)
cut-same a b c d left right e =
    let same : Some (a, b) ≡ Some (c, d) = sym (cut-parts 32 a b left) ∙ ap (cut 32) e ∙ cut-parts 32 c d right in
    (ap (λ o. (parts_in o).0) same, ap (λ o. (parts_in o).1) same)

note-same : (m n : Note) → NoteFits m → NoteFits n → note_told m ≡ note_told n → m ≡ n
note-same m n f g e =
    let outer = cut-same (encode_lower m.digest) (decimal m.length ++ 32 ∷ m.name) (encode_lower n.digest) (decimal n.length ++ 32 ∷ n.name)
    (hex-space m.digest f.bytes) (hex-space n.digest g.bytes) e in
    let inner = cut-same (decimal m.length) m.name (decimal n.length) n.name (decimal-space m.length f.few) (decimal-space n.length g.few) outer.1 in
    let count = decimal_injective m.length n.length f.few g.few inner.0 in
    let told : Ok m.digest ≡ Ok n.digest = sym (decode_of-encode_lower m.digest f.bytes) ∙ ap decode_of outer.0 ∙ decode_of-encode_lower n.digest g.bytes in
    let digest : m.digest ≡ n.digest = cc told in
    λ i. record { name = inner.1 i; length = count i; digest = digest i }

-- an ending's letters are those of one word alone
pub ending-told : (n : RangeNote) → RangeFits false n → (bytes_eq (ending n) (codes "open") ≡ not n.closed) × (bytes_eq (ending n) (codes "more") ≡ not n.ends)
ending-told n fits = by n.ends n.closed fits.closed
  where
    by : (e c : Bool) → (e ≡ false → c ≡ true)
        → (bytes_eq (cond e (cond c (codes "end") (codes "open")) (codes "more")) (codes "open") ≡ not c)
        × (bytes_eq (cond e (cond c (codes "end") (codes "open")) (codes "more")) (codes "more") ≡ not e)
    by false c h = (ap not (sym (h refl)), refl)
    by true true h = (refl, refl)
    by true false h = (refl, refl)

pub not-not : (b : Bool) → not (not b) ≡ b
not-not true = refl
not-not false = refl

not-same : (a b : Bool) → not a ≡ not b → a ≡ b
not-same true true e = refl
not-same true false e = absurd (cc e)
not-same false true e = absurd (cc e)
not-same false false e = refl

ending-same : (m n : RangeNote) → RangeFits false m → RangeFits false n → ending m ≡ ending n → (m.closed ≡ n.closed) × (m.ends ≡ n.ends)
ending-same m n f g e =
    let a = ending-told m f in
    let b = ending-told n g in (
      not-same m.closed n.closed (sym a.0 ∙ ap (λ w. bytes_eq w (codes "open")) e ∙ b.0),
      not-same m.ends n.ends (sym a.1 ∙ ap (λ w. bytes_eq w (codes "more")) e ∙ b.1),
    )

range-same : (m n : RangeNote) → RangeFits false m → RangeFits false n → range_told false m ≡ range_told false n → m ≡ n
range-same m n f g e =
    let outer = cut-same (encode_lower m.digest) (decimal m.length ++ 32 ∷ place_told false m) (encode_lower n.digest) (decimal n.length ++ 32 ∷ place_told false n)
    (hex-space m.digest f.bytes) (hex-space n.digest g.bytes) e in
    let inner = cut-same (decimal m.length) (place_told false m) (decimal n.length) (place_told false n) (decimal-space m.length f.few) (decimal-space n.length g.few) outer.1 in
    let begin = cut-same (decimal m.from) (ending m ++ 32 ∷ m.name) (decimal n.from) (ending n ++ 32 ∷ n.name) (decimal-space m.from f.near) (decimal-space n.from g.near) inner.1 in
    let last = cut-same (ending m) m.name (ending n) n.name (ending-space m) (ending-space n) begin.1 in
    let how = ending-same m n f g last.0 in
    let closed = how.0 in
    let ends = how.1 in
    let name = last.1 in
    let count = decimal_injective m.length n.length f.few g.few inner.0 in
    let from = decimal_injective m.from n.from f.near g.near begin.0 in
    let told : Ok m.digest ≡ Ok n.digest = sym (decode_of-encode_lower m.digest f.bytes) ∙ ap decode_of outer.0 ∙ decode_of-encode_lower n.digest g.bytes in
    let digest : m.digest ≡ n.digest = cc told in
    λ i. record { name = name i; from = from i; length = count i; digest = digest i; closed = closed i; ends = ends i }

spot-same : (s t : Spot) → SpotFits s → SpotFits t → spot_told s ≡ spot_told t → s ≡ t
spot-same s t f g e =
    let a : s.file < 2 ^ 64 = omega (arith, f.file) in
    let b : t.file < 2 ^ 64 = omega (arith, g.file) in
    let parts = cut-same (decimal s.file) (decimal s.start) (decimal t.file) (decimal t.start) (decimal-space s.file a) (decimal-space t.file b) e in
    let file = decimal_injective s.file t.file a b parts.0 in
    let start = decimal_injective s.start t.start f.start g.start parts.1 in
    λ i. record { file = file i; start = start i }

map-same : {X : Type 0} (fits : X → Type 0) (tells : X → List ℕ) → ((x y : X) → fits x → fits y → tells x ≡ tells y → x ≡ y)
    → (xs ys : List X) → AllByRecursion fits xs → AllByRecursion fits ys → map tells xs ≡ map tells ys → xs ≡ ys
map-same {X} fits tells one [] [] f g e = refl
map-same {X} fits tells one [] (y ∷ ys) f g e = absurd (cc e)
map-same {X} fits tells one (x ∷ xs) [] f g e = absurd (cc e)
map-same {X} fits tells one (x ∷ xs) (y ∷ ys) f g e =
    let front : tells x ≡ tells y = cc e in
    let back : map tells xs ≡ map tells ys = cc e in
    let here = one x y f.0 g.0 front in
    let rest = map-same fits tells one xs ys f.1 g.1 back in
    λ i. here i ∷ rest i

small-same : (m n : ℕ) → m < 2 ^ 32 → n < 2 ^ 32 → decimal m ∷ [] ≡ decimal n ∷ [] → m ≡ n
small-same m n f g e =
    let same : decimal m ≡ decimal n = cc e in decimal_injective m n (omega (arith, f)) (omega (arith, g)) same

pub one_text : OneText
one_text v w f g e =
    let same : (word : List ℕ) → all_told false word v ≡ all_told false word w =
    λ word. sym (under-all false word v f) ∙ ap (λ (t : List ℕ). told_under word (lines t)) e ∙ under-all false word w g in
    let job = small-same v.job w.job f.job g.job (same (codes "job")) in
    let flags = small-same v.flags w.flags f.flags g.flags (same (codes "flags")) in
    let literals : v.literal ∷ [] ≡ w.literal ∷ [] = same (codes "literal") in
    let literal : v.literal ≡ w.literal = cc literals in
    let parts = small-same v.parts w.parts f.parts g.parts (same (codes "partitions")) in
    let split = small-same v.split w.split f.split g.split (same (codes "split")) in
    let inputs = map-same (RangeFits false) (range_told false) range-same v.inputs w.inputs f.inputs g.inputs
    (sym (append-nil (map (range_told false) v.inputs)) ∙ same (codes "input") ∙ append-nil (map (range_told false) w.inputs)) in
    let outputs = map-same NoteFits note_told note-same v.outputs w.outputs f.outputs g.outputs
    (sym (append-nil (map note_told v.outputs)) ∙ same (codes "output") ∙ append-nil (map note_told w.outputs)) in
    let left_out = map-same SpotFits spot_told spot-same v.left_out w.left_out f.left_out g.left_out
    (sym (append-nil (map spot_told v.left_out)) ∙ same (codes "without") ∙ append-nil (map spot_told w.left_out)) in
    let counts : decimal v.pairs ∷ [] ≡ decimal w.pairs ∷ [] = same (codes "emitted") in
    let count : decimal v.pairs ≡ decimal w.pairs = cc counts in
    let pairs = decimal_injective v.pairs w.pairs f.pairs g.pairs count in
    λ i. record {
      job = job i;
      flags = flags i;
      literal = literal i;
      parts = parts i;
      split = split i;
      inputs = inputs i;
      outputs = outputs i;
      left_out = left_out i;
      pairs = pairs i;
    }
