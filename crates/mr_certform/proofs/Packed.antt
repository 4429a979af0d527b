-- Spans of numbers, and the names that these mean.
use Rattle.std.proofs.Common.{◌≡◌, ◌++◌, map, ℕ, zero, suc, ◌+◌, ◌-◌, ◌*◌, ◌/◌, ◌%◌, ◌^◌, ◌<◌, ◌≤◌, All, List, [], ◌∷◌, length, get_or, drop, take, cond, refl, ap, sym, ◌∙◌, leb, arith, max, min, append_assoc}
use Rattle.std.proofs.Math.Nat.{div-add-mod, mul_comm, zero-div, zero-mod}
use Rattle.std.proofs.lemmas.Bool.{le-leb, lt-leb}
use Rattle.std.proofs.lemmas.List.{append-nil, map-append}
use Rattle.std.proofs.lemmas.List.Elements.{All-nil, All-cons, All-head, All-tail, All-append}
use Rattle.std.proofs.lemmas.List.Sorted.{IsNonDecreasingBy-push, IsNonDecreasingBy-short}
use Rattle.std.proofs.lemmas.Nat.{div-mul-add, mod-mul-add}
use Rattle.std.specs.List.{range_with_len}
use Rattle.mr_bytes.specs.declared.Name.{Name}
use Rattle.mr_bytes.specs.declared.RecordName.{RecordName}
use Rattle.mr_certform.specs.Packed.{AreOpen, AreSpans, Covers, PackedIsNamed, base_behind, name_in, name_under, names_from, names_held, no_span, numbers_from, span_behind, span_under, unit_of}
use Rattle.mr_certform.specs.declared.record_names.NameSpan.{NameSpan}

-- ---- the span of a number

-- where so many spans begin at or before it, the last of them
pub at_begun : (d : NameSpan) (ss : List NameSpan) (n k : ℕ) → k ≤ length ss → ((i : ℕ) → i < k → (get_or ss i no_span).first ≤ n)
    → (k < length ss → n < (get_or ss k no_span).first) → span_behind d ss n ≡ get_or (d ∷ ss) k no_span
unfolding span_behind
at_begun d [] n zero within low high = refl
at_begun d [] n (suc k) within low high = absurd (omega arith)
at_begun d (s ∷ ss) n zero within low high = ap (λ b. cond b (span_behind s ss n) d) (lt-leb s.first n (high (omega arith)))
at_begun d (s ∷ ss) n (suc k) within low high =
    ap (λ b. cond b (span_behind s ss n) d) (le-leb s.first n (low 0 (omega arith)))
    ∙ at_begun s ss n k (omega arith) (λ i h. low (suc i) (omega (arith, h))) (λ h. high (omega (arith, h)))

-- all numbers from the first of a span to before the first of the next one are its own
pub span_covers : (ss : List NameSpan) (k : ℕ) (span : NameSpan) (end : ℕ) → AreSpans ss → k ≤ length ss → span ≡ get_or (no_span ∷ ss) k no_span
    → (k < length ss → end ≡ (get_or ss k no_span).first) → Covers ss span end
span_covers ss zero span end rise within is stop n low high =
    at_begun no_span ss n 0 within (λ i h. absurd (omega (arith, h))) (λ h. omega (arith, stop h, high)) ∙ sym is
span_covers ss (suc k) span end rise within is stop n low high =
    at_begun no_span ss n (suc k) within
    (λ i h. omega (arith, rise i k no_span (omega (arith, h)) (omega arith), low, ap (λ (s : NameSpan). s.first) is))
    (λ h. omega (arith, stop h, high)) ∙ sym is

before_pushed : (d : NameSpan) (ss : List NameSpan) (y : NameSpan) (n : ℕ) → n < y.first → span_behind d (ss ++ y ∷ []) n ≡ span_behind d ss n
unfolding span_behind
before_pushed d [] y n h = ap (λ b. cond b y d) (lt-leb y.first n h)
before_pushed d (s ∷ ss) y n h = ap (λ (t : NameSpan). cond (leb s.first n) t d) (before_pushed s ss y n h)

last_pushed : (d : NameSpan) (ss : List NameSpan) (y : NameSpan) (n : ℕ) → All (λ (s : NameSpan). s.first ≤ n) ss → y.first ≤ n
    → span_behind d (ss ++ y ∷ []) n ≡ y
unfolding span_behind
last_pushed d [] y n all h = ap (λ b. cond b y d) (le-leb y.first n h)
last_pushed d (s ∷ ss) y n all h =
    ap (λ b. cond b (span_behind s (ss ++ y ∷ []) n) d) (le-leb s.first n (All-head (λ (t : NameSpan). t.first ≤ n) s ss all))
    ∙ last_pushed s ss y n (All-tail (λ (t : NameSpan). t.first ≤ n) s ss all) h

-- one more span at the base
pub open_pushed : (ss : List NameSpan) (last y : NameSpan) → AreOpen ss last y.first → AreOpen (ss ++ y ∷ []) y y.first
open_pushed ss last y are = record {
  follow = IsNonDecreasingBy-push (λ (s : NameSpan). s.first) ss y are.follow (λ d h. are.begun (length ss - 1) d (omega (arith, h)));
  begun = All-append (λ (s : NameSpan). s.first ≤ y.first) ss (y ∷ []) are.begun
      (All-cons (λ (s : NameSpan). s.first ≤ y.first) y [] (omega arith) (All-nil (λ (s : NameSpan). s.first ≤ y.first)));
  last_begun = omega arith;
  last_is = λ n h. last_pushed no_span ss y n (λ k d l. omega (arith, are.begun k d l, h)) h;
}

pub none_open : AreOpen [] no_span 0
unfolding span_behind
none_open = record {
  follow = IsNonDecreasingBy-short (λ (s : NameSpan). s.first) [] (omega arith);
  begun = All-nil (λ (s : NameSpan). s.first ≤ 0);
  last_begun = omega arith;
  last_is = λ n h. refl;
}

pub pushed_before : (ss : List NameSpan) (y : NameSpan) (n : ℕ) → n < y.first → span_under (ss ++ y ∷ []) n ≡ span_under ss n
pushed_before ss y n h = before_pushed no_span ss y n h

pub open_later : (ss : List NameSpan) (last : NameSpan) (base later : ℕ) → base ≤ later → AreOpen ss last base → AreOpen ss last later
open_later ss last base later h are = record {
  follow = are.follow;
  begun = λ k d l. omega (arith, are.begun k d l, h);
  last_begun = omega (arith, are.last_begun, h);
  last_is = λ n l. are.last_is n (omega (arith, l, h));
}

-- ---- the names of a record's pairs

-- so far behind the number of a record's first pair
name_behind : (s : NameSpan) (split rec base j : ℕ) → s.first ≤ base → name_in s base ≡ record { split = split; rec = rec; place = 0 } → j < unit_of s.bits
    → name_in s (base + j) ≡ record { split = split; rec = rec; place = j }
name_behind s split rec base j begun is small =
    let unit : ℕ = unit_of s.bits in
    let q : ℕ = (base - s.first) / unit in
    let none : (base - s.first) % unit ≡ 0 = ap (λ (n : Name). n.place) is in
    let whole : base + j - s.first ≡ q * unit + j = omega (arith, begun, div-add-mod (base - s.first) unit, none, mul_comm unit q) in
    let div : (base + j - s.first) / unit ≡ q = ap (λ k. k / unit) whole ∙ div-mul-add q unit j small in
    let low : (base + j - s.first) % unit ≡ j = ap (λ k. k % unit) whole ∙ mod-mul-add q unit j small in
    let number : min (s.rec + (base + j - s.first) / unit) (2 ^ 32 - 1) ≡ rec = ap (λ k. min (s.rec + k) (2 ^ 32 - 1)) div ∙ ap (λ (n : Name). n.rec) is in
    let first : s.split ≡ split = ap (λ (n : Name). n.split) is in
    λ i. record { split = first i; rec = number i; place = low i }

-- a span's first number means its first record's first pair
pub name_first : (s : NameSpan) → s.rec < 2 ^ 32 → name_in s s.first ≡ record { split = s.split; rec = s.rec; place = 0 }
name_first s few =
    let unit : ℕ = unit_of s.bits in
    let none : s.first - s.first ≡ 0 = omega arith in
    let number : min (s.rec + (s.first - s.first) / unit) (2 ^ 32 - 1) ≡ s.rec =
    ap (λ k. min (s.rec + k) (2 ^ 32 - 1)) (ap (λ k. k / unit) none ∙ zero-div unit) ∙ (let e : min (s.rec + 0) (2 ^ 32 - 1) ≡ s.rec = omega (arith, few) in e) in
    let place : (s.first - s.first) % unit ≡ 0 = ap (λ k. k % unit) none ∙ zero-mod unit in
    λ i. record { split = s.split; rec = number i; place = place i }

named_from : (ss : List NameSpan) (s : NameSpan) (name : RecordName) (base j count : ℕ) → AreOpen ss s base
    → name_in s base ≡ record { split = name.split; rec = name.rec; place = 0 } → j + count ≤ unit_of s.bits
    → map (name_under ss) (range_with_len (base + j) count) ≡ names_from name j count
unfolding names_from name_under
named_from ss s name base j zero are is room = refl
named_from ss s name base j (suc count) are is room =
    let next : base + j + 1 ≡ base + (j + 1) = omega arith in
    let here : name_under ss (base + j) ≡ record { split = name.split; rec = name.rec; place = j } =
    ap (λ (t : NameSpan). name_in t (base + j)) (are.last_is (base + j) (omega arith))
    ∙ name_behind s name.split name.rec base j are.last_begun is (omega (arith, room)) in
    ap (λ (n : Name). n ∷ map (name_under ss) (range_with_len (base + j + 1) count)) here
    ∙ ap (λ (l : List Name). record { split = name.split; rec = name.rec; place = j } ∷ l)
    (ap (λ n. map (name_under ss) (range_with_len n count)) next ∙ named_from ss s name base (j + 1) count are is (omega (arith, room)))

-- ---- the numbers of records' pairs

pub behind_rises : (unit base : ℕ) (cs : List ℕ) → base ≤ base_behind unit base cs
unfolding base_behind
behind_rises unit base [] = omega arith
behind_rises unit base (c ∷ cs) = omega (arith, behind_rises unit (base + max unit c) cs)

pub behind_more : (unit base c : ℕ) (cs : List ℕ) → base_behind unit base (cs ++ c ∷ []) ≡ base_behind unit base cs + max unit c
unfolding base_behind
behind_more unit base c [] = refl
behind_more unit base c (d ∷ cs) = behind_more unit (base + max unit d) c cs

numbers_more : (unit base c : ℕ) (cs : List ℕ) → numbers_from unit base (cs ++ c ∷ []) ≡ numbers_from unit base cs ++ range_with_len (base_behind unit base cs) c
unfolding numbers_from base_behind
numbers_more unit base c [] = append-nil (range_with_len base c)
numbers_more unit base c (d ∷ cs) =
    ap (λ l. range_with_len base d ++ l) (numbers_more unit (base + max unit d) c cs)
    ∙ sym (append_assoc (range_with_len base d) (numbers_from unit (base + max unit d) cs) (range_with_len (base_behind unit (base + max unit d) cs) c))

module _ (f g : ℕ → Name) (end : ℕ) (same : (n : ℕ) → n < end → f n ≡ g n) where
  same_range : (base c : ℕ) → base + c ≤ end → map f (range_with_len base c) ≡ map g (range_with_len base c)
  same_range base zero h = refl
  same_range base (suc c) h =
      ap (λ (n : Name). n ∷ map f (range_with_len (base + 1) c)) (same base (omega (arith, h)))
      ∙ ap (λ (l : List Name). g base ∷ l) (same_range (base + 1) c (omega (arith, h)))

  same_below : (unit base : ℕ) (cs : List ℕ) → base_behind unit base cs ≤ end → map f (numbers_from unit base cs) ≡ map g (numbers_from unit base cs)
  unfolding numbers_from base_behind
  same_below unit base [] h = refl
  same_below unit base (c ∷ cs) h =
      let rest : List ℕ = numbers_from unit (base + max unit c) cs in
      map-append f (range_with_len base c) rest
      ∙ ap (λ (l : List Name). l ++ map f rest) (same_range base c (omega (arith, h, behind_rises unit (base + max unit c) cs)))
      ∙ ap (λ (l : List Name). map g (range_with_len base c) ++ l) (same_below unit (base + max unit c) cs h)
      ∙ sym (map-append g (range_with_len base c) rest)

-- the names of one more record
pub names_pushed : (unit base count : ℕ) (old new : List NameSpan) (last : NameSpan) (name : RecordName) (cs : List ℕ) → base ≡ base_behind unit 0 cs
    → ((n : ℕ) → n < base → span_under new n ≡ span_under old n) → AreOpen new last base
    → name_in last base ≡ record { split = name.split; rec = name.rec; place = 0 } → count ≤ unit_of last.bits
    → map (name_under new) (numbers_from unit 0 (cs ++ count ∷ [])) ≡ map (name_under old) (numbers_from unit 0 cs) ++ names_from name 0 count
unfolding name_under
names_pushed unit base count old new last name cs is before are first room =
    let here : List ℕ = numbers_from unit 0 cs in
    let begin : base_behind unit 0 cs ≡ base + 0 = omega (arith, is) in
    ap (map (name_under new)) (numbers_more unit 0 count cs)
    ∙ map-append (name_under new) here (range_with_len (base_behind unit 0 cs) count)
    ∙ ap (λ n. map (name_under new) here ++ map (name_under new) (range_with_len n count)) begin
    ∙ ap (λ (l : List Name). map (name_under new) here ++ l) (named_from new last name base 0 count are first (omega (arith, room)))
    ∙ ap (λ (l : List Name). l ++ names_from name 0 count)
    (same_below (name_under new) (name_under old) base (λ n h. ap (λ (s : NameSpan). name_in s n) (before n h)) unit 0 cs (omega (arith, is)))

-- ---- one number after another

abbrev pub numbers_left : ℕ → ℕ → ℕ → ℕ → List ℕ → List ℕ
numbers_left unit base next end counts = range_with_len next (end - next) ++ numbers_from unit base counts

pub number_next : (unit base next end : ℕ) (counts : List ℕ) → next < end → numbers_left unit base next end counts ≡ next ∷ numbers_left unit base (next + 1) end counts
number_next unit base next end counts h =
    let more : end - next ≡ suc (end - (next + 1)) = omega arith in
    ap (λ n. range_with_len next n ++ numbers_from unit base counts) more

pub number_none : (unit base next end : ℕ) (counts : List ℕ) → end ≤ next → counts ≡ [] → numbers_left unit base next end counts ≡ []
unfolding numbers_from
number_none unit base next end counts h none =
    let no_more : end - next ≡ 0 = omega arith in
    ap (λ n. range_with_len next n ++ numbers_from unit base counts) no_more ∙ ap (numbers_from unit base) none

pub number_record : (unit base next end count : ℕ) (counts rest : List ℕ) → end ≤ next → counts ≡ count ∷ rest
    → numbers_left unit base next end counts ≡ numbers_left unit (base + max unit count) base (base + count) rest
unfolding numbers_from
number_record unit base next end count counts rest h is =
    let no_more : end - next ≡ 0 = omega arith in
    ap (λ n. range_with_len next n ++ numbers_from unit base counts) no_more ∙ ap (numbers_from unit base) is
    ∙ ap (λ n. range_with_len base n ++ numbers_from unit (base + max unit count) rest) (let e : count ≡ base + count - base = omega arith in e)

-- there are numbers enough for the next record
pub record_room : (unit base count : ℕ) (counts rest : List ℕ) → base_behind unit base counts < 2 ^ 32 → counts ≡ count ∷ rest
    → (base_behind unit (base + max unit count) rest < 2 ^ 32) × (base + max unit count < 2 ^ 32)
unfolding base_behind
record_room unit base count counts rest few is =
    let same : base_behind unit base counts ≡ base_behind unit (base + max unit count) rest = ap (base_behind unit base) is in
    (omega (arith, same, few), omega (arith, same, few, behind_rises unit (base + max unit count) rest))

-- ---- names that are packed, and names as they are

pub packed_is_named : PackedIsNamed
unfolding name_under
packed_is_named ss i j place n rise within few small fits is before =
    let span : NameSpan = get_or ss i no_span in
    let unit : ℕ = 2 ^ span.bits in
    let next : i + 1 ≡ suc i = omega arith in
    let whole : n - span.first ≡ j * unit + place = omega (arith, is) in
    let first : span.first ≤ n = omega (arith, is) in
    let number : min (span.rec + (j * unit + place) / unit) (2 ^ 32 - 1) ≡ span.rec + j =
    ap (λ k. min (span.rec + k) (2 ^ 32 - 1)) (div-mul-add j unit place small) ∙ (let e : min (span.rec + j) (2 ^ 32 - 1) ≡ span.rec + j = omega (arith, fits) in e) in
    let low : (j * unit + place) % unit ≡ place = mod-mul-add j unit place small in
    ap (λ (s : NameSpan). name_in s n)
    (at_begun no_span ss n (suc i) (omega (arith, within))
    (λ k h. omega (arith, rise k i no_span (omega (arith, h)) within, first))
    (λ h. omega (arith, before (omega (arith, h)), ap (λ k. (get_or ss k no_span).first) next)))
    ∙ ap (λ b. record { split = span.split; rec = min (span.rec + (n - span.first) / 2 ^ b) (2 ^ 32 - 1); place = (n - span.first) % 2 ^ b })
    (let e : min span.bits 32 ≡ span.bits = omega (arith, few) in e)
    ∙ ap (λ k. record { split = span.split; rec = min (span.rec + k / unit) (2 ^ 32 - 1); place = k % unit }) whole
    ∙ (λ i. record { split = span.split; rec = number i; place = low i })

pub packed_held : (ss : List NameSpan) (packed : List ℕ) (plain : List Name) (i : ℕ) (d : Name) → i < length packed
    → get_or (names_held ss packed plain) i d ≡ name_under ss (get_or packed i 0)
packed_held ss [] plain i d within = absurd (omega arith)
packed_held ss (p ∷ ps) plain zero d within = refl
packed_held ss (p ∷ ps) plain (suc i) d within = packed_held ss ps plain i d (omega arith)

pub plain_held : (ss : List NameSpan) (packed : List ℕ) (plain : List Name) (i j : ℕ) (d : Name) → i ≡ length packed + j
    → get_or (names_held ss packed plain) i d ≡ get_or plain j d
plain_held ss [] plain i j d is = ap (λ k. get_or plain k d) (let e : i ≡ j = omega (arith, is) in e)
plain_held ss (p ∷ ps) plain zero j d is = absurd (omega (arith, is))
plain_held ss (p ∷ ps) plain (suc i) j d is = plain_held ss ps plain i j d (omega (arith, is))

pub drop_held : (ss : List NameSpan) (n : ℕ) (packed : List ℕ) (plain : List Name)
    → drop n (names_held ss packed plain) ≡ names_held ss (drop n packed) (drop (n - length packed) plain)
drop_held ss zero packed plain = ap (λ k. names_held ss packed (drop k plain)) (let e : 0 ≡ 0 - length packed = omega arith in e)
drop_held ss (suc n) [] plain = ap (λ k. drop k plain) (let e : suc n ≡ suc n - 0 = omega arith in e)
drop_held ss (suc n) (p ∷ ps) plain =
    drop_held ss n ps plain ∙ ap (λ k. names_held ss (drop n ps) (drop k plain)) (let e : n - length ps ≡ suc n - suc (length ps) = omega arith in e)

pub take_held : (ss : List NameSpan) (n : ℕ) (packed : List ℕ) (plain : List Name)
    → take n (names_held ss packed plain) ≡ names_held ss (take n packed) (take (n - length packed) plain)
take_held ss zero packed plain = ap (λ k. names_held ss [] (take k plain)) (let e : 0 ≡ 0 - length packed = omega arith in e)
take_held ss (suc n) [] plain = ap (λ k. take k plain) (let e : suc n ≡ suc n - 0 = omega arith in e)
take_held ss (suc n) (p ∷ ps) plain =
    ap (λ (l : List Name). name_under ss p ∷ l)
    (take_held ss n ps plain ∙ ap (λ k. names_held ss (take n ps) (take k plain)) (let e : n - length ps ≡ suc n - suc (length ps) = omega arith in e))
