-- The key that a line tells.
use Rattle.std.proofs.Common.{◌||◌, drop-cons, ◌≡◌, ◌≢◌, ℕ, zero, suc, ◌+◌, ◌-◌, ◌<◌, ◌≤◌, ◌^◌, ◌%◌, Bool, true, false, not, cond, eqb, Option, None, Some, List, [], ◌∷◌, ◌++◌, length, map, take, drop, get_or, refl, ap, sym, ◌∙◌, arith, w8, eq-eqb}
use Rattle.std.specs.Prelude.{nat_eq}
use Rattle.std.specs.Option.{option_map, option_and_then, is_some}
use Rattle.std.specs.Cmp.Lexicographic.{pointwise}
use Rattle.memchr.specs.Find.{IsFirstByte, Nowhere, Passes, is_byte, is_byte2}
use Rattle.mr_judge.proofs.OutputLemmas.{starts_is}
use Rattle.std.proofs.lemmas.Bool.{ne_eqb, eqb-true, eqb-false}
use Rattle.std.proofs.lemmas.List.{get_or-take, length-take-le, length-drop}
use Rattle.std.proofs.lemmas.Grind.{same_number_lists}
use Rattle.std.proofs.lemmas.Simd.{tops_compared, get_or-zip2}
use lib.Lanes.{zip2, mask_l, top}
use lib.Count.{count_trailing_zeros}
use Rattle.mr_lanes.specs.Bits.{is_set}
use Rattle.mr_lanes.proofs.BitLemmas.{is_set-mod, is_set-mask_l}
use Rattle.mr_lanes.proofs.RestLemmas.{First, Rest, all_rest, first, rest, cleared}
use Rattle.mr_check.specs.Lines.{line_of, tab_behind, before_last_tab, told_key, TellsNear}

-- ---- the line in front

line_nil : line_of [] ≡ None
unfolding line_of
line_nil = refl

line_cons : (b : ℕ) (bs : List ℕ) → line_of (b ∷ bs) ≡ cond (eqb b 10) (Some []) (option_map (λ line. b ∷ line) (line_of bs))
unfolding line_of
line_cons b bs = refl

line_here : (b : ℕ) (bs : List ℕ) → b ≡ 10 → line_of (b ∷ bs) ≡ Some []
line_here b bs e = line_cons b bs ∙ ap (λ t. cond t (Some []) (option_map (λ line. b ∷ line) (line_of bs))) (eq-eqb b 10 e)

line_there : (b : ℕ) (bs : List ℕ) → b ≢ 10 → line_of (b ∷ bs) ≡ option_map (λ line. b ∷ line) (line_of bs)
line_there b bs e = line_cons b bs ∙ ap (λ t. cond t (Some []) (option_map (λ line. b ∷ line) (line_of bs))) (ne_eqb b 10 e)

pub line_none : (bs : List ℕ) → ((k : ℕ) → k < length bs → get_or bs k 0 ≢ 10) → line_of bs ≡ None
line_none [] h = line_nil
line_none (b ∷ bs) h = line_there b bs (h 0 (omega arith)) ∙ ap (option_map (λ line. b ∷ line)) (line_none bs (λ k less. h (suc k) (omega (arith, less))))

pub line_at : (e : ℕ) (bs : List ℕ) → e < length bs → get_or bs e 0 ≡ 10 → ((k : ℕ) → k < e → get_or bs k 0 ≢ 10) → line_of bs ≡ Some (take e bs)
line_at e [] h is none = absurd (omega (arith, h))
line_at zero (b ∷ bs) h is none = line_here b bs is
line_at (suc e) (b ∷ bs) h is none =
    line_there b bs (none 0 (omega arith)) ∙ ap (option_map (λ line. b ∷ line)) (line_at e bs (omega (arith, h)) is (λ k less. none (suc k) (omega (arith, less))))

-- ---- before the last TAB

tab_nil : before_last_tab [] ≡ None
unfolding before_last_tab
tab_nil = refl

tab_cons : (b : ℕ) (bs : List ℕ) → before_last_tab (b ∷ bs) ≡ tab_behind b (before_last_tab bs)
unfolding before_last_tab
tab_cons b bs = refl

pub tab_none : (bs : List ℕ) → ((k : ℕ) → k < length bs → get_or bs k 0 ≢ 9) → before_last_tab bs ≡ None
tab_none [] h = tab_nil
tab_none (b ∷ bs) h =
    tab_cons b bs ∙ (ap (tab_behind b) (tab_none bs (λ k less. h (suc k) (omega (arith, less)))) ∙ ap (λ t. cond t (Some []) None) (ne_eqb b 9 (h 0 (omega arith))))

pub tab_at : (t : ℕ) (bs : List ℕ) → t < length bs → get_or bs t 0 ≡ 9 → ((k : ℕ) → t < k → k < length bs → get_or bs k 0 ≢ 9) → before_last_tab bs ≡ Some (take t bs)
tab_at t [] h is none = absurd (omega (arith, h))
tab_at zero (b ∷ bs) h is none =
    tab_cons b bs ∙ (ap (tab_behind b) (tab_none bs (λ k less. none (suc k) (omega arith) (omega (arith, less)))) ∙ ap (λ t. cond t (Some []) None) (eq-eqb b 9 is))
tab_at (suc t) (b ∷ bs) h is none =
    tab_cons b bs ∙ ap (tab_behind b) (tab_at t bs (omega (arith, h)) is (λ k above less. none (suc k) (omega (arith, above)) (omega (arith, less))))

-- ---- both

pub told_none : (bs : List ℕ) → ((k : ℕ) → k < length bs → get_or bs k 0 ≢ 10) → told_key bs ≡ None
told_none bs h = ap (option_and_then before_last_tab) (line_none bs h)

pub told_in : (e : ℕ) (bs : List ℕ) → e < length bs → get_or bs e 0 ≡ 10 → ((k : ℕ) → k < e → get_or bs k 0 ≢ 10) → told_key bs ≡ before_last_tab (take e bs)
told_in e bs h is none = ap (option_and_then before_last_tab) (line_at e bs h is none)

-- the line ends at `e`, and its last TAB is at `t`
pub told_at : (t e : ℕ) (bs : List ℕ) → t < e → e < length bs → get_or bs e 0 ≡ 10 → ((k : ℕ) → k < e → get_or bs k 0 ≢ 10)
    → get_or bs t 0 ≡ 9 → ((k : ℕ) → t < k → k < e → get_or bs k 0 ≢ 9) → told_key bs ≡ Some (take t (take e bs))
told_at t e bs order h feed no_feed tab no_tab =
    let long : length (take e bs) ≡ e = length-take-le e bs (omega (arith, h)) in
    told_in e bs h feed no_feed
    ∙ tab_at t (take e bs) (omega (arith, long, order)) (get_or-take e bs t 0 order ∙ tab)
    (λ k above less. λ is. no_tab k above (omega (arith, less, long)) (sym (get_or-take e bs k 0 (omega (arith, less, long))) ∙ is))

-- ---- what stands behind the line doesn't matter

line_more : (xs ys line : List ℕ) → line_of xs ≡ Some line → line_of (xs ++ ys) ≡ Some line
line_more [] ys line h = absurd (cc (line_nil, h))
line_more (b ∷ bs) ys line h = line_cons b (bs ++ ys) ∙ go (eqb b 10) (line_of bs) (line_of (bs ++ ys)) (line_more bs ys) (sym (line_cons b bs) ∙ h)
  where
    go : (t : Bool) (o more : Option (List ℕ)) → ((l : List ℕ) → o ≡ Some l → more ≡ Some l) → cond t (Some []) (option_map (λ l. b ∷ l) o) ≡ Some line
        → cond t (Some []) (option_map (λ l. b ∷ l) more) ≡ Some line
    go true o more f e = e
    go false None more f e = absurd (cc e)
    go false (Some l) more f e = ap (option_map (λ l. b ∷ l)) (f l refl) ∙ e

pub told_more : (xs ys key : List ℕ) → told_key xs ≡ Some key → told_key (xs ++ ys) ≡ Some key
told_more xs ys key h = go (line_of xs) (line_of (xs ++ ys)) (line_more xs ys) h
  where
    go : (o more : Option (List ℕ)) → ((l : List ℕ) → o ≡ Some l → more ≡ Some l) → option_and_then before_last_tab o ≡ Some key → option_and_then before_last_tab more ≡ Some key
    go None more f e = absurd (cc e)
    go (Some l) more f e = ap (option_and_then before_last_tab) (f l refl) ∙ e

-- ---- by lanes

-- the mask of two vectors' differing lanes
pub apart_32 : (a b : List ℕ) (i : ℕ) → length a ≡ 32 → length b ≡ 32 → i < 32
    → is_set (mask_l (map (top 7) (zip2 (λ x y. cond (not (eqb x y)) 255 0) a b)) % 2 ^ 64) i ≡ not (eqb (get_or a i 0) (get_or b i 0))
apart_32 a b i p q h =
    is_set-mod _ i (omega (arith, h)) ∙ is_set-mask_l (map (top 7) (zip2 (λ x y. cond (not (eqb x y)) 255 0) a b)) i
    ∙ ap (λ l. get_or l i false) (tops_compared w8 (λ x y. not (eqb x y)) a b)
    ∙ get_or-zip2 (λ x y. not (eqb x y)) a b i 0 0 false (omega (arith, p, h)) (omega (arith, q, h))

not_not : (t : Bool) → not t ≡ false → t ≡ true
not_not true e = refl
not_not false e = absurd (cc e)

-- what the lowest set bits of the masks tell
pub near : (line key : List ℕ) (count feeds tabs differ : ℕ) → feeds < 2 ^ 64 → tabs < 2 ^ 64 → differ < 2 ^ 64
    → ((i : ℕ) → i < 32 → is_set feeds i ≡ eqb (get_or line i 0) 10) → ((i : ℕ) → i < 32 → is_set tabs i ≡ eqb (get_or line i 0) 9)
    → ((i : ℕ) → i < 32 → is_set differ i ≡ not (eqb (get_or line i 0) (get_or key i 0)))
    → count_trailing_zeros 64 tabs ≡ count → count_trailing_zeros 64 tabs < count_trailing_zeros 64 feeds → count_trailing_zeros 64 feeds < 32
    → count_trailing_zeros 64 feeds < count_trailing_zeros 64 (cleared tabs) → count ≤ count_trailing_zeros 64 differ → TellsNear line key count
near line key count feeds tabs differ small_f small_t small_d bits_f bits_t bits_d at order few next past =
    let whole : Rest (is_set tabs) 0 tabs = all_rest (is_set tabs) tabs small_t (λ i h. refl) in
    let f : First (is_set feeds) 0 (count_trailing_zeros 64 feeds) = first (is_set feeds) 0 feeds (all_rest (is_set feeds) feeds small_f (λ i h. refl)) in
    let t : First (is_set tabs) 0 (count_trailing_zeros 64 tabs) = first (is_set tabs) 0 tabs whole in
    let n : First (is_set tabs) (count_trailing_zeros 64 tabs + 1) (count_trailing_zeros 64 (cleared tabs)) =
    first (is_set tabs) (count_trailing_zeros 64 tabs + 1) (cleared tabs) (rest (is_set tabs) 0 tabs whole) in
    let d : First (is_set differ) 0 (count_trailing_zeros 64 differ) = first (is_set differ) 0 differ (all_rest (is_set differ) differ small_d (λ i h. refl)) in
    let e : ℕ = count_trailing_zeros 64 feeds in
    record {
      end = e;
      few = few;
      feed = eqb-true (get_or line e 0) 10 (sym (bits_f e few) ∙ (f.here (omega (arith, few))).1);
      no_feed = λ k less. eqb-false (get_or line k 0) 10 (sym (bits_f k (omega (arith, less, few))) ∙ f.none k (omega arith) less);
      within = omega (arith, at, order);
      tab = eqb-true (get_or line count 0) 9 (sym (bits_t count (omega (arith, at, order, few))) ∙ (ap (is_set tabs) (sym at) ∙ (t.here (omega (arith, at, order, few))).1));
      no_tab = λ k above less. eqb-false (get_or line k 0) 9 (sym (bits_t k (omega (arith, less, few))) ∙ n.none k (omega (arith, above, at)) (omega (arith, less, next)));
      same = λ k less. eqb-true (get_or line k 0) (get_or key k 0)
          (not_not _ (sym (bits_d k (omega (arith, less, at, order, few))) ∙ d.none k (omega arith) (omega (arith, less, past))));
    }

-- a line that tells a key near tells it
pub near_tells : (rest keys : List ℕ) (start count : ℕ) → 32 ≤ length rest → start + 32 ≤ length keys → TellsNear (take 32 rest) (take 32 (drop start keys)) count
    → told_key rest ≡ Some (take count (drop start keys))
near_tells rest keys start count long room s =
    let line = take 32 rest in
    let from = drop start keys in
    let wide : length from ≡ length keys - start = length-drop start keys in
    let at : (k : ℕ) → k < 32 → get_or rest k 0 ≡ get_or line k 0 = λ k less. sym (get_or-take 32 rest k 0 less) in
    let below : (k : ℕ) → k < s.end → k < 32 = λ k less. omega (arith, less, s.few) in
    let front : List ℕ = take s.end rest in
    let front_long : length front ≡ s.end = length-take-le s.end rest (omega (arith, s.few, long)) in
    let size : length (take count front) ≡ count = length-take-le count front (omega (arith, front_long, s.within)) in
    let key_size : length (take count from) ≡ count = length-take-le count from (omega (arith, wide, room, s.within, s.few)) in
    let is : take count front ≡ take count from = same_number_lists (take count front) (take count from) (size ∙ sym key_size) (λ k less.
    let small : k < count = omega (arith, less, size) in
    let in_line : k < s.end = omega (arith, small, s.within) in
    get_or-take count front k 0 small ∙ (get_or-take s.end rest k 0 in_line ∙ (at k (below k in_line)
    ∙ (s.same k small ∙ (get_or-take 32 from k 0 (below k in_line) ∙ sym (get_or-take count from k 0 small)))))) in
    told_at count s.end rest s.within (omega (arith, s.few, long)) (at s.end s.few ∙ s.feed) (λ k less. λ e. s.no_feed k less (sym (at k (below k less)) ∙ e))
    (at count (below count s.within) ∙ s.tab) (λ k above less. λ e. s.no_tab k above less (sym (at k (below k less)) ∙ e))
    ∙ ap (λ key. Some key) is

-- ---- in the plain way

-- a key without a line feed, a TAB behind it, and then a line feed before any other TAB
pub plain_tells : (key more : List ℕ) (at : ℕ) → ((k : ℕ) → k < length key → get_or key k 0 ≢ 10) → at < length more → get_or more at 0 ≡ 10
    → ((k : ℕ) → k < at → (get_or more k 0 ≢ 9) × (get_or more k 0 ≢ 10)) → told_key (key ++ 9 ∷ more) ≡ Some key
plain_tells key more at clear h feed none =
    ap (option_and_then before_last_tab) (line key clear) ∙ tab key
  where
    line_front : List ℕ
    line_front = take at more

    first_line : line_of (9 ∷ more) ≡ Some (9 ∷ line_front)
    first_line = line_there 9 more (λ e. omega (arith, e)) ∙ ap (option_map (λ l. 9 ∷ l)) (line_at at more h feed (λ k less. (none k less).1))

    line : (xs : List ℕ) → ((k : ℕ) → k < length xs → get_or xs k 0 ≢ 10) → line_of (xs ++ 9 ∷ more) ≡ Some (xs ++ 9 ∷ line_front)
    line [] c = first_line
    line (x ∷ xs) c = line_there x (xs ++ 9 ∷ more) (c 0 (omega arith)) ∙ ap (option_map (λ l. x ∷ l)) (line xs (λ k less. c (suc k) (omega (arith, less))))

    long : length line_front ≡ at
    long = length-take-le at more (omega (arith, h))

    tab : (xs : List ℕ) → before_last_tab (xs ++ 9 ∷ line_front) ≡ Some xs
    tab [] = tab_cons 9 line_front ∙ ap (tab_behind 9) (tab_none line_front (λ k less. λ e. (none k (omega (arith, less, long))).0 (sym (get_or-take at more k 0 (omega (arith, less, long))) ∙ e)))
    tab (x ∷ xs) = tab_cons x (xs ++ 9 ∷ line_front) ∙ ap (tab_behind x) (tab xs)

or_right : (a : Bool) → (a || true) ≡ true
or_right true = refl
or_right false = refl

no_feed_in : (key : List ℕ) (feed : Option ℕ) → IsFirstByte (is_byte 10) key feed → is_some feed ≡ false → (k : ℕ) → k < length key → get_or key k 0 ≢ 10
no_feed_in key None none e k less is = none k (omega arith) less (eq-eqb _ 10 is)
no_feed_in key (Some at) found e k less is = absurd (cc e)

-- what is found in a text that begins with a key
pub told_plainly : (key rest more : List ℕ) (at : ℕ) (feed : Option ℕ) → pointwise nat_eq key (take (length key) rest) ≡ true → length key < length rest
    → get_or rest (length key) 0 ≡ 9 → more ≡ drop (length key + 1) rest → at < length more → Nowhere (Passes (is_byte2 9 10) more) 0 at → get_or more at 0 ≡ 10
    → IsFirstByte (is_byte 10) key feed → is_some feed ≡ false → told_key rest ≡ Some key
told_plainly key rest more at feed same h tab is low none here first_feed unfed =
    let next : length key + 1 ≡ suc (length key) = omega arith in
    let behind : drop (length key) rest ≡ 9 ∷ more =
    drop-cons rest (length key) 0 h ∙ (ap (λ b. b ∷ drop (suc (length key)) rest) tab ∙ ap (λ l. 9 ∷ l) (ap (λ n. drop n rest) (sym next) ∙ sym is)) in
    let whole : rest ≡ key ++ 9 ∷ more = sym (starts_is key rest same) ∙ ap (λ w. key ++ w) behind in
    ap told_key whole ∙ plain_tells key more at (no_feed_in key feed first_feed unfed) low here (λ k less. (
      λ e. none k (omega arith) less (ap (λ t. t || eqb (get_or more k 0) 10) (eq-eqb (get_or more k 0) 9 e)),
      λ e. none k (omega arith) less (ap (λ t. eqb (get_or more k 0) 9 || t) (eq-eqb (get_or more k 0) 10 e) ∙ or_right (eqb (get_or more k 0) 9)),
    ))
