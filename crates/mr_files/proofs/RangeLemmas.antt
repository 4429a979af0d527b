-- What is read of a range, and what that shows of the file.
use Rattle.std.proofs.Common.{◌≡◌, ◌⊎◌, inl, inr, ℕ, ◌+◌, ◌-◌, ◌≤◌, ◌<◌, Bool, true, false, Option, Some, None, List, [], ◌∷◌, ◌++◌, length, take, drop, refl, sym, ap, ◌∙◌, subst, arith, append_assoc, length-append}
use Rattle.std.proofs.Math.Seq.{drop-append_seam, take-append_seam, take-add}
use Rattle.std.proofs.lemmas.Bool.{cases_eq}
use Rattle.std.proofs.lemmas.List.{drop-drop, length-drop, length-take-le, take_all}
use Rattle.std.specs.Prelude.{MatchOption}
use Rattle.std.proofs.KnownBytes.{Consumes-nil, Consumes-trans}
use Rattle.std.specs.Io.KnownBytes.{Consumes, IsAtEnd}
use Rattle.mr_files.specs.Holding.{Agrees, Faulty, HoldsFrom, Stored}
use Rattle.mr_files.specs.Ranges.{BeginsAt, EndsLine, IsFront, IsOpenAt, IsPastEnd, IsRangeOf, IsRangeRefusal, IsRead}
use Rattle.mr_files.specs.Refusals.{IsUnread, IsUnreadWithin}
use Rattle.mr_files.specs.declared.ranges.RangeFault.TheVariants.{InsideALine, PastEnd, TooLong}
use Rattle.mr_files.specs.declared.reading.LimitFault.{LimitFault}
use Rattle.mr_files.specs.declared.reading.LimitFault.TheVariants.{File, TooLong as TooMany}
use Rattle.mr_files.specs.declared.store.FileFault.{FileFault}
use Rattle.mr_files.specs.declared.store.FileFault.TheVariants.{CannotRead, CannotWrite, OutOfMemory}

-- ---- line ends

nil_right : (a b : List ℕ) → a ++ b ≡ [] → b ≡ []
nil_right [] b e = e
nil_right (x ∷ a) b e = absurd (cc e)

-- what ends a text that ends with a line feed is empty or ends with one
ends_last : (a b : List ℕ) → EndsLine (a ++ b) → EndsLine b
ends_last [] b e = e
ends_last (y ∷ a) b (inl none) = absurd (cc none)
ends_last (y ∷ a) b (inr ([], is)) = inl (nil_right a b (ap (drop 1) is))
ends_last (y ∷ a) b (inr (f ∷ first, is)) = ends_last a b (inr (first, ap (drop 1) is))

ends_behind : (a b : List ℕ) → (b ≡ [] → a ≡ []) → EndsLine b → EndsLine (a ++ b)
ends_behind a b some (inl none) = inl (ap (λ l. l ++ b) (some none) ∙ none)
ends_behind a b some (inr (first, is)) = inr (a ++ first, ap (λ l. a ++ l) is ∙ sym (append_assoc a first (10 ∷ [])))

-- ---- readers

-- a reader's bytes are those that it gave, and others, if it is not at its end
gave : (known left : Option (List ℕ)) (got : List ℕ) → Consumes known left got → (rest : List ℕ) × Agrees known (got ++ rest) × (IsAtEnd left → rest ≡ [])
gave None left got c = ([], tt, (λ _. refl))
gave (Some xs) None got c = absurd c
gave (Some xs) (Some ys) got c = (ys, c, (λ e. e))

agrees_back : (known left : Option (List ℕ)) (got b : List ℕ) → Consumes known left got → Agrees left b → Agrees known (got ++ b)
agrees_back None left got b c a = tt
agrees_back (Some xs) None got b c a = absurd c
agrees_back (Some xs) (Some ys) got b c a = c ∙ ap (λ l. got ++ l) a

-- some bytes are those of a reader
pub some_agree : (known : Option (List ℕ)) → (b : List ℕ) × Agrees known b
some_agree None = ([], tt)
some_agree (Some xs) = (xs, refl)

pub read_none : (known : Option (List ℕ)) (most : ℕ) (keep : Bool) → IsRead known known most keep [] most
read_none known most keep = record { front = []; consumed = Consumes-nil known; kept = λ _. refl; some = λ _. refl; count = omega arith }

-- one piece more
pub read_more : (known mid left : Option (List ℕ)) (most : ℕ) (keep : Bool) (bytes piece now : List ℕ) (lacking less : ℕ)
    → IsRead known mid most keep bytes lacking → Consumes mid left piece → 0 < length piece → length piece + less ≡ lacking
    → (keep ≡ true → now ≡ bytes ++ piece) → (keep ≡ false → now ≡ piece) → IsRead known left most keep now less
read_more known mid left most true bytes piece now lacking less r c some is more last =
    let whole : r.front ++ now ≡ (r.front ++ bytes) ++ piece = ap (λ l. r.front ++ l) (more refl) ∙ sym (append_assoc r.front bytes piece) in
    record {
      front = r.front;
      consumed = subst (Consumes known left) (sym whole) (Consumes-trans known mid left (r.front ++ bytes) piece r.consumed c);
      kept = r.kept;
      some = λ e. absurd (omega (arith, some, ap length (nil_right bytes piece (sym (more refl) ∙ e))));
      count = omega (arith, ap length whole, length-append (r.front ++ bytes) piece, r.count, is);
    }
read_more known mid left most false bytes piece now lacking less r c some is more last =
    let whole : (r.front ++ bytes) ++ now ≡ (r.front ++ bytes) ++ piece = ap (λ l. (r.front ++ bytes) ++ l) (last refl) in
    record {
      front = r.front ++ bytes;
      consumed = subst (Consumes known left) (sym whole) (Consumes-trans known mid left (r.front ++ bytes) piece r.consumed c);
      kept = λ e. absurd (cc e);
      some = λ e. absurd (omega (arith, some, ap length (sym (last refl) ∙ e)));
      count = omega (arith, ap length whole, length-append (r.front ++ bytes) piece, r.count, is);
    }

-- ---- the byte before the range

module _ (holds : Stored) (unreadable : Faulty) (name : List ℕ) (from at : ℕ) (is_at : at ≡ from - 1) (known left : Option (List ℕ)) (before : List ℕ) (lacking : ℕ)
    (opened : (b : List ℕ) → Agrees known b → HoldsFrom holds name at b) (r : IsRead known left (from - at) true before lacking) where
  whole : r.front ++ before ≡ before
  whole = ap (λ l. l ++ before) (r.kept refl)

  -- there is none
  pub none_before : 0 < lacking → IsAtEnd left → (to : Option ℕ) → (limit : ℕ) → IsRangeRefusal holds unreadable name from to limit PastEnd
  none_before some end to limit =
      let (rest, agree, none) = gave known left (r.front ++ before) r.consumed in
      let (file, held, is) = opened ((r.front ++ before) ++ rest) agree in
      (file, held, inl (omega (arith, is_at, some, r.count, ap length is, length-append (r.front ++ before) rest, ap length (none end), length-drop at file)))

  pub opens : lacking ≡ 0 → (begins : Bool) → (begins ≡ true → EndsLine before) → (begins ≡ false → EndsLine before → ⊥) → IsOpenAt holds name from begins left
  opens none begins line inner b agree =
      let (file, held, is) = opened ((r.front ++ before) ++ b) (agrees_back known left (r.front ++ before) b r.consumed agree) in
      let here : before ++ b ≡ drop at file = ap (λ l. l ++ b) (sym whole) ∙ is in
      let size : length before ≡ from - at = omega (arith, ap length whole, r.count, none) in
      let long : from ≤ length file = omega (arith, is_at, size, ap length here, length-append before b, length-drop at file) in
      let sum : from ≡ at + length before = omega (arith, is_at, size) in
      let taken : take from file ≡ take at file ++ before =
      ap (λ k. take k file) sum ∙ (take-add at (length before) file ∙ ap (λ l. take at file ++ l) (ap (take (length before)) (sym here) ∙ take-append_seam before b)) in
      let first : before ≡ [] → take at file ≡ [] = λ e. let z : at ≡ 0 = omega (arith, is_at, size, ap length e) in ap (λ k. take k file) z in (
        file,
        held,
        record {
          within = long;
          rest_is = sym (drop-append_seam before b) ∙ (ap (drop (length before)) here ∙ (drop-drop (length before) at file ∙ ap (λ k. drop k file) (sym sum)));
          line = λ e. subst EndsLine (sym taken) (ends_behind (take at file) before first (line e));
          inside = λ e h. inner e (ends_last (take at file) before (subst EndsLine taken h));
        },
      )

-- ---- the range, and the byte behind it

pub front_read : (known mid left : Option (List ℕ)) (count : ℕ) (keep : Bool) (bytes more : List ℕ) (lacking lacks : ℕ) (ends : Bool)
    → IsRead known mid count keep bytes lacking → lacking ≡ 0 → IsRead mid left 1 true more lacks → (0 < lacks → IsAtEnd left) → (ends ≡ true → 0 < lacks) → (0 < lacks → ends ≡ true)
    → (b : List ℕ) × Agrees known b × IsFront b count keep bytes ends
front_read known mid left count keep bytes more lacking lacks ends r none s end some are =
    let got = r.front ++ bytes in
    let last = s.front ++ more in
    let (rest, agree, over) = gave known left (got ++ last) (Consumes-trans known mid left got last r.consumed s.consumed) in
    let size : length got ≡ count = omega (arith, r.count, none) in
    let total : length ((got ++ last) ++ rest) ≡ count + length last + length rest = omega (arith, length-append (got ++ last) rest, length-append got last, size) in
    let taken : take count ((got ++ last) ++ rest) ≡ got =
    ap (λ k. take k ((got ++ last) ++ rest)) (sym size) ∙ (ap (take (length got)) (append_assoc got last rest) ∙ take-append_seam got (last ++ rest)) in (
      (got ++ last) ++ rest,
      agree,
      record {
        within = omega (arith, total);
        kept = λ e. sym (taken ∙ ap (λ l. l ++ bytes) (r.kept e));
        closes = ((λ h. subst EndsLine (sym taken) (ends_behind r.front bytes r.some h)), (λ h. ends_last r.front bytes (subst EndsLine taken h)));
        ends_where = (
          (λ e. omega (arith, total, some e, s.count, ap length (over (end (some e))))),
          (λ e. are (omega (arith, total, e, s.count))),
        );
      },
    )

-- ---- what the file's range is

module _ (holds : Stored) (unreadable : Faulty) (name : List ℕ) (from : ℕ) (known : Option (List ℕ)) (limit : ℕ) where
  module _ (to : ℕ) (order : from ≤ to) (keep : Bool) (bytes : List ℕ) (ends : Bool) where
    size : (file b : List ℕ) (begins : Bool) → BeginsAt file from begins b → length b + from ≡ length file
    size file b begins o = omega (arith, o.within, ap length o.rest_is, length-drop from file)

    range_of : (file b : List ℕ) → BeginsAt file from true b → IsFront b (to - from) keep bytes ends → (ends ≡ false → EndsLine bytes) → IsRangeOf file from (Some to) (take (to - from) b) ends
    range_of file b o f closed =
        let all = size file b true o in
        record {
          order = order;
          within = omega (arith, all, f.within, order);
          bytes_are = ap (take (to - from)) o.rest_is;
          ends_where = ((λ e. omega (arith, all, f.ends_where.0 e, order)), (λ e. f.ends_where.1 (omega (arith, all, e, order))));
          begins = o.line refl;
          closes = λ e. f.closes.0 (closed e);
        }

    reaches : (file b : List ℕ) (begins : Bool) → BeginsAt file from begins b → IsFront b (to - from) keep bytes ends → IsPastEnd file from (Some to) → ⊥
    reaches file b begins o f (inl e) = omega (arith, e, o.within)
    reaches file b begins o f (inr e) = omega (arith, e, size file b begins o, f.within, order)

    pub inside_from : IsOpenAt holds name from false known → (b : List ℕ) → Agrees known b → IsFront b (to - from) keep bytes ends → IsRangeRefusal holds unreadable name from (Some to) limit (InsideALine from)
    inside_from o b a f =
        let (file, held, here) = o b a in
        (file, held, reaches file b false here f, inl (refl, here.inside refl))

    goes_on : (file b : List ℕ) → length b + from ≡ length file → IsFront b (to - from) keep bytes ends → ends ≡ false → to < length file
    goes_on file b all f goes = by (cases_eq (to - from) (length b))
      where
        by : ((to - from) ≡ length b) ⊎ ((to - from) ≡ length b → ⊥) → to < length file
        by (inl e) = absurd (cc (f.ends_where.1 e, goes))
        by (inr e) = omega (arith, all, f.within, order, e)

    pub inside_to : IsOpenAt holds name from true known → (b : List ℕ) → Agrees known b → IsFront b (to - from) keep bytes ends → ends ≡ false → (EndsLine bytes → ⊥)
        → IsRangeRefusal holds unreadable name from (Some to) limit (InsideALine to)
    inside_to o b a f goes not =
        let (file, held, here) = o b a in
        let all = size file b true here in
        let part : take to file ≡ take from file ++ take (to - from) b =
        ap (λ k. take k file) (let e : to ≡ from + (to - from) = omega (arith, order) in e) ∙ (take-add from (to - from) file ∙ ap (λ l. take from file ++ take (to - from) l) (sym here.rest_is)) in
        (file, held, reaches file b true here f, inr (here.line refl, refl, goes_on file b all f goes, (λ h. not (f.closes.1 (ends_last (take from file) (take (to - from) b) (subst EndsLine part h))))))

    pub too_long : IsOpenAt holds name from true known → (b : List ℕ) → Agrees known b → IsFront b (to - from) keep bytes ends → (ends ≡ false → EndsLine bytes) → limit < to - from
        → IsRangeRefusal holds unreadable name from (Some to) limit TooLong
    too_long o b a f closed long =
        let (file, held, here) = o b a in
        (file, take (to - from) b, ends, held, range_of file b here f closed, omega (arith, long, length-take-le (to - from) b f.within))

    pub taken : IsOpenAt holds name from true known → (b : List ℕ) → Agrees known b → IsFront b (to - from) keep bytes ends → (ends ≡ false → EndsLine bytes) → keep ≡ true
        → (file : List ℕ) × holds name file × IsRangeOf file from (Some to) bytes ends
    taken o b a f closed k =
        let (file, held, here) = o b a in
        (file, held, subst (λ (l : List ℕ). IsRangeOf file from (Some to) l ends) (sym (f.kept k)) (range_of file b here f closed))

  -- up to the file's end
  rest_of : (file b : List ℕ) → BeginsAt file from true b → IsRangeOf file from None b true
  rest_of file b o = record {
    order = o.within;
    within = omega arith;
    bytes_are = o.rest_is ∙ sym (take_all (length file - from) (drop from file) (omega (arith, length-drop from file)));
    ends_where = ((λ _. refl), (λ _. refl));
    begins = o.line refl;
    closes = λ e. absurd (cc e);
  }

  pub inside_rest : IsOpenAt holds name from false known → IsRangeRefusal holds unreadable name from None limit (InsideALine from)
  inside_rest o =
      let (b, a) = some_agree known in
      let (file, held, here) = o b a in
      (file, held, here-within file here.within, inl (refl, here.inside refl))
    where
      here-within : (file : List ℕ) → from ≤ length file → IsPastEnd file from None → ⊥
      here-within file h (inl e) = omega (arith, e, h)
      here-within file h (inr e) = omega (arith, e)

  pub rest_long : IsOpenAt holds name from true known → (b : List ℕ) → Agrees known b → limit < length b → IsRangeRefusal holds unreadable name from None limit TooLong
  rest_long o b a long =
      let (file, held, here) = o b a in
      (file, b, true, held, rest_of file b here, long)

-- ---- faults

pub unread_as : (can other : Faulty) (name : List ℕ) (e : FileFault) → (can name → other name) → IsUnread can name e → IsUnread other name e
unread_as can other name (CannotRead told) h u = (h u.0, u.1)
unread_as can other name (CannotWrite told) h u = absurd u
unread_as can other name OutOfMemory h u = tt

pub unread_within : (holds stands : Stored) (can other : Faulty) (name : List ℕ) (limit : ℕ) (e : LimitFault)
    → ((b : List ℕ) → holds name b → stands name b) → (can name → other name) → IsUnreadWithin holds can name limit e → IsUnreadWithin stands other name limit e
unread_within holds stands can other name limit (File fault) h k u = unread_as can other name fault k u
unread_within holds stands can other name limit TooMany h k (b, here, long) = (b, h b here, long)

-- ---- what a case shows

pub of_some : {A : Type 0} (o : Option A) (x : A) (none : Type 0) (some : A → Type 0) → o ≡ Some x → MatchOption o none some → some x
of_some {A} o x none some is m = subst (λ (v : Option A). MatchOption v none some) is m

pub of_long : (holds : Stored) (can : Faulty) (name : List ℕ) (limit : ℕ) (e : LimitFault) → e ≡ TooMany → IsUnreadWithin holds can name limit e → (b : List ℕ) × holds name b × (limit < length b)
of_long holds can name limit e is u = subst (IsUnreadWithin holds can name limit) is u
