-- A fault of a partition is true of what stands of it.
use Rattle.std.proofs.Common.{◌≡◌, ◌≢◌, ◌⊎◌, ℕ, zero, suc, ◌+◌, ◌-◌, ◌≤◌, Bool, true, false, Option, Some, None, List, [], ◌∷◌, ◌++◌, length, map, drop, refl, ap, sym, ◌∙◌, subst, inl, inr, arith, append_assoc, length-append, nat_eq, nat_le, eqb, cond, slice_index_or, ◌==◌}
use Rattle.std.proofs.lemmas.Bool.{eqb-true, eq-eqb, leb-true, le-leb, false≢true}
use Rattle.std.proofs.lemmas.List.{append-nil, length-map}
use Rattle.std.proofs.Math.Seq.{get_or-append_seam}
use Rattle.std.specs.List.{flat_map, filter_map, cons_option, common_prefix_len, slice_get}
use Rattle.std.specs.Option.{option_and_then, option_map_or}
use Rattle.std.specs.Ordering.{is_lt}
use Rattle.std.specs.Str.{bytes_eq}
use Rattle.std.specs.declared.cmp.Ordering.{Ordering}
use Rattle.std.specs.declared.cmp.Ordering.TheVariants.{Less}
use Rattle.mr_bytes.specs.declared.Name.{Name}
use Rattle.mr_bytes.specs.Order.{key_order, name_order}
use Rattle.mr_input.specs.Files.{nth_file}
use Rattle.mr_certform.specs.declared.grammar_state.Item.{Item}
use Rattle.mr_certform.specs.declared.grammar_state.Item.TheVariants.{Groups, Entries, Entry, End}
use Rattle.mr_certform.specs.declared.grammar_state.GrammarState.{GrammarState}
use Rattle.mr_certform.specs.declared.grammar_state.GrammarState.TheVariants.{AtGroups, AtEntries, AtEntry, AtEnd}
use Rattle.mr_certform.specs.Grammar.{MayStand, InOrder}
use Rattle.mr_certform.specs.Places as Places
use Rattle.mr_bytes.specs.Pairs.{Triple}
use Rattle.mr_sequential.specs.Good.{named, key_under, values_under, text_under}
use Rattle.mr_sequential.proofs.KeyLaws.{bytes_eq-same}
use Rattle.mr_sequential.proofs.NamedLaws.{named-Has}
use Rattle.mr_verdict.specs.declared.answers.No.{No}
use Rattle.mr_verdict.specs.declared.answers.No.TheVariants as Fault
use Rattle.mr_verdict.specs.Verdict.{Reached, Subject, first, passes, start, after, text_tests, end_tests, is_key_past, first_tests, later_tests, order_tests, with_entry, entry_tests, group_tests, behind_group, after_entry}
use Rattle.mr_verdict.specs.VerdictLaws.{told, piece}
use Rattle.mr_verdict.specs.FaultLaws.{GroupRead, PartRead, names_in, groups_in, part_read, whole, name_in, triple_in, KeysFall, IsWrongIn}
use Rattle.mr_verdict.proofs.VerdictTests.{none_left, text_stands}

-- ---- the first of faults

-- this is the first of the faults
abbrev pub Tells : No → List No → Type 0
Tells f fs = ◌≡◌ {A = Option No} (first fs) (Some f)

pub either : (xs ys : List No) (f : No) → Tells f (xs ++ ys) → Tells f xs ⊎ ((xs ≡ []) × Tells f ys)
either [] ys f e = inr (refl, e)
either (x ∷ xs) ys f e = inl e

pub failed : (b : Bool) (x f : No) → Tells f (passes b x) → (b ≡ false) × (x ≡ f)
failed true x f e = absurd (cc)
failed false x f e = (refl, cc)

pub untold : (f : No) → Tells f [] → ⊥
untold f e = cc

-- ---- texts

-- a text and what is compared with it, from where they part
record Fork (text rest : List ℕ) : Type 0 where
  same : List ℕ
  text_rest : List ℕ
  rest_rest : List ℕ
  text_is : text ≡ same ++ text_rest
  rest_is : rest ≡ same ++ rest_rest
  long : length same ≡ common_prefix_len nat_eq text rest
  apart : common_prefix_len nat_eq text rest ≢ length text → (slice_get rest_rest 0 ≢ slice_get text_rest 0) × (1 ≤ length text_rest)

fork : (text rest : List ℕ) → Fork text rest
fork [] rest = record { same = []; text_rest = []; rest_rest = rest; text_is = refl; rest_is = refl; long = refl; apart = λ h. absurd (h refl) }
fork (t ∷ text) [] = record { same = []; text_rest = t ∷ text; rest_rest = []; text_is = refl; rest_is = refl; long = refl; apart = λ h. (λ e. cc, omega arith) }
fork (t ∷ text) (o ∷ rest) = by (eqb t o) refl (fork text rest)
  where
    by : (b : Bool) → eqb t o ≡ b → Fork text rest → Fork (t ∷ text) (o ∷ rest)
    by true is r =
        let one : common_prefix_len nat_eq (t ∷ text) (o ∷ rest) ≡ 1 + common_prefix_len nat_eq text rest = ap (λ b. cond b (1 + common_prefix_len nat_eq text rest) 0) is in
        record {
          same = t ∷ r.same;
          text_rest = r.text_rest;
          rest_rest = r.rest_rest;
          text_is = ap (λ w. t ∷ w) r.text_is;
          rest_is = (let same : o ≡ t = sym (eqb-true t o is) in let rest_is = r.rest_is in cc);
          long = omega (arith, r.long, one);
          apart = λ h. r.apart (λ g. h (omega (arith, one, g)));
        }
    by false is r =
        let none : common_prefix_len nat_eq (t ∷ text) (o ∷ rest) ≡ 0 = ap (λ b. cond b (1 + common_prefix_len nat_eq text rest) 0) is in
        record {
          same = [];
          text_rest = t ∷ text;
          rest_rest = o ∷ rest;
          text_is = refl;
          rest_is = refl;
          long = sym none;
          apart = λ h. (λ e. let there : o ≡ t = cc in false≢true (sym is ∙ eq-eqb t o (sym there)), omega arith);
        }

-- bytes are left behind a place that is before the end
left_there : (output : List ℕ) (from : ℕ) → nat_le (length output) from ≡ false → slice_get (drop from output) 0 ≢ None
left_there [] from h e = absurd (false≢true (sym h ∙ le-leb 0 from (omega arith)))
left_there (b ∷ output) zero h e = cc
left_there (b ∷ output) (suc from) h e =
    left_there output from (by (nat_le (length output) from) refl) e
  where
    by : (t : Bool) → nat_le (length output) from ≡ t → nat_le (length output) from ≡ false
    by false is = is
    by true is = absurd (false≢true (sym h ∙ le-leb (suc (length output)) (suc from) (omega (arith, leb-true _ _ is))))

flat_map-snoc : {X A : Type 0} (g : X → List A) (xs : List X) (x : X) → flat_map g (xs ++ x ∷ []) ≡ flat_map g xs ++ g x
flat_map-snoc g [] x = append-nil (g x)
flat_map-snoc g (y ∷ xs) x = ap (λ w. g y ++ w) (flat_map-snoc g xs x) ∙ sym (append_assoc (g y) (flat_map g xs) (g x))

map-snoc : {X Y : Type 0} (g : X → Y) (xs : List X) (x : X) → map g (xs ++ x ∷ []) ≡ map g xs ++ g x ∷ []
map-snoc g [] x = refl
map-snoc g (y ∷ xs) x = ap (λ w. g y ∷ w) (map-snoc g xs x)

values-snoc : (ts : List Triple) (ns : List Name) (n : Name) (t : Triple) → named ts n ≡ Some t → values_under ts (ns ++ n ∷ []) ≡ values_under ts ns ++ t.value ∷ []
values-snoc ts [] n t is = ap (λ o. map (λ (u : Triple). u.value) (cons_option o [])) is
values-snoc ts (m ∷ ns) n t is = by (named ts m) (values-snoc ts ns n t is)
  where
    by : (o : Option Triple) → values_under ts (ns ++ n ∷ []) ≡ values_under ts ns ++ t.value ∷ []
        → map (λ (u : Triple). u.value) (cons_option o (filter_map (named ts) (ns ++ n ∷ []))) ≡ map (λ (u : Triple). u.value) (cons_option o (filter_map (named ts) ns)) ++ t.value ∷ []
    by None h = h
    by (Some u) h = ap (λ w. u.value ∷ w) h

pub get-seam : {X : Type 0} (xs ys : List X) (x : X) → slice_get (xs ++ x ∷ ys) (length xs) ≡ Some x
get-seam [] ys x = refl
get-seam (y ∷ xs) ys x = get-seam xs ys x

-- an order that isn't before is none
pub not_less : {A : Type 0} (cmp : A → A → Ordering) (a b : A) → is_lt (cmp a b) ≡ false → cmp a b ≢ Less
not_less cmp a b h e = false≢true (sym h ∙ ap is_lt e)

-- ---- a partition

module _ (s : Subject) (p : ℕ) (part : PartRead) (f : No) where
  abbrev output : List ℕ
  output = nth_file s.outputs p

  abbrev texts : List (List Name) → List ℕ
  texts gs = flat_map (text_under s.rules.text s.triples) gs

  -- the last of the groups has this key
  pub record IsLast (gs : List (List Name)) (k : List ℕ) : Type 0 where
    front : List (List Name)
    name : Name
    names : List Name
    groups_are : gs ≡ front ++ (name ∷ names) ∷ []
    triple : Triple
    named_is : named s.triples name ≡ Some triple
    key : k ≡ triple.key

  abbrev LastKey : List (List Name) → Option (List ℕ) → Type 0
  LastKey gs None = Unit {0}
  LastKey gs (Some k) = IsLast gs k

  -- these groups stand whole and passed their tests, and so many are to come
  pub record Done (st : Reached) (gs : List (List Name)) (g : ℕ) : Type 0 where
    next : st.next ≡ suc p
    left : st.groups ≡ g
    count : st.group ≡ length gs
    all : part.announced ≡ length gs + g
    before : LastKey gs st.key_before
    output_is : output ≡ texts gs ++ drop st.from output
    from : st.from ≡ length (texts gs)

  -- of the group these names passed their tests
  pub record Taken (st : Reached) (n : Name) (ns : List Name) : Type 0 where
    triple : Triple
    triple_is : named s.triples n ≡ Some triple
    key : st.key ≡ triple.key
    values : st.values ≡ values_under s.triples (n ∷ ns)
    front : List Name
    last : Name
    names_are : n ∷ ns ≡ front ++ last ∷ []
    before : st.before ≡ last

  abbrev AreTaken : Reached → List Name → Type 0
  AreTaken st [] = Unit {0}
  AreTaken st (n ∷ ns) = Taken st n ns

  -- a group of k entries is open: these names stand, and so many are to come
  pub record Open (st : Reached) (gs : List (List Name)) (g k : ℕ) (ns : List Name) (m : ℕ) : Type 0 where
    done : Done st gs (suc g)
    entries : st.entries ≡ m
    entry : st.entry ≡ length ns
    announced : k ≡ length ns + m
    taken : AreTaken st ns

  abbrev Inv : GrammarState → Reached → List (List Name) → ℕ → List Name → Type 0
  Inv (AtEntries r g) st gs k ns = Done st gs (suc g)
  Inv (AtEntry r g m b) st gs k ns = Open st gs g k ns (suc m)
  Inv (AtGroups r) st gs k ns = Unit {0}
  Inv AtEnd st gs k ns = Unit {0}
  Inv _ st gs k ns = ⊥

  abbrev cut : ℕ → List Name → GroupRead
  cut k ns = record { announced = k; names = ns }

  abbrev Reads : GrammarState → List (List Name) → ℕ → List Name → List Item → Type 0
  Reads (AtEntries r g) gs k ns js = part.groups ≡ map whole gs ++ groups_in js
  Reads (AtEntry r g m b) gs k ns js = part.groups ≡ map whole gs ++ cut k (ns ++ names_in js) ∷ groups_in js
  Reads _ gs k ns js = Unit {0}

  abbrev Wrong : Type 0
  Wrong = IsWrongIn s p part f

  -- what is to be shown of items
  abbrev Walk : List Item → Type 0
  Walk is = (q : GrammarState) (st : Reached) (gs : List (List Name)) (k : ℕ) (ns : List Name)
      → InOrder q is → Inv q st gs k ns → Reads q gs k ns (piece is) → Tells f (told s st (piece is)) → Wrong

  -- the name that stands there
  stands : (gs : List (List Name)) (k : ℕ) (names front rest : List Name) (later : List GroupRead) (x : Name) (a b : ℕ)
      → part.groups ≡ map whole gs ++ cut k names ∷ later → names ≡ front ++ x ∷ rest → a ≡ length gs → b ≡ length front → name_in part a b ≡ Some x
  stands gs k names front rest later x a b reads split ga eb =
      let ga' : a ≡ length (map whole gs) = omega (arith, ga, length-map gs whole) in
      ap (λ (l : List GroupRead). slice_get (slice_index_or l a (cut 0 [])).names b) reads
      ∙ (ap (λ (i : ℕ). slice_get (slice_index_or (map whole gs ++ cut k names ∷ later) i (cut 0 [])).names b) ga'
      ∙ (ap (λ (g : GroupRead). slice_get g.names b) (get_or-append_seam (map whole gs) (cut k names) later (cut 0 []))
      ∙ (ap (λ (l : List Name). slice_get l b) split ∙ (ap (λ (i : ℕ). slice_get (front ++ x ∷ rest) i) eb ∙ get-seam front rest x))))

  triple_of : (a b : ℕ) (x : Name) (t : Triple) → name_in part a b ≡ Some x → named s.triples x ≡ Some t → triple_in s.triples part a b ≡ Some t
  triple_of a b x t e is = ap (option_and_then (named s.triples)) e ∙ is

  -- ---- behind an entry that passed its tests

  text_is : (st : Reached) (n : Name) (ns : List Name) → Taken st n ns → s.rules.text st.key st.values ≡ text_under s.rules.text s.triples (n ∷ ns)
  text_is st n ns t =
      let key : key_under s.triples n ≡ t.triple.key = ap (λ o. option_map_or (λ (u : Triple). u.key) o []) t.triple_is in
      ap (λ k. s.rules.text k st.values) (t.key ∙ sym key) ∙ ap (s.rules.text (key_under s.triples n)) t.values

  no_names : (r g : ℕ) (is : List Item) → InOrder (Places.groups r g) is → names_in (piece is) ≡ []
  no_names r g [] h = refl
  no_names zero zero (i ∷ is) h = at i h.0
    where
      at : (i : Item) → MayStand AtEnd i → names_in (piece (i ∷ is)) ≡ []
      at End h = refl
      at _ h = absurd h
  no_names (suc r) zero (i ∷ is) h = at i h.0
    where
      at : (i : Item) → MayStand (AtGroups r) i → names_in (piece (i ∷ is)) ≡ []
      at (Groups n) h = refl
      at _ h = absurd h
  no_names r (suc g) (i ∷ is) h = at i h.0
    where
      at : (i : Item) → MayStand (AtEntries r g) i → names_in (piece (i ∷ is)) ≡ []
      at (Entries n) h = refl
      at _ h = absurd h

  more_texts : (gs : List (List Name)) (n : Name) (ns : List Name) (text : List ℕ) → text ≡ text_under s.rules.text s.triples (n ∷ ns) → texts (gs ++ (n ∷ ns) ∷ []) ≡ texts gs ++ text
  more_texts gs n ns text e = flat_map-snoc (text_under s.rules.text s.triples) gs (n ∷ ns) ∙ ap (λ w. texts gs ++ w) (sym e)

  -- the groups with one more that stands whole
  one_whole : (gs : List (List Name)) (k : ℕ) (ns names : List Name) (later : List GroupRead) → part.groups ≡ map whole gs ++ cut k names ∷ later → names ≡ ns → k ≡ length ns
      → part.groups ≡ map whole (gs ++ ns ∷ []) ++ later
  one_whole gs k ns names later reads same long =
      reads
      ∙ (ap (λ (l : List Name). map whole gs ++ cut k l ∷ later) same
      ∙ (ap (λ (i : ℕ). map whole gs ++ cut i ns ∷ later) long
      ∙ (sym (append_assoc (map whole gs) (whole ns ∷ []) later) ∙ ap (λ w. w ++ later) (sym (map-snoc whole gs ns)))))

  -- the text of a group that stands whole parts from the output
  text_wrong : (gs : List (List Name)) (ns : List Name) (later : List GroupRead) (from : ℕ) (text : List ℕ)
      → part.groups ≡ map whole (gs ++ ns ∷ []) ++ later → texts (gs ++ ns ∷ []) ≡ texts gs ++ text
      → output ≡ texts gs ++ drop from output → from ≡ length (texts gs)
      → Tells f (text_tests output p from text) → Wrong
  text_wrong gs ns later from text read more output_is from_is e =
      let same : ℕ = common_prefix_len nat_eq text (drop from output) in
      let fail = failed (same == length text) (Fault.OutputDiffers p (from + same)) f e in
      let k = fork text (drop from output) in
      let short : same ≢ length text = λ g. false≢true (sym fail.0 ∙ eq-eqb same (length text) g) in
      let apart = k.apart short in
      let whole_text : texts (gs ++ ns ∷ []) ≡ (texts gs ++ k.same) ++ k.text_rest = more ∙ (ap (λ w. texts gs ++ w) k.text_is ∙ sym (append_assoc (texts gs) k.same k.text_rest)) in
      let whole_output : output ≡ (texts gs ++ k.same) ++ k.rest_rest = output_is ∙ (ap (λ w. texts gs ++ w) k.rest_is ∙ sym (append_assoc (texts gs) k.same k.rest_rest)) in
      let long : length (texts gs ++ k.same) ≡ from + same = omega (arith, length-append (texts gs) k.same, k.long, from_is) in
      subst (IsWrongIn s p part) fail.1 (
        refl,
        record {
          groups = gs ++ ns ∷ [];
          others = later;
          read = read;
          differ = record { same = texts gs ++ k.same; a_rest = k.rest_rest; b_rest = k.text_rest; a_is = whole_output; b_is = whole_text; as_many = long; differ = apart.0 };
          all = inl (omega (arith, ap length whole_text, length-append (texts gs ++ k.same) k.text_rest, long, apart.1));
        },
      )

  -- the output goes on behind all texts
  end_wrong : (gs : List (List Name)) (later : List GroupRead) (g from : ℕ) → part.groups ≡ map whole gs ++ later → part.announced ≡ length gs + g
      → output ≡ texts gs ++ drop from output → from ≡ length (texts gs) → Tells f (end_tests output p g from) → Wrong
  end_wrong gs later (suc g) from read all output_is from_is e = absurd (untold f e)
  end_wrong gs later zero from read all output_is from_is e =
      let fail = failed (nat_le (length output) from) (Fault.OutputDiffers p from) f e in
      subst (IsWrongIn s p part) fail.1 (
        refl,
        record {
          groups = gs;
          others = later;
          read = read;
          differ = record { same = texts gs; a_rest = drop from output; b_rest = []; a_is = output_is; b_is = sym (append-nil (texts gs)); as_many = sym from_is; differ = left_there output from fail.0 };
          all = inr (omega (arith, all));
        },
      )

  -- behind a group what follows is walked
  onward : (r g : ℕ) (is : List Item) (st : Reached) (gs : List (List Name)) → InOrder (Places.groups r g) is → Done st gs g
      → part.groups ≡ map whole gs ++ groups_in (piece is) → Tells f (told s st (piece is)) → Walk is → Wrong
  onward zero zero is st gs order d read e walk = walk AtEnd st gs 0 [] order tt tt e
  onward (suc r) zero is st gs order d read e walk = walk (AtGroups r) st gs 0 [] order tt tt e
  onward r (suc g) is st gs order d read e walk = walk (AtEntries r g) st gs 0 [] order d read e

  -- an entry of a group passed its tests: the text of a group that stands whole is tested, and the rest is walked
  closing : (r g m : ℕ) (name n : Name) (ns : List Name) (is : List Item) (w : Reached) (gs : List (List Name)) (k : ℕ)
      → InOrder (Places.entries r g m name) is → Done w gs (suc g) → w.entries ≡ m → w.entry ≡ length (n ∷ ns) → k ≡ length (n ∷ ns) + m → Taken w n ns
      → part.groups ≡ map whole gs ++ cut k ((n ∷ ns) ++ names_in (piece is)) ∷ groups_in (piece is)
      → Tells f (group_tests s p w m ++ told s (behind_group s w m) (piece is)) → Walk is → Wrong
  closing r g (suc m) name n ns is w gs k order done entries entry announced taken reads e walk =
      walk (AtEntry r g m name) w gs k (n ∷ ns) order (record { done = done; entries = entries; entry = entry; announced = announced; taken = taken }) reads e
  closing r g zero name n ns is w gs k order done entries entry announced taken reads e walk =
      let text : List ℕ = s.rules.text w.key w.values in
      let gs' : List (List Name) = gs ++ (n ∷ ns) ∷ [] in
      let text_tested : List No = text_tests output p w.from text in
      let end_tested : List No = end_tests output p (w.groups - 1) (w.from + length text) in
      let more = more_texts gs n ns text (text_is w n ns taken) in
      let names : (n ∷ ns) ++ names_in (piece is) ≡ n ∷ ns = ap (λ l. (n ∷ ns) ++ l) (no_names r g is order) ∙ append-nil (n ∷ ns) in
      let read : part.groups ≡ map whole gs' ++ groups_in (piece is) = one_whole gs k (n ∷ ns) ((n ∷ ns) ++ names_in (piece is)) (groups_in (piece is)) reads names (omega (arith, announced)) in
      elim (either (text_tested ++ end_tested) (told s (behind_group s w zero) (piece is)) f e) [
        | inl here ↦ elim (either text_tested end_tested f here) [
          | inl a ↦ text_wrong gs (n ∷ ns) (groups_in (piece is)) w.from text read more done.output_is done.from a
          | inr b ↦
              (let d = closed w gs g n ns text done taken more b.0 in
              end_wrong gs' (groups_in (piece is)) (w.groups - 1) (w.from + length text) read (omega (arith, d.all, d.left)) d.output_is d.from b.1)
        ]
        | inr rest ↦
            (let d = closed w gs g n ns text done taken more (none_left text_tested end_tested rest.0) in
            onward r g is (behind_group s w zero) gs' order d read rest.1 walk)
      ]
    where
      closed : (w : Reached) (gs : List (List Name)) (g : ℕ) (n : Name) (ns : List Name) (text : List ℕ) → Done w gs (suc g) → Taken w n ns
          → texts (gs ++ (n ∷ ns) ∷ []) ≡ texts gs ++ text → text_tests output p w.from text ≡ []
          → Done (record w { groups = w.groups - 1; group = w.group + 1; key_before = Some w.key; from = w.from + length text }) (gs ++ (n ∷ ns) ∷ []) g
      closed w gs g n ns text done taken more passes = record {
        next = done.next;
        left = omega (arith, done.left);
        count = omega (arith, done.count, length-append gs ((n ∷ ns) ∷ []));
        all = omega (arith, done.all, length-append gs ((n ∷ ns) ∷ []));
        before = record { front = gs; name = n; names = ns; groups_are = refl; triple = taken.triple; named_is = taken.triple_is; key = taken.key };
        output_is = done.output_is
            ∙ (ap (λ l. texts gs ++ l) (text_stands output p w.from text passes)
            ∙ (sym (append_assoc (texts gs) text (drop (w.from + length text) output)) ∙ ap (λ l. l ++ drop (w.from + length text) output) (sym more)));
        from = omega (arith, done.from, ap length more, length-append (texts gs) text);
      }

  entries_case : (r g : ℕ) (i : Item) (is : List Item) (st : Reached) (gs : List (List Name)) → MayStand (AtEntries r g) i → InOrder (Places.behind (AtEntries r g) i) is → Done st gs (suc g)
      → part.groups ≡ map whole gs ++ groups_in (piece (i ∷ is)) → Tells f (told s st (piece (i ∷ is))) → Walk is → Wrong
  entries_case r g (Entries zero) is st gs h order d reads e walk = absurd (omega (arith, h.0))
  entries_case r g (Entries (suc m)) is st gs h order d reads e walk =
      walk (AtEntry r g m Places.first_name) (record st { entries = suc m; entry = 0 }) gs (suc m) [] order
      (record {
        done = record { next = d.next; left = d.left; count = d.count; all = d.all; before = d.before; output_is = d.output_is; from = d.from };
        entries = refl;
        entry = refl;
        announced = omega arith;
        taken = tt;
      }) reads e
  entries_case r g _ is st gs h order d reads e walk = absurd h

  -- ---- an entry

  -- a group's first entry
  first_wrong : (st : Reached) (t : Triple) (gs : List (List Name)) (g : ℕ) (here : GroupRead) (later : List GroupRead) → Done st gs g
      → part.groups ≡ map whole gs ++ here ∷ later → triple_in s.triples part st.group 0 ≡ Some t
      → Tells f (first_tests s.rules.part p st.group st.key_before t.key) → Wrong
  first_wrong st t gs g here later d reads there e =
      elim (either (passes (s.rules.part t.key == p) (Fault.WrongPartition p st.group 0)) (passes (is_key_past st.key_before t.key) (Fault.KeyOrder p st.group 0)) f e) [
        | inl a ↦
            (let fail = failed (s.rules.part t.key == p) (Fault.WrongPartition p st.group 0) f a in
            subst (IsWrongIn s p part) fail.1 (refl, record { at_first = refl; first = t; named_first = there; elsewhere = λ q. false≢true (sym fail.0 ∙ eq-eqb (s.rules.part t.key) p q) }))
        | inr b ↦
            (let fail = failed (is_key_past st.key_before t.key) (Fault.KeyOrder p st.group 0) f b.1 in
            subst (IsWrongIn s p part) fail.1 (refl, fall st.key_before d.before fail.0))
      ]
    where
      fall : (o : Option (List ℕ)) → LastKey gs o → is_key_past o t.key ≡ false → KeysFall s.triples part st.group 0
      fall None l h = absurd (cc)
      fall (Some k) l h =
          let before : List Name = l.name ∷ l.names in
          let count : length gs ≡ length l.front + 1 = omega (arith, ap length l.groups_are, length-append l.front (before ∷ [])) in
          let read : part.groups ≡ map whole l.front ++ cut (length before) before ∷ (here ∷ later) =
          reads
          ∙ (ap (λ (w : List (List Name)). map whole w ++ here ∷ later) l.groups_are
          ∙ (ap (λ w. w ++ (here ∷ later)) (map-snoc whole l.front before) ∙ append_assoc (map whole l.front) (whole before ∷ []) (here ∷ later))) in
          let name = stands l.front (length before) before [] l.names (here ∷ later) l.name (st.group - 1) 0 read refl (omega (arith, d.count, count)) refl in
          record {
            at_first = refl;
            later = omega (arith, d.count, count);
            before = l.triple;
            first = t;
            before_named = triple_of (st.group - 1) 0 l.name l.triple name l.named_is;
            named_first = there;
            falls = not_less key_order l.triple.key t.key (ap (λ w. is_lt (key_order w t.key)) (sym l.key) ∙ h);
          }

  -- a later entry
  later_wrong : (st : Reached) (t : Triple) (name n : Name) (ns more : List Name) (gs : List (List Name)) (k : ℕ) (later : List GroupRead) → st.group ≡ length gs → Taken st n ns
      → part.groups ≡ map whole gs ++ cut k ((n ∷ ns) ++ name ∷ more) ∷ later → named s.triples name ≡ Some t
      → Tells f (later_tests p st.group (suc (length ns)) st.before name st.key t.key) → Wrong
  later_wrong st t name n ns more gs k later count taken reads named_is e =
      let e' : ℕ = suc (length ns) in
      let here = stands gs k ((n ∷ ns) ++ name ∷ more) (n ∷ ns) more later name st.group e' reads refl count refl in
      elim (either (passes (is_lt (name_order st.before name)) (Fault.EntryOrder p st.group e')) (passes (bytes_eq t.key st.key) (Fault.KeyDiffers p st.group e')) f e) [
        | inl a ↦
            (let fail = failed (is_lt (name_order st.before name)) (Fault.EntryOrder p st.group e') f a in
            let split : (n ∷ ns) ++ name ∷ more ≡ taken.front ++ taken.last ∷ (name ∷ more) = ap (λ l. l ++ name ∷ more) taken.names_are ∙ append_assoc taken.front (taken.last ∷ []) (name ∷ more) in
            let place : e' - 1 ≡ length taken.front = omega (arith, ap length taken.names_are, length-append taken.front (taken.last ∷ [])) in
            subst (IsWrongIn s p part) fail.1 (
              refl,
              record {
                later = omega arith;
                before = taken.last;
                name = name;
                before_stands = stands gs k ((n ∷ ns) ++ name ∷ more) taken.front (name ∷ more) later taken.last st.group (e' - 1) reads split count place;
                stands = here;
                falls = not_less name_order taken.last name (ap (λ w. is_lt (name_order w name)) (sym taken.before) ∙ fail.0);
              },
            ))
        | inr b ↦
            (let fail = failed (bytes_eq t.key st.key) (Fault.KeyDiffers p st.group e') f b.1 in
            let head = stands gs k ((n ∷ ns) ++ name ∷ more) [] (ns ++ name ∷ more) later n st.group 0 reads refl count refl in
            subst (IsWrongIn s p part) fail.1 (
              refl,
              record {
                first = taken.triple;
                other = t;
                first_named = triple_of st.group 0 n taken.triple head taken.triple_is;
                other_named = triple_of st.group e' name t here named_is;
                differs = λ q. false≢true (sym fail.0 ∙ (ap (λ w. bytes_eq w st.key) (q ∙ sym taken.key) ∙ bytes_eq-same st.key));
              },
            ))
      ]

  -- an entry that names a triple
  known : (r g m : ℕ) (name : Name) (t : Triple) (is : List Item) (st : Reached) (gs : List (List Name)) (k : ℕ) (ns : List Name) → named s.triples name ≡ Some t
      → InOrder (Places.entries r g m name) is → Open st gs g k ns (suc m)
      → part.groups ≡ map whole gs ++ cut k (ns ++ name ∷ names_in (piece is)) ∷ groups_in (piece is)
      → Tells f ((order_tests s.rules.part p st name t.key (length ns) ++ group_tests s p (with_entry st t (length ns)) m) ++ told s (behind_group s (with_entry st t (length ns)) m) (piece is))
      → Walk is → Wrong
  known r g m name t is st gs k [] named_is order o reads e walk =
      let d = o.done in
      let w : Reached = with_entry st t 0 in
      let tested : List No = first_tests s.rules.part p st.group st.key_before t.key in
      let here = stands gs k (name ∷ names_in (piece is)) [] (names_in (piece is)) (groups_in (piece is)) name st.group 0 reads refl d.count refl in
      elim (either tested (group_tests s p w m ++ told s (behind_group s w m) (piece is)) f (subst (Tells f) (append_assoc tested (group_tests s p w m) (told s (behind_group s w m) (piece is))) e)) [
        | inl a ↦ first_wrong st t gs (suc g) (cut k (name ∷ names_in (piece is))) (groups_in (piece is)) d reads (triple_of st.group 0 name t here named_is) a
        | inr b ↦ closing r g m name name [] is w gs k order
            (record { next = d.next; left = d.left; count = d.count; all = d.all; before = d.before; output_is = d.output_is; from = d.from })
            (omega (arith, o.entries)) refl (omega (arith, o.announced))
            (record {
              triple = t;
              triple_is = named_is;
              key = refl;
              values = sym (values-snoc s.triples [] name t named_is);
              front = [];
              last = name;
              names_are = refl;
              before = (named-Has s.triples name t named_is).1;
            }) reads b.1 walk
      ]
  known r g m name t is st gs k (n ∷ ns) named_is order o reads e walk =
      let d = o.done in
      let w : Reached = with_entry st t (suc (length ns)) in
      let tested : List No = later_tests p st.group (suc (length ns)) st.before name st.key t.key in
      let read : part.groups ≡ map whole gs ++ cut k ((n ∷ (ns ++ name ∷ [])) ++ names_in (piece is)) ∷ groups_in (piece is) =
      reads ∙ ap (λ l. map whole gs ++ cut k l ∷ groups_in (piece is)) (sym (append_assoc (n ∷ ns) (name ∷ []) (names_in (piece is)))) in
      elim (either tested (group_tests s p w m ++ told s (behind_group s w m) (piece is)) f (subst (Tells f) (append_assoc tested (group_tests s p w m) (told s (behind_group s w m) (piece is))) e)) [
        | inl a ↦ later_wrong st t name n ns (names_in (piece is)) gs k (groups_in (piece is)) d.count o.taken reads named_is a
        | inr b ↦ closing r g m name n (ns ++ name ∷ []) is w gs k order
            (record { next = d.next; left = d.left; count = d.count; all = d.all; before = d.before; output_is = d.output_is; from = d.from })
            (omega (arith, o.entries)) (omega (arith, length-append ns (name ∷ []))) (omega (arith, o.announced, length-append ns (name ∷ [])))
            (record {
              triple = o.taken.triple;
              triple_is = o.taken.triple_is;
              key = o.taken.key;
              values = ap (λ l. l ++ t.value ∷ []) o.taken.values ∙ sym (values-snoc s.triples (n ∷ ns) name t named_is);
              front = n ∷ ns;
              last = name;
              names_are = refl;
              before = (named-Has s.triples name t named_is).1;
            }) read b.1 walk
      ]

  by_places : (T : ℕ → ℕ → ℕ → Type 0) (a b c x y z : ℕ) → a ≡ x → b ≡ y → c ≡ z → T a b c → T x y z
  by_places T a b c x y z i j k h = subst (λ w. T x y w) k (subst (λ w. T x w c) j (subst (λ w. T w b c) i h))

  entry_case : (r g m : ℕ) (b : Name) (i : Item) (is : List Item) (st : Reached) (gs : List (List Name)) (k : ℕ) (ns : List Name) → MayStand (AtEntry r g m b) i
      → InOrder (Places.behind (AtEntry r g m b) i) is → Open st gs g k ns (suc m)
      → part.groups ≡ map whole gs ++ cut k (ns ++ names_in (piece (i ∷ is))) ∷ groups_in (piece (i ∷ is))
      → Tells f (told s st (piece (i ∷ is))) → Walk is → Wrong
  entry_case r g m b (Entry name) is st gs k ns h order o reads e walk = by (named s.triples name) refl e
    where
      next : st.next - 1 ≡ p
      next = omega (arith, o.done.next)

      left : st.entries - 1 ≡ m
      left = omega (arith, o.entries)

      by : (x : Option Triple) → named s.triples name ≡ x → Tells f (entry_tests s (st.next - 1) st name x ++ told s (after_entry s st x) (piece is)) → Wrong
      by None named_is e =
          let same : Fault.NoSuchPair (st.next - 1) st.group st.entry ≡ f = cc in
          subst (IsWrongIn s p part) same (
            next,
            record {
              name = name;
              stands = stands gs k (ns ++ name ∷ names_in (piece is)) ns (names_in (piece is)) (groups_in (piece is)) name st.group st.entry reads refl o.done.count o.entry;
              none = named_is;
            },
          )
      by (Some t) named_is e =
          known r g m name t is st gs k ns named_is order o reads
          (by_places (λ (P E M : ℕ). Tells f ((order_tests s.rules.part P st name t.key E ++ group_tests s P (with_entry st t E) M) ++ told s (behind_group s (with_entry st t E) M) (piece is)))
          (st.next - 1) st.entry (st.entries - 1) p (length ns) m next o.entry left e) walk
  entry_case r g m b _ is st gs k ns h order o reads e walk = absurd h

  -- ---- all items of a partition

  walk : (is : List Item) → Walk is
  walk [] q st gs k ns order inv reads e = absurd (untold f e)
  walk (i ∷ is) q st gs k ns order inv reads e = at q order inv reads e (walk is)
    where
      none : (r : ℕ) (i : Item) → MayStand (AtGroups r) i → Tells f (told s st (piece (i ∷ is))) → ⊥
      none r (Groups n) h e = untold f e
      none r _ h e = h

      ended : (i : Item) → MayStand AtEnd i → Tells f (told s st (piece (i ∷ is))) → ⊥
      ended End h e = untold f e
      ended _ h e = h

      at : (q : GrammarState) → InOrder q (i ∷ is) → Inv q st gs k ns → Reads q gs k ns (piece (i ∷ is)) → Tells f (told s st (piece (i ∷ is))) → Walk is → Wrong
      at (AtEntries r g) order inv reads e w = entries_case r g i is st gs order.0 order.1 inv reads e w
      at (AtEntry r g m b) order inv reads e w = entry_case r g m b i is st gs k ns order.0 order.1 inv reads e w
      at (AtGroups r) order inv reads e w = absurd (none r i order.0 e)
      at AtEnd order inv reads e w = absurd (ended i order.0 e)
      at _ order inv reads e w = absurd inv

  -- what a partition's items tell is wrong in it
  pub part_wrong : (r n : ℕ) (js : List Item) → InOrder (AtGroups r) (Groups n ∷ js) → part ≡ part_read (Groups n ∷ piece js)
      → Tells f (told s (record start { next = p }) (Groups n ∷ piece js)) → Wrong
  part_wrong r n js order read e =
      let st : Reached = after s (record start { next = p }) (Groups n) in
      let groups : part.groups ≡ groups_in (piece js) = ap (λ (w : PartRead). w.groups) read in
      let all : part.announced ≡ n = ap (λ (w : PartRead). w.announced) read in
      elim (either (end_tests output p n 0) (told s st (piece js)) f e) [
        | inl a ↦ end_wrong [] (groups_in (piece js)) n 0 groups (omega (arith, all)) refl refl a
        | inr b ↦ onward r n js st [] order.1 (record { next = omega arith; left = refl; count = refl; all = omega (arith, all); before = tt; output_is = refl; from = refl }) groups b.1 (walk js)
      ]
