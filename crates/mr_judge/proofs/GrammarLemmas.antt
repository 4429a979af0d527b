-- Behind the items of a request and of an input the number of left-out records comes next.
use Rattle.std.proofs.Common.{◌≡◌, ℕ, zero, suc, Bool, true, false, cond, List, [], ◌∷◌, ◌++◌, length, map, refl, ap, subst}
use Rattle.std.specs.Prelude.{Ok, Err, Result, Option, Some, None, nat_le}
use Rattle.std.proofs.lemmas.Bool.{false≢true, eqb-true}
use Rattle.mr_bytes.specs.declared.Name.{Name}
use Rattle.mr_jobs.specs.JobSpec.{RequestSpec, job_literal}
use Rattle.mr_certform.specs.declared.grammar_state.Item.{Item}
use Rattle.mr_certform.specs.declared.grammar_state.Item.TheVariants.{Magic, Job, Flags, LiteralLength, LiteralByte, Parts, SplitSize, Files, FileLength, Skips, Skip, Groups, Entries, Entry, End}
use Rattle.mr_certform.specs.declared.grammar_state.GrammarState.{GrammarState}
use Rattle.mr_certform.specs.declared.grammar_state.GrammarState.TheVariants.{AtMagic, AtParts, AtFiles, AtSkips, AtGroups, AtEntries, AtEntry, AtEnd, Behind}
use Rattle.mr_certform.specs.Places.{behind, literal_bytes, file_lengths, partitions, skips, groups, entries, first_name}
use Rattle.mr_judge.specs.Kinds.{IsOfKind}
use Rattle.mr_verdict.specs.declared.answers.No.{No}
use Rattle.mr_verdict.specs.Verdict.{item_eq, job_wanted, input_wanted, last_of}
use Rattle.mr_verdict.specs.Steps.{met, no_skip, skips_in_front, awaits_skips, Counted, counted, listed, unless, skip_fault, Listed}
use Rattle.mr_verdict.specs.declared.answers.No.TheVariants.{TooManySkips}
use Rattle.mr_bytes.specs.declared.RecordName.{RecordName}
use Rattle.mr_splits.specs.Named.{NamedRecord}

-- the wanted item is the one that is met
same_item : (i w : Item) → item_eq i w ≡ true → i ≡ w
same_item Magic Magic e = refl
same_item (Job m) (Job n) e = ap Job (eqb-true m n e)
same_item (Flags m) (Flags n) e = ap Flags (eqb-true m n e)
same_item (LiteralLength m) (LiteralLength n) e = ap LiteralLength (eqb-true m n e)
same_item (LiteralByte m) (LiteralByte n) e = ap LiteralByte (eqb-true m n e)
same_item (Parts m) (Parts n) e = ap Parts (eqb-true m n e)
same_item (SplitSize m) (SplitSize n) e = ap SplitSize (eqb-true m n e)
same_item (Files m) (Files n) e = ap Files (eqb-true m n e)
same_item (FileLength m) (FileLength n) e = ap FileLength (eqb-true m n e)
same_item i w e = absurd (false≢true e)

-- the place behind items
abbrev place_behind : GrammarState → List Item → GrammarState
place_behind p [] = p
place_behind p (w ∷ ws) = place_behind (behind p w) ws

-- a list of items that goes along the places, each of the kind that is awaited where it stands
module _ (Along : GrammarState → List Item → Type 0) (goes : (p : GrammarState) (i : Item) (is : List Item) → Along p (i ∷ is) → IsOfKind p i × Along (behind p i) is) where
  met_order : (at : ℕ) (ws : List Item) (f : No) (p : GrammarState) (is js : List Item) → Along p is → met at ws f is ≡ Ok js → Along (place_behind p ws) js
  met_order at [] f p is js h e = let same : is ≡ js = cc e in subst (Along p) same h
  met_order at (w ∷ ws) f p [] js h e = absurd (cc e)
  met_order at (w ∷ ws) f p (i ∷ is) js h e = by (item_eq i w) refl e (λ q. met_order at ws f q is js)
    where
      by : (b : Bool) → item_eq i w ≡ b → cond b (met at ws f is) (Err f) ≡ Ok js → ((q : GrammarState) → Along q is → met at ws f is ≡ Ok js → Along (place_behind q ws) js) → Along (place_behind (behind p w) ws) js
      by true same d more = more (behind p w) (subst (λ k. Along (behind p k) is) (same_item i w same) (goes p i is h).1) d
      by false same d more = absurd (cc d)

  behind_literal : (bs : List ℕ) (ws : List Item) → place_behind (literal_bytes (length bs)) (map LiteralByte bs ++ ws) ≡ place_behind AtParts ws
  behind_literal [] ws = refl
  behind_literal (b ∷ bs) ws = behind_literal bs ws

  behind_lengths : (r : ℕ) (files : List (List ℕ)) → place_behind (file_lengths r (length files)) (map (λ (f : List ℕ). FileLength (length f)) files) ≡ AtSkips r
  behind_lengths r [] = refl
  behind_lengths r (f ∷ files) = behind_lengths r files

  behind_job : (o : RequestSpec) → place_behind AtMagic (job_wanted o) ≡ AtFiles o.parts
  behind_job o = behind_literal (job_literal o.job) (Parts o.parts ∷ SplitSize o.split ∷ [])

  behind_input : (r : ℕ) (files : List (List ℕ)) → place_behind (AtFiles r) (input_wanted files) ≡ AtSkips r
  behind_input r files = behind_lengths r files

  -- ---- no left-out record comes once the partitions have begun

  abbrev Late : GrammarState → Type 0
  Late (AtGroups r) = Unit {0}
  Late (AtEntries r g) = Unit {0}
  Late (AtEntry r g n before) = Unit {0}
  Late AtEnd = Unit {0}
  Late Behind = Unit {0}
  Late _ = ⊥

  late_partitions : (n : ℕ) → Late (partitions n)
  late_partitions zero = tt
  late_partitions (suc n) = tt

  late_groups : (r n : ℕ) → Late (groups r n)
  late_groups r zero = late_partitions r
  late_groups r (suc n) = tt

  late_entries : (r g n : ℕ) (before : Name) → Late (entries r g n before)
  late_entries r g zero before = late_groups r g
  late_entries r g (suc n) before = tt

  late : (p : GrammarState) (is : List Item) → Late p → Along p is → no_skip is ≡ true
  late p [] l h = refl
  late (AtGroups r) (Groups n ∷ is) l h = late (groups r n) is (late_groups r n) (goes (AtGroups r) (Groups n) is h).1
  late (AtGroups r) (i ∷ is) l h = absurd (goes (AtGroups r) i is h).0
  late (AtEntries r g) (Entries n ∷ is) l h = late (entries r g n first_name) is (late_entries r g n first_name) (goes (AtEntries r g) (Entries n) is h).1
  late (AtEntries r g) (i ∷ is) l h = absurd (goes (AtEntries r g) i is h).0
  late (AtEntry r g n before) (Entry name ∷ is) l h = late (entries r g n name) is (late_entries r g n name) (goes (AtEntry r g n before) (Entry name) is h).1
  late (AtEntry r g n before) (i ∷ is) l h = absurd (goes (AtEntry r g n before) i is h).0
  late AtEnd (End ∷ is) l h = late Behind is tt (goes AtEnd End is h).1
  late AtEnd (i ∷ is) l h = absurd (goes AtEnd i is h).0
  late Behind (i ∷ is) l h = absurd (goes Behind i is h).0
  late p (i ∷ is) l h = absurd l

  front : (r n : ℕ) (is : List Item) → Along (skips r n) is → skips_in_front n is ≡ true
  front r zero is h = late (partitions r) is (late_partitions r) h
  front r (suc n) [] h = refl
  front r (suc n) (Skip s ∷ is) h = front r n is (goes (skips r (suc n)) (Skip s) is h).1
  front r (suc n) (i ∷ is) h = absurd (goes (skips r (suc n)) i is h).0

  pub awaits : (r : ℕ) (is : List Item) → Along (AtSkips r) is → awaits_skips is ≡ true
  awaits r [] h = refl
  awaits r (Skips n ∷ is) h = front r n is (goes (AtSkips r) (Skips n) is h).1
  awaits r (i ∷ is) h = absurd (goes (AtSkips r) i is h).0

  -- in a certificate of this order and these files
  pub skips_place : (o : RequestSpec) (files : List (List ℕ)) (a b : ℕ) (f g : No) (is js ks : List Item) → Along AtMagic is → met a (job_wanted o) f is ≡ Ok js → met b (input_wanted files) g js ≡ Ok ks → Along (AtSkips o.parts) ks
  skips_place o files a b f g is js ks h e d =
      let one : Along (AtFiles o.parts) js = subst (λ p. Along p js) (behind_job o) (met_order a (job_wanted o) f AtMagic is js h e) in
      subst (λ p. Along p ks) (behind_input o.parts files) (met_order b (input_wanted files) g (AtFiles o.parts) js ks one d)

  pub skips_come : (o : RequestSpec) (files : List (List ℕ)) (a b : ℕ) (f g : No) (is js ks : List Item) → Along AtMagic is → met a (job_wanted o) f is ≡ Ok js → met b (input_wanted files) g js ≡ Ok ks → awaits_skips ks ≡ true
  skips_come o files a b f g is js ks h e d = awaits o.parts ks (skips_place o files a b f g is js ks h e d)

  -- ---- behind the left-out records the partitions come

  counted_place : (r at most : ℕ) (is : List Item) (k : Counted) → Along (AtSkips r) is → counted at most is ≡ Ok k → Along (skips r k.many) k.behind
  counted_place r at most [] k h e = absurd (cc e)
  counted_place r at most (Skips n ∷ is) k h e = by (nat_le n most) e
    where
      by : (b : Bool) → cond b (Ok (record { many = n; behind = is })) (Err (TooManySkips n)) ≡ Ok k → Along (skips r k.many) k.behind
      by true d = let same : record { many = n; behind = is } ≡ k = cc d in subst (λ (w : Counted). Along (skips r w.many) w.behind) same (goes (AtSkips r) (Skips n) is h).1
      by false d = absurd (cc d)
  counted_place r at most (i ∷ is) k h e = absurd (goes (AtSkips r) i is h).0

  -- the items behind them
  abbrev items_behind : Result Listed No → List Item
  items_behind (Ok l) = l.behind
  items_behind (Err e) = []

  unless_ok : (o : Option No) (r : Result Listed No) (l : Listed) → unless o r ≡ Ok l → r ≡ Ok l
  unless_ok None r l e = e
  unless_ok (Some f) r l e = absurd (cc e)

  listed_place : (rs : List NamedRecord) (at : ℕ) (done : List RecordName) (r n : ℕ) (is : List Item) (l : Listed) → Along (skips r n) is → listed rs at n done is ≡ Ok l → Along (partitions r) l.behind
  listed_place rs at done r zero is l h e = subst (Along (partitions r)) (ap items_behind e) h
  listed_place rs at done r (suc n) [] l h e = absurd (cc e)
  listed_place rs at done r (suc n) (Skip s ∷ is) l h e =
      listed_place rs at (done ++ s ∷ []) r n is l (goes (skips r (suc n)) (Skip s) is h).1 (unless_ok (skip_fault rs (last_of done) s (length done)) (listed rs at n (done ++ s ∷ []) is) l e)
  listed_place rs at done r (suc n) (i ∷ is) l h e = absurd (goes (skips r (suc n)) i is h).0

  pub partitions_place : (rs : List NamedRecord) (r at other most : ℕ) (is : List Item) (k : Counted) (l : Listed) → Along (AtSkips r) is → counted at most is ≡ Ok k → listed rs other k.many [] k.behind ≡ Ok l → Along (partitions r) l.behind
  partitions_place rs r at other most is k l h e d = listed_place rs other [] r k.many k.behind l (counted_place r at most is k h e) d
