-- The verdict is yes exactly where the result is good.
use Rattle.std.proofs.Common.{◌≡◌, ℕ, ◌+◌, ◌<◌, ◌≤◌, true, cond, Option, Some, None, Result, Ok, List, [], ◌∷◌, ◌++◌, length, map, refl, ap, sym, ◌∙◌, subst, inl, inr, arith, ◌==◌, nat_le, nat_lt}
use Rattle.std.proofs.lemmas.Bool.{eqb-true, eq-eqb, leb-true, le-leb, le-ltb}
use Rattle.std.specs.List.{AllByRecursion, flat_map}
use Rattle.mr_bytes.specs.declared.Name.{Name}
use Rattle.mr_bytes.specs.declared.RecordName.{RecordName}
use Rattle.mr_bytes.specs.Lists.{Has}
use Rattle.mr_input.specs.Files.{nth_file}
use Rattle.mr_jobs.specs.JobSpec.{RequestSpec}
use Rattle.mr_splits.specs.Named.{named_records}
use Rattle.mr_certform.specs.declared.grammar_state.Item.{Item}
use Rattle.mr_certform.specs.declared.grammar_state.Item.TheVariants.{Skips, Skip, End}
use Rattle.mr_certform.specs.declared.grammar_state.GrammarState.{GrammarState}
use Rattle.mr_certform.specs.declared.grammar_state.GrammarState.TheVariants.{AtMagic, AtEnd, Behind}
use Rattle.mr_certform.specs.Grammar.{MayStand, InOrder}
use Rattle.mr_certform.specs.Places as Places
use Rattle.mr_certform.specs.Spelling.{items_of, is_ended, stop}
use Rattle.mr_certform.specs.Value.{Contents, input_items, skip_items, part_items, certificate_items, Spells, GroupFits, PartFits}
use Rattle.mr_certform.proofs.Certificates.{spelled_items, ended_items}
use Rattle.mr_certform.proofs.Walks.{read_front, ended_more}
use Rattle.mr_bytes.proofs.ListLaws.{Has-append_right}
use Rattle.mr_sequential.proofs.SkipLaws.{good_skips}
use Rattle.mr_sequential.specs.declared.sequence.RunFault.{RunFault}
use Rattle.mr_sequential.specs.declared.sequence.RunFault.TheVariants.{TooManySkips}
use Rattle.mr_bytes.specs.Pairs.{Triple}
use Rattle.mr_sequential.specs.Emitted.{emitted}
use Rattle.mr_sequential.specs.Good.{IsGoodPart, entries_of, groups_at}
use Rattle.mr_sequential.specs.Skips.{list_fault}
use Rattle.mr_verdict.specs.declared.answers.No.{No}
use Rattle.mr_verdict.specs.declared.answers.No.TheVariants as Fault
use Rattle.mr_verdict.specs.Verdict.{WalkCase, Subject, passes, start, part_faults, subject_of, skip_faults, count_faults, job_wanted, input_wanted, wanted_faults, faults, Accepted, accepted_by, told_by, case_of, verdict_of}
use Rattle.mr_verdict.specs.VerdictLaws.{told, behind, YesIsGood, GoodIsYes}
use Rattle.mr_verdict.proofs.VerdictTests.{none_left, none_right, none_both, passed, passes-true}
use Rattle.mr_sequential.proofs.EntryLaws.{EachFrom, each_from, from_each, no_more_entries}
use Rattle.mr_verdict.proofs.VerdictParts.{HaveEntries, parts_good, parts_pass, parts_faults}
use Rattle.mr_verdict.proofs.VerdictHeader.{told_none, wanted_none, job_pass, input_pass, SameJob, job_is, job_same, input_is, input_same, to_end, skips_none, skips_pass, count_none, count_ends, nothing, accepted_all}

-- ---- the items end

-- nothing follows an end that stands where it may
ends_at : (p : GrammarState) (is : List Item) → InOrder p is → Has is End → is_ended is ≡ true
ends_at p [] h has = absurd has
ends_at p (i ∷ is) h (inr has) = ended_more i is (ends_at (Places.behind p i) is h.1 has)
ends_at p (i ∷ is) h (inl e) = last p i is h e
  where
    none : (p : GrammarState) (is : List Item) → p ≡ Behind → InOrder p is → is ≡ []
    none p [] b h = refl
    none p (i ∷ is) b h = absurd (subst (λ w. MayStand w i) b h.0)

    behind_end : (p : GrammarState) → MayStand p End → Places.behind p End ≡ Behind
    behind_end AtEnd h = refl
    behind_end _ h = absurd h

    last : (p : GrammarState) (i : Item) (is : List Item) → InOrder p (i ∷ is) → i ≡ End → is_ended (i ∷ is) ≡ true
    last p i is h e =
        let at_end : MayStand p End = subst (λ w. MayStand p w) e h.0 in
        let rest : InOrder (Places.behind p End) is = subst (λ w. InOrder (Places.behind p w) is) e h.1 in
        let empty : is ≡ [] = none (Places.behind p End) is (behind_end p at_end) rest in
        ap (λ w. is_ended (w ∷ is)) e ∙ ap (λ w. is_ended (End ∷ w)) empty

have_entries : (gs : List (List Name)) → AllByRecursion GroupFits gs → HaveEntries gs
have_entries [] h = tt
have_entries (ns ∷ gs) h = ((h.0).some_entry, have_entries gs h.1)

parts_have : (parts : List (List (List Name))) → AllByRecursion PartFits parts → AllByRecursion HaveEntries parts
parts_have [] h = tt
parts_have (gs ∷ parts) h = (have_entries gs (h.0).groups, parts_have parts h.1)

-- ---- yes means good

-- a certificate whose items tell no fault
record Untold (K : WalkCase) (c : Contents) : Type 0 where
  job : SameJob c K.request
  lengths : c.lengths ≡ map length K.files
  few : length c.skips ≤ K.request.skips
  listed : ◌≡◌ {A = Option RunFault} (list_fault (named_records K.request.split K.files) None c.skips) None
  parts : part_faults (subject_of K c.skips) K.stop start (to_end c.groups) ≡ []

-- what stands behind the wanted items
record Front (K : WalkCase) (is : List Item) : Type 0 where
  outputs : length K.outputs ≡ K.request.parts
  behind_job : List Item
  behind_input : List Item
  job : is ≡ job_wanted K.request ++ behind_job
  input : behind_job ≡ input_wanted K.files ++ behind_input
  count : count_faults K behind_input ≡ []

front_of : (K : WalkCase) (is : List Item) → faults K is ≡ [] → Front K is
front_of K is h =
    let test : List No = passes (length K.outputs == K.request.parts) Fault.OutputCount in
    let outputs = passed _ _ (none_left test _ h) in
    let job = wanted_none K (job_wanted K.request) Fault.OtherJob (wanted_faults K (input_wanted K.files) Fault.OtherInput (count_faults K)) is (none_right test _ h) in
    let input = wanted_none K (input_wanted K.files) Fault.OtherInput (count_faults K) job.0 job.2 in
    record { outputs = eqb-true _ _ outputs; behind_job = job.0; behind_input = input.0; job = job.1; input = input.1; count = input.2 }

front_ends : (K : WalkCase) (is : List Item) → Front K is → Has is End
front_ends K is f =
    let ends = count_ends K f.behind_input f.count in
    let input : Has f.behind_job End = subst (λ w. Has w End) (sym f.input) (Has-append_right (input_wanted K.files) f.behind_input End ends) in
    subst (λ w. Has w End) (sym f.job) (Has-append_right (job_wanted K.request) f.behind_job End input)

untold : (K : WalkCase) (is : List Item) (c : Contents) → Front K is → is ≡ certificate_items c → Untold K c
unfolding certificate_items
untold K is c f same =
    let job = job_same c K.request (input_items c ++ (skip_items c ++ to_end c.groups)) f.behind_job (sym same ∙ f.job) in
    let input = input_same c K.files (skip_items c ++ to_end c.groups) f.behind_input (job.1 ∙ f.input) in
    let n = count_none K f.behind_input f.count in
    let items : Skips (length c.skips) ∷ (map Skip c.skips ++ to_end c.groups) ≡ Skips n.0 ∷ n.1 = input.1 ∙ n.2 in
    let count : n.0 ≡ length c.skips = cc in
    let rest : n.1 ≡ map Skip c.skips ++ to_end c.groups = cc in
    let skips = skips_none K c.skips [] c.groups (ap (skip_faults K []) (sym rest) ∙ n.4) in
    record { job = job.0; lengths = input.0; few = omega (arith, count, n.3); listed = skips.0; parts = skips.1 }

pub yes_is_good : YesIsGood
unfolding verdict_of certificate_items
yes_is_good request files outputs bytes a are_bytes says =
    let none = told_none (faults (case_of request files outputs bytes) (items_of bytes)) (accepted_by nothing (items_of bytes)) a says in
    let front = front_of (case_of request files outputs bytes) (items_of bytes) none.0 in
    let ended = ends_at AtMagic (items_of bytes) ((read_front bytes are_bytes).0) (front_ends (case_of request files outputs bytes) (items_of bytes) front) in
    let found = ended_items bytes are_bytes ended in
    let c : Contents = found.0 in
    let u = untold (case_of request files outputs bytes) (items_of bytes) c front found.1 in
    let s : Subject = subject_of (case_of request files outputs bytes) c.skips in
    let ts : List Triple = emitted request.job request.split files c.skips in
    let whole = sym (parts_faults s (stop bytes) start c.groups) ∙ u.parts in
    let fits = found.2.is.fits in
    let each = parts_good s c.groups start (parts_have c.groups fits.groups) (none_left (told s start (flat_map part_items c.groups)) _ whole) in
    let pass = parts_pass s c.groups start each in
    let enough : length ts ≤ (behind s start (flat_map part_items c.groups)).named = leb-true _ _ (passed _ _ (none_right (told s start (flat_map part_items c.groups)) _ whole)) in
    let goods : (p : ℕ) → p < length c.groups → IsGoodPart s.rules ts p (groups_at c.groups p) (nth_file outputs p) =
    λ p l. (let here : 0 + p ≡ p = omega arith in
    subst (λ n. IsGoodPart s.rules ts n (groups_at c.groups p) (nth_file outputs n)) here (from_each (λ n gs. IsGoodPart s.rules ts n gs (nth_file outputs n)) [] 0 c.groups each p l)) in
    let most = no_more_entries s.rules.part ts c.groups (λ p l. (goods p l).groups) in
    let all : length (entries_of c.groups) ≡ length ts = omega (arith, enough, pass.named, most) in
    let skips = (good_skips request files c.skips).0 (listed request files c.skips u.few u.listed) in
    let parts : length c.groups ≡ request.parts = fits.one_each ∙ u.job.parts in
    let told_is : accepted_by nothing (items_of bytes) ≡ record { skips = c.skips; pairs = length (entries_of c.groups) } = ap (accepted_by nothing) found.1 ∙ accepted_all c in (
      record {
        certificate = c;
        spelled = found.2;
        good = record {
          job = u.job.job;
          flags = u.job.flags;
          literal = u.job.literal;
          parts = u.job.parts;
          split_size = u.job.size;
          lengths = u.lengths;
          skips_rise = skips.1;
          skips_exist = skips.2;
          skips_few = skips.0;
          one_each = parts;
          result = record {
            one_each = front.outputs ∙ sym parts;
            each = goods;
            none_left_out = all;
          };
        };
      },
      sym none.1 ∙ (told_is ∙ ap (λ (n : ℕ). let it : Accepted = record { skips = c.skips; pairs = n } in it) all),
    )
  where
    listed : (request : RequestSpec) (files : List (List ℕ)) (skips : List RecordName) → length skips ≤ request.skips → ◌≡◌ {A = Option RunFault} (list_fault (named_records request.split files) None skips) None
        → ◌≡◌ {A = Option RunFault} (cond (nat_lt request.skips (length skips)) (Some TooManySkips) (list_fault (named_records request.split files) None skips)) None
    listed request files skips few h = ap (λ b. cond b (Some TooManySkips) (list_fault (named_records request.split files) None skips)) (le-ltb request.skips (length skips) few) ∙ h

-- ---- good means yes

-- the items of a certificate are those of the job, of the input, of the left-out records and of the partitions
items_are : (o : RequestSpec) (files : List (List ℕ)) (c : Contents) → SameJob c o → c.lengths ≡ map length files
    → certificate_items c ≡ job_wanted o ++ (input_wanted files ++ (skip_items c ++ to_end c.groups))
unfolding certificate_items
items_are o files c job lengths =
    ap (λ w. w ++ (input_items c ++ (skip_items c ++ to_end c.groups))) (job_is c o job)
    ∙ ap (λ w. job_wanted o ++ (w ++ (skip_items c ++ to_end c.groups))) (input_is c files lengths)

-- a list of left-out records that is as it should be has no fault
unlisted : (request : RequestSpec) (files : List (List ℕ)) (skips : List RecordName) → length skips ≤ request.skips
    → ◌≡◌ {A = Option RunFault} (cond (nat_lt request.skips (length skips)) (Some TooManySkips) (list_fault (named_records request.split files) None skips)) None
    → ◌≡◌ {A = Option RunFault} (list_fault (named_records request.split files) None skips) None
unlisted request files skips few h = ap (λ b. cond b (Some TooManySkips) (list_fault (named_records request.split files) None skips)) (sym (le-ltb request.skips (length skips) few)) ∙ h

-- what the items of a certificate tell of a good result
told_items : (bytes : List ℕ) (c : Contents) → Spells bytes c → accepted_by nothing (items_of bytes) ≡ record { skips = c.skips; pairs = length (entries_of c.groups) }
unfolding certificate_items
told_items bytes c spells = ap (accepted_by nothing) (spelled_items bytes c spells) ∙ accepted_all c

pub good_is_yes : GoodIsYes
unfolding verdict_of
good_is_yes request files outputs bytes it =
    let c : Contents = it.certificate in
    let spells = it.spelled in
    let good = it.good in
    let s : Subject = subject_of (case_of request files outputs bytes) c.skips in
    let ts : List Triple = emitted request.job request.split files c.skips in
    let job : SameJob c request = record { job = good.job; flags = good.flags; literal = good.literal; parts = good.parts; size = good.split_size } in
    let items : items_of bytes ≡ job_wanted request ++ (input_wanted files ++ (skip_items c ++ to_end c.groups)) = spelled_items bytes c spells ∙ items_are request files c job good.lengths in
    let outputs_are : length outputs ≡ request.parts = good.result.one_each ∙ good.one_each in
    let each : EachFrom (λ p gs. IsGoodPart s.rules ts p gs (nth_file outputs p)) 0 c.groups =
    each_from (λ p gs. IsGoodPart s.rules ts p gs (nth_file outputs p)) [] 0 c.groups
    (λ p l. (let here : p ≡ 0 + p = omega arith in subst (λ n. IsGoodPart s.rules ts n (groups_at c.groups p) (nth_file outputs n)) here (good.result.each p l))) in
    let pass = parts_pass s c.groups start each in
    let all : length ts ≤ (behind s start (flat_map part_items c.groups)).named = omega (arith, pass.named, good.result.none_left_out) in
    let parts : part_faults s (stop bytes) start (to_end c.groups) ≡ [] =
    parts_faults s (stop bytes) start c.groups
    ∙ none_both (told s start (flat_map part_items c.groups)) _ pass.none (passes-true _ (Fault.Unnamed (length ts) (behind s start (flat_map part_items c.groups)).named) (le-leb _ _ all)) in
    let listed = unlisted request files c.skips good.skips_few ((good_skips request files c.skips).1 (good.skips_few, good.skips_rise, good.skips_exist)) in
    let skips : skip_faults (case_of request files outputs bytes) [] (map Skip c.skips ++ to_end c.groups) ≡ [] = skips_pass (case_of request files outputs bytes) c.skips [] c.groups listed ∙ parts in
    let count : count_faults (case_of request files outputs bytes) (skip_items c ++ to_end c.groups) ≡ [] =
    none_both (passes (nat_le (length c.skips) request.skips) (Fault.TooManySkips (length c.skips))) _ (passes-true _ _ (le-leb _ _ good.skips_few)) skips in
    let input = input_pass (case_of request files outputs bytes) (count_faults (case_of request files outputs bytes)) (skip_items c ++ to_end c.groups) ∙ count in
    let wanted = job_pass (case_of request files outputs bytes) (wanted_faults (case_of request files outputs bytes) (input_wanted files) Fault.OtherInput (count_faults (case_of request files outputs bytes))) (input_wanted files ++ (skip_items c ++ to_end c.groups)) ∙ input in
    let none : faults (case_of request files outputs bytes) (items_of bytes) ≡ [] =
    ap (faults (case_of request files outputs bytes)) items
    ∙ none_both (passes (length outputs == request.parts) Fault.OutputCount) _ (passes-true _ _ (eq-eqb _ _ outputs_are)) wanted in
    let told_is : accepted_by nothing (items_of bytes) ≡ record { skips = c.skips; pairs = length (entries_of c.groups) } = told_items bytes c spells in
    ap (λ w. told_by w (accepted_by nothing (items_of bytes))) none
    ∙ ap (λ (a : Accepted). let it : Result Accepted No = Ok a in it) (told_is ∙ ap (λ (n : ℕ). let it : Accepted = record { skips = c.skips; pairs = n } in it) good.result.none_left_out)
