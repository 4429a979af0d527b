-- The stages of a run, and what each leaves.
use Rattle.std.proofs.Common.{◌≡◌, ◌⊎◌, ◌≤◌, ℕ, List, [], ◌∷◌, ◌++◌, Option, None, Some, inl, inr, ap, sym, ◌∙◌, subst, take}
use Rattle.std.proofs.lemmas.List.{length-map}
use Rattle.std.specs.Prelude.{IfSome, length, string_bytes}
use Rattle.mr_input.specs.Files.{contents}
use Rattle.mr_jobs.specs.JobSpec.{RequestSpec}
use Rattle.mr_script.specs.declared.script.Directive.{Directive}
use Rattle.mr_files.specs.Refusals.{IsOneUnwritten, IsUnwritten, IsUnwrittenAt, IsWriteRefusal}
use Rattle.mr_files.specs.Holding.{Begins, ChangesAmong, Differs, Faulty, Holding, Stored}
use Rattle.mr_files.specs.Identities.{AreApart, Known}
use Rattle.mr_files.specs.Names.{part_names, result_names}
use Rattle.mr_files.specs.declared.store.FileFault.{FileFault}
use Rattle.mr_files.specs.declared.store.FileFault.TheVariants as file
use Rattle.mr_book.specs.declared.book.History.{History}
use Rattle.mr_pool.specs.Outcomes.{run_shape}
use Rattle.mr_pool.specs.declared.running.Certified.{Certified}
use Rattle.mr_args.specs.declared.fault.Fault.{Fault}
use Rattle.mr_args.specs.declared.request.RunOptions.{RunOptions}
use Rattle.mr_commands.specs.declared.running.RunOutcome.{RunOutcome}
use Rattle.mr_commands.specs.HistoryLines.{history_text}
use Rattle.mr_args.specs.Asked.{request_asked}
use Rattle.mr_commands.specs.Inputs.{IsInput, IsInputRefusal}
use Rattle.mr_commands.specs.Named.{named, stretch_of}
use Rattle.mr_args.specs.Statuses.{ReportsFile}
use Rattle.mr_commands.specs.OldVerdicts.{ChangesOver, StoodThere, no_text}
use Rattle.mr_commands.specs.Runs.{AreGood, BeginsHistory, EndsOver, IsHistoryKept, IsResultKept, IsResultRefused, IsResultStopped, IsScratchClash, IsScratchRefusal, IsScript, IsScriptRefusal, IsStartRefusal, IsStoppedAt, IsUnkept, KeepsHistory, KeepsResult, Runs, history_name, history_of, names_left, read_by_run, scratch_name, script_name, written_by_run}

module _ (holds : Stored) (unreadable : Faulty) (alike : List ℕ → List ℕ → Type 0) (known : Known) (o : RunOptions) where
  pub script_stage : (e : Fault) → AreGood o → IsScriptRefusal holds unreadable (script_name o) e → IsStartRefusal holds unreadable alike known o e
  script_stage e a h = inr (inr (inl (a, h)))

  pub input_stage : (script : List Directive) (request : RequestSpec) (e : Fault) → request ≡ request_asked o.options → AreGood o → IsScript holds (script_name o) script
      → IsInputRefusal holds unreadable known (stretch_of o.options) (read_by_run o) (written_by_run o) request.split e → IsStartRefusal holds unreadable alike known o e
  input_stage script request e r a s h =
      inr (inr (inr (inl (a, (script, s), subst (λ (s : ℕ). IsInputRefusal holds unreadable known (stretch_of o.options) (read_by_run o) (written_by_run o) s e) (ap (λ (v : RequestSpec). v.split) r) h))))

  pub scratch_stage : (script : List Directive) (files : List (List ℕ)) (request : RequestSpec) (e : Fault) → request ≡ request_asked o.options → AreGood o
      → IsScript holds (script_name o) script → IsInput holds (stretch_of o.options) request.split files → AreApart known (read_by_run o) (written_by_run o)
      → IsScratchClash alike (read_by_run o ++ written_by_run o) (scratch_name o) e ⊎ IsScratchRefusal (scratch_name o) e → IsStartRefusal holds unreadable alike known o e
  scratch_stage script files request e r a s i apart h =
      inr (inr (inr (inr (a, (script, s), (files, subst (λ (s : ℕ). IsInput holds (stretch_of o.options) s files) (ap (λ (v : RequestSpec). v.split) r) i), apart, h))))

  pub runs : (script : List Directive) (files : List (List ℕ)) (request : RequestSpec) (ran : RunOutcome)
      → request ≡ request_asked o.options → IsScript holds (script_name o) script → IsInput holds (stretch_of o.options) request.split files → AreApart known (read_by_run o) (written_by_run o)
      → EndsOver (scratch_name o) request files script (run_shape request files o.workers o.attempts) o.version ran → Runs holds known o ran
  runs script files request ran r s i apart h = record {
    files = files;
    script = script;
    input = subst (λ (s : ℕ). IsInput holds (stretch_of o.options) s files) (ap (λ (v : RequestSpec). v.split) r) i;
    apart = apart;
    scripted = s;
    ends = subst (λ (v : RequestSpec). EndsOver (scratch_name o) v files script (run_shape v files o.workers o.attempts) o.version ran) r h;
  }

-- a file that can't be written, of one name or of several
pub one_unwritten : (unwritable : List ℕ → Type 0) (name : List ℕ) (e : FileFault) → IsUnwritten unwritable name e → IsOneUnwritten unwritable (name ∷ []) e
one_unwritten unwritable name (file.CannotRead told) h = h
one_unwritten unwritable name (file.CannotWrite told) h = ([], [], ap (λ n. n ∷ []) (sym h.1), subst unwritable (sym h.1) h.0)
one_unwritten unwritable name file.OutOfMemory h = tt

-- ---- one write behind another

apart : (opt : Option (List ℕ)) (n : List ℕ) (names : List (List ℕ)) → Differs n (named opt ++ names) → Differs n (named opt) × Differs n names
apart None n names d = (tt, d)
apart (Some m) n names d = ((d.0, tt), d.1)

first_alone : (opt : Option (List ℕ)) (n : List ℕ) → Differs n (named opt) → Differs n (named opt ++ [])
first_alone None n d = tt
first_alone (Some m) n d = d

both : (old mid new : List ℕ → List ℕ → Type 0) (opt : Option (List ℕ)) (names : List (List ℕ)) → ChangesAmong old mid (named opt) → ChangesAmong mid new names → ChangesAmong old new (named opt ++ names)
both old mid new opt names p q n b d =
    let ds = apart opt n names d in
    (λ h. (q n b ds.1).0 ((p n b ds.0).0 h), λ h. (p n b ds.0).1 ((q n b ds.1).1 h))

alone : (old mid new : List ℕ → List ℕ → Type 0) (opt : Option (List ℕ)) → ChangesAmong old mid (named opt) → ChangesAmong mid new [] → ChangesAmong old new (named opt)
alone old mid new opt p q n b d = both old mid new opt [] p q n b (first_alone opt n d)

-- a name that is none of several
joined : (opt : Option (List ℕ)) (n : List ℕ) (names : List (List ℕ)) → Differs n (named opt) → Differs n names → Differs n (named opt ++ names)
joined None n names d e = e
joined (Some m) n names d e = (d.0, e)

-- a history was written, then a result over a verdict
all_three : (old mid new : List ℕ → List ℕ → Type 0) (opt verdict : Option (List ℕ)) (names : List (List ℕ))
    → ChangesAmong old mid (named opt) → ChangesAmong mid new (named verdict ++ names) → ChangesAmong old new (named verdict ++ (named opt ++ names))
all_three old mid new opt verdict names p q n b d =
    let first = apart verdict n (named opt ++ names) d in
    let rest = apart opt n names first.1 in
    let last = q n b (joined verdict n names first.0 rest.1) in
    (λ h. last.0 ((p n b rest.0).0 h), λ h. (p n b rest.0).1 (last.1 h))

-- a history alone was written
pub history_alone : (old new : Stored) (o : RunOptions) → ChangesAmong old new (named (history_name o)) → ChangesOver old new o.options.out.now (written_by_run o)
history_alone old new o p = (None, tt, λ n b d. p n b (apart (history_name o) n (result_names o.options.out.now o.options.parts) d).0)

module _ (old mid new : Stored) (known : Known) (verdict : Option (List ℕ)) (o : RunOptions) where
  count_is : (c : Certified) → Runs old known o (RunOutcome.Certified c) → length c.outputs.items ≡ o.options.parts
  count_is c r = sym (length-map c.outputs.items (λ v. v.items)) ∙ r.ends.2.judged.count

  pub written : (ran : RunOutcome) → Runs old known o ran → StoodThere old o.options.out.now verdict → ChangesAmong old mid (named (history_name o)) → ChangesAmong mid new (names_left verdict o.options.out.now ran)
      → ChangesOver old new o.options.out.now (written_by_run o)
  written (RunOutcome.Certified c) r there p q = (
    verdict,
    there,
    all_three old mid new (history_name o) verdict (result_names o.options.out.now o.options.parts) p
        (subst (λ (k : ℕ). ChangesAmong mid new (named verdict ++ result_names o.options.out.now k)) (count_is c r) q),
  )
  written (RunOutcome.Failed f h) r there p q = (None, tt, both old mid new (history_name o) (result_names o.options.out.now o.options.parts) p (λ n b d. q n b tt))
  written (RunOutcome.Uncertified v h) r there p q = (None, tt, both old mid new (history_name o) (result_names o.options.out.now o.options.parts) p (λ n b d. q n b tt))

  pub result_kept : (ran : RunOutcome) → Runs old known o ran → ChangesAmong old mid (named (history_name o)) → ChangesAmong mid new (names_left verdict o.options.out.now ran)
      → IsResultKept new verdict o.options.out.now ran → KeepsResult old new verdict o ran
  result_kept (RunOutcome.Certified c) r p q k = (subst (λ (n : ℕ). Holding new (part_names o.options.out.now n) (contents c.outputs.items)) (count_is c r) k.0, k.1, k.2)
  result_kept (RunOutcome.Failed f h) r p q k = alone old mid new (history_name o) p q
  result_kept (RunOutcome.Uncertified v h) r p q k = alone old mid new (history_name o) p q

  left_alone : (ran : RunOutcome) (n : List ℕ) → Runs old known o ran → Differs n (named verdict ++ result_names o.options.out.now o.options.parts) → Differs n (names_left verdict o.options.out.now ran)
  left_alone (RunOutcome.Certified c) n r d = subst (λ (k : ℕ). Differs n (named verdict ++ result_names o.options.out.now k)) (sym (count_is c r)) d
  left_alone (RunOutcome.Failed f h) n r d = tt
  left_alone (RunOutcome.Uncertified v h) n r d = tt

  stands : (opt : Option (List ℕ)) (ran : RunOutcome) → Runs old known o ran → ChangesAmong mid new (names_left verdict o.options.out.now ran) → IsHistoryKept mid opt (history_of ran)
      → IfSome opt (λ name. Differs name (named verdict ++ result_names o.options.out.now o.options.parts) → new name (history_text (history_of ran)))
  stands None ran r q k = tt
  stands (Some name) ran r q k = λ d. (q name (history_text (history_of ran)) (left_alone ran name r d)).0 k

  pub history_kept : (ran : RunOutcome) → Runs old known o ran → ChangesAmong mid new (names_left verdict o.options.out.now ran) → IsHistoryKept mid (history_name o) (history_of ran) → KeepsHistory new verdict o ran
  history_kept ran r q k = stands (history_name o) ran r q k

  -- what stands under a name that isn't the history's came before it
  begins_before : (name text : List ℕ) → ChangesAmong old mid (named (history_name o)) → Begins mid new name text → Differs name (named (history_name o)) → Begins old new name text
  begins_before name text p begins d b stands = was_there (begins b stands)
    where
      was_there : (mid name b ⊎ ((k : ℕ) × (k ≤ length text) × (b ≡ take k text))) → (old name b ⊎ ((k : ℕ) × (k ≤ length text) × (b ≡ take k text)))
      was_there (inl h) = inl ((p name b d).1 h)
      was_there (inr h) = inr h

  still_stands : (opt : Option (List ℕ)) (h : History) (names : List (List ℕ)) → IsHistoryKept mid opt h → ChangesAmong mid new names → IfSome opt (λ own. Differs own names → new own (history_text h))
  still_stands None h names k q = tt
  still_stands (Some own) h names k q = λ d. (q own (history_text h) d).0 k

  stopped_at : (was is : List ℕ → Type 0) (c : Certified) (name : List ℕ) → ((n : List ℕ) → is n → was n) → Runs old known o (RunOutcome.Certified c) → ChangesAmong old mid (named (history_name o)) → IsHistoryKept mid (history_name o) c.history
      → IsUnwrittenAt mid new is (named verdict ++ result_names o.options.out.now o.options.parts) (no_text verdict ++ (contents c.outputs.items ++ c.certificate.items ∷ [])) name → IsStoppedAt old new was verdict o c name
  stopped_at was is c name still r p k u = record {
    before = u.before;
    after = u.after;
    written = u.written;
    text = u.text;
    left = u.left;
    names_are = u.names_are;
    texts_are = u.texts_are;
    refused = still name u.refused;
    whole = u.whole;
    begins = begins_before name u.text p u.begins;
    history = still_stands (history_name o) c.history (u.before ++ name ∷ []) k u.others;
    others = both old mid new (history_name o) (u.before ++ name ∷ []) p u.others;
  }

  stopped_as : (was is : List ℕ → Type 0) (c : Certified) (e : FileFault) (f : Fault) → ((n : List ℕ) → is n → was n) → Runs old known o (RunOutcome.Certified c) → ChangesAmong old mid (named (history_name o)) → IsHistoryKept mid (history_name o) c.history
      → IsWriteRefusal mid new is (named verdict ++ result_names o.options.out.now o.options.parts) (no_text verdict ++ (contents c.outputs.items ++ c.certificate.items ∷ [])) e → ReportsFile e f → IsResultStopped old new was verdict o c f
  stopped_as was is c (file.CannotRead told) f still r p k h t = absurd h
  stopped_as was is c (file.CannotWrite told) f still r p k h t = rw t (stopped_at was is c (string_bytes told) still r p k h)
  stopped_as was is c file.OutOfMemory f still r p k h t = rw t tt

  pub unkept_result : (was is : List ℕ → Type 0) (ran : RunOutcome) (e : FileFault) (f : Fault) → ((n : List ℕ) → is n → was n) → Runs old known o ran
      → ChangesAmong old mid (named (history_name o)) → IsHistoryKept mid (history_name o) (history_of ran)
      → IsResultRefused mid new is verdict o.options.out.now ran e → ReportsFile e f → IsUnkept old new was verdict o ran f
  unkept_result was is (RunOutcome.Certified c) e f still r p k h t = inr (stopped_as was is c e f still r p k (subst (λ (n : ℕ). IsWriteRefusal mid new is (named verdict ++ result_names o.options.out.now n) (no_text verdict ++ (contents c.outputs.items ++ c.certificate.items ∷ [])) e) (count_is c r) h) t)
  unkept_result was is (RunOutcome.Failed x y) e f still r p k h t = absurd h
  unkept_result was is (RunOutcome.Uncertified v y) e f still r p k h t = absurd h

  pub unkept_history : (was : List ℕ → Type 0) (ran : RunOutcome) (e : FileFault) (f : Fault) → BeginsHistory old new o ran → IsOneUnwritten was (named (history_name o)) e → ReportsFile e f → IsUnkept old new was verdict o ran f
  unkept_history was (RunOutcome.Certified c) e f p h t = inl (p, (e, t, h))
  unkept_history was (RunOutcome.Failed x y) e f p h t = (p, (e, t, h))
  unkept_history was (RunOutcome.Uncertified v y) e f p h t = (p, (e, t, h))
