-- What the program says, and why it says nothing.
use Rattle.std.proofs.Common.{◌≡◌, ◌<◌, ℕ, true, Option, None, Some, List, inr, ap, sym, ◌∙◌, subst, length, [], ◌∷◌, ◌++◌}
use Rattle.std.proofs.lemmas.List.{length-map}
use Rattle.std.specs.Prelude.{Vec}
use Rattle.std.specs.Global.{Global}
use Rattle.mr_input.specs.Files.{contents, nth_file}
use Rattle.mr_splits.specs.Named.{named_records}
use Rattle.mr_sequential.specs.Emitted.{emitted, silent_count}
use Rattle.mr_sequential.specs.Sequential.{sequential}
use Rattle.mr_commands.specs.Facts.{IsKnownWork, KnowsJob}
use Rattle.mr_commands.specs.declared.counts.JobFacts.{JobFacts}
use Rattle.mr_files.specs.Refusals.{IsWriteRefusal}
use Rattle.mr_files.specs.declared.store.FileFault.{FileFault}
use Rattle.mr_args.specs.declared.fault.Fault.{Fault}
use Rattle.mr_args.specs.declared.request.Options.{Options}
use Rattle.mr_args.specs.declared.request.SeqOptions.{SeqOptions}
use Rattle.mr_jobs.specs.JobSpec.{RequestSpec}
use Rattle.mr_files.specs.Holding.{ChangesAmong, Faulty, Holding, Stored}
use Rattle.mr_files.specs.Identities.{AreApart, Known}
use Rattle.mr_files.specs.Names.{name_of_certificate, part_names, result_names}
use Rattle.mr_certform.specs.declared.version.Version.{Version}
use Rattle.mr_certform.specs.Pieces.{versioned_bytes}
use Rattle.mr_certform.specs.Value.{Contents, SpellsIn, Versioned}
use Rattle.mr_commands.specs.Outcomes.{IsSequentialResult, done_line}
use Rattle.mr_args.specs.Asked.{request_asked}
use Rattle.mr_args.specs.declared.fault.Fault.TheVariants.{NoPairs}
use Rattle.mr_sequential.specs.Skips.{skip_fault}
use Rattle.mr_commands.specs.OldVerdicts.{ChangesOver, IsEmptied, IsOldVerdict, StoodThere, no_text}
use Rattle.mr_commands.specs.Answers.{AnswersSeq, HasPairs, IsPairless, IsRunRefusal, IsWorkRefusal, IsSeqRefusal, WorksOut, written_by_seq}
use Rattle.mr_commands.proofs.JudgingRefused.{stopped_as}
use Rattle.mr_commands.specs.Inputs.{IsAsked, IsInputRefusal, IsRunInput, IsRunInputRefusal}
use Rattle.mr_commands.specs.declared.input.RunInput.{RunInput}
use Rattle.mr_commands.specs.Named.{input_names, named, stretch_of}
use Rattle.mr_args.specs.Statuses.{ReportsFile}
use Rattle.mr_bytes.specs.declared.RecordName.{RecordName}
use Rattle.mr_args.specs.SkipList.{SpellsNames}

pub run_input_stage : (holds : Stored) (unreadable : Faulty) (known : Known) (o : Options) (text : List ℕ) (written : List (List ℕ)) (skips : List RecordName) (request : RequestSpec) (e : Fault)
    → request ≡ request_asked o → IsAsked o → SpellsNames text skips
    → IsInputRefusal holds unreadable known (stretch_of o) (input_names o) written request.split e → IsRunInputRefusal holds unreadable known o text written e
run_input_stage holds unreadable known o text written skips request e r a s h =
    inr (inr (a, (skips, s), subst (λ (s : ℕ). IsInputRefusal holds unreadable known (stretch_of o) (input_names o) written s e) (ap (λ (v : RequestSpec). v.split) r) h))

-- what a job runs on is tested but for the list over the input
pub work_run_stage : (holds : Stored) (unreadable : Faulty) (known : Known) (o : Options) (text : List ℕ) (written : List (List ℕ)) (run : RunInput) (e : Fault)
    → IsRunInput holds o text run → AreApart known (input_names o) written → IsRunRefusal run.request run.input run.skips.items e → IsWorkRefusal holds unreadable known o text written e
work_run_stage holds unreadable known o text written run e i apart h =
    inr (i.asked, (run.input, run.skips.items, i.input, apart, i.spelled, subst (λ (v : RequestSpec). IsRunRefusal v run.input run.skips.items e) i.request h))

pub works_out : (holds : Stored) (known : Known) (o : SeqOptions) (run : RunInput) (outputs : List (List ℕ)) (bytes line : List ℕ)
    → IsRunInput holds o.options o.skips.now run → AreApart known (input_names o.options) (written_by_seq o)
    → IsSequentialResult o.version run.request run.input run.skips.items outputs bytes
    → line ≡ done_line run.request.parts (length (emitted run.request.job run.request.split run.input run.skips.items)) (length run.skips.items)
    → HasPairs o.need_pairs (length (emitted run.request.job run.request.split run.input run.skips.items)) → WorksOut holds known o outputs bytes line
works_out holds known o run outputs bytes line i apart h l some = record {
  files = run.input;
  names = run.skips.items;
  input = i.input;
  apart = apart;
  spelled = i.spelled;
  result = subst (λ (v : RequestSpec). IsSequentialResult o.version v run.input run.skips.items outputs bytes) i.request h;
  said = subst (λ (v : RequestSpec). line ≡ done_line v.parts (length (emitted v.job v.split run.input run.skips.items)) (length run.skips.items)) i.request l;
  pairs = subst (λ (v : RequestSpec). HasPairs o.need_pairs (length (emitted v.job v.split run.input run.skips.items))) i.request some;
}

-- what the work knows besides
pub known_work : (holds : Stored) (o : SeqOptions) (run : RunInput) (outputs : List (List ℕ)) (line : List ℕ) (pairs : ℕ) (job : JobFacts)
    → IsRunInput holds o.options o.skips.now run → ((p : ℕ) → p < run.request.parts → nth_file outputs p ≡ sequential run.request run.input run.skips.items p)
    → line ≡ done_line run.request.parts (length (emitted run.request.job run.request.split run.input run.skips.items)) (length run.skips.items)
    → pairs ≡ length (emitted run.request.job run.request.split run.input run.skips.items)
    → KnowsJob run.input outputs (Some (length (named_records run.request.split run.input)))
    (Some (silent_count run.request.job run.request.split run.input run.skips.items)) (Some (length run.skips.items)) (Some pairs) job
    → IsKnownWork holds o line job
known_work holds o run outputs line pairs job i texts l p knows = record {
  files = run.input;
  names = run.skips.items;
  outputs = outputs;
  input = i.input;
  spelled = i.spelled;
  texts = subst (λ (v : RequestSpec). (p : ℕ) → p < v.parts → nth_file outputs p ≡ sequential v run.input run.skips.items p) i.request texts;
  said = subst (λ (v : RequestSpec). line ≡ done_line v.parts (length (emitted v.job v.split run.input run.skips.items)) (length run.skips.items)) i.request l;
  knows = record {
    inputs = knows.inputs;
    parts = knows.parts;
    records_are = knows.records_are ∙ ap (λ (v : RequestSpec). Some (length (named_records v.split run.input))) i.request;
    silent_are = knows.silent_are ∙ ap (λ (v : RequestSpec). Some (silent_count v.job v.split run.input run.skips.items)) i.request;
    left_out_are = knows.left_out_are;
    pairs_are = knows.pairs_are ∙ ap Some p ∙ ap (λ (v : RequestSpec). Some (length (emitted v.job v.split run.input run.skips.items))) i.request;
  };
}

-- pairs are needed, and there are none
pub pairless : (holds : Stored) (known : Known) (o : SeqOptions) (run : RunInput)
    → IsRunInput holds o.options o.skips.now run → AreApart known (input_names o.options) (written_by_seq o)
    → skip_fault run.request run.input run.skips.items ≡ None → o.need_pairs ≡ true
    → length (emitted run.request.job run.request.split run.input run.skips.items) ≡ 0 → IsPairless holds known o NoPairs
pairless holds known o run i apart allowed needed none = (
  needed,
  run.input,
  run.skips.items,
  i.input,
  apart,
  i.spelled,
  subst (λ (v : RequestSpec). skip_fault v run.input run.skips.items ≡ None) i.request allowed,
  subst (λ (v : RequestSpec). length (emitted v.job v.split run.input run.skips.items) ≡ 0) i.request none,
)

-- the bytes that are written spell the certificate in the version that was asked for
pub spelled_so : (version : Version) (certificate : Contents) (s : Versioned) → s ≡ record { version = version; certificate = certificate }
    → SpellsIn s.version (versioned_bytes s) s.certificate → SpellsIn version (versioned_bytes s) certificate
spelled_so version certificate s e h = subst (λ (v : Versioned). SpellsIn v.version (versioned_bytes s) v.certificate) e h

-- as many files are written as there are partitions
pub all_parts : (old : Stored) (known : Known) (o : SeqOptions) (outputs given : List (Vec ℕ Global)) (bytes line : List ℕ)
    → WorksOut old known o (contents outputs) bytes line → given ≡ outputs → length given ≡ o.options.parts
all_parts old known o outputs given bytes line work same = ap length same ∙ (sym (length-map outputs (λ o. o.items)) ∙ work.result.count)

module _ (old new : Stored) (unreadable unwritable : Faulty) (known : Known) (verdict : Option (List ℕ)) (o : SeqOptions) (outputs given : List (Vec ℕ Global)) (bytes line : List ℕ) where
  -- the result was not all written
  pub stopped_stage : (e : FileFault) (f : Fault)
      → WorksOut old known o (contents outputs) bytes line → given ≡ outputs → IsOldVerdict old unreadable known o.options.out.now verdict
      → IsWriteRefusal old new unwritable (named verdict ++ result_names o.options.out.now (length given)) (no_text verdict ++ (contents given ++ bytes ∷ [])) e → ReportsFile e f
      → IsSeqRefusal old new unreadable unwritable known o f
  stopped_stage e f work same there h t =
      let all : length given ≡ o.options.parts = all_parts old known o outputs given bytes line work same in
      let texts : contents given ++ bytes ∷ [] ≡ contents outputs ++ bytes ∷ [] = ap (λ (v : List (Vec ℕ Global)). contents v ++ bytes ∷ []) same in
      inr (inr (contents outputs, bytes, line, verdict, work, there, stopped_as old new unwritable (named verdict ++ written_by_seq o) (no_text verdict ++ (contents outputs ++ bytes ∷ [])) e f (subst (λ (v : List (List ℕ)). IsWriteRefusal old new unwritable (named verdict ++ written_by_seq o) (no_text verdict ++ v) e) texts (subst (λ (n : ℕ). IsWriteRefusal old new unwritable (named verdict ++ result_names o.options.out.now n) (no_text verdict ++ (contents given ++ bytes ∷ [])) e) all h)) t))

  -- so nothing else changed
  pub changed_own : WorksOut old known o (contents outputs) bytes line → given ≡ outputs → StoodThere old o.options.out.now verdict
      → ChangesAmong old new (named verdict ++ result_names o.options.out.now (length given)) → ChangesOver old new o.options.out.now (result_names o.options.out.now o.options.parts)
  changed_own work same there h =
      (verdict, there, subst (λ (n : ℕ). ChangesAmong old new (named verdict ++ result_names o.options.out.now n)) (all_parts old known o outputs given bytes line work same) h)

  -- and the result stands there
  pub answers_seq : WorksOut old known o (contents outputs) bytes line → given ≡ outputs → IsOldVerdict old unreadable known o.options.out.now verdict
      → AreApart known (input_names o.options) (named verdict) → IsEmptied new verdict
      → Holding new (part_names o.options.out.now (length given)) (contents given) → new (name_of_certificate o.options.out.now) bytes → AnswersSeq old new unreadable known o line
  answers_seq work same there unread none parts certificate = record {
    files = work.files;
    names = work.names;
    outputs = contents outputs;
    bytes = bytes;
    input = work.input;
    apart = work.apart;
    spelled = work.spelled;
    result = work.result;
    parts = subst (λ (n : ℕ). Holding new (part_names o.options.out.now n) (contents outputs)) (all_parts old known o outputs given bytes line work same)
        (subst (λ (v : List (Vec ℕ Global)). Holding new (part_names o.options.out.now (length given)) (contents v)) same parts);
    certificate = certificate;
    said = work.said;
    pairs = work.pairs;
    verdict = verdict;
    stood = there;
    emptied = none;
    unread = unread;
  }
