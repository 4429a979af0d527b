-- What `explain` is asked, and what it prints.
use Rattle.std.proofs.Common.{◌≡◌, ℕ, ◌≤◌, ◌<◌, ◌^◌, Bool, true, false, cond, nat_lt, Option, None, Some, List, [], ◌∷◌, ◌++◌, length, map, refl, sym, ap, ◌∙◌, subst, arith, option_map}
use Rattle.std.proofs.lemmas.List.{length-map}
use Rattle.mr_bytes.specs.declared.RecordName.{RecordName}
use Rattle.mr_jobs.specs.JobSpec.{RequestSpec}
use Rattle.mr_splits.specs.Cut.{Cut, records_of}
use Rattle.mr_splits.specs.Kept.{first_fault, list_fault as fault_in_list}
use Rattle.mr_splits.specs.declared.kept_records.SkipFault.TheVariants.{TooMany}
use Rattle.mr_store.specs.Devices.{Seen, flushed, with_bytes}
use Rattle.mr_sequential.proofs.SkipLaws.{good_skips, told, told-first}
use Rattle.mr_sequential.specs.Skips.{list_fault, skip_fault}
use Rattle.mr_sequential.specs.declared.sequence.RunFault.TheVariants.{TooManySkips}
use Rattle.mr_files.specs.Holding.{Stored}
use Rattle.mr_explain.specs.declared.query.SourceFile.{SourceFile}
use Rattle.mr_explain.specs.declared.query.Query.{Query}
use Rattle.mr_splits.specs.Named.{named_records}
use Rattle.mr_explain.specs.Explained.{explanation}
use Rattle.mr_commands.specs.Facts.{AreExplainFacts, IsCounted, sizes}
use Rattle.mr_commands.specs.declared.counts.Facts.{Facts}
use Rattle.mr_commands.specs.declared.counts.Facts.TheVariants.{Evidence, Job, Nothing, Verdict}
use Rattle.mr_args.specs.SkipList.{SpellsNames}
use Rattle.mr_args.specs.declared.request.ExplainOptions.{ExplainOptions}
use Rattle.mr_args.specs.Asked.{request_asked}
use Rattle.mr_commands.specs.Explains.{AnswersExplain, AreLinesBefore, Compares, IsComparedPart, IsQueryOf, IsSought, source_told, sources_from}
use Rattle.mr_commands.specs.Inputs.{IsRunInput}
use Rattle.mr_commands.specs.Named.{input_names}
use Rattle.mr_commands.specs.declared.input.RunInput.{RunInput}

-- ---- left-out records

-- the fault of a list over a plan is the one that `seq` tells
pub fault_told : (request : RequestSpec) (cut : Cut) (skips : List RecordName) → cut.size ≡ request.split
    → told (fault_in_list (records_of cut) request.skips skips) ≡ skip_fault request cut.files skips
fault_told request cut skips e = by (nat_lt request.skips (length skips))
  where
    by : (t : Bool) → told (cond t (Some TooMany) (first_fault (records_of cut) None skips))
        ≡ cond t (Some TooManySkips) (list_fault (named_records request.split cut.files) None skips)
    by true = refl
    by false = told-first (records_of cut) None skips ∙ ap (λ (n : ℕ). list_fault (named_records n cut.files) None skips) e

pub few_skips : (request : RequestSpec) (files : List (List ℕ)) (skips : List RecordName) → request.skips ≤ 1000 → skip_fault request files skips ≡ None → length skips < 2 ^ 32
few_skips request files skips few none = omega (arith, few, ((good_skips request files skips).0 none).0)

-- ---- how files are printed

pub many_sources : (lines bytes : ℕ) (names : List (List ℕ)) → length (sources_from lines bytes names) ≡ length names
many_sources lines bytes [] = refl
many_sources lines bytes (n ∷ ns) = omega (arith, many_sources 0 0 ns)

-- one for each file
pub one_each : (sources : List SourceFile) (lines bytes : ℕ) (names files : List (List ℕ)) → map source_told sources ≡ sources_from lines bytes names
    → length names ≡ length files → length sources ≡ length files
one_each sources lines bytes names files is many = sym (length-map sources source_told) ∙ ap length is ∙ many_sources lines bytes names ∙ many

-- ---- what is answered

-- the query over what the job runs on is the one that is asked for
pub query_asked : (holds : Stored) (o : ExplainOptions) (run : RunInput) (q : Query) (lines : ℕ)
    → IsRunInput holds o.options o.skips.now run → AreLinesBefore holds o.options lines → q.job.now ≡ run.request.job → q.plan.now.size ≡ run.request.split → q.plan.now.files ≡ run.input
    → q.skips.now ≡ run.skips.items → skip_fault run.request q.plan.now.files q.skips.now ≡ None
    → map source_told q.sources.now ≡ sources_from lines o.options.from (input_names o.options) → IsSought (option_map (λ s. s.now) o.key) q.wanted → q.limit ≡ o.limit
    → IsQueryOf holds o q
query_asked holds o run q lines i l j n f s allowed sources sought limit = record {
  files = run.input;
  lines = lines;
  input = i.input;
  before = l;
  job = j ∙ ap (λ (v : RequestSpec). v.job) i.request;
  size = n ∙ ap (λ (v : RequestSpec). v.split) i.request;
  files_are = f;
  spelled = subst (SpellsNames o.skips.now) (sym s) i.spelled;
  allowed = sym (ap (λ (v : RequestSpec). skip_fault v run.input q.skips.now) i.request) ∙ sym (ap (λ (l : List (List ℕ)). skip_fault run.request l q.skips.now) f) ∙ allowed;
  sources = sources;
  sought = sought;
  limit = limit;
}

-- what was asked for is printed
pub explained : (holds : Stored) (o : ExplainOptions) (run : RunInput) (q : Query) (part : Option (List ℕ)) (before after : Seen) (status : ℕ)
    → ((text : List ℕ) × Compares q q.wanted part text status × (after ≡ flushed (with_bytes before (explanation q ++ text))))
    → IsQueryOf holds o q → run.request ≡ request_asked o.options
    → IsComparedPart holds run.request (option_map (λ s. s.now) o.result) (option_map (λ s. s.now) o.key) part
    → AnswersExplain holds o before after status
explained holds o run q part before after status h asked request compared = record {
  query = q;
  part = part;
  text = h.0;
  asked = asked;
  compared = subst (λ (v : RequestSpec). IsComparedPart holds v (option_map (λ s. s.now) o.result) (option_map (λ s. s.now) o.key) part) request compared;
  said = h.1;
  printed = h.2;
}

-- what is known besides
pub known_so : (holds : Stored) (o : ExplainOptions) (q : Query) (lengths : List ℕ) (facts : Facts) → IsQueryOf holds o q → lengths ≡ sizes q.plan.now.files
    → IsCounted q lengths facts → AreExplainFacts holds o facts
known_so holds o q lengths (Job j) asked these h = absurd h
known_so holds o q lengths (Verdict v) asked these h = absurd h
known_so holds o q lengths Nothing asked these h = absurd h
known_so holds o q lengths (Evidence inputs e) asked these h = record { query = q; asked = asked; lengths = h.0 ∙ these; kept = h.1; left_out = h.2 }
