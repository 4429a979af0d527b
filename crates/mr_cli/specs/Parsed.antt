-- The options, as the parsed line has them.
use Rattle.std.specs.Prelude.{◌≡◌, ◌≢◌, ℕ, ◌-◌, ◌<◌, ◌^◌, Bool, true, false, Option, None, Some, List, [], map, option_map, unwrap_or, codes}
use Rattle.std.specs.Option.{option_map_or}
use Rattle.std.specs.Str.Parse.{IsNumeral, digits_value, without_leading_plus}
use Rattle.clap.specs.Matches.{matched_of, raw_values, first_value, one_text}
use Rattle.clap.specs.declared.parser.matches.Found.{Found}
use Rattle.clap.specs.Walk.{Row, rows_of}
use Rattle.mr_certform.specs.declared.version.Version.{Version}
use Rattle.mr_certform.specs.declared.version.Version.TheVariants.{V1, V2}
use Rattle.mr_args.specs.declared.request.Options.{Options}
use Rattle.mr_args.specs.declared.request.CheckOptions.{CheckOptions}
use Rattle.mr_args.specs.declared.request.ExplainOptions.{ExplainOptions}
use Rattle.mr_args.specs.declared.request.MergeOptions.{MergeOptions}
use Rattle.mr_args.specs.declared.request.PictureOptions.{PictureOptions}
use Rattle.mr_args.specs.declared.request.RunOptions.{RunOptions}
use Rattle.mr_args.specs.declared.request.SeqOptions.{SeqOptions}
use Rattle.mr_args.specs.declared.request.Subcommand.{Subcommand}
use Rattle.mr_args.specs.declared.request.Subcommand.TheVariants.{Seq, Run, Check, Merge, Verify, Explain, Picture}
use Rattle.mr_args.specs.Asked.{Names}
use Rattle.mr_shard_files.specs.declared.verifying.VerifyPlan.{VerifyPlan}

-- decimal digits, a plus allowed in front, whose number is below this one
abbrev pub WritesNumber : ℕ → List ℕ → Type 0
WritesNumber most text = IsNumeral 10 (without_leading_plus text) × (digits_value 10 (without_leading_plus text) < most)

-- the number of 32 bits that the text writes; without one, the number that stands for none
abbrev pub IsNumberOf : Option (List ℕ) → ℕ → ℕ → Type 0
IsNumberOf None none n = n ≡ none
IsNumberOf (Some text) none n = (WritesNumber (2 ^ 32) text → n ≡ digits_value 10 (without_leading_plus text)) × (¬ WritesNumber (2 ^ 32) text → n ≡ none)

-- the number below that one that the text writes; none without one
abbrev pub IsNumberIn : ℕ → Option (List ℕ) → Option ℕ → Type 0
IsNumberIn most None n = n ≡ None
IsNumberIn most (Some text) n = (WritesNumber most text → n ≡ Some (digits_value 10 (without_leading_plus text))) × (¬ WritesNumber most text → n ≡ None)

-- that of 64 bits
abbrev pub IsByteOf : Option (List ℕ) → Option ℕ → Type 0
IsByteOf text n = IsNumberIn (2 ^ 64) text n

abbrev pub IsFlagOf : Option (List ℕ) → Bool → Type 0
IsFlagOf None flag = flag ≡ false
IsFlagOf (Some text) flag = (text ≡ codes "true" → flag ≡ true) × (text ≡ codes "false" → flag ≡ false)

-- 2 is the number of version 2; any other asks for version 1
abbrev pub NumbersVersion : ℕ → Version → Type 0
NumbersVersion n V1 = n ≢ 2
NumbersVersion n V2 = n ≡ 2

-- the version of the number that the text writes; without one, version 1
abbrev pub IsVersionOf : Option (List ℕ) → Version → Type 0
IsVersionOf text version = (n : ℕ) × IsNumberOf text 1 n × NumbersVersion n version

-- each option is that of its own name, and where the line doesn't have it, what the program takes for it
pub record AreOptionsOf (found : Found) (o : Options) : Type 0 where
  pub job : Names (unwrap_or (first_value found (codes "job")) (codes "words")) o.job
  pub parts : IsNumberOf (one_text found (codes "parts")) 1 o.parts
  pub split : IsNumberOf (one_text found (codes "split")) (2 ^ 26) o.split
  pub max_skips : IsNumberOf (one_text found (codes "max-skips")) 0 o.max_skips
  pub from : (n : Option ℕ) × IsByteOf (one_text found (codes "from")) n × (o.from ≡ unwrap_or n 0)
  pub to : IsByteOf (one_text found (codes "to")) o.to
  pub keep_case : IsFlagOf (one_text found (codes "keep-case")) o.keep_case
  pub fold : IsFlagOf (one_text found (codes "fold")) o.fold
  pub by_host : IsFlagOf (one_text found (codes "by-host")) o.by_host
  pub field : IsNumberIn (2 ^ 32) (one_text found (codes "field")) o.field
  pub separator : option_map (λ s. s.now) o.separator ≡ first_value found (codes "separator")
  pub literal : option_map (λ s. s.now) o.literal ≡ first_value found (codes "literal")
  pub out : o.out.now ≡ unwrap_or (first_value found (codes "out")) (codes ".")
  pub files : map (λ s. s.now) o.files.items ≡ option_map_or raw_values (matched_of found (codes "files")) []

-- the same of a sequential execution
pub record AreSeqOptionsOf (found : Found) (o : SeqOptions) : Type 0 where
  pub options : AreOptionsOf found o.options
  pub skips : o.skips.now ≡ unwrap_or (first_value found (codes "skips")) []
  pub version : IsVersionOf (one_text found (codes "cert")) o.version
  pub need_pairs : IsFlagOf (one_text found (codes "need-pairs")) o.need_pairs

-- the same of a run by workers
pub record AreRunOptionsOf (found : Found) (o : RunOptions) : Type 0 where
  pub options : AreOptionsOf found o.options
  pub workers : IsNumberOf (one_text found (codes "workers")) 4 o.workers
  pub attempts : IsNumberOf (one_text found (codes "attempts")) 8 o.attempts
  pub version : IsVersionOf (one_text found (codes "cert")) o.version
  pub script : option_map (λ s. s.now) o.script ≡ first_value found (codes "script")
  pub history : option_map (λ s. s.now) o.history ≡ first_value found (codes "history")
  pub picture : option_map (λ s. s.now) o.picture ≡ first_value found (codes "picture")
  pub scratch : option_map (λ s. s.now) o.scratch ≡ first_value found (codes "scratch")
  pub need_pairs : IsFlagOf (one_text found (codes "need-pairs")) o.need_pairs

-- the same of a judgement
pub record AreCheckOptionsOf (found : Found) (o : CheckOptions) : Type 0 where
  pub options : AreOptionsOf found o.options
  pub threads : IsNumberOf (one_text found (codes "threads")) 1 o.threads
  pub verdict : option_map (λ s. s.now) o.verdict ≡ first_value found (codes "verdict")

-- the same of a merge
pub record AreMergeOptionsOf (found : Found) (o : MergeOptions) : Type 0 where
  pub out : o.out.now ≡ unwrap_or (first_value found (codes "out")) (codes ".")
  pub inputs : option_map (λ s. s.now) o.inputs ≡ first_value found (codes "inputs")
  pub partial : IsFlagOf (one_text found (codes "partial")) o.partial
  pub verdicts : map (λ s. s.now) o.verdicts.items ≡ option_map_or raw_values (matched_of found (codes "verdicts")) []

-- the same of a result that is tested again
pub record IsVerifyPlanOf (found : Found) (o : VerifyPlan) : Type 0 where
  pub verdict : o.verdict.now ≡ unwrap_or (first_value found (codes "verdict")) []
  pub out : option_map (λ s. s.now) o.out ≡ first_value found (codes "out")
  pub inputs : IsFlagOf (one_text found (codes "with-inputs")) o.inputs

-- the same of the evidence behind a count
pub record AreExplainOptionsOf (found : Found) (o : ExplainOptions) : Type 0 where
  pub options : AreOptionsOf found o.options
  pub skips : o.skips.now ≡ unwrap_or (first_value found (codes "skips")) []
  pub key : option_map (λ s. s.now) o.key ≡ first_value found (codes "key")
  pub limit : (n : Option ℕ) × IsByteOf (one_text found (codes "limit")) n × (o.limit ≡ unwrap_or n (2 ^ 64 - 1))
  pub result : option_map (λ s. s.now) o.result ≡ first_value found (codes "out")

-- the same of a history that is drawn
pub record ArePictureOptionsOf (found : Found) (o : PictureOptions) : Type 0 where
  pub history : o.history.now ≡ unwrap_or (first_value found (codes "history")) []
  pub page : o.page.now ≡ unwrap_or (first_value found (codes "out")) []

-- the subcommand is that of its own name, and its options are those of its matches
abbrev pub IsAskedBy : Option (List ℕ) → Option (List Row) → Subcommand → Type 0
IsAskedBy name rows (Seq o) = (name ≡ Some (codes "seq")) × ((found : Found) × (rows ≡ Some (rows_of found)) × AreSeqOptionsOf found o)
IsAskedBy name rows (Run o) = (name ≡ Some (codes "run")) × ((found : Found) × (rows ≡ Some (rows_of found)) × AreRunOptionsOf found o)
IsAskedBy name rows (Check o) = (name ≡ Some (codes "check")) × ((found : Found) × (rows ≡ Some (rows_of found)) × AreCheckOptionsOf found o)
IsAskedBy name rows (Merge o) = (name ≡ Some (codes "merge")) × ((found : Found) × (rows ≡ Some (rows_of found)) × AreMergeOptionsOf found o)
IsAskedBy name rows (Verify o) = (name ≡ Some (codes "verify")) × ((found : Found) × (rows ≡ Some (rows_of found)) × IsVerifyPlanOf found o)
IsAskedBy name rows (Explain o) = (name ≡ Some (codes "explain")) × ((found : Found) × (rows ≡ Some (rows_of found)) × AreExplainOptionsOf found o)
IsAskedBy name rows (Picture o) = (name ≡ Some (codes "picture")) × ((found : Found) × (rows ≡ Some (rows_of found)) × ArePictureOptionsOf found o)
