-- What the fast yes says of a result whose certificate a reader gives.
use Rattle.std.specs.Prelude.{◌≡◌, ℕ, List, Option, Result, Ok, Err, Vec}
use Rattle.std.specs.Global.{Global}
use Rattle.mr_bytes.specs.declared.RecordName.{RecordName}
use Rattle.mr_jobs.specs.JobSpec.{RequestSpec}
use Rattle.mr_certform.specs.Grammar.{AreBytes}
use Rattle.mr_certform.specs.Streaming.{Agrees}
use Rattle.mr_input.specs.Files.{contents}
use Rattle.mr_index.specs.Index.{triples_of}
use Rattle.mr_verdict.specs.Steps.{Known, subject}
use Rattle.mr_verdict.specs.Items.{Coming}
use Rattle.mr_verdict.specs.declared.answers.No.{No}
use Rattle.mr_verdict.specs.declared.items.JudgeError.{JudgeError}
use Rattle.mr_verdict.specs.declared.items.JudgeError.TheVariants.{Fault}
use Rattle.mr_judge.specs.Outputs.{Judges}
use Rattle.mr_check.specs.declared.accept.Front.{Front}
use Rattle.mr_verdict.specs.declared.answers.Yes.{Yes}
use Rattle.mr_verdict.specs.Headline.{IsCertified, accepted_of}
use Rattle.mr_verdict.specs.Verdict.{verdict_of}

-- there are bytes of a certificate that the reader may give, which are those that it has left where these are known; the
-- verdict over them and these outputs is this yes, which is worth of them what it is worth of bytes at hand
pub record AcceptsRead (request : RequestSpec) (files outputs : List (List ℕ)) (certificate : Option (List ℕ)) (y : Yes) : Type 0 where
  pub bytes : List ℕ
  pub agrees : Agrees certificate bytes
  pub are_bytes : AreBytes bytes
  pub verdict : verdict_of request files outputs bytes ≡ Ok (accepted_of y)
  pub headline : IsCertified request files outputs bytes y.skips.items y.pairs

-- what is known of a result behind its certificate's front
abbrev pub known_behind : Front → Known
known_behind f = record { request = f.request.now; triples = triples_of f.request.now.job f.plan f.skips.items; outputs = contents f.outputs.now }

-- an answer on the partitions, as the plain walk gives it
abbrev pub stopped : Result ℕ No → Result ℕ JudgeError
stopped (Ok n) = Ok n
stopped (Err e) = Err (Fault e)

-- what an answer on the partitions says of the items that may come behind a front
abbrev pub PartsJudged : Coming → Front → Result ℕ No → Type 0
PartsJudged gives f answer = Judges gives (subject (known_behind f)) 0 0 (stopped answer)

-- and what it makes of the result, without these records
abbrev pub answer_behind : Vec RecordName Global → Result ℕ No → Result Yes JudgeError
answer_behind skips (Ok n) = Ok (record { skips = skips; pairs = n })
answer_behind skips (Err e) = Err (Fault e)
