-- What is said of a judgement, what is kept of it, and what stands then.
use Rattle.std.proofs.Common.{◌≡◌, ℕ, Bool, List, [], ◌∷◌, Option, None, Some, Result, Ok, Err, refl, ap, sym, subst, inl, inr, arith}
use Rattle.std.specs.Prelude.{IfSome, option_map, string_bytes}
use Rattle.mr_jobs.specs.JobSpec.{RequestSpec}
use Rattle.mr_verdict.specs.declared.answers.No.{No}
use Rattle.mr_verdict.specs.declared.answers.Yes.{Yes}
use Rattle.mr_shards.specs.Verdict.{Told, spelling}
use Rattle.mr_files.specs.Holding.{Begins, ChangesAmong, ChangesOnly, Faulty, Stored}
use Rattle.mr_files.specs.Identities.{AreApart, Known}
use Rattle.mr_files.specs.Refusals.{IsUnwritten, IsWriteRefusal}
use Rattle.mr_files.specs.declared.store.FileFault.{FileFault}
use Rattle.mr_files.specs.declared.store.FileFault.TheVariants as file
use Rattle.mr_args.specs.declared.fault.Fault.{Fault}
use Rattle.mr_args.specs.declared.request.CheckOptions.{CheckOptions}
use Rattle.mr_args.specs.Asked.{request_asked}
use Rattle.mr_commands.specs.Checks.{AnswersCheck, IsYes}
use Rattle.mr_commands.specs.Inputs.{IsStopped, IsTakenInput}
use Rattle.mr_commands.specs.Named.{AreClear, named, read_by_check, stretch_of, verdict_file, written_by_check}
use Rattle.mr_args.specs.Statuses.{ReportsFile}
use Rattle.mr_commands.specs.Checks.{IsJudged}
use Rattle.mr_commands.specs.Pictures.{IsPageRefused}
use Rattle.mr_commands.specs.YesLines.{yes_text}
use Rattle.mr_commands.specs.Judgements.{IsAnswer, IsJudgement, IsResult, IsSaid, Judges, text_kept}
use Rattle.mr_commands.specs.Verdicts.{IsCheckUnanswered, IsKeptUnder, IsTextRefused, IsVerdictOf, KeepsVerdict, names_kept, verdict_about}
use Rattle.mr_commands.specs.declared.check_job.Judgement.{Judgement}
use Rattle.mr_commands.proofs.JudgingInputs.{as_many}
use Rattle.mr_commands.proofs.Noted.{true_of}
use Rattle.mr_commands.proofs.JudgingRefused.{stopped_as}

-- a judgement under the request that was asked for
pub judges : (holds : Stored) (known : Known) (asked : CheckOptions) (request : RequestSpec) (files : List (List ℕ)) (ends : Bool) (j : Judgement) → request ≡ request_asked asked.options
    → IsTakenInput holds (stretch_of asked.options) request.split files ends → AreApart known (read_by_check asked) (written_by_check asked) → IfSome (verdict_file asked) (λ name. AreClear asked.options)
    → (outputs : List (List ℕ)) × (bytes : List ℕ) × IsResult holds asked.options outputs bytes × IsJudgement request asked files ends outputs bytes j → Judges holds known asked j
judges holds known asked request files ends j r i apart clear (outputs, bytes, result, judged) = record {
  files = files;
  ends = ends;
  outputs = outputs;
  bytes = bytes;
  input = subst (λ (v : RequestSpec). IsTakenInput holds (stretch_of asked.options) v.split files ends) r i;
  result = result;
  apart = apart;
  clear = clear;
  judgement = subst (λ (v : RequestSpec). IsJudgement v asked files ends outputs bytes j) r judged;
}

if_some : {A B : Type 0} (o : Option (List ℕ)) → (A → B) → IfSome o (λ name. A) → IfSome o (λ name. B)
if_some None f h = tt
if_some (Some name) f h = f h

-- ---- a text written under a name, where there are both

pub one_write : (old new : List ℕ → List ℕ → Type 0) (unwritable : List ℕ → Type 0) (name text : List ℕ) (e : FileFault)
    → IsUnwritten unwritable name e → Begins old new name text → ChangesOnly old new name → IsWriteRefusal old new unwritable (name ∷ []) (text ∷ []) e
one_write old new unwritable name text (file.CannotRead told) h begins others = absurd h
one_write old new unwritable name text (file.CannotWrite told) h begins others = record {
  before = [];
  after = [];
  written = [];
  text = text;
  left = [];
  names_are = ap (λ (n : List ℕ). n ∷ []) (sym h.1);
  texts_are = refl;
  refused = subst unwritable (sym h.1) h.0;
  whole = tt;
  begins = subst (λ (n : List ℕ). Begins old new n text) (sym h.1) begins;
  others = subst (λ (n : List ℕ). ChangesAmong old new (n ∷ [])) (sym h.1) (λ n b d. others n b d.0);
}
one_write old new unwritable name text file.OutOfMemory h begins others = tt

pub kept_among : (old new : List ℕ → List ℕ → Type 0) (given kept : Option (List ℕ)) → ChangesAmong old new (names_kept given kept) → ChangesAmong old new (named given)
kept_among old new None kept p n b d = p n b tt
kept_among old new (Some name) None p n b d = p n b tt
kept_among old new (Some name) (Some text) p n b d = p n b d

none_kept : (old new : List ℕ → List ℕ → Type 0) (given kept : Option (List ℕ)) → kept ≡ None → ChangesAmong old new (names_kept given kept) → ChangesAmong old new []
none_kept old new None kept e p n b d = p n b tt
none_kept old new (Some name) None e p n b d = p n b tt
none_kept old new (Some name) (Some text) e p n b d = absurd (cc e)

same : (a b : List ℕ) → ◌≡◌ {A = Option (List ℕ)} (Some a) (Some b) → a ≡ b
same a b h = cc h

stands : (new : List ℕ → List ℕ → Type 0) (given kept : Option (List ℕ)) (P : Told → Type 0) (v : Told) → IfSome given (λ name. P v) → kept ≡ option_map (λ name. spelling v) given
    → IsKeptUnder new given kept → IfSome given (λ name. (verdict : Told) × P verdict × new name (spelling verdict))
stands new None kept P v p e k = tt
stands new (Some name) None P v p e k = absurd (cc e)
stands new (Some name) (Some text) P v p e k = (v, p, subst (new name) (same text (spelling v) e) k)

stopped : (old new : List ℕ → List ℕ → Type 0) (unwritable : List ℕ → Type 0) (given kept : Option (List ℕ)) (v : Told) (e : FileFault) (f : Fault)
    → kept ≡ option_map (λ name. spelling v) given → IsTextRefused old new unwritable given kept e → ReportsFile e f
    → (name : List ℕ) × (given ≡ Some name) × IsStopped old new unwritable (name ∷ []) (spelling v ∷ []) f
stopped old new unwritable None kept v e f t h tells = absurd h
stopped old new unwritable (Some name) None v e f t h tells = absurd h
stopped old new unwritable (Some name) (Some text) v e f t h tells =
    (name, refl, stopped_as old new unwritable (name ∷ []) (spelling v ∷ []) e f (subst (λ (x : List ℕ). IsWriteRefusal old new unwritable (name ∷ []) (x ∷ []) e) (same text (spelling v) t) h) tells)

not_both : (s : ℕ) → s ≡ 0 → s ≡ 1 → ⊥
not_both s a b = omega (arith, a, b)

none_refused : (old new : List ℕ → List ℕ → Type 0) (unwritable : List ℕ → Type 0) (given kept : Option (List ℕ)) (e : FileFault) → kept ≡ None → IsTextRefused old new unwritable given kept e → ⊥
none_refused old new unwritable None kept e n h = h
none_refused old new unwritable (Some name) None e n h = h
none_refused old new unwritable (Some name) (Some text) e n h = absurd (cc n)

module _ (old : Stored) (known : Known) (asked : CheckOptions) (j : Judgement) (judged : Judges old known asked j) where
  abbrev request : RequestSpec
  request = request_asked asked.options

  abbrev text : List ℕ
  text = string_bytes j.said.text

  abbrev kept : Option (List ℕ)
  kept = option_map (λ v. v.items) j.verdict

  abbrev about : Yes → Told
  about y = verdict_about request (stretch_of asked.options) judged.files judged.ends judged.outputs y.skips.items y.pairs

  -- the verdict of a yes
  yes_verdict : (y : Yes) → AreClear asked.options → text ≡ yes_text y.pairs y.skips.items → IsYes request judged.files judged.outputs judged.bytes y.skips.items y.pairs
      → IsVerdictOf asked.options judged.files judged.ends judged.outputs judged.bytes text (about y)
  yes_verdict y clear said yes_is = record {
    skips = y.skips.items;
    pairs = y.pairs;
    said = said;
    judged = yes_is;
    about = refl;
    is_true = true_of request (stretch_of asked.options) judged.files judged.ends judged.outputs judged.bytes y.skips.items y.pairs (as_many old (stretch_of asked.options) judged.files judged.ends judged.input.taken) yes_is.certified;
    clear = clear;
  }

  abbrev says : (status : ℕ) → IsJudged request judged.files judged.outputs judged.bytes text status → AnswersCheck old asked.options text status
  says status h = record { files = judged.files; ends = judged.ends; outputs = judged.outputs; bytes = judged.bytes; input = judged.input; parts = judged.result.0; certificate = judged.result.1; judged = h }

  module _ (new : Stored) where
    keeps_as : (answer : Result Yes No) → IsAnswer request judged.files judged.outputs judged.bytes answer → IsSaid answer j.said → kept ≡ text_kept request asked judged.files judged.ends judged.outputs answer
        → IsKeptUnder new (verdict_file asked) kept → ChangesAmong old new (names_kept (verdict_file asked) kept) → KeepsVerdict old new known asked text j.said.status
    keeps_as (Ok y) yes_is (zero_is, said) text_is k among = (
      says j.said.status (inl (zero_is, y.skips.items, y.pairs, said, yes_is)),
      judged.apart,
      (
        (λ _. stands new (verdict_file asked) kept (IsVerdictOf asked.options judged.files judged.ends judged.outputs judged.bytes text) (about y) (if_some (verdict_file asked) (λ (clear : AreClear asked.options). yes_verdict y clear said yes_is) judged.clear) text_is k),
        λ one. absurd (not_both j.said.status zero_is one),
      ),
    )
    keeps_as (Err e) (inl memory) (other, one_is, said) none k among = absurd (other memory)
    keeps_as (Err e) (inr refused) (other, one_is, said) none k among = (
      says j.said.status (inr (one_is, e, said, refused)),
      judged.apart,
      ((λ zero_is. absurd (not_both j.said.status zero_is one_is)), λ _. none_kept old new (verdict_file asked) kept none among),
    )

    pub keeps : IsKeptUnder new (verdict_file asked) kept → ChangesAmong old new (names_kept (verdict_file asked) kept) → KeepsVerdict old new known asked text j.said.status
    keeps = keeps_as judged.judgement.answer judged.judgement.right judged.judgement.said judged.judgement.kept

    unkept_as : (unreadable unwritable : Faulty) (e : FileFault) (f : Fault) (answer : Result Yes No) → IsAnswer request judged.files judged.outputs judged.bytes answer → IsSaid answer j.said
        → kept ≡ text_kept request asked judged.files judged.ends judged.outputs answer → IsTextRefused old new unwritable (verdict_file asked) kept e → ReportsFile e f → IsCheckUnanswered old new unreadable unwritable known asked f
    unkept_as unreadable unwritable e f (Ok y) yes_is (zero_is, said) text_is h tells =
        let s = stopped old new unwritable (verdict_file asked) kept (about y) e f text_is h tells in
        inr (text, s.0, about y, says 0 (inl (refl, y.skips.items, y.pairs, said, yes_is)), judged.apart, s.1, yes_verdict y (subst (λ (o : Option (List ℕ)). IfSome o (λ name. AreClear asked.options)) s.1 judged.clear) said yes_is, s.2)
    unkept_as unreadable unwritable e f (Err fault) right said none h tells = absurd (none_refused old new unwritable (verdict_file asked) kept e none h)

    pub unkept : (unreadable unwritable : Faulty) (e : FileFault) (f : Fault) → IsTextRefused old new unwritable (verdict_file asked) kept e → ReportsFile e f → IsCheckUnanswered old new unreadable unwritable known asked f
    unkept unreadable unwritable e f = unkept_as unreadable unwritable e f judged.judgement.answer judged.judgement.right judged.judgement.said judged.judgement.kept

-- a page that can't be written: what was wrong is told, and a beginning of it stands
pub page_refused : (old new : Stored) (unwritable : Faulty) (name page : List ℕ) (e : FileFault) (f : Fault) → IsUnwritten unwritable name e → Begins old new name page → ReportsFile e f → IsPageRefused old new unwritable name f
page_refused old new unwritable name page (file.CannotRead told) f h b t = absurd h
page_refused old new unwritable name page (file.CannotWrite told) f h b t = rw t (h.0, h.1, page, b)
page_refused old new unwritable name page file.OutOfMemory f h b t = rw t tt
