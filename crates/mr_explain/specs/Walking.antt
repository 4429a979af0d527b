-- Of no public promise: how a walk over records goes on.
use Rattle.std.specs.Prelude.{◌≡◌, ℕ, ◌+◌, ◌≤◌, ◌&&◌, nat_lt, if◌then◌else◌, List, [], ◌++◌, length}
use Rattle.mr_store.specs.Devices.{Seen, with_bytes}
use Rattle.mr_input.specs.Files.{nth_file}
use Rattle.mr_jobs.specs.JobSpec.{JobSpec}
use Rattle.mr_jobs.specs.Emissions.{Emission, emissions}
use Rattle.mr_jobs.specs.Hits.{Source}
use Rattle.mr_splits.specs.Named.{NamedRecord}
use Rattle.mr_explain.specs.Explained.{evidence, feeds_before, is_wanted, line_at, listing, pair_total, value_count}
use Rattle.mr_explain.specs.Needles.{IsNeedle}
use Rattle.mr_explain.specs.declared.lines.LineCount.{LineCount}
use Rattle.mr_explain.specs.declared.needle.Needle.{Needle}
use Rattle.mr_explain.specs.declared.query.Query.{Query}
use Rattle.mr_explain.specs.declared.query.Totals.{Totals}
use Rattle.mr_explain.specs.declared.query.Wanted.{Wanted}

-- the count is that of a place of its file
pub record IsCounted (files : List (List ℕ)) (c : LineCount) : Type 0 where
  pub within : c.at ≤ length (nth_file files c.file)
  pub feeds : c.feeds ≡ feeds_before (nth_file files c.file) c.at

-- a mapper of the job over the plan's files, and a needle of what is looked for
pub record AreReady (q : Query) (mapper : Source) (needle : Needle) : Type 0 where
  pub mapper_is : mapper ≡ record { job = q.job.now; files = q.plan.now.files }
  pub needle_is : IsNeedle q.job.now q.wanted needle.fold needle.literal.now

-- the counts of these records
pub record AreCounts (job : JobSpec) (wanted : Wanted) (rs : List NamedRecord) (totals : Totals) : Type 0 where
  pub pairs : totals.pairs ≡ pair_total job wanted rs
  pub records : totals.records ≡ length (evidence job wanted rs)

-- the counts before and behind a record that emits these pairs
pub record Counts (wanted : Wanted) (es : List Emission) (old new : Totals) : Type 0 where
  pub pairs : new.pairs ≡ old.pairs + value_count wanted es
  pub records : new.records ≡ old.records + (if is_wanted wanted es then 1 else 0)

-- what is printed of it, behind so many others
abbrev pub printed : Query → List ℕ → ℕ → ℕ → ℕ → List ℕ → List ℕ
printed q prefix before file start bytes =
    if is_wanted q.wanted (emissions q.job.now file start bytes) && nat_lt before q.limit
    then prefix ++ line_at q.sources.now q.plan.now.files file start bytes
    else []

-- a walk over these records: their counts, and what a writer took
pub record HasWalked (q : Query) (prefix : List ℕ) (rs : List NamedRecord) (totals : Totals) (old new : Seen) : Type 0 where
  pub counts : AreCounts q.job.now q.wanted rs totals
  pub put : new ≡ with_bytes old (listing q prefix rs)
