-- Which cursor is least, and what is left of each.
use Rattle.std.proofs.Common.{◌≡◌, ℕ, ◌+◌, ◌<◌, ◌≤◌, List, [], ◌∷◌, length, get_or, drop, refl, ap, sym, arith, Option, map}
use Rattle.std.proofs.lemmas.List.{at_drop_more, at_drop_all}
use Rattle.mr_jobs.specs.JobSpec.{JobSpec, group_text_of}
use Rattle.mr_shards.specs.declared.cursor.Cursor.{Cursor}
use Rattle.mr_shards.specs.declared.line.Line.{Line}
use Rattle.mr_shards.specs.Lines.{groups_in}
use Rattle.mr_shards.specs.Cursors.{least_from, lesser}
use Rattle.mr_shards.proofs.ReadingLemmas.{none-read}
use Rattle.mr_shards.specs.Portions.{Shift, shifted_group}

pub least-more : (least : Option (ℕ × Line)) (at : ℕ) (cs : List Cursor) (d : Cursor) → at < length cs
    → least_from least at (drop at cs) ≡ least_from (lesser least at (get_or cs at d).head) (at + 1) (drop (at + 1) cs)
unfolding least_from
least-more least at cs d h = at_drop_more (least_from least at) cs at d h

pub least-all : (least : Option (ℕ × Line)) (at : ℕ) (cs : List Cursor) → length cs ≤ at → least_from least at (drop at cs) ≡ least
unfolding least_from
least-all least at cs h = at_drop_all (least_from least at) cs at h

-- no bytes, no groups
pub none-left : (job : JobSpec) (text : List ℕ) (s : Shift) → length text ≡ 0 → [] ≡ map (shifted_group s) (groups_in job text)
none-left job [] s h = sym (ap (map (shifted_group s)) (none-read (group_text_of job)))
none-left job (b ∷ bs) s h = absurd (omega (arith, h))

pub no_bytes : (text : List ℕ) → length text ≡ 0 → text ≡ []
no_bytes [] h = refl
no_bytes (b ∷ bs) h = absurd (omega (arith, h))
