-- What the joined verdict is worth, whatever request the verdicts are about.
use Rattle.std.proofs.Common.{◌≡◌, ℕ, ◌<◌, List, [], ◌∷◌, length, sym, ◌∙◌, subst, arith, Bool}
use Rattle.std.specs.Prelude.{Option}
use Rattle.std.specs.List.{AllByRecursion}
use Rattle.mr_files.specs.Holding.{Stored}
use Rattle.mr_files.specs.Identities.{Known}
use Rattle.mr_files.specs.Names.{part_files}
use Rattle.mr_jobs.specs.JobSpec.{JobFits, RequestSpec}
use Rattle.mr_jobs.proofs.NameLemmas.{jobs_named}
use Rattle.mr_shards.specs.Joined.{AreMerged, AreTrueOf, IsJoined}
use Rattle.mr_shards.specs.RangeVerdicts.{all_ranges}
use Rattle.mr_shards.specs.Truth.{AreNotesOf, Asks, IsTrueOf}
use Rattle.mr_shards.specs.Verdict.{Note, Told}
use Rattle.mr_shards.proofs.FlagLemmas.{one_flag}
use Rattle.mr_shards.proofs.JoinedLaws.{joined_is_true}
use Rattle.mr_shard_files.specs.Merging.{AreAllWritten, IsMerging, IsReady, IsTrueOfAll, with_outputs}
use Rattle.mr_shard_files.proofs.NoteLemmas.{files_count, notes_of}

-- the same, with another number of records that may be left out
abbrev letting : RequestSpec → ℕ → RequestSpec
letting r skips = record { job = r.job; by = r.by; parts = r.parts; split = r.split; skips = skips }

same_request : (v : Told) (r q : RequestSpec) → JobFits r.job → JobFits q.job → Asks v r → Asks v q → letting r q.skips ≡ q
same_request v r q f g a b =
    let flags = one_flag r.job q.job r.by q.by (sym a.1 ∙ b.1) in
    let job : r.job ≡ q.job = jobs_named r.job q.job f g (sym a.0 ∙ b.0) flags.0 (sym a.2 ∙ b.2) in
    let parts : r.parts ≡ q.parts = sym a.3 ∙ b.3 in
    let split : r.split ≡ q.split = sym a.4 ∙ b.4 in
    λ i. record { job = job i; by = flags.1 i; parts = parts i; split = split i; skips = q.skips }

asks_all : (r : RequestSpec) (skips : ℕ) (vs : List Told) → AllByRecursion (λ v. Asks v r) vs → AllByRecursion (λ v. Asks v (letting r skips)) vs
asks_all r skips [] h = tt
asks_all r skips (v ∷ vs) h = (h.0, asks_all r skips vs h.1)

joined_letting : (r : RequestSpec) (skips : ℕ) (vs : List Told) (m : Told) → IsJoined r vs m → IsJoined (letting r skips) vs m
joined_letting r skips vs m j = record {
  asks = j.asks;
  alike = asks_all r skips vs j.alike;
  near = j.near;
  inputs_are = j.inputs_are;
  left_out_is = j.left_out_is;
  pairs_are = j.pairs_are;
  few = j.few;
}

first_asks : (r q : RequestSpec) (vs : List Told) (files parts : List (List (List ℕ))) → JobFits r.job → JobFits q.job → 0 < length vs → AllByRecursion (λ v. Asks v r) vs → AreTrueOf q vs files parts → letting r q.skips ≡ q
first_asks r q [] files parts f g some h t = absurd (omega (arith, some))
first_asks r q (v ∷ vs) [] parts f g some h t = absurd t
first_asks r q (v ∷ vs) (x ∷ files) [] f g some h t = absurd t
first_asks r q (v ∷ vs) (x ∷ files) (p ∷ parts) f g some h t = same_request v r q f g h.0 t.0.asks

pub true_of_all : (r : RequestSpec) (vs : List Told) (m : Told) (parts : List (List (List ℕ))) (outputs : List (List ℕ)) → JobFits r.job → 0 < r.split → 0 < length vs
    → IsJoined r vs m → AreNotesOf m.outputs outputs → length outputs ≡ r.parts → AreMerged r vs parts outputs → IsTrueOfAll vs parts m outputs
true_of_all r vs m parts outputs fits split some j notes count merged q files f t =
    let same = first_asks r q vs files parts fits f some j.alike t in
    subst (λ (x : RequestSpec). IsTrueOf x m (all_ranges files) outputs) same
    (joined_is_true (letting r q.skips) vs m files parts outputs split (joined_letting r q.skips vs m j) notes count merged
    (subst (λ (x : RequestSpec). AreTrueOf x vs files parts) (sym same) t))

-- what is merged of verdicts that can be, where the parts of all partitions were written
pub merging_ready : (old new : Stored) (known : Known) (names : List (List ℕ)) (list : Option (List ℕ)) (dir : List ℕ) (partial : Bool) (vs : List Told) (r : RequestSpec) (m : Told) (notes : List Note)
    → IsReady old known names list dir partial vs r m → (a : AreAllWritten old new r names vs dir notes) → IsMerging old names list partial vs (with_outputs m notes) a.written.texts
merging_ready old new known names list dir partial vs r m notes k a =
    let w = a.written in
    let joined = k.all.joined in
    let whole : IsJoined r vs (with_outputs m notes) = record {
      asks = joined.asks;
      alike = joined.alike;
      near = joined.near;
      inputs_are = joined.inputs_are;
      left_out_is = joined.left_out_is;
      pairs_are = joined.pairs_are;
      few = joined.few;
    } in
    let noted : AreNotesOf notes w.texts = subst (λ (l : List Note). AreNotesOf l w.texts) (sym a.notes_are) (notes_of (part_files r.parts) w.texts (files_count r.parts ∙ sym w.count)) in
    record {
      request = r;
      parts = w.parts;
      parts_are = w.parts_are;
      totals = a.totals;
      joined = whole;
      told = k.all.told;
      tiles = k.all.tiles;
      once = k.all.once;
      few = k.all.few;
      listed = k.listed;
      count = w.count;
      merged = w.merged;
      notes_are = a.notes_are;
      true_of = true_of_all r vs (with_outputs m notes) w.parts w.texts k.fits k.split k.some whole noted w.count w.merged;
    }
