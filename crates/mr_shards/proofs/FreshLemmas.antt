-- Shards of which nothing is taken.
use Rattle.std.proofs.Common.{◌≡◌, ◌⊎◌, ℕ, zero, suc, ◌+◌, ◌<◌, ◌++◌, List, [], ◌∷◌, length, get_or, take, drop, refl, ap, sym, ◌∙◌, subst, inl, inr, arith, Option, Some, None, map}
use Rattle.std.proofs.Common.{true}
use Rattle.std.proofs.lemmas.List.{append_assoc, append-nil, drop_more}
use Rattle.std.specs.List.{AllByRecursion}
use Rattle.mr_jobs.specs.JobSpec.{JobSpec}
use Rattle.mr_shards.specs.declared.cursor.Held.{Held}
use Rattle.mr_shards.specs.declared.merger.MergeFault.{MergeFault}
use Rattle.mr_shards.specs.declared.merger.ShardText.{ShardText}
use Rattle.mr_shards.specs.declared.shift.ShardFiles.{ShardFiles}
use Rattle.mr_shards.specs.Merged.{Group}
use Rattle.mr_shards.specs.Portions.{Shift, behind, no_shift, past_shard}
use Rattle.mr_shards.specs.Cursors.{IsSum, all_pairs}
use Rattle.mr_shards.specs.Lines.{groups_in}
use Rattle.mr_shards.specs.Merged.{written_texts}
use Rattle.mr_shards.specs.Outputs.{parts_in}
use Rattle.mr_shards.specs.Portions.{merged_groups, shifted_group, shifted_parts}
use Rattle.mr_shards.specs.Refused.{Blames, IsReadTo, IsRest, IsShardText, PassesNot, TellsFiles, count_at, shift_from, text_at}
use Rattle.mr_shards.specs.Rounds.{AreFresh, AreStanding, AreWindows, are_last, whole_window, IsAfter, IsReadUpTo, IsTooFar, IsWithin, Reading, Standing, held_for, held_from, outputs_of, rests, shift_for}
use Rattle.mr_shards.specs.Rounds.{behind as behind_of}
use Rattle.mr_shards.specs.Views.{Waits, WaitsFor, nothing_waits}
use Rattle.mr_shards.specs.declared.merger.MergeFault.TheVariants.{OutOfMemory}
use Rattle.mr_shards.proofs.RefusedLemmas.{passes-not, read-none}
use Rattle.mr_shards.proofs.ShiftLemmas.{merged_at_once}
use Rattle.mr_shards.proofs.TotalLemmas.{within-first}

pub shift-more : (s : Shift) (fs : List ShardFiles) (i : ℕ) (d : ShardFiles) → i < length fs → shift_for s (take (i + 1) fs) ≡ behind (shift_for s (take i fs)) (past_shard (get_or fs i d))
shift-more s [] i d h = absurd (omega (arith, h))
shift-more s (f ∷ fs) zero d h = refl
shift-more s (f ∷ fs) (suc i) d h =
    (let n : suc i + 1 ≡ suc (i + 1) = omega arith in ap (λ (k : ℕ). shift_for s (take k (f ∷ fs))) n) ∙ shift-more (behind s (past_shard f)) fs i d (omega (arith, h))

abbrev pub no_files : ShardFiles
no_files = record { count = 0; cut = None }

abbrev pub fresh : Shift → ShardFiles → Held
fresh s f = record { before = s; count = f.count; lines = 0; pairs = Some 0 }

pub held-more : (fs : List ShardFiles) (i : ℕ) (d : ShardFiles) (done : List Held) (s next : Shift) (all : List Held) → i < length fs → next ≡ behind s (past_shard (get_or fs i d))
    → done ++ held_from s (drop i fs) ≡ all
    → (done ++ record { before = s; count = (get_or fs i d).count; lines = 0; pairs = Some 0 } ∷ []) ++ held_from next (drop (i + 1) fs) ≡ all
held-more fs i d done s next all h n e =
    append_assoc done (fresh s (get_or fs i d) ∷ []) (held_from next (drop (i + 1) fs))
    ∙ ap (λ (t : Shift). done ++ fresh s (get_or fs i d) ∷ held_from t (drop (i + 1) fs)) n
    ∙ ap (λ (gs : List ShardFiles). done ++ held_from s gs) (sym (drop_more fs i d h)) ∙ e

-- ---- nothing is taken

pub held-count : (s : Shift) (fs : List ShardFiles) → length (held_from s fs) ≡ length fs
held-count s [] = refl
held-count s (f ∷ fs) = ap suc (held-count (behind s (past_shard f)) fs)

pub fresh-count : (fs : List ShardFiles) (rs : List Reading) → AreFresh fs rs → length fs ≡ length rs
fresh-count [] [] a = refl
fresh-count [] (r ∷ rs) a = absurd a
fresh-count (f ∷ fs) [] a = absurd a
fresh-count (f ∷ fs) (r ∷ rs) a = ap suc (fresh-count fs rs a.2)

-- a shard of which nothing is taken
record IsFreshAt (s : Shift) (os : List ShardText) (i : ℕ) (h : Held) (r : Reading) : Type 0 where
  pub before : h.before ≡ shift_from s (take i os)
  pub count : h.count ≡ count_at os i
  pub lines : h.lines ≡ 0
  pub pairs : h.pairs ≡ Some 0
  pub taken : r.taken ≡ 0
  pub text : r.output.text.now ≡ text_at os i

fresh-at : (s : Shift) (fs : List ShardFiles) (rs : List Reading) (i : ℕ) (h : Held) (r : Reading) → AreFresh fs rs → i < length rs
    → IsFreshAt s (outputs_of rs) i (get_or (held_from s fs) i h) (get_or rs i r)
fresh-at s [] [] i h r a l = absurd (omega (arith, l))
fresh-at s [] (q ∷ rs) i h r a l = absurd a
fresh-at s (f ∷ fs) [] i h r a l = absurd a
fresh-at s (f ∷ fs) (q ∷ rs) zero h r a l = record {
  before = refl;
  count = ap (λ (g : ShardFiles). g.count) (sym a.0);
  lines = refl;
  pairs = refl;
  taken = a.1;
  text = refl;
}
fresh-at s (f ∷ fs) (q ∷ rs) (suc i) h r a l =
    let x = fresh-at (behind s (past_shard f)) fs rs i h r a.2 (omega (arith, l)) in
    record {
      before = x.before ∙ ap (λ (g : ShardFiles). shift_from (behind s (past_shard g)) (take i (outputs_of rs))) (sym a.0);
      count = x.count;
      lines = x.lines;
      pairs = x.pairs;
      taken = x.taken;
      text = x.text;
    }

fresh-rests : (job : JobSpec) (s : Shift) (fs : List ShardFiles) (rs : List Reading) → AreFresh fs rs → rests job (held_from s fs) rs ≡ shifted_parts s (parts_in job (outputs_of rs))
fresh-rests job s [] [] a = refl
fresh-rests job s [] (r ∷ rs) a = absurd a
fresh-rests job s (f ∷ fs) [] a = absurd a
fresh-rests job s (f ∷ fs) (r ∷ rs) a =
    (λ i. map (shifted_group s) (groups_in job (drop (a.1 i) r.output.text.now)) ∷ rests job (held_from (behind s (past_shard f)) fs) rs)
    ∙ ap (λ (gss : List (List Group)). map (shifted_group s) (groups_in job r.output.text.now) ∷ gss) (fresh-rests job (behind s (past_shard f)) fs rs a.2)
    ∙ ap (λ (g : ShardFiles). map (shifted_group s) (groups_in job r.output.text.now) ∷ shifted_parts (behind s (past_shard g)) (parts_in job (outputs_of rs))) (sym a.0)

fresh-stand : (job : JobSpec) (s : Shift) (fs : List ShardFiles) (rs : List Reading) → AreFresh fs rs → AreStanding job (held_from s fs) rs → AllByRecursion (IsShardText job) (outputs_of rs)
fresh-stand job s [] [] a all = tt
fresh-stand job s [] (r ∷ rs) a all = absurd a
fresh-stand job s (f ∷ fs) [] a all = absurd a
fresh-stand job s (f ∷ fs) (r ∷ rs) a all = (
  (
    subst (λ n. IsRest job None (drop n r.output.text.now)) a.1 all.0.rest,
    subst (λ (g : ShardFiles). TellsFiles job g.count r.output.text.now) (sym a.0) (subst (λ n. TellsFiles job f.count (drop n r.output.text.now)) a.1 all.0.files),
  ),
  fresh-stand job (behind s (past_shard f)) fs rs a.2 all.1,
)

pub fresh-after : (job : JobSpec) (fs : List ShardFiles) (rs : List Reading) (m : Standing) → AreFresh fs rs → m.held ≡ held_for fs → m.waiting ≡ nothing_waits → IsAfter job rs [] m
fresh-after job fs rs m a held none =
    let os : List ShardText = outputs_of rs in
    let same : shifted_parts no_shift (parts_in job os) ≡ rests job m.held rs = sym (fresh-rests job no_shift fs rs a) ∙ ap (λ (hs : List Held). rests job hs rs) (sym held) in
    record {
      count = ap length held ∙ held-count no_shift fs ∙ fresh-count fs rs a;
      read = λ i h r l.
          (let x = fresh-at no_shift fs rs i h r a l in
          let q : Reading = get_or rs i r in
          let whole : behind_of q ≡ text_at os i = ap (λ n. drop n q.output.text.now) x.taken ∙ x.text in
          subst (λ (k : Held). IsReadUpTo job os i k q) (sym (ap (λ (hs : List Held). get_or hs i h) held)) (record {
            within = omega (arith, x.taken);
            last = None;
            read = subst (λ (t : List ℕ). IsReadTo job (text_at os i) None t (get_or (held_for fs) i h).lines) (sym whole)
                (subst (IsReadTo job (text_at os i) None (text_at os i)) (sym x.lines) (read-none job (text_at os i)));
            follows = λ g more k e. tt;
            before = x.before;
            count = x.count;
            pairs = subst (λ (o : Option ℕ). IsSum job o (groups_in job (behind_of q)) (groups_in job (text_at os i))) (sym x.pairs)
                (subst (λ (t : List ℕ). 0 + all_pairs job (groups_in job t) ≡ all_pairs job (groups_in job (text_at os i))) (sym whole) (omega arith));
          }));
      waiting = None;
      waits = subst (λ (w : Waits). WaitsFor job w None) (sym none) refl;
      few = subst (λ (gss : List (List Group)). IsWithin job os gss None) same (within-first job os (shifted_parts no_shift (parts_in job os)) refl);
      told = λ s. record {
        stands = fresh-stand job no_shift fs rs a (subst (λ (hs : List Held). AreStanding job hs rs) held s);
        text = ap (λ (gss : List (List Group)). written_texts job (merged_groups gss)) (sym same) ∙ ap (written_texts job) (sym (merged_at_once (parts_in job os)));
        below = tt;
      };
    }

-- ---- places that don't move so far

fresh-shift : (s : Shift) (fs : List ShardFiles) (rs : List Reading) (n : ℕ) → AreFresh fs rs → shift_for s (take n fs) ≡ shift_from s (take n (outputs_of rs))
fresh-shift s [] [] n a = by n
  where
    by : (k : ℕ) → shift_for s (take k []) ≡ shift_from s (take k [])
    by zero = refl
    by (suc k) = refl
fresh-shift s [] (r ∷ rs) n a = absurd a
fresh-shift s (f ∷ fs) [] n a = absurd a
fresh-shift s (f ∷ fs) (r ∷ rs) zero a = refl
fresh-shift s (f ∷ fs) (r ∷ rs) (suc n) a =
    fresh-shift (behind s (past_shard f)) fs rs n a.2 ∙ ap (λ (g : ShardFiles). shift_from (behind s (past_shard g)) (take n (outputs_of rs))) (sym a.0)

pub too-far : (job : JobSpec) (fs : List ShardFiles) (rs : List Reading) (e : MergeFault) → AreFresh fs rs → (e ≡ OutOfMemory) ⊎ IsTooFar fs e → Blames job (outputs_of rs) e
too-far job fs rs e a (inl none) = subst (Blames job (outputs_of rs)) (sym none) tt
too-far job fs rs e a (inr far) = passes-not job (outputs_of rs) (far.0 + 1) e (subst (λ (s : Shift). PassesNot s e) (fresh-shift no_shift fs rs (far.0 + 1) a) far.2)

-- ---- whole outputs

pub wholes : List ShardText → List Reading
wholes os = map (λ (o : ShardText). record { output = o; taken = 0 }) os

pub outputs-wholes : (os : List ShardText) → outputs_of (wholes os) ≡ os
unfolding wholes
outputs-wholes [] = refl
outputs-wholes (o ∷ os) = ap (λ (qs : List ShardText). o ∷ qs) (outputs-wholes os)

pub fresh-wholes : (os : List ShardText) → AreFresh (map (λ (o : ShardText). o.files) os) (wholes os)
unfolding wholes
fresh-wholes [] = tt
fresh-wholes (o ∷ os) = (refl, refl, fresh-wholes os)

pub windows-wholes : (os : List ShardText) → AreWindows (wholes os) (map whole_window os)
unfolding wholes
windows-wholes [] = tt
windows-wholes (o ∷ os) = (record { more = []; is = sym (append-nil o.text.now); none_more = λ _. refl }, windows-wholes os)

pub last-wholes : (os : List ShardText) → are_last (map whole_window os) ≡ true
last-wholes [] = refl
last-wholes (o ∷ os) = last-wholes os
