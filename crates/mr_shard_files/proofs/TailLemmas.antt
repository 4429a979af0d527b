-- Digests that are taken beside a step, and kept behind it.
use Rattle.std.proofs.Common.{◌≡◌, ℕ, zero, suc, ◌+◌, ◌<◌, List, [], ◌∷◌, ◌++◌, Option, length, get_or, drop, take, refl, ap, sym, ◌∙◌, subst, arith}
use Rattle.std.proofs.lemmas.List.{take_more}
use Rattle.sha2.specs.declared.Sha256.{Sha256}
use Rattle.mr_jobs.specs.JobSpec.{JobSpec}
use Rattle.mr_shards.specs.declared.merger.Window.{Window}
use Rattle.mr_shards.specs.Rounds.{Standing}
use Rattle.mr_shard_files.specs.declared.stream.Part.{Part}
use Rattle.mr_shard_files.specs.declared.tails.Tail.{Tail}
use Rattle.mr_shard_files.specs.Streams.{AllAre, AreNext, AreTailsOf, AreTaken, AreWindowsOf, HasMore, IsDigested, MergesHeld, Moves}
use Rattle.mr_shard_files.proofs.StreamLemmas.{done_so, moves_digested, moves_on}

-- ---- tails

module _ {R : Type 0} where
  tails_more : (qs : List (Part R)) (ts : List Tail) (q : Part R) (t : Tail) → AreTailsOf qs ts → t.hasher.now ≡ q.hasher → t.bytes.now ≡ drop q.digested q.held → AreTailsOf (qs ++ q ∷ []) (ts ++ t ∷ [])
  tails_more [] [] q t h a b = (a, b, tt)
  tails_more [] (u ∷ ts) q t h a b = absurd h
  tails_more (p ∷ qs) [] q t h a b = absurd h
  tails_more (p ∷ qs) (u ∷ ts) q t h a b = (h.0, h.1, tails_more qs ts q t h.2 a b)

  pub tails_next : (qs : List (Part R)) (i : ℕ) (d q : Part R) (ts after : List Tail) (t : Tail) → i < length qs → q ≡ get_or qs i d → t.hasher.now ≡ q.hasher → t.bytes.now ≡ drop q.digested q.held → after ≡ ts ++ t ∷ []
      → AreTailsOf (take i qs) ts → AreTailsOf (take (i + 1) qs) after
  tails_next qs i d q ts after t less is hasher bytes more h =
      subst (λ (l : List (Part R)). AreTailsOf l after) (sym (take_more qs i d less ∙ ap (λ (x : Part R). take i qs ++ x ∷ []) (sym is)))
      (subst (AreTailsOf (take i qs ++ q ∷ [])) (sym more) (tails_more (take i qs) ts q t h hasher bytes))

  -- digests of tails with what these lacked are the next ones of their parts
  pub tails_taken : (qs : List (Part R)) (ts : List Tail) (hs : List Sha256) → AreTailsOf qs ts → AreTaken ts hs → AreNext qs hs
  tails_taken [] [] [] a b = tt
  tails_taken [] [] (h ∷ hs) a b = absurd b
  tails_taken [] (t ∷ ts) hs a b = absurd a
  tails_taken (q ∷ qs) [] hs a b = absurd a
  tails_taken (q ∷ qs) (t ∷ ts) [] a b = absurd b
  tails_taken (q ∷ qs) (t ∷ ts) (h ∷ hs) a b =
      (subst (λ (x : Sha256). HasMore x (drop q.digested q.held) h) a.0 (subst (λ (x : List ℕ). HasMore t.hasher.now x h) a.1 b.0), tails_taken qs ts hs a.2 b.1)

  -- and those of two lists of parts are those of both
  pub next_both : (qs rs : List (Part R)) (hs ks : List Sha256) → AreNext qs hs → AreNext rs ks → AreNext (qs ++ rs) (hs ++ ks)
  next_both [] rs [] ks a b = b
  next_both [] rs (h ∷ hs) ks a b = absurd a
  next_both (q ∷ qs) rs [] ks a b = absurd a
  next_both (q ∷ qs) rs (h ∷ hs) ks a b = (a.0, next_both qs rs hs ks a.1 b)

  pub next_count : (qs : List (Part R)) (hs : List Sha256) → AreNext qs hs → length hs ≡ length qs
  next_count [] [] a = refl
  next_count [] (h ∷ hs) a = absurd a
  next_count (q ∷ qs) [] a = absurd a
  next_count (q ∷ qs) (h ∷ hs) a = ap suc (next_count qs hs a.1)

  next_at : (qs : List (Part R)) (hs : List Sha256) (i : ℕ) (d : Part R) (e : Sha256) → AreNext qs hs → i < length qs
      → HasMore (get_or qs i d).hasher (drop (get_or qs i d).digested (get_or qs i d).held) (get_or hs i e)
  next_at [] hs i d e a less = absurd (omega (arith, less))
  next_at (q ∷ qs) [] i d e a less = absurd a
  next_at (q ∷ qs) (h ∷ hs) zero d e a less = a.0
  next_at (q ∷ qs) (h ∷ hs) (suc i) d e a less = next_at qs hs i d e a.1 (omega (arith, less))

  pub next_kept : (qs ns : List (Part R)) (hs : List Sha256) (i : ℕ) (d : Part R) (e : Sha256) → get_or ns i d ≡ get_or qs i d → AreNext qs hs → i < length qs
      → HasMore (get_or ns i d).hasher (drop (get_or ns i d).digested (get_or ns i d).held) (get_or hs i e)
  next_kept qs ns hs i d e same a less = subst (λ (q : Part R). HasMore q.hasher (drop q.digested q.held) (get_or hs i e)) (sym same) (next_at qs hs i d e a less)

taken_more : (ts : List Tail) (hs : List Sha256) (t : Tail) (h : Sha256) → AreTaken ts hs → HasMore t.hasher.now t.bytes.now h → AreTaken (ts ++ t ∷ []) (hs ++ h ∷ [])
taken_more [] [] t h a b = (b, tt)
taken_more [] (g ∷ hs) t h a b = absurd a
taken_more (u ∷ ts) [] t h a b = absurd a
taken_more (u ∷ ts) (g ∷ hs) t h a b = (a.0, taken_more ts hs t h a.1 b)

pub taken_next : (ts : List Tail) (i : ℕ) (d : Tail) (hs after : List Sha256) (h : Sha256) → i < length ts → HasMore (get_or ts i d).hasher.now (get_or ts i d).bytes.now h → after ≡ hs ++ h ∷ []
    → AreTaken (take i ts) hs → AreTaken (take (i + 1) ts) after
taken_next ts i d hs after h less has more a =
    subst (λ (l : List Tail). AreTaken l after) (sym (take_more ts i d less))
    (subst (AreTaken (take i ts ++ get_or ts i d ∷ [])) (sym more) (taken_more (take i ts) hs (get_or ts i d) h a has))

-- ---- parts whose digests are kept

module _ {R : Type 0} (remaining : R → Option (List ℕ)) (can_fail : R → Type 0) where
  -- they have moved, and nothing is passed of them
  pub digested_moves : (hs : List Sha256) (os ns : List (Part R)) → AllAre (λ _ o n. IsDigested o n) hs os ns → AllAre (λ _ o n. Moves remaining can_fail [] o n) os os ns
  digested_moves [] [] [] a = tt
  digested_moves [] [] (n ∷ ns) a = absurd a
  digested_moves [] (o ∷ os) ns a = absurd a
  digested_moves (h ∷ hs) [] ns a = absurd a
  digested_moves (h ∷ hs) (o ∷ os) [] a = absurd a
  digested_moves (h ∷ hs) (o ∷ os) (n ∷ ns) a = (moves_digested remaining can_fail o n a.0, digested_moves hs os ns a.1)

  -- parts that were filled, and moved so again, are filled
  pub fills_on : {A B : Type 0} → (zs : List A) (ys : List B) (os ms ns : List (Part R)) → AllAre (λ _ o n. Moves remaining can_fail [] o n) zs os ms → AllAre (λ _ o n. Moves remaining can_fail [] o n) ys ms ns → AllAre (λ _ o n. Moves remaining can_fail [] o n) zs os ns
  fills_on [] [] [] [] [] a b = tt
  fills_on [] [] [] [] (n ∷ ns) a b = absurd b
  fills_on [] (y ∷ ys) [] [] ns a b = absurd b
  fills_on [] ys [] (m ∷ ms) ns a b = absurd a
  fills_on [] ys (o ∷ os) ms ns a b = absurd a
  fills_on (z ∷ zs) ys [] ms ns a b = absurd a
  fills_on (z ∷ zs) ys (o ∷ os) [] ns a b = absurd a
  fills_on (z ∷ zs) [] (o ∷ os) (m ∷ ms) ns a b = absurd b
  fills_on (z ∷ zs) (y ∷ ys) (o ∷ os) (m ∷ ms) [] a b = absurd b
  fills_on (z ∷ zs) (y ∷ ys) (o ∷ os) (m ∷ ms) (n ∷ ns) a b = (moves_on remaining can_fail o m n [] [] a.0 b.0, fills_on zs ys os ms ns a.1 b.1)

module _ {R : Type 0} where
  shown_digested : (hs : List Sha256) (os ns : List (Part R)) (ws : List Window) → AllAre (λ _ o n. IsDigested o n) hs os ns → AreWindowsOf os ws → AreWindowsOf ns ws
  shown_digested [] [] [] ws a b = b
  shown_digested [] [] (n ∷ ns) ws a b = absurd a
  shown_digested [] (o ∷ os) ns ws a b = absurd a
  shown_digested (h ∷ hs) [] ns ws a b = absurd a
  shown_digested (h ∷ hs) (o ∷ os) [] ws a b = absurd a
  shown_digested (h ∷ hs) (o ∷ os) (n ∷ ns) [] a b = absurd b
  shown_digested (h ∷ hs) (o ∷ os) (n ∷ ns) (w ∷ ws) a b = (b.0 ∙ sym a.0.held, b.1 ∙ sym (done_so o n a.0), shown_digested hs os ns ws a.1 b.2)

  -- what was merged is the same
  pub merges_digested : (job : JobSpec) (hs : List Sha256) (os ns : List (Part R)) (m m' : Standing) → AllAre (λ _ o n. IsDigested o n) hs os ns → MergesHeld job os m m' → MergesHeld job ns m m'
  merges_digested job hs os ns m m' a s = record { windows = s.windows; shown = shown_digested hs os ns s.windows a s.shown; merges = s.merges }
