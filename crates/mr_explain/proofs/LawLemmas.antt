-- Records that give a key, and how many values they have for it.
use Rattle.std.proofs.Common.{◌≡◌, ℕ, cond, ltb, Bool, true, false, List, [], ◌∷◌, length, map, refl, ap, ◌∙◌, arith, inl, inr, ◌⊎◌}
use Rattle.std.proofs.lemmas.Bool.{false≢true, lt-ltb}
use Rattle.std.specs.Str.{bytes_eq}
use Rattle.mr_bytes.specs.Lists.{Has}
use Rattle.mr_jobs.specs.Emissions.{Emission}
use Rattle.mr_splits.specs.Named.{named_records}
use Rattle.mr_sequential.specs.Emitted.{emitted}
use Rattle.mr_sequential.specs.Sequential.{values_of}
use Rattle.mr_sequential.proofs.KeyLaws.{bytes_eq-is, bytes_eq-same}
use Rattle.mr_explain.specs.Explained.{has_key, kept_of, pairs_with}
use Rattle.mr_explain.specs.Group.{ForKey}
use Rattle.mr_explain.specs.Laws.{GivesItsKeys}
use Rattle.mr_explain.specs.Walking.{AreCounts}
use Rattle.mr_explain.specs.declared.query.Query.{Query}
use Rattle.mr_explain.specs.declared.query.Totals.{Totals}
use Rattle.mr_explain.specs.declared.query.Wanted.{Wanted}
use Rattle.mr_explain.specs.declared.query.Wanted.TheVariants.{Key, Nothing}
use Rattle.mr_explain.proofs.GroupLemmas.{count-values, values_are}

some_with : (t : Bool) (e : Emission) (rest : List Emission) → t ≡ true → ltb 0 (length (cond t (e ∷ rest) rest)) ≡ true
some_with true e rest is = lt-ltb 0 (length (e ∷ rest)) (omega arith)
some_with false e rest is = absurd (false≢true is)

among : (key : List ℕ) (es : List Emission) → has_key key es ≡ true → Has (map (λ (e : Emission). e.0) es) key
among key [] h = absurd (false≢true h)
among key (e ∷ es) h = by (bytes_eq e.0 key) refl h (among key es)
  where
    by : (t : Bool) → bytes_eq e.0 key ≡ t → ltb 0 (length (cond t (e ∷ pairs_with key es) (pairs_with key es))) ≡ true
        → (has_key key es ≡ true → Has (map (λ (x : Emission). x.0) es) key) → (e.0 ≡ key) ⊎ Has (map (λ (x : Emission). x.0) es) key
    by true is some later = inl (bytes_eq-is e.0 key is)
    by false is some later = inr (later some)

gives : (key : List ℕ) (es : List Emission) → Has (map (λ (e : Emission). e.0) es) key → has_key key es ≡ true
gives key [] h = absurd h
gives key (e ∷ es) (inl is) = some_with (bytes_eq e.0 key) e (pairs_with key es) (ap (λ k. bytes_eq k key) is ∙ bytes_eq-same key)
gives key (e ∷ es) (inr later) = by (bytes_eq e.0 key) (gives key es later)
  where
    by : (t : Bool) → has_key key es ≡ true → ltb 0 (length (cond t (e ∷ pairs_with key es) (pairs_with key es))) ≡ true
    by true some = some_with true e (pairs_with key es) refl
    by false some = some

pub gives-its-keys : GivesItsKeys
gives-its-keys key es = (among key es, gives key es)

-- the count is that of the group
pub count-is : (q : Query) (t : Totals) → AreCounts q.job.now q.wanted (kept_of q) t
    → ForKey q.wanted (λ key. t.pairs ≡ length (values_of (emitted q.job.now q.plan.now.size q.plan.now.files q.skips.now) key))
count-is q t are = by q.wanted are
  where
    by : (w : Wanted) → AreCounts q.job.now w (kept_of q) t
        → ForKey w (λ key. t.pairs ≡ length (values_of (emitted q.job.now q.plan.now.size q.plan.now.files q.skips.now) key))
    by (Key key) counts =
        counts.pairs ∙ count-values q.job.now key.now (kept_of q)
        ∙ ap length (values_are q.job.now key.now q.skips.now (named_records q.plan.now.size q.plan.now.files))
    by Nothing counts = tt
