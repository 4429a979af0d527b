-- A walk over records, one after another.
use Rattle.std.proofs.Common.{◌≡◌, ℕ, ◌+◌, ◌&&◌, Bool, true, false, cond, ltb, List, [], ◌∷◌, ◌++◌, length, take, refl, ap, sym, ◌∙◌, subst, arith, inl, inr, length-append}
use Rattle.std.proofs.lemmas.Bool.{cases_lt, lt-ltb, le-ltb, ne_eqb}
use Rattle.std.proofs.lemmas.List.{append-nil, take-append-le, take_all}
use Rattle.std.proofs.lemmas.List.Concat.{flat_map-append}
use Rattle.std.proofs.lemmas.List.Elements.{filter-append}
use Rattle.std.proofs.lemmas.List.Sums.{sum_by_push}
use Rattle.std.proofs.Common.{eqb}
use Rattle.std.specs.Prelude.{codes}
use Rattle.std.specs.List.{flat_map}
use Rattle.mr_store.specs.Devices.{Seen, with_bytes}
use Rattle.mr_jobs.specs.JobSpec.{JobSpec}
use Rattle.mr_splits.specs.Named.{NamedRecord}
use Rattle.mr_explain.specs.Explained.{evidence, is_wanted, left_out_of, left_out_text, line_at, listing, pair_total, pairs_of, summary_line, summary_of, value_count}
use Rattle.mr_explain.specs.Walking.{AreCounts, Counts, HasWalked, printed}
use Rattle.mr_explain.specs.declared.query.Query.{Query}
use Rattle.mr_explain.specs.declared.query.Totals.{Totals}
use Rattle.mr_explain.specs.declared.query.Wanted.{Wanted}
use Rattle.mr_explain.proofs.WrittenLemmas.{nothing_written, written}

evidence-more : (job : JobSpec) (wanted : Wanted) (done : List NamedRecord) (r : NamedRecord)
    → evidence job wanted (done ++ r ∷ []) ≡ evidence job wanted done ++ cond (is_wanted wanted (pairs_of job r)) (r ∷ []) []
evidence-more job wanted done r = filter-append (λ (x : NamedRecord). is_wanted wanted (pairs_of job x)) done (r ∷ [])

length-one : {X : Type 0} (t : Bool) (x : X) → length (cond t (x ∷ []) []) ≡ cond t 1 0
length-one true x = refl
length-one false x = refl

counts-more : (job : JobSpec) (wanted : Wanted) (done : List NamedRecord) (r : NamedRecord) (old new : Totals)
    → AreCounts job wanted done old → Counts wanted (pairs_of job r) old new → AreCounts job wanted (done ++ r ∷ []) new
counts-more job wanted done r old new are more = record {
  pairs = more.pairs ∙ ap (λ n. n + value_count wanted (pairs_of job r)) are.pairs ∙ sym (sum_by_push (λ (x : NamedRecord). value_count wanted (pairs_of job x)) done r);
  records = more.records ∙ ap (λ n. n + cond (is_wanted wanted (pairs_of job r)) 1 0) are.records
      ∙ sym (ap length (evidence-more job wanted done r)
      ∙ length-append (evidence job wanted done) (cond (is_wanted wanted (pairs_of job r)) (r ∷ []) [])
      ∙ ap (λ n. length (evidence job wanted done) + n) (length-one (is_wanted wanted (pairs_of job r)) r));
}

-- the first elements, with one element more or not
take-more : {X : Type 0} (limit : ℕ) (xs : List X) (x : X) (t : Bool)
    → take limit (xs ++ cond t (x ∷ []) []) ≡ take limit xs ++ cond (t && ltb (length xs) limit) (x ∷ []) []
take-more limit xs x false = ap (take limit) (append-nil xs) ∙ sym (append-nil (take limit xs))
take-more limit xs x true =
    elim (cases_lt (length xs) limit) [
      | inl room ↦
          take_all limit (xs ++ x ∷ []) (omega (arith, length-append xs (x ∷ []), room))
          ∙ ap (λ l. l ++ x ∷ []) (sym (take_all limit xs (omega (arith, room))))
          ∙ sym (ap (λ t. take limit xs ++ cond t (x ∷ []) []) (lt-ltb (length xs) limit room))
      | inr full ↦
          take-append-le limit xs (x ∷ []) full
          ∙ sym (ap (λ t. take limit xs ++ cond t (x ∷ []) []) (le-ltb (length xs) limit full) ∙ append-nil (take limit xs))
    ]

one-text : {X : Type 0} (f : X → List ℕ) (t : Bool) (x : X) → flat_map f (cond t (x ∷ []) []) ≡ cond t (f x) []
one-text f true x = append-nil (f x)
one-text f false x = refl

listing-more : (q : Query) (prefix : List ℕ) (done : List NamedRecord) (r : NamedRecord)
    → listing q prefix (done ++ r ∷ []) ≡ listing q prefix done ++ printed q prefix (length (evidence q.job.now q.wanted done)) r.file r.start r.bytes
listing-more q prefix done r =
    let text : NamedRecord → List ℕ = λ x. prefix ++ line_at q.sources.now q.plan.now.files x.file x.start x.bytes in
    let found : List NamedRecord = evidence q.job.now q.wanted done in
    let t : Bool = is_wanted q.wanted (pairs_of q.job.now r) in
    ap (λ (l : List NamedRecord). flat_map text (take q.limit l)) (evidence-more q.job.now q.wanted done r)
    ∙ ap (flat_map text) (take-more q.limit found r t)
    ∙ flat_map-append text (take q.limit found) (cond (t && ltb (length found) q.limit) (r ∷ []) [])
    ∙ ap (λ (l : List ℕ). flat_map text (take q.limit found) ++ l) (one-text text (t && ltb (length found) q.limit) r)

module _ (q : Query) (prefix : List ℕ) (start : Seen) where
  pub walked_none : (totals : Totals) → totals ≡ record { pairs = 0; records = 0 } → HasWalked q prefix [] totals start start
  walked_none totals none = record {
    counts = record { pairs = ap (λ (t : Totals). t.pairs) none; records = ap (λ (t : Totals). t.records) none };
    put = subst (λ l. start ≡ with_bytes start l) (nothing q.limit) (nothing_written start);
  }
    where
      nothing : (n : ℕ) → [] ≡ flat_map (λ (x : NamedRecord). prefix ++ line_at q.sources.now q.plan.now.files x.file x.start x.bytes) (take n [])
      nothing n = sym (ap (flat_map (λ (x : NamedRecord). prefix ++ line_at q.sources.now q.plan.now.files x.file x.start x.bytes)) (take_all n [] (omega arith)))

  pub walked_more : (done : List NamedRecord) (r : NamedRecord) (old new : Totals) (mid last : Seen)
      → HasWalked q prefix done old start mid → Counts q.wanted (pairs_of q.job.now r) old new
      → last ≡ with_bytes mid (printed q prefix old.records r.file r.start r.bytes)
      → HasWalked q prefix (done ++ r ∷ []) new start last
  walked_more done r old new mid last walked more put = record {
    counts = counts-more q.job.now q.wanted done r old new walked.counts more;
    put = written start mid last (listing q prefix done) (printed q prefix old.records r.file r.start r.bytes) walked.put put
        ∙ ap (with_bytes start)
        (ap (λ k. listing q prefix done ++ printed q prefix k r.file r.start r.bytes) walked.counts.records ∙ sym (listing-more q prefix done r));
  }

-- ---- summaries

pub summary-is : (job : JobSpec) (wanted : Wanted) (label : List ℕ) (rs : List NamedRecord) (t : Totals) → AreCounts job wanted rs t
    → summary_line label t.pairs t.records ≡ summary_of job wanted label rs
summary-is job wanted label rs t are =
    ap (λ n. summary_line label n t.records) are.pairs ∙ ap (λ n. summary_line label (pair_total job wanted rs) n) are.records

no_text : (f : NamedRecord → List ℕ) (limit : ℕ) (found : List NamedRecord) → length found ≡ 0 → flat_map f (take limit found) ≡ []
no_text f limit [] e = ap (flat_map f) (take_all limit [] (omega arith))
no_text f limit (r ∷ rs) e = absurd (omega (arith, e))

module _ (q : Query) (t : Totals) (are : AreCounts q.job.now q.wanted (left_out_of q) t) where
  -- where none of them is looked for, nothing is printed of the left-out records
  pub none_left_out : t.records ≡ 0 → listing q (codes "left out:") (left_out_of q) ≡ left_out_text q
  none_left_out none =
      let found : List NamedRecord = evidence q.job.now q.wanted (left_out_of q) in
      let count : length found ≡ 0 = sym are.records ∙ none in
      no_text (λ (r : NamedRecord). codes "left out:" ++ line_at q.sources.now q.plan.now.files r.file r.start r.bytes) q.limit found count
      ∙ sym (ap (λ n. cond (eqb n 0) [] (listing q (codes "left out:") (left_out_of q) ++ summary_of q.job.now q.wanted (codes "left out") (left_out_of q))) count)

  pub some_left_out : (t.records ≡ 0 → ⊥)
      → listing q (codes "left out:") (left_out_of q) ++ summary_line (codes "left out") t.pairs t.records ≡ left_out_text q
  some_left_out some =
      let text : List ℕ = listing q (codes "left out:") (left_out_of q) in
      ap (λ l. text ++ l) (summary-is q.job.now q.wanted (codes "left out") (left_out_of q) t are)
      ∙ sym (ap (λ b. cond b [] (text ++ summary_of q.job.now q.wanted (codes "left out") (left_out_of q))) (ne_eqb (length (evidence q.job.now q.wanted (left_out_of q))) 0 (λ e. some (are.records ∙ e))))
