-- A record's pairs behind those of the records before it, and how many records are mapped.
use Rattle.std.proofs.Common.{◌≡◌, ℕ, suc, ◌+◌, ◌-◌, ◌≤◌, Bool, true, not, cond, List, [], ◌∷◌, ◌++◌, length, replicate, sym, ◌∙◌, ap, subst, arith, inl, inr, length-append}
use Rattle.std.proofs.lemmas.Bool.{cases_eq, eq-eqb, ne_eqb}
use Rattle.std.proofs.lemmas.List.{append-nil, nil_from_length, length_push, length-replicate}
use Rattle.std.proofs.lemmas.List.Sums.{length-filter, count_by-le-length}
use Rattle.mr_bytes.specs.declared.RecordName.{RecordName}
use Rattle.mr_bytes.specs.Pairs.{Triple}
use Rattle.mr_jobs.specs.JobSpec.{JobSpec}
use Rattle.mr_jobs.specs.Emissions.{Emission, emissions}
use Rattle.mr_splits.specs.Named.{NamedRecord, is_left_out}
use Rattle.mr_sequential.specs.Emitted.{placed_from, record_triples}
use Rattle.mr_sequential.specs.Pairs.{kept_pairs}
use Rattle.mr_index.specs.Index.{mapped_among}
use Rattle.mr_index.specs.Pairs.{EndsRise, filled}
use Rattle.mr_index.specs.Building.{numbered, ended}
use Rattle.mr_index.proofs.PairLemmas.{rise-push}
use Rattle.mr_index.proofs.NumberedLemmas.{numbered-push, numbered-pad, rise-pad}

-- no more records are mapped than there are
pub mapped-few : (skips : List RecordName) (rs : List NamedRecord) → mapped_among skips rs ≤ length rs
mapped-few skips rs =
    let kept : NamedRecord → Bool = λ r. not (is_left_out skips r.name) in
    omega (arith, length-filter kept rs, count_by-le-length kept rs)

-- what is left out gives nothing
pub left-pairs : (job : JobSpec) (skips : List RecordName) (r : NamedRecord) → is_left_out skips r.name ≡ true → kept_pairs job skips r ≡ []
left-pairs job skips r h = ap (λ b. cond b [] (emissions job r.file r.start r.bytes)) h

pub left-triples : (job : JobSpec) (skips : List RecordName) (r : NamedRecord) → is_left_out skips r.name ≡ true → record_triples job skips r ≡ []
left-triples job skips r h = ap (λ b. cond b [] (placed_from r.name 0 (emissions job r.file r.start r.bytes))) h

-- the tables of the records from `first` on, once a record's pairs are there too
pub record Ended (split first number : ℕ) (name : RecordName) (ends ends' : List ℕ) (pairs more pairs' : List Emission) : Type 0 where
  pub few : length ends' ≤ suc number
  pub rise : EndsRise 0 (length pairs') ends'
  pub shows : numbered split first 0 ends' pairs' ≡ numbered split first 0 ends pairs ++ placed_from name 0 more

end-none : (split first number : ℕ) (name : RecordName) (ends : List ℕ) (pairs more : List Emission) → length ends ≤ number → EndsRise 0 (length pairs) ends
    → length pairs ≡ length (pairs ++ more) → Ended split first number name ends ends pairs more (pairs ++ more)
unfolding placed_from
end-none split first number name ends pairs more few rise same =
    let none : more ≡ [] = nil_from_length more (omega (arith, same, length-append pairs more)) in
    subst (λ (es : List Emission). Ended split first number name ends ends pairs es (pairs ++ es)) (sym none)
    (subst (λ (es : List Emission). Ended split first number name ends ends pairs [] es) (sym (append-nil pairs))
    (record { few = omega (arith, few); rise = rise; shows = sym (append-nil (numbered split first 0 ends pairs)) }))

end-some : (split first number : ℕ) (name : RecordName) (ends : List ℕ) (pairs more : List Emission) → length ends ≤ number → EndsRise 0 (length pairs) ends
    → name ≡ record { split = split; rec = first + number }
    → Ended split first number name ends (filled number (length pairs) ends ++ length (pairs ++ more) ∷ []) pairs more (pairs ++ more)
end-some split first number name ends pairs more few rise is =
    let missing : ℕ = number - length ends in
    let padded : List ℕ = ends ++ replicate missing (length pairs) in
    let long : length padded ≡ number = omega (arith, few, length-append ends (replicate missing (length pairs)), length-replicate missing (length pairs)) in
    let padded-rise : EndsRise 0 (length pairs) padded = rise-pad 0 (length pairs) missing ends rise in
    let here : first + length padded ≡ first + number = omega (arith, long) in
    record {
      few = omega (arith, long, length_push padded (length (pairs ++ more)));
      rise = rise-push 0 (length pairs) (length (pairs ++ more)) padded padded-rise (omega (arith, length-append pairs more));
      shows = numbered-push split first 0 padded pairs more padded-rise
          ∙ ap (λ (ts : List Triple). ts ++ placed_from (record { split = split; rec = first + length padded }) 0 more) (numbered-pad split first 0 missing ends pairs rise)
          ∙ ap (λ (r : RecordName). numbered split first 0 ends pairs ++ placed_from r 0 more) (ap (λ (k : ℕ). record { split = split; rec = k }) here ∙ sym is);
    }

pub end-next : (split first number : ℕ) (name : RecordName) (ends ends' : List ℕ) (pairs more pairs' : List Emission) → length ends ≤ number → EndsRise 0 (length pairs) ends
    → name ≡ record { split = split; rec = first + number } → pairs' ≡ pairs ++ more → ends' ≡ ended number (length pairs) (length pairs') ends
    → Ended split first number name ends ends' pairs more pairs'
end-next split first number name ends ends' pairs more pairs' few rise is grown ends-are =
    let after : List Emission = pairs ++ more in
    let are : ends' ≡ ended number (length pairs) (length after) ends = ends-are ∙ ap (λ (es : List Emission). ended number (length pairs) (length es) ends) grown in
    let new : List ℕ = filled number (length pairs) ends ++ length after ∷ [] in
    subst (λ (es : List Emission). Ended split first number name ends ends' pairs more es) (sym grown)
    (elim (cases_eq (length pairs) (length after)) [
      | inl same ↦
          subst (λ (l : List ℕ). Ended split first number name ends l pairs more after)
          (sym (are ∙ ap (λ b. cond b ends new) (eq-eqb (length pairs) (length after) same)))
          (end-none split first number name ends pairs more few rise same)
      | inr other ↦
          subst (λ (l : List ℕ). Ended split first number name ends l pairs more after)
          (sym (are ∙ ap (λ b. cond b ends new) (ne_eqb (length pairs) (length after) other)))
          (end-some split first number name ends pairs more few rise is)
    ])
