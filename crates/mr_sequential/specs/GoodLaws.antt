-- What good results are worth: they leave nothing out, they are the sequential execution's, and their certificate is one.
use Rattle.std.specs.Prelude.{◌≡◌, ℕ, false, ◌<◌, ◌≤◌, None, List, [], ◌∷◌, length, map}
use Rattle.mr_bytes.specs.declared.By.TheVariants.{Key as WholeKey}
use Rattle.mr_bytes.specs.declared.Name.{Name}
use Rattle.mr_bytes.specs.declared.RecordName.{RecordName}
use Rattle.mr_bytes.specs.Lists.{Has, Rises, Distinct}
use Rattle.mr_bytes.specs.Order.{name_order}
use Rattle.mr_jobs.specs.JobSpec.{RequestSpec, WordCount}
use Rattle.mr_input.specs.Files.{nth_file}
use Rattle.mr_certform.specs.Value.{Contents}
use Rattle.mr_bytes.specs.Pairs.{Triple}
use Rattle.mr_sequential.specs.Rules.{Key, Rules}
use Rattle.mr_sequential.specs.Sequential.{texts_of, sequential}
use Rattle.mr_sequential.specs.Skips.{skip_fault}
use Rattle.mr_sequential.specs.Good.{AreGoodGroups, groups_at, entries_of, AreGood, IsGood}
use Rattle.mr_sequential.specs.Certified.{certificate_of}

-- the entries of partitions whose groups are good are distinct: by names, keys and partitions alone
abbrev pub EntriesAreDistinct : Type 0
EntriesAreDistinct = (part : Key → ℕ) (ts : List Triple) (parts : List (List (List Name)))
    → ((p : ℕ) → p < length parts → AreGoodGroups part ts p (groups_at parts p)) → Distinct (entries_of parts)

-- so there are no more of them than triples
abbrev pub NoMoreEntries : Type 0
NoMoreEntries = (part : Key → ℕ) (ts : List Triple) (parts : List (List (List Name)))
    → ((p : ℕ) → p < length parts → AreGoodGroups part ts p (groups_at parts p)) → length (entries_of parts) ≤ length ts

-- distinct entries that name triples, as many as there are triples, leave none out
abbrev pub NoneIsLeftOut : Type 0
NoneIsLeftOut = (ts : List Triple) (entries : List Name) → Distinct entries → ((n : Name) → Has entries n → Has (map (λ t. t.name) ts) n)
    → length entries ≡ length ts → (n : Name) → Has (map (λ t. t.name) ts) n → Has entries n

-- where the names of all triples rise, each output of a good result is that of the sequential execution
abbrev pub GoodPartsAreSequential : Type 0
GoodPartsAreSequential = (rules : Rules) (ts : List Triple) (parts : List (List (List Name))) (outputs : List (List ℕ))
    → Rises name_order (map (λ t. t.name) ts) → AreGood rules ts parts outputs
    → (p : ℕ) → p < length parts → nth_file outputs p ≡ texts_of rules ts p

-- each output of a good result is that of the sequential execution without the records that the certificate leaves out
abbrev pub GoodIsSequential : Type 0
GoodIsSequential = (request : RequestSpec) (files outputs : List (List ℕ)) (c : Contents) → 0 < request.split → IsGood request files outputs c
    → (p : ℕ) → p < request.parts → nth_file outputs p ≡ sequential request files c.skips p

-- the outputs of the sequential execution are good with its certificate, where what it leaves out has no fault
abbrev pub SequentialIsGood : Type 0
SequentialIsGood = (request : RequestSpec) (files outputs : List (List ℕ)) (skips : List RecordName) → 0 < request.split → 1 ≤ request.parts
    → skip_fault request files skips ≡ None → length outputs ≡ request.parts
    → ((p : ℕ) → p < request.parts → nth_file outputs p ≡ sequential request files skips p)
    → IsGood request files outputs (certificate_of request files skips)

-- the certificate of a good result is that of the sequential execution without the same records
abbrev pub CertificateIsSequential : Type 0
CertificateIsSequential = (request : RequestSpec) (files outputs : List (List ℕ)) (c : Contents) → 0 < request.split → IsGood request files outputs c
    → c ≡ certificate_of request files c.skips

-- good results that leave out the same records have one certificate
abbrev pub CertificateIsUnique : Type 0
CertificateIsUnique = (request : RequestSpec) (files outputs outputs' : List (List ℕ)) (c c' : Contents) → 0 < request.split
    → IsGood request files outputs c → IsGood request files outputs' c' → c.skips ≡ c'.skips → c ≡ c'

-- a worked row: the words of one line `a b a`, in one partition
abbrev pub one_line : RequestSpec
one_line = record { job = WordCount false; by = WholeKey; parts = 1; split = 64; skips = 0 }

abbrev pub a_b_a : List (List ℕ)
a_b_a = (97 ∷ 32 ∷ 98 ∷ 32 ∷ 97 ∷ 10 ∷ []) ∷ []

-- the emission of the first record at this place
abbrev pub at_place : ℕ → Name
at_place place = record { split = 0; rec = 0; place = place }

-- `a` was emitted first and last, and `b` between
abbrev pub WorkedGroups : Type 0
WorkedGroups = (certificate_of one_line a_b_a []).groups ≡ ((at_place 0 ∷ at_place 2 ∷ []) ∷ (at_place 1 ∷ []) ∷ []) ∷ []

-- `a` tab 2, `b` tab 1
abbrev pub WorkedOutput : Type 0
WorkedOutput = sequential one_line a_b_a [] 0 ≡ 97 ∷ 9 ∷ 50 ∷ 10 ∷ 98 ∷ 9 ∷ 49 ∷ 10 ∷ []
