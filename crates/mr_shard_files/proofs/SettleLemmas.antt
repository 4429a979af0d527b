-- Parts that are read as far as they go, and compared with what their verdicts tell.
use Rattle.std.proofs.Common.{◌≡◌, ℕ, zero, suc, ◌+◌, ◌<◌, ◌^◌, ◌||◌, ◌⊎◌, Bool, true, false, inl, inr, List, [], ◌∷◌, ◌++◌, append_assoc, append-nil, length, length-append, get_or, map, take, refl, ap, sym, ◌∙◌, subst, arith, Some, None, string_bytes}
use Rattle.std.proofs.lemmas.List.{get_or-map, length-map, take-map, take-take, take_more}
use Rattle.std.specs.Io.KnownBytes.{Consumes, IsAtEnd}
use Rattle.std.specs.Prelude.{Option, IsTrue, ◌↔◌}
use Rattle.mr_files.specs.Holding.{Agrees, Faulty, Holding, Stored}
use Rattle.mr_files.specs.Names.{name_of_part}
use Rattle.mr_jobs.specs.JobSpec.{JobSpec}
use Rattle.mr_shards.specs.declared.cursor.Held.{Held}
use Rattle.mr_shards.specs.declared.merger.ShardText.{ShardText}
use Rattle.mr_shards.specs.declared.shift.ShardFiles.{ShardFiles}
use Rattle.mr_shards.specs.Rounds.{Reading, output_with, outputs_of}
use Rattle.mr_shards.specs.Joined.{inputs_of, verdict_at}
use Rattle.mr_shards.specs.RangeVerdicts.{files_of}
use Rattle.mr_shards.specs.Verdict.{Told}
use Rattle.mr_shard_files.specs.declared.fault.ShardFault.{ShardFault}
use Rattle.mr_shard_files.specs.declared.fault.ShardFault.TheVariants.{CannotRead, OtherPart, OutOfMemory}
use Rattle.mr_shard_files.specs.declared.stream.Part.{Part}
use Rattle.mr_shard_files.specs.Beside.{AreOutputs, IsPartition, StandsBeside, Tells, ReportsCause, files_told}
use Rattle.mr_shard_files.specs.Faults.{AreTold, IsPartAt, IsPartFault, IsPartitionFault, IsUnopened, name_at}
use Rattle.mr_shard_files.specs.Streams.{AllAre, AllMayBe, AreJoined, AreOpened, AreUnsettled, CountsDown, Ends, HasRead, IsOpened, IsOther, IsRefused, IsSettled, IsStream, MayBe, Moves, OneIs, ReportsUnread, is_done, length_told}
use Rattle.mr_files.proofs.Lists.{names_more}
use Rattle.mr_shard_files.proofs.FaultLemmas.{blamed}
use Rattle.mr_shard_files.proofs.RoundLemmas.{all_none, nothings}
use Rattle.mr_shard_files.proofs.SumLemmas.{AreCounts, counts_of}

-- what is left of a reader's bytes, where they are known
abbrev left_known : Option (List ℕ) → List ℕ
left_known None = []
left_known (Some xs) = xs

agrees_left : (k : Option (List ℕ)) → Agrees k (left_known k)
agrees_left None = tt
agrees_left (Some xs) = refl

agrees_read : (a b : Option (List ℕ)) (got : List ℕ) → Consumes a b got → Agrees a (got ++ left_known b)
agrees_read None b got c = tt
agrees_read (Some xs) None got c = absurd c
agrees_read (Some xs) (Some ys) got c = c

left_at_end : (k : Option (List ℕ)) → IsAtEnd k → left_known k ≡ []
left_at_end None e = refl
left_at_end (Some xs) e = e

-- a flag of two is set
one_set : (a b : Bool) → a || b ≡ true → (a ≡ true) ⊎ (b ≡ true)
one_set true b e = inl refl
one_set false b e = inr e

not_longer : (told left read : ℕ) (longer : Bool) → CountsDown told left longer read → told ≡ read → longer ≡ true → ⊥
not_longer told left read true c e l = omega (arith, c, e)
not_longer told left read false c e l = absurd (cc)

passed_told : (told left read : ℕ) (longer : Bool) → CountsDown told left longer read → longer ≡ true → told < read
passed_told told left read true c l = c
passed_told told left read false c l = absurd (cc)

either : {A B : Type 0} → A ⊎ B → (A → ⊥) → (B → ⊥) → ⊥
either (inl a) f g = f a
either (inr b) f g = g b

outputs_count : (vs : List Told) (ts : List (List ℕ)) (os : List ShardText) → AreOutputs vs ts os → length os ≡ length vs
outputs_count [] [] [] h = refl
outputs_count [] [] (o ∷ os) h = absurd h
outputs_count [] (t ∷ ts) os h = absurd h
outputs_count (v ∷ vs) [] os h = absurd h
outputs_count (v ∷ vs) (t ∷ ts) [] h = absurd h
outputs_count (v ∷ vs) (t ∷ ts) (o ∷ os) h = ap (λ k. suc k) (outputs_count vs ts os h.2)

module _ {R : Type 0} (remaining : R → Option (List ℕ)) (can_fail : R → Type 0) where
  pub ends : (p : ℕ) (v : Told) (b : Bool) (old new : Part R) → ((passed : List ℕ) × Moves remaining can_fail passed old new) → is_done new ≡ true
      → ((bytes : List ℕ) → HasRead (length_told p v) new bytes → IsTrue b ↔ ReportsCause p v bytes) → Ends remaining can_fail p v b old new
  ends p v true old new m done f = record { passed = m.0; moves = m.1; done = done; told = λ bytes h. (f bytes h).0 refl }
  ends p v false old new m done f = record { new = new; passed = m.0; moves = m.1; done = done; other = λ bytes h t. let no_one : false ≡ true = (f bytes h).1 t in cc }

  pub is_other : (p : ℕ) (v : Told) (b : Bool) (old new : Part R) → b ≡ false → Ends remaining can_fail p v b old new → IsOther remaining can_fail p v old
  is_other p v true old new n e = absurd (cc)
  is_other p v false old new n e = e

  pub is_settled : (p : ℕ) (v : Told) (b : Bool) (old new : Part R) → b ≡ true → Ends remaining can_fail p v b old new → IsSettled remaining can_fail p v old new
  is_settled p v true old new n e = e
  is_settled p v false old new n e = absurd (cc)

  pub unsettled_unread : (p : ℕ) (vs : List Told) (qs : List (Part R)) (e : ShardFault) → OneIs (λ _ q. ReportsUnread (can_fail q.reader) (string_bytes q.name) e) qs → AreUnsettled remaining can_fail p vs qs e
  unsettled_unread p vs qs (OtherPart shard partition) (i, d, less, t) = absurd t
  unsettled_unread p vs qs e h = h

  module _ (holds : Stored) (unreadable : Faulty) (p : ℕ) where
    abbrev pub Stream : List ℕ → Told → List ℕ → Part R → Type 0
    Stream = IsStream holds unreadable remaining can_fail p

    abbrev pub AreStreams : List (List ℕ) → List Told → List (List ℕ) → List (Part R) → Type 0
    AreStreams [] [] [] [] = Unit {0}
    AreStreams (n ∷ ns) (v ∷ vs) (x ∷ xs) (q ∷ qs) = Stream n v x q × AreStreams ns vs xs qs
    AreStreams _ _ _ _ = ⊥

    -- a part that moved on is still that part
    pub moved_on : (n : List ℕ) (v : Told) (x y : List ℕ) (o m : Part R) → Stream n v x o → Moves remaining can_fail y o m → Stream n v (x ++ y) m
    moved_on n v x y o m s k = record {
      folder = s.folder;
      is_folder = s.is_folder;
      named = ap string_bytes k.name ∙ s.named;
      stands = λ b a. subst (holds (name_of_part s.folder p)) (ap (λ t. x ++ t) (sym (append_assoc o.held k.got b) ∙ ap (λ t. t ++ b) k.held ∙ append_assoc y m.held b) ∙ sym (append_assoc x y (m.held ++ b)))
          (s.stands (k.got ++ b) (back (remaining o.reader) (remaining m.reader) k.got b k.consumes a));
      fails = λ f. s.fails (k.later f);
      read = subst (HasRead (length_told p v) m) (append_assoc x o.held k.got ∙ ap (λ t. x ++ t) k.held ∙ sym (append_assoc x y m.held)) (k.read (length_told p v) (x ++ o.held) s.read);
      at_end = k.at_end s.at_end;
    }
      where
        back : (a b : Option (List ℕ)) (got more : List ℕ) → Consumes a b got → Agrees b more → Agrees a (got ++ more)
        back None b got more c e = tt
        back (Some xs) None got more c e = absurd c
        back (Some xs) (Some ys) got more c e = c ∙ ap (λ t. got ++ t) e

    pub opened_moved : (ns : List (List ℕ)) (vs : List Told) (xs : List (List ℕ)) (os ms : List (Part R)) → AreOpened holds unreadable remaining can_fail p ns vs os → AllAre (Moves remaining can_fail) xs os ms → AreStreams ns vs xs ms
    opened_moved [] [] [] [] [] h k = tt
    opened_moved [] [] [] [] (m ∷ ms) h k = absurd k
    opened_moved [] [] (x ∷ xs) [] ms h k = absurd k
    opened_moved [] [] xs (o ∷ os) ms h k = absurd h
    opened_moved [] (v ∷ vs) xs os ms h k = absurd h
    opened_moved (n ∷ ns) [] xs os ms h k = absurd h
    opened_moved (n ∷ ns) (v ∷ vs) xs [] ms h k = absurd h
    opened_moved (n ∷ ns) (v ∷ vs) [] (o ∷ os) ms h k = absurd k
    opened_moved (n ∷ ns) (v ∷ vs) (x ∷ xs) (o ∷ os) [] h k = absurd k
    opened_moved (n ∷ ns) (v ∷ vs) (x ∷ xs) (o ∷ os) (m ∷ ms) h k = (moved_on n v [] x o m h.0.0 k.0, opened_moved ns vs xs os ms h.1 k.1)

    -- some bytes stand there
    some_stand : (n : List ℕ) (v : Told) (x : List ℕ) (q : Part R) → Stream n v x q → (t : List ℕ) × StandsBeside holds p n t
    some_stand n v x q s = (x ++ (q.held ++ left_known (remaining q.reader)), (s.folder, s.is_folder, s.stands (left_known (remaining q.reader)) (agrees_left (remaining q.reader))))

    pub first_stand : (ns : List (List ℕ)) (vs : List Told) (xs : List (List ℕ)) (qs : List (Part R)) (i : ℕ) → AreStreams ns vs xs qs → (read : List (List ℕ)) × Holding (StandsBeside holds p) (take i ns) read
    first_stand ns vs xs qs zero h = ([], tt)
    first_stand [] vs xs qs (suc i) h = ([], tt)
    first_stand (n ∷ ns) [] xs qs (suc i) h = absurd h
    first_stand (n ∷ ns) (v ∷ vs) [] qs (suc i) h = absurd h
    first_stand (n ∷ ns) (v ∷ vs) (x ∷ xs) [] (suc i) h = absurd h
    first_stand (n ∷ ns) (v ∷ vs) (x ∷ xs) (q ∷ qs) (suc i) h =
        let one = some_stand n v x q h.0 in
        let rest = first_stand ns vs xs qs i h.1 in
        (one.0 ∷ rest.0, (one.1, rest.1))

    pub stream_at : (ns : List (List ℕ)) (vs : List Told) (xs : List (List ℕ)) (qs : List (Part R)) (i : ℕ) (d : Part R) → AreStreams ns vs xs qs → i < length qs → (i < length ns) × Stream (name_at ns i) (verdict_at vs i) (get_or xs i []) (get_or qs i d)
    stream_at [] [] [] [] i d h less = absurd (omega (arith, less))
    stream_at [] [] [] (q ∷ qs) i d h less = absurd h
    stream_at [] [] (x ∷ xs) qs i d h less = absurd h
    stream_at [] (v ∷ vs) xs qs i d h less = absurd h
    stream_at (n ∷ ns) [] xs qs i d h less = absurd h
    stream_at (n ∷ ns) (v ∷ vs) [] qs i d h less = absurd h
    stream_at (n ∷ ns) (v ∷ vs) (x ∷ xs) [] i d h less = absurd h
    stream_at (n ∷ ns) (v ∷ vs) (x ∷ xs) (q ∷ qs) zero d h less = (omega arith, h.0)
    stream_at (n ∷ ns) (v ∷ vs) (x ∷ xs) (q ∷ qs) (suc i) d h less =
        let rest = stream_at ns vs xs qs i d h.1 (omega (arith, less)) in
        (omega (arith, rest.0), rest.1)

    -- ---- a part that is the one that its verdict tells of

    pub record Whole (f : ShardFiles) (n : List ℕ) (v : Told) (x : List ℕ) (q : Part R) : Type 0 where
      pub text : List ℕ
      pub stands : StandsBeside holds p n text
      pub told : ReportsCause p v text
      pub reading : Reading
      pub text_is : reading.output.text.now ≡ text
      pub may : MayBe f x q reading

    pub whole : (f : ShardFiles) (n : List ℕ) (v : Told) (x : List ℕ) (q m : Part R) → Stream n v x q → IsSettled remaining can_fail p v q m → Whole f n v x q
    whole f n v x q m s k =
        let got = k.moves.got in
        let text : List ℕ = x ++ (q.held ++ got) in
        let has = k.moves.read (length_told p v) (x ++ q.held) s.read in
        let same : (x ++ q.held) ++ got ≡ text = append_assoc x q.held got in
        let tells = k.told ((x ++ q.held) ++ got) has in
        let ended : m.ended ≡ true = by_end (one_set m.ended m.longer k.done) (λ l. not_longer (length_told p v) m.left (length ((x ++ q.held) ++ got)) m.longer has.1 tells.1.0 l) in
        let none : left_known (remaining m.reader) ≡ [] = left_at_end (remaining m.reader) (k.moves.at_end s.at_end ended) in
        let agrees : Agrees (remaining q.reader) got = subst (Agrees (remaining q.reader)) (ap (λ t. got ++ t) none ∙ append-nil got) (agrees_read (remaining q.reader) (remaining m.reader) got k.moves.consumes) in
        record {
          text = text;
          stands = (s.folder, s.is_folder, s.stands got agrees);
          told = subst (ReportsCause p v) same tells;
          reading = record { output = output_with f text; taken = length x };
          text_is = refl;
          may = record { files_are = refl; taken_is = refl; more = got; text_is = refl; none_more = k.moves.still };
        }
      where
        by_end : {A B : Type 0} → A ⊎ B → (B → ⊥) → A
        by_end (inl a) f = a
        by_end (inr b) f = absurd (f b)

    pub record Wholes (ns : List (List ℕ)) (vs : List Told) (xs : List (List ℕ)) (qs : List (Part R)) : Type 0 where
      pub texts : List (List ℕ)
      pub readings : List Reading
      pub stand : Holding (StandsBeside holds p) ns texts
      pub told : Tells p vs texts
      pub outputs : AreOutputs vs texts (outputs_of readings)
      pub may : AllMayBe (files_told vs) xs qs readings

    pub wholes : (ns : List (List ℕ)) (vs : List Told) (xs : List (List ℕ)) (qs ms : List (Part R)) → AreStreams ns vs xs qs → AllAre (IsSettled remaining can_fail p) vs qs ms → Wholes ns vs xs qs
    wholes [] [] [] [] ms h k = record { texts = []; readings = []; stand = tt; told = tt; outputs = tt; may = tt }
    wholes [] [] [] (q ∷ qs) ms h k = absurd h
    wholes [] [] (x ∷ xs) qs ms h k = absurd h
    wholes [] (v ∷ vs) xs qs ms h k = absurd h
    wholes (n ∷ ns) [] xs qs ms h k = absurd h
    wholes (n ∷ ns) (v ∷ vs) [] qs ms h k = absurd h
    wholes (n ∷ ns) (v ∷ vs) (x ∷ xs) [] ms h k = absurd h
    wholes (n ∷ ns) (v ∷ vs) (x ∷ xs) (q ∷ qs) [] h k = absurd k
    wholes (n ∷ ns) (v ∷ vs) (x ∷ xs) (q ∷ qs) (m ∷ ms) h k =
        let one = whole (files_of v.inputs (inputs_of vs)) n v x q m h.0 k.0 in
        let rest = wholes ns vs xs qs ms h.1 k.1 in
        record {
          texts = one.text ∷ rest.texts;
          readings = one.reading ∷ rest.readings;
          stand = (one.stands, rest.stand);
          told = (one.told, rest.told);
          outputs = (one.may.files_are, one.text_is, rest.outputs);
          may = (one.may, rest.may);
        }

    -- ---- a part that is another, or can't be read

    pub other_part : (n : List ℕ) (v : Told) (x : List ℕ) (q : Part R) → Stream n v x q → IsOther remaining can_fail p v q → (text : List ℕ) × StandsBeside holds p n text × (ReportsCause p v text → ⊥)
    other_part n v x q s k =
        let got = k.moves.got in
        let rest = left_known (remaining k.new.reader) in
        let read : List ℕ = (x ++ q.held) ++ got in
        let has = k.moves.read (length_told p v) (x ++ q.held) s.read in
        let text : List ℕ = x ++ (q.held ++ (got ++ rest)) in
        let same : read ++ rest ≡ text = append_assoc (x ++ q.held) got rest ∙ append_assoc x q.held (got ++ rest) in (
          text,
          (s.folder, s.is_folder, s.stands (got ++ rest) (agrees_read (remaining q.reader) (remaining k.new.reader) got k.moves.consumes)),
          λ t.
              let t' = subst (ReportsCause p v) (sym same) t in
              either (one_set k.new.ended k.new.longer k.done)
              (λ e. k.other read has (subst (ReportsCause p v) (ap (λ r. read ++ r) (left_at_end (remaining k.new.reader) (k.moves.at_end s.at_end e)) ∙ append-nil read) t'))
              (λ l. let past = passed_told (length_told p v) k.new.left (length read) k.new.longer has.1 l in let count = length-append read rest in omega (arith, past, t'.1.0, count)),
        )

    -- why a part can't be read is why it stands so in the store
    pub unread_part : (n : List ℕ) (v : Told) (x : List ℕ) (q : Part R) (i : ℕ) (e : ShardFault) → Stream n v x q → ReportsUnread (can_fail q.reader) (string_bytes q.name) e → IsPartFault holds unreadable p i n v e
    unread_part n v x q i (CannotRead told) s t = (s.folder, s.is_folder, t.1 ∙ s.named, subst unreadable (sym (t.1 ∙ s.named)) (s.fails t.0))
    unread_part n v x q i OutOfMemory s t = tt
    unread_part n v x q i e s t = absurd t

    part_at : (ns : List (List ℕ)) (vs : List Told) (xs : List (List ℕ)) (qs : List (Part R)) (i : ℕ) (d : Part R) (e : ShardFault) → AreStreams ns vs xs qs → i < length qs
        → ((read : List (List ℕ)) × Holding (StandsBeside holds p) (take i ns) read × AreTold p (take i vs) read e)
        → (Stream (name_at ns i) (verdict_at vs i) (get_or xs i []) (get_or qs i d) → IsPartFault holds unreadable p i (name_at ns i) (verdict_at vs i) e) → IsPartAt holds unreadable p ns vs e
    part_at ns vs xs qs i d e h less before f =
        let here = stream_at ns vs xs qs i d h less in
        record { at = i; read = before.0; within = here.0; stand = before.1; told = before.2; why = f here.1 }

    -- where a part can't be read, nothing is said of what those before hold
    told_unread : (vs : List Told) (ts : List (List ℕ)) (P : Type 0) (n : List ℕ) (e : ShardFault) → ReportsUnread P n e → AreTold p vs ts e
    told_unread vs ts P n (CannotRead told) t = tt
    told_unread vs ts P n OutOfMemory t = tt
    told_unread vs ts P n e t = absurd t

    unread_at : (ns : List (List ℕ)) (vs : List Told) (xs : List (List ℕ)) (qs : List (Part R)) (e : ShardFault) → AreStreams ns vs xs qs
        → OneIs (λ _ q. ReportsUnread (can_fail q.reader) (string_bytes q.name) e) qs → IsPartAt holds unreadable p ns vs e
    unread_at ns vs xs qs e h (i, d, less, t) =
        let before = first_stand ns vs xs qs i h in
        part_at ns vs xs qs i d e h less (before.0, before.1, told_unread (take i vs) before.0 (can_fail (get_or qs i d).reader) (string_bytes (get_or qs i d).name) e t)
        (λ s. unread_part (name_at ns i) (verdict_at vs i) (get_or xs i []) (get_or qs i d) i e s t)

    streams_first : (i : ℕ) (ns : List (List ℕ)) (vs : List Told) (xs : List (List ℕ)) (qs : List (Part R)) → AreStreams ns vs xs qs → AreStreams (take i ns) (take i vs) (take i xs) (take i qs)
    streams_first zero ns vs xs qs h = tt
    streams_first (suc i) [] [] [] [] h = tt
    streams_first (suc i) [] [] [] (q ∷ qs) h = absurd h
    streams_first (suc i) [] [] (x ∷ xs) qs h = absurd h
    streams_first (suc i) [] (v ∷ vs) xs qs h = absurd h
    streams_first (suc i) (n ∷ ns) [] xs qs h = absurd h
    streams_first (suc i) (n ∷ ns) (v ∷ vs) [] qs h = absurd h
    streams_first (suc i) (n ∷ ns) (v ∷ vs) (x ∷ xs) [] h = absurd h
    streams_first (suc i) (n ∷ ns) (v ∷ vs) (x ∷ xs) (q ∷ qs) h = (h.0, streams_first i ns vs xs qs h.1)

    unsettled_at : (ns : List (List ℕ)) (vs : List Told) (xs : List (List ℕ)) (qs : List (Part R)) (e : ShardFault) → AreStreams ns vs xs qs → AreUnsettled remaining can_fail p vs qs e → IsPartAt holds unreadable p ns vs e
    unsettled_at ns vs xs qs (OtherPart shard partition) h (same, (i, d, less, one), (ends, settled)) =
        let before = wholes (take i ns) (take i vs) (take i xs) (take i qs) ends (streams_first i ns vs xs qs h)
        (subst (λ k. AllAre (IsSettled remaining can_fail p) (take k vs) (take k qs) ends) one.0 settled) in
        part_at ns vs xs qs i d (OtherPart shard partition) h less (before.texts, before.stand, before.told)
        (λ s. (one.0, same, other_part (name_at ns i) (verdict_at vs i) (get_or xs i []) (get_or qs i d) s one.1))
    unsettled_at ns vs xs qs e h u = unread_at ns vs xs qs e h u

    pub opened_count : (ns : List (List ℕ)) (vs : List Told) (qs : List (Part R)) → AreOpened holds unreadable remaining can_fail p ns vs qs → length qs ≡ length vs
    opened_count [] [] [] h = refl
    opened_count [] [] (q ∷ qs) h = absurd h
    opened_count [] (v ∷ vs) qs h = absurd h
    opened_count (n ∷ ns) [] qs h = absurd h
    opened_count (n ∷ ns) (v ∷ vs) [] h = absurd h
    opened_count (n ∷ ns) (v ∷ vs) (q ∷ qs) h = ap (λ k. suc k) (opened_count ns vs qs h.1)

    -- the text is that of the partition, and so many pairs were counted of its parts
    pub record IsCounted (job : JobSpec) (ns : List (List ℕ)) (vs : List Told) (text : List ℕ) (held : List Held) : Type 0 where
      pub partition : IsPartition holds job ns vs p text
      pub counts : AreCounts job partition.parts held

    pub partition_joined : (job : JobSpec) (ns : List (List ℕ)) (vs : List Told) (qs : List (Part R)) (files : List ShardFiles) (text : List ℕ) (held : List Held) → files ≡ files_told vs
        → AreOpened holds unreadable remaining can_fail p ns vs qs → AreJoined remaining can_fail job files p vs qs text held → IsCounted job ns vs text held
    partition_joined job ns vs qs files text held is h j =
        let w = wholes ns vs j.merged.passed j.mid j.new (opened_moved ns vs j.merged.passed qs j.mid h j.merged.moved) j.settled in
        let both = j.merged.merged w.readings (subst (λ fs. AllMayBe fs j.merged.passed j.mid w.readings) (sym is) w.may) in
        let m = both.0 in
        let os = outputs_of w.readings in
        let count : length held ≡ length os = j.merged.count ∙ opened_count ns vs qs h ∙ sym (outputs_count vs w.texts os w.outputs) in
        record {
          partition = record {
            parts = w.texts;
            outputs = os;
            stand = w.stand;
            told = w.told;
            outputs_are = w.outputs;
            lines = m.stands;
            merged = m.text_is;
            whole = m.whole;
          };
          counts = counts_of job vs w.texts os held w.outputs m.stands count both.1;
        }

    pub partition_refused : (job : JobSpec) (ns : List (List ℕ)) (vs : List Told) (qs : List (Part R)) (files : List ShardFiles) (e : ShardFault) → length (inputs_of vs) < 2 ^ 32 → files ≡ files_told vs
        → AreOpened holds unreadable remaining can_fail p ns vs qs → IsRefused remaining can_fail job files p vs qs e → IsPartitionFault holds unreadable job ns vs p e
    partition_refused job ns vs qs files e few is h (inl none) = inl (inl none)
    partition_refused job ns vs qs files e few is h (inr (inl one)) = inl (inr (unread_at ns vs (nothings qs) qs e (opened_moved ns vs (nothings qs) qs qs h (all_none remaining can_fail qs)) one))
    partition_refused job ns vs qs files e few is h (inr (inr (inl u))) = inl (inr (unsettled_at ns vs u.passed u.mid e (opened_moved ns vs u.passed qs u.mid h u.moved) u.why))
    partition_refused job ns vs qs files e few is h (inr (inr (inr b))) =
        let w = wholes ns vs b.merged.passed b.mid b.new (opened_moved ns vs b.merged.passed qs b.mid h b.merged.moved) b.settled in
        let why = b.merged.blamed w.readings (subst (λ fs. AllMayBe fs b.merged.passed b.mid w.readings) (sym is) w.may) in
        subst (IsPartitionFault holds unreadable job ns vs p) (sym b.told) (inr (record {
          parts = w.texts;
          outputs = outputs_of w.readings;
          stand = w.stand;
          told = w.told;
          outputs_are = w.outputs;
          why = blamed job vs w.texts (outputs_of w.readings) p b.cause few w.outputs why;
        }))

    -- ---- the parts, opened one after another

    opened_more : (ns : List (List ℕ)) (vs : List Told) (qs : List (Part R)) (n : List ℕ) (v : Told) (q : Part R) → AreOpened holds unreadable remaining can_fail p ns vs qs → IsOpened holds unreadable remaining can_fail p n v q
        → AreOpened holds unreadable remaining can_fail p (ns ++ n ∷ []) (vs ++ v ∷ []) (qs ++ q ∷ [])
    opened_more [] [] [] n v q h k = (k, tt)
    opened_more [] [] (o ∷ qs) n v q h k = absurd h
    opened_more [] (w ∷ vs) qs n v q h k = absurd h
    opened_more (m ∷ ns) [] qs n v q h k = absurd h
    opened_more (m ∷ ns) (w ∷ vs) [] n v q h k = absurd h
    opened_more (m ∷ ns) (w ∷ vs) (o ∷ qs) n v q h k = (h.0, opened_more ns vs qs n v q h.1 k)

    pub opened_next : {A : Type 0} (f : A → List ℕ) (names : List A) (vs : List Told) (i : ℕ) (d : A) (w v : Told) (qs after : List (Part R)) (q : Part R) → i < length names → i < length vs → v ≡ get_or vs i w
        → after ≡ qs ++ q ∷ [] → AreOpened holds unreadable remaining can_fail p (map f (take i names)) (take i vs) qs → IsOpened holds unreadable remaining can_fail p (f (get_or names i d)) v q
        → AreOpened holds unreadable remaining can_fail p (map f (take (i + 1) names)) (take (i + 1) vs) after
    opened_next f names vs i d w v qs after q less less' is more h k =
        subst (λ (l : List (List ℕ)). AreOpened holds unreadable remaining can_fail p l (take (i + 1) vs) after) (sym (names_more f names i d less))
        (subst (λ (l : List Told). AreOpened holds unreadable remaining can_fail p (map f (take i names) ++ f (get_or names i d) ∷ []) l after) (sym (take_more vs i w less' ∙ ap (λ (x : Told). take i vs ++ x ∷ []) (sym is)))
        (subst (AreOpened holds unreadable remaining can_fail p (map f (take i names) ++ f (get_or names i d) ∷ []) (take i vs ++ v ∷ [])) (sym more) (opened_more (map f (take i names)) (take i vs) qs (f (get_or names i d)) v q h k)))

    unopened : (n : List ℕ) (v : Told) (i : ℕ) (e : ShardFault) → IsUnopened unreadable p n e → IsPartFault holds unreadable p i n v e
    unopened n v i (CannotRead told) u = u
    unopened n v i OutOfMemory u = tt
    unopened n v i e u = absurd u

    told_unopened : (vs : List Told) (ts : List (List ℕ)) (n : List ℕ) (e : ShardFault) → IsUnopened unreadable p n e → AreTold p vs ts e
    told_unopened vs ts n (CannotRead told) u = tt
    told_unopened vs ts n OutOfMemory u = tt
    told_unopened vs ts n e u = absurd u

    -- one can't be opened
    pub unopened_at : {A : Type 0} (f : A → List ℕ) (names : List A) (vs : List Told) (i : ℕ) (d : A) (qs : List (Part R)) (e : ShardFault) → i < length names
        → AreOpened holds unreadable remaining can_fail p (map f (take i names)) (take i vs) qs → IsUnopened unreadable p (f (get_or names i d)) e → IsPartAt holds unreadable p (map f names) vs e
    unopened_at f names vs i d qs e less h u =
        let before = first_stand (map f (take i names)) (take i vs) (nothings qs) qs i (opened_moved (map f (take i names)) (take i vs) (nothings qs) qs qs h (all_none remaining can_fail qs)) in
        let all : take i (map f (take i names)) ≡ take i (map f names) = ap (take i) (sym (take-map f i names)) ∙ take-take i i (map f names) (omega arith) in
        let name : f (get_or names i d) ≡ name_at (map f names) i = sym (get_or-map f names i d [] less) in
        record {
          at = i;
          read = before.0;
          within = omega (arith, length-map names f, less);
          stand = subst (λ (l : List (List ℕ)). Holding (StandsBeside holds p) l before.0) all before.1;
          told = told_unopened (take i vs) before.0 (f (get_or names i d)) e u;
          why = subst (λ (n : List ℕ). IsPartFault holds unreadable p i n (verdict_at vs i) e) name (unopened (f (get_or names i d)) (verdict_at vs i) i e u);
        }
