-- Parts that are merged in rounds.
use Rattle.std.proofs.Common.{◌≡◌, ◌⊎◌, ℕ, zero, suc, inl, inr, get_or, string_bytes, ◌+◌, ◌<◌, ◌&&◌, true, List, [], ◌∷◌, ◌++◌, append_assoc, append-nil, length, length-append, take, drop, refl, ap, sym, ◌∙◌, subst, arith}
use Rattle.std.proofs.lemmas.List.{length-take-le}
use Rattle.std.specs.Prelude.{Option}
use Rattle.mr_jobs.specs.JobSpec.{JobSpec}
use Rattle.mr_shards.specs.declared.shift.ShardFiles.{ShardFiles}
use Rattle.mr_shards.specs.declared.merger.Window.{Window}
use Rattle.mr_shards.specs.declared.merger.MergeFault.{MergeFault}
use Rattle.mr_shards.specs.Refused.{Blames}
use Rattle.mr_shards.specs.declared.cursor.Held.{Held}
use Rattle.mr_shards.specs.Rounds.{AreCounted, AreFresh, AreReadUpTo, AreStanding, AreWindows, AreWithin, IsAfter, IsMerged, IsWindow, IsWithin, Reading, Standing, are_last, outputs_of, rests, taken_on}
use Rattle.mr_shards.specs.Rounds.{Told as tells_so}
use Rattle.mr_shards.specs.Views.{Waits, WaitsFor}
use Rattle.mr_shards.specs.Verdict.{Told}
use Rattle.mr_shard_files.specs.declared.stream.Part.{Part}
use Rattle.mr_shard_files.specs.Made.{Gives}
use Rattle.mr_shard_files.specs.declared.rounds.Stop.{Stop}
use Rattle.mr_shard_files.specs.declared.rounds.Stop.TheVariants as stop
use Rattle.mr_shard_files.specs.Streams.{AllAre, AllMayBe, AreBlamed, AreHeld, AreWindowsOf, IsBlamedOver, IsNotBeside, IsRefused, IsStopped, IsStoppedAt, IsRoundFault, MayBe, Moves, OneIs, MergesHeld, ReportsUnread, all_done, is_done}
use Rattle.mr_shard_files.specs.declared.fault.ShardFault.{ShardFault}
use Rattle.mr_shard_files.proofs.StreamLemmas.{moves_none, moves_on, unread_back}

-- nothing of each
abbrev pub nothings : {R : Type 0} → List (Part R) → List (List ℕ)
nothings [] = []
nothings (q ∷ qs) = [] ∷ nothings qs

-- what is passed of each
abbrev pub fronts : {R : Type 0} → List ℕ → List (Part R) → List (List ℕ)
fronts [] qs = []
fronts (c ∷ cs) [] = []
fronts (c ∷ cs) (q ∷ qs) = take c q.held ∷ fronts cs qs

-- and that behind what was passed before
abbrev pub grown : List (List ℕ) → List (List ℕ) → List (List ℕ)
grown [] ys = []
grown (x ∷ xs) [] = []
grown (x ∷ xs) (y ∷ ys) = (x ++ y) ∷ grown xs ys

drop_front : (xs ys : List ℕ) → drop (length xs) (xs ++ ys) ≡ ys
drop_front [] ys = refl
drop_front (x ∷ xs) ys = drop_front xs ys

module _ {R : Type 0} (remaining : R → Option (List ℕ)) (can_fail : R → Type 0) where
  abbrev Fills : Part R → Part R → Part R → Type 0
  Fills _ o n = Moves remaining can_fail [] o n

  abbrev Passes : ℕ → Part R → Part R → Type 0
  Passes c o n = Moves remaining can_fail (take c o.held) o n

  pub all_none : (qs : List (Part R)) → AllAre (Moves remaining can_fail) (nothings qs) qs qs
  all_none [] = tt
  all_none (q ∷ qs) = (moves_none remaining can_fail q, all_none qs)

  pub all_filled : (xs : List (List ℕ)) (bs os ns zs : List (Part R)) → AllAre (Moves remaining can_fail) xs bs os → AllAre Fills zs os ns → AllAre (Moves remaining can_fail) xs bs ns
  all_filled [] [] [] [] zs h k = tt
  all_filled [] [] [] (n ∷ ns) [] h k = absurd k
  all_filled [] [] [] (n ∷ ns) (z ∷ zs) h k = absurd k
  all_filled [] [] (o ∷ os) ns zs h k = absurd h
  all_filled [] (a ∷ bs) os ns zs h k = absurd h
  all_filled (x ∷ xs) [] os ns zs h k = absurd h
  all_filled (x ∷ xs) (a ∷ bs) [] ns zs h k = absurd h
  all_filled (x ∷ xs) (a ∷ bs) (o ∷ os) ns [] h k = absurd k
  all_filled (x ∷ xs) (a ∷ bs) (o ∷ os) [] (z ∷ zs) h k = absurd k
  all_filled (x ∷ xs) (a ∷ bs) (o ∷ os) (n ∷ ns) (z ∷ zs) h k =
      (subst (λ y. Moves remaining can_fail y a n) (append-nil x) (moves_on remaining can_fail a o n x [] h.0 k.0), all_filled xs bs os ns zs h.1 k.1)

  pub all_passed : (xs : List (List ℕ)) (bs os ns : List (Part R)) (cs : List ℕ) → AllAre (Moves remaining can_fail) xs bs os → AllAre Passes cs os ns → AllAre (Moves remaining can_fail) (grown xs (fronts cs os)) bs ns
  all_passed [] [] [] [] [] h k = tt
  all_passed [] [] [] [] (c ∷ cs) h k = absurd k
  all_passed [] [] [] (n ∷ ns) [] h k = absurd k
  all_passed [] [] [] (n ∷ ns) (c ∷ cs) h k = absurd k
  all_passed [] [] (o ∷ os) ns cs h k = absurd h
  all_passed [] (a ∷ bs) os ns cs h k = absurd h
  all_passed (x ∷ xs) [] os ns cs h k = absurd h
  all_passed (x ∷ xs) (a ∷ bs) [] ns cs h k = absurd h
  all_passed (x ∷ xs) (a ∷ bs) (o ∷ os) ns [] h k = absurd k
  all_passed (x ∷ xs) (a ∷ bs) (o ∷ os) [] (c ∷ cs) h k = absurd k
  all_passed (x ∷ xs) (a ∷ bs) (o ∷ os) (n ∷ ns) (c ∷ cs) h k = (moves_on remaining can_fail a o n x (take c o.held) h.0 k.0, all_passed xs bs os ns cs h.1 k.1)

  -- what a part may be now, it may have been before
  may_back : (f : ShardFiles) (x y : List ℕ) (o n : Part R) (r : Reading) → Moves remaining can_fail y o n → MayBe f (x ++ y) n r → MayBe f x o (record { output = r.output; taken = length x })
  may_back f x y o n r m h = record {
    files_are = h.files_are;
    taken_is = refl;
    more = m.got ++ h.more;
    text_is = h.text_is ∙ append_assoc x y (n.held ++ h.more)
        ∙ ap (λ v. x ++ v) (sym (append_assoc y n.held h.more) ∙ ap (λ v. v ++ h.more) (sym m.held) ∙ append_assoc o.held m.got h.more);
    none_more = λ d. ap (λ v. v ++ h.more) (m.still d) ∙ h.none_more (m.done d);
  }

  same_reading : (r : Reading) (k : ℕ) → r.taken ≡ k → record { output = r.output; taken = k } ≡ r
  same_reading r k e = ap (λ (j : ℕ). let q : Reading = record { output = r.output; taken = j } in q) (sym e)

  pub fill_back : (fs : List ShardFiles) (xs : List (List ℕ)) (os ns zs : List (Part R)) (rs : List Reading) → AllAre Fills zs os ns → AllMayBe fs xs ns rs → AllMayBe fs xs os rs
  fill_back [] [] [] [] zs [] k h = tt
  fill_back [] [] [] [] zs (r ∷ rs) k h = absurd h
  fill_back [] [] [] (n ∷ ns) zs rs k h = absurd h
  fill_back [] [] (o ∷ os) [] [] rs k h = absurd k
  fill_back [] [] (o ∷ os) [] (z ∷ zs) rs k h = absurd k
  fill_back [] [] (o ∷ os) (n ∷ ns) zs rs k h = absurd h
  fill_back [] (x ∷ xs) os ns zs rs k h = absurd h
  fill_back (f ∷ fs) [] os ns zs rs k h = absurd h
  fill_back (f ∷ fs) (x ∷ xs) os [] zs rs k h = absurd h
  fill_back (f ∷ fs) (x ∷ xs) os (n ∷ ns) zs [] k h = absurd h
  fill_back (f ∷ fs) (x ∷ xs) [] (n ∷ ns) [] (r ∷ rs) k h = absurd k
  fill_back (f ∷ fs) (x ∷ xs) [] (n ∷ ns) (z ∷ zs) (r ∷ rs) k h = absurd k
  fill_back (f ∷ fs) (x ∷ xs) (o ∷ os) (n ∷ ns) [] (r ∷ rs) k h = absurd k
  fill_back (f ∷ fs) (x ∷ xs) (o ∷ os) (n ∷ ns) (z ∷ zs) (r ∷ rs) k h =
      let behind : MayBe f (x ++ []) n r = subst (λ y. MayBe f y n r) (sym (append-nil x)) h.0 in
      (subst (MayBe f x o) (same_reading r (length x) h.0.taken_is) (may_back f x [] o n r k.0 behind), fill_back fs xs os ns zs rs k.1 h.1)

  -- the readings before so much was passed
  pub record Before (fs : List ShardFiles) (xs : List (List ℕ)) (os : List (Part R)) (cs : List ℕ) (rs : List Reading) : Type 0 where
    pub was : List Reading
    pub may : AllMayBe fs xs os was
    pub on : taken_on cs was ≡ rs

  pub pass_back : (fs : List ShardFiles) (xs : List (List ℕ)) (os ns : List (Part R)) (cs : List ℕ) (rs : List Reading) → AreHeld cs os → length xs ≡ length os → AllAre Passes cs os ns → AllMayBe fs (grown xs (fronts cs os)) ns rs → Before fs xs os cs rs
  pass_back [] [] [] [] [] [] w e k h = record { was = []; may = tt; on = refl }
  pass_back [] [] [] [] [] (r ∷ rs) w e k h = absurd h
  pass_back [] [] [] [] (c ∷ cs) rs w e k h = absurd w
  pass_back [] [] [] (n ∷ ns) [] rs w e k h = absurd k
  pass_back [] [] [] (n ∷ ns) (c ∷ cs) rs w e k h = absurd k
  pass_back [] [] (o ∷ os) ns cs rs w e k h = absurd (omega (arith, e))
  pass_back [] (x ∷ xs) [] ns cs rs w e k h = absurd (omega (arith, e))
  pass_back [] (x ∷ xs) (o ∷ os) ns [] rs w e k h = absurd w
  pass_back [] (x ∷ xs) (o ∷ os) ns (c ∷ cs) rs w e k h = absurd h
  pass_back (f ∷ fs) [] os ns cs rs w e k h = absurd h
  pass_back (f ∷ fs) (x ∷ xs) [] ns cs rs w e k h = absurd (omega (arith, e))
  pass_back (f ∷ fs) (x ∷ xs) (o ∷ os) ns [] rs w e k h = absurd w
  pass_back (f ∷ fs) (x ∷ xs) (o ∷ os) [] (c ∷ cs) rs w e k h = absurd k
  pass_back (f ∷ fs) (x ∷ xs) (o ∷ os) (n ∷ ns) (c ∷ cs) [] w e k h = absurd h
  pass_back (f ∷ fs) (x ∷ xs) (o ∷ os) (n ∷ ns) (c ∷ cs) (r ∷ rs) w e k h =
      let rest = pass_back fs xs os ns cs rs w.1 (omega (arith, e)) k.1 h.1 in
      let was : Reading = record { output = r.output; taken = length x } in
      let more : r.taken ≡ length x + c = h.0.taken_is ∙ length-append x (take c o.held) ∙ ap (λ j. length x + j) (length-take-le c o.held w.0) in
      record {
        was = was ∷ rest.was;
        may = (may_back f x (take c o.held) o n r k.0 h.0, rest.may);
        on = ap (λ (q : Reading). q ∷ taken_on cs rest.was) (same_reading r (length x + c) more) ∙ ap (λ (l : List Reading). r ∷ l) rest.on;
      }

  pub windows_are : (fs : List ShardFiles) (xs : List (List ℕ)) (qs : List (Part R)) (ws : List Window) (rs : List Reading) → AllMayBe fs xs qs rs → AreWindowsOf qs ws → AreWindows rs ws
  windows_are [] [] [] [] [] h k = tt
  windows_are [] [] [] [] (r ∷ rs) h k = absurd h
  windows_are [] [] [] (w ∷ ws) rs h k = absurd k
  windows_are [] [] (q ∷ qs) ws rs h k = absurd h
  windows_are [] (x ∷ xs) qs ws rs h k = absurd h
  windows_are (f ∷ fs) [] qs ws rs h k = absurd h
  windows_are (f ∷ fs) (x ∷ xs) [] ws rs h k = absurd h
  windows_are (f ∷ fs) (x ∷ xs) (q ∷ qs) ws [] h k = absurd h
  windows_are (f ∷ fs) (x ∷ xs) (q ∷ qs) [] (r ∷ rs) h k = absurd k
  windows_are (f ∷ fs) (x ∷ xs) (q ∷ qs) (w ∷ ws) (r ∷ rs) h k =
      let one : IsWindow r w = record {
        more = h.0.more;
        is = ap (λ j. drop j r.output.text.now) h.0.taken_is ∙ ap (drop (length x)) h.0.text_is ∙ drop_front x (q.held ++ h.0.more) ∙ ap (λ v. v ++ h.0.more) (sym k.0);
        none_more = λ d. h.0.none_more (sym k.1 ∙ d);
      } in
      (one, windows_are fs xs qs ws rs h.1 k.2)

  pub last_is : (qs : List (Part R)) (ws : List Window) → AreWindowsOf qs ws → are_last ws ≡ all_done qs
  last_is [] [] k = refl
  last_is [] (w ∷ ws) k = absurd k
  last_is (q ∷ qs) [] k = absurd k
  last_is (q ∷ qs) (w ∷ ws) k = ap (λ b. b && are_last ws) k.1 ∙ ap (λ b. is_done q && b) (last_is qs ws k.2)

  pub held_within : (cs : List ℕ) (qs : List (Part R)) (ws : List Window) → AreWindowsOf qs ws → AreWithin cs ws → AreHeld cs qs
  held_within [] [] [] k h = tt
  held_within [] [] (w ∷ ws) k h = absurd k
  held_within [] (q ∷ qs) [] k h = absurd k
  held_within [] (q ∷ qs) (w ∷ ws) k h = absurd h
  held_within (c ∷ cs) [] [] k h = absurd h
  held_within (c ∷ cs) [] (w ∷ ws) k h = absurd k
  held_within (c ∷ cs) (q ∷ qs) [] k h = absurd k
  held_within (c ∷ cs) (q ∷ qs) (w ∷ ws) k h = (omega (arith, h.0, ap length k.0), held_within cs qs ws k.2 h.1)

  pub passed_count : (xs : List (List ℕ)) (os ns : List (Part R)) → AllAre (Moves remaining can_fail) xs os ns → length xs ≡ length ns
  passed_count [] [] [] h = refl
  passed_count [] [] (n ∷ ns) h = absurd h
  passed_count [] (o ∷ os) ns h = absurd h
  passed_count (x ∷ xs) [] ns h = absurd h
  passed_count (x ∷ xs) (o ∷ os) [] h = absurd h
  passed_count (x ∷ xs) (o ∷ os) (n ∷ ns) h = omega (arith, passed_count xs os ns h.1)

  pub are_fresh : (fs : List ShardFiles) (qs : List (Part R)) (rs : List Reading) → AllMayBe fs (nothings qs) qs rs → AreFresh fs rs
  are_fresh [] [] [] h = tt
  are_fresh [] [] (r ∷ rs) h = absurd h
  are_fresh [] (q ∷ qs) rs h = absurd h
  are_fresh (f ∷ fs) [] rs h = absurd h
  are_fresh (f ∷ fs) (q ∷ qs) [] h = absurd h
  are_fresh (f ∷ fs) (q ∷ qs) (r ∷ rs) h = (h.0.files_are, h.0.taken_is, are_fresh fs qs rs h.1)

  -- where the merger stands, whatever the parts may be
  abbrev pub Stands : JobSpec → List ShardFiles → List (List ℕ) → List (Part R) → Standing → List ℕ → Type 0
  Stands job fs xs qs m out = (rs : List Reading) → AllMayBe fs xs qs rs → IsAfter job rs out m

  -- it stands so behind a round
  pub round : (job : JobSpec) (fs : List ShardFiles) (xs : List (List ℕ)) (bs os ns zs : List (Part R)) (m m' : Standing) (out : List ℕ)
      → AllAre (Moves remaining can_fail) xs bs os → Stands job fs xs os m out → (filled : List (Part R)) → AllAre Fills zs os filled → MergesHeld job filled m m'
      → AllAre Passes m'.cuts filled ns → Stands job fs (grown xs (fronts m'.cuts filled)) ns m' (out ++ m'.text)
  round job fs xs bs os ns zs m m' out moved stands filled k s p rs h =
      let moved' = all_filled xs bs os filled zs moved k in
      let held = held_within m'.cuts filled s.windows s.shown s.merges.within in
      let b = pass_back fs xs filled ns m'.cuts rs held (passed_count xs bs filled moved') p h in
      let was = stands b.was (fill_back fs xs os filled zs b.was k b.may) in
      subst (λ (l : List Reading). IsAfter job l (out ++ m'.text) m') b.on (s.merges.after b.was out was (windows_are fs xs filled s.windows b.was b.may s.shown))

  -- all is merged at the last
  pub last_round : (job : JobSpec) (fs : List ShardFiles) (xs : List (List ℕ)) (os zs : List (Part R)) (m m' : Standing) (out : List ℕ)
      → Stands job fs xs os m out → (filled : List (Part R)) → AllAre Fills zs os filled → MergesHeld job filled m m' → all_done filled ≡ true
      → (rs : List Reading) → AllMayBe fs xs filled rs → IsMerged job (outputs_of rs) (out ++ m'.text) × AreCounted job (outputs_of rs) m'.held
  last_round job fs xs os zs m m' out stands filled k s last rs h =
      let was = stands rs (fill_back fs xs os filled zs rs k h) in
      s.merges.whole rs out was (windows_are fs xs filled s.windows rs h s.shown) (last_is filled s.windows s.shown ∙ last)

  moves_at : (xs : List (List ℕ)) (bs os : List (Part R)) (i : ℕ) (d : Part R) → AllAre (Moves remaining can_fail) xs bs os → i < length os → (i < length bs) × Moves remaining can_fail (get_or xs i []) (get_or bs i d) (get_or os i d)
  moves_at [] [] [] i d h less = absurd (omega (arith, less))
  moves_at [] [] (o ∷ os) i d h less = absurd h
  moves_at [] (b ∷ bs) os i d h less = absurd h
  moves_at (x ∷ xs) [] os i d h less = absurd h
  moves_at (x ∷ xs) (b ∷ bs) [] i d h less = absurd h
  moves_at (x ∷ xs) (b ∷ bs) (o ∷ os) zero d h less = (omega arith, h.0)
  moves_at (x ∷ xs) (b ∷ bs) (o ∷ os) (suc i) d h less =
      let rest = moves_at xs bs os i d h.1 (omega (arith, less)) in
      (omega (arith, rest.0), rest.1)

  pub one_back : (xs : List (List ℕ)) (bs os : List (Part R)) (e : ShardFault) → AllAre (Moves remaining can_fail) xs bs os
      → OneIs (λ _ q. ReportsUnread (can_fail q.reader) (string_bytes q.name) e) os → OneIs (λ _ q. ReportsUnread (can_fail q.reader) (string_bytes q.name) e) bs
  one_back xs bs os e h (i, d, less, t) =
      let m = moves_at xs bs os i d h less in
      (i, d, m.0, unread_back e (can_fail (get_or os i d).reader) (can_fail (get_or bs i d).reader) (string_bytes (get_or os i d).name) (string_bytes (get_or bs i d).name) m.1.later (ap string_bytes m.1.name) t)

  -- what was stepped over is blamed, whatever the parts may be
  pub blamed_round : (job : JobSpec) (fs : List ShardFiles) (xs : List (List ℕ)) (bs os zs : List (Part R)) (m : Standing) (out : List ℕ) (filled : List (Part R)) (e : MergeFault)
      → AllAre (Moves remaining can_fail) xs bs os → Stands job fs xs os m out → AllAre Fills zs os filled → IsBlamedOver job filled m e → AreBlamed remaining can_fail job fs bs filled e
  blamed_round job fs xs bs os zs m out filled e moved stands k (ws, shown, refuses) = record {
    passed = xs;
    moved = all_filled xs bs os filled zs moved k;
    blamed = λ rs h. refuses rs out (stands rs (fill_back fs xs os filled zs rs k h)) (windows_are fs xs filled ws rs h shown);
  }

  -- a merger that can't begin: the parts are not merged
  pub stopped_new : (job : JobSpec) (fs : List ShardFiles) (qs : List (Part R)) (e : MergeFault)
      → ((j : JobSpec) (rs : List Reading) → AreFresh fs rs → Blames j (outputs_of rs) e) → AreBlamed remaining can_fail job fs qs qs e
  stopped_new job fs qs e blames = record {
    passed = nothings qs;
    moved = all_none qs;
    blamed = λ rs h. blames job rs (are_fresh fs qs rs h);
  }

  -- what is not merged is no next round
  pub stopped_step : (unwritten : ShardFault → Type 0) (job : JobSpec) (os : List (Part R)) (m : Standing) (filled : List (Part R)) (e : Stop)
      → AllAre Fills os os filled → IsStoppedAt job filled unwritten m e → IsRoundFault remaining can_fail unwritten job os filled m e
  stopped_step unwritten job os m filled (stop.Part fault) k b = inr (inr b)
  stopped_step unwritten job os m filled (stop.Merge fault) k b = (k, b)

  -- where there is no next round, the parts are not merged
  pub stopped_round : (now first : ShardFault → Type 0) (job : JobSpec) (fs : List ShardFiles) (xs : List (List ℕ)) (bs os : List (Part R)) (m : Standing) (out : List ℕ) (filled : List (Part R)) (e : Stop)
      → ((f : ShardFault) → now f → first f) → AllAre (Moves remaining can_fail) xs bs os → Stands job fs xs os m out → IsRoundFault remaining can_fail now job os filled m e → IsStopped remaining can_fail first job fs bs filled e
  stopped_round now first job fs xs bs os m out filled (stop.Part fault) back moved stands (inl none) = inl none
  stopped_round now first job fs xs bs os m out filled (stop.Part fault) back moved stands (inr (inl one)) = inr (inl (one_back xs bs os fault moved one))
  stopped_round now first job fs xs bs os m out filled (stop.Part fault) back moved stands (inr (inr told)) = inr (inr (back fault told))
  stopped_round now first job fs xs bs os m out filled (stop.Merge fault) back moved stands (k, b) = blamed_round job fs xs bs os os m out filled fault moved stands k b

module _ {R : Type 0} (remaining : R → Option (List ℕ)) (can_fail : R → Type 0) (job : JobSpec) (fs : List ShardFiles) (p : ℕ) (vs : List Told) where
  -- parts that are not merged, for another reason than what they hold, are not joined
  pub refused_rounds : (unwritten : ShardFault → Type 0) (os ns : List (Part R)) (e : ShardFault) → IsStopped remaining can_fail unwritten job fs os ns (stop.Part e) → IsRefused remaining can_fail job fs p vs os e ⊎ unwritten e
  refused_rounds unwritten os ns e (inl none) = inl (inl none)
  refused_rounds unwritten os ns e (inr (inl one)) = inl (inr (inl one))
  refused_rounds unwritten os ns e (inr (inr told)) = inr told

-- windows on the parts that are not merged beside a write
pub stopped_beside : {R : Type 0} (job : JobSpec) (qs : List (Part R)) (ws : List Window) (m : Standing) (unwritten : ShardFault → Type 0) (e : Stop)
    → AreWindowsOf qs ws → IsNotBeside job ws m unwritten e → IsStoppedAt job qs unwritten m e
stopped_beside job qs ws m unwritten (stop.Part fault) shown b = b
stopped_beside job qs ws m unwritten (stop.Merge fault) shown b = (ws, shown, b)

-- a merger that gave its text away has taken as much
pub after_giving : (job : JobSpec) (rs : List Reading) (text : List ℕ) (m m' : Standing) → Gives m m' → IsAfter job rs text m → IsAfter job rs text m'
after_giving job rs text m m' g a = record {
  count = ap length g.held ∙ a.count;
  read = subst (λ (hs : List Held). AreReadUpTo job hs rs) (sym g.held) a.read;
  waiting = a.waiting;
  waits = subst (λ (w : Waits). WaitsFor job w a.waiting) (sym g.waiting) a.waits;
  few = subst (λ (hs : List Held). IsWithin job (outputs_of rs) (rests job hs rs) a.waiting) (sym g.held) a.few;
  told = subst (λ (hs : List Held). AreStanding job hs rs → tells_so job (outputs_of rs) (rests job hs rs) a.waiting text) (sym g.held) a.told;
}
