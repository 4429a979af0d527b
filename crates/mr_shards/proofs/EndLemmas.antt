-- A round ends: what it took of each window.
use Rattle.std.proofs.Common.{◌≡◌, ◌⊎◌, ℕ, zero, suc, ◌+◌, ◌-◌, ◌<◌, ◌++◌, List, [], ◌∷◌, length, get_or, drop, refl, ap, sym, ◌∙◌, subst, inl, inr, arith, Bool, true, false, ◌&&◌, Option, None, Some, map}
use Rattle.std.specs.Prelude.{is_none}
use Rattle.std.proofs.lemmas.List.{append_assoc, append-nil, drop-drop, length-append, length-drop, length-map}
use Rattle.std.proofs.Math.Seq.{drop-append_seam}
use Rattle.std.specs.List.{AllByRecursion}
use Rattle.mr_jobs.specs.JobSpec.{JobSpec}
use Rattle.mr_shards.specs.declared.cursor.Cursor.{Cursor}
use Rattle.mr_shards.specs.declared.cursor.Held.{Held}
use Rattle.mr_shards.specs.declared.line.Line.{Line}
use Rattle.mr_shards.specs.declared.merger.ShardText.{ShardText}
use Rattle.mr_shards.specs.declared.merger.Window.{Window}
use Rattle.mr_shards.specs.Cursors.{AreEnded, IsHeadOf, IsSum, are_ended, headed, left, on, with_waiting}
use Rattle.mr_shards.specs.Lines.{groups_in}
use Rattle.mr_shards.specs.Merged.{Group, written_texts}
use Rattle.mr_shards.specs.Portions.{merged_groups, shifted_group}
use Rattle.mr_shards.specs.Refused.{text_at}
use Rattle.mr_shards.specs.Rounds.{AreCounted, AreFurther, AreHeads, AreOpen, AreWindows, AreWithin, Goes, HasDry, HasDryHead, IsAfter, IsGoing, IsMerged, IsOneLine, IsWithin, Merges, OneGoes, Reading, Standing, are_last, cuts_at, extended, no_cut, no_held, outputs_of, pairs_held, taken_on}
use Rattle.mr_shards.specs.Views.{WaitsFor}
use Rattle.mr_shards.proofs.LineLaws.{output-of_all}
use Rattle.mr_shards.proofs.HeadLemmas.{cursor-at}
use Rattle.mr_shards.proofs.LoopLemmas.{kept-end, none-left}
use Rattle.mr_shards.proofs.RoundLemmas.{AreTexts, after-going, going-opened, helds, mores, windows-count}

-- ---- what was taken

pub further-count : (cs ds : List Cursor) → AreFurther cs ds → length cs ≡ length ds
further-count [] [] f = refl
further-count [] (d ∷ ds) f = absurd f
further-count (c ∷ cs) [] f = absurd f
further-count (c ∷ cs) (d ∷ ds) f = ap suc (further-count cs ds f.1)

-- each cursor has the bytes of its window
abbrev pub HaveBytes : List Window → List Cursor → Type 0
HaveBytes [] [] = Unit {0}
HaveBytes [] (c ∷ cs) = ⊥
HaveBytes (w ∷ ws) [] = ⊥
HaveBytes (w ∷ ws) (c ∷ cs) = ((c.text.now ≡ w.bytes.now) × (c.is_last ≡ w.is_last)) × HaveBytes ws cs

pub have-bytes : (job : JobSpec) (hs : List Held) (ws : List Window) (cs : List Cursor) → AreOpen job hs ws cs → HaveBytes ws cs
have-bytes job hs ws cs all = by ws cs all.0 (λ i w c l. ((all.1 i no_held w c l).text_is, (all.1 i no_held w c l).last))
  where
    by : (ws : List Window) (cs : List Cursor) → length cs ≡ length ws
        → ((i : ℕ) (w : Window) (c : Cursor) → i < length cs → ((get_or cs i c).text.now ≡ (get_or ws i w).bytes.now) × ((get_or cs i c).is_last ≡ (get_or ws i w).is_last))
        → HaveBytes ws cs
    by [] [] e same = tt
    by [] (c ∷ cs) e same = absurd (omega (arith, e))
    by (w ∷ ws) [] e same = absurd (omega (arith, e))
    by (w ∷ ws) (c ∷ cs) e same = (same 0 w c (omega arith), by ws cs (omega (arith, e)) (λ i x d l. same (suc i) x d (omega (arith, l))))

-- the cursor's bytes end its window
ends-window : (w : Window) (c d : Cursor) → c.text.now ≡ w.bytes.now → (p : List ℕ) → c.text.now ≡ p ++ d.text.now → length w.bytes.now - length d.text.now ≡ length p
ends-window w c d same p is = omega (arith, ap length (sym same ∙ is), length-append p d.text.now)

pub cut-drop : (w : Window) (c d : Cursor) (more : List ℕ) → c.text.now ≡ w.bytes.now → (p : List ℕ) → c.text.now ≡ p ++ d.text.now
    → drop (length w.bytes.now - length d.text.now) (c.text.now ++ more) ≡ d.text.now ++ more
cut-drop w c d more same p is =
    ap (λ n. drop n (c.text.now ++ more)) (ends-window w c d same p is)
    ∙ ap (λ (t : List ℕ). drop (length p) t) (ap (λ (t : List ℕ). t ++ more) is ∙ append_assoc p d.text.now more) ∙ drop-append_seam p (d.text.now ++ more)

pub taken-texts : (rs : List Reading) (ws : List Window) (cs ds : List Cursor) (f : ℕ → List ℕ) → AreTexts rs cs f → HaveBytes ws cs → AreFurther cs ds → AreTexts (taken_on (cuts_at ws ds) rs) ds f
taken-texts [] [] [] [] f t b g = tt
taken-texts [] ws [] (d ∷ ds) f t b g = absurd g
taken-texts [] (w ∷ ws) [] [] f t b g = absurd b
taken-texts [] ws (c ∷ cs) ds f t b g = absurd t
taken-texts (r ∷ rs) ws [] ds f t b g = absurd t
taken-texts (r ∷ rs) [] (c ∷ cs) ds f t b g = absurd b
taken-texts (r ∷ rs) (w ∷ ws) (c ∷ cs) [] f t b g = absurd g
taken-texts (r ∷ rs) (w ∷ ws) (c ∷ cs) (d ∷ ds) f t b g =
    let cut : ℕ = length w.bytes.now - length d.text.now in
    let whole : length r.output.text.now - r.taken ≡ length c.text.now + length (f 0) =
    sym (length-drop r.taken r.output.text.now) ∙ ap length t.1 ∙ length-append c.text.now (f 0) in (
      omega (arith, t.0, whole, ap length b.0.0),
      sym (drop-drop cut r.taken r.output.text.now) ∙ ap (drop cut) t.1 ∙ cut-drop w c d (f 0) b.0.0 g.0.passed g.0.is,
      taken-texts rs ws cs ds (λ i. f (suc i)) t.2 b.1 g.1,
    )

pub outputs-on : (rs : List Reading) (ns : List ℕ) → length ns ≡ length rs → outputs_of (taken_on ns rs) ≡ outputs_of rs
outputs-on [] [] e = refl
outputs-on [] (n ∷ ns) e = absurd (omega (arith, e))
outputs-on (r ∷ rs) [] e = absurd (omega (arith, e))
outputs-on (r ∷ rs) (n ∷ ns) e = ap (λ (os : List ShardText). r.output ∷ os) (outputs-on rs ns (omega (arith, e)))

cuts-count : (ws : List Window) (cs : List Cursor) → length cs ≡ length ws → length (cuts_at ws cs) ≡ length ws
cuts-count [] cs e = refl
cuts-count (w ∷ ws) [] e = absurd (omega (arith, e))
cuts-count (w ∷ ws) (c ∷ cs) e = ap suc (cuts-count ws cs (omega (arith, e)))

pub cuts-within : (ws : List Window) (cs : List Cursor) → length cs ≡ length ws → AreWithin (cuts_at ws cs) ws
cuts-within [] [] e = tt
cuts-within [] (c ∷ cs) e = absurd (omega (arith, e))
cuts-within (w ∷ ws) [] e = absurd (omega (arith, e))
cuts-within (w ∷ ws) (c ∷ cs) e = (omega arith, cuts-within ws cs (omega (arith, e)))

-- ---- how a round ends

pub ended-all : (cs : List Cursor) → are_ended cs ≡ true → AreEnded cs
ended-all [] e = tt
ended-all (c ∷ cs) e = by c.head refl e (ended-all cs)
  where
    by : (o : Option Line) → c.head ≡ o → (is_none o && are_ended cs) ≡ true → (are_ended cs ≡ true → AreEnded cs) → (c.head ≡ None) × AreEnded cs
    by None is h rec = (is, rec h)
    by (Some l) is h rec = absurd (cc h)

pub ended-true : (cs : List Cursor) → AreEnded cs → are_ended cs ≡ true
ended-true [] all = refl
ended-true (c ∷ cs) all = ap (λ (o : Option Line). is_none o && are_ended cs) all.0 ∙ ended-true cs all.1

pub dry-more : (ws : List Window) (cs ds : List Cursor) → HaveBytes ws cs → AreFurther cs ds → HasDryHead ds → are_last ws ≡ false
dry-more [] [] [] b g h = absurd h
dry-more [] [] (d ∷ ds) b g h = absurd g
dry-more [] (c ∷ cs) ds b g h = absurd b
dry-more (w ∷ ws) [] ds b g h = absurd b
dry-more (w ∷ ws) (c ∷ cs) [] b g h = absurd g
dry-more (w ∷ ws) (c ∷ cs) (d ∷ ds) b g (inl h) = ap (λ t. t && are_last ws) (sym (g.0.last ∙ b.0.1) ∙ h.1)
dry-more (w ∷ ws) (c ∷ cs) (d ∷ ds) b g (inr h) = by w.is_last (dry-more ws cs ds b.1 g.1 h)
  where
    by : (t : Bool) → are_last ws ≡ false → (t && are_last ws) ≡ false
    by true e = e
    by false e = refl

pub dry-goes : (ws : List Window) (cs ds : List Cursor) → HaveBytes ws cs → AreFurther cs ds → HasDryHead ds → OneGoes ws (cuts_at ws ds)
dry-goes [] [] [] b g h = absurd h
dry-goes [] [] (d ∷ ds) b g h = absurd g
dry-goes [] (c ∷ cs) ds b g h = absurd b
dry-goes (w ∷ ws) [] ds b g h = absurd b
dry-goes (w ∷ ws) (c ∷ cs) [] b g h = absurd g
dry-goes (w ∷ ws) (c ∷ cs) (d ∷ ds) b g (inl h) =
    let here : d.text.now ≡ drop (length w.bytes.now - length d.text.now) w.bytes.now =
    sym (append-nil d.text.now) ∙ sym (cut-drop w c d [] b.0.0 g.0.passed g.0.is)
    ∙ ap (drop (length w.bytes.now - length d.text.now)) (append-nil c.text.now ∙ b.0.0) in
    inl (sym (g.0.last ∙ b.0.1) ∙ h.1, subst IsOneLine here h.0)
dry-goes (w ∷ ws) (c ∷ cs) (d ∷ ds) b g (inr h) = inr (dry-goes ws cs ds b.1 g.1 h)

-- no window goes on where no line is left
pub ended-last : (job : JobSpec) (ws : List Window) (cs ds : List Cursor) → HaveBytes ws cs → AreFurther cs ds → AreHeads job ds → AreEnded ds → are_last ws ≡ true
ended-last job [] [] [] b g heads all = refl
ended-last job [] [] (d ∷ ds) b g heads all = absurd g
ended-last job [] (c ∷ cs) ds b g heads all = absurd b
ended-last job (w ∷ ws) [] ds b g heads all = absurd b
ended-last job (w ∷ ws) (c ∷ cs) [] b g heads all = absurd g
ended-last job (w ∷ ws) (c ∷ cs) (d ∷ ds) b g heads all =
    let last : d.is_last ≡ true = (subst (IsHeadOf job d) all.0 heads.0).0 in
    λ i. (sym (g.0.last ∙ b.0.1) ∙ last) i && ended-last job ws cs ds b.1 g.1 heads.1 all.1 i

pub dry-window : (ws : List Window) → HasDry ws → are_last ws ≡ false
dry-window [] h = absurd h
dry-window (w ∷ ws) (inl h) = ap (λ t. t && are_last ws) h.1
dry-window (w ∷ ws) (inr h) = by w.is_last (dry-window ws h)
  where
    by : (t : Bool) → are_last ws ≡ false → (t && are_last ws) ≡ false
    by true e = e
    by false e = refl

-- ---- no line is left

ended-extended : (cs : List Cursor) (f : ℕ → List ℕ) → AreEnded cs → AllByRecursion (λ c. c.head ≡ None) (extended cs f)
ended-extended [] f all = tt
ended-extended (c ∷ cs) f all = (all.0, ended-extended cs (λ i. f (suc i)) all.1)

none-within : (job : JobSpec) (os : List ShardText) (gss : List (List Group)) (w : Option Group) → IsWithin job os gss w → IsWithin job os gss None
none-within job os gss w h key = omega (arith, h key)

pub going-ended : (job : JobSpec) (os : List ShardText) (f : ℕ → List ℕ) (cs : List Cursor) (w : Option Group) (text : List ℕ) → AreEnded cs → IsGoing job os f cs w text
    → IsGoing job os f cs None (text ++ written_texts job (with_waiting w []))
going-ended job os f cs w text all g =
    let none : merged_groups (map (left job) (extended cs f)) ≡ [] = none-left job (extended cs f) (ended-extended cs f all) in
    record {
      kept = record {
        kinds = g.kept.kinds;
        read = g.kept.read;
        few = none-within job os (map (left job) (extended cs f)) w g.kept.few;
        told = λ s.
            (let t = g.kept.told s in record {
              stands = t.stands;
              text = ap (λ (gs : List Group). (text ++ written_texts job (with_waiting w [])) ++ written_texts job gs) none ∙ append-nil (text ++ written_texts job (with_waiting w []))
                  ∙ ap (λ (gs : List Group). text ++ written_texts job (with_waiting w gs)) (sym none) ∙ t.text;
              below = tt;
            });
      };
      at = g.at;
    }

pub merged-ended : (job : JobSpec) (os : List ShardText) (f : ℕ → List ℕ) (cs : List Cursor) (w : Option Group) (text : List ℕ) → AreEnded cs → IsGoing job os f cs w text
    → IsMerged job os (text ++ written_texts job (with_waiting w []))
merged-ended job os f cs w text all g =
    let e = kept-end job os (extended cs f) w text (ended-extended cs f all) g.kept in
    record { stands = e.stands; text_is = e.text; whole = output-of_all job os (text ++ written_texts job (with_waiting w [])) e.text }

held-of : (cs : List Cursor) (i : ℕ) (d : Cursor) → i < length cs → pairs_held (helds cs) i ≡ (get_or cs i d).held.pairs
held-of [] i d l = absurd (omega (arith, l))
held-of (c ∷ cs) zero d l = refl
held-of (c ∷ cs) (suc i) d l = held-of cs i d (omega (arith, l))

ended-at : (cs : List Cursor) (i : ℕ) (d : Cursor) → AreEnded cs → i < length cs → (get_or cs i d).head ≡ None
ended-at [] i d all l = absurd (omega (arith, l))
ended-at (c ∷ cs) zero d all l = all.0
ended-at (c ∷ cs) (suc i) d all l = ended-at cs i d all.1 (omega (arith, l))

pub counted-ended : (job : JobSpec) (os : List ShardText) (f : ℕ → List ℕ) (cs : List Cursor) (w : Option Group) (text : List ℕ) → AreEnded cs → length cs ≡ length os → IsGoing job os f cs w text
    → AreCounted job os (helds cs)
counted-ended job os f cs w text all count g i l =
    let d : Cursor = cursor-at no_held None [] [] true in
    let low : i < length cs = omega (arith, l, count) in
    let c : Cursor = get_or cs i d in
    let none : left job (on c (f i)) ≡ [] = ap (λ (o : Option Line). headed o (map (shifted_group c.held.before) (groups_in job (c.rest.now ++ f i)))) (ended-at cs i d all low) in
    subst (λ (o : Option ℕ). IsSum job o [] (groups_in job (text_at os i))) (sym (held-of cs i d low))
    (subst (λ (gs : List Group). IsSum job c.held.pairs gs (groups_in job (text_at os i))) none (g.at i d low).0.pairs)

-- ---- a round that takes nothing

-- what the last round did doesn't count
like-after : (job : JobSpec) (rs : List Reading) (text : List ℕ) (m n : Standing) → n.held ≡ m.held → n.waiting ≡ m.waiting → IsAfter job rs text m → IsAfter job rs text n
like-after job rs text m n held waiting a =
    let x : Standing = record { held = m.held; waiting = m.waiting; text = n.text; cuts = n.cuts } in
    let same : x ≡ n = λ i. record { held = sym held i; waiting = sym waiting i; text = n.text; cuts = n.cuts } in
    let here : IsAfter job rs text x = record { count = a.count; read = a.read; waiting = a.waiting; waits = a.waits; few = a.few; told = a.told } in
    subst (IsAfter job rs text) same here

nothing-on : (rs : List Reading) (ws : List Window) → length ws ≡ length rs → taken_on (map no_cut ws) rs ≡ rs
nothing-on [] [] e = refl
nothing-on [] (w ∷ ws) e = absurd (omega (arith, e))
nothing-on (r ∷ rs) [] e = absurd (omega (arith, e))
nothing-on (r ∷ rs) (w ∷ ws) e =
    let same : r.taken + 0 ≡ r.taken = omega arith in
    λ i. record { output = r.output; taken = same i } ∷ nothing-on rs ws (omega (arith, e)) i

pub nothing-within : (ws : List Window) → AreWithin (map no_cut ws) ws
nothing-within [] = tt
nothing-within (w ∷ ws) = (omega arith, nothing-within ws)

pub after-nothing : (job : JobSpec) (rs : List Reading) (ws : List Window) (text : List ℕ) (m n : Standing) → AreWindows rs ws → n.held ≡ m.held → n.waiting ≡ m.waiting → n.text ≡ []
    → n.cuts ≡ map no_cut ws → IsAfter job rs text m → IsAfter job (taken_on n.cuts rs) (text ++ n.text) n
after-nothing job rs ws text m n v held waiting none cuts a =
    subst (λ (t : List ℕ). IsAfter job (taken_on n.cuts rs) t n) (sym (ap (λ (t : List ℕ). text ++ t) none ∙ append-nil text))
    (subst (λ (qs : List Reading). IsAfter job qs text n) (sym (ap (λ (ns : List ℕ). taken_on ns rs) cuts ∙ nothing-on rs ws (sym (windows-count rs ws v))))
    (like-after job rs text m n held waiting a))

-- ---- all of a round

pub all-of : {X : Type 0} (P : X → Type 0) (xs : List X) → ((i : ℕ) (d : X) → i < length xs → P (get_or xs i d)) → AllByRecursion P xs
all-of P [] f = tt
all-of P (x ∷ xs) f = (f 0 x (omega arith), all-of P xs (λ i d l. f (suc i) d (omega (arith, l))))

pub open-heads : (job : JobSpec) (hs : List Held) (ws : List Window) (cs : List Cursor) → AreOpen job hs ws cs → AreHeads job cs
open-heads job hs ws cs o = all-of (λ (c : Cursor). IsHeadOf job c c.head) cs (λ i d l. (o.1 i no_held (record { bytes = record { ref_ptr = (0, 0); now = [] }; is_last = true }) d l).head)

-- nothing waits where no line is left, and what waited is written
abbrev pub Finishes : JobSpec → List Cursor → Option Group → List ℕ → Option Group → List ℕ → Type 0
Finishes job ds w added next text =
    ((are_ended ds ≡ true) × (next ≡ None) × (text ≡ added ++ written_texts job (with_waiting w []))) ⊎ ((are_ended ds ≡ false) × (next ≡ w) × (text ≡ added))

finish-going : (job : JobSpec) (os : List ShardText) (f : ℕ → List ℕ) (ds : List Cursor) (w : Option Group) (added : List ℕ) (next : Option Group) (t text : List ℕ) → Finishes job ds w added next t
    → IsGoing job os f ds w (text ++ added) → IsGoing job os f ds next (text ++ t)
finish-going job os f ds w added next t text (inl e) g =
    subst (λ (o : Option Group). IsGoing job os f ds o (text ++ t)) (sym e.1)
    (subst (IsGoing job os f ds None) (append_assoc text added (written_texts job (with_waiting w [])) ∙ ap (λ (x : List ℕ). text ++ x) (sym e.2))
    (going-ended job os f ds w (text ++ added) (ended-all ds e.0) g))
finish-going job os f ds w added next t text (inr e) g =
    subst (λ (o : Option Group). IsGoing job os f ds o (text ++ t)) (sym e.1) (subst (λ (x : List ℕ). IsGoing job os f ds w (text ++ x)) (sym e.2) g)

whole-end : (job : JobSpec) (ws : List Window) (cs ds : List Cursor) (os : List ShardText) (f : ℕ → List ℕ) (w : Option Group) (added : List ℕ) (next : Option Group) (t text : List ℕ) (hs : List Held)
    → HaveBytes ws cs → AreFurther cs ds → are_last ws ≡ true → AreEnded ds ⊎ HasDryHead ds → hs ≡ helds ds → Finishes job ds w added next t → length ds ≡ length os
    → IsGoing job os f ds w (text ++ added) → IsMerged job os (text ++ t) × AreCounted job os hs
whole-end job ws cs ds os f w added next t text hs bytes further last (inr dry) held finish count g = absurd (cc (sym last ∙ dry-more ws cs ds bytes further dry))
whole-end job ws cs ds os f w added next t text hs bytes further last (inl all) held (inr e) count g = absurd (cc (sym (ended-true ds all) ∙ e.0))
whole-end job ws cs ds os f w added next t text hs bytes further last (inl all) held (inl e) count g = (
  subst (IsMerged job os) (append_assoc text added (written_texts job (with_waiting w [])) ∙ ap (λ (x : List ℕ). text ++ x) (sym e.2)) (merged-ended job os f ds w (text ++ added) all g),
  subst (AreCounted job os) (sym held) (counted-ended job os f ds w (text ++ added) all count g),
)

-- whatever waits, the lines are taken, and the end is as it should
abbrev pub Passes : JobSpec → List Cursor → List Cursor → List ℕ → Standing → Standing → Type 0
Passes job cs ds added m n = (w : Option Group) → WaitsFor job m.waiting w
    → (mid : Option Group) × (next : Option Group) × Goes job cs ds w mid added × WaitsFor job n.waiting next × Finishes job ds mid added next n.text

pub merges : (job : JobSpec) (ws : List Window) (m n : Standing) (cs ds : List Cursor) (added : List ℕ) → AreOpen job m.held ws cs → length m.held ≡ length ws → AreFurther cs ds
    → AreHeads job ds → Passes job cs ds added m n → n.held ≡ helds ds → n.cuts ≡ cuts_at ws ds → AreEnded ds ⊎ HasDryHead ds → Merges job ws m n
merges job ws m n cs ds added o count further heads passes held cuts ends =
    let bytes : HaveBytes ws cs = have-bytes job m.held ws cs o in
    let many : length ds ≡ length ws = sym (further-count cs ds further) ∙ o.0 in
    let outputs : (rs : List Reading) → AreWindows rs ws → outputs_of (taken_on n.cuts rs) ≡ outputs_of rs =
    λ rs v. outputs-on rs n.cuts (ap length cuts ∙ cuts-count ws ds many ∙ sym (windows-count rs ws v)) in
    let texts_on : (rs : List Reading) (text : List ℕ) (v : AreWindows rs ws) → IsAfter job rs text m → AreTexts (taken_on n.cuts rs) ds (mores rs ws v) =
    λ rs text v a. subst (λ (ns : List ℕ). AreTexts (taken_on ns rs) ds (mores rs ws v)) (sym cuts)
    (taken-texts rs ws cs ds (mores rs ws v) (going-opened job rs ws cs text m v o count a).1 bytes further) in
    let going : (rs : List Reading) (text : List ℕ) (v : AreWindows rs ws) (a : IsAfter job rs text m)
    → IsGoing job (outputs_of rs) (mores rs ws v) ds (passes a.waiting a.waits).0 (text ++ added) =
    λ rs text v a. (passes a.waiting a.waits).2 (outputs_of rs) (mores rs ws v) text (going-opened job rs ws cs text m v o count a).0 in
    let finished : (rs : List Reading) (text : List ℕ) (v : AreWindows rs ws) (a : IsAfter job rs text m)
    → IsGoing job (outputs_of rs) (mores rs ws v) ds (passes a.waiting a.waits).1 (text ++ n.text) =
    λ rs text v a. (let p = passes a.waiting a.waits in finish-going job (outputs_of rs) (mores rs ws v) ds p.0 added p.1 n.text text p.4 (going rs text v a)) in
    record {
      within = subst (λ (ns : List ℕ). AreWithin ns ws) (sym cuts) (cuts-within ws ds many);
      after = λ rs text a v.
          (let p = passes a.waiting a.waits in
          after-going job (taken_on n.cuts rs) ds (mores rs ws v) (text ++ n.text) n p.1 (texts_on rs text v a) held p.3
          (subst (λ (os : List ShardText). IsGoing job os (mores rs ws v) ds p.1 (text ++ n.text)) (sym (outputs rs v)) (finished rs text v a)));
      whole = λ rs text a v last.
          (let p = passes a.waiting a.waits in
          whole-end job ws cs ds (outputs_of rs) (mores rs ws v) p.0 added p.1 n.text text n.held bytes further last ends held p.4
          (many ∙ sym (windows-count rs ws v) ∙ sym (length-map rs (λ (r : Reading). r.output))) (going rs text v a));
    }
