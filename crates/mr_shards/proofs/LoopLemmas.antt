-- What the merge keeps: what is written, with what waits and what is left, is the text of the merged parts.
use Rattle.std.proofs.Common.{false, not, ◌≡◌, ℕ, ◌<◌, ◌++◌, List, [], ◌∷◌, length, refl, ap, sym, ◌∙◌, subst, inl, inr, arith, Option, None, Some, map}
use Rattle.std.proofs.lemmas.List.{append_assoc, length-append}
use Rattle.std.proofs.lemmas.Cmp.{nat_list_cmp_total}
use Rattle.std.specs.List.{AllByRecursion, flat_map}
use Rattle.std.specs.Ordering.{match_ordering}
use Rattle.std.specs.declared.cmp.Ordering.{Ordering}
use Rattle.std.specs.declared.cmp.Ordering.TheVariants.{Less, Equal, Greater}
use Rattle.mr_bytes.specs.Lists.{Has, Rises}
use Rattle.mr_bytes.specs.Order.{key_order}
use Rattle.mr_jobs.specs.JobSpec.{JobSpec, group_text_of, is_lines}
use Rattle.mr_jobs.specs.declared.job.GroupText.{GroupText}
use Rattle.mr_jobs.specs.declared.job.GroupText.TheVariants.{Lines}
use Rattle.mr_reduce.specs.Text.{place_line}
use Rattle.mr_sequential.proofs.KeyLaws.{key_tie, with_key-cases}
use Rattle.mr_bytes.proofs.ListLaws.{Has-all, all_from_Has}
use Rattle.mr_sequential.proofs.SourceLemmas.{flat_map-append}
use Rattle.mr_shards.specs.declared.cursor.Cursor.{Cursor}
use Rattle.mr_shards.specs.declared.line.Line.{Line}
use Rattle.mr_shards.specs.declared.merger.ShardText.{ShardText}
use Rattle.mr_shards.specs.Merged.{Group, group_text_for, texts, joined, with_group, merged, written, written_texts}
use Rattle.mr_shards.specs.Lines.{groups_in, NoneFalls}
use Rattle.mr_shards.specs.Refused.{AreInFiles, AreRead, IsShardText}
use Rattle.mr_shards.specs.Views.{group_of}
use Rattle.mr_shards.specs.Cursors.{headed, left, IsHead, IsHeadFor, Goes, with_waiting}
use Rattle.mr_shards.specs.Outputs.{parts_in, Stands}
use Rattle.mr_shards.specs.Rounds.{IsBelow, Kept}
use Rattle.mr_shards.proofs.MergedLaws.{keys, with_group-keys}
use Rattle.mr_shards.proofs.MergeLemmas.{merged_groups-rise, with_group-joined, in_front}
use Rattle.mr_shards.proofs.ReadingLemmas.{none-read}
use Rattle.mr_shards.proofs.RisingLemmas.{written-all}
use Rattle.mr_shards.proofs.TotalLemmas.{within-step}
use Rattle.mr_shards.specs.Portions.{behind, merged_groups, merged_portions, shifted_group}
use Rattle.mr_shards.proofs.StepLemmas.{IsLeast, NotLess, NoneBefore, less-not, not_less-differs, turned, IsBest, Step, step-kinds, step-stands, step-pull, step-behind, step-at, merged-none_before}

-- ---- the line that waits

joined-text : (g h : Group) → g.key ≡ h.key → group_text_for Lines (joined g h) ≡ group_text_for Lines g ++ group_text_for Lines h
joined-text g h e =
    flat_map-append (place_line g.key) g.values h.values ∙ ap (λ (k : List ℕ). flat_map (place_line g.key) g.values ++ flat_map (place_line k) h.values) e

-- places are written one behind the other, whatever their groups
front-places : (g : Group) (gs : List Group) → AllByRecursion (λ k. NotLess k g.key) (keys gs)
    → flat_map (written Lines) (with_group g gs) ≡ written Lines g ++ flat_map (written Lines) gs
front-places g [] all = refl
front-places g (h ∷ hs) all = by (key_order g.key h.key) refl
  where
    by : (o : Ordering) → key_order g.key h.key ≡ o
        → flat_map (written Lines) (match_ordering o (g ∷ h ∷ hs) (joined g h ∷ hs) (h ∷ with_group g hs)) ≡ written Lines g ++ (written Lines h ++ flat_map (written Lines) hs)
    by Less e = refl
    by Equal e =
        ap (λ (l : List ℕ). l ++ flat_map (written Lines) hs) (joined-text g h (key_tie g.key h.key e)) ∙ append_assoc (written Lines g) (written Lines h) (flat_map (written Lines) hs)
    by Greater e = absurd (all.0 (turned g.key h.key e))

front-place : (form : GroupText) (g : Group) (gs : List Group) → not (is_lines form) ≡ false → AllByRecursion (λ k. NotLess k g.key) (keys gs)
    → flat_map (written form) (with_group g gs) ≡ written form g ++ flat_map (written form) gs
front-place Lines g gs lines all = front-places g gs all
front-place form g gs lines all = absurd (cc lines)

-- keys of a group and those behind it
pub with_group-behind : (k : List ℕ) (g : Group) (gs : List Group) (P : List ℕ → Type 0) → P g.key → AllByRecursion P (keys gs) → AllByRecursion P (keys (with_group g gs))
with_group-behind k g gs P here all =
    all_from_Has P (keys (with_group g gs)) (λ q h.
    elim (with_key-cases g.key (keys gs) q (subst (λ (l : List (List ℕ)). Has l q) (with_group-keys g gs) h)) [
      | inl e ↦ subst P e here
      | inr old ↦ Has-all P (keys gs) q all old
    ])

-- q before w, and q not before the line: the line is before w
less-back : (w q k : List ℕ) → NotLess q k → key_order q w ≡ Less → key_order k w ≡ Less
less-back w q k f less = by (key_order k q) refl
  where
    by : (o : Ordering) → key_order k q ≡ o → key_order k w ≡ Less
    by Less e = nat_list_cmp_total.trans k q w e less
    by Equal e = ap (λ (j : List ℕ). key_order j w) (key_tie k q e) ∙ less
    by Greater e = absurd (f (turned k q e))

-- what a group does to what is written
module _ (job : JobSpec) (g next : Group) (gs : List Group) (old new : List ℕ) where
  pub goes-text : (waiting : Option Group) → Goes job waiting g next old new
      → Rises key_order (keys gs) → AllByRecursion (λ k. NotLess k g.key) (keys gs) → ((w : Group) → waiting ≡ Some w → NotLess g.key w.key)
      → new ++ written_texts job (with_group next gs) ≡ old ++ written_texts job (with_waiting waiting (with_group g gs))
  goes-text None h rise behind below =
      λ i. h.1 i ++ written_texts job (with_group (h.0 i) gs)
  goes-text (Some w) (inl h) rise behind below =
      ap (λ (o : List ℕ). o ++ written_texts job (with_group next gs)) h.2
      ∙ ap (λ (q : Group). old ++ written_texts job (with_group q gs)) h.1
      ∙ ap (λ (hs : List Group). old ++ written_texts job hs) (sym (with_group-joined w g gs h.0 rise))
  goes-text (Some w) (inr h) rise behind below =
      let here : NotLess g.key w.key = below w refl in
      let all : AllByRecursion (λ k. NotLess k w.key) (keys (with_group g gs)) =
      with_group-behind w.key g gs (λ k. NotLess k w.key) here
      (all_from_Has (λ k. NotLess k w.key) (keys gs) (λ q a. (let f : NotLess q g.key = Has-all (λ k. NotLess k g.key) (keys gs) q behind a in
      λ less. here (less-back w.key q g.key f less)))) in
      let wrote : written_texts job (with_group w (with_group g gs)) ≡ written (group_text_of job) w ++ written_texts job (with_group g gs) =
      elim h.2 [
        | inl ne ↦
            (let less : key_order w.key g.key ≡ Less = not_less-differs g.key w.key here ne in
            ap (written_texts job) (in_front w (with_group g gs)
            (with_group-behind w.key g gs (λ k. key_order w.key k ≡ Less) less
            (all_from_Has (λ k. key_order w.key k ≡ Less) (keys gs) (λ q a. less-not w.key g.key q less (Has-all (λ k. NotLess k g.key) (keys gs) q behind a))))))
        | inr lines ↦ front-place (group_text_of job) w (with_group g gs) lines all
      ] in
      ap (λ (o : List ℕ). o ++ written_texts job (with_group next gs)) h.1
      ∙ append_assoc old (written (group_text_of job) w) (written_texts job (with_group next gs))
      ∙ ap (λ (q : Group). old ++ (written (group_text_of job) w ++ written_texts job (with_group q gs))) h.0
      ∙ ap (λ (t : List ℕ). old ++ t) (sym wrote)

  pub goes-key : (waiting : Option Group) → Goes job waiting g next old new → next.key ≡ g.key
  goes-key None h = ap (λ (q : Group). q.key) h.0
  goes-key (Some w) (inl h) = ap (λ (q : Group). q.key) h.1 ∙ h.0
  goes-key (Some w) (inr h) = ap (λ (q : Group). q.key) h.0

-- the same behind other bytes
pub goes-front : (job : JobSpec) (waiting : Option Group) (g next : Group) (text old new : List ℕ) → Goes job waiting g next old new → Goes job waiting g next (text ++ old) (text ++ new)
goes-front job None g next text old new h = (h.0, ap (λ (o : List ℕ). text ++ o) h.1)
goes-front job (Some w) g next text old new (inl h) = inl (h.0, h.1, ap (λ (o : List ℕ). text ++ o) h.2)
goes-front job (Some w) g next text old new (inr h) = inr (h.0, ap (λ (o : List ℕ). text ++ o) h.1 ∙ sym (append_assoc text old (written (group_text_of job) w)), h.2)

-- ---- what the loop keeps

below-some : (waiting : Option Group) (gss : List (List Group)) (w : Group) → waiting ≡ Some w → IsBelow waiting gss → AllByRecursion (NoneBefore w.key) gss
below-some waiting gss w e b = subst (λ (o : Option Group). IsBelow o gss) e b

pub kept-step : (job : JobSpec) (outputs : List ShardText) (old new : List Cursor) (waiting : Option Group) (line : Line) (next : Group) (out out' : List ℕ)
    → Step job old new line → AreRead job new outputs → Goes job waiting (group_of line) next out out' → Kept job outputs old waiting out → Kept job outputs new (Some next) out'
kept-step job outputs old new waiting line next out out' s read g k =
    let M : List (List Group) = map (left job) new in
    let one : Group = group_of line in
    record {
      kinds = step-kinds job old new line s k.kinds;
      read = read;
      few = within-step job outputs old new waiting line next out out' s g k.few;
      told = λ st.
          (let t = k.told (step-stands job old new line s st) in
          let behind = step-behind job old new line s st in record {
            stands = t.stands;
            text = goes-text job one next (merged_groups M) out out' waiting g (merged_groups-rise M) (merged-none_before line.key.now M behind)
                (λ w e. step-at job old new line s w.key (below-some waiting (map (left job) old) w e t.below))
                ∙ ap (λ (gs : List Group). out ++ written_texts job (with_waiting waiting gs)) (sym (step-pull job old new line s st)) ∙ t.text;
            below = subst (λ (q : List ℕ). AllByRecursion (NoneBefore q) M) (sym (goes-key job one next (merged_groups M) out out' waiting g)) behind;
          });
    }

-- ---- the ends of the loop

stands-end : (job : JobSpec) (o : Option Line) (rest : List ℕ) → o ≡ None → IsHead job o rest → rest ≡ []
stands-end job None rest e h = h
stands-end job (Some l) rest e h = absurd (cc e)

all-stand : (job : JobSpec) (cs : List Cursor) → AllByRecursion (λ c. c.head ≡ None) cs → AllByRecursion (IsHeadFor job) cs → AllByRecursion (Stands job) cs
all-stand job [] ends kinds = tt
all-stand job (c ∷ cs) ends kinds =
    let empty : c.rest.now ≡ [] = stands-end job c.head c.rest.now ends.0 kinds.0 in (
      record {
        rest = (
          record { groups = []; text_is = empty; lines = tt; in_turn = tt },
          subst (AllByRecursion (λ (g : Group). AreInFiles c.held.count g.values)) (sym (ap (groups_in job) empty ∙ none-read (group_text_of job))) tt,
        );
        in_order = subst (λ (o : Option Line). NoneFalls (headed o (map (shifted_group c.held.before) (groups_in job c.rest.now)))) (sym ends.0) tt;
      },
      all-stand job cs ends.1 kinds.1,
    )

pub none-left : (job : JobSpec) (cs : List Cursor) → AllByRecursion (λ c. c.head ≡ None) cs → merged_groups (map (left job) cs) ≡ []
none-left job [] ends = refl
none-left job (c ∷ cs) ends =
    ap (λ (o : Option Line). merged (headed o (map (shifted_group c.held.before) (groups_in job c.rest.now))) (merged_groups (map (left job) cs))) ends.0 ∙ none-left job cs ends.1

pub record Ends (job : JobSpec) (outputs : List ShardText) (waiting : Option Group) (out : List ℕ) : Type 0 where
  pub stands : AllByRecursion (IsShardText job) outputs
  pub text : out ++ written_texts job (with_waiting waiting []) ≡ texts job (merged_portions (parts_in job outputs))

pub kept-end : (job : JobSpec) (outputs : List ShardText) (cs : List Cursor) (waiting : Option Group) (out : List ℕ) → IsBest cs None → Kept job outputs cs waiting out → Ends job outputs waiting out
kept-end job outputs cs waiting out ends k =
    let t = k.told (all-stand job cs ends k.kinds) in
    record { stands = t.stands; text = ap (λ (gs : List Group). out ++ written_texts job (with_waiting waiting gs)) (sym (none-left job cs ends)) ∙ t.text ∙ written-all job outputs t.stands }

pub least-within : (cs : List Cursor) (at : ℕ) (line : Line) → IsLeast cs at line → at < length cs
least-within cs at line b = omega (arith, ap length b.is, length-append b.front (b.one ∷ b.back), b.place)
