-- Ranges that tile files, range by range.
use Rattle.std.proofs.Common.{◌≡◌, ℕ, zero, suc, ◌+◌, ◌-◌, ◌<◌, ◌≤◌, ◌^◌, Bool, true, false, List, [], ◌∷◌, length, get_or, refl, sym, ◌∙◌, ap, arith, ◌&&◌}
use Rattle.std.proofs.lemmas.Bool.{ne_eqb}
use Rattle.std.specs.Prelude.{nat_lt}
use Rattle.std.specs.Str.{bytes_eq}
use Rattle.mr_shards.specs.Gaps.{Stands, goes_on_at, note_at}
use Rattle.mr_shards.specs.RangeNotes.{Follows, RangeNote, TileFiles, goes_on}

and_false : (a : Bool) → (a && false) ≡ false
and_false true = refl
and_false false = refl

-- where a range has no end that 64 bits hold, none goes on with it
pub goes-nowhere : (m n : RangeNote) → (m.from + m.length < 2 ^ 64 → ⊥) → n.from < 2 ^ 64 → false ≡ goes_on m n
goes-nowhere m n far near =
    sym (ap (λ b. bytes_eq m.name n.name && (b && (nat_lt 0 n.from && m.closed))) (ne_eqb n.from (m.from + m.length) (λ e. far (omega (arith, e, near))))
    ∙ and_false (bytes_eq m.name n.name))

pub goes-first : (ns : List RangeNote) (at : ℕ) → at ≡ 0 → false ≡ goes_on_at ns at
goes-first [] at e = refl
goes-first (m ∷ ns) zero e = refl
goes-first (m ∷ ns) (suc k) e = absurd (omega (arith, e))

pub goes-past : (ns : List RangeNote) (at : ℕ) → length ns ≤ at → false ≡ goes_on_at ns at
goes-past [] at h = refl
goes-past (m ∷ ns) zero h = refl
goes-past (m ∷ []) (suc zero) h = refl
goes-past (m ∷ n ∷ ns) (suc zero) h = absurd (omega (arith, h))
goes-past (m ∷ ns) (suc (suc k)) h = goes-past ns (suc k) (omega (arith, h))

-- the range of that number, by the two notes
pub goes-read : (ns : List RangeNote) (k : ℕ) (d e : RangeNote) → suc k < length ns → goes_on (get_or ns k d) (get_or ns (suc k) e) ≡ goes_on_at ns (suc k)
goes-read [] k d e h = absurd (omega (arith, h))
goes-read (m ∷ []) k d e h = absurd (omega (arith, h))
goes-read (m ∷ n ∷ ns) zero d e h = refl
goes-read (m ∷ n ∷ ns) (suc k) d e h = goes-read (n ∷ ns) k d e (omega (arith, h))

pub goes-at : (ns : List RangeNote) (at : ℕ) (d e : RangeNote) → (at ≡ 0 → ⊥) → at < length ns → goes_on (get_or ns (at - 1) d) (get_or ns at e) ≡ goes_on_at ns at
goes-at ns zero d e some h = absurd (some refl)
goes-at ns (suc k) d e some h =
    let before : suc k - 1 ≡ k = omega arith in
    ap (λ i. goes_on (get_or ns i d) (get_or ns (suc k) e)) before ∙ goes-read ns k d e h

-- the ranges behind that one, of which the first may go on with it
follows : (partial : Bool) (n : RangeNote) (ns : List RangeNote)
    → ((i : ℕ) → i < length (n ∷ ns) → goes_on_at (n ∷ ns) (suc i) ≡ false → (partial ≡ true → suc i < length (n ∷ ns)) → (note_at (n ∷ ns) i).ends ≡ true)
    → ((i : ℕ) → i < length ns → goes_on_at (n ∷ ns) (suc i) ≡ false → (note_at ns i).from ≡ 0) → Follows partial n ns
follows partial n [] ends from = λ e. ends 0 (omega arith) refl (λ t. absurd (cc (sym e ∙ t)))
follows partial n (m ∷ ms) ends from = (
  λ e. (ends 0 (omega arith) e (λ t. omega arith), from 0 (omega arith) e),
  follows partial m ms (λ i h e p. ends (suc i) (omega (arith, h)) e (λ t. omega (arith, p t))) (λ i h e. from (suc i) (omega (arith, h)) e),
)

pub tile-all : (partial : Bool) (ns : List RangeNote) → ((i : ℕ) → i < length ns → Stands partial ns i) → TileFiles partial ns
tile-all partial [] stand = tt
tile-all partial (n ∷ ns) stand = (
  λ e. (stand 0 (omega arith)).0 refl (λ t. absurd (cc (sym e ∙ t))),
  follows partial n ns (λ i h e. (stand i h).1 e) (λ i h e. (stand (suc i) (omega (arith, h))).0 e (λ t. omega arith)),
)
