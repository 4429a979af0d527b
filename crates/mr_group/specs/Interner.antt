-- Keys by number.
use Rattle.std.specs.Prelude.{◌≡◌, ℕ, ◌≤◌, ◌<◌, List, [], map, length, slice_range, slice_index_or}
use Rattle.mr_bytes.specs.declared.Span.{Span}
use Rattle.mr_group.specs.Print.{IsPrint}
use Rattle.mr_group.specs.declared.slots.Slot.{Slot}

-- a key by its number
abbrev pub key_at : List (List ℕ) → ℕ → List ℕ
key_at keys i = slice_index_or keys i []

-- the texts at these places of the bytes
abbrev pub texts_at : List ℕ → List Span → List (List ℕ)
texts_at bytes spans = map (λ s. slice_range bytes s.start s.end) spans

-- a text stands there
abbrev pub IsWithin : List ℕ → Span → Type 0
IsWithin bytes s = (s.start ≤ s.end) × (s.end ≤ length bytes)

-- the key has this number
abbrev pub IsKeyAt : List (List ℕ) → ℕ → List ℕ → Type 0
IsKeyAt keys number key = (number < length keys) × (key_at keys number ≡ key)

-- where the slot tells a short key, it has the print and the length of the key of its number
abbrev pub IsSlotOf : List (List ℕ) → Slot → Type 0
IsSlotOf keys s = s.length < 17
    → (s.number < length keys) × (length (key_at keys s.number) ≡ s.length) × IsPrint s.print (key_at keys s.number)
