-- The FNV-1a hash of 64 bits, and keys lent side by side.
use Rattle.std.specs.Prelude.{ℕ, ◌*◌, ◌%◌, ◌^◌, List, [], ◌∷◌, slice_index_or, bit_xor}
use denote.Bor.{Bor}

-- the hash `h` of the bytes before, with the byte `b` behind them
abbrev pub stir : ℕ → ℕ → ℕ
stir h b = (bit_xor h b * 0x100000001b3) % 2 ^ 64

-- FNV-1a over the bytes, from the hash `h` of those before
unfoldable pub fnv_from : ℕ → List ℕ → ℕ
fnv_from h [] = h
fnv_from h (b ∷ bs) = fnv_from (stir h b) bs

abbrev pub fnv : List ℕ → ℕ
fnv key = fnv_from 0xcbf29ce484222325 key

-- the bytes of key `i`
abbrev pub key_at : List (Bor (List ℕ)) → ℕ → List ℕ
key_at keys i = (slice_index_or keys i (record { ref_ptr = (0, 0); now = [] })).now
