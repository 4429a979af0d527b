-- When bytes are no certificate.
use Rattle.std.specs.Prelude.{◌≡◌, ℕ, List, false}
use Rattle.mr_certform.specs.declared.reading.ReadFault.{ReadFault}
use Rattle.mr_certform.specs.declared.reading.ReadFault.TheVariants.{Malformed, OutOfMemory}
use Rattle.mr_certform.specs.Spelling.{items_of, is_ended, stop}
use Rattle.mr_certform.specs.Value.{Contents, Spells}

-- the items that stand don't end, and the place is behind them
abbrev pub IsHalted : List ℕ → ReadFault → Type 0
IsHalted bytes (Malformed place) = (is_ended (items_of bytes) ≡ false) × (place ≡ stop bytes)
IsHalted bytes OutOfMemory = Unit {0}

-- the bytes spell no certificate, and the place is behind the last item that stands
abbrev pub IsReadFault : List ℕ → ReadFault → Type 0
IsReadFault bytes (Malformed place) = ((c : Contents) → Spells bytes c → ⊥) × (place ≡ stop bytes)
IsReadFault bytes OutOfMemory = Unit {0}
