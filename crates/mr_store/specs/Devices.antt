-- What calls do to a device: to its bytes and to its count of failed calls.
use Rattle.std.specs.Prelude.{◌≡◌, ℕ, ◌+◌, ◌%◌, ◌^◌, ◌≤◌, ◌⊎◌, Bool, true, List, [], ◌∷◌, length, take, slice_index, ◌<◌, Option, Result, MatchResult, OnErr, map, Vec}
use Rattle.std.specs.Global.{Global}
use Rattle.std.specs.Io.KnownBytes.{append_known}

-- each of them is a byte
abbrev pub AreBytes : List ℕ → Type 0
AreBytes bytes = (i : ℕ) → slice_index bytes i < 256

-- one more failed call; the count has 64 bits, and begins anew behind its last number
abbrev pub counted : ℕ → ℕ
counted n = (n + 1) % 2 ^ 64

-- an answer, and the count before and behind the call
abbrev pub Counts : {A E : Type 0} → ℕ → ℕ → Result A E → Type 0
Counts old new r = MatchResult r (λ _. new ≡ old) (λ _. new ≡ counted old)

-- a call fails only where one can fail, or for want of memory
abbrev pub FailsOnly : {A E : Type 0} → Type 0 → Bool → Result A E → Type 0
FailsOnly can_fail lacked r = OnErr r (can_fail ⊎ (lacked ≡ true))

-- what can be seen of a writer: the bytes that it holds and those that it held at its last flush and handed on there,
-- where they are known, and how many calls have failed
pub record Seen : Type 0 where
  pub contents : Option (List ℕ)
  pub handed_on : Option (List ℕ)
  pub failed : ℕ

-- behind a write that took these bytes
abbrev pub with_bytes : Seen → List ℕ → Seen
with_bytes w bytes = record { contents = append_known w.contents bytes; handed_on = w.handed_on; failed = w.failed }

-- behind a flush
abbrev pub flushed : Seen → Seen
flushed w = record { contents = w.contents; handed_on = w.contents; failed = w.failed }

-- behind a call that failed
abbrev pub once_failed : Seen → Seen
once_failed w = record { contents = w.contents; handed_on = w.handed_on; failed = counted w.failed }

-- the writer took all the bytes and then handed on what it held
abbrev pub TookAll : Seen → Seen → List ℕ → Type 0
TookAll old new bytes = new ≡ flushed (with_bytes old bytes)

-- the writer took a beginning of the bytes and handed on nothing, and a call failed
abbrev pub TookSome : Seen → Seen → List ℕ → Type 0
TookSome old new bytes = (k : ℕ) × (k ≤ length bytes) × (new ≡ once_failed (with_bytes old (take k bytes)))

-- each writer took its text whole
abbrev pub AllTook : {W : Type 0} → (W → Seen) → List W → List W → List (List ℕ) → Type 0
AllTook seen [] [] [] = Unit {0}
AllTook seen (w ∷ ws) (v ∷ vs) (t ∷ ts) = TookAll (seen w) (seen v) t × AllTook seen ws vs ts
AllTook seen _ _ _ = ⊥

-- the writers before one took their texts whole, that one a beginning of its text, and those behind it are as before
abbrev pub StoppedAt : {W : Type 0} → (W → Seen) → List W → List W → List (List ℕ) → Type 0
StoppedAt seen (w ∷ ws) (v ∷ vs) (t ∷ ts) = (TookSome (seen w) (seen v) t × (vs ≡ ws)) ⊎ (TookAll (seen w) (seen v) t × StoppedAt seen ws vs ts)
StoppedAt seen _ _ _ = ⊥

-- the bytes of each output
abbrev pub texts : List (Vec ℕ Global) → List (List ℕ)
texts outputs = map (λ o. o.items) outputs
