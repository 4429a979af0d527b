-- What the parts of a line are parsed to. No public clause cites it: a line so parsed is written again and compared.
use Rattle.std.specs.Prelude.{ℕ, Option, Some, None, List, [], ◌∷◌, ◌++◌, nat_eq, if◌then◌else◌, codes, decimal}
use Rattle.std.specs.Cmp.Lexicographic.{pointwise}
use Rattle.mr_core.specs.declared.event.Event.{Event}
use Rattle.mr_core.specs.declared.event.Event.TheVariants as event
use Rattle.mr_core.specs.declared.event.End.{End}
use Rattle.mr_core.specs.declared.event.End.TheVariants as end
use Rattle.mr_core.specs.declared.event.JobFault.TheVariants as fault
use Rattle.mr_core.specs.declared.event.Shape.{Shape}
use Rattle.mr_bytes.specs.Cut.{cut}
use Rattle.mr_script.specs.Meaning.{◌>>=◌, number_of}
use Rattle.mr_picture.specs.Histories.{IsSmall}
use Rattle.mr_picture.specs.declared.entries.Answer.{Answer}
use Rattle.mr_picture.specs.declared.entries.Answer.TheVariants as answer

abbrev pub or_all : List ℕ → Option (List ℕ × List ℕ) → List ℕ × List ℕ
or_all text None = (text, [])
or_all text (Some parts) = parts

-- the bytes before the first space, and those behind it
unfoldable pub parted : List ℕ → List ℕ × List ℕ
parted text = or_all text (cut 0x20 text)

-- the first word as a number, and what is behind it
unfoldable pub next_number : List ℕ → Option (ℕ × List ℕ)
next_number text = number_of ((parted text).0) >>= λ n. Some (n, (parted text).1)

-- the second word as a number, and what is behind it
unfoldable pub number_behind : List ℕ → Option (ℕ × List ℕ)
number_behind text = next_number ((parted text).1)

unfoldable pub event_by : List ℕ → ℕ → ℕ → Option Event
event_by word attempt number =
    if pointwise nat_eq word (codes "fetch") then Some (event.Fetch attempt number) else
    if pointwise nat_eq word (codes "map-done") then Some (event.MapDone attempt number) else
    if pointwise nat_eq word (codes "map-failed") then Some (event.MapFailed attempt number) else
    if pointwise nat_eq word (codes "reduce-done") then Some (event.ReduceDone attempt number) else
    if pointwise nat_eq word (codes "damaged") then Some (event.Damaged attempt number) else None

unfoldable pub event_with : List ℕ → List ℕ → Option Event
event_with word rest =
    if pointwise nat_eq word (codes "ask") then (number_of rest >>= λ w. Some (event.Ask w)) else
    if pointwise nat_eq word (codes "lose") then (number_of rest >>= λ w. Some (event.Lose w)) else
    (number_behind rest >>= λ a. number_behind a.1 >>= λ n. event_by word a.0 n.0)

unfoldable pub event_of : List ℕ → Option Event
event_of text = event_with (parted text).0 (parted text).1

unfoldable pub end_of : List ℕ → Option End
end_of text =
    if pointwise nat_eq text (codes "done") then Some end.Done else
    if pointwise nat_eq text (codes "dismissed") then Some end.Dismissed else
    if pointwise nat_eq text (codes "failed TooManyAttempts") then Some (end.Failed fault.TooManyAttempts) else
    if pointwise nat_eq text (codes "failed TooManySkips") then Some (end.Failed fault.TooManySkips) else
    if pointwise nat_eq text (codes "failed NoWorkers") then Some (end.Failed fault.NoWorkers) else None

-- an answer, and the text behind it
unfoldable pub answer_with : List ℕ → List ℕ → Option (Answer × List ℕ)
answer_with word rest =
    if pointwise nat_eq word (codes "map") then (number_behind rest >>= λ a. number_behind a.1 >>= λ s. Some (answer.Map a.0 s.0, s.1)) else
    if pointwise nat_eq word (codes "reduce") then (number_behind rest >>= λ a. number_behind a.1 >>= λ p. Some (answer.Reduce a.0 p.0, p.1)) else
    if pointwise nat_eq word (codes "stop") then (end_of rest >>= λ e. Some (answer.Stop e, [])) else
    if pointwise nat_eq word (codes "output") then (number_of rest >>= λ o. Some (answer.Region o, [])) else
    if pointwise nat_eq word (codes "wait") then Some (answer.Wait, []) else
    if pointwise nat_eq word (codes "gone") then Some (answer.Gone, []) else
    if pointwise nat_eq word (codes "accepted") then Some (answer.Accepted, []) else
    if pointwise nat_eq word (codes "ignored") then Some (answer.Ignored, []) else None

unfoldable pub answer_of : List ℕ → Option (Answer × List ℕ)
answer_of text = answer_with (parted text).0 (parted text).1

-- an event, its answer, and the text of the records to leave out
unfoldable pub parts_of : List ℕ → Option (Event × Answer × List ℕ)
parts_of text =
    cut 0x3A text >>= λ a. cut 0x0A a.1 >>= λ b. event_of a.0 >>= λ e. answer_of (parted b.0).1 >>= λ r. Some (e, r.0, (parted r.1).1)

-- the shape that the first line has behind its first two words
unfoldable pub shape_in : List ℕ → Option Shape
shape_in line =
    number_behind ((parted ((parted line).1)).1) >>= λ m. number_behind m.1 >>= λ r. number_behind r.1 >>= λ w.
    number_behind w.1 >>= λ a. number_behind a.1 >>= λ k.
    Some (record { maps = m.0; parts = r.0; workers = w.0; limits = record { attempts = a.0; skips = k.0 } })

unfoldable pub shape_of : List ℕ → Option Shape
shape_of text = cut 0x0A text >>= λ l. shape_in l.0

-- the numbers of an answer
abbrev pub AreSmallAnswered : Answer → Type 0
AreSmallAnswered (answer.Map attempt split) = IsSmall attempt × IsSmall split
AreSmallAnswered (answer.Reduce attempt partition) = IsSmall attempt × IsSmall partition
AreSmallAnswered (answer.Region output) = IsSmall output
AreSmallAnswered _ = Unit {0}

-- numbers with single spaces between them
abbrev pub spaced : List ℕ → List ℕ
spaced [] = []
spaced (n ∷ []) = decimal n
spaced (n ∷ m ∷ ms) = decimal n ++ 0x20 ∷ spaced (m ∷ ms)
