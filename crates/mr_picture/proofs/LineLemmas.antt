-- A line is parsed to what it was written for.
use Rattle.std.proofs.Common.{◌≡◌, ℕ, ◌^◌, ◌<◌, subst, Bool, true, false, ◌&&◌, not, Option, Some, None, List, [], ◌∷◌, ◌++◌, length, refl, ap, sym, ◌∙◌, append_assoc, arith, ◌==◌, eqb}
use Rattle.std.proofs.lemmas.Bool.{eqb-false}
use Rattle.std.proofs.lemmas.Fmt.{decimal_is_IsNumeral, length-decimal-le}
use Rattle.std.proofs.lemmas.Str.Parse.{digit_from_value}
use Rattle.std.proofs.lemmas.List.{append-nil}
use Rattle.std.specs.Int.{IsInRange}
use Rattle.std.specs.List.{AllByRecursion, flat_map}
use Rattle.std.specs.Prelude.{codes, decimal}
use Rattle.std.specs.Str.Parse.{AllDigits}
use Rattle.mr_bytes.proofs.CutLemmas.{cut-lacks, cut-parts}
use Rattle.mr_bytes.specs.Cut.{Lacks, cut}
use Rattle.mr_core.specs.Core.{InLimits}
use Rattle.mr_core.specs.declared.event.End.{End}
use Rattle.mr_core.specs.declared.event.End.TheVariants as end
use Rattle.mr_core.specs.declared.event.JobFault.TheVariants as fault
use Rattle.mr_core.specs.declared.event.Event.{Event}
use Rattle.mr_core.specs.declared.event.Event.TheVariants as event
use Rattle.mr_core.specs.declared.event.Reply.{Reply}
use Rattle.mr_core.specs.declared.event.Reply.TheVariants as reply
use Rattle.mr_core.specs.declared.event.Shape.{Shape}
use Rattle.mr_script.proofs.Numbers.{number_spelled}
use Rattle.mr_script.specs.Meaning.{◌>>=◌, number_of}
use Rattle.mr_picture.specs.declared.entries.Answer.{Answer}
use Rattle.mr_picture.specs.declared.entries.Answer.TheVariants as answer
use Rattle.mr_picture.specs.Answers.{reply_of}
use Rattle.mr_picture.specs.Histories.{AreSmallIn, AreSmallOf, IsSmall}
use Rattle.mr_picture.specs.HistoryLines.{end_text, entry_line, event_text, numbered, reply_text, shape_line, without_text}
use Rattle.mr_picture.specs.Parsing.{answer_of, answer_with, end_of, event_by, event_of, event_with, next_number, number_behind, or_all, parted, parts_of, shape_in, shape_of, spaced}
use Rattle.mr_picture.specs.Reading.{AreSmall}

-- ---- numbers and words

number-read : (n : ℕ) → n < 2 ^ 32 → number_of (decimal n) ≡ Some n
number-read n small =
    let wide : n < 2 ^ 64 = omega (arith, small) in
    let num = decimal_is_IsNumeral n wide in
    number_spelled (decimal n) n (record { digits = num.0; few = length-decimal-le 10 n (omega arith) (omega (arith, small)) wide; value = num.1; small = small })

digits-lack : (mark : ℕ) (ds : List ℕ) → (IsInRange 48 57 mark → ⊥) → AllDigits 10 ds → Lacks mark ds
digits-lack mark [] other h = tt
digits-lack mark (d ∷ ds) other h =
    (λ e. let r = digit_from_value d h.0 in other (omega (arith, r.0, e), omega (arith, r.1, e)), digits-lack mark ds other h.1)

number-lacks : (mark n : ℕ) → (IsInRange 48 57 mark → ⊥) → n < 2 ^ 32 → Lacks mark (decimal n)
number-lacks mark n other small = digits-lack mark (decimal n) other (decimal_is_IsNumeral n (omega (arith, small))).0.1

abbrev lacks : ℕ → List ℕ → Bool
lacks mark [] = true
lacks mark (b ∷ bs) = not (b == mark) && lacks mark bs

lacks-first : (mark b : ℕ) (bs : List ℕ) (t : Bool) → eqb b mark ≡ t → lacks mark (b ∷ bs) ≡ true → (lacks mark bs ≡ true → Lacks mark bs) → Lacks mark (b ∷ bs)
lacks-first mark b bs true t e on = absurd (cc (ap (λ (v : Bool). not v && lacks mark bs) (sym t) ∙ e))
lacks-first mark b bs false t e on = (eqb-false b mark t, on (ap (λ (v : Bool). not v && lacks mark bs) (sym t) ∙ e))

lacks-word : (mark : ℕ) (word : List ℕ) → lacks mark word ≡ true → Lacks mark word
lacks-word mark [] e = tt
lacks-word mark (b ∷ bs) e = lacks-first mark b bs (eqb b mark) refl e (lacks-word mark bs)

Lacks-append : (mark : ℕ) (xs ys : List ℕ) → Lacks mark xs → Lacks mark ys → Lacks mark (xs ++ ys)
Lacks-append mark [] ys h k = k
Lacks-append mark (x ∷ xs) ys h k = (h.0, Lacks-append mark xs ys h.1 k)

numbered-lacks : (mark : ℕ) (words : List ℕ) (n : ℕ) → (IsInRange 48 57 mark → ⊥) → lacks mark words ≡ true → n < 2 ^ 32 → Lacks mark (numbered words n)
numbered-lacks mark words n other e small = Lacks-append mark words (decimal n) (lacks-word mark words e) (number-lacks mark n other small)

space-other : IsInRange 48 57 0x20 → ⊥
space-other h = omega (arith, h.0)

feed-other : IsInRange 48 57 0x0A → ⊥
feed-other h = omega (arith, h.0)

colon-other : IsInRange 48 57 0x3A → ⊥
colon-other h = omega (arith, h.1)

-- ---- parts

parted-more : (word rest : List ℕ) → Lacks 0x20 word → parted (word ++ 0x20 ∷ rest) ≡ (word, rest)
unfolding parted
parted-more word rest h = ap (or_all (word ++ 0x20 ∷ rest)) (cut-parts 0x20 word rest h)

parted-last : (word : List ℕ) → Lacks 0x20 word → parted word ≡ (word, [])
unfolding parted
parted-last word h = ap (or_all word) (cut-lacks 0x20 word h)

next-by : (text word rest : List ℕ) (n : ℕ) → parted text ≡ (word, rest) → number_of word ≡ Some n → next_number text ≡ Some (n, rest)
unfolding next_number
next-by text word rest n e f =
    ap (λ (p : List ℕ × List ℕ). number_of p.0 >>= λ m. Some (m, p.1)) e ∙ ap (λ (o : Option ℕ). o >>= λ m. Some (m, rest)) f

pub next-more : (n : ℕ) (rest : List ℕ) → n < 2 ^ 32 → next_number (decimal n ++ 0x20 ∷ rest) ≡ Some (n, rest)
next-more n rest small = next-by (decimal n ++ 0x20 ∷ rest) (decimal n) rest n (parted-more (decimal n) rest (number-lacks 0x20 n space-other small)) (number-read n small)

pub next-last : (n : ℕ) → n < 2 ^ 32 → next_number (decimal n) ≡ Some (n, [])
next-last n small = next-by (decimal n) (decimal n) [] n (parted-last (decimal n) (number-lacks 0x20 n space-other small)) (number-read n small)

behind-more : (word : List ℕ) (n : ℕ) (rest : List ℕ) → lacks 0x20 word ≡ true → n < 2 ^ 32 → number_behind (word ++ 0x20 ∷ (decimal n ++ 0x20 ∷ rest)) ≡ Some (n, rest)
unfolding number_behind
behind-more word n rest h small =
    ap (λ (p : List ℕ × List ℕ). next_number p.1) (parted-more word (decimal n ++ 0x20 ∷ rest) (lacks-word 0x20 word h)) ∙ next-more n rest small

behind-last : (word : List ℕ) (n : ℕ) → lacks 0x20 word ≡ true → n < 2 ^ 32 → number_behind (word ++ 0x20 ∷ decimal n) ≡ Some (n, [])
unfolding number_behind
behind-last word n h small =
    ap (λ (p : List ℕ × List ℕ). next_number p.1) (parted-more word (decimal n) (lacks-word 0x20 word h)) ∙ next-last n small

-- ---- events

one-event : (word : List ℕ) (w : ℕ) (f : ℕ → Event) → lacks 0x20 word ≡ true → w < 2 ^ 32 → ((rest : List ℕ) → event_with word rest ≡ (number_of rest >>= λ v. Some (f v)))
    → event_of (word ++ 0x20 ∷ decimal w) ≡ Some (f w)
unfolding event_of
one-event word w f h small is =
    ap (λ (p : List ℕ × List ℕ). event_with p.0 p.1) (parted-more word (decimal w) (lacks-word 0x20 word h))
    ∙ is (decimal w) ∙ ap (λ (o : Option ℕ). o >>= λ v. Some (f v)) (number-read w small)

two-events : (word middle : List ℕ) (a n : ℕ) → lacks 0x20 word ≡ true → lacks 0x20 middle ≡ true → a < 2 ^ 32 → n < 2 ^ 32
    → ((rest : List ℕ) → event_with word rest ≡ (number_behind rest >>= λ x. number_behind x.1 >>= λ y. event_by word x.0 y.0))
    → event_of (word ++ 0x20 ∷ (codes "attempt" ++ 0x20 ∷ (decimal a ++ 0x20 ∷ (middle ++ 0x20 ∷ decimal n)))) ≡ event_by word a n
unfolding event_of
two-events word middle a n h k small small' is =
    let rest : List ℕ = codes "attempt" ++ 0x20 ∷ (decimal a ++ 0x20 ∷ (middle ++ 0x20 ∷ decimal n)) in
    ap (λ (p : List ℕ × List ℕ). event_with p.0 p.1) (parted-more word rest (lacks-word 0x20 word h))
    ∙ is rest
    ∙ ap (λ (o : Option (ℕ × List ℕ)). o >>= λ x. number_behind x.1 >>= λ y. event_by word x.0 y.0) (behind-more (codes "attempt") a (middle ++ 0x20 ∷ decimal n) refl small)
    ∙ ap (λ (o : Option (ℕ × List ℕ)). o >>= λ y. event_by word a y.0) (behind-last middle n k small')

event-read : (e : Event) → AreSmallIn e → event_of (event_text e) ≡ Some e
unfolding event_with event_by
event-read (event.Ask w) small = one-event (codes "ask") w event.Ask refl small (λ rest. refl)
event-read (event.Lose w) small = one-event (codes "lose") w event.Lose refl small (λ rest. refl)
event-read (event.Fetch a n) small = two-events (codes "fetch") (codes "split") a n refl refl small.0 small.1 (λ rest. refl)
event-read (event.MapDone a n) small = two-events (codes "map-done") (codes "output") a n refl refl small.0 small.1 (λ rest. refl)
event-read (event.MapFailed a n) small = two-events (codes "map-failed") (codes "record") a n refl refl small.0 small.1 (λ rest. refl)
event-read (event.ReduceDone a n) small = two-events (codes "reduce-done") (codes "output") a n refl refl small.0 small.1 (λ rest. refl)
event-read (event.Damaged a n) small = two-events (codes "damaged") (codes "split") a n refl refl small.0 small.1 (λ rest. refl)

two-lack : (first second : List ℕ) (a n : ℕ) → lacks 0x3A first ≡ true → lacks 0x3A second ≡ true → a < 2 ^ 32 → n < 2 ^ 32 → Lacks 0x3A (numbered first a ++ numbered second n)
two-lack first second a n h k small small' =
    Lacks-append 0x3A (numbered first a) (numbered second n) (numbered-lacks 0x3A first a colon-other h small) (numbered-lacks 0x3A second n colon-other k small')

event-lacks : (e : Event) → AreSmallIn e → Lacks 0x3A (event_text e)
event-lacks (event.Ask w) small = numbered-lacks 0x3A (codes "ask ") w colon-other refl small
event-lacks (event.Lose w) small = numbered-lacks 0x3A (codes "lose ") w colon-other refl small
event-lacks (event.Fetch a n) small = two-lack (codes "fetch attempt ") (codes " split ") a n refl refl small.0 small.1
event-lacks (event.MapDone a n) small = two-lack (codes "map-done attempt ") (codes " output ") a n refl refl small.0 small.1
event-lacks (event.MapFailed a n) small = two-lack (codes "map-failed attempt ") (codes " record ") a n refl refl small.0 small.1
event-lacks (event.ReduceDone a n) small = two-lack (codes "reduce-done attempt ") (codes " output ") a n refl refl small.0 small.1
event-lacks (event.Damaged a n) small = two-lack (codes "damaged attempt ") (codes " split ") a n refl refl small.0 small.1

-- ---- answers

abbrev pub answer_in : Reply → Answer
answer_in (reply.Map attempt split skips) = answer.Map attempt split
answer_in (reply.Reduce attempt partition) = answer.Reduce attempt partition
answer_in reply.Wait = answer.Wait
answer_in (reply.Stop e) = answer.Stop e
answer_in (reply.Region output) = answer.Region output
answer_in reply.Gone = answer.Gone
answer_in reply.Accepted = answer.Accepted
answer_in reply.Ignored = answer.Ignored

abbrev pub skips_in : Reply → List ℕ
skips_in (reply.Map attempt split skips) = skips
skips_in _ = []

pub reply-again : (r : Reply) → reply_of (answer_in r) (skips_in r) ≡ r
reply-again (reply.Map attempt split skips) = refl
reply-again (reply.Reduce attempt partition) = refl
reply-again reply.Wait = refl
reply-again (reply.Stop e) = refl
reply-again (reply.Region output) = refl
reply-again reply.Gone = refl
reply-again reply.Accepted = refl
reply-again reply.Ignored = refl

pub skips-small : (r : Reply) → AreSmallOf r → AllByRecursion IsSmall (skips_in r)
skips-small (reply.Map attempt split skips) small = small.2
skips-small (reply.Reduce attempt partition) small = tt
skips-small reply.Wait small = tt
skips-small (reply.Stop e) small = tt
skips-small (reply.Region output) small = tt
skips-small reply.Gone small = tt
skips-small reply.Accepted small = tt
skips-small reply.Ignored small = tt

-- the records to leave out, as they are written and as they are parsed
flat-spaced : (n : ℕ) (ns : List ℕ) → flat_map (numbered (codes " ")) (n ∷ ns) ≡ 0x20 ∷ spaced (n ∷ ns)
flat-spaced n [] = ap (λ (l : List ℕ). 0x20 ∷ l) (append-nil (decimal n))
flat-spaced n (m ∷ ms) = ap (λ (l : List ℕ). 0x20 ∷ (decimal n ++ l)) (flat-spaced m ms)

abbrev left_in : List ℕ → List ℕ
left_in [] = []
left_in (n ∷ ns) = codes "without" ++ 0x20 ∷ spaced (n ∷ ns)

abbrev left_of : Reply → List ℕ
left_of r = left_in (skips_in r)

left-parted : (ns : List ℕ) → (parted (left_in ns)).1 ≡ spaced ns
left-parted [] = ap (λ (p : List ℕ × List ℕ). p.1) (parted-last [] tt)
left-parted (n ∷ ns) = ap (λ (p : List ℕ × List ℕ). p.1) (parted-more (codes "without") (spaced (n ∷ ns)) (lacks-word 0x20 (codes "without") refl))

abbrev then_split : ℕ → Option (ℕ × List ℕ) → Option (Answer × List ℕ)
then_split a o = o >>= λ s. Some (answer.Map a s.0, s.1)

abbrev then_partition : ℕ → Option (ℕ × List ℕ) → Option (Answer × List ℕ)
then_partition a o = o >>= λ p. Some (answer.Reduce a p.0, p.1)

split-behind : (split : ℕ) (ns : List ℕ) → split < 2 ^ 32 → number_behind (codes "split" ++ 0x20 ∷ (decimal split ++ without_text ns)) ≡ Some (split, left_in ns)
split-behind split [] small =
    ap (λ (l : List ℕ). number_behind (codes "split" ++ 0x20 ∷ l)) (append-nil (decimal split)) ∙ behind-last (codes "split") split refl small
split-behind split (n ∷ ns) small =
    ap (λ (l : List ℕ). number_behind (codes "split" ++ 0x20 ∷ (decimal split ++ (codes " without" ++ l)))) (flat-spaced n ns)
    ∙ behind-more (codes "split") split (left_in (n ∷ ns)) refl small

end-read : (e : End) → end_of (end_text e) ≡ Some e
unfolding end_of
end-read end.Done = refl
end-read end.Dismissed = refl
end-read (end.Failed fault.TooManyAttempts) = refl
end-read (end.Failed fault.TooManySkips) = refl
end-read (end.Failed fault.NoWorkers) = refl

answer-more : (word rest : List ℕ) → lacks 0x20 word ≡ true → answer_of (word ++ 0x20 ∷ rest) ≡ answer_with word rest
unfolding answer_of
answer-more word rest h = ap (λ (p : List ℕ × List ℕ). answer_with p.0 p.1) (parted-more word rest (lacks-word 0x20 word h))

answer-last : (word : List ℕ) → lacks 0x20 word ≡ true → answer_of word ≡ answer_with word []
unfolding answer_of
answer-last word h = ap (λ (p : List ℕ × List ℕ). answer_with p.0 p.1) (parted-last word (lacks-word 0x20 word h))

answer-read : (r : Reply) → AreSmallOf r → answer_of (reply_text r) ≡ Some (answer_in r, left_of r)
unfolding answer_with
answer-read (reply.Map a s ns) small =
    ap answer_of (map-text a s ns)
    ∙ answer-more (codes "map") (codes "attempt" ++ 0x20 ∷ (decimal a ++ 0x20 ∷ (codes "split" ++ 0x20 ∷ (decimal s ++ without_text ns)))) refl
    ∙ ap (λ (o : Option (ℕ × List ℕ)). o >>= λ x. then_split x.0 (number_behind x.1)) (behind-more (codes "attempt") a (codes "split" ++ 0x20 ∷ (decimal s ++ without_text ns)) refl small.0)
    ∙ ap (then_split a) (split-behind s ns small.1)
  where
    map-text : (a s : ℕ) (ns : List ℕ) → reply_text (reply.Map a s ns) ≡ codes "map" ++ 0x20 ∷ (codes "attempt" ++ 0x20 ∷ (decimal a ++ 0x20 ∷ (codes "split" ++ 0x20 ∷ (decimal s ++ without_text ns))))
    map-text a s ns = refl
answer-read (reply.Reduce a p) small =
    answer-more (codes "reduce") (codes "attempt" ++ 0x20 ∷ (decimal a ++ 0x20 ∷ (codes "partition" ++ 0x20 ∷ decimal p))) refl
    ∙ ap (λ (o : Option (ℕ × List ℕ)). o >>= λ x. then_partition x.0 (number_behind x.1)) (behind-more (codes "attempt") a (codes "partition" ++ 0x20 ∷ decimal p) refl small.0)
    ∙ ap (then_partition a) (behind-last (codes "partition") p refl small.1)
answer-read (reply.Stop e) small =
    answer-more (codes "stop") (end_text e) refl ∙ ap (λ (o : Option End). o >>= λ x. Some (answer.Stop x, [])) (end-read e)
answer-read (reply.Region o) small =
    answer-more (codes "output") (decimal o) refl ∙ ap (λ (v : Option ℕ). v >>= λ x. Some (answer.Region x, [])) (number-read o small)
answer-read reply.Wait small = answer-last (codes "wait") refl
answer-read reply.Gone small = answer-last (codes "gone") refl
answer-read reply.Accepted small = answer-last (codes "accepted") refl
answer-read reply.Ignored small = answer-last (codes "ignored") refl

spaced-lacks : (ns : List ℕ) → AllByRecursion IsSmall ns → Lacks 0x0A (spaced ns)
spaced-lacks [] small = tt
spaced-lacks (n ∷ []) small = number-lacks 0x0A n feed-other small.0
spaced-lacks (n ∷ m ∷ ms) small =
    Lacks-append 0x0A (decimal n) (0x20 ∷ spaced (m ∷ ms)) (number-lacks 0x0A n feed-other small.0) (λ e. omega (arith, e), spaced-lacks (m ∷ ms) small.1)

without-lacks : (ns : List ℕ) → AllByRecursion IsSmall ns → Lacks 0x0A (without_text ns)
without-lacks [] small = tt
without-lacks (n ∷ ns) small =
    Lacks-append 0x0A (codes " without") (flat_map (numbered (codes " ")) (n ∷ ns)) (lacks-word 0x0A (codes " without") refl)
    (subst (Lacks 0x0A) (sym (flat-spaced n ns)) (λ e. omega (arith, e), spaced-lacks (n ∷ ns) small))

end-lacks : (e : End) → Lacks 0x0A (end_text e)
end-lacks end.Done = lacks-word 0x0A (end_text end.Done) refl
end-lacks end.Dismissed = lacks-word 0x0A (end_text end.Dismissed) refl
end-lacks (end.Failed fault.TooManyAttempts) = lacks-word 0x0A (end_text (end.Failed fault.TooManyAttempts)) refl
end-lacks (end.Failed fault.TooManySkips) = lacks-word 0x0A (end_text (end.Failed fault.TooManySkips)) refl
end-lacks (end.Failed fault.NoWorkers) = lacks-word 0x0A (end_text (end.Failed fault.NoWorkers)) refl

reply-lacks : (r : Reply) → AreSmallOf r → Lacks 0x0A (reply_text r)
reply-lacks (reply.Map a s ns) small =
    Lacks-append 0x0A (numbered (codes "map attempt ") a) (numbered (codes " split ") s ++ without_text ns) (numbered-lacks 0x0A (codes "map attempt ") a feed-other refl small.0)
    (Lacks-append 0x0A (numbered (codes " split ") s) (without_text ns) (numbered-lacks 0x0A (codes " split ") s feed-other refl small.1) (without-lacks ns small.2))
reply-lacks (reply.Reduce a p) small =
    Lacks-append 0x0A (numbered (codes "reduce attempt ") a) (numbered (codes " partition ") p) (numbered-lacks 0x0A (codes "reduce attempt ") a feed-other refl small.0)
    (numbered-lacks 0x0A (codes " partition ") p feed-other refl small.1)
reply-lacks reply.Wait small = lacks-word 0x0A (codes "wait") refl
reply-lacks (reply.Stop e) small = Lacks-append 0x0A (codes "stop ") (end_text e) (lacks-word 0x0A (codes "stop ") refl) (end-lacks e)
reply-lacks (reply.Region o) small = numbered-lacks 0x0A (codes "output ") o feed-other refl small
reply-lacks reply.Gone small = lacks-word 0x0A (codes "gone") refl
reply-lacks reply.Accepted small = lacks-word 0x0A (codes "accepted") refl
reply-lacks reply.Ignored small = lacks-word 0x0A (codes "ignored") refl

-- ---- lines

line-parts : (told answered more : List ℕ) → (told ++ (codes ": " ++ (answered ++ codes "\n"))) ++ more ≡ told ++ 0x3A ∷ 0x20 ∷ (answered ++ 0x0A ∷ more)
line-parts told answered more =
    append_assoc told (codes ": " ++ (answered ++ codes "\n")) more
    ∙ ap (λ (l : List ℕ). told ++ 0x3A ∷ 0x20 ∷ l) (append_assoc answered (0x0A ∷ []) more)

abbrev Parts : Type 0
Parts = Event × Answer × List ℕ

abbrev with_left : Event → Option (Answer × List ℕ) → Option Parts
with_left e o = o >>= λ r. Some (e, r.0, (parted r.1).1)

abbrev with_event : List ℕ → Option Event → Option Parts
with_event line o = o >>= λ e. with_left e (answer_of (parted line).1)

abbrev with_line : List ℕ → Option (List ℕ × List ℕ) → Option Parts
with_line told o = o >>= λ b. with_event b.0 (event_of told)

abbrev with_told : Option (List ℕ × List ℕ) → Option Parts
with_told o = o >>= λ a. with_line a.0 (cut 0x0A a.1)

parts-are : (text : List ℕ) → parts_of text ≡ with_told (cut 0x3A text)
unfolding parts_of
parts-are text = refl

pub parts-read : (e : Event × Reply) (more : List ℕ) → AreSmall e → parts_of (entry_line e ++ more) ≡ Some (e.0, answer_in e.1, spaced (skips_in e.1))
parts-read e more small =
    let told : List ℕ = event_text e.0 in
    let answered : List ℕ = reply_text e.1 in
    let behind : List ℕ = 0x20 ∷ (answered ++ 0x0A ∷ more) in
    parts-are (entry_line e ++ more)
    ∙ ap (λ (l : List ℕ). with_told (cut 0x3A l)) (line-parts told answered more)
    ∙ ap with_told (cut-parts 0x3A told behind (event-lacks e.0 small.0))
    ∙ ap (with_line told) (cut-parts 0x0A (0x20 ∷ answered) more (λ z. omega (arith, z), reply-lacks e.1 small.1))
    ∙ ap (with_event (0x20 ∷ answered)) (event-read e.0 small.0)
    ∙ ap (λ (p : List ℕ × List ℕ). with_left e.0 (answer_of p.1)) (parted-more [] answered tt)
    ∙ ap (with_left e.0) (answer-read e.1 small.1)
    ∙ ap (λ (l : List ℕ). Some (e.0, answer_in e.1, l)) (left-parted (skips_in e.1))

-- ---- shapes

abbrev of_numbers : ℕ → ℕ → ℕ → ℕ → ℕ → Shape
of_numbers m r w a k = record { maps = m; parts = r; workers = w; limits = record { attempts = a; skips = k } }

abbrev with_skips : ℕ → ℕ → ℕ → ℕ → Option (ℕ × List ℕ) → Option Shape
with_skips m r w a o = o >>= λ k. Some (of_numbers m r w a k.0)

abbrev with_attempts : ℕ → ℕ → ℕ → Option (ℕ × List ℕ) → Option Shape
with_attempts m r w o = o >>= λ a. with_skips m r w a.0 (number_behind a.1)

abbrev with_workers : ℕ → ℕ → Option (ℕ × List ℕ) → Option Shape
with_workers m r o = o >>= λ w. with_attempts m r w.0 (number_behind w.1)

abbrev with_parts : ℕ → Option (ℕ × List ℕ) → Option Shape
with_parts m o = o >>= λ r. with_workers m r.0 (number_behind r.1)

abbrev with_maps : Option (ℕ × List ℕ) → Option Shape
with_maps o = o >>= λ m. with_parts m.0 (number_behind m.1)

shape-is : (line : List ℕ) → shape_in line ≡ with_maps (number_behind (parted (parted line).1).1)
unfolding shape_in
shape-is line = refl

shape-cut : (text : List ℕ) → shape_of text ≡ (cut 0x0A text >>= λ l. shape_in l.0)
unfolding shape_of
shape-cut text = refl

abbrev five : ℕ → ℕ → ℕ → ℕ → ℕ → List ℕ
five m r w a k = codes "maps" ++ 0x20 ∷ (decimal m ++ 0x20 ∷ (codes "parts" ++ 0x20 ∷ (decimal r ++ 0x20 ∷ (codes "workers" ++ 0x20 ∷ (decimal w ++ 0x20
    ∷ (codes "attempts" ++ 0x20 ∷ (decimal a ++ 0x20 ∷ (codes "skips" ++ 0x20 ∷ decimal k))))))))

five-read : (m r w a k : ℕ) → m < 2 ^ 32 → r < 2 ^ 32 → w < 2 ^ 32 → a < 2 ^ 32 → k < 2 ^ 32 → with_maps (number_behind (five m r w a k)) ≡ Some (of_numbers m r w a k)
five-read m r w a k sm sr sw sa sk =
    let d : List ℕ = codes "skips" ++ 0x20 ∷ decimal k in
    let c : List ℕ = codes "attempts" ++ 0x20 ∷ (decimal a ++ 0x20 ∷ d) in
    let b : List ℕ = codes "workers" ++ 0x20 ∷ (decimal w ++ 0x20 ∷ c) in
    let p : List ℕ = codes "parts" ++ 0x20 ∷ (decimal r ++ 0x20 ∷ b) in
    ap with_maps (behind-more (codes "maps") m p refl sm)
    ∙ ap (with_parts m) (behind-more (codes "parts") r b refl sr)
    ∙ ap (with_workers m r) (behind-more (codes "workers") w c refl sw)
    ∙ ap (with_attempts m r w) (behind-more (codes "attempts") a d refl sa)
    ∙ ap (with_skips m r w a) (behind-last (codes "skips") k refl sk)

abbrev first_line : Shape → List ℕ
first_line s = codes "history" ++ 0x20 ∷ (codes "1" ++ 0x20 ∷ five s.maps s.parts s.workers s.limits.attempts s.limits.skips)

numbered-append : (words : List ℕ) (n : ℕ) (rest : List ℕ) → numbered words n ++ rest ≡ words ++ (decimal n ++ rest)
numbered-append words n rest = append_assoc words (decimal n) rest

line-ends : (s : Shape) → shape_line s ≡ first_line s ++ 0x0A ∷ []
line-ends s =
    let m : List ℕ = decimal s.maps in
    let r : List ℕ = decimal s.parts in
    let w : List ℕ = decimal s.workers in
    let a : List ℕ = decimal s.limits.attempts in
    let k : List ℕ = decimal s.limits.skips in
    let last : List ℕ = 0x0A ∷ [] in
    let e4 : List ℕ = codes " skips " ++ k in
    let e3 : List ℕ = codes " attempts " ++ (a ++ e4) in
    let e2 : List ℕ = codes " workers " ++ (w ++ e3) in
    let e1 : List ℕ = codes " parts " ++ (r ++ e2) in
    sym (ap (λ (l : List ℕ). codes "history 1 maps " ++ l) (append_assoc m e1 last
    ∙ ap (λ (l : List ℕ). m ++ (codes " parts " ++ l)) (append_assoc r e2 last
    ∙ ap (λ (l : List ℕ). r ++ (codes " workers " ++ l)) (append_assoc w e3 last
    ∙ ap (λ (l : List ℕ). w ++ (codes " attempts " ++ l)) (append_assoc a e4 last)))))

five-lacks : (m r w a k : ℕ) → m < 2 ^ 32 → r < 2 ^ 32 → w < 2 ^ 32 → a < 2 ^ 32 → k < 2 ^ 32 → Lacks 0x0A (five m r w a k)
five-lacks m r w a k sm sr sw sa sk =
    piece (codes "maps ") m _ refl sm (piece (codes " parts ") r _ refl sr (piece (codes " workers ") w _ refl sw (piece (codes " attempts ") a _ refl sa (numbered-lacks 0x0A (codes " skips ") k feed-other refl sk))))
  where
    piece : (words : List ℕ) (n : ℕ) (rest : List ℕ) → lacks 0x0A words ≡ true → n < 2 ^ 32 → Lacks 0x0A rest → Lacks 0x0A (words ++ (decimal n ++ rest))
    piece words n rest e small h =
        Lacks-append 0x0A words (decimal n ++ rest) (lacks-word 0x0A words e) (Lacks-append 0x0A (decimal n) rest (number-lacks 0x0A n feed-other small) h)

pub shape-read : (s : Shape) (more : List ℕ) → InLimits s → shape_of (shape_line s ++ more) ≡ Some s
shape-read s more h =
    let sm : s.maps < 2 ^ 32 = omega (arith, h.maps) in
    let sr : s.parts < 2 ^ 32 = omega (arith, h.parts.1) in
    let sw : s.workers < 2 ^ 32 = omega (arith, h.workers.1) in
    let sa : s.limits.attempts < 2 ^ 32 = omega (arith, h.attempts.1) in
    let sk : s.limits.skips < 2 ^ 32 = omega (arith, h.skips) in
    let own : List ℕ = five s.maps s.parts s.workers s.limits.attempts s.limits.skips in
    let line : List ℕ = first_line s in
    let whole : shape_line s ++ more ≡ line ++ 0x0A ∷ more = ap (λ (l : List ℕ). l ++ more) (line-ends s) ∙ append_assoc line (0x0A ∷ []) more in
    let clear : Lacks 0x0A line =
    Lacks-append 0x0A (codes "history 1 ") own (lacks-word 0x0A (codes "history 1 ") refl) (five-lacks s.maps s.parts s.workers s.limits.attempts s.limits.skips sm sr sw sa sk) in
    shape-cut (shape_line s ++ more)
    ∙ ap (λ (l : List ℕ). cut 0x0A l >>= λ p. shape_in p.0) whole
    ∙ ap (λ (o : Option (List ℕ × List ℕ)). o >>= λ p. shape_in p.0) (cut-parts 0x0A line more clear)
    ∙ shape-is line
    ∙ ap (λ (p : List ℕ × List ℕ). with_maps (number_behind (parted p.1).1)) (parted-more (codes "history") (codes "1" ++ 0x20 ∷ own) (lacks-word 0x20 (codes "history") refl))
    ∙ ap (λ (p : List ℕ × List ℕ). with_maps (number_behind p.1)) (parted-more (codes "1") own (lacks-word 0x20 (codes "1") refl))
    ∙ five-read s.maps s.parts s.workers s.limits.attempts s.limits.skips sm sr sw sa sk

-- ---- nothing

pub next-nothing : (text : List ℕ) → length text ≡ 0 → next_number text ≡ None
unfolding next_number parted number_of cut
next-nothing [] e = refl
next-nothing (b ∷ bs) e = absurd (omega (arith, e))
