-- A history that is read line by line.
use Rattle.std.proofs.Common.{◌≡◌, ℕ, ◌+◌, ◌-◌, ◌<◌, ◌≤◌, true, false, Option, Some, None, List, [], ◌∷◌, ◌++◌, inr, length, drop, take, refl, ap, sym, ◌∙◌, subst, append_assoc, arith, length-append, length-drop, drop-drop}
use Rattle.std.proofs.lemmas.Grind.{flat_map-append}
use Rattle.std.proofs.lemmas.Bool.Decides.{Decides-eqb}
use Rattle.std.proofs.lemmas.List.{append-nil, drop_all, take_all}
use Rattle.std.proofs.lemmas.Slice.Eq.{starts_is}
use Rattle.std.specs.List.{flat_map, starts_with}
use Rattle.std.specs.Prelude.{MatchOption, IsTrue, nat_eq}
use Rattle.mr_core.specs.Core.{InLimits}
use Rattle.mr_core.specs.declared.event.Event.{Event}
use Rattle.mr_core.specs.declared.event.Reply.{Reply}
use Rattle.mr_core.specs.declared.event.Shape.{Shape}
use Rattle.mr_picture.specs.declared.reading.History.{History}
use Rattle.std.proofs.lemmas.Option.{same_Some}
use Rattle.std.specs.List.{AllByRecursion}
use Rattle.mr_picture.specs.declared.entries.Answer.{Answer}
use Rattle.mr_picture.specs.Answers.{reply_of}
use Rattle.mr_picture.specs.Parsing.{parts_of, shape_of, spaced}
use Rattle.mr_picture.proofs.LineLemmas.{answer_in, parts-read, reply-again, shape-read, skips-small, skips_in}
use Rattle.mr_picture.specs.Histories.{IsSmall, fits, Follow, HasNoEntry, HasNoShape, IsFirstBad, IsHistory, MayFollow, given, task_in}
use Rattle.mr_picture.specs.HistoryLines.{entry_line, history_text, shape_line}
use Rattle.mr_picture.specs.Reading.{AddsEntry, AreSmall, IsFront, IsReadTo}

abbrev Entries : Type 0
Entries = List (Event × Reply)

-- the text was seen to begin with a line, or not to
pub front-is : (line text : List ℕ) → 0 < length line → starts_with nat_eq text line ≡ true → IsFront (length line) line text
front-is line text some e = record {
  is = (starts_is Decides-eqb text line true (sym e)).0 refl;
  some = some;
  within = (let is = ap length ((starts_is Decides-eqb text line true (sym e)).0 refl) ∙ length-append line (drop (length line) text) in omega (arith, is));
}

pub front-none : (line text more : List ℕ) → starts_with nat_eq text line ≡ false → text ≡ line ++ more → ⊥
front-none line text more e is = absurd (cc (sym ((starts_is Decides-eqb text line false (sym e)).1 more is)))

-- one more entry
follow-more : (sh : Shape) (before es : Entries) (e : Event × Reply) → Follow sh before es → MayFollow sh (before ++ es) e → Follow sh before (es ++ e ∷ [])
follow-more sh before [] e f may = (subst (λ (l : Entries). MayFollow sh l e) (append-nil before) may, tt)
follow-more sh before (d ∷ es) e f may =
    (f.0, follow-more sh (before ++ d ∷ []) es e f.1 (subst (λ (l : Entries). MayFollow sh l e) (sym (append_assoc before (d ∷ []) es)) may))

history-more : (sh : Shape) (es : Entries) (e : Event × Reply) → history_text sh (es ++ e ∷ []) ≡ history_text sh es ++ entry_line e
history-more sh es e =
    ap (λ (l : List ℕ). shape_line sh ++ l) (flat_map-append entry_line es (e ∷ []) ∙ ap (λ (l : List ℕ). flat_map entry_line es ++ l) (append-nil (entry_line e)))
    ∙ sym (append_assoc (shape_line sh) (flat_map entry_line es) (entry_line e))

given-more : (es : Entries) (e : Event × Reply) → given (es ++ e ∷ []) ≡ given es ++ task_in e
given-more es e = flat_map-append task_in es (e ∷ []) ∙ ap (λ l. given es ++ l) (append-nil (task_in e))

pub tasks-more : (es : Entries) (e : Event × Reply) → given es ++ task_in e ≡ given (es ++ e ∷ [])
tasks-more es e = sym (given-more es e)

pub read-first : (text : List ℕ) (h : History) (n : ℕ) → InLimits h.shape → IsFront n (shape_line h.shape) text → h.entries.items ≡ [] → h.tasks.items ≡ [] → IsReadTo text h n
read-first text h n limits front none empty = record {
  text_is = front.is ∙ ap (λ (l : List ℕ). l ++ drop n text) (sym (ap (λ (es : Entries). history_text h.shape es) none ∙ append-nil (shape_line h.shape)));
  within = front.within;
  count = (let z = ap length none in omega (arith, z, front.some));
  limits = limits;
  follow = subst (Follow h.shape []) (sym none) tt;
  tasks = empty ∙ sym (ap given none);
}

pub read-next : (text : List ℕ) (old new : History) (from n : ℕ) → IsReadTo text old from → from < length text → AddsEntry old new (drop from text) n → IsReadTo text new (from + n)
read-next text old new from n read inside adds =
    let e = adds.entry in
    let es : Entries = old.entries.items in
    let front = adds.next.line in
    let rest : List ℕ = drop from text in
    let whole : history_text new.shape new.entries.items ≡ history_text old.shape es ++ entry_line e =
    (λ i. history_text (adds.shape i) (adds.entries i)) ∙ history-more old.shape es e in
    let room : length rest ≡ length text - from = length-drop from text in
    record {
      text_is = read.text_is ∙ ap (λ (l : List ℕ). history_text old.shape es ++ l) (front.is ∙ ap (λ (l : List ℕ). entry_line e ++ l) (drop-drop n from text))
          ∙ sym (append_assoc (history_text old.shape es) (entry_line e) (drop (from + n) text))
          ∙ ap (λ (l : List ℕ). l ++ drop (from + n) text) (sym whole);
      within = omega (arith, room, front.within, inside);
      count = (let l = ap length adds.entries ∙ length-append es (e ∷ []) in omega (arith, l, read.count, front.some));
      limits = subst InLimits (sym adds.shape) read.limits;
      follow = subst (λ (s : Shape). Follow s [] new.entries.items) (sym adds.shape) (subst (Follow old.shape []) (sym adds.entries) (follow-more old.shape [] es e read.follow adds.next.may));
      tasks = adds.tasks;
    }

pub read-whole : (text : List ℕ) (h : History) (from : ℕ) → IsReadTo text h from → length text ≤ from → IsHistory text h.shape h.entries.items
read-whole text h from read end = record {
  text_is = read.text_is ∙ ap (λ (l : List ℕ). history_text h.shape h.entries.items ++ l) (drop_all from text end) ∙ append-nil (history_text h.shape h.entries.items);
  limits = read.limits;
  follow = read.follow;
}

pub read-bad : (text : List ℕ) (h : History) (from line : ℕ) → IsReadTo text h from → from < length text → HasNoEntry h.shape h.entries.items (drop from text) → line ≡ length h.entries.items + 2 → IsFirstBad text line
read-bad text h from line read inside bad number = inr (record {
  sh = h.shape;
  before = h.entries.items;
  front = history_text h.shape h.entries.items;
  rest = drop from text;
  history = record { text_is = refl; limits = read.limits; follow = read.follow };
  text_is = read.text_is;
  more = λ e. (let z : length text - from ≡ 0 = sym (length-drop from text) ∙ ap length e in omega (arith, z, inside));
  bad = bad;
  number = number;
})

-- ---- at the front

pub shape-one : (text : List ℕ) (own : Shape) → shape_of text ≡ Some own → (sh : Shape) (rest : List ℕ) → InLimits sh → text ≡ shape_line sh ++ rest → own ≡ sh
shape-one text own is sh rest limits e = same_Some own sh (sym is ∙ ap shape_of e ∙ shape-read sh rest limits)

pub shape-none : (text : List ℕ) → shape_of text ≡ None → HasNoShape text
shape-none text is sh rest limits e = absurd (cc (sym is ∙ ap shape_of e ∙ shape-read sh rest limits))

pub shape-other : (text : List ℕ) (own : Shape) → shape_of text ≡ Some own → (InLimits own → ⊥) → HasNoShape text
shape-other text own is bad sh rest limits e = bad (subst InLimits (sym (shape-one text own is sh rest limits e)) limits)

pub shape-past : (text : List ℕ) (own : Shape) → shape_of text ≡ Some own → ((more : List ℕ) → text ≡ shape_line own ++ more → ⊥) → HasNoShape text
shape-past text own is bad sh rest limits e =
    bad rest (e ∙ ap (λ (s : Shape). shape_line s ++ rest) (sym (shape-one text own is sh rest limits e)))

pub parts-none : (text : List ℕ) → parts_of text ≡ None → (e : Event × Reply) (more : List ℕ) → AreSmall e → text ≡ entry_line e ++ more → ⊥
parts-none text is e more small f = absurd (cc (sym is ∙ ap parts_of f ∙ parts-read e more small))

-- what was parsed is what the line was written for
pub parts-one : (text : List ℕ) (v : Event) (a : Answer) (left skips : List ℕ) → parts_of text ≡ Some (v, a, left)
    → ((ns : List ℕ) → AllByRecursion IsSmall ns → left ≡ spaced ns → skips ≡ ns) → (e : Event × Reply) (more : List ℕ) → AreSmall e → text ≡ entry_line e ++ more
    → ◌≡◌ {A = Event × Reply} (v, reply_of a skips) e
parts-one text v a left skips is only e more small f =
    let both : ◌≡◌ {A = Event × Answer × List ℕ} (v, a, left) (e.0, answer_in e.1, spaced (skips_in e.1)) = same_Some _ _ (sym is ∙ ap parts_of f ∙ parts-read e more small) in
    let rest : left ≡ spaced (skips_in e.1) = ap (λ (t : Event × Answer × List ℕ). t.2) both in
    let own : skips ≡ skips_in e.1 = only (skips_in e.1) (skips-small e.1 small.1) rest in
    let first : v ≡ e.0 = ap (λ (t : Event × Answer × List ℕ). t.0) both in
    let second : a ≡ answer_in e.1 = ap (λ (t : Event × Answer × List ℕ). t.1) both in
    let told : reply_of a skips ≡ e.1 = (λ i. reply_of (second i) (own i)) ∙ reply-again e.1 in
    λ i. (first i, told i)

may-small : (sh : Shape) (before : Entries) (e : Event × Reply) → MayFollow sh before e → AreSmall e
may-small sh before e may = (may.in_event, may.in_reply)

-- why no entry at the front may come next
pub entry-none : (sh : Shape) (before : Entries) (text : List ℕ) → ((e : Event × Reply) (more : List ℕ) → AreSmall e → text ≡ entry_line e ++ more → ◌≡◌ {A = Option (Event × Reply)} None (Some e)) → HasNoEntry sh before text
entry-none sh before text at e more may f = absurd (cc (at e more (may-small sh before e may) f))

pub entry-unfit : (sh : Shape) (before : Entries) (text : List ℕ) (own : Event × Reply)
    → ((e : Event × Reply) (more : List ℕ) → AreSmall e → text ≡ entry_line e ++ more → ◌≡◌ {A = Option (Event × Reply)} (Some own) (Some e))
    → fits sh (length before) (given before) own.0 own.1 ≡ false → HasNoEntry sh before text
entry-unfit sh before text own at bad e more may f =
    let same : own ≡ e = same_Some own e (at e more (may-small sh before e may) f) in
    let yes = subst (λ (v : Event × Reply). IsTrue (fits sh (length before) (given before) v.0 v.1)) (sym same) may.fitting in
    cc (subst IsTrue bad yes)

pub entry-other : (sh : Shape) (before : Entries) (text : List ℕ) (own : Event × Reply)
    → ((e : Event × Reply) (more : List ℕ) → AreSmall e → text ≡ entry_line e ++ more → ◌≡◌ {A = Option (Event × Reply)} (Some own) (Some e))
    → ((more : List ℕ) → text ≡ entry_line own ++ more → ⊥) → HasNoEntry sh before text
entry-other sh before text own at bad e more may f =
    let same : own ≡ e = same_Some own e (at e more (may-small sh before e may) f) in
    bad more (f ∙ ap (λ (v : Event × Reply). entry_line v ++ more) (sym same))

-- ---- a turn of the loop

abbrev pub behind : ℕ → List ℕ → List ℕ
behind from text = take (length text - from) (drop from text)

behind-is : (from : ℕ) (text : List ℕ) → behind from text ≡ drop from text
behind-is from text = take_all (length text - from) (drop from text) (omega (arith, length-drop from text))

pub turn-bad : (text : List ℕ) (h : History) (from line : ℕ) (o : Option ℕ) (Q : ℕ → Type 0) → MatchOption o (HasNoEntry h.shape h.entries.items (behind from text)) Q → o ≡ None
    → IsReadTo text h from → from < length text → line ≡ length h.entries.items + 1 → IsFirstBad text (line + 1)
turn-bad text h from line None Q m e read inside number =
    read-bad text h from (line + 1) read inside (subst (HasNoEntry h.shape h.entries.items) (behind-is from text) m) (omega (arith, number))
turn-bad text h from line (Some n) Q m e read inside number = absurd (cc e)

pub turn-more : (text : List ℕ) (old new : History) (from n line : ℕ) (o : Option ℕ) (P : Type 0) → MatchOption o P (AddsEntry old new (behind from text)) → o ≡ Some n
    → IsReadTo text old from → from < length text → line ≡ length old.entries.items + 1 → IsReadTo text new (from + n) × (line + 1 ≡ length new.entries.items + 1)
turn-more text old new from n line None P m e read inside number = absurd (cc e)
turn-more text old new from n line (Some k) P m e read inside number =
    let same : k ≡ n = same_Some k n e in
    let adds : AddsEntry old new (drop from text) n = subst (λ (t : List ℕ). AddsEntry old new t n) (behind-is from text) (subst (AddsEntry old new (behind from text)) same m) in
    let longer = ap length adds.entries ∙ length-append old.entries.items (adds.entry ∷ []) in
    (read-next text old new from n read inside adds, omega (arith, number, longer))
