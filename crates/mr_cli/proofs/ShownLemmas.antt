-- How `text_shown` goes over a text byte by byte.
use Rattle.std.proofs.Common.{◌≡◌, ℕ, Bool, ◌+◌, ◌<◌, ◌≤◌, List, [], ◌∷◌, ◌++◌, length, get_or, drop, refl, sym, ap, ◌∙◌, append_assoc}
use Rattle.std.proofs.lemmas.List.{at_drop_more, at_drop_all, append-nil}
use Rattle.mr_cli.specs.Shown.{byte_shown, text_shown}

text_shown-nil : (lines : Bool) (before : ℕ) → text_shown lines before [] ≡ []
unfolding text_shown
text_shown-nil lines before = refl

text_shown-cons : (lines : Bool) (before b : ℕ) (bs : List ℕ) → text_shown lines before (b ∷ bs) ≡ byte_shown lines before b ++ text_shown lines b bs
unfolding text_shown
text_shown-cons lines before b bs = refl

-- one more byte shown, from the place i
pub one_more : (lines : Bool) (before : ℕ) (text out : List ℕ) (i : ℕ) → i < length text
    → (out ++ byte_shown lines before (get_or text i 0)) ++ text_shown lines (get_or text i 0) (drop (i + 1) text) ≡ out ++ text_shown lines before (drop i text)
one_more lines before text out i h =
    let b = get_or text i 0 in
    append_assoc out (byte_shown lines before b) (text_shown lines b (drop (i + 1) text))
    ∙ ap (λ rest. out ++ rest) (sym (at_drop_more (text_shown lines before) text i 0 h ∙ text_shown-cons lines before b (drop (i + 1) text)))

pub none_left : (lines : Bool) (before : ℕ) (text out : List ℕ) (i : ℕ) → length text ≤ i → out ++ text_shown lines before (drop i text) ≡ out
none_left lines before text out i h = ap (λ rest. out ++ rest) (at_drop_all (text_shown lines before) text i h ∙ text_shown-nil lines before) ∙ append-nil out
