-- The lines that were read so far, and one more.
use Rattle.std.proofs.Common.{◌≡◌, ℕ, ◌+◌, List, [], ◌∷◌, ◌++◌, length, drop, refl, ap, sym, ◌∙◌, subst, arith, append_assoc, length-append, inl, inr}
use Rattle.std.proofs.lemmas.List.{append-nil}
use Rattle.std.specs.List.{AllByRecursion}
use Rattle.mr_records.specs.Records.{Record, records, records_from}
use Rattle.mr_script.specs.declared.script.Directive.{Directive}
use Rattle.mr_script.specs.declared.script.ScriptFault.{ScriptFault}
use Rattle.mr_script.specs.declared.script.ScriptFault.TheVariants.{BadLine, OutOfMemory}
use Rattle.mr_script.specs.Lines.{SaysNothing, SpellsLine, Stands}
use Rattle.mr_script.specs.Scripts.{SpellsLines, SpellsScript, IsScriptFault, IsLineFault, Adds}

-- so many lines, up to the place `from`, spell these directives
pub record Walked (bytes : List ℕ) (from number : ℕ) (ds : List Directive) : Type 0 where
  pub done : List Record
  pub lines_are : done ++ records_from from (drop from bytes) ≡ records bytes
  pub spelled : SpellsLines done ds
  pub count : length done ≡ number

abbrev pub IsNext : List ℕ → ℕ → ℕ → List ℕ → Type 0
IsNext bytes from next line = records_from from (drop from bytes) ≡ record { start = from; bytes = line } ∷ records_from next (drop next bytes)

pub nothing_added : (ls : List Record) (l : Record) (ds : List Directive) → SpellsLines ls ds → SaysNothing l.bytes → SpellsLines (ls ++ l ∷ []) ds
nothing_added [] l ds h n = inl (n, h)
nothing_added (k ∷ ks) l ds (inl h) n = inl (h.0, nothing_added ks l ds h.1 n)
nothing_added (k ∷ ks) l ds (inr (d, rest, e, s, h)) n = inr (d, rest, e, s, nothing_added ks l rest h n)

pub one_added : (ls : List Record) (l : Record) (ds : List Directive) (d : Directive) → SpellsLines ls ds → SpellsLine l.bytes d → SpellsLines (ls ++ l ∷ []) (ds ++ d ∷ [])
one_added [] l ds d h s = inr (d, [], ap (λ w. w ++ d ∷ []) h, s, refl)
one_added (k ∷ ks) l ds d (inl h) s = inl (h.0, one_added ks l ds d h.1 s)
one_added (k ∷ ks) l ds d (inr (c, rest, e, t, h)) s = inr (c, rest ++ d ∷ [], ap (λ w. w ++ d ∷ []) e, t, one_added ks l rest d h s)

pub added : (ls : List Record) (l : Record) (old new : List Directive) → SpellsLines ls old → Adds l.bytes old new → SpellsLines (ls ++ l ∷ []) new
added ls l old new h (inl a) = subst (SpellsLines (ls ++ l ∷ [])) (sym a.1) (nothing_added ls l old h a.0)
added ls l old new h (inr (d, s, e)) = subst (SpellsLines (ls ++ l ∷ [])) (sym e) (one_added ls l old d h s)

pub all_stand : (ls : List Record) (ds : List Directive) → SpellsLines ls ds → AllByRecursion (λ l. Stands l.bytes) ls
all_stand [] ds h = tt
all_stand (k ∷ ks) ds (inl h) = (inl h.0, all_stand ks ds h.1)
all_stand (k ∷ ks) ds (inr (d, rest, e, s, h)) = (inr (d, s), all_stand ks rest h)

pub walked_none : (bytes : List ℕ) → Walked bytes 0 0 []
walked_none bytes = record { done = []; lines_are = refl; spelled = refl; count = refl }

pub walked_more : (bytes line : List ℕ) (from next number : ℕ) (old new : List Directive) → Walked bytes from number old → IsNext bytes from next line → Adds line old new → Walked bytes next (number + 1) new
walked_more bytes line from next number old new w e a =
    let l : Record = record { start = from; bytes = line } in
    record {
      done = w.done ++ l ∷ [];
      lines_are = append_assoc w.done (l ∷ []) (records_from next (drop next bytes)) ∙ ap (λ ls. w.done ++ ls) (sym e) ∙ w.lines_are;
      spelled = added w.done l old new w.spelled a;
      count = omega (arith, length-append w.done (l ∷ []), w.count);
    }

pub walked_all : (bytes : List ℕ) (from number : ℕ) (ds : List Directive) → Walked bytes from number ds → records_from from (drop from bytes) ≡ [] → SpellsScript bytes ds
walked_all bytes from number ds w e =
    let whole : w.done ≡ records bytes = sym (append-nil w.done) ∙ ap (λ ls. w.done ++ ls) (sym e) ∙ w.lines_are in
    subst (λ (ls : List Record). SpellsLines ls ds) whole w.spelled

pub walked_fault : (bytes line : List ℕ) (from next number : ℕ) (ds : List Directive) (e : ScriptFault) → Walked bytes from number ds → IsNext bytes from next line → IsLineFault line (number + 1) e → IsScriptFault bytes e
walked_fault bytes line from next number ds OutOfMemory w n h = tt
walked_fault bytes line from next number ds (BadLine m) w n h = record {
  before = w.done;
  bad = record { start = from; bytes = line };
  behind = records_from next (drop next bytes);
  lines_are = sym w.lines_are ∙ ap (λ ls. w.done ++ ls) n;
  stand = all_stand w.done ds w.spelled;
  is_bad = h.1;
  number = h.0 ∙ ap (λ k. k + 1) (sym w.count);
}
