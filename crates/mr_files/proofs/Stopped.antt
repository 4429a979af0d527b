-- Where writing stops.
use Rattle.std.proofs.Common.{◌≡◌, ℕ, suc, ◌<◌, ◌^◌, List, [], ◌∷◌, ◌++◌, length, take, drop, get_or, sym, ap, ◌∙◌, subst, arith, string_bytes, append_assoc}
use Rattle.std.specs.Prelude.{Vec}
use Rattle.std.specs.Global.{Global}
use Rattle.mr_input.specs.Files.{contents}
use Rattle.mr_files.specs.Holding.{Begins, Holding, ChangesOnly, ChangesAmong, Differs}
use Rattle.mr_files.specs.Names.{part_names, name_of_part}
use Rattle.mr_files.specs.Refusals.{IsUnwritten, IsUnwrittenAt, IsWriteRefusal}
use Rattle.mr_files.specs.declared.store.FileFault.{FileFault}
use Rattle.mr_files.specs.declared.store.FileFault.TheVariants.{CannotRead, CannotWrite, OutOfMemory}
use Rattle.mr_files.proofs.Lists.{among_more, holding_kept, names_split, part_among}
use Rattle.mr_files.proofs.Written.{either}
use Rattle.mr_files.proofs.Digits.{differs_parts}

-- under a name that was none of those written before stands what stood there at first
begins_on : (old mid new : List ℕ → List ℕ → Type 0) (names : List (List ℕ)) (name text : List ℕ) → ChangesAmong old mid names → Differs name names → Begins mid new name text → Begins old new name text
begins_on old mid new names name text c d begins b h = either (λ p. (c name b d).1 p) (λ p. p) (begins b h)

pub stopped : (old mid new : List ℕ → List ℕ → Type 0) (first later : List ℕ → Type 0) (names before after texts written left : List (List ℕ)) (name text : List ℕ) (e : FileFault)
    → names ≡ before ++ name ∷ after → texts ≡ written ++ text ∷ left → Differs name before → Holding mid before written → ChangesAmong old mid before
    → ((n : List ℕ) → later n → first n) → Begins mid new name text → ChangesOnly mid new name → IsUnwritten later name e → IsWriteRefusal old new first names texts e
stopped old mid new first later names before after texts written left name text (CannotWrite told) n t d whole others still begins only u =
    let same : string_bytes told ≡ name = u.1 in
    subst (λ (v : List ℕ). IsUnwrittenAt old new first names texts v) (sym same) (record {
      before = before;
      after = after;
      written = written;
      text = text;
      left = left;
      names_are = n;
      texts_are = t;
      refused = still name u.0;
      whole = holding_kept mid new name before written only d whole;
      begins = begins_on old mid new before name text others d begins;
      others = among_more old mid new before name others only;
    })
stopped old mid new first later names before after texts written left name text (CannotRead told) n t d whole others still begins only u = absurd u
stopped old mid new first later names before after texts written left name text OutOfMemory n t d whole others still begins only u = tt

pub stopped_part : (old mid new : List ℕ → List ℕ → Type 0) (first later : List ℕ → Type 0) (dir : List ℕ) (outputs : List (Vec ℕ Global)) (i n : ℕ) (d : Vec ℕ Global) (text : List ℕ) (e : FileFault)
    → i < length outputs → n ≡ length outputs → text ≡ (get_or outputs i d).items → i < 2 ^ 64 → Holding mid (part_names dir i) (contents (take i outputs)) → ChangesAmong old mid (part_names dir i)
    → ((m : List ℕ) → later m → first m) → Begins mid new (name_of_part dir i) text → ChangesOnly mid new (name_of_part dir i) → IsUnwritten later (name_of_part dir i) e
    → IsWriteRefusal old new first (part_names dir n) (contents outputs) e
stopped_part old mid new first later dir outputs i n d text e less all same fits whole others still begins only u =
    let (after, is) = part_among dir i n (omega (arith, all)) in
    stopped old mid new first later (part_names dir n) (part_names dir i) after (contents outputs) (contents (take i outputs)) (contents (drop (suc i) outputs)) (name_of_part dir i) text e
    is (names_split (λ o. o.items) outputs i d less ∙ ap (λ (v : List ℕ). contents (take i outputs) ++ v ∷ contents (drop (suc i) outputs)) (sym same)) (differs_parts dir i i (omega arith) fits) whole others still begins only u

-- what stopped at a part stopped there in the whole result
pub stopped_before : (old new : List ℕ → List ℕ → Type 0) (first : List ℕ → Type 0) (names texts : List (List ℕ)) (name text : List ℕ) (e f : FileFault)
    → IsWriteRefusal old new first names texts e → f ≡ e → IsWriteRefusal old new first (names ++ name ∷ []) (texts ++ text ∷ []) f
stopped_before old new first names texts name text (CannotWrite told) f r is = rw is (record {
  before = r.before;
  after = r.after ++ name ∷ [];
  written = r.written;
  text = r.text;
  left = r.left ++ text ∷ [];
  names_are = ap (λ (v : List (List ℕ)). v ++ name ∷ []) r.names_are ∙ append_assoc r.before (string_bytes told ∷ r.after) (name ∷ []);
  texts_are = ap (λ (v : List (List ℕ)). v ++ text ∷ []) r.texts_are ∙ append_assoc r.written (r.text ∷ r.left) (text ∷ []);
  refused = r.refused;
  whole = r.whole;
  begins = r.begins;
  others = r.others;
})
stopped_before old new first names texts name text (CannotRead told) f r is = absurd r
stopped_before old new first names texts name text OutOfMemory f r is = rw is tt
