-- Names and bytes, one behind another.
use Rattle.std.proofs.Common.{◌≡◌, ℕ, zero, suc, ◌+◌, ◌-◌, ◌<◌, List, [], ◌∷◌, ◌++◌, length, get_or, take, drop, map, refl, sym, ap, ◌∙◌, ◌≢◌, ◌≤◌, subst, arith, append_assoc, append-nil}
use Rattle.std.proofs.Math.Seq.{take-suc, drop-cons}
use Rattle.std.proofs.lemmas.List.{map-append, take-append-drop, take_all}
use Rattle.std.proofs.Common.{Result, Ok, Err}
use Rattle.std.specs.Prelude.{Vec, OnOk}
use Rattle.std.specs.Global.{Global}
use Rattle.mr_input.specs.Files.{contents}
use Rattle.mr_files.specs.Holding.{Holding, Differs, ChangesOnly, ChangesAmong}
use Rattle.mr_files.specs.Names.{part_names, name_of_part, name_of_certificate, result_names}
use Rattle.mr_files.specs.Refusals.{IsUnread, IsOneUnread, IsUnreadAmong}
use Rattle.mr_files.specs.declared.store.FileFault.{FileFault}
use Rattle.mr_files.specs.declared.store.FileFault.TheVariants.{CannotRead, CannotWrite, OutOfMemory}

pub holding_more : (holds : List ℕ → List ℕ → Type 0) (ns bs : List (List ℕ)) (n b : List ℕ) → Holding holds ns bs → holds n b → Holding holds (ns ++ n ∷ []) (bs ++ b ∷ [])
holding_more holds [] [] n b h k = (k, tt)
holding_more holds [] (c ∷ bs) n b h k = absurd h
holding_more holds (m ∷ ns) [] n b h k = absurd h
holding_more holds (m ∷ ns) (c ∷ bs) n b h k = (h.0, holding_more holds ns bs n b h.1 k)

pub contents_more : (files : List (Vec ℕ Global)) (v : Vec ℕ Global) → contents (files ++ v ∷ []) ≡ contents files ++ v.items ∷ []
contents_more files v = map-append (λ f. f.items) files (v ∷ [])

pub names_more : {A : Type 0} (f : A → List ℕ) (xs : List A) (i : ℕ) (d : A) → i < length xs → map f (take (i + 1) xs) ≡ map f (take i xs) ++ f (get_or xs i d) ∷ []
names_more f xs i d h =
    let next : i + 1 ≡ suc i = omega arith in
    ap (λ k. map f (take k xs)) next ∙ (ap (map f) (take-suc xs i d h) ∙ map-append f (take i xs) (get_or xs i d ∷ []))

-- as many parts as there are, are all
pub all_parts : (holds : List ℕ → List ℕ → Type 0) (dir : List ℕ) (n : ℕ) (outputs : List (Vec ℕ Global)) → n ≡ length outputs → Holding holds (part_names dir n) (contents (take n outputs)) → Holding holds (part_names dir (length outputs)) (contents outputs)
all_parts holds dir n outputs all h =
    subst (λ (os : List (Vec ℕ Global)). Holding holds (part_names dir (length outputs)) (contents os)) (take_all (length outputs) outputs (omega arith))
    (subst (λ (k : ℕ). Holding holds (part_names dir k) (contents (take k outputs))) all h)

pub names_split : {A : Type 0} (f : A → List ℕ) (xs : List A) (i : ℕ) (d : A) → i < length xs → map f xs ≡ map f (take i xs) ++ f (get_or xs i d) ∷ map f (drop (suc i) xs)
names_split f xs i d h =
    ap (map f) (sym (take-append-drop i xs)) ∙ (map-append f (take i xs) (drop i xs) ∙ ap (λ v. map f (take i xs) ++ map f v) (drop-cons xs i d h))

pub holding_contents : (holds : List ℕ → List ℕ → Type 0) (names : List (List ℕ)) (files after : List (Vec ℕ Global)) (all : List (List ℕ)) (n : List ℕ) (v : Vec ℕ Global)
    → all ≡ names ++ n ∷ [] → after ≡ files ++ v ∷ [] → Holding holds names (contents files) → holds n v.items → Holding holds all (contents after)
holding_contents holds names files after all n v is more h k =
    subst (λ (w : List (List ℕ)). Holding holds w (contents after)) (sym is)
    (subst (λ (w : List (List ℕ)). Holding holds (names ++ n ∷ []) w) (sym (ap contents more ∙ contents_more files v)) (holding_more holds names (contents files) n v.items h k))

pub parts_more : (dir : List ℕ) (n : ℕ) → part_names dir (n + 1) ≡ part_names dir n ++ name_of_part dir n ∷ []
unfolding part_names
parts_more dir n = let e : n + 1 ≡ suc n = omega arith in ap (part_names dir) e

pub parts_none : (dir : List ℕ) → part_names dir 0 ≡ []
unfolding part_names
parts_none dir = refl

pub one_at : (unreadable : List ℕ → Type 0) (names before after : List (List ℕ)) (name : List ℕ) (e : FileFault)
    → names ≡ before ++ name ∷ after → IsUnread unreadable name e → IsOneUnread unreadable names e
one_at unreadable names before after name (CannotRead told) is u =
    (before, after, is ∙ ap (λ (v : List ℕ). before ++ v ∷ after) (sym u.1), subst unreadable (sym u.1) u.0)
one_at unreadable names before after name (CannotWrite told) is u = absurd u
one_at unreadable names before after name OutOfMemory is u = tt

parts_extend : (dir : List ℕ) (k d : ℕ) → (more : List (List ℕ)) × (part_names dir (d + k) ≡ part_names dir k ++ more)
unfolding part_names
parts_extend dir k zero = ([], ap (part_names dir) (let e : 0 + k ≡ k = omega arith in e) ∙ sym (append-nil (part_names dir k)))
parts_extend dir k (suc d) =
    let (more, is) = parts_extend dir k d in
    let e : suc d + k ≡ suc (d + k) = omega arith in
    (more ++ name_of_part dir (d + k) ∷ [], ap (part_names dir) e ∙ (ap (λ (v : List (List ℕ)). v ++ name_of_part dir (d + k) ∷ []) is ∙ append_assoc (part_names dir k) more (name_of_part dir (d + k) ∷ [])))

-- a part's name among those of the result
pub part_among : (dir : List ℕ) (k n : ℕ) → k < n → (after : List (List ℕ)) × (part_names dir n ≡ part_names dir k ++ name_of_part dir k ∷ after)
unfolding part_names
part_among dir k n h =
    let (more, is) = parts_extend dir (suc k) (n - suc k) in
    let e : n ≡ n - suc k + suc k = omega (arith, h) in
    (more, ap (part_names dir) e ∙ (is ∙ append_assoc (part_names dir k) (name_of_part dir k ∷ []) more))

pub one_part : (unreadable : List ℕ → Type 0) (dir : List ℕ) (k n : ℕ) (e : FileFault) → k < n → IsUnread unreadable (name_of_part dir k) e → IsOneUnread unreadable (result_names dir n) e
one_part unreadable dir k n e h u =
    let (after, is) = part_among dir k n h in
    one_at unreadable (result_names dir n) (part_names dir k) (after ++ name_of_certificate dir ∷ []) (name_of_part dir k) e
    (ap (λ (v : List (List ℕ)). v ++ name_of_certificate dir ∷ []) is ∙ append_assoc (part_names dir k) (name_of_part dir k ∷ after) (name_of_certificate dir ∷ [])) u

pub one_certificate : (unreadable : List ℕ → Type 0) (dir : List ℕ) (n : ℕ) (e : FileFault) → IsUnread unreadable (name_of_certificate dir) e → IsOneUnread unreadable (result_names dir n) e
one_certificate unreadable dir n e u = one_at unreadable (result_names dir n) (part_names dir n) [] (name_of_certificate dir) e refl u

pub part_unread : (unreadable : List ℕ → Type 0) (dir : List ℕ) (k n : ℕ) → k < n → unreadable (name_of_part dir k) → IsUnreadAmong unreadable (result_names dir n) (name_of_part dir k)
part_unread unreadable dir k n h u =
    let (after, is) = part_among dir k n h in (
      part_names dir k,
      after ++ name_of_certificate dir ∷ [],
      ap (λ (v : List (List ℕ)). v ++ name_of_certificate dir ∷ []) is ∙ append_assoc (part_names dir k) (name_of_part dir k ∷ after) (name_of_certificate dir ∷ []),
      u,
    )

-- a write under a name that these all differ from keeps what stands under these
pub holding_kept : (old new : List ℕ → List ℕ → Type 0) (name : List ℕ) (names bs : List (List ℕ)) → ChangesOnly old new name → Differs name names → Holding old names bs → Holding new names bs
holding_kept old new name [] [] c d h = tt
holding_kept old new name [] (b ∷ bs) c d h = absurd h
holding_kept old new name (n ∷ ns) [] c d h = absurd h
holding_kept old new name (n ∷ ns) (b ∷ bs) c d h = ((c n b (λ e. d.0 (sym e))).0 h.0, holding_kept old new name ns bs c d.1 h.1)

pub differs_front : (n : List ℕ) (ms ks : List (List ℕ)) → Differs n (ms ++ ks) → Differs n ms
differs_front n [] ks h = tt
differs_front n (m ∷ ms) ks h = (h.0, differs_front n ms ks h.1)

pub differs_last : (n m : List ℕ) (ms : List (List ℕ)) → Differs n (ms ++ m ∷ []) → n ≢ m
differs_last n m [] h = h.0
differs_last n m (k ∷ ms) h = differs_last n m ms h.1

pub differs_more : (n m : List ℕ) (ms : List (List ℕ)) → Differs n ms → n ≢ m → Differs n (ms ++ m ∷ [])
differs_more n m [] h d = (d, tt)
differs_more n m (k ∷ ms) h d = (h.0, differs_more n m ms h.1 d)

pub among_more : (old mid new : List ℕ → List ℕ → Type 0) (names : List (List ℕ)) (name : List ℕ) → ChangesAmong old mid names → ChangesOnly mid new name → ChangesAmong old new (names ++ name ∷ [])
among_more old mid new names name c k n b d =
    let first = c n b (differs_front n names (name ∷ []) d) in
    let second = k n b (differs_last n name names d) in
    ((λ h. second.0 (first.0 h)), (λ h. first.1 (second.1 h)))

-- two changes of one file
pub only_again : (old mid new : List ℕ → List ℕ → Type 0) (name first last : List ℕ) → first ≡ name → last ≡ name → ChangesOnly old mid first → ChangesOnly mid new last → ChangesOnly old new name
only_again old mid new name first last f l c k n b d =
    let one = subst (ChangesOnly old mid) f c n b d in
    let two = subst (ChangesOnly mid new) l k n b d in
    ((λ h. two.0 (one.0 h)), (λ h. one.1 (two.1 h)))

-- names that are written are among all those of the result
pub among_front : (old new : List ℕ → List ℕ → Type 0) (names more : List (List ℕ)) → ChangesAmong old new names → ChangesAmong old new (names ++ more)
among_front old new names more c n b d = c n b (differs_front n names more d)

pub among_result : (old new : List ℕ → List ℕ → Type 0) (dir : List ℕ) (k n : ℕ) → k ≤ n → ChangesAmong old new (part_names dir k) → ChangesAmong old new (result_names dir n)
among_result old new dir k n h c =
    let (more, is) = parts_extend dir k (n - k) in
    let e : n ≡ n - k + k = omega (arith, h) in
    among_front old new (part_names dir n) (name_of_certificate dir ∷ []) (subst (ChangesAmong old new) (sym (ap (part_names dir) e ∙ is)) (among_front old new (part_names dir k) more c))

-- what holds anyhow
pub ok_anyhow : {T E : Type 0} (r : Result T E) (P : Type 0) → P → OnOk r P
ok_anyhow (Ok v) P h = h
ok_anyhow (Err e) P h = tt
