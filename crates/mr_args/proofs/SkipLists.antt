-- Skip lists, cut at their commas.
use Rattle.std.proofs.Common.{◌≡◌, ℕ, zero, suc, ◌+◌, ◌<◌, ◌≤◌, List, [], ◌∷◌, ◌++◌, length, get_or, take, drop, refl, ap, sym, ◌∙◌, subst, arith, append_assoc, ◌⊎◌, inl, inr}
use Rattle.std.specs.Str.Parse.{AllDigits, digits_value}
use Rattle.std.proofs.lemmas.Str.Parse.{digit_from_value}
use Rattle.mr_bytes.specs.declared.RecordName.{RecordName}
use Rattle.mr_script.specs.Lines.{SpellsNumber}
use Rattle.mr_args.specs.declared.fault.Fault.{Fault}
use Rattle.mr_args.specs.declared.fault.Fault.TheVariants.{OutOfMemory, BadSkipList}
use Rattle.mr_args.specs.SkipList.{SpellsName, SpellsNames, Lacks}

head_of : (x : ℕ) (xs : List ℕ) (y : ℕ) (ys : List ℕ) → ◌≡◌ {A = List ℕ} (x ∷ xs) (y ∷ ys) → (x ≡ y) × (xs ≡ ys)
head_of x xs y ys e = (ap (λ (v : List ℕ). get_or v 0 0) e, ap (λ (v : List ℕ). drop 1 v) e)

-- two marks that are each the first stand at one place
pub one_cut : (mark : ℕ) (a b c d : List ℕ) → a ++ mark ∷ b ≡ c ++ mark ∷ d → Lacks a mark → Lacks c mark → (a ≡ c) × (b ≡ d)
one_cut mark [] b [] d e la lc = (refl, (head_of mark b mark d e).1)
one_cut mark [] b (y ∷ ys) d e la lc = absurd (lc.0 (sym (head_of mark b y (ys ++ mark ∷ d) e).0))
one_cut mark (x ∷ xs) b [] d e la lc = absurd (la.0 (head_of x (xs ++ mark ∷ b) mark d e).0)
one_cut mark (x ∷ xs) b (y ∷ ys) d e la lc =
    let h = head_of x (xs ++ mark ∷ b) y (ys ++ mark ∷ d) e in
    let r = one_cut mark xs b ys d h.1 la.1 lc.1 in
    (ap (λ (v : List ℕ). x ∷ v) r.0 ∙ ap (λ (v : ℕ). v ∷ ys) h.0, r.1)

-- where a mark stands, the text doesn't lack it
pub no_mark : (mark : ℕ) (a b : List ℕ) → Lacks (a ++ mark ∷ b) mark → ⊥
no_mark mark [] b l = l.0 refl
no_mark mark (x ∷ xs) b l = no_mark mark xs b l.1

pub lacks_both : (mark : ℕ) (a b : List ℕ) → Lacks a mark → Lacks b mark → Lacks (a ++ b) mark
lacks_both mark [] b la lb = lb
lacks_both mark (x ∷ xs) b la lb = (la.0, lacks_both mark xs b la.1 lb)

-- no byte before the place is the mark
pub lacks_front : (mark at : ℕ) (text : List ℕ) → at ≤ length text → ((k : ℕ) → k < at → get_or text k 0 ≡ mark → ⊥) → Lacks (take at text) mark
lacks_front mark zero text h clear = tt
lacks_front mark (suc at) [] h clear = tt
lacks_front mark (suc at) (b ∷ bs) h clear = (clear 0 (omega arith), lacks_front mark at bs (omega arith) (λ k l. clear (suc k) (omega arith)))

pub lacks_all : (mark : ℕ) (text : List ℕ) → ((k : ℕ) → k < length text → get_or text k 0 ≡ mark → ⊥) → Lacks text mark
lacks_all mark [] clear = tt
lacks_all mark (b ∷ bs) clear = (clear 0 (omega arith), lacks_all mark bs (λ k l. clear (suc k) (omega arith)))

-- a text is what stands before a place, its byte there, and what stands behind
pub parted : (at mark : ℕ) (text : List ℕ) → at < length text → get_or text at 0 ≡ mark → text ≡ take at text ++ mark ∷ drop (at + 1) text
parted at mark [] h e = absurd (omega arith)
parted zero mark (b ∷ bs) h e = ap (λ (v : ℕ). v ∷ bs) e
parted (suc at) mark (b ∷ bs) h e =
    let next : suc at + 1 ≡ suc (at + 1) = omega arith in
    let i_in : at < length bs = omega arith in
    ap (λ (v : List ℕ). b ∷ v) (parted at mark bs i_in e) ∙ ap (λ (n : ℕ). b ∷ take at bs ++ mark ∷ drop n (b ∷ bs)) (sym next)

digits_lack : (mark : ℕ) (ds : List ℕ) → (48 ≤ mark → mark ≤ 57 → ⊥) → AllDigits 10 ds → Lacks ds mark
digits_lack mark [] out h = tt
digits_lack mark (d ∷ ds) out h = (λ e. let r = digit_from_value d h.0 in out (omega (arith, r.0, e)) (omega (arith, r.1, e)), digits_lack mark ds out h.1)

number_lacks : (mark : ℕ) (text : List ℕ) (n : ℕ) → (48 ≤ mark → mark ≤ 57 → ⊥) → SpellsNumber text n → Lacks text mark
number_lacks mark text n out h = digits_lack mark text out h.digits.1

number_lacks_colon : (text : List ℕ) (n : ℕ) → SpellsNumber text n → Lacks text 0x3A
number_lacks_colon text n h = number_lacks 0x3A text n (λ a b. omega (arith, a, b)) h

number_lacks_comma : (text : List ℕ) (n : ℕ) → SpellsNumber text n → Lacks text 0x2C
number_lacks_comma text n h = number_lacks 0x2C text n (λ a b. omega (arith, a, b)) h

pub name_lacks_comma : (text : List ℕ) (n : RecordName) → SpellsName text n → Lacks text 0x2C
name_lacks_comma text n h =
    subst (λ (v : List ℕ). Lacks v 0x2C) (sym h.joined)
    (lacks_both 0x2C h.front (0x3A ∷ h.back) (number_lacks_comma h.front n.split h.split) ((λ e. cc e), number_lacks_comma h.back n.rec h.number))

one_number : (a b : List ℕ) (n m : ℕ) → a ≡ b → SpellsNumber a n → SpellsNumber b m → n ≡ m
one_number a b n m e h k = sym h.value ∙ ap (λ (v : List ℕ). digits_value 10 v) e ∙ k.value

-- a text spells at most one name
pub one_name : (a b : List ℕ) (n m : RecordName) → a ≡ b → SpellsName a n → SpellsName b m → n ≡ m
one_name a b n m e h k =
    let c = one_cut 0x3A h.front h.back k.front k.back (sym h.joined ∙ e ∙ k.joined) (number_lacks_colon h.front n.split h.split) (number_lacks_colon k.front m.split k.split) in
    let s : n.split ≡ m.split = one_number h.front k.front n.split m.split c.0 h.split k.split in
    let r : n.rec ≡ m.rec = one_number h.back k.back n.rec m.rec c.1 h.number k.number in
    ap (λ (v : ℕ). record { split = v; rec = n.rec }) s ∙ ap (λ (v : ℕ). record { split = m.split; rec = v }) r

-- a name is cut at its only colon
pub name_cut : (text front back : List ℕ) (n : RecordName) → text ≡ front ++ 0x3A ∷ back → Lacks front 0x3A → SpellsName text n → SpellsNumber front n.split × SpellsNumber back n.rec
name_cut text front back n e l h =
    let c = one_cut 0x3A h.front h.back front back (sym h.joined ∙ e) (number_lacks_colon h.front n.split h.split) l in
    (subst (λ (v : List ℕ). SpellsNumber v n.split) c.0 h.split, subst (λ (v : List ℕ). SpellsNumber v n.rec) c.1 h.number)

pub name_needs_colon : (text : List ℕ) (n : RecordName) → Lacks text 0x3A → SpellsName text n → ⊥
name_needs_colon text n l h = no_mark 0x3A h.front h.back (subst (λ (v : List ℕ). Lacks v 0x3A) h.joined l)

pub name_is_some : (n : RecordName) → SpellsName [] n → ⊥
name_is_some n h = name_needs_colon [] n tt h

names_are_some : (n : RecordName) (ns : List RecordName) → SpellsNames [] (n ∷ ns) → ⊥
names_are_some n [] h = name_is_some n h
names_are_some n (m ∷ ns) (first, behind, e, s, h) = no_mark 0x2C first behind (subst (λ (v : List ℕ). Lacks v 0x2C) e tt)

-- a text with a comma in it spells more than one name, and its first stands before the first comma
pub names_cut : (text first behind : List ℕ) (n : RecordName) (ns : List RecordName) → text ≡ first ++ 0x2C ∷ behind → Lacks first 0x2C → SpellsNames text (n ∷ ns)
    → SpellsName first n × ((m : RecordName) × (ms : List RecordName) × (ns ≡ m ∷ ms) × SpellsNames behind (m ∷ ms))
names_cut text first behind n [] e l h = absurd (no_mark 0x2C first behind (subst (λ (v : List ℕ). Lacks v 0x2C) e (name_lacks_comma text n h)))
names_cut text first behind n (m ∷ ms) e l (f, b, j, s, h) =
    let c = one_cut 0x2C f b first behind (sym j ∙ e) (name_lacks_comma f n s) l in
    (subst (λ (v : List ℕ). SpellsName v n) c.0 s, (m, ms, refl, subst (λ (v : List ℕ). SpellsNames v (m ∷ ms)) c.1 h))

-- one without a comma spells one name
pub names_last : (text : List ℕ) (n : RecordName) (ns : List RecordName) → Lacks text 0x2C → SpellsNames text (n ∷ ns) → (ns ≡ []) × SpellsName text n
names_last text n [] l h = (refl, h)
names_last text n (m ∷ ms) l (f, b, j, s, h) = absurd (no_mark 0x2C f b (subst (λ (v : List ℕ). Lacks v 0x2C) j l))

pub one_list : (text : List ℕ) (ns ms : List RecordName) → SpellsNames text ns → SpellsNames text ms → ns ≡ ms
one_list text [] [] h k = refl
one_list text [] (m ∷ ms) h k = absurd (names_are_some m ms (subst (λ (v : List ℕ). SpellsNames v (m ∷ ms)) h k))
one_list text (n ∷ ns) [] h k = absurd (names_are_some n ns (subst (λ (v : List ℕ). SpellsNames v (n ∷ ns)) k h))
one_list text (n ∷ []) (m ∷ ms) h k =
    let r = names_last text m ms (name_lacks_comma text n h) k in
    ap (λ (v : RecordName). v ∷ []) (one_name text text n m refl h r.1) ∙ ap (λ (v : List RecordName). m ∷ v) (sym r.0)
one_list text (n ∷ n2 ∷ ns) (m ∷ ms) (f, b, j, s, h) k =
    let (t, (m2, ms2, e, g)) = names_cut text f b m ms j (name_lacks_comma f n s) k in
    ap (λ (v : RecordName). v ∷ n2 ∷ ns) (one_name f f n m refl s t) ∙ ap (λ (v : List RecordName). m ∷ v) (one_list b (n2 ∷ ns) (m2 ∷ ms2) h g ∙ sym e)

-- the names before the rest are done: the text spells them with those that the rest spells, and nothing else
pub record IsRead (text rest : List ℕ) (done : List RecordName) : Type 0 where
  pub more : (n : RecordName) (ns : List RecordName) → SpellsNames rest (n ∷ ns) → SpellsNames text (done ++ n ∷ ns)
  pub all : (names : List RecordName) → SpellsNames text names → (n : RecordName) × (ns : List RecordName) × (names ≡ done ++ n ∷ ns) × SpellsNames rest (n ∷ ns)

read_none-all : (text : List ℕ) → (text ≡ [] → ⊥) → (names : List RecordName) → SpellsNames text names → (n : RecordName) × (ns : List RecordName) × (names ≡ n ∷ ns) × SpellsNames text (n ∷ ns)
read_none-all text some [] h = absurd (some h)
read_none-all text some (n ∷ ns) h = (n, ns, refl, h)

pub read_none : (text : List ℕ) → (text ≡ [] → ⊥) → IsRead text text []
read_none text some = record { more = λ n ns h. h; all = read_none-all text some }

pub read_more : (text rest first behind : List ℕ) (done : List RecordName) (m : RecordName) → IsRead text rest done → rest ≡ first ++ 0x2C ∷ behind → Lacks first 0x2C → SpellsName first m → IsRead text behind (done ++ m ∷ [])
read_more text rest first behind done m r e l s = record {
  more = λ n ns h. subst (SpellsNames text) (sym (append_assoc done (m ∷ []) (n ∷ ns))) (r.more m (n ∷ ns) (first, behind, e, s, h));
  all = λ names h. next names (r.all names h);
}
  where
    next : (names : List RecordName) → ((n : RecordName) × (ns : List RecordName) × (names ≡ done ++ n ∷ ns) × SpellsNames rest (n ∷ ns)) → (n : RecordName) × (ns : List RecordName) × (names ≡ (done ++ m ∷ []) ++ n ∷ ns) × SpellsNames behind (n ∷ ns)
    next names (n, ns, f, g) =
        let (t, (k, ks, i, b)) = names_cut rest first behind n ns e l g in
        let same : n ≡ m = one_name first first n m refl t s in
        (k, ks, f ∙ ap (λ (v : List RecordName). done ++ n ∷ v) i ∙ ap (λ (v : RecordName). done ++ v ∷ k ∷ ks) same ∙ sym (append_assoc done (m ∷ []) (k ∷ ks)), b)

-- a first part that spells no name makes the text spell no list
pub read_fault : (text rest first behind : List ℕ) (done : List RecordName) → IsRead text rest done → rest ≡ first ++ 0x2C ∷ behind → Lacks first 0x2C → ((n : RecordName) → SpellsName first n → ⊥) → (names : List RecordName) → SpellsNames text names → ⊥
read_fault text rest first behind done r e l bad names h =
    let (n, ns, f, g) = r.all names h in
    bad n (names_cut rest first behind n ns e l g).0

pub read_last_fault : (text rest : List ℕ) (done : List RecordName) → IsRead text rest done → Lacks rest 0x2C → ((n : RecordName) → SpellsName rest n → ⊥) → (names : List RecordName) → SpellsNames text names → ⊥
read_last_fault text rest done r l bad names h =
    let (n, ns, f, g) = r.all names h in
    bad n (names_last rest n ns l g).1

-- a fault of a name is one of the list
pub fault_of_list : (e : Fault) (A B : Type 0) → (A → B) → (e ≡ OutOfMemory) ⊎ ((e ≡ BadSkipList) × A) → (e ≡ OutOfMemory) ⊎ ((e ≡ BadSkipList) × B)
fault_of_list e A B f (inl m) = inl m
fault_of_list e A B f (inr (b, a)) = inr (b, f a)
