-- Parts that are read in pieces.
use Rattle.std.proofs.Common.{◌≡◌, ℕ, zero, suc, ◌<◌, ◌≤◌, ◌||◌, true, List, [], ◌∷◌, ◌++◌, append_assoc, append-nil, ap, drop, refl, sym, ◌∙◌, subst, length, length-append, take, arith, ◌&&◌, get_or, ◌+◌}
use Rattle.std.proofs.lemmas.List.{drop_more as drop_next, take-append-drop, take_all}
use Rattle.std.proofs.KnownBytes.{Consumes-nil, Consumes-trans}
use Rattle.std.specs.Prelude.{Option}
use Rattle.mr_shard_files.specs.declared.fault.ShardFault.{ShardFault}
use Rattle.mr_shard_files.specs.declared.fault.ShardFault.TheVariants.{CannotRead, OutOfMemory}
use Rattle.mr_shard_files.specs.declared.stream.Part.{Part}
use Rattle.std.specs.Io.KnownBytes.{Consumes, IsAtEnd}
use Rattle.sha2.specs.Hashers.{Holds256}
use Rattle.sha2.specs.declared.Sha256.{Sha256}
use Rattle.mr_shard_files.specs.Streams.{CountsDown, Digests, HasMore, HasRead, IsDigested, Moves, ReportsUnread, all_done, is_done}

drop_none : (n : ℕ) → drop {A = ℕ} n [] ≡ []
drop_none zero = refl
drop_none (suc n) = refl

drop_all : (xs : List ℕ) (n : ℕ) → n ≡ length xs → drop n xs ≡ []
drop_all [] n e = drop_none n
drop_all (x ∷ xs) zero e = absurd (omega (arith, e))
drop_all (x ∷ xs) (suc n) e = drop_all xs n (omega (arith, e))

-- where more is held, the digest lacks it
drop_more : (xs ys : List ℕ) (n : ℕ) → n ≤ length xs → drop n (xs ++ ys) ≡ drop n xs ++ ys
drop_more [] ys zero le = refl
drop_more [] ys (suc n) le = absurd (omega (arith, le))
drop_more (x ∷ xs) ys zero le = refl
drop_more (x ∷ xs) ys (suc n) le = drop_more xs ys n (omega (arith, le))

-- a part can't be read for what was known of it before
pub unread_back : (e : ShardFault) (P Q : Type 0) (m n : List ℕ) → (P → Q) → m ≡ n → ReportsUnread P m e → ReportsUnread Q n e
unread_back (CannotRead told) P Q m n f s h = (f h.0, h.1 ∙ s)
unread_back OutOfMemory P Q m n f s h = tt
unread_back e P Q m n f s h = absurd h

module _ {R : Type 0} where
  -- parts from one on are done, where that is and those behind it are
  pub done_from : (qs : List (Part R)) (i : ℕ) (q : Part R) → i < length qs → q ≡ get_or qs i q → all_done (drop i qs) ≡ (is_done q && all_done (drop (i + 1) qs))
  done_from qs i q less is = ap all_done (drop_next qs i q less) ∙ ap (λ (x : Part R). is_done x && all_done (drop (i + 1) qs)) (sym is)

  -- a piece more is held
  pub digests_more : (p n : Part R) (piece bytes : List ℕ) → n.hasher ≡ p.hasher → n.digested ≡ p.digested → n.held ≡ p.held ++ piece → Digests p bytes → Digests n (bytes ++ piece)
  digests_more p n piece bytes hasher digested held g = record {
    front = g.front;
    is = ap (λ v. v ++ piece) g.is ∙ append_assoc g.front (drop p.digested p.held) piece
        ∙ ap (λ v. g.front ++ v) (sym (drop_more p.held piece p.digested g.within) ∙ ap (drop p.digested) (sym held) ∙ ap (λ k. drop k n.held) (sym digested));
    within = (let e = ap length held ∙ length-append p.held piece in omega (arith, e, g.within, digested));
    holds = subst (λ (x : Sha256). Holds256 x g.front) (sym hasher) g.holds;
  }

  -- the digest has all
  pub digests_all : (p n : Part R) → HasMore p.hasher (drop p.digested p.held) n.hasher → n.digested ≡ length n.held → n.held ≡ p.held → (bytes : List ℕ) → Digests p bytes → Digests n bytes
  digests_all p n more all held bytes g = record {
    front = bytes;
    is = sym (append-nil bytes) ∙ ap (λ v. bytes ++ v) (sym (drop_all n.held n.digested all));
    within = omega (arith, all);
    holds = subst (Holds256 n.hasher) (sym g.is) (more g.front g.holds);
  }

  pub digested_all : (p n : Part R) → HasMore p.hasher (drop p.digested p.held) n.hasher → n.digested ≡ length n.held → n.held ≡ p.held → n.name ≡ p.name → n.reader ≡ p.reader → n.left ≡ p.left → n.longer ≡ p.longer → n.ended ≡ p.ended
      → IsDigested p n
  digested_all p n more all held name reader left longer ended = record {
    all = all;
    digests = digests_all p n more all held;
    name = name;
    reader = reader;
    held = held;
    left = left;
    longer = longer;
    ended = ended;
  }

  -- some of what is held, and all of it is in the digest, is passed
  digests_passed : (d n : Part R) (k : ℕ) (bytes : List ℕ) → d.digested ≡ length d.held → n.held ≡ drop k d.held → n.digested ≡ length n.held → n.hasher ≡ d.hasher → Digests d bytes → Digests n bytes
  digests_passed d n k bytes all held whole hasher g =
      let front : g.front ≡ bytes = sym (append-nil g.front) ∙ ap (λ v. g.front ++ v) (sym (drop_all d.held d.digested all)) ∙ sym g.is in
      record {
        front = bytes;
        is = sym (append-nil bytes) ∙ ap (λ v. bytes ++ v) (sym (drop_all n.held n.digested whole));
        within = omega (arith, whole);
        holds = subst (λ (x : Sha256). Holds256 x bytes) (sym hasher) (subst (Holds256 d.hasher) front g.holds);
      }

  done_same : (p n : Part R) → n.ended ≡ p.ended → n.longer ≡ p.longer → is_done p ≡ true → is_done n ≡ true
  done_same p n e l x = ap (λ b. b || n.longer) e ∙ ap (λ b. p.ended || b) l ∙ x

  -- as much is read of it
  pub done_so : (p n : Part R) → IsDigested p n → is_done n ≡ is_done p
  done_so p n g = ap (λ b. b || n.longer) g.ended ∙ ap (λ b. p.ended || b) g.longer

module _ {R : Type 0} (remaining : R → Option (List ℕ)) (can_fail : R → Type 0) where
  -- nothing was done
  pub moves_none : (p : Part R) → Moves remaining can_fail [] p p
  moves_none p = record {
    got = [];
    consumes = Consumes-nil (remaining p.reader);
    held = append-nil p.held;
    read = λ told bytes h. subst (HasRead told p) (sym (append-nil bytes)) h;
    still = λ d. refl;
    done = λ d. d;
    at_end = λ e d. e d;
    name = refl;
    later = λ f. f;
  }

  -- one move, and another
  pub moves_on : (a b c : Part R) (x y : List ℕ) → Moves remaining can_fail x a b → Moves remaining can_fail y b c → Moves remaining can_fail (x ++ y) a c
  moves_on a b c x y m n = record {
    got = m.got ++ n.got;
    consumes = Consumes-trans (remaining a.reader) (remaining b.reader) (remaining c.reader) m.got n.got m.consumes n.consumes;
    held = sym (append_assoc a.held m.got n.got) ∙ ap (λ v. v ++ n.got) m.held ∙ append_assoc x b.held n.got ∙ ap (λ v. x ++ v) n.held ∙ sym (append_assoc x y c.held);
    read = λ told bytes h. subst (HasRead told c) (append_assoc bytes m.got n.got) (n.read told (bytes ++ m.got) (m.read told bytes h));
    still = λ d. ap (λ v. v ++ n.got) (m.still d) ∙ n.still (m.done d);
    done = λ d. n.done (m.done d);
    at_end = λ e. n.at_end (m.at_end e);
    name = n.name ∙ m.name;
    later = λ f. m.later (n.later f);
  }

  -- some of what was held is passed, once the digest has it
  pub moves_passed : (p d n : Part R) (k : ℕ) → k ≤ length p.held → IsDigested p d → n.held ≡ drop k d.held → n.digested ≡ length n.held → n.hasher ≡ d.hasher → n.left ≡ d.left → n.longer ≡ d.longer → n.ended ≡ d.ended
      → n.name ≡ d.name → n.reader ≡ d.reader → Moves remaining can_fail (take k p.held) p n
  moves_passed p d n k le g held whole hasher left longer ended name reader = record {
    got = [];
    consumes = subst (λ (r : R). Consumes (remaining p.reader) (remaining r) []) (sym (reader ∙ g.reader)) (Consumes-nil (remaining p.reader));
    held = append-nil p.held ∙ sym (take-append-drop k p.held) ∙ ap (λ v. take k p.held ++ v) (ap (drop k) (sym g.held) ∙ sym held);
    read = λ told bytes h. (
      digests_passed d n k (bytes ++ []) g.all held whole hasher (g.digests (bytes ++ []) (subst (Digests p) (sym (append-nil bytes)) h.0)),
      subst (λ (b : List ℕ). CountsDown told n.left n.longer (length b)) (sym (append-nil bytes))
          (subst (λ l. CountsDown told l n.longer (length bytes)) (sym (left ∙ g.left)) (subst (λ l. CountsDown told p.left l (length bytes)) (sym (longer ∙ g.longer)) h.1)),
    );
    still = λ d. refl;
    done = done_same p n (ended ∙ g.ended) (longer ∙ g.longer);
    at_end = λ e x. subst (λ (r : R). IsAtEnd (remaining r)) (sym (reader ∙ g.reader)) (e (sym (ended ∙ g.ended) ∙ x));
    name = name ∙ g.name;
    later = λ f. subst can_fail (reader ∙ g.reader) f;
  }

  -- all of it is
  pub moves_let_go : (p d n : Part R) → IsDigested p d → n.held ≡ [] → n.digested ≡ 0 → n.hasher ≡ d.hasher → n.left ≡ d.left → n.longer ≡ d.longer → n.ended ≡ d.ended → n.name ≡ d.name → n.reader ≡ d.reader
      → Moves remaining can_fail p.held p n
  moves_let_go p d n g none start hasher left longer ended name reader =
      subst (λ (x : List ℕ). Moves remaining can_fail x p n) (take_all (length p.held) p.held (omega arith))
      (moves_passed p d n (length p.held) (omega arith) g (none ∙ sym (drop_all d.held (length p.held) (ap length (sym g.held)))) (start ∙ sym (ap length none)) hasher left longer ended name reader)

  -- the digest has what it lacked
  pub moves_digested : (p n : Part R) → IsDigested p n → Moves remaining can_fail [] p n
  moves_digested p n g = record {
    got = [];
    consumes = subst (λ (r : R). Consumes (remaining p.reader) (remaining r) []) (sym g.reader) (Consumes-nil (remaining p.reader));
    held = append-nil p.held ∙ sym g.held;
    read = λ told bytes h. (
      g.digests (bytes ++ []) (subst (Digests p) (sym (append-nil bytes)) h.0),
      subst (λ (b : List ℕ). CountsDown told n.left n.longer (length b)) (sym (append-nil bytes))
          (subst (λ l. CountsDown told l n.longer (length bytes)) (sym g.left) (subst (λ l. CountsDown told p.left l (length bytes)) (sym g.longer) h.1)),
    );
    still = λ d. refl;
    done = done_same p n g.ended g.longer;
    at_end = λ e x. subst (λ (r : R). IsAtEnd (remaining r)) (sym g.reader) (e (sym g.ended ∙ x));
    name = g.name;
    later = λ f. subst can_fail g.reader f;
  }
