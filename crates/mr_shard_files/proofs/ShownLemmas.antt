-- Windows on parts, and how many bytes are passed of each.
use Rattle.std.proofs.Common.{◌≡◌, ℕ, zero, suc, ◌+◌, ◌<◌, ◌≤◌, List, [], ◌∷◌, ◌++◌, length, get_or, take, refl, ap, sym, ◌∙◌, subst, arith}
use Rattle.std.proofs.lemmas.List.{take_more}
use Rattle.mr_shards.specs.declared.merger.Window.{Window}
use Rattle.mr_shard_files.specs.declared.stream.Part.{Part}
use Rattle.mr_shard_files.specs.Streams.{AreHeld, AreWindowsOf, is_done}

module _ {R : Type 0} where
  shown_more : (qs : List (Part R)) (ws : List Window) (q : Part R) (w : Window) → AreWindowsOf qs ws → w.bytes.now ≡ q.held → w.is_last ≡ is_done q → AreWindowsOf (qs ++ q ∷ []) (ws ++ w ∷ [])
  shown_more [] [] q w h b l = (b, l, tt)
  shown_more [] (v ∷ ws) q w h b l = absurd h
  shown_more (p ∷ qs) [] q w h b l = absurd h
  shown_more (p ∷ qs) (v ∷ ws) q w h b l = (h.0, h.1, shown_more qs ws q w h.2 b l)

  pub shown_next : (qs : List (Part R)) (i : ℕ) (d q : Part R) (ws after : List Window) (w : Window) → i < length qs → q ≡ get_or qs i d → w.bytes.now ≡ q.held → w.is_last ≡ is_done q → after ≡ ws ++ w ∷ []
      → AreWindowsOf (take i qs) ws → AreWindowsOf (take (i + 1) qs) after
  shown_next qs i d q ws after w less is bytes last more h =
      subst (λ (l : List (Part R)). AreWindowsOf l after) (sym (take_more qs i d less ∙ ap (λ (x : Part R). take i qs ++ x ∷ []) (sym is)))
      (subst (AreWindowsOf (take i qs ++ q ∷ [])) (sym more) (shown_more (take i qs) ws q w h bytes last))

  pub shown_count : (qs : List (Part R)) (ws : List Window) → AreWindowsOf qs ws → length ws ≡ length qs
  shown_count [] [] h = refl
  shown_count [] (w ∷ ws) h = absurd h
  shown_count (q ∷ qs) [] h = absurd h
  shown_count (q ∷ qs) (w ∷ ws) h = ap (λ k. suc k) (shown_count qs ws h.2)

  pub cuts_count : (cs : List ℕ) (qs : List (Part R)) → AreHeld cs qs → length cs ≡ length qs
  cuts_count [] [] h = refl
  cuts_count [] (q ∷ qs) h = absurd h
  cuts_count (c ∷ cs) [] h = absurd h
  cuts_count (c ∷ cs) (q ∷ qs) h = ap (λ k. suc k) (cuts_count cs qs h.1)

  pub cut_at : (cs : List ℕ) (qs : List (Part R)) (i : ℕ) (d : Part R) → AreHeld cs qs → i < length qs → get_or cs i 0 ≤ length (get_or qs i d).held
  cut_at [] [] i d h less = absurd (omega (arith, less))
  cut_at [] (q ∷ qs) i d h less = absurd h
  cut_at (c ∷ cs) [] i d h less = absurd h
  cut_at (c ∷ cs) (q ∷ qs) zero d h less = h.0
  cut_at (c ∷ cs) (q ∷ qs) (suc i) d h less = cut_at cs qs i d h.1 (omega (arith, less))
