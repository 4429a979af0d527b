use Rattle.std.proofs.Common.{◌≡◌, ℕ, ◌+◌, List, [], ◌++◌, Vec, length, map, take, drop, sym, ◌∙◌, ap, subst, refl, arith}
use Rattle.std.proofs.lemmas.List.{take-append-drop}
use Rattle.std.specs.Global.{Global}
use Rattle.mr_explain.specs.Sifting.{KeptLines, feeds_in, kept_lines}
use Rattle.mr_explain.specs.Needles.{AllLack, Lacks}
use Rattle.mr_explain.specs.Taking.{IsTaken, closing}
use Rattle.mr_explain.specs.declared.needle.Needle.{Needle}
use Rattle.mr_explain.proofs.TakingLemmas.{few-closed, lines-dropped, lines-kept, lines-same, taken-as}
use Rattle.mr_explain.proofs.sifting.Sifter.take_lines.Goals as goal

pub returns-then-can_drop-clause-taken : goal.returns-then-can_drop-clause-taken
returns-then-can_drop-clause-taken c read h =
    let s = c.args.self.now in
    let so : List ℕ → Type 0 = Lacks s.needle.fold s.needle.literal.now in
    let first : List ℕ = take c.first_end.result c.args.lines.now in
    let others : List ℕ = drop c.first_end.result c.args.lines.now in
    let rest_is : c.extend_from_slice.new.self.items ≡ s.rest.items ++ first =
    c.in_ok-extend_from_slice.ensures.items ∙ ap (λ (l : List ℕ). s.rest.items ++ l) c.split_at.ensures.front in
    let ended = c.in_ok-close.ensures in
    let record_is : c.deref.result.now ≡ s.rest.items ++ first =
    c.deref.ensures.value ∙ ap (λ (v : Vec ℕ Global). v.items) ended.rest ∙ rest_is in
    let t = lines-dropped so read (map kept_lines s.closed.items) s.current.bytes.items s.current.lines_before s.current.bytes_before s.rest.items first others
    c.first_end.ensures.ends c.first_end.ensures.others
    (subst (AllLack s.needle.fold s.needle.literal.now) rest_is (c.can_drop.ensures.record c.if-can_drop.true))
    (subst (AllLack s.needle.fold s.needle.literal.now) c.split_at.ensures.back (c.can_drop.ensures.others c.if-can_drop.true))
    h.taken in
    let closed : List KeptLines = map kept_lines s.closed.items ++ closing (kept_lines s.current) in
    let lines : ℕ = s.current.lines_before + feeds_in s.current.bytes.items + feeds_in (s.rest.items ++ first) + feeds_in others in
    let place : ℕ = s.current.bytes_before + length s.current.bytes.items + length (s.rest.items ++ first) + length others in
    let all : List ℕ = read ++ (first ++ others) in
    let now : KeptLines = kept_lines c.pass-then-can_drop.new.self in
    let now_is : record { bytes = []; lines_before = lines; bytes_before = place } ≡ now =
    lines-same now [] lines place
    (ap (λ (v : Vec ℕ Global). v.items) (c.pass-then-can_drop.ensures.held ∙ c.pass.ensures.held) ∙ ap (λ (l : KeptLines). l.bytes) ended.opened)
    (c.pass-then-can_drop.ensures.lines
    ∙ ap (λ (l : List ℕ). c.pass.new.self.lines_before + feeds_in l) c.split_at.ensures.back
    ∙ ap (λ n. n + feeds_in others) (c.pass.ensures.lines
    ∙ ap (λ (l : List ℕ). c.close.new.self.current.lines_before + feeds_in l) record_is
    ∙ ap (λ (l : KeptLines). l.lines_before + feeds_in (s.rest.items ++ first)) ended.opened))
    (c.pass-then-can_drop.ensures.bytes
    ∙ ap (λ (l : List ℕ). c.pass.new.self.bytes_before + length l) c.split_at.ensures.back
    ∙ ap (λ n. n + length others) (c.pass.ensures.bytes
    ∙ ap (λ (l : List ℕ). c.close.new.self.current.bytes_before + length l) record_is
    ∙ ap (λ (l : KeptLines). l.bytes_before + length (s.rest.items ++ first)) ended.opened)) in
    let shut : List KeptLines = map kept_lines c.close.new.self.closed.items in
    record {
      taken = subst (λ (n : Needle). IsTaken (Lacks n.fold n.literal.now) (read ++ c.args.lines.now) shut now c.clear.new.self.items) (sym ended.needle)
          (subst (λ (l : List ℕ). IsTaken so (read ++ l) shut now c.clear.new.self.items) (take-append-drop c.first_end.result c.args.lines.now)
          (taken-as so all closed shut (record { bytes = []; lines_before = lines; bytes_before = place }) now [] c.clear.new.self.items
          (sym ended.closed) now_is (sym c.clear.ensures.items) t));
      few = omega (
        arith,
        few-closed c.close.new.self.closed.items s.closed.items (kept_lines s.current) ended.closed,
        c.can_drop.ensures.few c.if-can_drop.true,
        ended.most,
      );
    }

pub returns-clause-taken : goal.returns-clause-taken
returns-clause-taken c read h =
    let s = c.args.self.now in
    let so : List ℕ → Type 0 = Lacks s.needle.fold s.needle.literal.now in
    let first : List ℕ = take c.first_end.result c.args.lines.now in
    let others : List ℕ = drop c.first_end.result c.args.lines.now in
    let record_is : c.extend_from_slice.new.self.items ≡ s.rest.items ++ first =
    c.in_ok-extend_from_slice.ensures.items ∙ ap (λ (l : List ℕ). s.rest.items ++ l) c.split_at.ensures.front in
    let closed : List KeptLines = map kept_lines s.closed.items in
    let held : List ℕ = s.current.bytes.items ++ (s.rest.items ++ first) in
    let now : KeptLines = record { bytes = c.extend_from_slice-2.new.self.items; lines_before = s.current.lines_before; bytes_before = s.current.bytes_before } in
    let t = lines-kept so read closed s.current.bytes.items s.current.lines_before s.current.bytes_before s.rest.items first others
    c.first_end.ensures.ends c.first_end.ensures.others h.taken in
    let all : List ℕ = read ++ (first ++ others) in
    let bytes_are : c.extend_from_slice-2.new.self.items ≡ held ++ others =
    c.in_ok-extend_from_slice-2.ensures.items
    ∙ ap (λ (l : List ℕ). l ++ c.split_at.result.1.now) (c.in_ok-append.ensures.moved ∙ ap (λ (l : List ℕ). s.current.bytes.items ++ l) record_is)
    ∙ ap (λ (l : List ℕ). held ++ l) c.split_at.ensures.back in
    record {
      taken = subst (λ (l : List ℕ). IsTaken so (read ++ l) closed now c.append.new.from.items) (take-append-drop c.first_end.result c.args.lines.now)
          (taken-as so all closed closed (record { bytes = held ++ others; lines_before = s.current.lines_before; bytes_before = s.current.bytes_before }) now [] c.append.new.from.items
          refl (lines-same now (held ++ others) s.current.lines_before s.current.bytes_before bytes_are refl refl) (sym c.in_ok-append.ensures.none) t);
      few = h.few;
    }
