-- Of no public promise: claims that are tested window by window.
use Rattle.std.specs.Prelude.{◌≡◌, ℕ, ◌<◌, List, All, length, slice_index_or}
use Rattle.mr_bytes.specs.Pairs.{Triple}
use Rattle.mr_index.specs.declared.window.Window.{Window}
use Rattle.mr_index.specs.Windows.{PieceView, Tiles, IsWindow, piece_of, window_triples}
use Rattle.mr_check.specs.declared.claims.Late.{Late}
use Rattle.mr_check.specs.declared.given.Given.{Given}
use Rattle.mr_check.specs.declared.walk.Walked.{Walked}
use Rattle.mr_check.specs.declared.windows.Tested.{Tested}
use Rattle.mr_check.specs.Claims.{IsRight, IsRightWindow, claim_of, nth_window}
use Rattle.mr_check.specs.Joined.{joined}
use Rattle.mr_check.specs.Walk.{known}

-- the pairs of a window's records
abbrev pub pairs_in : Given → Window → List Triple
pairs_in g w = window_triples g.request.now.job g.kept.now.cut g.kept.now.skips w.split w.from w.end

-- the window's records are mapped in this piece
pub record IsMapped (g : Given) (w : Window) (p : PieceView) : Type 0 where
  pub some : 0 < g.kept.now.cut.size
  pub window : IsWindow g.kept.now.cut w
  pub piece : p ≡ piece_of g.request.now.job g.kept.now w.split w.from w.end

-- what a late entry of the window claims is right
abbrev pub IsRightIn : Given → ℕ → Window → Late → Type 0
IsRightIn g bits w e = IsRight (known g).triples (joined (known g).outputs) (claim_of bits w e)

-- what a walk put off is by the windows of what is given
abbrev pub IsByWindows : Given → Walked → Type 0
IsByWindows g x = x.claims.windows ≡ g.windows.now

-- and so for all walks; the windows are all of the input
pub record AreByWindows (g : Given) (walked : List Walked) : Type 0 where
  pub tiles : Tiles g.kept.now.cut 0 0 g.windows.now.list
  pub by : All (IsByWindows g) walked

-- a window has so many pairs, and what so many of the walks claimed of them is right
pub record IsTested (g : Given) (walked : List Walked) (w : ℕ) (t : Tested) : Type 0 where
  pub pairs : t.pairs ≡ length (pairs_in g (nth_window g.windows.now.list w))
  pub right : (i : ℕ) (d : Walked) → i < t.right → i < length walked → IsRightWindow (known g).triples (joined (known g).outputs) (slice_index_or walked i d).claims w
