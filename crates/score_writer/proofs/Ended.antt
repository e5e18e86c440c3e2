-- Nothing stands after the last line. Assumes nothing.
use mathlib.Core.List.{List, [], ◌++◌, append-nil}
use mathlib.Core.Path.{◌≡◌}
use Prim.Native.Nat.{ℕ}

pub ended : (t : List ℕ) → t ++ [] ≡ t
ended t = append-nil t
