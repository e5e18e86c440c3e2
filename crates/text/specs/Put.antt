-- A text t put into a buffer at a place. The bytes are lib.Seq's `sets out at t`: stored one after the other, and those past the end dropped.
use Rattle.std.specs.Prelude.{List, ℕ, ◌+◌, min, length}

-- the place after it, at most the buffer's length
unfoldable pub place_of : List ℕ → ℕ → List ℕ → ℕ
place_of out at t = min (length out) (at + length t)
