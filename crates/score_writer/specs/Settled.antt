-- For the public function: any two answers that its contract allows are equal, and so are the buffers that it leaves.
use Rattle.std.specs.Prelude.{List, ◌≡◌, ℕ, length}
use Rattle.laws.specs.Machine.{Settles}
use Rattle.score.specs.declared.Score.{Score}
use Rattle.score_writer.specs.Writing.{Writing, writing_of, written_of}

pub record Settled : Type 0 where
  pub write : (s : Score) (out : List ℕ) → Settles (λ (x : Writing × List ℕ). (x.0 ≡ writing_of s (length out)) × (x.1 ≡ written_of s out))
