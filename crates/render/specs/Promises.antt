-- Theorems about what the program reads and writes: the statements. The proofs of the same names in small letters stand in proofs/.
use Rattle.std.specs.Prelude.{ℕ, ◌*◌, ◌≤◌, List, ◌++◌, ◌≡◌, Ok, Err, None}
use Rattle.std.specs.declared.ops.ControlFlow.TheVariants.{Break}
use Rattle.score.specs.Score.{score_of}
use Rattle.score.specs.declared.Score.{Score}
use Rattle.score.specs.declared.Refusal.TheVariants.{WrongLine}
use Rattle.player.specs.Play.{render_of}
use Rattle.render.specs.Reads.{step_of, taken_of}
use Rattle.render.specs.Writes.{pieces_of, end_of}

-- a read that fails ends the reading, and the input is refused by 21, whatever was read before it
abbrev pub FailedRead : Type 1
FailedRead = (E : Type 0) (e : E) (n room : ℕ) (input : List ℕ) → (step_of n (Err e) room ≡ Break None) × (taken_of None input ≡ Err WrongLine)

-- the pieces of k frames each, as many as the frames need, and the end join to what the scope prints of the text
abbrev pub PiecesJoin : Type 0
PiecesJoin = (text : List ℕ) (s : Score) (k m : ℕ) → score_of text ≡ Ok s → s.head.frames ≤ m * k → pieces_of s k m ++ end_of s ≡ render_of text
