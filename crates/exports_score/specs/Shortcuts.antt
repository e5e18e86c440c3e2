-- What the code goes by and no public contract cites. It holds hz, frames and the gate's issue as u32s, so a number that is none is refused before
-- the writer would.
use Rattle.std.specs.Prelude.{cond, List, ℕ, ltb, ℤ, get_or, Result, Ok, Err}
use Rattle.score.specs.Refusal.{and_then}
use Rattle.score.specs.Score.{Reading}
use Rattle.score.specs.declared.Refusal.{Refusal}
use Rattle.score.specs.declared.Refusal.TheVariants.{OutOfRange}
use Rattle.exports_score.specs.Cells.{score_at}

unfoldable pub u32_of : ℕ → Result ℕ Refusal
u32_of n = cond (ltb 4294967295 n) (Err OutOfRange) (Ok n)

unfoldable pub held_at : List ℤ → List ℕ → Reading
held_at m w =
    and_then (u32_of (get_or w 1 0)) λ hz. and_then (u32_of (get_or w 2 0)) λ frames. and_then (u32_of (get_or w 3 0)) λ issue. score_at m w
