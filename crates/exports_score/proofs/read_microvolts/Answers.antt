-- `read_microvolts`: the cells of what was read, or what refused it.
use Rattle.score.proofs.Steps.{stopped}
use Rattle.exports_score.specs.Calls.{told_of}
use Rattle.exports_score.proofs.read_microvolts.Goals as goal

pub returns-in_err-s : goal.returns-in_err-s
unfolding told_of
returns-in_err-s c = rw (stopped _ c.from_residual.ensures.1) (simp (← c.in_err-s.ensures))

pub returns : goal.returns
unfolding told_of
returns c = simp (← c.in_ok-s.ensures, c.copy_from_slice.ensures.after, c.copy_from_slice-2.ensures.after, c.microvolts_of.ensures, c.wholes_of.ensures)
