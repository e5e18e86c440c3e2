-- `gruttisol_score_read`: the lengths are asked first, and then the text.
use mathlib.Core.Path.{refl}
use Rattle.common.specs.Refusal.{refused_number}
use Rattle.boundary.proofs.Flat.{sized, kept_pass, kept_stop}
use Rattle.exports_score.specs.Calls.{score_read_at}
use Rattle.exports_score.proofs.gruttisol_score_read.Goals as goal

pub read_volts-requires : goal.read_volts-requires
unfolding refused_number
read_volts-requires c = sized _ _ _ _ 0 c.in-Ok.ensures refl

pub returns-in-Ok : goal.returns-in-Ok
unfolding score_read_at refused_number
returns-in-Ok c = rw c.code_of.ensures (kept_pass _ _ _ _ c.in-Ok.ensures _ _ c.read_volts.ensures)

pub returns-in-Err : goal.returns-in-Err
unfolding score_read_at refused_number
returns-in-Err c = kept_stop _ _ _ _ c.in-Err.refused _ c.in-Err.ensures c.number.ensures _
