-- Shortcuts of the code: no public contract and no promise cites them, so nobody need believe them; proofs/Held.antt shows that they
-- are what the definitions say.
use Rattle.std.specs.Prelude.{Bool, true, false, ℕ, Float}
use Rattle.std.specs.Float.{binary64}
use Rattle.std.specs.Float.Ieee.{add}
use Rattle.answer.specs.Mark.{mark_of}
use Rattle.answer.specs.declared.Answer.{Answer}
use Rattle.common.specs.Phase.{turns, wrap_phase_of}
use Rattle.common.specs.declared.Turns.{Turns}
use Rattle.laws.specs.Float.{is_fin}
use Rattle.lfo.specs.Lfo.{lfo_outputs_of}

-- ---- a tick whose reset and rate stand still: no edge is taken and the memo holds, so only the phase moves
unfoldable pub held_told : ℕ → Float → Bool → Turns → Turns → Answer
held_told wanted depth numbers step phase =
    let next = add binary64 phase.0 step.0 in
    mark_of (lfo_outputs_of wanted phase.0 depth (wrap_phase_of (turns next)).turned) false true (is_fin next) numbers

unfoldable pub held_next : Turns → Turns → Turns
held_next step phase = (wrap_phase_of (turns (add binary64 phase.0 step.0))).phase
