-- `frame::are_frames`: whole frames, as many as there are marks, and the last one's number is a u32.
use mathlib.Core.Bool.{false≢true}
use mathlib.Core.Path.{sym, ◌∙◌}
use native.Mathlib.Omega.{arith}
use borrow.Author.Tests.{ne_eqb}
use Rattle.answer.proofs.Blocks.{whole_frames, part_frames, room_test}
use Rattle.frame.specs.Frames.{are_frames}
use Rattle.frame.proofs.Played.{some_ports}
use Rattle.frame.proofs.are_frames.Goals as goal
use Rattle.frame.proofs.are_frames.Goals.{then-samples-ports-eq0, else-samples-ports-eq0}

pub nonzero_rem-samples : goal.nonzero_rem-samples
nonzero_rem-samples c = some_ports _ _ c.ports_of-ports.ensures

pub nonzero_div-samples : goal.nonzero_div-samples
nonzero_div-samples c = some_ports _ _ c.ports_of-ports.ensures

pub returns-then-samples-ports : goal.returns-then-samples-ports
unfolding are_frames
returns-then-samples-ports c = let asked = c.args in
    let ports = c.ports_of-ports.ensures in
    elim c.if-samples-ports-eq0.branch [
      | then-samples-ports-eq0 w ↦
          simp (
            ← ports,
            sym (whole_frames _ _ _ (some_ports _ _ ports) w.if-samples-ports-eq0.true) ∙ sym w.value-is ∙ c.if-samples-ports.true,
            room_test asked.first asked.n (omega arith),
          )
      | else-samples-ports-eq0 w ↦ absurd (false≢true (sym (ne_eqb _ _ w.if-samples-ports-eq0.false) ∙ sym w.value-is ∙ c.if-samples-ports.true))
    ]

pub returns-else-samples-ports : goal.returns-else-samples-ports
unfolding are_frames
returns-else-samples-ports c = let ports = c.ports_of-ports.ensures in
    elim c.if-samples-ports-eq0.branch [
      | then-samples-ports-eq0 w ↦
          simp (
            ← ports,
            c.if-samples-ports.false,
            sym (whole_frames _ _ _ (some_ports _ _ ports) w.if-samples-ports-eq0.true) ∙ sym w.value-is ∙ c.if-samples-ports.false,
          )
      | else-samples-ports-eq0 w ↦ simp (← ports, c.if-samples-ports.false, sym (part_frames _ _ c.args.n w.if-samples-ports-eq0.false))
    ]
