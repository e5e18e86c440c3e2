use mathlib.Core.Bool.{true}
use mathlib.Core.Path.{◌≡◌}
use lib.Seq.{sets}
use Rattle.laws.specs.Lists.{over}
use Rattle.answer.specs.Block.{after_ticks, mark_at, frame_at, joined}
use Rattle.common.specs.Tests.{phase_ok}
use Rattle.lfo.specs.Consts.{n_ports}
use Rattle.lfo.specs.Shortcuts.{held_told, held_next}
use Rattle.lfo.proofs.Setting.glide.Given as goal

abbrev pub invariant-loop-i : goal.invariant-loop-i
invariant-loop-i l = record {
  samples : l.samples
      ≡ sets l.initial.samples 0
      (joined (frame_at n_ports (held_told l.self.wanted l.self.depth l.self.numbers l.step) (held_next l.step) l.initial.phase) l.i);
  marks : l.marks
      ≡ over (mark_at (held_told l.self.wanted l.self.depth l.self.numbers l.step) (held_next l.step) l.initial.phase) l.i l.initial.marks;
  now : l.phase ≡ after_ticks (held_next l.step) l.i l.initial.phase;
  in_turn : phase_ok l.phase ≡ true;
}
