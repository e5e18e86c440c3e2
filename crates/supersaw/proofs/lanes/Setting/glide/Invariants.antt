use mathlib.Core.Path.{◌≡◌}
use lib.Seq.{sets}
use Rattle.laws.specs.Lists.{over}
use Rattle.answer.specs.Block.{after_ticks, mark_at, frame_at, joined}
use Rattle.supersaw.specs.Consts.{n_ports}
use Rattle.supersaw.specs.Shortcuts.{held_told, held_next}
use Rattle.supersaw.proofs.lanes.Setting.glide.Given as goal

abbrev pub invariant-loop-i : goal.invariant-loop-i
invariant-loop-i l = record {
  samples : l.samples ≡ sets l.initial.samples 0 (joined (frame_at n_ports (held_told l.self.dt l.self.mix l.self.numbers)
      (held_next l.self.dt l.self.mix l.self.numbers) l.fn.first) l.i);
  marks : l.marks
      ≡ over (mark_at (held_told l.self.dt l.self.mix l.self.numbers) (held_next l.self.dt l.self.mix l.self.numbers) l.fn.first) l.i l.initial.marks;
  phases : l.t ≡ after_ticks (held_next l.self.dt l.self.mix l.self.numbers) l.i l.fn.first;
}
