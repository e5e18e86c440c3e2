use mathlib.Core.Path.{◌≡◌}
use lib.Seq.{sets}
use Rattle.laws.specs.Lists.{over}
use Rattle.answer.specs.Block.{after_ticks, mark_at, frame_at, joined}
use Rattle.vco.specs.Consts.{n_ports}
use Rattle.vco.specs.Shortcuts.{held, held_told, held_next}
use Rattle.vco.proofs.moment.Setting.glide.Given as goal

abbrev pub invariant-loop-i : goal.invariant-loop-i
invariant-loop-i l = record {
  samples : l.samples
      ≡ sets l.initial.samples 0
      (joined (frame_at n_ports (held_told l.self.wanted l.self.pw l.self.numbers l.self.dt) (held_next l.self.dt) (held l.fn.first.p_old l.fn.first.at)) l.i);
  marks : l.marks
      ≡ over (mark_at (held_told l.self.wanted l.self.pw l.self.numbers l.self.dt) (held_next l.self.dt) (held l.fn.first.p_old l.fn.first.at)) l.i
      l.initial.marks;
  held_now : held l.now.p_old l.now.at ≡ after_ticks (held_next l.self.dt) l.i (held l.fn.first.p_old l.fn.first.at);
}
