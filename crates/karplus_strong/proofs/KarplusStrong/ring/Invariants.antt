use Rattle.karplus_strong.specs.Shortcuts.{with_loop, held_answer, held_next}
use Rattle.karplus_strong.specs.KarplusStrong.{strung}
use Rattle.answer.specs.Block.{after_ticks, mark_at, frame_at, joined}
use Rattle.laws.specs.Lists.{over}
use lib.Seq.{sets}
use Rattle.std.proofs.Common.{◌≡◌, ◌≤◌, length}
use Rattle.karplus_strong.specs.Consts.{n_ports}
use Rattle.karplus_strong.proofs.KarplusStrong.ring.Given as goal

abbrev pub invariant-loop-i : goal.invariant-loop-i
invariant-loop-i l = let x = strung l.self l.initial.line in
    record {
      samples_so_far : l.samples ≡ sets l.initial.samples 0 (joined (frame_at n_ports (held_answer l.t) (held_next l.t) x) l.i);
      marks_so_far : l.marks ≡ over (mark_at (held_answer l.t) (held_next l.t) x) l.i l.initial.marks;
      turned : strung (with_loop l.self l.turning) l.line ≡ after_ticks (held_next l.t) l.i x;
      in_line : l.turning.len ≤ length l.initial.line;
    }
