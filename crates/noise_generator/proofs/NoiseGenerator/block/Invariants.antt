use Rattle.std.proofs.Common.{◌≡◌, ◌*◌, ◌≤◌, length}
use lib.Seq.{sets}
use Rattle.laws.specs.Lists.{over}
use Rattle.answer.specs.Block.{mark_at, frame_at, joined}
use Rattle.common.specs.Tests.{draws_refusal_of}
use Rattle.noise_generator.specs.Consts.{n_ports}
use Rattle.noise_generator.specs.NoiseGenerator.{needed_by}
use Rattle.noise_generator.specs.NoiseGenerator.{generator, drawing, noise_generator_told_of, noise_generator_next_of}
use Rattle.noise_generator.specs.Shortcuts.{pink_at}
use Rattle.noise_generator.proofs.TickLaws.{drawing_at}
use Rattle.noise_generator.proofs.NoiseGenerator.block.Given as goal

abbrev pub invariant-loop-i : goal.invariant-loop-i
invariant-loop-i l =
    record {
      samples_size : length l.samples ≡ n_ports * length l.initial.marks;
      marks_size : length l.marks ≡ length l.initial.marks;
      samples : l.samples
          ≡ sets l.initial.samples 0
          (joined (frame_at n_ports (noise_generator_told_of l.fn.c l.wanted) (noise_generator_next_of l.fn.c l.wanted) (drawing l.fn.self l.draws)) l.i);
      marks : l.marks
          ≡ over (mark_at (noise_generator_told_of l.fn.c l.wanted) (noise_generator_next_of l.fn.c l.wanted) (drawing l.fn.self l.draws)) l.i l.initial.marks;
      state : generator (pink_at l.rows l.pink) (pink_at l.rows2 l.pink2) l.fn.self.correlation l.last_white
          ≡ (drawing_at l.fn.self l.fn.c l.wanted l.draws l.i).noise;
      enough : draws_refusal_of (needed_by l.fn.self (length l.initial.marks)) l.draws ≡ 0;
      taken : l.at ≡ needed_by l.fn.self l.i;
      fits : l.at ≤ length l.draws;
    }
