use Rattle.std.proofs.Common.{◌≡◌}
use Rattle.noise_generator.specs.Pink.{rowed, rows_of}
use Rattle.noise_generator.proofs.Rowless.sample.Given as goal

abbrev pub invariant-loop-i : goal.invariant-loop-i
invariant-loop-i l = rowed l.rows l.running_sum ≡ rows_of l.draws l.at (rowed l.initial.rows l.fn.self.running_sum) l.i
