use Rattle.std.proofs.Common.{arith}
use Rattle.noise_generator.proofs.CountLaws.{changed_by_lem}
use Rattle.noise_generator.proofs.changed_by.Goals as goal

pub overflow_sub-result : goal.overflow_sub-result
overflow_sub-result c = let k = changed_by_lem c.args.index c.args.n in omega (arith, c.climbed.ensures, c.climbed-2.ensures)
