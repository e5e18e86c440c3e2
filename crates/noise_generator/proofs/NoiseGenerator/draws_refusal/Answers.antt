use Rattle.std.proofs.Common.{arith}
use Rattle.common.proofs.DrawLaws.{draws_few}
use Rattle.common.specs.Refusal.{number_of, refused_number}
use Rattle.noise_generator.proofs.CountLaws.{needed_least}
use Rattle.noise_generator.proofs.NoiseGenerator.draws_refusal.Goals as goal

pub returns-then-draws-n : goal.returns-then-draws-n
unfolding refused_number number_of
returns-then-draws-n c = let k = needed_least c.args.self c.args.n in draws_few _ _ (omega arith)
