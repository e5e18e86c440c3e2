use Rattle.std.proofs.Common.{rules, ◌+◌, get_or}
use lib.Ieee.{nan}
use Rattle.exports_noise_generator.specs.State.{rows_at}
use Rattle.laws.proofs.Arrays.{from_fn_tab}
use Rattle.exports_noise_generator.proofs.rows_at.Goals as goal

pub returns : goal.returns
unfolding rows_at
returns c = let a = c.args in from_fn_tab _ (λ i. get_or a.floats.now (a.at + i) nan) _ (λ i y q k. search rules) _ nan 16 c.from_fn.ensures.items
