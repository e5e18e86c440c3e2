use mathlib.Core.Path.{ap, ◌∙◌}
use native.Mathlib.Numerals.{add-one}
use native.Mathlib.Omega.{arith}
use lib.Ieee.{nan}
use lib.ListN.{get_or}
use Rattle.laws.proofs.Over.{get_or_tab}
use Rattle.wavetable.specs.Bank.{sum_of}
use Rattle.wavetable.proofs.bank.Series.extend.Goals as goal

pub term-sum-requires : goal.term-sum-requires
term-sum-requires c = (omega arith, ap (λ l. get_or l c.loop-j.j nan) c.requires.3 ∙ get_or_tab nan _ 64 _ (omega arith))

pub loop-j-preserved : goal.loop-j-preserved
unfolding sum_of
loop-j-preserved c = rw (add-one, c.loop-j.invariant, c.term-sum.ensures)
