use Rattle.karplus_strong.specs.KarplusStrong.{period_of}
use Rattle.karplus_strong.proofs.Parts.{held, max_len_range, period_high, period_two}
use Rattle.karplus_strong.proofs.period_of.Goals as goal

pub int_to_float-max_len : goal.int_to_float-max_len
int_to_float-max_len c = held _ (rw c.max_len_for-max_len.ensures (max_len_range _ c.requires).1)

pub returns-then-period : goal.returns-then-period
returns-then-period c = period_high _ _ c.requires c.if-freq.true c.if-period.true

pub returns-else-period : goal.returns-else-period
returns-else-period c = period_two _ _ c.requires c.if-freq.true c.if-period.false

pub returns-else-freq : goal.returns-else-freq
unfolding period_of
returns-else-freq c = simp (c.clamp.ensures, c.max_len_for-max_len.ensures)
