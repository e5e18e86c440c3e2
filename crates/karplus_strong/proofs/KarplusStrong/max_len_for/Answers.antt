use Rattle.std.proofs.Common.{arith}
use Rattle.karplus_strong.specs.KarplusStrong.{max_len_of}
use Rattle.karplus_strong.proofs.Parts.{rate_in, max_len_range}
use Rattle.karplus_strong.proofs.KarplusStrong.max_len_for.Goals as goal

pub whole-requires : goal.whole-requires
whole-requires c = rate_in _ c.requires

pub overflow_add-result : goal.overflow_add-result
unfolding max_len_of
overflow_add-result c = let m = max_len_range _ c.requires in let w = c.whole.ensures in omega arith

pub returns : goal.returns
unfolding max_len_of
returns c = simp c.whole.ensures
