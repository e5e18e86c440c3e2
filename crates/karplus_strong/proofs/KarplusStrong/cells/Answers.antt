use Rattle.std.proofs.Common.{sym, ◌∙◌, arith}
use Rattle.karplus_strong.specs.KarplusStrong.{karplus_strong_cells_of}
use Rattle.karplus_strong.proofs.Parts.{max_len_range}
use Rattle.karplus_strong.proofs.KarplusStrong.cells.Goals as goal

pub max_len_for-requires : goal.max_len_for-requires
max_len_for-requires c = sym c.rate_ok.ensures ∙ c.if-rate_ok.true

pub overflow_add-result : goal.overflow_add-result
overflow_add-result c = let m = max_len_range _ (sym c.rate_ok.ensures ∙ c.if-rate_ok.true) in let w = c.max_len_for.ensures in omega arith

pub returns-then-rate_ok : goal.returns-then-rate_ok
unfolding karplus_strong_cells_of
returns-then-rate_ok c = simp (c.max_len_for.ensures, ← c.rate_ok.ensures, c.if-rate_ok.true)

pub returns-else-rate_ok : goal.returns-else-rate_ok
unfolding karplus_strong_cells_of
returns-else-rate_ok c = simp (← c.rate_ok.ensures, c.if-rate_ok.false)
