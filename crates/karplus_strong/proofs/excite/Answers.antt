use Rattle.std.proofs.Common.{length, ap, ◌∙◌, le_antisymm}
use lib.Ieee.{nan, binary64, sub, div}
use Rattle.laws.specs.Lists.{over}
use Rattle.laws.proofs.Over.{over_none, over_more, over_at}
use Rattle.karplus_strong.proofs.Cells.{struck_by}
use Rattle.karplus_strong.specs.Line.{excited_at, excited_of, level_at, level_of}
use Rattle.karplus_strong.proofs.excite.Goals as goal

pub loop-i-init : goal.loop-i-init
loop-i-init c = over_none _ _

pub loop-i-preserved : goal.loop-i-preserved
unfolding excited_at
loop-i-preserved c = over_more _ _ _ _ _ c.loop-i-test.true c.loop-i.invariant c.pulse.ensures

pub loop-cell-init : goal.loop-cell-init
loop-cell-init c = over_none _ _

pub loop-cell-preserved : goal.loop-cell-preserved
unfolding level_at
loop-cell-preserved c = let more = c.loop-cell-test.true in
    let s = c.loop-cell.invariant in
    over_more _ _ _ _ _ more s (ap (λ x. sub binary64 x (div binary64 c.sum.result c.nearest_usize_to_f64.result)) (rw s (over_at nan _ _ _ more)))

pub returns : goal.returns
unfolding excited_of level_of
returns c = let a = c.args in
    let end = le_antisymm c.loop-i.auto.i-end c.loop-i-test.false in
    let filled = ap (λ k. over (excited_at (length a.cells.now) a.brightness a.draws.now) k a.cells.now) end in
    let mean = div binary64 c.sum.result c.nearest_usize_to_f64.result in
    let levelled = ap (λ k. over (level_at mean c.loop-i.cells) k c.loop-i.cells) (le_antisymm c.loop-cell.auto.cell-index-end c.loop-cell-test.false) in
    struck_by _ _ _ _ _ _ _ _ c.loop-i.auto.cells (c.loop-i.invariant ∙ filled) c.sum.ensures c.nearest_usize_to_f64.ensures (c.loop-cell.invariant ∙ levelled)
