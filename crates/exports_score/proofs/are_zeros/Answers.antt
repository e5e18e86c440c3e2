-- `are_zeros`: each of them is asked.
use mathlib.Core.Path.{◌∙◌}
use Rattle.std.proofs.Common.{rules}
use Rattle.std.proofs.lemmas.Iterator.Search.{all_from_yields_List}
use Rattle.std.proofs.lemmas.Iterator.{YieldsList-from_slice}
use Rattle.exports_score.specs.Cells.{is_zero}
use Rattle.exports_score.proofs.Cells.{zeros_all}
use Rattle.exports_score.proofs.are_zeros.Goals as goal

pub returns : goal.returns
returns c =
    all_from_yields_List is_zero _ _ _ c.all.ensures.ran (YieldsList-from_slice c.args.cells.now cc) (λ x b q k. search rules)
    ∙ zeros_all c.args.cells.now
