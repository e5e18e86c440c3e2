use borrow.Author.Rules.{rules}
use mathlib.Core.Path.{◌∙◌}
use lib.Ieee.{nan}
use Rattle.std.proofs.lemmas.Iterator.{YieldsList-from_slice}
use Rattle.std.proofs.lemmas.Iterator.Search.{all_from_yields_List}
use Rattle.laws.specs.Float.{is_fin}
use Rattle.supersaw.proofs.Loops.{all_list}
use Rattle.supersaw.specs.Shortcuts.{lanes_finite}
use Rattle.supersaw.proofs.lanes.all_finite.Goals as goal

pub returns : goal.returns
unfolding lanes_finite
returns c = all_from_yields_List is_fin _ _ _ c.all.ensures.ran (YieldsList-from_slice c.args.x cc) (λ x b q k. search rules)
    ∙ all_list nan is_fin c.args.x 8 (search rules)
