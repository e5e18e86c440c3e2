use borrow.Author.Rules.{rules}
use mathlib.Core.Path.{◌∙◌}
use lib.Ieee.{Float, nan}
use Rattle.std.proofs.lemmas.Iterator.{YieldsList-from_slice}
use Rattle.std.proofs.lemmas.Iterator.Search.{all_from_yields_List}
use Rattle.common.specs.Phase.{turns}
use Rattle.common.specs.Tests.{phase_ok}
use Rattle.supersaw.proofs.Loops.{all_list}
use Rattle.supersaw.specs.Supersaw.{phases_ok}
use Rattle.supersaw.proofs.phases_ok.Goals as goal

pub returns : goal.returns
unfolding phases_ok
returns c = all_from_yields_List (λ (x : Float). phase_ok (turns x)) _ _ _ c.all.ensures.ran (YieldsList-from_slice c.args.phases cc) (λ x b q k. search rules)
    ∙ all_list nan (λ (x : Float). phase_ok (turns x)) c.args.phases 7 (search rules)
