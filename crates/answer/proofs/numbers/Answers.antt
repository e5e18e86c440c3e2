use borrow.Author.Rules.{rules}
use mathlib.Core.Bool.{not, ◌&&◌}
use mathlib.Core.List.{List, [], ◌∷◌}
use mathlib.Core.Path.{◌≡◌, refl, ap, ◌∙◌}
use lib.Ieee.{Float, is_nan}
use Rattle.std.specs.List.{list_all}
use Rattle.std.proofs.lemmas.Iterator.{YieldsList-from_slice}
use Rattle.std.proofs.lemmas.Iterator.Search.{all_from_yields_List}
use Rattle.answer.specs.Mark.{all_numbers}
use Rattle.answer.proofs.numbers.Goals as goal

each : (xs : List Float) → list_all (λ (x : Float). not (is_nan x)) xs ≡ all_numbers xs
unfolding all_numbers
each [] = refl
each (x ∷ xs) = ap (λ b. not (is_nan x) && b) (each xs)

pub returns : goal.returns
returns g c = all_from_yields_List (λ (x : Float). not (is_nan x)) _ _ _ c.all.ensures.ran (YieldsList-from_slice c.args.controls cc) (λ x b q k. search rules)
    ∙ each c.args.controls
