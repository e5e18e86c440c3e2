use mathlib.Core.Bool.{true, false}
use mathlib.Core.Path.{◌≡◌, ◌∙◌}
use Rattle.std.proofs.Common.{rules}
use Rattle.std.proofs.lemmas.Iterator.{first_from_Range}
use borrow.Author.Tests.{tests}
use Rattle.wavetable.proofs.Levels.{fits, level_found}
use Rattle.wavetable.proofs.select_level.Goals as goal

pub returns : goal.returns
returns c = let a = c.args in
    c.unwrap_or.ensures
    ∙ level_found a.table a.allowed c.find.result
    (first_from_Range _ _ _ _ (λ k. fits a.table a.allowed k ≡ true) (λ k. fits a.table a.allowed k ≡ false) c.find.ensures.ran
    (λ x q k. search (rules, tests)) (λ x q k. search (rules, tests)))
