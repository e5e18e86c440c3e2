use borrow.Author.Rules.{rules}
use mathlib.Core.Path.{refl, ◌∙◌}
use Prim.Native.Nat.{ℕ}
use Rattle.std.specs.List.{range_with_len}
use Rattle.std.proofs.lemmas.Iterator.{YieldsList-from_range}
use Rattle.std.proofs.lemmas.Iterator.Search.{all_from_yields_List}
use Rattle.laws.specs.Lists.{all}
use Rattle.supersaw.proofs.Loops.{all_list}
use Rattle.supersaw.specs.Shortcuts.{steady_of, lanes_steady}
use Rattle.supersaw.specs.Voices.{at}
use Rattle.supersaw.proofs.lanes.all_steady.Goals as goal

pub returns : goal.returns
unfolding lanes_steady all
returns c = let test = λ (i : ℕ). steady_of (at c.args.t i) (at c.args.dt i) in
    all_from_yields_List test _ _ _ c.all.ensures.ran (YieldsList-from_range 0 8 8 refl refl) (λ x b q k. search rules)
    ∙ all_list 0 test (range_with_len 0 8) 8 refl
