use borrow.Author.Rules.{rules}
use Prim.Native.Nat.{ℕ}
use lib.Ieee.{nan, binary64, sub, mul}
use Rattle.laws.specs.Float.{zer, one, two}
use Rattle.laws.proofs.Arrays.{from_fn_tab}
use Rattle.supersaw.specs.Shortcuts.{ramps_of}
use Rattle.supersaw.specs.Voices.{at}
use Rattle.supersaw.proofs.lanes.ramps.Goals as goal

pub returns : goal.returns
unfolding ramps_of
returns c =
    from_fn_tab _ (λ (i : ℕ). sub binary64 (sub binary64 (mul binary64 two (at c.args.t i)) one) zer) _ (λ i y q k. search rules) _ nan 8
    c.from_fn.ensures.items
