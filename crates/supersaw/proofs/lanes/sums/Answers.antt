use borrow.Author.Rules.{rules}
use Prim.Native.Nat.{ℕ}
use lib.Ieee.{nan, binary64, add}
use Rattle.laws.proofs.Arrays.{from_fn_tab}
use Rattle.supersaw.specs.Shortcuts.{sums_of}
use Rattle.supersaw.specs.Voices.{at}
use Rattle.supersaw.proofs.lanes.sums.Goals as goal

pub returns : goal.returns
unfolding sums_of
returns c = from_fn_tab _ (λ (i : ℕ). add binary64 (at c.args.t i) (at c.args.dt i)) _ (λ i y q k. search rules) _ nan 8 c.from_fn.ensures.items
