use borrow.Author.Rules.{rules}
use Prim.Native.Nat.{ℕ}
use lib.Ieee.{nan}
use Rattle.laws.proofs.Arrays.{from_fn_tab}
use Rattle.supersaw.specs.Shortcuts.{saws_of}
use Rattle.supersaw.specs.Voices.{at, saw_of}
use Rattle.supersaw.proofs.lanes.saws.Goals as goal

pub returns : goal.returns
unfolding saws_of
returns c = from_fn_tab _ (λ (i : ℕ). saw_of (at c.args.t i) (at c.args.dt i)) _ (λ i y q k. search rules) _ nan 8 c.from_fn.ensures.items
