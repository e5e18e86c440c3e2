use borrow.Author.Rules.{rules}
use Prim.Native.Nat.{ℕ}
use lib.Ieee.{nan}
use Rattle.common.specs.Phase.{turns, wrap_phase_of}
use Rattle.laws.proofs.Arrays.{from_fn_tab}
use Rattle.supersaw.specs.Shortcuts.{wraps_of}
use Rattle.supersaw.specs.Voices.{at}
use Rattle.supersaw.proofs.lanes.wraps.Goals as goal

pub returns : goal.returns
unfolding wraps_of
returns c = from_fn_tab _ (λ (i : ℕ). (wrap_phase_of (turns (at c.args.x i))).phase.0) _ (λ i y q k. search rules) _ nan 8 c.from_fn.ensures.items
