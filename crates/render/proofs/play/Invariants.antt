-- `play`: between two pieces the player stands where the pieces before it end.
use Prim.Native.Nat.{◌-◌}
use Rattle.render.proofs.Written.{Turn}
use Rattle.render.proofs.play.Given as goal

abbrev pub invariant-loop-first : goal.invariant-loop-first
invariant-loop-first g l = Turn l.score l.frames l.osc l.ports l.out l.samples l.marks l.player l.tally l.first l.wrote

abbrev pub decreases-loop-first : goal.decreases-loop-first
decreases-loop-first g l = l.frames - l.first
