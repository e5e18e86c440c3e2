use mathlib.Core.Path.{◌≡◌}
use Rattle.supersaw.specs.Shortcuts.{mix_to}
use Rattle.supersaw.proofs.lanes.mixed.Given as goal

abbrev pub invariant-loop-i : goal.invariant-loop-i
invariant-loop-i l = l.sum ≡ mix_to l.s l.i
