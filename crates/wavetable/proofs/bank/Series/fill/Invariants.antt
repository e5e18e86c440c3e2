use mathlib.Core.Path.{◌≡◌}
use lib.ListN.{length}
use Rattle.wavetable.specs.Shortcuts.{series_number, Right}
use Rattle.wavetable.proofs.bank.Series.fill.Given as goal

abbrev pub invariant-loop-i : goal.invariant-loop-i
invariant-loop-i l = (length l.part ≡ 2048) × Right (series_number l.self) l.part l.i 8
