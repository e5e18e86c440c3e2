use mathlib.Core.Path.{◌≡◌}
use Rattle.wavetable.specs.Bank.{sum_of}
use Rattle.wavetable.specs.Shortcuts.{series_number}
use Rattle.wavetable.proofs.bank.Series.extend.Given as goal

abbrev pub invariant-loop-j : goal.invariant-loop-j
invariant-loop-j l = l.sum ≡ sum_of (series_number l.self) l.j l.i
