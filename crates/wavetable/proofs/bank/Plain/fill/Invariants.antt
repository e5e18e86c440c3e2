use mathlib.Core.Path.{◌≡◌}
use Rattle.laws.specs.Lists.{over}
use Rattle.wavetable.specs.Bank.{table_cell}
use Rattle.wavetable.specs.Shortcuts.{plain_number}
use Rattle.wavetable.proofs.bank.Plain.fill.Given as goal

abbrev pub invariant-loop-j : goal.invariant-loop-j
invariant-loop-j l = l.part ≡ over (table_cell (plain_number l.self)) l.j l.initial.part
