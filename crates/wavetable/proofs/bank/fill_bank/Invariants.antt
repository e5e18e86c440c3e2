use mathlib.Core.Path.{◌≡◌}
use Prim.Native.Nat.{◌*◌}
use lib.ListN.{take}
use Rattle.laws.specs.Lists.{tab}
use Rattle.wavetable.specs.Bank.{bank_cell}
use Rattle.wavetable.proofs.bank.fill_bank.Given as goal

abbrev pub invariant-loop-number : goal.invariant-loop-number
invariant-loop-number l = take (2048 * l.number) l.bank ≡ tab bank_cell (2048 * l.number)
