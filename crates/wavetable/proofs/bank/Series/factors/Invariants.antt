use mathlib.Core.Path.{◌≡◌}
use Prim.Native.Nat.{ℕ, ◌<◌}
use lib.Ieee.{nan}
use lib.ListN.{length, get_or}
use Rattle.wavetable.specs.Bank.{turned}
use Rattle.wavetable.specs.Shortcuts.{series_number, first_sign, factor_of}
use Rattle.wavetable.proofs.bank.Series.factors.Given as goal

abbrev pub invariant-loop-k : goal.invariant-loop-k
invariant-loop-k l =
    record {
      size : length l.f-items ≡ 64;
      filled : (j : ℕ) → j < l.k → get_or l.f-items j nan ≡ factor_of (series_number l.self) j;
      sign : l.sign ≡ turned l.k (first_sign (series_number l.self));
    }
