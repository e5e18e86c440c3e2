use mathlib.Core.Path.{◌≡◌}
use Prim.Native.Nat.{ℕ, ◌≤◌, ◌<◌}
use lib.ListN.{length}
use Rattle.wavetable.specs.Bank.{sum_of, terms_of}
use Rattle.wavetable.specs.Shortcuts.{series_number, Right}
use Rattle.wavetable.proofs.bank.Series.column.Given as goal

abbrev pub invariant-loop-level : goal.invariant-loop-level
invariant-loop-level l =
    record {
      size : length l.part ≡ 2048;
      fewer : (m : ℕ) → m < l.level → l.k ≤ terms_of (series_number l.self) m;
      sum : l.sum ≡ sum_of (series_number l.self) l.k l.i;
      right : Right (series_number l.self) l.part l.i l.level;
    }
