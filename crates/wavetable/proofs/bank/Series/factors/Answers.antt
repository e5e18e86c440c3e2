use mathlib.Core.Path.{refl, ap}
use native.Mathlib.Nat.{not-suc-le-zero}
use native.Mathlib.Numerals.{add-one}
use native.Mathlib.Omega.{arith}
use lib.Ieee.{nan, neg}
use lib.ListN.{length-set}
use Rattle.laws.proofs.Over.{cells_more, by_cells}
use Rattle.wavetable.specs.Bank.{turned}
use Rattle.wavetable.proofs.bank.Series.factors.Goals as goal

pub loop-k-init : goal.loop-k-init
unfolding turned
loop-k-init c = record { size = refl; filled = λ j h. absurd (not-suc-le-zero h); sign = c.first_sign-sign.ensures }

pub loop-k-preserved : goal.loop-k-preserved
unfolding turned
loop-k-preserved c = let s = c.loop-k.invariant in record {
  size = simp length-set s.size;
  filled = cells_more nan _ _ _ _ (omega arith) c.factor.ensures s.filled;
  sign = rw add-one (ap neg s.sign);
}

pub returns : goal.returns
returns c = let s = c.loop-k.invariant in by_cells nan _ 64 _ s.size (λ i h. s.filled i (omega arith))
