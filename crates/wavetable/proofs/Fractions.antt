-- A small number's floor is what it is cast to.
use mathlib.Core.Bool.{true, false, false≢true}
use mathlib.Core.Path.{◌≡◌, refl, sym, ap, subst, ◌∙◌}
use Prim.Native.Nat.{ℕ, ◌*◌, ◌^◌, ◌<◌, ◌≤◌}
use native.Mathlib.Omega.{arith}
use lib.Dec.{T, lit<, ltb→lt}
use lib.Ieee.Fits.{down_pos}
use lib.Ieee.{Float, nan, inf, fin, binary64, lt, sub, up, down, of_bits}
use lib.IntN.{pos}
use Rattle.laws.proofs.Order.{lt_not_ge, lt_by_values, below_le, lt_nan}
use Rattle.laws.proofs.Tests.{of_true}
use Rattle.laws.specs.Float.{zer, F64}
use Rattle.numeric.proofs.RangeLaws.{floor_cast}
use Rattle.numeric.specs.Basic.{whole_of, real_of}
use Rattle.numeric.specs.Floor.{floor_of}
use Rattle.wavetable.specs.Consts.{table_size_real}

-- m * up e over down e is below 256, and so not above 2 ^ 53
bounded : (n d : ℕ) → n * 1 < 256 * d → n ≤ 2 ^ 53 * d
bounded n d h = omega arith

pub floor_small : (x : Float) → F64 x → lt zer x ≡ true → lt x table_size_real ≡ true → floor_of x ≡ real_of (whole_of x)
floor_small nan f a b = absurd (false≢true (sym (lt_nan zer) ∙ a))
floor_small (inf true) f a b = absurd (unfold lt of_bits in false≢true a)
floor_small (inf false) f a b = absurd (unfold lt of_bits in false≢true b)
floor_small (fin true m e) f a b = absurd (lt_not_ge zer (fin true m e) (of_true _ a) (unfold of_bits in below_le true false m 0 e (pos 0) tt))
floor_small (fin false m e) f a b =
    floor_cast (fin false m e) (m * up e) (down e) (down_pos e) f (refl, refl)
    (bounded (m * up e) (down e)
    (ltb→lt (m * up e * 1) (256 * down e)
    (subst T (lt_by_values (fin false m e) table_size_real (m * up e) (down e) 256 1 (down_pos e) (lit< tt) (refl, refl) (unfold of_bits in (refl, refl)))
    (of_true _ b))))

pub fraction_is : (x r : Float) (n : ℕ) → F64 x → n ≡ whole_of x → r ≡ real_of n → lt zer x ≡ true → lt x table_size_real ≡ true
    → sub binary64 x r ≡ sub binary64 x (floor_of x)
fraction_is x r n f e q a b = ap (sub binary64 x) (q ∙ ap real_of e ∙ sym (floor_small x f a b))
