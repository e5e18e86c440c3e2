-- Numbers that are finite, and controls brought into their range.
use Rattle.std.proofs.Common.{◌≡◌, true, false, refl}
use lib.Ieee.{Float, nan, inf, fin, binary64, sub, add, neg, eq, le, of_bits}
use Rattle.laws.proofs.Order.{lt_false, between_fin}
use Rattle.laws.proofs.Tests.{of_true}
use Rattle.laws.proofs.Values.{sub_self_zero}
use Rattle.laws.specs.Float.{is_fin}
use Rattle.numeric.specs.Basic.{clamp_of}
use Rattle.karplus_strong.specs.KarplusStrong.{finite_or}

-- a number less itself is no NaN only where it is finite
pub settled_test : (x : Float) → eq (sub binary64 x x) (sub binary64 x x) ≡ is_fin x
settled_test nan = unfold sub add neg eq in refl
settled_test (inf true) = unfold sub add neg eq in refl
settled_test (inf false) = unfold sub add neg eq in refl
settled_test (fin s m e) = rw (sub_self_zero (fin s m e) tt) (unfold eq of_bits in refl)

-- what lies between finite ends is left alone by the fallback and the clamp
pub within_is : (x d lo hi : Float) → is_fin lo ≡ true → is_fin hi ≡ true → le lo x ≡ true → le x hi ≡ true → x ≡ clamp_of (finite_or x d) lo hi
unfolding clamp_of finite_or
within_is x d lo hi l h a b = simp (between_fin x lo hi l h a b, lt_false x lo (of_true (le lo x) a), lt_false hi x (of_true (le x hi) b))
