-- The size of a phase, of the constants, of a sine and a cosine, by powers of two; and an output that is finite.
use mathlib.Core.Bool.{Bool, true, false, ◌&&◌}
use mathlib.Core.Path.{◌≡◌, refl}
use Prim.Native.Nat.{ℕ, ◌+◌, ◌≤◌}
use lib.Ieee.{Float, binary64, le, lt, eq, mul, neg, of_bits}
use lib.Ieee.Bits.{is_true}
use lib.Ieee.Fits.{and_l, and_r}
use Rattle.laws.proofs.Interval.{Within, unit_within, within_finite, within_le, within_mul, within_of, within_to}
use Rattle.laws.proofs.Order.{float_le_trans, le_of_lt_true}
use Rattle.laws.proofs.Tests.{of_true}
use Rattle.laws.specs.Float.{zer, one, two, is_fin}
use Rattle.numeric.proofs.TrigLaws.{cos_inside, sin_inside}
use Rattle.numeric.specs.Trig.{cos_of, sin_of}
use Rattle.common.specs.Consts.{four, five, half}
use Rattle.numeric.specs.Basic.{tau}
use Rattle.common.specs.Phase.{turns}
use Rattle.common.specs.Ports.{out_of}
use Rattle.common.specs.Tests.{phase_ok}

pub phase_within : (p : Float) → phase_ok (turns p) ≡ true → Within 0 p
unfolding phase_ok
phase_within p h =
    let t = of_true (le zer p && lt p one) h in
    unit_within p
    (float_le_trans (neg one) zer p (unfold le lt eq neg of_bits in tt) (and_l (le zer p) (lt p one) t), le_of_lt_true p one (and_r (le zer p) (lt p one) t))

pub zer_within : Within 0 zer
unfolding of_bits
zer_within = within_of 0 zer tt

pub one_within : Within 0 one
unfolding of_bits
one_within = within_of 0 one tt

pub half_within : Within 0 half
unfolding of_bits
half_within = within_of 0 half tt

pub two_within : Within 1 two
unfolding of_bits
two_within = within_of 1 two tt

pub four_within : Within 2 four
unfolding of_bits
four_within = within_of 2 four tt

pub five_within : Within 3 five
unfolding of_bits
five_within = within_of 3 five tt

pub tau_within : Within 3 tau
unfolding of_bits
tau_within = within_of 3 tau tt

-- the sine and the cosine of what is at most 512 in size
pub sin_within : (i : ℕ) (x : Float) → i ≤ 9 → Within i x → Within 0 (sin_of x)
sin_within i x l h = unit_within (sin_of x) (sin_inside x (unfold of_bits neg in within_le 9 x (within_to i 9 x l h)))

pub cos_within : (i : ℕ) (x : Float) → i ≤ 9 → Within i x → Within 0 (cos_of x)
cos_within i x l h = unit_within (cos_of x) (cos_inside x (unfold of_bits neg in within_le 9 x (within_to i 9 x l h)))

-- an output is finite, scaled or unwanted
pub out_finite : (want : Bool) (k : ℕ) (x : Float) → k + 3 ≤ 1023 → Within k x → is_fin (out_of want x) ≡ true
unfolding out_of
out_finite true k x h p = is_true _ (within_finite (k + 3) (mul binary64 x five) (within_mul k 3 x five h p five_within))
out_finite false k x h p = unfold of_bits in refl
