-- A rate from 1000 to 192000, as a valid score has, is a good one.
use Prim.Native.Nat.{ℕ, ◌≤◌}
use mathlib.Core.Bool.{true}
use mathlib.Core.Path.{◌≡◌, refl}
use native.Mathlib.Omega.{arith}
use lib.IntN.{pos}
use lib.Ieee.{binary64, le, of_int, of_bits}
use lib.Ieee.Order.{round_mono}
use lib.Ieee.Bits.{is_true}
use Rattle.common.specs.Consts.{rate_low, rate_high}
use Rattle.common.specs.Tests.{rate_ok}
use Rattle.player.specs.Begin.{rate_of}
use Rattle.player.specs.Promises.{ValidRate}

low : rate_low ≡ of_int binary64 (pos 1000)
unfolding of_int of_bits
low = refl

high : rate_high ≡ of_int binary64 (pos 192000)
unfolding of_int of_bits
high = refl

in_order : (a b : ℕ) → a ≤ b → le (of_int binary64 (pos a)) (of_int binary64 (pos b)) ≡ true
unfolding of_int
in_order a b h = is_true _ (round_mono binary64 a 1 b 1 (omega arith) (omega arith) (omega arith))

good_rate : (hz : ℕ) → 1000 ≤ hz → hz ≤ 192000 → rate_ok (rate_of hz) ≡ true
unfolding rate_ok rate_of
good_rate hz a b = rw (low, high, in_order 1000 hz a, in_order hz 192000 b) refl

pub valid_rate : ValidRate
valid_rate s v = good_rate s.head.hz v.head.hz_least v.head.hz_most
