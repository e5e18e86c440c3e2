-- A noise draw: rng.rs's next_f64 and next_f64_bipolar over a whole number k that the caller drew.
use Rattle.std.specs.Prelude.{ℕ, from_bits, Float}
use Rattle.std.specs.Float.{binary64}
use Rattle.std.specs.Float.Ieee.{sub, mul}
use Rattle.laws.specs.Float.{one, two}
use Rattle.numeric.specs.Basic.{real_of}

-- k as f64 * 2 ^ -53
unfoldable pub draw_of : ℕ → Float
draw_of k = mul binary64 (real_of k) (from_bits binary64 0x3ca0000000000000)

-- twice that less 1
unfoldable pub bipolar_of : ℕ → Float
bipolar_of k = sub binary64 (mul binary64 (draw_of k) two) one
