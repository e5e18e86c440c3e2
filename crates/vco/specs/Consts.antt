-- How many outputs there are, and the ends of the pulse width, by their bits.
use Rattle.std.specs.Prelude.{ℕ, Float}
use Rattle.std.specs.Float.{binary64}
use Rattle.std.specs.Float.Ieee.{of_bits}

abbrev pub n_ports : ℕ
n_ports = 4

-- 0.05
abbrev pub pw_low : Float
pw_low = of_bits binary64 0x3fa999999999999a

-- 0.95
abbrev pub pw_high : Float
pw_high = of_bits binary64 0x3fee666666666666
