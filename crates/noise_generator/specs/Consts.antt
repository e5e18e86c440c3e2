-- The Rust's constants of the NoiseGenerator, by their bits.
use Rattle.std.specs.Prelude.{ℕ, from_bits, Float}
use Rattle.std.specs.Float.{binary64}

-- how many outputs there are
abbrev pub n_ports : ℕ
n_ports = 4

-- 16, the number of rows
abbrev pub sixteen : Float
sixteen = from_bits binary64 0x4030000000000000

-- the correlation of a new one: 0.3
abbrev pub new_correlation : Float
new_correlation = from_bits binary64 0x3fd3333333333333
