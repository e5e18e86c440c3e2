-- The Rust's constants of the Lfo, by their bits.
use Rattle.std.specs.Prelude.{ℕ, Float}
use Rattle.std.specs.Float.{binary64}
use Rattle.std.specs.Float.Ieee.{of_bits}

-- how many outputs there are
abbrev pub n_ports : ℕ
n_ports = 6

-- 10, and the lowest frequency in hertz: 0.01
abbrev pub ten : Float
ten = of_bits binary64 0x4024000000000000

abbrev pub lowest : Float
lowest = of_bits binary64 0x3f847ae147ae147b
