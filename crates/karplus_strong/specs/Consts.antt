-- The string's own constants, by their bits.
use Rattle.std.specs.Prelude.{ℕ, from_bits, Float}
use Rattle.std.specs.Float.{binary64}

-- the number of its outputs
abbrev pub n_ports : ℕ
n_ports = 1

-- 20: the lowest frequency that a line has room for
abbrev pub twenty : Float
twenty = from_bits binary64 0x4034000000000000

-- 0.49: what damping spreads the filter's coefficient over
abbrev pub spread : Float
spread = from_bits binary64 0x3fdf5c28f5c28f5c

-- LOOP_LEAK: 0.9995
abbrev pub loop_leak : Float
loop_leak = from_bits binary64 0x3feffbe76c8b4396
