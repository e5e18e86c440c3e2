-- The Rust's constants, by their bits, and one of ours.
use Rattle.std.specs.Prelude.{Float}
use Rattle.std.specs.Float.{binary64}
use Rattle.std.specs.Float.Ieee.{of_bits}

-- C4_HZ: 261.6255653005986
abbrev pub c4 : Float
c4 = of_bits binary64 0x40705a0250c2b956

-- GATE_THRESHOLD_V: 2.5
abbrev pub gate_threshold : Float
gate_threshold = of_bits binary64 0x4004000000000000

-- and of banks from issue 2 on, by request CR 7: 1.0
abbrev pub low_gate_threshold : Float
low_gate_threshold = of_bits binary64 0x3ff0000000000000

-- MAX_ABS_VOCT: 32
abbrev pub max_voct : Float
max_voct = of_bits binary64 0x4040000000000000

-- 3, 4, 5 and a half
abbrev pub three : Float
three = of_bits binary64 0x4008000000000000

abbrev pub four : Float
four = of_bits binary64 0x4010000000000000

abbrev pub five : Float
five = of_bits binary64 0x4014000000000000

abbrev pub half : Float
half = of_bits binary64 0x3fe0000000000000

-- refusal 1's ends: 1,000 and 192,000
abbrev pub rate_low : Float
rate_low = of_bits binary64 0x408f400000000000

abbrev pub rate_high : Float
rate_high = of_bits binary64 0x4107700000000000
