-- The Rust's constants of the FormantOsc, by their bits.
use Rattle.std.specs.Prelude.{List, [], ◌∷◌, ℕ, Float}
use Rattle.std.specs.Float.{binary64}
use Rattle.std.specs.Float.Ieee.{of_bits}
use Rattle.common.specs.declared.Hertz.{Hertz}

-- one output
abbrev pub n_ports : ℕ
n_ports = 1

-- FORMANTS: F1 to F5 of the vowels A, E, I, O, U
abbrev pub formants : List (List Float)
formants =
    -- A: 700, 1220, 2600, 3500, 4500
    (of_bits binary64 0x4085e00000000000 ∷ of_bits binary64 0x4093100000000000 ∷ of_bits binary64 0x40a4500000000000 ∷ of_bits binary64 0x40ab580000000000
    ∷ of_bits binary64 0x40b1940000000000 ∷ []) ∷
    -- E: 530, 1840, 2480, 3500, 4500
    (of_bits binary64 0x4080900000000000 ∷ of_bits binary64 0x409cc00000000000 ∷ of_bits binary64 0x40a3600000000000 ∷ of_bits binary64 0x40ab580000000000
    ∷ of_bits binary64 0x40b1940000000000 ∷ []) ∷
    -- I: 280, 2250, 2890, 3500, 4500
    (of_bits binary64 0x4071800000000000 ∷ of_bits binary64 0x40a1940000000000 ∷ of_bits binary64 0x40a6940000000000 ∷ of_bits binary64 0x40ab580000000000
    ∷ of_bits binary64 0x40b1940000000000 ∷ []) ∷
    -- O: 500, 700, 2350, 3500, 4500
    (of_bits binary64 0x407f400000000000 ∷ of_bits binary64 0x4085e00000000000 ∷ of_bits binary64 0x40a25c0000000000 ∷ of_bits binary64 0x40ab580000000000
    ∷ of_bits binary64 0x40b1940000000000 ∷ []) ∷
    -- U: 300, 870, 2250, 3500, 4500
    (of_bits binary64 0x4072c00000000000 ∷ of_bits binary64 0x408b300000000000 ∷ of_bits binary64 0x40a1940000000000 ∷ of_bits binary64 0x40ab580000000000
    ∷ of_bits binary64 0x40b1940000000000 ∷ []) ∷ []

-- BANDWIDTHS: 80, 90, 120, 150, 200
abbrev pub bandwidths : List Float
bandwidths =
    of_bits binary64 0x4054000000000000 ∷ of_bits binary64 0x4056800000000000 ∷ of_bits binary64 0x405e000000000000 ∷ of_bits binary64 0x4062c00000000000
    ∷ of_bits binary64 0x4069000000000000 ∷ []

-- AMPLITUDES: 1.0, 0.5, 0.25, 0.1, 0.05
abbrev pub amplitudes : List Float
amplitudes =
    of_bits binary64 0x3ff0000000000000 ∷ of_bits binary64 0x3fe0000000000000 ∷ of_bits binary64 0x3fd0000000000000 ∷ of_bits binary64 0x3fb999999999999a
    ∷ of_bits binary64 0x3fa999999999999a ∷ []

-- VIBRATO_RATE: 5.5
abbrev pub vibrato_rate : Hertz
vibrato_rate = record { 0 = of_bits binary64 0x4016000000000000 }

-- the ends of omega: 0.01, and PI * 0.45 has the factor 0.45
abbrev pub omega_low : Float
omega_low = of_bits binary64 0x3f847ae147ae147b

abbrev pub omega_high : Float
omega_high = of_bits binary64 0x3fdccccccccccccd

-- the ends of the glottal pulse's parts: 0.4 and 0.8
abbrev pub opened : Float
opened = of_bits binary64 0x3fd999999999999a

abbrev pub closed : Float
closed = of_bits binary64 0x3fe999999999999a

-- 12 semitones to the octave
abbrev pub twelve : Float
twelve = of_bits binary64 0x4028000000000000
