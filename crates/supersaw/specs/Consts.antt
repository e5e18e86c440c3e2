-- The Rust's constants of the Supersaw, by their bits.
use Rattle.std.specs.Prelude.{List, [], ◌∷◌, ℕ, Float}
use Rattle.std.specs.Float.{binary64}
use Rattle.std.specs.Float.Ieee.{of_bits}

-- how many outputs there are
abbrev pub n_ports : ℕ
n_ports = 2

-- DETUNE_RATIOS: -0.11002313, -0.06288439, -0.01952356, 0.0, 0.01991221, 0.06216538, 0.10745242
abbrev pub detune_ratios : List Float
detune_ratios = of_bits binary64 0xbfbc2a79d1274f7a ∷ of_bits binary64 0xbfb01930fe7a99cf ∷ of_bits binary64 0xbf93fdfbeece5461 ∷ of_bits binary64 0
    ∷ of_bits binary64 0x3f9463ddcaf6dec4 ∷ of_bits binary64 0x3fafd42404163a29 ∷ of_bits binary64 0x3fbb820075c6aba1 ∷ []

-- MIX_LEVELS: 0.5, 0.7, 0.9, 1.0, 0.9, 0.7, 0.5
abbrev pub mix_levels : List Float
mix_levels = of_bits binary64 0x3fe0000000000000 ∷ of_bits binary64 0x3fe6666666666666 ∷ of_bits binary64 0x3feccccccccccccd
    ∷ of_bits binary64 0x3ff0000000000000
    ∷ of_bits binary64 0x3feccccccccccccd ∷ of_bits binary64 0x3fe6666666666666 ∷ of_bits binary64 0x3fe0000000000000 ∷ []

-- 7
abbrev pub seven : Float
seven = of_bits binary64 0x401c000000000000
