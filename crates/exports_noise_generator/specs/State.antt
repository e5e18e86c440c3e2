-- A NoiseGenerator as floats and whole numbers, and its samples as floats.
use Rattle.std.specs.Prelude.{List, [], ◌∷◌, ◌++◌, ℕ, ◌+◌, ◌%◌, Float, get_or}
use Rattle.std.specs.Float.{nan}
use Rattle.laws.specs.Lists.{tab}
use Rattle.answer.specs.declared.Volts.{Volts}
use Rattle.noise_generator.specs.declared.NoiseGenerator.{NoiseGenerator}

-- how many there are
abbrev pub n_floats : ℕ
n_floats = 36

abbrev pub n_wholes : ℕ
n_wholes = 2

abbrev pub n_samples : ℕ
n_samples = 4

-- the sixteen rows that stand from a place on
unfoldable pub rows_at : List Float → ℕ → List Float
rows_at f at = tab (λ i. get_or f (at + i) nan) 16

-- a counter: the low 32 bits of a whole number
unfoldable pub counter_of : ℕ → ℕ
counter_of w = w % 4294967296

-- floats [pink.rows 0 to 15, pink.running_sum, pink2.rows 0 to 15, pink2.running_sum, correlation, last_white], wholes [pink.index, pink2.index]
unfoldable pub state_of : List Float → List ℕ → NoiseGenerator
state_of f w =
    record {
      pink = record { rows = rows_at f 0; running_sum = get_or f 16 nan; index = counter_of (get_or w 0 0) };
      pink2 = record { rows = rows_at f 17; running_sum = get_or f 33 nan; index = counter_of (get_or w 1 0) };
      correlation = get_or f 34 nan;
      last_white = get_or f 35 nan;
    }

unfoldable pub floats_of : NoiseGenerator → List Float
floats_of s =
    s.pink.rows ++ (s.pink.running_sum ∷ s.pink2.rows ++ (s.pink2.running_sum ∷ s.correlation ∷ s.last_white ∷ []))

unfoldable pub wholes_of : NoiseGenerator → List ℕ
wholes_of s = s.pink.index ∷ s.pink2.index ∷ []

-- [white, pink, white2, pink2]
unfoldable pub samples_of : Volts → List Float
samples_of v = v.p10 ∷ v.p11 ∷ v.p12 ∷ v.p13 ∷ []
