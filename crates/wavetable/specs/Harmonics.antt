-- How many harmonics a level has, written from Wavetable::max_harmonic.
use Rattle.std.specs.Prelude.{[], ◌∷◌, ℕ, ◌/◌, ◌^◌, max, get_or}

-- BASE_HARMONICS: sine, triangle, saw, square, pulse of 25 % and of 12.5 %, vowels ah and oh
abbrev pub base_harmonics : ℕ → ℕ
base_harmonics table = get_or (1 ∷ 31 ∷ 64 ∷ 63 ∷ 64 ∷ 64 ∷ 10 ∷ 10 ∷ []) table 0

-- (BASE_HARMONICS[table] >> level).max(1)
unfoldable pub max_harmonic : ℕ → ℕ → ℕ
max_harmonic table level = max (base_harmonics table / 2 ^ level) 1
