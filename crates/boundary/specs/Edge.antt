-- An edge record as floats of a flat state.
use Rattle.std.specs.Prelude.{List, [], ◌∷◌, ℕ, ◌+◌, Float, get_or}
use Rattle.std.specs.Float.{nan}
use Rattle.common.specs.declared.EdgeDetector.{EdgeDetector}

-- how many they are
abbrev pub n_edge : ℕ
n_edge = 2

abbrev pub edge_floats : EdgeDetector → List Float
edge_floats e = e.prev ∷ e.threshold ∷ []

-- the record from float i on; a float that isn't there is a NaN
abbrev pub edge_at : List Float → ℕ → EdgeDetector
edge_at f i = record { prev = get_or f i nan; threshold = get_or f (i + 1) nan }
