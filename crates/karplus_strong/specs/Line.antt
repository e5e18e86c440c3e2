-- The lent delay line as a list of cells: what each of the Rust's passes leaves in the first n. The other cells stay.
use Rattle.std.specs.Prelude.{ℕ, zero, suc, ◌/◌, cond, List, nat_lt, slice_index, slice_index_or, Float}
use Rattle.std.specs.Float.{nan, binary64}
use Rattle.std.specs.Float.Ieee.{add, sub, mul, div, neg}
use Rattle.laws.specs.Float.{zer, one}
use Rattle.laws.specs.Lists.{over}
use Rattle.numeric.specs.Basic.{real_of}
use Rattle.numeric.specs.Draw.{bipolar_of}

-- fill(0.0), and what resize fills: cells from `from` to below `to` are 0.0
unfoldable pub blank_at : ℕ → List Float → ℕ → Float
blank_at from l i = cond (nat_lt i from) (slice_index_or l i nan) zer

unfoldable pub blank_of : ℕ → ℕ → List Float → List Float
blank_of from to l = over (blank_at from l) to l

-- if i < period / 4 { 1.0 } else { 0.0 }
unfoldable pub impulse_of : ℕ → ℕ → Float
impulse_of n i = cond (nat_lt i (n / 4)) one zer

-- noise * brightness + impulse * (1.0 - brightness)
unfoldable pub pulse_of : ℕ → Float → ℕ → ℕ → Float
pulse_of n brightness draw i =
    add binary64 (mul binary64 (bipolar_of draw) brightness) (mul binary64 (impulse_of n i) (sub binary64 one brightness))

-- cell i has draw i
unfoldable pub excited_at : ℕ → Float → List ℕ → ℕ → Float
excited_at n brightness draws i = pulse_of n brightness (slice_index draws i) i

unfoldable pub excited_of : ℕ → Float → List ℕ → List Float → List Float
excited_of n brightness draws l = over (excited_at n brightness draws) n l

-- iter().sum() over the first n cells: it starts at -0.0
unfoldable pub sum_to : List Float → ℕ → Float
sum_to l zero = neg zer
sum_to l (suc i) = add binary64 (sum_to l i) (slice_index_or l i nan)

-- sum / period as f64
unfoldable pub mean_of : ℕ → List Float → Float
mean_of n l = div binary64 (sum_to l n) (real_of n)

-- *sample -= mean
unfoldable pub level_at : Float → List Float → ℕ → Float
level_at mean l i = sub binary64 (slice_index_or l i nan) mean

unfoldable pub level_of : ℕ → Float → List Float → List Float
level_of n mean l = over (level_at mean l) n l

-- excite: noise and impulse, less their mean
unfoldable pub struck_of : ℕ → Float → List ℕ → List Float → List Float
struck_of n brightness draws l = let x = excited_of n brightness draws l in level_of n (mean_of n x) x
