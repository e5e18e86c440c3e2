-- PinkNoiseState, written from oscillators.rs.
use Rattle.std.specs.Prelude.{ℕ, zero, suc, ◌+◌, ◌/◌, ◌%◌, min, cond, List, ◌==◌, bit_xor, slice_index, slice_index_or, slice_set, Float}
use Rattle.std.specs.Float.{nan, binary64}
use Rattle.std.specs.Float.Ieee.{add, sub, div}
use Rattle.laws.specs.Float.{zer}
use Rattle.laws.specs.Lists.{tab}
use Rattle.numeric.specs.Draw.{bipolar_of}
use Rattle.noise_generator.specs.Consts.{sixteen}
use Rattle.noise_generator.specs.declared.PinkNoiseState.{PinkNoiseState}

-- PinkNoiseState::new
unfoldable pub new_pink : PinkNoiseState
new_pink = record { rows = tab (λ i. zer) 16; running_sum = zer; index = 0 }

-- ---- the row counter, a u32
-- index.wrapping_add(1)
unfoldable pub next_index : ℕ → ℕ
next_index index = (index + 1) % 4294967296

-- index.wrapping_sub(1)
unfoldable pub last_index : ℕ → ℕ
last_index index = (index + 4294967295) % 4294967296

-- x.trailing_ones(), x having k digits: how many of its lowest digits are 1 before the first 0
unfoldable pub trailing_ones : ℕ → ℕ → ℕ
trailing_ones zero x = 0
trailing_ones (suc k) x = cond (x % 2 == 1) (suc (trailing_ones k (x / 2))) 0

-- (index ^ index.wrapping_sub(1)).trailing_ones().min(16): the rows that change when the counter comes to this index
unfoldable pub changed_of : ℕ → ℕ
changed_of index = min (trailing_ones 32 (bit_xor index (last_index index))) 16

-- ---- the loop
-- what it changes
pub record Rows : Type 0 where
  pub rows : List Float
  pub running_sum : Float

abbrev pub rowed : List Float → Float → Rows
rowed rows sum = record { rows = rows; running_sum = sum }

-- turn i: running_sum -= rows[i]; rows[i] = next_bipolar(), which is draw at + i; running_sum += rows[i]
unfoldable pub row_of : List ℕ → ℕ → Rows → ℕ → Rows
row_of draws at r i =
    let row = bipolar_of (slice_index draws (at + i)) in
    rowed (slice_set r.rows i row) (add binary64 (sub binary64 r.running_sum (slice_index_or r.rows i nan)) row)

-- the first n turns
unfoldable pub rows_of : List ℕ → ℕ → Rows → ℕ → Rows
rows_of draws at r zero = r
rows_of draws at r (suc n) = row_of draws at (rows_of draws at r n) n

-- ---- sample, its draws standing from place `at` on: the state after it
unfoldable pub sampled_of : List ℕ → ℕ → PinkNoiseState → PinkNoiseState
sampled_of draws at p =
    let index = next_index p.index in
    let r = rows_of draws at (rowed p.rows p.running_sum) (changed_of index) in
    record { rows = r.rows; running_sum = r.running_sum; index = index }

-- and what it answers: running_sum / 16.0
unfoldable pub pink_of : PinkNoiseState → Float
pink_of p = div binary64 p.running_sum sixteen
