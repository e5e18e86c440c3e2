-- The rows as the code goes through them.
use Rattle.std.proofs.Common.{◌≡◌, ℕ, ◌+◌, ◌%◌, ◌^◌, ◌<◌, min, List, get_or, set, sym, ap, ◌∙◌, add-one, mod-lt, lit<}
use lib.Bits.{bit_xor}
use lib.Ieee.{Float, nan, binary64, add, sub}
use Rattle.numeric.specs.Draw.{bipolar_of}
use Rattle.std.proofs.lemmas.Nat.{xor_of_32}
use Rattle.std.specs.Int.{w32, trailing_ones as ones_of}
use Rattle.noise_generator.specs.Pink.{next_index, last_index, changed_of, Rows, rowed, row_of, rows_of, sampled_of}
use Rattle.noise_generator.specs.declared.PinkNoiseState.{PinkNoiseState}
use Rattle.noise_generator.proofs.RowLaws.{ones_of_not}

pub row_more : (draws : List ℕ) (at i : ℕ) (r : Rows) (rows : List Float) (sum row : Float) → rowed rows sum ≡ rows_of draws at r i
    → row ≡ bipolar_of (get_or draws (at + i) 0)
    → rowed (set rows i row) (add binary64 (sub binary64 sum (get_or rows i nan)) row) ≡ rows_of draws at r (i + 1)
unfolding rows_of row_of
row_more draws at i r rows sum row e q = rw (add-one, q) (ap (λ (x : Rows). row_of draws at x i) e)

-- after the last turn: j is the counter then, and n the rows that change
pub rows_done : (draws : List ℕ) (at : ℕ) (p : PinkNoiseState) (rows : List Float) (sum : Float) (i n index j : ℕ) → i ≡ n → n ≡ changed_of j
    → j ≡ next_index p.index → index ≡ j → rowed rows sum ≡ rows_of draws at (rowed p.rows p.running_sum) i
    → record { rows = rows; running_sum = sum; index = index } ≡ sampled_of draws at p
unfolding sampled_of
rows_done draws at p rows sum i n index j z e f g h =
    let all : rows_of draws at (rowed p.rows p.running_sum) (changed_of (next_index p.index)) ≡ rowed rows sum =
    ap (rows_of draws at (rowed p.rows p.running_sum)) (sym (z ∙ e ∙ ap changed_of f)) ∙ sym h in
    simp (all, g, f)

-- ---- the rows that change, from what the code asks of the counter
pub rows_that_change : (index ones rows : ℕ) → index < 2 ^ 32 → ones ≡ ones_of w32 (bit_xor index ((index + 4294967295) % 2 ^ 32)) → rows ≡ min ones 16
    → rows ≡ changed_of index
unfolding changed_of last_index
rows_that_change index ones rows h e f =
    let last = (index + 4294967295) % 2 ^ 32 in
    let below : bit_xor index last < 2 ^ 32 = xor_of_32 index last h (mod-lt (index + 4294967295) (lit< tt)) in
    f ∙ ap (λ (n : ℕ). min n 16) (e ∙ ones_of_not 32 (bit_xor index last) below)
