-- The bank, written from Wavetable::generate_tables: each number by itself, operation by operation.
use Rattle.std.specs.Prelude.{Bool, true, cond, ◌&&◌, List, ℕ, zero, suc, ◌+◌, ◌*◌, ◌/◌, ◌%◌, eqb, leb, ltb, Float, length, Result, Ok, Err}
use Rattle.std.specs.Float.{binary64}
use Rattle.std.specs.Float.Ieee.{add, mul, div, le, neg, of_bits}
use Rattle.common.specs.Consts.{three, four, half}
use Rattle.laws.specs.Float.{zer, one, two}
use Rattle.laws.specs.Lists.{tab}
use Rattle.numeric.specs.Basic.{pi, real_of}
use Rattle.numeric.specs.Trig.{sin_of}
use Rattle.wavetable.specs.Consts.{table_size, num_tables, part_size, bank_size, table_size_real, eight, quarter, eighth}
use Rattle.wavetable.specs.Harmonics.{max_harmonic}
use Rattle.common.specs.declared.Refusal.{Refusal}
use Rattle.common.specs.declared.Refusal.TheVariants as refusal

-- the closure partial at place i: sin(phase * harmonic * 2.0 * pi), phase = i / TABLE_SIZE
unfoldable pub partial_of : Float → ℕ → Float
partial_of harmonic i = sin_of (mul binary64 (mul binary64 (mul binary64 (div binary64 (real_of i) table_size_real) harmonic) two) pi)

-- ---- triangle (1), saw (2), square (3), pulses (4 and 5): sums of terms, from 0.0
-- h = 1, then h += 2
abbrev pub odd_only : ℕ → Bool
odd_only table = cond (eqb table 1) true (eqb table 3)

-- the h of a sum's term k, counted from 0
unfoldable pub harmonic_of : ℕ → ℕ → ℕ
harmonic_of table k = cond (odd_only table) (2 * k + 1) (k + 1)

-- how many h there are up to the level's largest
unfoldable pub terms_of : ℕ → ℕ → ℕ
terms_of table level = cond (odd_only table) ((max_harmonic table level + 1) / 2) (max_harmonic table level)

-- the sign before term k: sign = -sign after each
unfoldable pub turned : ℕ → Float → Float
turned zero sign = sign
turned (suc k) sign = neg (turned k sign)

-- sign * partial(hf) / (hf * hf), the first sign 1.0
abbrev pub tri_term : ℕ → Float → Float → Float
tri_term k h p = div binary64 (mul binary64 (turned k one) p) (mul binary64 h h)

-- sign * partial(hf) / hf, the first sign -1.0
abbrev pub saw_term : ℕ → Float → Float → Float
saw_term k h p = div binary64 (mul binary64 (turned k (neg one)) p) h

-- partial(hf) / hf
abbrev pub sqr_term : Float → Float → Float
sqr_term h p = div binary64 p h

-- sin(pi * hf * duty) / hf
unfoldable pub coef_of : Float → Float → Float
coef_of duty h = div binary64 (sin_of (mul binary64 (mul binary64 pi h) duty)) h

abbrev pub duty_of : ℕ → Float
duty_of table = cond (eqb table 4) quarter eighth

-- coef * partial(hf)
abbrev pub pulse_term : Float → Float → Float → Float
pulse_term duty h p = mul binary64 (coef_of duty h) p

unfoldable pub term_of : ℕ → ℕ → ℕ → Float
term_of table k i =
    let h = real_of (harmonic_of table k) in
    let p = partial_of h i in
    cond (eqb table 1) (tri_term k h p)
    (cond (eqb table 2) (saw_term k h p)
    (cond (eqb table 3) (sqr_term h p)
    (pulse_term (duty_of table) h p)))

-- the first k terms
unfoldable pub sum_of : ℕ → ℕ → ℕ → Float
sum_of table zero i = zer
sum_of table (suc k) i = add binary64 (sum_of table k i) (term_of table k i)

-- 8.0 / (pi * pi), 2.0 / pi, 4.0 / pi, 2.0
unfoldable pub scale_of : ℕ → Float
scale_of table =
    cond (eqb table 1) (div binary64 eight (mul binary64 pi pi))
    (cond (eqb table 2) (div binary64 two pi)
    (cond (eqb table 3) (div binary64 four pi)
    two))

unfoldable pub series_of : ℕ → ℕ → ℕ → Float
series_of table level i = mul binary64 (sum_of table (terms_of table level) i) (scale_of table)

-- ---- vowels (6 and 7): those partials that aren't above the level's largest; Iterator::sum starts from -0.0
unfoldable pub gated_of : Float → ℕ → Float → Float → Float → Float
gated_of most i sum harmonic amp = cond (le harmonic most) (add binary64 sum (mul binary64 (partial_of harmonic i) amp)) sum

-- (1.0, 1.0), (2.7, 0.5), (4.6, 0.3), (9.6, 0.15)
abbrev pub vowel_a : Float → ℕ → Float
vowel_a most i =
    let a = gated_of most i (neg zer) one one in
    let b = gated_of most i a (of_bits binary64 0x400599999999999a) half in
    let c = gated_of most i b (of_bits binary64 0x4012666666666666) (of_bits binary64 0x3fd3333333333333) in
    gated_of most i c (of_bits binary64 0x4023333333333333) (of_bits binary64 0x3fc3333333333333)

-- (1.0, 1.0), (1.5, 0.6), (3.0, 0.4), (10.0, 0.15)
abbrev pub vowel_o : Float → ℕ → Float
vowel_o most i =
    let a = gated_of most i (neg zer) one one in
    let b = gated_of most i a (of_bits binary64 0x3ff8000000000000) (of_bits binary64 0x3fe3333333333333) in
    let c = gated_of most i b three (of_bits binary64 0x3fd999999999999a) in
    gated_of most i c (of_bits binary64 0x4024000000000000) (of_bits binary64 0x3fc3333333333333)

unfoldable pub vowel_of : ℕ → Float → ℕ → Float
vowel_of table most i = cond (eqb table 6) (vowel_a most i) (vowel_o most i)

-- ---- sine (0): partial(1.0) at every level; or a vowel times 0.5
unfoldable pub plain_of : ℕ → ℕ → ℕ → Float
plain_of table level i = cond (eqb table 0) (partial_of one i) (mul binary64 (vowel_of table (real_of (max_harmonic table level)) i) half)

-- ---- tables[table][level][i], a table, the bank
unfoldable pub is_series : ℕ → Bool
is_series table = leb 1 table && leb table 5

unfoldable pub cell_of : ℕ → ℕ → ℕ → Float
cell_of table level i = cond (is_series table) (series_of table level i) (plain_of table level i)

-- number j of a table: its levels one after another
unfoldable pub table_cell : ℕ → ℕ → Float
table_cell table j = cell_of table (j / table_size) (j % table_size)

unfoldable pub table_of : ℕ → List Float
table_of table = tab (table_cell table) part_size

-- number j of the bank: its tables one after another
unfoldable pub bank_cell : ℕ → Float
bank_cell j = table_cell (j / part_size) (j % part_size)

unfoldable pub bank_of : List Float
bank_of = tab bank_cell bank_size

-- ---- the fills: what they say, and the slice after them; l is the slice as it stood
pub record Filled : Type 0 where
  pub outcome : Result (Unit {0}) Refusal
  pub cells : List Float

abbrev pub filled : Result (Unit {0}) Refusal → List Float → Filled
filled o l = record { outcome = o; cells = l }

-- refused by 4: a part that hasn't a table's 2,048 numbers, or no such table
unfoldable pub fill_table_of : ℕ → List Float → Filled
fill_table_of table l = cond (eqb (length l) part_size && ltb table num_tables) (filled (Ok tt) (table_of table)) (filled (Err refusal.Bank) l)

-- refused by 4: a bank that hasn't 16,384 numbers
unfoldable pub fill_bank_of : List Float → Filled
fill_bank_of l = cond (eqb (length l) bank_size) (filled (Ok tt) bank_of) (filled (Err refusal.Bank) l)
