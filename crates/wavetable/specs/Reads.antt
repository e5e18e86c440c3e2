-- How a tick reads the bank, written from Wavetable::select_level, read_table and tick_generic.
use Rattle.std.specs.Prelude.{cond, List, ℕ, zero, suc, ◌+◌, ◌-◌, ◌*◌, ◌%◌, min, Float, get_or}
use Rattle.std.specs.Float.{nan, binary64}
use Rattle.std.specs.Float.Ieee.{add, sub, mul, div, le}
use Rattle.common.specs.Consts.{five, half}
use Rattle.laws.specs.Float.{zer, one}
use Rattle.numeric.specs.Basic.{fabs_of, clamp_of, min_of, max_of, whole_of, real_of}
use Rattle.numeric.specs.Floor.{floor_of}
use Rattle.wavetable.specs.Consts.{table_size, num_tables, num_mips, part_size, table_size_real, last_table_real, least_inc}
use Rattle.wavetable.specs.Harmonics.{max_harmonic}

-- floor(0.5 / inc), inc = fabs(phase_inc).max(1e-9)
unfoldable pub allowed_of : Float → Float
allowed_of inc = floor_of (div binary64 half (max_of (fabs_of inc) least_inc))

-- of the last n levels the first whose largest harmonic is allowed; none gives the last, NUM_MIPS - 1
unfoldable pub level_from : ℕ → Float → ℕ → ℕ
level_from table allowed zero = 7
level_from table allowed (suc n) = cond (le (real_of (max_harmonic table (7 - n))) allowed) (7 - n) (level_from table allowed n)

unfoldable pub select_level : ℕ → Float → ℕ
select_level table inc = level_from table (allowed_of inc) num_mips

-- table[idx0] * (1.0 - frac) + table[idx1] * frac, the table's first number at `first`
abbrev pub between : List Float → ℕ → ℕ → Float → Float
between bank first idx0 frac =
    add binary64
    (mul binary64 (get_or bank (first + idx0) nan) (sub binary64 one frac))
    (mul binary64 (get_or bank (first + (idx0 + 1) % table_size) nan) frac)

-- where tables[table_idx % NUM_TABLES][level.min(NUM_MIPS - 1)] begins in the bank
unfoldable pub start_of : ℕ → ℕ → ℕ
start_of table level = table % num_tables * part_size + min level 7 * table_size

-- that level at pos = phase * (TABLE_SIZE as f64)
unfoldable pub read_table : List Float → ℕ → ℕ → Float → Float
read_table bank table level phase =
    let pos = mul binary64 phase table_size_real in
    between bank (start_of table level) (whole_of pos % table_size) (sub binary64 pos (floor_of pos))

-- table_pos: table.clamp(0.0, 1.0) * ((NUM_TABLES - 1) as f64)
unfoldable pub table_pos_of : Float → Float
table_pos_of table = mul binary64 (clamp_of table zer one) last_table_real

-- table_idx: (table_pos as usize).min(NUM_TABLES - 2)
unfoldable pub table_index_of : Float → ℕ
table_index_of pos = min (whole_of pos) 6

-- (table_frac + morph.clamp(0.0, 1.0)).min(1.0), table_frac = table_pos - table_idx as f64
unfoldable pub blend_of : Float → ℕ → Float → Float
blend_of pos index morph = min_of (add binary64 (sub binary64 pos (real_of index)) (clamp_of morph zer one)) one

-- (sample0 * (1.0 - blend) + sample1 * blend) * 5.0
unfoldable pub mix_of : List Float → ℕ → Float → Float → Float → Float
mix_of bank index blend inc phase =
    let sample0 = read_table bank index (select_level index inc) phase in
    let sample1 = read_table bank (index + 1) (select_level (index + 1) inc) phase in
    mul binary64 (add binary64 (mul binary64 sample0 (sub binary64 one blend)) (mul binary64 sample1 blend)) five
