-- The Rust's constants of the Wavetable: sizes, and floats by their bits.
use Rattle.std.specs.Prelude.{ℕ, ◌*◌, Float}
use Rattle.std.specs.Float.{binary64}
use Rattle.std.specs.Float.Ieee.{of_bits}

-- one output
abbrev pub n_ports : ℕ
n_ports = 1

-- TABLE_SIZE, NUM_TABLES and NUM_MIPS
abbrev pub table_size : ℕ
table_size = 256

abbrev pub num_tables : ℕ
num_tables = 8

abbrev pub num_mips : ℕ
num_mips = 8

-- numbers in a table with all its levels, and in the bank
abbrev pub part_size : ℕ
part_size = num_mips * table_size

abbrev pub bank_size : ℕ
bank_size = num_tables * part_size

-- TABLE_SIZE as f64: 256, and NUM_TABLES - 1 as f64: 7
abbrev pub table_size_real : Float
table_size_real = of_bits binary64 0x4070000000000000

abbrev pub last_table_real : Float
last_table_real = of_bits binary64 0x401c000000000000

-- the smallest increment that select_level takes: 1e-9
abbrev pub least_inc : Float
least_inc = of_bits binary64 0x3e112e0be826d695

-- 8, and the pulses' duties: 0.25 and 0.125
abbrev pub eight : Float
eight = of_bits binary64 0x4020000000000000

abbrev pub quarter : Float
quarter = of_bits binary64 0x3fd0000000000000

abbrev pub eighth : Float
eighth = of_bits binary64 0x3fc0000000000000
