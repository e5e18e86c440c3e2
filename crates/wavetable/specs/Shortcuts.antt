-- Shortcuts of the code: no public contract and no promise cites them, so nobody need believe them; proofs/ shows that they are what the
-- definitions say.
use Rattle.std.specs.Prelude.{Bool, true, false, cond, List, ◌≡◌, ℕ, ◌+◌, ◌*◌, ◌%◌, ◌<◌, ◌≤◌, eqb, Float, get_or, Result, MatchResult}
use Rattle.std.specs.Float.{nan, binary64}
use Rattle.std.specs.Float.Ieee.{add, sub, mul, neg}
use Rattle.answer.specs.Answer.{volts1}
use Rattle.answer.specs.Mark.{mark_of}
use Rattle.answer.specs.declared.Answer.{Answer}
use Rattle.common.specs.Consts.{five}
use Rattle.common.specs.Phase.{turns, wrap_phase_of}
use Rattle.common.specs.declared.Turns.{Turns}
use Rattle.laws.specs.Float.{one, is_fin}
use Rattle.numeric.specs.Basic.{whole_of, real_of}
use Rattle.numeric.specs.Floor.{floor_of}
use Rattle.wavetable.specs.Bank.{harmonic_of, turned, coef_of, cell_of}
use Rattle.wavetable.specs.Consts.{table_size, num_tables, num_mips, bank_size, table_size_real, quarter, eighth}
use Rattle.wavetable.specs.Reads.{between, start_of, select_level, table_pos_of, table_index_of, blend_of}
use Rattle.wavetable.specs.declared.Pair.{Pair}
use Rattle.common.specs.declared.Refusal.{Refusal}
use Rattle.common.specs.declared.Refusal.TheVariants as refusal
use Rattle.wavetable.specs.declared.bank.Series.{Series}
use Rattle.wavetable.specs.declared.bank.Series.TheVariants as series
use Rattle.wavetable.specs.declared.bank.Plain.{Plain}
use Rattle.wavetable.specs.declared.bank.Plain.TheVariants as plain
use Rattle.wavetable.specs.declared.bank.WavetableType.{WavetableType}
use Rattle.wavetable.specs.declared.bank.WavetableType.TheVariants as tables

-- ---- a table's number in the bank
abbrev pub series_number : Series → ℕ
series_number series.Triangle = 1
series_number series.Saw = 2
series_number series.Square = 3
series_number series.Pulse25 = 4
series_number series.Pulse12 = 5

abbrev pub plain_number : Plain → ℕ
plain_number plain.Sine = 0
plain_number plain.FormantA = 6
plain_number plain.FormantO = 7

abbrev pub number_of : WavetableType → ℕ
number_of (tables.Series s) = series_number s
number_of (tables.Plain p) = plain_number p

-- the result is the table of this number, or a refusal where there is none
abbrev pub IsTable : ℕ → Result WavetableType Refusal → Type 0
IsTable number r = MatchResult r (λ table. number_of table ≡ number) (λ e. (e ≡ refusal.Bank) × (num_tables ≤ number))

-- ---- the fill of a series: its levels share their terms, which spares the same sines at another level
unfoldable pub first_sign : ℕ → Float
first_sign table = cond (eqb table 1) one (neg one)

-- what term k's partial is multiplied by at every place: a pulse's coefficient, or a sign
unfoldable pub factor_of : ℕ → ℕ → Float
factor_of table k =
    let h = real_of (harmonic_of table k) in
    cond (eqb table 4) (coef_of quarter h) (cond (eqb table 5) (coef_of eighth h) (turned k (first_sign table)))

-- places below i are right at every level, and place i at the levels from `level` up
abbrev pub Right : ℕ → List Float → ℕ → ℕ → Type 0
Right table part i level =
    (l m : ℕ) → l < num_mips → m < table_size → num_mips * m + level ≤ num_mips * i + l → get_or part (table_size * l + m) nan ≡ cell_of table l m

-- ---- a tick whose sync and v_oct stand still: no edge is taken and the memo holds, so only the phase moves
-- the two tables that table and morph ask for, at the levels for this increment
unfoldable pub pair_of : Float → Float → Float → Pair
pair_of table morph inc =
    let pos = table_pos_of table in
    let index = table_index_of pos in
    record { first0 = start_of index (select_level index inc); first1 = start_of (index + 1) (select_level (index + 1) inc); blend = blend_of pos index morph }

-- both levels lie in the bank
abbrev pub PairFits : Pair → Type 0
PairFits p = (p.first0 + table_size ≤ bank_size) × (p.first1 + table_size ≤ bank_size)

-- (sample0 * (1.0 - blend) + sample1 * blend) * 5.0, where each table is read at pos = phase * 256
unfoldable pub mix_at : List Float → Pair → Float → Float
mix_at bank p phase =
    let pos = mul binary64 phase table_size_real in
    let idx0 = whole_of pos % table_size in
    let frac = sub binary64 pos (floor_of pos) in
    mul binary64
    (add binary64
    (mul binary64 (between bank p.first0 idx0 frac) (sub binary64 one p.blend))
    (mul binary64 (between bank p.first1 idx0 frac) p.blend))
    five

unfoldable pub held_answer : List Float → Pair → Bool → Turns → Turns → Answer
held_answer bank p numbers step phase = mark_of (volts1 (mix_at bank p phase.0)) false true (is_fin (add binary64 phase.0 step.0)) numbers

unfoldable pub held_next : Turns → Turns → Turns
held_next step phase = (wrap_phase_of (turns (add binary64 phase.0 step.0))).phase
