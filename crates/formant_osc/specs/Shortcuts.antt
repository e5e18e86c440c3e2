-- Shortcuts of the code: no public contract and no promise cites them, so nobody need believe them; proofs/Held.antt shows that they are
-- what the definitions say. They are what a block does tick by tick: what the phase grows by, the pulse that drives the resonators, and
-- what they make of it.
use Rattle.std.specs.Prelude.{Bool, false, cond, not, List, ℕ, zero, suc, eqb, Float, get_or}
use Rattle.std.specs.Float.{nan, binary64}
use Rattle.std.specs.Float.Ieee.{add, mul, neg}
use Rattle.answer.specs.Answer.{volts1}
use Rattle.answer.specs.Block.{after_ticks}
use Rattle.answer.specs.Mark.{mark_of}
use Rattle.answer.specs.declared.Answer.{Answer}
use Rattle.common.specs.Consts.{five}
use Rattle.common.specs.Memo.{Memo1, recall1, voct_to_hz_at}
use Rattle.common.specs.Phase.{turns, wrap_phase_of, increment_of}
use Rattle.common.specs.declared.Hertz.{Hertz}
use Rattle.common.specs.declared.Turns.{Turns}
use Rattle.common.specs.declared.VoltsPerOctave.{VoltsPerOctave}
use Rattle.formant_osc.specs.Consts.{vibrato_rate}
use Rattle.formant_osc.specs.Sound.{glottal_pulse, pitch_of, rung_of}
use Rattle.formant_osc.specs.declared.Driver.{Driver}
use Rattle.formant_osc.specs.declared.FormantOscControls.{FormantOscControls}
use Rattle.formant_osc.specs.declared.Vibrato.{Vibrato}
use Rattle.laws.specs.Float.{zer, one, is_fin}
use Rattle.numeric.specs.Basic.{clamp_of}

-- ---- what the controls say of the pitch: its depth is brought into 0 to 1
abbrev pub vibrato_of : FormantOscControls → Vibrato
vibrato_of c = record { v_oct = c.v_oct; depth = clamp_of c.vibrato zer one }

-- ---- the phases and the pitch: the memo after a tick, and both phases with their increments
unfoldable pub drive_memo : VoltsPerOctave → Float → Driver → Memo1
drive_memo v depth d = recall1 voct_to_hz_at d.freq_memo (pitch_of v depth d.vibrato_phase.0).0

unfoldable pub phase_sum : VoltsPerOctave → Float → Hertz → Driver → Float
phase_sum v depth rate d = add binary64 d.phase.0 (increment_of (drive_memo v depth d).val rate).0

unfoldable pub vibrato_sum : Hertz → Driver → Float
vibrato_sum rate d = add binary64 d.vibrato_phase.0 (increment_of vibrato_rate rate).0

unfoldable pub drive_next : VoltsPerOctave → Float → Hertz → Driver → Driver
drive_next v depth rate d =
    record {
      phase = (wrap_phase_of (turns (phase_sum v depth rate d))).phase;
      vibrato_phase = (wrap_phase_of (turns (vibrato_sum rate d))).phase;
      freq_memo = drive_memo v depth d;
    }

-- ---- a bool that waits in the place of a mark, and is none
unfoldable pub flag : Bool → ℕ
flag b = cond b 1 0

unfoldable pub is_flagged : ℕ → Bool
is_flagged n = not (eqb n 0)

-- the pulse in tick i, and whether the phase stays finite; the vibrato's always does
unfoldable pub pulse_at : VoltsPerOctave → Float → Hertz → Driver → ℕ → Float
pulse_at v depth rate d i = glottal_pulse (after_ticks (drive_next v depth rate) i d).phase.0

unfoldable pub flag_at : VoltsPerOctave → Float → Hertz → Driver → ℕ → ℕ
flag_at v depth rate d i = flag (is_fin (phase_sum v depth rate (after_ticks (drive_next v depth rate) i d)))

-- ---- the same in two goes
-- first what the phase grows by in tick i
unfoldable pub stride_at : VoltsPerOctave → Float → Hertz → Driver → ℕ → Turns
stride_at v depth rate d i = increment_of (drive_memo v depth (after_ticks (drive_next v depth rate) i d)).val rate

-- what it leaves after n ticks: the phase waits
unfoldable pub swayed : VoltsPerOctave → Float → Hertz → ℕ → Driver → Driver
swayed v depth rate n d =
    let end = after_ticks (drive_next v depth rate) n d in
    record { phase = d.phase; vibrato_phase = end.vibrato_phase; freq_memo = end.freq_memo }

-- then the phase before tick i, over those increments xs, and its flag
unfoldable pub phase_at : List Float → Turns → ℕ → Turns
phase_at xs p zero = p
phase_at xs p (suc i) = (wrap_phase_of (turns (add binary64 (phase_at xs p i).0 (get_or xs i nan)))).phase

unfoldable pub phase_flag_at : List Float → Turns → ℕ → ℕ
phase_flag_at xs p i = flag (is_fin (add binary64 (phase_at xs p i).0 (get_or xs i nan)))

-- ---- the resonators, over the pulses xs and those flags ms
-- what a tick answers to their sum
unfoldable pub voiced_of : Float → Bool → Bool → Answer
voiced_of sum phases numbers = mark_of (volts1 (mul binary64 (clamp_of sum (neg one) one) five)) false (is_fin sum) phases numbers

-- their cells before tick i
unfoldable pub cells_at : List Float → List Float → List Float → ℕ → List Float
cells_at c xs s zero = s
cells_at c xs s (suc i) = (rung_of c (cells_at c xs s i) (get_or xs i nan)).state

-- what tick i answers
unfoldable pub voiced_at : Bool → List Float → List Float → List Float → List ℕ → ℕ → Answer
voiced_at numbers c s xs ms i = voiced_of (rung_of c (cells_at c xs s i) (get_or xs i nan)).sum (is_flagged (get_or ms i 0)) numbers
