-- The Wavetable's calls, written from oscillators.rs, with the scope's refusals and marks.
use Rattle.std.specs.Prelude.{true, false, cond, List, [], ◌∷◌, ℕ, eqb, Float, length}
use Rattle.std.specs.Float.{binary64}
use Rattle.std.specs.Float.Ieee.{add}
use Rattle.answer.specs.Answer.{volts1}
use Rattle.answer.specs.Block.{Block, block_of}
use Rattle.answer.specs.Calls.{Outcome, made_unless}
use Rattle.answer.specs.Mark.{all_numbers, mark_of}
use Rattle.common.specs.Edge.{rising_of}
use Rattle.common.specs.Memo.{new_memo1, recall1, voct_to_hz_at}
use Rattle.common.specs.Phase.{turns, wrap_phase_of, increment_of, restart_of}
use Rattle.common.specs.Tests.{rate_ok, gated_refusal_of}
use Rattle.laws.specs.Float.{zer, is_fin}
use Rattle.wavetable.specs.Consts.{n_ports, bank_size}
use Rattle.wavetable.specs.Reads.{table_pos_of, table_index_of, blend_of, mix_of}
use Rattle.common.specs.declared.EdgeDetector.{EdgeDetector}
use Rattle.common.specs.declared.Hertz.{Hertz}
use Rattle.answer.specs.declared.Answer.{Answer}
use Rattle.answer.specs.declared.Answer.TheVariants as answer
use Rattle.answer.specs.declared.Tally.{Tally}
use Rattle.wavetable.specs.declared.Wavetable.{Wavetable}
use Rattle.wavetable.specs.declared.WavetableControls.{WavetableControls}
use Rattle.answer.specs.declared.Ticked.{Ticked}

-- Wavetable::new, and the threshold of its gate; the bank isn't the state's
unfoldable pub new_wavetable : Hertz → Float → Wavetable
new_wavetable r t = record { phase = turns zer; prev_sync = zer; threshold = t; sample_rate = r; freq_memo = new_memo1 }

-- a new one like this
unfoldable pub new_like : Wavetable → Wavetable
new_like s = new_wavetable s.sample_rate s.threshold

-- 0, or what refuses a state: 1 its rate, 2 its phase or its gate's threshold
unfoldable pub wavetable_refusal_of : Wavetable → ℕ
wavetable_refusal_of s = gated_refusal_of s.sample_rate s.phase s.threshold

-- and after them what refuses a bank of this size: 4
unfoldable pub wavetable_tick_refusal_of : Wavetable → ℕ → ℕ
wavetable_tick_refusal_of s size = let n = wavetable_refusal_of s in cond (eqb n 0) (cond (eqb size bank_size) 0 4) n

-- what refuses a rate change: 1 on the new rate and on the old, then 2
unfoldable pub wavetable_rate_refusal_of : Wavetable → Hertz → ℕ
wavetable_rate_refusal_of s r = cond (rate_ok r) (wavetable_refusal_of s) 1

-- refused by what refuses its state, 1 and 2: a refused one refuses every call
unfoldable pub wavetable_new_of : Hertz → Float → Outcome Wavetable
wavetable_new_of r t = let s = new_wavetable r t in made_unless (wavetable_refusal_of s) s s

-- the last sync sample and the threshold as an edge record: the Rust keeps the sample plain, and has no threshold
abbrev pub edge_of : Wavetable → EdgeDetector
edge_of s = record { prev = s.prev_sync; threshold = s.threshold }

-- the controls given to a tick, in port order
abbrev pub controls_of : WavetableControls → List Float
controls_of c = c.v_oct.0 ∷ c.table ∷ c.morph ∷ c.sync ∷ []

-- tick_generic, line by line
unfoldable pub wavetable_sound_of : Wavetable → WavetableControls → List Float → Ticked Wavetable
wavetable_sound_of s c bank =
    let phase = (restart_of s.phase (rising_of (edge_of s) c.sync).rising).0 in
    let memo = recall1 voct_to_hz_at s.freq_memo c.v_oct.0 in
    let inc = (increment_of memo.val s.sample_rate).0 in
    let pos = table_pos_of c.table in
    let index = table_index_of pos in
    let out = mix_of bank index (blend_of pos index c.morph) inc phase in
    let next = add binary64 phase inc in
    record {
      answer = mark_of (volts1 out) false true (is_fin next) (all_numbers (controls_of c));
      state = record {
        phase = (wrap_phase_of (turns next)).phase;
        prev_sync = c.sync;
        threshold = s.threshold;
        sample_rate = s.sample_rate;
        freq_memo = memo;
      };
    }

-- a refused tick leaves the state
unfoldable pub wavetable_tick_of : Wavetable → WavetableControls → List Float → Ticked Wavetable
wavetable_tick_of s c bank =
    let n = wavetable_tick_refusal_of s (length bank) in
    cond (eqb n 0) (wavetable_sound_of s c bank) (record { answer = answer.Refused n; state = s })

-- a block of as many ticks with these controls and this bank as there are marks
abbrev pub wavetable_told_of : WavetableControls → List Float → Wavetable → Answer
wavetable_told_of c bank s = (wavetable_tick_of s c bank).answer

abbrev pub wavetable_next_of : WavetableControls → List Float → Wavetable → Wavetable
wavetable_next_of c bank s = (wavetable_tick_of s c bank).state

unfoldable pub wavetable_block_of : Wavetable → WavetableControls → Tally → List Float → List Float → List ℕ → Block Wavetable
wavetable_block_of s c t bank o m = block_of n_ports (wavetable_tick_refusal_of s (length bank)) (wavetable_told_of c bank) (wavetable_next_of c bank) s t o m

-- reset: self.phase = 0.0; self.prev_sync = 0.0
unfoldable pub restarted : Wavetable → Wavetable
restarted s = record { phase = turns zer; prev_sync = zer; threshold = s.threshold; sample_rate = s.sample_rate; freq_memo = s.freq_memo }

unfoldable pub wavetable_reset_of : Wavetable → Outcome Wavetable
wavetable_reset_of s = made_unless (wavetable_refusal_of s) s (restarted s)

-- self.sample_rate = sample_rate
unfoldable pub rated : Wavetable → Hertz → Wavetable
rated s r = record { phase = s.phase; prev_sync = s.prev_sync; threshold = s.threshold; sample_rate = r; freq_memo = s.freq_memo }

unfoldable pub wavetable_set_sample_rate_of : Wavetable → Hertz → Outcome Wavetable
wavetable_set_sample_rate_of s r = made_unless (wavetable_rate_refusal_of s r) s (rated s r)
