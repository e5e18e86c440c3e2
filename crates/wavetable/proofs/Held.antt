-- A block's ticks are ticks of the phase alone: its sync and its v_oct stand still.
use mathlib.Core.Bool.{Bool, true, false}
use mathlib.Core.List.{List}
use mathlib.Core.Path.{◌≡◌, refl, ap, ◌∙◌}
use Prim.Native.Nat.{ℕ, ◌+◌}
use native.Mathlib.Numerals.{add-one}
use lib.Ieee.Fits.{add-fits}
use lib.Ieee.{Float, binary64, add}
use lib.ListN.{length}
use borrow.Author.Tests.{eq-eqb}
use Rattle.answer.proofs.Blocks.{Holds, held_accepted, all_taken}
use Rattle.answer.proofs.Laws.{mark_says}
use Rattle.answer.specs.Block.{after_ticks, answer_at}
use Rattle.answer.specs.Answer.{volts1}
use Rattle.answer.specs.Mark.{all_numbers, mark_of}
use Rattle.answer.specs.declared.Answer.{Answer}
use Rattle.common.proofs.EdgeLaws.{rising_once}
use Rattle.common.proofs.MemoLaws.{recall1_again}
use Rattle.common.proofs.PhaseLaws.{restart_in, wrap_in}
use Rattle.common.specs.Edge.{rising_above_of, rising_of}
use Rattle.common.specs.Memo.{Memo1, recall1, voct_to_hz_at}
use Rattle.common.specs.Phase.{turns, wrap_phase_of, increment_of, restart_of}
use Rattle.common.specs.Tests.{phase_ok}
use Rattle.common.specs.declared.Risen.{Risen}
use Rattle.common.specs.declared.Turns.{Turns}
use Rattle.common.specs.declared.Wrapped.{Wrapped}
use Rattle.laws.specs.Float.{is_fin}
use Rattle.wavetable.proofs.Accepted.{accepts, bank_sized}
use Rattle.wavetable.specs.Shortcuts.{pair_of, mix_at, held_answer, held_next}
use Rattle.wavetable.specs.Consts.{bank_size}
use Rattle.wavetable.specs.Reads.{table_pos_of, table_index_of, blend_of, read_table, mix_of}
use Rattle.wavetable.specs.Wavetable.{controls_of, wavetable_refusal_of, wavetable_tick_refusal_of, wavetable_sound_of, wavetable_tick_of}
use Rattle.wavetable.specs.Wavetable.{wavetable_told_of, wavetable_next_of}
use Rattle.wavetable.specs.Promises.{taken, BlockAccepts, BlockTallies}
use Rattle.wavetable.specs.declared.Pair.{Pair}
use Rattle.wavetable.specs.declared.Wavetable.{Wavetable}
use Rattle.wavetable.specs.declared.WavetableControls.{WavetableControls}
use Rattle.answer.specs.declared.Ticked.{Ticked}

-- ---- the pair that a tick reads
pub mix_pair : (bank : List Float) (table morph inc phase : Float)
    → mix_at bank (pair_of table morph inc) phase
    ≡ mix_of bank (table_index_of (table_pos_of table)) (blend_of (table_pos_of table) (table_index_of (table_pos_of table)) morph) inc phase
unfolding mix_at pair_of mix_of read_table
mix_pair bank table morph inc phase = refl

-- ---- a turn of the loop
pub heard : (bank : List Float) (p : Pair) (numbers : Bool) (step start : Turns) (i : ℕ) (t : Turns) (out : Float) (f : Bool) (a : Answer)
    → a ≡ mark_of (volts1 out) false true f numbers → out ≡ mix_at bank p t.0 → f ≡ is_fin (add binary64 t.0 step.0)
    → t ≡ after_ticks (held_next step) i start
    → a ≡ answer_at (held_answer bank p numbers step) (held_next step) start i
unfolding answer_at held_answer
heard bank p numbers step start i t out f a e q w z = simp (e, q, w, z)

pub moved : (step start : Turns) (i : ℕ) (p : Turns) (w : Wrapped) → w ≡ wrap_phase_of (turns (add binary64 p.0 step.0))
    → p ≡ after_ticks (held_next step) i start → w.phase ≡ after_ticks (held_next step) (i + 1) start
unfolding after_ticks held_next
moved step start i p w e z = rw add-one (simp (e, z))

-- ---- the whole
abbrev held_memo : Wavetable → WavetableControls → Memo1
held_memo s c = recall1 voct_to_hz_at s.freq_memo c.v_oct.0

abbrev pub first_of : Wavetable → WavetableControls → Turns
first_of s c = restart_of s.phase (taken s c)

abbrev pub step_of : Wavetable → WavetableControls → Turns
step_of s c = increment_of (held_memo s c).val s.sample_rate

abbrev pub held_pair : Wavetable → WavetableControls → Pair
held_pair s c = pair_of c.table c.morph (step_of s c).0

-- what a tick of a block answers whose phase is p
abbrev pub told_of : Wavetable → WavetableControls → List Float → Turns → Answer
told_of s c bank = held_answer bank (held_pair s c) (all_numbers (controls_of c)) (step_of s c)

-- and the state then, from the second tick on
abbrev pub state_of : Wavetable → WavetableControls → Turns → Wavetable
state_of s c p = record { phase = p; prev_sync = c.sync; threshold = s.threshold; sample_rate = s.sample_rate; freq_memo = held_memo s c }

state_accepted : (s : Wavetable) (c : WavetableControls) (size : ℕ) (p : Turns) → wavetable_tick_refusal_of s size ≡ 0 → phase_ok p ≡ true
    → wavetable_tick_refusal_of (state_of s c p) size ≡ 0
unfolding wavetable_refusal_of wavetable_tick_refusal_of
state_accepted s c size p h k = simp ((accepts s size h).0, k, (accepts s size h).2, eq-eqb size bank_size (bank_sized s size h))

tick_sounds : (s : Wavetable) (c : WavetableControls) (bank : List Float) → wavetable_tick_refusal_of s (length bank) ≡ 0
    → wavetable_tick_of s c bank ≡ wavetable_sound_of s c bank
unfolding wavetable_tick_of
tick_sounds s c bank h = simp h

-- what a state answers whose sync and memo hold
first_sound : (s : Wavetable) (c : WavetableControls) (bank : List Float)
    → wavetable_sound_of s c bank
    ≡ record { answer = told_of s c bank (first_of s c); state = state_of s c (held_next (step_of s c) (first_of s c)) }
unfolding wavetable_sound_of held_answer held_next
first_sound s c bank = simp mix_pair

-- a sync that stands still has no second edge
no_second : (v t : Float) → (rising_of (record { prev = v; threshold = t }) v).rising ≡ false
unfolding rising_of rising_above_of
no_second v t = ap (λ (r : Risen). r.rising) (rising_once (record { prev = v; threshold = t }) v)

-- in such a state a tick takes no edge and finds its frequency in the memo
held_sound : (s : Wavetable) (c : WavetableControls) (bank : List Float) (p : Turns)
    → wavetable_sound_of (state_of s c p) c bank
    ≡ record { answer = told_of s c bank p; state = state_of s c (held_next (step_of s c) p) }
unfolding wavetable_sound_of held_answer held_next restart_of
held_sound s c bank p = simp (recall1_again voct_to_hz_at s.freq_memo c.v_oct.0, no_second, mix_pair)

pub holds : (s : Wavetable) (c : WavetableControls) (bank : List Float) → wavetable_tick_refusal_of s (length bank) ≡ 0
    → Holds (wavetable_told_of c bank) (wavetable_next_of c bank) (told_of s c bank) (held_next (step_of s c)) (state_of s c) (λ p. phase_ok p ≡ true) s
    (first_of s c)
holds s c bank h =
    record {
      good = restart_in s.phase (taken s c) (accepts s (length bank) h).1;
      first = ap (λ (t : Ticked Wavetable). t.answer) (tick_sounds s c bank h ∙ first_sound s c bank);
      second = ap (λ (t : Ticked Wavetable). t.state) (tick_sounds s c bank h ∙ first_sound s c bank);
      stays = λ p k. unfold held_next in wrap_in _ (add-fits binary64 _ _);
      answers =
          λ p k. ap (λ (t : Ticked Wavetable). t.answer) (tick_sounds (state_of s c p) c bank (state_accepted s c (length bank) p h k) ∙ held_sound s c bank p);
      moves = λ p k. ap (λ (t : Ticked Wavetable). t.state)
          (tick_sounds (state_of s c p) c bank (state_accepted s c (length bank) p h k) ∙ held_sound s c bank p);
    }

-- ---- so none of them is refused
pub block_accepts : BlockAccepts
block_accepts s c bank h = held_accepted _ _ _ _ _ _ _ _ (holds s c bank h) (λ p. unfold held_answer in (mark_says _ _ _ _ _).is_accepted)

pub block_tallies : BlockTallies
block_tallies s c bank h = all_taken _ _ s (block_accepts s c bank h)
