-- A block's ticks are ticks of the phase alone: its reset and its rate stand still.
use mathlib.Core.Bool.{Bool, true, false}
use mathlib.Core.Path.{◌≡◌, refl, ap, ◌∙◌}
use Prim.Native.Nat.{ℕ, ◌+◌}
use native.Mathlib.Numerals.{add-one}
use lib.Dec.{lit<}
use lib.Ieee.{Float, nan, binary64, add, div}
use lib.Ieee.Fits.{add-fits}
use Rattle.answer.specs.Answer.{refusal_of}
use Rattle.answer.specs.Block.{after_ticks, answer_at}
use Rattle.answer.proofs.Blocks.{Holds, held_accepted, all_taken}
use Rattle.answer.proofs.Laws.{mark_says, refused_by, mark_steers, tick_steers, nan_given, mark_sounds, tick_sounds}
use Rattle.answer.specs.Mark.{all_numbers, mark_of}
use Rattle.answer.specs.Promises.{SoundsAs}
use Rattle.answer.specs.declared.Answer.{Answer}
use Rattle.common.specs.Phase.{turns, wrap_phase_of, increment_of, restart_of}
use Rattle.common.specs.Edge.{rising_of}
use Rattle.common.specs.Memo.{recall1}
use Rattle.common.specs.Tests.{phase_ok}
use Rattle.common.proofs.EdgeLaws.{threshold_in, threshold_kept, rising_once, rising_nan, rising_zero}
use Rattle.common.proofs.MemoLaws.{recall1_again}
use Rattle.common.proofs.PhaseLaws.{wrap_in, restart_in}
use Rattle.common.specs.declared.Turns.{Turns}
use Rattle.common.specs.declared.Wrapped.{Wrapped}
use Rattle.laws.specs.Float.{zer, is_fin}
use Rattle.lfo.specs.Shortcuts.{held_told, held_next}
use Rattle.lfo.proofs.Accepted.{accepts, sounds}
use Rattle.lfo.specs.Consts.{ten}
use Rattle.lfo.specs.Lfo.{controls_of, lfo_refusal_of, lfo_outputs_of, lfo_sound_of, lfo_tick_of, lfo_told_of, lfo_next_of}
use Rattle.lfo.specs.Waves.{rate_to_hz}
use Rattle.lfo.specs.Promises.{NanSteers, low_reset, NanReset, BlockAccepts, BlockTallies}
use Rattle.lfo.specs.declared.Lfo.{Lfo}
use Rattle.lfo.specs.declared.LfoControls.{LfoControls}
use Rattle.answer.specs.declared.Ticked.{Ticked}
use Rattle.common.specs.Memo.{Memo1}

-- ---- a turn of the loop
pub heard : (wanted : ℕ) (depth : Float) (numbers : Bool) (step start : Turns) (i : ℕ) (p : Turns) (w : Wrapped) (a : Answer)
    → a ≡ mark_of (lfo_outputs_of wanted p.0 depth w.turned) false true (is_fin (add binary64 p.0 step.0)) numbers
    → w ≡ wrap_phase_of (turns (add binary64 p.0 step.0)) → p ≡ after_ticks (held_next step) i start
    → a ≡ answer_at (held_told wanted depth numbers step) (held_next step) start i
unfolding answer_at held_told
heard wanted depth numbers step start i p w a e u z = simp (e, u, z)

pub moved : (step start : Turns) (i : ℕ) (p : Turns) (w : Wrapped) → w ≡ wrap_phase_of (turns (add binary64 p.0 step.0))
    → p ≡ after_ticks (held_next step) i start → w.phase ≡ after_ticks (held_next step) (i + 1) start
unfolding after_ticks held_next
moved step start i p w e z = rw add-one (simp (e, z))

-- ---- the whole
abbrev held_memo : Lfo → LfoControls → Memo1
held_memo s c = recall1 rate_to_hz s.freq_memo c.rate

abbrev pub start_of : Lfo → LfoControls → Turns
start_of s c = restart_of s.phase (rising_of s.reset_edge c.reset).rising

abbrev pub step_of : Lfo → LfoControls → Turns
step_of s c = increment_of (held_memo s c).val s.sample_rate

-- what a tick of a block answers whose phase is p
abbrev pub told_of : Lfo → LfoControls → ℕ → Turns → Answer
told_of s c wanted = held_told wanted (div binary64 c.depth ten) (all_numbers (controls_of c)) (step_of s c)

-- and the state then, from the second tick on
abbrev pub state_of : Lfo → LfoControls → Turns → Lfo
state_of s c p = record { phase = p; sample_rate = s.sample_rate; reset_edge = (rising_of s.reset_edge c.reset).edge; freq_memo = held_memo s c }

state_accepted : (s : Lfo) (c : LfoControls) (p : Turns) → lfo_refusal_of s ≡ 0 → phase_ok p ≡ true → lfo_refusal_of (state_of s c p) ≡ 0
unfolding lfo_refusal_of
state_accepted s c p h k = simp ((accepts s h).0, k, (threshold_kept s.reset_edge c.reset).rising, (accepts s h).2)

-- in such a state a tick takes no edge and finds its rate in the memo
held_sound : (s : Lfo) (c : LfoControls) (wanted : ℕ) (p : Turns)
    → lfo_sound_of (state_of s c p) c wanted
    ≡ record { answer = told_of s c wanted p; state = state_of s c (held_next (step_of s c) p) }
unfolding lfo_sound_of held_told held_next restart_of
held_sound s c wanted p = simp (recall1_again rate_to_hz s.freq_memo c.rate, rising_once s.reset_edge c.reset)

pub holds : (s : Lfo) (c : LfoControls) (wanted : ℕ) → lfo_refusal_of s ≡ 0
    → Holds (lfo_told_of c wanted) (lfo_next_of c wanted) (told_of s c wanted) (held_next (step_of s c)) (state_of s c) (λ p. phase_ok p ≡ true) s
    (start_of s c)
holds s c wanted h =
    record {
      good = restart_in s.phase (rising_of s.reset_edge c.reset).rising (accepts s h).1;
      first = unfold lfo_sound_of held_told in ap (λ (t : Ticked Lfo). t.answer) (sounds s c wanted h);
      second = unfold lfo_sound_of held_next in ap (λ (t : Ticked Lfo). t.state) (sounds s c wanted h);
      stays = λ p k. unfold held_next in wrap_in _ (add-fits binary64 _ _);
      answers = λ p k. ap (λ (t : Ticked Lfo). t.answer) (sounds (state_of s c p) c wanted (state_accepted s c p h k) ∙ held_sound s c wanted p);
      moves = λ p k. ap (λ (t : Ticked Lfo). t.state) (sounds (state_of s c p) c wanted (state_accepted s c p h k) ∙ held_sound s c wanted p);
    }

-- ---- so none of them is refused
pub block_accepts : BlockAccepts
block_accepts s c wanted h = held_accepted _ _ _ _ _ _ _ _ (holds s c wanted h) (λ p. unfold held_told in (mark_says _ _ _ _ _).is_accepted)

pub block_tallies : BlockTallies
block_tallies s c wanted h = all_taken _ _ s (block_accepts s c wanted h)

-- ---- a tick is refused by what refuses its state
pub tick_refusal : (s : Lfo) (c : LfoControls) (wanted : ℕ) → refusal_of (lfo_tick_of s c wanted).answer ≡ lfo_refusal_of s
unfolding lfo_tick_of lfo_sound_of
tick_refusal s c wanted = refused_by (λ (t : Ticked Lfo). t.answer) (lfo_refusal_of s) _ _ (mark_says _ _ _ _ _).is_accepted refl

-- ---- and marked over its controls
pub nan_steers : NanSteers
unfolding lfo_tick_of lfo_sound_of
nan_steers s c wanted = tick_steers (λ (t : Ticked Lfo). t.answer) (controls_of c) (lfo_refusal_of s) _ _ (mark_steers _ _ _ _ (controls_of c)) refl

-- a reset that is NaN takes no edge, and neither does 0 V
module _ (s : Lfo) (c : LfoControls) (wanted : ℕ) (h : c.reset ≡ nan) (a : lfo_refusal_of s ≡ 0) where
  nan_still : (rising_of s.reset_edge c.reset).rising ≡ false
  nan_still = rw h (rising_nan s.reset_edge)

  low_still : (rising_of s.reset_edge zer).rising ≡ false
  low_still = rising_zero s.reset_edge (threshold_in s.reset_edge.threshold (accepts s a).2).above

  reset_sounds : SoundsAs (lfo_sound_of s c wanted).answer (lfo_sound_of s (low_reset c) wanted).answer
  unfolding lfo_sound_of
  reset_sounds = rw (nan_given (controls_of c) 2 (lit< tt) h, nan_still, low_still) (mark_sounds _ _ _ _ _ _ refl)

pub nan_reset : NanReset
unfolding lfo_tick_of
nan_reset s c wanted h = tick_sounds (λ (t : Ticked Lfo). t.answer) (lfo_refusal_of s) _ _ _ (reset_sounds s c wanted h) refl
