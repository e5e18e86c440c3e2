-- A block's ticks are ticks of the phase alone, after a first that may take the edge: the controls stand still.
use Rattle.std.specs.Prelude.{None, Option, Some}
use mathlib.Core.Bool.{Bool, true}
use mathlib.Core.Path.{◌≡◌, refl, sym, ap, ◌∙◌}
use Prim.Native.Nat.{ℕ, zero, suc, ◌+◌, ◌<◌}
use native.Mathlib.Numerals.{add-one}
use native.Mathlib.Omega.{arith}
use lib.Dec.{lit<}
use lib.Ieee.{Float, nan, binary64}
use lib.Ieee.Fits.{add-fits}
use Rattle.std.specs.Prelude.{Option, None, Some}
use Rattle.answer.specs.Answer.{refusal_of}
use Rattle.answer.specs.Block.{after_ticks, answer_at}
use Rattle.answer.proofs.Blocks.{Holds, held_after, held_accepted, all_taken}
use Rattle.answer.proofs.Laws.{mark_says, refused_by, mark_steers, tick_steers, nan_given, mark_sounds, tick_sounds}
use Rattle.answer.specs.Mark.{all_numbers}
use Rattle.answer.specs.Promises.{SoundsAs}
use Rattle.answer.specs.declared.Answer.{Answer}
use Rattle.common.specs.Phase.{increment_of}
use Rattle.common.specs.Edge.{rising_of, crossed_of}
use Rattle.common.specs.Memo.{recall3}
use Rattle.common.specs.Tests.{rate_ok, phase_ok, threshold_ok}
use Rattle.common.proofs.EdgeLaws.{threshold_in, threshold_kept, same_gate, crossed_is, rising_once, rising_nan, rising_zero}
use Rattle.common.proofs.MemoLaws.{recall3_again}
use Rattle.common.proofs.PhaseLaws.{wrap_in}
use Rattle.common.specs.declared.Turns.{Turns}
use Rattle.common.specs.Memo.{Memo3}
use Rattle.common.specs.declared.EdgeDetector.{EdgeDetector}
use Rattle.laws.specs.Float.{zer}
use Rattle.numeric.specs.Basic.{clamp_of}
use Rattle.vco.specs.Consts.{pw_low, pw_high}
use Rattle.vco.specs.Vco.{controls_of, frequency_of, synced_of, vco_answer_of, vco_sound_of, vco_refusal_of, vco_tick_of, vco_told_of, vco_next_of}
use Rattle.vco.specs.Shortcuts.{Held, held, held_told, held_next}
use Rattle.vco.proofs.StateLaws.{unrefused}
use Rattle.vco.proofs.Reached.{Good, tick_sound}
use Rattle.vco.specs.Promises.{NanSteers, low_sync, NanSync, BlockAccepts, BlockTallies}
use Rattle.vco.specs.declared.Vco.{Vco}
use Rattle.vco.specs.declared.VcoControls.{VcoControls}
use Rattle.answer.specs.declared.Ticked.{Ticked}

-- ---- a turn of the loop
pub heard_now : (wanted : ℕ) (numbers : Bool) (pw : Float) (dt : Turns) (start : Held) (i : ℕ) (p q : Turns) (at : Option Float) (a : Answer)
    → a ≡ vco_answer_of at q.0 p.0 pw dt.0 wanted numbers
    → q ≡ synced_of p at → held p at ≡ after_ticks (held_next dt) i start → a ≡ answer_at (held_told wanted pw numbers dt) (held_next dt) start i
unfolding answer_at held_told
heard_now wanted numbers pw dt start i p q at a e r z = simp (e, r, ← z)

pub next_now : (dt : Turns) (start : Held) (i : ℕ) (h k : Held) → k ≡ held_next dt h → h ≡ after_ticks (held_next dt) i start
    → k ≡ after_ticks (held_next dt) (i + 1) start
unfolding after_ticks
next_now dt start i h k e z = rw add-one (simp (e, z))

-- ---- the whole
module _ (s : Vco) (c : VcoControls) where
  abbrev held_memo : Memo3
  held_memo = recall3 frequency_of s.freq_memo c.voct.0 c.fm.0 c.fm_lin

  abbrev pub step_of : Turns
  step_of = increment_of held_memo.val s.sample_rate

  abbrev pub start_of : Held
  start_of = held s.phase (crossed_of s.sync_edge c.sync).at

  -- what a tick of a block answers
  abbrev pub told_of : ℕ → Held → Answer
  told_of wanted = held_told wanted (clamp_of c.pw pw_low pw_high) (all_numbers (controls_of c)) step_of

  -- the detector that tells this crossing: the one before the block if it is an edge, the one after a tick if it is none
  unfoldable pub edge_of : Option Float → EdgeDetector
  edge_of None = (rising_of s.sync_edge c.sync).edge
  edge_of (Some frac) = s.sync_edge

  -- the state in a block that the small one stands for
  abbrev pub state_of : Held → Vco
  state_of h = record { phase = h.phase; sample_rate = s.sample_rate; sync_edge = edge_of h.at; freq_memo = held_memo }

  pub record Fair (h : Held) : Type 0 where
    pub phase : phase_ok h.phase ≡ true
    pub at : (crossed_of (edge_of h.at) c.sync).at ≡ h.at

  -- which is of the same threshold
  edge_kept : (at : Option Float) → (edge_of at).threshold ≡ s.sync_edge.threshold
  unfolding edge_of
  edge_kept None = same_gate (threshold_kept s.sync_edge c.sync).rising
  edge_kept (Some frac) = refl

  state_good : (h : Held) → rate_ok s.sample_rate ≡ true → Fair h → threshold_ok s.sync_edge.threshold ≡ true → Good (state_of h)
  state_good h r f t = record { rate = r; phase = f.phase; threshold = rw (edge_kept h.at) t }

  -- no edge comes twice, and the detector then stays
  still : (crossed_of (edge_of None) c.sync).at ≡ None
  unfolding edge_of
  still = simp (crossed_is, rising_once s.sync_edge c.sync)

  edge_first : (crossed_of s.sync_edge c.sync).edge ≡ edge_of None
  unfolding edge_of
  edge_first = simp (crossed_is s.sync_edge c.sync)

  edge_left : (at : Option Float) → (crossed_of (edge_of at) c.sync).edge ≡ edge_of None
  unfolding edge_of
  edge_left None = simp (crossed_is, rising_once s.sync_edge c.sync)
  edge_left (Some frac) = edge_first

  first_at : (at : Option Float) → (crossed_of s.sync_edge c.sync).at ≡ at → (crossed_of (edge_of at) c.sync).at ≡ at
  unfolding edge_of
  first_at None e = still
  first_at (Some frac) e = e

  -- in such a state a tick finds its frequency in the memo, and its edge is the one held
  held_sound : (wanted : ℕ) (h : Held) → Fair h
      → vco_sound_of (state_of h) c wanted ≡ record { answer = told_of wanted h; state = state_of (held_next step_of h) }
  unfolding vco_sound_of held_told held_next
  held_sound wanted h f = simp (recall3_again frequency_of s.freq_memo c.voct.0 c.fm.0 c.fm_lin, f.at, edge_left h.at)

  first_sound : (wanted : ℕ) → vco_sound_of s c wanted ≡ record { answer = told_of wanted start_of; state = state_of (held_next step_of start_of) }
  unfolding vco_sound_of held_told held_next
  first_sound wanted = simp edge_first

  pub holds : (wanted : ℕ) → vco_refusal_of s ≡ 0
      → Holds (vco_told_of c wanted) (vco_next_of c wanted) (told_of wanted) (held_next step_of) state_of Fair s start_of
  holds wanted n =
      let a = unrefused s n in
      let first = tick_sound s (record { rate = a.0; phase = a.1; threshold = a.2 }) c wanted ∙ first_sound wanted in
      record {
        good = record { phase = a.1; at = first_at (crossed_of s.sync_edge c.sync).at refl };
        first = ap (λ (t : Ticked Vco). t.answer) first;
        second = ap (λ (t : Ticked Vco). t.state) first;
        stays = λ h f. record { phase = unfold held_next in wrap_in _ (add-fits binary64 _ _); at = unfold held_next in still };
        answers = λ h f. ap (λ (t : Ticked Vco). t.answer) (tick_sound (state_of h) (state_good h a.0 f a.2) c wanted ∙ held_sound wanted h f);
        moves = λ h f. ap (λ (t : Ticked Vco). t.state) (tick_sound (state_of h) (state_good h a.0 f a.2) c wanted ∙ held_sound wanted h f);
      }

  -- what a block that isn't empty leaves: the edge is forgotten
  left_at : (n : ℕ) → 0 < n → (after_ticks (held_next step_of) n start_of).at ≡ None
  unfolding after_ticks held_next
  left_at zero z = absurd (omega arith)
  left_at (suc n) z = refl

  pub left : (wanted n : ℕ) → vco_refusal_of s ≡ 0 → 0 < n
      → record {
        phase = (after_ticks (held_next step_of) n start_of).phase;
        sample_rate = s.sample_rate;
        sync_edge = (crossed_of s.sync_edge c.sync).edge;
        freq_memo = held_memo;
      } ≡ after_ticks (vco_next_of c wanted) n s
  left wanted n h z = simp (edge_first, ← left_at n z) (sym (held_after _ _ _ _ _ _ _ _ (holds wanted h) n z))

-- ---- so none of them is refused
pub block_accepts : BlockAccepts
block_accepts s c wanted h = held_accepted _ _ _ _ _ _ _ _ (holds s c wanted h) (λ p. unfold held_told vco_answer_of in (mark_says _ _ _ _ _).is_accepted)

pub block_tallies : BlockTallies
block_tallies s c wanted h = all_taken _ _ s (block_accepts s c wanted h)

-- ---- a tick is refused by what refuses its state
pub tick_refusal : (s : Vco) (c : VcoControls) (wanted : ℕ) → refusal_of (vco_tick_of s c wanted).answer ≡ vco_refusal_of s
unfolding vco_tick_of vco_sound_of vco_answer_of
tick_refusal s c wanted = refused_by (λ (t : Ticked Vco). t.answer) (vco_refusal_of s) _ _ (mark_says _ _ _ _ _).is_accepted refl

-- ---- and marked over its controls
pub nan_steers : NanSteers
unfolding vco_tick_of vco_sound_of vco_answer_of
nan_steers s c wanted = tick_steers (λ (t : Ticked Vco). t.answer) (controls_of c) (vco_refusal_of s) _ _ (mark_steers _ _ _ _ (controls_of c)) refl

-- a sync that is NaN takes no edge, and neither does 0 V
module _ (s : Vco) (c : VcoControls) (wanted : ℕ) (h : c.sync ≡ nan) (a : vco_refusal_of s ≡ 0) where
  nan_nowhere : (crossed_of s.sync_edge c.sync).at ≡ None
  nan_nowhere = rw h (simp (crossed_is, rising_nan s.sync_edge))

  low_nowhere : (crossed_of s.sync_edge zer).at ≡ None
  low_nowhere =
      simp (crossed_is, rising_zero s.sync_edge (threshold_in s.sync_edge.threshold (unrefused s a).2).above)

  sync_sounds : SoundsAs (vco_sound_of s c wanted).answer (vco_sound_of s (low_sync c) wanted).answer
  unfolding vco_sound_of vco_answer_of
  sync_sounds = rw (nan_given (controls_of c) 3 (lit< tt) h, nan_nowhere, low_nowhere) (mark_sounds _ _ _ _ _ _ refl)

pub nan_sync : NanSync
unfolding vco_tick_of
nan_sync s c wanted h = tick_sounds (λ (t : Ticked Vco). t.answer) (vco_refusal_of s) _ _ _ (sync_sounds s c wanted h) refl
