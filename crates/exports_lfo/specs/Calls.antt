-- What each exported call answers, and what it leaves in the lent slices. f, w, k, o and m are floats, wholes, counts, samples and
-- marks as they stood.
use Rattle.std.specs.Prelude.{List, ℕ, Float}
use Rattle.answer.specs.Calls.{Outcome}
use Rattle.boundary.specs.Flat.{Kept, kept_by, kept_sized, Heard, heard_of, heard_sized, Played, played_of, played_sized}
use Rattle.lfo.specs.Lfo.{lfo_new_of, lfo_tick_of, lfo_block_of, lfo_reset_of, lfo_set_sample_rate_of}
use Rattle.exports_lfo.specs.State.{n_floats, n_wholes, n_samples, state_of, floats_of, wholes_of, samples_of}
use Rattle.lfo.specs.declared.LfoControls.{LfoControls}
use Rattle.lfo.specs.declared.Lfo.{Lfo}

-- 0 and the new state, or what refused it
abbrev pub kept_of : Outcome Lfo → List Float → List ℕ → Kept
kept_of = kept_by floats_of wholes_of

unfoldable pub lfo_new_at : Float → Float → List Float → List ℕ → Kept
lfo_new_at rate threshold f w = kept_sized n_floats n_wholes (kept_of (lfo_new_of (record { 0 = rate }) threshold) f w) f w

unfoldable pub lfo_reset_at : List Float → List ℕ → Kept
lfo_reset_at f w = kept_sized n_floats n_wholes (kept_of (lfo_reset_of (state_of f w)) f w) f w

unfoldable pub lfo_set_sample_rate_at : Float → List Float → List ℕ → Kept
lfo_set_sample_rate_at rate f w = kept_sized n_floats n_wholes (kept_of (lfo_set_sample_rate_of (state_of f w) (record { 0 = rate })) f w) f w

abbrev pub controls_of : Float → Float → Float → LfoControls
controls_of rate depth reset = record { rate = rate; depth = depth; reset = reset }

unfoldable pub lfo_tick_at : Float → Float → Float → ℕ → List Float → List ℕ → List Float → Heard
lfo_tick_at rate depth reset wanted f w o =
    let t = lfo_tick_of (state_of f w) (controls_of rate depth reset) wanted in
    heard_sized n_floats n_wholes n_samples (heard_of floats_of wholes_of samples_of t.answer t.state f w o) f w o

-- a block: 0, the state, the counts, the samples and the marks after it, or what refused it
unfoldable pub lfo_block_at : Float → Float → Float → ℕ → List Float → List ℕ → List ℕ → List Float → List ℕ → Played
lfo_block_at rate depth reset wanted f w k o m =
    played_sized n_floats n_wholes
    (λ t. played_of floats_of wholes_of (lfo_block_of (state_of f w) (controls_of rate depth reset) wanted t o m) f w k)
    f w k o m
