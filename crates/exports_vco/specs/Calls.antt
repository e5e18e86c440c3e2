-- What each exported call answers, and what it leaves in the lent slices. f, w, k, o and m are floats, wholes, counts, samples and
-- marks as they stood.
use Rattle.std.specs.Prelude.{List, ℕ, Float}
use Rattle.answer.specs.Calls.{Outcome}
use Rattle.boundary.specs.Flat.{Kept, kept_by, kept_sized, Heard, heard_of, heard_sized, Played, played_of, played_sized}
use Rattle.vco.specs.Vco.{vco_new_of, vco_tick_of, vco_block_of, vco_reset_of, vco_set_sample_rate_of}
use Rattle.exports_vco.specs.State.{n_floats, n_wholes, n_samples, state_of, floats_of, wholes_of, samples_of}
use Rattle.vco.specs.declared.VcoControls.{VcoControls}
use Rattle.vco.specs.declared.Vco.{Vco}

-- 0 and the new state, or what refused it
abbrev pub kept_of : Outcome Vco → List Float → List ℕ → Kept
kept_of = kept_by floats_of wholes_of

unfoldable pub vco_new_at : Float → Float → List Float → List ℕ → Kept
vco_new_at rate threshold f w = kept_sized n_floats n_wholes (kept_of (vco_new_of (record { 0 = rate }) threshold) f w) f w

unfoldable pub vco_reset_at : List Float → List ℕ → Kept
vco_reset_at f w = kept_sized n_floats n_wholes (kept_of (vco_reset_of (state_of f w)) f w) f w

unfoldable pub vco_set_sample_rate_at : Float → List Float → List ℕ → Kept
vco_set_sample_rate_at rate f w = kept_sized n_floats n_wholes (kept_of (vco_set_sample_rate_of (state_of f w) (record { 0 = rate })) f w) f w

abbrev pub controls_of : Float → Float → Float → Float → Float → VcoControls
controls_of voct fm pw sync fm_lin = record { voct = record { 0 = voct }; fm = record { 0 = fm }; pw = pw; sync = sync; fm_lin = fm_lin }

unfoldable pub vco_tick_at : VcoControls → ℕ → List Float → List ℕ → List Float → Heard
vco_tick_at c wanted f w o =
    let t = vco_tick_of (state_of f w) c wanted in
    heard_sized n_floats n_wholes n_samples (heard_of floats_of wholes_of samples_of t.answer t.state f w o) f w o

-- a block: 0, the state, the counts, the samples and the marks after it, or what refused it
unfoldable pub vco_block_at : VcoControls → ℕ → List Float → List ℕ → List ℕ → List Float → List ℕ → Played
vco_block_at c wanted f w k o m =
    played_sized n_floats n_wholes (λ t. played_of floats_of wholes_of (vco_block_of (state_of f w) c wanted t o m) f w k) f w k o m
