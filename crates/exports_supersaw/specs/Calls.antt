-- What each exported call answers, and what it leaves in the lent slices. f, w, k, o and m are floats, wholes, counts, samples and
-- marks as they stood.
use Rattle.std.specs.Prelude.{List, ℕ, Float}
use Rattle.answer.specs.Calls.{Outcome}
use Rattle.boundary.specs.Flat.{Kept, kept_by, kept_sized, Heard, heard_of, heard_sized, Played, played_of, played_sized}
use Rattle.supersaw.specs.Supersaw.{supersaw_new_of, supersaw_tick_of, supersaw_block_of, supersaw_reset_of, supersaw_set_sample_rate_of}
use Rattle.exports_supersaw.specs.State.{n_floats, n_wholes, n_samples, state_of, floats_of, wholes_of, samples_of}
use Rattle.supersaw.specs.declared.SupersawControls.{SupersawControls}
use Rattle.supersaw.specs.declared.Supersaw.{Supersaw}

-- 0 and the new state, or what refused it
abbrev pub kept_of : Outcome Supersaw → List Float → List ℕ → Kept
kept_of = kept_by floats_of wholes_of

unfoldable pub supersaw_new_at : Float → List Float → List ℕ → Kept
supersaw_new_at rate f w = kept_sized n_floats n_wholes (kept_of (supersaw_new_of (record { 0 = rate })) f w) f w

unfoldable pub supersaw_reset_at : List Float → List ℕ → Kept
supersaw_reset_at f w = kept_sized n_floats n_wholes (kept_of (supersaw_reset_of (state_of f w)) f w) f w

unfoldable pub supersaw_set_sample_rate_at : Float → List Float → List ℕ → Kept
supersaw_set_sample_rate_at rate f w = kept_sized n_floats n_wholes (kept_of (supersaw_set_sample_rate_of (state_of f w) (record { 0 = rate })) f w) f w

abbrev pub controls : Float → Float → Float → SupersawControls
controls voct detune mix = record { voct = record { 0 = voct }; detune = detune; mix = mix }

unfoldable pub supersaw_tick_at : Float → Float → Float → List Float → List ℕ → List Float → Heard
supersaw_tick_at voct detune mix f w o =
    let t = supersaw_tick_of (state_of f w) (controls voct detune mix) in
    heard_sized n_floats n_wholes n_samples (heard_of floats_of wholes_of samples_of t.answer t.state f w o) f w o

-- a block: 0, the state, the counts, the samples and the marks after it, or what refused it
unfoldable pub supersaw_block_at : Float → Float → Float → List Float → List ℕ → List ℕ → List Float → List ℕ → Played
supersaw_block_at voct detune mix f w k o m =
    played_sized n_floats n_wholes (λ t. played_of floats_of wholes_of (supersaw_block_of (state_of f w) (controls voct detune mix) t o m) f w k) f w k o m
