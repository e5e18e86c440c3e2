-- What each exported call answers, and what it leaves in the lent slices. f, w, k, o and m are floats, wholes, counts, samples and
-- marks as they stood.
use Rattle.std.specs.Prelude.{List, ℕ, Float}
use Rattle.answer.specs.Calls.{Outcome}
use Rattle.boundary.specs.Flat.{Kept, kept_by, kept_sized, Heard, heard_of, heard_sized, Played, played_of, played_sized}
use Rattle.exports_formant_osc.specs.State.{n_floats, n_wholes, n_samples, state_of, floats_of, wholes_of, samples_of}
use Rattle.formant_osc.specs.FormantOsc.{formant_osc_new_of, formant_osc_tick_of, formant_osc_block_of, formant_osc_reset_of, formant_osc_set_sample_rate_of}
use Rattle.formant_osc.specs.declared.FormantOscControls.{FormantOscControls}
use Rattle.formant_osc.specs.declared.FormantOsc.{FormantOsc}

-- 0 and the new state, or what refused it
abbrev pub kept_of : Outcome FormantOsc → List Float → List ℕ → Kept
kept_of = kept_by floats_of wholes_of

unfoldable pub formant_osc_new_at : Float → List Float → List ℕ → Kept
formant_osc_new_at rate f w = kept_sized n_floats n_wholes (kept_of (formant_osc_new_of (record { 0 = rate })) f w) f w

unfoldable pub formant_osc_reset_at : List Float → List ℕ → Kept
formant_osc_reset_at f w = kept_sized n_floats n_wholes (kept_of (formant_osc_reset_of (state_of f w)) f w) f w

unfoldable pub formant_osc_set_sample_rate_at : Float → List Float → List ℕ → Kept
formant_osc_set_sample_rate_at rate f w = kept_sized n_floats n_wholes (kept_of (formant_osc_set_sample_rate_of (state_of f w) (record { 0 = rate })) f w) f w

abbrev pub controls : Float → Float → Float → Float → FormantOscControls
controls v_oct vowel shift vibrato = record { v_oct = record { 0 = v_oct }; vowel = vowel; formant_shift = shift; vibrato = vibrato }

unfoldable pub formant_osc_tick_at : Float → Float → Float → Float → List Float → List ℕ → List Float → Heard
formant_osc_tick_at v_oct vowel shift vibrato f w o =
    let t = formant_osc_tick_of (state_of f w) (controls v_oct vowel shift vibrato) in
    heard_sized n_floats n_wholes n_samples (heard_of floats_of wholes_of samples_of t.answer t.state f w o) f w o

-- a block: 0, the state, the counts, the samples and the marks after it, or what refused it
unfoldable pub formant_osc_block_at : Float → Float → Float → Float → List Float → List ℕ → List ℕ → List Float → List ℕ → Played
formant_osc_block_at v_oct vowel shift vibrato f w k o m =
    played_sized n_floats n_wholes
    (λ t. played_of floats_of wholes_of (formant_osc_block_of (state_of f w) (controls v_oct vowel shift vibrato) t o m) f w k)
    f w k o m
