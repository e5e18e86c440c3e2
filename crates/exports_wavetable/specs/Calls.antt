-- What each exported call answers, and what it leaves in the lent slices. f, w, k, o and m are floats, wholes, counts, samples and
-- marks as they stood, l a bank or a part of one.
use Rattle.std.specs.Prelude.{List, ℕ, Float}
use Rattle.answer.specs.Calls.{Outcome}
use Rattle.common.specs.Refusal.{refused_number}
use Rattle.boundary.specs.Flat.{Kept, kept_by, kept_sized, Heard, heard_of, heard_sized, Played, played_of, played_sized}
use Rattle.wavetable.specs.Bank.{Filled, fill_bank_of, fill_table_of}
use Rattle.wavetable.specs.Wavetable.{wavetable_new_of, wavetable_tick_of, wavetable_block_of, wavetable_reset_of, wavetable_set_sample_rate_of}
use Rattle.exports_wavetable.specs.State.{n_floats, n_wholes, n_samples, state_of, floats_of, wholes_of, samples_of}
use Rattle.wavetable.specs.declared.WavetableControls.{WavetableControls}
use Rattle.wavetable.specs.declared.Wavetable.{Wavetable}

-- 0 and the new state, or what refused it
abbrev pub kept_of : Outcome Wavetable → List Float → List ℕ → Kept
kept_of = kept_by floats_of wholes_of

unfoldable pub wavetable_new_at : Float → Float → List Float → List ℕ → Kept
wavetable_new_at rate threshold f w = kept_sized n_floats n_wholes (kept_of (wavetable_new_of (record { 0 = rate }) threshold) f w) f w

unfoldable pub wavetable_reset_at : List Float → List ℕ → Kept
wavetable_reset_at f w = kept_sized n_floats n_wholes (kept_of (wavetable_reset_of (state_of f w)) f w) f w

unfoldable pub wavetable_set_sample_rate_at : Float → List Float → List ℕ → Kept
wavetable_set_sample_rate_at rate f w = kept_sized n_floats n_wholes (kept_of (wavetable_set_sample_rate_of (state_of f w) (record { 0 = rate })) f w) f w

abbrev pub controls : Float → Float → Float → Float → WavetableControls
controls v table morph sync = record { v_oct = record { 0 = v }; table = table; morph = morph; sync = sync }

unfoldable pub wavetable_tick_at : Float → Float → Float → Float → List Float → List Float → List ℕ → List Float → Heard
wavetable_tick_at v table morph sync l f w o =
    let t = wavetable_tick_of (state_of f w) (controls v table morph sync) l in
    heard_sized n_floats n_wholes n_samples (heard_of floats_of wholes_of samples_of t.answer t.state f w o) f w o

-- a block: 0, the state, the counts, the samples and the marks after it, or what refused it
unfoldable pub wavetable_block_at : Float → Float → Float → Float → List Float → List Float → List ℕ → List ℕ → List Float → List ℕ → Played
wavetable_block_at v table morph sync l f w k o m =
    played_sized n_floats n_wholes
    (λ t. played_of floats_of wholes_of (wavetable_block_of (state_of f w) (controls v table morph sync) t l o m) f w k)
    f w k o m

-- the number of a fill, and the slice after it
pub record FilledWith : Type 0 where
  pub code : ℕ
  pub cells : List Float

abbrev pub filled_with : ℕ → List Float → FilledWith
filled_with n l = record { code = n; cells = l }

unfoldable pub numbered : Filled → FilledWith
numbered f = filled_with (refused_number f.outcome) f.cells

unfoldable pub wavetable_fill_bank_at : List Float → FilledWith
wavetable_fill_bank_at l = numbered (fill_bank_of l)

unfoldable pub wavetable_fill_table_at : ℕ → List Float → FilledWith
wavetable_fill_table_at table l = numbered (fill_table_of table l)
