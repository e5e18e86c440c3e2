-- What each exported call answers, and what it leaves in the lent slices. f, w, k, o, m and l are floats, wholes, counts, samples,
-- marks and line as they stood.
use Rattle.std.specs.Prelude.{cond, List, ℕ, eqb, Float, length, Result, Ok, Err}
use Rattle.answer.specs.Block.{Block}
use Rattle.answer.specs.Calls.{Outcome}
use Rattle.answer.specs.declared.Tally.{Tally}
use Rattle.common.specs.declared.Refusal.{Refusal}
use Rattle.boundary.specs.Flat.{sizes_of, tick_sizes_of, Kept, kept_by, kept_sized, Heard, heard_of, heard_sized, Played, played_of, tally_sized, played_sized}
use Rattle.karplus_strong.specs.Step.{Ticking}
use Rattle.karplus_strong.specs.KarplusStrong.{Making, karplus_strong_cells_of, karplus_strong_new_of, karplus_strong_tick_of, karplus_strong_block_of}
use Rattle.karplus_strong.specs.KarplusStrong.{karplus_strong_reset_of, karplus_strong_set_sample_rate_of, Strung, strung}
use Rattle.exports_karplus_strong.specs.State.{n_floats, n_wholes, n_samples, state_of, floats_of, wholes_of, samples_of}
use Rattle.karplus_strong.specs.declared.KarplusStrongControls.{KarplusStrongControls}
use Rattle.karplus_strong.specs.declared.KarplusStrong.{KarplusStrong}

-- the cells that a line needs at a rate
unfoldable pub karplus_strong_cells_at : Float → ℕ
karplus_strong_cells_at rate = karplus_strong_cells_of (record { 0 = rate })

-- the line x that a call leaves, unless its lengths are refused, by n
unfoldable pub line_sized : ℕ → List Float → List Float → List Float
line_sized n x l = cond (eqb n 0) x l

-- 0 and the new state, or what refused it
abbrev pub kept_of : Outcome KarplusStrong → List Float → List ℕ → Kept
kept_of = kept_by floats_of wholes_of

-- with the line
pub record Left : Type 0 where
  pub state : Kept
  pub line : List Float

abbrev pub left : Kept → List Float → Left
left k l = record { state = k; line = l }

unfoldable pub left_sized : Making → List Float → List ℕ → List Float → Left
left_sized m f w l =
    left (kept_sized n_floats n_wholes (kept_of m.out f w) f w) (line_sized (sizes_of n_floats n_wholes (length f) (length w)) m.line l)

unfoldable pub karplus_strong_new_at : Float → Float → List Float → List ℕ → List Float → Left
karplus_strong_new_at rate threshold f w l = left_sized (karplus_strong_new_of (record { 0 = rate }) threshold l) f w l

unfoldable pub karplus_strong_reset_at : List Float → List ℕ → List Float → Left
karplus_strong_reset_at f w l = left_sized (karplus_strong_reset_of (state_of f w) l) f w l

unfoldable pub karplus_strong_set_sample_rate_at : Float → List Float → List ℕ → List Float → Left
karplus_strong_set_sample_rate_at rate f w l = left_sized (karplus_strong_set_sample_rate_of (state_of f w) (record { 0 = rate }) l) f w l

-- a tick's number, the state and the sample after it, or what refused it, with the line
pub record Sounded : Type 0 where
  pub heard : Heard
  pub line : List Float

abbrev pub sounded : Heard → List Float → Sounded
sounded h l = record { heard = h; line = l }

unfoldable pub sounded_sized : Ticking → List Float → List ℕ → List Float → List Float → Sounded
sounded_sized t f w o l =
    sounded (heard_sized n_floats n_wholes n_samples (heard_of floats_of wholes_of samples_of t.out.answer t.out.state f w o) f w o)
    (line_sized (tick_sizes_of n_floats n_wholes n_samples (length f) (length w) (length o)) t.line l)

abbrev pub controls : Float → Float → Float → Float → Float → KarplusStrongControls
controls voct trigger damping brightness stretch =
    record { voct = record { 0 = voct }; trigger = trigger; damping = damping; brightness = brightness; stretch = stretch }

unfoldable pub karplus_strong_tick_at : Float → Float → Float → Float → Float → List Float → List ℕ → List Float → List ℕ → List Float → Sounded
karplus_strong_tick_at voct trigger damping brightness stretch f w l draws o =
    sounded_sized (karplus_strong_tick_of (state_of f w) (controls voct trigger damping brightness stretch) draws l) f w o l

-- a block: 0, the state, the counts, the samples and the marks after it, or what refused it
pub record Rung : Type 0 where
  pub played : Played
  pub line : List Float

abbrev pub rung : Played → List Float → Rung
rung p l = record { played = p; line = l }

abbrev pub strung_floats : Strung → List Float
strung_floats x = floats_of x.string

abbrev pub strung_wholes : Strung → List ℕ
strung_wholes x = wholes_of x.string

-- its line, of the tally that the counts are, unless lengths or counts refuse
unfoldable pub line_from : Result Tally Refusal → (Tally → Block Strung) → List Float → List Float
line_from (Ok t) b l = (b t).state.line
line_from (Err e) b l = l

unfoldable pub rung_sized : (Tally → Block Strung) → List Float → List ℕ → List Float → List ℕ → List Float → List ℕ → Rung
rung_sized b f w l k o m =
    rung (played_sized n_floats n_wholes (λ t. played_of strung_floats strung_wholes (b t) f w k) f w k o m)
    (line_from (tally_sized n_floats n_wholes f w k) b l)

unfoldable pub karplus_strong_block_at : Float → Float → Float → Float → Float → List Float → List ℕ → List Float → List ℕ → List ℕ → List Float → List ℕ → Rung
karplus_strong_block_at voct trigger damping brightness stretch f w l draws k o m =
    rung_sized (λ t. karplus_strong_block_of (strung (state_of f w) l) (controls voct trigger damping brightness stretch) draws t o m) f w l k o m
