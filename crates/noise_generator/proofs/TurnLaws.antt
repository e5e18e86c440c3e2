-- A turn from what its parts ensure.
use Rattle.std.proofs.Common.{◌≡◌, ℕ, ◌-◌, ◌<◌, Bool, List, length, get_or, take, drop, refl, ap, ◌∙◌, le_of_eq}
use Rattle.std.proofs.Common.{length-drop, take_all}
use lib.Ieee.{Float, binary64, div}
use Rattle.common.proofs.DrawLaws.{draw_below, draws_enough, draws_fine}
use Rattle.common.specs.Tests.{draws_refusal_of}
use Rattle.std.specs.Prelude.{Ok, Err}
use Rattle.answer.specs.Block.{block, block_said}
use Rattle.answer.specs.declared.Tally.{Tally}
use Rattle.common.specs.declared.Refusal.{Refusal}
use Rattle.noise_generator.specs.NoiseGenerator.{turn_of, Drawing, undrawn}
use Rattle.noise_generator.proofs.RowLaws.{changed_most}
use Rattle.noise_generator.specs.Consts.{sixteen}
use Rattle.noise_generator.specs.Pink.{pink_of}
use Rattle.noise_generator.specs.declared.NoiseGenerator.{NoiseGenerator}
use Rattle.noise_generator.specs.declared.PinkNoiseState.{PinkNoiseState}
use Rattle.answer.specs.declared.Ticked.{Ticked}

-- a draw that isn't refused is below 2 ^ 53
pub fine_there : (d : List ℕ) (n i : ℕ) → draws_refusal_of n d ≡ 0 → i < n → get_or d i 0 < 9007199254740992
fine_there d n i h l = draw_below d n i (draws_fine n d h) l

-- what a turn asks of its draws, and what it hears of a pink
pub pink_is : (p : PinkNoiseState) → pink_of p ≡ div binary64 p.running_sum sixteen
unfolding pink_of
pink_is p = refl

pub ruleset turning = (draws_enough, fine_there, changed_most, pink_is)

-- ---- a turn over the draws from place `at` on, as the code cuts them off
pub rest_draws : (d : List ℕ) (at : ℕ) → take (length d - at) (drop at d) ≡ drop at d
rest_draws d at = take_all (length d - at) (drop at d) (le_of_eq (length-drop at d))

pub turn_there : (k correlation : Float) (n numbers : Bool) (x : NoiseGenerator) (wanted at : ℕ) (d : List ℕ) (t : Ticked NoiseGenerator) → k ≡ correlation
    → n ≡ numbers → t ≡ turn_of k n x wanted (take (length d - at) (drop at d)) → t ≡ turn_of correlation numbers x wanted (drop at d)
turn_there k correlation n numbers x wanted at d t e z h = h ∙ (λ i. turn_of (e i) (z i) x wanted (rest_draws d at i))

-- ---- a block without the draws that it leaves
pub undrawn_ok : (x y : Drawing) (s : NoiseGenerator) (t u : Tally) (o : List Float) (m : List ℕ) → s ≡ y.noise
    → block_said x.noise t (Ok (record { state = s; tally = u })) o m ≡ undrawn (block_said x t (Ok (record { state = y; tally = u })) o m)
unfolding block_said
undrawn_ok x y s t u o m e = ap (λ (k : NoiseGenerator). block 0 k u o m) e

pub undrawn_err : (x : Drawing) (t : Tally) (e : Refusal) (o : List Float) (m : List ℕ)
    → block_said x.noise t (Err e) o m ≡ undrawn (block_said x t (Err e) o m)
unfolding block_said
undrawn_err x t e o m = refl
