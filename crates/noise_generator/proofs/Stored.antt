-- No call changes the stored correlation, so a reset generator is a new one of its making.
use Rattle.std.proofs.Common.{◌≡◌, ℕ, List, sym, refl, ap, ◌∙◌, subst, inl, inr}
use lib.Ieee.{Float}
use Rattle.laws.proofs.Always.{always}
use Rattle.laws.specs.Float.{zer}
use Rattle.answer.proofs.Blocks.{block_keeps, ticks_keep}
use Rattle.noise_generator.proofs.TickLaws.{drawing_at, tick_by}
use Rattle.noise_generator.specs.Consts.{n_ports}
use Rattle.noise_generator.specs.Calls.{Call, Tick, Play, Reset, SetSampleRate, after, First}
use Rattle.noise_generator.specs.NoiseGenerator.{generator, new_noise_generator, with_correlation, turn_of, noise_generator_tick_of}
use Rattle.noise_generator.specs.NoiseGenerator.{Drawing, drawing, noise_generator_next_of, noise_generator_block_of}
use Rattle.noise_generator.specs.NoiseGenerator.{restarted, rated}
use Rattle.noise_generator.specs.Pink.{new_pink}
use Rattle.noise_generator.specs.Promises.{ResetNew}
use Rattle.noise_generator.specs.declared.NoiseGenerator.{NoiseGenerator}
use Rattle.noise_generator.specs.declared.NoiseGeneratorControls.{NoiseGeneratorControls}
use Rattle.answer.specs.declared.Ticked.{Ticked}

pub tick_stored : (s : NoiseGenerator) (c : NoiseGeneratorControls) (wanted : ℕ) (draws : List ℕ)
    → (noise_generator_tick_of s c wanted draws).state.correlation ≡ s.correlation
tick_stored s c wanted draws =
    tick_by s c wanted draws (λ (t : Ticked NoiseGenerator). t.state.correlation ≡ s.correlation) (λ e. unfold turn_of in refl) (λ e. refl)

-- as a property of what a block goes through
abbrev Stores : Float → Drawing → Type 0
Stores c x = x.noise.correlation ≡ c

next_stored : (c : NoiseGeneratorControls) (wanted : ℕ) (stored : Float) (x : Drawing) → Stores stored x → Stores stored (noise_generator_next_of c wanted x)
next_stored c wanted stored x h = tick_stored x.noise c wanted x.draws ∙ h

pub stored_at : (s : NoiseGenerator) (c : NoiseGeneratorControls) (wanted : ℕ) (draws : List ℕ) (i : ℕ)
    → (drawing_at s c wanted draws i).noise.correlation ≡ s.correlation
stored_at s c wanted draws i =
    ticks_keep (Stores s.correlation) (noise_generator_next_of c wanted) (next_stored c wanted s.correlation) (drawing s draws) refl i

after_stored : (s : NoiseGenerator) (c : Call) → (after s c).correlation ≡ s.correlation
unfolding after
after_stored s (Tick c wanted draws) = tick_stored s c wanted draws
after_stored s (Play c wanted draws t o m) =
    unfold noise_generator_block_of in block_keeps n_ports _ _ _ (Stores s.correlation) (next_stored c wanted s.correlation) (drawing s draws) refl t o m
after_stored s Reset = unfold restarted in refl
after_stored s (SetSampleRate r) = unfold rated in refl

-- a reset looks at nothing else
reset_same : (s r : NoiseGenerator) → s.correlation ≡ r.correlation → restarted s ≡ restarted r
unfolding restarted
reset_same s r e = ap (λ (c : Float). generator new_pink new_pink c zer) e

reset_first : (s : NoiseGenerator) → First s → First (restarted s)
reset_first s (inl e) = inl (ap restarted e ∙ (unfold restarted new_noise_generator in refl))
reset_first s (inr (c, e)) = inr (c, ap restarted e ∙ (unfold restarted with_correlation in refl))

pub reset_new : ResetNew
reset_new s r = (
  always (λ (s : NoiseGenerator). First (restarted s)) reset_first (λ s c h f. subst First (reset_same s (after s c) (sym (after_stored s c))) h) r,
  (unfold restarted in refl),
)
