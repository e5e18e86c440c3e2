-- A control that is NaN is told by notfinite or lost: a NaN pitch or vibrato makes the phase's increment NaN, a NaN vowel or shift kills a resonator.
use mathlib.Core.Bool.{Bool, true, false, ◌&&◌, cond}
use mathlib.Core.Logic.{◌⊎◌, inl, inr}
use mathlib.Core.Path.{◌≡◌, refl, sym, ap, ◌∙◌, subst}
use lib.Ieee.{Float, nan, binary64, add, div, fits}
use Rattle.answer.proofs.Laws.{mark_says}
use Rattle.answer.specs.Answer.{mark_number, notfinite, lost}
use Rattle.answer.specs.Block.{answer_at}
use Rattle.answer.specs.Mark.{all_finite, rule_of, mark_of}
use Rattle.answer.specs.declared.Volts.{Volts}
use Rattle.common.proofs.MemoLaws.{recall1_is}
use Rattle.common.specs.Memo.{Memo1, filled, recall1, voct_to_hz_at}
use Rattle.common.specs.Phase.{increment_of}
use Rattle.common.specs.Pitch.{voct_to_hz}
use Rattle.common.specs.Promises.{Coherent1}
use Rattle.formant_osc.proofs.Dead.{dead_shift, nan_vowel, reached_at}
use Rattle.formant_osc.proofs.Reached.{tick_sounds, good}
use Rattle.formant_osc.proofs.Taken.{taken_mark}
use Rattle.formant_osc.specs.Calls.{ReachedFormantOsc}
use Rattle.formant_osc.specs.FormantOsc.{freq_memo_of, formant_osc_sound_of, formant_osc_tick_of}
use Rattle.formant_osc.specs.Promises.{shift_factor, Dirty, NanDirties, BlocksDirty}
use Rattle.formant_osc.specs.Sound.{pitch_of}
use Rattle.formant_osc.specs.declared.FormantOscControls.{FormantOscControls}
use Rattle.answer.specs.declared.Ticked.{Ticked}
use Rattle.formant_osc.specs.declared.FormantOsc.{FormantOsc}
use Rattle.laws.proofs.Number.{add_nan_l, add_nan_r, mul_nan_l, mul_nan_r, div_nan_l}
use Rattle.laws.specs.Float.{zer, one, is_fin}
use Rattle.numeric.proofs.Laws.{clamp_nan, exp2_nan}
use Rattle.numeric.specs.Basic.{clamp_of}

-- ---- the pitch, and what is heard of it
abbrev tone : FormantOsc → FormantOscControls → Float
tone s c = (pitch_of c.v_oct (clamp_of c.vibrato zer one) s.vibrato_phase.0).0

tone_nan : (s : FormantOsc) (c : FormantOscControls) → (c.v_oct.0 ≡ nan) ⊎ (c.vibrato ≡ nan) → tone s c ≡ nan
unfolding pitch_of
tone_nan s c (inl e) = rw e (add_nan_l _)
tone_nan s c (inr e) = rw (e, clamp_nan, mul_nan_r, mul_nan_l, div_nan_l) (add_nan_r _)

hertz_nan : (voct_to_hz_at nan).0 ≡ nan
unfolding voct_to_hz
hertz_nan = simp (clamp_nan, exp2_nan, mul_nan_r)

memo_nan : (s : FormantOsc) (c : FormantOscControls) → Coherent1 voct_to_hz_at s.freq_memo → tone s c ≡ nan → (freq_memo_of s c).val.0 ≡ nan
unfolding freq_memo_of filled fits
memo_nan s c h e =
    ap (λ (x : Float). (recall1 voct_to_hz_at s.freq_memo x).val.0) e
    ∙ ap (λ (m : Memo1). m.val.0) (recall1_is voct_to_hz_at s.freq_memo h nan tt)
    ∙ hertz_nan

-- ---- a phase that isn't finite is notfinite or lost
dirty : (v : Volts) (sums phases numbers : Bool) → phases ≡ false → Dirty (mark_number (mark_of v false sums phases numbers))
unfolding rule_of
dirty v sums phases numbers e =
    subst Dirty (sym ((mark_says v false sums phases numbers).number ∙ ap (λ (b : Bool). rule_of false (sums && all_finite v) b numbers) e))
    (go (sums && all_finite v))
  where
    go : (b : Bool) → Dirty (cond b lost notfinite)
    go true = inr refl
    go false = inl refl

phases_lost : (phase freq rate : Float) (other : Bool) → freq ≡ nan → (is_fin (add binary64 phase (div binary64 freq rate)) && other) ≡ false
phases_lost phase freq rate other e = rw (e, div_nan_l, add_nan_r) refl

sound_lost : (s : FormantOsc) (c : FormantOscControls) → (freq_memo_of s c).val.0 ≡ nan → Dirty (mark_number (formant_osc_sound_of s c).answer)
unfolding formant_osc_sound_of increment_of
sound_lost s c e = dirty _ _ _ _ (phases_lost _ _ _ _ e)

tick_lost : (s : FormantOsc) → ReachedFormantOsc s → (c : FormantOscControls) → (c.v_oct.0 ≡ nan) ⊎ (c.vibrato ≡ nan)
    → Dirty (mark_number (formant_osc_tick_of s c).answer)
tick_lost s h c d =
    let g = good h in
    subst (λ (t : Ticked FormantOsc). Dirty (mark_number t.answer)) (sym (tick_sounds s c g)) (sound_lost s c (memo_nan s c g.pitch (tone_nan s c d)))

-- ---- a shift that is NaN has that factor
factor_nan : (c : FormantOscControls) → c.formant_shift ≡ nan → shift_factor c ≡ nan
factor_nan c e = rw (e, div_nan_l) exp2_nan

pub nan_dirties : NanDirties
nan_dirties s h c f (inl e) = tick_lost s h c (inl e)
nan_dirties s h c f (inr (inl e)) = inl (nan_vowel s h c f e).0
nan_dirties s h c f (inr (inr (inl e))) = inl (dead_shift s h c f (inr (factor_nan c e))).0
nan_dirties s h c f (inr (inr (inr e))) = tick_lost s h c (inr e)

-- ---- the ticks of a block: each state in it is reached
pub blocks_dirty : BlocksDirty
unfolding answer_at
blocks_dirty s h c f d t o m r i l = (_, taken_mark s c t o m r i l, nan_dirties _ (reached_at s h c f i) c f d)
