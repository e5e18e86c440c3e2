-- A formant at 0 or NaN hertz has NaN for its first coefficient, whatever the sine is; and that leaves NaN in its resonator.
use mathlib.Core.Bool.{Bool, true, false, true≢false}
use mathlib.Core.List.{List}
use mathlib.Core.Logic.{◌⊎◌, inl, inr}
use mathlib.Core.Path.{◌≡◌, refl, sym, ap, ◌∙◌, subst}
use Prim.Native.Nat.{ℕ, zero, suc, ◌*◌, ◌<◌}
use native.Mathlib.Nat.{mul-pos}
use native.Mathlib.Omega.{arith}
use lib.Dec.{lit<}
use lib.Ieee.{Float, nan, inf, fin, binary64, add, sub, mul, div, of_bits, round, up, down, unlike}
use lib.Ieee.Fits.{down_pos}
use lib.IntN.{pos}
use lib.ListN.{length, get_or}
use Rattle.answer.proofs.Blocks.{ticks_keep}
use Rattle.answer.specs.Answer.{mark_number, notfinite}
use Rattle.answer.specs.Block.{after_ticks, answer_at}
use Rattle.formant_osc.proofs.Coherent.{tick_coefs}
use Rattle.formant_osc.proofs.Reached.{tick_sounds, good}
use Rattle.formant_osc.proofs.Spoiled.{sound_unfinished, plus_out, plus_sum, unfinished_marks}
use Rattle.formant_osc.proofs.Taken.{taken_state}
use Rattle.formant_osc.specs.Calls.{Fit, Tick, after, ReachedFormantOsc}
use Rattle.formant_osc.specs.Coefs.{spot_of, formant_of, get_formants, bandwidth_of, coef_of, resonator_coefs}
use Rattle.formant_osc.specs.FormantOsc.{coef_memo_of, formant_osc_rung, formant_osc_sound_of, formant_osc_tick_of, formant_osc_told_of, formant_osc_next_of}
use Rattle.formant_osc.specs.Promises.{shift_factor, Dead, Deadly, DeadShift, NanVowel, BlocksDead, DeadSpoiled}
use Rattle.formant_osc.specs.Sound.{glottal_pulse, resonate_of, rung_of}
use Rattle.formant_osc.specs.declared.FormantOscControls.{FormantOscControls}
use Rattle.answer.specs.declared.Ticked.{Ticked}
use Rattle.formant_osc.specs.declared.FormantOsc.{FormantOsc}
use Rattle.laws.proofs.Number.{add_nan_l, add_nan_r, mul_nan_l, mul_nan_r, div_nan_r, div_zero_wild}
use Rattle.laws.proofs.Values.{round_zero}
use Rattle.laws.specs.Float.{zer, one, two, is_fin}
use Rattle.laws.specs.Machine.{more}
use Rattle.numeric.proofs.Laws.{clamp_nan}
use Rattle.numeric.specs.Basic.{clamp_of}

-- 0 of either sign, or NaN
abbrev Nought : Float → Type 0
Nought x = (x ≡ nan) ⊎ ((s : Bool) × (x ≡ fin s 0 (pos 0)))

times_zero : (x : Float) → Nought (mul binary64 x zer)
unfolding mul of_bits
times_zero nan = inl refl
times_zero (inf s) = inl refl
times_zero (fin s m e) =
    inr (
      unlike s false,
      ap (λ (z : ℕ). round binary64 (unlike s false) z (down e * down (pos 0))) (nothing (m * up e))
          ∙ round_zero (unlike s false) (down e * down (pos 0)) (mul-pos (down_pos e) (down_pos (pos 0))),
    )
  where
    nothing : (a : ℕ) → a * 0 ≡ 0
    nothing a = omega arith

times_nought : (x by : Float) → (by ≡ zer) ⊎ (by ≡ nan) → Nought (mul binary64 x by)
times_nought x by (inl e) = rw e (times_zero x)
times_nought x by (inr e) = inl (rw e (mul_nan_r x))

-- 2.0 * q of such a frequency
twice_nought : (freq : Float) → Nought freq → Nought (mul binary64 two (div binary64 freq (bandwidth_of 0)))
unfolding mul div of_bits
twice_nought freq (inl e) = rw e (inl refl)
twice_nought freq (inr (s, e)) = rw e (go s)
  where
    go : (s : Bool) → Nought (mul binary64 two (div binary64 (fin s 0 (pos 0)) (bandwidth_of 0)))
    go true = inr (true, refl)
    go false = inr (false, refl)

by_nought : (x y : Float) → Nought y → is_fin (div binary64 x y) ≡ false
by_nought x y (inl e) = rw (e, div_nan_r x) refl
by_nought x y (inr (s, e)) = rw e (div_zero_wild x s)

-- alpha / (1.0 + alpha)
pub wild_share : (alpha : Float) → is_fin alpha ≡ false → div binary64 alpha (add binary64 one alpha) ≡ nan
unfolding div add of_bits
wild_share nan h = refl
wild_share (inf s) h = refl
wild_share (fin s m e) h = absurd (true≢false h)

coef_dead : (freq rate : Float) → Nought freq → (coef_of freq (bandwidth_of 0) rate).b0 ≡ nan
unfolding coef_of
coef_dead freq rate d = wild_share _ (by_nought _ _ (twice_nought freq d))

-- ---- the first coefficient: the vowel is clamped before it gets here
formant_nan : (by : Float) → formant_of (spot_of nan) 0 by ≡ nan
unfolding formant_of spot_of sub
formant_nan by = simp (clamp_nan, mul_nan_l, add_nan_l, add_nan_r, mul_nan_r)

coefs_dead : (c : FormantOscControls) → Deadly c → (rate : Float) → get_or (resonator_coefs (clamp_of c.vowel zer one) c.formant_shift rate) 0 nan ≡ nan
unfolding resonator_coefs get_formants
coefs_dead c (inl e) rate = rw (e, clamp_nan) (coef_dead _ rate (inl (formant_nan _)))
coefs_dead c (inr d) rate = unfold formant_of in coef_dead _ rate (times_nought _ (shift_factor c) d)

-- ---- the first resonator
out_dead : (b0 a1 a2 s0 s1 x : Float) → b0 ≡ nan → (resonate_of b0 a1 a2 s0 s1 x).out ≡ nan
unfolding resonate_of
out_dead b0 a1 a2 s0 s1 x e = rw (e, mul_nan_l) (add_nan_l _)

cell_dead : (b0 a1 a2 s0 s1 x : Float) → b0 ≡ nan → (resonate_of b0 a1 a2 s0 s1 x).s0 ≡ nan
unfolding resonate_of
cell_dead b0 a1 a2 s0 s1 x e = rw (e, mul_nan_l, add_nan_l, mul_nan_r) (add_nan_l _)

sum_dead : (c l : List Float) (x : Float) → get_or c 0 nan ≡ nan → is_fin (rung_of c l x).sum ≡ false
unfolding rung_of
sum_dead c l x e = plus_sum _ _ _ (plus_sum _ _ _ (plus_sum _ _ _ (plus_sum _ _ _ (plus_out _ _ _ (ap is_fin (out_dead _ _ _ _ _ x e))))))

first_dead : (c l : List Float) (x : Float) → get_or c 0 nan ≡ nan → get_or (rung_of c l x).state 0 nan ≡ nan
unfolding rung_of
first_dead c l x e = cell_dead _ _ _ _ _ x e

-- ---- the tick
abbrev Killed : Ticked FormantOsc → Type 0
Killed t = (mark_number t.answer ≡ notfinite) × Dead t.state

sound_dead : (s : FormantOsc) (c : FormantOscControls) → get_or (coef_memo_of s c).val 0 nan ≡ nan → Killed (formant_osc_sound_of s c)
unfolding formant_osc_sound_of formant_osc_rung
sound_dead s c e =
    let v = (coef_memo_of s c).val in
    let l = s.resonator_state in
    let x = glottal_pulse s.phase.0 in
    (sound_unfinished s c (sum_dead v l x e), first_dead v l x e)

tick_dead : (s : FormantOsc) → ReachedFormantOsc s → (c : FormantOscControls) → Fit c → Deadly c → Killed (formant_osc_tick_of s c)
tick_dead s h c f d =
    let g = good h in
    let e = ap (λ (v : List Float). get_or v 0 nan) (tick_coefs s c g.coefs f g.fit) ∙ coefs_dead c d s.sample_rate.0 in
    subst Killed (sym (tick_sounds s c g)) (sound_dead s c e)

pub dead_shift : DeadShift
dead_shift s h c f d = tick_dead s h c f (inr d)

pub nan_vowel : NanVowel
nan_vowel s h c f e = tick_dead s h c f (inl e)

pub dead_spoiled : DeadSpoiled
dead_spoiled s d = (0, lit< tt, ap is_fin d)

-- ---- the ticks of a block: each state in it is reached
pub reached_at : (s : FormantOsc) → ReachedFormantOsc s → (c : FormantOscControls) → Fit c → (i : ℕ)
    → ReachedFormantOsc (after_ticks (formant_osc_next_of c) i s)
unfolding after
reached_at s h c f i = ticks_keep ReachedFormantOsc (formant_osc_next_of c) (λ r k. more k (Tick c) f) s h i

ticks_dead : (s : FormantOsc) → ReachedFormantOsc s → (c : FormantOscControls) → Fit c → Deadly c → (i : ℕ)
    → (mark_number (answer_at (formant_osc_told_of c) (formant_osc_next_of c) s i) ≡ notfinite) × Dead (after_ticks (formant_osc_next_of c) (suc i) s)
unfolding answer_at after_ticks
ticks_dead s h c f d i = tick_dead _ (reached_at s h c f i) c f d

pub blocks_dead : BlocksDead
blocks_dead s h c f d t o m r l = (
  unfinished_marks s c t o m r (λ i. (ticks_dead s h c f d i).0),
  subst Dead (sym (taken_state s c t o m r)) (last (length m) l),
)
  where
    last : (n : ℕ) → 0 < n → Dead (after_ticks (formant_osc_next_of c) n s)
    last zero z = absurd (omega arith)
    last (suc n) z = (ticks_dead s h c f d n).1
