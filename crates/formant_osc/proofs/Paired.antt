-- In a reached FormantOsc no second cell is infinite or NaN beside a finite first one. A tick's second cell isn't finite only where what the
-- resonator puts out isn't, and then neither is its first cell.
use mathlib.Core.Bool.{Bool, true, false, cond}
use mathlib.Core.List.{List}
use mathlib.Core.Logic.{◌⊎◌, inl, inr}
use mathlib.Core.Path.{◌≡◌, refl, sym, ap, ◌∙◌, subst}
use Prim.Native.Nat.{ℕ, zero, suc, ◌+◌, ◌<◌, ◌*◌}
use native.Mathlib.Omega.{arith}
use lib.Dec.{T, lit≤}
use lib.Ieee.{Float, nan, fin, binary64, add, sub, mul, div, neg, lt, le, eq, of_bits}
use lib.Ieee.Fits.{add-fits, mul-fits}
use lib.IntN.{pos}
use lib.ListN.{get_or}
use Rattle.answer.proofs.Blocks.{block_keeps}
use Rattle.common.proofs.Bounds.{cos_within, half_within, phase_within, sin_within, zer_within}
use Rattle.common.specs.Consts.{five, half}
use Rattle.formant_osc.proofs.Cells.{parity}
use Rattle.formant_osc.proofs.Coherent.{tick_coefs}
use Rattle.formant_osc.proofs.Either.{tick_either, made_either}
use Rattle.formant_osc.proofs.Positive.{coef_shares, formant_plus}
use Rattle.formant_osc.proofs.Reached.{Good, first_good, tick_good, after_good}
use Rattle.formant_osc.proofs.Spoiled.{stays_spoiled, blocks_spoiled}
use Rattle.formant_osc.specs.Calls.{Call, Tick, Play, Reset, SetSampleRate, Fit, after, First, FitCall, ReachedFormantOsc}
use Rattle.formant_osc.specs.Coefs.{spot_of, formant_of, get_formants, bandwidth_of, coef_of, resonator_coefs}
use Rattle.formant_osc.specs.Consts.{n_ports, opened, closed}
use Rattle.formant_osc.specs.FormantOsc.{silent, new_formant_osc, restarted, formant_osc_new_of, formant_osc_rung, formant_osc_sound_of, formant_osc_tick_of}
use Rattle.formant_osc.specs.FormantOsc.{formant_osc_block_of, formant_osc_reset_of, rated, formant_osc_set_sample_rate_of, formant_osc_refusal_of}
use Rattle.formant_osc.specs.Promises.{Spoiled, ReachedCells, NeverCleanAgain, BlocksNeverAgain}
use Rattle.formant_osc.specs.Sound.{glottal_pulse, resonate_of, rung_of}
use Rattle.formant_osc.specs.declared.FormantOscControls.{FormantOscControls}
use Rattle.answer.specs.declared.Ticked.{Ticked}
use Rattle.answer.specs.Calls.{Outcome}
use Rattle.formant_osc.specs.declared.FormantOsc.{FormantOsc}
use Rattle.formant_osc.specs.declared.Resonated.{Resonated}
use Rattle.laws.proofs.Always.{always}
use Rattle.laws.proofs.Greatest.{mul_finite, sub_finite}
use Rattle.laws.proofs.Interval.{Within, within_between, within_le, within_minus, within_mul, within_neg, within_of, within_to}
use Rattle.laws.proofs.Monotone.{div_le}
use Rattle.laws.proofs.Number.{add_wild_l, mul_wild_l, mul_wild_r}
use Rattle.laws.proofs.Order.{float_le_trans}
use Rattle.laws.proofs.Sign.{Plus}
use Rattle.laws.proofs.Tests.{of_true}
use Rattle.laws.specs.Float.{zer, one, is_fin}
use Rattle.numeric.proofs.BasicLaws.{own_plus}
use Rattle.numeric.proofs.Laws.{exp2_positive}
use Rattle.numeric.specs.Basic.{pi, clamp_of}
use Rattle.numeric.specs.Power.{exp2_of}
use Rattle.numeric.specs.Trig.{sin_of, cos_of}

-- ---- the pulse lies from -1 to 1
-- 2 over 0.4 is 5, which is below 8
over_opened : (y : Float) → Within 1 y → Within 3 (div binary64 y opened)
over_opened y w =
    let r = within_le 1 y w in
    within_between 3 (div binary64 y opened)
    (float_le_trans (fin true 1 (pos 3)) (div binary64 (fin true 1 (pos 1)) opened) (div binary64 y opened) (unfold div le lt eq of_bits in tt)
    (over (fin true 1 (pos 1)) y r.1))
    (float_le_trans (div binary64 y opened) (div binary64 (fin false 1 (pos 1)) opened) (fin false 1 (pos 3)) (over y (fin false 1 (pos 1)) r.0)
    (unfold div le lt eq of_bits in tt))
  where
    over : (x y : Float) → T (le x y) → T (le (div binary64 x opened) (div binary64 y opened))
    over = div_le opened (unfold of_bits in tt)

angle_within : (y : Float) → Within 1 y → Within 5 (mul binary64 (mul binary64 (div binary64 y opened) pi) half)
angle_within y w =
    within_mul 5 0 (mul binary64 (div binary64 y opened) pi) half (lit≤ tt)
    (within_mul 3 2 (div binary64 y opened) pi (lit≤ tt) (over_opened y w) (unfold of_bits in within_of 2 pi tt)) half_within

pulse_within : (p : Float) → Within 0 p → Within 0 (glottal_pulse p)
unfolding glottal_pulse
pulse_within p w = go (lt p opened) (lt p closed)
  where
    rising : Float
    rising = mul binary64 (mul binary64 (div binary64 p opened) pi) half

    falling : Float
    falling = mul binary64 (mul binary64 (div binary64 (sub binary64 p opened) opened) pi) half

    go : (a b : Bool) → Within 0 (cond a (sin_of rising) (cond b (cos_of falling) zer))
    go true b = sin_within 5 rising (lit≤ tt) (angle_within p (within_to 0 1 p (lit≤ tt) w))
    go false true = cos_within 5 falling (lit≤ tt)
        (angle_within (sub binary64 p opened) (within_minus 0 p opened (lit≤ tt) w (unfold of_bits in within_of 0 opened tt)))
    go false false = zer_within

-- ---- one resonator
abbrev Pair : Resonated → Type 0
Pair r = is_fin r.s1 ≡ false → is_fin r.s0 ≡ false

-- b0 * x + s0 is finite only where b0 is, and then so is -b0 * x - a2 * out
second_finite : (b0 a1 a2 s0 s1 x : Float) → (T (is_fin b0) → Within 0 b0 × Within 0 a2) → Within 0 x → Pair (resonate_of b0 a1 a2 s0 s1 x)
unfolding resonate_of
second_finite b0 a1 a2 s0 s1 x share w h = go (is_fin out) refl
  where
    out : Float
    out = add binary64 (mul binary64 b0 x) s0

    finite : (b : Bool) → is_fin b0 ≡ b → T (is_fin out) → T b
    finite true e f = tt
    finite false e f = subst T (add_wild_l (mul binary64 b0 x) s0 (mul_wild_l b0 x e)) f

    second : T (is_fin out) → T (is_fin (sub binary64 (mul binary64 (neg b0) x) (mul binary64 a2 out)))
    second f =
        let k = share (finite (is_fin b0) refl f) in
        sub_finite (mul binary64 (neg b0) x) (mul binary64 a2 out) (within_mul 0 0 (neg b0) x (lit≤ tt) (within_neg 0 b0 k.0) w) (mul-fits binary64 a2 out)
        (mul_finite a2 out k.1 (add-fits binary64 (mul binary64 b0 x) s0) f)

    go : (b : Bool) → is_fin out ≡ b → is_fin (resonate_of b0 a1 a2 s0 s1 x).s0 ≡ false
    go true e = absurd (subst T h (second (of_true (is_fin out) e)))
    go false e = add_wild_l _ _ (mul_wild_r _ _ e)

-- ---- the five of a tick
abbrev Paired : List Float → Type 0
Paired l = (i : ℕ) → i < 5 → is_fin (get_or l (2 * i + 1) nan) ≡ false → is_fin (get_or l (2 * i) nan) ≡ false

module _ (vowel shift rate : Float) (l : List Float) (x : Float) (w : Within 0 x) where
  abbrev freq : ℕ → Float
  freq i = formant_of (spot_of vowel) i (exp2_of (div binary64 shift five))

  one_pair : (i : ℕ) (bandwidth s0 s1 : Float) → i < 5 → Plus bandwidth
      → Pair (resonate_of (coef_of (freq i) bandwidth rate).b0 (coef_of (freq i) bandwidth rate).a1 (coef_of (freq i) bandwidth rate).a2 s0 s1 x)
  one_pair i bandwidth s0 s1 h p =
      second_finite _ _ _ s0 s1 x (coef_shares (freq i) bandwidth rate (formant_plus vowel i _ h (own_plus _ (exp2_positive (div binary64 shift five)))) p) w

  rung_paired : Paired (rung_of (resonator_coefs vowel shift rate) l x).state
  unfolding rung_of resonator_coefs get_formants
  rung_paired zero h = one_pair 0 (bandwidth_of 0) _ _ h (unfold of_bits in tt)
  rung_paired (suc zero) h = one_pair 1 (bandwidth_of 1) _ _ h (unfold of_bits in tt)
  rung_paired (suc (suc zero)) h = one_pair 2 (bandwidth_of 2) _ _ h (unfold of_bits in tt)
  rung_paired (suc (suc (suc zero))) h = one_pair 3 (bandwidth_of 3) _ _ h (unfold of_bits in tt)
  rung_paired (suc (suc (suc (suc zero)))) h = one_pair 4 (bandwidth_of 4) _ _ h (unfold of_bits in tt)
  rung_paired (suc (suc (suc (suc (suc i))))) h = absurd (omega arith)

sound_paired : (s : FormantOsc) (c : FormantOscControls) → Good s → Fit c → Paired (formant_osc_sound_of s c).state.resonator_state
unfolding formant_osc_sound_of formant_osc_rung
sound_paired s c g f =
    subst (λ (k : List Float). Paired (rung_of k s.resonator_state (glottal_pulse s.phase.0)).state) (sym (tick_coefs s c g.coefs f g.fit))
    (rung_paired (clamp_of c.vowel zer one) c.formant_shift s.sample_rate.0 s.resonator_state (glottal_pulse s.phase.0)
    (pulse_within s.phase.0 (phase_within s.phase.0 g.phase)))

-- ---- every reached state
abbrev Well : FormantOsc → Type 0
Well s = Good s × Paired s.resonator_state

-- at rest every cell is 0
rest_paired : Paired silent
rest_paired zero h e = e
rest_paired (suc zero) h e = e
rest_paired (suc (suc zero)) h e = e
rest_paired (suc (suc (suc zero))) h e = e
rest_paired (suc (suc (suc (suc zero)))) h e = e
rest_paired (suc (suc (suc (suc (suc i))))) h e = absurd (omega arith)

abbrev At : FormantOsc → Type 0
At s = Paired s.resonator_state

first_well : (s : FormantOsc) → First s → Well s
unfolding formant_osc_new_of new_formant_osc
first_well s f =
    let new = new_formant_osc f.0 in
    (first_good s f, subst At (ap (λ (m : Outcome FormantOsc). m.state) f.2) (made_either At _ new new rest_paired rest_paired))

tick_well : (c : FormantOscControls) → Fit c → (s : FormantOsc) → Well s → Well (formant_osc_tick_of s c).state
tick_well c f s (g, p) = (tick_good c f s g, tick_either (λ (t : Ticked FormantOsc). At t.state) s c (sound_paired s c g f) (λ n. p))

after_well : (s : FormantOsc) (c : Call) → Well s → FitCall c → Well (after s c)
unfolding after
after_well s (Tick c) h f = tick_well c f s h
after_well s (Play c t o m) h f = unfold formant_osc_block_of in block_keeps n_ports _ _ _ Well (tick_well c f) s h t o m
after_well s Reset (g, p) f = (after_good s Reset g f, unfold formant_osc_reset_of restarted in made_either At (formant_osc_refusal_of s) s _ p rest_paired)
after_well s (SetSampleRate r) (g, p) f = (after_good s (SetSampleRate r) g f, unfold formant_osc_set_sample_rate_of in made_either At _ s (rated s r) p p)

well : {s : FormantOsc} → ReachedFormantOsc s → Well s
well = always Well first_well after_well

-- ---- the promises
pub reached_cells : ReachedCells
reached_cells s h (i, l, e) = go (parity i)
  where
    at : {n : ℕ} → i ≡ n → is_fin (get_or s.resonator_state n nan) ≡ false
    at q = ap (λ (n : ℕ). is_fin (get_or s.resonator_state n nan)) (sym q) ∙ e

    go : (j : ℕ) × ((i ≡ 2 * j) ⊎ (i ≡ 2 * j + 1)) → Spoiled s
    go (j, inl q) = (j, omega arith, at q)
    go (j, inr q) = let k : j < 5 = omega arith in (j, k, (well h).1 j k (at q))

pub never_clean_again : NeverCleanAgain
never_clean_again s t h w = stays_spoiled s t (reached_cells s h w)

pub blocks_never_again : BlocksNeverAgain
blocks_never_again s t h w = blocks_spoiled s t (reached_cells s h w)
