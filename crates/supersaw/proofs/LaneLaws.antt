-- A block's lanes give what the Rust's loop gives: the loop's lines done for all at once, and a quiet tick's shortcut.
use mathlib.Core.Bool.{Bool, true, ◌&&◌}
use mathlib.Core.List.{List, [], ◌∷◌, ◌++◌}
use mathlib.Core.Logic.{⊎_elim}
use mathlib.Core.Path.{◌≡◌, refl, sym, ap, ◌∙◌, subst}
use Prim.Native.Nat.{ℕ, zero, suc, ◌<◌}
use native.Mathlib.Nat.{le_of_suc-le-suc, eq-or-lt_of_le}
use native.Mathlib.Omega.{arith}
use lib.Dec.{T, lit<}
use lib.ListN.{length, get_or-append}
use lib.Ieee.{Float, nan, binary64, round, add, sub, mul, lt, le, of_bits}
use lib.Ieee.Bits.{is_true}
use Rattle.common.proofs.PhaseLaws.{accepted_state}
use Rattle.laws.proofs.Over.{length_tab, tab_ext, get_or_tab}
use Rattle.laws.proofs.All.{all_at, all_of}
use Rattle.laws.proofs.Order.{lt_le_trans}
use Rattle.laws.proofs.Sign.{Plus, mul_plus, div_plus, above_plus}
use Rattle.laws.proofs.Tests.{both_true, of_true}
use Rattle.laws.specs.Float.{zer, one, two, is_fin}
use Rattle.laws.specs.Lists.{all, tab}
use Rattle.numeric.specs.Basic.{fabs_of, clamp_of}
use Rattle.common.specs.Consts.{rate_low, rate_high}
use Rattle.common.specs.Memo.{recall1, voct_to_hz_at}
use Rattle.common.specs.Phase.{turns, increment_of, wrap_of, polyblep_of}
use Rattle.common.specs.Tests.{rate_ok, phase_ok}
use Rattle.common.specs.declared.Hertz.{Hertz}
use Rattle.common.specs.Memo.{Memo1}
use Rattle.supersaw.proofs.Sign.{small, one_plus, plus_of}
use Rattle.supersaw.proofs.StepLaws.{Steady, steady_law}
use Rattle.supersaw.specs.Consts.{detune_ratios, mix_levels}
use Rattle.supersaw.specs.Shortcuts.{lanes_of, incs_of, saws_of, sums_of, wraps_of, lanes_finite, mix_to, total_mix}
use Rattle.supersaw.specs.Shortcuts.{blend_of, moved_of, stepped_of, steady_of, lanes_steady, quiet_of, ramps_of, ramped_of}
use Rattle.answer.specs.Mark.{all_numbers}
use Rattle.supersaw.specs.Supersaw.{phases_ok, controls_of, supersaw_refusal_of, supersaw_sound_of}
use Rattle.supersaw.specs.Voices.{at, freq_of, dt_of, saw_of, sub_dt_of, Voices, voice_of, voices_of}
use Rattle.supersaw.specs.declared.Supersaw.{Supersaw}
use Rattle.supersaw.specs.declared.SupersawControls.{SupersawControls}
use Rattle.answer.specs.declared.Ticked.{Ticked}

-- ---- the loop
abbrev total_to : ℕ → Float
total_to zero = zer
total_to (suc n) = add binary64 (total_to n) (at mix_levels n)

total_is : total_to 7 ≡ total_mix
unfolding add round of_bits
total_is = refl

-- the loop's locals after it, from the lanes
abbrev last_of : List Float → List Float → Voices
last_of t dt =
    record {
      phases = tab (at (wraps_of (sums_of t dt))) 7;
      sum = mix_to (saws_of t dt) 7;
      total_mix = total_to 7;
      center_saw = at (saws_of t dt) 3;
      finite = all (λ i. is_fin (at (sums_of t dt) i)) 7;
    }

short : (n : ℕ) → n ≡ 7 → n < 7 → ⊥
short n h l = omega arith

loop-is : (ps : List Float) (low detune : Float) (base rate : Hertz) → length ps ≡ 7
    → last_of (tab (at ps) 7 ++ (low ∷ [])) (incs_of detune base rate) ≡ voices_of detune base rate ps 7
unfolding tab all incs_of saws_of sums_of wraps_of mix_to voices_of voice_of
loop-is [] low detune base rate h = absurd (short 0 h (lit< tt))
loop-is (a ∷ []) low detune base rate h = absurd (short 1 h (lit< tt))
loop-is (a ∷ b ∷ []) low detune base rate h = absurd (short 2 h (lit< tt))
loop-is (a ∷ b ∷ c ∷ []) low detune base rate h = absurd (short 3 h (lit< tt))
loop-is (a ∷ b ∷ c ∷ d ∷ []) low detune base rate h = absurd (short 4 h (lit< tt))
loop-is (a ∷ b ∷ c ∷ d ∷ e ∷ []) low detune base rate h = absurd (short 5 h (lit< tt))
loop-is (a ∷ b ∷ c ∷ d ∷ e ∷ f ∷ []) low detune base rate h = absurd (short 6 h (lit< tt))
loop-is (a ∷ b ∷ c ∷ d ∷ e ∷ f ∷ g ∷ []) low detune base rate h = refl
loop-is (a ∷ b ∷ c ∷ d ∷ e ∷ f ∷ g ∷ x ∷ xs) low detune base rate h = absurd (long (length xs) h)
  where
    long : (n : ℕ) → suc (suc (suc (suc (suc (suc (suc (suc n))))))) ≡ 7 → ⊥
    long n h = omega arith

-- the state with these phases and this memo
abbrev pub advanced_of : Supersaw → List Float → Memo1 → Supersaw
advanced_of s t memo = record { phases = tab (at t) 7; sub_phase = turns (at t 7); sample_rate = s.sample_rate; freq_memo = memo }

-- a tick of the lanes, put back into the state
abbrev pub ticked_of : Supersaw → Ticked (List Float) → Memo1 → Ticked Supersaw
ticked_of s r memo = record { answer = r.answer; state = advanced_of s r.state memo }

pub sound_is : (s : Supersaw) (c : SupersawControls) → length s.phases ≡ 7
    → ticked_of s (stepped_of (lanes_of s.phases s.sub_phase)
    (incs_of (clamp_of c.detune zer one) (recall1 voct_to_hz_at s.freq_memo c.voct.0).val s.sample_rate) (clamp_of c.mix zer one)
    (all_numbers (controls_of c)))
    (recall1 voct_to_hz_at s.freq_memo c.voct.0) ≡ supersaw_sound_of s c
unfolding supersaw_sound_of moved_of stepped_of blend_of lanes_of lanes_finite all wraps_of sums_of saws_of incs_of tab
sound_is s c h =
    rw (
      ← loop-is s.phases s.sub_phase.0 (clamp_of c.detune zer one) (recall1 voct_to_hz_at s.freq_memo c.voct.0).val s.sample_rate h,
      total_is,
    )

-- ---- no number refuses the state: its rate and its phases are good
pub accepts : (s : Supersaw) → supersaw_refusal_of s ≡ 0
    → (rate_ok s.sample_rate ≡ true) × ((phases_ok s.phases ≡ true) × (phase_ok s.sub_phase ≡ true))
unfolding supersaw_refusal_of
accepts s h =
    let p = accepted_state (rate_ok s.sample_rate) (phases_ok s.phases && phase_ok s.sub_phase) h in
    (p.0, both_true (phases_ok s.phases) (phase_ok s.sub_phase) p.1)

-- ---- increments have no minus sign
module _ (detune : Float) (base rate : Hertz) (D : T (small detune)) (B : lt zer base.0 ≡ true) (R : rate_ok rate ≡ true) where
  rate_plus : Plus rate.0
  rate_plus =
      above_plus rate.0
      (is_true (lt zer rate.0)
      (lt_le_trans zer rate_low rate.0 low (of_true (le rate_low rate.0) (unfold rate_ok in (both_true (le rate_low rate.0) (le rate.0 rate_high) R).0))))
    where
      low : T (lt zer rate_low)
      low = unfold lt of_bits in tt

  ratios_small : all (λ i. small (at detune_ratios i)) 7 ≡ true
  ratios_small = unfold all of_bits in refl

  dt_plus : (i : ℕ) → i < 7 → Plus (dt_of i detune base rate).0
  dt_plus i l =
      unfold dt_of freq_of increment_of in
      div_plus (mul binary64 base.0 (add binary64 one (mul binary64 (at detune_ratios i) detune))) rate.0
      (mul_plus base.0 (add binary64 one (mul binary64 (at detune_ratios i) detune)) (above_plus base.0 B)
      (one_plus (at detune_ratios i) detune (of_true (small (at detune_ratios i)) (all_at (λ j. small (at detune_ratios j)) 7 ratios_small i l)) D))
      rate_plus

  low_plus : Plus (sub_dt_of base rate).0
  unfolding sub_dt_of increment_of
  low_plus = div_plus base.0 (mul binary64 two rate.0) (above_plus base.0 B) (mul_plus two rate.0 (unfold of_bits in tt) rate_plus)

  inc_at : (i : ℕ) → i < 7 → at (incs_of detune base rate) i ≡ (dt_of i detune base rate).0
  inc_at i l =
      let z = length_tab (λ (j : ℕ). (dt_of j detune base rate).0) 7 in
      unfold incs_of in
      get_or-append (tab (λ (j : ℕ). (dt_of j detune base rate).0) 7) ((sub_dt_of base rate).0 ∷ []) nan i (omega arith)
      ∙ get_or_tab nan (λ (j : ℕ). (dt_of j detune base rate).0) 7 i l

  pub incs_plus : (i : ℕ) → i < 8 → Plus (at (incs_of detune base rate) i)
  incs_plus i l =
      ⊎_elim (λ (e : i ≡ 7). subst (λ (j : ℕ). Plus (at (incs_of detune base rate) j)) (sym e) (unfold incs_of tab in low_plus))
      (λ (k : i < 7). subst Plus (sym (inc_at i k)) (dt_plus i k)) (eq-or-lt_of_le (le_of_suc-le-suc l))

-- ---- a quiet tick
module _ (t dt : List Float) (lane : (i : ℕ) → i < 8 → Steady (at t i) (at dt i)) where
  ramps_are : ramps_of t ≡ saws_of t dt
  unfolding ramps_of saws_of saw_of
  ramps_are =
      tab_ext (λ (i : ℕ). sub binary64 (sub binary64 (mul binary64 two (at t i)) one) zer)
      (λ (i : ℕ). sub binary64 (sub binary64 (mul binary64 two (at t i)) one) (polyblep_of (at t i) (at dt i))) 8
      (λ i l. ap (λ (z : Float). sub binary64 (sub binary64 (mul binary64 two (at t i)) one) z) (sym (lane i l).still))

  sum_at : (i : ℕ) → i < 8 → at (sums_of t dt) i ≡ add binary64 (at t i) (at dt i)
  unfolding sums_of
  sum_at i l = get_or_tab nan (λ (j : ℕ). add binary64 (at t j) (at dt j)) 8 i l

  sums_are : sums_of t dt ≡ wraps_of (sums_of t dt)
  unfolding sums_of wraps_of
  sums_are =
      tab_ext (λ (i : ℕ). add binary64 (at t i) (at dt i)) (λ (i : ℕ). wrap_of (at (sums_of t dt) i)) 8 (λ i l. sym (ap wrap_of (sum_at i l) ∙ (lane i l).kept))

  sums_finite : true ≡ lanes_finite (sums_of t dt)
  unfolding lanes_finite
  sums_finite = sym (all_of (λ (i : ℕ). is_fin (at (sums_of t dt) i)) 8 (λ i l. ap is_fin (sum_at i l) ∙ (lane i l).finite))

  ramped_is : (mix : Float) (numbers : Bool) → ramped_of t dt mix numbers ≡ stepped_of t dt mix numbers
  unfolding ramped_of stepped_of
  ramped_is mix numbers = λ j. moved_of (blend_of (ramps_are j) mix) (at (ramps_are j) 7) (sums_finite j) numbers (sums_are j)

pub quiet_ramped : (base : Hertz) (t dt : List Float) → (lt zer base.0 ≡ true → (j : ℕ) → j < 8 → fabs_of (at dt j) ≡ at dt j)
    → quiet_of base t dt ≡ true → (mix : Float) (numbers : Bool) → ramped_of t dt mix numbers ≡ stepped_of t dt mix numbers
quiet_ramped base t dt forward q = ramped_is t dt lane
  where
    parts : (lt zer base.0 ≡ true) × (lanes_steady t dt ≡ true)
    parts = both_true (lt zer base.0) (lanes_steady t dt) (unfold quiet_of in q)

    lane : (j : ℕ) → j < 8 → Steady (at t j) (at dt j)
    lane j k =
        steady_law (at t j) (at dt j) (plus_of (at dt j) (forward parts.0 j k))
        (all_at (λ (k : ℕ). steady_of (at t k) (at dt k)) 8 (unfold lanes_steady in parts.1) j k)
