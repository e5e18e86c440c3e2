-- A memo of coefficients that is empty, or holds what it would compute, is left the same by a hit and by a miss: common's law of memos, at the
-- coefficients.
use mathlib.Core.List.{List}
use mathlib.Core.Logic.{inr}
use mathlib.Core.Path.{◌≡◌, sym, ap, ◌∙◌, subst}
use lib.Ieee.{Float, binary64, lt, of_bits}
use lib.Ieee.Bits.{of_bits-fits}
use lib.Ieee.Fits.{cond-fits}
use mathlib.Core.Bool.{cond}
use Rattle.common.proofs.MemoLaws.{bits_back, tells3, alike3, recall_is, recall_again}
use Rattle.common.specs.Memo.{Key3, key3, same3, filled, recall}
use Rattle.common.specs.Promises as laws
use Rattle.formant_osc.specs.Calls.{Fit}
use Rattle.formant_osc.specs.Coefs.{resonator_coefs}
use Rattle.formant_osc.specs.FormantOsc.{coef_memo_of}
use Rattle.formant_osc.specs.Memo.{CoefMemo, coef_filled, coef_recall}
use Rattle.formant_osc.specs.declared.FormantOscControls.{FormantOscControls}
use Rattle.formant_osc.specs.declared.FormantOsc.{FormantOsc}
use Rattle.laws.specs.Float.{zer, one, F64}
use Rattle.numeric.specs.Basic.{clamp_of}

-- what the closure computes, as a function of the key
abbrev pub coefs_at : Key3 → List Float
coefs_at k = resonator_coefs (of_bits binary64 k.0) (of_bits binary64 k.1) (of_bits binary64 k.2)

coefs_back : (x y z : Float) → F64 x → F64 y → F64 z → resonator_coefs x y z ≡ coefs_at (key3 x y z)
coefs_back x y z t u v = λ i. resonator_coefs (sym (bits_back x t) i) (sym (bits_back y u) i) (sym (bits_back z v) i)

abbrev pub Coherent : CoefMemo → Type 0
Coherent = laws.Coherent coefs_at

-- what a miss leaves
abbrev made : Float → Float → Float → CoefMemo
made x y z = coef_filled x y z (resonator_coefs x y z)

recall_made : (m : CoefMemo) → Coherent m → (x y z : Float) → F64 x → F64 y → F64 z → coef_recall m x y z ≡ made x y z
recall_made m h x y z t u v =
    subst (λ (l : List Float). recall same3 l m (key3 x y z) ≡ coef_filled x y z l) (sym (coefs_back x y z t u v))
    (recall_is Key3 (List Float) same3 tells3 coefs_at m h (key3 x y z))

pub clamp_fits : (x lo hi : Float) → F64 x → F64 lo → F64 hi → F64 (clamp_of x lo hi)
unfolding clamp_of
clamp_fits x lo hi h l u = cond-fits binary64 (lt x lo) lo (cond (lt hi x) hi x) l (cond-fits binary64 (lt hi x) hi x u h)

unit_fits : (x : Float) → F64 x → F64 (clamp_of x zer one)
unit_fits x h = clamp_fits x zer one h (of_bits-fits binary64 0) (of_bits-fits binary64 0x3ff0000000000000)

-- the memo after a tick
module _ (s : FormantOsc) (c : FormantOscControls) (h : Coherent s.coef_memo) (f : Fit c) (r : F64 s.sample_rate.0) where
  tick_made : coef_memo_of s c ≡ made (clamp_of c.vowel zer one) c.formant_shift s.sample_rate.0
  unfolding coef_memo_of
  tick_made = recall_made s.coef_memo h (clamp_of c.vowel zer one) c.formant_shift s.sample_rate.0 (unit_fits c.vowel f.0) f.1 r

  pub tick_coherent : Coherent (coef_memo_of s c)
  tick_coherent =
      let vowel = clamp_of c.vowel zer one in
      inr (
        key3 vowel c.formant_shift s.sample_rate.0,
        tick_made ∙ ap (coef_filled vowel c.formant_shift s.sample_rate.0) (coefs_back vowel c.formant_shift s.sample_rate.0 (unit_fits c.vowel f.0) f.1 r),
      )

  -- so its coefficients are those of the tick's own vowel, shift and rate
  pub tick_coefs : (coef_memo_of s c).val ≡ resonator_coefs (clamp_of c.vowel zer one) c.formant_shift s.sample_rate.0
  unfolding filled
  tick_coefs = ap (λ (m : CoefMemo). m.val) tick_made

-- what a recall leaves is a hit for the same vowel, shift and rate
pub coefs_again : (m : CoefMemo) (x y z : Float) → coef_recall (coef_recall m x y z) x y z ≡ coef_recall m x y z
coefs_again m x y z = recall_again Key3 (List Float) same3 alike3 (resonator_coefs x y z) m (key3 x y z)
