-- The pulse: when it comes, that it stands beside the Rust's five outputs, and that the bits beyond them all do nothing.
use mathlib.Core.Bool.{Bool, true, false, cond, ◌&&◌}
use mathlib.Core.List.{[], ◌∷◌}
use mathlib.Core.Path.{◌≡◌, refl, sym, ap, ◌∙◌}
use Prim.Native.Nat.{ℕ}
use native.Mathlib.Omega.{arith}
use lib.Dec.{eqb, lit<}
use lib.Ieee.{Float, binary64, ne, mul}
use lib.Ieee.Fits.{add-fits}
use Rattle.answer.proofs.Laws.{accepted_unrefused, mark_says}
use Rattle.answer.specs.Answer.{volts6, volts_of, accepted, mark_number, host_number, lost, told}
use Rattle.answer.specs.Block.{ports_of}
use Rattle.answer.specs.Mark.{all_finite, all_numbers, mark_of, rule_of}
use Rattle.answer.specs.declared.Answer.TheVariants as answer
use Rattle.answer.specs.declared.Volts.{Volts}
use Rattle.common.proofs.PhaseLaws.{turned_says}
use Rattle.common.specs.Consts.{five}
use Rattle.common.specs.Phase.{turned_of}
use Rattle.common.specs.Ports.{wants, WantAlike}
use Rattle.laws.specs.Float.{zer, is_fin}
use Rattle.numeric.specs.Floor.{floor_of}
use Rattle.lfo.proofs.Accepted.{sounds}
use Rattle.lfo.proofs.Held.{tick_refusal}
use Rattle.lfo.proofs.Small.{eoc_finite}
use Rattle.lfo.specs.Lfo.{controls_of, lfo_refusal_of, lfo_outputs_of, lfo_sound_of, lfo_tick_of}
use Rattle.lfo.specs.Promises.{summed, EocSays, Beside, EocBeside, BitsBeyond}
use Rattle.lfo.specs.Waves.{sine_of, sin_wave, tri_wave, saw_wave, sqr_wave, sin_uni_wave, eoc_wave}
use Rattle.lfo.specs.declared.Lfo.{Lfo}
use Rattle.lfo.specs.declared.LfoControls.{LfoControls}
use Rattle.answer.specs.declared.Ticked.{Ticked}

-- ---- when it comes
-- 5.0 where it is wanted and a turn is passed
wave_is : (want turned : Bool) → eoc_wave want turned ≡ cond (want && turned) five zer
unfolding eoc_wave
wave_is true turned = refl
wave_is false turned = refl

wave_low : (want : Bool) → eoc_wave want false ≡ zer
unfolding eoc_wave
wave_low true = refl
wave_low false = refl

-- a lost tick's sum isn't finite
lost_sum : (finite phases numbers : Bool) → rule_of false finite phases numbers ≡ lost → phases ≡ false
unfolding rule_of
lost_sum finite false numbers h = refl
lost_sum true true true h = absurd (omega arith)
lost_sum true true false h = absurd (omega arith)
lost_sum false true numbers h = absurd (omega arith)

module _ (s : Lfo) (c : LfoControls) (wanted : ℕ) where
  eoc_sound : (volts_of (lfo_sound_of s c wanted).answer).p15 ≡ eoc_wave (wants wanted 32) (turned_of (summed s c))
  unfolding lfo_sound_of lfo_outputs_of
  eoc_sound = ap (λ (v : Volts). v.p15) (mark_says _ _ _ _ _).volts

  lost_sound : mark_number (lfo_sound_of s c wanted).answer ≡ lost → is_fin (summed s c) ≡ false
  unfolding lfo_sound_of
  lost_sound h = lost_sum _ _ _ (sym (mark_says _ _ _ _ _).number ∙ h)

  unturned : is_fin (summed s c) ≡ false → turned_of (summed s c) ≡ false
  unfolding turned_of
  unturned h = simp h

  -- an accepted tick is the Rust's
  is_sound : accepted (lfo_tick_of s c wanted).answer ≡ true → lfo_tick_of s c wanted ≡ lfo_sound_of s c wanted
  is_sound a = sounds s c wanted (sym (tick_refusal s c wanted) ∙ accepted_unrefused _ a)

turned_is : (x : Float) → turned_of x ≡ (is_fin x && ne (floor_of x) zer)
unfolding turned_of
turned_is x = refl

pub eoc_says : EocSays
eoc_says s c wanted a =
    let sound = is_sound s c wanted a in
    let told = ap (λ (t : Ticked Lfo). (volts_of t.answer).p15) sound ∙ eoc_sound s c wanted in
    let pulse = told ∙ wave_is (wants wanted 32) (turned_of (summed s c)) in
    let wave : Bool → Float = λ turned. cond (wants wanted 32 && turned) five zer in
    record {
      by_floor = pulse ∙ ap wave (turned_is (summed s c));
      by_range = pulse ∙ ap wave (turned_says (summed s c) (add-fits binary64 _ _));
      in_lost = λ h. told
          ∙ ap (eoc_wave (wants wanted 32))
          (unturned s c wanted (lost_sound s c wanted (sym (ap (λ (t : Ticked Lfo). mark_number t.answer) sound) ∙ h)))
          ∙ wave_low (wants wanted 32);
    }

-- ---- masks that want the same
module _ (v w : ℕ) (p depth : Float) (turned : Bool) where
  scale : Float
  scale = mul binary64 five depth

  five_same : WantAlike 5 v w → ports_of 5 (lfo_outputs_of v p depth turned) ≡ ports_of 5 (lfo_outputs_of w p depth turned)
  unfolding ports_of lfo_outputs_of scale
  five_same h =
      λ k. sin_wave (h 0 (lit< tt) k) (sine_of p) scale ∷ tri_wave (h 1 (lit< tt) k) p scale ∷ saw_wave (h 2 (lit< tt) k) p scale
      ∷ sqr_wave (h 3 (lit< tt) k) p scale ∷ sin_uni_wave (h 4 (lit< tt) k) (sine_of p) depth ∷ []

  finite_same : WantAlike 5 v w → all_finite (lfo_outputs_of v p depth turned) ≡ all_finite (lfo_outputs_of w p depth turned)
  unfolding all_finite lfo_outputs_of scale
  finite_same h =
      let pulse : is_fin (eoc_wave (wants v 32) turned) ≡ is_fin (eoc_wave (wants w 32) turned) = eoc_finite _ _ ∙ sym (eoc_finite _ _) in
      λ k. is_fin (sin_wave (h 0 (lit< tt) k) (sine_of p) scale)
      && (is_fin (tri_wave (h 1 (lit< tt) k) p scale)
      && (is_fin (saw_wave (h 2 (lit< tt) k) p scale)
      && (is_fin (sqr_wave (h 3 (lit< tt) k) p scale)
      && (is_fin (sin_uni_wave (h 4 (lit< tt) k) (sine_of p) depth) && pulse k))))

  six_same : WantAlike 6 v w → lfo_outputs_of v p depth turned ≡ lfo_outputs_of w p depth turned
  unfolding lfo_outputs_of scale
  six_same h =
      λ k. volts6
      (sin_wave (h 0 (lit< tt) k) (sine_of p) scale)
      (tri_wave (h 1 (lit< tt) k) p scale)
      (saw_wave (h 2 (lit< tt) k) p scale)
      (sqr_wave (h 3 (lit< tt) k) p scale)
      (sin_uni_wave (h 4 (lit< tt) k) (sine_of p) depth)
      (eoc_wave (h 5 (lit< tt) k) turned)

-- a host is told the mark by whether the volts are finite, and by nothing else of them
told_by : (x y : Volts) (phases numbers : Bool) → all_finite x ≡ all_finite y
    → host_number (mark_of x false true phases numbers) ≡ host_number (mark_of y false true phases numbers)
told_by x y phases numbers h = by_rule x ∙ ap (λ (finite : Bool). told (rule_of false finite phases numbers)) h ∙ sym (by_rule y)
  where
    by_rule : (z : Volts) → host_number (mark_of z false true phases numbers) ≡ told (rule_of false (all_finite z) phases numbers)
    by_rule z = unfold host_number in simp ((mark_says z false true phases numbers).is_accepted, (mark_says z false true phases numbers).number)

module _ (s : Lfo) (c : LfoControls) (v w : ℕ) where
  sound_beside : WantAlike 5 v w → Beside (lfo_sound_of s c v) (lfo_sound_of s c w)
  unfolding lfo_sound_of
  sound_beside h =
      record {
        volts = ap (ports_of 5) (mark_says _ _ _ _ _).volts ∙ five_same v w _ _ _ h ∙ sym (ap (ports_of 5) (mark_says _ _ _ _ _).volts);
        told = told_by _ _ _ _ (finite_same v w _ _ _ h);
        lfo = refl;
      }

  sound_same : WantAlike 6 v w → lfo_sound_of s c v ≡ lfo_sound_of s c w
  unfolding lfo_sound_of
  sound_same h =
      ap (λ (x : Volts). record { answer = mark_of x false true (is_fin (summed s c)) (all_numbers (controls_of c)); state = (lfo_sound_of s c v).state })
      (six_same v w _ _ _ h)

-- of an accepted tick and of a refused one
tick_beside : (b : Bool) (x y r : Ticked Lfo) → Beside x y → Beside (cond b x r) (cond b y r)
tick_beside true x y r h = h
tick_beside false x y r h = record { volts = refl; told = refl; lfo = refl }

pub eoc_beside : EocBeside
unfolding lfo_tick_of
eoc_beside s c v w h = tick_beside (eqb (lfo_refusal_of s) 0) _ _ _ (sound_beside s c v w h)

pub bits_beyond : BitsBeyond
unfolding lfo_tick_of
bits_beyond s c v w h =
    ap (λ (t : Ticked Lfo). cond (eqb (lfo_refusal_of s) 0) t (record { answer = answer.Refused (lfo_refusal_of s); state = s })) (sound_same s c v w h)
