-- A score with an input that is nan is never claimed: were it, its first frame would be clean, and so no control of its oscillator NaN.
use mathlib.Core.Bool.{Bool, true, false, not, false≢true, true≢false}
use mathlib.Core.List.{List, [], ◌∷◌}
use mathlib.Core.Path.{◌≡◌, refl, sym, ◌∙◌}
use Prim.Native.Nat.{ℕ, zero, suc, ◌≤◌}
use native.Mathlib.Omega.{arith}
use lib.Ieee.{Float, is_nan}
use Rattle.laws.proofs.Tests.{both_true}
use Rattle.answer.specs.Mark.{all_numbers}
use Rattle.formant_osc.proofs.Held as formant
use Rattle.lfo.proofs.Held as lfo
use Rattle.supersaw.proofs.Held as supersaw
use Rattle.vco.proofs.Held as vco
use Rattle.score.specs.Control.{volts_of}
use Rattle.score.specs.declared.Control.{Control}
use Rattle.score.specs.declared.Control.TheVariants.{Microvolts, Nan}
use Rattle.score.specs.declared.Inputs.{Inputs}
use Rattle.score.specs.declared.Inputs.TheVariants as inputs
use Rattle.player.specs.Begin.{vco_controls, lfo_controls, supersaw_controls, formant_controls}
use Rattle.player.specs.Play.{answers, heard_from, heard_of}
use Rattle.player.specs.Promises.{Every, Clean, claims, inputs_in, some_nan, NanUnclaimed}
use Rattle.player.proofs.Counts.{claimed_clean}

-- the inputs in volts
volts : List Control → List Float
volts [] = []
volts (c ∷ xs) = volts_of c ∷ volts xs

numbers_only : (xs : List Control) → all_numbers (volts xs) ≡ true → some_nan xs ≡ false
unfolding volts all_numbers some_nan
numbers_only [] h = refl
numbers_only (Microvolts n ∷ xs) h = numbers_only xs (both_true (not (is_nan (volts_of (Microvolts n)))) (all_numbers (volts xs)) h).1
numbers_only (Nan ∷ xs) h = absurd (false≢true (unfold volts_of is_nan in h))

-- a first frame that is clean
first_clean : (i : Inputs) (hz : ℕ) (t : Float) (n : ℕ) → 1 ≤ n → Every Clean (heard_from i hz t n) → some_nan (inputs_in i) ≡ false
unfolding heard_from answers Every volts vco_controls lfo_controls supersaw_controls formant_controls
first_clean i hz t zero z e = absurd (omega arith)
first_clean (inputs.Vco i) hz t (suc n) z e = numbers_only (inputs_in (inputs.Vco i)) ((vco.nan_steers _ _ _).when_clean e.0)
first_clean (inputs.Lfo i) hz t (suc n) z e = numbers_only (inputs_in (inputs.Lfo i)) ((lfo.nan_steers _ _ _).when_clean e.0)
first_clean (inputs.Supersaw i) hz t (suc n) z e = numbers_only (inputs_in (inputs.Supersaw i)) ((supersaw.nan_steers _ _).when_clean e.0)
first_clean (inputs.Formant i) hz t (suc n) z e = numbers_only (inputs_in (inputs.Formant i)) ((formant.nan_steers _ _).when_clean e.0)

pub nan_unclaimed : NanUnclaimed
unfolding heard_of
nan_unclaimed s some few h = go (claims s) refl
  where
    go : (b : Bool) → claims s ≡ b → b ≡ false
    go true e = absurd (true≢false (sym h ∙ first_clean s.inputs s.head.hz _ s.head.frames some ((claimed_clean s few).only e)))
    go false e = refl
