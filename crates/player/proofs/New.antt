-- What `new` hands out is the new state, also where it refuses the rate or the threshold.
use mathlib.Core.Path.{◌≡◌}
use lib.Ieee.{Float}
use Rattle.answer.proofs.Calls.{made_state}
use Rattle.common.specs.declared.Hertz.{Hertz}
use Rattle.formant_osc.specs.FormantOsc.{new_formant_osc, formant_osc_new_of}
use Rattle.lfo.specs.Lfo.{new_lfo, lfo_new_of}
use Rattle.supersaw.specs.Supersaw.{new_supersaw, supersaw_new_of}
use Rattle.vco.specs.Vco.{new_vco, vco_new_of}

pub vco_new : (r : Hertz) (t : Float) → (vco_new_of r t).state ≡ new_vco r t
unfolding vco_new_of
vco_new r t = made_state _ _

pub lfo_new : (r : Hertz) (t : Float) → (lfo_new_of r t).state ≡ new_lfo r t
unfolding lfo_new_of
lfo_new r t = made_state _ _

pub supersaw_new : (r : Hertz) → (supersaw_new_of r).state ≡ new_supersaw r
unfolding supersaw_new_of
supersaw_new r = made_state _ _

pub formant_new : (r : Hertz) → (formant_osc_new_of r).state ≡ new_formant_osc r
unfolding formant_osc_new_of
formant_new r = made_state _ _
