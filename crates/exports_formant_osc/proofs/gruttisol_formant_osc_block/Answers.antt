use mathlib.Core.Path.{ap, ◌∙◌}
use Rattle.boundary.proofs.Lent.{lent_block, unlent_block, played_left, played_pass, played_stop}
use Rattle.formant_osc.specs.FormantOsc.{formant_osc_block_of}
use Rattle.exports_formant_osc.specs.Calls.{controls, formant_osc_block_at}
use Rattle.exports_formant_osc.specs.State.{n_floats, n_wholes, state_of, floats_of, wholes_of}
use Rattle.exports_formant_osc.proofs.gruttisol_formant_osc_block.Goals as goal

pub returns-in-Ok : goal.returns-in-Ok
unfolding formant_osc_block_at
returns-in-Ok c = let a = c.args in
    let s = lent_block n_floats n_wholes state_of a.floats.now a.wholes.now a.counts.now _ _ c.in-Ok.ensures in
    let told = controls a.v_oct a.vowel a.formant_shift a.vibrato in
    let b = c.block-played.ensures ∙ ap (λ x. formant_osc_block_of x told c.in-Ok.begun.tally a.samples.now a.marks.now) s.0 in
    played_pass n_floats n_wholes _ a.floats.now a.wholes.now a.counts.now a.samples.now a.marks.now c.in-Ok.begun.tally _ s.1
    (played_left floats_of wholes_of a.floats.now a.wholes.now n_floats n_wholes a.counts.now c.in-Ok.begun.state c.in-Ok.begun.tally c.block-played.result
    _ _ _ _ s.1 c.keep_block.ensures b)

pub returns-in-Err : goal.returns-in-Err
unfolding formant_osc_block_at
returns-in-Err c = let a = c.args in
    let e = unlent_block n_floats n_wholes state_of a.floats.now a.wholes.now a.counts.now _ c.in-Err.ensures in
    played_stop _ _ _ _ _ _ _ _ c.in-Err.refused _ e c.number.ensures
