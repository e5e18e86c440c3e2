use mathlib.Core.Path.{ap, ◌∙◌}
use Rattle.boundary.proofs.Lent.{lent_block, unlent_block, played_left, played_pass, played_stop}
use Rattle.vco.specs.Vco.{vco_block_of}
use Rattle.exports_vco.specs.Calls.{controls_of, vco_block_at}
use Rattle.exports_vco.specs.State.{n_floats, n_wholes, state_of, floats_of, wholes_of}
use Rattle.exports_vco.proofs.gruttisol_vco_block.Goals as goal

pub returns-in-Ok : goal.returns-in-Ok
unfolding vco_block_at
returns-in-Ok c = let a = c.args in
    let s = lent_block n_floats n_wholes state_of a.floats.now a.wholes.now a.counts.now _ _ c.in-Ok.ensures in
    let b = c.block-played.ensures
    ∙ ap (λ x. vco_block_of x (controls_of a.voct a.fm a.pw a.sync a.fm_lin) a.wanted c.in-Ok.begun.tally a.samples.now a.marks.now) s.0 in
    played_pass n_floats n_wholes _ a.floats.now a.wholes.now a.counts.now a.samples.now a.marks.now c.in-Ok.begun.tally _ s.1
    (played_left floats_of wholes_of a.floats.now a.wholes.now n_floats n_wholes a.counts.now c.in-Ok.begun.state c.in-Ok.begun.tally c.block-played.result
    _ _ _ _ s.1 c.keep_block.ensures b)

pub returns-in-Err : goal.returns-in-Err
unfolding vco_block_at
returns-in-Err c = let a = c.args in
    let e = unlent_block n_floats n_wholes state_of a.floats.now a.wholes.now a.counts.now _ c.in-Err.ensures in
    played_stop _ _ _ _ _ _ _ _ c.in-Err.refused _ e c.number.ensures
