use Rattle.std.proofs.Common.{◌∙◌}
use Rattle.boundary.proofs.Lent.{lent_block, unlent_block, played_left, played_pass, played_stop}
use Rattle.noise_generator.specs.NoiseGenerator.{noise_generator_block_of}
use Rattle.exports_noise_generator.specs.Calls.{noise_generator_block_at}
use Rattle.exports_noise_generator.specs.State.{n_floats, n_wholes, state_of, floats_of, wholes_of}
use Rattle.exports_noise_generator.proofs.gruttisol_noise_generator_block.Goals as goal

pub returns-in-Ok : goal.returns-in-Ok
unfolding noise_generator_block_at
returns-in-Ok c = let a = c.args in
    let t = c.in-Ok.begun.tally in
    let s = lent_block n_floats n_wholes state_of a.floats.now a.wholes.now a.counts.now _ _ c.in-Ok.ensures in
    let b = c.block-played.ensures
    ∙ (λ i. noise_generator_block_of (s.0 i) (c.controls-c.ensures i) a.wanted a.draws.now t a.samples.now a.marks.now) in
    played_pass n_floats n_wholes _ a.floats.now a.wholes.now a.counts.now a.samples.now a.marks.now t _ s.1
    (played_left floats_of wholes_of a.floats.now a.wholes.now n_floats n_wholes a.counts.now c.in-Ok.begun.state t c.block-played.result
    _ _ _ _ s.1 c.keep_block.ensures b)

pub returns-in-Err : goal.returns-in-Err
unfolding noise_generator_block_at
returns-in-Err c = let a = c.args in
    let e = unlent_block n_floats n_wholes state_of a.floats.now a.wholes.now a.counts.now _ c.in-Err.ensures in
    played_stop _ _ _ _ _ _ _ _ c.in-Err.refused _ e c.number.ensures
