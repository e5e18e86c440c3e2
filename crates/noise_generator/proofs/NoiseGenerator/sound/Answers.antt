use Rattle.std.proofs.Common.{◌∙◌}
use Rattle.noise_generator.specs.NoiseGenerator.{generator, turn_of}
use Rattle.noise_generator.proofs.NoiseGenerator.sound.Goals as goal

pub returns : goal.returns
returns c = let a = c.args in
    let k = a.asked in
    simp (c.with_rows.ensures, c.with_rows-2.ensures) (c.turn-turned.ensures.state a.self.correlation a.self.last_white)
    ∙ (λ i.
    turn_of k.correlation k.numbers (generator (c.rowless.ensures i) (c.rowless-2.ensures i) a.self.correlation a.self.last_white) k.wanted a.draws.now)
