use Rattle.std.proofs.Common.{◌≡◌, sym, ◌∙◌, arith, rules}
use Rattle.std.proofs.lemmas.Grind.{common_steps}
use Rattle.common.proofs.RefusalLaws.{refuses}
use Rattle.common.specs.Refusal.{refused_number}
use Rattle.common.specs.Tests.{draws_refusal_of}
use Rattle.noise_generator.specs.NoiseGenerator.{needed_of, turn_of, noise_generator_tick_of}
use Rattle.noise_generator.proofs.TickLaws.{tick_taken}
use Rattle.noise_generator.proofs.NoiseGenerator.tick.Goals as goal

pub returns-in-Ok : goal.returns-in-Ok
unfolding refused_number
returns-in-Ok c = let a = c.args in
    let taken : draws_refusal_of (needed_of a.self) a.draws.now ≡ 0 = search rules in
    c.sound.ensures
    ∙ (λ i. turn_of (c.clamped.ensures i) (c.are_numbers.ensures i) a.self a.wanted a.draws.now)
    ∙ sym (tick_taken a.self a.c a.wanted a.draws.now taken)

pub returns-in-Err : goal.returns-in-Err
unfolding noise_generator_tick_of refused_number
returns-in-Err c = grind (arith, common_steps, refuses)
