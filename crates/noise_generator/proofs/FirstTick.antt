-- The first tick of a new one, computed.
use Rattle.std.proofs.Common.{refl}
use lib.Ieee.{add, sub, mul, div, lt, of_int, of_bits}
use Rattle.laws.specs.Lists.{tab}
use Rattle.numeric.specs.Basic.{clamp_of}
use Rattle.numeric.specs.Draw.{draw_of, bipolar_of}
use Rattle.common.specs.Ports.{out_of}
use Rattle.common.specs.Tests.{draws_ok, draws_refusal_of}
use Rattle.answer.specs.Answer.{answer_of}
use Rattle.answer.specs.Mark.{all_finite, all_numbers, mark_of, marked_of, rule_of}
use Rattle.noise_generator.specs.NoiseGenerator.{new_noise_generator, needed_of, given_or, given_in, mix_of, noise_generator_volts_of}
use Rattle.noise_generator.specs.NoiseGenerator.{turn_of, correlation_of, noise_generator_tick_of}
use Rattle.noise_generator.specs.Pink.{new_pink, next_index, last_index, trailing_ones, changed_of, row_of, rows_of, sampled_of, pink_of}
use Rattle.noise_generator.specs.Promises.{FirstTick}

pub first_tick : FirstTick
unfolding new_noise_generator needed_of given_or given_in mix_of noise_generator_volts_of turn_of correlation_of noise_generator_tick_of
first_tick =
    unfold new_pink next_index last_index trailing_ones changed_of row_of rows_of sampled_of pink_of in
    unfold tab clamp_of draw_of bipolar_of out_of draws_ok draws_refusal_of all_finite all_numbers mark_of marked_of rule_of answer_of in
    unfold add sub mul div lt of_int of_bits in refl
