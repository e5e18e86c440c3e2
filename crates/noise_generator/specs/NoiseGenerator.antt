-- The NoiseGenerator's calls, written from oscillators.rs, with the scope's marks and its refusals 5 and 6. The draws are lent.
use Rattle.std.specs.Prelude.{ℕ, zero, suc, ◌+◌, ◌*◌, Bool, true, false, cond, List, [], ◌∷◌, length, drop, ◌==◌, slice_index, Float, Option, Some, None}
use Rattle.std.specs.Float.{binary64}
use Rattle.std.specs.Float.Ieee.{add, sub, mul}
use Rattle.laws.specs.Float.{zer, one}
use Rattle.numeric.specs.Basic.{clamp_of}
use Rattle.numeric.specs.Draw.{bipolar_of}
use Rattle.common.specs.Ports.{wants, out_of}
use Rattle.common.specs.Tests.{draws_refusal_of}
use Rattle.common.specs.declared.Hertz.{Hertz}
use Rattle.answer.specs.Answer.{volts4}
use Rattle.answer.specs.Block.{Block, block, block_of, after_ticks}
use Rattle.answer.specs.Mark.{all_numbers, mark_of}
use Rattle.answer.specs.declared.Answer.{Answer}
use Rattle.answer.specs.declared.Answer.TheVariants as answer
use Rattle.answer.specs.declared.Tally.{Tally}
use Rattle.answer.specs.declared.Volts.{Volts}
use Rattle.noise_generator.specs.Consts.{n_ports, new_correlation}
use Rattle.noise_generator.specs.Pink.{new_pink, next_index, changed_of, sampled_of, pink_of}
use Rattle.noise_generator.specs.declared.PinkNoiseState.{PinkNoiseState}
use Rattle.noise_generator.specs.declared.NoiseGenerator.{NoiseGenerator}
use Rattle.noise_generator.specs.declared.NoiseGeneratorControls.{NoiseGeneratorControls}
use Rattle.answer.specs.declared.Ticked.{Ticked}

abbrev pub generator : PinkNoiseState → PinkNoiseState → Float → Float → NoiseGenerator
generator pink pink2 correlation white = record { pink = pink; pink2 = pink2; correlation = correlation; last_white = white }

-- NoiseGenerator::new
unfoldable pub new_noise_generator : NoiseGenerator
new_noise_generator = generator new_pink new_pink new_correlation zer

-- with_correlation: a new one with correlation.clamp(0.0, 1.0)
unfoldable pub with_correlation : Float → NoiseGenerator
with_correlation c = generator new_pink new_pink (clamp_of c zer one) zer

-- ---- the draws
-- a tick's: white, independent, and one for each row that changes
unfoldable pub needed_of : NoiseGenerator → ℕ
needed_of s = 2 + (changed_of (next_index s.pink.index) + changed_of (next_index s.pink2.index))

-- the rows that change in n ticks from an index on
unfoldable pub changed_by : ℕ → ℕ → ℕ
changed_by index zero = 0
changed_by index (suc n) = changed_by index n + changed_of (after_ticks next_index (suc n) index)

-- those of n ticks together
unfoldable pub needed_by : NoiseGenerator → ℕ → ℕ
needed_by s n = 2 * n + (changed_by s.pink.index n + changed_by s.pink2.index n)

-- ---- the tick
-- get_or(0, self.correlation)
unfoldable pub given_or : Option Float → Float → Float
given_or (Some c) stored = c
given_or None stored = stored

-- the controls given to a tick: none where the stored one is taken
unfoldable pub given_in : Option Float → List Float
given_in (Some c) = c ∷ []
given_in None = []

abbrev pub controls_of : NoiseGeneratorControls → List Float
controls_of c = given_in c.correlation

-- a * correlation + b * (1.0 - correlation)
unfoldable pub mix_of : Float → Float → Float → Float
mix_of a b c = add binary64 (mul binary64 a c) (mul binary64 b (sub binary64 one c))

-- the four outputs
unfoldable pub noise_generator_volts_of : Float → Float → Float → Float → Float → ℕ → Volts
noise_generator_volts_of correlation white1 independent pink1 pink2 wanted =
    volts4 (out_of (wants wanted 1) white1) (out_of (wants wanted 2) pink1) (out_of (wants wanted 4) (mix_of white1 independent correlation))
    (out_of (wants wanted 8) (mix_of pink1 pink2 correlation))

-- tick_wanted from its clamped correlation on, line by line: white's draw, independent's, pink's, pink2's. It has no phase and no clamp at its end;
-- `numbers` says that no control given is NaN
unfoldable pub turn_of : Float → Bool → NoiseGenerator → ℕ → List ℕ → Ticked NoiseGenerator
turn_of correlation numbers s wanted draws =
    let white1 = bipolar_of (slice_index draws 0) in
    let independent = bipolar_of (slice_index draws 1) in
    let pink = sampled_of draws 2 s.pink in
    let pink2 = sampled_of draws (2 + changed_of (next_index s.pink.index)) s.pink2 in
    record {
      answer = mark_of (noise_generator_volts_of correlation white1 independent (pink_of pink) (pink_of pink2) wanted) false true true numbers;
      state = generator pink pink2 s.correlation white1;
    }

-- the correlation that a tick goes by: the given one or the stored one, clamped
unfoldable pub correlation_of : NoiseGenerator → NoiseGeneratorControls → Float
correlation_of s c = clamp_of (given_or c.correlation s.correlation) zer one

-- an accepted tick
abbrev pub noise_generator_sound_of : NoiseGenerator → NoiseGeneratorControls → ℕ → List ℕ → Ticked NoiseGenerator
noise_generator_sound_of s c wanted draws = turn_of (correlation_of s c) (all_numbers (controls_of c)) s wanted draws

-- 5 and 6 over the draws that it needs; a refused tick leaves the state
unfoldable pub noise_generator_tick_of : NoiseGenerator → NoiseGeneratorControls → ℕ → List ℕ → Ticked NoiseGenerator
noise_generator_tick_of s c wanted draws =
    let n = draws_refusal_of (needed_of s) draws in
    cond (n == 0) (noise_generator_sound_of s c wanted draws) (record { answer = answer.Refused n; state = s })

-- ---- a block: a generator with the draws that are left, which each tick takes its own from
pub record Drawing : Type 0 where
  pub noise : NoiseGenerator
  pub draws : List ℕ

abbrev pub drawing : NoiseGenerator → List ℕ → Drawing
drawing s draws = record { noise = s; draws = draws }

-- what a tick with these controls answers, and what it leaves
abbrev pub noise_generator_told_of : NoiseGeneratorControls → ℕ → Drawing → Answer
noise_generator_told_of c wanted x = (noise_generator_tick_of x.noise c wanted x.draws).answer

abbrev pub noise_generator_next_of : NoiseGeneratorControls → ℕ → Drawing → Drawing
noise_generator_next_of c wanted x = drawing (noise_generator_tick_of x.noise c wanted x.draws).state (drop (needed_of x.noise) x.draws)

-- what it leaves, without the draws
abbrev pub undrawn : Block Drawing → Block NoiseGenerator
undrawn b = block b.refused b.state.noise b.tally b.samples b.marks

-- as many ticks with these controls as there are marks: four samples a tick. 5 and 6 over the draws of all of them
unfoldable pub noise_generator_block_of : NoiseGenerator → NoiseGeneratorControls → ℕ → List ℕ → Tally → List Float → List ℕ → Block NoiseGenerator
noise_generator_block_of s c wanted draws t o m =
    undrawn
    (block_of n_ports (draws_refusal_of (needed_by s (length m)) draws) (noise_generator_told_of c wanted) (noise_generator_next_of c wanted) (drawing s draws)
    t o m)

-- ---- reset: both pinks are new, and the correlation stays
unfoldable pub restarted : NoiseGenerator → NoiseGenerator
restarted s = generator new_pink new_pink s.correlation zer

-- set_sample_rate: nothing depends on the rate
unfoldable pub rated : NoiseGenerator → Hertz → NoiseGenerator
rated s rate = s
