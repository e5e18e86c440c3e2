-- Shortcuts of the code: no public contract and no promise cites them, so nobody need believe them; proofs/TurnLaws.antt,
-- proofs/CountLaws.antt and proofs/CalmLaws.antt show that they are what the definitions say.
use Rattle.std.specs.Prelude.{ℕ, zero, suc, ◌+◌, ◌/◌, List, slice_index, Float}
use Rattle.laws.specs.Float.{InUnit}
use Rattle.numeric.specs.Draw.{bipolar_of}
use Rattle.answer.specs.declared.Answer.{Answer}
use Rattle.answer.specs.declared.Volts.{Volts}
use Rattle.noise_generator.specs.Pink.{next_index, changed_of, sampled_of, pink_of}
use Rattle.noise_generator.specs.NoiseGenerator.{noise_generator_volts_of}
use Rattle.noise_generator.specs.Promises.{Bounded}
use Rattle.noise_generator.specs.declared.PinkNoiseState.{PinkNoiseState}
use Rattle.noise_generator.specs.declared.NoiseGenerator.{NoiseGenerator}
use Rattle.answer.specs.declared.Ticked.{Ticked}
use Rattle.noise_generator.specs.declared.Rowless.{Rowless}

-- ---- a turn: the code lends the rows, and has apart from them what else it changes
abbrev pub pink_at : List Float → Rowless → PinkNoiseState
pink_at rows r = record { rows = rows; running_sum = r.running_sum; index = r.index }

-- the draws of a tick of these pinks
unfoldable pub needed_at : Rowless → Rowless → ℕ
needed_at pink pink2 = 2 + (changed_of (next_index pink.index) + changed_of (next_index pink2.index))

abbrev pub ticked : Answer → NoiseGenerator → Ticked NoiseGenerator
ticked a s = record { answer = a; state = s }

-- the outputs of tick_wanted from its clamped correlation on
abbrev pub turn_volts : Float → PinkNoiseState → PinkNoiseState → ℕ → List ℕ → Volts
turn_volts c p p2 wanted draws =
    noise_generator_volts_of c (bipolar_of (slice_index draws 0)) (bipolar_of (slice_index draws 1)) (pink_of (sampled_of draws 2 p))
    (pink_of (sampled_of draws (2 + changed_of (next_index p.index)) p2)) wanted

-- ---- a block asks once whether its outputs are finite
-- a generator and the clamped correlation k of a block whose every tick is clean
pub record Calm (s : NoiseGenerator) (k : Float) : Type 0 where
  pub correlation : InUnit k
  pub pink : Bounded s.pink
  pub pink2 : Bounded s.pink2

-- ---- a block counts its draws before it takes them
-- n + n / 2 + n / 4 + .. , d terms: how often d rows change while a counter climbs from 0 to n, row k at each multiple of 2 ^ k
unfoldable pub climbed_of : ℕ → ℕ → ℕ
climbed_of zero n = 0
climbed_of (suc d) n = n + climbed_of d (n / 2)
