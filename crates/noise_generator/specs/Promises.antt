-- Theorems about the NoiseGenerator: the statements. proofs/ proves each under the same name in small letters.
use Rattle.std.specs.Prelude.{◌≡◌, ℕ, ◌+◌, ◌*◌, ◌%◌, ◌^◌, ◌<◌, ◌≤◌, min, true, false, cond, not, ◌||◌, T, List, [], ◌∷◌, length, drop, ◌==◌, from_bits, is_nan}
use Rattle.std.specs.Prelude.{nat_lt, slice_index, slice_index_or, Float, Some, None}
use Rattle.std.specs.Int.Count.{count_trailing_zeros}
use Rattle.std.specs.Float.{nan, binary64}
use Rattle.std.specs.Float.Ieee.{le, neg}
use Rattle.laws.specs.Float.{InUnit}
use Rattle.laws.specs.Machine.{Settles}
use Rattle.numeric.specs.Draw.{bipolar_of}
use Rattle.common.specs.Ports.{wants}
use Rattle.common.specs.Tests.{draws_ok, draws_refusal_of}
use Rattle.common.specs.declared.Hertz.{Hertz}
use Rattle.answer.specs.Answer.{volts4, notfinite, steered, clean, mark_number, refusal_of, volts_of, accepted}
use Rattle.answer.specs.Block.{Block, after_ticks, answer_at, block_refusal_of}
use Rattle.answer.specs.Mark.{all_finite, all_numbers}
use Rattle.answer.specs.Promises.{Steers, AcceptedTo, TakenTo}
use Rattle.answer.specs.declared.Answer.{Answer}
use Rattle.answer.specs.declared.Answer.TheVariants as answer
use Rattle.answer.specs.declared.Tally.{Tally}
use Rattle.noise_generator.specs.Consts.{n_ports}
use Rattle.noise_generator.specs.Pink.{next_index, changed_of}
use Rattle.noise_generator.specs.NoiseGenerator.{new_noise_generator, with_correlation, needed_of, needed_by, given_or}
use Rattle.noise_generator.specs.NoiseGenerator.{noise_generator_tick_of, drawing, noise_generator_told_of, noise_generator_next_of, noise_generator_block_of}
use Rattle.noise_generator.specs.NoiseGenerator.{controls_of, restarted, rated}
use Rattle.noise_generator.specs.Calls.{First, ReachedNoiseGenerator}
use Rattle.noise_generator.specs.declared.NoiseGenerator.{NoiseGenerator}
use Rattle.noise_generator.specs.declared.NoiseGeneratorControls.{NoiseGeneratorControls}
use Rattle.answer.specs.declared.Ticked.{Ticked}
use Rattle.noise_generator.specs.declared.PinkNoiseState.{PinkNoiseState}

-- ---- the row counter climbs, past its top back to 0
abbrev pub CounterClimbs : Type 0
CounterClimbs = (index : ℕ) → index < 4294967296 → next_index index ≡ cond (index == 4294967295) 0 (index + 1)

-- all sixteen rows change at 0; else as many as the index has zeros at its end, and one more, but no more than sixteen
abbrev pub RowsChanged : Type 0
RowsChanged = (index : ℕ) → index < 4294967296 → changed_of index ≡ cond (index == 0) 16 (min 16 (count_trailing_zeros 32 index + 1))

-- in other words: row k at each multiple of 2 ^ k
abbrev pub RowChanges : Type 0
RowChanges = (index k : ℕ) → index < 4294967296 → k < 16 → nat_lt k (changed_of index) ≡ (index % 2 ^ k == 0)

-- ---- the draws that a tick needs are from 4 to 34
abbrev pub NeededRange : Type 0
NeededRange = (s : NoiseGenerator) → (4 ≤ needed_of s) × (needed_of s ≤ 34)

-- ---- whatever a state holds, nothing refuses but the draws; and enough of them below 2 ^ 53 are accepted
pub record Accepts (s : NoiseGenerator) : Type 0 where
  pub tick : (c : NoiseGeneratorControls) (wanted : ℕ) (draws : List ℕ)
      → refusal_of (noise_generator_tick_of s c wanted draws).answer ≡ draws_refusal_of (needed_of s) draws
  pub enough : (c : NoiseGeneratorControls) (wanted : ℕ) (draws : List ℕ) → needed_of s ≤ length draws → draws_ok draws (needed_of s) ≡ true
      → accepted (noise_generator_tick_of s c wanted draws).answer ≡ true
  -- a block by its buffers' 52, the draws of its ticks together and its tally's 7
  pub play : (c : NoiseGeneratorControls) (wanted : ℕ) (draws : List ℕ) (t : Tally) (o : List Float) (m : List ℕ)
      → (noise_generator_block_of s c wanted draws t o m).refused
      ≡ block_refusal_of (length o == n_ports * length m) (draws_refusal_of (needed_by s (length m)) draws) t (length m)

abbrev pub NeverRefused : Type 0
NeverRefused = (s : NoiseGenerator) → Accepts s

-- a refused tick leaves the state
abbrev pub RefusedLeaves : Type 0
RefusedLeaves = (s : NoiseGenerator) (c : NoiseGeneratorControls) (wanted : ℕ) (draws : List ℕ)
    → accepted (noise_generator_tick_of s c wanted draws).answer ≡ false → (noise_generator_tick_of s c wanted draws).state ≡ s

-- ---- what an accepted tick leaves of a pink whose draws stand from place `at` on: row k is drawn anew where the counter comes to a multiple of 2 ^ k
pub record Moved (draws : List ℕ) (at : ℕ) (p q : PinkNoiseState) : Type 0 where
  pub index : q.index ≡ next_index p.index
  pub size : length q.rows ≡ 16
  pub row : (k : ℕ) → k < 16
      → slice_index_or q.rows k nan ≡ cond (next_index p.index % 2 ^ k == 0) (bipolar_of (slice_index draws (at + k))) (slice_index_or p.rows k nan)

-- and of a generator: the draws of the second pink come after those of the first
pub record Leaves (s r : NoiseGenerator) (draws : List ℕ) : Type 0 where
  pub pink : Moved draws 2 s.pink r.pink
  pub pink2 : Moved draws (2 + changed_of (next_index s.pink.index)) s.pink2 r.pink2
  pub correlation : r.correlation ≡ s.correlation
  pub last_white : r.last_white ≡ bipolar_of (slice_index draws 0)

-- sixteen rows stand in the code's arrays
abbrev pub TickLeaves : Type 0
TickLeaves = (s : NoiseGenerator) (c : NoiseGeneratorControls) (wanted : ℕ) (draws : List ℕ) → length s.pink.rows ≡ 16 → length s.pink2.rows ≡ 16
    → let t = noise_generator_tick_of s c wanted draws in accepted t.answer ≡ true → Leaves s t.state draws

-- ---- a block is its ticks: each of them is accepted where the draws are enough for all, and a tally with room takes each of their answers
abbrev pub BlockAccepts : Type 0
BlockAccepts = (s : NoiseGenerator) (c : NoiseGeneratorControls) (wanted : ℕ) (draws : List ℕ) (n : ℕ) → draws_refusal_of (needed_by s n) draws ≡ 0
    → AcceptedTo (noise_generator_told_of c wanted) (noise_generator_next_of c wanted) (drawing s draws) n

abbrev pub BlockTallies : Type 0
BlockTallies = (s : NoiseGenerator) (c : NoiseGeneratorControls) (wanted : ℕ) (draws : List ℕ) (n : ℕ) → draws_refusal_of (needed_by s n) draws ≡ 0
    → TakenTo (noise_generator_told_of c wanted) (noise_generator_next_of c wanted) (drawing s draws) n

-- ---- a block takes its draws as its ticks do: tick i begins where those before it end, and the draws of n ticks are those of each together
pub record InTurn (s : NoiseGenerator) (c : NoiseGeneratorControls) (wanted : ℕ) (draws : List ℕ) (i : ℕ) : Type 0 where
  pub left : (after_ticks (noise_generator_next_of c wanted) i (drawing s draws)).draws ≡ drop (needed_by s i) draws
  pub needs : needed_by s i + needed_of (after_ticks (noise_generator_next_of c wanted) i (drawing s draws)).noise ≡ needed_by s (i + 1)

abbrev pub BlockDraws : Type 0
BlockDraws = (s : NoiseGenerator) (c : NoiseGeneratorControls) (wanted : ℕ) (draws : List ℕ) (n : ℕ) → draws_refusal_of (needed_by s n) draws ≡ 0
    → (i : ℕ) → i < n → InTurn s c wanted draws i

-- ---- only the needed draws count
abbrev pub SameTo : ℕ → List ℕ → List ℕ → Type 0
SameTo n d e = (n ≤ length d) × (n ≤ length e) × ((i : ℕ) → i < n → slice_index d i ≡ slice_index e i)

pub record OnlyItsDraws : Type 0 where
  pub tick : (s : NoiseGenerator) (c : NoiseGeneratorControls) (wanted : ℕ) (d e : List ℕ) → SameTo (needed_of s) d e
      → noise_generator_tick_of s c wanted d ≡ noise_generator_tick_of s c wanted e
  pub block : (s : NoiseGenerator) (c : NoiseGeneratorControls) (wanted : ℕ) (d e : List ℕ) (t : Tally) (o : List Float) (m : List ℕ)
      → SameTo (needed_by s (length m)) d e → noise_generator_block_of s c wanted d t o m ≡ noise_generator_block_of s c wanted e t o m

-- ---- no tick is clean with a control that is NaN, and none is steered without one; a stored correlation isn't given
abbrev pub NanSteers : Type 0
NanSteers = (s : NoiseGenerator) (wanted : ℕ) (draws : List ℕ)
    → ((x : Float) → Steers (x ∷ []) (noise_generator_tick_of s (record { correlation = Some x }) wanted draws).answer)
    × Steers [] (noise_generator_tick_of s (record { correlation = None }) wanted draws).answer

-- ---- marks, for every state: notfinite where a wanted output isn't finite; else steered where a NaN was given, and clean
abbrev pub NoiseMarks : Type 0
NoiseMarks = (s : NoiseGenerator) (c : NoiseGeneratorControls) (wanted : ℕ) (draws : List ℕ)
    → let a = (noise_generator_tick_of s c wanted draws).answer in accepted a ≡ true
    → mark_number a ≡ cond (all_finite (volts_of a)) (cond (all_numbers (controls_of c)) clean steered) notfinite

-- a NaN correlation, given or stored, is told where an output that it goes into is wanted
abbrev pub NanTold : Type 0
NanTold = (s : NoiseGenerator) (c : NoiseGeneratorControls) (wanted : ℕ) (draws : List ℕ)
    → let a = (noise_generator_tick_of s c wanted draws).answer in
    accepted a ≡ true → given_or c.correlation s.correlation ≡ nan → (wants wanted 4 || wants wanted 8) ≡ true → mark_number a ≡ notfinite

-- ---- from new, the rows stay from -1 to 1 and their sum from -2 ^ 54 to 2 ^ 54, however it drifts
abbrev pub top : Float
top = from_bits binary64 0x4350000000000000

pub record Bounded (p : PinkNoiseState) : Type 0 where
  pub rows : (i : ℕ) → i < 16 → InUnit (slice_index_or p.rows i nan)
  pub low : T (le (neg top) p.running_sum)
  pub high : T (le p.running_sum top)

abbrev pub SumsBounded : Type 0
SumsBounded = (s : NoiseGenerator) → ReachedNoiseGenerator s → Bounded s.pink × Bounded s.pink2

-- so every accepted tick whose correlation is no NaN is clean, and its samples are finite
abbrev pub Clean : Answer → Type 0
Clean a = (mark_number a ≡ clean) × (all_finite (volts_of a) ≡ true)

abbrev pub Number : NoiseGenerator → NoiseGeneratorControls → Type 0
Number s c = T (not (is_nan (given_or c.correlation s.correlation)))

abbrev pub AlwaysClean : Type 0
AlwaysClean = (s : NoiseGenerator) → ReachedNoiseGenerator s → (c : NoiseGeneratorControls) (wanted : ℕ) (draws : List ℕ) → Number s c
    → accepted (noise_generator_tick_of s c wanted draws).answer ≡ true → Clean (noise_generator_tick_of s c wanted draws).answer

-- and so is every tick of a block that isn't refused
abbrev pub BlockClean : Type 0
BlockClean = (s : NoiseGenerator) → ReachedNoiseGenerator s → (c : NoiseGeneratorControls) (wanted : ℕ) (draws : List ℕ) (n : ℕ) → Number s c
    → draws_refusal_of (needed_by s n) draws ≡ 0
    → (i : ℕ) → i < n → Clean (answer_at (noise_generator_told_of c wanted) (noise_generator_next_of c wanted) (drawing s draws) i)

-- ---- the first tick of a new one, its correlation stored: the draws 2 ^ 53 - 1, 2 ^ 51, 0 and 3 * 2 ^ 51
abbrev pub first_draws : List ℕ
first_draws = 9007199254740991 ∷ 2251799813685248 ∷ 0 ∷ 6755399441055744 ∷ []

abbrev pub FirstTick : Type 0
FirstTick =
    (noise_generator_tick_of new_noise_generator (record { correlation = None }) 15 first_draws).answer
    ≡ answer.Clean
    (volts4 (from_bits binary64 0x4013ffffffffffff) (from_bits binary64 0xbfd4000000000000) (from_bits binary64 0xbfd0000000000004)
    (from_bits binary64 0x3f8ffffffffffffe))

-- ---- a reset one is a new one with the correlation that it had
abbrev pub ResetNew : Type 0
ResetNew = (s : NoiseGenerator) → ReachedNoiseGenerator s → First (restarted s) × ((restarted s).correlation ≡ s.correlation)

-- ---- each contract settles its answer, and what a block leaves in the lent slices
pub record Settled : Type 0 where
  pub new : Settles (λ (r : NoiseGenerator). r ≡ new_noise_generator)
  pub with_correlation : (correlation : Float) → Settles (λ (r : NoiseGenerator). r ≡ with_correlation correlation)
  pub needed : (s : NoiseGenerator) → Settles (λ (r : ℕ). r ≡ needed_of s)
  pub needed_by : (s : NoiseGenerator) (ticks : ℕ) → Settles (λ (r : ℕ). r ≡ needed_by s ticks)
  pub tick : (s : NoiseGenerator) (c : NoiseGeneratorControls) (wanted : ℕ) (draws : List ℕ)
      → Settles (λ (t : Ticked NoiseGenerator). t ≡ noise_generator_tick_of s c wanted draws)
  pub block : (s : NoiseGenerator) (c : NoiseGeneratorControls) (wanted : ℕ) (draws : List ℕ) (t : Tally) (o : List Float) (m : List ℕ)
      → Settles (λ (b : Block NoiseGenerator). b ≡ noise_generator_block_of s c wanted draws t o m)
  pub reset : (s : NoiseGenerator) → Settles (λ (r : NoiseGenerator). r ≡ restarted s)
  pub set_sample_rate : (s : NoiseGenerator) (rate : Hertz) → Settles (λ (r : NoiseGenerator). r ≡ rated s rate)
