-- Nothing refuses a tick but its draws, and where those of a block are enough, none of its ticks.
use Rattle.std.proofs.Common.{◌≡◌, ℕ, Bool, true, false, cond, List, length, sym, refl, ap, ◌∙◌, true≢false, arith}
use lib.Ieee.{Float}
use Rattle.common.proofs.DrawLaws.{draws_taken}
use Rattle.common.specs.Tests.{draws_refusal_of}
use Rattle.answer.proofs.Blocks.{block_refusal, taken_to}
use Rattle.answer.proofs.Laws.{mark_says, accepted_unrefused, mark_steers, refused_steers}
use Rattle.answer.specs.Answer.{notfinite, steered, clean, mark_number, refusal_of, volts_of, accepted}
use Rattle.answer.specs.Block.{answer_at}
use Rattle.answer.specs.Mark.{all_finite, rule_of}
use Rattle.answer.specs.Promises.{Steers}
use Rattle.answer.specs.declared.Volts.{Volts}
use Rattle.noise_generator.proofs.TickLaws.{numbers_of, tick_taken, tick_by, drawing_at, ticks_at}
use Rattle.noise_generator.specs.Consts.{n_ports}
use Rattle.noise_generator.specs.NoiseGenerator.{needed_of, needed_by, given_in, controls_of, correlation_of, turn_of, noise_generator_tick_of}
use Rattle.noise_generator.specs.NoiseGenerator.{drawing, noise_generator_block_of}
use Rattle.noise_generator.specs.Promises.{NeverRefused, RefusedLeaves, BlockAccepts, BlockTallies, NanSteers, NoiseMarks}
use Rattle.noise_generator.specs.declared.NoiseGenerator.{NoiseGenerator}
use Rattle.noise_generator.specs.declared.NoiseGeneratorControls.{NoiseGeneratorControls}
use Rattle.answer.specs.declared.Ticked.{Ticked}

-- ---- a turn is accepted, and clean or steered where its outputs are finite
module _ (k : Float) (numbers : Bool) (s : NoiseGenerator) (wanted : ℕ) (draws : List ℕ) where
  pub turn_accepted : accepted (turn_of k numbers s wanted draws).answer ≡ true
  unfolding turn_of
  turn_accepted = (mark_says _ _ _ _ _).is_accepted

  turn_mark : mark_number (turn_of k numbers s wanted draws).answer
      ≡ cond (all_finite (volts_of (turn_of k numbers s wanted draws).answer)) (cond numbers clean steered) notfinite
  unfolding turn_of rule_of
  turn_mark =
      let said = mark_says _ false true true numbers in
      said.number ∙ ap (λ (v : Volts). cond (all_finite v) (cond numbers clean steered) notfinite) (sym said.volts)

-- ---- a tick
tick_refusal : (s : NoiseGenerator) (c : NoiseGeneratorControls) (wanted : ℕ) (draws : List ℕ)
    → refusal_of (noise_generator_tick_of s c wanted draws).answer ≡ draws_refusal_of (needed_of s) draws
tick_refusal s c wanted draws =
    tick_by s c wanted draws (λ (t : Ticked NoiseGenerator). refusal_of t.answer ≡ draws_refusal_of (needed_of s) draws)
    (λ e. accepted_unrefused _ (turn_accepted (correlation_of s c) (numbers_of c) s wanted draws) ∙ sym e) (λ e. unfold refusal_of in refl)

pub tick_accepted : (s : NoiseGenerator) (c : NoiseGeneratorControls) (wanted : ℕ) (draws : List ℕ) → draws_refusal_of (needed_of s) draws ≡ 0
    → accepted (noise_generator_tick_of s c wanted draws).answer ≡ true
tick_accepted s c wanted draws e =
    ap (λ (t : Ticked NoiseGenerator). accepted t.answer) (tick_taken s c wanted draws e)
    ∙ turn_accepted (correlation_of s c) (numbers_of c) s wanted draws

pub accepted_taken : (s : NoiseGenerator) (c : NoiseGeneratorControls) (wanted : ℕ) (draws : List ℕ)
    → accepted (noise_generator_tick_of s c wanted draws).answer ≡ true → draws_refusal_of (needed_of s) draws ≡ 0
accepted_taken s c wanted draws z = sym (tick_refusal s c wanted draws) ∙ accepted_unrefused _ z

pub never_refused : NeverRefused
never_refused s =
    record {
      tick = tick_refusal s;
      enough = λ c wanted draws h k. tick_accepted s c wanted draws (draws_taken (needed_of s) draws h k);
      play = λ c wanted draws t o m. unfold noise_generator_block_of in
          block_refusal n_ports (draws_refusal_of (needed_by s (length m)) draws) _ _ (drawing s draws) t o m;
    }

pub refused_leaves : RefusedLeaves
refused_leaves s c wanted draws =
    tick_by s c wanted draws (λ (t : Ticked NoiseGenerator). accepted t.answer ≡ false → t.state ≡ s)
    (λ e z. absurd (true≢false (sym (turn_accepted (correlation_of s c) (numbers_of c) s wanted draws) ∙ z))) (λ e z. refl)

pub noise_marks : NoiseMarks
noise_marks s c wanted draws z =
    rw (tick_taken s c wanted draws (accepted_taken s c wanted draws z)) (turn_mark (correlation_of s c) (numbers_of c) s wanted draws)

-- ---- a block
pub block_accepts : BlockAccepts
unfolding answer_at
block_accepts s c wanted draws n h i l =
    let x = drawing_at s c wanted draws i in
    tick_accepted x.noise c wanted x.draws ((ticks_at s c wanted draws n h i (omega arith)).taken l)

pub block_tallies : BlockTallies
block_tallies s c wanted draws n h = taken_to _ _ (drawing s draws) n (block_accepts s c wanted draws n h)

tick_steers : (s : NoiseGenerator) (c : NoiseGeneratorControls) (wanted : ℕ) (draws : List ℕ)
    → Steers (controls_of c) (noise_generator_tick_of s c wanted draws).answer
tick_steers s c wanted draws =
    tick_by s c wanted draws (λ (t : Ticked NoiseGenerator). Steers (controls_of c) t.answer) (λ e. unfold turn_of in mark_steers _ _ _ _ (controls_of c))
    (λ e. refused_steers _ (controls_of c))

pub nan_steers : NanSteers
unfolding given_in
nan_steers s wanted draws = (λ x. tick_steers s _ wanted draws, tick_steers s _ wanted draws)
