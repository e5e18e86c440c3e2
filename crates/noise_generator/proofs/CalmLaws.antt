-- A block of a calm generator, each tick of which has finite outputs.
use Rattle.std.proofs.Common.{◌≡◌, ℕ, ◌-◌, ◌<◌, true, List, length, take, drop, sym, ap, ◌∙◌}
use Rattle.std.proofs.Common.{le_of_lt}
use lib.Ieee.{Float}
use Rattle.laws.proofs.Interval.{unit_within}
use Rattle.common.proofs.DrawLaws.{draws_fine}
use Rattle.common.specs.Tests.{draws_refusal_of}
use Rattle.answer.specs.Mark.{all_finite}
use Rattle.noise_generator.specs.Shortcuts.{turn_volts, Calm}
use Rattle.noise_generator.specs.NoiseGenerator.{needed_of, needed_by, correlation_of}
use Rattle.noise_generator.specs.declared.NoiseGenerator.{NoiseGenerator}
use Rattle.noise_generator.specs.declared.NoiseGeneratorControls.{NoiseGeneratorControls}
use Rattle.noise_generator.proofs.Bounds.{CalmNoise, calm_of, calm_at}
use Rattle.noise_generator.proofs.Clean.{turn_finite}
use Rattle.noise_generator.proofs.TickLaws.{numbers_of, At, drawing_at, ticks_at}
use Rattle.noise_generator.proofs.TurnLaws.{rest_draws}

-- ---- a block of a calm generator
-- its tick i, whose state is x and whose draws start at `at`
pub ahead_taken : (s : NoiseGenerator) (c : NoiseGeneratorControls) (wanted : ℕ) (draws : List ℕ) (n : ℕ) → draws_refusal_of (needed_by s n) draws ≡ 0
    → (i : ℕ) → i < n → (x : NoiseGenerator) (at : ℕ) → x ≡ (drawing_at s c wanted draws i).noise → at ≡ needed_by s i
    → draws_refusal_of (needed_of x) (take (length draws - at) (drop at draws)) ≡ 0
ahead_taken s c wanted draws n h i l x at z f =
    let y = drawing_at s c wanted draws i in
    let a : At s c wanted draws n i y = ticks_at s c wanted draws n h i (le_of_lt l) in
    let left : take (length draws - at) (drop at draws) ≡ y.draws = rest_draws draws at ∙ ap (λ (j : ℕ). drop j draws) f ∙ sym a.left in
    (λ j. draws_refusal_of (needed_of (z j)) (left j)) ∙ a.taken l

pub ahead_finite : (s : NoiseGenerator) (c : NoiseGeneratorControls) (wanted : ℕ) (draws : List ℕ) (n : ℕ) → draws_refusal_of (needed_by s n) draws ≡ 0
    → length s.pink.rows ≡ 16 → length s.pink2.rows ≡ 16 → Calm s (correlation_of s c)
    → (i : ℕ) → i < n → (k : Float) (x : NoiseGenerator) (at : ℕ) → k ≡ correlation_of s c → x ≡ (drawing_at s c wanted draws i).noise → at ≡ needed_by s i
    → all_finite (turn_volts k x.pink x.pink2 wanted (take (length draws - at) (drop at draws))) ≡ true
ahead_finite s c wanted draws n h e e2 calm i l k x at q z f =
    let y = drawing_at s c wanted draws i in
    let a : At s c wanted draws n i y = ticks_at s c wanted draws n h i (le_of_lt l) in
    let left : take (length draws - at) (drop at draws) ≡ y.draws = rest_draws draws at ∙ ap (λ (j : ℕ). drop j draws) f ∙ sym a.left in
    let first : CalmNoise s = record { pink = calm_of s.pink e calm.pink; pink2 = calm_of s.pink2 e2 calm.pink2 } in
    let fine = draws_fine (needed_of y.noise) y.draws (a.taken l) in
    let unit = unit_within (correlation_of s c) calm.correlation in
    let there = turn_finite (correlation_of s c) (numbers_of c) y.noise wanted y.draws fine unit (calm_at s c wanted draws first i) in
    (λ j. all_finite (turn_volts (q j) (z j).pink (z j).pink2 wanted (left j))) ∙ there
