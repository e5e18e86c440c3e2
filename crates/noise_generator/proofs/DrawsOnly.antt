-- Only the draws that it needs count, to a tick and to a block.
use Rattle.std.proofs.Common.{◌≡◌, ℕ, zero, suc, ◌+◌, ◌*◌, ◌<◌, ◌≤◌, Bool, true, false, cond, eqb, List, ◌++◌, length, get_or, drop, sym, refl, ap, ◌∙◌, ap₂}
use Rattle.std.proofs.Common.{le_refl, arith, length-drop, get_or-drop, eqb-true}
use lib.Ieee.{Float}
use Rattle.common.proofs.DrawLaws.{refusal_draws}
use Rattle.common.specs.Tests.{draws_refusal_of}
use Rattle.answer.proofs.Blocks.{many_ext, block_fits}
use Rattle.answer.specs.Block.{after_ticks, answer_at, mark_at, frame_at, ports_of, joined, counted_to, many_to, ticks_of, Block, block, block_of}
use Rattle.answer.specs.Block.{block_refusal_of}
use Rattle.answer.specs.Answer.{host_number, volts_of, cleared, notfinite, lost, steered, clean, told}
use Rattle.answer.specs.declared.Answer.{Answer}
use Rattle.answer.specs.declared.Tally.{Tally}
use Rattle.laws.proofs.Over.{tab_ext}
use Rattle.noise_generator.proofs.TickLaws.{numbers_of, needed_less, drawing_at, ticks_at}
use Rattle.noise_generator.specs.Consts.{n_ports}
use Rattle.noise_generator.specs.NoiseGenerator.{needed_of, needed_by, correlation_of, turn_of, noise_generator_tick_of}
use Rattle.noise_generator.specs.NoiseGenerator.{Drawing, drawing, noise_generator_told_of, noise_generator_next_of, undrawn, noise_generator_block_of}
use Rattle.noise_generator.specs.Pink.{next_index, changed_of, Rows, row_of, rows_of, rowed, sampled_of}
use Rattle.noise_generator.specs.Promises.{SameTo, OnlyItsDraws}
use Rattle.noise_generator.specs.declared.NoiseGenerator.{NoiseGenerator}
use Rattle.noise_generator.specs.declared.NoiseGeneratorControls.{NoiseGeneratorControls}
use Rattle.answer.specs.declared.Ticked.{Ticked}
use Rattle.noise_generator.specs.declared.PinkNoiseState.{PinkNoiseState}

-- ---- a tick
rows_same : (d e : List ℕ) (at : ℕ) (r : Rows) (n : ℕ) → ((i : ℕ) → i < n → get_or d (at + i) 0 ≡ get_or e (at + i) 0)
    → rows_of d at r n ≡ rows_of e at r n
unfolding rows_of row_of
rows_same d e at r zero h = refl
rows_same d e at r (suc n) h =
    let before : rows_of d at r n ≡ rows_of e at r n = rows_same d e at r n (λ i l. h i (omega arith)) in
    let draw : get_or d (at + n) 0 ≡ get_or e (at + n) 0 = h n (omega arith) in
    rw (before, draw)

sampled_same : (d e : List ℕ) (at : ℕ) (p : PinkNoiseState)
    → ((i : ℕ) → i < changed_of (next_index p.index) → get_or d (at + i) 0 ≡ get_or e (at + i) 0) → sampled_of d at p ≡ sampled_of e at p
unfolding sampled_of
sampled_same d e at p h = rw (rows_same d e at (rowed p.rows p.running_sum) (changed_of (next_index p.index)) h)

turn_same : (k : Float) (numbers : Bool) (s : NoiseGenerator) (wanted : ℕ) (d e : List ℕ) → ((i : ℕ) → i < needed_of s → get_or d i 0 ≡ get_or e i 0)
    → turn_of k numbers s wanted d ≡ turn_of k numbers s wanted e
unfolding turn_of needed_of
turn_same k numbers s wanted d e h =
    let at = 2 + changed_of (next_index s.pink.index) in
    let white : get_or d 0 0 ≡ get_or e 0 0 = h 0 (omega arith) in
    let independent : get_or d 1 0 ≡ get_or e 1 0 = h 1 (omega arith) in
    let pink : sampled_of d 2 s.pink ≡ sampled_of e 2 s.pink = sampled_same d e 2 s.pink (λ i l. h (2 + i) (omega arith)) in
    let pink2 : sampled_of d at s.pink2 ≡ sampled_of e at s.pink2 = sampled_same d e at s.pink2 (λ i l. h (at + i) (omega arith)) in
    rw (white, independent, pink, pink2)

tick_same : (s : NoiseGenerator) (c : NoiseGeneratorControls) (wanted : ℕ) (d e : List ℕ) → SameTo (needed_of s) d e
    → noise_generator_tick_of s c wanted d ≡ noise_generator_tick_of s c wanted e
unfolding noise_generator_tick_of
tick_same s c wanted d e h =
    rw (refusal_draws (needed_of s) d e h.0 h.1 h.2, turn_same (correlation_of s c) (numbers_of c) s wanted d e h.2)

-- ---- a block
same_left : (d e : List ℕ) (a k n : ℕ) → a + k ≤ n → SameTo n d e → SameTo k (drop a d) (drop a e)
same_left d e a k n l h =
    let p = length-drop a d in
    let q = length-drop a e in
    (omega arith, omega arith, λ i m. get_or-drop a d i 0 ∙ h.2 (a + i) (omega arith) ∙ sym (get_or-drop a e i 0))

-- what n ticks leave is their answers and the last state
joined_below : {A : Type 0} (f g : ℕ → List A) (n : ℕ) → ((i : ℕ) → i < n → f i ≡ g i) → joined f n ≡ joined g n
unfolding joined
joined_below f g zero h = refl
joined_below f g (suc n) h = ap₂ ◌++◌ (joined_below f g n (λ i l. h i (omega arith))) (h n (omega arith))

module _ (answer : Drawing → Answer) (next : Drawing → Drawing) (x y : Drawing) (n : ℕ)
    (same : (i : ℕ) → i < n → answer_at answer next x i ≡ answer_at answer next y i) where
  marks_same : (i : ℕ) → i < n → mark_at answer next x i ≡ mark_at answer next y i
  marks_same i l = ap host_number (same i l)

  frames_same : (i : ℕ) → i < n → frame_at n_ports answer next x i ≡ frame_at n_ports answer next y i
  frames_same i l = ap (λ (a : Answer). ports_of n_ports (volts_of a)) (same i l)

  tally_same : (t : Tally) → counted_to t (mark_at answer next x) n ≡ counted_to t (mark_at answer next y) n
  unfolding counted_to
  tally_same t = rw (many (told clean), many (told cleared), many (told notfinite), many (told lost), many (told steered))
    where
      many : (k : ℕ) → many_to k (mark_at answer next x) n ≡ many_to k (mark_at answer next y) n
      many k = many_ext k (mark_at answer next x) (mark_at answer next y) n marks_same

  ticks_same : (t : Tally) → (after_ticks next n x).noise ≡ (after_ticks next n y).noise
      → undrawn (ticks_of n_ports answer next n x t) ≡ undrawn (ticks_of n_ports answer next n y t)
  unfolding ticks_of
  ticks_same t e =
      let samples = joined_below (frame_at n_ports answer next x) (frame_at n_ports answer next y) n frames_same in
      let marks = tab_ext (mark_at answer next x) (mark_at answer next y) n marks_same in
      λ i. block 0 (e i) (tally_same t i) (samples i) (marks i)

module _ (s : NoiseGenerator) (c : NoiseGeneratorControls) (wanted : ℕ) (d e : List ℕ) (n : ℕ)
    (h : SameTo (needed_by s n) d e) (p : draws_refusal_of (needed_by s n) d ≡ 0) (q : draws_refusal_of (needed_by s n) e ≡ 0) where
  -- from one state on, tick i takes the same draws of both
  next_same : (i : ℕ) → i < n → (drawing_at s c wanted d i).noise ≡ (drawing_at s c wanted e i).noise
      → noise_generator_tick_of (drawing_at s c wanted d i).noise c wanted (drawing_at s c wanted d i).draws
      ≡ noise_generator_tick_of (drawing_at s c wanted e i).noise c wanted (drawing_at s c wanted e i).draws
  next_same i l z =
      let a = ticks_at s c wanted d n p i (omega arith) in
      let b = ticks_at s c wanted e n q i (omega arith) in
      let y = (drawing_at s c wanted e i).noise in
      let fits : needed_by s i + needed_of y ≤ needed_by s n = let m = b.needs in let all = needed_less s (i + 1) n (omega arith) in omega arith in
      let left = same_left d e (needed_by s i) (needed_of y) (needed_by s n) fits h in
      ap₂ (λ (r : NoiseGenerator) (f : List ℕ). noise_generator_tick_of r c wanted f) z a.left
      ∙ tick_same y c wanted (drop (needed_by s i) d) (drop (needed_by s i) e) left
      ∙ ap (noise_generator_tick_of y c wanted) (sym b.left)

  noise_same : (i : ℕ) → i ≤ n → (drawing_at s c wanted d i).noise ≡ (drawing_at s c wanted e i).noise
  unfolding after_ticks
  noise_same zero l = refl
  noise_same (suc i) l = ap (λ (t : Ticked NoiseGenerator). t.state) (next_same i l (noise_same i (omega arith)))

  answers_same : (i : ℕ) → i < n → answer_at (noise_generator_told_of c wanted) (noise_generator_next_of c wanted) (drawing s d) i
      ≡ answer_at (noise_generator_told_of c wanted) (noise_generator_next_of c wanted) (drawing s e) i
  unfolding answer_at
  answers_same i l = ap (λ (t : Ticked NoiseGenerator). t.answer) (next_same i l (noise_same i (omega arith)))

block_same : (s : NoiseGenerator) (c : NoiseGeneratorControls) (wanted : ℕ) (d e : List ℕ) (t : Tally) (o : List Float) (m : List ℕ)
    → SameTo (needed_by s (length m)) d e → noise_generator_block_of s c wanted d t o m ≡ noise_generator_block_of s c wanted e t o m
unfolding noise_generator_block_of block_of
block_same s c wanted d e t o m h =
    ap (λ (k : ℕ). undrawn (block_of n_ports k (noise_generator_told_of c wanted) (noise_generator_next_of c wanted) (drawing s d) t o m)) number
    ∙ go (eqb n 0) refl
  where
    number : draws_refusal_of (needed_by s (length m)) d ≡ draws_refusal_of (needed_by s (length m)) e
    number = refusal_draws (needed_by s (length m)) d e h.0 h.1 h.2

    n : ℕ
    n = block_refusal_of (eqb (length o) (4 * length m)) (draws_refusal_of (needed_by s (length m)) e) t (length m)

    run : Drawing → Block Drawing
    run x = ticks_of n_ports (noise_generator_told_of c wanted) (noise_generator_next_of c wanted) (length m) x t

    go : (b : Bool) → eqb n 0 ≡ b → undrawn (cond b (run (drawing s d)) (block n (drawing s d) t o m))
        ≡ undrawn (cond b (run (drawing s e)) (block n (drawing s e) t o m))
    go true z =
        let q = (block_fits n_ports (draws_refusal_of (needed_by s (length m)) e) t o m n refl (eqb-true n 0 z)).1 in
        ticks_same (noise_generator_told_of c wanted) (noise_generator_next_of c wanted) (drawing s d) (drawing s e) (length m)
        (answers_same s c wanted d e (length m) h (number ∙ q) q) t (noise_same s c wanted d e (length m) h (number ∙ q) q (length m) (le_refl (length m)))
    go false z = refl

pub only_its_draws : OnlyItsDraws
only_its_draws = record { tick = tick_same; block = block_same }
