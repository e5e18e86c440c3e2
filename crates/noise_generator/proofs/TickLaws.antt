-- A tick that its draws don't refuse is one turn; and the state before each tick of a block, with the draws that are left to it.
use Rattle.std.proofs.Common.{◌≡◌, ℕ, zero, suc, ◌+◌, ◌<◌, ◌≤◌, Bool, true, false, cond, eqb, List, length, get_or, drop, sym, refl, ap, ◌∙◌, ap₂, le_refl}
use Rattle.std.proofs.Common.{add-one, arith, length-drop, get_or-drop, drop-drop, lt-ltb, eqb-true}
use native.Mathlib.Decide.{le_ind}
use lib.Ieee.{Float}
use borrow.Author.Tests.{eqb-false}
use Rattle.common.proofs.DrawLaws.{draws_enough, draws_fine, draws_taken, draw_below}
use Rattle.common.specs.Tests.{draws_ok, draws_refusal_of}
use Rattle.answer.specs.Block.{after_ticks, answer_at}
use Rattle.answer.specs.Mark.{all_numbers}
use Rattle.answer.specs.declared.Answer.TheVariants as answer
use Rattle.noise_generator.specs.NoiseGenerator.{needed_of, changed_by, needed_by, controls_of, correlation_of, turn_of, noise_generator_tick_of}
use Rattle.noise_generator.specs.NoiseGenerator.{Drawing, drawing, noise_generator_told_of, noise_generator_next_of}
use Rattle.noise_generator.specs.Pink.{next_index, changed_of, sampled_of}
use Rattle.noise_generator.specs.declared.NoiseGenerator.{NoiseGenerator}
use Rattle.noise_generator.specs.declared.NoiseGeneratorControls.{NoiseGeneratorControls}
use Rattle.answer.specs.declared.Ticked.{Ticked}

-- no control given is NaN
abbrev pub numbers_of : NoiseGeneratorControls → Bool
numbers_of c = all_numbers (controls_of c)

-- ---- a tick
abbrev pub refused : ℕ → NoiseGenerator → Ticked NoiseGenerator
refused n s = record { answer = answer.Refused n; state = s }

module _ (s : NoiseGenerator) (c : NoiseGeneratorControls) (wanted : ℕ) (draws : List ℕ) where
  pub tick_taken : draws_refusal_of (needed_of s) draws ≡ 0
      → noise_generator_tick_of s c wanted draws ≡ turn_of (correlation_of s c) (numbers_of c) s wanted draws
  unfolding noise_generator_tick_of
  tick_taken h = simp h

  -- its draws refuse it, or else it is that turn
  pub tick_by : (P : Ticked NoiseGenerator → Type 0)
      → (draws_refusal_of (needed_of s) draws ≡ 0 → P (turn_of (correlation_of s c) (numbers_of c) s wanted draws))
      → ((draws_refusal_of (needed_of s) draws ≡ 0 → ⊥) → P (refused (draws_refusal_of (needed_of s) draws) s))
      → P (noise_generator_tick_of s c wanted draws)
  unfolding noise_generator_tick_of
  tick_by P f g = go (eqb (draws_refusal_of (needed_of s) draws) 0) refl
    where
      go : (b : Bool) → eqb (draws_refusal_of (needed_of s) draws) 0 ≡ b
          → P (cond b (turn_of (correlation_of s c) (numbers_of c) s wanted draws) (refused (draws_refusal_of (needed_of s) draws) s))
      go true e = f (eqb-true (draws_refusal_of (needed_of s) draws) 0 e)
      go false e = g (eqb-false (draws_refusal_of (needed_of s) draws) 0 e)

module _ (k : Float) (numbers : Bool) (s : NoiseGenerator) (wanted : ℕ) (draws : List ℕ) where
  turn_index : (turn_of k numbers s wanted draws).state.pink.index ≡ next_index s.pink.index
  unfolding turn_of sampled_of
  turn_index = refl

  turn_index2 : (turn_of k numbers s wanted draws).state.pink2.index ≡ next_index s.pink2.index
  unfolding turn_of sampled_of
  turn_index2 = refl

  turn_correlation : (turn_of k numbers s wanted draws).state.correlation ≡ s.correlation
  unfolding turn_of
  turn_correlation = refl

-- ---- the draws that are left
ok_left : (d : List ℕ) (a k n : ℕ) → a + k ≤ n → draws_ok d n ≡ true → draws_ok (drop a d) k ≡ true
unfolding draws_ok
ok_left d a zero n h e = refl
ok_left d a (suc k) n h e =
    let below : get_or (drop a d) k 0 < 9007199254740992 = rw get_or-drop (draw_below d n (a + k) e (omega arith)) in
    simp (ok_left d a k n (omega arith) e, lt-ltb (get_or (drop a d) k 0) 9007199254740992 below)

pub draws_left : (d : List ℕ) (a k n : ℕ) → a + k ≤ n → draws_refusal_of n d ≡ 0 → draws_refusal_of k (drop a d) ≡ 0
draws_left d a k n h e =
    let size = length-drop a d in
    let all = draws_enough n d e in
    draws_taken k (drop a d) (omega arith) (ok_left d a k n h (draws_fine n d e))

-- ---- the draws of i ticks and of the next
needed_next : (s x : NoiseGenerator) (i : ℕ) → x.pink.index ≡ after_ticks next_index i s.pink.index
    → x.pink2.index ≡ after_ticks next_index i s.pink2.index → needed_by s i + needed_of x ≡ needed_by s (suc i)
unfolding needed_by needed_of changed_by after_ticks
needed_next s x i p q =
    let a = ap (λ (k : ℕ). changed_of (next_index k)) p in
    let b = ap (λ (k : ℕ). changed_of (next_index k)) q in
    omega arith

changed_less : (index i n : ℕ) → i ≤ n → changed_by index i ≤ changed_by index n
unfolding changed_by
changed_less index i n h = le_ind (λ (m : ℕ). changed_by index i ≤ changed_by index m) (le_refl (changed_by index i)) (λ m k e. omega arith) n h

pub needed_less : (s : NoiseGenerator) (i n : ℕ) → i ≤ n → needed_by s i ≤ needed_by s n
unfolding needed_by
needed_less s i n h = let a = changed_less s.pink.index i n h in let b = changed_less s.pink2.index i n h in omega arith

-- ---- a block's state and draws before tick i
abbrev pub drawing_at : NoiseGenerator → NoiseGeneratorControls → ℕ → List ℕ → ℕ → Drawing
drawing_at s c wanted draws i = after_ticks (noise_generator_next_of c wanted) i (drawing s draws)

-- where the draws are enough for n ticks
pub record At (s : NoiseGenerator) (c : NoiseGeneratorControls) (wanted : ℕ) (draws : List ℕ) (n i : ℕ) (x : Drawing) : Type 0 where
  pub index : x.noise.pink.index ≡ after_ticks next_index i s.pink.index
  pub index2 : x.noise.pink2.index ≡ after_ticks next_index i s.pink2.index
  pub correlation : x.noise.correlation ≡ s.correlation
  pub left : x.draws ≡ drop (needed_by s i) draws
  -- so far they are there, and the next tick goes on from here
  pub fits : needed_by s i ≤ length draws
  pub needs : needed_by s i + needed_of x.noise ≡ needed_by s (i + 1)
  -- tick i is taken, with the correlation of the first
  pub taken : i < n → draws_refusal_of (needed_of x.noise) x.draws ≡ 0
  pub turns : i < n → noise_generator_tick_of x.noise c wanted x.draws ≡ turn_of (correlation_of s c) (numbers_of c) x.noise wanted x.draws

module _ (s : NoiseGenerator) (c : NoiseGeneratorControls) (wanted : ℕ) (draws : List ℕ) (n : ℕ) (h : draws_refusal_of (needed_by s n) draws ≡ 0) where
  -- the first four facts give the others
  at_of : (i : ℕ) → i ≤ n → (x : Drawing) → x.noise.pink.index ≡ after_ticks next_index i s.pink.index
      → x.noise.pink2.index ≡ after_ticks next_index i s.pink2.index → x.noise.correlation ≡ s.correlation
      → x.draws ≡ drop (needed_by s i) draws → At s c wanted draws n i x
  at_of i l x p q k e =
      record {
        index = p;
        index2 = q;
        correlation = k;
        left = e;
        fits = let a = needed_less s i n l in let b = draws_enough (needed_by s n) draws h in omega arith;
        needs = rw add-one next;
        taken = taken;
        turns = λ m. tick_taken x.noise c wanted x.draws (taken m) ∙ ap (λ (z : Float). turn_of z (numbers_of c) x.noise wanted x.draws) same;
      }
    where
      next : needed_by s i + needed_of x.noise ≡ needed_by s (suc i)
      next = needed_next s x.noise i p q

      taken : i < n → draws_refusal_of (needed_of x.noise) x.draws ≡ 0
      taken m = rw e (draws_left draws (needed_by s i) (needed_of x.noise) (needed_by s n) (let a = needed_less s (suc i) n m in let b = next in omega arith) h)

      same : correlation_of x.noise c ≡ correlation_of s c
      same = unfold correlation_of in rw k

  at_next : (i : ℕ) → i < n → (x : Drawing) → At s c wanted draws n i x → At s c wanted draws n (suc i) (noise_generator_next_of c wanted x)
  unfolding after_ticks
  at_next i l x a = at_of (suc i) l (noise_generator_next_of c wanted x) index index2 correlation left
    where
      turn : noise_generator_tick_of x.noise c wanted x.draws ≡ turn_of (correlation_of s c) (numbers_of c) x.noise wanted x.draws
      turn = a.turns l

      index : (noise_generator_next_of c wanted x).noise.pink.index ≡ next_index (after_ticks next_index i s.pink.index)
      index =
          ap (λ (t : Ticked NoiseGenerator). t.state.pink.index) turn ∙ turn_index _ _ x.noise wanted x.draws
          ∙ ap next_index a.index

      index2 : (noise_generator_next_of c wanted x).noise.pink2.index ≡ next_index (after_ticks next_index i s.pink2.index)
      index2 =
          ap (λ (t : Ticked NoiseGenerator). t.state.pink2.index) turn ∙ turn_index2 _ _ x.noise wanted x.draws
          ∙ ap next_index a.index2

      correlation : (noise_generator_next_of c wanted x).noise.correlation ≡ s.correlation
      correlation =
          ap (λ (t : Ticked NoiseGenerator). t.state.correlation) turn ∙ turn_correlation _ _ x.noise wanted x.draws
          ∙ a.correlation

      left : drop (needed_of x.noise) x.draws ≡ drop (needed_by s (suc i)) draws
      left =
          ap (drop (needed_of x.noise)) a.left ∙ drop-drop (needed_of x.noise) (needed_by s i) draws
          ∙ ap (λ (k : ℕ). drop k draws) (needed_next s x.noise i a.index a.index2)

  pub ticks_at : (i : ℕ) → i ≤ n → At s c wanted draws n i (drawing_at s c wanted draws i)
  unfolding after_ticks needed_by changed_by
  ticks_at zero l = at_of zero l (drawing s draws) refl refl refl refl
  ticks_at (suc i) l = at_next i l (drawing_at s c wanted draws i) (ticks_at i (omega arith))

  -- a turn of the block's loop, whose state is x and whose draws start at `at`
  module _ (i : ℕ) (l : i < n) (x : NoiseGenerator) (at : ℕ) (t : Ticked NoiseGenerator)
      (z : x ≡ (drawing_at s c wanted draws i).noise) (f : at ≡ needed_by s i) (e : t ≡ turn_of (correlation_of s c) (numbers_of c) x wanted (drop at draws))
    where
      ticked : t ≡ noise_generator_tick_of (drawing_at s c wanted draws i).noise c wanted (drawing_at s c wanted draws i).draws
      ticked =
          let a : At s c wanted draws n i (drawing_at s c wanted draws i) = ticks_at i (omega arith) in
          let left : drop at draws ≡ (drawing_at s c wanted draws i).draws = ap (λ (k : ℕ). drop k draws) f ∙ sym a.left in
          e ∙ ap₂ (λ (y : NoiseGenerator) (d : List ℕ). turn_of (correlation_of s c) (numbers_of c) y wanted d) z left ∙ sym (a.turns l)

      pub heard : t.answer ≡ answer_at (noise_generator_told_of c wanted) (noise_generator_next_of c wanted) (drawing s draws) i
      unfolding answer_at
      heard = ap (λ (u : Ticked NoiseGenerator). u.answer) ticked

      pub moved : t.state ≡ (drawing_at s c wanted draws (i + 1)).noise
      unfolding after_ticks
      moved = rw add-one (ap (λ (u : Ticked NoiseGenerator). u.state) ticked)

      pub advanced : at + needed_of x ≡ needed_by s (i + 1)
      advanced = ap₂ (λ (k : ℕ) (y : NoiseGenerator). k + needed_of y) f z ∙ (ticks_at i (omega arith)).needs

      pub reaches : at + needed_of x ≤ length draws
      reaches = let a = (ticks_at (i + 1) (omega arith)).fits in let b = advanced in omega arith
