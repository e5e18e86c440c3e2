-- What an accepted tick leaves: the rows that changed have their draws, and the others are as they were.
use Rattle.std.proofs.Common.{◌≡◌, ℕ, zero, suc, ◌+◌, ◌<◌, Bool, cond, ltb, List, length, get_or, set, sym, refl, ap, ◌∙◌, subst, arith, length-set}
use Rattle.std.proofs.Common.{get_or-set_other, get_or-set_same, le-ltb, lt-ltb}
use native.Mathlib.Decide.{ℕ_discrete}
use lib.Ieee.{Float, nan}
use Rattle.laws.proofs.Tests.{ltb_iff}
use Rattle.numeric.specs.Draw.{bipolar_of}
use Rattle.noise_generator.proofs.Refusals.{accepted_taken}
use Rattle.noise_generator.proofs.RowLaws.{next_below, row_changes}
use Rattle.noise_generator.proofs.TickLaws.{numbers_of, tick_taken}
use Rattle.noise_generator.specs.NoiseGenerator.{correlation_of, turn_of}
use Rattle.noise_generator.specs.Pink.{next_index, changed_of, Rows, rowed, row_of, rows_of, sampled_of}
use Rattle.noise_generator.specs.Promises.{Moved, Leaves, TickLeaves}
use Rattle.noise_generator.specs.declared.NoiseGenerator.{NoiseGenerator}
use Rattle.answer.specs.declared.Ticked.{Ticked}
use Rattle.noise_generator.specs.declared.PinkNoiseState.{PinkNoiseState}

-- ---- the rows after n turns of the loop
module _ (draws : List ℕ) (at : ℕ) (r : Rows) where
  rows_size : (n : ℕ) → length (rows_of draws at r n).rows ≡ length r.rows
  unfolding rows_of row_of
  rows_size zero = refl
  rows_size (suc n) = length-set (rows_of draws at r n).rows n _ ∙ rows_size n

  -- row k after n turns: its draw where its turn was one of them
  abbrev row_after : ℕ → Bool → Float
  row_after k b = cond b (bipolar_of (get_or draws (at + k) 0)) (get_or r.rows k nan)

  -- turn n sets row n and leaves the others
  row_turn : (l : List Float) (n k : ℕ) → k < length l → get_or l k nan ≡ row_after k (ltb k n)
      → get_or (set l n (bipolar_of (get_or draws (at + n) 0))) k nan ≡ row_after k (ltb k (suc n))
  row_turn l n k h before = go (ℕ_discrete k n)
    where
      go : Dec (k ≡ n) → get_or (set l n (bipolar_of (get_or draws (at + n) 0))) k nan ≡ row_after k (ltb k (suc n))
      go (yes e) =
          ap (λ (m : ℕ). get_or (set l m (bipolar_of (get_or draws (at + m) 0))) k nan) (sym e) ∙ get_or-set_same l k _ nan h
          ∙ ap (row_after k) (sym (lt-ltb k (suc n) (omega arith)))
      go (no e) = get_or-set_other l n k _ nan e ∙ before ∙ ap (row_after k) (ltb_iff k n k (suc n) (λ q. omega arith) (λ q. omega arith))

  rows_row : (n k : ℕ) → k < length r.rows → get_or (rows_of draws at r n).rows k nan ≡ row_after k (ltb k n)
  unfolding rows_of row_of
  rows_row zero k h = ap (row_after k) (sym (le-ltb k 0 (omega arith)))
  rows_row (suc n) k h = row_turn (rows_of draws at r n).rows n k (subst (λ (m : ℕ). k < m) (sym (rows_size n)) h) (rows_row n k h)

-- ---- a pink, a turn and a tick
pub sampled_moves : (draws : List ℕ) (at : ℕ) (p : PinkNoiseState) → length p.rows ≡ 16 → Moved draws at p (sampled_of draws at p)
unfolding sampled_of
sampled_moves draws at p e =
    let r : Rows = rowed p.rows p.running_sum in
    let n : ℕ = changed_of (next_index p.index) in
    record {
      index = refl;
      size = rows_size draws at r n ∙ e;
      row = λ k h. rows_row draws at r n k (subst (λ (m : ℕ). k < m) (sym e) h)
          ∙ ap (row_after draws at r k) (row_changes (next_index p.index) k (next_below p.index) h);
    }

turn_leaves : (k : Float) (numbers : Bool) (s : NoiseGenerator) (wanted : ℕ) (draws : List ℕ) → length s.pink.rows ≡ 16
    → length s.pink2.rows ≡ 16
    → Leaves s (turn_of k numbers s wanted draws).state draws
unfolding turn_of
turn_leaves k numbers s wanted draws e f =
    record {
      pink = sampled_moves draws 2 s.pink e;
      pink2 = sampled_moves draws (2 + changed_of (next_index s.pink.index)) s.pink2 f;
      correlation = refl;
      last_white = refl;
    }

pub tick_leaves : TickLeaves
tick_leaves s c wanted draws e f a =
    subst (λ (t : Ticked NoiseGenerator). Leaves s t.state draws) (sym (tick_taken s c wanted draws (accepted_taken s c wanted draws a)))
    (turn_leaves (correlation_of s c) (numbers_of c) s wanted draws e f)
