-- A loop that tests each number below n, and stops at the first that fails.
use mathlib.Core.Bool.{Bool, true, false, not, true≢false, false≢true}
use mathlib.Core.Logic.{⊎_elim}
use mathlib.Core.Path.{◌≡◌, refl, sym, ap, ◌∙◌}
use Prim.Native.Nat.{ℕ, zero, suc, ◌+◌, ◌≤◌, ◌<◌}
use native.Mathlib.Nat.{le_antisymm, le_of_suc-le-suc, not-suc-le-zero, eq-or-lt_of_le}
use native.Mathlib.Numerals.{add-one}
use native.Mathlib.Omega.{arith}
use Rattle.laws.specs.Lists.{all}
use Rattle.laws.proofs.Tests.{both_true}

pub all_at : (f : ℕ → Bool) (n : ℕ) → all f n ≡ true → (i : ℕ) → i < n → f i ≡ true
unfolding all
all_at f zero h i l = absurd (not-suc-le-zero l)
all_at f (suc n) h i l =
    let b = both_true (all f n) (f n) h in
    ⊎_elim (λ (e : i ≡ n). ap f e ∙ b.1) (λ (k : i < n). all_at f n b.0 i k) (eq-or-lt_of_le (le_of_suc-le-suc l))

pub all_of : (f : ℕ → Bool) (n : ℕ) → ((i : ℕ) → i < n → f i ≡ true) → all f n ≡ true
unfolding all
all_of f zero h = refl
all_of f (suc n) h = simp (all_of f n (λ i l. h i (omega arith)), h n (omega arith))

-- the test of i passed
pub all_more : (f : ℕ → Bool) (i : ℕ) (b : Bool) → all f i ≡ true → b ≡ f i → not b ≡ false → all f (i + 1) ≡ true
unfolding all
all_more f i true h k n = rw add-one (simp (h, sym k))
all_more f i false h k n = absurd (true≢false n)

-- the test of i failed
pub all_stops : (f : ℕ → Bool) (n i : ℕ) (b : Bool) → i < n → b ≡ f i → not b ≡ true → false ≡ all f n
all_stops f n i true l k h = absurd (false≢true h)
all_stops f n i false l k h = go (all f n) refl
  where
    go : (b : Bool) → all f n ≡ b → false ≡ b
    go true e = absurd (true≢false (sym (all_at f n e i l) ∙ sym k))
    go false e = refl

pub all_done : (f : ℕ → Bool) (n i : ℕ) → i ≤ n → n ≤ i → all f i ≡ true → true ≡ all f n
all_done f n i h k e = sym e ∙ ap (all f) (le_antisymm h k)
