-- What is taken of standard input.
use Prim.Native.Nat.{ℕ, ◌+◌, ◌≤◌, ◌<◌, min}
use mathlib.Core.Bool.{Bool, true, false}
use mathlib.Core.List.{List}
use mathlib.Core.Path.{◌≡◌, refl, sym, ap, subst, ◌∙◌}
use native.Mathlib.Omega.{arith}
use lib.Dec.{eqb}
use lib.ListN.{length, take}
use lib.Seq.{length-take-le}
use borrow.Author.Tests.{eqb-false, eq-eqb, ne_eqb}
use Rattle.std.proofs.Common.{Option, Some, None, Result, Ok, Err, ControlFlow, Continue, Break}
use Rattle.render.specs.Reads.{step_of, step_by, Within, Reaches, taken_of}
use Rattle.render.specs.Promises.{FailedRead}

-- ---- what a read's answer means, test by test
module _ {E : Type 0} (n room : ℕ) (got : Result ℕ E) where
  pub step_failed : (e : E) → got ≡ Err e → Break None ≡ step_of n got room
  unfolding step_of
  step_failed e g = rw g refl

  pub step_ended : (k more : ℕ) → got ≡ Ok k → more ≡ min k room → more ≡ 0 → Break (Some n) ≡ step_of n got room
  unfolding step_of
  step_ended k more g m z = rw (g, eq-eqb (min k room) 0 (sym m ∙ z)) refl

  pub step_on : (k more : ℕ) → got ≡ Ok k → more ≡ min k room → (more ≡ 0 → ⊥) → Continue (n + more) ≡ step_of n got room
  unfolding step_of
  step_on k more g m z = rw (g, ne_eqb (min k room) 0 (λ q. z (m ∙ q))) (ap (λ (j : ℕ). Continue (n + j)) m)

-- ---- it reaches no further than what was lent
reaches : {E : Type 0} (n room : ℕ) (got : Result ℕ E) (input : List ℕ) → n + room ≤ length input → Reaches (step_of n got room) n input
unfolding step_of Reaches Within
reaches n room (Ok k) input h = go (eqb (min k room) 0) refl
  where
    go : (b : Bool) → eqb (min k room) 0 ≡ b → Reaches (step_by b n (min k room)) n input
    go true e = (omega arith, sym (length-take-le n input (omega arith)))
    go false e = let z = eqb-false (min k room) 0 e in (omega (arith, z), omega arith)
reaches n room (Err e) input h = tt

module _ (s : ControlFlow (Option ℕ) ℕ) (n : ℕ) (input : List ℕ) where
  pub step_reaches : {E : Type 0} (room : ℕ) (got : Result ℕ E) → s ≡ step_of n got room → n + room ≤ length input → Reaches s n input
  step_reaches room got e h = subst (λ (s : ControlFlow (Option ℕ) ℕ). Reaches s n input) (sym e) (reaches n room got input h)

  pub on_reaches : (m : ℕ) → Reaches s n input → s ≡ Continue m → (n < m) × (m ≤ length input)
  unfolding Reaches
  on_reaches m h e = subst (λ (s : ControlFlow (Option ℕ) ℕ). Reaches s n input) e h

  pub stop_within : (taken : Option ℕ) → Reaches s n input → s ≡ Break taken → Within taken input
  unfolding Reaches
  stop_within taken h e = subst (λ (s : ControlFlow (Option ℕ) ℕ). Reaches s n input) e h

pub text_within : (n : ℕ) (input : List ℕ) → n ≤ length input → Within (Some n) input
unfolding Within
text_within n input h = (h, sym (length-take-le n input h))

pub within_text : (taken : Option ℕ) (n : ℕ) (input : List ℕ) → Within taken input → taken ≡ Some n → n ≡ length (take n input)
unfolding Within
within_text taken n input h e = (subst (λ (t : Option ℕ). Within t input) e h).1

-- ---- the promise
pub failed_read : FailedRead
unfolding step_of taken_of
failed_read E e n room input = (refl, refl)
