-- An array made of a function of the index holds its answers.
use Rattle.std.proofs.Common.{◌≡◌, ℕ, zero, suc, ◌+◌, ◌≤◌, ◌<◌, List, get_or, refl, ◌∙◌, subst, arith}
use mathlib.Core.Logic.{⊎_elim}
use native.Mathlib.Nat.{eq-or-lt_of_le}
use denote.Param.Members.{Mut, Called}
use Rattle.std.specs.Array.{IsFromFnResult, IsFromFnResultFrom}
use Rattle.laws.specs.Lists.{tab}
use Rattle.laws.proofs.Over.{by_cells}

module _ {F B : Type 0} (g : Mut F (ℕ × Unit {0}) B) (h : ℕ → B) (f : F)
    (acts : (i : ℕ) (y : B) (q : F) → Called g f (i, tt) y q → (q ≡ f) × (y ≡ h i)) (ys : List B) (d : B) where
  cells : (n i : ℕ) (p : F) → p ≡ f → IsFromFnResultFrom g p ys i n → (j : ℕ) → i ≤ j → j < i + n → get_or ys j d ≡ h j
  cells zero i p e r j a b = absurd (omega arith)
  cells (suc n) i p e r j a b =
      let k = acts i r.1 r.0 (subst (λ (z : F). Called g z (i, tt) r.1 r.0) e r.3) in
      ⊎_elim (λ (s : i ≡ j). subst (λ (m : ℕ). get_or ys m d ≡ h m) s (r.2.1 d ∙ k.1))
      (λ (l : i < j). cells n (i + 1) r.0 k.0 r.4 j (omega arith) (omega arith)) (eq-or-lt_of_le a)

  pub from_fn_tab : (n : ℕ) → IsFromFnResult g f ys n → ys ≡ tab h n
  from_fn_tab n r = by_cells d h n ys r.long (λ i l. cells n 0 f refl r.each i (omega arith) (omega arith))
