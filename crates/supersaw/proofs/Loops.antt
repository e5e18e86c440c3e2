-- A test of each number below n is the test of each cell of a list of n.
use mathlib.Core.Bool.{Bool, ◌&&◌}
use mathlib.Core.List.{List}
use mathlib.Core.Path.{◌≡◌, refl, sym, ap, ◌∙◌}
use Prim.Native.Nat.{ℕ, zero, suc, ◌≤◌}
use native.Mathlib.Numerals.{add-one}
use native.Mathlib.Omega.{arith}
use lib.ListN.{length, get_or, take}
use Rattle.std.specs.List.{list_all}
use Rattle.std.proofs.lemmas.List.{take_all}
use Rattle.std.proofs.lemmas.List.Folds.{list_all_more}
use Rattle.laws.specs.Lists.{all}

all_taken : {A : Type 0} (d : A) (p : A → Bool) (l : List A) (n : ℕ) → n ≤ length l → list_all p (take n l) ≡ all (λ (i : ℕ). p (get_or l i d)) n
unfolding all
all_taken d p l zero h = refl
all_taken d p l (suc n) h = rw (← add-one) (list_all_more p l n d (omega arith)) ∙ ap (λ (b : Bool). b && p (get_or l n d)) (all_taken d p l n (omega arith))

pub all_list : {A : Type 0} (d : A) (p : A → Bool) (l : List A) (n : ℕ) → length l ≡ n → list_all p l ≡ all (λ (i : ℕ). p (get_or l i d)) n
all_list {A} d p l n e = ap (λ (t : List A). list_all p t) (sym (take_all n l (omega arith))) ∙ all_taken d p l n (omega arith)
