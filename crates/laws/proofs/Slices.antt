-- Every cell of a list stored, one after another; and a bool stored as a whole number.
use mathlib.Core.Bool.{Bool, true, false, cond}
use mathlib.Core.List.{List, [], ◌∷◌, ◌++◌, append-nil}
use mathlib.Core.Path.{◌≡◌, refl, sym, ap, ◌∙◌}
use Prim.Native.Nat.{ℕ, zero, suc, ◌+◌, ◌≤◌, ◌<◌}
use native.Mathlib.Nat.{add-zero, zero-add, add-suc, suc-add, le_of_suc-le-suc, not-suc-le-zero}
use native.Mathlib.Omega.{arith}
use lib.ListN.{length, length-set, length-drop, drop_of_length-le, set, take, drop, take-append-drop}
use lib.Seq.{sets, sets-eq, length-take-le}
use mir.Val.{bool_byte}

-- `sets l 0 vs` computes to the stores of vs at 0, 1, ..
pub stored : {A : Type 0} (l vs : List A) → length l ≡ length vs → sets l 0 vs ≡ vs
stored {A} l vs h =
    sets-eq vs l 0 (omega arith)
    ∙ ap (λ (r : List A). vs ++ r) (drop_of_length-le l {i = 0 + length vs} (omega arith))
    ∙ append-nil vs

-- a run of stores after another is one run
pub sets_append : {A : Type 0} (l : List A) (at : ℕ) (a b : List A) → sets (sets l at a) (at + length a) b ≡ sets l at (a ++ b)
sets_append l at [] b = ap (λ (n : ℕ). sets l n b) (add-zero at)
sets_append l at (x ∷ a) b =
    ap (λ (n : ℕ). sets (sets (set l at x) (suc at) a) n b) (step at (length a)) ∙ sets_append (set l at x) (suc at) a b
  where
    step : (n m : ℕ) → n + suc m ≡ suc n + m
    step n m = omega arith

-- stores inside a part in the middle of a list
set_within : {A : Type 0} (a q r : List A) (k : ℕ) (x : A) → k < length q → set (a ++ (q ++ r)) (length a + k) x ≡ a ++ (set q k x ++ r)
set_within [] (y ∷ q) r zero x h = refl
set_within {A} [] (y ∷ q) r (suc k) x h =
    ap (λ (n : ℕ). set (y ∷ (q ++ r)) n x) (zero-add (suc k))
    ∙ ap (λ (l : List A). y ∷ l) (ap (λ (n : ℕ). set (q ++ r) n x) (sym (zero-add k)) ∙ set_within [] q r k x (le_of_suc-le-suc h))
set_within [] [] r k x h = absurd (not-suc-le-zero h)
set_within {A} (y ∷ a) q r k x h =
    ap (λ (n : ℕ). set (y ∷ (a ++ (q ++ r))) n x) (suc-add (length a) k) ∙ ap (λ (l : List A). y ∷ l) (set_within a q r k x h)

pub sets_within : {A : Type 0} (a q r vs : List A) (k : ℕ) → k + length vs ≤ length q → sets (a ++ (q ++ r)) (length a + k) vs ≡ a ++ (sets q k vs ++ r)
sets_within a q r [] k h = refl
sets_within {A} a q r (x ∷ vs) k h =
    let size = length-set q k x in
    ap (λ (l : List A). sets l (suc (length a + k)) vs) (set_within a q r k x (omega arith))
    ∙ ap (λ (n : ℕ). sets (a ++ (set q k x ++ r)) n vs) (sym (add-suc (length a) k))
    ∙ sets_within a (set q k x) r vs (suc k) (omega arith)

-- what is stored in a part of a list is stored in the list
pub sets_part : {A : Type 0} (l p vs : List A) (at n : ℕ) → at + n ≤ length l → length vs ≤ n → p ≡ sets (take n (drop at l)) 0 vs
    → take at l ++ (p ++ drop n (drop at l)) ≡ sets l at vs
sets_part {A} l p vs at n room few e =
    let part = take n (drop at l) in
    let past = drop n (drop at l) in
    let rest = length-drop at l in
    let front : length (take at l) ≡ at = length-take-le at l (omega arith) in
    let size : length part ≡ n = length-take-le n (drop at l) (omega arith) in
    let whole : take at l ++ (part ++ past) ≡ l = ap (λ (r : List A). take at l ++ r) (take-append-drop n (drop at l)) ∙ take-append-drop at l in
    ap (λ (r : List A). take at l ++ (r ++ past)) e
    ∙ sym (sets_within (take at l) part past vs 0 (omega arith))
    ∙ ap (λ (r : List A). sets r (length (take at l) + 0) vs) whole
    ∙ ap (λ (k : ℕ). sets l k vs) (add-zero (length (take at l)) ∙ front)

pub byte : (b : Bool) → bool_byte b ≡ cond b 1 0
byte true = refl
byte false = refl
