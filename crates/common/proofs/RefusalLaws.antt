-- A reason is told by its number, and a call that is let pass by 0.
use mathlib.Core.Path.{◌≡◌, refl, sym, ap, ◌∙◌}
use mathlib.Core.Bool.{false, cond, true≢false}
use Prim.Native.Nat.{ℕ}
use lib.Dec.{eqb}
use Rattle.std.specs.Prelude.{Result, Ok, Err}
use Rattle.laws.specs.Machine.{Settles}
use Rattle.common.specs.Refusal.{number_of, refused_number}
use Rattle.common.specs.declared.Refusal.{Refusal}
use Rattle.common.specs.declared.Refusal.TheVariants as refusal

-- the reason that a number stands for, and a call that is let pass for 0
unfoldable pub reason : ℕ → Refusal
reason n =
    cond (eqb n 1) refusal.Rate
    (cond (eqb n 2) refusal.State
    (cond (eqb n 3) refusal.Line
    (cond (eqb n 4) refusal.Bank
    (cond (eqb n 5) refusal.FewDraws
    (cond (eqb n 6) refusal.Draw
    (cond (eqb n 7) refusal.Tally
    (cond (eqb n 50) refusal.Floats
    (cond (eqb n 51) refusal.Wholes
    (cond (eqb n 52) refusal.Samples refusal.Counts)))))))))

unfoldable pub read : ℕ → Result (Unit {0}) Refusal
read n = cond (eqb n 0) (Ok tt) (Err (reason n))

pub reason_back : (e : Refusal) → reason (number_of e) ≡ e
unfolding number_of reason
reason_back refusal.Rate = refl
reason_back refusal.State = refl
reason_back refusal.Line = refl
reason_back refusal.Bank = refl
reason_back refusal.FewDraws = refl
reason_back refusal.Draw = refl
reason_back refusal.Tally = refl
reason_back refusal.Floats = refl
reason_back refusal.Wholes = refl
reason_back refusal.Samples = refl
reason_back refusal.Counts = refl

-- no reason has the number 0
pub refuses : (e : Refusal) → eqb (number_of e) 0 ≡ false
unfolding number_of
refuses refusal.Rate = refl
refuses refusal.State = refl
refuses refusal.Line = refl
refuses refusal.Bank = refl
refuses refusal.FewDraws = refl
refuses refusal.Draw = refl
refuses refusal.Tally = refl
refuses refusal.Floats = refl
refuses refusal.Wholes = refl
refuses refusal.Samples = refl
refuses refusal.Counts = refl

-- a choice by n, of a call that is let pass, and of one that is refused for e, where k is told
pub passed : {A : Type 0} (n : ℕ) → 0 ≡ n → (a b : A) → a ≡ cond (eqb n 0) a b
passed n h a b = simp (sym h)

pub stopped : {A : Type 0} (e : Refusal) (n k : ℕ) → number_of e ≡ n → k ≡ number_of e → (a : A) (b : ℕ → A) → b k ≡ cond (eqb n 0) a (b n)
stopped e n k h g a b = simp (g, sym h, refuses e)

pub nonzero : (e : Refusal) → number_of e ≡ 0 → ⊥
nonzero e h = true≢false (sym (ap (λ k. eqb k 0) h) ∙ refuses e)

pub read_back : (r : Result (Unit {0}) Refusal) → read (refused_number r) ≡ r
unfolding refused_number read
read_back (Ok u) = refl
read_back (Err e) = simp (refuses e, reason_back e)

-- so its number settles what a call says of itself
pub refusal_settled : (n : ℕ) → Settles (λ (r : Result (Unit {0}) Refusal). refused_number r ≡ n)
refusal_settled n a b p q = sym (read_back a) ∙ ap read (p ∙ sym q) ∙ read_back b
