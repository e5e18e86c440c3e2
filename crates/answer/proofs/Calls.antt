-- What a call without samples says settles it, and follows from what refuses it.
use mathlib.Core.Bool.{Bool, true, false, cond}
use mathlib.Core.Path.{◌≡◌, refl, sym, ap, ◌∙◌}
use Prim.Native.Nat.{ℕ}
use lib.Dec.{eqb}
use borrow.Author.Tests.{eqb-true}
use Rattle.std.specs.Prelude.{Result, Ok, Err}
use Rattle.laws.specs.Machine.{Settles}
use Rattle.common.proofs.RefusalLaws.{read, read_back, reason, reason_back, refuses}
use Rattle.common.specs.Refusal.{refused_number}
use Rattle.common.specs.declared.Refusal.{Refusal}
use Rattle.answer.specs.Calls.{Outcome, outcome, made_unless, making, changing}
use Rattle.answer.specs.declared.Made.{Made}

-- ---- by cases
pub made_cases : {S : Type 0} (P : Outcome S → Type 0) (n : ℕ) (old new : S) → (n ≡ 0 → P (outcome 0 new)) → P (outcome n old) → P (made_unless n old new)
unfolding made_unless
made_cases P n old new d r = go (eqb n 0) refl
  where
    go : (b : Bool) → eqb n 0 ≡ b → P (cond b (outcome 0 new) (outcome n old))
    go true e = d (eqb-true n 0 e)
    go false e = r

pub made_number : {S : Type 0} (n : ℕ) (old new : S) → (made_unless n old new).refused ≡ n
made_number n old new = made_cases (λ m. m.refused ≡ n) n old new sym refl

-- ---- a change: r says what refuses it, by n
pub change_done : {S T : Type 0} (r : Result T Refusal) (t : T) (n : ℕ) (old new : S) → refused_number r ≡ n → r ≡ Ok t
    → changing old (Ok new) ≡ made_unless n old new
unfolding refused_number changing made_unless
change_done r t n old new h w = simp (sym h, w)

pub change_refused : {S T : Type 0} (r : Result T Refusal) (e : Refusal) (n : ℕ) (old new : S) → refused_number r ≡ n → r ≡ Err e
    → changing old (Err e) ≡ made_unless n old new
unfolding refused_number changing made_unless
change_refused r e n old new h w = simp (sym h, w, refuses e)

-- a state whose making n refuses is the one that is handed out
pub making_made : {S : Type 0} (n : ℕ) (s : S) → outcome n s ≡ made_unless n s s
making_made n s = sym (made_cases (λ m. m ≡ outcome n s) n s s (λ e. ap (λ k. outcome k s) (sym e)) refl)

-- so what making hands out is the state that was made, whether it is refused or not
pub made_state : {S : Type 0} (n : ℕ) (s : S) → (made_unless n s s).state ≡ s
made_state n s = made_cases (λ m. m.state ≡ s) n s s (λ e. refl) refl

-- ---- each settles its answer
change_read : {S : Type 0} → Outcome S → Result S Refusal
change_read x = cond (eqb x.refused 0) (Ok x.state) (Err (reason x.refused))

change_back : {S : Type 0} (s : S) (r : Result S Refusal) → change_read (changing s r) ≡ r
unfolding changing change_read
change_back s (Ok t) = refl
change_back s (Err e) = simp (refuses e, reason_back e)

pub changing_settled : {S : Type 0} (s : S) (x : Outcome S) → Settles (λ (r : Result S Refusal). changing s r ≡ x)
changing_settled s x a b p q = sym (change_back s a) ∙ ap change_read (p ∙ sym q) ∙ change_back s b

made_read : {S : Type 0} → Outcome S → Made S
made_read x = record { outcome = read x.refused; state = x.state }

made_back : {S : Type 0} (m : Made S) → made_read (making m) ≡ m
unfolding made_read
made_back m = ap (λ o. record { outcome = o; state = m.state }) (read_back m.outcome)

pub making_settled : {S : Type 0} (x : Outcome S) → Settles (λ (m : Made S). making m ≡ x)
making_settled x a b p q = sym (made_back a) ∙ ap made_read (p ∙ sym q) ∙ made_back b
