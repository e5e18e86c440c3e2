-- What the tick's tests say.
use mathlib.Core.Bool.{Bool, true, false, cond, false≢true}
use mathlib.Core.Path.{◌≡◌, refl, sym, ap, ◌∙◌}
use Prim.Native.Nat.{ℕ, ◌+◌, ◌≤◌}
use native.Mathlib.Omega.{arith}
use lib.Dec.{eqb}
use lib.Ieee.{Float}
use Rattle.std.specs.Option.{IsSome, ok_or}
use Rattle.std.specs.Prelude.{◌↔◌, Option, Some, None, Result, Ok, Err}
use Rattle.std.specs.Result.{result_and}
use borrow.Author.Tests.{eqb-true, eqb-false, eq-eqb, ne_eqb}
use Rattle.common.proofs.PhaseLaws.{accepted_gate}
use Rattle.common.specs.Refusal.{number_of, refused_number}
use Rattle.common.specs.declared.Refusal.{Refusal}
use Rattle.common.specs.declared.Refusal.TheVariants as refusal
use Rattle.common.specs.Tests.{rate_ok, phase_ok, threshold_ok}
use Rattle.wavetable.specs.Shortcuts.{PairFits, pair_of}
use Rattle.wavetable.specs.Consts.{table_size, bank_size}
use Rattle.wavetable.specs.Reads.{start_of, table_index_of}
use Rattle.wavetable.specs.Wavetable.{wavetable_refusal_of, wavetable_tick_refusal_of}
use Rattle.wavetable.specs.declared.Pair.{Pair}
use Rattle.wavetable.specs.declared.Wavetable.{Wavetable}

-- no number refuses the tick: the state is accepted, and its bank has the size
passed : (n size : ℕ) → cond (eqb n 0) (cond (eqb size bank_size) 0 4) n ≡ 0 → (n ≡ 0) × (size ≡ bank_size)
passed n size h = go (eqb n 0) (eqb size bank_size) refl refl h
  where
    go : (a b : Bool) → eqb n 0 ≡ a → eqb size bank_size ≡ b → cond a (cond b 0 4) n ≡ 0 → (n ≡ 0) × (size ≡ bank_size)
    go true true p q h = (eqb-true n 0 p, eqb-true size bank_size q)
    go true false p q h = absurd (let z : ◌≡◌ {A = ℕ} 4 0 = h in omega arith)
    go false b p q h = absurd (eqb-false n 0 p h)

pub bank_sized : (s : Wavetable) (size : ℕ) → wavetable_tick_refusal_of s size ≡ 0 → size ≡ bank_size
unfolding wavetable_tick_refusal_of
bank_sized s size h = (passed (wavetable_refusal_of s) size h).1

-- a bank of the right size is lent, and another refused by 4
pub lent_number : {T : Type 0} (s : Wavetable) (size : ℕ) (a : Option T) → IsSome a ↔ (size ≡ bank_size) → 0 ≡ wavetable_refusal_of s
    → refused_number (ok_or a refusal.Bank) ≡ wavetable_tick_refusal_of s size
unfolding wavetable_tick_refusal_of refused_number number_of
lent_number s size None v h = simp (sym h, ne_eqb _ _ (λ e. false≢true (v.1 e)))
lent_number s size (Some x) v h = simp (sym h, eq-eqb _ _ (v.0 refl))

-- what refuses it, told without it
pub alone : {T : Type 0} (n : ℕ) (r : Result T Refusal) (u : Unit {0}) (b : Result (Unit {0}) Refusal) → refused_number r ≡ n → b ≡ result_and r (Ok u)
    → refused_number b ≡ n
unfolding refused_number
alone n r u b h e = ap refused_number e ∙ go r ∙ h
  where
    go : {T : Type 0} (r : Result T Refusal) → refused_number (result_and r (Ok u)) ≡ refused_number r
    go (Ok x) = refl
    go (Err e) = refl

-- and its rate, its phase and its threshold are good
abbrev Fine : Wavetable → Type 0
Fine s = (rate_ok s.sample_rate ≡ true) × (phase_ok s.phase ≡ true) × (threshold_ok s.threshold ≡ true)

pub unrefused : (s : Wavetable) → wavetable_refusal_of s ≡ 0 → Fine s
unfolding wavetable_refusal_of
unrefused s h = accepted_gate (rate_ok s.sample_rate) (phase_ok s.phase) (threshold_ok s.threshold) h

pub accepts : (s : Wavetable) (size : ℕ) → wavetable_tick_refusal_of s size ≡ 0 → Fine s
unfolding wavetable_tick_refusal_of
accepts s size h = unrefused s (passed (wavetable_refusal_of s) size h).0

-- there is a table above the lower one
pub index_few : (index : ℕ) (pos : Float) → index ≡ table_index_of pos → index ≤ 6
unfolding table_index_of
index_few index pos e = omega arith

-- a level lies in the bank
pub start_few : (first table level : ℕ) → first ≡ start_of table level → first + table_size ≤ bank_size
unfolding start_of
start_few first table level e = omega arith

pub pair_fits : (p : Pair) (table morph inc : Float) → p ≡ pair_of table morph inc → PairFits p
unfolding pair_of
pair_fits p table morph inc e = rw e (start_few _ _ _ refl, start_few _ _ _ refl)
