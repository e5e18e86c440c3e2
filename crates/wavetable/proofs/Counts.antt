-- How many harmonics and terms a level has: at most 64, and no fewer at a richer level.
use mathlib.Core.Bool.{Bool, true, false, cond}
use mathlib.Core.Logic.{⊎_elim}
use mathlib.Core.Path.{◌≡◌, subst}
use Prim.Native.Nat.{ℕ, zero, suc, ◌+◌, ◌/◌, ◌^◌, ◌<◌, ◌≤◌}
use native.Mathlib.Nat.{le_trans, mul-le-mul_left, le_refl, eq-or-lt_of_le, le_of_suc-le-suc}
use native.Mathlib.Omega.{arith}
use lib.Ieee.Nearest.{div_mono}
use lib.Pow.{pow_pos}
use Rattle.wavetable.specs.Bank.{odd_only, terms_of}
use Rattle.wavetable.specs.Harmonics.{base_harmonics, max_harmonic}

pub base_most : (t : ℕ) → base_harmonics t ≤ 64
base_most zero = omega arith
base_most (suc zero) = omega arith
base_most (suc (suc zero)) = omega arith
base_most (suc (suc (suc zero))) = omega arith
base_most (suc (suc (suc (suc zero)))) = omega arith
base_most (suc (suc (suc (suc (suc zero))))) = omega arith
base_most (suc (suc (suc (suc (suc (suc zero)))))) = omega arith
base_most (suc (suc (suc (suc (suc (suc (suc zero))))))) = omega arith
base_most (suc (suc (suc (suc (suc (suc (suc (suc t)))))))) = omega arith

half_less : (n l : ℕ) → n / 2 ^ (suc l) ≤ n / 2 ^ l
half_less n l = div_mono n (2 ^ suc l) n (2 ^ l) (pow_pos (suc l)) (pow_pos l) (mul-le-mul_left n (let p = pow_pos l in omega arith))

pub harmonics_fall : (t l : ℕ) → max_harmonic t (suc l) ≤ max_harmonic t l
unfolding max_harmonic
harmonics_fall t l = let h = half_less (base_harmonics t) l in omega arith

pub harmonics_most : (t l : ℕ) → max_harmonic t l ≤ 64
unfolding max_harmonic
harmonics_most t zero = let h = base_most t in omega arith
harmonics_most t (suc l) = le_trans (harmonics_fall t l) (harmonics_most t l)

pub terms_fall : (t l : ℕ) → terms_of t (suc l) ≤ terms_of t l
unfolding terms_of
terms_fall t l = go (odd_only t)
  where
    go : (b : Bool) → cond b ((max_harmonic t (suc l) + 1) / 2) (max_harmonic t (suc l)) ≤ cond b ((max_harmonic t l + 1) / 2) (max_harmonic t l)
    go true = let h = harmonics_fall t l in omega arith
    go false = harmonics_fall t l

pub terms_most : (t l : ℕ) → terms_of t l ≤ 64
unfolding terms_of
terms_most t l = go (odd_only t)
  where
    go : (b : Bool) → cond b ((max_harmonic t l + 1) / 2) (max_harmonic t l) ≤ 64
    go true = let h = harmonics_most t l in omega arith
    go false = harmonics_most t l

same : (t l m : ℕ) → l ≡ m → terms_of t m ≤ terms_of t l
same t l m e = subst (λ (x : ℕ). terms_of t x ≤ terms_of t l) e (le_refl (terms_of t l))

pub terms_anti : (t l m : ℕ) → l ≤ m → terms_of t m ≤ terms_of t l
terms_anti t l zero h = same t l 0 (omega arith)
terms_anti t l (suc m) h =
    ⊎_elim (λ (e : l ≡ suc m). same t l (suc m) e) (λ (k : l < suc m). le_trans (terms_fall t m) (terms_anti t l m (le_of_suc-le-suc k))) (eq-or-lt_of_le h)
