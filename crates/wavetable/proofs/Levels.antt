-- The search for a level: the levels before the one that is found are passed.
use mathlib.Core.Bool.{Bool, true, false, cond}
use mathlib.Core.Path.{◌≡◌, refl, sym, ap, ◌∙◌}
use Prim.Native.Nat.{ℕ, zero, suc, ◌-◌, ◌<◌, ◌≤◌}
use native.Mathlib.Omega.{arith}
use lib.Ieee.{Float, le}
use Rattle.std.specs.Option.{MatchOption, unwrap_or}
use Rattle.std.specs.Prelude.{Option, Some, None}
use Rattle.numeric.specs.Basic.{real_of}
use Rattle.wavetable.specs.Harmonics.{max_harmonic}
use Rattle.wavetable.specs.Reads.{level_from}

-- whether the harmonics of a level are all allowed
abbrev pub fits : ℕ → Float → ℕ → Bool
fits t a level = le (real_of (max_harmonic t level)) a

step : (t level : ℕ) (a : Float) → level < 8 → level_from t a (8 - level) ≡ cond (fits t a level) level (level_from t a (8 - suc level))
unfolding level_from
step t level a h =
    let p : 8 - level ≡ suc (7 - level) = omega arith in
    let q : 7 - (7 - level) ≡ level = omega arith in
    let r : 7 - level ≡ 8 - suc level = omega arith in
    ap (level_from t a) p
    ∙ ap (λ (x : ℕ). cond (fits t a x) x (level_from t a (7 - level))) q
    ∙ ap (λ (x : ℕ). cond (fits t a level) level (level_from t a x)) r

passed : (t level : ℕ) (a : Float) → level ≤ 8 → ((k : ℕ) → k < level → fits t a k ≡ false) → level_from t a 8 ≡ level_from t a (8 - level)
passed t zero a h f = refl
passed t (suc level) a h f =
    passed t level a (omega arith) (λ k l. f k (omega arith))
    ∙ step t level a (omega arith)
    ∙ rw (f level (omega arith)) refl

pub level_found : (t : ℕ) (a : Float) (found : Option ℕ)
    → MatchOption found ((k : ℕ) → 0 ≤ k → k < 8 → fits t a k ≡ false)
    (λ i. (0 ≤ i) × (i < 8) × (fits t a i ≡ true) × ((k : ℕ) → 0 ≤ k → k < i → fits t a k ≡ false))
    → unwrap_or found 7 ≡ level_from t a 8
unfolding level_from
level_found t a None f = sym (passed t 8 a (omega arith) (λ k l. f k (omega arith) l))
level_found t a (Some i) (z, l, e, f) =
    sym (passed t i a (omega arith) (λ k m. f k (omega arith) m) ∙ step t i a l ∙ rw e refl)
