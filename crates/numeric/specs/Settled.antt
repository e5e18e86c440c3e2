-- For each public function: any two answers that its contract allows are equal. The contract is the equation under Settles.
use Rattle.std.specs.Prelude.{◌≡◌, ℕ, min, Bool, Float}
use Rattle.std.specs.Float.Ieee as Ieee
use Rattle.std.specs.Float.{binary64}
use Rattle.laws.specs.Float.{is_fin}
use Rattle.laws.specs.Machine.{Settles}
use Rattle.numeric.specs.Basic.{fabs_of, clamp_of, min_of, max_of, whole_of, real_of}
use Rattle.numeric.specs.Floor.{floor_of}
use Rattle.numeric.specs.Draw.{draw_of, bipolar_of}
use Rattle.numeric.specs.Power.{exp2_of, pow3000_of}
use Rattle.numeric.specs.Trig.{sin_of, cos_of}

pub record Settled : Type 0 where
  pub is_finite : (x : Float) → Settles (λ (r : Bool). r ≡ is_fin x)
  pub fabs : (x : Float) → Settles (λ (r : Float). r ≡ fabs_of x)
  pub clamp : (x lo hi : Float) → Settles (λ (r : Float). r ≡ clamp_of x lo hi)
  -- before the field `min`, so that this is the smaller number
  pub least : (a b : ℕ) → Settles (λ (r : ℕ). r ≡ min a b)
  pub min : (a b : Float) → Settles (λ (r : Float). r ≡ min_of a b)
  pub max : (a b : Float) → Settles (λ (r : Float). r ≡ max_of a b)
  pub to_u64 : (x : Float) → Settles (λ (r : ℕ). r ≡ whole_of x)
  pub to_usize : (x : Float) → Settles (λ (r : ℕ). r ≡ whole_of x)
  pub of_u64 : (n : ℕ) → Settles (λ (r : Float). r ≡ real_of n)
  pub bits : (x : Float) → Settles (λ (r : ℕ). r ≡ Ieee.to_bits binary64 x)
  pub of_bits : (b : ℕ) → Settles (λ (r : Float). r ≡ Ieee.of_bits binary64 b)
  pub floor : (x : Float) → Settles (λ (r : Float). r ≡ floor_of x)
  pub draw : (k : ℕ) → Settles (λ (r : Float). r ≡ draw_of k)
  pub bipolar : (k : ℕ) → Settles (λ (r : Float). r ≡ bipolar_of k)
  pub exp2 : (x : Float) → Settles (λ (r : Float). r ≡ exp2_of x)
  pub pow3000 : (x : Float) → Settles (λ (r : Float). r ≡ pow3000_of x)
  pub sin : (x : Float) → Settles (λ (r : Float). r ≡ sin_of x)
  pub cos : (x : Float) → Settles (λ (r : Float). r ≡ cos_of x)
