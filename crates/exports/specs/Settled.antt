-- For each public function: any two answers that its contract allows are equal, and so are the lent counts. The contract stands under Settles.
use Rattle.std.specs.Prelude.{Bool, List, ◌≡◌, ℕ, Float}
use Rattle.std.specs.Float.Ieee as Ieee
use Rattle.std.specs.Float.{binary64}
use Rattle.laws.specs.Float.{is_fin}
use Rattle.laws.specs.Machine.{Settles}
use Rattle.numeric.specs.Basic.{fabs_of, clamp_of, min_of, max_of, whole_of, real_of}
use Rattle.numeric.specs.Floor.{floor_of}
use Rattle.numeric.specs.Draw.{draw_of, bipolar_of}
use Rattle.numeric.specs.Power.{exp2_of, pow3000_of}
use Rattle.numeric.specs.Trig.{sin_of, cos_of}
use Rattle.common.specs.Phase.{wrap_of, turned_of, polyblep_of, polyblamp_of}
use Rattle.common.specs.Memo.{voct_to_hz_at}
use Rattle.exports.specs.Counts.{Kept, tally_at}

pub record Settled : Type 0 where
  pub is_finite : (x : Float) → Settles (λ (r : Bool). r ≡ is_fin x)
  pub fabs : (x : Float) → Settles (λ (r : Float). r ≡ fabs_of x)
  pub clamp : (x lo hi : Float) → Settles (λ (r : Float). r ≡ clamp_of x lo hi)
  pub min : (a b : Float) → Settles (λ (r : Float). r ≡ min_of a b)
  pub max : (a b : Float) → Settles (λ (r : Float). r ≡ max_of a b)
  pub to_u64 : (x : Float) → Settles (λ (r : ℕ). r ≡ whole_of x)
  pub of_u64 : (n : ℕ) → Settles (λ (r : Float). r ≡ real_of n)
  pub bits : (x : Float) → Settles (λ (r : ℕ). r ≡ Ieee.to_bits binary64 x)
  pub of_bits : (b : ℕ) → Settles (λ (r : Float). r ≡ Ieee.of_bits binary64 b)
  pub floor : (x : Float) → Settles (λ (r : Float). r ≡ floor_of x)
  pub draw : (k : ℕ) → Settles (λ (r : Float). r ≡ draw_of k)
  pub bipolar : (k : ℕ) → Settles (λ (r : Float). r ≡ bipolar_of k)
  pub exp2 : (x : Float) → Settles (λ (r : Float). r ≡ exp2_of x)
  pub pow3000 : (r : Float) → Settles (λ (v : Float). v ≡ pow3000_of r)
  pub sin : (x : Float) → Settles (λ (r : Float). r ≡ sin_of x)
  pub cos : (x : Float) → Settles (λ (r : Float). r ≡ cos_of x)
  pub voct_to_hz : (voct : Float) → Settles (λ (r : Float). r ≡ (voct_to_hz_at voct).0)
  pub wrap_phase : (x : Float) → Settles (λ (r : Float). r ≡ wrap_of x)
  pub wrap_turned : (x : Float) → Settles (λ (r : Bool). r ≡ turned_of x)
  pub polyblep : (t dt : Float) → Settles (λ (r : Float). r ≡ polyblep_of t dt)
  pub polyblamp : (t dt : Float) → Settles (λ (r : Float). r ≡ polyblamp_of t dt)
  pub tally_take : (code : ℕ) (counts : List ℕ) → Settles (λ (k : Kept). k ≡ tally_at code counts)
