-- What is told of the draws that ticks need: the need of the state that any floats and these counters are, or 0.
use Rattle.std.proofs.Common.{◌≡◌, ℕ, Bool, true, false, cond, eqb, List, length, ◌∙◌, eq-eqb}
use lib.Ieee.{Float}
use Rattle.std.specs.Prelude.{Result, Ok, Err, MatchResult}
use Rattle.boundary.specs.Flat.{fitting, state_sized}
use Rattle.common.specs.declared.Refusal.{Refusal}
use Rattle.common.specs.declared.Refusal.TheVariants as refusal
use Rattle.noise_generator.specs.declared.NoiseGenerator.{NoiseGenerator}
use Rattle.exports_noise_generator.specs.State.{n_floats, n_wholes, state_of}

pub told : {P : NoiseGenerator → Type 0} (f : List Float) (w : List ℕ) (r : Result NoiseGenerator Refusal) (n : ℕ) (needs : NoiseGenerator → ℕ)
    → length f ≡ n_floats → r ≡ state_sized n_floats n_wholes state_of f w → MatchResult r P (λ e. n ≡ 0) → ((s : NoiseGenerator) → P s → n ≡ needs s)
    → n ≡ cond (eqb (length w) n_wholes) (needs (state_of f w)) 0
unfolding fitting
told {P} f w r n needs h e m p = go (eqb (length w) n_wholes) (e ∙ simp (eq-eqb _ _ h)) m
  where
    go : (b : Bool) → r ≡ cond b (Ok (state_of f w)) (Err refusal.Wholes) → MatchResult r P (λ e. n ≡ 0) → n ≡ cond b (needs (state_of f w)) 0
    go true q k = p (state_of f w) (rw q at k)
    go false q k = rw q at k
