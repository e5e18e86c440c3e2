-- For each public function: any two answers that its contract allows are equal. The contract is the equation under Settles.
use Rattle.std.specs.Prelude.{List, ◌≡◌, ℕ, Float, Option, Result}
use Rattle.laws.specs.Machine.{Settles}
use Rattle.line.specs.declared.Number.{Number}
use Rattle.score.specs.Control.{volts_of, number_in}
use Rattle.score.specs.Keys.{name_of, owner_of}
use Rattle.score.specs.Lines.{within_of, control_of}
use Rattle.score.specs.Refusal.{refusal_number}
use Rattle.score.specs.Score.{Reading, score_of}
use Rattle.score.specs.declared.Control.{Control}
use Rattle.score.specs.declared.Inputs.{Inputs}
use Rattle.score.specs.declared.Osc.{Osc}
use Rattle.score.specs.declared.Refusal.{Refusal}

pub record Settled : Type 0 where
  pub volts : (c : Control) → Settles (λ (r : Float). r ≡ volts_of c)
  pub number_in : (c : Control) → Settles (λ (r : Number). r ≡ number_in c)
  pub owner_of : (i : Inputs) → Settles (λ (r : Osc). r ≡ owner_of i)
  pub within : (n : Option Number) (least most : ℕ) → Settles (λ (r : Result ℕ Refusal). r ≡ within_of least most n)
  pub control_of : (n : Option Number) → Settles (λ (r : Result Control Refusal). r ≡ control_of n)
  pub read : (text : List ℕ) → Settles (λ (r : Reading). r ≡ score_of text)
  pub name : (o : Osc) → Settles (λ (v : List ℕ). v ≡ name_of o)
  pub number : (why : Refusal) → Settles (λ (n : ℕ). n ≡ refusal_number why)
