-- A refused tick; and a call without samples: what it says of itself, and the state that it leaves. One text for every oscillator.
use Rattle.std.specs.Prelude.{cond, ℕ, eqb, Result, Ok, Err}
use Rattle.common.specs.Refusal.{number_of, refused_number}
use Rattle.common.specs.declared.Refusal.{Refusal}
use Rattle.answer.specs.declared.Answer.TheVariants as answer
use Rattle.answer.specs.declared.Made.{Made}
use Rattle.answer.specs.declared.Ticked.{Ticked}

-- a tick that something refuses: its number, and the state that it was given
abbrev pub refused_tick : {S : Type 0} → S → Refusal → Ticked S
refused_tick s why = record { answer = answer.Refused (number_of why); state = s }

-- 0 or what refused it, and the state after it
pub record Outcome (S : Type 0) : Type 0 where
  pub refused : ℕ
  pub state : S

abbrev pub outcome : {S : Type 0} → ℕ → S → Outcome S
outcome n s = record { refused = n; state = s }

-- `new`, unless n refuses, which leaves `old`
unfoldable pub made_unless : {S : Type 0} → ℕ → S → S → Outcome S
made_unless n old new = cond (eqb n 0) (outcome 0 new) (outcome n old)

-- what making a state says
abbrev pub making : {S : Type 0} → Made S → Outcome S
making m = outcome (refused_number m.outcome) m.state

-- what a change of a state says: a refused one leaves the state that it was given
unfoldable pub changing : {S : Type 0} → S → Result S Refusal → Outcome S
changing s (Ok new) = outcome 0 new
changing s (Err e) = outcome (number_of e) s
