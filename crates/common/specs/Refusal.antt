-- What refuses a call of an oscillator: the scope's number of each reason, which is what a host is told. Those from 50 on are the boundary's: a slice that
-- a host lends has another length.
use Rattle.std.specs.Prelude.{ℕ, Result, Ok, Err}
use Rattle.common.specs.declared.Refusal.{Refusal}
use Rattle.common.specs.declared.Refusal.TheVariants as refusal

unfoldable pub number_of : Refusal → ℕ
number_of refusal.Rate = 1
number_of refusal.State = 2
number_of refusal.Line = 3
number_of refusal.Bank = 4
number_of refusal.FewDraws = 5
number_of refusal.Draw = 6
number_of refusal.Tally = 7
number_of refusal.Floats = 50
number_of refusal.Wholes = 51
number_of refusal.Samples = 52
number_of refusal.Counts = 53

-- of a call: 0 where it is let pass, or the number of what refuses it
unfoldable pub refused_number : {T : Type 0} → Result T Refusal → ℕ
refused_number (Ok t) = 0
refused_number (Err e) = number_of e
