-- Refusals: the numbers by which hosts see them, and how what follows goes on after a value and stops at a refusal. Assumes nothing.
use Rattle.std.specs.Prelude.{ℕ, Result, Ok, Err}
use Rattle.score.specs.declared.Refusal.{Refusal}
use Rattle.score.specs.declared.Refusal.TheVariants.{TooLong, WrongLine, Malformed, OutOfRange, NoRoom}

abbrev pub refusal_number : Refusal → ℕ
refusal_number TooLong = 20
refusal_number WrongLine = 21
refusal_number Malformed = 22
refusal_number OutOfRange = 23
refusal_number NoRoom = 24

-- a value goes on to what follows; a refusal is the answer
abbrev pub and_then : {A B : Type 0} → Result A Refusal → (A → Result B Refusal) → Result B Refusal
and_then (Ok x) k = k x
and_then (Err why) k = Err why
