-- Theorems about numbers: the statements. proofs/Decimal.antt and proofs/Written.antt prove them under the same names in small letters.
use Rattle.std.specs.Prelude.{true, List, ◌≡◌, ℕ, ◌<◌, ◌^◌, Some}
use Rattle.line.specs.Number.{number_of, number_text}
use Rattle.line.specs.declared.Number.{Number}
use Rattle.line.specs.declared.Number.TheVariants.{Whole, Nan}

-- a value that is a number is the text of that number, so no two texts are the same number
abbrev pub NumberText : Type 0
NumberText = (v : List ℕ) (x : Number) → number_of v ≡ Some x → number_text x ≡ v

-- at most 12 digits, and no minus sign before 0; or nan
abbrev pub Writable : Number → Type 0
Writable (Whole minus size) = (size < 10 ^ 12) × (minus ≡ true → 0 < size)
Writable Nan = Unit {0}

-- the text of such a number is read as that number
abbrev pub NumberRead : Type 0
NumberRead = (x : Number) → Writable x → number_of (number_text x) ≡ Some x
