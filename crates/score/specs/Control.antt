-- What an input holds: whole microvolts, or nan. Assumes nothing.
use Rattle.std.specs.Prelude.{Bool, true, false, cond, ℕ, suc, ℤ, pos, negsuc, neg_ℤ, Float}
use Rattle.std.specs.Float.Ieee as Ieee
use Rattle.std.specs.Float.{nan, binary64}
use Rattle.line.specs.declared.Number.{Number}
use Rattle.line.specs.declared.Number.TheVariants as N
use Rattle.score.specs.declared.Control.{Control}
use Rattle.score.specs.declared.Control.TheVariants.{Microvolts, Nan}

-- a sign and a size, as a whole number
abbrev pub signed : Bool → ℕ → ℤ
signed minus size = cond minus (neg_ℤ (pos size)) (pos size)

-- 1000000.0
abbrev pub million : Float
million = Ieee.of_bits binary64 0x412e848000000000

-- the volts: the whole number, divided by 1000000 once
unfoldable pub volts_of : Control → Float
volts_of (Microvolts n) = Ieee.div binary64 (Ieee.of_int binary64 n) million
volts_of Nan = nan

-- the number that a line of it holds
abbrev pub number_in : Control → Number
number_in (Microvolts (pos n)) = N.Whole false n
number_in (Microvolts (negsuc n)) = N.Whole true (suc n)
number_in Nan = N.Nan
