-- Outputs that a caller may want or not: tick_wanted's mask, and what stands for an unwanted one.
use Rattle.std.specs.Prelude.{Bool, not, cond, ◌≡◌, ℕ, ◌^◌, ◌<◌, eqb, Float}
use Rattle.std.specs.Int.Bits.{bit_and}
use Rattle.std.specs.Float.{binary64}
use Rattle.std.specs.Float.Ieee.{mul}
use Rattle.laws.specs.Float.{zer}
use Rattle.common.specs.Consts.{five}

-- wanted & bit != 0
abbrev pub wants : ℕ → ℕ → Bool
wants wanted bit = not (eqb (bit_and wanted bit) 0)

-- two masks that want the same of the first n outputs
abbrev pub WantAlike : ℕ → ℕ → ℕ → Type 0
WantAlike n v w = (i : ℕ) → i < n → wants v (2 ^ i) ≡ wants w (2 ^ i)

-- outputs.set(.., x * 5.0); what isn't wanted reads 0.0
unfoldable pub out_of : Bool → Float → Float
out_of want x = cond want (mul binary64 x five) zer
