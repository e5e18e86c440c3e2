-- A number in hexadecimal, 16 digits in capitals, written and read.
use Rattle.std.specs.Prelude.{cond, Option, Some, None, option_and_then, List, [], ◌∷◌, ℕ, zero, suc, ◌+◌, ◌-◌, ◌*◌, ◌/◌, ◌%◌, ◌^◌, ltb, eqb, length}

-- `0` to `9`, then `A` to `F`
unfoldable pub glyph : ℕ → ℕ
glyph d = cond (ltb d 10) (48 + d) (55 + d)

-- the last k digits, the highest first
unfoldable pub hex_from : ℕ → ℕ → List ℕ
hex_from zero x = []
hex_from (suc k) x = glyph (x / 16 ^ k % 16) ∷ hex_from k x

unfoldable pub hex_text : ℕ → List ℕ
hex_text x = hex_from 16 x

-- the value of a digit
unfoldable pub nibble_of : ℕ → Option ℕ
nibble_of b = cond (ltb b 48) None (cond (ltb b 58) (Some (b - 48)) (cond (ltb b 65) None (cond (ltb b 71) (Some (b - 55)) None)))

-- the number that x and then the digits make
unfoldable pub word_from : ℕ → List ℕ → Option ℕ
word_from x [] = Some x
word_from x (b ∷ bs) = option_and_then (λ d. word_from (x * 16 + d) bs) (nibble_of b)

-- 16 digits and nothing else
unfoldable pub word_of : List ℕ → Option ℕ
word_of t = cond (eqb (length t) 16) (word_from 0 t) None
