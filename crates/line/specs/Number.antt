-- The one form of a number: digits with no leading zero, at most 12 of them, and a minus sign before one that isn't 0; or `nan`. What has another
-- form is no number, None.
-- Assumes nothing.
use Rattle.std.specs.Prelude.{ℕ, ◌+◌, ◌-◌, ◌*◌, List, [], ◌∷◌, true, false, cond, length, drop, get_or, ltb, eqb, Option, Some, None, option_and_then}
use Rattle.text.specs.Decimal.{decimal_text}
use Rattle.line.specs.Bytes.{ascii, same_of}
use Rattle.line.specs.declared.Number.{Number}
use Rattle.line.specs.declared.Number.TheVariants.{Whole, Nan}

-- the number that n's digits and then these make; none where a byte is no digit
unfoldable pub digits_from : ℕ → List ℕ → Option Number
digits_from n [] = Some (Whole false n)
digits_from n (b ∷ bs) = cond (ltb b 48) None (cond (ltb 57 b) None (digits_from (n * 10 + (b - 48)) bs))

-- 1 to 12 digits, of which the first is 0 only where it is the only one
unfoldable pub digits_of : List ℕ → Option Number
digits_of v =
    cond (eqb (length v) 0) None
    (cond (ltb 12 (length v)) None
    (cond (eqb (get_or v 0 0) 48) (cond (eqb (length v) 1) (Some (Whole false 0)) None) (digits_from 0 v)))

-- a number with a minus sign before it; -0 is none
unfoldable pub negative_of : Number → Option Number
negative_of (Whole minus size) = cond (eqb size 0) None (Some (Whole true size))
negative_of Nan = None

unfoldable pub signed_of : List ℕ → Option Number
signed_of v =
    cond (eqb (length v) 0) None (cond (eqb (get_or v 0 0) 45) (option_and_then negative_of (digits_of (drop 1 v))) (digits_of v))

unfoldable pub number_of : List ℕ → Option Number
number_of v = cond (same_of v (ascii "nan")) (Some Nan) (signed_of v)

-- the text of a number
unfoldable pub number_text : Number → List ℕ
number_text (Whole minus size) = cond minus (45 ∷ decimal_text size) (decimal_text size)
number_text Nan = ascii "nan"
