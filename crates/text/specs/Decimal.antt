-- A number in decimal, with no leading zero.
use Rattle.std.specs.Prelude.{cond, List, [], ◌∷◌, ◌++◌, ℕ, zero, suc, ◌+◌, ◌-◌, ◌*◌, ◌/◌, ◌%◌, ltb}
use Rattle.text.specs.Hex.{glyph}

-- the digits of n / 10 and then the last one; after k digits nothing is taken off any more
unfoldable pub decimal_from : ℕ → ℕ → List ℕ
decimal_from zero n = glyph n ∷ []
decimal_from (suc k) n = cond (ltb n 10) (glyph n ∷ []) (decimal_from k (n / 10) ++ (glyph (n % 10) ∷ []))

-- no number n has more than n + 1 digits
unfoldable pub decimal_text : ℕ → List ℕ
decimal_text n = decimal_from n n

-- the number that n and then the digits make
unfoldable pub value_from : ℕ → List ℕ → ℕ
value_from n [] = n
value_from n (b ∷ bs) = value_from (n * 10 + (b - 48)) bs

unfoldable pub value_of : List ℕ → ℕ
value_of t = value_from 0 t
