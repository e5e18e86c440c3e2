-- A line of what the program prints: the call, `=`, the bits in hexadecimal, a line feed.
use Rattle.std.specs.Prelude.{List, [], ◌∷◌, ◌++◌, ℕ, Float}
use Rattle.std.specs.Float.{binary64}
use Rattle.std.specs.Float.Ieee.{to_bits}
use Rattle.text.specs.Hex.{hex_text}

unfoldable pub line_of : List ℕ → Float → List ℕ
line_of call x = ((call ++ (61 ∷ [])) ++ hex_text (to_bits binary64 x)) ++ (10 ∷ [])
