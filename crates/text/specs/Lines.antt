-- Lines: a key with its equals sign, a value, a line feed.
use Rattle.std.specs.Prelude.{List, [], ◌∷◌, ◌++◌, ℕ}
use Rattle.text.specs.Decimal.{decimal_text}

unfoldable pub word_line : List ℕ → List ℕ → List ℕ
word_line key word = key ++ word ++ (10 ∷ [])

unfoldable pub count_line : List ℕ → ℕ → List ℕ
count_line key n = word_line key (decimal_text n)
