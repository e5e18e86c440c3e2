-- Lines of a text: key, equals sign, value, line feed. Assumes nothing.
use Rattle.std.specs.Prelude.{ℕ, ◌-◌, List, Bool, false, cond, length, drop}
use Rattle.line.specs.Bytes.{same_of, has_of, until_of, past_of}
use Rattle.line.specs.declared.Reader.{Reader}

-- the text's first line, without its line feed, and the text after it
unfoldable pub line_of : List ℕ → List ℕ
line_of text = until_of 10 text

unfoldable pub after_line : List ℕ → List ℕ
after_line text = past_of 10 text

-- the first line's key and value: the stretches before and after its first equals sign
unfoldable pub key_of : List ℕ → List ℕ
key_of text = until_of 61 (line_of text)

unfoldable pub value_of : List ℕ → List ℕ
value_of text = past_of 61 (line_of text)

-- whether the text begins with a line of this key: ended by a line feed, with an equals sign and the key before it
unfoldable pub is_line : List ℕ → List ℕ → Bool
is_line key text = cond (has_of 10 text) (cond (has_of 61 (line_of text)) (same_of (key_of text) key) false) false

-- the place of the line after the one at `at`: where the text after it begins
unfoldable pub next_of : List ℕ → ℕ → ℕ
next_of text at = length text - length (after_line (drop at text))

-- the reader at the next line of the same text
abbrev pub moved_on : Reader → Reader
moved_on r = record { text = r.text; at = next_of r.text.now r.at }
