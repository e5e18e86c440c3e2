-- What is written in hexadecimal is read as the number; and a step of the reading.
use mathlib.Core.Bool.{Bool, true, false}
use mathlib.Core.List.{List, [], ◌∷◌, ◌++◌, append_assoc, append-nil}
use mathlib.Core.Path.{◌≡◌, refl, sym, ap, ◌∙◌}
use Prim.Native.Nat.{ℕ, zero, suc, ◌+◌, ◌-◌, ◌*◌, ◌/◌, ◌%◌, ◌^◌, ◌≤◌, ◌<◌}
use native.Mathlib.Nat.{mod-eq_of_lt, pow-succ', pow-le-pow_right}
use native.Mathlib.Numerals.{add-one}
use native.Mathlib.Omega.{arith}
use lib.Arith.{mod-mul}
use lib.Dec.{ltb}
use lib.ListN.{length, get_or, drop, drop_of_length-le}
use lib.Pow.{pow-add}
use lib.Seq.{drop-cons}
use borrow.Author.Tests.{lt-ltb, le-ltb, ltb-true, ltb-false}
use Rattle.std.specs.Prelude.{Some, None}
use Rattle.text.specs.Hex.{glyph, hex_from, hex_text, nibble_of, word_from, word_of}
use Rattle.text.specs.Promises.{HexRead}

-- ---- writing, a digit at a time
two_sixteen : (k : ℕ) → 2 ^ (4 * k) ≡ 16 ^ k
two_sixteen zero = refl
two_sixteen (suc k) =
    ap (λ (n : ℕ). 2 ^ n) (four k) ∙ pow-add 2 4 (4 * k) ∙ ap (λ (n : ℕ). 16 * n) (two_sixteen k) ∙ sym (pow-succ' 16 k)
  where
    four : (k : ℕ) → 4 * suc k ≡ 4 + 4 * k
    four k = omega arith

-- after d come k digits: the first of them, and one fewer
pub hex_next : (d t : List ℕ) (k x : ℕ) → 0 < k → d ++ hex_from k x ≡ t
    → (d ++ (glyph (x / 2 ^ (4 * (k - 1)) % 16) ∷ [])) ++ hex_from (k - 1) x ≡ t
unfolding hex_from
hex_next d t k x h e = rw (two_sixteen (k - 1)) (append_assoc d _ _ ∙ ap (λ (n : ℕ). d ++ hex_from n x) (back k h) ∙ e)
  where
    back : (k : ℕ) → 0 < k → suc (k - 1) ≡ k
    back k h = omega arith

pub hex_end : (d t : List ℕ) (k x : ℕ) → k ≤ 0 → d ++ hex_from k x ≡ t → d ≡ t
unfolding hex_from
hex_end d t k x h e = sym (append-nil d) ∙ ap (λ (n : ℕ). d ++ hex_from n x) (none k h) ∙ e
  where
    none : (k : ℕ) → k ≤ 0 → 0 ≡ k
    none k h = omega arith

-- ---- reading, a byte at a time
module _ (t : List ℕ) (i : ℕ) (h : i < length t) where
  pub word_stops : (x : ℕ) → nibble_of (get_or t i 0) ≡ None → word_from x (drop i t) ≡ None
  unfolding word_from
  word_stops x e = simp (drop-cons t i 0 h, e)

  pub word_next : (x d : ℕ) → nibble_of (get_or t i 0) ≡ Some d → word_from x (drop i t) ≡ word_from (x * 16 + d) (drop (i + 1) t)
  unfolding word_from
  word_next x d e = simp (add-one, drop-cons t i 0 h, e)

pub word_end : (t : List ℕ) (i x : ℕ) → length t ≤ i → word_from x (drop i t) ≡ Some x
unfolding word_from
word_end t i x h = simp (drop_of_length-le t h)

-- i digits stay below 16 ^ i
pub sixteen_fold : (x d i : ℕ) → x < 16 ^ i → d ≤ 15 → x * 16 + d < 16 ^ (i + 1)
sixteen_fold x d i h l = rw (add-one, pow-succ' 16 i) (omega arith)

pub sixteen_fits : (x d i : ℕ) → x < 16 ^ i → d ≤ 15 → i < 16 → x * 16 + d < 2 ^ 64
sixteen_fits x d i h l g = omega (arith, sixteen_fold x d i h l, pow-le-pow_right {n = 16} (omega arith) {i = i + 1} {j = 16} (omega arith))

above : (k : ℕ) → 0 < 16 ^ k
above k = omega (arith, pow-le-pow_right {n = 16} (omega arith) {i = 0} {j = k} (omega arith))

-- ---- a digit is read as its value, and no value is past 15
read_by : (d : ℕ) (b : Bool) → ltb d 10 ≡ b → d < 16 → nibble_of (glyph d) ≡ Some d
unfolding glyph nibble_of
read_by d true e h =
    let l = ltb-true d 10 e in
    simp (e, le-ltb (48 + d) 48 (omega arith), lt-ltb (48 + d) 58 (omega arith)) (ap Some (omega arith))
read_by d false e h =
    let l = ltb-false d 10 e in
    simp (e, le-ltb (55 + d) 48 (omega arith), le-ltb (55 + d) 58 (omega arith), le-ltb (55 + d) 65 (omega arith), lt-ltb (55 + d) 71 (omega arith))
    (ap Some (omega arith))

pub nibble_glyph : (d : ℕ) → d < 16 → nibble_of (glyph d) ≡ Some d
nibble_glyph d h = read_by d (ltb d 10) refl h

pub nibble_small : (b d : ℕ) → nibble_of b ≡ Some d → d ≤ 15
unfolding nibble_of
nibble_small b d e = grind arith

-- ---- k digits are read as the number's rest by 16 ^ k
one_more : (k a x d : ℕ) → d ≡ x / 16 ^ k % 16 → (a * 16 + d) * 16 ^ k + x % 16 ^ k ≡ a * 16 ^ suc k + x % 16 ^ suc k
one_more k a x d e = rw (e, pow-succ' 16 k, mod-mul x {m = 16} {c = 16 ^ k} (omega arith) (above k)) (omega arith)

read_one : (a d : ℕ) (t : List ℕ) → d < 16 → word_from a (glyph d ∷ t) ≡ word_from (a * 16 + d) t
unfolding word_from
read_one a d t h = simp (nibble_glyph d h)

from_digits : (k a x : ℕ) → word_from a (hex_from k x) ≡ Some (a * 16 ^ k + x % 16 ^ k)
unfolding word_from hex_from
from_digits zero a x = ap Some (omega arith)
from_digits (suc k) a x =
    let d = x / 16 ^ k % 16 in
    read_one a d (hex_from k x) (omega arith) ∙ from_digits k (a * 16 + d) x ∙ ap Some (one_more k a x d refl)

pub hex_read : HexRead
unfolding word_of hex_text hex_from
hex_read x h = from_digits 16 0 x ∙ ap Some (ap (λ (n : ℕ). 0 * 16 ^ 16 + n) (mod-eq_of_lt h) ∙ omega arith)
