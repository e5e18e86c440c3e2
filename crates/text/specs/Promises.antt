-- What holds of these texts: the statements. proofs/ proves each under the same name in small letters.
use Rattle.std.specs.Prelude.{Some, List, ◌++◌, ◌≡◌, ℕ, suc, ◌^◌, ◌≤◌, ◌<◌, length, get_or, take}
use Rattle.std.proofs.lemmas.List.Edits.{sets}
use Rattle.text.specs.Decimal.{decimal_text, value_of}
use Rattle.text.specs.Hex.{hex_text, word_of}
use Rattle.text.specs.Page.{Lent, page_at, with_text}
use Rattle.text.specs.Put.{place_of}
use Rattle.text.specs.declared.Page.{Page}

-- t was put into `out` at a place: r is the place after, and `after` the buffer
abbrev pub Put : List ℕ → ℕ → List ℕ → ℕ → List ℕ → Type 0
Put out at t r after = (r ≡ place_of out at t) × (after ≡ sets out at t)

-- a text put after another is the two put as one
abbrev pub PutThen : Type 0
PutThen =
    (out : List ℕ) (at : ℕ) (a b : List ℕ) (r s : ℕ) (p q : List ℕ) → Put out at a r p → Put p r b s q → Put out at (a ++ b) s q

-- the place after a text lies in the buffer, which keeps its length
abbrev pub PutWithin : Type 0
PutWithin =
    (out : List ℕ) (at : ℕ) (t : List ℕ) (r : ℕ) (p : List ℕ) → Put out at t r p → (r ≤ length p) × (length p ≡ length out)

-- a text that has room is put whole: the buffer begins with it, up to the place after it
abbrev pub PutWhole : Type 0
PutWhole = (out t : List ℕ) (r : ℕ) (q : List ℕ) → Put out 0 t r q → length t ≤ length out → take r q ≡ t

-- a page with a text has it put into the bytes that were lent, and is at the place after it
abbrev pub PagePut : Type 0
PagePut =
    (out : Lent) (at : ℕ) (t : List ℕ) (q : Page) → q ≡ with_text (page_at out at) t
    → (q.out.ghost_name ≡ out.ghost_name) × Put out.now at t q.at q.out.now

-- on a page too
abbrev pub PageThen : Type 0
PageThen = (p : Page) (a b : List ℕ) → with_text (with_text p a) b ≡ with_text p (a ++ b)

-- what is written in hexadecimal is read as the number
abbrev pub HexRead : Type 0
HexRead = (x : ℕ) → x < 2 ^ 64 → word_of (hex_text x) ≡ Some x

-- what is written in decimal is the number
abbrev pub DecimalRead : Type 0
DecimalRead = (n : ℕ) → value_of (decimal_text n) ≡ n

-- it is made of digits
abbrev pub DecimalDigits : Type 0
DecimalDigits = (n k : ℕ) → k < length (decimal_text n) → (48 ≤ get_or (decimal_text n) k 0) × (get_or (decimal_text n) k 0 ≤ 57)

-- and its first is a zero for 0 alone
abbrev pub DecimalFirst : Type 0
DecimalFirst = (n : ℕ) → get_or (decimal_text n) 0 0 ≡ 48 → n ≡ 0

-- a number below 10 ^ (k + 1) has at most k + 1 digits
abbrev pub DecimalShort : Type 0
DecimalShort = (k n : ℕ) → n < 10 ^ suc k → length (decimal_text n) ≤ suc k
