-- For each public function: any two answers that its contract allows are equal, and so are the pages that it leaves. The contract stands under Settles.
use Rattle.std.specs.Prelude.{Option, List, [], ◌∷◌, ◌≡◌, ℕ}
use Rattle.laws.specs.Machine.{Settles}
use Rattle.text.specs.Decimal.{decimal_text}
use Rattle.text.specs.Hex.{hex_text, word_of}
use Rattle.text.specs.Lines.{word_line, count_line}
use Rattle.text.specs.Page.{Lent, page_at, with_text, place_on}
use Rattle.text.specs.declared.Page.{Page}

-- the page that t was put on
abbrev pub PutSettles : Page → List ℕ → Type 0
PutSettles p t = Settles (λ (q : Page). q ≡ with_text p t)

pub record Settled : Type 0 where
  pub new : (out : Lent) (at : ℕ) → Settles (λ (p : Page). p ≡ page_at out at)
  pub place : (p : Page) → Settles (λ (n : ℕ). n ≡ place_on p)
  pub byte : (p : Page) (b : ℕ) → PutSettles p (b ∷ [])
  pub text : (p : Page) (t : List ℕ) → PutSettles p t
  pub hex : (p : Page) (x : ℕ) → PutSettles p (hex_text x)
  pub decimal : (p : Page) (n : ℕ) → PutSettles p (decimal_text n)
  pub word : (p : Page) (key word : List ℕ) → PutSettles p (word_line key word)
  pub count : (p : Page) (key : List ℕ) (n : ℕ) → PutSettles p (count_line key n)
  pub read_hex : (t : List ℕ) → Settles (λ (r : Option ℕ). r ≡ word_of t)
