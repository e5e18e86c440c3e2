-- For each public function: any two answers that its contract allows are equal. The contract is the equation under Settles.
-- Of a view of the text, what it shows is settled.
use Rattle.std.specs.Prelude.{Bool, List, ◌≡◌, ℕ, drop, Option}
use Rattle.laws.specs.Machine.{Settles}
use Rattle.line.specs.Bytes.{same_of}
use Rattle.line.specs.Line.{value_of, is_line, moved_on}
use Rattle.line.specs.Number.{number_of}
use Rattle.line.specs.declared.Number.{Number}
use Rattle.line.specs.declared.Reader.{Reader}

pub record Settled : Type 0 where
  pub same : (a b : List ℕ) → Settles (λ (r : Bool). r ≡ same_of a b)
  pub reader_is_line : (r : Reader) (key : List ℕ) → Settles (λ (b : Bool). b ≡ is_line key (drop r.at r.text.now))
  pub reader_value : (r : Reader) → Settles (λ (v : List ℕ). v ≡ value_of (drop r.at r.text.now))
  pub reader_next : (r : Reader) → Settles (λ (s : Reader). s ≡ moved_on r)
  pub number_of : (v : List ℕ) → Settles (λ (r : Option Number). r ≡ number_of v)
