-- A reader of lines that takes them one after the other. Assumes nothing.
use Rattle.std.specs.Prelude.{ℕ, List, ◌≡◌, true, false, drop, Result, Err, MatchResult}
use Rattle.line.specs.Line.{value_of, is_line, after_line}
use Rattle.line.specs.declared.Reader.{Reader}
use Rattle.score.specs.Score.{Reading}
use Rattle.score.specs.declared.Refusal.{Refusal}
use Rattle.score.specs.declared.Refusal.TheVariants.{WrongLine}

-- the text from the reader's place on
abbrev pub rest_of : Reader → List ℕ
rest_of r = drop r.at r.text.now

-- the first line is one of the key and has the value, and the reader stands after it
pub record IsTaken (key : List ℕ) (from : Reader) (v : List ℕ) (to : Reader) : Type 0 where
  pub asked : is_line key (rest_of from) ≡ true
  pub value : value_of (rest_of from) ≡ v
  pub left : rest_of to ≡ after_line (rest_of from)

-- it is another line
pub record IsOther (key : List ℕ) (from : Reader) (why : Refusal) : Type 0 where
  pub asked : is_line key (rest_of from) ≡ false
  pub refused : why ≡ WrongLine

-- what `reads` reads of a text is what the reader took of it: the value, after which what follows is read from where the reader stands, or the refusal
abbrev pub Takes : {A : Type 0} → (List ℕ → (A → List ℕ → Reading) → Reading) → Reader → Result A Refusal → Reader → Type 0
Takes {A} reads from taken to =
    MatchResult taken (λ x. (k : A → List ℕ → Reading) → reads (rest_of from) k ≡ k x (rest_of to))
    (λ why. (k : A → List ℕ → Reading) → reads (rest_of from) k ≡ Err why)
