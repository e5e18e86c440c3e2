-- A line that the reader took is the first of the text from its place on. Assumes nothing.
use Prim.Native.Nat.{ℕ, ◌-◌, ◌<◌, ◌≤◌}
use mathlib.Core.Path.{◌≡◌, refl, ap}
use mathlib.Core.List.{List, [], ◌∷◌}
use mathlib.Core.Bool.{Bool, true, false, cond}
use native.Mathlib.Omega.{arith}
use lib.ListN.{length, length-drop}
use borrow.Author.Tests.{ne_eqb, eq-eqb}
use Rattle.std.specs.Prelude.{Option, Some, None, Result, Ok, Err, IsErrAnd, ok_or}
use Rattle.std.specs.List.{find}
use Rattle.line.specs.Bytes.{ascii, same_of}
use Rattle.line.specs.Number.{number_of}
use Rattle.line.specs.declared.Number.{Number}
use Rattle.line.specs.declared.Reader.{Reader}
use Rattle.score.specs.Keys.{name_of}
use Rattle.score.specs.Lines.{osc_of, within_of, control_of, osc_line, whole_line, control_line}
use Rattle.score.specs.Refusal.{and_then}
use Rattle.score.specs.Score.{Reading, osc, whole, control, end_of}
use Rattle.score.specs.Taken.{rest_of, IsTaken, IsOther, Takes}
use Rattle.score.specs.declared.Control.{Control}
use Rattle.score.specs.declared.Head.{Head}
use Rattle.score.specs.declared.Inputs.{Inputs}
use Rattle.score.specs.declared.Osc.{Osc}
use Rattle.score.specs.declared.Osc.TheVariants as O
use Rattle.score.specs.declared.Refusal.{Refusal}
use Rattle.score.specs.declared.Refusal.TheVariants.{WrongLine}
use Rattle.score.specs.declared.Score.{Score}

-- what `?` returns where it stops: the refusal that it met
pub stopped : {A : Type 0} {why : Refusal} (r : Result A Refusal) → IsErrAnd r (λ y. y ≡ why) → r ≡ Err why
stopped (Ok x) h = absurd h
stopped (Err y) h = ap Err h

-- the oscillator whose name a value is, found or refused
pub osc_found : (v : List ℕ) → ok_or (find (λ o. same_of v (name_of o)) (O.Vco ∷ O.Lfo ∷ O.Supersaw ∷ O.Formant ∷ [])) WrongLine ≡ osc_of v
unfolding osc_of
osc_found v = go (same_of v (name_of O.Vco)) (same_of v (name_of O.Lfo)) (same_of v (name_of O.Supersaw)) (same_of v (name_of O.Formant))
  where
    go : (a b c d : Bool)
        → ok_or (cond a (Some O.Vco) (cond b (Some O.Lfo) (cond c (Some O.Supersaw) (cond d (Some O.Formant) None)))) WrongLine
        ≡ cond a (Ok O.Vco) (cond b (Ok O.Lfo) (cond c (Ok O.Supersaw) (cond d (Ok O.Formant) (Err WrongLine))))
    go true b c d = refl
    go false true c d = refl
    go false false true d = refl
    go false false false true = refl
    go false false false false = refl

-- how a reading goes on after a line, by what the line says
taken : {A : Type 0} (r : Result A Refusal) (reads : List ℕ → (A → List ℕ → Reading) → Reading) (from to : Reader)
    → ((k : A → List ℕ → Reading) → reads (rest_of from) k ≡ and_then r (λ (x : A). k x (rest_of to))) → Takes reads from r to
taken (Ok x) reads from to h = h
taken (Err why) reads from to h = h

module _ {v : List ℕ} {from to : Reader} where
  pub osc_taken : {r : Result Osc Refusal} → IsTaken (ascii "osc") from v to → r ≡ osc_of v → Takes osc from r to
  unfolding osc osc_line
  osc_taken {r} t e = taken r osc from to (λ k. simp (t.asked, t.value, ← t.left, ← e))

  pub whole_taken : (key : List ℕ) (least most : ℕ) (n : Option Number) {r : Result ℕ Refusal} → IsTaken key from v to → n ≡ number_of v
      → r ≡ within_of least most n → Takes (whole key least most) from r to
  unfolding whole whole_line
  whole_taken key least most n {r} t i e = taken r (whole key least most) from to (λ k. simp (t.asked, t.value, ← t.left, ← i, ← e))

  pub control_taken : (key : List ℕ) (n : Option Number) {r : Result Control Refusal} → IsTaken key from v to → n ≡ number_of v
      → r ≡ control_of n → Takes (control key) from r to
  unfolding control control_line
  control_taken key n {r} t i e = taken r (control key) from to (λ k. simp (t.asked, t.value, ← t.left, ← i, ← e))

-- another line is refused
module _ {from : Reader} {why : Refusal} where
  pub osc_other : IsOther (ascii "osc") from why → (k : Osc → List ℕ → Reading) → osc (rest_of from) k ≡ Err why
  unfolding osc osc_line
  osc_other t k = simp (t.asked, t.refused)

  pub whole_other : (key : List ℕ) (least most : ℕ) → IsOther key from why → (k : ℕ → List ℕ → Reading) → whole key least most (rest_of from) k ≡ Err why
  unfolding whole whole_line
  whole_other key least most t k = simp (t.asked, t.refused)

  pub control_other : (key : List ℕ) → IsOther key from why → (k : Control → List ℕ → Reading) → control key (rest_of from) k ≡ Err why
  unfolding control control_line
  control_other key t k = simp (t.asked, t.refused)

-- a score whose last line was read
abbrev pub ended : Head → Inputs → List ℕ → Reading
ended head i = end_of (record { head = head; inputs = i })

-- what stands behind it is refused
module _ (r : Reader) (score : Score) where
  pub more_left : r.at < length r.text.now → end_of score (rest_of r) ≡ Err WrongLine
  unfolding end_of
  more_left h = simp (length-drop, ne_eqb (length r.text.now - r.at) 0 (λ e. omega arith))

  pub nothing_left : length r.text.now ≤ r.at → end_of score (rest_of r) ≡ Ok score
  unfolding end_of
  nothing_left h = simp (length-drop, eq-eqb (length r.text.now - r.at) 0 (omega arith))
