-- What each exported call answers, and what it leaves in the lent slices. f, w, m, t and l are floats, wholes, microvolts, text and written as
-- they stood; a refusal leaves them.
use Rattle.std.specs.Prelude.{cond, List, [], ◌∷◌, ℕ, eqb, Float, ℤ, length, Result, Ok, Err}
use Rattle.boundary.specs.Flat.{Kept, kept, kept_sized}
use Rattle.score.specs.Refusal.{refusal_number}
use Rattle.score.specs.Score.{Reading, score_of}
use Rattle.score.specs.declared.Refusal.{Refusal}
use Rattle.score_writer.specs.Writing.{Writing, writing_of, written_of}
use Rattle.exports_score.specs.Cells.{floats_of, wholes_of, microvolts_of, score_at}

-- the number that a call answers: 0 where it is done
abbrev pub code_of : Result (Unit {0}) Refusal → ℕ
code_of (Ok done) = 0
code_of (Err why) = refusal_number why

-- ---- the volts
-- 0 and the score's values, or what refused it
unfoldable pub kept_of : Reading → List Float → List ℕ → Kept
kept_of (Ok s) f w = kept 0 (floats_of s) (wholes_of s)
kept_of (Err why) f w = kept (refusal_number why) f w

-- what the text reads as, unless the lengths refuse
unfoldable pub score_read_at : List ℕ → List Float → List ℕ → Kept
score_read_at text f w = kept_sized 5 4 (kept_of (score_of text) f w) f w

-- ---- the whole microvolts
pub record Told : Type 0 where
  pub code : ℕ
  pub microvolts : List ℤ
  pub wholes : List ℕ

abbrev pub told : ℕ → List ℤ → List ℕ → Told
told n m w = record { code = n; microvolts = m; wholes = w }

-- 0 and the score's values, or what refused it
unfoldable pub told_of : Reading → List ℤ → List ℕ → Told
told_of (Ok s) m w = told 0 (microvolts_of s) (wholes_of s)
told_of (Err why) m w = told (refusal_number why) m w

-- what the text reads as, after the lengths: 54 by microvolts, 51 by wholes
unfoldable pub score_values_at : List ℕ → List ℤ → List ℕ → Told
score_values_at text m w =
    cond (eqb (length m) 5) (cond (eqb (length w) 4) (told_of (score_of text) m w) (told 51 m w)) (told 54 m w)

-- ---- what is written: the text, and its length
pub record Saved : Type 0 where
  pub code : ℕ
  pub text : List ℕ
  pub written : List ℕ

abbrev pub saved : ℕ → List ℕ → List ℕ → Saved
saved n t l = record { code = n; text = t; written = l }

-- 0 and the length of what was written, or what refused it; t is the text at exit
abbrev pub saved_by : Writing → List ℕ → List ℕ → Saved
saved_by (Ok n) t l = saved 0 t (n ∷ [])
saved_by (Err why) t l = saved (refusal_number why) t l

-- the score is written, or was refused
unfoldable pub saved_of : Reading → List ℕ → List ℕ → Saved
saved_of (Ok s) t l = saved_by (writing_of s (length t)) (written_of s t) l
saved_of (Err why) t l = saved (refusal_number why) t l

-- what the cells say is saved, after the lengths: 54 by microvolts, 51 by wholes, 55 by written
unfoldable pub score_write_at : List ℤ → List ℕ → List ℕ → List ℕ → Saved
score_write_at m w t l =
    cond (eqb (length m) 5)
    (cond (eqb (length w) 4) (cond (eqb (length l) 1) (saved_of (score_at m w) t l) (saved 55 t l)) (saved 51 t l))
    (saved 54 t l)
