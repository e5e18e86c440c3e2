-- The tally over a lent slice of counts: begun, finished, cleared, notfinite, lost, steered.
use Rattle.std.specs.Prelude.{List, ℕ, Result, Ok, Err}
use Rattle.laws.specs.Float.{zer}
use Rattle.answer.specs.Answer.{answer_of, volts1}
use Rattle.answer.specs.Tally.{tally_of}
use Rattle.boundary.specs.Flat.{tally_from, counts_of}
use Rattle.common.specs.Refusal.{number_of}
use Rattle.common.specs.declared.Refusal.{Refusal}
use Rattle.answer.specs.declared.Tally.{Tally}

-- what a call leaves: its number and the counts
pub record Kept : Type 0 where
  pub code : ℕ
  pub counts : List ℕ

abbrev pub kept : ℕ → List ℕ → Kept
kept n l = record { code = n; counts = l }

-- a refusal leaves the counts
unfoldable pub kept_by : List ℕ → Result Tally Refusal → Kept
kept_by l (Ok t) = kept 0 (counts_of t)
kept_by l (Err e) = kept (number_of e) l

-- the tally that the counts are is given the answer that a host was told by this number; its volts count nowhere
unfoldable pub given_to : ℕ → List ℕ → Result Tally Refusal → Kept
given_to code l (Ok t) = kept_by l (tally_of t (answer_of code (volts1 zer)))
given_to code l (Err e) = kept (number_of e) l

unfoldable pub tally_at : ℕ → List ℕ → Kept
tally_at code l = given_to code l (tally_from l)
