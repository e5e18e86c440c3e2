-- The tally: the scope, "Marks and tally" and refusal 7.
use Rattle.std.specs.Prelude.{Bool, cond, List, [], ◌∷◌, ℕ, ◌+◌, eqb, Result, Ok, Err}
use Rattle.common.specs.Refusal.{refused_number}
use Rattle.answer.specs.Answer.{mark_number, accepted, cleared, notfinite, lost, steered, clean}
use Rattle.common.specs.declared.Refusal.{Refusal}
use Rattle.common.specs.declared.Refusal.TheVariants as refusal
use Rattle.answer.specs.declared.Answer.{Answer}
use Rattle.answer.specs.declared.Tally.{Tally}

abbrev pub new_tally : Tally
new_tally = record { begun = 0; finished = 0; cleared = 0; notfinite = 0; lost = 0; steered = 0 }

abbrev pub sum_of : Tally → ℕ
sum_of t = t.finished + t.cleared + t.notfinite + t.lost + t.steered

-- as whole numbers: no wrap
unfoldable pub adds_up : Tally → Bool
adds_up t = eqb t.begun (sum_of t)

unfoldable pub one_if : ℕ → ℕ → ℕ
one_if n k = cond (eqb n k) 1 0

-- one answer with the mark n more
unfoldable pub counted : Tally → ℕ → Tally
counted t n =
    record {
      begun = t.begun + 1;
      finished = t.finished + one_if n clean;
      cleared = t.cleared + one_if n cleared;
      notfinite = t.notfinite + one_if n notfinite;
      lost = t.lost + one_if n lost;
      steered = t.steered + one_if n steered;
    }

-- the tally that a call leaves: of a refused one that which stays
unfoldable pub tally_or : Tally → Result Tally Refusal → Tally
tally_or kept (Ok t) = t
tally_or kept (Err e) = kept

-- 7 where begun isn't the sum; a refused tick counts nowhere; 7 where an accepted one comes and begun is 4294967295
unfoldable pub tally_of : Tally → Answer → Result Tally Refusal
tally_of t a =
    cond (adds_up t)
    (cond (eqb (mark_number a) 0) (Ok t)
    (cond (eqb t.begun 4294967295) (Err refusal.Tally) (Ok (counted t (mark_number a)))))
    (Err refusal.Tally)

-- a tally with the answers that it took, the last first
pub record Run : Type 0 where
  pub tally : Tally
  pub took : List Answer

unfoldable pub settle : Run → Answer → Result Tally Refusal → Run
settle r a x = cond (eqb (refused_number x) 0) (record { tally = tally_or r.tally x; took = a ∷ r.took }) r

-- each answer given to the tally, in order
unfoldable pub run : Run → List Answer → Run
run r [] = r
run r (a ∷ xs) = run (settle r a (tally_of r.tally a)) xs

abbrev pub new_run : Run
new_run = record { tally = new_tally; took = [] }

-- how many answers of a list have the mark n
unfoldable pub many : ℕ → List Answer → ℕ
many n [] = 0
many n (a ∷ xs) = many n xs + one_if (mark_number a) n

-- how many of them are accepted ticks
unfoldable pub accepted_in : List Answer → ℕ
accepted_in [] = 0
accepted_in (a ∷ xs) = accepted_in xs + cond (accepted a) 1 0

-- a new tally that was given each answer of a list, in order
unfoldable pub tally_after : List Answer → Tally
tally_after xs = (run new_run xs).tally
