-- The mark of an accepted tick: the scope, "Marks and tally", and the request for a fifth mark.
use Rattle.std.specs.Prelude.{Bool, true, cond, not, ◌&&◌, List, [], ◌∷◌, ℕ, Float}
use Rattle.std.specs.Float.Ieee.{is_nan}
use Rattle.laws.specs.Float.{is_fin}
use Rattle.answer.specs.Answer.{answer_of, cleared, notfinite, lost, steered, clean, told}
use Rattle.answer.specs.declared.Volts.{Volts}
use Rattle.answer.specs.declared.Answer.{Answer}

-- an output that isn't wanted reads 0.0, so this asks the wanted ones
unfoldable pub all_finite : Volts → Bool
all_finite v = is_fin v.p10 && (is_fin v.p11 && (is_fin v.p12 && (is_fin v.p13 && (is_fin v.p14 && is_fin v.p15))))

-- none of these controls is NaN; an infinity is a number
unfoldable pub all_numbers : List Float → Bool
all_numbers [] = true
all_numbers (x ∷ xs) = not (is_nan x) && all_numbers xs

-- the first rule that applies: the string zeroed its line; something isn't finite; a phase was lost; a control given to the tick is NaN;
-- nothing else
unfoldable pub rule_of : Bool → Bool → Bool → Bool → ℕ
rule_of zeroed finite phases numbers = cond zeroed cleared (cond finite (cond phases (cond numbers clean steered) lost) notfinite)

-- a tick's answer by these rules
unfoldable pub marked_of : Volts → Bool → Bool → Bool → Bool → Answer
marked_of v zeroed finite phases numbers = answer_of (told (rule_of zeroed finite phases numbers)) v

-- `sums` says that what stands before an output's clamp is finite, `phases` that each phase plus its increment is, `numbers` that no control
-- given is NaN
unfoldable pub mark_of : Volts → Bool → Bool → Bool → Bool → Answer
mark_of v zeroed sums phases numbers = marked_of v zeroed (sums && all_finite v) phases numbers
