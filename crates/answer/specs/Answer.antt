-- What an answer stands for: the scope's number of each case, and its values; and the volts of so many outputs.
use Rattle.std.specs.Prelude.{Bool, true, false, cond, List, ℕ, ◌+◌, eqb, Float, get_or}
use Rattle.laws.specs.Float.{zer}
use Rattle.answer.specs.declared.Volts.{Volts}
use Rattle.answer.specs.declared.Answer.{Answer}
use Rattle.answer.specs.declared.Answer.TheVariants as answer

-- ---- volts: port 10 first; an output that an oscillator doesn't have reads 0.0
abbrev pub volts6 : Float → Float → Float → Float → Float → Float → Volts
volts6 a b c d e f = record { p10 = a; p11 = b; p12 = c; p13 = d; p14 = e; p15 = f }

abbrev pub volts4 : Float → Float → Float → Float → Volts
volts4 a b c d = volts6 a b c d zer zer

abbrev pub volts2 : Float → Float → Volts
volts2 a b = volts4 a b zer zer

abbrev pub volts1 : Float → Volts
volts1 a = volts2 a zer

-- of so many outputs, port 10 first
abbrev pub volts_from : List Float → Volts
volts_from l = volts6 (get_or l 0 zer) (get_or l 1 zer) (get_or l 2 zer) (get_or l 3 zer) (get_or l 4 zer) (get_or l 5 zer)

-- ---- the marks' numbers. A number keeps its meaning: the first four are those of the scope's rules, and steered, whose rule comes before
-- clean's, came with a later request
abbrev pub cleared : ℕ
cleared = 1

abbrev pub notfinite : ℕ
notfinite = 2

abbrev pub lost : ℕ
lost = 3

abbrev pub clean : ℕ
clean = 4

abbrev pub steered : ℕ
steered = 5

-- what a host is told of a mark, by a tick and in the marks of a block
abbrev pub told : ℕ → ℕ
told mark = 10 + mark

-- an answer's mark; 0 of a refused tick
unfoldable pub mark_number : Answer → ℕ
mark_number (answer.Cleared v) = cleared
mark_number (answer.NotFinite v) = notfinite
mark_number (answer.Lost v) = lost
mark_number (answer.Clean v) = clean
mark_number (answer.Steered v) = steered
mark_number (answer.Refused n) = 0

-- the sample volts; a refused tick has none
unfoldable pub volts_of : Answer → Volts
volts_of (answer.Cleared v) = v
volts_of (answer.NotFinite v) = v
volts_of (answer.Lost v) = v
volts_of (answer.Clean v) = v
volts_of (answer.Steered v) = v
volts_of (answer.Refused n) = volts1 zer

-- the scope's number of a refusal; 0 of an accepted tick
unfoldable pub refusal_of : Answer → ℕ
refusal_of (answer.Cleared v) = 0
refusal_of (answer.NotFinite v) = 0
refusal_of (answer.Lost v) = 0
refusal_of (answer.Clean v) = 0
refusal_of (answer.Steered v) = 0
refusal_of (answer.Refused n) = n

unfoldable pub accepted : Answer → Bool
accepted (answer.Cleared v) = true
accepted (answer.NotFinite v) = true
accepted (answer.Lost v) = true
accepted (answer.Clean v) = true
accepted (answer.Steered v) = true
accepted (answer.Refused n) = false

-- what a host is told of an answer: its mark, or what refused it
unfoldable pub host_number : Answer → ℕ
host_number a = cond (accepted a) (told (mark_number a)) (refusal_of a)

-- and back: the answer that a host was told by n, with these volts. A number that is no mark's refuses.
unfoldable pub answer_of : ℕ → Volts → Answer
answer_of n v =
    cond (eqb n (told cleared)) (answer.Cleared v)
    (cond (eqb n (told notfinite)) (answer.NotFinite v)
    (cond (eqb n (told lost)) (answer.Lost v)
    (cond (eqb n (told steered)) (answer.Steered v)
    (cond (eqb n (told clean)) (answer.Clean v)
    (answer.Refused n)))))
