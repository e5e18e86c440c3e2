-- The tests behind the scope's refusals 1, 2, 5 and 6.
use Rattle.std.specs.Prelude.{Bool, true, cond, ◌&&◌, ◌||◌, List, ℕ, zero, suc, leb, ltb, Float, length, get_or}
use Rattle.std.specs.Float.Ieee.{lt, le, eq}
use Rattle.laws.specs.Float.{zer, one}
use Rattle.common.specs.Consts.{gate_threshold, low_gate_threshold, rate_low, rate_high}
use Rattle.common.specs.declared.Hertz.{Hertz}
use Rattle.common.specs.declared.Turns.{Turns}

-- 1: a rate from 1,000 to 192,000
unfoldable pub rate_ok : Hertz → Bool
rate_ok r = le rate_low r.0 && le r.0 rate_high

-- 2: a phase in [0, 1)
unfoldable pub phase_ok : Turns → Bool
phase_ok p = le zer p.0 && lt p.0 one

-- 2: a gate's threshold, which is 2.5 or 1.0 by its value
unfoldable pub threshold_ok : Float → Bool
threshold_ok t = eq t gate_threshold || eq t low_gate_threshold

-- what refuses the state of an oscillator with a phase and a gate: 1 its rate, 2 its phase or its threshold
abbrev pub gated_refusal_of : Hertz → Turns → Float → ℕ
gated_refusal_of r p t = cond (rate_ok r) (cond (phase_ok p && threshold_ok t) 0 2) 1

-- each of the first n draws is below 2 ^ 53
unfoldable pub draws_ok : List ℕ → ℕ → Bool
draws_ok draws zero = true
draws_ok draws (suc i) = draws_ok draws i && ltb (get_or draws i 0) 9007199254740992

-- where n draws are needed. 5: fewer are lent; 6: one of those n is 2 ^ 53 or more
unfoldable pub draws_refusal_of : ℕ → List ℕ → ℕ
draws_refusal_of n draws = cond (leb n (length draws)) (cond (draws_ok draws n) 0 6) 5
