-- Shortcuts of the code: no public contract and no promise cites them, so nobody need believe them; proofs/LaneLaws.antt and
-- proofs/Held.antt show that they are what the definitions say. A block's code does each line of the loop for eight oscillators at once,
-- the seven voices and the sub oscillator.
use Rattle.std.specs.Prelude.{Bool, true, false, ◌&&◌, List, [], ◌∷◌, ◌++◌, ℕ, zero, suc, Float}
use Rattle.std.specs.Float.{binary64}
use Rattle.std.specs.Float.Ieee.{add, sub, mul, div, lt, of_bits, fits}
use Rattle.laws.specs.Float.{zer, one, two, is_fin}
use Rattle.laws.specs.Lists.{all, tab}
use Rattle.common.specs.Phase.{turns, wrap_phase_of}
use Rattle.common.specs.declared.Hertz.{Hertz}
use Rattle.common.specs.declared.Turns.{Turns}
use Rattle.answer.specs.Answer.{volts2}
use Rattle.answer.specs.Mark.{mark_of}
use Rattle.answer.specs.declared.Answer.{Answer}
use Rattle.supersaw.specs.Consts.{mix_levels}
use Rattle.supersaw.specs.Voices.{at, dt_of, saw_of, sub_dt_of}
use Rattle.answer.specs.declared.Ticked.{Ticked}

-- the phases
unfoldable pub lanes_of : List Float → Turns → List Float
lanes_of phases low = tab (at phases) 7 ++ (low.0 ∷ [])

-- the increments
unfoldable pub incs_of : Float → Hertz → Hertz → List Float
incs_of detune base rate = tab (λ i. (dt_of i detune base rate).0) 7 ++ ((sub_dt_of base rate).0 ∷ [])

unfoldable pub saws_of : List Float → List Float → List Float
saws_of t dt = tab (λ i. saw_of (at t i) (at dt i)) 8

unfoldable pub sums_of : List Float → List Float → List Float
sums_of t dt = tab (λ i. add binary64 (at t i) (at dt i)) 8

unfoldable pub wraps_of : List Float → List Float
wraps_of x = tab (λ i. (wrap_phase_of (turns (at x i))).phase.0) 8

unfoldable pub lanes_finite : List Float → Bool
lanes_finite x = all (λ i. is_fin (at x i)) 8

-- the loop's sum
unfoldable pub mix_to : List Float → ℕ → Float
mix_to s zero = zer
mix_to s (suc n) = add binary64 (mix_to s n) (mul binary64 (at s n) (at mix_levels n))

-- its total_mix: 5.2
abbrev pub total_mix : Float
total_mix = of_bits binary64 0x4014cccccccccccd

unfoldable pub blend_of : List Float → Float → Float
blend_of s mix = add binary64 (mul binary64 (at s 3) (sub binary64 one mix)) (mul binary64 (div binary64 (mix_to s 7) total_mix) mix)

-- a tick's answer from both outputs, whether the phases were finite before their wrap and whether no control is NaN, beside the phases
-- after it
unfoldable pub moved_of : Float → Float → Bool → Bool → List Float → Ticked (List Float)
moved_of out low finite numbers t = record { answer = mark_of (volts2 out low) false true finite numbers; state = t }

-- an accepted tick
unfoldable pub stepped_of : List Float → List Float → Float → Bool → Ticked (List Float)
stepped_of t dt mix numbers =
    let saws = saws_of t dt in
    let next = sums_of t dt in
    moved_of (blend_of saws mix) (at saws 7) (lanes_finite next) numbers (wraps_of next)

-- a tick whose controls stand still: the memo holds, so only the phases move
abbrev pub held_told : List Float → Float → Bool → List Float → Answer
held_told dt mix numbers t = (stepped_of t dt mix numbers).answer

abbrev pub held_next : List Float → Float → Bool → List Float → List Float
held_next dt mix numbers t = (stepped_of t dt mix numbers).state

-- ---- the tick in which no oscillator comes near its step
-- more than an increment above its step, and more than one below the next; every f64 fits
unfoldable pub steady_of : Float → Float → Bool
steady_of t dt = fits binary64 t && (lt dt t && lt (add binary64 t dt) one)

unfoldable pub lanes_steady : List Float → List Float → Bool
lanes_steady t dt = all (λ i. steady_of (at t i) (at dt i)) 8

unfoldable pub quiet_of : Hertz → List Float → List Float → Bool
quiet_of base t dt = lt zer base.0 && lanes_steady t dt

unfoldable pub ramps_of : List Float → List Float
ramps_of t = tab (λ i. sub binary64 (sub binary64 (mul binary64 two (at t i)) one) zer) 8

-- it has no residual and no wrap
unfoldable pub ramped_of : List Float → List Float → Float → Bool → Ticked (List Float)
ramped_of t dt mix numbers = let ramps = ramps_of t in moved_of (blend_of ramps mix) (at ramps 7) true numbers (sums_of t dt)
