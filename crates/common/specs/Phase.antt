-- wrap_phase, polyblep and polyblamp, written from common.rs; whether a wrap passes a whole turn, which request CR 5 asks for; and two lines
-- that the oscillators share.
use Rattle.std.specs.Prelude.{Bool, cond, ◌&&◌, Float}
use Rattle.std.specs.Float.{binary64}
use Rattle.std.specs.Float.Ieee.{add, sub, mul, div, neg, lt, le, ne}
use Rattle.laws.specs.Float.{zer, one, two, is_fin}
use Rattle.numeric.specs.Floor.{floor_of}
use Rattle.common.specs.Consts.{three}
use Rattle.common.specs.declared.Hertz.{Hertz}
use Rattle.common.specs.declared.Turns.{Turns}
use Rattle.common.specs.declared.Wrapped.{Wrapped}

abbrev pub turns : Float → Turns
turns x = record { 0 = x }

-- not finite: 0; else x - floor(x), and 0 where that rounds to 1.0
unfoldable pub wrap_of : Float → Float
wrap_of x =
    let wrapped = sub binary64 x (floor_of x) in
    cond (is_fin x) (cond (le one wrapped) zer wrapped) zer

-- not of the Rust. A whole turn was passed: x is finite and floor(x) isn't 0
unfoldable pub turned_of : Float → Bool
turned_of x = is_fin x && ne (floor_of x) zer

-- what wrap_phase answers: the Rust's phase, and beside it whether a whole turn was passed
abbrev pub wrap_phase_of : Turns → Wrapped
wrap_phase_of x = record { phase = turns (wrap_of x.0); turned = turned_of x.0 }

-- t < dt: with t / dt, 2.0 * t - t * t - 1.0. t > 1.0 - dt: with (t - 1.0) / dt, t * t + 2.0 * t + 1.0. Else 0.0.
unfoldable pub polyblep_of : Float → Float → Float
polyblep_of t dt =
    let u = div binary64 t dt in
    let v = div binary64 (sub binary64 t one) dt in
    cond (lt t dt) (sub binary64 (sub binary64 (mul binary64 two u) (mul binary64 u u)) one)
    (cond (lt (sub binary64 one dt) t) (add binary64 (add binary64 (mul binary64 v v) (mul binary64 two v)) one)
    zer)

-- t < dt: with t / dt - 1.0, -1.0 / 3.0 * t * t * t. t > 1.0 - dt: with (t - 1.0) / dt + 1.0, 1.0 / 3.0 * t * t * t. Else 0.0.
unfoldable pub polyblamp_of : Float → Float → Float
polyblamp_of t dt =
    let u = sub binary64 (div binary64 t dt) one in
    let v = add binary64 (div binary64 (sub binary64 t one) dt) one in
    cond (lt t dt) (mul binary64 (mul binary64 (mul binary64 (div binary64 (neg one) three) u) u) u)
    (cond (lt (sub binary64 one dt) t) (mul binary64 (mul binary64 (mul binary64 (div binary64 one three) v) v) v)
    zer)

-- freq / self.sample_rate: what a phase grows by in a tick
unfoldable pub increment_of : Hertz → Hertz → Turns
increment_of freq rate = turns (div binary64 freq.0 rate.0)

-- if rising { self.phase = 0.0 }: the phase that a tick uses
unfoldable pub restart_of : Turns → Bool → Turns
restart_of phase rising = cond rising (turns zer) phase
