-- The Vco's waveforms, written from Vco::tick_wanted. p is its `phase`, dt its `dt_abs`, and old its `p_old`.
use Rattle.std.specs.Prelude.{None, Option, Some, Bool, cond, Float}
use Rattle.std.specs.Float.{binary64}
use Rattle.std.specs.Float.Ieee.{lt, mul, div, sub, add, neg}
use Rattle.common.specs.Consts.{four, five, half}
use Rattle.common.specs.Phase.{polyblep_of}
use Rattle.laws.specs.Float.{zer, one, two}
use Rattle.numeric.specs.Basic.{fabs_of, tau}
use Rattle.numeric.specs.Floor.{floor_of}
use Rattle.numeric.specs.Trig.{sin_of}

-- sin(phase * TAU) * 5.0
unfoldable pub sine_of : Bool → Float → Float
sine_of want p = cond want (mul binary64 (sin_of (mul binary64 p tau)) five) zer

-- saw = 2.0 * phase - 1.0; saw -= wrap
unfoldable pub saw_of : Float → Float → Float
saw_of p wrap = sub binary64 (sub binary64 (mul binary64 two p) one) wrap

-- if phase < pw { 1.0 } else { -1.0 }
unfoldable pub level_of : Float → Float → Float
level_of p pw = cond (lt p pw) one (neg one)

-- pw_edge = x - floor(x) with x = phase + (1.0 - pw)
unfoldable pub pw_edge_of : Float → Float → Float
pw_edge_of p pw = let x = add binary64 p (sub binary64 one pw) in sub binary64 x (floor_of x)

-- sqr = that level; sqr += wrap; sqr -= fall
unfoldable pub sqr_of : Float → Float → Float → Float → Float
sqr_of p pw wrap fall = sub binary64 (add binary64 (level_of p pw) wrap) fall

-- corner_half = if x < 0.0 { x + 1.0 } else { x } with x = phase - 0.5
unfoldable pub corner_half_of : Float → Float
corner_half_of p = let x = sub binary64 p half in cond (lt x zer) (add binary64 x one) x

-- tri = 1.0 - 4.0 * fabs(phase - 0.5); tri += lower; tri -= upper
unfoldable pub tri_of : Float → Float → Float → Float
tri_of p lower upper = sub binary64 (add binary64 (sub binary64 one (mul binary64 four (fabs_of (sub binary64 p half)))) lower) upper

-- at a sync edge: x += (step / 2.0) * blep with blep = polyblep((1.0 - frac) * dt_abs, dt_abs)
unfoldable pub stepped_of : Option Float → Float → Float → Float → Float
stepped_of None x step dt = x
stepped_of (Some frac) x step dt = add binary64 x (mul binary64 (div binary64 step two) (polyblep_of (mul binary64 (sub binary64 one frac) dt) dt))
