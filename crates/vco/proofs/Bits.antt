-- A mask is asked of the four outputs, and its other bits do nothing.
use Rattle.std.specs.Prelude.{Option}
use mathlib.Core.Path.{◌≡◌}
use Prim.Native.Nat.{ℕ}
use lib.Dec.{lit<}
use lib.Ieee.{Float}
use Rattle.std.specs.Prelude.{Option}
use Rattle.common.specs.Ports.{wants, WantAlike}
use Rattle.vco.specs.Promises.{BitsBeyond}
use Rattle.vco.specs.Vco.{vco_volts_of, vco_answer_of, vco_sound_of, vco_tick_of}

volts_same : (v w : ℕ) → WantAlike 4 v w → (at : Option Float) (p old pw dt : Float) → vco_volts_of at p old pw dt v ≡ vco_volts_of at p old pw dt w
unfolding vco_volts_of
volts_same v w h at p old pw dt =
    let sin : wants v 1 ≡ wants w 1 = h 0 (lit< tt) in
    let tri : wants v 2 ≡ wants w 2 = h 1 (lit< tt) in
    let saw : wants v 4 ≡ wants w 4 = h 2 (lit< tt) in
    let sqr : wants v 8 ≡ wants w 8 = h 3 (lit< tt) in
    simp (sin, tri, saw, sqr)

pub bits_beyond : BitsBeyond
unfolding vco_tick_of vco_sound_of vco_answer_of
bits_beyond s c v w h = simp (volts_same v w h)
