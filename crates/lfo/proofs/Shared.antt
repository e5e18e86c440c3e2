-- A sine computed once, where sin or sin_uni is wanted, serves both.
use mathlib.Core.Bool.{Bool, true, false, cond, ◌||◌}
use mathlib.Core.Path.{◌≡◌, refl}
use lib.Ieee.{Float}
use Rattle.laws.specs.Float.{zer}
use Rattle.lfo.specs.Waves.{sin_wave, sin_uni_wave}

pub sin_shared : (want other : Bool) (sine scale : Float) → sin_wave want (cond (want || other) sine zer) scale ≡ sin_wave want sine scale
unfolding sin_wave
sin_shared true other sine scale = refl
sin_shared false other sine scale = refl

pub uni_shared : (other want : Bool) (sine depth : Float) → sin_uni_wave want (cond (other || want) sine zer) depth ≡ sin_uni_wave want sine depth
unfolding sin_uni_wave
uni_shared true true sine depth = refl
uni_shared false true sine depth = refl
uni_shared other false sine depth = refl
