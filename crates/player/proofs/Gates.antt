-- The gate's line: which threshold it says, that the oscillators get it, and where it does nothing.
use mathlib.Core.Path.{refl}
use Rattle.lfo.specs.Lfo.{new_lfo}
use Rattle.vco.specs.Vco.{new_vco}
use Rattle.player.specs.Begin.{threshold_of}
use Rattle.player.specs.Play.{heard_from, heard_of, play_of}
use Rattle.player.specs.Player.{player_from}
use Rattle.player.specs.Promises.{Issues, GateHeld, GateAbsent, GateIdle}

pub issues : Issues
unfolding threshold_of
issues = record { absent = refl; first = refl; second = refl }

pub gate_held : GateHeld
unfolding player_from new_vco new_lfo
gate_held s = record { vco = refl; lfo = refl }

pub gate_absent : GateAbsent
unfolding play_of heard_of threshold_of
gate_absent s = refl

pub gate_idle : GateIdle
unfolding play_of heard_of heard_from
gate_idle = record { supersaw = λ s g h i e. simp e; formant = λ s g h i e. simp e }
