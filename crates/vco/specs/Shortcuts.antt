-- Shortcuts of the code: no public contract and no promise cites them, so nobody need believe them; proofs/PulseLaws.antt,
-- proofs/CalmLaws.antt and proofs/Held.antt show that they are what the definitions say.
use Rattle.std.specs.Prelude.{None, Option, Bool, false, ◌≡◌, ℕ, T, Float}
use Rattle.std.specs.Float.{binary64}
use Rattle.std.specs.Float.Ieee.{add, lt, le}
use Rattle.answer.specs.Answer.{volts4}
use Rattle.answer.specs.declared.Answer.{Answer}
use Rattle.answer.specs.declared.Volts.{Volts}
use Rattle.common.specs.Phase.{turns, wrap_phase_of, polyblep_of, polyblamp_of}
use Rattle.common.specs.Ports.{wants, out_of}
use Rattle.common.specs.declared.Turns.{Turns}
use Rattle.laws.specs.Float.{zer, one}
use Rattle.vco.specs.Consts.{pw_low, pw_high}
use Rattle.vco.specs.Vco.{synced_of, vco_answer_of}
use Rattle.vco.specs.Waves.{sine_of, saw_of, sqr_of, corner_half_of, tri_of}

-- ---- a pulse width as the clamp leaves it: not below 0.05 and not above 0.95; it may be NaN
abbrev pub Width : Float → Type 0
Width pw = (lt pw pw_low ≡ false) × (lt pw_high pw ≡ false)

-- ---- a quiet tick: no edge, and no corner within a tick, so every residual is 0
pub record Quiet (at : Option Float) (p edge dt : Float) : Type 0 where
  pub nowhere : at ≡ None
  pub wrap : polyblep_of p dt ≡ zer
  pub fall : polyblep_of edge dt ≡ zer
  pub lower : polyblamp_of p dt ≡ zer
  pub upper : polyblamp_of (corner_half_of p) dt ≡ zer
  pub small : T (le dt one)

-- its outputs: nothing is smoothed
abbrev pub plain_volts : Float → Float → ℕ → Volts
plain_volts p pw wanted =
    volts4
    (sine_of (wants wanted 1) p)
    (out_of (wants wanted 2) (tri_of p zer zer))
    (out_of (wants wanted 4) (saw_of p zer))
    (out_of (wants wanted 8) (sqr_of p pw zer zer))

-- ---- a tick whose controls stand still: the memo holds, and no edge comes after the first. So only the phase moves, and the crossing is
-- forgotten. Held is the phase before the hard sync, and where this tick takes the edge.
pub record Held : Type 0 where
  pub phase : Turns
  pub at : Option Float

abbrev pub held : Turns → Option Float → Held
held p at = record { phase = p; at = at }

unfoldable pub held_told : ℕ → Float → Bool → Turns → Held → Answer
held_told wanted pw numbers dt h = vco_answer_of h.at (synced_of h.phase h.at).0 h.phase.0 pw dt.0 wanted numbers

unfoldable pub held_next : Turns → Held → Held
held_next dt h = held (wrap_phase_of (turns (add binary64 (synced_of h.phase h.at).0 dt.0))).phase None
