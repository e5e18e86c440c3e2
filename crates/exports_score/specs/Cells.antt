-- A score as whole numbers with five floats, or with five microvolts.
use Rattle.std.specs.Prelude.{Bool, true, false, cond, List, [], ◌∷◌, map, ℕ, eqb, Float, ℤ, pos, negsuc, length, get_or, drop}
use Rattle.std.specs.Prelude.{Option, Some, None, Result, Ok, Err}
use Rattle.score.specs.Control.{volts_of}
use Rattle.score.specs.Keys.{input_keys, owner_of, controls_of, inputs_from}
use Rattle.score.specs.Refusal.{and_then}
use Rattle.score.specs.Score.{Reading}
use Rattle.score.specs.declared.Control.{Control}
use Rattle.score.specs.declared.Control.TheVariants.{Microvolts, Nan}
use Rattle.score.specs.declared.Osc.{Osc}
use Rattle.score.specs.declared.Osc.TheVariants as O
use Rattle.score.specs.declared.Inputs.{Inputs}
use Rattle.score.specs.declared.Head.{Head}
use Rattle.score.specs.declared.Refusal.{Refusal}
use Rattle.score.specs.declared.Refusal.TheVariants.{OutOfRange}
use Rattle.score.specs.declared.Score.{Score}

-- ---- the cells of a score
abbrev pub osc_number : Osc → ℕ
osc_number O.Vco = 0
osc_number O.Lfo = 1
osc_number O.Supersaw = 2
osc_number O.Formant = 3

-- what stands past the last input: 0 microvolts, and so 0.0 V
abbrev pub none : Control
none = Microvolts (pos 0)

-- the inputs in port order
abbrev pub port_of : Inputs → ℕ → Control
port_of i k = get_or (controls_of i) k none

unfoldable pub ports_of : Inputs → List Control
ports_of i = port_of i 0 ∷ port_of i 1 ∷ port_of i 2 ∷ port_of i 3 ∷ port_of i 4 ∷ []

-- the issue that the gate's line says, 0 where there is no line
unfoldable pub gate_number : Option ℕ → ℕ
gate_number None = 0
gate_number (Some n) = n

-- [osc, hz, frames, gate]
unfoldable pub wholes_of : Score → List ℕ
wholes_of s = osc_number (owner_of s.inputs) ∷ s.head.hz ∷ s.head.frames ∷ gate_number s.head.gate ∷ []

unfoldable pub floats_of : Score → List Float
floats_of s = map volts_of (ports_of s.inputs)

-- whole microvolts; nan is marked by -2147483648, which is no score's
unfoldable pub cell_of : Control → ℤ
cell_of (Microvolts n) = n
cell_of Nan = negsuc 2147483647

unfoldable pub microvolts_of : Score → List ℤ
microvolts_of s = map cell_of (ports_of s.inputs)

-- ---- the score of a host's cells, as the reader would give it; out of range where they are none's. Whether its numbers are in range the writer asks
unfoldable pub control_at : ℤ → Control
control_at (pos n) = Microvolts (pos n)
control_at (negsuc n) = cond (eqb n 2147483647) Nan (Microvolts (negsuc n))

abbrev pub is_zero : ℤ → Bool
is_zero (pos n) = eqb n 0
is_zero (negsuc n) = false

abbrev pub zeros : List ℤ → Bool
zeros [] = true
zeros (n ∷ ns) = cond (is_zero n) (zeros ns) false

-- the cells past an oscillator's last input are 0
unfoldable pub inputs_in : Osc → List ℤ → Result Inputs Refusal
inputs_in o m = cond (zeros (drop (length (input_keys o)) m)) (Ok (inputs_from o (map control_at m))) (Err OutOfRange)

-- an oscillator that isn't known is out of range too: it is no line that could be wrong
unfoldable pub osc_at : ℕ → Result Osc Refusal
osc_at n =
    cond (eqb n (osc_number O.Vco)) (Ok O.Vco)
    (cond (eqb n (osc_number O.Lfo)) (Ok O.Lfo)
    (cond (eqb n (osc_number O.Supersaw)) (Ok O.Supersaw)
    (cond (eqb n (osc_number O.Formant)) (Ok O.Formant)
    (Err OutOfRange))))

-- 0 is no issue: it says that there is no line
unfoldable pub gate_at : ℕ → Option ℕ
gate_at n = cond (eqb n 0) None (Some n)

abbrev pub head_at : List ℕ → Head
head_at w = record { hz = get_or w 1 0; gate = gate_at (get_or w 3 0); frames = get_or w 2 0 }

unfoldable pub score_at : List ℤ → List ℕ → Reading
score_at m w = and_then (osc_at (get_or w 0 0)) λ o. and_then (inputs_in o m) λ i. Ok (record { head = head_at w; inputs = i })
