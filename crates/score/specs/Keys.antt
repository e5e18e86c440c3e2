-- The keys of a score's lines in their order, and the ranges of whole numbers, for the reader and for the text.
-- Assumes nothing.
use Rattle.std.specs.Prelude.{ℕ, List, [], ◌∷◌, get_or}
use Prim.Native.String.{String}
use Rattle.line.specs.Bytes.{ascii}
use Rattle.score.specs.declared.Control.{Control}
use Rattle.score.specs.declared.Control.TheVariants as C
use Rattle.score.specs.declared.Osc.{Osc}
use Rattle.score.specs.declared.Osc.TheVariants as O
use Rattle.score.specs.declared.Inputs.{Inputs}
use Rattle.score.specs.declared.Inputs.TheVariants.{Vco, Lfo, Supersaw, Formant}

-- ---- the first line: the oscillator's name
abbrev pub osc_key : String
osc_key = "osc"

abbrev pub name_of : Osc → List ℕ
name_of O.Vco = ascii "vco"
name_of O.Lfo = ascii "lfo"
name_of O.Supersaw = ascii "supersaw"
name_of O.Formant = ascii "formant"

-- ---- the head: whole numbers, each from least to most. The gate's line may be left out
pub record WholeKey : Type 0 where
  pub key : String
  pub least : ℕ
  pub most : ℕ

abbrev pub hz_key : WholeKey
hz_key = record { key = "hz"; least = 1000; most = 192000 }

abbrev pub gate_key : WholeKey
gate_key = record { key = "gate"; least = 1; most = 2 }

abbrev pub frames_key : WholeKey
frames_key = record { key = "frames"; least = 1; most = 480000 }

-- ---- the inputs: the Rust's port order and names
abbrev pub input_keys : Osc → List String
input_keys O.Vco = "voct" ∷ "fm" ∷ "pw" ∷ "sync" ∷ "fm_lin" ∷ []
input_keys O.Lfo = "rate" ∷ "depth" ∷ "reset" ∷ []
input_keys O.Supersaw = "voct" ∷ "detune" ∷ "mix" ∷ []
input_keys O.Formant = "v_oct" ∷ "vowel" ∷ "formant_shift" ∷ "vibrato" ∷ []

-- the oscillator whose inputs they are, their values in that order, and the inputs of such values, of which there is one for each key
abbrev pub owner_of : Inputs → Osc
owner_of (Vco i) = O.Vco
owner_of (Lfo i) = O.Lfo
owner_of (Supersaw i) = O.Supersaw
owner_of (Formant i) = O.Formant

abbrev pub controls_of : Inputs → List Control
controls_of (Vco i) = i.voct ∷ i.fm ∷ i.pw ∷ i.sync ∷ i.fm_lin ∷ []
controls_of (Lfo i) = i.rate ∷ i.depth ∷ i.reset ∷ []
controls_of (Supersaw i) = i.voct ∷ i.detune ∷ i.mix ∷ []
controls_of (Formant i) = i.v_oct ∷ i.vowel ∷ i.formant_shift ∷ i.vibrato ∷ []

abbrev pub nth : List Control → ℕ → Control
nth cs n = get_or cs n C.Nan

abbrev pub inputs_from : Osc → List Control → Inputs
inputs_from O.Vco cs = Vco (record { voct = nth cs 0; fm = nth cs 1; pw = nth cs 2; sync = nth cs 3; fm_lin = nth cs 4 })
inputs_from O.Lfo cs = Lfo (record { rate = nth cs 0; depth = nth cs 1; reset = nth cs 2 })
inputs_from O.Supersaw cs = Supersaw (record { voct = nth cs 0; detune = nth cs 1; mix = nth cs 2 })
inputs_from O.Formant cs = Formant (record { v_oct = nth cs 0; vowel = nth cs 1; formant_shift = nth cs 2; vibrato = nth cs 3 })
