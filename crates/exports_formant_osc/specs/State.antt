-- A FormantOsc as floats and whole numbers, and its sample as a float.
use Rattle.std.specs.Prelude.{not, cond, List, [], ◌∷◌, ◌++◌, ℕ, ◌+◌, eqb, Float, get_or}
use Rattle.std.specs.Float.{nan}
use Rattle.answer.specs.declared.Volts.{Volts}
use Rattle.formant_osc.specs.declared.FormantOsc.{FormantOsc}
use Rattle.laws.specs.Lists.{tab}

-- how many there are
abbrev pub n_floats : ℕ
n_floats = 29

abbrev pub n_wholes : ℕ
n_wholes = 6

abbrev pub n_samples : ℕ
n_samples = 1

-- n floats of a list, from its cell k on
abbrev pub part : List Float → ℕ → ℕ → List Float
part l k n = tab (λ (i : ℕ). get_or l (k + i) nan) n

-- floats [phase, vibrato_phase, 10 of resonator_state, sample_rate, freq_memo.val, 15 of coef_memo.val]
-- wholes [freq_memo.key, freq_memo.valid, the three of coef_memo.key, coef_memo.valid]
unfoldable pub state_of : List Float → List ℕ → FormantOsc
state_of f w =
    record {
      phase = record { 0 = get_or f 0 nan };
      vibrato_phase = record { 0 = get_or f 1 nan };
      resonator_state = part f 2 10;
      sample_rate = record { 0 = get_or f 12 nan };
      freq_memo = record { key = get_or w 0 0; val = record { 0 = get_or f 13 nan }; valid = not (eqb (get_or w 1 0) 0) };
      coef_memo = record { key = (get_or w 2 0, get_or w 3 0, get_or w 4 0); val = part f 14 15; valid = not (eqb (get_or w 5 0) 0) };
    }

unfoldable pub floats_of : FormantOsc → List Float
floats_of s =
    (s.phase.0 ∷ s.vibrato_phase.0 ∷ part s.resonator_state 0 10)
    ++ (s.sample_rate.0 ∷ s.freq_memo.val.0 ∷ part s.coef_memo.val 0 15)

unfoldable pub wholes_of : FormantOsc → List ℕ
wholes_of s =
    let f = s.freq_memo in
    let c = s.coef_memo in
    f.key ∷ cond f.valid 1 0 ∷ c.key.0 ∷ c.key.1 ∷ c.key.2 ∷ cond c.valid 1 0 ∷ []

-- [out]
unfoldable pub samples_of : Volts → List Float
samples_of v = v.p10 ∷ []
