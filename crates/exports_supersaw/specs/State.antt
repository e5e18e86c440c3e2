-- A Supersaw as floats and whole numbers, and its samples as floats.
use Rattle.std.specs.Prelude.{cond, not, List, [], ◌∷◌, ◌++◌, ℕ, eqb, get_or, Float}
use Rattle.laws.specs.Lists.{tab}
use Rattle.supersaw.specs.Voices.{at}
use Rattle.answer.specs.declared.Volts.{Volts}
use Rattle.supersaw.specs.declared.Supersaw.{Supersaw}

-- how many there are
abbrev pub n_floats : ℕ
n_floats = 10

abbrev pub n_wholes : ℕ
n_wholes = 2

abbrev pub n_samples : ℕ
n_samples = 2

-- floats [phases 0 to 6, sub_phase, sample_rate, freq_memo.val], wholes [freq_memo.key, freq_memo.valid]
unfoldable pub state_of : List Float → List ℕ → Supersaw
state_of f w =
    record {
      phases = tab (at f) 7;
      sub_phase = record { 0 = at f 7 };
      sample_rate = record { 0 = at f 8 };
      freq_memo = record { key = get_or w 0 0; val = record { 0 = at f 9 }; valid = not (eqb (get_or w 1 0) 0) };
    }

unfoldable pub floats_of : Supersaw → List Float
floats_of s = tab (at s.phases) 7 ++ (s.sub_phase.0 ∷ s.sample_rate.0 ∷ s.freq_memo.val.0 ∷ [])

unfoldable pub wholes_of : Supersaw → List ℕ
wholes_of s = s.freq_memo.key ∷ cond s.freq_memo.valid 1 0 ∷ []

-- [out, sub]
unfoldable pub samples_of : Volts → List Float
samples_of v = v.p10 ∷ v.p11 ∷ []
