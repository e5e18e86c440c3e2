-- A Wavetable as floats and whole numbers, and its sample as a float.
use Rattle.std.specs.Prelude.{not, cond, List, [], ◌∷◌, ◌++◌, ℕ, ◌+◌, eqb, Float, get_or}
use Rattle.std.specs.Float.{nan}
use Rattle.answer.specs.declared.Volts.{Volts}
use Rattle.boundary.specs.Edge.{n_edge, edge_floats, edge_at}
use Rattle.wavetable.specs.Wavetable.{edge_of}
use Rattle.wavetable.specs.declared.Wavetable.{Wavetable}

-- how many there are: three floats and those of the edge record
abbrev pub n_floats : ℕ
n_floats = 3 + n_edge

abbrev pub n_wholes : ℕ
n_wholes = 2

abbrev pub n_samples : ℕ
n_samples = 1

-- floats [phase, sample_rate, prev_sync, threshold, freq_memo.val], wholes [freq_memo.key, freq_memo.valid]
unfoldable pub state_of : List Float → List ℕ → Wavetable
state_of f w =
    record {
      phase = record { 0 = get_or f 0 nan };
      sample_rate = record { 0 = get_or f 1 nan };
      prev_sync = (edge_at f 2).prev;
      threshold = (edge_at f 2).threshold;
      freq_memo = record { key = get_or w 0 0; val = record { 0 = get_or f (2 + n_edge) nan }; valid = not (eqb (get_or w 1 0) 0) };
    }

unfoldable pub floats_of : Wavetable → List Float
floats_of s = s.phase.0 ∷ s.sample_rate.0 ∷ (edge_floats (edge_of s) ++ (s.freq_memo.val.0 ∷ []))

unfoldable pub wholes_of : Wavetable → List ℕ
wholes_of s = s.freq_memo.key ∷ cond s.freq_memo.valid 1 0 ∷ []

-- [out]
unfoldable pub samples_of : Volts → List Float
samples_of v = v.p10 ∷ []
