-- An Lfo as floats and whole numbers, and its samples as floats.
use Rattle.std.specs.Prelude.{not, cond, List, [], ◌∷◌, ◌++◌, ℕ, ◌+◌, eqb, Float, get_or}
use Rattle.std.specs.Float.{nan}
use Rattle.answer.specs.declared.Volts.{Volts}
use Rattle.boundary.specs.Edge.{n_edge, edge_floats, edge_at}
use Rattle.lfo.specs.declared.Lfo.{Lfo}

-- how many there are: three floats and those of the edge record
abbrev pub n_floats : ℕ
n_floats = 3 + n_edge

abbrev pub n_wholes : ℕ
n_wholes = 2

abbrev pub n_samples : ℕ
n_samples = 6

-- floats [phase, sample_rate, reset_edge.prev, reset_edge.threshold, freq_memo.val], wholes [freq_memo.key, freq_memo.valid]
unfoldable pub state_of : List Float → List ℕ → Lfo
state_of f w =
    record {
      phase = record { 0 = get_or f 0 nan };
      sample_rate = record { 0 = get_or f 1 nan };
      reset_edge = edge_at f 2;
      freq_memo = record { key = get_or w 0 0; val = record { 0 = get_or f (2 + n_edge) nan }; valid = not (eqb (get_or w 1 0) 0) };
    }

unfoldable pub floats_of : Lfo → List Float
floats_of s = s.phase.0 ∷ s.sample_rate.0 ∷ (edge_floats s.reset_edge ++ (s.freq_memo.val.0 ∷ []))

unfoldable pub wholes_of : Lfo → List ℕ
wholes_of s = s.freq_memo.key ∷ cond s.freq_memo.valid 1 0 ∷ []

-- [sin, tri, saw, sqr, sin_uni, eoc]
unfoldable pub samples_of : Volts → List Float
samples_of v = v.p10 ∷ v.p11 ∷ v.p12 ∷ v.p13 ∷ v.p14 ∷ v.p15 ∷ []
