-- A KarplusStrong as floats and whole numbers, and its samples as floats.
use Rattle.std.specs.Prelude.{not, cond, List, [], ◌∷◌, ◌++◌, ℕ, ◌+◌, eqb, Float, get_or}
use Rattle.std.specs.Float.{nan}
use Rattle.answer.specs.declared.Volts.{Volts}
use Rattle.boundary.specs.Edge.{n_edge, edge_floats, edge_at}
use Rattle.karplus_strong.specs.declared.KarplusStrong.{KarplusStrong}

-- how many there are: five floats and those of the edge record
abbrev pub n_floats : ℕ
n_floats = 5 + n_edge

abbrev pub n_wholes : ℕ
n_wholes = 4

abbrev pub n_samples : ℕ
n_samples = 1

-- floats [sample_rate, lp_state, ap_x1, ap_y1, trigger_edge.prev, trigger_edge.threshold, freq_memo.val],
-- wholes [len, write_pos, freq_memo.key, freq_memo.valid]
unfoldable pub state_of : List Float → List ℕ → KarplusStrong
state_of f w =
    record {
      len = get_or w 0 0;
      write_pos = get_or w 1 0;
      sample_rate = record { 0 = get_or f 0 nan };
      lp_state = get_or f 1 nan;
      ap_x1 = get_or f 2 nan;
      ap_y1 = get_or f 3 nan;
      trigger_edge = edge_at f 4;
      freq_memo = record { key = get_or w 2 0; val = record { 0 = get_or f (4 + n_edge) nan }; valid = not (eqb (get_or w 3 0) 0) };
    }

unfoldable pub floats_of : KarplusStrong → List Float
floats_of s =
    s.sample_rate.0 ∷ s.lp_state ∷ s.ap_x1 ∷ s.ap_y1 ∷ (edge_floats s.trigger_edge ++ (s.freq_memo.val.0 ∷ []))

unfoldable pub wholes_of : KarplusStrong → List ℕ
wholes_of s = s.len ∷ s.write_pos ∷ s.freq_memo.key ∷ cond s.freq_memo.valid 1 0 ∷ []

-- [out]
unfoldable pub samples_of : Volts → List Float
samples_of v = v.p10 ∷ []
