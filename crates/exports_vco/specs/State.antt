-- A Vco as floats and whole numbers, and its samples as floats.
use Rattle.std.specs.Prelude.{cond, not, List, [], ◌∷◌, ◌++◌, ℕ, ◌+◌, eqb, Float, get_or}
use Rattle.std.specs.Float.{nan}
use Rattle.answer.specs.declared.Volts.{Volts}
use Rattle.boundary.specs.Edge.{n_edge, edge_floats, edge_at}
use Rattle.vco.specs.declared.Vco.{Vco}

-- how many there are: three floats and those of the edge record
abbrev pub n_floats : ℕ
n_floats = 3 + n_edge

abbrev pub n_wholes : ℕ
n_wholes = 4

abbrev pub n_samples : ℕ
n_samples = 4

-- floats [phase, sample_rate, sync_edge.prev, sync_edge.threshold, freq_memo.val], wholes [freq_memo.key 0 to 2, freq_memo.valid]
unfoldable pub state_of : List Float → List ℕ → Vco
state_of f w =
    record {
      phase = record { 0 = get_or f 0 nan };
      sample_rate = record { 0 = get_or f 1 nan };
      sync_edge = edge_at f 2;
      freq_memo = record {
        key = (get_or w 0 0, get_or w 1 0, get_or w 2 0);
        val = record { 0 = get_or f (2 + n_edge) nan };
        valid = not (eqb (get_or w 3 0) 0);
      };
    }

unfoldable pub floats_of : Vco → List Float
floats_of s = s.phase.0 ∷ s.sample_rate.0 ∷ (edge_floats s.sync_edge ++ (s.freq_memo.val.0 ∷ []))

unfoldable pub wholes_of : Vco → List ℕ
wholes_of s = let m = s.freq_memo in m.key.0 ∷ m.key.1 ∷ m.key.2 ∷ cond m.valid 1 0 ∷ []

-- [sin, tri, saw, sqr]
unfoldable pub samples_of : Volts → List Float
samples_of v = v.p10 ∷ v.p11 ∷ v.p12 ∷ v.p13 ∷ []
