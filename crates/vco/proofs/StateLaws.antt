-- What an accepted state is.
use mathlib.Core.Bool.{true}
use mathlib.Core.Path.{◌≡◌, refl}
use lib.Ieee.{Float}
use Rattle.std.specs.Prelude.{Option, Some, None}
use Rattle.std.specs.Option.{is_some}
use Rattle.common.proofs.PhaseLaws.{accepted_gate}
use Rattle.common.specs.Tests.{rate_ok, phase_ok, threshold_ok}
use Rattle.vco.specs.Vco.{crosses_of, vco_refusal_of}
use Rattle.vco.specs.declared.Vco.{Vco}

-- nothing refuses it: its rate, its phase and its threshold are good
pub unrefused : (s : Vco) → vco_refusal_of s ≡ 0
    → (rate_ok s.sample_rate ≡ true) × (phase_ok s.phase ≡ true) × (threshold_ok s.sync_edge.threshold ≡ true)
unfolding vco_refusal_of
unrefused s h = accepted_gate (rate_ok s.sample_rate) (phase_ok s.phase) (threshold_ok s.sync_edge.threshold) h

-- a sync with an edge is one that is somewhere
pub crosses_is : (at : Option Float) → is_some at ≡ crosses_of at
unfolding crosses_of
crosses_is None = refl
crosses_is (Some frac) = refl
