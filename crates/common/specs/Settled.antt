-- For each public function: any two answers that its contract allows are equal. The contract is the equation under Settles.
use Rattle.std.specs.Prelude.{◌≡◌, Bool, List, ℕ, Result, Float}
use Rattle.laws.specs.Machine.{Settles}
use Rattle.common.specs.Pitch.{voct_to_hz}
use Rattle.common.specs.Phase.{wrap_phase_of, polyblep_of, polyblamp_of, increment_of, restart_of}
use Rattle.common.specs.Memo.{Key3, key3, new_memo, hits, filled, Memo1, recall1, voct_to_hz_at}
use Rattle.common.specs.Edge.{new_edge, rising_above_of, rising_of, crossed_above_of, crossed_of, reset_of}
use Rattle.common.specs.Ports.{out_of}
use Rattle.common.specs.Refusal.{number_of, refused_number}
use Rattle.common.specs.Tests.{rate_ok, phase_ok, threshold_ok, gated_refusal_of, draws_refusal_of}
use Rattle.common.specs.declared.Refusal.{Refusal}
use Rattle.common.specs.declared.Hertz.{Hertz}
use Rattle.common.specs.declared.Turns.{Turns}
use Rattle.common.specs.declared.Wrapped.{Wrapped}
use Rattle.common.specs.declared.VoltsPerOctave.{VoltsPerOctave}
use Rattle.common.specs.declared.Memo.{Memo}
use Rattle.common.specs.declared.EdgeDetector.{EdgeDetector}
use Rattle.common.specs.declared.Risen.{Risen}
use Rattle.common.specs.declared.Crossed.{Crossed}

pub record Settled : Type 1 where
  pub voct_to_hz : (v : VoltsPerOctave) → Settles (λ (r : Hertz). r ≡ voct_to_hz v)
  pub wrap_phase : (x : Turns) → Settles (λ (r : Wrapped). r ≡ wrap_phase_of x)
  pub wrap_of_several : (x : Turns) → Settles (λ (r : Wrapped). r ≡ wrap_phase_of x)
  pub polyblep : (t dt : Turns) → Settles (λ (r : Float). r ≡ polyblep_of t.0 dt.0)
  pub polyblamp : (t dt : Turns) → Settles (λ (r : Float). r ≡ polyblamp_of t.0 dt.0)
  pub increment : (freq rate : Hertz) → Settles (λ (r : Turns). r ≡ increment_of freq rate)
  pub restart : (phase : Turns) (rising : Bool) → Settles (λ (r : Turns). r ≡ restart_of phase rising)
  pub key3 : (x y z : Float) → Settles (λ (r : Key3). r ≡ key3 x y z)
  pub memo_new : {K V : Type 0} (k : K) (v : V) → Settles (λ (r : Memo K V). r ≡ new_memo k v)
  pub memo_hits : {K V : Type 0} (same : K → K → Bool) (m : Memo K V) (k : K) → Settles (λ (r : Bool). r ≡ hits same m k)
  pub memo_filled : {K V : Type 0} (k : K) (v : V) → Settles (λ (r : Memo K V). r ≡ filled k v)
  pub memo_voct_to_hz : (m : Memo1) (v : VoltsPerOctave) → Settles (λ (r : Memo1). r ≡ recall1 voct_to_hz_at m v.0)
  pub edge_new : (t : Float) → Settles (λ (r : EdgeDetector). r ≡ new_edge t)
  pub edge_rising : (e : EdgeDetector) (v : Float) → Settles (λ (r : Risen). r ≡ rising_of e v)
  pub edge_rising_above : (e : EdgeDetector) (v t : Float) → Settles (λ (r : Risen). r ≡ rising_above_of e v t)
  pub edge_rising_frac : (e : EdgeDetector) (v : Float) → Settles (λ (r : Crossed). r ≡ crossed_of e v)
  pub edge_rising_frac_above : (e : EdgeDetector) (v t : Float) → Settles (λ (r : Crossed). r ≡ crossed_above_of e v t)
  pub edge_reset : (e : EdgeDetector) → Settles (λ (r : EdgeDetector). r ≡ reset_of e)
  pub out : (want : Bool) (x : Float) → Settles (λ (r : Float). r ≡ out_of want x)
  pub rate_ok : (r : Hertz) → Settles (λ (b : Bool). b ≡ rate_ok r)
  pub phase_ok : (p : Turns) → Settles (λ (b : Bool). b ≡ phase_ok p)
  pub threshold_ok : (t : Float) → Settles (λ (b : Bool). b ≡ threshold_ok t)
  pub gated_refusal : (r : Hertz) (p : Turns) (t : Float) → Settles (λ (a : Result (Unit {0}) Refusal). refused_number a ≡ gated_refusal_of r p t)
  pub draws_refusal : (n : ℕ) (draws : List ℕ) → Settles (λ (a : Result (Unit {0}) Refusal). refused_number a ≡ draws_refusal_of n draws)
  pub refusal_number : (e : Refusal) → Settles (λ (r : ℕ). r ≡ number_of e)
