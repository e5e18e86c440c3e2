-- What an accepted state has, and what follows for its tick.
use mathlib.Core.Bool.{Bool, true, false, cond, false≢true}
use mathlib.Core.Path.{◌≡◌, refl, ap, ◌∙◌}
use Prim.Native.Nat.{ℕ}
use lib.Dec.{eqb}
use lib.Ieee.{binary64, div}
use borrow.Author.Tests.{eqb-true}
use Rattle.common.proofs.PhaseLaws.{accepted_gate, restart_in}
use Rattle.answer.proofs.Laws.{mark_says}
use Rattle.answer.specs.Answer.{volts_of, accepted}
use Rattle.answer.specs.Mark.{all_finite}
use Rattle.common.specs.Edge.{rising_of}
use Rattle.common.specs.Phase.{restart_of}
use Rattle.common.specs.Tests.{rate_ok, phase_ok, threshold_ok}
use Rattle.lfo.proofs.Small.{outputs_finite}
use Rattle.lfo.specs.Consts.{ten}
use Rattle.lfo.specs.Lfo.{lfo_refusal_of, lfo_sound_of, lfo_tick_of}
use Rattle.lfo.specs.Promises.{SmallFinite}
use Rattle.lfo.specs.Small.{is_small}
use Rattle.answer.specs.declared.Answer.TheVariants as answer
use Rattle.lfo.specs.declared.Lfo.{Lfo}
use Rattle.lfo.specs.declared.LfoControls.{LfoControls}

-- no number refuses it: its rate, its phase and its threshold are good
pub accepts : (s : Lfo) → lfo_refusal_of s ≡ 0
    → (rate_ok s.sample_rate ≡ true) × (phase_ok s.phase ≡ true) × (threshold_ok s.reset_edge.threshold ≡ true)
unfolding lfo_refusal_of
accepts s h = accepted_gate (rate_ok s.sample_rate) (phase_ok s.phase) (threshold_ok s.reset_edge.threshold) h

-- its tick is the Rust's
pub sounds : (s : Lfo) (c : LfoControls) (wanted : ℕ) → lfo_refusal_of s ≡ 0 → lfo_tick_of s c wanted ≡ lfo_sound_of s c wanted
unfolding lfo_tick_of
sounds s c wanted h = simp h

-- ---- the promise
sound_small : (s : Lfo) (c : LfoControls) (wanted : ℕ) → is_small (div binary64 c.depth ten) ≡ true → lfo_refusal_of s ≡ 0
    → all_finite (volts_of (lfo_sound_of s c wanted).answer) ≡ true
unfolding lfo_sound_of
sound_small s c wanted k h =
    let edge = (rising_of s.reset_edge c.reset).rising in
    ap all_finite (mark_says _ _ _ _ _).volts
    ∙ outputs_finite wanted (restart_of s.phase edge).0 (div binary64 c.depth ten) _ (restart_in s.phase edge (accepts s h).1) k

pub small_finite : SmallFinite
unfolding lfo_tick_of accepted
small_finite s c wanted k = go (eqb (lfo_refusal_of s) 0) refl
  where
    n : ℕ
    n = lfo_refusal_of s

    go : (b : Bool) → eqb n 0 ≡ b → accepted (cond b (lfo_sound_of s c wanted) (record { answer = answer.Refused n; state = s })).answer ≡ true
        → all_finite (volts_of (cond b (lfo_sound_of s c wanted) (record { answer = answer.Refused n; state = s })).answer) ≡ true
    go true e a = sound_small s c wanted k (eqb-true n 0 e)
    go false e a = absurd (false≢true a)
