-- Demand 3: the tick that takes the reset edge leaves what a new Lfo like it would, and answers what it would.
use mathlib.Core.Bool.{true}
use mathlib.Core.List.{◌∷◌}
use mathlib.Core.Logic.{inl}
use mathlib.Core.Path.{◌≡◌, refl, sym, ap, ◌∙◌}
use Prim.Native.Nat.{ℕ}
use lib.Dec.{T}
use lib.Ieee.{lt, le}
use Rattle.answer.proofs.Blocks.{block_same}
use Rattle.common.proofs.EdgeLaws.{threshold_in, rising_like, rising_comes}
use Rattle.common.proofs.MemoLaws.{recall1_is}
use Rattle.common.specs.Edge.{reset_of}
use Rattle.common.specs.Memo.{new_memo1}
use Rattle.common.specs.Phase.{turns, restart_of}
use Rattle.laws.specs.Float.{zer}
use Rattle.laws.specs.Machine.{replies, more}
use Rattle.lfo.proofs.Reached.{Good, unrefused, tick_sounds, good_new, good, never_refused}
use Rattle.lfo.specs.Calls.{Tick, Ticked, Fit, after, reply}
use Rattle.lfo.specs.Consts.{n_ports}
use Rattle.answer.specs.Calls.{made_unless}
use Rattle.lfo.specs.Lfo.{new_lfo, new_like, lfo_new_of, lfo_sound_of, lfo_tick_of, lfo_told_of, lfo_next_of, lfo_block_of}
use Rattle.lfo.specs.Promises.{taken, Forgets, BlockForgets, EdgeComes}
use Rattle.lfo.specs.Waves.{rate_to_hz}
use Rattle.lfo.specs.declared.Lfo.{Lfo}
use Rattle.lfo.specs.declared.LfoControls.{LfoControls}
use Rattle.answer.specs.declared.Ticked as leaves

-- what the edge asks of a threshold, and what both that are good have
abbrev Above : Lfo → Type 0
Above s = T (le zer s.reset_edge.threshold)

above : (s : Lfo) → Good s → Above s
above s g = (threshold_in s.reset_edge.threshold g.threshold).above

-- a new one like s has a detector like its own
like : (s : Lfo) → new_like s ≡ record { phase = turns zer; sample_rate = s.sample_rate; reset_edge = reset_of s.reset_edge; freq_memo = new_memo1 }
unfolding new_like new_lfo reset_of
like s = refl

struck : (s : Lfo) → Above s → (c : LfoControls) (w : ℕ) → Good s → Fit c → taken s c ≡ true → lfo_sound_of s c w ≡ lfo_sound_of (new_like s) c w
unfolding lfo_sound_of restart_of
struck s t c w g f e =
    simp (
      like s,
      rising_like s.reset_edge c.reset t e,
      e,
      recall1_is rate_to_hz s.freq_memo g.memo c.rate f,
      recall1_is rate_to_hz new_memo1 (inl refl) c.rate f,
    )

good_like : (s : Lfo) → Good s → Good (new_like s)
unfolding new_like
good_like s g = good_new s.sample_rate s.reset_edge.threshold g.rate g.threshold

struck_tick : (s : Lfo) (c : LfoControls) (w : ℕ) → Good s → Fit c → taken s c ≡ true → lfo_tick_of s c w ≡ lfo_tick_of (new_like s) c w
struck_tick s c w g f e = tick_sounds s c w g ∙ struck s (above s g) c w g f e ∙ sym (tick_sounds (new_like s) c w (good_like s g))

pub forgets : Forgets
unfolding replies after reply
forgets s h c w f a e =
    let g = good h in
    record {
      new = unfold lfo_new_of made_unless new_like in simp (unrefused (new_like s) (good_like s g));
      state = ap (λ (t : leaves.Ticked Lfo). t.state) (struck_tick s c w g f e);
      same = λ cs. ap (λ (t : leaves.Ticked Lfo). Ticked t.answer ∷ replies after reply t.state cs) (struck_tick s c w g f e);
    }

pub block_forgets : BlockForgets
unfolding lfo_block_of
block_forgets s h c w t o m f a z e =
    let g = good h in
    let tick = struck_tick s c w g f e in
    let next = ap (λ (k : leaves.Ticked Lfo). k.state) tick in
    let told = ap (λ (k : leaves.Ticked Lfo). k.answer) tick in
    let accepts = sym ((never_refused s h).play c w t o m) ∙ a in
    simp (unrefused s g, unrefused (new_like s) (good_like s g))
    (block_same (lfo_next_of c w) s (new_like s) next n_ports 0 (lfo_told_of c w) t o m told (accepts, z))

-- ---- an edge can be had
rises : (s : Lfo) (c d : LfoControls) (w : ℕ) → Good s → le c.reset s.reset_edge.threshold ≡ true
    → lt s.reset_edge.threshold d.reset ≡ true → taken (lfo_tick_of s c w).state d ≡ true
unfolding lfo_sound_of
rises s c d w g l h = rw (tick_sounds s c w g) (rising_comes s.reset_edge c.reset d.reset l h)

pub edge_comes : EdgeComes
unfolding after
edge_comes s h c d v w f l k = ((never_refused (after s (Tick c v)) (more h (Tick c v) f)).tick d w, rises s c d v (good h) l k)
