-- Demand 3: at its sync edge a Vco forgets all that came before: it goes on as a new one like it would that was fed the edge's tick first.
use mathlib.Core.Bool.{Bool, true}
use mathlib.Core.Logic.{inl}
use mathlib.Core.Path.{◌≡◌, refl, sym, ap, ◌∙◌}
use Prim.Native.Nat.{ℕ}
use lib.Dec.{T}
use lib.Ieee.{lt, le}
use Rattle.answer.specs.Calls.{made_unless}
use Rattle.answer.proofs.Blocks.{block_meets}
use Rattle.answer.proofs.Laws.{mark_says}
use Rattle.answer.specs.Answer.{volts_of}
use Rattle.answer.specs.Mark.{mark_of}
use Rattle.answer.specs.declared.Volts.{Volts}
use Rattle.common.proofs.EdgeLaws.{threshold_in, rising_like, crossed_is, rising_comes}
use Rattle.common.proofs.MemoLaws.{recall3_is}
use Rattle.common.specs.Edge.{reset_of}
use Rattle.common.specs.Memo.{new_memo3, filled3, recall3}
use Rattle.common.specs.Phase.{turns, restart_of}
use Rattle.common.specs.Memo.{Memo3}
use Rattle.common.specs.Promises.{Coherent3}
use Rattle.laws.specs.Float.{zer}
use Rattle.laws.specs.Machine.{replies}
use Rattle.vco.proofs.Reached.{Good, good_unrefused, good_new, after_tick, Remembers, reached, good_tick, tick_sound, accepted_sound, good_accepts}
use Rattle.vco.specs.Calls.{Tick, Fit, after, reply}
use Rattle.vco.specs.Consts.{n_ports}
use Rattle.vco.specs.Promises.{taken, Forgets, BlockForgets, EdgeComes}
use Rattle.answer.specs.Calls.{made_unless}
use Rattle.vco.specs.Vco.{new_vco, new_like, vco_new_of, frequency_of, crosses_of, vco_volts_of, vco_answer_of, vco_sound_of, vco_tick_of}
use Rattle.vco.specs.Vco.{vco_told_of}
use Rattle.vco.specs.Vco.{vco_next_of, vco_block_of}
use Rattle.vco.specs.declared.Vco.{Vco}
use Rattle.vco.specs.declared.VcoControls.{VcoControls}

-- what the edge asks of a threshold, and what both that are good have
abbrev Above : Vco → Type 0
Above s = T (le zer s.sync_edge.threshold)

above : (s : Vco) → Good s → Above s
above s g = (threshold_in s.sync_edge.threshold g.threshold).above

-- a new one like s has a detector like its own
like : (s : Vco) → new_like s ≡ record { phase = turns zer; sample_rate = s.sample_rate; sync_edge = reset_of s.sync_edge; freq_memo = new_memo3 }
unfolding new_like new_vco reset_of
like s = refl

good_like : (s : Vco) → Good s → Good (new_like s)
unfolding new_like
good_like s g = good_new s.sample_rate s.sync_edge.threshold g.rate g.threshold

-- what a coherent memo recalls
memo : (m : Memo3) → Coherent3 frequency_of m → (c : VcoControls) → Fit c
    → recall3 frequency_of m c.voct.0 c.fm.0 c.fm_lin
    ≡ filled3 c.voct.0 c.fm.0 c.fm_lin (frequency_of c.voct.0 c.fm.0 c.fm_lin)
memo m h c f = recall3_is frequency_of m h c.voct.0 c.fm.0 c.fm_lin f.0 f.1 f.2

-- the tick from the edge's parts: a coherent memo and an edge leave no trace of the state
struck : (s : Vco) → Above s → Remembers s → (c : VcoControls) (wanted : ℕ) → Fit c → taken s c ≡ true
    → (vco_sound_of s c wanted).state ≡ (vco_sound_of (new_like s) c wanted).state
unfolding vco_sound_of crosses_of restart_of
struck s t h c wanted f e =
    simp (like s, crossed_is, rising_like s.sync_edge c.sync t e, e, memo s.freq_memo h c f, memo new_memo3 (inl refl) c f)

struck_after : (s : Vco) → Good s → Remembers s → (c : VcoControls) (wanted : ℕ) → Fit c → taken s c ≡ true
    → after s (Tick c wanted) ≡ after (new_like s) (Tick c wanted)
struck_after s g h c wanted f e =
    after_tick s g c wanted ∙ struck s (above s g) h c wanted f e ∙ sym (after_tick (new_like s) (good_like s g) c wanted)

-- and its sine and triangle are a new one's
volts_mark : (v : Volts) (zeroed sums phases numbers : Bool) → volts_of (mark_of v zeroed sums phases numbers) ≡ v
volts_mark v zeroed sums phases numbers = (mark_says v zeroed sums phases numbers).volts

struck_sin : (s : Vco) → Above s → (c : VcoControls) (wanted : ℕ) → taken s c ≡ true
    → (volts_of (vco_sound_of s c wanted).answer).p10 ≡ (volts_of (vco_sound_of (new_like s) c wanted).answer).p10
unfolding vco_sound_of vco_answer_of vco_volts_of crosses_of restart_of
struck_sin s t c wanted e = simp (volts_mark, like s, crossed_is, rising_like s.sync_edge c.sync t e, e)

struck_tri : (s : Vco) → Above s → Remembers s → (c : VcoControls) (wanted : ℕ) → Fit c → taken s c ≡ true
    → (volts_of (vco_sound_of s c wanted).answer).p11 ≡ (volts_of (vco_sound_of (new_like s) c wanted).answer).p11
unfolding vco_sound_of vco_answer_of vco_volts_of crosses_of restart_of
struck_tri s t h c wanted f e =
    simp (volts_mark, like s, crossed_is, rising_like s.sync_edge c.sync t e, e, memo s.freq_memo h c f, memo new_memo3 (inl refl) c f)

pub forgets : Forgets
forgets s h c wanted f a e =
    let k = reached s h in
    let g = k.0 in
    let n = good_like s g in
    record {
      new = unfold vco_new_of made_unless new_like in simp (good_unrefused (new_like s) n);
      accepts = rw (tick_sound (new_like s) n c wanted) (accepted_sound (new_like s) c wanted);
      sin = rw (tick_sound s g c wanted, tick_sound (new_like s) n c wanted) (struck_sin s (above s g) c wanted e);
      tri = rw (tick_sound s g c wanted, tick_sound (new_like s) n c wanted) (struck_tri s (above s g) k.1 c wanted f e);
      state = struck_after s g k.1 c wanted f e;
      later = λ cs. ap (λ (t : Vco). replies after reply t cs) (struck_after s g k.1 c wanted f e);
    }

pub block_forgets : BlockForgets
unfolding vco_block_of after
block_forgets s h c wanted t o m f a z e =
    let k = reached s h in
    let g = k.0 in
    let next = struck_after s g k.1 c wanted f e in
    let accepts = sym ((good_accepts s g).play c wanted t o m) ∙ a in
    simp (good_unrefused s g, good_unrefused (new_like s) (good_like s g))
    (block_meets (vco_next_of c wanted) s (new_like s) next n_ports 0 (vco_told_of c wanted) t o m (accepts, z))

-- ---- an edge can be had
rises : (s : Vco) (c d : VcoControls) (wanted : ℕ) → Good s → le c.sync s.sync_edge.threshold ≡ true
    → lt s.sync_edge.threshold d.sync ≡ true → taken (vco_tick_of s c wanted).state d ≡ true
unfolding vco_sound_of
rises s c d wanted g l h = rw (tick_sound s g c wanted, crossed_is s.sync_edge c.sync) (rising_comes s.sync_edge c.sync d.sync l h)

pub edge_comes : EdgeComes
unfolding after
edge_comes s h c d wanted l k =
    let g = (reached s h).0 in
    record {
      first = (good_accepts s g).tick c wanted;
      second = (good_accepts (after s (Tick c wanted)) (good_tick s g c wanted)).tick d wanted;
      edge = rises s c d wanted g l k;
    }
