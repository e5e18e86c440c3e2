-- Demand 3: the tick that takes the sync edge leaves what a new Wavetable would, and answers what it would.
use mathlib.Core.Bool.{true}
use mathlib.Core.List.{List, ◌∷◌}
use mathlib.Core.Logic.{inl}
use mathlib.Core.Path.{◌≡◌, refl, sym, ap, ◌∙◌}
use Prim.Native.Nat.{ℕ}
use lib.Dec.{T, eqb}
use lib.Ieee.{Float, le}
use lib.ListN.{length}
use borrow.Author.Tests.{eq-eqb}
use Rattle.answer.specs.Calls.{made_unless}
use Rattle.answer.proofs.Blocks.{block_fits, block_refusal, block_same}
use Rattle.answer.specs.Block.{block_of}
use Rattle.common.proofs.EdgeLaws.{threshold_in, rising_like, rising_comes}
use Rattle.common.proofs.MemoLaws.{recall1_is}
use Rattle.common.specs.Edge.{reset_of, rising_above_of, rising_of}
use Rattle.common.specs.Memo.{new_memo1, voct_to_hz_at}
use Rattle.common.specs.Phase.{restart_of}
use Rattle.laws.specs.Float.{zer}
use Rattle.laws.specs.Machine.{replies, more}
use Rattle.wavetable.proofs.Accepted.{bank_sized}
use Rattle.wavetable.proofs.Reached.{Good, good_unrefused, refused_sized, tick_sounds, tick_accepted, new_good, good, never_refused}
use Rattle.wavetable.specs.Calls.{Fit, after, reply, Tick, Ticked}
use Rattle.wavetable.specs.Promises.{taken, Forgets, BlockForgets, EdgeComes}
use Rattle.wavetable.specs.Consts.{n_ports, bank_size}
use Rattle.wavetable.specs.Wavetable.{new_wavetable, new_like, edge_of, wavetable_tick_refusal_of, wavetable_new_of, wavetable_sound_of}
use Rattle.wavetable.specs.Wavetable.{wavetable_tick_of, wavetable_told_of, wavetable_next_of, wavetable_block_of}
use Rattle.common.specs.declared.EdgeDetector.{EdgeDetector}
use Rattle.common.specs.declared.Risen.{Risen}
use Rattle.wavetable.specs.declared.Wavetable.{Wavetable}
use Rattle.wavetable.specs.declared.WavetableControls.{WavetableControls}
use Rattle.answer.specs.declared.Ticked as leaves

-- what the edge asks of a threshold, and what both that are good have
abbrev Above : Wavetable → Type 0
Above s = T (le zer s.threshold)

above : (s : Wavetable) → Good s → Above s
above s g = (threshold_in s.threshold g.threshold).above

-- a new one takes the edge too
new_struck : (s : Wavetable) → Above s → (c : WavetableControls) → taken s c ≡ true → taken (new_like s) c ≡ true
unfolding new_like new_wavetable reset_of
new_struck s t c e = ap (λ (r : Risen). r.rising) (rising_like (edge_of s) c.sync t e) ∙ e

struck : (s : Wavetable) → Above s → (c : WavetableControls) (bank : List Float) → Good s → Fit c → taken s c ≡ true
    → wavetable_sound_of s c bank ≡ wavetable_sound_of (new_like s) c bank
unfolding wavetable_sound_of new_like new_wavetable restart_of
struck s t c bank g f e =
    simp (
      recall1_is voct_to_hz_at s.freq_memo g.memo c.v_oct.0 f,
      recall1_is voct_to_hz_at new_memo1 (inl refl) c.v_oct.0 f,
      e,
      new_struck s t c e,
    )

struck_tick : (s : Wavetable) (c : WavetableControls) (bank : List Float) → Good s → Fit c → eqb (length bank) bank_size ≡ true → taken s c ≡ true
    → wavetable_tick_of s c bank ≡ wavetable_tick_of (new_like s) c bank
struck_tick s c bank g f b e =
    tick_sounds s c bank g b ∙ struck s (above s g) c bank g f e ∙ sym (tick_sounds (new_like s) c bank (new_good s g) b)

pub forgets : Forgets
unfolding replies after reply
forgets s h c bank f a e =
    let g = good h in
    let q = struck_tick s c bank g f (sym (tick_accepted s c bank g) ∙ a) e in
    record {
      new = unfold wavetable_new_of new_like made_unless in simp (good_unrefused (new_like s) (new_good s g));
      state = ap (λ (t : leaves.Ticked Wavetable). t.state) q;
      same = λ cs. ap (λ (t : leaves.Ticked Wavetable). Ticked t.answer ∷ replies after reply t.state cs) q;
    }

-- ---- so does a block that begins with it
pub block_forgets : BlockForgets
unfolding wavetable_block_of
block_forgets s h c t bank o m f z l e =
    let g = good h in
    let new = new_like s in
    let fits = sym (block_refusal n_ports (wavetable_tick_refusal_of s (length bank)) (wavetable_told_of c bank) (wavetable_next_of c bank) s t o m) ∙ z in
    let b = bank_sized s (length bank) (block_fits n_ports _ t o m _ refl fits).1 in
    let q = struck_tick s c bank g f (eq-eqb _ _ b) e in
    let same = ap (λ (x : leaves.Ticked Wavetable). x.answer) q in
    let leaves = ap (λ (x : leaves.Ticked Wavetable). x.state) q in
    let k = refused_sized s (length bank) g ∙ sym (refused_sized new (length bank) (new_good s g)) in
    block_same (wavetable_next_of c bank) s new leaves n_ports _ (wavetable_told_of c bank) t o m same (fits, l)
    ∙ ap (λ (n : ℕ). block_of n_ports n (wavetable_told_of c bank) (wavetable_next_of c bank) new t o m) k

-- ---- an edge can be had
-- the tick leaves the edge record that the sync makes
kept : (s : Wavetable) (c : WavetableControls) (bank : List Float) → edge_of (wavetable_sound_of s c bank).state ≡ (rising_of (edge_of s) c.sync).edge
unfolding wavetable_sound_of rising_of rising_above_of
kept s c bank = refl

pub edge_comes : EdgeComes
unfolding after
edge_comes s h c d bank f b l k =
    let sounds = tick_sounds s c bank (good h) (eq-eqb _ _ b) in (
      (never_refused (after s (Tick c bank)) (more h (Tick c bank) f)).tick d bank ∙ eq-eqb _ _ b,
      ap (λ (t : leaves.Ticked Wavetable). taken t.state d) sounds
          ∙ ap (λ (e : EdgeDetector). (rising_of e d.sync).rising) (kept s c bank)
          ∙ rising_comes (edge_of s) c.sync d.sync l k,
    )
