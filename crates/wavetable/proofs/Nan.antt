-- Marks over the controls; and a NaN on the table input plays the second table alone, as table 0 with morph 1 does, and is steered. So is a NaN
-- sync, which never rises.
use mathlib.Core.Bool.{Bool, true, false, cond}
use mathlib.Core.List.{List}
use mathlib.Core.Path.{◌≡◌, refl, ap, ◌∙◌}
use Prim.Native.Nat.{ℕ}
use lib.Dec.{eqb, lit<}
use lib.Ieee.{Float, nan, binary64, lt, add, sub, mul, is_nan, of_bits, of_int, to_unsigned}
use lib.ListN.{length}
use Rattle.answer.proofs.Laws.{mark_steers, tick_steers, nan_given, mark_sounds, tick_sounds}
use Rattle.answer.specs.Promises.{SoundsAs}
use Rattle.answer.specs.declared.Answer.TheVariants as answer
use Rattle.common.proofs.EdgeLaws.{threshold_in, rising_nan, rising_zero}
use Rattle.common.specs.Edge.{rising_of}
use Rattle.wavetable.proofs.Accepted.{accepts}
use Rattle.laws.proofs.Number.{add_nan_l, sub_nan_l, mul_nan_l}
use Rattle.laws.specs.Float.{zer, one}
use Rattle.numeric.proofs.RangeLaws.{clamp_nan}
use Rattle.numeric.specs.Basic.{clamp_of, min_of, real_of}
use Rattle.wavetable.specs.Consts.{last_table_real}
use Rattle.wavetable.specs.Promises.{NanSteers, second_table, NanTable, low_sync, NanSync}
use Rattle.wavetable.specs.Reads.{table_pos_of, table_index_of, blend_of, mix_of}
use Rattle.wavetable.specs.Wavetable.{edge_of, controls_of, wavetable_tick_refusal_of, wavetable_sound_of, wavetable_tick_of}
use Rattle.wavetable.specs.declared.Wavetable.{Wavetable}
use Rattle.wavetable.specs.declared.WavetableControls.{WavetableControls}
use Rattle.answer.specs.declared.Ticked.{Ticked}

pub nan_steers : NanSteers
unfolding wavetable_tick_of wavetable_sound_of
nan_steers s c bank =
    tick_steers (λ (t : Ticked Wavetable). t.answer) (controls_of c) (wavetable_tick_refusal_of s (length bank)) _ _ (mark_steers _ _ _ _ (controls_of c)) refl

-- ---- what is read
pos_nan : table_pos_of nan ≡ nan
unfolding table_pos_of
pos_nan = ap (λ (x : Float). mul binary64 x last_table_real) (clamp_nan zer one) ∙ mul_nan_l last_table_real

index_nan : table_index_of nan ≡ 0
unfolding table_index_of to_unsigned
index_nan = refl

blend_nan : (morph : Float) → blend_of nan 0 morph ≡ one
unfolding blend_of
blend_nan morph =
    ap (λ (x : Float). min_of (add binary64 x (clamp_of morph zer one)) one) (sub_nan_l (real_of 0))
    ∙ ap (λ (x : Float). min_of x one) (add_nan_l (clamp_of morph zer one))
    ∙ (unfold min_of lt is_nan of_bits in refl)

pos_zero : table_pos_of zer ≡ zer
unfolding table_pos_of clamp_of lt mul of_bits
pos_zero = refl

index_zero : table_index_of zer ≡ 0
unfolding table_index_of to_unsigned of_bits
index_zero = refl

blend_one : blend_of zer 0 one ≡ one
unfolding blend_of clamp_of min_of lt is_nan add sub of_int of_bits
blend_one = refl

-- table and morph as a tick goes by them: the first of two tables, and how much of the second
abbrev chosen : Float → Float → ℕ × Float
chosen table morph = let pos = table_pos_of table in (table_index_of pos, blend_of pos (table_index_of pos) morph)

same_choice : (morph : Float) → chosen nan morph ≡ chosen zer one
same_choice morph = rw (pos_nan, index_nan, blend_nan, pos_zero, index_zero, blend_one) refl

-- ---- so the tick is the same but for its mark
module _ (s : Wavetable) (c : WavetableControls) (bank : List Float) (h : c.table ≡ nan) where
  same_mix : (inc phase : Float)
      → mix_of bank (table_index_of (table_pos_of nan)) (blend_of (table_pos_of nan) (table_index_of (table_pos_of nan)) c.morph) inc phase
      ≡ mix_of bank (table_index_of (table_pos_of zer)) (blend_of (table_pos_of zer) (table_index_of (table_pos_of zer)) one) inc phase
  same_mix inc phase = ap (λ (x : ℕ × Float). mix_of bank x.0 x.1 inc phase) (same_choice c.morph)

  table_sounds : SoundsAs (wavetable_sound_of s c bank).answer (wavetable_sound_of s (second_table c) bank).answer
  unfolding wavetable_sound_of
  table_sounds = rw (nan_given (controls_of c) 1 (lit< tt) h, h, same_mix) (mark_sounds _ _ _ _ _ _ refl)

  table_state : (wavetable_tick_of s c bank).state ≡ (wavetable_tick_of s (second_table c) bank).state
  unfolding wavetable_tick_of wavetable_sound_of
  table_state = go (eqb (wavetable_tick_refusal_of s (length bank)) 0)
    where
      go : (b : Bool) → let refused : Ticked Wavetable = record { answer = answer.Refused (wavetable_tick_refusal_of s (length bank)); state = s } in
          (cond b (wavetable_sound_of s c bank) refused).state ≡ (cond b (wavetable_sound_of s (second_table c) bank) refused).state
      go true = unfold wavetable_sound_of in refl
      go false = refl

pub nan_table : NanTable
unfolding wavetable_tick_of
nan_table s c bank h =
    let sounds = table_sounds s c bank h in
    (tick_sounds (λ (t : Ticked Wavetable). t.answer) (wavetable_tick_refusal_of s (length bank)) _ _ _ (λ a. sounds) refl, table_state s c bank h)

-- ---- a sync that is NaN takes no edge, and neither does 0 V
module _ (s : Wavetable) (c : WavetableControls) (bank : List Float) (h : c.sync ≡ nan) (a : wavetable_tick_refusal_of s (length bank) ≡ 0) where
  nan_still : (rising_of (edge_of s) c.sync).rising ≡ false
  nan_still = rw h (rising_nan (edge_of s))

  low_still : (rising_of (edge_of s) zer).rising ≡ false
  low_still = rising_zero (edge_of s) (threshold_in s.threshold (accepts s (length bank) a).2).above

  sync_sounds : SoundsAs (wavetable_sound_of s c bank).answer (wavetable_sound_of s (low_sync c) bank).answer
  unfolding wavetable_sound_of
  sync_sounds = rw (nan_given (controls_of c) 3 (lit< tt) h, nan_still, low_still) (mark_sounds _ _ _ _ _ _ refl)

pub nan_sync : NanSync
unfolding wavetable_tick_of
nan_sync s c bank h = tick_sounds (λ (t : Ticked Wavetable). t.answer) (wavetable_tick_refusal_of s (length bank)) _ _ _ (sync_sounds s c bank h) refl
