-- What a call leaves alone: the cells from the string's length on, and the draws that it doesn't need.
use Rattle.std.proofs.Common.{◌≡◌, ℕ, zero, suc, ◌+◌, ◌-◌, ◌*◌, ◌<◌, ◌≤◌, min, Bool, true, false, cond, eqb, List, ◌++◌, length, get_or, drop, sym, refl, ap}
use Rattle.std.proofs.Common.{◌∙◌, subst, arith, length-set, get_or-drop, get_or-set_other, get_or-append-add, eqb-true}
use lib.Ieee.{Float, nan}
use Rattle.laws.proofs.Over.{length_tab, length_over, tab_ext}
use Rattle.laws.specs.Lists.{tab, over}
use Rattle.common.proofs.DrawLaws.{refusal_draws}
use Rattle.answer.specs.Block.{Block, block, block_of, block_refusal_of, ticks_of, after_ticks}
use Rattle.answer.specs.declared.Tally.{Tally}
use Rattle.answer.proofs.Blocks.{ticks_keep, held_after, block_fits}
use Rattle.karplus_strong.specs.Consts.{n_ports}
use Rattle.karplus_strong.specs.Line.{blank_at, blank_of, excited_at, excited_of, mean_of, level_at, level_of, struck_of}
use Rattle.karplus_strong.specs.Step.{Ticking, rest_of, step_of}
use Rattle.karplus_strong.specs.Shortcuts.{tuning_of, turn_of, held_next}
use Rattle.karplus_strong.specs.KarplusStrong.{trigger_refusal_of, first_refusal_of, karplus_strong_told_of, karplus_strong_next_of, karplus_strong_block_of}
use Rattle.karplus_strong.specs.KarplusStrong.{max_len_of, karplus_strong_refusal_of, made_unless, karplus_strong_new_of, karplus_strong_reset_of}
use Rattle.karplus_strong.specs.KarplusStrong.{karplus_strong_set_sample_rate_of, struck_len, strike_of, strike_if, tick_unless, karplus_strong_sound_of}
use Rattle.karplus_strong.specs.KarplusStrong.{karplus_strong_tick_of, Strung, strung, no_string, damping_of, brightness_of, stretch_of, controls_of, period_at}
use Rattle.answer.specs.Mark.{all_numbers}
use Rattle.karplus_strong.specs.Promises.{taken, SamePast, PastUntouched, OnlyItsDraws}
use Rattle.karplus_strong.specs.declared.KarplusStrong.{KarplusStrong}
use Rattle.karplus_strong.specs.declared.KarplusStrongControls.{KarplusStrongControls}
use Rattle.karplus_strong.proofs.Parts.{made_either, Sound, struck_fits, accepted, rate_accepted, turn_is, step_either, new_taken}
use Rattle.karplus_strong.proofs.Alike.{stepped}
use Rattle.karplus_strong.proofs.Held.{Held, tune_of, struck_by, holds, turned_ready, first_none}
use Rattle.karplus_strong.proofs.Ticks.{struck_step, tick_is}

-- ---- cells
get_d_past : (f : ℕ → Float) (n : ℕ) (l : List Float) (i : ℕ) → n ≤ i → get_or (over f n l) i nan ≡ get_or l i nan
unfolding over
get_d_past f n l i h =
    let q : length (tab f n) ≡ n = length_tab f n in
    let e : i ≡ length (tab f n) + (i - n) = omega arith in
    let d : n + (i - n) ≡ i = omega arith in
    ap (λ (j : ℕ). get_or (tab f n ++ drop n l) j nan) e ∙ get_or-append-add (tab f n) (drop n l) (i - n) nan ∙ get_or-drop n l (i - n) nan
    ∙ ap (λ (j : ℕ). get_or l j nan) d

past_over : (f : ℕ → Float) (n : ℕ) (l : List Float) → n ≤ length l → SamePast n l (over f n l)
past_over f n l h = record { size = length_over f n l h; cells = λ i q. get_d_past f n l i q }

past_none : (n : ℕ) (l : List Float) → SamePast n l l
past_none n l = record { size = refl; cells = λ i q. refl }

past_both : (n : ℕ) (l m k : List Float) → SamePast n l m → SamePast n m k → SamePast n l k
past_both n l m k a b = record { size = b.size ∙ a.size; cells = λ i q. b.cells i q ∙ a.cells i q }

past_blank : (a n : ℕ) (l : List Float) → n ≤ length l → SamePast n l (blank_of a n l)
unfolding blank_of
past_blank a n l h = past_over (blank_at a l) n l h

past_struck : (n : ℕ) (b : Float) (d : List ℕ) (l : List Float) → n ≤ length l → SamePast n l (struck_of n b d l)
unfolding struck_of level_of excited_of
past_struck n b d l h =
    let x = over (excited_at n b d) n l in
    let q : length x ≡ length l = length_over (excited_at n b d) n l h in
    past_both n l x (over (level_at (mean_of n x) x) n x) (past_over (excited_at n b d) n l h) (past_over (level_at (mean_of n x) x) n x (omega arith))

-- ---- the tick
abbrev PastTick : List Float → Ticking → Type 0
PastTick l t = SamePast t.out.state.len l t.line

past_step : (s : KarplusStrong) (p d t : Float) (numbers : Bool) (l : List Float) → s.write_pos < s.len → s.len ≤ length l
    → PastTick l (step_of s p d t numbers l)
past_step s p d t numbers l h k =
    step_either (PastTick l) s p d t numbers l
    (λ y z v e. record {
      size = length-set l s.write_pos v;
      cells = λ i q. get_or-set_other l s.write_pos i v nan (behind i s.write_pos s.len h q);
    })
    (past_blank 0 s.len l k)
  where
    behind : (i j n : ℕ) → j < n → n ≤ i → i ≡ j → ⊥
    behind i j n h k e = omega arith

past_struck_step : (t : KarplusStrong) (p b d c : Float) (numbers : Bool) (draws : List ℕ) (l : List Float) → struck_len p ≤ length l
    → PastTick l (step_of (rest_of t (struck_len p) t.trigger_edge) p d c numbers (struck_of (struck_len p) b draws l))
past_struck_step t p b d c numbers draws l h =
    let u = rest_of t (struck_len p) t.trigger_edge in
    let m = struck_of (struck_len p) b draws l in
    let a : SamePast (struck_len p) l m = past_struck (struck_len p) b draws l h in
    let e = a.size in
    let z : 0 < struck_len p = unfold struck_len in omega arith in
    let w : PastTick m (step_of u p d c numbers m) = past_step u p d c numbers m z (omega arith) in
    past_both (step_of u p d c numbers m).out.state.len l m (step_of u p d c numbers m).line
    (wider (step_of u p d c numbers m).out.state.len (stepped u p d c numbers m).len a) w
  where
    wider : {l m : List Float} {n : ℕ} (k : ℕ) → k ≡ n → SamePast n l m → SamePast k l m
    wider k e a = rw e a

past_sounded : (rising : Bool) (k : ℕ) (s t : KarplusStrong) (p b d c : Float) (numbers : Bool) (draws : List ℕ) (l : List Float)
    → t.write_pos < t.len → t.len ≤ length l
    → struck_len p ≤ length l
    → PastTick l (tick_unless k s l (step_of (strike_if rising t p b draws l).string p d c numbers (strike_if rising t p b draws l).line))
past_sounded rising (suc k) s t p b d c numbers draws l h g r = unfold tick_unless in past_none s.len l
past_sounded false zero s t p b d c numbers draws l h g r = unfold tick_unless strike_if in past_step t p d c numbers l h g
past_sounded true zero s t p b d c numbers draws l h g r = unfold tick_unless strike_if strike_of in past_struck_step t p b d c numbers draws l r

past_sound : (s : KarplusStrong) (c : KarplusStrongControls) (draws : List ℕ) (l : List Float) → Sound s → max_len_of s.sample_rate + 2 ≤ length l
    → PastTick l (karplus_strong_sound_of s c draws l)
unfolding karplus_strong_sound_of
past_sound s c draws l a r =
    let q = a.most in
    past_sounded _ (trigger_refusal_of s c draws) s _ (period_at s c) (brightness_of c) (damping_of c) (stretch_of c) (all_numbers (controls_of c)) draws l
    a.place
    (omega arith)
    (struck_fits s c a (length l) r)

past_tick : (s : KarplusStrong) (c : KarplusStrongControls) (draws : List ℕ) (l : List Float) → PastTick l (karplus_strong_tick_of s c draws l)
unfolding karplus_strong_tick_of tick_unless
past_tick s c draws l = pick (karplus_strong_refusal_of s (length l)) refl
  where
    pick : (k : ℕ) → karplus_strong_refusal_of s (length l) ≡ k → PastTick l (tick_unless k s l (karplus_strong_sound_of s c draws l))
    pick zero z = let a = accepted s (length l) z in past_sound s c draws l a.0 a.1
    pick (suc k) z = past_none s.len l

-- ---- the block
past_strike : (rising : Bool) (t : KarplusStrong) (p b : Float) (draws : List ℕ) (l : List Float) → let u = strike_if rising t p b draws l in
    u.string.len ≤ length l → SamePast u.string.len l u.line
unfolding strike_if strike_of
past_strike true t p b draws l h = past_struck (struck_len p) b draws l h
past_strike false t p b draws l h = past_none t.len l

turn_past : (s : KarplusStrong) (p d t : Float) (numbers : Bool) (l : List Float) → s.write_pos < s.len → s.len ≤ length l
    → PastTick l (turn_of s (tuning_of p d t numbers) l)
turn_past s p d t numbers l h k = subst (PastTick l) (sym (turn_is s p d t numbers l)) (past_step s p d t numbers l h k)

module _ (s : KarplusStrong) (c : KarplusStrongControls) (draws : List ℕ) (l : List Float)
    (h : karplus_strong_refusal_of s (length l) ≡ 0) (k : trigger_refusal_of s c draws ≡ 0) where
  abbrev start : Strung
  start = struck_by s c draws l

  -- from its first turn on the string's length stays
  record Ringing (y : Strung) : Type 0 where
    held : Held s c y
    len : y.string.len ≡ start.string.len
    past : SamePast start.string.len l y.line

  first_ringing : Ringing start
  first_ringing = record { held = g; len = refl; past = past_strike (taken s c) _ _ _ draws l room }
    where
      g : Held s c start
      g = (holds s c draws l h k).good

      room : start.string.len ≤ length l
      room = omega (arith, (accepted s (length l) h).1, rw g.rate at g.sound.most)

  next_ringing : (y : Strung) → Ringing y → Ringing (held_next (tune_of s c) y)
  unfolding held_next
  next_ringing y r = record {
    held = (holds s c draws l h k).stays y r.held;
    len = same ∙ r.len;
    past = past_both start.string.len l y.line t.line r.past (subst (λ (n : ℕ). SamePast n y.line t.line) (same ∙ r.len) turned);
  }
    where
      t : Ticking
      t = turn_of y.string (tune_of s c) y.line

      same : t.out.state.len ≡ y.string.len
      same = (turned_ready y.string (tune_of s c) y.line _ refl r.held.sound.place).1

      turned : PastTick y.line t
      turned = turn_past y.string _ _ _ _ y.line r.held.sound.place (omega (arith, r.held.sound.most, r.held.room))

  past_ringing : (n : ℕ) → 0 < n → let y = after_ticks (karplus_strong_next_of c draws) n (strung s l) in SamePast y.string.len l y.line
  past_ringing n z =
      let r = ticks_keep Ringing (held_next (tune_of s c)) next_ringing start first_ringing n in
      rw (held_after _ _ _ _ _ _ _ _ (holds s c draws l h k) n z, r.len) r.past

past_ticks : (x : Strung) (c : KarplusStrongControls) (draws : List ℕ) (n : ℕ) → first_refusal_of x.string c draws (length x.line) n ≡ 0
    → let y = after_ticks (karplus_strong_next_of c draws) n x in SamePast y.string.len x.line y.line
past_ticks x c draws zero e = unfold after_ticks in past_none x.string.len x.line
past_ticks x c draws (suc n) e =
    let k = first_none x.string c draws (length x.line) (suc n) e (λ z. omega arith) in
    past_ringing x.string c draws x.line k.0 k.1 (suc n) (omega arith)

past_block : (x : Strung) (c : KarplusStrongControls) (draws : List ℕ) (t : Tally) (o : List Float) (m : List ℕ)
    → let y = (karplus_strong_block_of x c draws t o m).state in SamePast y.string.len x.line y.line
unfolding karplus_strong_block_of block_of
past_block x c draws t o m = go (eqb n 0) (eqb-true n 0)
  where
    number : ℕ
    number = first_refusal_of x.string c draws (length x.line) (length m)

    n : ℕ
    n = block_refusal_of (eqb (length o) (n_ports * length m)) number t (length m)

    ticks : Block Strung
    ticks = ticks_of n_ports (karplus_strong_told_of c draws) (karplus_strong_next_of c draws) (length m) x t

    go : (b : Bool) → (b ≡ true → n ≡ 0) → let y = (cond b ticks (block n x t o m)).state in SamePast y.string.len x.line y.line
    go true h = unfold ticks_of in past_ticks x c draws (length m) (block_fits n_ports number t o m n refl (h refl)).1
    go false h = past_none x.string.len x.line

-- ---- the other calls
past_made : (k n : ℕ) (x y : Strung) → (k ≡ 0 → SamePast n x.line y.line) → SamePast n x.line (made_unless k x y).line
past_made k n x y h = made_either (λ m. SamePast n x.line m.line) k x y h (λ z. past_none n x.line)

pub past_untouched : PastUntouched
past_untouched =
    record {
      new = λ rate threshold l. unfold karplus_strong_new_of in
          past_made _ (max_len_of rate) (strung (no_string rate threshold) l) _
          (λ e. let h = (new_taken rate threshold (length l) e).2 in past_blank 0 (max_len_of rate) l (omega arith));
      tick = past_tick;
      block = past_block;
      reset = λ s l. unfold karplus_strong_reset_of in
          past_made _ s.len (strung s l) _ (λ e. let a = accepted s (length l) e in past_blank 0 s.len l (omega (arith, a.0.most, a.1)));
      set_sample_rate = λ s rate l. unfold karplus_strong_set_sample_rate_of in
          past_made _ (max_len_of rate) (strung s l) _
          (λ e. let h = (rate_accepted s rate (length l) e).2 in past_blank (min s.len (max_len_of rate)) (max_len_of rate) l (omega arith));
    }

-- ---- draws
struck_draws : (n : ℕ) (b : Float) (d e : List ℕ) (l : List Float) → ((i : ℕ) → i < n → get_or d i 0 ≡ get_or e i 0) → struck_of n b d l ≡ struck_of n b e l
unfolding struck_of excited_of excited_at over
struck_draws n b d e l k = rw (tab_ext (excited_at n b d) (excited_at n b e) n (λ i q. rw (k i q)))

-- a tick's draws go to its refusal and its strike
tick_draws : (s : KarplusStrong) (c : KarplusStrongControls) (d e : List ℕ) (l : List Float) → trigger_refusal_of s c d ≡ trigger_refusal_of s c e
    → struck_step s c d l ≡ struck_step s c e l → karplus_strong_tick_of s c d l ≡ karplus_strong_tick_of s c e l
tick_draws s c d e l h k = rw (tick_is s c d l, tick_is s c e l, h, k)

pub only_its_draws : OnlyItsDraws
only_its_draws =
    record {
      struck = λ s c d e l h g k. tick_draws s c d e l (unfold trigger_refusal_of in rw (refusal_draws (struck_len (period_at s c)) d e h g k))
          (unfold struck_step strike_if strike_of in rw (struck_draws (struck_len (period_at s c)) (brightness_of c) d e l k));
      unstruck = λ s c d e l h. tick_draws s c d e l (unfold trigger_refusal_of in rw h) (unfold struck_step strike_if in rw h);
    }
