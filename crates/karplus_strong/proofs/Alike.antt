-- Two lines of one size that agree below the string's length stay so through a tick, and it answers alike.
use Rattle.std.proofs.Common.{◌≡◌, ℕ, zero, suc, ◌+◌, ◌%◌, ◌<◌, ◌≤◌, Bool, true, false, cond, ltb, List, length, get_or, drop, set, sym, refl, ap, ◌∙◌, subst}
use Rattle.std.proofs.Common.{not-suc-le-zero, mod-lt, arith, length-set, get_or-set_other, get_or-set_same, ltb-true}
use native.Mathlib.Decide.{ℕ_discrete}
use lib.ListN.{get_or-append}
use lib.Ieee.{Float, nan, binary64, mul, div}
use Rattle.laws.proofs.Over.{length_tab, length_over, get_or_tab}
use Rattle.laws.specs.Float.{zer, is_fin}
use Rattle.laws.specs.Lists.{tab, over}
use Rattle.numeric.specs.Basic.{whole_of, real_of}
use Rattle.karplus_strong.specs.Consts.{loop_leak}
use Rattle.karplus_strong.specs.Line.{blank_at, blank_of, excited_at, excited_of, sum_to, mean_of, level_at, level_of, struck_of}
use Rattle.karplus_strong.specs.Step.{filter_coef_of, ap_coef_of, target_delay_of, offset_one, offset_two, tap_of}
use Rattle.karplus_strong.specs.Step.{filtered_of, stretched_of, Ticking, rest_of, wrote_of, cleared_of, step_of}
use Rattle.karplus_strong.specs.KarplusStrong.{max_len_of, karplus_strong_refusal_of, struck_len, strike_of, strike_if, tick_unless, karplus_strong_sound_of}
use Rattle.karplus_strong.specs.KarplusStrong.{karplus_strong_tick_of, damping_of, brightness_of, stretch_of, controls_of, period_at, trigger_refusal_of}
use Rattle.answer.specs.Mark.{all_numbers}
use Rattle.karplus_strong.specs.Shortcuts.{tuning_of, turn_of}
use Rattle.karplus_strong.specs.declared.Tuning.{Tuning}
use Rattle.karplus_strong.specs.Promises.{Alike, SameTick, OnlyItsCells}
use Rattle.karplus_strong.specs.declared.KarplusStrong.{KarplusStrong}
use Rattle.karplus_strong.specs.declared.KarplusStrongControls.{KarplusStrongControls}
use Rattle.karplus_strong.proofs.Cells.{sum_alike}
use Rattle.karplus_strong.proofs.Parts.{Sound, struck_fits, accepted, turn_is, turn_either}

-- ---- lengths
pub length_blank : (a n : ℕ) (l : List Float) → n ≤ length l → length (blank_of a n l) ≡ length l
unfolding blank_of
length_blank a n l h = length_over (blank_at a l) n l h

pub length_struck : (n : ℕ) (b : Float) (d : List ℕ) (l : List Float) → n ≤ length l → length (struck_of n b d l) ≡ length l
unfolding struck_of level_of excited_of
length_struck n b d l h =
    let q : length (over (excited_at n b d) n l) ≡ length l = length_over (excited_at n b d) n l h in
    length_over (level_at (mean_of n (over (excited_at n b d) n l)) (over (excited_at n b d) n l)) n (over (excited_at n b d) n l) (omega arith) ∙ q

-- ---- what a strike and a turn keep
pub record Keeps (s u : KarplusStrong) : Type 0 where
  pub rate : u.sample_rate ≡ s.sample_rate
  pub edge : u.trigger_edge ≡ s.trigger_edge
  pub memo : u.freq_memo ≡ s.freq_memo

module _ (s : KarplusStrong) (p b : Float) (d : List ℕ) (l : List Float) where
  pub strike_keeps : (rising : Bool) → Keeps s (strike_if rising s p b d l).string
  unfolding strike_if strike_of
  strike_keeps true = record { rate = refl; edge = refl; memo = refl }
  strike_keeps false = record { rate = refl; edge = refl; memo = refl }

  pub strike_size : (rising : Bool) → struck_len p ≤ length l → length (strike_if rising s p b d l).line ≡ length l
  unfolding strike_if strike_of
  strike_size true h = length_struck (struck_len p) b d l h
  strike_size false h = refl

pub record Turned (s : KarplusStrong) (l : List Float) (u : Ticking) : Type 0 where
  pub keeps : Keeps s u.out.state
  pub len : u.out.state.len ≡ s.len
  pub place : s.write_pos < s.len → u.out.state.write_pos < u.out.state.len
  pub size : s.len ≤ length l → length u.line ≡ length l

pub turned : (s : KarplusStrong) (t : Tuning) (l : List Float) → Turned s l (turn_of s t l)
turned s t l =
    turn_either (Turned s l) s t l
    (λ y z v e. record {
      keeps = record { rate = refl; edge = refl; memo = refl };
      len = refl;
      place = λ h. mod-lt (s.write_pos + 1) {m = s.len} (omega arith);
      size = λ h. length-set l s.write_pos v;
    })
    (record {
      keeps = record { rate = refl; edge = refl; memo = refl };
      len = refl;
      place = λ h. omega arith;
      size = λ h. length_blank 0 s.len l h;
    })

pub stepped : (s : KarplusStrong) (p d t : Float) (numbers : Bool) (l : List Float) → Turned s l (step_of s p d t numbers l)
stepped s p d t numbers l = subst (Turned s l) (turn_is s p d t numbers l) (turned s (tuning_of p d t numbers) l)

pub turned_sound : (s : KarplusStrong) (l : List Float) (u : Ticking) → Turned s l u → Sound s → Sound u.out.state
turned_sound s l u w a = record {
  rate = rw w.keeps.rate a.rate;
  least = rw w.len a.least;
  most = rw (w.len, w.keeps.rate) a.most;
  place = w.place a.place;
  value = rw w.keeps.memo a.value;
  threshold = rw w.keeps.edge a.threshold;
}

-- ---- the passes
pub get_d_over : (f : ℕ → Float) (n : ℕ) (l : List Float) (i : ℕ) → i < n → get_or (over f n l) i nan ≡ f i
unfolding over
get_d_over f n l i h =
    let q : length (tab f n) ≡ n = length_tab f n in
    get_or-append (tab f n) (drop n l) nan i (omega arith) ∙ get_or_tab nan f n i h

alike_over : (f g : ℕ → Float) (n : ℕ) (l m : List Float) → n ≤ length l → length l ≡ length m → ((i : ℕ) → i < n → f i ≡ g i)
    → Alike n (over f n l) (over g n m)
alike_over f g n l m h e k = record {
  size = length_over f n l h ∙ e ∙ sym (length_over g n m (omega arith));
  cells = λ i q. get_d_over f n l i q ∙ k i q ∙ sym (get_d_over g n m i q);
}

pub blank_cells : (a n : ℕ) (l m : List Float) → ((i : ℕ) → i < a → get_or l i nan ≡ get_or m i nan)
    → (i : ℕ) → i < n → get_or (blank_of a n l) i nan ≡ get_or (blank_of a n m) i nan
unfolding blank_of blank_at
blank_cells a n l m k i q = get_d_over (blank_at a l) n l i q ∙ go (ltb i a) refl ∙ sym (get_d_over (blank_at a m) n m i q)
  where
    go : (b : Bool) → ltb i a ≡ b → cond (ltb i a) (get_or l i nan) zer ≡ cond (ltb i a) (get_or m i nan) zer
    go true t = ap (λ (x : Float). cond (ltb i a) x zer) (k i (ltb-true i a t))
    go false t = rw t

pub alike_blank : (a n : ℕ) (l m : List Float) → n ≤ length l → length l ≡ length m → ((i : ℕ) → i < a → get_or l i nan ≡ get_or m i nan)
    → Alike n (blank_of a n l) (blank_of a n m)
alike_blank a n l m h e k = record { size = length_blank a n l h ∙ e ∙ sym (length_blank a n m (omega arith)); cells = blank_cells a n l m k }

pub alike_struck : (n : ℕ) (b : Float) (d : List ℕ) (l m : List Float) → n ≤ length l → length l ≡ length m → Alike n (struck_of n b d l) (struck_of n b d m)
unfolding struck_of mean_of level_of excited_of level_at
alike_struck n b d l m h e =
    let x = over (excited_at n b d) n l in
    let y = over (excited_at n b d) n m in
    let a : Alike n x y = alike_over (excited_at n b d) (excited_at n b d) n l m h e (λ i q. refl) in
    let lx : length x ≡ length l = length_over (excited_at n b d) n l h in
    let me : div binary64 (sum_to x n) (real_of n) ≡ div binary64 (sum_to y n) (real_of n) =
    ap (λ (t : Float). div binary64 t (real_of n)) (sum_alike x y n a.cells) in
    alike_over (level_at (div binary64 (sum_to x n) (real_of n)) x) (level_at (div binary64 (sum_to y n) (real_of n)) y) n x y (omega arith) a.size
    (λ i q. rw (me, a.cells i q))

-- ---- the step
tap_alike : (l m : List Float) (from len : ℕ) (x : Float) → from < len → ((i : ℕ) → i < len → get_or l i nan ≡ get_or m i nan)
    → tap_of l from len x ≡ tap_of m from len x
unfolding tap_of
tap_alike l m from len x h k =
    rw (
      k ((from + offset_one len (whole_of x)) % len) (mod-lt (from + offset_one len (whole_of x)) {m = len} (omega arith)),
      k ((from + offset_two len (whole_of x)) % len) (mod-lt (from + offset_two len (whole_of x)) {m = len} (omega arith)),
    )

alike_set : (n i : ℕ) (v : Float) (l m : List Float) → i < length l → Alike n l m → Alike n (set l i v) (set m i v)
alike_set n i v l m h k = record {
  size = length-set l i v ∙ k.size ∙ sym (length-set m i v);
  cells = λ j q. go j q (ℕ_discrete j i);
}
  where
    go : (j : ℕ) → j < n → Dec (j ≡ i) → get_or (set l i v) j nan ≡ get_or (set m i v) j nan
    go j q (yes e) = rw e (get_or-set_same l i v nan h ∙ sym (get_or-set_same m i v nan (let z = k.size in omega arith)))
    go j q (no e) = get_or-set_other l i j v nan e ∙ k.cells j q ∙ sym (get_or-set_other m i j v nan e)

pub alike_step : (s : KarplusStrong) (p d t : Float) (numbers : Bool) (l m : List Float) → s.write_pos < s.len → s.len ≤ length l → Alike s.len l m
    → SameTick (step_of s p d t numbers l) (step_of s p d t numbers m)
unfolding step_of
alike_step s p d t numbers l m h k e = rw (tap_alike l m s.write_pos s.len (target_delay_of p (filter_coef_of d) (ap_coef_of t)) h e.cells)
    (go (tap_of m s.write_pos s.len (target_delay_of p (filter_coef_of d) (ap_coef_of t))))
  where
    go : (x : Float) → let y = filtered_of s x (filter_coef_of d) in let z = stretched_of s y (ap_coef_of t) in let v = mul binary64 z loop_leak in
        SameTick (cond (is_fin v) (wrote_of s y z v numbers l) (cleared_of s numbers l)) (cond (is_fin v) (wrote_of s y z v numbers m) (cleared_of s numbers m))
    go x = pick (is_fin (mul binary64 (stretched_of s (filtered_of s x (filter_coef_of d)) (ap_coef_of t)) loop_leak)) (filtered_of s x (filter_coef_of d))
        (stretched_of s (filtered_of s x (filter_coef_of d)) (ap_coef_of t))
        (mul binary64 (stretched_of s (filtered_of s x (filter_coef_of d)) (ap_coef_of t)) loop_leak)
      where
        pick : (b : Bool) (y z v : Float)
            → SameTick (cond b (wrote_of s y z v numbers l) (cleared_of s numbers l)) (cond b (wrote_of s y z v numbers m) (cleared_of s numbers m))
        pick true y z v = record { out = refl; line = alike_set s.len s.write_pos v l m (omega arith) e }
        pick false y z v = record { out = refl; line = alike_blank 0 s.len l m k e.size (λ i q. absurd (not-suc-le-zero q)) }

-- ---- the tick
pub same_refused : (k : ℕ) (s : KarplusStrong) (l m : List Float) (t u : Ticking) → Alike s.len l m
    → SameTick (tick_unless (suc k) s l t) (tick_unless (suc k) s m u)
unfolding tick_unless
same_refused k s l m t u e = record { out = refl; line = e }

alike_sounded : (rising : Bool) (k : ℕ) (s t : KarplusStrong) (p b d c : Float) (numbers : Bool) (draws : List ℕ) (l m : List Float)
    → Alike s.len l m → Alike t.len l m → t.write_pos < t.len → t.len ≤ length l → struck_len p ≤ length l
    → SameTick (tick_unless k s l (step_of (strike_if rising t p b draws l).string p d c numbers (strike_if rising t p b draws l).line))
    (tick_unless k s m (step_of (strike_if rising t p b draws m).string p d c numbers (strike_if rising t p b draws m).line))
alike_sounded rising (suc k) s t p b d c numbers draws l m e a h g r = same_refused k s l m _ _ e
alike_sounded false zero s t p b d c numbers draws l m e a h g r = unfold tick_unless strike_if in alike_step t p d c numbers l m h g a
alike_sounded true zero s t p b d c numbers draws l m e a h g r =
    unfold tick_unless strike_if strike_of in alike_struck_step t p b d c numbers draws l m r a.size
  where
    alike_struck_step : (t : KarplusStrong) (p b d c : Float) (numbers : Bool) (draws : List ℕ) (l m : List Float) → struck_len p ≤ length l
        → length l ≡ length m
        → SameTick (step_of (rest_of t (struck_len p) t.trigger_edge) p d c numbers (struck_of (struck_len p) b draws l))
        (step_of (rest_of t (struck_len p) t.trigger_edge) p d c numbers (struck_of (struck_len p) b draws m))
    alike_struck_step t p b d c numbers draws l m r e =
        let q = length_struck (struck_len p) b draws l r in
        let z : 0 < struck_len p = unfold struck_len in omega arith in
        alike_step (rest_of t (struck_len p) t.trigger_edge) p d c numbers (struck_of (struck_len p) b draws l) (struck_of (struck_len p) b draws m) z
        (omega arith) (alike_struck (struck_len p) b draws l m r e)

alike_sound : (s : KarplusStrong) (c : KarplusStrongControls) (draws : List ℕ) (l m : List Float) → Sound s → max_len_of s.sample_rate + 2 ≤ length l
    → Alike s.len l m → SameTick (karplus_strong_sound_of s c draws l) (karplus_strong_sound_of s c draws m)
unfolding karplus_strong_sound_of
alike_sound s c draws l m a r e =
    let q = a.most in
    alike_sounded _ (trigger_refusal_of s c draws) s _ (period_at s c) (brightness_of c) (damping_of c) (stretch_of c) (all_numbers (controls_of c)) draws l m e
    e
    a.place (omega arith)
    (struck_fits s c a (length l) r)

pub only_its_cells : OnlyItsCells
unfolding karplus_strong_tick_of tick_unless
only_its_cells s c draws l m e = rw (← e.size) (pick (karplus_strong_refusal_of s (length l)) refl)
  where
    pick : (k : ℕ) → karplus_strong_refusal_of s (length l) ≡ k
        → SameTick (tick_unless k s l (karplus_strong_sound_of s c draws l)) (tick_unless k s m (karplus_strong_sound_of s c draws m))
    pick zero z = let a = accepted s (length l) z in alike_sound s c draws l m a.0 a.1 e
    pick (suc k) z = same_refused k s l m (karplus_strong_sound_of s c draws l) (karplus_strong_sound_of s c draws m) e
