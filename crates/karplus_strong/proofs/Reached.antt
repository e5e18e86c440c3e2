-- What holds of every string that was made new and then called: refusals 1 to 3 let it pass, and its memo is coherent.
use Rattle.std.proofs.Common.{◌≡◌, ℕ, zero, suc, ◌+◌, ◌<◌, ◌≤◌, min, Bool, true, false, cond, eqb, ltb, List, length, get_or, sym, refl, ap, subst, inl, arith}
use Rattle.std.proofs.Common.{ltb-true, eqb-true}
use lib.Ieee.{Float, nan, inf, fin, fits, is_nan, of_bits}
use Rattle.laws.proofs.Always.{always}
use Rattle.laws.proofs.Over.{length_over}
use Rattle.laws.specs.Float.{zer, F64}
use Rattle.answer.specs.Mark.{all_numbers}
use Rattle.answer.proofs.Blocks.{block_keeps}
use Rattle.common.proofs.EdgeLaws.{threshold_kept, same_gate}
use Rattle.common.proofs.MemoLaws.{recalled1}
use Rattle.common.specs.Edge.{rising_of}
use Rattle.common.specs.Memo.{voct_to_hz_at}
use Rattle.common.specs.Promises.{Coherent1}
use Rattle.common.specs.Tests.{rate_ok, threshold_ok}
use Rattle.common.specs.declared.Hertz.{Hertz}
use Rattle.karplus_strong.specs.Consts.{n_ports}
use Rattle.karplus_strong.specs.Line.{blank_of}
use Rattle.karplus_strong.specs.Step.{Ticking, step_of}
use Rattle.karplus_strong.specs.KarplusStrong.{max_len_of, new_karplus_strong, new_strung, room_of, karplus_strong_refusal_of, Making}
use Rattle.karplus_strong.specs.KarplusStrong.{made_unless, karplus_strong_new_of, restarted, karplus_strong_reset_of, place_of, rated}
use Rattle.karplus_strong.specs.KarplusStrong.{rated_line, karplus_strong_set_sample_rate_of, finite_or, strike_if, heard_string}
use Rattle.karplus_strong.specs.KarplusStrong.{tick_unless, karplus_strong_sound_of, karplus_strong_tick_of, karplus_strong_block_of}
use Rattle.karplus_strong.specs.KarplusStrong.{Strung, damping_of, brightness_of, stretch_of, controls_of, memo_at, period_at, trigger_refusal_of}
use Rattle.karplus_strong.specs.Calls.{Call, Tick, Play, Reset, SetSampleRate, Lend, strung_after, lent_of}
use Rattle.karplus_strong.specs.Calls.{taken_line, after, Fit, FitCall, First, ReachedKarplusStrong}
use Rattle.karplus_strong.specs.Promises.{taken}
use Rattle.karplus_strong.specs.declared.KarplusStrong.{KarplusStrong}
use Rattle.karplus_strong.specs.declared.KarplusStrongControls.{KarplusStrongControls}
use Rattle.karplus_strong.proofs.Parts.{done, made_either, Sound, rate_accepted, max_len_range, struck_fits, struck_sound, room_of_lem, new_taken}
use Rattle.karplus_strong.proofs.Alike.{length_blank, Keeps, strike_keeps, strike_size, stepped, turned_sound}

pub record Good (s : KarplusStrong) (n : ℕ) : Type 0 where
  pub sound : Sound s
  pub room : max_len_of s.sample_rate + 2 ≤ n
  pub memo : Coherent1 voct_to_hz_at s.freq_memo

-- ---- the tick keeps it
pub record GoodTick (t : Ticking) (n : ℕ) : Type 0 where
  pub state : Good t.out.state n
  pub line : length t.line ≡ n

step_good : (s : KarplusStrong) (p d t : Float) (numbers : Bool) (l : List Float) → Good s (length l) → GoodTick (step_of s p d t numbers l) (length l)
step_good s p d t numbers l g =
    let w = stepped s p d t numbers l in
    let k = w.keeps in
    let q = g.sound.most in
    let r = g.room in
    record {
      state = record { sound = turned_sound s l _ w g.sound; room = rw k.rate r; memo = rw k.memo g.memo };
      line = w.size (omega arith);
    }

pub fits_or : (x : Float) → F64 x → F64 (finite_or x zer)
unfolding finite_or fits of_bits
fits_or nan h = tt
fits_or (inf s) h = tt
fits_or (fin s m e) h = h

sound_good : (s : KarplusStrong) (c : KarplusStrongControls) (draws : List ℕ) (l : List Float) → Good s (length l) → Fit c
    → GoodTick (karplus_strong_sound_of s c draws l) (length l)
unfolding karplus_strong_sound_of
sound_good s c draws l g f = go (trigger_refusal_of s c draws)
  where
    t : KarplusStrong
    t = heard_string s (rising_of s.trigger_edge c.trigger).edge (memo_at s c)

    x : Strung
    x = strike_if (taken s c) t (period_at s c) (brightness_of c) draws l

    size : length x.line ≡ length l
    size = strike_size t (period_at s c) (brightness_of c) draws l (taken s c) (struck_fits s c g.sound (length l) g.room)

    kept : Keeps t x.string
    kept = strike_keeps t (period_at s c) (brightness_of c) draws l (taken s c)

    struck : Good x.string (length x.line)
    struck = record {
      sound = struck_sound s c g.sound (taken s c) _ (brightness_of c) draws l (same_gate (threshold_kept s.trigger_edge c.trigger).rising);
      room = rw (size, kept.rate) g.room;
      memo = rw kept.memo (recalled1 voct_to_hz_at s.freq_memo g.memo (finite_or c.voct.0 zer) (fits_or c.voct.0 f));
    }

    numbers : Bool
    numbers = all_numbers (controls_of c)

    go : (k : ℕ) → GoodTick (tick_unless k s l (step_of x.string (period_at s c) (damping_of c) (stretch_of c) numbers x.line)) (length l)
    go zero = unfold tick_unless in subst (GoodTick _) size (step_good x.string (period_at s c) (damping_of c) (stretch_of c) numbers x.line struck)
    go (suc k) = unfold tick_unless in record { state = g; line = refl }

pub tick_good : (s : KarplusStrong) (c : KarplusStrongControls) (draws : List ℕ) (l : List Float) → Good s (length l) → Fit c
    → GoodTick (karplus_strong_tick_of s c draws l) (length l)
unfolding karplus_strong_tick_of tick_unless
tick_good s c draws l g f = go (karplus_strong_refusal_of s (length l))
  where
    go : (k : ℕ) → GoodTick (tick_unless k s l (karplus_strong_sound_of s c draws l)) (length l)
    go zero = sound_good s c draws l g f
    go (suc k) = record { state = g; line = refl }

-- ---- and so do the other calls
made_good : (k : ℕ) (x y : Strung) → Good x.string (length x.line) → (k ≡ 0 → Good y.string (length y.line))
    → let z = strung_after (made_unless k x y) in Good z.string (length z.line)
made_good k x y g h = made_either (λ m. Good m.out.state (length m.line)) k x y h (λ n. g)

pub new_good : (r : Hertz) (v : Float) (l : List Float) → rate_ok r ≡ true → threshold_ok v ≡ true → max_len_of r + 2 ≤ length l
    → Good (new_karplus_strong r v) (length (blank_of 0 (max_len_of r) l))
new_good r v l e k h =
    let m = max_len_range r e in
    let z : length (blank_of 0 (max_len_of r) l) ≡ length l = length_blank 0 (max_len_of r) l (omega arith) in
    record {
      sound = record { rate = e; least = omega arith; most = omega arith; place = omega arith; value = unfold is_nan of_bits in tt; threshold = k };
      room = omega arith;
      memo = inl refl;
    }

reset_good : (s : KarplusStrong) (l : List Float) → Good s (length l) → Good (restarted s) (length (blank_of 0 s.len l))
reset_good s l g =
    let a = g.sound in
    let q = a.least in
    let r = a.most in
    let h = g.room in
    let z : length (blank_of 0 s.len l) ≡ length l = length_blank 0 s.len l (omega arith) in
    record {
      sound = record {
        rate = a.rate;
        least = q;
        most = r;
        place = omega arith;
        value = a.value;
        threshold = rw (threshold_kept s.trigger_edge zer).reset a.threshold;
      };
      room = omega arith;
      memo = g.memo;
    }

place_in : (i n : ℕ) → 0 < n → place_of i n < n
unfolding place_of
place_in i n h = go (ltb i n) refl
  where
    go : (b : Bool) → ltb i n ≡ b → cond b i 0 < n
    go true e = ltb-true i n e
    go false e = h

rate_good : (s : KarplusStrong) (r : Hertz) (l : List Float) → Good s (length l) → rate_ok r ≡ true → max_len_of r + 2 ≤ length l
    → Good (rated s r) (length (rated_line s r l))
rate_good s r l g e h =
    let a = g.sound in
    let m = max_len_range r e in
    let z : length (rated_line s r l) ≡ length l = length_blank (min s.len (max_len_of r)) (max_len_of r) l (omega arith) in
    record {
      sound = record {
        rate = e;
        least = omega arith;
        most = omega arith;
        place = place_in s.write_pos (max_len_of r) (omega arith);
        value = a.value;
        threshold = a.threshold;
      };
      room = omega arith;
      memo = g.memo;
    }

-- a line that is taken has room, and the string's cells
lent_length : (x : Strung) (l : List Float) (n : ℕ) → Good x.string n → max_len_of x.string.sample_rate + 2 ≤ length l → length (lent_of x l) ≡ length l
unfolding lent_of
lent_length x l n g h = let q = g.sound.most in length_over (λ i. get_or x.line i nan) x.string.len l (omega arith)

lent_good : (x : Strung) (l : List Float) → Good x.string (length x.line) → Good x.string (length (taken_line x l))
lent_good x l g = go (eqb (room_of x.string.sample_rate (length l)) 0) (eqb-true (room_of x.string.sample_rate (length l)) 0)
  where
    go : (b : Bool) → (b ≡ true → room_of x.string.sample_rate (length l) ≡ 0) → Good x.string (length (cond b (lent_of x l) x.line))
    go true h =
        let r = room_of_lem x.string.sample_rate (length l) (h refl) in
        record { sound = g.sound; room = rw (lent_length x l _ g r) r; memo = g.memo }
    go false h = g

-- what new made is the new string
made_new : (k : ℕ) (x y : Strung) (s : KarplusStrong) (l : List Float) → made_unless k x y ≡ done s l → (k ≡ 0) × (s ≡ y.string) × (l ≡ y.line)
made_new k x y s l =
    made_either (λ m. m ≡ done s l → (k ≡ 0) × (s ≡ y.string) × (l ≡ y.line)) k x y
    (λ z e. (z, sym (ap (λ (m : Making). m.out.state) e), sym (ap (λ (m : Making). m.line) e)))
    (λ n e. absurd (n (ap (λ (m : Making). m.out.refused) e)))

pub record Made (x : Strung) (f : First x) : Type 0 where
  pub rate : rate_ok f.rate ≡ true
  pub threshold : threshold_ok f.threshold ≡ true
  pub room : max_len_of f.rate + 2 ≤ length f.lent
  pub string : x.string ≡ new_karplus_strong f.rate f.threshold
  pub line : x.line ≡ blank_of 0 (max_len_of f.rate) f.lent

pub first_is : (x : Strung) (f : First x) → Made x f
unfolding karplus_strong_new_of
first_is x f =
    let m = made_new _ _ (new_strung f.rate f.threshold f.lent) x.string x.line f.is_new in
    let t = new_taken f.rate f.threshold (length f.lent) m.0 in
    record { rate = t.0; threshold = t.1; room = t.2; string = m.1; line = m.2 }

pub first_good : (x : Strung) → First x → Good x.string (length x.line)
first_good x f =
    let i = first_is x f in
    rw (i.string, i.line) (new_good f.rate f.threshold f.lent i.rate i.threshold i.room)

pub after_good : (x : Strung) (c : Call) → Good x.string (length x.line) → FitCall c → Good (after x c).string (length (after x c).line)
unfolding after karplus_strong_reset_of karplus_strong_set_sample_rate_of
after_good x (Tick c draws) g f = let t = tick_good x.string c draws x.line g f in rw t.line t.state
after_good x (Play c draws t o m) g f =
    unfold karplus_strong_block_of in
    block_keeps n_ports _ _ _ (λ (y : Strung). Good y.string (length y.line))
    (λ y h. let u = tick_good y.string c draws y.line h f in rw u.line u.state) x g t o m
after_good x Reset g f = made_good _ x _ g (λ e. reset_good x.string x.line g)
after_good x (SetSampleRate r) g f =
    made_good _ x _ g (λ e. let a = rate_accepted x.string r (length x.line) e in rate_good x.string r x.line g a.1 a.2)
after_good x (Lend l) g f = lent_good x l g

pub reached_good : (x : Strung) → ReachedKarplusStrong x → Good x.string (length x.line)
reached_good x h = always (λ (y : Strung). Good y.string (length y.line)) first_good after_good h
