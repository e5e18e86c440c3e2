-- A tick that takes the trigger's edge forgets: from it on, every call answers as it would a new string.
use Rattle.std.proofs.Common.{◌≡◌, ℕ, zero, suc, ◌*◌, ◌<◌, ◌≤◌, Bool, true, eqb, List, length, sym, refl, ap, ◌∙◌, true≢false, arith}
use lib.Ieee.{Float}
use Rattle.laws.specs.Float.{zer}
use Rattle.common.proofs.EdgeLaws.{threshold_in, rising_like}
use Rattle.common.proofs.MemoLaws.{recall1_is}
use Rattle.common.specs.Edge.{reset_of, rising_of}
use Rattle.common.specs.Memo.{recall1, voct_to_hz_at}
use Rattle.common.specs.declared.Risen.{Risen}
use Rattle.answer.specs.Answer.{accepted}
use Rattle.answer.specs.Block.{block_refusal_of, block_of}
use Rattle.answer.specs.declared.Tally.{Tally}
use Rattle.answer.proofs.Blocks.{block_refusal}
use Rattle.karplus_strong.specs.Consts.{n_ports}
use Rattle.karplus_strong.specs.Line.{struck_of}
use Rattle.karplus_strong.specs.Step.{Ticking, rest_of, step_of}
use Rattle.karplus_strong.specs.KarplusStrong.{trigger_refusal_of, first_refusal_of, karplus_strong_block_of, finite_or, struck_len, strike_of, strike_if}
use Rattle.karplus_strong.specs.KarplusStrong.{heard_string, tick_unless, karplus_strong_tick_of, Strung, damping_of, brightness_of, stretch_of, controls_of}
use Rattle.karplus_strong.specs.KarplusStrong.{memo_at, period_at}
use Rattle.answer.specs.Mark.{all_numbers}
use Rattle.karplus_strong.specs.Calls.{Call, Tick, Play, Ticked, after, reply, Fit, ReachedKarplusStrong}
use Rattle.karplus_strong.specs.Promises.{taken, Strikes, Fresh, Forgotten, Forgets, BlockForgets, SameTick}
use Rattle.karplus_strong.specs.declared.KarplusStrong.{KarplusStrong}
use Rattle.karplus_strong.specs.declared.KarplusStrongControls.{KarplusStrongControls}
use Rattle.karplus_strong.proofs.Parts.{struck_fits}
use Rattle.karplus_strong.proofs.Alike.{alike_struck, alike_step, length_struck}
use Rattle.karplus_strong.proofs.Promised.{like_size, new_there}
use Rattle.karplus_strong.proofs.Reached.{Good, fits_or, first_good, reached_good}
use Rattle.karplus_strong.proofs.Same.{SameNext, SameBlock, SameCall, same_next, same_ticks, block_call, same_replies}
use Rattle.karplus_strong.proofs.Ticks.{struck_step, good_tick, first_good_none}

-- ---- the tick that takes the edge
went_on : (k : ℕ) (s : KarplusStrong) (l : List Float) (t : Ticking) → accepted (tick_unless k s l t).out.answer ≡ true → k ≡ 0
unfolding tick_unless accepted
went_on zero s l t h = refl
went_on (suc k) s l t h = absurd (true≢false (sym h))

positive : (p : Float) → 0 < struck_len p
unfolding struck_len
positive p = omega arith

-- two strings of one rate that hear the same pitch and take the same edge
record AlikeHeard (s n : KarplusStrong) (c : KarplusStrongControls) : Type 0 where
  rate : s.sample_rate ≡ n.sample_rate
  memo : memo_at s c ≡ memo_at n c
  risen : rising_of s.trigger_edge c.trigger ≡ rising_of n.trigger_edge c.trigger
  edge : taken s c ≡ true

module _ (s n : KarplusStrong) (c : KarplusStrongControls) (draws : List ℕ) (a : AlikeHeard s n c) where
  sounds_y : trigger_refusal_of s c draws ≡ trigger_refusal_of n c draws
  unfolding trigger_refusal_of
  sounds_y = rw (a.rate, a.memo, a.risen)

  edge_y : taken n c ≡ true
  edge_y = ap (λ (r : Risen). r.rising) (sym a.risen) ∙ a.edge

  -- after a strike nothing is left of either but the rate
  struck_same : (l m : List Float) → struck_len (period_at s c) ≤ length l → length l ≡ length m → SameTick (struck_step s c draws l) (struck_step n c draws m)
  unfolding struck_step strike_if strike_of
  struck_same l m h e =
      rw (a.edge, edge_y, ← a.risen, ← a.rate, ← a.memo)
      (go (period_at s c) (brightness_of c) (damping_of c)
      (stretch_of c) (all_numbers (controls_of c)) h)
    where
      t : KarplusStrong
      t = heard_string s (rising_of s.trigger_edge c.trigger).edge (memo_at s c)

      go : (p b d x : Float) (numbers : Bool) → struck_len p ≤ length l → let u = rest_of t (struck_len p) t.trigger_edge in
          SameTick (step_of u p d x numbers (struck_of (struck_len p) b draws l)) (step_of u p d x numbers (struck_of (struck_len p) b draws m))
      go p b d x numbers r =
          let q = length_struck (struck_len p) b draws l r in
          let z : 0 < struck_len p = positive p in
          alike_step _ p d x numbers _ _ z (omega arith) (alike_struck (struck_len p) b draws l m r e)

struck_tick : (s : KarplusStrong) (c : KarplusStrongControls) (draws : List ℕ) (l : List Float) → Good s (length l) → trigger_refusal_of s c draws ≡ 0
    → karplus_strong_tick_of s c draws l ≡ struck_step s c draws l
unfolding tick_unless
struck_tick s c draws l g e = good_tick s c draws l g ∙ ap (λ (k : ℕ). tick_unless k s l (struck_step s c draws l)) e

-- ---- from it on a string is a new one
module _ (x : Strung) (h : ReachedKarplusStrong x) (c : KarplusStrongControls) (draws : List ℕ) (f : Fit c) (z : Strikes x c draws)
    (y : Strung) (w : Fresh x y) where
  abbrev s : KarplusStrong
  s = x.string

  abbrev v : Float
  v = finite_or c.voct.0 zer

  g : Good s (length x.line)
  g = reached_good x h

  gy : Good y.string (length y.line)
  gy = first_good y (new_there x h y w)

  same_rate : s.sample_rate ≡ y.string.sample_rate
  same_rate = sym (ap (λ (u : Strung). u.string.sample_rate) w.is_new)

  same_size : length x.line ≡ length y.line
  same_size = sym (ap (λ (u : Strung). length u.line) w.is_new ∙ like_size x h w.lent w.size)

  em : recall1 voct_to_hz_at s.freq_memo v ≡ recall1 voct_to_hz_at y.string.freq_memo v
  em =
      recall1_is voct_to_hz_at s.freq_memo g.memo v (fits_or c.voct.0 f)
      ∙ sym (recall1_is voct_to_hz_at y.string.freq_memo gy.memo v (fits_or c.voct.0 f))

  -- its detector is a new one like this
  en : rising_of s.trigger_edge c.trigger ≡ rising_of y.string.trigger_edge c.trigger
  unfolding reset_of
  en = sym (ap (λ (u : Strung). rising_of u.string.trigger_edge c.trigger) w.is_new
      ∙ rising_like s.trigger_edge c.trigger (threshold_in _ g.sound.threshold).above z.edge)

  heard : AlikeHeard s y.string c
  heard = record { rate = same_rate; memo = em; risen = en; edge = z.edge }

  ks : trigger_refusal_of s c draws ≡ 0
  ks =
      went_on (trigger_refusal_of s c draws) s x.line (struck_step s c draws x.line)
      (sym (ap (λ (t : Ticking). accepted t.out.answer) (good_tick s c draws x.line g)) ∙ z.is_accepted)

  ky : trigger_refusal_of y.string c draws ≡ 0
  ky = sym (sounds_y s y.string c draws heard) ∙ ks

  r : struck_len (period_at s c) ≤ length x.line
  r = struck_fits s c g.sound (length x.line) g.room

  both : SameTick (karplus_strong_tick_of s c draws x.line) (karplus_strong_tick_of y.string c draws y.line)
  both =
      rw (struck_tick s c draws x.line g ks, struck_tick y.string c draws y.line gy ky)
      (struck_same s y.string c draws heard x.line y.line r same_size)

  same : SameNext c draws x y
  same = same_next c draws x y both

  tick_call : SameCall x y (Tick c draws)
  unfolding reply after
  tick_call = record { said = ap Ticked same.told; state = same.state }

  -- neither string's first tick is refused, so a block that one takes the other takes
  module _ (t : Tally) (o : List Float) (m : List ℕ) (some : 0 < length m) (e : (karplus_strong_block_of x c draws t o m).refused ≡ 0) where
    ex : first_refusal_of s c draws (length x.line) (length m) ≡ 0
    ex = first_good_none s c draws (length x.line) (length m) g ks

    ey : first_refusal_of y.string c draws (length y.line) (length m) ≡ 0
    ey = first_good_none y.string c draws (length y.line) (length m) gy ky

    takes : block_refusal_of (eqb (length o) (n_ports * length m)) 0 t (length m) ≡ 0
    takes =
        ap (λ (k : ℕ). block_refusal_of (eqb (length o) (n_ports * length m)) k t (length m)) (sym ex)
        ∙ (unfold karplus_strong_block_of in sym (block_refusal n_ports _ _ _ x t o m) ∙ e)

    same_blocks : SameBlock (karplus_strong_block_of x c draws t o m) (karplus_strong_block_of y c draws t o m)
    unfolding karplus_strong_block_of block_of
    same_blocks = simp (ex, ey, takes) (same_ticks c draws t x y same (length m) some)

forgotten : (x y : Strung) (c : Call) → SameCall x y c → Forgotten x y c
forgotten x y c h = record { said = h.said; state = h.state; later = same_replies (after x c) (after y c) h.state }

pub forgets : Forgets
forgets x h c draws f z y w = forgotten x y (Tick c draws) (tick_call x h c draws f z y w)

pub block_forgets : BlockForgets
block_forgets x h c draws f z t o m some e y w =
    forgotten x y (Play c draws t o m) (block_call x y c draws t o m (same_blocks x h c draws f z y w t o m some e))
