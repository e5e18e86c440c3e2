-- A caller may take another line, between two calls and for a rate change: the string stays a reached one.
use Rattle.std.proofs.Common.{◌≡◌, ℕ, ◌+◌, ◌<◌, ◌≤◌, min, true, List, ◌++◌, length, get_or, sym, refl, ap, ◌∙◌, subst, arith, length-append, le-leb}
use lib.Ieee.{Float, nan}
use lib.ListN.{get_or-append}
use Rattle.laws.proofs.Over.{over_same}
use Rattle.laws.specs.Machine.{more}
use Rattle.common.specs.Tests.{rate_ok}
use Rattle.common.specs.declared.Hertz.{Hertz}
use Rattle.karplus_strong.specs.KarplusStrong.{max_len_of, room_of, karplus_strong_rate_refusal_of, made_unless}
use Rattle.karplus_strong.specs.KarplusStrong.{karplus_strong_set_sample_rate_of, Strung, strung, rated, rated_line}
use Rattle.karplus_strong.specs.Calls.{SetSampleRate, Lend, strung_after, lent_of, after, ReachedKarplusStrong}
use Rattle.karplus_strong.specs.Promises.{AnyLine, RateLine}
use Rattle.karplus_strong.specs.declared.KarplusStrong.{KarplusStrong}
use Rattle.karplus_strong.proofs.Alike.{blank_cells, length_blank}
use Rattle.karplus_strong.proofs.Parts.{done, room_of_lem, sound_line}
use Rattle.karplus_strong.proofs.Reached.{Good, reached_good}

pub any_line : AnyLine
unfolding after lent_of
any_line x h l e k = simp e (ap (strung x.string) (sym (over_same nan (λ i. get_or x.line i nan) l x.string.len room k)))
  where
    room : x.string.len ≤ length l
    room = let g = reached_good x h in let q = g.sound.most in let r = room_of_lem x.string.sample_rate (length l) e in omega arith

room_for : (r : Hertz) (n : ℕ) → max_len_of r + 2 ≤ n → room_of r n ≡ 0
unfolding room_of
room_for r n h = simp (le-leb (max_len_of r + 2) n h)

rate_done : (s : KarplusStrong) (n : ℕ) (r : Hertz) (l : List Float) → Good s n → rate_ok r ≡ true → room_of r (length l) ≡ 0
    → karplus_strong_set_sample_rate_of s r l ≡ done (rated s r) (rated_line s r l)
unfolding karplus_strong_set_sample_rate_of karplus_strong_rate_refusal_of made_unless
rate_done s n r l g e h = simp (g.sound.rate, e, sound_line s g.sound, h)

-- it goes by a line that has room for both rates
pub rate_line : RateLine
rate_line x h r e l room k =
    rw (rate_done s (length x.line) r l g e room)
    (refl, subst ReachedKarplusStrong back (more changed (Lend (rated_line s r l)) tt))
  where
    s : KarplusStrong
    s = x.string

    g : Good s (length x.line)
    g = reached_good x h

    new_room : max_len_of r + 2 ≤ length l
    new_room = room_of_lem r (length l) room

    long : List Float
    long = x.line ++ l

    size : length long ≡ length x.line + length l
    size = length-append x.line l

    first : (i : ℕ) → i < s.len → get_or long i nan ≡ get_or x.line i nan
    first i q = get_or-append x.line l nan i (omega (arith, q, g.sound.most, g.room))

    lent : after x (Lend long) ≡ strung s long
    lent = any_line x h long (room_for s.sample_rate (length long) (omega (arith, size, g.room))) (λ i q. sym (first i q))

    y : Strung
    y = strung (rated s r) (rated_line s r long)

    cut : after (strung s long) (SetSampleRate r) ≡ y
    cut = unfold after in ap strung_after (rate_done s (length x.line) r long g e (room_for r (length long) (omega (arith, size, new_room))))

    changed : ReachedKarplusStrong y
    changed = subst ReachedKarplusStrong cut (more (subst ReachedKarplusStrong lent (more h (Lend long) tt)) (SetSampleRate r) tt)

    same : (i : ℕ) → i < min s.len (max_len_of r) → get_or long i nan ≡ get_or l i nan
    same i q = first i (omega (arith, q)) ∙ k i q

    back : after y (Lend (rated_line s r l)) ≡ strung (rated s r) (rated_line s r l)
    back =
        any_line y changed (rated_line s r l)
        (room_for r (length (rated_line s r l)) (rw (length_blank (min s.len (max_len_of r)) (max_len_of r) l (omega (arith, new_room))) new_room))
        (blank_cells (min s.len (max_len_of r)) (max_len_of r) long l same)
