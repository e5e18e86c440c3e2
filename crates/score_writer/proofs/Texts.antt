-- There and back, by which number it is refused, and what stands in the buffer. Assumes nothing.
use Prim.Native.Nat.{ℕ, ◌≤◌, ◌<◌}
use mathlib.Core.Bool.{Bool, true, false}
use mathlib.Core.List.{List, ◌++◌}
use mathlib.Core.Path.{◌≡◌, refl, sym, ap, subst, ◌∙◌}
use native.Mathlib.Omega.{arith}
use lib.Dec.{ltb, lit≤}
use Rattle.std.specs.Prelude.{Ok, Err}
use lib.ListN.{length, take, drop, length-append, length-drop}
use lib.Seq.{take_at, drop_at}
use borrow.Author.Tests.{ltb-true, ltb-false}
use Rattle.score.specs.Refusal.{refusal_number}
use Rattle.score.specs.Score.{score_of}
use Rattle.score.specs.Text.{text_of}
use Rattle.score.specs.Promises.{Valid, longest}
use Rattle.score.proofs.Text.{score_text, read_valid}
use Rattle.score.proofs.Written.{valid_read}
use Rattle.score.proofs.Longest.{longest_text}
use Rattle.score.specs.declared.Score.{Score}
use Rattle.score.specs.declared.Refusal.{Refusal}
use Rattle.score.specs.declared.Refusal.TheVariants.{OutOfRange, NoRoom}
use Rattle.score_writer.specs.Writing.{Writing, left_by, writing_of, written_of}
use Rattle.score_writer.specs.Promises.{WriteRead, ReadWrite, OnlyText, Unread, UnreadRefused, ShortRefused, Refusals, EnoughRoom}
use Rattle.score_writer.specs.Promises.{RefusedLeft, PastStays}
use Rattle.score_writer.proofs.Wrote.{Wrote, written, short, unread, wrote, not_length, same_refusal, same_length, other_refusal}

-- ---- what was written is the text of values in range
record Took (s : Score) (out : List ℕ) (n : ℕ) (after : List ℕ) : Type 0 where
  valid : Valid s
  fits : length (text_of s) ≤ length out
  size : length (text_of s) ≡ n
  left : after ≡ text_of s ++ drop (length (text_of s)) out

took : (s : Score) (out : List ℕ) (n : ℕ) → writing_of s (length out) ≡ Ok n → Took s out n (written_of s out)
unfolding written_of
took s out n e = go (wrote s (length out)) e
  where
    go : {x : Writing} → Wrote s (length out) x → x ≡ Ok n → Took s out n (left_by x (text_of s) out)
    go (written v l) e = record { valid = v; fits = l; size = same_length e; left = refl }
    go (short v l) e = absurd (not_length e)
    go (unread f) e = absurd (not_length e)

its_text : (s : Score) (out : List ℕ) (n : ℕ) → writing_of s (length out) ≡ Ok n → take n (written_of s out) ≡ text_of s
its_text s out n e = let t = took s out n e in ap (take n) t.left ∙ take_at (text_of s) (drop (length (text_of s)) out) n t.size

-- ---- values in range are written where their text has room, and refused by 24 where it has none
pub valid_written : (s : Score) (room : ℕ) → Valid s → length (text_of s) ≤ room → writing_of s room ≡ Ok (length (text_of s))
valid_written s room v h = go (wrote s room)
  where
    go : {x : Writing} → Wrote s room x → x ≡ Ok (length (text_of s))
    go (written v l) = refl
    go (short v l) = absurd (omega arith)
    go (unread f) = absurd (f v)

pub valid_short : (s : Score) (room : ℕ) → Valid s → room < length (text_of s) → writing_of s room ≡ Err NoRoom
valid_short s room v h = go (wrote s room)
  where
    go : {x : Writing} → Wrote s room x → x ≡ Err NoRoom
    go (written v l) = absurd (omega arith)
    go (short v l) = refl
    go (unread f) = absurd (f v)

pub left_by_lem : (s : Score) (out : List ℕ) {x : Writing} → writing_of s (length out) ≡ x → written_of s out ≡ left_by x (text_of s) out
unfolding written_of
left_by_lem s out e = ap (λ (x : Writing). left_by x (text_of s) out) e

-- ---- there and back
pub write_read : WriteRead
write_read s out n e = ap score_of (its_text s out n e) ∙ valid_read s (took s out n e).valid

pub read_write : ReadWrite
read_write text s out p h =
    let same = score_text text s p in
    let e = valid_written s (length out) (read_valid text s p) (subst (λ (t : List ℕ). length t ≤ length out) (sym same) h) in (
      e ∙ ap (λ (t : List ℕ). Ok (length t)) same,
      left_by_lem s out e ∙ ap (λ (t : List ℕ). t ++ drop (length t) out) same,
    )

pub only_text : OnlyText
only_text s out n text e p = sym (its_text s out n e ∙ score_text text s p)

-- ---- refusals
pub unread_refused : UnreadRefused
unread_refused s room = (λ u. forward u (wrote s room), λ e. back (wrote s room) e)
  where
    forward : {x : Writing} → Unread s → Wrote s room x → x ≡ Err OutOfRange
    forward u (written v l) = absurd (u (text_of s) (valid_read s v))
    forward u (short v l) = absurd (u (text_of s) (valid_read s v))
    forward u (unread f) = refl

    back : {x : Writing} → Wrote s room x → x ≡ Err OutOfRange → Unread s
    back (written v l) e = absurd (not_length (sym e))
    back (short v l) e = absurd (other_refusal (sym (same_refusal e)))
    back (unread f) e = λ text p. f (read_valid text s p)

pub short_refused : ShortRefused
short_refused s room = (forward, λ e. back (wrote s room) e)
  where
    forward : (text : List ℕ) → score_of text ≡ Ok s → room < length text → writing_of s room ≡ Err NoRoom
    forward text p h = valid_short s room (read_valid text s p) (subst (λ (t : List ℕ). room < length t) (sym (score_text text s p)) h)

    back : {x : Writing} → Wrote s room x → x ≡ Err NoRoom → (score_of (text_of s) ≡ Ok s) × (room < length (text_of s))
    back (written v l) e = absurd (not_length (sym e))
    back (short v l) e = (valid_read s v, l)
    back (unread f) e = absurd (other_refusal (same_refusal e))

abbrev Numbered : Refusal → Type 0
Numbered why = (23 ≤ refusal_number why) × (refusal_number why ≤ 24)

pub refusals : Refusals
refusals s room why e = go (wrote s room) e
  where
    go : {x : Writing} → Wrote s room x → x ≡ Err why → Numbered why
    go (written v l) e = absurd (not_length (sym e))
    go (short v l) e = subst Numbered (same_refusal e) (lit≤ tt, lit≤ tt)
    go (unread f) e = subst Numbered (same_refusal e) (lit≤ tt, lit≤ tt)

pub enough_room : EnoughRoom
enough_room = (enough, λ room h. least room h (ltb room 117) refl)
  where
    enough : (s : Score) (room : ℕ) → 117 ≤ room → writing_of s room ≡ Err NoRoom → ⊥
    enough s room h e =
        let (read, l) = (short_refused s room).1 e in
        let m = longest_text.0 s (read_valid (text_of s) s read) in
        omega arith

    least : (room : ℕ) → ((s : Score) → writing_of s room ≡ Err NoRoom → ⊥) → (b : Bool) → ltb room 117 ≡ b → 117 ≤ room
    least room h true e =
        let l = ltb-true room 117 e in
        let (all, v, m) = longest_text in
        absurd (h longest (valid_short longest room v (omega arith)))
    least room h false e = ltb-false room 117 e

-- ---- the buffer
pub refused_left : RefusedLeft
refused_left s out why e = left_by_lem s out e

pub past_stays : PastStays
past_stays s out n e =
    let t = took s out n e in
    let size = t.size in
    let fits = t.fits in
    record {
      within = omega arith;
      past = ap (drop n) t.left ∙ drop_at (text_of s) (drop (length (text_of s)) out) n size ∙ ap (λ (k : ℕ). drop k out) size;
      size = ap length t.left ∙ omega (arith, length-append (text_of s) (drop (length (text_of s)) out), length-drop (length (text_of s)) out);
    }
