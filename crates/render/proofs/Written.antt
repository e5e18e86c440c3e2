-- What is written, piece by piece, is what is printed of the score.
use Prim.Native.Nat.{ℕ, zero, suc, ◌+◌, ◌-◌, ◌*◌, ◌≤◌, ◌<◌, min}
use mathlib.Core.Bool.{Bool, true, false}
use mathlib.Core.List.{List, [], ◌++◌, append-nil}
use mathlib.Core.Logic.{◌⊎◌, inl, inr}
use mathlib.Core.Path.{◌≡◌, refl, sym, ap, ◌∙◌}
use native.Mathlib.Nat.{min-eq_left, min-eq_right, suc-mul, zero-add, mul-le-mul}
use native.Mathlib.Omega.{arith}
use lib.Dec.{leb, lit≤}
use lib.Ieee.{Float}
use lib.ListN.{length, take, drop, length-take, length-drop, length-append}
use lib.Seq.{take_at}
use borrow.Author.Tests.{leb-true, leb-false}
use Rattle.text.specs.Promises.{Put}
use Rattle.text.proofs.PutLaws.{within, put_whole}
use Rattle.answer.specs.Block.{Block, block, block_said, joined, after_ticks}
use Rattle.answer.specs.Tally.{tally_after, run, new_tally}
use Rattle.answer.specs.declared.Played.{Played}
use Rattle.answer.specs.declared.Tally.{Tally}
use Rattle.laws.specs.Lists.{tab}
use Rattle.score.proofs.Lines.{not_refused}
use Rattle.score.proofs.Text.{read_valid}
use Rattle.score.specs.Score.{score_of}
use Rattle.score.specs.Keys.{owner_of}
use Rattle.score.specs.declared.Osc.{Osc}
use Rattle.score.specs.declared.Osc.TheVariants as osc
use Rattle.std.specs.Prelude.{Option, Some, None, Result, Ok, Err, IsOk}
use Rattle.common.proofs.RefusalLaws.{nonzero}
use Rattle.common.specs.declared.Refusal.{Refusal}
use Rattle.score.specs.declared.Score.{Score}
use Rattle.frame.specs.Promises.{ShortTally}
use Rattle.frame.specs.End.{end_text, refused_text}
use Rattle.frame.specs.Frames.{ports_in, played_text}
use Rattle.frame.proofs.Lengths.{end_length, refused_length}
use Rattle.player.specs.Frames.{player_at, tally_at, samples_from, marks_from, text_from}
use Rattle.player.specs.Play.{printed_of, render_of}
use Rattle.player.specs.Player.{player_of, played_of}
use Rattle.player.specs.declared.Player.{Player}
use Rattle.player.proofs.Heard.{heard_tab}
use Rattle.player.proofs.On.{plays_on, prints_on}
use Rattle.player.proofs.Rendered.{read_renders}
use Rattle.player.proofs.Whole.{pieces, plays, piece_length}
use Rattle.render.specs.Reads.{taken_of}
use Rattle.render.specs.Writes.{piece_of, Begins, pieces_of, end_of}
use Rattle.render.specs.Promises.{PiecesJoin}

-- a score that was read of some text
abbrev pub IsRead : Score → Type 0
IsRead s = (text : List ℕ) × (score_of text ≡ Ok s)

pub was_read : (taken : Option ℕ) (input : List ℕ) (s : Score) → taken_of taken input ≡ Ok s → IsRead s
unfolding taken_of
was_read (Some n) input s e = (take n input, e)
was_read None input s e = absurd (not_refused e)

-- ---- where the playing stands between two pieces: after so many whole pieces, or after all frames
pub record Stands (s : Score) (k : ℕ) (p : Player) (t : Tally) : Type 0 where
  pub player : p ≡ player_at s k
  pub tally : t ≡ tally_at s k
  pub within : k ≤ s.head.frames
  pub whole : ((m : ℕ) × (k ≡ m * 400)) ⊎ (k ≡ s.head.frames)

-- before a turn of the loop; sm and mk are the samples and marks
pub record Turn (s : Score) (frames : ℕ) (osc : Osc) (ports : ℕ) (out : List ℕ) (sm : List Float) (mk : List ℕ) (p : Player) (t : Tally) (k : ℕ)
    (wrote : Bool) : Type 0 where
  pub read : IsRead s
  pub frames_are : frames ≡ s.head.frames
  pub owner : osc ≡ owner_of s.inputs
  pub ports_are : ports ≡ ports_in osc
  pub out_size : length out ≡ 65536
  pub samples_size : length sm ≡ 2400
  pub marks_size : length mk ≡ 400
  pub stands : Stands s k p t
  pub so_far : wrote ≡ true

pub stands_first : (s : Score) (p : Player) (t : Tally) → p ≡ player_of s → t ≡ new_tally → Stands s 0 p t
unfolding player_at tally_at tally_after run tab after_ticks
stands_first s p t ep et = record { player = ep; tally = et; within = omega arith; whole = inl (0, refl) }

ports_most : (o : Osc) → ports_in o ≤ 6
unfolding ports_in
ports_most osc.Vco = lit≤ tt
ports_most osc.Lfo = lit≤ tt
ports_most osc.Supersaw = lit≤ tt
ports_most osc.Formant = lit≤ tt

-- a block that is done
pub done : (p : Player) (t : Tally) (r : Result (Played Player) Refusal) (o : List Float) (m : List ℕ) (b : Block Player) (x : Played Player) → r ≡ Ok x
    → block_said p t r o m ≡ b → block 0 x.state x.tally o m ≡ b
unfolding block_said
done p t r o m b x e h = sym (ap (λ (y : Result (Played Player) Refusal). block_said p t y o m) e) ∙ h

-- what a first part leaves of a buffer that gets another one
module _ {A : Type 0} (n : ℕ) (l part : List A) (h : n ≤ length l) where
  cut_size : n ≡ length (take n l)
  cut_size = omega (arith, length-take n l)

  cut_again : length part ≡ length (take n l) → take n (part ++ drop n l) ≡ part
  cut_again e = take_at part (drop n l) n (omega (arith, cut_size))

  cut_kept : length part ≡ length (take n l) → length (part ++ drop n l) ≡ length l
  cut_kept e = omega (arith, cut_size, length-append part (drop n l), length-drop n l)

module _ {s : Score} {frames : ℕ} {osc : Osc} {ports : ℕ} {out : List ℕ} {sm : List Float} {mk : List ℕ} {p : Player} {t : Tally} {k : ℕ} {wrote : Bool}
    (i : Turn s frames osc ports out sm mk p t k wrote) (some : k < frames) (n : ℕ) (e : n ≡ min 400 (frames - k)) where
  pub room_samples : ports * n ≤ length sm
  room_samples =
      let few : n ≤ 400 = omega arith in
      let most : ports * n ≤ 2400 = rw i.ports_are (mul-le-mul (ports_most osc) few) in
      omega (arith, i.samples_size)

  pub room_marks : n ≤ length mk
  room_marks = omega (arith, i.marks_size)

  pub samples_cut : ports * n ≡ length (take (ports * n) sm)
  samples_cut = cut_size (ports * n) sm [] room_samples

  pub marks_cut : n ≡ length (take n mk)
  marks_cut = cut_size n mk [] room_marks

  some_left : k + n ≤ s.head.frames
  some_left = omega (arith, i.frames_are)

  pub next_most : k + n ≤ 480000
  next_most = let top = (read_valid i.read.0 s i.read.1).head.frames_most in omega (arith, some_left)

  -- a piece begins there
  pub begins : Begins s k
  begins = go i.stands.whole
    where
      go : ((m : ℕ) × (k ≡ m * 400)) ⊎ (k ≡ s.head.frames) → Begins s k
      go (inl w) = (omega (arith, i.frames_are), w)
      go (inr z) = absurd (omega (arith, i.frames_are))

  -- a whole piece more, or all that is left
  more_whole : ((m : ℕ) × (k + n ≡ m * 400)) ⊎ (k + n ≡ s.head.frames)
  more_whole = go (leb 400 (frames - k)) refl begins.1
    where
      go : (b : Bool) → leb 400 (frames - k) ≡ b → ((m : ℕ) × (k ≡ m * 400)) → ((m : ℕ) × (k + n ≡ m * 400)) ⊎ (k + n ≡ s.head.frames)
      go true z (m, w) = inl (suc m, omega (arith, leb-true 400 (frames - k) z))
      go false z w = inr (omega (arith, leb-false 400 (frames - k) z, i.frames_are))

  -- what is played on samples and marks that are cut off longer ones
  played_on : played_of p t (take (ports * n) sm) (take n mk)
      ≡ block 0 (player_at s (k + n)) (tally_at s (k + n)) (samples_from s k n) (marks_from s k n)
  played_on =
      (λ j. played_of (i.stands.player j) (i.stands.tally j) (take (ports * n) sm) (take n mk))
      ∙ plays_on i.read.0 s i.read.1 k n some_left _ _ (sym marks_cut)
      (sym samples_cut ∙ ap (λ (x : ℕ). x * n) (i.ports_are ∙ ap ports_in i.owner))

  -- none of it is refused
  pub played_done : (r : Result (Played Player) Refusal) (o' : List Float) (m' : List ℕ)
      → block_said p t r o' m' ≡ played_of p t (take (ports * n) sm) (take n mk) → IsOk r
  unfolding block_said
  played_done (Ok x) o' m' e = refl
  played_done (Err why) o' m' e = absurd (nonzero why (ap (λ (b : Block Player). b.refused) (e ∙ played_on)))

  -- what was played
  module _ {p' : Player} {t' : Tally} {o' : List Float} {m' : List ℕ} (played : block 0 p' t' o' m' ≡ played_of p t (take (ports * n) sm) (take n mk))
      (same_samples : length o' ≡ length (take (ports * n) sm)) (same_marks : length m' ≡ length (take n mk)) where
    as_said : block 0 p' t' o' m' ≡ block 0 (player_at s (k + n)) (tally_at s (k + n)) (samples_from s k n) (marks_from s k n)
    as_said = played ∙ played_on

    pub samples_room : ports * n ≤ length (o' ++ drop (ports * n) sm)
    samples_room = omega (arith, cut_kept (ports * n) sm o' room_samples same_samples, room_samples)

    pub marks_room : n ≤ length (m' ++ drop n mk)
    marks_room = omega (arith, cut_kept n mk m' room_marks same_marks, room_marks)

    pub samples_told : ports * n ≡ length (take (ports * n) (o' ++ drop (ports * n) sm))
    samples_told = cut_size (ports * n) (o' ++ drop (ports * n) sm) [] samples_room

    pub marks_told : n ≡ length (take n (m' ++ drop n mk))
    marks_told = cut_size n (m' ++ drop n mk) [] marks_room

    same_text : played_text osc k (take (ports * n) (o' ++ drop (ports * n) sm)) (take n (m' ++ drop n mk)) ≡ text_from s k n
    same_text =
        (λ j. played_text (i.owner j) k (cut_again (ports * n) sm o' room_samples same_samples j) (cut_again n mk m' room_marks same_marks j))
        ∙ (λ j. played_text (owner_of s.inputs) k (as_said j).samples (as_said j).marks) ∙ prints_on i.read.0 s i.read.1 k n some_left

    module _ {to : ℕ} {q : List ℕ}
        (put : Put out 0 (played_text osc k (take (ports * n) (o' ++ drop (ports * n) sm)) (take n (m' ++ drop n mk))) to q) where
      pub put_inside : (to ≤ length q) × (length q ≡ 65536)
      put_inside = let w = within _ _ _ put in (w.0, w.1 ∙ i.out_size)

      -- the buffer holds the whole piece
      pub piece_written : take to q ≡ piece_of s k 400
      unfolding piece_of
      piece_written =
          let top = (read_valid i.read.0 s i.read.1).head.frames_most in
          let l = piece_length s k n (omega (arith, some_left)) in
          let whole = put_whole out (text_from s k n) to q (rw (← same_text) put) (omega (arith, i.out_size)) in
          whole ∙ ap (text_from s k) (e ∙ ap (λ (f : ℕ). min 400 (f - k)) i.frames_are)

      pub turn_next : {w : Bool} → w ≡ true → Turn s frames osc ports q (o' ++ drop (ports * n) sm) (m' ++ drop n mk) p' t' (k + n) w
      turn_next wrote_on =
          record {
            read = i.read;
            frames_are = i.frames_are;
            owner = i.owner;
            ports_are = i.ports_are;
            out_size = put_inside.1;
            samples_size = cut_kept (ports * n) sm o' room_samples same_samples ∙ i.samples_size;
            marks_size = cut_kept n mk m' room_marks same_marks ∙ i.marks_size;
            stands = record {
              player = ap (λ (b : Block Player). b.state) as_said;
              tally = ap (λ (b : Block Player). b.tally) as_said;
              within = some_left;
              whole = more_whole;
            };
            so_far = wrote_on;
          }

-- ---- after the last frame
short_tally : (s : Score) → IsRead s → ShortTally (tally_at s s.head.frames)
unfolding tally_at
short_tally s read =
    let r = read_renders read.0 s read.1 in
    let begun = r.begun in
    let sum = r.counts.sum in
    let top = (read_valid read.0 s read.1).head.frames_most in
    rw (← heard_tab s)
    (record {
      begun = omega arith;
      finished = omega arith;
      cleared = omega arith;
      notfinite = omega arith;
      lost = omega arith;
      steered = omega arith;
    })

pub end_written : {s : Score} {frames : ℕ} {osc : Osc} {ports : ℕ} {out : List ℕ} {sm : List Float} {mk : List ℕ} {p : Player} {t : Tally} {k : ℕ}
    {wrote : Bool} → Turn s frames osc ports out sm mk p t k wrote → frames ≤ k → (q : List ℕ) (r : ℕ) → Put out 0 (end_text frames t) r q
    → take r q ≡ end_of s
unfolding end_of
end_written {s} {frames} {k = k} i h q r put =
    let l = end_length s.head.frames (tally_at s s.head.frames) (short_tally s i.read) in
    let last : k ≡ s.head.frames = omega (arith, i.stands.within, i.frames_are) in
    let same = i.stands.tally ∙ ap (tally_at s) last in
    put_whole _ _ r q (rw (i.frames_are, same) at put) (omega (arith, i.out_size))

-- ---- the pieces join
module _ (s : Score) (k : ℕ) where
  -- the text of the first n frames, or of all
  abbrev up_to : ℕ → List ℕ
  up_to n = text_from s 0 (min n s.head.frames)

  within_frames : (n : ℕ) → n ≤ s.head.frames → up_to n ++ piece_of s n k ≡ up_to (n + k)
  unfolding piece_of
  within_frames n h =
      let turns = min k (s.head.frames - n) in
      let to : n + turns ≡ min (n + k) s.head.frames = omega arith in
      ap (λ (m : ℕ). text_from s 0 m ++ text_from s n turns) (min-eq_left h)
      ∙ ap (λ (m : ℕ). text_from s 0 n ++ text_from s m turns) (sym (zero-add n))
      ∙ sym (pieces s 0 n turns) ∙ ap (text_from s 0) to

  past_frames : (n : ℕ) → s.head.frames < n → up_to n ++ piece_of s n k ≡ up_to (n + k)
  unfolding piece_of text_from joined
  past_frames n h =
      let none : min k (s.head.frames - n) ≡ 0 = omega arith in
      let all : min n s.head.frames ≡ min (n + k) s.head.frames = omega arith in
      ap (λ (m : ℕ). up_to n ++ text_from s n m) none ∙ append-nil (up_to n) ∙ ap (text_from s 0) all

  -- what is written up to the frame n, and the piece from there, is what is written up to the next piece
  next_piece : (n : ℕ) → up_to n ++ piece_of s n k ≡ up_to (n + k)
  next_piece n = go (leb n s.head.frames) refl
    where
      go : (b : Bool) → leb n s.head.frames ≡ b → up_to n ++ piece_of s n k ≡ up_to (n + k)
      go true e = within_frames n (leb-true n s.head.frames e)
      go false e = past_frames n (leb-false n s.head.frames e)

  pieces_to : (m : ℕ) → pieces_of s k m ≡ up_to (m * k)
  unfolding pieces_of text_from joined
  pieces_to zero = let none : 0 ≡ min (0 * k) s.head.frames = omega arith in ap (text_from s 0) none
  pieces_to (suc m) = ap (λ (t : List ℕ). t ++ piece_of s (m * k) k) (pieces_to m) ∙ next_piece (m * k) ∙ ap up_to (sym (suc-mul m k))

pub pieces_join : PiecesJoin
unfolding end_of render_of
pieces_join text s k m e h =
    ap (λ (t : List ℕ). t ++ end_of s) (pieces_to s k m ∙ ap (text_from s 0) (min-eq_right h)) ∙ plays s ∙ sym (ap printed_of e)

-- ---- a refusal
pub refused_written : (out q : List ℕ) (r n : ℕ) → n < 4294967296 → length out ≡ 65536 → Put out 0 (refused_text n) r q → take r q ≡ refused_text n
refused_written out q r n h l put = let m = refused_length n (omega arith) in put_whole out (refused_text n) r q put (omega arith)
