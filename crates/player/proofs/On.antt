-- The frames of a score that is read, played from any frame on, are those that the scope has; none is refused, and they print as the scope prints them.
use Prim.Native.Nat.{ℕ, zero, suc, ◌+◌, ◌*◌, ◌≤◌}
use mathlib.Core.Bool.{Bool, true, false, cond}
use mathlib.Core.List.{List, [], ◌∷◌, ◌++◌}
use mathlib.Core.Path.{◌≡◌, refl, sym, ap, ◌∙◌}
use native.Mathlib.Nat.{add-zero, add-suc, add_assoc}
use native.Mathlib.Numerals.{add-one}
use native.Mathlib.Omega.{arith}
use lib.Dec.{eqb}
use lib.Ieee.{Float}
use lib.ListN.{length}
use borrow.Author.Tests.{eq-eqb, le-leb}
use Rattle.laws.specs.Lists.{tab}
use Rattle.answer.specs.Answer.{host_number, volts_of, refusal_of, accepted, cleared, notfinite, lost, steered, clean, told}
use Rattle.answer.specs.Block.{block, many_to, grown_by, counted_to, room_for, after_ticks, ports_of, joined, block_refusal_of, answer_at, ticks_of, block_of}
use Rattle.answer.specs.Tally.{adds_up, new_tally, tally_of, tally_or, Run, new_run, settle, run, tally_after}
use Rattle.answer.specs.declared.Answer.{Answer}
use Rattle.answer.specs.declared.Tally.{Tally}
use Rattle.std.specs.Prelude.{Result, Ok, Err}
use Rattle.common.specs.Refusal.{number_of, refused_number}
use Rattle.common.specs.declared.Refusal.{Refusal}
use Rattle.answer.proofs.Blocks.{room_left, ticks_keep, block_counts}
use Rattle.answer.proofs.Laws.{accepted_unrefused}
use Rattle.score.proofs.Text.{read_valid}
use Rattle.score.specs.Promises.{Valid}
use Rattle.score.specs.Keys.{owner_of}
use Rattle.score.specs.declared.Inputs.{Inputs}
use Rattle.score.specs.declared.Inputs.TheVariants as inputs
use Rattle.score.specs.declared.Score.{Score}
use Rattle.frame.specs.Frames.{ports_in}
use Rattle.frame.proofs.Played.{told_prints}
use Rattle.player.specs.Frames.{heard_at, player_at, tally_at, samples_from, marks_from, text_from}
use Rattle.player.specs.Player.{controls_of, player_from, player_of, kind_of, sound_of, answer_by, next_by, play_by}
use Rattle.player.specs.Promises.{PlaysOn, PrintsOn}
use Rattle.player.specs.declared.Controls.{Controls}
use Rattle.player.specs.declared.Controls.TheVariants as controls
use Rattle.player.specs.declared.Player.{Player}
use Rattle.player.proofs.Accepted.{heard_accepted}
use Rattle.player.proofs.Range.{valid_rate}

-- ---- k ticks and then n are k + n
after_add : {S : Type 0} (next : S → S) (k n : ℕ) (s : S) → after_ticks next n (after_ticks next k s) ≡ after_ticks next (k + n) s
unfolding after_ticks
after_add next k zero s = ap (λ (m : ℕ). after_ticks next m s) (sym (add-zero k))
after_add next k (suc n) s = rw (add-suc k n) (ap next (after_add next k n s))

many_add : (v : ℕ) (f : ℕ → ℕ) (k n : ℕ) → many_to v f (k + n) ≡ many_to v f k + many_to v (λ (i : ℕ). f (k + i)) n
unfolding many_to
many_add v f k zero = ap (many_to v f) (add-zero k) ∙ sym (add-zero (many_to v f k))
many_add v f k (suc n) = let before = many_add v f k n in rw (add-suc k n) (omega arith)

grown_add : (t : Tally) (a b c d e a' b' c' d' e' : ℕ)
    → grown_by (grown_by t a b c d e) a' b' c' d' e' ≡ grown_by t (a + a') (b + b') (c + c') (d + d') (e + e')
unfolding grown_by
grown_add t a b c d e a' b' c' d' e' =
    let all : t.begun + (a + b + c + d + e) + (a' + b' + c' + d' + e') ≡ t.begun + (a + a' + (b + b') + (c + c') + (d + d') + (e + e')) = omega arith in
    λ i. record {
      begun = all i;
      finished = add_assoc t.finished a a' i;
      cleared = add_assoc t.cleared b b' i;
      notfinite = add_assoc t.notfinite c c' i;
      lost = add_assoc t.lost d d' i;
      steered = add_assoc t.steered e e' i;
    }

counted_add : (t : Tally) (f : ℕ → ℕ) (k n : ℕ) → counted_to (counted_to t f k) (λ (i : ℕ). f (k + i)) n ≡ counted_to t f (k + n)
unfolding counted_to
counted_add t f k n =
    grown_add t _ _ _ _ _ _ _ _ _ _
    ∙ (λ i. grown_by t (more clean i) (more cleared i) (more notfinite i) (more lost i) (more steered i))
  where
    more : (mark : ℕ) → many_to (told mark) f k + many_to (told mark) (λ (i : ℕ). f (k + i)) n ≡ many_to (told mark) f (k + n)
    more mark = sym (many_add (told mark) f k n)

-- ---- a tally that was given accepted answers one by one is the one that a block leaves
run_last : (r : Run) (xs : List Answer) (a : Answer) → run r (xs ++ (a ∷ [])) ≡ settle (run r xs) a (tally_of (run r xs).tally a)
unfolding run
run_last r [] a = refl
run_last r (x ∷ xs) a = run_last (settle r x (tally_of r.tally x)) xs a

settle_kept : (r : Run) (a : Answer) (u : Result Tally Refusal) → (settle r a u).tally ≡ tally_or r.tally u
unfolding settle refused_number tally_or
settle_kept r a (Ok t) = refl
settle_kept r a (Err e) = go (eqb (number_of e) 0)
  where
    go : (b : Bool) → (cond b (record { tally = r.tally; took = a ∷ r.took }) r).tally ≡ r.tally
    go true = refl
    go false = refl

new_room : (n : ℕ) → n ≤ 4294967295 → room_for new_tally n ≡ true
unfolding room_for adds_up
new_room n h = rw (le-leb (0 + n) 4294967295 (omega arith)) refl

tally_counted : (f : ℕ → Answer) (top : ℕ) → top ≤ 4294967295 → ((i : ℕ) → accepted (f i) ≡ true) → (n : ℕ) → n ≤ top
    → tally_after (tab f n) ≡ counted_to new_tally (λ (i : ℕ). host_number (f i)) n
unfolding tally_after tab run
tally_counted f top most all zero h = unfold counted_to grown_by many_to in refl
tally_counted f top most all (suc n) h =
    let before = tally_counted f top most all n (omega arith) in
    let taken = block_counts new_tally f top (λ i l. all i) (new_room top most) n (omega arith) in
    ap (λ (r : Run). r.tally) (run_last new_run (tab f n) (f n)) ∙ settle_kept _ (f n) _
    ∙ ap (λ (t : Tally). tally_or t (tally_of t (f n))) before ∙ taken.1 ∙ ap (counted_to new_tally (λ (i : ℕ). host_number (f i))) (add-one n)

-- ---- the controls stay
controls_stay : (c : Controls) (p : Player) → (next_by c p).controls ≡ p.controls
unfolding sound_of
controls_stay (controls.Vco c) p = refl
controls_stay (controls.Lfo c) p = refl
controls_stay (controls.Supersaw c) p = refl
controls_stay (controls.Formant c) p = refl

same_kind : (i : Inputs) → kind_of (controls_of i) ≡ owner_of i
unfolding kind_of controls_of
same_kind (inputs.Vco i) = refl
same_kind (inputs.Lfo i) = refl
same_kind (inputs.Supersaw i) = refl
same_kind (inputs.Formant i) = refl

module _ (s : Score) (v : Valid s) where
  all : (k : ℕ) → accepted (heard_at s k) ≡ true
  all = heard_accepted s (valid_rate s v)

  few : s.head.frames ≤ 4294967295
  few = let most = v.head.frames_most in omega arith

  marks : ℕ → ℕ
  marks i = host_number (heard_at s i)

  tally_is : (k : ℕ) → k ≤ s.head.frames → tally_at s k ≡ counted_to new_tally marks k
  unfolding tally_at marks
  tally_is k h = tally_counted (heard_at s) s.head.frames few all k h

  abbrev by : Controls
  by = controls_of s.inputs

  controls_at : (k : ℕ) → (player_at s k).controls ≡ by
  unfolding player_at
  controls_at k = ticks_keep (λ (p : Player). p.controls ≡ by) (next_by by) (λ p h. controls_stay by p ∙ h) (player_of s) (unfold player_from in refl) k

  answer_from : (k i : ℕ) → answer_at (answer_by by) (next_by by) (player_at s k) i ≡ heard_at s (k + i)
  unfolding heard_at player_at answer_at
  answer_from k i = ap (answer_by by) (after_add (next_by by) k i (player_of s))

  module _ (k n : ℕ) (h : k + n ≤ s.head.frames) where
    room : room_for (tally_at s k) n ≡ true
    room = ap (λ (t : Tally). room_for t n) (tally_is k (omega arith)) ∙ room_left new_tally s.head.frames (new_room _ few) marks k n h

    abbrev ports : ℕ
    ports = ports_in (kind_of by)

    moved : after_ticks (next_by by) n (player_at s k) ≡ player_at s (k + n)
    unfolding player_at
    moved = after_add (next_by by) k n (player_of s)

    counts : counted_to (tally_at s k) (λ (j : ℕ). host_number (heard_at s (k + j))) n ≡ tally_at s (k + n)
    unfolding marks
    counts =
        ap (λ (t : Tally). counted_to t (λ (j : ℕ). host_number (heard_at s (k + j))) n) (tally_is k (omega arith))
        ∙ counted_add new_tally marks k n ∙ sym (tally_is (k + n) h)

    ticks : ticks_of ports (answer_by by) (next_by by) n (player_at s k) (tally_at s k)
        ≡ block 0 (player_at s (k + n)) (tally_at s (k + n)) (samples_from s k n) (marks_from s k n)
    unfolding ticks_of samples_from marks_from
    ticks =
        (λ i. block 0 (moved i) (counted_to (tally_at s k) (λ (j : ℕ). host_number (answer_from k j i)) n)
        (joined (λ (j : ℕ). ports_of (ports_in (same_kind s.inputs i)) (volts_of (answer_from k j i))) n) (tab (λ (j : ℕ). host_number (answer_from k j i)) n))
        ∙ ap (λ (t : Tally). block 0 (player_at s (k + n)) t (samples_from s k n) (marks_from s k n)) counts

    plays : (o : List Float) (m : List ℕ) → length m ≡ n → length o ≡ ports_in (owner_of s.inputs) * n
        → play_by by (player_at s k) (tally_at s k) o m ≡ block 0 (player_at s (k + n)) (tally_at s (k + n)) (samples_from s k n) (marks_from s k n)
    unfolding play_by block_of block_refusal_of
    plays o m many size =
        let next : accepted (answer_by by (player_at s k)) ≡ true = unfold answer_at after_ticks in ap accepted (answer_from k 0) ∙ all (k + 0) in
        let first : refusal_of (answer_by by (player_at s k)) ≡ 0 = accepted_unrefused _ next in
        let fits : eqb (length o) (ports * n) ≡ true = eq-eqb (length o) (ports * n) (rw (same_kind s.inputs) size) in
        simp (fits, many, first, room) ticks

pub plays_on : PlaysOn
plays_on text s e k n h o m many size =
    let v = read_valid text s e in
    ap (λ (c : Controls). play_by c (player_at s k) (tally_at s k) o m) (controls_at s v k) ∙ plays s v k n h o m many size

pub prints_on : PrintsOn
unfolding samples_from marks_from text_from
prints_on text s e k n h =
    let v = read_valid text s e in
    let most = few s v in
    told_prints (owner_of s.inputs) k n (λ (i : ℕ). heard_at s (k + i)) (λ i l. all s v (k + i)) (omega arith)
