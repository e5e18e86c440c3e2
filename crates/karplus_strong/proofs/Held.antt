-- A block's ticks are turns of the loop alone: its trigger and its controls stand still.
use Rattle.std.proofs.Common.{◌≡◌, ℕ, ◌+◌, ◌<◌, ◌≤◌, Bool, true, false, cond, eqb, List, length, sym, refl, ap, ◌∙◌, subst, add-one, arith, ne_eqb, eqb-true}
use Rattle.std.proofs.Common.{le-leb}
use lib.Ieee.{Float}
use Rattle.std.specs.Prelude.{◌*◌, Result, Ok}
use borrow.Author.Tests.{eqb-false}
use Rattle.laws.specs.Float.{zer}
use Rattle.laws.specs.Lists.{tab}
use Rattle.common.specs.Edge.{rising_of}
use Rattle.common.specs.Memo.{voct_to_hz_at}
use Rattle.common.proofs.EdgeLaws.{threshold_kept, same_gate, rising_once}
use Rattle.common.proofs.MemoLaws.{recall1_again}
use Rattle.common.specs.declared.Risen.{Risen}
use Rattle.answer.specs.Block.{after_ticks, answer_at, joined, mark_at, frame_at, block_refusal_of}
use Rattle.answer.proofs.Said.{said_fits}
use Rattle.answer.specs.declared.Answer.{Answer}
use Rattle.answer.specs.declared.Tally.{Tally}
use Rattle.common.specs.Refusal.{refused_number}
use Rattle.common.specs.declared.Refusal.{Refusal}
use Rattle.answer.proofs.Blocks.{Holds, held_after, held_marks, held_frames}
use Rattle.karplus_strong.specs.Consts.{n_ports}
use Rattle.karplus_strong.specs.Step.{Ticking}
use Rattle.karplus_strong.specs.KarplusStrong.{max_len_of, room_of, karplus_strong_refusal_of, finite_or, period_of, Strung, strike_if}
use Rattle.karplus_strong.specs.KarplusStrong.{heard_string, tick_unless, karplus_strong_tick_of, strung, trigger_refusal_of, first_refusal_of}
use Rattle.karplus_strong.specs.KarplusStrong.{karplus_strong_told_of, karplus_strong_next_of, damping_of, brightness_of, stretch_of, controls_of, memo_at}
use Rattle.karplus_strong.specs.KarplusStrong.{period_at}
use Rattle.answer.specs.Mark.{all_numbers}
use Rattle.karplus_strong.specs.Shortcuts.{tuning_of, turn_of, held_answer, held_next, hear_of, strike_at}
use Rattle.karplus_strong.specs.Promises.{taken}
use Rattle.karplus_strong.specs.declared.Heard.{Heard}
use Rattle.karplus_strong.specs.declared.KarplusStrong.{KarplusStrong}
use Rattle.karplus_strong.specs.declared.KarplusStrongControls.{KarplusStrongControls}
use Rattle.answer.specs.declared.Ticked.{Ticked}
use Rattle.karplus_strong.specs.declared.Tuning.{Tuning}
use Rattle.karplus_strong.proofs.Parts.{PartsOf, heard_struck, Sound, struck_fits, struck_sound, sound_line, accepted, turn_is}
use Rattle.karplus_strong.proofs.Alike.{strike_keeps, strike_size, turned, turned_sound}
use Rattle.karplus_strong.proofs.Ticks.{struck_step, tick_is}

-- ---- a turn of the loop
pub heard : (t : Tuning) (x : Strung) (i : ℕ) (s : KarplusStrong) (l : List Float) (r : Ticked KarplusStrong) → r ≡ (turn_of s t l).out
    → strung s l ≡ after_ticks (held_next t) i x → r.answer ≡ answer_at (held_answer t) (held_next t) x i
unfolding answer_at held_answer
heard t x i s l r e z = ap (λ (u : Ticked KarplusStrong). u.answer) e ∙ ap (λ (y : Strung). (turn_of y.string t y.line).out.answer) z

pub moved : (t : Tuning) (x : Strung) (i : ℕ) (s : KarplusStrong) (l m : List Float) (r : Ticked KarplusStrong) → r ≡ (turn_of s t l).out → m
    ≡ (turn_of s t l).line
    → strung s l ≡ after_ticks (held_next t) i x
    → strung r.state m ≡ after_ticks (held_next t) (i + 1) x
unfolding after_ticks held_next
moved t x i s l m r e q z = rw add-one
    ((λ j. strung (e j).state (q j)) ∙ ap (λ (y : Strung). let u = turn_of y.string t y.line in strung u.out.state u.line) z)

-- its place stays in the line
pub turned_ready : (s : KarplusStrong) (t : Tuning) (l : List Float) (r : Ticked KarplusStrong) → r ≡ (turn_of s t l).out → s.write_pos < s.len
    → (r.state.write_pos < r.state.len) × (r.state.len ≡ s.len)
turned_ready s t l r e h = let w = turned s t l in rw e (w.place h, w.len)

-- ---- the whole
abbrev pub tune_of : KarplusStrong → KarplusStrongControls → Tuning
tune_of s c = tuning_of (period_at s c) (damping_of c) (stretch_of c) (all_numbers (controls_of c))

-- what the first turn starts from
abbrev pub struck_by : KarplusStrong → KarplusStrongControls → List ℕ → List Float → Strung
struck_by s c draws l =
    strike_if (taken s c) (heard_string s (rising_of s.trigger_edge c.trigger).edge (memo_at s c)) (period_at s c) (brightness_of c) draws l

-- a string in a block from s on: refusals 1 to 3 let it pass, and its trigger and pitch are the block's
pub record Held (s : KarplusStrong) (c : KarplusStrongControls) (x : Strung) : Type 0 where
  pub sound : Sound x.string
  pub room : max_len_of x.string.sample_rate + 2 ≤ length x.line
  pub rate : x.string.sample_rate ≡ s.sample_rate
  pub edge : x.string.trigger_edge ≡ (rising_of s.trigger_edge c.trigger).edge
  pub memo : x.string.freq_memo ≡ memo_at s c

turn_held : (s : KarplusStrong) (c : KarplusStrongControls) (t : Tuning) (x : Strung) → Held s c x → Held s c (held_next t x)
unfolding held_next
turn_held s c t x h =
    let w = turned x.string t x.line in
    let k = w.keeps in
    let most = h.sound.most in
    let room = h.room in
    record {
      sound = turned_sound x.string x.line _ w h.sound;
      room = rw (k.rate, w.size (omega arith)) room;
      rate = k.rate ∙ h.rate;
      edge = k.edge ∙ h.edge;
      memo = k.memo ∙ h.memo;
    }

none_refused : (s : KarplusStrong) (n : ℕ) → Sound s → max_len_of s.sample_rate + 2 ≤ n → karplus_strong_refusal_of s n ≡ 0
unfolding karplus_strong_refusal_of room_of
none_refused s n a h = simp (a.rate, sound_line s a, le-leb (max_len_of s.sample_rate + 2) n h)

tick_steps : (s : KarplusStrong) (c : KarplusStrongControls) (draws : List ℕ) (l : List Float) → karplus_strong_refusal_of s (length l) ≡ 0
    → trigger_refusal_of s c draws ≡ 0 → karplus_strong_tick_of s c draws l ≡ struck_step s c draws l
unfolding tick_unless
tick_steps s c draws l h k = tick_is s c draws l ∙ simp (h, k)

-- in such a string a tick takes no edge and finds its pitch in the memo
module _ (s : KarplusStrong) (c : KarplusStrongControls) (x : Strung) (h : Held s c x) where
  no_edge : rising_of x.string.trigger_edge c.trigger ≡ record { edge = x.string.trigger_edge; rising = false }
  no_edge = rw h.edge (rising_once s.trigger_edge c.trigger)

  not_taken : taken x.string c ≡ false
  not_taken = ap (λ (r : Risen). r.rising) no_edge

  same_memo : memo_at x.string c ≡ x.string.freq_memo
  same_memo = rw h.memo (recall1_again voct_to_hz_at s.freq_memo (finite_or c.voct.0 zer))

  same_tune : tune_of x.string c ≡ tune_of s c
  same_tune = (λ i. tuning_of (period_of (h.rate i) ((same_memo ∙ h.memo) i).val) (damping_of c) (stretch_of c) (all_numbers (controls_of c)))

  not_struck : (draws : List ℕ) → struck_by x.string c draws x.line ≡ strung x.string x.line
  unfolding strike_if
  not_struck draws = simp (not_taken, no_edge, same_memo)

  untriggered : (draws : List ℕ) → trigger_refusal_of x.string c draws ≡ 0
  unfolding trigger_refusal_of
  untriggered draws = simp not_taken

struck_turn : (s : KarplusStrong) (c : KarplusStrongControls) (draws : List ℕ) (l : List Float)
    → struck_step s c draws l ≡ turn_of (struck_by s c draws l).string (tune_of s c) (struck_by s c draws l).line
unfolding struck_step
struck_turn s c draws l = sym (turn_is _ _ _ _ _ _)

held_tick : (s : KarplusStrong) (c : KarplusStrongControls) (draws : List ℕ) (x : Strung) → Held s c x
    → karplus_strong_tick_of x.string c draws x.line ≡ turn_of x.string (tune_of s c) x.line
held_tick s c draws x h =
    tick_steps x.string c draws x.line (none_refused x.string (length x.line) h.sound h.room) (untriggered s c x h draws)
    ∙ struck_turn x.string c draws x.line
    ∙ ap (λ (u : Strung). turn_of u.string (tune_of x.string c) u.line) (not_struck s c x h draws)
    ∙ ap (λ (t : Tuning). turn_of x.string t x.line) (same_tune s c x h)

struck_held : (s : KarplusStrong) (c : KarplusStrongControls) (draws : List ℕ) (l : List Float) → Sound s → max_len_of s.sample_rate + 2 ≤ length l
    → Held s c (struck_by s c draws l)
struck_held s c draws l a h =
    let heard = heard_string s (rising_of s.trigger_edge c.trigger).edge (memo_at s c) in
    let k = strike_keeps heard (period_at s c) (brightness_of c) draws l (taken s c) in
    let size = strike_size heard (period_at s c) (brightness_of c) draws l (taken s c) (struck_fits s c a (length l) h) in
    record {
      sound = struck_sound s c a (taken s c) _ (brightness_of c) draws l (same_gate (threshold_kept s.trigger_edge c.trigger).rising);
      room = rw (size, k.rate) h;
      rate = k.rate;
      edge = k.edge;
      memo = k.memo;
    }

-- a tick that is a turn
told : (t : Tuning) (x : Strung) (u : Ticking) → u ≡ turn_of x.string t x.line → u.out.answer ≡ held_answer t x
unfolding held_answer
told t x u e = ap (λ (w : Ticking). w.out.answer) e

gone : (t : Tuning) (x : Strung) (u : Ticking) → u ≡ turn_of x.string t x.line → strung u.out.state u.line ≡ held_next t x
unfolding held_next
gone t x u e = ap (λ (w : Ticking). strung w.out.state w.line) e

first_tick : (s : KarplusStrong) (c : KarplusStrongControls) (draws : List ℕ) (l : List Float) → karplus_strong_refusal_of s (length l) ≡ 0
    → trigger_refusal_of s c draws ≡ 0 → karplus_strong_tick_of s c draws l ≡ turn_of (struck_by s c draws l).string (tune_of s c) (struck_by s c draws l).line
first_tick s c draws l h k = tick_steps s c draws l h k ∙ struck_turn s c draws l

pub holds : (s : KarplusStrong) (c : KarplusStrongControls) (draws : List ℕ) (l : List Float) → karplus_strong_refusal_of s (length l) ≡ 0
    → trigger_refusal_of s c draws ≡ 0
    → Holds (karplus_strong_told_of c draws) (karplus_strong_next_of c draws) (held_answer (tune_of s c)) (held_next (tune_of s c)) (λ (x : Strung). x)
    (Held s c)
    (strung s l) (struck_by s c draws l)
holds s c draws l h k =
    record {
      good = struck_held s c draws l (accepted s (length l) h).0 (accepted s (length l) h).1;
      first = told (tune_of s c) (struck_by s c draws l) (karplus_strong_tick_of s c draws l) (first_tick s c draws l h k);
      second = gone (tune_of s c) (struck_by s c draws l) (karplus_strong_tick_of s c draws l) (first_tick s c draws l h k);
      stays = λ x g. turn_held s c (tune_of s c) x g;
      answers = λ x g. told (tune_of s c) x (karplus_strong_tick_of x.string c draws x.line) (held_tick s c draws x g);
      moves = λ x g. gone (tune_of s c) x (karplus_strong_tick_of x.string c draws x.line) (held_tick s c draws x g);
    }

-- ---- what the code has worked out
-- n ticks from x on leave y, with these samples and marks
abbrev pub Rings : (Strung → Answer) → (Strung → Strung) → Strung → ℕ → Strung → List Float → List ℕ → Type 0
Rings answer next x n y o m =
    (y ≡ after_ticks next n x) × ((o ≡ joined (frame_at n_ports answer next x) n) × (m ≡ tab (mark_at answer next x) n))

-- the ring of a string that was struck, if its trigger was taken
pub run_by : (s : KarplusStrong) (c : KarplusStrongControls) (d : List ℕ) (l : List Float) (h : Heard) → h ≡ hear_of s c
    → karplus_strong_refusal_of s (length l) ≡ 0 → trigger_refusal_of s c d ≡ 0
    → (t : Tuning) (u : KarplusStrong) (x : List Float) → t ≡ tuning_of h.period (damping_of c) (stretch_of c) (all_numbers (controls_of c))
    → PartsOf (strike_at h.string h.strike (brightness_of c) d l) u x
    → (n : ℕ) → 0 < n → (y : Strung) (o : List Float) (m : List ℕ) → Rings (held_answer t) (held_next t) (strung u x) n y o m
    → Rings (karplus_strong_told_of c d) (karplus_strong_next_of c d) (strung s l) n y o m
unfolding hear_of
run_by s c d l h eh p k t u x et eu n z y o m r =
    let w = holds s c d l p k in
    let a : strung u x ≡ struck_by s c d l = (λ i. strung (eu.0 i) (eu.1 i)) ∙ heard_struck s c h eh (brightness_of c) d l in
    let b : t ≡ tune_of s c = et ∙ ap (λ (v : Heard). tuning_of v.period (damping_of c) (stretch_of c) (all_numbers (controls_of c))) eh in
    let q : Rings (held_answer (tune_of s c)) (held_next (tune_of s c)) (struck_by s c d l) n y o m =
    subst (λ (v : Tuning). Rings (held_answer v) (held_next v) (struck_by s c d l) n y o m) b
    (subst (λ (v : Strung). Rings (held_answer t) (held_next t) v n y o m) a r) in
    (q.0 ∙ sym (held_after _ _ _ _ _ _ _ _ w n z), (q.1.0 ∙ sym (held_frames _ _ _ _ _ _ _ _ w n_ports n), q.1.1 ∙ sym (held_marks _ _ _ _ _ _ _ _ w n)))

pub first_none : (s : KarplusStrong) (c : KarplusStrongControls) (d : List ℕ) (cells n : ℕ) → first_refusal_of s c d cells n ≡ 0 → (n ≡ 0 → ⊥)
    → (karplus_strong_refusal_of s cells ≡ 0) × (trigger_refusal_of s c d ≡ 0)
unfolding first_refusal_of
first_none s c d cells n e z = go (eqb k 0) (eqb-true k 0) (eqb-false k 0) (rw (ne_eqb n 0 z) at e)
  where
    k : ℕ
    k = karplus_strong_refusal_of s cells

    go : (b : Bool) → (b ≡ true → k ≡ 0) → (b ≡ false → k ≡ 0 → ⊥) → cond b (trigger_refusal_of s c d) k ≡ 0 → (k ≡ 0) × (trigger_refusal_of s c d ≡ 0)
    go true p q h = (p refl, h)
    go false p q h = absurd (q refl h)

-- what a block knows that isn't refused and has a tick
pub record Ready (s : KarplusStrong) (c : KarplusStrongControls) (d : List ℕ) (l o : List Float) (n : ℕ) : Type 0 where
  pub none : karplus_strong_refusal_of s (length l) ≡ 0
  pub untriggered : trigger_refusal_of s c d ≡ 0
  pub sound : Sound s
  pub room : max_len_of s.sample_rate + 2 ≤ length l
  pub some : 0 < n
  pub fits : length o ≡ n_ports * n

pub block_ready : {U V : Type 0} (s : KarplusStrong) (c : KarplusStrongControls) (d : List ℕ) (l o : List Float) (m : List ℕ) (t : Tally)
    (first : Result U Refusal) (b : Result V Refusal) → refused_number first ≡ first_refusal_of s c d (length l) (length m)
    → refused_number b ≡ block_refusal_of (eqb (length o) (n_ports * length m)) (refused_number first) t (length m) → (v : V) → b ≡ Ok v
    → (length m ≡ 0 → ⊥) → Ready s c d l o (length m)
block_ready s c d l o m t first b f q v w z =
    let fits = said_fits n_ports _ t o m first b f q v w in
    let none = first_none s c d (length l) (length m) fits.1 z in
    let good = accepted s (length l) none.0 in
    record { none = none.0; untriggered = none.1; sound = good.0; room = good.1; some = omega arith; fits = fits.0 }
