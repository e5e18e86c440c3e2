-- The promises of a reached string: no call refuses but for its own input, and an edge can always be had.
use Rattle.std.proofs.Common.{◌≡◌, ℕ, zero, suc, ◌+◌, ◌*◌, ◌≤◌, Bool, true, false, cond, ◌&&◌, eqb, leb, List, length, refl, ap, ◌∙◌, le_trans, arith}
use mathlib.Core.Bool.{and-false}
use lib.Ieee.{Float, le, low}
use Rattle.common.proofs.DrawLaws.{draws_less, draws_taken}
use Rattle.common.proofs.EdgeLaws as law
use Rattle.common.proofs.EdgeLaws.{rising_comes, rising_not}
use Rattle.answer.specs.Answer.{refusal_of, accepted}
use Rattle.answer.specs.Block.{block_refusal_of}
use Rattle.answer.specs.declared.Tally.{Tally}
use Rattle.answer.proofs.Blocks.{block_keeps, block_refusal, held_accepted, all_taken}
use Rattle.common.specs.Edge.{rising_of}
use Rattle.common.specs.Tests.{rate_ok, threshold_ok, draws_ok}
use Rattle.karplus_strong.proofs.Alike.{length_blank, Keeps, strike_keeps, stepped}
use Rattle.karplus_strong.proofs.Parts.{made_either, made_says, max_len_range, Sound, struck_range, sound_line, turn_is}
use Rattle.karplus_strong.proofs.Reached.{Good, after_good, reached_good}
use Rattle.karplus_strong.proofs.Ticks.{numbers_of, step_heard, heard_none, heard_accepted, struck_step, struck_heard, unless_number}
use Rattle.karplus_strong.proofs.Ticks.{twice_heard, twice_left, tick_is, good_refusal, good_room, good_none, good_first, good_tick}
use Rattle.karplus_strong.proofs.Held.{tune_of, holds, first_none}
use Rattle.karplus_strong.specs.Shortcuts.{held_answer}
use Rattle.karplus_strong.specs.Calls.{First, ReachedKarplusStrong, strung_after, after, reply, Tick, Play, Reset, SetSampleRate, Lend, Told}
use Rattle.karplus_strong.specs.Consts.{n_ports}
use Rattle.karplus_strong.specs.KarplusStrong.{new_strung, trigger_refusal_of, karplus_strong_block_of, max_len_of, room_of}
use Rattle.karplus_strong.specs.KarplusStrong.{karplus_strong_cells_of, karplus_strong_refusal_of, karplus_strong_rate_refusal_of}
use Rattle.karplus_strong.specs.KarplusStrong.{made_unless, karplus_strong_new_refusal_of, karplus_strong_new_of}
use Rattle.karplus_strong.specs.KarplusStrong.{karplus_strong_reset_of, karplus_strong_set_sample_rate_of}
use Rattle.karplus_strong.specs.KarplusStrong.{struck_len, heard_string, tick_unless, karplus_strong_tick_of, karplus_strong_next_of, Strung, new_like}
use Rattle.karplus_strong.specs.KarplusStrong.{memo_at, period_at, line_ok}
use Rattle.karplus_strong.specs.Promises.{taken, NeverRefused, NewAccepts, NewThere, CellsEnough, EdgeComes}
use Rattle.karplus_strong.specs.Promises.{FiniteOrCleared, RefusedLeaves, KeepsRate, GateSays, ThresholdKept, BlockAccepts, BlockTallies}
use Rattle.laws.specs.Float.{zer}
use Rattle.karplus_strong.specs.Step.{Ticking}
use Rattle.common.specs.declared.EdgeDetector.{EdgeDetector}
use Rattle.common.specs.declared.Hertz.{Hertz}
use Rattle.karplus_strong.specs.declared.KarplusStrong.{KarplusStrong}
use Rattle.karplus_strong.specs.declared.KarplusStrongControls.{KarplusStrongControls}

pub finite_or_cleared : FiniteOrCleared
finite_or_cleared s c draws l e = rw (tick_is s c draws l)
    (twice_heard (numbers_of c) (karplus_strong_refusal_of s (length l)) (trigger_refusal_of s c draws) s l (struck_step s c draws l) (struck_heard s c draws l)
    (rw (tick_is s c draws l) at e))

pub refused_leaves : RefusedLeaves
refused_leaves s c draws l e = rw (tick_is s c draws l)
    (twice_left (numbers_of c) (karplus_strong_refusal_of s (length l)) (trigger_refusal_of s c draws) s l (struck_step s c draws l) (struck_heard s c draws l)
    (rw (tick_is s c draws l) at e))

-- ---- a reached string is ready
good_number : (s : KarplusStrong) (c : KarplusStrongControls) (draws : List ℕ) (l : List Float) → Good s (length l)
    → refusal_of (karplus_strong_tick_of s c draws l).out.answer ≡ trigger_refusal_of s c draws
good_number s c draws l g =
    ap (λ (t : Ticking). refusal_of t.out.answer) (good_tick s c draws l g)
    ∙ unless_number (trigger_refusal_of s c draws) s l (struck_step s c draws l)
    (heard_none (numbers_of c) (struck_step s c draws l).out.answer (struck_heard s c draws l))

good_block : (x : Strung) (c : KarplusStrongControls) (draws : List ℕ) (t : Tally) (o : List Float) (m : List ℕ) → Good x.string (length x.line)
    → (karplus_strong_block_of x c draws t o m).refused
    ≡ block_refusal_of (eqb (length o) (n_ports * length m)) (cond (eqb (length m) 0) 0 (trigger_refusal_of x.string c draws)) t (length m)
unfolding karplus_strong_block_of
good_block x c draws t o m g =
    block_refusal n_ports _ _ _ x t o m
    ∙ ap (λ (k : ℕ). block_refusal_of (eqb (length o) (n_ports * length m)) k t (length m)) (good_first x.string c draws (length x.line) (length m) g)

pub never_refused : NeverRefused
never_refused x h = record {
  state = λ n. good_refusal x.string (length x.line) n g;
  room = good_room x.string (length x.line) g;
  threshold = g.sound.threshold;
  five = (law.threshold_in _ g.sound.threshold).below;
  tick = λ c draws. good_number x.string c draws x.line g;
  play = λ c draws t o m. good_block x c draws t o m g;
  reset = reset_says;
  rate = rate_says;
}
  where
    g : Good x.string (length x.line)
    g = reached_good x h

    reset_says : reply x Reset ≡ Told 0
    reset_says = unfold reply karplus_strong_reset_of in ap Told (made_says _ x _ ∙ good_none x.string (length x.line) g)

    both : (b : Bool) (k : ℕ) → ◌≡◌ {A = ℕ} (cond (true && b) (cond true k 2) 1) (cond b k 1)
    both true k = refl
    both false k = refl

    rate_says : (r : Hertz) → reply x (SetSampleRate r) ≡ Told (cond (rate_ok r) (room_of r (length x.line)) 1)
    rate_says r =
        unfold reply karplus_strong_set_sample_rate_of karplus_strong_rate_refusal_of in
        ap Told (made_says _ x _ ∙ simp (g.sound.rate, sound_line x.string g.sound) (both (rate_ok r) (room_of r (length x.line))))

pub new_accepts : NewAccepts
new_accepts rate threshold l = (unfold karplus_strong_new_of karplus_strong_new_refusal_of in made_says _ _ _, first)
  where
    first : rate_ok rate ≡ true → threshold_ok threshold ≡ true → room_of rate (length l) ≡ 0 → First (new_strung rate threshold l)
    first e k h =
        record {
          rate = rate;
          threshold = threshold;
          lent = l;
          is_new = unfold karplus_strong_new_of karplus_strong_new_refusal_of made_unless in simp
              (e, k, h);
        }

pub like_size : (x : Strung) → ReachedKarplusStrong x → (l : List Float) → length l ≡ length x.line → length (new_like x l).line ≡ length x.line
like_size x h l e = let r = (reached_good x h).room in length_blank 0 (max_len_of x.string.sample_rate) l (omega arith) ∙ e

pub new_there : NewThere
new_there x h y w =
    let g = reached_good x h in
    rw w.is_new
    ((new_accepts x.string.sample_rate x.string.trigger_edge.threshold w.lent).1 g.sound.rate g.sound.threshold
    (rw w.size (good_room x.string (length x.line) g)))

-- ---- a line of enough cells
pub cells_enough : CellsEnough
unfolding karplus_strong_new_of karplus_strong_new_refusal_of karplus_strong_cells_of
cells_enough rate threshold l = made_says _ _ _ ∙ go (rate_ok rate)
  where
    ok : Bool
    ok = threshold_ok threshold

    go : (b : Bool) → ◌≡◌ {A = ℕ} (cond b (cond ok (room_of rate (length l)) 2) 1)
        (cond b (cond ok (cond (leb (cond b (max_len_of rate + 2) 0) (length l)) 0 3) 2) 1)
    go true = unfold room_of in refl
    go false = refl

-- ---- an edge
good_accepted : (s : KarplusStrong) (c : KarplusStrongControls) (draws : List ℕ) (l : List Float) → Good s (length l) → trigger_refusal_of s c draws ≡ 0
    → accepted (karplus_strong_tick_of s c draws l).out.answer ≡ true
unfolding tick_unless
good_accepted s c draws l g e = ap (λ (t : Ticking). accepted t.out.answer)
    (good_tick s c draws l g ∙ ap (λ (k : ℕ). tick_unless k s l (struck_step s c draws l)) e)
    ∙ heard_accepted (numbers_of c) (struck_step s c draws l).out.answer (struck_heard s c draws l)

-- the step leaves the rate, and the edge record of the tick's trigger
struck_step_keeps : (s : KarplusStrong) (c : KarplusStrongControls) (draws : List ℕ) (l : List Float)
    → Keeps (heard_string s (rising_of s.trigger_edge c.trigger).edge (memo_at s c)) (struck_step s c draws l).out.state
unfolding struck_step
struck_step_keeps s c draws l =
    let a = (stepped _ _ _ _ _ _).keeps in
    let b = strike_keeps _ _ _ draws l _ in
    record { rate = a.rate ∙ b.rate; edge = a.edge ∙ b.edge; memo = a.memo ∙ b.memo }

-- and what it keeps the tick keeps, be it refused
twice_kept : {A : Type 0} (part : KarplusStrong → A) (k j : ℕ) (s : KarplusStrong) (l : List Float) (t : Ticking) → part t.out.state ≡ part s
    → part (tick_unless k s l (tick_unless j s l t)).out.state ≡ part s
unfolding tick_unless
twice_kept part zero zero s l t h = h
twice_kept part zero (suc j) s l t h = refl
twice_kept part (suc k) j s l t h = refl

tick_kept : {A : Type 0} (part : KarplusStrong → A) (s : KarplusStrong) (c : KarplusStrongControls) (draws : List ℕ) (l : List Float)
    → part (struck_step s c draws l).out.state ≡ part s → part (karplus_strong_tick_of s c draws l).out.state ≡ part s
tick_kept part s c draws l h =
    rw (tick_is s c draws l) (twice_kept part (karplus_strong_refusal_of s (length l)) (trigger_refusal_of s c draws) s l (struck_step s c draws l) h)

pub keeps_rate : KeepsRate
keeps_rate s c draws l = tick_kept (λ (u : KarplusStrong). u.sample_rate) s c draws l (struck_step_keeps s c draws l).rate

-- ---- the gate
gate_line : (s : KarplusStrong) (m : ℕ) → threshold_ok s.trigger_edge.threshold ≡ false → line_ok s m ≡ false
unfolding line_ok
gate_line s m bad = simp (bad, and-false)

pub gate_says : GateSays
unfolding karplus_strong_refusal_of
gate_says =
    record {
      new = λ rate threshold. refl;
      asked = λ s n ok bad. simp (ok, gate_line s (max_len_of s.sample_rate) bad);
      reset = λ s. (law.threshold_kept s.trigger_edge zer).reset;
      rate = λ s r. refl;
    }

-- the threshold stays
abbrev gate_of : KarplusStrong → Float
gate_of s = s.trigger_edge.threshold

tick_gate : (c : KarplusStrongControls) (draws : List ℕ) (x : Strung) → gate_of (karplus_strong_next_of c draws x).string ≡ gate_of x.string
tick_gate c draws x =
    let s = x.string in
    let edge = (struck_step_keeps s c draws x.line).edge ∙ (law.threshold_kept s.trigger_edge c.trigger).rising in
    tick_kept gate_of s c draws x.line (law.same_gate edge)

made_gate : (k : ℕ) (x y : Strung) → gate_of y.string ≡ gate_of x.string → gate_of (strung_after (made_unless k x y)).string ≡ gate_of x.string
made_gate k x y h = made_either (λ m. gate_of m.out.state ≡ gate_of x.string) k x y (λ e. h) (λ n. refl)

pub threshold_kept : ThresholdKept
unfolding after karplus_strong_block_of karplus_strong_reset_of karplus_strong_set_sample_rate_of
threshold_kept x (Tick c draws) = tick_gate c draws x
threshold_kept x (Play c draws t o m) =
    block_keeps n_ports _ _ _ (λ (y : Strung). gate_of y.string ≡ gate_of x.string) (λ y h. tick_gate c draws y ∙ h) x refl t o m
threshold_kept x Reset = made_gate _ x _ (law.same_gate (law.threshold_kept x.string.trigger_edge zer).reset)
threshold_kept x (SetSampleRate r) = made_gate _ x _ refl
threshold_kept x (Lend l) = refl

good_edge : (s : KarplusStrong) (c : KarplusStrongControls) (draws : List ℕ) (l : List Float) → Good s (length l) → trigger_refusal_of s c draws ≡ 0
    → (karplus_strong_tick_of s c draws l).out.state.trigger_edge ≡ (rising_of s.trigger_edge c.trigger).edge
unfolding tick_unless
good_edge s c draws l g e =
    ap (λ (t : Ticking). t.out.state.trigger_edge) (good_tick s c draws l g ∙ ap (λ (k : ℕ). tick_unless k s l (struck_step s c draws l)) e)
    ∙ (struck_step_keeps s c draws l).edge

low_sounds : (s : KarplusStrong) (c : KarplusStrongControls) (draws : List ℕ) → le c.trigger s.trigger_edge.threshold ≡ true
    → trigger_refusal_of s c draws ≡ 0
unfolding trigger_refusal_of
low_sounds s c draws e = simp (rising_not s.trigger_edge c.trigger e)

pub struck_short : (s : KarplusStrong) (c : KarplusStrongControls) → Sound s → struck_len (period_at s c) ≤ 9611
struck_short s c a = let k = (max_len_range s.sample_rate a.rate).1 in omega (arith, (struck_range s c a).1)

high_sounds : (s : KarplusStrong) (c : KarplusStrongControls) (draws : List ℕ) → Sound s → taken s c ≡ true → 9611 ≤ length draws → draws_ok draws 9611 ≡ true
    → trigger_refusal_of s c draws ≡ 0
unfolding trigger_refusal_of
high_sounds s c draws a e h k =
    let n = struck_len (period_at s c) in
    let q = struck_short s c a in
    simp (e, draws_taken n draws (le_trans q h) (draws_less draws 9611 n q k))

pub edge_comes : EdgeComes
edge_comes x h low high none draws f el eh n ok = (
  good_accepted x.string low none x.line g r,
  record { is_accepted = good_accepted y.string high draws y.line k (high_sounds y.string high draws k.sound e n ok); edge = e },
)
  where
    g : Good x.string (length x.line)
    g = reached_good x h

    r : trigger_refusal_of x.string low none ≡ 0
    r = low_sounds x.string low none el

    y : Strung
    y = after x (Tick low none)

    k : Good y.string (length y.line)
    k = after_good x (Tick low none) g f

    edge : y.string.trigger_edge ≡ (rising_of x.string.trigger_edge low.trigger).edge
    edge = unfold after in good_edge x.string low none x.line g r

    e : taken y.string high ≡ true
    e = ap (λ (d : EdgeDetector). (rising_of d high.trigger).rising) edge ∙ rising_comes x.string.trigger_edge low.trigger high.trigger el eh

-- ---- and no tick of a block is refused whose first isn't
turn_accepted : (s : KarplusStrong) (c : KarplusStrongControls) (x : Strung) → accepted (held_answer (tune_of s c) x) ≡ true
unfolding held_answer
turn_accepted s c x = ap (λ (t : Ticking). accepted t.out.answer) (turn_is _ _ _ _ _ _) ∙ heard_accepted (numbers_of c) _ (step_heard _ _ _ _ _ _)

pub block_accepts : BlockAccepts
block_accepts x c draws n z h =
    let k = first_none x.string c draws (length x.line) n h (λ e. omega arith) in
    held_accepted _ _ _ _ _ _ _ _ (holds x.string c draws x.line k.0 k.1) (turn_accepted x.string c)

pub block_tallies : BlockTallies
block_tallies x c draws n z h = all_taken _ _ x (block_accepts x c draws n z h)
