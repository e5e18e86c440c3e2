-- A tick is its strike and step, unless a refusal's number stands before them. What it answers is clean, steered or cleared.
use Rattle.std.proofs.Common.{◌≡◌, ℕ, zero, suc, ◌+◌, Bool, true, false, cond, not, eqb, ◌⊎◌, List, length, sym, refl, ap, ◌∙◌, subst, inl, inr, true≢false}
use Rattle.std.proofs.Common.{arith, ne_eqb, le-leb}
use lib.Ieee.{Float}
use Rattle.answer.specs.Answer.{volts1, answer_of, cleared, steered, clean, mark_number, volts_of, refusal_of, accepted}
use Rattle.answer.specs.Mark.{all_numbers, marked_of, rule_of}
use Rattle.answer.specs.Promises.{Steers}
use Rattle.answer.proofs.Laws.{mark_accepted, accepted_unrefused, mark_steers, refused_steers}
use Rattle.answer.specs.declared.Volts.{Volts}
use Rattle.common.specs.Edge.{rising_of}
use Rattle.laws.specs.Float.{zer, is_fin}
use Rattle.karplus_strong.proofs.Parts.{zer_fin, sound_line, heard_known, step_either}
use Rattle.karplus_strong.proofs.Reached.{Good}
use Rattle.karplus_strong.specs.KarplusStrong.{trigger_refusal_of, first_refusal_of, damping_of, brightness_of, stretch_of, controls_of, memo_at, period_at}
use Rattle.karplus_strong.specs.KarplusStrong.{max_len_of, room_of, karplus_strong_refusal_of, strike_if, heard_string}
use Rattle.karplus_strong.specs.KarplusStrong.{tick_unless, karplus_strong_sound_of, karplus_strong_tick_of}
use Rattle.karplus_strong.specs.Promises.{taken, NanSteers}
use Rattle.karplus_strong.specs.Step.{heard_of, Ticking, step_of}
use Rattle.answer.specs.declared.Answer.{Answer}
use Rattle.karplus_strong.specs.declared.KarplusStrong.{KarplusStrong}
use Rattle.karplus_strong.specs.declared.KarplusStrongControls.{KarplusStrongControls}

-- ---- what a step answers
-- an accepted answer: finite, and clean or steered by its controls; or cleared and 0.0
abbrev pub Heard : Bool → Answer → Type 0
Heard numbers a = ((mark_number a ≡ cond numbers clean steered) × (is_fin (volts_of a).p10 ≡ true)) ⊎ ((mark_number a ≡ cleared) × (volts_of a ≡ volts1 zer))

pub steady_mark : (v : Volts) (numbers : Bool) → mark_number (marked_of v false true true numbers) ≡ cond numbers clean steered
unfolding marked_of rule_of answer_of mark_number
steady_mark v true = refl
steady_mark v false = refl

steady_volts : (v : Volts) (numbers : Bool) → volts_of (marked_of v false true true numbers) ≡ v
unfolding marked_of rule_of answer_of volts_of
steady_volts v true = refl
steady_volts v false = refl

pub step_heard : (s : KarplusStrong) (p d t : Float) (numbers : Bool) (l : List Float) → Heard numbers (step_of s p d t numbers l).out.answer
unfolding marked_of rule_of answer_of mark_number volts_of
step_heard s p d t numbers l =
    step_either (λ u. Heard numbers u.out.answer) s p d t numbers l
    (λ y z v e. subst (Heard numbers) (heard_known v false numbers e)
    (inl (steady_mark (volts1 v) numbers, ap (λ (w : Volts). is_fin w.p10) (steady_volts (volts1 v) numbers) ∙ e)))
    (subst (Heard numbers) (heard_known zer true numbers zer_fin) (inr (refl, refl)))

-- such an answer has a mark
heard_some : (numbers : Bool) (a : Answer) → Heard numbers a → mark_number a ≡ 0 → ⊥
heard_some true a (inl h) z = let q = h.0 in omega arith
heard_some false a (inl h) z = let q = h.0 in omega arith
heard_some numbers a (inr h) z = let q = h.0 in omega arith

pub heard_accepted : (numbers : Bool) (a : Answer) → Heard numbers a → accepted a ≡ true
heard_accepted numbers a h = sym (mark_accepted a) ∙ ap not (ne_eqb (mark_number a) 0 (heard_some numbers a h))

pub heard_none : (numbers : Bool) (a : Answer) → Heard numbers a → refusal_of a ≡ 0
heard_none numbers a h = accepted_unrefused a (heard_accepted numbers a h)

-- ---- what a tick answers: the step's, unless it is refused
abbrev pub numbers_of : KarplusStrongControls → Bool
numbers_of c = all_numbers (controls_of c)

unfoldable pub struck_step : KarplusStrong → KarplusStrongControls → List ℕ → List Float → Ticking
struck_step s c draws l =
    let struck = strike_if (taken s c) (heard_string s (rising_of s.trigger_edge c.trigger).edge (memo_at s c)) (period_at s c) (brightness_of c) draws l in
    step_of struck.string (period_at s c) (damping_of c) (stretch_of c) (all_numbers (controls_of c)) struck.line

pub sound_is : (s : KarplusStrong) (c : KarplusStrongControls) (draws : List ℕ) (l : List Float)
    → karplus_strong_sound_of s c draws l ≡ tick_unless (trigger_refusal_of s c draws) s l (struck_step s c draws l)
unfolding karplus_strong_sound_of trigger_refusal_of struck_step
sound_is s c draws l = refl

pub struck_heard : (s : KarplusStrong) (c : KarplusStrongControls) (draws : List ℕ) (l : List Float) → Heard (numbers_of c) (struck_step s c draws l).out.answer
unfolding struck_step
struck_heard s c draws l =
    let struck = strike_if (taken s c) (heard_string s (rising_of s.trigger_edge c.trigger).edge (memo_at s c)) (period_at s c) (brightness_of c) draws l in
    step_heard struck.string (period_at s c) (damping_of c) (stretch_of c) (all_numbers (controls_of c)) struck.line

-- over its controls
struck_steers : (s : KarplusStrong) (c : KarplusStrongControls) (draws : List ℕ) (l : List Float) → Steers (controls_of c) (struck_step s c draws l).out.answer
unfolding struck_step heard_of
struck_steers s c draws l =
    step_either (λ u. Steers (controls_of c) u.out.answer) _ _ _ _ (all_numbers (controls_of c)) _ (λ y z v e. mark_steers _ _ _ _ (controls_of c))
    (mark_steers _ _ _ _ (controls_of c))

pub unless_number : (k : ℕ) (s : KarplusStrong) (l : List Float) (t : Ticking) → refusal_of t.out.answer ≡ 0
    → refusal_of (tick_unless k s l t).out.answer ≡ k
unfolding tick_unless refusal_of
unless_number zero s l t h = h
unless_number (suc k) s l t h = refl

-- an accepted tick went on to the step, and a refused one leaves everything
pub twice_heard : (numbers : Bool) (k j : ℕ) (s : KarplusStrong) (l : List Float) (t : Ticking) → Heard numbers t.out.answer
    → accepted (tick_unless k s l (tick_unless j s l t)).out.answer ≡ true → Heard numbers (tick_unless k s l (tick_unless j s l t)).out.answer
unfolding tick_unless accepted
twice_heard numbers zero zero s l t h e = h
twice_heard numbers zero (suc j) s l t h e = absurd (true≢false (sym e))
twice_heard numbers (suc k) j s l t h e = absurd (true≢false (sym e))

pub twice_left : (numbers : Bool) (k j : ℕ) (s : KarplusStrong) (l : List Float) (t : Ticking) → Heard numbers t.out.answer
    → accepted (tick_unless k s l (tick_unless j s l t)).out.answer ≡ false
    → ((tick_unless k s l (tick_unless j s l t)).out.state ≡ s) × ((tick_unless k s l (tick_unless j s l t)).line ≡ l)
unfolding tick_unless
twice_left numbers zero zero s l t h e = absurd (true≢false (sym (heard_accepted numbers t.out.answer h) ∙ e))
twice_left numbers zero (suc j) s l t h e = (refl, refl)
twice_left numbers (suc k) j s l t h e = (refl, refl)

twice_steers : (controls : List Float) (k j : ℕ) (s : KarplusStrong) (l : List Float) (t : Ticking) → Steers controls t.out.answer
    → Steers controls (tick_unless k s l (tick_unless j s l t)).out.answer
unfolding tick_unless
twice_steers controls zero zero s l t h = h
twice_steers controls zero (suc j) s l t h = refused_steers (suc j) controls
twice_steers controls (suc k) j s l t h = refused_steers (suc k) controls

pub tick_is : (s : KarplusStrong) (c : KarplusStrongControls) (draws : List ℕ) (l : List Float)
    → karplus_strong_tick_of s c draws l
    ≡ tick_unless (karplus_strong_refusal_of s (length l)) s l (tick_unless (trigger_refusal_of s c draws) s l (struck_step s c draws l))
unfolding karplus_strong_tick_of
tick_is s c draws l = ap (tick_unless (karplus_strong_refusal_of s (length l)) s l) (sound_is s c draws l)

pub nan_steers : NanSteers
nan_steers s c draws l =
    rw (tick_is s c draws l)
    (twice_steers (controls_of c) (karplus_strong_refusal_of s (length l)) (trigger_refusal_of s c draws) s l (struck_step s c draws l)
    (struck_steers s c draws l))

-- ---- a good string's tick is refused by its draws alone
pub good_refusal : (s : KarplusStrong) (n m : ℕ) → Good s n → karplus_strong_refusal_of s m ≡ room_of s.sample_rate m
unfolding karplus_strong_refusal_of
good_refusal s n m g = simp (g.sound.rate, sound_line s g.sound)

pub good_room : (s : KarplusStrong) (n : ℕ) → Good s n → room_of s.sample_rate n ≡ 0
unfolding room_of
good_room s n g = simp (le-leb (max_len_of s.sample_rate + 2) n g.room)

pub good_none : (s : KarplusStrong) (n : ℕ) → Good s n → karplus_strong_refusal_of s n ≡ 0
good_none s n g = good_refusal s n n g ∙ good_room s n g

pub good_tick : (s : KarplusStrong) (c : KarplusStrongControls) (draws : List ℕ) (l : List Float) → Good s (length l)
    → karplus_strong_tick_of s c draws l ≡ tick_unless (trigger_refusal_of s c draws) s l (struck_step s c draws l)
unfolding tick_unless
good_tick s c draws l g =
    tick_is s c draws l ∙ ap (λ (k : ℕ). tick_unless k s l (tick_unless (trigger_refusal_of s c draws) s l (struck_step s c draws l)))
    (good_none s (length l) g)

-- and so is a block's first
pub good_first : (s : KarplusStrong) (c : KarplusStrongControls) (draws : List ℕ) (n k : ℕ) → Good s n
    → first_refusal_of s c draws n k ≡ cond (eqb k 0) 0 (trigger_refusal_of s c draws)
unfolding first_refusal_of
good_first s c draws n k g = simp (good_none s n g)

pub first_good_none : (s : KarplusStrong) (c : KarplusStrongControls) (draws : List ℕ) (n k : ℕ) → Good s n
    → trigger_refusal_of s c draws ≡ 0 → first_refusal_of s c draws n k ≡ 0
first_good_none s c draws n k g e = good_first s c draws n k g ∙ rw e (go (eqb k 0))
  where
    go : (b : Bool) → ◌≡◌ {A = ℕ} (cond b 0 0) 0
    go true = refl
    go false = refl
