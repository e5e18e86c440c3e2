-- A block's ticks are ticks of the phases, the pitch and the resonators: its coefficients are those of the first, and its pitch stands still
-- where the vibrato has no depth.
use mathlib.Core.Bool.{Bool, true, false, not, ◌&&◌}
use mathlib.Core.List.{List, [], ◌∷◌, ◌++◌}
use mathlib.Core.Path.{◌≡◌, refl, sym, ap, ◌∙◌}
use Prim.Native.Nat.{ℕ, zero, suc, ◌+◌, ◌<◌, ◌≤◌}
use native.Mathlib.Nat.{one-mul}
use native.Mathlib.Numerals.{add-one}
use native.Mathlib.Omega.{arith}
use lib.Ieee.{Float, nan, binary64, add, eq}
use lib.Ieee.Fits.{add-fits}
use lib.ListN.{length, get_or, set}
use borrow.Author.Tests.{eq-eqb, lt-ltb}
use Rattle.laws.proofs.Tests.{both_true, and_true}
use Rattle.answer.specs.Answer.{host_number, volts_of, refusal_of}
use Rattle.answer.specs.Block.{after_ticks, answer_at, mark_at, frame_at, ports_of, framed, joined}
use Rattle.answer.specs.declared.Answer.{Answer}
use Rattle.answer.specs.declared.Volts.{Volts}
use Rattle.answer.proofs.Blocks.{Holds, held_after, held_marks, held_frames, held_accepted, all_taken}
use Rattle.answer.proofs.Laws.{mark_says, refused_by, mark_steers, tick_steers}
use Rattle.answer.specs.Mark.{all_numbers}
use Rattle.common.specs.Memo.{Memo1, recall1, voct_to_hz_at}
use Rattle.common.specs.Phase.{turns, wrap_phase_of, increment_of}
use Rattle.common.specs.Tests.{rate_ok, phase_ok}
use Rattle.common.proofs.MemoLaws.{recall1_again}
use Rattle.common.proofs.PhaseLaws.{wrap_in, accepted_state}
use Rattle.common.specs.declared.Hertz.{Hertz}
use Rattle.common.specs.declared.Turns.{Turns}
use Rattle.common.specs.declared.Wrapped.{Wrapped}
use Rattle.common.specs.declared.VoltsPerOctave.{VoltsPerOctave}
use Rattle.formant_osc.proofs.Coherent.{coefs_again}
use Rattle.formant_osc.proofs.Still.{still_pitch}
use Rattle.formant_osc.proofs.VibratoFinite.{vibrato_finite}
use Rattle.formant_osc.specs.Consts.{n_ports, vibrato_rate}
use Rattle.formant_osc.specs.FormantOsc.{controls_of, formant_osc_refusal_of, freq_memo_of, coef_memo_of, formant_osc_rung}
use Rattle.formant_osc.specs.FormantOsc.{formant_osc_sound_of, formant_osc_tick_of, formant_osc_told_of, formant_osc_next_of}
use Rattle.formant_osc.specs.Shortcuts.{drive_memo, phase_sum, vibrato_sum, drive_next, flag, is_flagged, pulse_at, flag_at, stride_at, swayed}
use Rattle.formant_osc.specs.Shortcuts.{phase_at, phase_flag_at, vibrato_of, voiced_of, cells_at, voiced_at}
use Rattle.formant_osc.specs.Sound.{glottal_pulse, pitch_of, rung_of}
use Rattle.formant_osc.specs.Promises.{NanSteers, BlockAccepts, BlockTallies}
use Rattle.formant_osc.specs.declared.Driver.{Driver}
use Rattle.formant_osc.specs.declared.FormantOscControls.{FormantOscControls}
use Rattle.answer.specs.declared.Ticked.{Ticked}
use Rattle.formant_osc.specs.Memo.{CoefMemo}
use Rattle.formant_osc.specs.declared.FormantOsc.{FormantOsc}
use Rattle.formant_osc.specs.declared.Rung.{Rung}
use Rattle.formant_osc.specs.declared.Vibrato.{Vibrato}
use Rattle.laws.specs.Float.{F64, zer, one, is_fin}
use Rattle.laws.specs.Lists.{tab, over}
use Rattle.laws.proofs.Over.{get_or_tab, length_tab, tab_ext, over_at}
use Rattle.numeric.specs.Basic.{clamp_of}

abbrev pub driver : Turns → Turns → Memo1 → Driver
driver p q m = record { phase = p; vibrato_phase = q; freq_memo = m }

-- ---- a turn of the first loop
-- a memo that holds a pitch that stands still is left as it is
pub still_tuned : (v : VoltsPerOctave) (depth : Float) (p q : Turns) (m n : Memo1) (still : Bool) → F64 v.0
    → still ≡ (eq depth zer && not (eq v.0 zer)) → phase_ok p ≡ true → phase_ok q ≡ true
    → recall1 voct_to_hz_at m (pitch_of v depth p.0).0 ≡ m → (still ≡ true → n ≡ m) → still ≡ true
    → recall1 voct_to_hz_at n (pitch_of v depth q.0).0 ≡ n
still_tuned v depth p q m n still f e g h r w t =
    let a : pitch_of v depth p.0 ≡ v = still_pitch v depth p.0 f g (sym e ∙ t) in
    let b : pitch_of v depth q.0 ≡ v = still_pitch v depth q.0 f h (sym e ∙ t) in
    let z : n ≡ m = w t in
    simp (z, b) (rw a at r)

-- so is the memo after a tick
pub still_memo : (v : VoltsPerOctave) (depth : Float) (q : Turns) (m n k : Memo1) (still : Bool)
    → (still ≡ true → recall1 voct_to_hz_at n (pitch_of v depth q.0).0 ≡ n) → k ≡ recall1 voct_to_hz_at n (pitch_of v depth q.0).0
    → (still ≡ true → n ≡ m) → still ≡ true → k ≡ m
still_memo v depth q m n k still r e w t = e ∙ r t ∙ w t

pub swung : (v : VoltsPerOctave) (depth : Float) (rate : Hertz) (d : Driver) (i : ℕ) (q : Turns) (u : Wrapped) (vibrato : Turns) (m m' : Memo1)
    → m' ≡ recall1 voct_to_hz_at m (pitch_of v depth q.0).0 → vibrato ≡ increment_of vibrato_rate rate
    → u ≡ wrap_phase_of (turns (add binary64 q.0 vibrato.0))
    → q ≡ (after_ticks (drive_next v depth rate) i d).vibrato_phase → m ≡ (after_ticks (drive_next v depth rate) i d).freq_memo
    → (u.phase ≡ (after_ticks (drive_next v depth rate) (i + 1) d).vibrato_phase) × (m' ≡ (after_ticks (drive_next v depth rate) (i + 1) d).freq_memo)
unfolding after_ticks drive_next vibrato_sum drive_memo
swung v depth rate d i q u vibrato m m' a y z w k = (rw add-one (simp (z, y, w)), rw add-one (simp (a, k, w)))

pub stridden : (v : VoltsPerOctave) (depth : Float) (rate : Hertz) (d : Driver) (i : ℕ) (q step : Turns) (m m' : Memo1)
    → m' ≡ recall1 voct_to_hz_at m (pitch_of v depth q.0).0 → step ≡ increment_of m'.val rate
    → q ≡ (after_ticks (drive_next v depth rate) i d).vibrato_phase → m ≡ (after_ticks (drive_next v depth rate) i d).freq_memo
    → step ≡ stride_at v depth rate d i
unfolding stride_at drive_memo
stridden v depth rate d i q step m m' a b w k = simp (b, a, w, k)

-- ---- a turn of the second
pub pulse_turn : (xs ys : List Float) (f : ℕ → Float) (i : ℕ) (start p : Turns) (u : Wrapped) (step : Turns) (a : Bool) (n : ℕ)
    → i < length xs → ys ≡ over f i xs → p ≡ phase_at xs start i → step ≡ turns (get_or ys i nan)
    → u ≡ wrap_phase_of (turns (add binary64 p.0 step.0)) → a ≡ is_fin (add binary64 p.0 step.0) → n ≡ flag a
    → (u.phase ≡ phase_at xs start (i + 1)) × (n ≡ phase_flag_at xs start i)
unfolding phase_at phase_flag_at
pulse_turn xs ys f i start p u step a n h e z v r w t =
    let x : get_or ys i nan ≡ get_or xs i nan = ap (λ (l : List Float). get_or l i nan) e ∙ over_at nan f i xs h in
    (rw add-one (simp (r, z, v, x)), simp (t, w, z, v, x))

-- ---- a turn of the third
pub voiced_turn : (c s xs ys : List Float) (ms ns : List ℕ) (f : ℕ → Float) (g : ℕ → ℕ) (i : ℕ) (cells : List Float) (rung : Rung) (b numbers : Bool)
    (a : Answer)
    → i < length xs → i < length ms → ys ≡ over f i xs → ns ≡ over g i ms → cells ≡ cells_at c xs s i
    → rung ≡ rung_of c cells (get_or ys i nan) → b ≡ is_flagged (get_or ns i 0) → a ≡ voiced_of rung.sum b numbers
    → (a ≡ voiced_at numbers c s xs ms i) × (rung.state ≡ cells_at c xs s (i + 1))
unfolding voiced_at cells_at
voiced_turn c s xs ys ms ns f g i cells rung b numbers a h k e q z r u w =
    let x : get_or ys i nan ≡ get_or xs i nan = ap (λ (l : List Float). get_or l i nan) e ∙ over_at nan f i xs h in
    let m : get_or ns i 0 ≡ get_or ms i 0 = ap (λ (l : List ℕ). get_or l i 0) q ∙ over_at 0 g i ms k in
    (simp (w, u, r, z, x, m), rw add-one (simp (r, z, x)))

-- a tick's one sample in its place
pub one_put : (n i : ℕ) (v : Volts) (l : List Float) → length l ≡ n → i < n → framed n_ports n i v l ≡ set l i v.p10
unfolding framed ports_of
one_put n i v l k h = simp (one-mul, eq-eqb (length l) n k, lt-ltb i n h)

-- ---- the first and the second together
flag_told : (b : Bool) → is_flagged (flag b) ≡ b
unfolding is_flagged flag
flag_told true = refl
flag_told false = refl

module _
    (v : VoltsPerOctave) (depth : Float) (rate : Hertz) (d : Driver) (n m : ℕ) (w : m ≡ n) (xs : List Float)
    (ex : xs ≡ tab (λ i. (stride_at v depth rate d i).0) m) where
  stride_is : (i : ℕ) → i < n → get_or xs i nan ≡ (stride_at v depth rate d i).0
  stride_is i h = ap (λ (l : List Float). get_or l i nan) ex ∙ get_or_tab nan (λ j. (stride_at v depth rate d j).0) m i (omega arith)

  phase_is : (i : ℕ) → i ≤ n → phase_at xs d.phase i ≡ (after_ticks (drive_next v depth rate) i d).phase
  unfolding phase_at after_ticks drive_next phase_sum stride_at
  phase_is zero h = refl
  phase_is (suc i) h = let p = phase_is i (omega arith) in let q = stride_is i (omega arith)
      in (λ k. (wrap_phase_of (turns (add binary64 (p k).0 (q k)))).phase)

  pub driven : (s : Driver) (p : Turns) (ys : List Float) (ns : List ℕ) → s ≡ swayed v depth rate m d → p ≡ phase_at xs d.phase n
      → ys ≡ tab (λ i. glottal_pulse (phase_at xs d.phase i).0) n → ns ≡ tab (phase_flag_at xs d.phase) n
      → (driver p s.vibrato_phase s.freq_memo ≡ after_ticks (drive_next v depth rate) n d)
      × ((ys ≡ tab (pulse_at v depth rate d) n) × (ns ≡ tab (flag_at v depth rate d) n))
  unfolding swayed pulse_at flag_at phase_flag_at phase_sum stride_at
  driven s p ys ns es ep ey en =
      let a : p ≡ (after_ticks (drive_next v depth rate) n d).phase = ep ∙ phase_is n (omega arith) in
      let e : s ≡ swayed v depth rate n d = es ∙ ap (λ (k : ℕ). swayed v depth rate k d) w in (
        (λ k. driver (a k) (e k).vibrato_phase (e k).freq_memo),
        (
          ey ∙ tab_ext _ _ n (λ i h. ap (λ (q : Turns). glottal_pulse q.0) (phase_is i (omega arith))),
          en
              ∙ tab_ext _ _ n
              (λ i h. let p = phase_is i (omega arith) in let q = stride_is i h in (λ k. flag (is_fin (add binary64 (p k).0 (q k))))),
        ),
      )

-- ---- these and the third
-- what moves in a block
pub record Moving : Type 0 where
  pub driver : Driver
  pub cells : List Float

abbrev pub moving : Driver → List Float → Moving
moving d l = record { driver = d; cells = l }

abbrev rung_at : List Float → Moving → Rung
rung_at c h = rung_of c h.cells (glottal_pulse h.driver.phase.0)

abbrev held_next : VoltsPerOctave → Float → Hertz → List Float → Moving → Moving
held_next v depth rate c h = moving (drive_next v depth rate h.driver) (rung_at c h).state

abbrev held_answer : Bool → VoltsPerOctave → Float → Hertz → List Float → Moving → Answer
held_answer numbers v depth rate c h = voiced_of (rung_at c h).sum (is_fin (phase_sum v depth rate h.driver)) numbers

module _ (v : VoltsPerOctave) (depth : Float) (rate : Hertz) (c : List Float) (d : Driver) (s : List Float) (n : ℕ) (xs : List Float) (ms : List ℕ)
    (ex : xs ≡ tab (pulse_at v depth rate d) n) (em : ms ≡ tab (flag_at v depth rate d) n) where
  driver_at : ℕ → Driver
  driver_at i = after_ticks (drive_next v depth rate) i d

  pulse_is : (i : ℕ) → i < n → glottal_pulse (driver_at i).phase.0 ≡ get_or xs i nan
  unfolding pulse_at driver_at
  pulse_is i h = sym (ap (λ (l : List Float). get_or l i nan) ex ∙ get_or_tab nan (pulse_at v depth rate d) n i h)

  flag_is : (i : ℕ) → i < n → is_fin (phase_sum v depth rate (driver_at i)) ≡ is_flagged (get_or ms i 0)
  unfolding flag_at driver_at
  flag_is i h =
      sym
      (ap (λ (l : List ℕ). is_flagged (get_or l i 0)) em
      ∙ ap is_flagged (get_or_tab 0 (flag_at v depth rate d) n i h)
      ∙ flag_told (is_fin (phase_sum v depth rate (driver_at i))))

  halves : (i : ℕ) → i ≤ n → after_ticks (held_next v depth rate c) i (moving d s) ≡ moving (driver_at i) (cells_at c xs s i)
  unfolding after_ticks cells_at driver_at
  halves zero h = refl
  halves (suc i) h =
      ap (held_next v depth rate c) (halves i (omega arith))
      ∙ ap (λ (x : Float). moving (drive_next v depth rate (driver_at i)) (rung_of c (cells_at c xs s i) x).state) (pulse_is i (omega arith))

  answers_at : (numbers : Bool) (i : ℕ) → i < n
      → answer_at (held_answer numbers v depth rate c) (held_next v depth rate c) (moving d s) i ≡ voiced_at numbers c s xs ms i
  unfolding answer_at voiced_at
  answers_at numbers i h =
      ap (held_answer numbers v depth rate c) (halves i (omega arith))
      ∙ (λ k. voiced_of (rung_of c (cells_at c xs s i) (pulse_is i h k)).sum (flag_is i h k) numbers)

-- one sample a tick
joined_one : (f : ℕ → Volts) (n : ℕ) → joined (λ i. ports_of n_ports (f i)) n ≡ tab (λ i. (f i).p10) n
unfolding joined tab ports_of
joined_one f zero = refl
joined_one f (suc n) = ap (λ (l : List Float). l ++ ((f n).p10 ∷ [])) (joined_one f n)

-- ---- the whole
abbrev pub depth_of : FormantOscControls → Float
depth_of c = clamp_of c.vibrato zer one

abbrev pub numbers_of : FormantOscControls → Bool
numbers_of c = all_numbers (controls_of c)

-- before the first tick its pitch is in the memo already
abbrev pub start_of : FormantOsc → FormantOscControls → Driver
start_of s c = driver s.phase s.vibrato_phase (freq_memo_of s c)

abbrev pub state_of : FormantOsc → FormantOscControls → Moving → FormantOsc
state_of s c h =
    record {
      phase = h.driver.phase;
      vibrato_phase = h.driver.vibrato_phase;
      resonator_state = h.cells;
      sample_rate = s.sample_rate;
      freq_memo = h.driver.freq_memo;
      coef_memo = coef_memo_of s c;
    }

-- no number refuses it: its rate and its phases are good
pub accepts : (s : FormantOsc) → formant_osc_refusal_of s ≡ 0
    → (rate_ok s.sample_rate ≡ true) × (phase_ok s.phase ≡ true) × (phase_ok s.vibrato_phase ≡ true)
unfolding formant_osc_refusal_of
accepts s h =
    let r = accepted_state (rate_ok s.sample_rate) (phase_ok s.phase && phase_ok s.vibrato_phase) h in
    let p = both_true (phase_ok s.phase) (phase_ok s.vibrato_phase) r.1 in
    (r.0, p.0, p.1)

abbrev Good : Moving → Type 0
Good h = (phase_ok h.driver.phase ≡ true) × (phase_ok h.driver.vibrato_phase ≡ true)

state_accepted : (s : FormantOsc) (c : FormantOscControls) (h : Moving) → formant_osc_refusal_of s ≡ 0 → Good h → formant_osc_refusal_of (state_of s c h) ≡ 0
unfolding formant_osc_refusal_of
state_accepted s c h e g = simp ((accepts s e).0, g.0, g.1)

tick_sounds : (s : FormantOsc) (c : FormantOscControls) → formant_osc_refusal_of s ≡ 0 → formant_osc_tick_of s c ≡ formant_osc_sound_of s c
unfolding formant_osc_tick_of
tick_sounds s c h = simp h

-- from the second tick on the coefficients are in their memo
held_sound : (s : FormantOsc) (c : FormantOscControls) (h : Moving) → rate_ok s.sample_rate ≡ true → phase_ok h.driver.vibrato_phase ≡ true
    → formant_osc_sound_of (state_of s c h) c
    ≡ record {
      answer = held_answer (numbers_of c) c.v_oct (depth_of c) s.sample_rate (coef_memo_of s c).val h;
      state = state_of s c (held_next c.v_oct (depth_of c) s.sample_rate (coef_memo_of s c).val h);
    }
unfolding formant_osc_sound_of freq_memo_of coef_memo_of formant_osc_rung drive_next phase_sum vibrato_sum drive_memo voiced_of
held_sound s c h r g =
    simp (
      coefs_again s.coef_memo (clamp_of c.vowel zer one) c.formant_shift s.sample_rate.0,
      vibrato_finite s.sample_rate h.driver.vibrato_phase r g,
      and_true,
    )

-- in the first the pitch is looked up once more
first_sound : (s : FormantOsc) (c : FormantOscControls) → rate_ok s.sample_rate ≡ true → phase_ok s.vibrato_phase ≡ true → formant_osc_sound_of s c
    ≡ record {
      answer = held_answer (numbers_of c) c.v_oct (depth_of c) s.sample_rate (coef_memo_of s c).val (moving (start_of s c) s.resonator_state);
      state = state_of s c (held_next c.v_oct (depth_of c) s.sample_rate (coef_memo_of s c).val (moving (start_of s c) s.resonator_state));
    }
unfolding formant_osc_sound_of freq_memo_of coef_memo_of formant_osc_rung drive_next phase_sum vibrato_sum drive_memo voiced_of
first_sound s c r g =
    simp (
      recall1_again voct_to_hz_at s.freq_memo (pitch_of c.v_oct (depth_of c) s.vibrato_phase.0).0,
      vibrato_finite s.sample_rate s.vibrato_phase r g,
      and_true,
    )

module _ (s : FormantOsc) (c : FormantOscControls) (e : formant_osc_refusal_of s ≡ 0) where
  answer_of : Moving → Answer
  answer_of = held_answer (numbers_of c) c.v_oct (depth_of c) s.sample_rate (coef_memo_of s c).val

  next_of : Moving → Moving
  next_of = held_next c.v_oct (depth_of c) s.sample_rate (coef_memo_of s c).val

  held_tick : (h : Moving) → Good h → formant_osc_tick_of (state_of s c h) c ≡ record { answer = answer_of h; state = state_of s c (next_of h) }
  unfolding answer_of next_of
  held_tick h g = tick_sounds (state_of s c h) c (state_accepted s c h e g) ∙ held_sound s c h (accepts s e).0 g.1

  holds : Holds (formant_osc_told_of c) (formant_osc_next_of c) answer_of next_of (state_of s c) Good s (moving (start_of s c) s.resonator_state)
  holds =
      record {
        good = ((accepts s e).1, (accepts s e).2);
        first = unfold answer_of in ap (λ (t : Ticked FormantOsc). t.answer) (tick_sounds s c e ∙ first_sound s c (accepts s e).0 (accepts s e).2);
        second = unfold next_of in ap (λ (t : Ticked FormantOsc). t.state) (tick_sounds s c e ∙ first_sound s c (accepts s e).0 (accepts s e).2);
        stays = λ h g. unfold next_of drive_next phase_sum vibrato_sum in (wrap_in _ (add-fits binary64 _ _), wrap_in _ (add-fits binary64 _ _));
        answers = λ h g. ap (λ (t : Ticked FormantOsc). t.answer) (held_tick h g);
        moves = λ h g. ap (λ (t : Ticked FormantOsc). t.state) (held_tick h g);
      }

  -- what the three loops leave is what the ticks leave
  module _ (n : ℕ) (z : 0 < n) (xs : List Float) (ms : List ℕ) (ex : xs ≡ tab (pulse_at c.v_oct (depth_of c) s.sample_rate (start_of s c)) n)
      (em : ms ≡ tab (flag_at c.v_oct (depth_of c) s.sample_rate (start_of s c)) n) where
    voiced_in : ℕ → Answer
    voiced_in = voiced_at (numbers_of c) (coef_memo_of s c).val s.resonator_state xs ms

    same_answer : (i : ℕ) → i < n → answer_at answer_of next_of (moving (start_of s c) s.resonator_state) i ≡ voiced_in i
    unfolding answer_of next_of voiced_in
    same_answer i h = answers_at c.v_oct (depth_of c) s.sample_rate (coef_memo_of s c).val (start_of s c) s.resonator_state n xs ms ex em
        (numbers_of c) i h

    pub state_after : after_ticks (formant_osc_next_of c) n s
        ≡ state_of s c (moving (after_ticks (drive_next c.v_oct (depth_of c) s.sample_rate) n (start_of s c))
        (cells_at (coef_memo_of s c).val xs s.resonator_state n))
    unfolding next_of driver_at
    state_after =
        held_after _ _ _ _ _ _ _ _ holds n z
        ∙ ap (state_of s c)
        (halves c.v_oct (depth_of c) s.sample_rate (coef_memo_of s c).val (start_of s c) s.resonator_state n xs ms ex em n (omega arith))

    pub samples_after : joined (frame_at n_ports (formant_osc_told_of c) (formant_osc_next_of c) s) n
        ≡ tab (λ i. (volts_of (voiced_at (numbers_of c) (coef_memo_of s c).val s.resonator_state xs ms i)).p10) n
    unfolding voiced_in
    samples_after =
        held_frames _ _ _ _ _ _ _ _ holds n_ports n
        ∙ joined_one (λ i. volts_of (answer_at answer_of next_of (moving (start_of s c) s.resonator_state) i)) n
        ∙ tab_ext _ _ n (λ i h. ap (λ (a : Answer). (volts_of a).p10) (same_answer i h))

    pub marks_after : tab (mark_at (formant_osc_told_of c) (formant_osc_next_of c) s) n
        ≡ tab (λ i. host_number (voiced_at (numbers_of c) (coef_memo_of s c).val s.resonator_state xs ms i)) n
    unfolding voiced_in
    marks_after = held_marks _ _ _ _ _ _ _ _ holds n ∙ tab_ext _ _ n (λ i h. ap host_number (same_answer i h))

-- ---- a block's code
-- the pitch of the first tick is in the memo that was asked for it
pub heard_again : (s : FormantOsc) (c : FormantOscControls) (memo : Memo1) (v : Vibrato) → memo ≡ freq_memo_of s c → v ≡ vibrato_of c
    → recall1 voct_to_hz_at memo (pitch_of v.v_oct v.depth s.vibrato_phase.0).0 ≡ memo
unfolding freq_memo_of
heard_again s c memo v em ev = rw (em, ev) (recall1_again voct_to_hz_at s.freq_memo (pitch_of c.v_oct (depth_of c) s.vibrato_phase.0).0)

-- each call's own law, one after another
pub ran : (s : FormantOsc) (c : FormantOscControls) (n : ℕ) (v : Vibrato) (memo : Memo1) (coefs : CoefMemo) (end : Driver)
    (xs : List Float) (ms : List ℕ) (cells ys : List Float) (ns : List ℕ) (numbers : Bool)
    → formant_osc_refusal_of s ≡ 0 → 0 < n
    → numbers ≡ numbers_of c → v ≡ vibrato_of c → memo ≡ freq_memo_of s c → coefs ≡ coef_memo_of s c
    → end ≡ after_ticks (drive_next v.v_oct v.depth s.sample_rate) n (driver s.phase s.vibrato_phase memo)
    → xs ≡ tab (pulse_at v.v_oct v.depth s.sample_rate (driver s.phase s.vibrato_phase memo)) n
    → ms ≡ tab (flag_at v.v_oct v.depth s.sample_rate (driver s.phase s.vibrato_phase memo)) n
    → cells ≡ cells_at coefs.val xs s.resonator_state (length ms)
    → ys ≡ tab (λ i. (volts_of (voiced_at numbers coefs.val s.resonator_state xs ms i)).p10) (length ms)
    → ns ≡ tab (λ i. host_number (voiced_at numbers coefs.val s.resonator_state xs ms i)) (length ms)
    → (record {
      phase = end.phase;
      vibrato_phase = end.vibrato_phase;
      resonator_state = cells;
      sample_rate = s.sample_rate;
      freq_memo = end.freq_memo;
      coef_memo = coefs;
    }
    ≡ after_ticks (formant_osc_next_of c) n s)
    × ((ys ≡ joined (frame_at n_ports (formant_osc_told_of c) (formant_osc_next_of c) s) n)
    × (ns ≡ tab (mark_at (formant_osc_told_of c) (formant_osc_next_of c) s) n))
ran s c n v memo coefs end xs ms cells ys ns numbers e z eq ev em b ee ex ek el ey en =
    let w : length ms ≡ n = ap length ek ∙ length_tab (flag_at v.v_oct v.depth s.sample_rate (driver s.phase s.vibrato_phase memo)) n in
    let x : xs ≡ tab (pulse_at c.v_oct (depth_of c) s.sample_rate (start_of s c)) n =
    ex ∙ (λ k. tab (pulse_at (ev k).v_oct (ev k).depth s.sample_rate (driver s.phase s.vibrato_phase (em k))) n) in
    let m : ms ≡ tab (flag_at c.v_oct (depth_of c) s.sample_rate (start_of s c)) n =
    ek ∙ (λ k. tab (flag_at (ev k).v_oct (ev k).depth s.sample_rate (driver s.phase s.vibrato_phase (em k))) n) in
    let d : end ≡ after_ticks (drive_next c.v_oct (depth_of c) s.sample_rate) n (start_of s c) =
    ee ∙ (λ k. after_ticks (drive_next (ev k).v_oct (ev k).depth s.sample_rate) n (driver s.phase s.vibrato_phase (em k))) in
    let l : cells ≡ cells_at (coef_memo_of s c).val xs s.resonator_state n = el ∙ (λ k. cells_at (b k).val xs s.resonator_state (w k)) in (
      (λ k.
          record {
            phase = (d k).phase;
            vibrato_phase = (d k).vibrato_phase;
            resonator_state = l k;
            sample_rate = s.sample_rate;
            freq_memo = (d k).freq_memo;
            coef_memo = b k;
          })
          ∙ sym (state_after s c e n z xs ms x m),
      (
        ey ∙ (λ k. tab (λ i. (volts_of (voiced_at (eq k) (b k).val s.resonator_state xs ms i)).p10) (w k)) ∙ sym (samples_after s c e n z xs ms x m),
        en ∙ (λ k. tab (λ i. host_number (voiced_at (eq k) (b k).val s.resonator_state xs ms i)) (w k)) ∙ sym (marks_after s c e n z xs ms x m),
      ),
    )

-- ---- so no tick of a block is refused
pub block_accepts : BlockAccepts
block_accepts s c h = held_accepted _ _ _ _ _ _ _ _ (holds s c h) (λ m. unfold answer_of voiced_of in (mark_says _ _ _ _ _).is_accepted)

pub block_tallies : BlockTallies
block_tallies s c h = all_taken _ _ s (block_accepts s c h)

-- ---- a tick is refused by what refuses its state
pub tick_refusal : (s : FormantOsc) (c : FormantOscControls) → refusal_of (formant_osc_tick_of s c).answer ≡ formant_osc_refusal_of s
unfolding formant_osc_tick_of formant_osc_sound_of
tick_refusal s c = refused_by (λ (t : Ticked FormantOsc). t.answer) (formant_osc_refusal_of s) _ _ (mark_says _ _ _ _ _).is_accepted refl

-- ---- and marked over its controls
pub nan_steers : NanSteers
unfolding formant_osc_tick_of formant_osc_sound_of
nan_steers s c = tick_steers (λ (t : Ticked FormantOsc). t.answer) (controls_of c) (formant_osc_refusal_of s) _ _ (mark_steers _ _ _ _ (controls_of c)) refl
