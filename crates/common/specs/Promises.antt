-- What the crates above count on: the statements. The proofs of the same names in small letters stand in proofs/.
use Rattle.std.specs.Prelude.{◌≡◌, Bool, true, false, cond, not, ◌&&◌, ◌⊎◌, T, Some, None, Float}
use Rattle.std.specs.Float.{nan, binary64}
use Rattle.std.specs.Float.Ieee.{lt, le, neg, of_bits}
use Rattle.laws.specs.Float.{zer, one, F64, is_fin}
use Rattle.common.specs.Phase.{turns, wrap_of, turned_of}
use Rattle.common.specs.Memo.{filled, recall, Memo1, filled1, recall1, Memo3, filled3, recall3}
use Rattle.common.specs.Consts.{gate_threshold, low_gate_threshold, five}
use Rattle.common.specs.Edge.{reset_of, rises_above, frac_above, rising_of, crossed_of}
use Rattle.common.specs.Tests.{phase_ok, threshold_ok}
use Rattle.common.specs.declared.EdgeDetector.{EdgeDetector}
use Rattle.common.specs.declared.Hertz.{Hertz}
use Rattle.common.specs.declared.Memo.{Memo}

-- the wrap of any f64 is a phase that refusal 2 lets pass
abbrev pub WrapIn : Type 0
WrapIn = (x : Float) → F64 x → phase_ok (turns (wrap_of x)) ≡ true

-- a whole turn is passed exactly where a number is finite and is no phase itself
abbrev pub TurnedSays : Type 0
TurnedSays = (x : Float) → F64 x → turned_of x ≡ (is_fin x && not (phase_ok (turns x)))

-- two keys are found the same where they are one
abbrev pub Tells : {K : Type 0} → (K → K → Bool) → Type 0
Tells same = (a b : _) → same a b ≡ true → a ≡ b

-- a memo that is empty, or holds what its closure computes for some key
abbrev pub Coherent : {K V : Type 0} → (K → V) → Memo K V → Type 0
Coherent {K = K} f m = (m.valid ≡ false) ⊎ ((k : K) × (m ≡ filled k (f k)))

abbrev pub Coherent1 : (Float → Hertz) → Memo1 → Type 0
Coherent1 f m = (m.valid ≡ false) ⊎ ((x : Float) × F64 x × (m ≡ filled1 x (f x)))

abbrev pub Coherent3 : (Float → Float → Float → Hertz) → Memo3 → Type 0
Coherent3 f m = (m.valid ≡ false) ⊎ ((x : Float) × (y : Float) × (z : Float) × F64 x × F64 y × F64 z × (m ≡ filled3 x y z (f x y z)))

-- such a memo leaves, hit or miss, exactly what a miss would: so it can't be told from an empty one
abbrev pub RecallIs : Type 1
RecallIs =
    (K V : Type 0) (same : K → K → Bool) → Tells same → (f : K → V) (m : Memo K V) → Coherent f m → (k : K) → recall same (f k) m k ≡ filled k (f k)

abbrev pub Recall1Is : Type 0
Recall1Is = (f : Float → Hertz) (m : Memo1) → Coherent1 f m → (x : Float) → F64 x → recall1 f m x ≡ filled1 x (f x)

abbrev pub Recall3Is : Type 0
Recall3Is =
    (f : Float → Float → Float → Hertz) (m : Memo3) → Coherent3 f m → (x y z : Float) → F64 x → F64 y → F64 z → recall3 f m x y z ≡ filled3 x y z (f x y z)

-- refusal 2 lets 2.5 and 1.0 pass, and neither NaN nor 0.0 nor -1.0
pub record Thresholds : Type 0 where
  pub first : threshold_ok (of_bits binary64 0x4004000000000000) ≡ true
  pub second : threshold_ok (of_bits binary64 0x3ff0000000000000) ≡ true
  pub of_nan : threshold_ok nan ≡ false
  pub of_zero : threshold_ok zer ≡ false
  pub of_minus : threshold_ok (neg one) ≡ false

-- nor any other: what passes has the value of one of them
abbrev pub SameValue : Float → Float → Type 0
SameValue a b = T (le a b) × T (le b a)

abbrev pub ThresholdOnly : Type 0
ThresholdOnly = (threshold : Float) → threshold_ok threshold ≡ true → SameValue threshold gate_threshold ⊎ SameValue threshold low_gate_threshold

-- so it isn't below 0, which is all that the laws below ask, and it is below 5 V, so that a gate can rise above it
pub record Between (threshold : Float) : Type 0 where
  pub above : T (le zer threshold)
  pub below : lt threshold five ≡ true

abbrev pub ThresholdIn : Type 0
ThresholdIn = (threshold : Float) → threshold_ok threshold ≡ true → Between threshold

-- a detector keeps its threshold; its previous sample is then v, and 0.0 after a reset
pub record Kept (e : EdgeDetector) (v : Float) : Type 0 where
  pub rising : (rising_of e v).edge ≡ record { prev = v; threshold = e.threshold }
  pub crossed : (crossed_of e v).edge ≡ record { prev = v; threshold = e.threshold }
  pub reset : reset_of e ≡ record { prev = zer; threshold = e.threshold }

abbrev pub ThresholdKept : Type 0
ThresholdKept = (e : EdgeDetector) (v : Float) → Kept e v

-- ---- an edge, over any threshold
-- an edge is one for a new detector too, whose previous sample is 0, where the threshold isn't below 0
abbrev pub RisesNew : Type 0
RisesNew = (threshold prev v : Float) → T (le zer threshold) → rises_above threshold prev v ≡ true → rises_above threshold zer v ≡ true

-- and a detector that takes one is then as a new one like it is
abbrev pub RisingLike : Type 0
RisingLike = (e : EdgeDetector) (v : Float) → T (le zer e.threshold) → (rising_of e v).rising ≡ true → rising_of (reset_of e) v ≡ rising_of e v

-- a crossing is an edge, at its fraction
abbrev pub CrossedIs : Type 0
CrossedIs = (e : EdgeDetector) (v : Float)
    → crossed_of e v ≡ record { edge = (rising_of e v).edge; at = cond (rising_of e v).rising (Some (frac_above e.threshold e.prev v)) None }

-- after a sample that isn't above the threshold, one above it is an edge
abbrev pub RisingComes : Type 0
RisingComes = (e : EdgeDetector) (v w : Float) → le v e.threshold ≡ true → lt e.threshold w ≡ true → (rising_of (rising_of e v).edge w).rising ≡ true

-- such a sample is none itself
abbrev pub RisingNot : Type 0
RisingNot = (e : EdgeDetector) (v : Float) → le v e.threshold ≡ true → (rising_of e v).rising ≡ false

-- nor is a NaN, or, where the threshold isn't below 0, 0.0
abbrev pub RisingNan : Type 0
RisingNan = (e : EdgeDetector) → (rising_of e nan).rising ≡ false

abbrev pub RisingZero : Type 0
RisingZero = (e : EdgeDetector) → T (le zer e.threshold) → (rising_of e zer).rising ≡ false

-- a sample that stands still gives no second edge
abbrev pub RisesOnce : Type 0
RisesOnce = (threshold v : Float) → rises_above threshold v v ≡ false

abbrev pub RisingOnce : Type 0
RisingOnce = (e : EdgeDetector) (v : Float) → rising_of (rising_of e v).edge v ≡ record { edge = (rising_of e v).edge; rising = false }

-- and keys that stand still are a hit, whatever the memo held
abbrev pub RecallAgain : Type 1
RecallAgain = (K V : Type 0) (same : K → K → Bool) → ((k : K) → same k k ≡ true) → (v : V) (m : Memo K V) (k : K)
    → recall same v (recall same v m k) k ≡ recall same v m k

abbrev pub Recall1Again : Type 0
Recall1Again = (f : Float → Hertz) (m : Memo1) (x : Float) → recall1 f (recall1 f m x) x ≡ recall1 f m x

abbrev pub Recall3Again : Type 0
Recall3Again = (f : Float → Float → Float → Hertz) (m : Memo3) (x y z : Float) → recall3 f (recall3 f m x y z) x y z ≡ recall3 f m x y z
