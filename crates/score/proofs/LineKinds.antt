-- The kinds of values that a line holds: an oscillator's name, a whole number in a range, an input. What bytes say of a kind is a value in range, of
-- which they are the text, or a refusal; and the text of a value in range says that value.
-- Assumes nothing.
use Prim.Native.Nat.{ℕ, zero, suc, ◌≤◌, ◌<◌, ◌^◌}
use mathlib.Core.Path.{◌≡◌, refl, sym, ◌∙◌}
use mathlib.Core.List.{List}
use mathlib.Core.Bool.{Bool, true, false, cond}
use native.Mathlib.Omega.{arith}
use lib.Dec.{ltb, lit≤}
use Rattle.std.specs.Prelude.{Option, Some, None, Result, Ok, Err}
use lib.IntN.{pos, negsuc}
use borrow.Author.Tests.{ltb-false, le-ltb}
use Rattle.line.specs.Bytes.{same_of, has_of}
use Rattle.line.specs.Number.{number_of, number_text}
use Rattle.line.specs.declared.Number.{Number}
use Rattle.line.specs.declared.Number.TheVariants.{Whole, Nan}
use Rattle.line.proofs.Laws.{no, same_equal}
use Rattle.line.proofs.Decimal.{number_text_lem, no_minus_zero}
use Rattle.line.proofs.Written.{number_read, number_no_feed}
use Rattle.score.specs.Control.{signed, number_in}
use Rattle.score.specs.Keys.{name_of}
use Rattle.score.specs.Lines.{osc_of, within_of, control_of}
use Rattle.score.specs.Refusal.{refusal_number}
use Rattle.score.specs.Text.{control_text, whole_text}
use Rattle.score.specs.Promises.{ValidInput}
use Rattle.score.specs.declared.Control.{Control}
use Rattle.score.specs.declared.Control.TheVariants as C
use Rattle.score.specs.declared.Osc.{Osc}
use Rattle.score.specs.declared.Osc.TheVariants as O
use Rattle.score.specs.declared.Refusal.{Refusal}
use Rattle.score.specs.declared.Refusal.TheVariants.{WrongLine, Malformed, OutOfRange}

-- what bytes say of a kind, a value or a refusal; the text of a value, and which are in range
pub record Kind : Type 1 where
  pub Value : Type 0
  pub of : List ℕ → Result Value Refusal
  pub text : Value → List ℕ
  pub valid : Value → Type 0

-- a line is refused by 21, 22 or 23
abbrev pub ByLine : Refusal → Type 0
ByLine why = (21 ≤ refusal_number why) × (refusal_number why ≤ 23)

pub data Seen (K : Kind) (v : List ℕ) : Result K.Value Refusal → Type 0 where
  value : (x : K.Value) → K.text x ≡ v → K.valid x → Seen K v (Ok x)
  none : (why : Refusal) → ByLine why → Seen K v (Err why)

pub record Lawful (K : Kind) : Type 0 where
  pub seen : (v : List ℕ) → Seen K v (K.of v)
  pub again : (x : K.Value) → K.valid x → K.of (K.text x) ≡ Ok x
  pub no_feed : (x : K.Value) → has_of 10 (K.text x) ≡ false

-- either side of a test
pub tested : {X : Type 0} (P : X → Type 0) {x y : X} (b : Bool) → (b ≡ true → P x) → (b ≡ false → P y) → P (cond b x y)
tested P true p q = p refl
tested P false p q = q refl

-- ---- an oscillator's name
abbrev pub osc_kind : Kind
osc_kind = record { Value = Osc; of = osc_of; text = name_of; valid = λ _. Unit {0} }

name_seen : (v : List ℕ) → Seen osc_kind v (osc_of v)
unfolding osc_of
name_seen v =
    named O.Vco (named O.Lfo (named O.Supersaw (named O.Formant (none WrongLine (lit≤ tt, lit≤ tt)))))
  where
    named : (o : Osc) {l : Result Osc Refusal} → Seen osc_kind v l → Seen osc_kind v (cond (same_of v (name_of o)) (Ok o) l)
    named o s = tested (Seen osc_kind v) (same_of v (name_of o)) (λ e. value o (sym (same_equal v (name_of o) e)) tt) (λ _. s)

name_again : (o : Osc) → osc_of (name_of o) ≡ Ok o
unfolding osc_of same_of
name_again O.Vco = refl
name_again O.Lfo = refl
name_again O.Supersaw = refl
name_again O.Formant = refl

name_no_feed : (o : Osc) → has_of 10 (name_of o) ≡ false
unfolding has_of
name_no_feed O.Vco = refl
name_no_feed O.Lfo = refl
name_no_feed O.Supersaw = refl
name_no_feed O.Formant = refl

pub osc_laws : Lawful osc_kind
osc_laws =
    record {
      seen = name_seen;
      again = λ o v. name_again o;
      no_feed = name_no_feed;
    }

-- ---- a number that a line may hold has at most 12 digits
small : (n : ℕ) → n ≤ 10000000 → n < 10 ^ 12
small n h = omega arith

-- ---- a whole number from least to most
module _ (least most : ℕ) where
  abbrev pub whole_kind : Kind
  whole_kind =
      record {
        Value = ℕ;
        of = λ v. within_of least most (number_of v);
        text = whole_text;
        valid = λ n. (least ≤ n) × (n ≤ most);
      }

  within_seen : (v : List ℕ) (x : Option Number) → number_of v ≡ x → Seen whole_kind v (within_of least most x)
  unfolding within_of
  within_seen v (Some (Whole true size)) e = none OutOfRange (lit≤ tt, lit≤ tt)
  within_seen v (Some (Whole false size)) e =
      tested (Seen whole_kind v) (ltb size least) (λ _. none OutOfRange (lit≤ tt, lit≤ tt)) (λ l.
      tested (Seen whole_kind v) (ltb most size) (λ _. none OutOfRange (lit≤ tt, lit≤ tt)) (λ h.
      value size (number_text_lem v (Whole false size) e) (ltb-false size least l, ltb-false most size h)))
  within_seen v (Some Nan) e = none Malformed (lit≤ tt, lit≤ tt)
  within_seen v None e = none Malformed (lit≤ tt, lit≤ tt)

  whole_again : most ≤ 10000000 → (n : ℕ) → (least ≤ n) × (n ≤ most) → within_of least most (number_of (whole_text n)) ≡ Ok n
  unfolding within_of
  whole_again top n (l, g) = simp (number_read (Whole false n) (small n (omega arith), λ e. absurd (no e)), le-ltb n least l, le-ltb most n g)

  pub whole_laws : most ≤ 10000000 → Lawful whole_kind
  whole_laws top =
      record {
        seen = λ v. within_seen v (number_of v) refl;
        again = whole_again top;
        no_feed = λ n. number_no_feed (Whole false n);
      }

-- ---- an input
abbrev pub control_kind : Kind
control_kind =
    record {
      Value = Control;
      of = λ v. control_of (number_of v);
      text = control_text;
      valid = ValidInput;
    }

signed_text : (v : List ℕ) (minus : Bool) (size : ℕ) → number_of v ≡ Some (Whole minus size)
    → control_text (C.Microvolts (signed minus size)) ≡ number_text (Whole minus size)
signed_text v true zero e = absurd (no_minus_zero v e)
signed_text v true (suc n) e = refl
signed_text v false n e = refl

signed_valid : (minus : Bool) (size : ℕ) → size ≤ 10000000 → ValidInput (C.Microvolts (signed minus size))
signed_valid true zero h = h
signed_valid true (suc n) h = h
signed_valid false n h = h

input_seen : (v : List ℕ) (x : Option Number) → number_of v ≡ x → Seen control_kind v (control_of x)
unfolding control_of
input_seen v (Some (Whole minus size)) e =
    tested (Seen control_kind v) (ltb 10000000 size) (λ _. none OutOfRange (lit≤ tt, lit≤ tt)) (λ h.
    value (C.Microvolts (signed minus size)) (signed_text v minus size e ∙ number_text_lem v (Whole minus size) e)
    (signed_valid minus size (ltb-false 10000000 size h)))
input_seen v (Some Nan) e = value C.Nan (number_text_lem v Nan e) tt
input_seen v None e = none Malformed (lit≤ tt, lit≤ tt)

control_again : (c : Control) → ValidInput c → control_of (number_of (control_text c)) ≡ Ok c
unfolding control_of
control_again (C.Microvolts (pos n)) h = simp (number_read (Whole false n) (small n h, λ e. absurd (no e)), le-ltb 10000000 n h)
control_again (C.Microvolts (negsuc n)) h = simp (number_read (Whole true (suc n)) (small (suc n) h, λ e. omega arith), le-ltb 10000000 (suc n) h)
control_again C.Nan h = simp (number_read Nan tt)

pub control_laws : Lawful control_kind
control_laws =
    record {
      seen = λ v. input_seen v (number_of v) refl;
      again = control_again;
      no_feed = λ c. number_no_feed (number_in c);
    }
