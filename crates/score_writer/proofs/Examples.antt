-- The examples: each text is read as its score, so it is what is written. Assumes nothing.
use Prim.Native.Nat.{ℕ, zero, suc, ◌≤◌, ◌<◌}
use mathlib.Core.List.{List, [], ◌∷◌, ◌++◌, map}
use mathlib.Core.Path.{◌≡◌, refl, ap, ◌∙◌}
use native.Mathlib.Omega.{arith}
use lib.Dec.{lit<}
use Rattle.std.specs.Prelude.{Ok, Err}
use lib.ListN.{length, drop, replicate, length-replicate}
use Rattle.line.specs.Bytes.{ascii, same_of, has_of, until_of, past_of}
use Rattle.line.specs.Line.{line_of, after_line, key_of, value_of, is_line}
use Rattle.line.specs.Number.{digits_from, digits_of, negative_of, signed_of, number_of}
use Rattle.score.specs.Lines.{osc_of, within_of, control_of, osc_line, whole_line, control_line}
use Rattle.score.specs.Score.{osc, whole, gate, control, end_of, inputs_of, head_of, lines_of, score_of}
use Rattle.score.specs.declared.Refusal.TheVariants.{OutOfRange, NoRoom}
use Rattle.score_writer.specs.Writing.{whole_refusal, control_refusal, refusal_of, writing_of, written_of}
use Rattle.score_writer.specs.Examples.{Row, worked_row, longest_row, texts, buffer, Refusal, refusals, WritingExamples}
use Rattle.score_writer.proofs.Texts.{read_write, short_refused}

-- each text is read as its score
abbrev Reads : Row → Type 0
Reads r = score_of (ascii r.text) ≡ Ok r.score

abbrev ReadAll : List Row → Type 0
ReadAll [] = Unit {0}
ReadAll (r ∷ rs) = Reads r × ReadAll rs

read_all : ReadAll texts
unfolding same_of has_of until_of past_of line_of after_line key_of value_of is_line digits_from digits_of negative_of signed_of number_of osc_of
    within_of control_of
    osc_line whole_line control_line osc whole gate control end_of inputs_of head_of lines_of score_of
read_all = (refl, (refl, (refl, (refl, (refl, tt)))))

-- so it is what is written, into x's of which one is left
buffer_left : (n x : ℕ) → drop n (replicate (suc n) x) ≡ x ∷ []
buffer_left zero x = refl
buffer_left (suc n) x = buffer_left n x

module _ (r : Row) (e : Reads r) where
  its_buffer : length (ascii r.text) ≤ length (buffer r)
  its_buffer = omega (arith, length-replicate {A = ℕ} (suc (length (ascii r.text))) 120)

  answered : writing_of r.score (length (buffer r)) ≡ Ok (length (ascii r.text))
  answered = (read_write (ascii r.text) r.score (buffer r) e its_buffer).0

  left : written_of r.score (buffer r) ≡ ascii r.text ++ (120 ∷ [])
  left =
      (read_write (ascii r.text) r.score (buffer r) e its_buffer).1
      ∙ ap (λ (l : List ℕ). ascii r.text ++ l) (buffer_left (length (ascii r.text)) 120)

all_answered : (rs : List Row) → ReadAll rs
    → map (λ (r : Row). writing_of r.score (length (buffer r))) rs ≡ map (λ (r : Row). Ok (length (ascii r.text))) rs
all_answered [] es = refl
all_answered (r ∷ rs) (e, es) = (λ i. answered r e i ∷ all_answered rs es i)

all_left : (rs : List Row) → ReadAll rs → map (λ (r : Row). written_of r.score (buffer r)) rs ≡ map (λ (r : Row). ascii r.text ++ (120 ∷ [])) rs
all_left [] es = refl
all_left (r ∷ rs) (e, es) = (λ i. left r e i ∷ all_left rs es i)

-- ---- refusals: 24 by the text that has no room, 23 computed
too_short : (r : Row) (bytes : ℕ) → Reads r → bytes < length (ascii r.text) → writing_of r.score bytes ≡ Err NoRoom
too_short r bytes e h = (short_refused r.score bytes).0 (ascii r.text) e h

refused_all : map (λ (r : Refusal). writing_of r.score r.bytes) refusals ≡ map (λ (r : Refusal). Err r.by) refusals
unfolding writing_of whole_refusal control_refusal refusal_of within_of control_of
refused_all =
    let out = Err OutOfRange in
    let at-70 = too_short worked_row 70 read_all.0 (lit< tt) in
    let at-116 = too_short longest_row 116 read_all.1.0 (lit< tt) in
    let at-0 = too_short worked_row 0 read_all.0 (lit< tt) in
    (λ i. out ∷ out ∷ out ∷ out ∷ out ∷ out ∷ out ∷ out ∷ at-70 i ∷ at-116 i ∷ at-0 i ∷ out ∷ [])

pub writing_examples : WritingExamples
writing_examples = (all_answered texts read_all, all_left texts read_all, refused_all)
