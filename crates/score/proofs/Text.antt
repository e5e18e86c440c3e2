-- What was accepted, line by line, is the text of its values, which are in range. Assumes nothing.
use mathlib.Core.Path.{◌≡◌, refl, ap, ◌∙◌}
use mathlib.Core.List.{List, ◌++◌}
use mathlib.Core.Bool.{Bool, true, false, cond}
use Prim.Native.Nat.{ℕ}
use lib.ListN.{length}
use lib.Dec.{ltb, lit≤}
use Rattle.std.specs.Prelude.{Ok, Err}
use Rattle.score.specs.Keys.{osc_key, name_of, hz_key, owner_of}
use Rattle.score.specs.Score.{Reading, head_of, inputs_of, lines_of, score_of}
use Rattle.score.specs.Text.{line_text, key_text, gate_text, head_text, inputs_text, text_of}
use Rattle.score.specs.Promises.{ValidHead, ValidInputs, Valid, ScoreText, ReadValid}
use Rattle.score.proofs.Lines.{head_lines, Says, not_refused, said_values, osc_says, whole_says, gate_says, control_says, end_says}
use Rattle.score.specs.declared.Head.{Head}
use Rattle.score.specs.declared.Osc.{Osc}
use Rattle.score.specs.declared.Osc.TheVariants as O
use Rattle.score.specs.declared.Inputs.{Inputs}
use Rattle.score.specs.declared.Inputs.TheVariants.{Vco, Lfo, Supersaw, Formant}
use Rattle.score.specs.declared.Score.{Score}
use Rattle.score.specs.declared.Refusal.TheVariants.{TooLong}

-- ---- the head
head_says : (P : Score → Type 0) (t : List ℕ) (k : Head → List ℕ → Reading)
    → ((h : Head) (rest : List ℕ) → head_text h ++ rest ≡ t → ValidHead h → Says P (k h rest)) → Says P (head_of t k)
unfolding head_of
head_says P t k then =
    whole_says P t "hz" _ _ (lit≤ tt) _ λ hz e₁ v₁. gate_says P _ _ λ g rest e₂ v₂. whole_says P rest "frames" _ _ (lit≤ tt) _ λ frames e₃ v₃.
    let h : Head = record { hz = hz; gate = g; frames = frames } in
    then h _ (head_lines h _ ∙ ap (λ (l : List ℕ). key_text hz_key hz ++ l) (ap (λ (l : List ℕ). gate_text g ++ l) e₃ ∙ e₂) ∙ e₁)
    (record { hz_least = v₁.0; hz_most = v₁.1; gate = v₂; frames_least = v₃.0; frames_most = v₃.1 })

-- ---- the input lines, of which the last is the last of the text
record Tail (o : Osc) (t : List ℕ) (i : Inputs) : Type 0 where
  owner : owner_of i ≡ o
  written : inputs_text i ≡ t
  valid : ValidInputs i

module _ (P : Score → Type 0) (head : Head) (t : List ℕ) where
  abbrev Then : Osc → Type 0
  Then o = (i : Inputs) → Tail o t i → P (record { head = head; inputs = i })

  vco_says : Then O.Vco → Says P (inputs_of O.Vco head t)
  unfolding inputs_of
  vco_says then =
      control_says P t "voct" _ λ voct e₁ v₁. control_says P _ "fm" _ λ fm e₂ v₂. control_says P _ "pw" _ λ pw e₃ v₃.
      control_says P _ "sync" _ λ sync e₄ v₄. control_says P _ "fm_lin" _ λ lin e₅ v₅.
      end_says P _ _ λ n. then (Vco _) (record { owner = refl; written = cc; valid = (v₁, v₂, v₃, v₄, v₅) })

  lfo_says : Then O.Lfo → Says P (inputs_of O.Lfo head t)
  unfolding inputs_of
  lfo_says then =
      control_says P t "rate" _ λ rate e₁ v₁. control_says P _ "depth" _ λ depth e₂ v₂. control_says P _ "reset" _ λ reset e₃ v₃.
      end_says P _ _ λ n. then (Lfo _) (record { owner = refl; written = cc; valid = (v₁, v₂, v₃) })

  supersaw_says : Then O.Supersaw → Says P (inputs_of O.Supersaw head t)
  unfolding inputs_of
  supersaw_says then =
      control_says P t "voct" _ λ voct e₁ v₁. control_says P _ "detune" _ λ detune e₂ v₂. control_says P _ "mix" _ λ mix e₃ v₃.
      end_says P _ _ λ n. then (Supersaw _) (record { owner = refl; written = cc; valid = (v₁, v₂, v₃) })

  formant_says : Then O.Formant → Says P (inputs_of O.Formant head t)
  unfolding inputs_of
  formant_says then =
      control_says P t "v_oct" _ λ voct e₁ v₁. control_says P _ "vowel" _ λ vowel e₂ v₂. control_says P _ "formant_shift" _ λ shift e₃ v₃.
      control_says P _ "vibrato" _ λ vibrato e₄ v₄.
      end_says P _ _ λ n. then (Formant _) (record { owner = refl; written = cc; valid = (v₁, v₂, v₃, v₄) })

  inputs_say : (o : Osc) → Then o → Says P (inputs_of o head t)
  inputs_say O.Vco = vco_says
  inputs_say O.Lfo = lfo_says
  inputs_say O.Supersaw = supersaw_says
  inputs_say O.Formant = formant_says

-- ---- all lines
its_lines : (o : Osc) (head : Head) (i : Inputs) (t : List ℕ) {rest after : List ℕ} → owner_of i ≡ o → inputs_text i ≡ rest
    → head_text head ++ rest ≡ after → line_text osc_key (name_of o) ++ after ≡ t
    → line_text osc_key (name_of (owner_of i)) ++ (head_text head ++ inputs_text i) ≡ t
its_lines o head i t owner written f e =
    ap (λ (o : Osc). line_text osc_key (name_of o) ++ (head_text head ++ inputs_text i)) owner
    ∙ ap (λ (l : List ℕ). line_text osc_key (name_of o) ++ (head_text head ++ l)) written ∙ ap (λ (l : List ℕ). line_text osc_key (name_of o) ++ l) f ∙ e

pub lines_say : (t : List ℕ) → Says (λ (s : Score). (text_of s ≡ t) × Valid s) (lines_of t)
unfolding lines_of text_of
lines_say t =
    osc_says _ t _ λ o e. head_says _ _ _ λ head rest f v. inputs_say _ head rest o λ i r.
    (its_lines o head i t r.owner r.written f e, record { head = v; inputs = r.valid })

-- ---- a text that was accepted was read line by line
accepted : (t : List ℕ) (s : Score) → score_of t ≡ Ok s → (text_of s ≡ t) × Valid s
unfolding score_of
accepted t s p = go (ltb _ (length t)) p
  where
    go : (b : Bool) → cond b (Err TooLong) (lines_of t) ≡ Ok s → (text_of s ≡ t) × Valid s
    go true p = absurd (not_refused p)
    go false p = said_values s (lines_say t) p

pub score_text : ScoreText
score_text t s p = (accepted t s p).0

pub read_valid : ReadValid
read_valid t s p = (accepted t s p).1
