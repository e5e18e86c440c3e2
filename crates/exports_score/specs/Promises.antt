-- Theorems about the exported calls: the statements. proofs/ proves each under the same name in small letters.
use Rattle.std.specs.Prelude.{List, [], ◌∷◌, ◌++◌, map, ◌≡◌, ℕ, ◌≤◌, ◌<◌, Float, ℤ, length, take, drop}
use Rattle.boundary.specs.Flat.{Kept, kept}
use Rattle.laws.specs.Machine.{Settles}
use Rattle.score.specs.Control.{volts_of}
use Rattle.exports_score.specs.Cells.{control_at}
use Rattle.exports_score.specs.Calls.{score_read_at, Told, told, score_values_at, Saved, saved, score_write_at}

-- ---- cells that are read
-- a text reads as these cells
abbrev pub Tells : List ℕ → List ℤ → List ℕ → Type 0
Tells text m w = (m₀ : List ℤ) (w₀ : List ℕ) → length m₀ ≡ 5 → length w₀ ≡ 4 → score_values_at text m₀ w₀ ≡ told 0 m w

-- both readers agree: the volts are those of the microvolts, and the wholes are the same
abbrev pub VoltsAgree : Type 0
VoltsAgree = (text : List ℕ) (m : List ℤ) (w : List ℕ) → Tells text m w → (f : List Float) (w₀ : List ℕ) → length f ≡ 5 → length w₀ ≡ 4
    → score_read_at text f w₀ ≡ kept 0 (map (λ (n : ℤ). volts_of (control_at n)) m) w

-- ---- cells that are written: as the text that reads as them, into any buffer that holds it
abbrev pub ReadWritten : Type 0
ReadWritten = (text : List ℕ) (m : List ℤ) (w t : List ℕ) (l : ℕ) → Tells text m w → length text ≤ length t
    → score_write_at m w t (l ∷ []) ≡ saved 0 (text ++ drop (length text) t) (length text ∷ [])

-- what was written reads as the cells
abbrev pub WrittenRead : Type 0
WrittenRead = (m : List ℤ) (w t t' : List ℕ) (l n : ℕ) → score_write_at m w t (l ∷ []) ≡ saved 0 t' (n ∷ []) → Tells (take n t') m w

-- 24 in any other buffer, and none of 117 bytes is another
abbrev pub ShortRefused : Type 0
ShortRefused = (text : List ℕ) (m : List ℤ) (w t : List ℕ) (l : ℕ) → Tells text m w → length t < length text
    → score_write_at m w t (l ∷ []) ≡ saved 24 t (l ∷ [])

abbrev pub EnoughRoom : Type 0
EnoughRoom = (text : List ℕ) (m : List ℤ) (w : List ℕ) → Tells text m w → length text ≤ 117

-- 23 exactly for cells that no text reads as, whatever the buffer
abbrev pub UnreadRefused : Type 0
UnreadRefused = (m : List ℤ) (w t : List ℕ) (l : ℕ) → length m ≡ 5 → length w ≡ 4
    → (((text : List ℕ) → Tells text m w → ⊥) → score_write_at m w t (l ∷ []) ≡ saved 23 t (l ∷ []))
    × ((score_write_at m w t (l ∷ [])).code ≡ 23 → (text : List ℕ) → Tells text m w → ⊥)

-- ---- what isn't done leaves every slice
pub record Left : Type 0 where
  pub values : (text : List ℕ) (m : List ℤ) (w : List ℕ) → ((score_values_at text m w).code ≡ 0 → ⊥)
      → score_values_at text m w ≡ told (score_values_at text m w).code m w
  pub write : (m : List ℤ) (w t l : List ℕ) → ((score_write_at m w t l).code ≡ 0 → ⊥) → score_write_at m w t l ≡ saved (score_write_at m w t l).code t l

-- ---- each contract settles the number and every lent slice at exit
pub record Settled : Type 0 where
  pub read : (text : List ℕ) (f : List Float) (w : List ℕ) → Settles (λ (k : Kept). k ≡ score_read_at text f w)
  pub values : (text : List ℕ) (m : List ℤ) (w : List ℕ) → Settles (λ (k : Told). k ≡ score_values_at text m w)
  pub write : (m : List ℤ) (w t l : List ℕ) → Settles (λ (k : Saved). k ≡ score_write_at m w t l)
