-- Theorems about writing: the statements. The proofs of the same names in small letters stand in proofs/.
use Rattle.std.specs.Prelude.{ℕ, ◌≤◌, ◌<◌, List, ◌++◌, ◌≡◌, length, take, drop, Ok, Err}
use Rattle.score.specs.Refusal.{refusal_number}
use Rattle.score.specs.Score.{score_of}
use Rattle.score.specs.Text.{text_of}
use Rattle.score.specs.declared.Score.{Score}
use Rattle.score.specs.declared.Refusal.{Refusal}
use Rattle.score.specs.declared.Refusal.TheVariants.{OutOfRange, NoRoom}
use Rattle.score_writer.specs.Writing.{writing_of, written_of}

-- ---- there and back
-- what was written reads as the values, for all values that the writer takes
abbrev pub WriteRead : Type 0
WriteRead = (s : Score) (out : List ℕ) (n : ℕ) → writing_of s (length out) ≡ Ok n → score_of (take n (written_of s out)) ≡ Ok s

-- what was read is written as the bytes that it was read from, for all texts that the reader takes, into any buffer that holds them
abbrev pub ReadWrite : Type 0
ReadWrite = (text : List ℕ) (s : Score) (out : List ℕ) → score_of text ≡ Ok s → length text ≤ length out
    → (writing_of s (length out) ≡ Ok (length text)) × (written_of s out ≡ text ++ drop (length text) out)

-- so what was written is the only text that reads as the values
abbrev pub OnlyText : Type 0
OnlyText = (s : Score) (out : List ℕ) (n : ℕ) (text : List ℕ) → writing_of s (length out) ≡ Ok n → score_of text ≡ Ok s
    → text ≡ take n (written_of s out)

-- ---- refusals
-- no text reads as the values
abbrev pub Unread : Score → Type 0
Unread s = (text : List ℕ) → score_of text ≡ Ok s → ⊥

-- 23 exactly for values that no reader would give, whatever the buffer
abbrev pub UnreadRefused : Type 0
UnreadRefused = (s : Score) (room : ℕ) → (Unread s → writing_of s room ≡ Err OutOfRange) × (writing_of s room ≡ Err OutOfRange → Unread s)

-- 24 exactly for values that a reader gives, where their text is longer than the buffer
abbrev pub ShortRefused : Type 0
ShortRefused = (s : Score) (room : ℕ)
    → ((text : List ℕ) → score_of text ≡ Ok s → room < length text → writing_of s room ≡ Err NoRoom)
    × (writing_of s room ≡ Err NoRoom → (score_of (text_of s) ≡ Ok s) × (room < length (text_of s)))

-- and by no other number
abbrev pub Refusals : Type 0
Refusals = (s : Score) (room : ℕ) (why : Refusal) → writing_of s room ≡ Err why → (23 ≤ refusal_number why) × (refusal_number why ≤ 24)

-- 117 bytes are enough for every text, and no fewer are
abbrev pub EnoughRoom : Type 0
EnoughRoom = ((s : Score) (room : ℕ) → 117 ≤ room → writing_of s room ≡ Err NoRoom → ⊥)
    × ((room : ℕ) → ((s : Score) → writing_of s room ≡ Err NoRoom → ⊥) → 117 ≤ room)

-- ---- the buffer
-- a refusal leaves every byte
abbrev pub RefusedLeft : Type 0
RefusedLeft = (s : Score) (out : List ℕ) (why : Refusal) → writing_of s (length out) ≡ Err why → written_of s out ≡ out

-- the text lies in the buffer, the bytes past it stay, and so does the buffer's length
pub record Kept (s : Score) (out : List ℕ) (n : ℕ) : Type 0 where
  pub within : n ≤ length out
  pub past : drop n (written_of s out) ≡ drop n out
  pub size : length (written_of s out) ≡ length out

abbrev pub PastStays : Type 0
PastStays = (s : Score) (out : List ℕ) (n : ℕ) → writing_of s (length out) ≡ Ok n → Kept s out n
