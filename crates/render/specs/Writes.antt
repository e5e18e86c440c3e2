-- What the program writes of a score, piece by piece.
use Rattle.std.specs.Prelude.{ℕ, zero, suc, ◌-◌, ◌*◌, ◌<◌, min, List, [], ◌++◌, ◌≡◌}
use Rattle.score.specs.declared.Score.{Score}
use Rattle.frame.specs.End.{end_text}
use Rattle.player.specs.Frames.{tally_at, text_from}

-- the piece that begins with the frame n: k frames, or as many as are left
unfoldable pub piece_of : Score → ℕ → ℕ → List ℕ
piece_of s n k = text_from s n (min k (s.head.frames - n))

-- a piece of 400 frames begins there: the frame is one of the score's, and a multiple of 400
abbrev pub Begins : Score → ℕ → Type 0
Begins s n = (n < s.head.frames) × ((m : ℕ) × (n ≡ m * 400))

-- the first m pieces of k frames each, one after another
unfoldable pub pieces_of : Score → ℕ → ℕ → List ℕ
pieces_of s k zero = []
pieces_of s k (suc m) = pieces_of s k m ++ piece_of s (m * k) k

-- the last one, after all frames
unfoldable pub end_of : Score → List ℕ
end_of s = end_text s.head.frames (tally_at s s.head.frames)
