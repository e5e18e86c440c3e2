-- The text of the end, and that of a refused score, written from the scope, "The score and its program".
use Rattle.std.specs.Prelude.{ℕ, Bool, cond, ◌&&◌, List, ◌++◌, eqb}
use Rattle.line.specs.Bytes.{ascii}
use Rattle.answer.specs.declared.Tally.{Tally}
use Rattle.text.specs.Lines.{word_line, count_line}

unfoldable pub counts_text : Tally → List ℕ
counts_text t =
    count_line (ascii "begun=") t.begun
    ++ count_line (ascii "finished=") t.finished
    ++ count_line (ascii "cleared=") t.cleared
    ++ count_line (ascii "notfinite=") t.notfinite
    ++ count_line (ascii "lost=") t.lost
    ++ count_line (ascii "steered=") t.steered

-- finished = begun = frames
unfoldable pub claimed_of : ℕ → Tally → Bool
claimed_of frames t = eqb t.finished t.begun && eqb t.begun frames

unfoldable pub end_text : ℕ → Tally → List ℕ
end_text frames t = counts_text t ++ word_line (ascii "claimed=") (cond (claimed_of frames t) (ascii "yes") (ascii "no"))

unfoldable pub refused_text : ℕ → List ℕ
refused_text n = count_line (ascii "refused=") n
