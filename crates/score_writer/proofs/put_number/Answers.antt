-- `score_writer::put_number`: of a number less than 0 the key, and then a line whose key is the sign.
use mathlib.Core.Bool.{true}
use mathlib.Core.List.{append_assoc}
use mathlib.Core.Path.{◌≡◌}
use Rattle.text.specs.Lines.{word_line, count_line}
use Rattle.text.proofs.PageLaws.{page_then}
use Rattle.line.specs.Number.{number_text}
use Rattle.score_writer.proofs.put_number.Goals as goal

pub returns-in-Whole-true-default : goal.returns-in-Whole-true-default
unfolding number_text word_line count_line
returns-in-Whole-true-default c = let v = c.in-Whole-true-default in
    let minus : v.minus ≡ true = cc (v.minus-is, v.minus-test) in
    simp (c.count.ensures, c.text.ensures, page_then, v.is, minus, append_assoc)
