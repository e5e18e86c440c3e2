use Rattle.std.proofs.Common.{sym, ◌∙◌, arith}
use Rattle.common.specs.Refusal.{refused_number}
use Rattle.karplus_strong.proofs.Parts.{made_parts, new_taken, new_made, new_no}
use Rattle.karplus_strong.proofs.KarplusStrong.new.Goals as goal
use Rattle.karplus_strong.proofs.KarplusStrong.new.Goals.{in-Ok, in-Err}

pub max_len_for-len-requires : goal.max_len_for-len-requires
unfolding refused_number
max_len_for-len-requires c = (new_taken _ _ _ (sym (rw c.in-Ok.is at c.new_refusal-outcome.ensures))).0

pub blank-requires : goal.blank-requires
unfolding refused_number
blank-requires c =
    elim c.match-outcome.branch [
      | in-Ok w ↦ let m = (new_taken _ _ _ (sym (rw w.in-Ok.is at c.new_refusal-outcome.ensures))).2 in
          let e = w.len-is in
          let l = w.max_len_for-len.ensures in
          (omega arith, omega arith)
      | in-Err w ↦ let e = w.len-is in (omega arith, omega arith)
    ]

pub returns : goal.returns
returns c =
    rw (c.new.ensures, c.new-2.ensures)
    (elim c.match-outcome.branch [
      | in-Ok w ↦ made_parts (new_made _ _ _ _ _ _ c.new_refusal-outcome.ensures c.blank.ensures _ w.in-Ok.is (w.len-is ∙ w.max_len_for-len.ensures))
      | in-Err w ↦ made_parts (new_no _ _ _ _ _ _ c.new_refusal-outcome.ensures c.blank.ensures _ w.in-Err.is w.len-is)
    ])
