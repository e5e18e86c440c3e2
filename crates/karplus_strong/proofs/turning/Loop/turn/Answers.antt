use Rattle.std.proofs.Common.{sym, ◌∙◌}
use Rattle.karplus_strong.proofs.Parts.{tap_by, turn_clean, turn_cleared}
use Rattle.karplus_strong.specs.Shortcuts.{with_loop}
use Rattle.karplus_strong.specs.Step.{filtered_of, stretched_of}
use Rattle.karplus_strong.proofs.turning.Loop.turn.Goals as goal

pub returns-then-is_settled : goal.returns-then-is_settled
unfolding filtered_of stretched_of
returns-then-is_settled c = λ s. sym
    (turn_clean (with_loop s c.args.self) c.args.t _ _ (tap_by _ _ _ _ _ _ _ c.behind.ensures c.behind-2.ensures)
    (sym c.is_settled.ensures ∙ c.if-is_settled.true) _ _ _ c.after.ensures c.of.ensures c.marked.ensures)

pub returns-else-is_settled : goal.returns-else-is_settled
unfolding filtered_of stretched_of
returns-else-is_settled c = λ s. sym
    (turn_cleared (with_loop s c.args.self) c.args.t _ _ (tap_by _ _ _ _ _ _ _ c.behind.ensures c.behind-2.ensures)
    (sym c.is_settled.ensures ∙ c.if-is_settled.false) _ _ _ c.of-else-is_settled.ensures c.marked-else-is_settled.ensures c.blank.ensures)
