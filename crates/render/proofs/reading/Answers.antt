-- `reading`: what the text says, or that there is none.
use mathlib.Core.Path.{sym, ap, ◌∙◌}
use Rattle.render.specs.Reads.{taken_of}
use Rattle.std.specs.Prelude.{Option, ℕ}
use Rattle.render.proofs.Taking.{within_text}
use Rattle.render.proofs.reading.Goals as goal

pub slice_bounds-read-end : goal.slice_bounds-read-end
slice_bounds-read-end c = within_text _ _ _ c.requires c.in-Some.is

pub returns-in-Some : goal.returns-in-Some
unfolding taken_of
returns-in-Some c = c.read.ensures ∙ sym (ap (λ (t : Option ℕ). taken_of t c.args.input.now) c.in-Some.is)

pub returns-in-None : goal.returns-in-None
unfolding taken_of
returns-in-None c = sym (ap (λ (t : Option ℕ). taken_of t c.args.input.now) c.in-None.is)
