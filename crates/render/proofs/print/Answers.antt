-- `print`: the score that is played, and the refusal whose text is written, are what the input is taken to say.
use mathlib.Core.Path.{refl, sym, ◌∙◌}
use native.Mathlib.Omega.{arith}
use Rattle.text.specs.Page.{with_text, page_at}
use Rattle.render.proofs.Written.{refused_written}
use Rattle.render.proofs.print.Goals as goal

pub write_refused-requires : goal.write_refused-requires
unfolding with_text page_at
write_refused-requires g c = (
  sym c.reading.ensures ∙ c.in-Err.is,
  refused_written _ _ _ _ (omega arith) c.told-out (rw (c.place-to.ensures, c.put_refused.ensures, c.new-page.ensures, c.number.ensures) (refl, grind arith)),
)
