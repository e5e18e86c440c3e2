use mathlib.Core.Path.{◌≡◌, refl, sym, subst, ◌∙◌}
use denote.Bor.{Bor}
use mathlib.Core.List.{List}
use native.Mathlib.Omega.{arith}
use lib.ListN.{length}
use lib.Ieee.{Float, nan}
use Rattle.std.specs.Prelude.{Option, ◌<◌}
use Rattle.std.specs.Array.{IsFirstChunk}
use Rattle.std.specs.Option.{MatchOption}
use Rattle.laws.proofs.Over.{tab_take}
use Rattle.supersaw.specs.Voices.{at}
use Rattle.exports_supersaw.specs.State.{state_of}
use Rattle.exports_supersaw.proofs.CellsLayout.state.Goals as goal

pub returns : goal.returns
unfolding state_of
returns c =
    let f = c.args.floats.now in
    let p = c.unwrap.result.now in
    let long : length f ≡ 10 = c.requires.0 in
    let seven = sym (tab_take nan (at f) f 7 (omega arith) (λ i k. refl)) in
    let first : IsFirstChunk f p 7 =
    subst (λ (r : Option (Bor (List Float))). MatchOption r (length f < 7) (λ y. IsFirstChunk f y.now 7)) c.unwrap.ensures c.first_chunk.ensures.cases in
    simp (first.same ∙ seven)
