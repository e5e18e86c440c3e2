-- `find`: no such byte stands before the place.
use borrow.Author.Rules.{rules}
use borrow.Author.Tests.{eq-eqb}
use mathlib.Core.Bool.{true, not}
use mathlib.Core.Path.{◌≡◌, ap, ◌∙◌}
use native.Mathlib.Omega.{arith}
use Prim.Native.Nat.{ℕ, ◌-◌, ◌<◌}
use lib.Dec.{eqb}
use lib.ListN.{get_or, length, take, drop}
use Rattle.std.proofs.Common.{get_or-take, get_or-drop}
use Rattle.std.specs.List.{position_or_len}
use Rattle.std.proofs.lemmas.Iterator.{YieldsList-from_slice}
use Rattle.std.proofs.lemmas.Iterator.Search.{position_from_yields_List}
use Rattle.std.proofs.lemmas.List.Sums.{prefix_len-le-length, prefix_len_passes}
use Rattle.replay.proofs.find.Goals as goal

pub returns-clause-before : goal.returns-clause-before
returns-clause-before c k a b e =
    let part = take (c.args.end - c.args.from) (drop c.args.from c.args.text.now) in
    let at = position_from_yields_List (λ (x : ℕ). eqb x c.args.byte) _ _ _ c.position.ensures.ran (YieldsList-from_slice part cc) (λ x b q k. search rules) in
    let long : length part ≡ c.args.end - c.args.from = grind (arith, c.requires) in
    let before : k - c.args.from < position_or_len (λ (x : ℕ). eqb x c.args.byte) part = grind (arith, at, long, c.map_or.ensures) in
    let same : get_or part (k - c.args.from) 0 ≡ get_or c.args.text.now k 0 =
    get_or-take (c.args.end - c.args.from) _ (k - c.args.from) 0 (omega (arith, before, long, prefix_len-le-length (λ (x : ℕ). not (eqb x c.args.byte)) part))
    ∙ get_or-drop c.args.from _ (k - c.args.from) 0
    ∙ ap (λ (i : ℕ). get_or c.args.text.now i 0) (omega arith) in
    let other = prefix_len_passes (λ (x : ℕ). not (eqb x c.args.byte)) part (k - c.args.from) 0 before in
    let is : eqb (get_or part (k - c.args.from) 0) c.args.byte ≡ true = eq-eqb _ _ (same ∙ e) in
    grind (arith, other, is)
