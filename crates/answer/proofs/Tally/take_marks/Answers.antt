-- marks that a tally has room for are as few as a count can hold
use mathlib.Core.Bool.{Bool, true}
use mathlib.Core.Path.{◌≡◌, sym, ◌∙◌}
use Prim.Native.Nat.{ℕ, ◌≤◌}
use native.Mathlib.Omega.{arith}
use lib.ListN.{length}
use Rattle.answer.proofs.Blocks.{room_says, many_most, all_clean}
use Rattle.answer.specs.Block.{cells_of, counted_to, room_for, marks_taken}
use Rattle.answer.specs.declared.Tally.{Tally}
use Rattle.answer.proofs.Tally.take_marks.Goals as goal

few : (t : Tally) (n : ℕ) (b : Bool) → b ≡ room_for t n → b ≡ true → n ≤ 4294967295
few t n b e h = let r = room_says t n (sym e ∙ h) in omega arith

pub count_of-clean-requires : goal.count_of-clean-requires
count_of-clean-requires c = few _ _ _ c.has_room.ensures c.if-not-has_room.false

pub grown-requires : goal.grown-requires
grown-requires c = let a = c.args in
    let h = room_says a.self (length a.marks.now) (sym c.has_room.ensures ∙ c.if-not-has_room.false) in
    let all = c.if-clean-marks.true in
    (h.0, omega arith)

pub count_of-requires : goal.count_of-requires
count_of-requires c = few _ _ _ c.has_room.ensures c.if-not-has_room.false

pub count_of-requires-else-clean-marks : goal.count_of-requires-else-clean-marks
count_of-requires-else-clean-marks c = few _ _ _ c.has_room.ensures c.if-not-has_room.false

pub count_of-requires-else-clean-marks-2 : goal.count_of-requires-else-clean-marks-2
count_of-requires-else-clean-marks-2 c = few _ _ _ c.has_room.ensures c.if-not-has_room.false

pub count_of-requires-else-clean-marks-3 : goal.count_of-requires-else-clean-marks-3
count_of-requires-else-clean-marks-3 c = few _ _ _ c.has_room.ensures c.if-not-has_room.false

pub grown-requires-else-clean-marks : goal.grown-requires-else-clean-marks
grown-requires-else-clean-marks c = let a = c.args in
    let h = room_says a.self (length a.marks.now) (sym c.has_room.ensures ∙ c.if-not-has_room.false) in
    let m = many_most (cells_of a.marks.now) (length a.marks.now) in
    let v = c.count_of-clean.ensures in
    let w = c.count_of.ensures in
    let x = c.count_of-else-clean-marks.ensures in
    let y = c.count_of-else-clean-marks-2.ensures in
    let z = c.count_of-else-clean-marks-3.ensures in
    (h.0, omega arith)

pub returns-then-clean-marks : goal.returns-then-clean-marks
unfolding marks_taken
returns-then-clean-marks c = let a = c.args in
    let all = sym c.count_of-clean.ensures ∙ c.if-clean-marks.true in
    simp (
      c.grown.ensures,
      c.count_of-clean.ensures,
      c.if-not-has_room.false,
      ← c.has_room.ensures,
      all_clean a.self (cells_of a.marks.now) (length a.marks.now) all,
    )

pub returns-else-clean-marks : goal.returns-else-clean-marks
unfolding marks_taken counted_to
returns-else-clean-marks c = simp (
  c.grown-else-clean-marks.ensures,
  c.count_of-else-clean-marks-3.ensures,
  c.count_of-else-clean-marks-2.ensures,
  c.count_of-else-clean-marks.ensures,
  c.count_of.ensures,
  c.count_of-clean.ensures,
  c.if-not-has_room.false,
  ← c.has_room.ensures,
)

pub returns-then-not-has_room : goal.returns-then-not-has_room
unfolding marks_taken
returns-then-not-has_room c = simp (c.if-not-has_room.true, ← c.has_room.ensures)
