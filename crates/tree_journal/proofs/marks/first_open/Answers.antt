use Rattle.std.proofs.Common.{◌≡◌, arith, length}
use Rattle.tree_journal.proofs.OpenPlaces.{opens, closed}
use Rattle.tree_journal.proofs.marks.first_open.Goals as goal

pub returns-then-not-marks-place-clause-found : goal.returns-then-not-marks-place-clause-found
returns-then-not-marks-place-clause-found c = (
  c.loop-place-test.true,
  c.loop-place.invariant,
  opens 1 c.args.marks.now c.loop-place.place c.loop-place-test.true
      c.loop-place.invariant c.if-not-marks-place.true,
)

pub returns-clause-none : goal.returns-clause-none
returns-clause-none c =
    let all : c.loop-place.place ≡ length c.args.marks.now =
    omega (arith, c.loop-place-test.false, c.loop-place.auto.place-end c.requires.range) in
    let set = rw all at c.loop-place.invariant in
    (set, closed 1 c.args.marks.now set)
