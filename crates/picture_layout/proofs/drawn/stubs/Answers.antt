use Rattle.std.proofs.Common.{◌≡◌, ◌∙◌, ◌+◌, ap, sym, subst, map, get_or, take}
use Rattle.std.proofs.lemmas.List.{get_or_default}
use Rattle.picture_layout.specs.declared.fates.Fate.{Fate}
use Rattle.picture_layout.specs.Fates.{leaving_in, leavings, no_fate}
use Rattle.picture_layout.proofs.Leaving.{left_more, passed}
use Rattle.picture_layout.proofs.drawn.stubs.Goals as goal
use Rattle.picture_layout.proofs.drawn.stubs.Goals.{then-has_stub+in_ok-push, else-has_stub}

pub loop-place-preserved : goal.loop-place-preserved
loop-place-preserved c =
    let fates = c.args.fates.now in
    let k = c.loop-place.place in
    let there = c.loop-place-test.true in
    let f : Fate = get_or fates k no_fate in
    let at : f ≡ get_or fates k f = get_or_default fates k no_fate f there in
    let was = c.loop-place.invariant in
    elim c.if-has_stub.branch [
      | then-has_stub+in_ok-push w ↦
          left_more c.args.seats.now c.args.rows.now c.args.entries.now fates k f c.loop-place.stubs.items
          c.if-has_stub.stubs.items w.stub_of.result there at (sym c.has_stub.ensures ∙ w.if-has_stub.true)
          (ap (λ v. v.items) w.stubs-is ∙ w.in_ok-push.ensures.items) w.stub_of.ensures was
      | else-has_stub w ↦
          subst (λ v. map leaving_in v.items ≡ leavings c.args.seats.now c.args.rows.now c.args.entries.now
          (take (k + 1) fates)) (sym w.stubs-is)
          (passed c.args.seats.now c.args.rows.now c.args.entries.now fates k f
          c.loop-place.stubs.items there at
          (sym c.has_stub.ensures ∙ w.if-has_stub.false) was)
    ]
