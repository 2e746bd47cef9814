use Rattle.std.proofs.Common.{◌≡◌, ◌∙◌, ◌++◌, ap, sym, take}
use Rattle.picture_layout.specs.declared.rows.StepRows.{StepRows}
use Rattle.picture_layout.specs.Ways.{first_record, rows_in, spots_from, spots_in}
use Rattle.picture_layout.specs.Whole.{records_in}
use Rattle.picture_layout.proofs.Ways.{records_more, spots_more}
use Rattle.picture_layout.proofs.drawn.marks.Goals as goal

pub loop-step-preserved : goal.loop-step-preserved
loop-step-preserved c =
    let es = c.args.entries.now in
    let k = c.loop-step.step in
    let e = c.index-entries-step.result in
    let there = c.loop-step-test.true in
    let at = c.index-entries-step.is in
    let seats = c.args.seats.now in
    let rows = c.args.rows.now in
    let place = c.place_of-place.result in
    let row = c.first_record-row.result in
    let written = c.as_slice.result.now in
    let first : row ≡ first_record e.step.happening (rows_in rows k).first =
    c.first_record-row.ensures ∙ ap (λ (r : StepRows). first_record e.step.happening r.first)
    c.rows_at.ensures in
    record {
      logged = c.in_ok-push_marks.ensures.logged ∙ ap (λ xs. xs ++ written) c.loop-step.invariant.logged
          ∙ ap (λ xs. records_in (take k es) ++ xs) c.as_slice.ensures ∙ sym (records_more es k e there at);
      spots = c.in_ok-push_marks.ensures.spots ∙ ap (λ xs. xs ++ spots_from place row written)
          c.loop-step.invariant.spots
          ∙ (λ i. spots_in seats rows (take k es) ++ spots_from (c.place_of-place.ensures i) (first i)
          (c.as_slice.ensures i))
          ∙ sym (spots_more seats rows es k e there at);
    }
