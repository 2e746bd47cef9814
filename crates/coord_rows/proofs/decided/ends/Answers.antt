use Rattle.std.proofs.Common.{rules, ◌≡◌, ◌∙◌, None, [], ◌∷◌, IfErr, IfOk, ap, subst, sym, false}
use Rattle.protocol.specs.declared.messages.Message.TheVariants.{Ack}
use Rattle.protocol_words.specs.Variants.{EndRecord}
use Rattle.protocol.specs.Records.{in_order}
use Rattle.protocol.specs.CoordinatorRows.{decided_ack_by, end_reports, up}
use Rattle.process_state.specs.Turns.{this_version}
use Rattle.coord_effects.specs.declared.effect.RowRecord.{RowRecord}
use Rattle.coord_effects.specs.Rows.{NotWritten, ShowsRecord, end_written, meant, seat_meant}
use Rattle.coord_rows.proofs.Ending.{does_ending, ending, ending_below, root_ending}
use Rattle.coord_rows.proofs.decided.ends.Goals as goal

pub returns-in-None-clause-ok : goal.returns-in-None-clause-ok
returns-in-None-clause-ok c =
    let s = c.args.seat in
    let fs = c.args.found.items in
    let w = c.in_ok-written-in-None.written in
    let written : w ≡ end_written s.case (end_reports this_version None fs) = search rules in
    let shows : IfOk c.forgets_behind.result (λ effect. ShowsRecord s.parent effect w None []) = search rules
    in
    does_ending s w [] (decided_ack_by this_version (seat_meant s) c.args.outcome [] fs c.args.live.now)
    c.forgets_behind.new.live c.forgets_behind.result
    (root_ending s c.args.outcome fs c.args.live.now c.in-None.is ∙ sym (ap (λ r. ending r []) written))
    shows c.forgets_behind.ensures.forgotten

pub returns-clause-ok : goal.returns-clause-ok
returns-clause-ok c =
    let s = c.args.seat in
    let fs = c.args.found.items in
    let w : RowRecord = record { entry = EndRecord s.case None; forced = false } in
    let ms = up (seat_meant s) (Ack s.case c.args.outcome (in_order fs)) in
    let shows : IfOk c.forgets_behind-in-Some.result (λ effect. ShowsRecord s.parent effect w None ms) =
    search rules in
    does_ending s w ms (decided_ack_by this_version (seat_meant s) c.args.outcome [] fs c.args.live.now)
    c.forgets_behind-in-Some.new.live c.forgets_behind-in-Some.result
    (ending_below s c.in-Some.field-0 c.args.outcome fs c.args.live.now c.in-Some.is)
    shows c.forgets_behind-in-Some.ensures.forgotten

pub returns-in-None-clause-unwritten : goal.returns-in-None-clause-unwritten
returns-in-None-clause-unwritten c =
    let s = c.args.seat in
    let fs = c.args.found.items in
    let w = c.in_ok-written-in-None.written in
    let written : w ≡ end_written s.case (end_reports this_version None fs) = search rules in
    let kept : IfErr c.forgets_behind.result (NotWritten s.parent (meant w ∷ [])) = search rules in
    subst (λ row. IfErr c.forgets_behind.result (NotWritten s.parent row.written))
    (sym (root_ending s c.args.outcome fs c.args.live.now c.in-None.is ∙ sym (ap (λ r. ending r []) written)))
    kept

pub returns-clause-unwritten : goal.returns-clause-unwritten
returns-clause-unwritten c =
    let s = c.args.seat in
    let fs = c.args.found.items in
    let w : RowRecord = record { entry = EndRecord s.case None; forced = false } in
    let kept : IfErr c.forgets_behind-in-Some.result (NotWritten s.parent (meant w ∷ [])) = search rules in
    subst (λ row. IfErr c.forgets_behind-in-Some.result (NotWritten s.parent row.written))
    (sym (ending_below s c.in-Some.field-0 c.args.outcome fs c.args.live.now c.in-Some.is)) kept
