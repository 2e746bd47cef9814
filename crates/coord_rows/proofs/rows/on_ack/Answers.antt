use Rattle.std.proofs.Common.{rules, ◌≡◌, ◌∙◌, ◌++◌, IfErr, IfOk, ap, subst, sym}
use Rattle.protocol.specs.declared.names.Outcome.TheVariants.{Committed, Aborted}
use Rattle.protocol.specs.declared.standings.Standing.TheVariants.{Committing, Aborting}
use Rattle.protocol.specs.CoordinatorRows.{decided_ack, on_ack}
use Rattle.process_state.specs.Turns.{this_version}
use Rattle.coord_effects.specs.Rows.{DoesRow, NotWritten, seat_meant}
use Rattle.coord_rows.proofs.rows.on_ack.Goals.{in-Committed+in-Committing-1, in-Aborted+in-Aborting-1}
use Rattle.coord_rows.proofs.rows.on_ack.Goals as goal

pub returns-in-Committed-Committing-clause-ok : goal.returns-in-Committed-Committing-clause-ok
returns-in-Committed-Committing-clause-ok c =
    let s = seat_meant c.args.seat in
    let t = c.args.ticket in
    let v = c.args.live.now in
    let fs = v.found ++ c.args.findings.now in
    elim c.in-Committed-Committing-1.branch [
      | in-Committed+in-Committing-1 w ↦
          let told : c.args.outcome ≡ Committed = search rules in
          let stands : v.standing ≡ Committing = search rules in
          let same : decided_ack this_version s c.args.outcome t fs v
          ≡ on_ack this_version s t c.args.outcome fs v v.standing =
          ap (λ o. decided_ack this_version s o t fs v) told
          ∙ sym (ap (λ st. on_ack this_version s t Committed fs v st) stands)
          ∙ sym (ap (λ o. on_ack this_version s t o fs v v.standing) told) in
          subst (λ row. IfOk c.decided_ack.result
          (λ effect. DoesRow c.args.seat row effect c.decided_ack.new.live)) same
          c.decided_ack.ensures.ok
      | in-Aborted+in-Aborting-1 w ↦
          let told : c.args.outcome ≡ Aborted = search rules in
          let stands : v.standing ≡ Aborting = search rules in
          let same : decided_ack this_version s c.args.outcome t fs v
          ≡ on_ack this_version s t c.args.outcome fs v v.standing =
          ap (λ o. decided_ack this_version s o t fs v) told
          ∙ sym (ap (λ st. on_ack this_version s t Aborted fs v st) stands)
          ∙ sym (ap (λ o. on_ack this_version s t o fs v v.standing) told) in
          subst (λ row. IfOk c.decided_ack.result
          (λ effect. DoesRow c.args.seat row effect c.decided_ack.new.live)) same
          c.decided_ack.ensures.ok
    ]

pub returns-in-Committed-Committing-clause-unwritten : goal.returns-in-Committed-Committing-clause-unwritten
returns-in-Committed-Committing-clause-unwritten c =
    let s = seat_meant c.args.seat in
    let t = c.args.ticket in
    let v = c.args.live.now in
    let fs = v.found ++ c.args.findings.now in
    elim c.in-Committed-Committing-1.branch [
      | in-Committed+in-Committing-1 w ↦
          let told : c.args.outcome ≡ Committed = search rules in
          let stands : v.standing ≡ Committing = search rules in
          let same : decided_ack this_version s c.args.outcome t fs v
          ≡ on_ack this_version s t c.args.outcome fs v v.standing =
          ap (λ o. decided_ack this_version s o t fs v) told
          ∙ sym (ap (λ st. on_ack this_version s t Committed fs v st) stands)
          ∙ sym (ap (λ o. on_ack this_version s t o fs v v.standing) told) in
          subst (λ row. IfErr c.decided_ack.result (NotWritten c.args.seat.parent row.written)) same
          c.decided_ack.ensures.unwritten
      | in-Aborted+in-Aborting-1 w ↦
          let told : c.args.outcome ≡ Aborted = search rules in
          let stands : v.standing ≡ Aborting = search rules in
          let same : decided_ack this_version s c.args.outcome t fs v
          ≡ on_ack this_version s t c.args.outcome fs v v.standing =
          ap (λ o. decided_ack this_version s o t fs v) told
          ∙ sym (ap (λ st. on_ack this_version s t Aborted fs v st) stands)
          ∙ sym (ap (λ o. on_ack this_version s t o fs v v.standing) told) in
          subst (λ row. IfErr c.decided_ack.result (NotWritten c.args.seat.parent row.written)) same
          c.decided_ack.ensures.unwritten
    ]
