use Rattle.std.proofs.Common.{rules, is_some, true, ◌≡◌, ap, IfErr, refl, subst, sym, ◌∙◌}
use Rattle.protocol.specs.declared.events.Input.{Input}
use Rattle.log_records.specs.Sights.{Breaks, LogSight}
use Rattle.process_state.specs.States.{SameCore}
use Rattle.process_state.specs.Turns.{Takes}
use Rattle.coord_effects.specs.declared.seat.OwnCase.{OwnCase}
use Rattle.coord_effects.specs.Rows.{seat_meant}
use Rattle.coord_rows.specs.Asks.{RowNotTaken, asked_row, is_retiring}
use Rattle.coord_cases.specs.Cases.{view_in}
use Rattle.coord_cases.specs.Takes.{TakesRowOf}
use Rattle.coord_cases.proofs.Framed.{made_error}
use Rattle.coord_process.specs.States.{CoordinatorValue, state}
use Rattle.coord_process.specs.Meets.{RetiresAs, met}
use Rattle.coord_process.specs.Turned.{BreaksUnder, Stopped, Turned, WritesDown, framed_of}
use Rattle.coord_process.proofs.Made.{row_breaks, row_turn, row_untaken, same_cases, seat_for}
use Rattle.coord_process.proofs.Fronts.{remembered_broken, remembered_written}
use Rattle.coord_process.proofs.Kept.{active_before, written_form}
use Rattle.coord_process.proofs.coordinator.Coordinator.takes.Goals as goal

pub returns-in-Err-clause-err : goal.returns-in-Err-clause-err
returns-in-Err-clause-err g c =
    let v : CoordinatorValue = record {
      me = c.self.inside.me;
      parent = c.self.inside.parent;
      tree = c.self.inside.tree;
      log = c.self.inside.log;
      boot = c.self.inside.boot;
      begun = c.self.inside.begun;
      given = c.self.inside.given;
      slots = c.self.inside.cases;
    } in
    let takes : TakesRowOf v.slots c.take.new.cases (seat_for v c.args.case)
    c.args.asked c.in_ok-effect.effect =
    subst (λ s. TakesRowOf v.slots c.take.new.cases s c.args.asked c.in_ok-effect.effect)
    c.seat-seat.ensures c.in_ok-effect.ensures.ok in
    let some : is_some c.in_ok-effect.effect.written ≡ true = search rules in
    let breaks : Breaks c.make_room.new.log c.write_down.new.log
    (framed_of c.in_ok-effect.effect.written) = search rules in
    subst (λ (w : CoordinatorValue). BreaksUnder (state w) (state (record v {
      log = c.write_down.new.log;
      slots = c.take.new.cases;
    })) (Takes c.args.case (met w c.args.case c.args.asked))) c.self.view_is
    (row_breaks v c.write_down.new.log c.take.new.cases c.args.case
    c.args.asked c.in_ok-effect.effect c.make_room.new.log
    c.make_room.ensures.stays takes some breaks)

pub returns-clause-ok : goal.returns-clause-ok
returns-clause-ok g c =
    let v : CoordinatorValue = record {
      me = c.self.inside.me;
      parent = c.self.inside.parent;
      tree = c.self.inside.tree;
      log = c.self.inside.log;
      boot = c.self.inside.boot;
      begun = c.self.inside.begun;
      given = c.self.inside.given;
      slots = c.self.inside.cases;
    } in
    let takes : TakesRowOf v.slots c.take.new.cases (seat_for v c.args.case)
    c.args.asked c.in_ok-effect.effect =
    subst (λ s. TakesRowOf v.slots c.take.new.cases s c.args.asked c.in_ok-effect.effect)
    c.seat-seat.ensures c.in_ok-effect.ensures.ok in
    let writes : WritesDown c.make_room.new.log c.write_down.new.log
    c.in_ok-effect.effect.written = search rules in
    subst (λ (w : CoordinatorValue). (i : Input) → RetiresAs i c.args.asked c.args.case
    → Turned (state w) (state (record v { log = c.write_down.new.log; slots = c.take.new.cases })) i
    (Takes c.args.case (met w c.args.case c.args.asked)) c.reaction.result) c.self.view_is
    (subst (λ reaction. (i : Input) → RetiresAs i c.args.asked c.args.case
    → Turned (state v) (state (record v { log = c.write_down.new.log; slots = c.take.new.cases })) i
    (Takes c.args.case (met v c.args.case c.args.asked)) reaction) (sym c.reaction.ensures)
    (row_turn v c.write_down.new.log c.take.new.cases c.args.case c.args.asked c.in_ok-effect.effect
    c.make_room.new.log c.make_room.ensures.stays takes writes))

pub invariant_of-self-in-Err : goal.invariant_of-self-in-Err
invariant_of-self-in-Err g c =
    let v : CoordinatorValue = record {
      me = c.self.inside.me;
      parent = c.self.inside.parent;
      tree = c.self.inside.tree;
      log = c.self.inside.log;
      boot = c.self.inside.boot;
      begun = c.self.inside.begun;
      given = c.self.inside.given;
      slots = c.self.inside.cases;
    } in
    let takes : TakesRowOf v.slots c.take.new.cases (seat_for v c.args.case)
    c.args.asked c.in_ok-effect.effect =
    subst (λ s. TakesRowOf v.slots c.take.new.cases s c.args.asked c.in_ok-effect.effect)
    c.seat-seat.ensures c.in_ok-effect.ensures.ok in
    let breaks : Breaks c.make_room.new.log c.write_down.new.log
    (framed_of c.in_ok-effect.effect.written) = search rules in (
      record {
        form = breaks.form ∙ ap (λ (s : LogSight). s.form) c.make_room.ensures.stays
            ∙ c.self.invariant.0.form;
        active = takes.given;
        known = takes.known c.self.invariant.0.known;
        given = λ d n is. c.self.invariant.0.given d n
            (active_before v.slots c.take.new.cases (is_retiring c.args.asked) c.args.case d _
            (takes.tickets d) is);
      },
      remembered_broken v (record v { log = c.write_down.new.log; slots = c.take.new.cases })
          c.self.inside.front
          c.make_room.new.log (framed_of c.in_ok-effect.effect.written) refl c.make_room.ensures.stays breaks
          c.self.invariant.1,
    )

pub invariant_of-self-3 : goal.invariant_of-self-3
invariant_of-self-3 g c =
    let v : CoordinatorValue = record {
      me = c.self.inside.me;
      parent = c.self.inside.parent;
      tree = c.self.inside.tree;
      log = c.self.inside.log;
      boot = c.self.inside.boot;
      begun = c.self.inside.begun;
      given = c.self.inside.given;
      slots = c.self.inside.cases;
    } in
    let takes : TakesRowOf v.slots c.take.new.cases (seat_for v c.args.case)
    c.args.asked c.in_ok-effect.effect =
    subst (λ s. TakesRowOf v.slots c.take.new.cases s c.args.asked c.in_ok-effect.effect)
    c.seat-seat.ensures c.in_ok-effect.ensures.ok in
    let writes : WritesDown c.make_room.new.log c.write_down.new.log
    c.in_ok-effect.effect.written = search rules in (
      record {
        form = written_form c.make_room.new.log c.write_down.new.log c.in_ok-effect.effect.written writes
            ∙ ap (λ (s : LogSight). s.form) c.make_room.ensures.stays ∙ c.self.invariant.0.form;
        active = takes.given;
        known = takes.known c.self.invariant.0.known;
        given = λ d n is. c.self.invariant.0.given d n
            (active_before v.slots c.take.new.cases (is_retiring c.args.asked) c.args.case d _
            (takes.tickets d) is);
      },
      remembered_written v (record v { log = c.write_down.new.log; slots = c.take.new.cases })
          c.self.inside.front
          c.make_room.new.log c.in_ok-effect.effect.written refl c.make_room.ensures.stays writes
          c.self.invariant.1,
    )

pub returns-in_err-effect-clause-err : goal.returns-in_err-effect-clause-err
returns-in_err-effect-clause-err g c =
    let v : CoordinatorValue = record {
      me = c.self.inside.me;
      parent = c.self.inside.parent;
      tree = c.self.inside.tree;
      log = c.self.inside.log;
      boot = c.self.inside.boot;
      begun = c.self.inside.begun;
      given = c.self.inside.given;
      slots = c.self.inside.cases;
    } in
    let new : CoordinatorValue = record v { log = c.make_room.new.log; slots = c.take.new.cases } in
    let same : SameCore (state v) (state new) =
    same_cases v c.make_room.new.log c.take.new.cases c.make_room.ensures.stays c.in_err-effect.ensures.err in
    let untaken : RowNotTaken (seat_for v c.args.case)
    (asked_row (seat_meant (seat_for v c.args.case)) c.args.asked
    (view_in v.slots c.args.case)) c.in_err-effect.field-0.0 =
    subst (λ (s : OwnCase). RowNotTaken s (asked_row (seat_meant s) c.args.asked (view_in v.slots s.case))
    c.in_err-effect.field-0.0)
    c.seat-seat.ensures c.in_err-effect.ensures.untaken in
    subst (λ (w : CoordinatorValue). IfErr c.from_residual-in_err-effect.result
    (Stopped (state w) (state new) (Takes c.args.case (met w c.args.case c.args.asked)))) c.self.view_is
    (made_error (Stopped (state v) (state new) (Takes c.args.case (met v c.args.case c.args.asked)))
    c.in_err-effect.field-0.0 c.from_residual-in_err-effect.result c.from_residual-in_err-effect.ensures.1
    (row_untaken v (state new) c.args.case c.args.asked c.in_err-effect.field-0.0 same untaken))
