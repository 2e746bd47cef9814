use Rattle.std.proofs.Common.{rules, is_some, ap, ◌≡◌, ◌∙◌, IfErr, true, refl, subst, sym}
use Rattle.protocol.specs.declared.events.Input.{Input}
use Rattle.protocol.specs.Records.{is_reported}
use Rattle.protocol.specs.CoordinatorRows.{unknown_forget}
use Rattle.protocol.specs.Standings.{CoordinatorView, unknown_view}
use Rattle.log_records.specs.Sights.{Breaks, LogSight}
use Rattle.process_state.specs.Turns.{kept_records}
use Rattle.coord_effects.specs.declared.seat.OwnCase.{OwnCase}
use Rattle.coord_effects.specs.Rows.{AreFramed, DoesRow, NotWritten, seat_meant}
use Rattle.coord_process.specs.declared.turn.Met.TheVariants.{Clears}
use Rattle.coord_process.specs.States.{CoordinatorValue, state}
use Rattle.coord_process.specs.Meets.{RetiresNone, meant}
use Rattle.coord_process.specs.Turned.{BreaksUnder, Stopped, Turned, WritesDown, framed_of}
use Rattle.coord_process.proofs.Made.{clear_breaks, clear_untaken, cleared_turn, seat_for}
use Rattle.coord_process.proofs.Restarted.{same_log}
use Rattle.coord_cases.proofs.Framed.{made_error}
use Rattle.coord_process.proofs.Fronts.{remembered_broken, remembered_written}
use Rattle.coord_process.proofs.Kept.{written_form}
use Rattle.coord_process.proofs.coordinator.Coordinator.clears.Goals as goal

pub write_down-requires-clause-framed : goal.write_down-requires-clause-framed
write_down-requires-clause-framed g c =
    subst (λ (s : OwnCase). AreFramed s.parent c.in_ok-effect.effect.written) c.seat.ensures
    (c.in_ok-effect.ensures.ok unknown_view).framed

pub returns-in-Err-clause-err : goal.returns-in-Err-clause-err
returns-in-Err-clause-err g c =
    let v : CoordinatorValue = record {
      me = c.self.inside.me;
      parent = c.self.inside.parent;
      tree = c.self.inside.tree;
      log = c.self.inside.log;
      boot = c.self.inside.boot;
      begun = c.self.inside.begun;
      given = c.self.inside.given;
      slots = c.self.inside.cases;
    } in
    let does : (view : CoordinatorView) → DoesRow (seat_for v c.args.case)
    (unknown_forget (seat_meant (seat_for v c.args.case)) view) c.in_ok-effect.effect view =
    subst (λ (s : OwnCase). (view : CoordinatorView) → DoesRow s (unknown_forget (seat_meant s) view)
    c.in_ok-effect.effect view) c.seat.ensures c.in_ok-effect.ensures.ok in
    let told : is_reported (kept_records (state c.args.self.now)) c.args.case ≡ true = search rules in
    let reported : is_reported (kept_records (state v)) c.args.case ≡ true =
    subst (λ (w : CoordinatorValue). is_reported (kept_records (state w)) c.args.case ≡ true)
    (sym c.self.view_is) told in
    let some : is_some c.in_ok-effect.effect.written ≡ true = search rules in
    let breaks : Breaks c.make_room.new.log c.write_down.new.log
    (framed_of c.in_ok-effect.effect.written) = search rules in
    subst (λ (w : CoordinatorValue). BreaksUnder (state w) (state (record v { log = c.write_down.new.log }))
    (meant w (Clears c.args.case))) c.self.view_is
    (clear_breaks v c.write_down.new.log c.args.case c.in_ok-effect.effect c.make_room.new.log
    c.make_room.ensures.stays does reported some breaks)

pub returns-clause-ok : goal.returns-clause-ok
returns-clause-ok g c =
    let v : CoordinatorValue = record {
      me = c.self.inside.me;
      parent = c.self.inside.parent;
      tree = c.self.inside.tree;
      log = c.self.inside.log;
      boot = c.self.inside.boot;
      begun = c.self.inside.begun;
      given = c.self.inside.given;
      slots = c.self.inside.cases;
    } in
    let does : (view : CoordinatorView) → DoesRow (seat_for v c.args.case)
    (unknown_forget (seat_meant (seat_for v c.args.case)) view) c.in_ok-effect.effect view =
    subst (λ (s : OwnCase). (view : CoordinatorView) → DoesRow s (unknown_forget (seat_meant s) view)
    c.in_ok-effect.effect view) c.seat.ensures c.in_ok-effect.ensures.ok in
    let told : is_reported (kept_records (state c.args.self.now)) c.args.case ≡ true = search rules in
    let reported : is_reported (kept_records (state v)) c.args.case ≡ true =
    subst (λ (w : CoordinatorValue). is_reported (kept_records (state w)) c.args.case ≡ true)
    (sym c.self.view_is) told in
    let writes : WritesDown c.make_room.new.log c.write_down.new.log
    c.in_ok-effect.effect.written = search rules in
    subst (λ (w : CoordinatorValue). (i : Input) → RetiresNone i
    → Turned (state w) (state (record v { log = c.write_down.new.log })) i
    (meant w (Clears c.args.case)) c.reaction.result) c.self.view_is
    (subst (λ reaction. (i : Input) → RetiresNone i
    → Turned (state v) (state (record v { log = c.write_down.new.log })) i
    (meant v (Clears c.args.case)) reaction) (sym c.reaction.ensures)
    (cleared_turn v c.write_down.new.log c.args.case c.in_ok-effect.effect c.make_room.new.log
    c.make_room.ensures.stays does reported writes))

pub invariant_of-self-in-Err : goal.invariant_of-self-in-Err
invariant_of-self-in-Err g c =
    let v : CoordinatorValue = record {
      me = c.self.inside.me;
      parent = c.self.inside.parent;
      tree = c.self.inside.tree;
      log = c.self.inside.log;
      boot = c.self.inside.boot;
      begun = c.self.inside.begun;
      given = c.self.inside.given;
      slots = c.self.inside.cases;
    } in
    let breaks : Breaks c.make_room.new.log c.write_down.new.log
    (framed_of c.in_ok-effect.effect.written) = search rules in (
      record {
        form = breaks.form ∙ ap (λ (s : LogSight). s.form) c.make_room.ensures.stays
            ∙ c.self.invariant.0.form;
        active = c.self.invariant.0.active;
        known = c.self.invariant.0.known;
        given = c.self.invariant.0.given;
      },
      remembered_broken v (record v { log = c.write_down.new.log }) c.self.inside.front c.make_room.new.log
          (framed_of c.in_ok-effect.effect.written) refl c.make_room.ensures.stays breaks c.self.invariant.1,
    )

pub invariant_of-self-3 : goal.invariant_of-self-3
invariant_of-self-3 g c =
    let v : CoordinatorValue = record {
      me = c.self.inside.me;
      parent = c.self.inside.parent;
      tree = c.self.inside.tree;
      log = c.self.inside.log;
      boot = c.self.inside.boot;
      begun = c.self.inside.begun;
      given = c.self.inside.given;
      slots = c.self.inside.cases;
    } in
    let writes : WritesDown c.make_room.new.log c.write_down.new.log
    c.in_ok-effect.effect.written = search rules in (
      record {
        form = written_form c.make_room.new.log c.write_down.new.log c.in_ok-effect.effect.written writes
            ∙ ap (λ (s : LogSight). s.form) c.make_room.ensures.stays ∙ c.self.invariant.0.form;
        active = c.self.invariant.0.active;
        known = c.self.invariant.0.known;
        given = c.self.invariant.0.given;
      },
      remembered_written v (record v { log = c.write_down.new.log }) c.self.inside.front c.make_room.new.log
          c.in_ok-effect.effect.written refl c.make_room.ensures.stays writes c.self.invariant.1,
    )

pub returns-in_err-effect-clause-err : goal.returns-in_err-effect-clause-err
returns-in_err-effect-clause-err g c =
    let v : CoordinatorValue = record {
      me = c.self.inside.me;
      parent = c.self.inside.parent;
      tree = c.self.inside.tree;
      log = c.self.inside.log;
      boot = c.self.inside.boot;
      begun = c.self.inside.begun;
      given = c.self.inside.given;
      slots = c.self.inside.cases;
    } in
    let new : CoordinatorValue = record v { log = c.make_room.new.log } in
    let told : is_reported (kept_records (state c.args.self.now)) c.args.case ≡ true = search rules in
    let reported : is_reported (kept_records (state v)) c.args.case ≡ true =
    subst (λ (w : CoordinatorValue). is_reported (kept_records (state w)) c.args.case ≡ true)
    (sym c.self.view_is) told in
    let unwritten : (view : CoordinatorView) → NotWritten v.parent
    (unknown_forget (seat_meant (seat_for v c.args.case)) view).written c.in_err-effect.field-0.0 =
    subst (λ (s : OwnCase). (view : CoordinatorView) → NotWritten s.parent
    (unknown_forget (seat_meant s) view).written
    c.in_err-effect.field-0.0) c.seat.ensures c.in_err-effect.ensures.unwritten in
    subst (λ (w : CoordinatorValue). IfErr c.from_residual-in_err-effect.result
    (Stopped (state w) (state new) (meant w (Clears c.args.case)))) c.self.view_is
    (made_error (Stopped (state v) (state new) (meant v (Clears c.args.case)))
    c.in_err-effect.field-0.0 c.from_residual-in_err-effect.result c.from_residual-in_err-effect.ensures.1
    (clear_untaken v (state new) c.args.case c.in_err-effect.field-0.0
    (same_log v c.make_room.new.log c.make_room.ensures.stays) reported unwritten))
