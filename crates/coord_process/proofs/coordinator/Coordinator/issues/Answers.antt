use Rattle.std.proofs.Common.{◌+◌, refl, subst}
use Rattle.protocol.specs.declared.events.Input.{Input}
use Rattle.coord_process.specs.declared.turn.Met.TheVariants.{Issues}
use Rattle.coord_process.specs.States.{CoordinatorValue, own_ticket, state}
use Rattle.coord_process.specs.Meets.{meant}
use Rattle.coord_process.specs.Turned.{Turned}
use Rattle.coord_process.proofs.Fronts.{remembered_still}
use Rattle.coord_process.proofs.Kept.{fresh_ticket, given_active, given_after, given_known}
use Rattle.coord_process.proofs.Made.{issued_turn}
use Rattle.coord_process.proofs.coordinator.Coordinator.issues.Goals as goal

pub give-requires-clause-fresh : goal.give-requires-clause-fresh
give-requires-clause-fresh g c =
    let v : CoordinatorValue = record {
      me = c.self.inside.me;
      parent = c.self.inside.parent;
      tree = c.self.inside.tree;
      log = c.self.inside.log;
      boot = c.self.inside.boot;
      begun = c.self.inside.begun;
      given = c.self.inside.given;
      slots = c.self.inside.cases;
    } in
    fresh_ticket v c.self.invariant.0

pub returns-clause-ok : goal.returns-clause-ok
returns-clause-ok g c =
    let v : CoordinatorValue = record {
      me = c.self.inside.me;
      parent = c.self.inside.parent;
      tree = c.self.inside.tree;
      log = c.self.inside.log;
      boot = c.self.inside.boot;
      begun = c.self.inside.begun;
      given = c.self.inside.given;
      slots = c.self.inside.cases;
    } in
    subst (λ (w : CoordinatorValue). (i : Input)
    → Turned (state w) (state (record v { given = v.given + 1; slots = c.give.new.self })) i
    (meant w (Issues c.args.parent c.args.case)) c.in_ok-reaction.reaction) c.self.view_is
    (issued_turn v c.give.new.self c.args.parent c.args.case c.in_ok-reaction.reaction
    c.in_ok-give.ensures.ok c.in_ok-reaction.ensures)

pub invariant_of-self-2 : goal.invariant_of-self-2
invariant_of-self-2 g c =
    let v : CoordinatorValue = record {
      me = c.self.inside.me;
      parent = c.self.inside.parent;
      tree = c.self.inside.tree;
      log = c.self.inside.log;
      boot = c.self.inside.boot;
      begun = c.self.inside.begun;
      given = c.self.inside.given;
      slots = c.self.inside.cases;
    } in
    let gives = c.in_ok-give.ensures.ok in (
      record {
        form = c.self.invariant.0.form;
        active = given_active v.slots c.give.new.self c.args.case (own_ticket v (v.given + 1))
            c.self.invariant.0.active
            gives;
        known = given_known v.slots c.give.new.self c.args.case (own_ticket v (v.given + 1))
            c.self.invariant.0.known gives;
        given = given_after v c.give.new.self c.args.case c.self.invariant.0 gives.ticket gives.tickets;
      },
      remembered_still v (record v { given = v.given + 1; slots = c.give.new.self })
          c.self.inside.front refl refl
          c.self.invariant.1,
    )
