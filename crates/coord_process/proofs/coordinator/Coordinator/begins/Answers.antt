use Rattle.std.proofs.Common.{◌+◌, subst}
use Rattle.protocol.specs.declared.events.Input.{Input}
use Rattle.coord_process.specs.declared.turn.Met.TheVariants.{Begins}
use Rattle.coord_process.specs.States.{CoordinatorValue, state}
use Rattle.coord_process.specs.Meets.{RetiresNone, meant}
use Rattle.coord_process.specs.Turned.{Turned}
use Rattle.coord_process.proofs.Made.{begun_turn}
use Rattle.coord_process.proofs.coordinator.Coordinator.begins.Goals as goal

pub returns-clause-ok : goal.returns-clause-ok
returns-clause-ok g c =
    let v : CoordinatorValue = record {
      me = c.self.inside.me;
      parent = c.self.inside.parent;
      tree = c.self.inside.tree;
      log = c.self.inside.log;
      boot = c.self.inside.boot;
      begun = c.self.inside.begun;
      given = c.self.inside.given;
      slots = c.self.inside.cases;
    } in
    subst (λ (w : CoordinatorValue). (i : Input) → RetiresNone i
    → Turned (state w) (state (record v { begun = v.begun + 1; slots = c.begin.new.self })) i
    (meant w (Begins c.args.presumption)) c.began.result) c.self.view_is
    (begun_turn v c.begin.new.self c.args.presumption c.began.result c.in_ok-begin.ensures.ok c.began.ensures)
