use Rattle.std.proofs.Common.{subst, sym}
use Rattle.case_table.specs.Known.{KnowsCases}
use Rattle.coord_process.specs.States.{CoordinatorValue, state}
use Rattle.coord_process.proofs.Kept.{known_counted}
use Rattle.coord_process.proofs.coordinator.Coordinator.live.Goals as goal

pub returns-clause-known : goal.returns-clause-known
returns-clause-known g c =
    let v : CoordinatorValue = record {
      me = c.self.inside.me;
      parent = c.self.inside.parent;
      tree = c.self.inside.tree;
      log = c.self.inside.log;
      boot = c.self.inside.boot;
      begun = c.self.inside.begun;
      given = c.self.inside.given;
      slots = c.self.inside.cases;
    } in
    subst (λ (w : CoordinatorValue). KnowsCases (λ d. ((state w).view_of d).standing) c.len.result)
    c.self.view_is
    (subst (λ n. KnowsCases (λ d. ((state v).view_of d).standing) n) (sym c.len.ensures.count)
    (known_counted v.slots c.self.invariant.0.known c.len.ensures.apart))
