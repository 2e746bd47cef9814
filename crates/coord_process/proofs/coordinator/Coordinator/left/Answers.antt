use Rattle.std.proofs.Common.{◌++◌, Some, subst, sym}
use Rattle.protocol.specs.LogNames.{own_records}
use Rattle.log_records.specs.Sights.{left_by}
use Rattle.coord_records.specs.Remembered.{RemembersCases}
use Rattle.coord_cases.proofs.OwnCases.{own_append}
use Rattle.coord_process.specs.Fronts.{IsRemembered}
use Rattle.coord_process.specs.States.{CoordinatorValue, place_of}
use Rattle.coord_process.proofs.Fronts.{read_on}
use Rattle.coord_process.proofs.coordinator.Coordinator.left.Goals as goal

pub returns-then-branch : goal.returns-then-branch
returns-then-branch g c =
    let v : CoordinatorValue = record {
      me = c.self.inside.me;
      parent = c.self.inside.parent;
      tree = c.self.inside.tree;
      log = c.self.inside.log;
      boot = c.self.inside.boot;
      begun = c.self.inside.begun;
      given = c.self.inside.given;
      slots = c.self.inside.cases;
    } in
    let is : IsRemembered v (Some c.in-Some.front) =
    subst (λ (w : CoordinatorValue). IsRemembered w (Some c.in-Some.front)) (sym c.self.view_is)
    (subst (IsRemembered c.args.self.now) c.in-Some.is c.requires) in
    subst (λ (w : CoordinatorValue). RemembersCases
    (own_records (place_of w) (left_by w.log.sight c.args.keep))
    c.read_on.new.self) c.self.view_is
    (read_on v c.in-Some.front c.in_ok-records.records.items (left_by v.log.sight c.args.keep)
    c.read_on.new.self is
    (c.in_ok-records.ensures {u = tt}) (λ front. own_append v.me v.parent v.tree front
    c.in_ok-records.records.items)
    (λ front k. subst (λ ls. RemembersCases (own_records (place_of v) front ++ own_records (place_of v) ls)
    c.read_on.new.self) c.deref.ensures.value
    (c.in_ok-read_on.ensures {u = tt} c.if-branch.true (own_records (place_of v) front) k)))
