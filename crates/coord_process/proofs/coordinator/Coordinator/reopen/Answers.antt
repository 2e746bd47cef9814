use Rattle.std.proofs.Common.{subst, sym}
use Rattle.coord_process.specs.Reopened.{CoordinatorNotReopened}
use Rattle.coord_process.specs.States.{CoordinatorValue, place_of}
use Rattle.coord_process.proofs.Kept.{none_given_yet}
use Rattle.coord_process.proofs.Restarted.{not_reopened}
use Rattle.coord_process.proofs.coordinator.Coordinator.reopen.Goals as goal

pub returns-in-Err-clause-err : goal.returns-in-Err-clause-err
returns-in-Err-clause-err g c =
    let v : CoordinatorValue = record {
      me = c.args.me;
      parent = c.args.parent;
      tree = c.args.tree;
      log = c.args.log;
      boot = 0;
      begun = 0;
      given = 0;
      slots = c.new.result;
    } in
    subst (CoordinatorNotReopened (place_of v) c.args.log.sight c.into_log.result.sight)
    (sym c.reopen_error.ensures)
    (not_reopened v c.restart.new.self c.size-keep.result c.in-Err.error c.into_log.result
    c.size-keep.ensures.keeps c.into_log.ensures c.in-Err.ensures.err)

pub invariant_of-coordinator : goal.invariant_of-coordinator
invariant_of-coordinator g c = (
  none_given_yet (record {
    me = c.args.me;
    parent = c.args.parent;
    tree = c.args.tree;
    log = c.args.log;
    boot = 0;
    begun = 0;
    given = 0;
    slots = c.new.result;
  }) c.requires c.new.ensures,
  tt,
)
