use Rattle.std.proofs.Common.{refl}
use Rattle.xa_words.specs.call
use Rattle.xa_words.specs.verb
use Rattle.resource_manager.specs.Sights.{ManagerSight}
use Rattle.sub_work.proofs.Ends.{breaks, commit_row, finishes, stays}
use Rattle.sub_work.proofs.deeds.commit.Goals as goal

pub returns-in-RmFail-clause-err : goal.returns-in-RmFail-clause-err
returns-in-RmFail-clause-err g c =
    let old : ManagerSight = g.M.ResourceManager.sight c.args.manager.now in
    let new : ManagerSight = g.M.ResourceManager.sight c.commit.new.self in
    breaks old new verb.Commit c.args.xid.now call.Commit _ c.requires.up
    c.requires.idle c.requires.named refl
    (commit_row old c.args.xid.now c.requires.state) c.in_ok-commit.field-0 c.in-RmFail.is
    c.in_ok-commit.ensures.answer

pub returns-in_default : goal.returns-in_default
returns-in_default g c =
    let old : ManagerSight = g.M.ResourceManager.sight c.args.manager.now in
    let new : ManagerSight = g.M.ResourceManager.sight c.commit.new.self in
    record {
      ok = (finishes old new verb.Commit c.args.xid.now call.Commit _ c.requires.up
          c.requires.idle c.requires.named refl
          (commit_row old c.args.xid.now c.requires.state) c.in_ok-commit.field-0 c.in_default.not-RmFail
          c.in_default.not-RmErr c.in_ok-commit.ensures.answer).1;
      err = tt;
    }

pub returns-in-RmErr-clause-err : goal.returns-in-RmErr-clause-err
returns-in-RmErr-clause-err g c =
    let old : ManagerSight = g.M.ResourceManager.sight c.args.manager.now in
    let new : ManagerSight = g.M.ResourceManager.sight c.commit.new.self in
    stays old new verb.Commit c.args.xid.now call.Commit _ c.requires.up c.requires.idle c.requires.named refl
    (commit_row old c.args.xid.now c.requires.state) c.in_ok-commit.field-0 c.in-RmErr.is
    c.in_ok-commit.ensures.answer
