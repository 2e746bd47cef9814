use Rattle.std.proofs.Common.{[], inl}
use Rattle.tree_world.specs.Worlds.{state}
use Rattle.crash_engine.proofs.Trying.{begun}
use Rattle.crash_engine.proofs.Failing.{handed_on, run_breaks}
use Rattle.crash_engine.proofs.trials.try_run.Goals as goal

pub try_here-requires : goal.try_here-requires
try_here-requires c =
    let first = c.args.run.now in (
      first,
      c.requires,
      c.in_ok-make_all.ensures.goes_on (state first.world) []
          (begun c.args.origin.now first c.requires),
    )

pub returns-in_err-make_all-clause-err : goal.returns-in_err-make_all-clause-err
returns-in_err-make_all-clause-err c =
    let first = c.args.run.now in
    let why = c.in_err-make_all.field-0.0 in
    handed_on _ c.from_residual.result why c.from_residual.ensures.1 c.in_err-make_all.ensures.err
    (λ cannot. inl (run_breaks c.args.origin.now c.args.events.now first why c.requires
    (cannot (state first.world) [] (begun c.args.origin.now first c.requires))))
