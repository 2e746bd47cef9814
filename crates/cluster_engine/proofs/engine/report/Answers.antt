use Rattle.std.proofs.Common.{subst, sym}
use Rattle.tree_script.specs.Inputs.{IsScript}
use Rattle.tree_engine.proofs.TreeReports.{script_tree}
use Rattle.std.proofs.lemmas.Result.{IfErr-weaker}
use Rattle.cluster_engine.proofs.Reporting.{not_reported, reported}
use Rattle.cluster_engine.proofs.engine.report.Goals as goal

pub run_script-requires-clause-tree : goal.run_script-requires-clause-tree
run_script-requires-clause-tree g c =
    λ κs below. script_tree c.args.input.now c.in-Ok.tree c.in-Ok.events.items c.in-Ok.ensures.ok

pub returns-in-Ok-clause-report : goal.returns-in-Ok-clause-report
returns-in-Ok-clause-report g c =
    reported (λ r. r.0.items) c.args.output c.args.input.now c.in-Ok.tree c.deref.result.now
    c.run_script.result
    (subst (λ es. IsScript c.args.input.now c.in-Ok.tree es) (sym c.deref.ensures.value) c.in-Ok.ensures.ok)
    c.run_script.ensures.text

pub returns-in-Ok-clause-err : goal.returns-in-Ok-clause-err
returns-in-Ok-clause-err g c =
    IfErr-weaker c.run_script.result _ _
    (λ why. not_reported c.args.input.now c.in-Ok.tree c.deref.result.now why
    (subst (λ es. IsScript c.args.input.now c.in-Ok.tree es) (sym c.deref.ensures.value) c.in-Ok.ensures.ok))
    c.run_script.ensures.err
