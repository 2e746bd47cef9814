use Rattle.std.proofs.Common.{subst, sym}
use Rattle.audit_tree.specs.Reports.{kept_lists}
use Rattle.audit_tree.specs.Truths.{AreTrueOfRuns}
use Rattle.audit_tree.proofs.Truths.{true_of_runs}
use Rattle.audit_tree.proofs.auditing.audit.Goals as goal

pub returns-clause-ok : goal.returns-clause-ok
returns-clause-ok c = record {
  sound = c.in_ok-notes.ensures.sound;
  lines = c.in_ok-audit_notes.ensures.lines (kept_lists c.args.tree.now
      c.args.logs.now) c.in_ok-notes.ensures.ok;
  mismatches = c.in_ok-audit_notes.ensures.mismatches;
}

pub returns-clause-true_of_runs : goal.returns-clause-true_of_runs
returns-clause-true_of_runs c =
    subst (AreTrueOfRuns c.args.tree.now c.args.logs.now) (sym (returns-clause-ok c).lines)
    (true_of_runs c.args.tree.now c.requires c.args.logs.now)
