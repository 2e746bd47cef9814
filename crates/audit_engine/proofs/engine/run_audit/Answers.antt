use Rattle.std.proofs.Common.{subst}
use Rattle.std.specs.Io.KnownBytes.{Appends}
use Rattle.audit_engine.specs.Audits.{IsAuditReport}
use Rattle.audit_engine.proofs.TrueReports.{true_report}
use Rattle.audit_engine.proofs.engine.run_audit.Goals as goal

pub returns-in-Ok-clause-true_of_runs : goal.returns-in-Ok-clause-true_of_runs
returns-in-Ok-clause-true_of_runs g c = (
  c.in_ok-input.input.items,
  c.in_ok-text.text.items,
  c.in_ok-input.ensures.all,
  true_report c.args.detail c.in_ok-text.ending c.in_ok-input.input.items c.in_ok-text.text.items
      (subst (λ i. IsAuditReport c.args.detail c.in_ok-text.ending i
      c.in_ok-text.text.items) c.deref.ensures.value
      c.in_ok-text.ensures),
  subst (Appends (g.W.Write.contents c.args.writer.now) (g.W.Write.contents c.write_all.new.writer))
      c.deref-2.ensures.value c.in-Ok.ensures.ok,
)
