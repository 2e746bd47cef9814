use Rattle.std.proofs.Common.{◌≡◌, ◌++◌, drop}
use Rattle.audit_engine.specs.logs.Reports.{shown_text}
use Rattle.log_script.specs.Faults.{first_damage}
use Rattle.audit_engine.proofs.logs.engine.shown.Given as goal

abbrev pub invariant-loop-entry : goal.invariant-loop-entry
invariant-loop-entry l =
    (l.out.items ++ shown_text (drop l.entry-index l.entries) l.logs ≡ shown_text l.entries l.logs)
    × (first_damage (drop l.entry-index l.entries) l.logs ≡ first_damage l.entries l.logs)
