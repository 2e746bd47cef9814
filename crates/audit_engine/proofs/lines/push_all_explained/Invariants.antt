use Rattle.std.proofs.Common.{◌≡◌, ◌++◌, drop}
use Rattle.std.specs.List.{flat_map}
use Rattle.protocol.specs.Audits.{KeptLogs}
use Rattle.audit_engine.specs.Chains.{AreNamings}
use Rattle.audit_engine.specs.Explanations.{explained_line}
use Rattle.audit_engine.proofs.lines.push_all_explained.Given as goal

abbrev pub invariant-loop-line : goal.invariant-loop-line
invariant-loop-line l = (logs : KeptLogs) → AreNamings l.tree logs l.namings.entries
    → l.out.items ++ flat_map (explained_line l.tree logs) (drop l.line-index l.lines)
    ≡ l.initial.out.items ++ flat_map (explained_line l.tree logs) l.lines
