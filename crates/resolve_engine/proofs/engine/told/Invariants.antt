use Rattle.std.proofs.Common.{filter, map, take, option_map}
use Rattle.protocol.specs.Audits.{KeptLogs}
use Rattle.resolve_engine.specs.Finders.{Finds}
use Rattle.resolve_engine.specs.Reports.{Gives, is_name}
use Rattle.resolve_engine.proofs.engine.told.Given as goal

abbrev pub invariant-loop-name : goal.invariant-loop-name
invariant-loop-name l = (kept : KeptLogs) → Finds kept l.finder
    → Gives l.asked.form l.asked.trust (option_map (λ s. s.now) l.asked.name) l.tree l.finder.logs.now kept
    (filter is_name (take l.name-index (map (λ s. s.now) l.name-items))) l.waiting l.out.items
