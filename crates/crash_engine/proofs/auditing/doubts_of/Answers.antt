use Rattle.std.proofs.Common.{rules, tests}
use Rattle.std.proofs.lemmas.Iterator.{YieldsList-from_map, YieldsList-from_slice, items_from_collect}
use Rattle.std.proofs.lemmas.Iterator.Consumers.{YieldsList-from_filter}
use Rattle.audit_tree.specs.declared.report.ReportLine.{ReportLine}
use Rattle.crash_engine.specs.Audits.{stands_in_doubt}
use Rattle.crash_engine.proofs.auditing.doubts_of.Goals as goal

pub returns : goal.returns
returns c =
    items_from_collect _ c.collect.ensures.ran
    (YieldsList-from_map _ (λ (l : ReportLine). l.case)
    (YieldsList-from_filter _ (λ (l : ReportLine). stands_in_doubt l.own)
    (YieldsList-from_slice c.args.lines.now cc)
    c.filter.ensures.closure (λ x r q k. search (rules, tests)))
    c.map.ensures.closure (λ x r q k. search (rules, tests)))
