use Rattle.std.proofs.Common.{◌∙◌, sym, subst}
use Rattle.coord_records.specs.Readings.{SummaryTable}
use Rattle.coord_cases.proofs.Restores.{IsRestoring, restoring_begins, restoring_goes_on, restoring_is_new}
use Rattle.coord_cases.proofs.restoring.restores.Goals as goal

pub loop-case-init : goal.loop-case-init
loop-case-init c =
    subst (λ (es : SummaryTable). IsRestoring c.args.me c.args.parent es
    c.into_iter-case-iterator.result c.new-cases.result c.new-messages.result) c.cases.ensures
    (subst (λ (es : SummaryTable). IsRestoring c.args.me c.args.parent
    c.cases.result.now.entries es c.new-cases.result c.new-messages.result)
    (sym (c.into_iter-case-iterator.ensures.into_iter_gives ∙ c.iter-case-items.ensures.rest))
    (restoring_begins c.args.me c.args.parent c.cases.result.now.entries
    c.new-cases.result c.new-messages.result
    c.iter-case-items.ensures.unique c.new-cases.ensures c.new-messages.ensures))

pub restore-requires : goal.restore-requires
restore-requires c = record {
  new =
      restoring_is_new c.args.me c.args.parent c.args.reading.now.table
      c.in-Some.case.now c.in-Some.recorded.now c.next.new.self c.loop-case.cases c.loop-case.messages
      (subst (λ rest. IsRestoring c.args.me c.args.parent c.args.reading.now.table rest
      c.loop-case.cases c.loop-case.messages)
      (c.in-Some.ensures {u = tt}).steps c.loop-case.invariant);
}

pub loop-case-preserved : goal.loop-case-preserved
loop-case-preserved c =
    restoring_goes_on c.args.me c.args.parent c.args.reading.now.table
    c.in-Some.case.now c.in-Some.recorded.now c.next.new.self
    c.loop-case.cases c.restore.new.cases c.loop-case.messages c.restore.new.messages
    (subst (λ rest. IsRestoring c.args.me c.args.parent c.args.reading.now.table rest
    c.loop-case.cases c.loop-case.messages)
    (c.in-Some.ensures {u = tt}).steps c.loop-case.invariant)
    (c.in_ok-restore.ensures {u = tt})
