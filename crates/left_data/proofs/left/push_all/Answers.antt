use Rattle.std.proofs.Common.{rules, ◌≡◌, ◌∙◌, ◌++◌, map, List, [], ◌∷◌, subst, sym}
use Rattle.std.proofs.lemmas.List.{nil_from_length}
use Rattle.protocol.specs.declared.records.LogRecord.{LogRecord}
use Rattle.left_data.specs.Texts.{data_lines}
use Rattle.left_data.proofs.Passing.{IsSoFar, ends, ends_early, goes_on}
use Rattle.left_data.proofs.left.push_all.Goals as goal

pub returns-in_default : goal.returns-in_default
returns-in_default c =
    let none : c.loop-records.rest.now ≡ [] = nil_from_length _ c.in_default.ensures.cases in
    ends_early c.loop-records.out.items _ _
    (subst (λ es. IsSoFar c.loop-records.out.items es
    (map (λ log. log.items) c.loop-records.records-iterator.rest.items)
    (c.args.out.now.items ++ data_lines c.args.entries.now (map (λ log. log.items) c.args.logs.items)))
    none c.loop-records.invariant)

pub loop-records-preserved : goal.loop-records-preserved
loop-records-preserved c =
    let next : c.loop-records.records-iterator.rest.items ≡ c.in-Some.records ∷ c.next.new.self.rest.items =
    search rules in
    let split : c.loop-records.rest.now ≡ c.in-Some-split_first.entry.now ∷ c.in-Some-split_first.more.now =
    search rules in
    goes_on c.loop-records.out.items c.push_process.new.out.items _ c.in-Some-split_first.entry.now
    c.in-Some-split_first.more.now c.in-Some.records.items _
    (subst (λ es. IsSoFar c.loop-records.out.items es
    (map (λ log. log.items) (c.in-Some.records ∷ c.next.new.self.rest.items))
    (c.args.out.now.items ++ data_lines c.args.entries.now (map (λ log. log.items) c.args.logs.items)))
    split
    (subst (λ vs. IsSoFar c.loop-records.out.items c.loop-records.rest.now (map (λ log. log.items) vs)
    (c.args.out.now.items ++ data_lines c.args.entries.now (map (λ log. log.items) c.args.logs.items)))
    next c.loop-records.invariant))
    c.in_ok-push_process.ensures

pub returns : goal.returns
returns c =
    let none : c.loop-records.records-iterator.rest.items ≡ [] =
    nil_from_length _ (sym c.loop-records.records-iterator.rest.ok.0 ∙ c.in-None.ensures.steps.0) in
    ends c.loop-records.out.items _ c.loop-records.rest.now
    (subst (λ vs. IsSoFar c.loop-records.out.items c.loop-records.rest.now (map (λ log. log.items) vs)
    (c.args.out.now.items ++ data_lines c.args.entries.now (map (λ log. log.items) c.args.logs.items)))
    none c.loop-records.invariant)
