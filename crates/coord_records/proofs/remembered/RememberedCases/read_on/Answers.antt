use Rattle.std.proofs.Common.{rules, subst}
use Rattle.coord_records.specs.Readings.{place_below}
use Rattle.coord_records.proofs.Remembering.{ReadsOn, first_and_rest, none_left, reading_begins, reading_ends, reading_goes_on}
use Rattle.coord_records.proofs.remembered.RememberedCases.read_on.Goals as goal

pub loop-rest-init : goal.loop-rest-init
loop-rest-init c = reading_begins _ _ _

pub loop-rest-preserved : goal.loop-rest-preserved
loop-rest-preserved c = reading_goes_on (place_below c.args.me c.args.parent c.args.tree.now) c.args.self.now
    c.loop-rest.self c.take.new.self c.args.records.now _ c.record-item.result
    (subst (λ ls. ReadsOn (place_below c.args.me c.args.parent c.args.tree.now) c.args.self.now
    c.loop-rest.self
    c.args.records.now ls)
    (first_and_rest c.loop-rest.rest.now c.record-item.result (search rules) (search rules))
    c.loop-rest.invariant)
    (c.in_ok-take.ensures {u = tt} (search rules))

pub returns : goal.returns
returns c = λ yes. reading_ends (place_below c.args.me c.args.parent c.args.tree.now) c.args.self.now
    c.loop-rest.self
    c.args.records.now
    (subst (λ ls. ReadsOn (place_below c.args.me c.args.parent c.args.tree.now) c.args.self.now
    c.loop-rest.self
    c.args.records.now ls) (none_left c.loop-rest.rest.now c.in_default.len_below) c.loop-rest.invariant)
