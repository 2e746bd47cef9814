use Rattle.std.proofs.Common.{rules, ◌≡◌, ◌∙◌, [], ◌∷◌, ◌++◌, List, subst, sym}
use Rattle.std.proofs.lemmas.List.{nil_from_length}
use Rattle.protocol.specs.declared.records.LogRecord.{LogRecord}
use Rattle.kv_state.specs.Remembered.{ReadsNow}
use Rattle.kv_state.specs.Replays.{ReplayFails}
use Rattle.kv_state.proofs.Passes.{ReadsOn, history_on_ends, passed_on, reading_on_begins, reading_on_ends, reading_on_fails, reading_on_goes_on}
use Rattle.kv_state.proofs.replayed.read_on.Goals as goal

pub loop-record-init : goal.loop-record-init
loop-record-init c = reading_on_begins c.args.reading.seen c.args.reading.data c.args.records.items
    c.into_iter-record-iterator.result.rest.items
    c.into_iter-record-iterator.ensures.into_iter_gives.0 c.requires

pub loop-record-preserved : goal.loop-record-preserved
loop-record-preserved c =
    let next : c.loop-record.record-iterator.rest.items ≡ c.in-Some.record ∷ c.next.new.self.rest.items =
    search rules in
    let reading : ReadsOn c.args.reading.seen c.args.reading.data c.args.records.items
    (c.in-Some.record ∷ c.next.new.self.rest.items) c.loop-record.reading.seen c.loop-record.reading.data =
    subst (λ ks. ReadsOn c.args.reading.seen c.args.reading.data c.args.records.items ks
    c.loop-record.reading.seen c.loop-record.reading.data) next c.loop-record.invariant in
    reading_on_goes_on c.args.reading.seen c.args.reading.data c.args.records.items c.in-Some.record
    c.next.new.self.rest.items c.loop-record.reading.seen c.loop-record.reading.data reading
    c.take.new.self.seen c.take.new.self.data c.in_ok-take.ensures.may c.in_ok-take.ensures.takes
    c.in_ok-take.ensures.before c.in_ok-take.ensures.counted

pub returns-in_err-take-clause-err : goal.returns-in_err-take-clause-err
returns-in_err-take-clause-err c =
    let next : c.loop-record.record-iterator.rest.items ≡ c.in-Some.record ∷ c.next.new.self.rest.items =
    search rules in
    let reading : ReadsOn c.args.reading.seen c.args.reading.data c.args.records.items
    (c.in-Some.record ∷ c.next.new.self.rest.items) c.loop-record.reading.seen c.loop-record.reading.data =
    subst (λ ks. ReadsOn c.args.reading.seen c.args.reading.data c.args.records.items ks
    c.loop-record.reading.seen c.loop-record.reading.data) next c.loop-record.invariant in
    passed_on c.from_residual.result c.in_err-take.field-0.0
    (λ e. (ls : List LogRecord) → ReadsNow ls c.args.reading.seen c.args.reading.data
    → ReplayFails (ls ++ c.args.records.items) e) c.from_residual.ensures.1
    (reading_on_fails c.args.reading.seen c.args.reading.data c.args.records.items c.in-Some.record
    c.next.new.self.rest.items c.loop-record.reading.seen c.loop-record.reading.data reading
    c.in_err-take.field-0.0 c.in_err-take.ensures.err)

pub returns-clause-ok : goal.returns-clause-ok
returns-clause-ok c =
    let none : c.loop-record.record-iterator.rest.items ≡ [] =
    nil_from_length _ (sym c.loop-record.record-iterator.rest.ok.0 ∙ c.in-None.ensures.steps.0) in
    let over : ReadsOn c.args.reading.seen c.args.reading.data c.args.records.items []
    c.loop-record.reading.seen
    c.loop-record.reading.data =
    subst (λ ks. ReadsOn c.args.reading.seen c.args.reading.data c.args.records.items ks
    c.loop-record.reading.seen c.loop-record.reading.data) none c.loop-record.invariant in
    reading_on_ends c.args.reading.seen c.args.reading.data c.args.records.items c.loop-record.reading.seen
    c.loop-record.reading.data over

pub returns-clause-history : goal.returns-clause-history
returns-clause-history c =
    let none : c.loop-record.record-iterator.rest.items ≡ [] =
    nil_from_length _ (sym c.loop-record.record-iterator.rest.ok.0 ∙ c.in-None.ensures.steps.0) in
    let over : ReadsOn c.args.reading.seen c.args.reading.data c.args.records.items []
    c.loop-record.reading.seen
    c.loop-record.reading.data =
    subst (λ ks. ReadsOn c.args.reading.seen c.args.reading.data c.args.records.items ks
    c.loop-record.reading.seen c.loop-record.reading.data) none c.loop-record.invariant in
    history_on_ends c.args.reading.seen c.args.reading.data c.args.records.items c.loop-record.reading.seen
    c.loop-record.reading.data over
