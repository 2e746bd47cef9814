use Rattle.std.proofs.Common.{◌∙◌, ◌-◌, ◌+◌, sym, ap, subst, arith, Some}
use Rattle.std.proofs.lemmas.Result.{err_from_is_err_and}
use Rattle.log_text.specs.Parts.{write_at}
use Rattle.log_text.proofs.Lists.{Goes, begins_with, goes_on, stops_all, ends_all, trails_all}
use Rattle.log_text.proofs.parts.writes_in.Goals as goal

pub loop-init : goal.loop-init
loop-init c = begins_with write_at c.args.count
    (c.args.count - 0) c.args.bytes.now _ c.new-writes.ensures.items (omega arith)

pub loop-preserved : goal.loop-preserved
loop-preserved c =
    let a = c.in_ok-write in
    subst (λ xs. Goes write_at c.args.count c.args.bytes.now xs
    (c.args.count - (c.loop.counter + 1)) a.behind.now) (sym c.in_ok-push.ensures.items)
    (goes_on write_at c.args.count (c.args.count - c.loop.counter)
    (c.args.count - (c.loop.counter + 1)) c.args.bytes.now c.loop.rest.now a.behind.now
    c.loop.writes.items a.write
    (omega arith) c.loop.invariant (c.in_ok-write.ensures.ok))

pub returns-then-is_empty-clause-ok : goal.returns-then-is_empty-clause-ok
returns-then-is_empty-clause-ok c =
    ends_all write_at c.args.count (c.args.count - c.loop.counter) c.args.bytes.now c.loop.rest.now
    c.loop.writes.items (omega arith)
    (sym c.is_empty.ensures ∙ c.if-is_empty.true) c.loop.invariant ∙ ap Some (sym c.from_vec.ensures)

pub returns-else-is_empty-clause-err : goal.returns-else-is_empty-clause-err
returns-else-is_empty-clause-err c =
    λ _. trails_all write_at c.args.count (c.args.count - c.loop.counter) c.args.bytes.now c.loop.rest.now
    c.loop.writes.items (omega arith)
    (sym c.is_empty.ensures ∙ c.if-is_empty.false) c.loop.invariant

pub returns-in_err-write-clause-err : goal.returns-in_err-write-clause-err
returns-in_err-write-clause-err c =
    let p = err_from_is_err_and c.from_residual.result c.from_residual.ensures.1 in
    rw (p.1, p.2) (λ m. stops_all write_at c.args.count (c.args.count - c.loop.counter)
    (c.args.count - (c.loop.counter + 1)) c.args.bytes.now c.loop.rest.now c.loop.writes.items
    (omega arith)
    c.loop.invariant (c.in_err-write.ensures.err m))
