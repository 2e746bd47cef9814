use Rattle.std.proofs.Common.{arith}
use Rattle.std.proofs.lemmas.Result.{err_from_is_err_and}
use Rattle.picture_layout.proofs.Longs.{most_from}
use Rattle.picture_layout.proofs.rows.Steps.next.Goals as goal

pub returns-in_err-height_of-clause-err : goal.returns-in_err-height_of-clause-err
returns-in_err-height_of-clause-err c =
    let at = c.in-Some.ensures.lookup in
    let most = most_from c.args.self.now.entries.now c.args.self.now.made c.in-Some.entry.now at.3.0 at.1 in
    let same = err_from_is_err_and c.from_residual.result c.from_residual.ensures.1 in
    rw same.1 (λ is. omega (arith, most, c.in_err-height_of.ensures.err))

pub returns-in_err-rows-clause-err : goal.returns-in_err-rows-clause-err
returns-in_err-rows-clause-err c =
    let at = c.in-Some.ensures.lookup in
    let most = most_from c.args.self.now.entries.now c.args.self.now.made c.in-Some.entry.now at.3.0 at.1 in
    let same = err_from_is_err_and c.from_residual-in_err-rows.result c.from_residual-in_err-rows.ensures.1 in
    rw (same.1, same.2) (λ is.
    omega (arith, most, c.in_ok-height_of.ensures.few, c.in_err-rows.ensures.err is))

pub returns-then-mixed-clause-few : goal.returns-then-mixed-clause-few
returns-then-mixed-clause-few c =
    let at = c.in-Some.ensures.lookup in
    let most = most_from c.args.self.now.entries.now c.args.self.now.made c.in-Some.entry.now at.3.0 at.1 in
    omega (arith, most, c.in_ok-height_of.ensures.few, c.in_ok-rows.ensures.few)

pub returns-else-mixed-clause-few : goal.returns-else-mixed-clause-few
returns-else-mixed-clause-few c =
    let at = c.in-Some.ensures.lookup in
    let most = most_from c.args.self.now.entries.now c.args.self.now.made c.in-Some.entry.now at.3.0 at.1 in
    omega (arith, most, c.in_ok-height_of.ensures.few, c.in_ok-rows.ensures.few)
