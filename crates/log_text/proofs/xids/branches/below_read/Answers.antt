use Rattle.std.proofs.Common.{◌≡◌, ◌≢◌, length, arith}
use Rattle.std.proofs.lemmas.Bool.Decides.{nat_tests}
use Rattle.log_text.proofs.xids.BranchLaws.{one_ticket}
use Rattle.log_text.proofs.xids.branches.below_read.Goals as goal

pub returns-else-name-eq24-clause-all : goal.returns-else-name-eq24-clause-all
returns-else-name-eq24-clause-all c = λ b fits e.
    let some_bytes : length c.args.name.now ≢ 0 =
    grind (arith, nat_tests, c.is_empty.ensures, c.if-is_empty.false) in
    let all_bytes : length c.args.name.now ≡ 24 = one_ticket b c.args.name.now e some_bytes in
    absurd (omega arith)
