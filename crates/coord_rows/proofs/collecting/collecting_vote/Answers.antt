use Rattle.std.proofs.Common.{rules, ◌≡◌, ◌++◌, ◌∷◌, [], true}
use Rattle.protocol.specs.Memory.{is_counted}
use Rattle.protocol.specs.SameViews.{SameView}
use Rattle.coord_rows.proofs.Counting.{does_vote, takes_back, unwritten_vote}
use Rattle.coord_rows.proofs.collecting.collecting_vote.Goals as goal

pub returns-in-Ok-clause-ok : goal.returns-in-Ok-clause-ok
returns-in-Ok-clause-ok c =
    let counted : is_counted c.args.live.now.accepted c.args.live.now.votes
    c.args.ticket ≡ true = search rules in
    does_vote c.args.seat c.args.ticket c.args.vote c.args.live.now c.count_vote.new.self
    c.collecting_after.new.live c.in-Ok.effect counted c.count_vote.ensures c.in-Ok.ensures.ok

pub returns-in-Err-clause-err : goal.returns-in-Err-clause-err
returns-in-Err-clause-err c =
    let counted : is_counted c.args.live.now.accepted c.args.live.now.votes
    c.args.ticket ≡ true = search rules in
    let counts : SameView c.collecting_after.new.live
    (record c.args.live.now { votes = c.args.live.now.votes ++ (c.args.ticket, c.args.vote) ∷ [] }) =
    rw c.in-Err.ensures.err c.count_vote.ensures in
    takes_back c.args.live.now c.collecting_after.new.live c.uncount_vote.new.self c.args.ticket c.args.vote
    counted counts c.uncount_vote.ensures

pub returns-in-Err-clause-unwritten : goal.returns-in-Err-clause-unwritten
returns-in-Err-clause-unwritten c =
    let counted : is_counted c.args.live.now.accepted c.args.live.now.votes
    c.args.ticket ≡ true = search rules in
    unwritten_vote c.args.seat c.args.ticket c.args.vote c.args.live.now c.count_vote.new.self
    c.in-Err.refusal
    counted c.count_vote.ensures c.in-Err.ensures.unwritten
