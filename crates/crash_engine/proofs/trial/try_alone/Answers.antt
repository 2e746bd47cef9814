use Rattle.crash_engine.proofs.Failing.{alone_breaks, answered}
use Rattle.crash_engine.proofs.trial.try_alone.Goals as goal

pub returns-clause-err : goal.returns-clause-err
returns-clause-err c =
    let (refusal, end, ran, made) = c.in_ok-made.ensures.made in
    answered _ _ c.try_point.result c.try_point.ensures.err
    (λ why breaks. alone_breaks c.args.origin.now c.args.events.now c.front.result.now
    c.in_ok-made.made refusal
    end why ran made c.front.ensures breaks)
