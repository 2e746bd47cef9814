use Rattle.judge_script.proofs.Nothing.{nothing_parted, of_none}
use Rattle.judge_script.proofs.reading.event_of.Goals as goal

pub returns-in-None-clause-none : goal.returns-in-None-clause-none
returns-in-None-clause-none c = nothing_parted c.args.words.now
    (of_none c.in_ok-parts_of.field-0 _ c.in-None.is c.in_ok-parts_of.ensures.none)
