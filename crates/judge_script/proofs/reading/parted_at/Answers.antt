use Rattle.judge_script.proofs.Nothing.{no_answer, no_call, not_false, of_none, of_some, parted_words}
use Rattle.judge_script.proofs.reading.parted_at.Goals as goal

pub returns-in_default-clause-none : goal.returns-in_default-clause-none
returns-in_default-clause-none c = no_call c.args.words.now c.args.place c.in_default.ensures.none

pub returns-in-None-clause-none : goal.returns-in-None-clause-none
returns-in-None-clause-none c = no_answer c.args.words.now c.args.place
    (of_none c.in_ok-said_in.field-0 _ c.in-None.is c.in_ok-said_in.ensures.none)

pub returns-in-Some-2-clause-found : goal.returns-in-Some-2-clause-found
returns-in-Some-2-clause-found c = parted_words c.args.words.now c.args.place c.in-Some.asked c.in-Some-2.said
    (not_false _ c.if-ne.ensures) c.in-Some.ensures.found
    (of_some c.in_ok-said_in.field-0 c.in-Some-2.said _ c.in-Some-2.is c.in_ok-said_in.ensures.found)
