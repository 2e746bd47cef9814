use Rattle.judge_script.specs.Numbers.{table_of}
use Rattle.judge_script.proofs.Places.{call_more, grows_trans}
use Rattle.judge_script.proofs.numbering.number_event.Goals as goal

pub returns-clause-call : goal.returns-clause-call
returns-clause-call c = call_more (table_of c.number_call.new.names) (table_of c.number_answer.new.names)
    c.in_ok-answer.ensures.grows c.args.asked.now c.in_ok-call.call c.in_ok-call.ensures.call

pub returns-clause-grows : goal.returns-clause-grows
returns-clause-grows c = grows_trans (table_of c.args.names.now) (table_of c.number_call.new.names)
    (table_of c.number_answer.new.names) c.in_ok-call.ensures.grows c.in_ok-answer.ensures.grows
