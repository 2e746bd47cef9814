use Rattle.script_words.proofs.Texts.{texts}
use Rattle.judge_script.proofs.Places.{more_same, more_trans}
use Rattle.judge_script.proofs.numbering.number_call.Goals as goal

pub returns-in_ok-value-in-Put-clause-grows : goal.returns-in_ok-value-in-Put-clause-grows
returns-in_ok-value-in-Put-clause-grows c = record {
  xids = more_same c.args.names.now.xids.items;
  words = more_trans (texts c.args.names.now.words.items) (texts c.number_word-in-Put.new.words.items)
      (texts c.number_word-in-Put-2.new.words.items) c.in_ok-key-in-Put.ensures.more
      c.in_ok-value-in-Put.ensures.more;
  apart_xids = λ h. h;
  apart_words = λ h. c.in_ok-value-in-Put.ensures.apart (c.in_ok-key-in-Put.ensures.apart h);
}
