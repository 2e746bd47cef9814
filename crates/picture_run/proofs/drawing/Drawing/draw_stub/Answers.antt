use Rattle.picture_words.specs.Labels.{label_in, number_text}
use Rattle.picture_run.proofs.Saying.{said_more}
use Rattle.picture_run.proofs.drawing.Drawing.draw_stub.Goals as goal

pub returns-clause-words : goal.returns-clause-words
returns-clause-words c =
    said_more c.args.self.now.sheet.words.items c.draw.new.self.words.items _
    (number_text c.args.stub.now.number)
    (label_in c.args.self.now.frame.room.messages c.args.messages.now c.args.stub.now.number)
    c.in_ok-stroke.ensures.words c.in_ok-number.ensures c.in_ok-tone.ensures
