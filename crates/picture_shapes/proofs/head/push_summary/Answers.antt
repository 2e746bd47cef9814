use Rattle.std.proofs.Common.{codes}
use Rattle.picture_shapes.proofs.Chains.{six}
use Rattle.picture_shapes.specs.Head.{summary_text, title_words}
use Rattle.picture_shapes.specs.Words.{word_text}
use Rattle.picture_shapes.proofs.head.push_summary.Goals as goal

pub returns : goal.returns
unfolding summary_text
returns c =
    six _ _ _ _ _ _ _ _
    (codes "<title id=\"title\">")
    (title_words c.args.summary.now)
    (word_text
    (codes
    "</title>\n<desc id=\"desc\">Time runs downward. Each process is a line, each message an arrow. ")
    c.args.summary.now.messages)
    (word_text (codes " messages, ") c.args.summary.now.open)
    (word_text (codes " of them never delivered; ") c.args.summary.now.crashes)
    (codes " crashes.</desc>\n")
    c.in_ok-push.ensures
    c.in_ok-push_title.ensures
    c.in_ok-push_word.ensures
    c.in_ok-push_word-2.ensures
    c.in_ok-push_word-3.ensures
    c.push-2.ensures
