-- What a node writes.
use Rattle.std.specs.Prelude.{ℕ, Some, List, [], ◌++◌, codes}
use Rattle.std.specs.List.{flat_map}
use Rattle.std.specs.Fmt.{decimal}
use Rattle.protocol.specs.declared.names.Case.{Case}
use Rattle.protocol.specs.declared.names.Txn.{Txn}
use Rattle.protocol.specs.declared.events.Reaction.{Reaction}
use Rattle.protocol.specs.declared.events.StepError.{StepError}
use Rattle.protocol.specs.declared.events.StepError.TheVariants.{Memory, Device, UnknownTxn, NotAChild, Closed, Failed, NotInDoubt, NothingToForget, NoSuch, Exhausted}
use Rattle.protocol.specs.Errors.{step_error_number}
use Rattle.protocol.specs.Names.{root_case}
use Rattle.protocol.specs.Texts.{case_text, kept_lines, outcome_word, reaction_lines}
use Rattle.trace_lines.specs.Trace.{lines_text}
use Rattle.log_text.specs.declared.form.LogForm.{LogForm}
use Rattle.log_lines.specs.Held.{listed_text}
use Rattle.log_lines.specs.Words.{bytes_word}
use Rattle.log_outcomes.specs.declared.doubts.LoggedDecision.{LoggedDecision}
use Rattle.node_answers.specs.declared.status.NodeStatus.{NodeStatus}
use Rattle.node_answers.specs.declared.refusing.Manner.{Manner}
use Rattle.node_answers.specs.declared.refusing.Manner.TheVariants.{Numbers, Words}
use Rattle.node_answers.specs.declared.refusing.Nothing.{Nothing}
use Rattle.node_answers.specs.declared.refusing.Nothing.TheVariants.{NoText, NoLine}
use Rattle.log_outcomes.specs.declared.news.News.{News}
use Rattle.log_outcomes.specs.declared.news.News.TheVariants as news

-- the end of an answer to a line that was made
abbrev pub ok_text : List ℕ
ok_text = codes "ok\n"

-- the lines that a node knows, and `ok`
abbrev pub help_text : List ℕ
help_text =
    codes "begin pa|pc\njoin CASE CHILD\nwork CASE CHILD put KEY VALUE|get KEY|del KEY\n"
    ++ codes "commit TXN\nabort TXN\nask CASE\nheur CASE commit|rollback\nforget CASE\n"
    ++ codes "N F->T MESSAGE\ntrim\ndoubt\noutcome TXN\nagain CASE\nresolve NAME\n"
    ++ codes "status\nlog\ndata\nhelp\nend\n"
    ++ ok_text

-- how a log stands: the boot; how many records it has, and how many of them are not forced; how many bytes;
-- how many cases are in doubt by it, and how many an operator decided that wait to be told
abbrev pub status_text : NodeStatus → List ℕ
status_text s =
    codes "status boot " ++ decimal s.boot ++ codes " records " ++ decimal s.records ++ codes " unforced "
    ++ decimal s.unforced ++ codes " bytes " ++ decimal s.bytes ++ codes " in-doubt " ++ decimal s.doubts
    ++ codes " decided " ++ decimal s.decided ++ codes "\n" ++ ok_text

-- what a log of this form holds, line by line, and `ok`
abbrev pub log_text : LogForm → List ℕ → List ℕ
log_text form bytes = listed_text form bytes ++ ok_text

-- the line of a key and its value
abbrev pub pair_line : List ℕ × List ℕ → List ℕ
pair_line p = codes "data" ++ bytes_word p.0 ++ bytes_word p.1 ++ codes "\n"

-- the lines of keys and values
abbrev pub pairs_text : List (List ℕ × List ℕ) → List ℕ
pairs_text ps = flat_map pair_line ps

-- the data of a manager, and `ok`
abbrev pub data_text : List (List ℕ × List ℕ) → List ℕ
data_text ps = pairs_text ps ++ ok_text

-- Refusals.

-- why a line asks for nothing, in a word after a space, if it is to be said
abbrev pub nothing_word : Manner → Nothing → List ℕ
nothing_word Numbers n = []
nothing_word Words NoText = codes " no-text"
nothing_word Words NoLine = codes " no-line"

-- the answer to the line of nothing
abbrev pub error_text : Manner → Nothing → List ℕ
error_text m n = codes "error" ++ nothing_word m n ++ codes "\n"

-- the word of a refusal, after a space
abbrev pub step_error_word : StepError → List ℕ
step_error_word Memory = codes " memory"
step_error_word Device = codes " device"
step_error_word UnknownTxn = codes " no-case"
step_error_word NotAChild = codes " no-child"
step_error_word Closed = codes " closed"
step_error_word Failed = codes " failed"
step_error_word NotInDoubt = codes " not-in-doubt"
step_error_word NothingToForget = codes " nothing-to-forget"
step_error_word NoSuch = codes " not-here"
step_error_word Exhausted = codes " used-up"

-- that word, if it is to be said
abbrev pub refusal_word : Manner → StepError → List ℕ
refusal_word Numbers e = []
refusal_word Words e = step_error_word e

-- the answer to a line that is refused: its number, and a word, if it is to be said
abbrev pub refused_text : Manner → StepError → List ℕ
refused_text m e = codes "refused " ++ decimal (step_error_number e) ++ refusal_word m e ++ codes "\n"

-- What was done.

-- the lines of a reaction of this process, before which N messages were sent, and `ok`
unfoldable pub shown_text : ℕ → ℕ → Reaction → List ℕ
shown_text me sent r = lines_text (reaction_lines me sent r) ++ ok_text

-- the line of a trim of this process, and `ok`
unfoldable pub trimmed_text : ℕ → ℕ → List ℕ
trimmed_text me remain = lines_text (kept_lines me (Some remain)) ++ ok_text

-- the line of a case in doubt
abbrev pub doubt_line : Case → List ℕ
doubt_line c = codes "doubt " ++ case_text c ++ codes "\n"

-- the lines of cases in doubt
abbrev pub doubts_text : List Case → List ℕ
doubts_text cs = flat_map doubt_line cs

-- the line of a case that an operator decided and that waits to be told
abbrev pub decision_line : LoggedDecision → List ℕ
decision_line d = codes "decided " ++ case_text d.case ++ codes " " ++ outcome_word d.outcome ++ codes "\n"

-- the lines of such cases
abbrev pub decisions_text : List LoggedDecision → List ℕ
decisions_text ds = flat_map decision_line ds

-- how a transaction ended, as far as is known, and the end of the line
abbrev pub news_word : News → List ℕ
news_word news.Unknown = codes " unknown\n"
news_word news.Open = codes " open\n"
news_word news.Committed = codes " committed\n"
news_word news.Aborted = codes " aborted\n"

-- the line of how a transaction ended
abbrev pub news_text : Txn → News → List ℕ
news_text x n = codes "outcome " ++ case_text (root_case x) ++ news_word n
