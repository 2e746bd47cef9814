-- How a transaction ended, as far as the records of a log tell.
use Rattle.std.specs.Prelude.{Bool, if◌then◌else◌, Some, None, List, fold}
use Rattle.protocol_words.specs.outcome
use Rattle.protocol.specs.declared.names.Txn.{Txn}
use Rattle.protocol.specs.declared.records.LogRecord.{LogRecord}
use Rattle.protocol.specs.Names.{same_txn}
use Rattle.log_outcomes.specs.declared.saying.SayingStage.{SayingStage}
use Rattle.log_outcomes.specs.declared.saying.SayingStage.TheVariants.{Open, Doubt, Decided, Ended, Over}
use Rattle.log_outcomes.specs.declared.news.News.{News}
use Rattle.log_outcomes.specs.declared.news.News.TheVariants as news
use Rattle.log_outcomes.specs.Sayings.{Saying, saying_of}

-- nothing is known any more of a transaction that was open and is forgotten
abbrev pub forgotten : News → News
forgotten news.Open = news.Unknown
forgotten n = n

-- what is known of a transaction after a record of a case of it
abbrev pub news_behind : News → SayingStage → News
news_behind n Open = news.Open
news_behind n Doubt = news.Open
news_behind n (Decided o) = news.Open
news_behind n (Ended outcome.Committed) = news.Committed
news_behind n (Ended outcome.Aborted) = news.Aborted
news_behind n Over = forgotten n

-- what is known of a transaction after what a record says: it changes only if the record is of a case of it
abbrev pub said_behind : Txn → News → Saying → News
said_behind x n None = n
said_behind x n (Some s) = if same_txn s.0.txn x then news_behind n s.1 else n

-- what is known of a transaction after a record of the log
abbrev pub news_after : Txn → News → LogRecord → News
news_after x n l = said_behind x n (saying_of l.entry)

-- what these records tell of how a transaction ended
abbrev pub news_in : List LogRecord → Txn → News
news_in ls x = fold (news_after x) news.Unknown ls
