use Rattle.std.proofs.Common.{◌≡◌, take}
use Rattle.log_outcomes.specs.News.{news_in}
use Rattle.log_outcomes.proofs.news.news_of.Given as goal

abbrev pub invariant-loop-kept : goal.invariant-loop-kept
invariant-loop-kept l = l.known ≡ news_in (take l.kept-index l.records) l.txn
