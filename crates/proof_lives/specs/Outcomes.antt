-- What the root's log tells of how a transaction ended.
use Rattle.std.specs.Prelude.{◌≡◌, ⊤, false, Some, List}
use Rattle.protocol_words.specs.outcome
use Rattle.protocol.specs.declared.names.ProcessId.{ProcessId}
use Rattle.protocol.specs.declared.names.Txn.{Txn}
use Rattle.protocol.specs.Nodes.{AtRoot, role_of}
use Rattle.protocol.specs.Outcomes.{outcome_of}
use Rattle.protocol.specs.World.{Made, World}
use Rattle.log_records.specs.Sights.{records_of}
use Rattle.process_state.specs.States.{CoreState}
use Rattle.tree_state.specs.Worlds.{WorldState}
use Rattle.proof_runs.specs.worlds.Follows.{FollowsBehindFaults}
use Rattle.log_outcomes.specs.declared.news.News.{News}
use Rattle.log_outcomes.specs.declared.news.News.TheVariants.{Committed, Aborted}
use Rattle.log_outcomes.specs.News.{news_in}

-- the news are the transaction's outcome, where they tell one
abbrev pub NewsAreSo : World → Txn → News → Type 0
NewsAreSo w x Committed = outcome_of w x ≡ outcome.Committed
NewsAreSo w x Aborted = outcome_of w x ≡ outcome.Aborted
NewsAreSo w x _ = ⊤

-- where the state of a tree stands for a run, what the records of a root that is up tell of how a transaction
-- ended is its outcome
abbrev pub RootsTellSo : Type 0
RootsTellSo = (s : WorldState) (es : List Made) (w : World) → FollowsBehindFaults es w s
    → (q : ProcessId) (c : CoreState) → s.node_at q ≡ Some c → role_of s.tree q ≡ AtRoot
    → c.log.failed ≡ false
    → (x : Txn) → NewsAreSo w x (news_in (records_of c.log.kept) x)
