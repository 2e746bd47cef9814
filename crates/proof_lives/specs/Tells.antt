-- What the application is told of a transaction.
use Rattle.std.specs.Prelude.{◌≡◌, ⊤, Option, Some, None, List}
use Rattle.std.specs.List.{AllByRecursion}
use Rattle.protocol_words.specs.outcome
use Rattle.protocol.specs.declared.names.Txn.{Txn}
use Rattle.protocol.specs.declared.events.Conclusion.{Conclusion}
use Rattle.protocol.specs.declared.events.Conclusion.TheVariants.{Committed, Aborted, ReadOnly}
use Rattle.protocol.specs.declared.events.Told.{Told}
use Rattle.protocol.specs.declared.trees.TreeProcess.{TreeProcess}
use Rattle.protocol.specs.Outcomes.{outcome_of}
use Rattle.protocol.specs.Trees.{IsTree}
use Rattle.protocol.specs.World.{IsRun, Made, World}
use Rattle.tree_state.specs.Worlds.{WorldState}
use Rattle.proof_runs.specs.worlds.Follows.{FollowsBehindFaults}

-- a conclusion is the transaction's outcome; one that only read has none to tell
abbrev pub IsOutcome : World → Txn → Conclusion → Type 0
IsOutcome w x Committed = outcome_of w x ≡ outcome.Committed
IsOutcome w x Aborted = outcome_of w x ≡ outcome.Aborted
IsOutcome w x ReadOnly = ⊤

-- what was told, if anything was, is the outcome
abbrev pub TellsSo : World → Option Told → Type 0
TellsSo w None = ⊤
TellsSo w (Some u) = IsOutcome w u.txn u.conclusion

-- in every run of every tree, what each move told the application is the outcome of that transaction
abbrev pub ToldIsSo : Type 0
ToldIsSo = (tree : List TreeProcess) (es : List Made) (w : World) → IsTree tree → IsRun tree es w
    → AllByRecursion (λ e. TellsSo w e.effect.told) es

-- where the state of a tree stands for a run, so is what each entry of its journal told
abbrev pub EntriesTellSo : Type 0
EntriesTellSo = (s : WorldState) (es : List Made) (w : World) → IsTree s.tree → FollowsBehindFaults es w s
    → AllByRecursion (λ x. TellsSo w x.reaction.told) s.entries
