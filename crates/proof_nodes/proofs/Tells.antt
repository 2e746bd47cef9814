-- What a node answers to `outcome` is the outcome.
use Rattle.std.proofs.Common.{◌≡◌, Bool, true, false, is_none, List, ℕ, inl, inr, refl, sym, subst}
use Rattle.protocol.specs.declared.names.Txn.{Txn}
use Rattle.protocol.specs.Trees.{parent_of}
use Rattle.protocol.specs.World.{Made, World}
use Rattle.log_records.specs.Sights.{records_of}
use Rattle.tree_state.specs.Worlds.{WorldState}
use Rattle.proof_runs.specs.worlds.Follows.{FollowsBehindFaults}
use Rattle.log_outcomes.specs.News.{news_in}
use Rattle.node_lines.specs.declared.asked.NodeLine.TheVariants as asked
use Rattle.node_engine.specs.Answers.{AnswersAsked, AnswersLine, NodeState, TellsOutcome, is_root}
use Rattle.proof_lives.proofs.Outcomes.{roots_tell_so}
use Rattle.proof_nodes.specs.Nodes.{OutcomesAreTold, Sits, TellsEnd}
use Rattle.proof_nodes.proofs.Speakers.{sits_at_root}

module _ (s : WorldState) (es : List Made) (w : World) (f : FollowsBehindFaults es w s) (old new : NodeState)
    (sits : Sits s old) (works : old.core.log.failed ≡ false) (x : Txn) (text : List ℕ) where
  by_root : (b : Bool) → is_root old ≡ b → TellsOutcome b x old new text → TellsEnd old w x text
  by_root true is h = inl (record {
    news = news_in (records_of old.core.log.kept) x;
    text_is = h.1;
    so = roots_tell_so s es w f old.me old.core sits.core
        (sits_at_root s.tree old.me
        (subst (λ tree. is_none (parent_of tree old.me) ≡ true) sits.tree is)) works x;
  })
  by_root false is h = inr h.1

pub outcomes_are_told : OutcomesAreTold
outcomes_are_told s es w f old new sits works line text h x asks =
    by_root s es w f old new sits works x text (is_root old) refl
    (subst (λ a. AnswersAsked a old new text) asks h.answers)
