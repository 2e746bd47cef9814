-- What the words of an answer say.
use Rattle.std.proofs.Common.{◌≡◌, ◌∙◌, Some, None, refl, sym}
use Rattle.protocol.specs.declared.names.Case.{Case}
use Rattle.protocol.specs.declared.names.Outcome.{Outcome}
use Rattle.protocol.specs.declared.names.Outcome.TheVariants.{Committed, Aborted}
use Rattle.protocol.specs.declared.names.ProcessId.{ProcessId}
use Rattle.audit_engine.specs.declared.steps.StepFound.TheVariants.{Kept as Finds}
use Rattle.audit_engine.specs.declared.steps.Stands.{Stands}
use Rattle.audit_engine.specs.declared.steps.Stands.TheVariants as stands
use Rattle.audit_engine.specs.Chains.{asks_on}
use Rattle.resolve_engine.specs.declared.answer.AnswerWord.{AnswerWord}
use Rattle.resolve_engine.specs.declared.answer.AnswerWord.TheVariants as word
use Rattle.resolve_engine.specs.declared.asked.Trust.{Trust}
use Rattle.resolve_engine.specs.declared.asked.Trust.TheVariants.{Complete, Parts}
use Rattle.resolve_engine.specs.Answers.{if_complete, kept_word, word_by}
use Rattle.resolve_engine.proofs.Standings.{decides}

-- Words of outcomes.

pub same_word : (a b : Outcome) → word_by a ≡ word_by b → a ≡ b
same_word Committed Committed e = refl
same_word Aborted Aborted e = refl
same_word Committed Aborted e = absurd (cc)
same_word Aborted Committed e = absurd (cc)

-- a word that is no outcome's
abbrev NoOutcomes : AnswerWord → Type 0
NoOutcomes w = (o : Outcome) → w ≡ word_by o → ⊥

pub unknown_is_none : (p : ProcessId) → NoOutcomes (word.Unknown p)
unknown_is_none p Committed e = cc
unknown_is_none p Aborted e = cc

wait_is_none : NoOutcomes word.Wait
wait_is_none Committed e = cc
wait_is_none Aborted e = cc

pub heuristic_commit_is_none : NoOutcomes word.HeuristicCommit
heuristic_commit_is_none Committed e = cc
heuristic_commit_is_none Aborted e = cc

pub heuristic_rollback_is_none : NoOutcomes word.HeuristicRollback
heuristic_rollback_is_none Committed e = cc
heuristic_rollback_is_none Aborted e = cc

-- a word that counts only of complete logs, if it is an outcome's, is this one's
pub if_complete_is : (t : Trust) (a o : Outcome) → if_complete t (word_by a) ≡ word_by o → a ≡ o
if_complete_is Complete a o e = same_word a o e
if_complete_is Parts a o e = absurd (wait_is_none o e)

-- What stands of a case.

some_outcome : (a b o : Outcome) → Some a ≡ Some b → a ≡ o → b ≡ o
some_outcome a b o is h =
    let same : a ≡ b = cc in
    sym same ∙ h

-- where what stands of a case decides, its word says nothing else
pub kept_says : (t : Trust) (s : Stands) (o a : Outcome) → decides s ≡ Some a → kept_word t s ≡ word_by o
    → a ≡ o
unfolding decides
kept_says t stands.Commit o a is e = some_outcome Committed a o is (same_word Committed o e)
kept_says t stands.Abort o a is e = some_outcome Aborted a o is (same_word Aborted o e)
kept_says t stands.Collecting o a is e = some_outcome Aborted a o is (if_complete_is t Aborted o e)
kept_says t stands.Prepare o a is e = absurd (cc)
kept_says t stands.Ended o a is e = absurd (cc)

-- where it decides nothing, its word says nothing but an abort
pub undecided_says : (t : Trust) (s : Stands) (o : Outcome) → decides s ≡ None → kept_word t s ≡ word_by o
    → Aborted ≡ o
unfolding decides
undecided_says t stands.Commit o is e = absurd (cc)
undecided_says t stands.Abort o is e = absurd (cc)
undecided_says t stands.Collecting o is e = absurd (cc)
undecided_says t stands.Prepare o is e = if_complete_is t Aborted o e
undecided_says t stands.Ended o is e = if_complete_is t Aborted o e

-- what is found asks on only where it decides nothing
pub decided_ends : (s : Stands) (d : Case) (a : Outcome) → decides s ≡ Some a → asks_on (Finds d s) ≡ None
unfolding decides
decided_ends stands.Commit d a is = refl
decided_ends stands.Abort d a is = refl
decided_ends stands.Collecting d a is = refl
decided_ends stands.Prepare d a is = absurd (cc)
decided_ends stands.Ended d a is = absurd (cc)

pub undecided_asks : (s : Stands) (d : Case) → decides s ≡ None → asks_on (Finds d s) ≡ Some d
unfolding decides
undecided_asks stands.Commit d is = absurd (cc)
undecided_asks stands.Abort d is = absurd (cc)
undecided_asks stands.Collecting d is = absurd (cc)
undecided_asks stands.Prepare d is = refl
undecided_asks stands.Ended d is = refl
