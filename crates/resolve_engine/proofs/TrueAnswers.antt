-- An answer that says commit or rollback is true of every run that left the logs.
use Rattle.std.proofs.Common.{◌≡◌, ◌∙◌, ◌&&◌, ◌||◌, ℕ, suc, not, Bool, true, false, if◌then◌else◌, Option, Some, None, is_none, List, [], length, refl, sym, ap}
use Rattle.protocol.specs.declared.names.Case.{Case}
use Rattle.protocol.specs.declared.names.Outcome.{Outcome}
use Rattle.protocol.specs.declared.names.Outcome.TheVariants.{Committed, Aborted}
use Rattle.protocol.specs.declared.names.Ticket.{Ticket}
use Rattle.protocol.specs.declared.records.Record.{Record}
use Rattle.protocol.specs.declared.trees.TreeProcess.{TreeProcess}
use Rattle.protocol.specs.Names.{process_of}
use Rattle.protocol.specs.Nodes.{Role, AtRoot, Below, AtLeaf, is_listed, role_of}
use Rattle.protocol.specs.Records.{cases_in, has}
use Rattle.protocol.specs.Trees.{IsTree, level_within}
use Rattle.protocol.specs.World.{Made, World}
use Rattle.proof_processes.proofs.Levels.{climbs, has_entry}
use Rattle.proof_processes.proofs.Tests.{both}
use Rattle.protocol.specs.Audits.{AuditsAreTrue, KeptLogs, asked_above, audited, decided_or, decision_by, has_line, has_line_in, has_place, is_case_at, logs_of_world, outcome_within, own_decision, since_promise}
use Rattle.proof_headline.proofs.auditor.Audit.{audits_are_true}
use Rattle.proof_headline.proofs.runs.Headline.{the_world_holds}
use Rattle.audit_cases.specs.declared.kinds.Kinds.{Kinds}
use Rattle.audit_cases.specs.Kinds.{kinds_of, line_in, no_kinds}
use Rattle.audit_cases.specs.Notes.{CaseNote, note_in, notes_of}
use Rattle.audit_cases.proofs.KindLaws.{decision_is, line_is}
use Rattle.audit_cases.proofs.NoteLaws.{note_is}
use Rattle.log_script.specs.declared.line.ProcessLog.{ProcessLog}
use Rattle.log_script.specs.Logs.{has_log}
use Rattle.audit_tree.specs.Reports.{kept_lists}
use Rattle.audit_tree.proofs.Outcomes.{place_of_case}
use Rattle.audit_engine.specs.Chains.{chain_of, steps_within}
use Rattle.resolve_engine.specs.declared.answer.BranchAnswer.{BranchAnswer}
use Rattle.resolve_engine.specs.declared.answer.AnswerReason.TheVariants as reason
use Rattle.resolve_engine.specs.declared.answer.AnswerWord.TheVariants as word
use Rattle.resolve_engine.specs.declared.asked.Trust.{Trust}
use Rattle.resolve_engine.specs.Answers.{above_answer, answer_above, answer_by, answer_of, decided_by, is_promised, is_unpromised, own_answer, own_by, root_answer, word_by}
use Rattle.resolve_engine.specs.Truths.{AnswersAreTrue, AreLogsKept}
use Rattle.resolve_engine.proofs.Namings.{no_log_keeps}
use Rattle.resolve_engine.proofs.Climbs.{climb}
use Rattle.resolve_engine.proofs.Words.{heuristic_commit_is_none, heuristic_rollback_is_none, if_complete_is, same_word, unknown_is_none}

module _ (tree : List TreeProcess) (t : IsTree tree) (logs : List ProcessLog) (es : List Made) (w : World)
    (left : AreLogsKept tree logs es w) (trust : Trust) (c : Case) (o : Outcome)
    (line : has_line tree (logs_of_world w) c ≡ true) where
  abbrev keeps : KeptLogs
  keeps = kept_lists tree logs

  abbrev there : KeptLogs
  there = logs_of_world w

  listed : is_listed tree (process_of c) ≡ true
  listed = (both (is_listed tree (process_of c)) _ line).0

  own : is_case_at tree (process_of c) c ≡ true
  own = (both (is_case_at tree (process_of c) c) _ (both (is_listed tree (process_of c)) _ line).1).0

  shown : has_line_in (role_of tree (process_of c)) c
      (since_promise c (logs_of_world w (process_of c))) ≡ true
  shown = (both (is_case_at tree (process_of c) c) _ (both (is_listed tree (process_of c)) _ line).1).1

  size : (k : ℕ) × (length tree ≡ suc k)
  size = has_entry tree (process_of c) listed

  -- what an audit says above the case
  abbrev asked : Outcome
  asked = asked_above (outcome_within size.0 tree (logs_of_world w)) tree (logs_of_world w) c.txn c.ticket

  audited_is : audited tree (logs_of_world w) c
      ≡ decided_or (own_decision c (logs_of_world w (process_of c)))
      (asked_above (outcome_within size.0 tree (logs_of_world w)) tree (logs_of_world w) c.txn c.ticket)
  unfolding audited
  audited_is = ap (λ n. outcome_within n tree there c) size.1

  -- what is found above is what an audit says above
  above_is : (above_answer trust logs c (chain_of tree (kept_lists tree logs) c)).word ≡ word_by o
      → asked_above (outcome_within size.0 tree (logs_of_world w)) tree (logs_of_world w) c.txn c.ticket ≡ o
  unfolding chain_of
  above_is answered =
      climb tree t logs es w left trust c o size.0 c refl listed own
      (ap (λ n. is_none (level_within n tree (process_of c))) (sym size.1)
      ∙ climbs tree t (process_of c) listed)
      (root_answer trust c) (λ root said. if_complete_is trust Aborted o said)
      (ap (λ n. (above_answer trust logs c (steps_within n tree keeps c)).word) (sym size.1) ∙ answered)

  -- an answer that says how it ends is not replaced
  promised_is : (k : Kinds) (a : BranchAnswer) → (answer_above logs c k a).word ≡ word_by o
      → a.word ≡ word_by o
  promised_is k a = by_test (is_unpromised logs c k a)
    where
      by_test : (b : Bool)
          → (if b then record { word = word.Unknown (process_of c); reason = reason.NoPromise (process_of c) }
          else a).word ≡ word_by o → a.word ≡ word_by o
      by_test true said = absurd (unknown_is_none (process_of c) o said)
      by_test false said = said

  -- a case that is in doubt asks above
  by_above : own_decision c (logs_of_world w (process_of c)) ≡ None
      → (above_answer trust logs c (chain_of tree (kept_lists tree logs) c)).word ≡ word_by o
      → audited tree (logs_of_world w) c ≡ o
  by_above none answered =
      audited_is ∙ ap (λ z. decided_or z asked) none ∙ above_is answered

  nothing_kept : (rs : List Record) → rs ≡ [] → (note_in (notes_of rs) c).kinds ≡ no_kinds
  unfolding cases_in
  nothing_kept rs is = ap (λ ks. (note_in (notes_of ks) c).kinds) is

  -- the case's own log is not here
  missing : has_log logs (process_of c) ≡ false → own_decision c (logs_of_world w (process_of c)) ≡ None
      → (answer_of trust tree logs (kept_lists tree logs) c).word ≡ word_by o
      → audited tree (logs_of_world w) c ≡ o
  unfolding answer_of
  missing none doubt answered =
      by_above doubt (promised_is no_kinds (above_answer trust logs c (chain_of tree keeps c))
      (ap (λ k. (answer_by (own_answer k) (answer_above logs c k
      (above_answer trust logs c (chain_of tree keeps c)))).word)
      (sym (nothing_kept (keeps (process_of c)) (no_log_keeps tree logs (process_of c) none))) ∙ answered))

  -- a case with a line that has neither a promise nor an end is the root's
  on_top : (role : Role) (ticket : Option Ticket) (k : Kinds) → ((k.prepared || k.prepare) || k.ended) ≡ false
      → line_in role k ≡ true → has_place role ticket ≡ true → ticket ≡ None
  on_top AtRoot None k none is place = refl
  on_top AtRoot (Some u) k none is place = absurd (cc)
  on_top (Below p) ticket k none is place = absurd (promise k.prepared k.prepare k.ended none is)
    where
      promise : (a b c : Bool) → ((a || b) || c) ≡ false → b ≡ true → ⊥
      promise true b c h e = cc
      promise false true c h e = cc
      promise false false c h e = cc
  on_top (AtLeaf p) ticket k none is place =
      absurd (promise k.prepared k.prepare k.ended (not k.forgot) none is)
    where
      promise : (a b c d : Bool) → ((a || b) || c) ≡ false → (a && d) ≡ true → ⊥
      promise true b c d h e = cc
      promise false b c d h e = cc

  -- with neither a commit nor an abort
  undecided : (k : Kinds) → kinds_of c (since_promise c (logs_of_world w (process_of c))) ≡ k → (p : Bool)
      → is_promised k ≡ p → own_decision c (logs_of_world w (process_of c)) ≡ decision_by false false p
      → (above_answer trust logs c (chain_of tree (kept_lists tree logs) c)).word ≡ word_by o
      → audited tree (logs_of_world w) c ≡ o
  undecided k are true is none answered = by_above none answered
  undecided k are false is aborts answered =
      let root : c.ticket ≡ None = on_top (role_of tree (process_of c)) c.ticket k is
      (ap (line_in (role_of tree (process_of c))) (sym are)
      ∙ line_is (role_of tree (process_of c)) c (since_promise c (there (process_of c))) ∙ shown)
      (place_of_case tree there (process_of c) c own) in
      audited_is ∙ ap (λ z. decided_or z asked) aborts
      ∙ sym (ap (asked_above (outcome_within size.0 tree there) tree there c.txn) root) ∙ above_is answered

  -- by what the case's own log says
  by_own : (k : Kinds) → kinds_of c (since_promise c (logs_of_world w (process_of c))) ≡ k
      → (hc hr a b p : Bool) → is_promised k ≡ p
      → own_decision c (logs_of_world w (process_of c)) ≡ decision_by a b p
      → (answer_by (own_by hc hr (decided_by a b))
      (answer_above logs c k (above_answer trust logs c (chain_of tree (kept_lists tree logs) c)))).word
      ≡ word_by o
      → audited tree (logs_of_world w) c ≡ o
  by_own k are true hr a b p is decision answered = absurd (heuristic_commit_is_none o answered)
  by_own k are false true a b p is decision answered = absurd (heuristic_rollback_is_none o answered)
  by_own k are false false true b p is decision answered =
      audited_is ∙ ap (λ z. decided_or z asked) decision ∙ same_word Committed o answered
  by_own k are false false false true p is decision answered =
      audited_is ∙ ap (λ z. decided_or z asked) decision ∙ same_word Aborted o answered
  by_own k are false false false false p is decision answered =
      undecided k are p is decision
      (promised_is k (above_answer trust logs c (chain_of tree keeps c)) answered)

  -- the case's own log is here
  here : has_log logs (process_of c) ≡ true → (answer_of trust tree logs (kept_lists tree logs) c).word
      ≡ word_by o
      → audited tree (logs_of_world w) c ≡ o
  unfolding answer_of
  here has answered =
      let k = kinds_of c (since_promise c (there (process_of c))) in
      let same : (note_in (notes_of (keeps (process_of c))) c).kinds ≡ k =
      ap (λ (n : CaseNote). n.kinds) (note_is (keeps (process_of c)) c)
      ∙ ap (λ rs. kinds_of c (since_promise c rs)) (left.kept_there (process_of c) listed has) in
      by_own k refl k.heur_commit k.heur_rollback _ _ (is_promised k) refl
      (sym (decision_is c (there (process_of c))))
      (ap (λ n. (answer_by (own_answer n)
      (answer_above logs c n (above_answer trust logs c (chain_of tree keeps c)))).word) (sym same)
      ∙ answered)

-- an answer that says commit or rollback is how the transaction ends
pub answers_true : AnswersAreTrue
answers_true tree logs es w t left c is_left trust o answered =
    sym (truths.outcomes c is_left.line) ∙ by_log (has_log logs (process_of c)) refl
  where
    truths : AuditsAreTrue tree w
    truths = audits_are_true tree es w t left.is_run (the_world_holds tree t es w left.is_run) left.all_up

    by_log : (b : Bool) → has_log logs (process_of c) ≡ b → audited tree (logs_of_world w) c ≡ o
    by_log true has = here tree t logs es w left trust c o is_left.line has answered
    by_log false none = missing tree t logs es w left trust c o is_left.line none
        (is_left.in_doubt none) answered
