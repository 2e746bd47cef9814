-- True answers, where the world's invariant holds.
use Rattle.std.proofs.Common.{◌≡◌, ◌∙◌, ◌⊎◌, inl, inr, ◌||◌, ◌&&◌, Bool, true, false, List, refl, sym, subst, arith}
use Rattle.protocol.specs.declared.names.Case.{Case}
use Rattle.protocol.specs.declared.names.Outcome.{Outcome}
use Rattle.protocol_words.specs.Variants.{AbortedOutcome, CommittedOutcome}
use Rattle.protocol.specs.declared.names.Presumption.{Presumption}
use Rattle.protocol.specs.declared.names.Presumption.TheVariants.{PresumeAbort, PresumeCommit}
use Rattle.protocol.specs.declared.names.Ticket.{Ticket}
use Rattle.protocol.specs.declared.names.Txn.{Txn}
use Rattle.protocol.specs.declared.messages.Message.{Message}
use Rattle.protocol.specs.declared.records.Record.{Record}
use Rattle.protocol.specs.declared.trees.TreeProcess.{TreeProcess}
use Rattle.protocol.specs.Names.{child_case}
use Rattle.protocol.specs.Records.{has, is_abort, is_forgot, is_heuristic, is_prepare}
use Rattle.protocol.specs.Nodes.{kept}
use Rattle.protocol.specs.Outcomes.{InDoubt, TrueAnswers, has_concluded, has_promised, is_joined_message, is_outcome_message, sent}
use Rattle.protocol.specs.Trees.{IsTree}
use Rattle.protocol.specs.World.{IsRun, Made, World}
use Rattle.proof_pairs.specs.Invariant.{Common}
use Rattle.proof_pairs.specs.Keeps.{Later}
use Rattle.proof_pairs.specs.Promises.{PairAnswers}
use Rattle.proof_pairs.specs.Reading.{Reading}
use Rattle.proof_pairs.specs.Standing.{IsInDoubt}
use Rattle.proof_pairs.proofs.Promises.{abort_true_answers, commit_true_answers}
use Rattle.protocol.specs.Audits.{is_learnt_abort, is_learnt_commit, is_promise}
use Rattle.proof_processes.specs.WorldHolds.{InvariantOf, WorldHolds, is_about, pair_reading}
use Rattle.proof_processes.proofs.GivenCases.{sent_other}
use Rattle.proof_processes.proofs.PairOf.{common_of, given, is_free}
use Rattle.proof_processes.proofs.Worlds.{has_other}
use Rattle.proof_headline.specs.ProcessLaws.{ProcessLaws}
use Rattle.proof_headline.proofs.Ends.{Tells, has_either, says_abort, says_commit}
use Rattle.proof_headline.proofs.Pairs.{joined_pair}
use Rattle.proof_headline.proofs.Steps.{onward_holds}

-- A case in doubt, as its pair has it.

promised_by : (d : Case) (r : Record) → has_promised d r ≡ true → (is_promise d r ≡ true)
    ⊎ (is_heuristic d r ≡ true)
promised_by d r e = grind arith

commit_concludes : (d : Case) (r : Record) → is_learnt_commit d r ≡ true → has_concluded d r ≡ true
commit_concludes d r e = grind arith

abort_concludes : (d : Case) (r : Record) → is_learnt_abort d r ≡ true → has_concluded d r ≡ true
abort_concludes d r e = grind arith

own_abort_concludes : (d : Case) (r : Record) → is_abort d r ≡ true → has_concluded d r ≡ true
own_abort_concludes d r e = grind arith

forgot_concludes : (d : Case) (r : Record) → is_forgot d r ≡ true → has_concluded d r ≡ true
forgot_concludes d r e = grind arith

none_of_them : (q r : Record → Bool) (xs : List Record) → ((x : Record) → q x ≡ true → r x ≡ true)
    → has r xs ≡ false
    → has q xs ≡ false
none_of_them q r xs f e = by_test (has q xs) refl
  where
    by_test : (b : Bool) → has q xs ≡ b → has q xs ≡ false
    by_test false g = g
    by_test true g = absurd (let y = sym e ∙ has_other q r xs f g in cc)

neither_so : (a b c : Bool) → a ≡ false → b ≡ false → (a || (b && c)) ≡ false
neither_so a b c e f = grind arith

about_so : (o : Outcome) (d : Case) (m : Message) → is_outcome_message o d m ≡ true → is_about d m ≡ true
about_so CommittedOutcome d m e = grind arith
about_so AbortedOutcome d m e = grind arith

pair_answers : (p : Presumption) → PairAnswers (InvariantOf p)
pair_answers PresumeAbort = abort_true_answers
pair_answers PresumeCommit = commit_true_answers

module _ (tree : List TreeProcess) (w : World) (h : WorldHolds tree w) (c : Case) (t : Ticket)
    (joined : sent (is_joined_message c t) w.net ≡ true) where
  abbrev r : Reading
  r = pair_reading tree w c t

  pub in_doubt : InDoubt (w.at t.child) (child_case c.txn t) → IsInDoubt (pair_reading tree w c t)
  in_doubt doubt =
      let d = child_case c.txn t in
      let rs = kept (w.at t.child) in
      let k : Common r = common_of c.txn.presumption r (joined_pair tree w h c t joined).1 in
      record {
        prepared = elim (has_either (has_promised d) (is_promise d) (is_heuristic d) rs (promised_by d)
            doubt.promised) [
              | inl promised ↦ promised
              | inr decided ↦ (k.heuristic_stands_behind decided).0
            ];
        no_commit = none_of_them (is_learnt_commit d) (has_concluded d) rs (commit_concludes d)
            doubt.not_concluded;
        no_abort = neither_so (has (is_learnt_abort d) rs) (has (is_abort d) rs) (has (is_prepare d) rs)
            (none_of_them (is_learnt_abort d) (has_concluded d) rs (abort_concludes d) doubt.not_concluded)
            (none_of_them (is_abort d) (has_concluded d) rs (own_abort_concludes d) doubt.not_concluded);
        not_forgotten = none_of_them (is_forgot d) (has_concluded d) rs (forgot_concludes d)
            doubt.not_concluded;
      }

  answers : (later : World) → WorldHolds tree later → sent (is_joined_message c t) later.net ≡ true
      → Later (pair_reading tree w c t) (pair_reading tree later c t) → (o : Outcome)
      → sent (is_outcome_message o (child_case c.txn t)) w.net ≡ true
      → InDoubt (w.at t.child) (child_case c.txn t)
      → Tells later c.txn o
  answers later h' joined' f CommittedOutcome e doubt =
      says_commit later c.txn ((pair_answers c.txn.presumption).commit_is_true r (pair_reading tree later c t)
      (joined_pair tree w h c t joined).1 f (joined_pair tree later h' c t joined').1 e (in_doubt doubt))
  answers later h' joined' f AbortedOutcome e doubt =
      says_abort later c.txn ((pair_answers c.txn.presumption).abort_is_true r (pair_reading tree later c t)
      (joined_pair tree w h c t joined).1 f (joined_pair tree later h' c t joined').1 e (in_doubt doubt))

pub true_answers : (tree : List TreeProcess) → IsTree tree → ProcessLaws tree → (es : List Made) (w : World)
    → IsRun tree es w → WorldHolds tree w → TrueAnswers tree w
true_answers tree is_tree laws es w run h = record {
  tells_outcome = λ x t o e doubt fs later on.
      let g = given w.net x t (h.about_given (child_case x t)
      (sent_other (is_outcome_message o (child_case x t)) (is_about (child_case x t)) w.net (about_so o
      (child_case x t)) e)) in
      let f = onward_holds tree is_tree laws es w run h fs later on in
      let joined = f.net (is_joined_message g.of t) g.joined in
      let pair = joined_pair tree w h g.of t g.joined in
      let free = is_free later.net later.net g.of t (λ d k. k) f.holds.joined_once joined in
      subst (λ (y : Txn). sent (is_outcome_message o (child_case y t)) w.net ≡ true
      → InDoubt (w.at t.child) (child_case y t)
      → Tells later y o) g.same (answers tree w h g.of t g.joined later f.holds joined (f.later g.of t pair.0
      free) o) e doubt;
}
