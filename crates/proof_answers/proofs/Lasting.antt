-- What an answer says stays the end of its transaction.
use Rattle.std.proofs.Common.{◌≡◌, ◌∙◌, inl, inr, Bool, true, false, if◌then◌else◌, Option, Some, None, List, refl, sym, subst, arith}
use Rattle.protocol.specs.declared.names.Case.{Case}
use Rattle.protocol.specs.declared.names.Outcome.{Outcome}
use Rattle.protocol.specs.declared.names.Outcome.TheVariants.{Committed, Aborted}
use Rattle.protocol.specs.declared.names.Ticket.{Ticket}
use Rattle.protocol.specs.declared.names.Txn.{Txn}
use Rattle.protocol.specs.declared.records.Record.{Record}
use Rattle.protocol.specs.declared.trees.TreeProcess.{TreeProcess}
use Rattle.protocol.specs.Names.{child_case, process_of, root_case}
use Rattle.protocol.specs.Nodes.{Role, AtRoot, Below, AtLeaf, is_listed, kept, role_of}
use Rattle.protocol.specs.Outcomes.{TakesPart, at_root, below, has_accepted, is_commit_outcome, is_joined_message, outcome_of, sent}
use Rattle.protocol.specs.Records.{has, is_abort, is_collecting, is_commit}
use Rattle.protocol.specs.Trees.{IsTree}
use Rattle.protocol.specs.World.{Made, World}
use Rattle.proof_pairs.specs.Invariant.{Common}
use Rattle.proof_pairs.specs.Reading.{Reading}
use Rattle.protocol.specs.Audits.{is_promise}
use Rattle.proof_processes.specs.WorldHolds.{WorldHolds, is_record_of, pair_reading}
use Rattle.proof_processes.proofs.Ended.{by_abort}
use Rattle.proof_processes.proofs.PairOf.{common_of}
use Rattle.proof_processes.proofs.RootBegins.{all_begun}
use Rattle.proof_processes.proofs.RootCases.{InHistory, accepted, recorded}
use Rattle.proof_processes.proofs.RootHistories.{among}
use Rattle.proof_processes.proofs.RootsHold.{all_never}
use Rattle.proof_processes.proofs.Tests.{and, both, either}
use Rattle.proof_processes.proofs.Worlds.{all_last, has_other}
use Rattle.protocol.specs.Audits.{has_line_in, has_place, is_case_at, is_root_role, logs_of_world, since_promise}
use Rattle.proof_headline.proofs.Pairs.{joined_pair, takes}
use Rattle.proof_headline.proofs.Parts.{case_parts, standing_world, told}
use Rattle.proof_headline.proofs.auditor.RootLines.{kept_commit}
use Rattle.proof_headline.proofs.auditor.Sinces.{line_same}
use Rattle.proof_headline.proofs.runs.Headline.{the_world_holds}
use Rattle.log_script.specs.declared.line.ProcessLog.{ProcessLog}
use Rattle.audit_tree.specs.Reports.{kept_lists}
use Rattle.resolve_engine.specs.declared.asked.Trust.{Trust}
use Rattle.resolve_engine.specs.declared.asked.Trust.TheVariants.{Complete, Parts}
use Rattle.resolve_engine.specs.Answers.{answer_of, word_by}
use Rattle.resolve_engine.specs.Truths.{AreLogsKept, IsCaseLeft}
use Rattle.resolve_engine.proofs.TrueAnswers.{answers_true}
use Rattle.proof_answers.specs.Lasting.{AnswersLast, Stays, StaysAfterRestart, StaysBy}
use Rattle.proof_answers.proofs.Ever.{commit_stays, never_after_restart, refused_stays, shut_stays}
use Rattle.proof_answers.proofs.Refusals.{Ground, Promised, issuer_by_ticket, line_promised, promised_pair, refusal, rests_on, root_aborts}

-- Outcomes by their test.

says_commit : (w : World) (x : Txn) → is_commit_outcome w x ≡ true → outcome_of w x ≡ Committed
says_commit w x e = rw e refl

says_abort : (w : World) (x : Txn) → is_commit_outcome w x ≡ false → outcome_of w x ≡ Aborted
says_abort w x e = rw e refl

is_commit_said : (b : Bool) → (if b then Committed else Aborted) ≡ Committed → b ≡ true
is_commit_said true e = refl
is_commit_said false e = absurd (cc)

is_abort_said : (b : Bool) → (if b then Committed else Aborted) ≡ Aborted → b ≡ false
is_abort_said true e = absurd (cc)
is_abort_said false e = refl

is_top : (role : Role) → is_root_role role ≡ true → role ≡ AtRoot
is_top AtRoot e = refl
is_top (Below p) e = absurd (cc)
is_top (AtLeaf p) e = absurd (cc)

commit_record : (d : Case) (r : Record) → is_commit d r ≡ true → is_record_of d r ≡ true
commit_record d r e = grind arith

abort_record : (d : Case) (r : Record) → is_abort d r ≡ true → is_record_of d r ≡ true
abort_record d r e = grind arith

collecting_record : (d : Case) (r : Record) → is_collecting d r ≡ true → is_record_of d r ≡ true
collecting_record d r e = grind arith

-- who takes part was accepted below the root
begun_below : (w : World) (x : Txn) (t : Ticket) → TakesPart w x t → (u : Ticket)
    × (has_accepted (w.at x.root) (root_case x) u ≡ true)
begun_below w x _ (at_root t a) = (t, a)
begun_below w x _ (below u t up a) = begun_below w x u up

module _ (tree : List TreeProcess) (t : IsTree tree) (logs : List ProcessLog) (es : List Made) (w : World)
    (left : AreLogsKept tree logs es w) where
  holds : WorldHolds tree w
  holds = the_world_holds tree t es w left.is_run

  -- where a line stands

  record Line (c : Case) : Type 0 where
    listed : is_listed tree (process_of c) ≡ true
    place : has_place (role_of tree (process_of c)) c.ticket ≡ true
    top_listed : is_listed tree c.txn.root ≡ true
    top : role_of tree c.txn.root ≡ AtRoot
    shown : has_line_in (role_of tree (process_of c)) c
        (since_promise c (logs_of_world w (process_of c))) ≡ true

  line_of : (c : Case) → IsCaseLeft tree logs w c → Line c
  line_of c is_so =
      let f = both (is_listed tree (process_of c)) _ is_so.line in
      let g = both (is_case_at tree (process_of c) c) _ f.1 in
      let parts = both _ _ g.0 in
      let root = both (is_listed tree c.txn.root) _ parts.1 in
      record {
        listed = f.0;
        place = (both _ _ parts.0).1;
        top_listed = root.0;
        top = is_top (role_of tree c.txn.root) root.1;
        shown = g.1;
      }

  -- its root has begun the transaction

  begun_at : (x : Txn) → role_of tree x.root ≡ AtRoot → InHistory (w.at x.root) (root_case x)
      → among x (w.at x.root).begun ≡ true
  begun_at x top h = (all_begun tree es w left.is_run x.root top).in_histories (root_case x) h

  root_begun : (x : Txn) → Line (root_case x) → among x (w.at x.root).begun ≡ true
  root_begun x l =
      let n = w.at x.root in
      let lasts = all_last tree es w left.is_run x.root in
      let shown : has_line_in AtRoot (root_case x) (kept n) ≡ true =
      sym (line_same (role_of tree x.root) n (root_case x) lasts AtRoot)
      ∙ subst (λ (r : Role). has_line_in r (root_case x) (since_promise (root_case x) (kept n)) ≡ true)
      l.top l.shown in
      begun_at x l.top (recorded (lasts.nested.kept_was_written (is_record_of (root_case x)) (λ k. refl)
      (by_line shown)))
    where
      by_line : has_line_in AtRoot (root_case x) (kept (w.at x.root)) ≡ true
          → has (is_record_of (root_case x)) (kept (w.at x.root)) ≡ true
      by_line e =
          let rs = kept (w.at x.root) in
          elim (either _ _ e) [
            | inl decided ↦ elim (either _ _ decided) [
              | inl commit ↦ has_other (is_commit (root_case x)) (is_record_of (root_case x)) rs
                  (commit_record (root_case x)) commit
              | inr abort ↦ has_other (is_abort (root_case x)) (is_record_of (root_case x)) rs
                  (abort_record (root_case x)) abort
            ]
            | inr collects ↦ has_other (is_collecting (root_case x)) (is_record_of (root_case x)) rs
                (collecting_record (root_case x)) (both _ _ collects).0
          ]

  below_begun : (x : Txn) (u : Ticket) → Line (child_case x u) → among x (w.at x.root).begun ≡ true
  below_begun x u l =
      let i = issuer_by_ticket (role_of tree u.child) u l.place in
      let promised : Promised (child_case x u) (kept (w.at u.child)) =
      line_promised (role_of tree u.child) (w.at u.child) (child_case x u) i
      (holds.nodes u.child l.listed).lasts l.shown in
      let p = promised_pair tree t logs es w left (child_case x u) x u l.listed i promised.promised in
      by_pair p.of p.same p.joined promised.promised
    where
      by_part : (y : Txn) → y ≡ x → TakesPart w y u → among x (w.at x.root).begun ≡ true
      by_part y same part =
          let a = begun_below w x u (subst (λ (z : Txn). TakesPart w z u) same part) in
          begun_at x l.top (accepted a.0 a.1)

      by_pair : (b : Case) → b.txn ≡ x → sent (is_joined_message b u) w.net ≡ true
          → has (is_promise (child_case x u)) (kept (w.at u.child)) ≡ true
          → among x (w.at x.root).begun ≡ true
      by_pair b same joined promised =
          let r : Reading = pair_reading tree w b u in
          let pair = joined_pair tree w holds b u joined in
          let k : Common r = common_of b.txn.presumption r pair.1 in
          let kept_so : r.prepared_kept ≡ true =
          subst (λ (z : Txn). has (is_promise (child_case z u)) (kept (w.at u.child)) ≡ true)
          (sym same) promised in
          let part = k.asked_takes_part (k.promise_was_asked kept_so) in
          let s = standing_world tree w holds in
          by_part b.txn same (told tree w s t b.txn u
          (takes tree t w s b u pair.0 joined ∙ and _ _ part.0 part.1))

  abbrev Begun : Case → Type 0
  Begun d = Line d → among d.txn (w.at d.txn.root).begun ≡ true

  begun_so : (c : Case) → Line c → among c.txn (w.at c.txn.root).begun ≡ true
  begun_so c = by_ticket c.ticket refl
    where
      by_ticket : (o : Option Ticket) → c.ticket ≡ o → Begun c
      by_ticket None f = subst Begun (sym (case_parts c c.txn None refl f)) (root_begun c.txn)
      by_ticket (Some u) f = subst Begun (sym (case_parts c c.txn (Some u) refl f)) (below_begun c.txn u)

  -- Each answer.

  module _ (c : Case) (is_left : IsCaseLeft tree logs w c) where
    abbrev x : Txn
    x = c.txn

    line : Line c
    line = line_of c is_left

    outcome_now : (trust : Trust) (o : Outcome)
        → (answer_of trust tree logs (kept_lists tree logs) c).word ≡ word_by o → outcome_of w c.txn ≡ o
    outcome_now trust o e = answers_true tree logs es w t left c is_left trust o e

    commit_lasts : outcome_of w c.txn ≡ Committed → Stays tree w c.txn Committed
    commit_lasts e = λ fs later on.
        says_commit later x (commit_stays tree x w fs later on (is_commit_said (is_commit_outcome w x) e))

    -- an Abort of the root
    shut_by_abort : role_of tree c.txn.root ≡ AtRoot
        → has (is_abort (root_case c.txn)) (kept (w.at c.txn.root)) ≡ true → Stays tree w c.txn Aborted
    unfolding is_commit_outcome
    shut_by_abort top e = λ fs later on.
        says_abort later x (shut_stays tree x es w left.is_run top (record {
          known = begun_so c line;
          dead = (all_never tree es w left.is_run x.root top).dead (root_case x)
              (by_abort ((all_last tree es w left.is_run x.root).nested.kept_was_written
              (is_abort (root_case x))
              (λ k. refl) e));
        }) fs later on).dead.none_ever

    parts_abort : (answer_of Parts tree logs (kept_lists tree logs) c).word ≡ word_by Aborted
        → Stays tree w c.txn Aborted
    parts_abort e = by_ground (rests_on tree t logs es w left c is_left e)
      where
        by_ground : Ground tree t logs es w left c → Stays tree w c.txn Aborted
        by_ground (refusal r) = λ fs later on. says_abort later x
            (refused_stays tree t es w left.is_run x r fs later on)
        by_ground (root_aborts top a) = shut_by_abort top a

    complete_abort : outcome_of w c.txn ≡ Aborted → StaysAfterRestart tree w c.txn Aborted
    unfolding is_commit_outcome
    complete_abort e = λ fs later on r.
        let none = is_abort_said (is_commit_outcome w x) e in
        says_abort later x
        (never_after_restart tree x es w left.is_run line.top (begun_so c line) (none_kept none)
        (none_ever none) fs later on r)
      where
        none_ever : is_commit_outcome w c.txn ≡ false
            → has (is_commit (root_case c.txn)) (w.at c.txn.root).durable ≡ false
        none_ever none = none

        none_kept : is_commit_outcome w c.txn ≡ false
            → has (is_commit (root_case c.txn)) (kept (w.at c.txn.root)) ≡ false
        none_kept none = by_test (has (is_commit (root_case x)) (kept (w.at x.root))) refl
          where
            by_test : (b : Bool) → has (is_commit (root_case c.txn)) (kept (w.at c.txn.root)) ≡ b
                → has (is_commit (root_case c.txn)) (kept (w.at c.txn.root)) ≡ false
            by_test false f = f
            by_test true f = absurd (let y = sym none
                ∙ kept_commit tree es w left.is_run x line.top (left.all_up x.root line.top_listed) f in cc)

    lasts : (trust : Trust) (o : Outcome)
        → (answer_of trust tree logs (kept_lists tree logs) c).word ≡ word_by o → StaysBy trust o tree w c.txn
    lasts Complete Aborted e = complete_abort (outcome_now Complete Aborted e)
    lasts Complete Committed e = commit_lasts (outcome_now Complete Committed e)
    lasts Parts Committed e = commit_lasts (outcome_now Parts Committed e)
    lasts Parts Aborted e = parts_abort e

-- whichever run left the logs
pub answers_last : AnswersLast
answers_last tree logs es w t left c is_left trust o e = lasts tree t logs es w left c is_left trust o e
