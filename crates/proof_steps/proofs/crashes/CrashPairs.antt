-- A restart or a trim of a coordinator keeps each pair below it: from what is known of its process and of
-- the net.
use Rattle.std.proofs.Common.{◌≡◌, ◌∙◌, Bool, true, false, Option, Some, None, List, [], ◌++◌, refl, sym, ap, subst, arith}
use Rattle.std.proofs.lemmas.List.{append-nil}
use Rattle.protocol.specs.declared.names.Case.{Case}
use Rattle.protocol.specs.declared.names.ProcessId.{ProcessId}
use Rattle.protocol.specs.declared.names.Presumption.{Presumption}
use Rattle.protocol.specs.declared.names.Presumption.TheVariants.{PresumeAbort, PresumeCommit}
use Rattle.protocol.specs.declared.names.Ticket.{Ticket}
use Rattle.protocol.specs.declared.names.Txn.{Txn}
use Rattle.protocol.specs.declared.messages.Envelope.{Envelope}
use Rattle.protocol.specs.declared.messages.Message.{Message}
use Rattle.protocol.specs.declared.messages.Message.TheVariants.{Join, Joined, Work, Prepare as PrepareMessage, Yes, No, Read, Commit, Abort, Ack, Inquire}
use Rattle.protocol.specs.declared.records.Record.{Record}
use Rattle.protocol.specs.declared.standings.Standing.{Standing}
use Rattle.protocol.specs.declared.standings.Standing.TheVariants.{Unknown, Active, Collecting, Prepared, Committing, Aborting, Heuristic}
use Rattle.protocol_words.specs.Variants.{Handles}
use Rattle.protocol.specs.declared.trees.TreeProcess.{TreeProcess}
use Rattle.protocol.specs.Names.{child_case, process_of, root_case, same_case}
use Rattle.protocol.specs.NameLaws.{names}
use Rattle.protocol.specs.Records.{has, is_commit, is_prepare}
use Rattle.protocol.specs.Nodes.{AtRoot, Below, Effect, Node, Place, kept, role_of}
use Rattle.protocol.specs.Memory.{Phase, Idle, Open, Asked, Over, fresh_memory, memory_of}
use Rattle.protocol.specs.Outcomes.{is_joined_message, is_read_message, sent}
use Rattle.protocol.specs.Restarts.{left_of, reopens, restart_effect, restart_fails, restarted, trim_fails, trims}
use Rattle.protocol.specs.Standings.{coordinator_view, phase_standing, standing_by}
use Rattle.protocol.specs.Views.{IsOpenAlike, root_place}
use Rattle.protocol.specs.World.{Move}
use Rattle.proof_pairs.specs.Reading.{Closed, Active as ActivePhase, Collecting as CollectingPhase}
use Rattle.proof_pairs.specs.Reading
use Rattle.proof_pairs.specs.readings.ReadingOf.{ChildHalf, is_root_ticket, parent_half, parent_half_at, phase_by, reading_from, wire}
use Rattle.protocol.specs.Audits.{is_decision_naming}
use Rattle.proof_pairs.specs.turns.Steps.{StepOf, handled, failed_in, passed, failed_passing, reopened, failed_reopening, trims_log, failed_trimming}
use Rattle.proof_processes.specs.Lasts.{logs_of, Nested}
use Rattle.proof_processes.specs.ProcessSteps.{ParentStep}
use Rattle.proof_processes.specs.WorldHolds.{Coordinates, InvariantOf, IsFree, IsPair, IsParentRole, gives_other, is_record_of, has_begun}
use Rattle.protocol.specs.Audits.{is_naming}
use Rattle.proof_processes.proofs.CaseOrders.{AllFit}
use Rattle.proof_processes.proofs.Boots.{trims_memory}
use Rattle.proof_processes.proofs.Cases.{viewed}
use Rattle.proof_processes.proofs.GivenCases.{sent_other}
use Rattle.proof_processes.proofs.Tests.{case_is}
use Rattle.proof_processes.proofs.Worlds.{has_other}
use Rattle.proof_steps.proofs.children.Moves.{Fits}
use Rattle.proof_steps.specs.crashes.CoordinatorCrashes.{IsCrash}
use Rattle.proof_steps.proofs.crashes.Crashes.{forgetful}
use Rattle.proof_steps.proofs.crashes.CrashSteps

-- How open a case is, by its phase in memory.

abbrev pub by_phase : Phase → Reading.HeldPhase
by_phase Open = ActivePhase
by_phase Asked = CollectingPhase
by_phase Idle = Closed
by_phase Over = Closed

active_open : (p : Presumption) (e m a r k n : Bool) (ph : Phase)
    → standing_by e m a r k n (phase_standing p ph) ≡ Active → ph ≡ Open
active_open p e m a r k n Open f = refl
active_open p true m a r k n Idle f = absurd (cc)
active_open p true m a r k n Asked f = absurd (cc)
active_open p true m a r k n Over f = absurd (cc)
active_open p false true a r k true Idle f = absurd (cc)
active_open p false true a r k false Idle f = absurd (cc)
active_open p false true a r k true Asked f = absurd (cc)
active_open p false true a r k false Asked f = absurd (cc)
active_open p false true a r k true Over f = absurd (cc)
active_open p false true a r k false Over f = absurd (cc)
active_open p false false true r k true Idle f = absurd (cc)
active_open p false false true r k false Idle f = absurd (cc)
active_open p false false true r k true Asked f = absurd (cc)
active_open p false false true r k false Asked f = absurd (cc)
active_open p false false true r k true Over f = absurd (cc)
active_open p false false true r k false Over f = absurd (cc)
active_open p false false false true k n Idle f = absurd (cc)
active_open p false false false true k n Asked f = absurd (cc)
active_open p false false false true k n Over f = absurd (cc)
active_open p false false false false true n Idle f = absurd (cc)
active_open p false false false false true n Asked f = absurd (cc)
active_open p false false false false true n Over f = absurd (cc)
active_open PresumeAbort false false false false false n Idle f = absurd (cc)
active_open PresumeAbort false false false false false n Asked f = absurd (cc)
active_open PresumeAbort false false false false false n Over f = absurd (cc)
active_open PresumeCommit false false false false false n Idle f = absurd (cc)
active_open PresumeCommit false false false false false n Asked f = absurd (cc)
active_open PresumeCommit false false false false false n Over f = absurd (cc)

phase_over : (s : Standing) → (s ≡ Active → ⊥) → (s ≡ Collecting → ⊥) → phase_by false s ≡ Closed
phase_over Active f g = absurd (f refl)
phase_over Collecting f g = absurd (g refl)
phase_over Unknown f g = refl
phase_over Prepared f g = refl
phase_over Committing f g = refl
phase_over Aborting f g = refl
phase_over Heuristic f g = refl

module _ (place : Place) (n : Node) (c : Case) (alike : IsOpenAlike place n c) where
  pub is_active : (coordinator_view place n c).standing ≡ Active → (memory_of place n c).phase ≡ Open
  is_active e =
      active_open c.txn.presumption _ _ _ _ _ _ (memory_of place n c).phase (sym (viewed place n c) ∙ e)

  open_by : (ph : Phase) → (memory_of place n c).phase ≡ ph
      → phase_by false (coordinator_view place n c).standing ≡ by_phase ph
  open_by Open e = ap (phase_by false) (alike.open_is_active e)
  open_by Asked e = ap (phase_by false) (alike.asked_is_collecting e)
  open_by Idle e =
      phase_over (coordinator_view place n c).standing
      (λ f. differ (sym e ∙ is_active f)) (λ f. apart (sym e ∙ alike.collecting_is_asked f))
    where
      differ : Idle ≡ Open → ⊥
      differ x = cc

      apart : Idle ≡ Asked → ⊥
      apart x = cc
  open_by Over e =
      phase_over (coordinator_view place n c).standing
      (λ f. differ (sym e ∙ is_active f)) (λ f. apart (sym e ∙ alike.collecting_is_asked f))
    where
      differ : Over ≡ Open → ⊥
      differ x = cc

      apart : Over ≡ Asked → ⊥
      apart x = cc

  pub open_so : phase_by false (coordinator_view place n c).standing ≡ by_phase (memory_of place n c).phase
  open_so = open_by (memory_of place n c).phase refl

-- Whose case names the ticket.

module _ (x c : Case) (t : Ticket) (other : same_case x c ≡ false) where
  gives_it : (m : Message) → is_joined_message x t m ≡ true → gives_other c t m ≡ true
  gives_it (Joined d u) e = grind (arith, names, e, other)
  gives_it (Join d) e = absurd (cc)
  gives_it (Work d i op) e = absurd (cc)
  gives_it (PrepareMessage d k) e = absurd (cc)
  gives_it (Yes d) e = absurd (cc)
  gives_it (No d) e = absurd (cc)
  gives_it (Read d) e = absurd (cc)
  gives_it (Commit d) e = absurd (cc)
  gives_it (Abort d) e = absurd (cc)
  gives_it (Ack d o fs) e = absurd (cc)
  gives_it (Inquire d) e = absurd (cc)

  gives_there : (net : List Envelope) → sent (is_joined_message x t) net ≡ true
      → sent (gives_other c t) net ≡ true
  gives_there net e = sent_other (is_joined_message x t) (gives_other c t) net gives_it e

-- a ticket that no other case was given is that of this case
pub free_is : (net : List Envelope) (x c : Case) (t : Ticket) → IsFree net c t
    → sent (is_joined_message x t) net ≡ true → x ≡ c
free_is net x c t free e = by_test (same_case x c) refl
  where
    ends : {A : Type 0} → true ≡ false → A
    ends z = absurd (cc)

    by_test : (b : Bool) → same_case x c ≡ b → x ≡ c
    by_test true f = case_is x c f
    by_test false f = ends (sym (gives_there x c t f net e) ∙ free)

module _ (place : Place) (net : List Envelope) (n : Node) (coordinates : Coordinates place net n)
    (nested : Nested (logs_of n)) (c : Case) (t : Ticket) (free : IsFree net c t)
  where
    naming : (x : Case) (r : Record) → is_decision_naming x t r ≡ true → is_naming x t r ≡ true
    naming x r e = grind (arith, e)

    -- only the case's own decision names the ticket
    pub names_own : (x : Case) → has (is_decision_naming x t) (kept n) ≡ true → x ≡ c
    names_own x e =
        free_is net x c t free
        (coordinates.accepted_was_joined x t
        (coordinates.named_accepted x t
        (nested.kept_was_written (is_naming x t) (λ k. refl)
        (has_other (is_decision_naming x t) (is_naming x t) (kept n) (naming x) e)))).1

-- The steps.

begun_half : (me : ProcessId) (tree : List TreeProcess) (n : Node) (c : Case) (t : Ticket) (s : Standing)
    (x : Txn)
    → c ≡ root_case x
    → (parent_half_at s (memory_of (root_place me tree) n c) n c t).begun ≡ has_begun (root_place me tree) n x
begun_half me tree n c t s x e =
    subst (λ (d : Case). (parent_half_at s (memory_of (root_place me tree) n d) n d t).begun
    ≡ has_begun (root_place me tree) n x) (sym e) refl

-- what is known of the process, before the step and after it
pub record NodeFacts (place : Place) (net : List Envelope) (n : Node) : Type 0 where
  pub coordinates : Coordinates place net n
  pub nested : Nested (logs_of n)
  pub fit : AllFit [] (kept n)

module _ (place : Place) (net ls : List Envelope) (n k : Node) (now : NodeFacts place net n) (c : Case)
    (t : Ticket)
    (free : IsFree (net ++ ls) c t)
  where
    -- a trim leaves the case as open as it was
    as_open : (then : Node) → Coordinates place (net ++ ls) then → n.failed ≡ false → then.failed ≡ n.failed
        → memory_of place then c ≡ memory_of place n c
        → phase_by n.failed (coordinator_view place then c).standing
        ≡ phase_by n.failed (coordinator_view place n c).standing
    as_open then after up still same =
        ap (λ b. phase_by b (coordinator_view place then c).standing) up
        ∙ (open_so place then c (after.alike (still ∙ up) c)
        ∙ (ap (λ m. by_phase m.phase) same
        ∙ (sym (open_so place n c (now.coordinates.alike up c))
        ∙ ap (λ b. phase_by b (coordinator_view place n c).standing) (sym up))))

module _ (me : ProcessId) (tree : List TreeProcess) (n : Node) (net : List Envelope)
    (at_top : role_of tree me ≡ AtRoot) (now : NodeFacts (root_place me tree) net n)
    (own : (d : Case) → has (is_record_of d) n.life ≡ true → d.ticket ≡ None)
    (m : Move) (crash : IsCrash m.step.happening)
  where
    abbrev root : Place
    root = root_place me tree

    no_handling : {A : Type 0} → (i : _) → m.step.happening ≡ Handles i → A
    no_handling i e = absurd (subst IsCrash e crash)

    no_ticket : (c : Case) (t : Ticket) → IsPair tree c t → process_of c ≡ me → c.ticket ≡ None
    no_ticket c t pair same =
        by_ticket c.ticket (subst (λ r. IsParentRole r c.ticket) (ap (role_of tree) same ∙ at_top)
        pair.parent.role)
      where
        by_ticket : (o : Option Ticket) → IsParentRole AtRoot o → o ≡ None
        by_ticket None e = refl
        by_ticket (Some u) e = absurd e

    is_root : (c : Case) → c.ticket ≡ None → c ≡ root_case c.txn
    is_root c e = ap (λ (o : Option Ticket). record { txn = c.txn; ticket = o }) e

    promise_record : (d : Case) (r : Record) → is_prepare d r ≡ true → is_record_of d r ≡ true
    promise_record d r e = grind arith

    none_here : (x : Txn) (t : Ticket) → has (is_prepare (child_case x t)) (kept n) ≡ false
    none_here x t = by_test (has (is_prepare (child_case x t)) (kept n)) refl
      where
        ends : {A : Type 0} → Some t ≡ None → A
        ends z = absurd (cc)

        by_test : (b : Bool) → has (is_prepare (child_case x t)) (kept n) ≡ b
            → has (is_prepare (child_case x t)) (kept n) ≡ false
        by_test true e =
            ends (own (child_case x t)
            (now.nested.kept_was_written (is_record_of (child_case x t)) (λ z. refl)
            (has_other (is_prepare (child_case x t)) (is_record_of (child_case x t)) (kept n)
            (promise_record (child_case x t)) e)))
        by_test false e = e

    module _ (c : Case) (t : Ticket) (top : c.ticket ≡ None) (manager above : Bool) (kh : ChildHalf) where
      abbrev seen : List Envelope → Node → Reading.Reading
      seen ls x = reading_from true manager (has (is_commit c) x.durable) above (parent_half root x c t) kh
          (wire c t ls)

      same_begun : (k : Node) (s s' : Standing) → memory_of root k c ≡ fresh_memory
          → has_begun root k c.txn ≡ has_begun root n c.txn
          → (parent_half_at s' fresh_memory k c t).begun ≡ (parent_half_at s (memory_of root n c) n c t).begun
      same_begun k s s' fresh same =
          ap (λ x. (parent_half_at s' x k c t).begun) (sym fresh)
          ∙ (begun_half me tree k c t s' c.txn (is_root c top)
          ∙ (same ∙ sym (begun_half me tree n c t s c.txn (is_root c top))))

      pub follows_root : (e : Effect) (k : Node) → StepOf (root_place me tree) n m e k
          → NodeFacts (root_place me tree) (net ++ e.messages) k
          → has_begun root k c.txn ≡ has_begun root n c.txn → IsFree (net ++ e.messages) c t
          → InvariantOf c.txn.presumption (seen net n)
          → Fits c.txn.presumption (seen net n) (seen (net ++ e.messages) k)
      follows_root _ _ (reopened j hp) then begun free inv =
          let k = restarted root n j in
          let rs = left_of n j ++ reopens AtRoot (left_of n j) in
          CrashSteps.root_reopens me tree n j c t now.nested now.fit manager above kh net (none_here c.txn t)
          (λ x f. names_own root (net ++ (restart_effect root n j).messages) k then.coordinates
          then.nested c t free x
          (ap (has (is_decision_naming x t)) (append-nil rs) ∙ f))
          (same_begun k (coordinator_view root n c).standing (coordinator_view root k c).standing
          (forgetful root k c refl) begun) inv
      follows_root _ _ (failed_reopening j f fl hp) then begun free inv =
          let k = restart_fails root n j f.appended f.forced in
          subst (λ ls. Fits c.txn.presumption (seen net n) (seen ls k)) (sym (append-nil net))
          (CrashSteps.root_breaks me tree n j c t now.nested now.fit manager above kh net (none_here c.txn t)
          f.appended f.forced then.fit (same_begun k (coordinator_view root n c).standing
          (coordinator_view root k c).standing
          (forgetful root k c refl) begun) inv)
      follows_root _ _ (trims_log hp up) then begun free inv =
          subst (λ ls. Fits c.txn.presumption (seen net n) (seen ls (trims root n))) (sym (append-nil net))
          (CrashSteps.root_trims me tree n c t manager above kh (wire c t net) (now.coordinates.names c) up
          (as_open root net [] n (trims root n) now c t free (trims root n) then.coordinates up refl
          (trims_memory root n c)) inv)
      follows_root _ _ (failed_trimming f fl hp up) then begun free inv =
          subst (λ ls. Fits c.txn.presumption (seen net n) (seen ls (trim_fails root n f.appended)))
          (sym (append-nil net))
          (CrashSteps.root_trim_breaks me tree n c t manager above kh (wire c t net)
          (now.coordinates.names c) up
          f.appended inv)
      follows_root _ _ (handled i g hp np r) then begun free inv = no_handling i hp
      follows_root _ _ (failed_in i f g fl hp np r) then begun free inv = no_handling i hp
      follows_root _ _ (passed i hp r) then begun free inv = no_handling i hp
      follows_root _ _ (failed_passing i f fl hp r) then begun free inv = no_handling i hp

    pub root_crashes : (e : Effect) (k : Node) → StepOf (root_place me tree) n m e k
        → NodeFacts (root_place me tree) (net ++ e.messages) k
        → ((x : Txn) → has_begun (root_place me tree) k x ≡ has_begun (root_place me tree) n x)
        → ParentStep (root_place me tree) net e.messages n k
    root_crashes e k s then begun = record {
      follows = λ c t pair same free manager outcome above kh abv inv.
          let top = no_ticket c t pair same in
          subst (λ b. InvariantOf c.txn.presumption
          (reading_from b manager (has (is_commit c) n.durable) above (parent_half root n c t) kh
          (wire c t net))
          → Fits c.txn.presumption
          (reading_from b manager (has (is_commit c) n.durable) above (parent_half root n c t) kh
          (wire c t net))
          (reading_from b manager (has (is_commit c) k.durable) above (parent_half root k c t) kh
          (wire c t (net ++ e.messages)))) (sym (ap is_root_ticket top))
          (follows_root c t top manager above kh e k s then (begun c.txn) free) inv;
    }

module _ (me p : ProcessId) (tree : List TreeProcess) (n : Node) (net : List Envelope)
    (at_below : role_of tree me ≡ Below p)
    (now : NodeFacts (record { me = me; role = Below p; tree = tree }) net n)
    (own : (d : Case) → has (is_record_of d) n.life ≡ true → process_of d ≡ me)
    (apart : (c : Case) (t : Ticket) → IsPair tree c t → process_of c ≡ me → t.child ≡ me → ⊥)
    (quiet : (c : Case) → sent (is_read_message c) net ≡ true → has (is_prepare c) n.life ≡ false)
    (m : Move) (crash : IsCrash m.step.happening)
  where
    abbrev place : Place
    place = record { me = me; role = Below p; tree = tree }

    not_handled : {A : Type 0} → (i : _) → m.step.happening ≡ Handles i → A
    not_handled i e = absurd (subst IsCrash e crash)

    has_ticket : (c : Case) (t : Ticket) → IsPair tree c t → process_of c ≡ me → is_root_ticket c.ticket
        ≡ false
    has_ticket c t pair same =
        by_ticket c.ticket (subst (λ r. IsParentRole r c.ticket) (ap (role_of tree) same ∙ at_below)
        pair.parent.role)
      where
        by_ticket : (o : Option Ticket) → IsParentRole (Below p) o → is_root_ticket o ≡ false
        by_ticket None e = absurd e
        by_ticket (Some u) e = refl

    promised_here : (d : Case) (r : Record) → is_prepare d r ≡ true → is_record_of d r ≡ true
    promised_here d r e = grind arith

    none_of_child : (x : Txn) (t : Ticket) → (t.child ≡ me → ⊥)
        → has (is_prepare (child_case x t)) (kept n) ≡ false
    none_of_child x t other = by_test (has (is_prepare (child_case x t)) (kept n)) refl
      where
        by_test : (b : Bool) → has (is_prepare (child_case x t)) (kept n) ≡ b
            → has (is_prepare (child_case x t)) (kept n) ≡ false
        by_test true e =
            absurd (other (own (child_case x t)
            (now.nested.kept_was_written (is_record_of (child_case x t)) (λ z. refl)
            (has_other (is_prepare (child_case x t)) (is_record_of (child_case x t)) (kept n)
            (promised_here (child_case x t)) e))))
        by_test false e = e

    module _ (c : Case) (t : Ticket) (other : t.child ≡ me → ⊥) (manager outcome above : Bool)
        (kh : ChildHalf) where
      abbrev seen_so : List Envelope → Node → Reading.Reading
      seen_so ls x = reading_from false manager outcome above (parent_half place x c t) kh (wire c t ls)

      pub follows_below : (e : Effect) (k : Node) → StepOf place n m e k
          → NodeFacts place (net ++ e.messages) k
          → IsFree (net ++ e.messages) c t
          → InvariantOf c.txn.presumption (seen_so net n)
          → Fits c.txn.presumption (seen_so net n) (seen_so (net ++ e.messages) k)
      follows_below _ _ (reopened j hp) then free inv =
          let k = restarted place n j in
          let rs = left_of n j ++ reopens (Below p) (left_of n j) in
          CrashSteps.below_reopens me tree n j c t now.nested now.fit manager above kh net p outcome
          (none_of_child c.txn t other) (quiet c)
          (λ x f. names_own place (net ++ (restart_effect place n j).messages) k then.coordinates
          then.nested c t free x
          (ap (has (is_decision_naming x t)) (append-nil rs) ∙ f)) inv
      follows_below _ _ (failed_reopening j f fl hp) then free inv =
          let k = restart_fails place n j f.appended f.forced in
          subst (λ ls. Fits c.txn.presumption (seen_so net n) (seen_so ls k)) (sym (append-nil net))
          (CrashSteps.below_breaks me tree n j c t now.nested now.fit manager above kh net p outcome
          (none_of_child c.txn t other) (quiet c) f.appended f.forced then.fit inv)
      follows_below _ _ (trims_log hp up) then free inv =
          subst (λ ls. Fits c.txn.presumption (seen_so net n) (seen_so ls (trims place n)))
          (sym (append-nil net))
          (CrashSteps.below_trims me tree n c t manager above kh (wire c t net) (now.coordinates.names c) up p
          outcome
          (as_open place net [] n (trims place n) now c t free (trims place n) then.coordinates up refl
          (trims_memory place n c)) inv)
      follows_below _ _ (failed_trimming f fl hp up) then free inv =
          subst (λ ls. Fits c.txn.presumption (seen_so net n) (seen_so ls (trim_fails place n f.appended)))
          (sym (append-nil net))
          (CrashSteps.below_trim_breaks me tree n c t manager above kh (wire c t net)
          (now.coordinates.names c)
          up p outcome
          f.appended inv)
      follows_below _ _ (handled i g hp np r) then free inv = not_handled i hp
      follows_below _ _ (failed_in i f g fl hp np r) then free inv = not_handled i hp
      follows_below _ _ (passed i hp r) then free inv = not_handled i hp
      follows_below _ _ (failed_passing i f fl hp r) then free inv = not_handled i hp

    pub cascaded_crashes : (e : Effect) (k : Node) → StepOf place n m e k
        → NodeFacts place (net ++ e.messages) k
        → ParentStep place net e.messages n k
    cascaded_crashes e k s then = record {
      follows = λ c t pair same free manager outcome above kh abv inv.
          subst (λ b. InvariantOf c.txn.presumption
          (reading_from b manager outcome above (parent_half place n c t) kh (wire c t net))
          → Fits c.txn.presumption
          (reading_from b manager outcome above (parent_half place n c t) kh (wire c t net))
          (reading_from b manager outcome above (parent_half place k c t) kh
          (wire c t (net ++ e.messages)))) (sym (has_ticket c t pair same))
          (follows_below c t (apart c t pair same) manager outcome above kh e k s then free) inv;
    }
