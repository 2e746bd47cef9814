-- What holds of the acknowledgements that were sent since a tree was opened last, by the second version:
-- through a step.
use Rattle.std.proofs.Common.{◌≡◌, ◌∙◌, inl, inr, ℕ, zero, suc, false, Some, List, [], ◌∷◌, ◌++◌, refl, sym, ap, subst}
use Rattle.std.specs.List.{flat_map}
use Rattle.protocol.specs.declared.names.Case.{Case}
use Rattle.protocol.specs.declared.names.Outcome.{Outcome}
use Rattle.protocol.specs.declared.names.ProcessId.{ProcessId}
use Rattle.protocol.specs.declared.names.Ticket.{Ticket}
use Rattle.protocol.specs.declared.names.Txn.{Txn}
use Rattle.protocol.specs.declared.messages.Envelope.{Envelope}
use Rattle.protocol.specs.declared.messages.Finding.{Finding}
use Rattle.protocol.specs.declared.messages.Message.{Message}
use Rattle.protocol.specs.declared.messages.Message.TheVariants.{Ack}
use Rattle.protocol_words.specs.Variants.{CaseBranch, Handles}
use Rattle.protocol.specs.declared.records.Record.{Record}
use Rattle.protocol.specs.declared.events.Input.{Input}
use Rattle.protocol.specs.declared.trees.TreeProcess.{TreeProcess}
use Rattle.protocol.specs.Names.{child_case}
use Rattle.protocol.specs.NameLaws.{same_case-refl}
use Rattle.protocol.specs.Records.{cases_in, in_list, unreported_of}
use Rattle.protocol.specs.Nodes.{AtLeaf, Below, Effect, Node, Place, Role, Second, place_of, role_of}
use Rattle.protocol.specs.Memory.{fresh_memory}
use Rattle.protocol.specs.Restarts.{inquires_by, left_of, manager_resumes, recorded_branch, reopens, trim_fails}
use Rattle.protocol.specs.Standings.{Decided, Finished, Mark, Promised, ToldOf, Unmarked, mark_of, marked_branch}
use Rattle.protocol.specs.Trees.{IsTree}
use Rattle.protocol.specs.World.{IsRun, Made, Move, MayHappen, World, makes, put_at, world_makes}
use Rattle.protocol.proofs.ListLaws.{kept-after}
use Rattle.protocol.proofs.RunLaws.{makes_at}
use Rattle.proof_pairs.specs.readings.ReadingOf.{is_ack_message}
use Rattle.proof_pairs.specs.turns.LeafTurns.{Hears}
use Rattle.proof_pairs.specs.turns.Steps.{StepOf, heard_in, handled, failed_in, passed, failed_passing, reopened, failed_reopening, trims_log, failed_trimming}
use Rattle.proof_pairs.proofs.turns.Steps.{step_of, turn_of}
use Rattle.proof_processes.specs.WorldHolds.{AllGo, GoesBy, NodeHolds, WorldHolds}
use Rattle.proof_processes.proofs.CoordinatorAccepts.{turn_here}
use Rattle.proof_processes.proofs.CoordinatorsHold.{all_coordinated, coordinates, premises}
use Rattle.proof_processes.proofs.ManagersHold.{put_or_other}
use Rattle.proof_processes.proofs.Remembering.{coordinator_place}
use Rattle.proof_processes.proofs.RootsHold.{nodes_hold}
use Rattle.proof_steps.proofs.cascades.Senders.{step_sent}
use Rattle.proof_steps.specs.cascades.Messages.{AllSentBy}
use Rattle.proof_headline.proofs.runs.Headline.{the_world_holds}
use Rattle.proof_headline.proofs.runs.NetsHold.{nets_hold}
use Rattle.proof_reports.specs.SinceOpened.{AllHeardAmong, Covers, InputAmong, IsAmong, IsClean, NoneAgainst, SinceOpened}
use Rattle.proof_reports.proofs.Became.{became, forced_after, forced_whole, life_after}
use Rattle.proof_reports.proofs.CoordinatorAcks.{flat_none, resumes_none, turn_acks}
use Rattle.proof_reports.proofs.CoordinatorCovers.{covers_now, covers_still}
use Rattle.proof_reports.proofs.Facts.{IsOver, acked_over}
use Rattle.proof_reports.proofs.Found.{acked_still, among_either, among_sent}
use Rattle.proof_reports.proofs.Lasting.{CoordinatorLasts, all_last}
use Rattle.proof_reports.proofs.ManagerAcks.{leaf_fine}
use Rattle.proof_reports.proofs.ManagerClears.{none_now, none_still}
use Rattle.proof_reports.proofs.ManagerRuns.{all_one, leaf_facts, leaf_node}
use Rattle.proof_reports.proofs.Noted.{heard_more, heard_still}
use Rattle.proof_reports.proofs.Opened.{live_undecided}

-- Who acknowledges.

last_go : (tree : List TreeProcess) (xs ys : List Envelope) → AllGo tree (xs ++ ys) → AllGo tree ys
last_go tree [] ys g = g
last_go tree (x ∷ xs) ys g = last_go tree xs ys g.1

ack_sender : (tree : List TreeProcess) (q : ProcessId) (ls : List Envelope) → AllGo tree ls → AllSentBy q ls
    → (x : Txn) (t : Ticket) (o : Outcome) (fs : List Finding) → IsAmong (Ack (child_case x t) o fs) ls
    → t.child ≡ q
ack_sender tree q [] g s x t o fs i = absurd i
ack_sender tree q (l ∷ ls) g s x t o fs (inl e) = (subst (λ (m : Message). GoesBy tree l m) e g.0).0 ∙ s.0
ack_sender tree q (l ∷ ls) g s x t o fs (inr i) = ack_sender tree q ls g.1 s.1 x t o fs i

-- a manager's restart acknowledges nothing
inquired_none : (me p : ProcessId) (c d : Case) (o : Outcome) (fs : List Finding) (k : Mark)
    → IsAmong (Ack d o fs) (inquires_by me p c (marked_branch fresh_memory k)
    (marked_branch fresh_memory k).standing) → ⊥
inquired_none me p c d o fs Unmarked i = i
inquired_none me p c d o fs Promised (inl e) = cc
inquired_none me p c d o fs Promised (inr i) = i
inquired_none me p c d o fs Decided (inl e) = cc
inquired_none me p c d o fs Decided (inr i) = i
inquired_none me p c d o fs (ToldOf u) i = i
inquired_none me p c d o fs Finished i = i

manager_resumes_none : (me p : ProcessId) (rs : List Record) (d : Case) (o : Outcome) (fs : List Finding)
    (cs : List Case)
    → IsAmong (Ack d o fs) (flat_map (manager_resumes me p rs) cs) → ⊥
unfolding recorded_branch
manager_resumes_none me p rs d o fs cs =
    flat_none d o fs (manager_resumes me p rs)
    (λ c i. inquired_none me p c d o fs (mark_of (CaseBranch c) rs) i) cs

covers_more : (ls ms : List Envelope) (n : Node) (x : Txn) (t : Ticket) (o : Outcome) (fs : List Finding)
    → Covers ls n x t o fs → Covers (ls ++ ms) n x t o fs
covers_more ls ms n x t o fs c =
    record {
      named = λ u e. acked_still ls ms x o fs u (c.named u e);
      collecting_is_decided = c.collecting_is_decided;
    }

module _ (tree : List TreeProcess) (is_tree : IsTree tree) (es : List Made) (w : World)
    (run : IsRun tree es w)
    (ls : List Envelope) (within : (x : Message) → IsAmong x ls → IsAmong x w.net)
    (old : SinceOpened tree ls w)
    (m : Move) (e : Effect) (w' : World) (second : m.version ≡ Second)
    (delivered : (i : Input) → m.step.happening ≡ Handles i → InputAmong ls i)
    (stands : MayHappen w.net m.step.process m.step.happening) (made : world_makes tree w m ≡ Some (e, w'))
  where
    abbrev q : ProcessId
    q = m.step.process

    abbrev n : Node
    n = w.at m.step.process

    abbrev k : Node
    k = (makes_at tree w m e w' made).node

    abbrev ms : List Envelope
    ms = e.messages

    abbrev at : Role → Place
    at r = record { me = m.step.process; role = r; tree = tree }

    step : StepOf (place_of tree m.step.process) (w.at m.step.process) m e (makes_at tree w m e w' made).node
    step = step_of (place_of tree q) n m e k (makes_at tree w m e w' made).made

    step_as : (r : Role) → role_of tree m.step.process ≡ r
        → StepOf (record { me = m.step.process; role = r; tree = tree }) (w.at m.step.process) m e
        (makes_at tree w m e w' made).node
    step_as r f = subst (λ (y : Role). StepOf (at y) n m e k) f step

    holds : WorldHolds tree w
    holds = the_world_holds tree is_tree es w run

    goes : AllGo tree e.messages
    goes = last_go tree w.net ms
        (subst (λ zs. AllGo tree zs) (ap (λ (y : World). y.net) (makes_at tree w m e w' made).world)
        (nets_hold tree (record { move = m; effect = e } ∷ es) w' (makes es w m e w' run stands made)).go)

    sender : (x : Txn) (t : Ticket) (o : Outcome) (fs : List Finding)
        → IsAmong (Ack (child_case x t) o fs) e.messages
        → t.child ≡ m.step.process
    sender x t o fs i = ack_sender tree q ms goes (step_sent (place_of tree q) n m e k step) x t o fs i

    over_old : (x : Txn) (t : Ticket) (o : Outcome) (fs : List Finding)
        → IsAmong (Ack (child_case x t) o fs) ls
        → IsOver (place_of tree t.child) (w.at t.child) (child_case x t)
    over_old x t o fs i =
        acked_over tree w holds x t
        (among_sent (is_ack_message (child_case x t)) (Ack (child_case x t) o fs)
        (same_case-refl (child_case x t)) w.net
        (within (Ack (child_case x t) o fs) i))

    over_here : (x : Txn) (t : Ticket) (o : Outcome) (fs : List Finding)
        → IsAmong (Ack (child_case x t) o fs) ls
        → t.child ≡ m.step.process → (r : Role) → role_of tree m.step.process ≡ r
        → IsOver (record { me = m.step.process; role = r; tree = tree }) (w.at m.step.process)
        (child_case x t)
    over_here x t o fs i f r role =
        subst (λ (y : Role). IsOver (at y) n (child_case x t)) role
        (subst (λ (y : ProcessId). IsOver (place_of tree y) (w.at y) (child_case x t)) f
        (over_old x t o fs i))

    hears : (i : Input) → m.step.happening ≡ Handles i → (x : Message) → Hears (heard_in m i) x
        → IsAmong x w.net
    hears i hp x h = within x (subst (λ (y : Input). InputAmong ls y) h.1 (delivered i hp))

    -- What was heard.

    heard_so : (place : Place) (e' : Effect) (k' : Node) → StepOf place (w.at m.step.process) m e' k'
        → k'.failed ≡ false → AllHeardAmong (ls ++ e.messages) k'.heard
    heard_so place _ _ (handled i g hp np r) up =
        heard_still ls ms (n.heard ++ heard_in m i ∷ [])
        (heard_more ls n.heard (heard_in m i) (old.heard q (turn_of place n (heard_in m i) g r).up)
        (delivered i hp))
    heard_so place _ _ (failed_in i f g fl hp np r) up = absurd (cc)
    heard_so place _ _ (passed i hp r) up = heard_still ls ms n.heard (old.heard q up)
    heard_so place _ _ (failed_passing i f fl hp r) up = absurd (cc)
    heard_so place _ _ (reopened j hp) up = tt
    heard_so place _ _ (failed_reopening j f fl hp) up = absurd (cc)
    heard_so place _ _ (trims_log hp ok) up = heard_still ls ms n.heard (old.heard q ok)
    heard_so place _ _ (failed_trimming f fl hp ok) up = by_front f.appended up
      where
        by_front : (j : ℕ) → (trim_fails place n j).failed ≡ false
            → AllHeardAmong (ls ++ ms) (trim_fails place n j).heard
        by_front zero g = absurd (cc)
        by_front (suc j) g = absurd (cc)

    -- A manager.

    module _ (p : ProcessId) (leaf : role_of tree m.step.process ≡ AtLeaf p) (x : Txn) (t : Ticket)
        (own : t.child ≡ m.step.process) (o : Outcome) (fs : List Finding)
        (clean : IsClean (child_case x t) fs)
      where
        node : NodeHolds (record { me = m.step.process; role = AtLeaf p; tree = tree }) w.net
            (w.at m.step.process)
        node = leaf_node tree is_tree es w run q p leaf

        manager_new : (e' : Effect) (k' : Node)
            → StepOf (record { me = m.step.process; role = AtLeaf p; tree = tree })
            (w.at m.step.process) m e' k'
            → IsAmong (Ack (child_case x t) o fs) e'.messages → NoneAgainst k' (child_case x t) o
        manager_new _ k' (handled i g hp np r) among =
            let u = turn_of (at (AtLeaf p)) n (heard_in m i) g r in
            let none = leaf_fine w.net (at (AtLeaf p)) p refl n node.lasts.nested node.lasts.by_role
            (all_one tree is_tree es w run q p leaf) holds.about_given
            (leaf_facts tree is_tree es w run q p leaf)
            (heard_in m i) (hears i hp) second u.up g u.turn (Ack (child_case x t) o fs) among own clean in
            none_now q p tree m n node.lasts.nested node.lasts.by_role (child_case x t) o none _ _
            (handled i g hp np r) i g hp u.turn fs among
        manager_new _ _ (failed_in i f g fl hp np r) among = absurd among
        manager_new _ _ (passed i hp r) among = absurd among
        manager_new _ _ (failed_passing i f fl hp r) among = absurd among
        manager_new _ _ (reopened j hp) among =
            absurd (manager_resumes_none q p (left_of n j ++ reopens (AtLeaf p) (left_of n j))
            (child_case x t) o fs
            (cases_in (left_of n j ++ reopens (AtLeaf p) (left_of n j))) among)
        manager_new _ _ (failed_reopening j f fl hp) among = absurd among
        manager_new _ _ (trims_log hp ok) among = absurd among
        manager_new _ _ (failed_trimming f fl hp ok) among = absurd among

        manager_here : IsAmong (Ack (child_case x t) o fs) (ls ++ e.messages)
            → NoneAgainst (makes_at tree w m e w' made).node (child_case x t) o
        manager_here i = elim (among_either (Ack (child_case x t) o fs) ls ms i) [
          | inl before ↦ none_still q p tree m n node.lasts.nested node.lasts.by_role (child_case x t) o
              (subst (λ (y : ProcessId). NoneAgainst (w.at y) (child_case x t) o) own
              (old.managers x t p (ap (role_of tree) own ∙ leaf) o fs before clean))
              e k (step_as (AtLeaf p) leaf) (over_here x t o fs before own (AtLeaf p) leaf)
          | inr now ↦ manager_new e k (step_as (AtLeaf p) leaf) now
        ]

    -- A coordinator.

    module _ (p : ProcessId) (role : role_of tree m.step.process ≡ Below p) (x : Txn) (t : Ticket)
        (own : t.child ≡ m.step.process) (o : Outcome) (fs : List Finding)
        (clear : in_list (unreported_of fs) t ≡ false)
      where
        below_node : NodeHolds (record { me = m.step.process; role = Below p; tree = tree }) w.net
            (w.at m.step.process)
        below_node = subst (λ (r : Role). NodeHolds (at r) w.net n) role (nodes_hold tree es w run q)

        lasting : CoordinatorLasts (coordinator_place m.step.process (Some p) tree) (w.at m.step.process)
        lasting = all_last tree is_tree es w run q (Some p) role

        coordinator_new : (e' : Effect) (k' : Node)
            → StepOf (record { me = m.step.process; role = Below p; tree = tree })
            (w.at m.step.process) m e' k'
            → IsAmong (Ack (child_case x t) o fs) e'.messages → Covers ls k' x t o fs
        coordinator_new _ _ (handled i g hp np r) among =
            let there = all_coordinated tree es w run q (Some p) role in
            let up = (turn_of (at (Below p)) n (heard_in m i) g r).up in
            covers_now q p tree n below_node.lasts.nested below_node.lasts.by_role.no_managers_record
            ls (heard_in m i)
            x t o fs (old.heard q up) (delivered i hp) lasting
            ((coordinates tree es w run q (Some p) role).names (child_case x t)) up
            (live_undecided q (Some p) tree n (premises tree es w run q (Some p) role there) there
            lasting.unaborted up
            (child_case x t)) clear _ g (kept-after n (heard_in m i) g) (life_after n g.written)
            (forced_after n g.written) (forced_whole n g.written)
            (turn_acks (at (Below p)) (Some p) n (heard_in m i) second (child_case x t) o fs g
            (turn_here q (Some p) tree n (heard_in m i) g r) among)
        coordinator_new _ _ (failed_in i f g fl hp np r) among = absurd among
        coordinator_new _ _ (passed i hp r) among = absurd among
        coordinator_new _ _ (failed_passing i f fl hp r) among = absurd among
        coordinator_new _ _ (reopened j hp) among =
            absurd (resumes_none (child_case x t) o fs q (Some p)
            (left_of n j ++ reopens (Below p) (left_of n j))
            (cases_in (left_of n j ++ reopens (Below p) (left_of n j))) among)
        coordinator_new _ _ (failed_reopening j f fl hp) among = absurd among
        coordinator_new _ _ (trims_log hp ok) among = absurd among
        coordinator_new _ _ (failed_trimming f fl hp ok) among = absurd among

        coordinator_here : IsAmong (Ack (child_case x t) o fs) (ls ++ e.messages)
            → Covers (ls ++ e.messages) (makes_at tree w m e w' made).node x t o fs
        coordinator_here i = covers_more ls ms k x t o fs
            (elim (among_either (Ack (child_case x t) o fs) ls ms i) [
              | inl before ↦ covers_still q p tree n below_node.lasts.nested
                  below_node.lasts.by_role.no_managers_record
                  ls x t o fs (over_here x t o fs before own (Below p) role)
                  (subst (λ (y : ProcessId). Covers ls (w.at y) x t o fs) own
                  (old.coordinators x t p (ap (role_of tree) own ∙ role) o fs before clear)) k
                  (became q (Some p) tree m n e k (step_as (Below p) role))
              | inr now ↦ coordinator_new e k (step_as (Below p) role) now
            ])

    -- All.

    abbrev HeardSo : ProcessId → Node → Type 0
    HeardSo r y = y.failed ≡ false → AllHeardAmong (ls ++ e.messages) y.heard

    abbrev ManagerSo : ProcessId → Node → Type 0
    ManagerSo r y = (x : Txn) (t : Ticket) (p : ProcessId) → t.child ≡ r → role_of tree r ≡ AtLeaf p
        → (o : Outcome)
        (fs : List Finding) → IsAmong (Ack (child_case x t) o fs) (ls ++ e.messages)
        → IsClean (child_case x t) fs
        → NoneAgainst y (child_case x t) o

    abbrev CoordinatorSo : ProcessId → Node → Type 0
    CoordinatorSo r y = (x : Txn) (t : Ticket) (p : ProcessId) → t.child ≡ r → role_of tree r ≡ Below p
        → (o : Outcome)
        (fs : List Finding) → IsAmong (Ack (child_case x t) o fs) (ls ++ e.messages)
        → in_list (unreported_of fs) t ≡ false → Covers (ls ++ e.messages) y x t o fs

    abbrev Any : ProcessId → Node → Type 0
    Any r y = Unit {0}

    -- another process acknowledged before
    earlier : {A : Type 0} (r : ProcessId) → (m.step.process ≡ r → ⊥) → (x : Txn) (t : Ticket) → t.child ≡ r
        → (o : Outcome) (fs : List Finding) → IsAmong (Ack (child_case x t) o fs) (ls ++ e.messages)
        → (IsAmong (Ack (child_case x t) o fs) ls → A) → A
    earlier r apart x t own o fs i f = elim (among_either (Ack (child_case x t) o fs) ls ms i) [
      | inl before ↦ f before
      | inr now ↦ absurd (apart (sym (sender x t o fs now) ∙ own))
    ]

    heard_then : (r : ProcessId) → HeardSo r (put_at m.step.process (makes_at tree w m e w' made).node w.at r)
    heard_then r = put_or_other Any HeardSo q r k w.at (heard_so (place_of tree q) e k step)
        (λ apart u up. heard_still ls ms (w.at r).heard (old.heard r up)) tt

    managers_then : (r : ProcessId) → ManagerSo r
        (put_at m.step.process (makes_at tree w m e w' made).node w.at r)
    managers_then r = put_or_other Any ManagerSo q r k w.at
        (λ x t p own leaf o fs i clean. manager_here p leaf x t own o fs clean i)
        (λ apart u x t p own leaf o fs i clean. earlier r apart x t own o fs i
        (λ before. subst (λ (y : ProcessId). NoneAgainst (w.at y) (child_case x t) o) own
        (old.managers x t p (ap (role_of tree) own ∙ leaf) o fs before clean))) tt

    coordinators_then : (r : ProcessId)
        → CoordinatorSo r (put_at m.step.process (makes_at tree w m e w' made).node w.at r)
    coordinators_then r = put_or_other Any CoordinatorSo q r k w.at
        (λ x t p own role o fs i clear. coordinator_here p role x t own o fs clear i)
        (λ apart u x t p own role o fs i clear. earlier r apart x t own o fs i
        (λ before. subst (λ (y : ProcessId). Covers (ls ++ ms) (w.at y) x t o fs) own
        (covers_more ls ms (w.at t.child) x t o fs
        (old.coordinators x t p (ap (role_of tree) own ∙ role) o fs before clear)))) tt

    pub since_step : SinceOpened tree (ls ++ e.messages) w'
    since_step = subst (λ (y : World). SinceOpened tree (ls ++ ms) y)
        (sym (makes_at tree w m e w' made).world) (record {
          heard = heard_then;
          managers = λ x t p leaf o fs i clean. managers_then t.child x t p refl leaf o fs i clean;
          coordinators = λ x t p role o fs i clear. coordinators_then t.child x t p refl role o fs i clear;
        })
