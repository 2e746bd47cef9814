-- A manager's restart is the move of a restart.
use Rattle.std.proofs.Common.{◌≡◌, ◌∙◌, ℕ, ◌+◌, ap, sym, subst, Bool, true, false, not, List, [], ◌∷◌, ◌++◌, refl, ◌&&◌, ◌||◌, arith}
use Rattle.std.specs.List.{flat_map}
use Rattle.std.proofs.lemmas.Grind.{fold-append}
use Rattle.protocol.specs.declared.names.Case.{Case}
use Rattle.protocol.specs.declared.names.ProcessId.{ProcessId}
use Rattle.protocol.specs.declared.names.Ticket.{Ticket}
use Rattle.protocol_words.specs.Variants.{AbortedOutcome, CaseBranch, CommittedOutcome}
use Rattle.protocol.specs.declared.messages.Envelope.{Envelope}
use Rattle.protocol.specs.declared.records.Record.{Record}
use Rattle.protocol.specs.declared.records.Record.TheVariants.{Opened}
use Rattle.protocol.specs.declared.standings.Standing.{Standing}
use Rattle.protocol.specs.declared.trees.TreeProcess.{TreeProcess}
use Rattle.protocol.specs.Names.{child_case, process_of}
use Rattle.protocol.specs.Records.{has_case, boot_of, cases_in}
use Rattle.protocol.specs.Nodes.{Place, AtLeaf, Node, kept, place_of}
use Rattle.protocol.specs.Memory.{memory_of, fresh_memory}
use Rattle.protocol.specs.Standings.{Mark, Unmarked, Promised, Decided, ToldOf, Finished, mark_of, marked_branch, manager_view}
use Rattle.protocol.specs.Restarts.{restarted, restart_effect, left_of, manager_resumes}
use Rattle.protocol.specs.Outcomes.{sent, is_commit_outcome, is_joined_message, is_read_message, is_yes_message, is_outcome_message}
use Rattle.protocol.specs.World.{World}
use Rattle.proof_pairs.specs.Reading.{Reading, is_live}
use Rattle.proof_pairs.specs.ChildCrash
use Rattle.proof_pairs.specs.ChildCrash.{ChildFront}
use Rattle.proof_pairs.specs.Invariant.{Common}
use Rattle.proof_pairs.specs.readings.ReadingOf.{reading_of, reading_from, is_root_ticket, parent_half, child_half, child_half_at, wire, ParentHalf, ChildHalf, Wire, phase_by, is_dead, gives_case, is_prepare_message, is_no_message, is_ack_message, is_inquiry_message}
use Rattle.protocol.specs.Audits.{is_promise}
use Rattle.proof_pairs.specs.readings.Halves.{child_front, restarted_half, is_in_doubt}
use Rattle.proof_pairs.specs.readings.StepLaws.{ManagerRestarts, LastRecordTells}
use Rattle.proof_pairs.specs.readings.Steps.{asks_by}
use Rattle.proof_pairs.proofs.readings.Lists.{has-push, has-nil, has-cons, has-history, sent-append}
use Rattle.proof_pairs.proofs.readings.Delivered.{restarted_as}
use Rattle.proof_pairs.proofs.readings.ReadingSteps.{at_child, before}
use Rattle.proof_pairs.proofs.readings.LeafRows.{moved, and-false}
use Rattle.proof_pairs.proofs.readings.LeafCrash.{QuietWhileOpen}
use Rattle.proof_pairs.proofs.readings.Inquiries.{promised_case, asked_restart, quiet_restart}

or_twice : (a b : Bool) → (a || (a || b)) ≡ (a || b)
or_twice a b = grind arith

-- With nothing heard no branch is Active.

closed_mark : (f : Bool) (m : Mark) → is_live (phase_by f (marked_branch fresh_memory m).standing) ≡ false
closed_mark true m = refl
closed_mark false Unmarked = refl
closed_mark false Promised = refl
closed_mark false Decided = refl
closed_mark false (ToldOf o) = refl
closed_mark false Finished = refl

forgetful : (place : Place) (n : Node) (c : Case) → n.heard ≡ [] → memory_of place n c ≡ fresh_memory
unfolding memory_of
forgetful place n c e = rw e

closed_view : (place : Place) (n : Node) (c : Case) → n.heard ≡ []
    → is_live (phase_by n.failed (manager_view place n c).standing) ≡ false
unfolding manager_view
closed_view place n c e = rw (forgetful place n c e) (closed_mark n.failed (mark_of (CaseBranch c) (kept n)))

pub half_restarts : (s : Standing) (me p : ProcessId) (tree : List TreeProcess) (n : Node) (k : ℕ) (d : Case)
    → (let place : Place = record { me = me; role = AtLeaf p; tree = tree } in child_half place
    (restarted place n k) d ≡ restarted_half (child_front d (left_of n k) n.durable)
    (child_half_at s n d))
half_restarts s me p tree n k d =
    let place : Place = record { me = me; role = AtLeaf p; tree = tree } in
    rw (closed_view place (restarted place n k) d refl)
    (simp (has-push, has-nil, has-cons, has-history, or_twice))

-- The reading.

refused-restarts : (o p e f n i r : Bool) → QuietWhileOpen n i p e r → (f ≡ true → p ≡ true)
    → (p ≡ true → e ≡ true → f ≡ true) → (p ≡ true → (i ≡ true) × (r ≡ false))
    → (o || is_dead (f || (f || e)) false i r) ≡ (((i && n) || (p && not f)) || (o || is_dead (p || e) n i r))
unfolding is_dead
refused-restarts o p e f n i r quiet sub once asked = grind arith

pub reading-restarts : (root outcome above : Bool) (p : ParentHalf) (k : ChildHalf) (v : Wire)
    (front : ChildFront)
    → QuietWhileOpen k.is_open v.issued k.prepared_kept k.prepared_ever v.read
    → (front.prepared ≡ true → k.prepared_kept ≡ true)
    → (k.prepared_kept ≡ true → k.prepared_ever ≡ true → front.prepared ≡ true)
    → (k.prepared_kept ≡ true → (v.issued ≡ true) × (v.read ≡ false))
    → reading_from root true outcome above p (restarted_half front k)
    (record v { inquire = is_in_doubt front || v.inquire })
    ≡ ChildCrash.child_restarts front (reading_from root true outcome above p k v)
reading-restarts root outcome above p k v front quiet sub once asked =
    rw (
      and-false v.issued,
      refused-restarts k.obeyed_abort k.prepared_kept k.prepared_ever front.prepared
          k.is_open v.issued v.read quiet sub once asked,
    )

-- The net.

pub wire-restarts : (c : Case) (t : Ticket) (me p : ProcessId) (rs : List Record) (net : List Envelope)
    (asks : Bool)
    → sent (is_inquiry_message (child_case c.txn t)) (flat_map (manager_resumes me p rs) (cases_in rs)) ≡ asks
    → wire c t (net ++ flat_map (manager_resumes me p rs) (cases_in rs)) ≡ record (wire c t net)
    { inquire = asks || (wire c t net).inquire }
wire-restarts c t me p rs net asks inquire =
    let d = child_case c.txn t in
    let joined = quiet_restart me p rs (cases_in rs) (is_joined_message c t) (λ e. refl) in
    let given = quiet_restart me p rs (cases_in rs) (gives_case c) (λ e. refl) in
    let read_up = quiet_restart me p rs (cases_in rs) (is_read_message c) (λ e. refl) in
    let prepare = quiet_restart me p rs (cases_in rs) (is_prepare_message d) (λ e. refl) in
    let yes = quiet_restart me p rs (cases_in rs) (is_yes_message d) (λ e. refl) in
    let no' = quiet_restart me p rs (cases_in rs) (is_no_message d) (λ e. refl) in
    let read = quiet_restart me p rs (cases_in rs) (is_read_message d) (λ e. refl) in
    let commit = quiet_restart me p rs (cases_in rs) (is_outcome_message CommittedOutcome d) (λ e. refl) in
    let abort = quiet_restart me p rs (cases_in rs) (is_outcome_message AbortedOutcome d) (λ e. refl) in
    let ack = quiet_restart me p rs (cases_in rs) (is_ack_message d) (λ e. refl) in
    simp (sent-append, joined, given, read_up, prepare, yes, no', read, commit, abort, ack, inquire)

-- The inquiry of the restart, by what is left.

in_doubt_promise : (front : ChildFront) → is_in_doubt front ≡ true → front.prepared ≡ true
in_doubt_promise front e = grind arith

both_say : (a b c : Bool) → (b ≡ true → a ≡ true) → c ≡ b → (a && c) ≡ b
both_say a b c f e = grind arith

mark_opened : (b : ℕ) (d : Case) (rs : List Record)
    → mark_of (CaseBranch d) (rs ++ Opened b ∷ []) ≡ mark_of (CaseBranch d) rs
unfolding mark_of
mark_opened b d rs = fold-append _ _ rs (Opened b ∷ [])

pub inquires : (me p : ProcessId) (d : Case) (left durable : List Record) (b : ℕ)
    → LastRecordTells d left (child_front d left durable)
    → sent (is_inquiry_message d) (flat_map (manager_resumes me p (left ++ Opened b ∷ [])) (cases_in (left
    ++ Opened b ∷ []))) ≡ is_in_doubt (child_front d left durable)
inquires me p d left durable b tells =
    asked_restart me p (left ++ Opened b ∷ []) d
    ∙ both_say (has_case (cases_in (left
    ++ Opened b ∷ [])) d) (is_in_doubt (child_front d left durable))
    (asks_by (mark_of (CaseBranch d) (left ++ Opened b ∷ [])))
    (λ e. promised_case (left ++ Opened b ∷ []) d (has-push (is_promise d) left (Opened b)
    ∙ in_doubt_promise (child_front d left durable) e))
    (ap asks_by (mark_opened b d left) ∙ tells)

-- What the invariant says of the reading.

pub record Promises (r : Reading) : Type 0 where
  pub quiet_open : r.ticket_open ≡ true
      → (r.prepared_kept ≡ false) × (r.prepared_ever ≡ false) × (r.sent_read ≡ false)
  pub once : r.prepared_kept ≡ true → r.prepared_ever ≡ true → r.prepared_forced ≡ true
  pub asked : r.prepared_kept ≡ true → (r.issued ≡ true) × (r.sent_read ≡ false)

pub promises : (r : Reading) → Common r → Promises r
promises r h = grind arith

pub manager_restarts : ManagerRestarts
manager_restarts tree w w' above c t p k a e pair inv ready made =
    let place : Place = record { me = t.child; role = AtLeaf p; tree = tree } in
    let n = w.at t.child in
    let d = child_case c.txn t in
    let left = left_of n k in
    let front = child_front d left n.durable in
    let b = boot_of left + 1 in
    let old = before tree w above c t p pair in
    let said = promises _ (subst Common (sym old) inv) in
    let fronts = ready.0 in
    ap (λ (x : World). reading_of tree x above c t)
    (restarted_as tree w t.child (AtLeaf p) k a e w' pair.leaf made)
    ∙ (at_child tree w above c t p pair (restarted place n k) (restart_effect place n k)
    ∙ (moved (is_root_ticket c.ticket) (is_commit_outcome w c.txn) above
    (parent_half (place_of tree (process_of c)) (w.at (process_of c)) c t) _ _ _ _
    (half_restarts (manager_view place n d).standing t.child p tree n k d)
    (wire-restarts c t t.child p (left
    ++ Opened b ∷ []) w.net (is_in_doubt front) (inquires t.child p d left n.durable b ready.1))
    ∙ (reading-restarts (is_root_ticket c.ticket) (is_commit_outcome w c.txn) above
    (parent_half (place_of tree (process_of c)) (w.at (process_of c)) c t) (child_half place n d)
    (wire c t w.net) front
    said.quiet_open fronts.had_prepared (λ x y. fronts.holds_prepared (said.once x y)) said.asked
    ∙ ap (λ (r : Reading). ChildCrash.child_restarts front r) old)))
