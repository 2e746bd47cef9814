-- A cascaded coordinator's rows move the readings of its children.
use Rattle.std.proofs.Common.{◌≡◌, ◌∙◌, ℕ, Bool, true, false, ◌||◌, None, List, [], ◌++◌, refl, ap}
use Rattle.protocol.specs.declared.names.Case.{Case}
use Rattle.protocol.specs.declared.names.ProcessId.{ProcessId}
use Rattle.protocol.specs.declared.names.Ticket.{Ticket}
use Rattle.protocol.specs.declared.messages.Envelope.{Envelope}
use Rattle.protocol.specs.declared.messages.Message.{Message}
use Rattle.protocol.specs.declared.messages.Message.TheVariants.{Abort}
use Rattle.protocol_words.specs.Variants.{AbortRecord, AbortedOutcome, CommittedOutcome, MessageInput}
use Rattle.protocol.specs.declared.standings.Standing.TheVariants.{Prepared}
use Rattle.protocol.specs.declared.trees.TreeProcess.{TreeProcess}
use Rattle.protocol.specs.Names.{child_case, process_of}
use Rattle.protocol.specs.Records.{has, in_list, is_prepare, promised_by}
use Rattle.protocol.specs.Nodes.{Below, Place, place_of, role_of, is_leaf, Heard, Effect, after, kept}
use Rattle.protocol.specs.CoordinatorRows.{Seat, plain, each}
use Rattle.protocol.specs.Standings.{coordinator_view}
use Rattle.protocol.specs.Outcomes.{sent, is_commit_outcome, is_joined_message, is_read_message, is_yes_message, is_outcome_message}
use Rattle.protocol.specs.World.{World}
use Rattle.proof_pairs.specs.CascadedMoves
use Rattle.proof_pairs.specs.readings.ReadingOf.{reading_of, reading_from, parent_half, child_half, wire, ParentHalf, ChildHalf, Wire, gives_case, is_prepare_message, is_no_message, is_ack_message, is_inquiry_message}
use Rattle.proof_pairs.specs.readings.Halves.{aborts_promise}
use Rattle.proof_pairs.specs.readings.Steps.{handled, IsCascadedPair}
use Rattle.proof_pairs.proofs.readings.Lists.{sent-append}
use Rattle.proof_pairs.proofs.readings.Named.{promised_by-naming, sent-each_abort, sent-each_none, same_child}
use Rattle.proof_pairs.proofs.readings.ReadingSteps.{at_cascaded, before_cascaded}
use Rattle.proof_pairs.proofs.readings.CoordinatorHalves.{cascaded_aborted}

-- no other test finds an ABORT
abbrev quiet : Seat → List Ticket → (Message → Bool) → Type 0
quiet s ts q = sent q (each s Abort ts) ≡ false

wire-aborts : (c : Case) (t : Ticket) (s : Seat) (ts : List Ticket) (net : List Envelope) → s.own.txn ≡ c.txn
    → wire c t (net ++ each s Abort ts) ≡ record (wire c t net)
    { abort = in_list ts t || (wire c t net).abort }
wire-aborts c t s ts net own =
    let d = child_case c.txn t in
    let joined : quiet s ts (is_joined_message c t) = sent-each_none s Abort ts (is_joined_message c t)
    (λ e. refl) in
    let given : quiet s ts (gives_case c) = sent-each_none s Abort ts (gives_case c) (λ e. refl) in
    let read_up : quiet s ts (is_read_message c) = sent-each_none s Abort ts (is_read_message c)
    (λ e. refl) in
    let prepare : quiet s ts (is_prepare_message d) = sent-each_none s Abort ts (is_prepare_message d)
    (λ e. refl) in
    let yes : quiet s ts (is_yes_message d) = sent-each_none s Abort ts (is_yes_message d) (λ e. refl) in
    let no' : quiet s ts (is_no_message d) = sent-each_none s Abort ts (is_no_message d) (λ e. refl) in
    let read : quiet s ts (is_read_message d) = sent-each_none s Abort ts (is_read_message d) (λ e. refl) in
    let commit : quiet s ts (is_outcome_message CommittedOutcome d) = sent-each_none s Abort ts
    (is_outcome_message CommittedOutcome d) (λ e. refl) in
    let ack : quiet s ts (is_ack_message d) = sent-each_none s Abort ts (is_ack_message d) (λ e. refl) in
    let inquire : quiet s ts (is_inquiry_message d) = sent-each_none s Abort ts (is_inquiry_message d)
    (λ e. refl) in
    let abort : sent (is_outcome_message AbortedOutcome d) (each s Abort ts) ≡ in_list ts t =
    sent-each_abort s t ts (is_outcome_message AbortedOutcome d) (λ u. rw own (same_child c u t)) in
    simp (sent-append, joined, given, read_up, prepare, yes, no', read, commit, ack, inquire, abort)

moved : (manager outcome above : Bool) (p p' : ParentHalf) (k : ChildHalf) (v v' : Wire) → p ≡ p' → v ≡ v'
    → reading_from false manager outcome above p k v ≡ reading_from false manager outcome above p' k v'
moved manager outcome above p p' k v v' e f =
    ap (λ a. reading_from false manager outcome above a k v) e
    ∙ ap (λ a. reading_from false manager outcome above p' k a) f

reading-aborted : (manager outcome above : Bool) (p : ParentHalf) (k : ChildHalf) (v : Wire)
    → reading_from false manager outcome above (aborts_promise p) k
    (record v { abort = p.names || v.abort }) ≡ CascadedMoves.passes_abort
    (reading_from false manager outcome above p k v)
reading-aborted manager outcome above p k v = refl

pub row_aborts : (tree : List TreeProcess) (w : World) (above : Bool) (c : Case) (t : Ticket) (p : ProcessId)
    → IsCascadedPair tree c t p → (i : ℕ) (h : Heard) (e : Effect) (s : Seat)
    → h.input ≡ MessageInput i (Abort c)
    → e.written ≡ plain (AbortRecord c []) → e.accepts ≡ [] → e.counts ≡ [] → e.told ≡ None
    → e.messages ≡ each s Abort (promised_by c (kept (w.at (process_of c)))) → s.own.txn ≡ c.txn
    → (coordinator_view (record { me = process_of c; role = Below p; tree = tree }) (w.at (process_of c))
    c).standing ≡ Prepared
    → has (is_prepare c) (w.at (process_of c)).life ≡ true
    → reading_of tree (handled w (process_of c) h e) above c t ≡ CascadedMoves.passes_abort
    (reading_of tree w above c t)
row_aborts tree w above c t p pair i h e s input one none_accepted none_counted none_told messages own
    stands promised =
    let place : Place = record { me = process_of c; role = Below p; tree = tree } in
    let n = w.at (process_of c) in
    at_cascaded tree w above c t p pair (after n h e) e
    ∙ (moved (is_leaf (role_of tree t.child)) (is_commit_outcome w c.txn) above _ _
    (child_half (place_of tree t.child) (w.at t.child) (child_case c.txn t)) _ _
    (cascaded_aborted (process_of c) p tree n i h e c t input one none_accepted none_counted none_told
    stands promised)
    (ap (λ ls. wire c t (w.net ++ ls)) messages ∙ (wire-aborts c t s (promised_by c (kept n)) w.net own
    ∙ ap (λ b. record (wire c t w.net) { abort = b || (wire c t w.net).abort })
    (promised_by-naming c t (kept n))))
    ∙ (reading-aborted (is_leaf (role_of tree t.child)) (is_commit_outcome w c.txn) above
    (parent_half place n c t) (child_half (place_of tree t.child) (w.at t.child) (child_case c.txn t))
    (wire c t w.net)
    ∙ ap CascadedMoves.passes_abort (before_cascaded tree w above c t p pair)))
