-- The root's rows move the readings of its children.
use Rattle.std.proofs.Common.{◌≡◌, ◌∙◌, ℕ, Bool, true, false, ◌||◌, ◌&&◌, Some, List, [], ◌∷◌, ◌++◌, refl, sym, ap, arith}
use Rattle.protocol.specs.declared.names.Case.{Case}
use Rattle.protocol.specs.declared.names.Ticket.{Ticket}
use Rattle.protocol.specs.declared.names.Txn.{Txn}
use Rattle.protocol_words.specs.Variants.{AbortedOutcome, CommitRecord, CommittedOutcome, ConcludedCommitted, MessageInput, VoteYes}
use Rattle.protocol.specs.declared.messages.Envelope.{Envelope}
use Rattle.protocol.specs.declared.messages.Message.{Message}
use Rattle.protocol.specs.declared.messages.Message.TheVariants.{Yes, Commit}
use Rattle.protocol.specs.declared.trees.TreeProcess.{TreeProcess}
use Rattle.protocol.specs.Names.{child_case, root_case}
use Rattle.protocol.specs.NameLaws.{same_case-refl}
use Rattle.protocol.specs.Records.{has, in_list, is_commit}
use Rattle.protocol.specs.Nodes.{Node, AtRoot, Place, place_of, role_of, is_leaf, Heard, Effect, after}
use Rattle.protocol.specs.CoordinatorRows.{Seat, forced, each}
use Rattle.protocol.specs.Outcomes.{sent, is_commit_outcome, is_joined_message, is_read_message, is_yes_message, is_outcome_message}
use Rattle.protocol.specs.World.{World}
use Rattle.proof_pairs.specs.Reading.{Reading, Collecting}
use Rattle.proof_pairs.specs.ParentMoves
use Rattle.proof_pairs.specs.RootMoves
use Rattle.proof_pairs.specs.readings.ReadingOf.{reading_of, reading_from, parent_half, child_half, wire, ParentHalf, ChildHalf, Wire, gives_case, is_prepare_message, is_no_message, is_ack_message, is_inquiry_message}
use Rattle.proof_pairs.specs.readings.Halves.{commits_naming}
use Rattle.proof_pairs.specs.readings.Steps.{handled, IsRootPair}
use Rattle.proof_pairs.proofs.readings.Lists.{has-cons, sent-append}
use Rattle.proof_pairs.proofs.readings.Named.{sent-each_commit, sent-each_none, same_child}
use Rattle.proof_pairs.proofs.readings.ReadingSteps.{at_root, before_root}
use Rattle.proof_pairs.proofs.readings.RootHalves.{root_committed}
use Rattle.proof_pairs.proofs.readings.LeafRows.{dead-live, dead-promised}

-- no other test finds a COMMIT
abbrev quiet : Seat → List Ticket → (Message → Bool) → Type 0
quiet s ts q = sent q (each s Commit ts) ≡ false

wire-commits : (c : Case) (t : Ticket) (s : Seat) (ts : List Ticket) (net : List Envelope) → s.own.txn ≡ c.txn
    → wire c t (net ++ each s Commit ts) ≡ record (wire c t net)
    { commit = in_list ts t || (wire c t net).commit }
wire-commits c t s ts net own =
    let d = child_case c.txn t in
    let joined : quiet s ts (is_joined_message c t) = sent-each_none s Commit ts (is_joined_message c t)
    (λ e. refl) in
    let given : quiet s ts (gives_case c) = sent-each_none s Commit ts (gives_case c) (λ e. refl) in
    let read_up : quiet s ts (is_read_message c) = sent-each_none s Commit ts (is_read_message c)
    (λ e. refl) in
    let prepare : quiet s ts (is_prepare_message d) = sent-each_none s Commit ts (is_prepare_message d)
    (λ e. refl) in
    let yes : quiet s ts (is_yes_message d) = sent-each_none s Commit ts (is_yes_message d) (λ e. refl) in
    let no' : quiet s ts (is_no_message d) = sent-each_none s Commit ts (is_no_message d) (λ e. refl) in
    let read : quiet s ts (is_read_message d) = sent-each_none s Commit ts (is_read_message d) (λ e. refl) in
    let abort : quiet s ts (is_outcome_message AbortedOutcome d) = sent-each_none s Commit ts
    (is_outcome_message AbortedOutcome d) (λ e. refl) in
    let ack : quiet s ts (is_ack_message d) = sent-each_none s Commit ts (is_ack_message d) (λ e. refl) in
    let inquire : quiet s ts (is_inquiry_message d) = sent-each_none s Commit ts (is_inquiry_message d)
    (λ e. refl) in
    let commit : sent (is_outcome_message CommittedOutcome d) (each s Commit ts) ≡ in_list ts t =
    sent-each_commit s t ts (is_outcome_message CommittedOutcome d) (λ u. rw own (same_child c u t)) in
    simp (sent-append, joined, given, read_up, prepare, yes, no', read, commit, ack, inquire, abort)

moved : (manager outcome outcome' above : Bool) (p p' : ParentHalf) (k : ChildHalf) (v v' : Wire)
    → outcome ≡ outcome' → p ≡ p' → v ≡ v'
    → reading_from true manager outcome above p k v ≡ reading_from true manager outcome' above p' k v'
moved manager outcome outcome' above p p' k v v' o e f =
    ap (λ a. reading_from true manager a above p k v) o
    ∙ (ap (λ a. reading_from true manager outcome' above a k v) e
    ∙ ap (λ a. reading_from true manager outcome' above p' k a) f)

and-true : (a : Bool) → (a && true) ≡ a
and-true a = grind arith

or-false : (a : Bool) → (a || false) ≡ a
or-false a = grind arith

reading-committed : (manager outcome above : Bool) (p : ParentHalf) (k : ChildHalf) (v : Wire)
    → p.phase ≡ Collecting → p.begun ≡ true → p.owed ≡ false
    → reading_from true manager true above (commits_naming p.accepted p) k
    (record v { commit = p.accepted || v.commit })
    ≡ RootMoves.decides_naming (ParentMoves.hears_yes
    (ParentMoves.hardens_parent (reading_from true manager outcome above p k v)))
reading-committed manager outcome above p k v phase begun owed = rw (phase, begun, owed)
    (simp (dead-live, dead-promised, and-true, or-false))

durable_commit : (n : Node) (h : Heard) (e : Effect) (c : Case) (ys : List Ticket)
    → e.written ≡ forced (CommitRecord c ys) → has (is_commit c) (after n h e).durable ≡ true
durable_commit n h e c ys one = rw one (simp (has-cons, same_case-refl))

pub row_commits : (tree : List TreeProcess) (w : World) (above : Bool) (x : Txn) (t : Ticket)
    → IsRootPair tree x t → (i : ℕ) (h : Heard) (e : Effect) (s : Seat) (ys : List Ticket)
    → h.input ≡ MessageInput i (Yes (child_case x t))
    → e.written ≡ forced (CommitRecord (root_case x) ys) → e.accepts ≡ []
    → e.counts ≡ (root_case x, (t, VoteYes)) ∷ []
    → e.told ≡ Some (record { txn = x; conclusion = ConcludedCommitted })
    → e.messages ≡ each s Commit ys → s.own.txn ≡ x
    → (let r = reading_of tree w above (root_case x) t in (in_list ys t ≡ r.accepted)
    × (r.phase ≡ Collecting) × (r.born ≡ true) × (r.owed ≡ false))
    → reading_of tree (handled w x.root h e) above (root_case x) t ≡ RootMoves.decides_naming
    (ParentMoves.hears_yes (ParentMoves.hardens_parent (reading_of tree w above (root_case x) t)))
row_commits tree w above x t pair i h e s ys input one none_accepted counted told messages own facts =
    let place : Place = record { me = x.root; role = AtRoot; tree = tree } in
    let c = root_case x in
    let n = w.at x.root in
    let p = parent_half place n c t in
    let k = child_half (place_of tree t.child) (w.at t.child) (child_case x t) in
    let same = before_root tree w above x t pair in
    at_root tree w above x t pair (after n h e) e
    ∙ (moved (is_leaf (role_of tree t.child)) _ true above _ _ k _ _ (durable_commit n h e c ys one)
    (root_committed x.root tree n i h e c t ys input one none_accepted counted told
    ∙ ap (λ b. commits_naming b p) (facts.0 ∙ sym (ap (λ (r : Reading). r.accepted) same)))
    (ap (λ ls. wire c t (w.net ++ ls)) messages ∙ (wire-commits c t s ys w.net own
    ∙ ap (λ b. record (wire c t w.net) { commit = b || (wire c t w.net).commit }) (facts.0
    ∙ sym (ap (λ (r : Reading). r.accepted) same))))
    ∙ (reading-committed (is_leaf (role_of tree t.child)) (is_commit_outcome w x) above p k (wire c t w.net)
    (ap (λ (r : Reading). r.phase) same ∙ facts.1) (ap (λ (r : Reading). r.born) same
    ∙ facts.2) (ap (λ (r : Reading). r.owed) same ∙ facts.3)
    ∙ ap (λ (r : Reading). RootMoves.decides_naming (ParentMoves.hears_yes (ParentMoves.hardens_parent r)))
    same))
