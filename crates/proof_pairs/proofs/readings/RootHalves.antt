-- What the root's commit does to its half of a reading.
use Rattle.std.proofs.Common.{◌≡◌, ℕ, Bool, true, false, ◌||◌, if◌then◌else◌, Some, List, [], ◌∷◌, refl, arith}
use Rattle.protocol.specs.declared.names.Case.{Case}
use Rattle.protocol.specs.declared.names.ProcessId.{ProcessId}
use Rattle.protocol.specs.declared.names.Ticket.{Ticket}
use Rattle.protocol.specs.declared.messages.Message.TheVariants.{Yes}
use Rattle.protocol_words.specs.Variants.{CommitRecord, ConcludedCommitted, MessageInput, VoteYes}
use Rattle.protocol.specs.declared.standings.Vote.{Vote}
use Rattle.protocol.specs.declared.standings.Standing.{Standing}
use Rattle.protocol.specs.declared.trees.TreeProcess.{TreeProcess}
use Rattle.protocol.specs.Names.{child_case}
use Rattle.protocol.specs.NameLaws.{same_case-refl, same_ticket-refl, same_txn-refl}
use Rattle.protocol.specs.Records.{has, in_list, none_of, boot_of, owing_by, is_prepare, is_abort, is_end, is_commit, is_collecting}
use Rattle.protocol.specs.Nodes.{Place, AtRoot, Node, kept, Heard, Effect, after}
use Rattle.protocol.specs.Memory.{Memory, Phase, Idle, Open, Asked, Over, memory_of, remembers, takes_vote, with_vote, is_counted}
use Rattle.protocol.specs.CoordinatorRows.{forced}
use Rattle.protocol.specs.Standings.{coordinator_view, standing_by, phase_standing}
use Rattle.proof_pairs.specs.Reading.{Closed}
use Rattle.proof_pairs.specs.readings.ReadingOf.{parent_half, parent_half_at, phase_by}
use Rattle.proof_pairs.specs.readings.Halves.{commits_naming}
use Rattle.proof_pairs.proofs.readings.Lists.{has-push, has-nil, has-cons, has-history}
use Rattle.proof_pairs.proofs.readings.Memories.{memory_of-forced}
use Rattle.proof_pairs.proofs.readings.CoordinatorHalves.{standing-by_records}

-- Memory as a vote is taken.

taken-accepted : (m : Memory) (t : Ticket) (v : Vote) (b : Bool)
    → (if b then with_vote m t v else m).accepted ≡ m.accepted
taken-accepted m t v true = refl
taken-accepted m t v false = refl

taken-acks : (m : Memory) (t : Ticket) (v : Vote) (b : Bool)
    → (if b then with_vote m t v else m).acks ≡ m.acks
taken-acks m t v true = refl
taken-acks m t v false = refl

voted-accepted : (m : Memory) (t : Ticket) (v : Vote) (f : Phase) → (takes_vote m t v f).accepted ≡ m.accepted
voted-accepted m t v Idle = refl
voted-accepted m t v Open = refl
voted-accepted m t v Over = refl
voted-accepted m t v Asked = taken-accepted m t v (is_counted m.accepted m.votes t)

voted-acks : (m : Memory) (t : Ticket) (v : Vote) (f : Phase) → (takes_vote m t v f).acks ≡ m.acks
voted-acks m t v Idle = refl
voted-acks m t v Open = refl
voted-acks m t v Over = refl
voted-acks m t v Asked = taken-acks m t v (is_counted m.accepted m.votes t)

-- What of its memory the half shows, but for whether it was begun: that a Commit says too.
record SameLists (m m' : Memory) : Type 0 where
  accepted : m'.accepted ≡ m.accepted
  acks : m'.acks ≡ m.acks

voted_memory : (me : ProcessId) (boot i : ℕ) (c : Case) (t : Ticket) (m : Memory) (h : Heard)
    → h.input ≡ MessageInput i (Yes (child_case c.txn t))
    → SameLists m (remembers me AtRoot boot c m h)
voted_memory me boot i c t m h e = record {
  accepted = rw (e, same_txn-refl c.txn) (voted-accepted m t VoteYes m.phase);
  acks = rw (e, same_txn-refl c.txn) (voted-acks m t VoteYes m.phase);
}

or-true : (a : Bool) → (a || true) ≡ true
or-true a = grind arith

half_committed : (s s' : Standing) (m m' : Memory) (n : Node) (h : Heard) (e : Effect) (c : Case)
    (t : Ticket) (ys : List Ticket) → SameLists m m'
    → e.written ≡ forced (CommitRecord c ys) → e.accepts ≡ [] → e.counts ≡ (c, (t, VoteYes)) ∷ []
    → e.told ≡ Some (record { txn = c.txn; conclusion = ConcludedCommitted })
    → phase_by n.failed s' ≡ Closed
    → parent_half_at s' m' (after n h e) c t ≡ commits_naming (in_list ys t) (parent_half_at s m n c t)
half_committed s s' m m' n h e c t ys same one none_accepted counted told later =
    rw (one, none_accepted, counted, told, same.accepted, same.acks)
    (simp (
      has-push,
      has-nil,
      has-cons,
      has-history,
      same_case-refl,
      same_ticket-refl,
      same_txn-refl,
      or-true,
      later,
    ))

-- with a Commit the case is closed
closed-committed : (u e a p l none : Bool) (heard : Standing)
    → phase_by u (standing_by e true a p l none heard) ≡ Closed
closed-committed true e a p l none heard = refl
closed-committed false true a p l none heard = refl
closed-committed false false a p l true heard = refl
closed-committed false false a p l false heard = refl

commit_stands : (n : Node) (h : Heard) (e : Effect) (c : Case) (ys : List Ticket)
    → e.written ≡ forced (CommitRecord c ys) → has (is_commit c) (kept (after n h e)) ≡ true
commit_stands n h e c ys one = rw one (simp (has-push, has-nil, same_case-refl))

stands_committed : (place : Place) (n : Node) (h : Heard) (e : Effect) (c : Case) (ys : List Ticket)
    → e.written ≡ forced (CommitRecord c ys)
    → phase_by n.failed (coordinator_view place (after n h e) c).standing ≡ Closed
stands_committed place n h e c ys one =
    rw (standing-by_records place (after n h e) c, commit_stands n h e c ys one)
    (closed-committed n.failed (has (is_end c) (kept (after n h e)))
    (has (is_abort c) (kept (after n h e))) (has (is_prepare c) (kept (after n h e)))
    (has (is_collecting c) (kept (after n h e)))
    (none_of (owing_by c (kept (after n h e))))
    (phase_standing c.txn.presumption (memory_of place (after n h e) c).phase))

pub root_committed : (me : ProcessId) (tree : List TreeProcess) (n : Node) (i : ℕ) (h : Heard) (e : Effect)
    (c : Case) (t : Ticket) (ys : List Ticket) → h.input ≡ MessageInput i (Yes (child_case c.txn t))
    → e.written ≡ forced (CommitRecord c ys) → e.accepts ≡ [] → e.counts ≡ (c, (t, VoteYes)) ∷ []
    → e.told ≡ Some (record { txn = c.txn; conclusion = ConcludedCommitted })
    → parent_half (record { me = me; role = AtRoot; tree = tree }) (after n h e) c t ≡ commits_naming
    (in_list ys t) (parent_half (record { me = me; role = AtRoot; tree = tree }) n c t)
root_committed me tree n i h e c t ys input one none_accepted counted told =
    let place : Place = record { me = me; role = AtRoot; tree = tree } in
    half_committed (coordinator_view place n c).standing (coordinator_view place (after n h e) c).standing
    (memory_of place n c) (memory_of place (after n h e) c) n h e c t ys
    (rw (memory_of-forced place n h e c (CommitRecord c ys) one (λ b. refl))
    (voted_memory me (boot_of (kept n)) i c t (memory_of place n c) h input))
    one none_accepted counted told (stands_committed place n h e c ys one)
