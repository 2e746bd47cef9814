-- What a coordinator's rows do to its half of a reading.
use Rattle.std.proofs.Common.{◌≡◌, ℕ, Bool, true, false, None, List, [], refl, ap}
use Rattle.protocol.specs.declared.names.Case.{Case}
use Rattle.protocol.specs.declared.names.ProcessId.{ProcessId}
use Rattle.protocol.specs.declared.names.Ticket.{Ticket}
use Rattle.protocol.specs.declared.messages.Message.TheVariants.{Abort}
use Rattle.protocol.specs.declared.records.Record.{Record}
use Rattle.protocol_words.specs.Variants.{AbortRecord, ActiveStanding, CollectingStanding, MessageInput}
use Rattle.protocol.specs.declared.standings.Standing.{Standing}
use Rattle.protocol.specs.declared.standings.Standing.TheVariants.{Unknown, Prepared, Committing, Aborting, Heuristic}
use Rattle.protocol.specs.declared.trees.TreeProcess.{TreeProcess}
use Rattle.protocol.specs.NameLaws.{same_case-refl}
use Rattle.protocol.specs.Records.{has, none_of, boot_of, owing_by, is_prepare, is_abort, is_end, is_commit, is_collecting}
use Rattle.protocol.specs.Nodes.{Place, Below, Node, kept, Heard, Effect, after}
use Rattle.protocol.specs.Memory.{Memory, Phase, Idle, Open, Asked, Over, memory_of, closes, retires, remembers}
use Rattle.protocol.specs.CoordinatorRows.{plain}
use Rattle.protocol.specs.Standings.{coordinator_view, coordinator_standing, standing_by, phase_standing, view_at}
use Rattle.proof_pairs.specs.Reading.{Closed}
use Rattle.proof_pairs.specs.readings.ReadingOf.{parent_half, parent_half_at, phase_by, is_begun}
use Rattle.proof_pairs.specs.readings.Halves.{aborts_promise}
use Rattle.proof_pairs.proofs.readings.Lists.{has-push_behind, has-cons}
use Rattle.proof_pairs.proofs.readings.Memories.{memory_of-plain}
use Rattle.proof_pairs.proofs.readings.Named.{in_list-none}

view_at-standing : (s : Standing) (rs : List Record) (c : Case) (m : Memory) → (view_at s rs c m).standing ≡ s
view_at-standing Unknown rs c m = refl
view_at-standing ActiveStanding rs c m = refl
view_at-standing CollectingStanding rs c m = refl
view_at-standing Prepared rs c m = refl
view_at-standing Committing rs c m = refl
view_at-standing Aborting rs c m = refl
view_at-standing Heuristic rs c m = refl

pub standing-by_records : (place : Place) (n : Node) (c : Case)
    → (coordinator_view place n c).standing ≡ coordinator_standing (kept n) c (memory_of place n c)
unfolding coordinator_view
standing-by_records place n c = view_at-standing (coordinator_standing (kept n) c (memory_of place n c))
    (kept n) c (memory_of place n c)

-- Memory as an abort closes the case.

closed-accepted : (m : Memory) (f : Phase) → (closes m f).accepted ≡ m.accepted
closed-accepted m Idle = refl
closed-accepted m Open = refl
closed-accepted m Asked = refl
closed-accepted m Over = refl

closed-acks : (m : Memory) (f : Phase) → (closes m f).acks ≡ m.acks
closed-acks m Idle = refl
closed-acks m Open = refl
closed-acks m Asked = refl
closed-acks m Over = refl

closed-begun : (m : Memory) (f : Phase) → m.phase ≡ f → is_begun (closes m f).phase ≡ is_begun f
closed-begun m Idle e = ap is_begun e
closed-begun m Open e = refl
closed-begun m Asked e = refl
closed-begun m Over e = refl

-- What of its memory a half shows.
pub record SameMemory (m m' : Memory) : Type 0 where
  pub accepted : m'.accepted ≡ m.accepted
  pub acks : m'.acks ≡ m.acks
  pub begun : is_begun m'.phase ≡ is_begun m.phase

aborted_memory : (me p : ProcessId) (boot i : ℕ) (c : Case) (m : Memory) (h : Heard)
    → h.input ≡ MessageInput i (Abort c)
    → SameMemory m (remembers me (Below p) boot c m h)
aborted_memory me p boot i c m h e = record {
  accepted = rw (e, same_case-refl c) (closed-accepted (retires m c) m.phase);
  acks = rw (e, same_case-refl c) (closed-acks (retires m c) m.phase);
  begun = rw (e, same_case-refl c) (closed-begun (retires m c) m.phase refl);
}

-- A plain Abort after the promise.

half_aborted : (s s' : Standing) (m m' : Memory) (n : Node) (h : Heard) (e : Effect) (c : Case)
    (t : Ticket) → SameMemory m m'
    → e.written ≡ plain (AbortRecord c []) → e.accepts ≡ [] → e.counts ≡ [] → e.told ≡ None
    → phase_by n.failed s ≡ Closed → phase_by n.failed s' ≡ Closed → has (is_prepare c) n.life ≡ true
    → parent_half_at s' m' (after n h e) c t ≡ aborts_promise (parent_half_at s m n c t)
half_aborted s s' m m' n h e c t same one none_accepted none_counted none_told before later promised =
    rw (one, none_accepted, none_counted, none_told, same.accepted, same.acks, same.begun)
    (simp (has-push_behind, has-cons, same_case-refl, in_list-none, before, later, promised))

-- with an Abort the case is closed
closed-aborted : (u e k p l none : Bool) (heard : Standing)
    → phase_by u (standing_by e k true p l none heard) ≡ Closed
closed-aborted true e k p l none heard = refl
closed-aborted false true k p l none heard = refl
closed-aborted false false true p l true heard = refl
closed-aborted false false true p l false heard = refl
closed-aborted false false false p l true heard = refl
closed-aborted false false false p l false heard = refl

phase-prepared : (u : Bool) (s : Standing) → s ≡ Prepared → phase_by u s ≡ Closed
phase-prepared true s e = refl
phase-prepared false s e = rw e

-- the Abort stands
abort_stands : (n : Node) (h : Heard) (e : Effect) (c : Case) → e.written ≡ plain (AbortRecord c [])
    → has (is_abort c) (kept (after n h e)) ≡ true
abort_stands n h e c one = rw one (simp (has-push_behind, same_case-refl))

stands_aborted : (place : Place) (n : Node) (h : Heard) (e : Effect) (c : Case)
    → e.written ≡ plain (AbortRecord c [])
    → phase_by n.failed (coordinator_view place (after n h e) c).standing ≡ Closed
stands_aborted place n h e c one =
    rw (standing-by_records place (after n h e) c, abort_stands n h e c one)
    (closed-aborted n.failed (has (is_end c) (kept (after n h e))) (has (is_commit c) (kept (after n h e)))
    (has (is_prepare c) (kept (after n h e))) (has (is_collecting c) (kept (after n h e)))
    (none_of (owing_by c (kept (after n h e))))
    (phase_standing c.txn.presumption (memory_of place (after n h e) c).phase))

pub cascaded_aborted : (me p : ProcessId) (tree : List TreeProcess) (n : Node) (i : ℕ) (h : Heard)
    (e : Effect) (c : Case) (t : Ticket) → h.input ≡ MessageInput i (Abort c)
    → e.written ≡ plain (AbortRecord c []) → e.accepts ≡ [] → e.counts ≡ [] → e.told ≡ None
    → (coordinator_view (record { me = me; role = Below p; tree = tree }) n c).standing ≡ Prepared
    → has (is_prepare c) n.life ≡ true
    → parent_half (record { me = me; role = Below p; tree = tree }) (after n h e) c t ≡ aborts_promise
    (parent_half (record { me = me; role = Below p; tree = tree }) n c t)
cascaded_aborted me p tree n i h e c t input one none_accepted none_counted none_told stands promised =
    let place : Place = record { me = me; role = Below p; tree = tree } in
    half_aborted (coordinator_view place n c).standing (coordinator_view place (after n h e) c).standing
    (memory_of place n c) (memory_of place (after n h e) c) n h e c t
    (rw (memory_of-plain place n h e c (AbortRecord c []) one (λ b. refl))
    (aborted_memory me p (boot_of (kept n)) i c (memory_of place n c) h input))
    one none_accepted none_counted none_told (phase-prepared n.failed _ stands)
    (stands_aborted place n h e c one) promised
