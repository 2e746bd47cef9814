-- A fault at PREPARE is the move of failing.
use Rattle.std.proofs.Common.{◌≡◌, ◌∙◌, ℕ, zero, suc, ap, sym, subst, Bool, true, false, List, [], ◌∷◌, ◌++◌, take, refl}
use Rattle.protocol.specs.declared.names.Case.{Case}
use Rattle.protocol.specs.declared.names.Ticket.{Ticket}
use Rattle.protocol.specs.declared.messages.Envelope.{Envelope}
use Rattle.protocol.specs.declared.messages.Message.TheVariants.{Prepare}
use Rattle.protocol.specs.declared.records.Record.{Record}
use Rattle.protocol_words.specs.Variants.{ActiveStanding, CaseBranch, MessageInput, PreparedRecord}
use Rattle.protocol.specs.Names.{child_case, process_of}
use Rattle.protocol.specs.Nodes.{First, Place, Role, AtLeaf, Node, Heard, Holds, Effect, fails_in, entries_written, place_of}
use Rattle.protocol.specs.Standings.{manager_view}
use Rattle.protocol.specs.ManagerRows.{active_prepare_holding}
use Rattle.protocol.specs.Reactions.{manager_hears, leaf_effect, leaf_of}
use Rattle.protocol.specs.Outcomes.{is_commit_outcome}
use Rattle.protocol.specs.World.{World, fault_effect}
use Rattle.proof_pairs.specs.Reading.{Reading}
use Rattle.proof_pairs.specs.ChildCrash
use Rattle.proof_pairs.specs.Invariant.{Common}
use Rattle.proof_pairs.specs.readings.ReadingOf.{reading_of, reading_from, is_root_ticket, parent_half, child_half, wire}
use Rattle.protocol.specs.Audits.{is_promise}
use Rattle.proof_pairs.specs.readings.Halves.{child_front}
use Rattle.proof_pairs.specs.readings.StepLaws.{IsReady, ManagerFails, promise_fault}
use Rattle.proof_pairs.specs.readings.Steps.{made_at, IsLeafPair}
use Rattle.protocol.specs.declared.names.ProcessId.{ProcessId}
use Rattle.protocol.specs.declared.trees.TreeProcess.{TreeProcess}
use Rattle.protocol.specs.declared.records.Write.{Write}
use Rattle.protocol.specs.CoordinatorRows.{forced}
use Rattle.proof_pairs.proofs.readings.Lists.{sent-nil, has-nil_behind}
use Rattle.proof_pairs.proofs.readings.Delivered.{failed_as}
use Rattle.std.proofs.Math.Seq.{take-nil}
use Rattle.proof_pairs.proofs.readings.ReadingSteps.{at_child, before, same_process-refl}
use Rattle.proof_pairs.proofs.readings.LeafRows.{moved, open_by}
use Rattle.proof_pairs.proofs.readings.LeafCrash.{front-kept, half_fails, half_fails_to_promise, reading-fails, reading-fails_to_promise}
use Rattle.proof_pairs.proofs.readings.StepLaws.{effect_yes}

pub wire-quiet : (c : Case) (t : Ticket) (net : List Envelope) → wire c t (net ++ []) ≡ wire c t net
wire-quiet c t net = simp (sent-nil)

quiet : (r : Reading) → Common r → r.ticket_open ≡ true
    → (r.prepared_kept ≡ false) × (r.prepared_ever ≡ false) × (r.sent_read ≡ false)
quiet r h e = let v = h.not_voted e in (v.no_prepared.0, v.no_prepared.1, v.said_nothing.0)

fault_zero : (tree : List TreeProcess) (w : World) (above : Bool) (c : Case) (t : Ticket) (p : ProcessId)
    → IsLeafPair tree c t p → (h : Heard) (e e' : Effect) (f : ℕ)
    → Common (reading_of tree w above c t) → e'.messages ≡ []
    → reading_of tree (made_at w t.child (fails_in (w.at t.child) h e zero f) e') above c t
    ≡ ChildCrash.hardens_failed_child (child_front (child_case c.txn t) ((w.at t.child).forced
    ++ take f ((w.at t.child).unforced
    ++ [])) (w.at t.child).durable) (ChildCrash.child_fails (reading_of tree w above c t))
fault_zero tree w above c t p pair h e e' f inv none =
    let place : Place = record { me = t.child; role = AtLeaf p; tree = tree } in
    let k = w.at t.child in
    let d = child_case c.txn t in
    let old = before tree w above c t p pair in
    let inv' : Common (reading_from (is_root_ticket c.ticket) true (is_commit_outcome w c.txn) above
    (parent_half (place_of tree (process_of c)) (w.at (process_of c)) c t) (child_half place k d)
    (wire c t w.net)) = subst Common (sym old) inv in
    at_child tree w above c t p pair (fails_in k h e zero f) e'
    ∙ (moved (is_root_ticket c.ticket) (is_commit_outcome w c.txn) above
    (parent_half (place_of tree (process_of c)) (w.at (process_of c)) c t) _ _ _ _
    (half_fails (manager_view place k d).standing
    (manager_view place (fails_in k h e zero f) d).standing k h e f d
    (λ x. (inv.child_forced_promise x).1) (λ x. (inv.forced_heuristic x).1)
    (λ x. (inv.forced_forgot x).1))
    (ap (λ ls. wire c t (w.net ++ ls)) none ∙ wire-quiet c t w.net)
    ∙ (reading-fails (is_root_ticket c.ticket) (is_commit_outcome w c.txn) above
    (parent_half (place_of tree (process_of c)) (w.at (process_of c)) c t) (child_half place k d)
    (wire c t w.net)
    (child_front d (k.forced ++ take f (k.unforced ++ [])) k.durable) (quiet _ inv')
    (λ x. sym (has-nil_behind (is_promise d) k.forced k.unforced)
    ∙ front-kept (is_promise d) k.forced f (k.unforced ++ []) x)
    ∙ ap (λ (r : Reading). ChildCrash.hardens_failed_child (child_front d (k.forced
    ++ take f (k.unforced ++ [])) k.durable) (ChildCrash.child_fails r)) old))

fault_more : (tree : List TreeProcess) (w : World) (above : Bool) (c : Case) (t : Ticket) (p : ProcessId)
    → IsLeafPair tree c t p → (h : Heard) (e e' : Effect) (a f : ℕ) (ws : List Write)
    → Common (reading_of tree w above c t) → e'.messages ≡ []
    → e.written ≡ forced (PreparedRecord (CaseBranch (child_case c.txn t)) ws)
    → (w.at t.child).failed ≡ false
    → (manager_view (record { me = t.child; role = AtLeaf p; tree = tree }) (w.at t.child)
    (child_case c.txn t)).standing ≡ ActiveStanding
    → reading_of tree (made_at w t.child (fails_in (w.at t.child) h e (suc a) f) e') above c t
    ≡ ChildCrash.hardens_failed_child (child_front (child_case c.txn t) ((w.at t.child).forced
    ++ take f ((w.at t.child).unforced
    ++ PreparedRecord (CaseBranch (child_case c.txn t)) ws ∷ [])) (w.at t.child).durable)
    (ChildCrash.fails_to_promise (reading_of tree w above c t))
fault_more tree w above c t p pair h e e' a f ws inv none one up stands =
    let place : Place = record { me = t.child; role = AtLeaf p; tree = tree } in
    let k = w.at t.child in
    let d = child_case c.txn t in
    let old = before tree w above c t p pair in
    let front = child_front d (k.forced
    ++ take f (k.unforced ++ PreparedRecord (CaseBranch d) ws ∷ [])) k.durable in
    at_child tree w above c t p pair (fails_in k h e (suc a) f) e'
    ∙ (moved (is_root_ticket c.ticket) (is_commit_outcome w c.txn) above
    (parent_half (place_of tree (process_of c)) (w.at (process_of c)) c t) _ _ _ _
    (half_fails_to_promise (manager_view place k d).standing
    (manager_view place (fails_in k h e (suc a) f) d).standing k h e a f d ws one
    (λ x. (inv.child_forced_promise x).1) (λ x. (inv.forced_heuristic x).1)
    (λ x. (inv.forced_forgot x).1))
    (ap (λ ls. wire c t (w.net ++ ls)) none ∙ wire-quiet c t w.net)
    ∙ (reading-fails_to_promise (is_root_ticket c.ticket) (is_commit_outcome w c.txn) above
    (parent_half (place_of tree (process_of c)) (w.at (process_of c)) c t) (child_half place k d)
    (wire c t w.net)
    front (open_by k.failed (manager_view place k d).standing up stands)
    ∙ ap (λ (r : Reading). ChildCrash.hardens_failed_child front (ChildCrash.fails_to_promise r)) old))

-- what is forced now at the process that stepped
forced_at : (w : World) (q : ProcessId) (n : Node) (e : Effect) → ((made_at w q n e).at q).forced ≡ n.forced
forced_at w q n e = rw (same_process-refl q)

-- the front that a fault leaves of the promise
left_zero : (d : Case) (k : Node) (h : Heard) (e : Effect) (f : ℕ) (w : World) (q : ProcessId) (e' : Effect)
    → child_front d ((made_at w q (fails_in k h e zero f) e').at q).forced k.durable ≡ child_front d
    (k.forced ++ take f (k.unforced ++ [])) k.durable
left_zero d k h e f w q e' = ap (λ rs. child_front d rs k.durable) (forced_at w q (fails_in k h e zero f) e')

left_more : (d : Case) (k : Node) (h : Heard) (e : Effect) (a f : ℕ) (w : World) (q : ProcessId)
    (e' : Effect) (r : Record) → e.written ≡ forced r
    → child_front d ((made_at w q (fails_in k h e (suc a) f) e').at q).forced k.durable ≡ child_front d
    (k.forced ++ take f (k.unforced ++ r ∷ [])) k.durable
left_more d k h e a f w q e' r one =
    ap (λ rs. child_front d rs k.durable) (forced_at w q (fails_in k h e (suc a) f) e'
    ∙ ap (λ rs. k.forced ++ take f (k.unforced ++ rs)) (ap (λ ws. take (suc a) (entries_written ws)) one
    ∙ ap (λ rs. r ∷ rs) (take-nil {A = Record} a)))

fails_by : (a : ℕ) (tree : List TreeProcess) (w : World) (above : Bool) (c : Case) (t : Ticket)
    (p : ProcessId) → IsLeafPair tree c t p → (h : Heard) (e e' : Effect) (f : ℕ) (ws : List Write)
    → Common (reading_of tree w above c t) → e'.messages ≡ []
    → e.written ≡ forced (PreparedRecord (CaseBranch (child_case c.txn t)) ws)
    → (w.at t.child).failed ≡ false
    → (manager_view (record { me = t.child; role = AtLeaf p; tree = tree }) (w.at t.child)
    (child_case c.txn t)).standing ≡ ActiveStanding
    → reading_of tree (made_at w t.child (fails_in (w.at t.child) h e a f) e') above c t
    ≡ ChildCrash.hardens_failed_child (child_front (child_case c.txn t)
    ((made_at w t.child (fails_in (w.at t.child) h e a f) e').at t.child).forced
    (w.at t.child).durable) (promise_fault a (reading_of tree w above c t))
fails_by zero tree w above c t p pair h e e' f ws inv none one up stands =
    fault_zero tree w above c t p pair h e e' f inv none
    ∙ ap (λ (x : ChildCrash.ChildFront). ChildCrash.hardens_failed_child x
    (ChildCrash.child_fails (reading_of tree w above c t)))
    (sym (left_zero (child_case c.txn t) (w.at t.child) h e f w t.child e'))
fails_by (suc a) tree w above c t p pair h e e' f ws inv none one up stands =
    fault_more tree w above c t p pair h e e' a f ws inv none one up stands
    ∙ ap (λ (x : ChildCrash.ChildFront). ChildCrash.hardens_failed_child x
    (ChildCrash.fails_to_promise (reading_of tree w above c t)))
    (sym (left_more (child_case c.txn t) (w.at t.child) h e a f w t.child e'
    (PreparedRecord (CaseBranch (child_case c.txn t)) ws) one))

pub manager_fails : ManagerFails
manager_fails tree w w' above c t p i n a ws f e pair inv ready made =
    let place : Place = record { me = t.child; role = AtLeaf p; tree = tree } in
    let k = w.at t.child in
    let d = child_case c.txn t in
    let h : Heard = record { input = MessageInput i (Prepare d n); data_answer = a; version = First } in
    let ready' : IsReady (manager_view place k d) n a ws = subst
    (λ (r : Role). IsReady (manager_view (record { me = t.child; role = r; tree = tree }) k d) n a ws)
    pair.leaf ready in
    let both = failed_as tree w t.child (AtLeaf p) i (Prepare d n) a f e w' pair.leaf made refl in
    let made' = manager_hears First place p k a (Prepare d n) in
    let same : made' ≡ leaf_effect (active_prepare_holding (leaf_of place p d) (Holds ws)) = effect_yes
    place p k a d n ws ready' in
    subst (λ (x : World). reading_of tree x above c t ≡ ChildCrash.hardens_failed_child
    (child_front d (x.at t.child).forced k.durable)
    (promise_fault f.appended (reading_of tree w above c t))) (sym both.1)
    (fails_by f.appended tree w above c t p pair h made' (fault_effect made' f.appended) f.forced ws inv
    refl (ap (λ (x : Effect). x.written) same) both.0 ready'.active)
