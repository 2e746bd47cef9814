-- The world's steps are moves of the pairs.
use Rattle.std.proofs.Common.{if◌then◌else◌, ◌≡◌, ◌∙◌, ap, sym, subst, Bool, List, Some, refl, ℕ}
use Rattle.protocol.specs.declared.names.Case.{Case}
use Rattle.protocol.specs.declared.names.ProcessId.{ProcessId}
use Rattle.protocol.specs.World.{World}
use Rattle.protocol.specs.declared.names.Presumption.{Presumption}
use Rattle.protocol.specs.declared.names.Presumption.TheVariants.{PresumeAbort}
use Rattle.protocol.specs.declared.messages.Message.TheVariants.{Prepare, Abort, No}
use Rattle.protocol.specs.declared.records.Record.{Record}
use Rattle.protocol.specs.declared.records.Write.{Write}
use Rattle.protocol.specs.declared.standings.Standing.{Standing}
use Rattle.protocol.specs.declared.standings.Standing.TheVariants.{Prepared}
use Rattle.protocol_words.specs.Variants.{MessageInput}
use Rattle.protocol.specs.Names.{child_case, process_of}
use Rattle.protocol.specs.Records.{promised_by}
use Rattle.protocol.specs.Nodes.{First, Place, Role, AtLeaf, Below, Node, kept, Heard, DataAnswer, Holds, Effect}
use Rattle.protocol.specs.Memory.{Memory, memory_of}
use Rattle.protocol.specs.Standings.{coordinator_view, coordinator_standing, view_at, manager_view, unknown_branch}
use Rattle.protocol.specs.CoordinatorRows.{each, on_abort, prepared_abort_by}
use Rattle.protocol.specs.ManagerRows.{on_prepare, active_prepare_holding, replies}
use Rattle.protocol.specs.Reactions.{manager_hears, cascaded_hears, leaf_effect, leaf_of, row_effect, seat_of}
use Rattle.proof_pairs.specs.readings.ReadingOf.{reading_of}
use Rattle.proof_pairs.specs.readings.StepLaws.{IsReady, ManagerVotesYes, CascadedPassesAbort}
use Rattle.proof_pairs.proofs.readings.Delivered.{delivered_as}
use Rattle.proof_pairs.proofs.readings.LeafRows.{row_yes}
use Rattle.proof_pairs.proofs.readings.CascadedRows.{row_aborts}
use Rattle.proof_pairs.proofs.readings.CoordinatorHalves.{standing-by_records}

pub effect_yes : (place : Place) (p : ProcessId) (k : Node) (a : DataAnswer) (d : Case) (n : ℕ)
    (ws : List Write) → IsReady (manager_view place k d) n a ws
    → manager_hears First place p k a (Prepare d n) ≡ leaf_effect
    (active_prepare_holding (leaf_of place p d) (Holds ws))
effect_yes place p k a d n ws r =
    let v = manager_view place k d in
    let l = leaf_of place p d in
    ap (λ (s : Standing). leaf_effect (on_prepare l n a.holding v s)) r.active
    ∙ (ap (λ (b : Bool). leaf_effect
    (if b then active_prepare_holding l a.holding else replies l (No l.own) unknown_branch)) r.done
    ∙ ap (λ h. leaf_effect (active_prepare_holding l h)) r.holds)

pub manager_votes_yes : ManagerVotesYes
manager_votes_yes tree w w' above c t p i n a ws e pair ready made =
    let place : Place = record { me = t.child; role = AtLeaf p; tree = tree } in
    let k = w.at t.child in
    let d = child_case c.txn t in
    let h : Heard = record { input = MessageInput i (Prepare d n); data_answer = a; version = First } in
    let both = delivered_as tree w t.child (AtLeaf p) i (Prepare d n) a e w' pair.leaf made refl in
    let ready' : IsReady (manager_view place k d) n a ws = subst
    (λ (r : Role). IsReady (manager_view (record { me = t.child; role = r; tree = tree }) k d) n a ws)
    pair.leaf ready in
    let same : manager_hears First place p k a (Prepare d n) ≡ leaf_effect
    (active_prepare_holding (leaf_of place p d) (Holds ws)) = effect_yes place p k a d n ws ready' in
    ap (λ (x : World). reading_of tree x above c t) both.1
    ∙ row_yes tree w above c t p pair h (manager_hears First place p k a (Prepare d n)) ws
    (ap (λ (x : Effect). x.written) same) (ap (λ (x : Effect). x.messages) same) both.0 ready'.active

-- The view of a Prepared case names whom its Prepare names.

view_at-promised : (s : Standing) (rs : List Record) (c : Case) (m : Memory) → s ≡ Prepared
    → (view_at s rs c m).promised ≡ promised_by c rs
view_at-promised s rs c m e = ap (λ (x : Standing). (view_at x rs c m).promised) e

promised_view : (place : Place) (n : Node) (c : Case) → (coordinator_view place n c).standing ≡ Prepared
    → (coordinator_view place n c).promised ≡ promised_by c (kept n)
unfolding coordinator_view
promised_view place n c e = view_at-promised (coordinator_standing (kept n) c (memory_of place n c))
    (kept n) c (memory_of place n c) (sym (standing-by_records place n c) ∙ e)

effect_aborts : (place : Place) (p : ProcessId) (n : Node) (c : Case)
    → (coordinator_view place n c).standing ≡ Prepared → c.txn.presumption ≡ PresumeAbort
    → cascaded_hears First place p n (Abort c) ≡ row_effect c
    (prepared_abort_by First (seat_of place (Some p) c) (coordinator_view place n c) PresumeAbort)
effect_aborts place p n c stands pa =
    let v = coordinator_view place n c in
    let s = seat_of place (Some p) c in
    ap (λ (x : Standing). row_effect c (on_abort First s v x)) stands
    ∙ ap (λ (q : Presumption). row_effect c (prepared_abort_by First s v q)) pa

pub cascaded_passes_abort : CascadedPassesAbort
cascaded_passes_abort tree w w' above c t p i a e pair pa stands promised made =
    let place : Place = record { me = process_of c; role = Below p; tree = tree } in
    let n = w.at (process_of c) in
    let h : Heard = record { input = MessageInput i (Abort c); data_answer = a; version = First } in
    let both = delivered_as tree w (process_of c) (Below p) i (Abort c) a e w' pair.below made refl in
    let stands' : (coordinator_view place n c).standing ≡ Prepared = subst
    (λ (r : Role). (coordinator_view (record { me = process_of c; role = r; tree = tree }) n
    c).standing ≡ Prepared) pair.below stands in
    let same : cascaded_hears First place p n (Abort c) ≡ row_effect c
    (prepared_abort_by First (seat_of place (Some p) c) (coordinator_view place n c) PresumeAbort) =
    effect_aborts place p n c stands' pa in
    ap (λ (x : World). reading_of tree x above c t) both.1
    ∙ row_aborts tree w above c t p pair i h (cascaded_hears First place p n (Abort c))
    (seat_of place (Some p) c) refl
    (ap (λ (x : Effect). x.written) same) (ap (λ (x : Effect). x.accepts) same)
    (ap (λ (x : Effect). x.counts) same) (ap (λ (x : Effect). x.told) same)
    (ap (λ (x : Effect). x.messages) same
    ∙ ap (λ ts. each (seat_of place (Some p) c) Abort ts) (promised_view place n c stands'))
    refl stands' promised
