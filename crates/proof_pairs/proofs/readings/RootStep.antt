-- The last vote at the root is the move of its decision.
use Rattle.std.proofs.Common.{if◌then◌else◌, ◌≡◌, ◌∙◌, ap, sym, subst, Bool, true, false, List, [], ◌∷◌, ◌++◌, Option, None, refl, ◌&&◌, arith}
use Rattle.protocol.specs.declared.names.Case.{Case}
use Rattle.protocol.specs.declared.names.Ticket.{Ticket}
use Rattle.protocol.specs.declared.names.Txn.{Txn}
use Rattle.protocol.specs.declared.names.Presumption.{Presumption}
use Rattle.protocol.specs.declared.names.Presumption.TheVariants.{PresumeAbort}
use Rattle.protocol.specs.declared.messages.Message.TheVariants.{Yes}
use Rattle.protocol.specs.declared.records.Record.{Record}
use Rattle.protocol.specs.declared.standings.Standing.{Standing}
use Rattle.protocol_words.specs.Variants.{CollectingStanding, MessageInput, VoteYes}
use Rattle.protocol.specs.Names.{child_case, root_case}
use Rattle.protocol.specs.Records.{in_list, none_of}
use Rattle.protocol.specs.Nodes.{First, Place, Role, AtRoot, Node, kept, Heard, Effect}
use Rattle.protocol.specs.Memory.{Memory, memory_of, yes_of, voted_so}
use Rattle.protocol.specs.Standings.{CoordinatorView, coordinator_view, coordinator_standing, view_at, case_of_child}
use Rattle.protocol.specs.CoordinatorRows.{on_vote, quiet, collecting_after, collecting_full, collecting_read_only, decides, root_commits}
use Rattle.protocol.specs.Reactions.{hears_from_child, row_effect, seat_of, vote_for}
use Rattle.protocol.specs.World.{World}
use Rattle.proof_pairs.specs.Reading.{Reading, Collecting}
use Rattle.proof_pairs.specs.Invariant.{PresumedAbort}
use Rattle.proof_pairs.specs.readings.ReadingOf.{reading_of, phase_by}
use Rattle.proof_pairs.specs.readings.StepLaws.{IsLastVote, RootDecides}
use Rattle.proof_pairs.proofs.readings.Delivered.{delivered_as}
use Rattle.proof_pairs.proofs.readings.Named.{in_list-yes, voted_so-last, in_list-none}
use Rattle.proof_pairs.proofs.readings.ReadingSteps.{before_root}
use Rattle.proof_pairs.proofs.readings.RootRows.{row_commits}
use Rattle.proof_pairs.proofs.readings.CoordinatorHalves.{standing-by_records}

view_at-accepted : (s : Standing) (rs : List Record) (c : Case) (m : Memory) → s ≡ CollectingStanding
    → (view_at s rs c m).accepted ≡ m.accepted
view_at-accepted s rs c m e = ap (λ (x : Standing). (view_at x rs c m).accepted) e

accepted_view : (place : Place) (n : Node) (c : Case)
    → (coordinator_view place n c).standing ≡ CollectingStanding
    → (coordinator_view place n c).accepted ≡ (memory_of place n c).accepted
unfolding coordinator_view
accepted_view place n c e = view_at-accepted (coordinator_standing (kept n) c (memory_of place n c))
    (kept n) c (memory_of place n c) (sym (standing-by_records place n c) ∙ e)

not_none : (ts : List Ticket) (t : Ticket) → in_list ts t ≡ true → none_of ts ≡ false
unfolding none_of
not_none [] t e = absurd (let f : false ≡ true = sym (in_list-none t) ∙ e in cc)
not_none (u ∷ us) t e = refl

and-true : (a b : Bool) → b ≡ true → (a && b) ≡ a
and-true a b e = grind arith

counted_accepted : (a b : Bool) → (a && b) ≡ true → a ≡ true
counted_accepted a b e = grind arith

-- all who said yes, with this vote
abbrev with_yes : CoordinatorView → Ticket → CoordinatorView
with_yes v t = record v { votes = v.votes ++ (t, VoteYes) ∷ [] }

abbrev yes_with : CoordinatorView → Ticket → List Ticket
yes_with v t = yes_of v.accepted (v.votes ++ (t, VoteYes) ∷ [])

named_yes : (v : CoordinatorView) (t : Ticket) → in_list (yes_with v t) t ≡ in_list v.accepted t
named_yes v t = in_list-yes v.accepted (v.votes ++ (t, VoteYes) ∷ []) t
    ∙ and-true (in_list v.accepted t) (voted_so VoteYes (v.votes
    ++ (t, VoteYes) ∷ []) t) (voted_so-last v.votes t)

effect_decides : (place : Place) (n : Node) (x : Txn) (t : Ticket)
    → IsLastVote (coordinator_view place n (root_case x)) (case_of_child place n x t) x t
    → x.presumption ≡ PresumeAbort
    → hears_from_child First place None n (Yes (child_case x t))
    ≡ row_effect (root_case x) (record
    (root_commits (seat_of place None (root_case x))
    (with_yes (coordinator_view place n (root_case x)) t)
    (yes_with (coordinator_view place n (root_case x)) t) PresumeAbort) { counts = (t, VoteYes) ∷ [] })
effect_decides place n x t l pa =
    let c = root_case x in
    let v = coordinator_view place n c in
    let v' = with_yes v t in
    let s = seat_of place None c in
    let ys = yes_with v t in
    let some : none_of ys ≡ false = not_none ys t (named_yes v t
    ∙ counted_accepted (in_list v.accepted t) _ l.first) in
    ap (λ (o : Option Case). vote_for place None n t VoteYes o) l.belongs
    ∙ (ap (λ (st : Standing). row_effect c (on_vote s t VoteYes v st)) l.collecting
    ∙ (ap (λ (b : Bool). row_effect c
    (if b then record (collecting_after s v' VoteYes) { counts = (t, VoteYes) ∷ [] } else quiet v))
    l.first
    ∙ (ap (λ (b : Bool). row_effect c
    (record (if b then collecting_full s v' else quiet v') { counts = (t, VoteYes) ∷ [] })) l.last
    ∙ (ap (λ (b : Bool). row_effect c
    (record (if b then collecting_read_only s else decides s v' ys None)
    { counts = (t, VoteYes) ∷ [] })) some
    ∙ ap (λ (q : Presumption). row_effect c
    (record (root_commits s v' ys q) { counts = (t, VoteYes) ∷ [] })) pa))))

-- what the invariant says of a case that collects votes
pub live_case : (r : Reading) → PresumedAbort r → r.phase ≡ Collecting → (r.born ≡ true) × (r.owed ≡ false)
live_case r h e = grind arith

phase-collecting : (f : Bool) (s : Standing) → f ≡ false → s ≡ CollectingStanding → phase_by f s ≡ Collecting
phase-collecting f s e1 e2 = rw (e1, e2)

pub root_decides : RootDecides
root_decides tree w w' above x t i a e pair pa inv last made =
    let place : Place = record { me = x.root; role = AtRoot; tree = tree } in
    let n = w.at x.root in
    let c = root_case x in
    let h : Heard = record { input = MessageInput i (Yes (child_case x t)); data_answer = a; version = First }
    in
    let both = delivered_as tree w x.root AtRoot i (Yes (child_case x t)) a e w' pair.root made refl in
    let last' : IsLastVote (coordinator_view place n c) (case_of_child place n x t) x t =
    subst (λ (r : Role). IsLastVote
    (coordinator_view (record { me = x.root; role = r; tree = tree }) n c)
    (case_of_child (record { me = x.root; role = r; tree = tree }) n x t) x t) pair.root last in
    let v = coordinator_view place n c in
    let same = effect_decides place n x t last' pa in
    let old = before_root tree w above x t pair in
    let phase : (reading_of tree w above c t).phase ≡ Collecting = sym (ap (λ (r : Reading). r.phase) old)
    ∙ phase-collecting n.failed v.standing both.0 last'.collecting in
    let facts = live_case (reading_of tree w above c t) inv phase in
    let accepted : in_list (yes_with v t) t ≡ (reading_of tree w above c t).accepted = named_yes v t
    ∙ (ap (λ (ts : List Ticket). in_list ts t) (accepted_view place n c last'.collecting)
    ∙ ap (λ (r : Reading). r.accepted) old) in
    ap (λ (y : World). reading_of tree y above c t) both.1
    ∙ row_commits tree w above x t pair i h (hears_from_child First place None n (Yes (child_case x t)))
    (seat_of place None c) (yes_with v t) refl
    (ap (λ (y : Effect). y.written) same) (ap (λ (y : Effect). y.accepts) same)
    (ap (λ (y : Effect). y.counts) same) (ap (λ (y : Effect). y.told) same)
    (ap (λ (y : Effect). y.messages) same) refl (accepted, phase, facts.0, facts.1)
