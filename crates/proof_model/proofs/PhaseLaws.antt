-- What the root remembers of a case, phase by phase.
use Rattle.std.proofs.Common.{◌≡◌, subst, ◌+◌, ℕ, Bool, true, false, Option, Some, None, List, [], ◌∷◌, ◌++◌, refl, if◌then◌else◌}
use Rattle.std.specs.Prelude.{fold}
use Rattle.protocol.specs.declared.names.Case.{Case}
use Rattle.protocol.specs.declared.names.ProcessId.{ProcessId}
use Rattle.protocol.specs.declared.names.Ticket.{Ticket}
use Rattle.protocol.specs.declared.names.Outcome.{Outcome}
use Rattle.protocol.specs.declared.messages.Message.{Message}
use Rattle.protocol.specs.declared.messages.Finding.{Finding}
use Rattle.protocol.specs.declared.messages.Message.TheVariants.{Joined, Yes, No, Read, Ack}
use Rattle.protocol.specs.declared.standings.Vote.{Vote}
use Rattle.protocol_words.specs.Variants.{AbortAct, ActInput, CommitAct, MessageInput, VoteNo, VoteRead, VoteYes, WorkAct}
use Rattle.protocol.specs.declared.events.Act.TheVariants.{Begin}
use Rattle.protocol.specs.declared.events.Input.{Input}
use Rattle.protocol.specs.declared.trees.TreeProcess.{TreeProcess}
use Rattle.protocol.specs.Names.{same_txn, same_case, root_case}
use Rattle.protocol.specs.Records.{none_of, boot_of}
use Rattle.protocol.specs.Nodes.{AtRoot, Node, kept, Heard}
use Rattle.protocol.specs.Memory.{Memory, Phase, Idle, Open, Asked, Over, memory_of, remembers, root_remembers, asks_votes, closes, with_vote, takes_vote, takes_ack, is_counted, all_voted, opens_case, next_txn, sends_work, accepts_ticket, hears_child, of_ticket, of_child, fresh_memory, has_child, ticket_of_child}
use Rattle.protocol.specs.Views.{root_place}
use Rattle.proof_model.proofs.AckLaws.{QuietAt}

-- The phases of a case: no acknowledgement is heard while children or votes can still come.

abbrev pub Quiet : Memory → Type 0
Quiet m = QuietAt m.phase m.acks

pub quiet_if : (b : Bool) (m r : Memory) → Quiet m → Quiet r → Quiet (if b then r else m)
quiet_if true m r q k = k
quiet_if false m r q k = q

pub quiet_over : (m : Memory) → Quiet (record m { phase = Over })
quiet_over m = tt

pub quiet_work : (m : Memory) (t : Option Ticket) (ph : Phase) → Quiet m → Quiet (sends_work m t ph)
quiet_work m None Idle q = q
quiet_work m None Open q = q
quiet_work m None Asked q = q
quiet_work m None Over q = q
quiet_work m (Some t) Idle q = q
quiet_work m (Some t) Open q = q
quiet_work m (Some t) Asked q = q
quiet_work m (Some t) Over q = q

pub quiet_next : (b : Bool) (acks : List (Ticket × Outcome)) → acks ≡ []
    → QuietAt (if b then Over else Asked) acks
quiet_next true acks q = tt
quiet_next false acks q = q

pub quiet_asks : (m : Memory) (ph : Phase) → QuietAt ph m.acks → m.phase ≡ ph → Quiet (asks_votes m ph)
quiet_asks m Open q e = quiet_next (none_of m.accepted) m.acks q
quiet_asks m Idle q e = rw e tt
quiet_asks m Asked q e = rw e q
quiet_asks m Over q e = rw e tt

pub quiet_closes : (m : Memory) (ph : Phase) → m.phase ≡ ph → Quiet (closes m ph)
quiet_closes m Idle e = rw e tt
quiet_closes m Open e = tt
quiet_closes m Asked e = tt
quiet_closes m Over e = tt

pub quiet_accepts : (m : Memory) (t : Ticket) (ph : Phase) → Quiet m → Quiet (accepts_ticket m t ph)
quiet_accepts m t Idle q = q
quiet_accepts m t Open q = quiet_if (has_child m.accepted t.child)
    (record m { accepted = m.accepted ++ t ∷ [] }) m q q
quiet_accepts m t Asked q = q
quiet_accepts m t Over q = q

pub quiet_vote : (m : Memory) (t : Ticket) (w : Vote) → m.acks ≡ [] → Quiet (with_vote m t w)
quiet_vote m t VoteNo q = tt
quiet_vote m t VoteYes q = quiet_next (all_voted m.accepted (m.votes ++ (t, VoteYes) ∷ [])) m.acks q
quiet_vote m t VoteRead q = quiet_next (all_voted m.accepted (m.votes ++ (t, VoteRead) ∷ [])) m.acks q

pub quiet_takes : (m : Memory) (t : Ticket) (w : Vote) (ph : Phase) → QuietAt ph m.acks → m.phase ≡ ph
    → Quiet (takes_vote m t w ph)
quiet_takes m t w Idle q e = rw e tt
quiet_takes m t w Open q e = rw e q
quiet_takes m t w Asked q e = quiet_if (is_counted m.accepted m.votes t) m (with_vote m t w) (rw e q)
    (quiet_vote m t w q)
quiet_takes m t w Over q e = rw e tt

pub quiet_acks : (m : Memory) (t : Ticket) (o : Outcome) (fs : List Finding) (ph : Phase) → QuietAt ph m.acks
    → m.phase ≡ ph → Quiet (takes_ack m t o fs ph)
quiet_acks m t o fs Idle q e = rw e tt
quiet_acks m t o fs Open q e = rw e q
quiet_acks m t o fs Asked q e = rw e q
quiet_acks m t o fs Over q e = rw e tt

pub quiet_ticket : (o : Option Ticket) (m : Memory) (f : Ticket → Memory) → Quiet m
    → ((t : Ticket) → Quiet (f t)) → Quiet (of_ticket o m f)
quiet_ticket None m f q k = q
quiet_ticket (Some t) m f q k = k t

pub quiet_child : (c d : Case) (m : Memory) (f : Ticket → Memory) → Quiet m → ((t : Ticket) → Quiet (f t))
    → Quiet (of_child c d m f)
quiet_child c d m f q k = quiet_if (same_txn d.txn c.txn) m (of_ticket d.ticket m f) q
    (quiet_ticket d.ticket m f q k)

pub quiet_hears : (c : Case) (m : Memory) (message : Message) → Quiet m → Quiet (hears_child c m message)
quiet_hears c m (Joined d t) q = quiet_if (same_case d c) m (accepts_ticket m t m.phase) q
    (quiet_accepts m t m.phase q)
quiet_hears c m (Yes d) q = quiet_child c d m _ q (λ t. quiet_takes m t VoteYes m.phase q refl)
quiet_hears c m (No d) q = quiet_child c d m _ q (λ t. quiet_takes m t VoteNo m.phase q refl)
quiet_hears c m (Read d) q = quiet_child c d m _ q (λ t. quiet_takes m t VoteRead m.phase q refl)
quiet_hears c m (Ack d o fs) q = quiet_child c d m _ q (λ t. quiet_acks m t o fs m.phase q refl)
quiet_hears c m message q = q

pub quiet_step : (me : ProcessId) (boot : ℕ) (c : Case) (m : Memory) (i : Input) → Quiet m
    → Quiet (root_remembers me boot c m i)
quiet_step me boot c m (ActInput (Begin p)) q =
    quiet_if (same_case (root_case (next_txn me boot m p)) c) (record m { begun = m.begun + 1 })
    (opens_case (record m { begun = m.begun + 1 })) q refl
quiet_step me boot c m (ActInput (WorkAct d r op)) q =
    quiet_if (same_case d c) m (sends_work m (ticket_of_child m.accepted r) m.phase) q
    (quiet_work m (ticket_of_child m.accepted r) m.phase q)
quiet_step me boot c m (ActInput (CommitAct x)) q =
    quiet_if (same_case (root_case x) c) m (asks_votes m m.phase) q (quiet_asks m m.phase q refl)
quiet_step me boot c m (ActInput (AbortAct x)) q =
    quiet_if (same_case (root_case x) c) m (closes m m.phase) q (quiet_closes m m.phase refl)
quiet_step me boot c m (ActInput a) q = q
quiet_step me boot c m (MessageInput k message) q = quiet_hears c m message q

pub quiet_fold : (me : ProcessId) (boot : ℕ) (c : Case) (m : Memory) (hs : List Heard) → Quiet m
    → Quiet (fold (remembers me AtRoot boot c) m hs)
quiet_fold me boot c m [] q = q
quiet_fold me boot c m (h ∷ hs) q = quiet_fold me boot c (root_remembers me boot c m h.input) hs
    (quiet_step me boot c m h.input q)

pub memory_quiet : (me : ProcessId) (tree : List TreeProcess) (n : Node) (c : Case)
    → Quiet (memory_of (root_place me tree) n c)
unfolding memory_of
memory_quiet me tree n c = quiet_fold me (boot_of (kept n)) c fresh_memory n.heard tt

-- where votes are collected, no acknowledgement was heard
pub asked_quiet : (m : Memory) → Quiet m → m.phase ≡ Asked → m.acks ≡ []
asked_quiet m q e = let P : Phase → Type 0 = λ ph. QuietAt ph m.acks in subst P e q
