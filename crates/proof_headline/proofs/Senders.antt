-- A coordinator sends each of its messages itself.
use Rattle.std.proofs.Common.{◌≡◌, Option, Some, None, List, [], ◌∷◌, ◌++◌, refl, sym, subst}
use Rattle.std.specs.List.{flat_map}
use Rattle.protocol.specs.declared.names.Case.{Case}
use Rattle.protocol.specs.declared.names.ProcessId.{ProcessId}
use Rattle.protocol.specs.declared.names.Ticket.{Ticket}
use Rattle.protocol.specs.declared.messages.Envelope.{Envelope}
use Rattle.protocol.specs.declared.messages.Message.{Message}
use Rattle.protocol.specs.declared.messages.Message.TheVariants.{Abort, Commit, Inquire}
use Rattle.protocol.specs.declared.events.Input.{Input}
use Rattle.protocol.specs.declared.records.Record.{Record}
use Rattle.protocol.specs.declared.standings.Standing.{Standing}
use Rattle.protocol.specs.declared.standings.Standing.TheVariants.{Unknown, Active, Collecting, Prepared, Committing, Aborting, Heuristic}
use Rattle.protocol.specs.CoordinatorRows.{Seat, each, up}
use Rattle.protocol.specs.Nodes.{AtLeaf, AtRoot, Below, Effect, Heard, Node, Place, Role, Written, IsCoordinator}
use Rattle.protocol.specs.Restarts.{coordinator_resumes, left_of, recorded_view, reopens, resumes, resumes_by}
use Rattle.protocol.specs.Records.{cases_in}
use Rattle.protocol.specs.Standings.{CoordinatorView}
use Rattle.protocol.specs.World.{Move}
use Rattle.proof_pairs.specs.turns.Steps.{StepOf, TurnAt, heard_in, handled, failed_in, passed, failed_passing, reopened, failed_reopening, trims_log, failed_trimming}
use Rattle.proof_pairs.specs.turns.Written.{AllSent, Sends, MayWrite, down, for_act, for_child, for_parent, for_report, gives, invites, presumes, upward, writes_nothing}
use Rattle.proof_pairs.proofs.turns.Steps.{turn_of}
use Rattle.proof_steps.specs.cascades.Messages.{AllSentBy}

sent_from : (s : Seat) (l : Envelope) → Sends s l → l.from ≡ s.me
sent_from s _ (down t m i) = refl
sent_from s _ (upward p m e i) = refl
sent_from s _ (invites q) = refl

all_from : (s : Seat) (ls : List Envelope) → AllSent s ls → AllSentBy s.me ls
all_from s [] a = tt
all_from s (l ∷ ls) a = (sent_from s l a.0, all_from s ls a.1)

none_from : (me : ProcessId) (ls : List Envelope) → ls ≡ [] → AllSentBy me ls
none_from me ls e = subst (AllSentBy me) (sym e) tt

one_from : (me : ProcessId) (l : Envelope) (ls : List Envelope) → ls ≡ l ∷ [] → l.from ≡ me → AllSentBy me ls
one_from me l ls e f = subst (AllSentBy me) (sym e) (f, tt)

writes_from : (place : Place) (parent : Option ProcessId) (n : Node) (i : Input) (ws : List Written)
    (ls : List Envelope)
    → MayWrite place parent n i ws ls → AllSentBy place.me ls
writes_from place parent n i ws ls (writes_nothing e f) = none_from place.me ls f
writes_from place parent n i ws ls (for_act a c e k o s) = all_from _ ls s
writes_from place parent n i ws ls (for_report c e f g o h) = none_from place.me ls h
writes_from place parent n i ws ls (for_child c x t e o s) = all_from _ ls s
writes_from place parent n i ws ls (for_parent c k m e f o s) = all_from _ ls s
writes_from place parent n i ws ls (presumes x t o e f) = one_from place.me _ ls f refl
writes_from place parent n i ws ls (gives p d t e f k g a) = one_from place.me _ ls f refl

turn_from : (role : Role) (place : Place) (n : Node) (h : Heard) (e : Effect) → IsCoordinator role
    → TurnAt role place n h e → AllSentBy place.me e.messages
turn_from AtRoot place n h e i t = writes_from place None n h.input e.written e.messages t
turn_from (Below p) place n h e i t = writes_from place (Some p) n h.input e.written e.messages t
turn_from (AtLeaf p) place n h e i t = absurd (i)

-- A restart.

both_from : (me : ProcessId) (xs ys : List Envelope) → AllSentBy me xs → AllSentBy me ys
    → AllSentBy me (xs ++ ys)
both_from me [] ys a b = b
both_from me (x ∷ xs) ys a b = (a.0, both_from me xs ys a.1 b)

each_from : (s : Seat) (m : Case → Message) (ts : List Ticket) → AllSentBy s.me (each s m ts)
each_from s m [] = tt
each_from s m (t ∷ ts) = (refl, each_from s m ts)

up_from : (me : ProcessId) (parent : Option ProcessId) (c : Case) (m : Message)
    → AllSentBy me (up (record { me = me; parent = parent; own = c }) m)
up_from me None c m = tt
up_from me (Some p) c m = (refl, tt)

resumed_from : (me : ProcessId) (parent : Option ProcessId) (c : Case) (v : CoordinatorView) (s : Standing)
    → AllSentBy me (resumes_by (record { me = me; parent = parent; own = c }) v s)
resumed_from me parent c v Committing = each_from (record { me = me; parent = parent; own = c }) Commit v.owed
resumed_from me parent c v Aborting = each_from (record { me = me; parent = parent; own = c }) Abort v.owed
resumed_from me parent c v Prepared = up_from me parent c (Inquire c)
resumed_from me parent c v Unknown = tt
resumed_from me parent c v Active = tt
resumed_from me parent c v Collecting = tt
resumed_from me parent c v Heuristic = tt

flat_from : (me : ProcessId) (parent : Option ProcessId) (rs : List Record) (cs : List Case)
    → AllSentBy me (flat_map (coordinator_resumes me parent rs) cs)
flat_from me parent rs [] = tt
flat_from me parent rs (c ∷ cs) = both_from me (coordinator_resumes me parent rs c) _
    (resumed_from me parent c (recorded_view rs c) (recorded_view rs c).standing) (flat_from me parent rs cs)

resumes_from : (role : Role) (me : ProcessId) (rs : List Record) → IsCoordinator role
    → AllSentBy me (resumes role me rs)
resumes_from AtRoot me rs i = flat_from me None rs (cases_in rs)
resumes_from (Below p) me rs i = flat_from me (Some p) rs (cases_in rs)
resumes_from (AtLeaf p) me rs i = absurd (i)

pub step_from : (place : Place) (n : Node) (m : Move) → IsCoordinator place.role → (e : Effect) (k : Node)
    → StepOf place n m e k → AllSentBy place.me e.messages
step_from place n m is _ _ (handled i g hp np r) =
    turn_from place.role place n (heard_in m i) g is (turn_of place n (heard_in m i) g r).turn
step_from place n m is _ _ (failed_in i f g fl hp np r) = tt
step_from place n m is _ _ (passed i hp r) = tt
step_from place n m is _ _ (failed_passing i f fl hp r) = tt
step_from place n m is _ _ (reopened j hp) =
    resumes_from place.role place.me (left_of n j ++ reopens place.role (left_of n j)) is
step_from place n m is _ _ (failed_reopening j f fl hp) = tt
step_from place n m is _ _ (trims_log hp up) = tt
step_from place n m is _ _ (failed_trimming f fl hp up) = tt
