-- A process sends each of its messages itself.
use Rattle.std.proofs.Common.{◌≡◌, Bool, true, false, Option, Some, None, List, [], ◌∷◌, ◌++◌, refl, sym, subst, if◌then◌else◌}
use Rattle.std.specs.List.{flat_map}
use Rattle.protocol.specs.declared.names.Case.{Case}
use Rattle.protocol.specs.declared.names.Outcome.{Outcome}
use Rattle.protocol_words.specs.Variants.{AbortedOutcome}
use Rattle.protocol.specs.declared.names.ProcessId.{ProcessId}
use Rattle.protocol.specs.declared.names.Ticket.{Ticket}
use Rattle.protocol.specs.declared.messages.Envelope.{Envelope}
use Rattle.protocol.specs.declared.messages.Message.{Message}
use Rattle.protocol.specs.declared.messages.Message.TheVariants.{Abort, Ack, Commit}
use Rattle.protocol.specs.declared.events.Input.{Input}
use Rattle.protocol.specs.declared.records.Record.{Record}
use Rattle.protocol.specs.declared.standings.Standing.{Standing}
use Rattle.protocol.specs.declared.standings.Standing.TheVariants.{Unknown, Active, Collecting, Prepared, Committing, Aborting, Heuristic}
use Rattle.protocol.specs.CoordinatorRows.{Seat, each, post}
use Rattle.protocol.specs.ManagerRows.{is_acknowledged}
use Rattle.protocol.specs.Nodes.{AtLeaf, AtRoot, Below, Effect, Heard, Node, Place, Role, Written}
use Rattle.protocol.specs.Restarts.{coordinator_resumes, inquires_by, left_of, manager_resumes, recorded_branch, recorded_view, reopens, resumes, resumes_by, untold_inquiry}
use Rattle.protocol.specs.Records.{cases_in}
use Rattle.protocol.specs.Standings.{CoordinatorView, ManagerView}
use Rattle.protocol.specs.World.{Move}
use Rattle.proof_pairs.specs.turns.Steps.{StepOf, TurnAt, failed_in, failed_passing, failed_reopening, failed_trimming, handled, heard_in, passed, reopened, trims_log}
use Rattle.proof_pairs.specs.turns.LeafTurns.{LeafTurn, acknowledges, acknowledges_told, asks, decides, does_nothing, drops, forgets, gives_again, gives_fresh, notes, obeys, refuses, repeats_yes, votes_no, votes_read, votes_yes}
use Rattle.proof_pairs.specs.turns.Written.{AllSent, Sends, MayWrite, down, for_act, for_child, for_parent, for_report, gives, invites, presumes, upward, writes_nothing}
use Rattle.proof_pairs.proofs.turns.Steps.{turn_of}
use Rattle.proof_steps.specs.cascades.Messages.{AllSentBy}
use Rattle.protocol.specs.declared.messages.Finding.{Finding}

sent_by : (s : Seat) (l : Envelope) → Sends s l → l.from ≡ s.me
sent_by s _ (down t m i) = refl
sent_by s _ (upward p m e i) = refl
sent_by s _ (invites q) = refl

all_sent_by : (s : Seat) (ls : List Envelope) → AllSent s ls → AllSentBy s.me ls
all_sent_by s [] a = tt
all_sent_by s (l ∷ ls) a = (sent_by s l a.0, all_sent_by s ls a.1)

one_sent_by : (me : ProcessId) (l : Envelope) (ls : List Envelope) → ls ≡ l ∷ [] → l.from ≡ me
    → AllSentBy me ls
one_sent_by me l ls e f = subst (AllSentBy me) (sym e) (f, tt)

writes_sent : (place : Place) (parent : Option ProcessId) (n : Node) (i : Input) (ws : List Written)
    (ls : List Envelope) → MayWrite place parent n i ws ls → AllSentBy place.me ls
writes_sent place parent n i ws ls (writes_nothing e f) = subst (AllSentBy place.me) (sym f) tt
writes_sent place parent n i ws ls (for_act a c e k o s) = all_sent_by _ ls s
writes_sent place parent n i ws ls (for_report c e f g o h) = subst (AllSentBy place.me) (sym h) tt
writes_sent place parent n i ws ls (for_child c x t e o s) = all_sent_by _ ls s
writes_sent place parent n i ws ls (for_parent c k m e f o s) = all_sent_by _ ls s
writes_sent place parent n i ws ls (presumes x t o e f) = one_sent_by place.me _ ls f refl
writes_sent place parent n i ws ls (gives q d t e f k g a) = one_sent_by place.me _ ls f refl

-- A manager.

if_acknowledged : (me p : ProcessId) (d : Case) (o : Outcome) (fs : List Finding) (b : Bool)
    → AllSentBy me (if b then post me p (Ack d o fs) ∷ [] else [])
if_acknowledged me p d o fs true = (refl, tt)
if_acknowledged me p d o fs false = tt

leaf_sent : (place : Place) (p : ProcessId) (n : Node) (h : Heard) (e : Effect) → LeafTurn place p n h e
    → AllSentBy place.me e.messages
leaf_sent place p n h e does_nothing = tt
leaf_sent place p n h e (gives_again d t i a) = (refl, tt)
leaf_sent place p n h e (gives_fresh d i a s) = (refl, tt)
leaf_sent place p n h e (votes_yes d k ws i a) = (refl, tt)
leaf_sent place p n h e (votes_read d k i a) = (refl, tt)
leaf_sent place p n h e (votes_no d k i a) = (refl, tt)
leaf_sent place p n h e (repeats_yes d k i a) = (refl, tt)
leaf_sent place p n h e (refuses d k i a) = (refl, tt)
leaf_sent place p n h e (obeys d o i a) = if_acknowledged place.me p d o _
    (is_acknowledged d.txn.presumption o)
leaf_sent place p n h e (notes d o i a) = if_acknowledged place.me p d o _
    (is_acknowledged d.txn.presumption o)
leaf_sent place p n h e (acknowledges_told d o i a) =
    if_acknowledged place.me p d o _ (is_acknowledged d.txn.presumption o)
leaf_sent place p n h e (acknowledges d o i a) = if_acknowledged place.me p d o _
    (is_acknowledged d.txn.presumption o)
leaf_sent place p n h e (drops d i a) =
    if_acknowledged place.me p d AbortedOutcome _ (is_acknowledged d.txn.presumption AbortedOutcome)
leaf_sent place p n h e (asks d i a) = (refl, tt)
leaf_sent place p n h e (decides d o i a) = tt
leaf_sent place p n h e (forgets d i a) = tt

turn_sent : (role : Role) (place : Place) (n : Node) (h : Heard) (e : Effect) → TurnAt role place n h e
    → AllSentBy place.me e.messages
turn_sent AtRoot place n h e t = writes_sent place None n h.input e.written e.messages t
turn_sent (Below p) place n h e t = writes_sent place (Some p) n h.input e.written e.messages t
turn_sent (AtLeaf p) place n h e t = leaf_sent place p n h e t

-- A restart.

both_sent : (me : ProcessId) (xs ys : List Envelope) → AllSentBy me xs → AllSentBy me ys
    → AllSentBy me (xs ++ ys)
both_sent me [] ys a b = b
both_sent me (x ∷ xs) ys a b = (a.0, both_sent me xs ys a.1 b)

each_sent : (s : Seat) (m : Case → Message) (ts : List Ticket) → AllSentBy s.me (each s m ts)
each_sent s m [] = tt
each_sent s m (t ∷ ts) = (refl, each_sent s m ts)

resumed_sent : (me : ProcessId) (parent : Option ProcessId) (c : Case) (v : CoordinatorView) (s : Standing)
    → AllSentBy me (resumes_by (record { me = me; parent = parent; own = c }) v s)
resumed_sent me parent c v Committing = each_sent (record { me = me; parent = parent; own = c }) Commit v.owed
resumed_sent me parent c v Aborting = each_sent (record { me = me; parent = parent; own = c }) Abort v.owed
resumed_sent me None c v Prepared = tt
resumed_sent me (Some p) c v Prepared = (refl, tt)
resumed_sent me parent c v Unknown = tt
resumed_sent me parent c v Active = tt
resumed_sent me parent c v Collecting = tt
resumed_sent me parent c v Heuristic = tt

inquired_sent : (me p : ProcessId) (c : Case) (v : ManagerView) (s : Standing)
    → AllSentBy me (inquires_by me p c v s)
inquired_sent me p c v Prepared = (refl, tt)
inquired_sent me p c v Heuristic = untold v.told
  where
    untold : (o : Option Outcome) → AllSentBy me (untold_inquiry me p c o)
    untold None = (refl, tt)
    untold (Some o) = tt
inquired_sent me p c v Unknown = tt
inquired_sent me p c v Active = tt
inquired_sent me p c v Collecting = tt
inquired_sent me p c v Committing = tt
inquired_sent me p c v Aborting = tt

flat_sent : (me : ProcessId) (f : Case → List Envelope) → ((c : Case) → AllSentBy me (f c)) → (cs : List Case)
    → AllSentBy me (flat_map f cs)
flat_sent me f g [] = tt
flat_sent me f g (c ∷ cs) = both_sent me (f c) (flat_map f cs) (g c) (flat_sent me f g cs)

resumes_sent : (role : Role) (me : ProcessId) (rs : List Record) → AllSentBy me (resumes role me rs)
resumes_sent AtRoot me rs = flat_sent me (coordinator_resumes me None rs)
    (λ c. resumed_sent me None c (recorded_view rs c) (recorded_view rs c).standing) (cases_in rs)
resumes_sent (Below p) me rs = flat_sent me (coordinator_resumes me (Some p) rs)
    (λ c. resumed_sent me (Some p) c (recorded_view rs c) (recorded_view rs c).standing) (cases_in rs)
resumes_sent (AtLeaf p) me rs = flat_sent me (manager_resumes me p rs)
    (λ c. inquired_sent me p c (recorded_branch rs c) (recorded_branch rs c).standing) (cases_in rs)

pub step_sent : (place : Place) (n : Node) (m : Move) (e : Effect) (k : Node) → StepOf place n m e k
    → AllSentBy place.me e.messages
step_sent place n m _ _ (handled i g hp np r) =
    turn_sent place.role place n (heard_in m i) g (turn_of place n (heard_in m i) g r).turn
step_sent place n m _ _ (failed_in i f g fl hp np r) = tt
step_sent place n m _ _ (passed i hp r) = tt
step_sent place n m _ _ (failed_passing i f fl hp r) = tt
step_sent place n m _ _ (reopened j hp) =
    resumes_sent place.role place.me (left_of n j ++ reopens place.role (left_of n j))
step_sent place n m _ _ (failed_reopening j f fl hp) = tt
step_sent place n m _ _ (trims_log hp up) = tt
step_sent place n m _ _ (failed_trimming f fl hp up) = tt
