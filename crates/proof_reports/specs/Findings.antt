-- What acknowledgements say that was found, against what every process has ever forced.
use Rattle.std.specs.Prelude.{◌≡◌, ◌&&◌, Bool, true, false, Some, List, [], ◌∷◌}
use Rattle.protocol.specs.declared.names.Case.{Case}
use Rattle.protocol.specs.declared.names.ProcessId.{ProcessId}
use Rattle.protocol.specs.declared.names.Ticket.{Ticket}
use Rattle.protocol.specs.declared.names.Txn.{Txn}
use Rattle.protocol.specs.declared.names.Outcome.{Outcome}
use Rattle.protocol.specs.declared.messages.Finding.{Finding}
use Rattle.protocol.specs.declared.messages.Finding.TheVariants.{Mixed, Unreported}
use Rattle.protocol.specs.declared.messages.Message.{Message}
use Rattle.protocol.specs.declared.messages.Message.TheVariants.{Ack}
use Rattle.protocol.specs.declared.messages.Envelope.{Envelope}
use Rattle.protocol.specs.declared.records.Record.{Record}
use Rattle.protocol.specs.declared.records.Record.TheVariants.{End}
use Rattle.protocol.specs.declared.trees.TreeProcess.{TreeProcess}
use Rattle.protocol.specs.Names.{child_case, root_case, same_case}
use Rattle.protocol.specs.Records.{has, in_list, is_decided}
use Rattle.protocol.specs.Nodes.{AtRoot, Node, role_of}
use Rattle.protocol.specs.Outcomes.{Mismatch}
use Rattle.protocol.specs.World.{World}
use Rattle.protocol.specs.Standings.{other_outcome}

-- the ticket's operator decided against the outcome, and the decision was in the forced front
abbrev pub WasDecidedAgainst : (ProcessId → Node) → Txn → Outcome → Ticket → Type 0
WasDecidedAgainst at x o t = has (is_decided (child_case x t) (other_outcome o)) (at t.child).durable ≡ true

-- who is mixed was decided against
abbrev pub IsTrue : (ProcessId → Node) → Txn → Outcome → Finding → Type 0
IsTrue at x o (Mixed t) = WasDecidedAgainst at x o t
IsTrue at x o (Unreported t) = Unit {0}

-- each finding is true
abbrev pub AreTrue : (ProcessId → Node) → Txn → Outcome → List Finding → Type 0
AreTrue at x o [] = Unit {0}
AreTrue at x o (f ∷ fs) = IsTrue at x o f × AreTrue at x o fs

-- an acknowledgement brings true findings
abbrev pub SaysTrue : (ProcessId → Node) → Message → Type 0
SaysTrue at (Ack d o fs) = AreTrue at d.txn o fs
SaysTrue at _ = Unit {0}

-- each message does
abbrev pub AllSayTrue : (ProcessId → Node) → List Envelope → Type 0
AllSayTrue at [] = Unit {0}
AllSayTrue at (l ∷ ls) = SaysTrue at l.message × AllSayTrue at ls

-- an End of the case reports the ticket as mixed
abbrev pub reports_mixed : Case → Ticket → Record → Bool
reports_mixed c t (End d (Some r)) = same_case d c && in_list r.mixed t
reports_mixed c t _ = false

-- a ticket that an End of a root's case reports as mixed has had a mismatch
abbrev pub MixedHadMismatch : List TreeProcess → World → Type 0
MixedHadMismatch tree w = (x : Txn) (t : Ticket) → role_of tree x.root ≡ AtRoot
    → has (reports_mixed (root_case x) t) (w.at x.root).life ≡ true → (o : Outcome)
    × Mismatch w (child_case x t) o
