-- Whether a case is a process's own goes by the process's parent alone, and not by its kind.
use Rattle.std.proofs.Common.{◌≡◌, ◌&&◌, Option, Some, None, List, refl, ap}
use Rattle.protocol.specs.declared.names.Case.{Case}
use Rattle.protocol.specs.declared.names.Kind.{Kind}
use Rattle.protocol.specs.declared.names.Kind.TheVariants.{Coordinator, Manager}
use Rattle.protocol.specs.declared.names.ProcessId.{ProcessId}
use Rattle.protocol.specs.declared.names.Ticket.{Ticket}
use Rattle.protocol.specs.declared.trees.TreeProcess.{TreeProcess}
use Rattle.protocol.specs.LogNames.{is_own, is_ticketed, parent_of, same_parent}
use Rattle.protocol.specs.Names.{process_of, same_process}
use Rattle.protocol.specs.Nodes.{role_by}
use Rattle.protocol.specs.Trees.{root_of}
use Rattle.coord_records.specs.Readings.{place_below, role_below}
use Rattle.audit_cases.specs.Notes.{place_at}

same_fit : (k : Kind) (p : Option ProcessId) (t : Option Ticket) (of : Option ProcessId)
    → (is_ticketed (role_below p) t && same_parent of (parent_of (role_below p)))
    ≡ (is_ticketed (role_by k p) t && same_parent of (parent_of (role_by k p)))
same_fit Coordinator None t of = refl
same_fit Coordinator (Some p) t of = refl
same_fit Manager None t of = refl
same_fit Manager (Some p) None of = refl
same_fit Manager (Some p) (Some t) of = refl

pub own_by_parent : (tree : List TreeProcess) (e : TreeProcess) (of : Option ProcessId) (c : Case)
    → is_own (place_below e.id e.parent tree) of c ≡ is_own (place_at tree e) of c
own_by_parent tree e of c =
    ap (λ b. same_process c.txn.root (root_of tree) && (same_process (process_of c) e.id && b))
    (same_fit e.kind e.parent c.ticket of)
