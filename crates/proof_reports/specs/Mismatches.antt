-- What an End of the root's case promises of the mismatches of its transaction.
use Rattle.std.specs.Prelude.{◌≡◌, ◌⊎◌, ℕ, true, Option, Some, None, List, [], slice_get}
use Rattle.protocol.specs.declared.names.Case.{Case}
use Rattle.protocol.specs.declared.names.Outcome.{Outcome}
use Rattle.protocol.specs.declared.names.Ticket.{Ticket}
use Rattle.protocol.specs.declared.names.Txn.{Txn}
use Rattle.protocol.specs.declared.records.Record.TheVariants.{End}
use Rattle.protocol.specs.declared.records.Reports.{Reports}
use Rattle.protocol.specs.declared.trees.TreeProcess.{TreeProcess}
use Rattle.protocol.specs.Names.{child_case, root_case}
use Rattle.protocol.specs.Records.{has, in_list}
use Rattle.protocol.specs.Nodes.{AtRoot, Node, Version, entries_written, role_of}
use Rattle.protocol.specs.Outcomes.{DecisionStands, Mismatch, has_accepted}
use Rattle.protocol.specs.World.{IsRunBy, Made, World, first_opens, next, reopens}
use Rattle.protocol.specs.Audits.{is_decision_naming}

-- Whom an End reports.

-- as mixed; a plain End reports nobody
abbrev pub mixed_in : Option Reports → List Ticket
mixed_in None = []
mixed_in (Some r) = r.mixed

-- as unreported
abbrev pub unreported_in : Option Reports → List Ticket
unreported_in None = []
unreported_in (Some r) = r.unreported

-- The way down from the root.

-- the case accepted the ticket, and a Commit or an Abort of its life list names it
pub record Names (n : Node) (c : Case) (t : Ticket) : Type 0 where
  pub accepted : has_accepted n c t ≡ true
  pub named : has (is_decision_naming c t) n.life ≡ true

-- a ticket is named down from the root: the root's case names it, or the case of a ticket that is named so
-- does
pub data IsNamedDown (w : World) (x : Txn) : Ticket → Type 0 where
  by_root : (t : Ticket) → Names (w.at x.root) (root_case x) t → IsNamedDown w x t
  by_ticket : (u t : Ticket) → IsNamedDown w x u → Names (w.at u.child) (child_case x u) t → IsNamedDown w x t

-- a ticket lies at or below another: it is the same, or the case of one that lies there accepted it
pub data LiesBelow (w : World) (x : Txn) (top : Ticket) : Ticket → Type 0 where
  at_top : LiesBelow w x top top
  accepted_by : (u t : Ticket) → LiesBelow w x top u → has_accepted (w.at u.child) (child_case x u) t ≡ true
      → LiesBelow w x top t

-- it lies at or below one that is reported as unreported
pub record LiesUnreported (w : World) (x : Txn) (r : Option Reports) (t : Ticket) : Type 0 where
  pub top : Ticket
  pub reported : in_list (unreported_in r) top ≡ true
  pub lies : LiesBelow w x top t

-- The promise.

-- Who is reported as mixed has had a mismatch. And each mismatch that stands, of a ticket that is named down
-- from the root, is reported as mixed, or lies at or below a ticket that is reported as unreported.
pub record ReportsTruly (w : World) (x : Txn) (r : Option Reports) : Type 0 where
  pub mixed_had_mismatch : (t : Ticket) → in_list (mixed_in r) t ≡ true
      → (o : Outcome) × Mismatch w (child_case x t) o
  pub mismatch_is_reported : (t : Ticket) (o : Outcome) → Mismatch w (child_case x t) o
      → DecisionStands (w.at t.child) (child_case x t) o → IsNamedDown w x t
      → (in_list (mixed_in r) t ≡ true) ⊎ LiesUnreported w x r t

-- each End that the root appends in this move, also where its device fails, keeps it in the world that the
-- move leaves
abbrev pub EndsReportTruly : List TreeProcess → Made → World → Type 0
EndsReportTruly tree e w = (k : ℕ) (c : Case) (r : Option Reports) → role_of tree e.move.step.process ≡ AtRoot
    → slice_get (entries_written e.effect.written) k ≡ Some (End c r) → ReportsTruly w c.txn r

-- so does each move that was made since the tree was opened last
abbrev pub AllReportTruly : (tree : List TreeProcess) (v : Version) (before : ℕ) (es : List Made) (w : World)
    → IsRunBy tree v before es w → Type 0
AllReportTruly tree _ _ _ _ (first_opens v) = Unit {0}
AllReportTruly tree _ _ _ _ (next v before es w m e w' run by new made) =
    EndsReportTruly tree (record { move = m; effect = e }) w' × AllReportTruly tree v before es w run
AllReportTruly tree _ _ _ _ (reopens v before es w run down) = Unit {0}
