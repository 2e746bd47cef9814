-- What a coordinator below the root keeps of its cases in every run.
use Rattle.std.proofs.Common.{◌≡◌, ◌≢◌, Bool, false, inl, inr, true, List, refl}
use Rattle.protocol.specs.declared.names.Case.{Case}
use Rattle.protocol.specs.declared.names.ProcessId.{ProcessId}
use Rattle.protocol.specs.declared.names.Txn.{Txn}
use Rattle.protocol.specs.declared.messages.Envelope.{Envelope}
use Rattle.protocol.specs.declared.standings.Standing.TheVariants.{Unknown}
use Rattle.protocol.specs.Names.{root_case}
use Rattle.protocol.specs.Outcomes.{sent}
use Rattle.proof_pairs.specs.readings.ReadingOf.{gives_case}
use Rattle.proof_processes.proofs.Giving.{never_given}
use Rattle.proof_runs.proofs.Roots.{unknown_if}
use Rattle.protocol.specs.declared.trees.TreeProcess.{TreeProcess}
use Rattle.protocol.specs.Records.{has_case}
use Rattle.protocol.specs.Restarts.{is_known}
use Rattle.protocol.specs.Nodes.{Below, Node, Place, kept}
use Rattle.protocol.specs.Memory.{memory_of}
use Rattle.protocol.specs.Standings.{coordinator_view, own_cases, some_case}
use Rattle.proof_processes.specs.WorldHolds.{Cascades, Coordinates, Issues, JoinedOnce, NodeHolds, is_record_of}
use Rattle.proof_processes.proofs.RootKnown.{known_by}
use Rattle.tree_state.specs.StandsFor.{ChildrenFit}
use Rattle.proof_runs.proofs.CascadeQuiet.{cascaded_place}
use Rattle.proof_runs.proofs.worlds.Cases.{known_not, own_issued, own_recorded}
use Rattle.proof_runs.proofs.worlds.Given.{one_case}

module _ (me p : ProcessId) (tree : List TreeProcess) (net : List Envelope) (n : Node)
    (holds : NodeHolds (cascaded_place me p tree) net n)
    (up : n.failed ≡ false) where
  abbrev place : Place
  place = cascaded_place me p tree

  abbrev pub coordinates : Coordinates place net n
  coordinates = holds.role.0

  abbrev cascades : Cascades place net n
  cascades = holds.role.1.0

  abbrev pub issues : Issues place net n
  issues = holds.role.1.1

  listed : (c : Case) → is_known (coordinator_view place n c).standing ≡ true
      → has_case (own_cases (Below p) place n c.txn) c ≡ true
  listed c known = elim (known_by place n c (known_not (coordinator_view place n c).standing known)) [
    | inl awake ↦ own_issued (kept n) (memory_of place n (some_case place)).issued c (cascades.issued c awake)
    | inr recorded ↦ own_recorded (kept n) (memory_of place n (some_case place)).issued c recorded
  ]

  pub cascade_children : JoinedOnce net → ChildrenFit place n
  cascade_children once =
      record {
        listed = listed;
        one = λ x t c d e f g h. one_case place net n holds.lasts.nested up coordinates once t c
            d f h;
      }

  -- no case without a ticket was given, and so none is known
  pub ticketed : (x : Txn) → (coordinator_view place n (root_case x)).standing ≡ Unknown
  ticketed x = by_known (is_known (coordinator_view place n (root_case x)).standing) refl
    where
      is_given : (coordinator_view place n (root_case x)).standing ≢ Unknown
          → sent (gives_case (root_case x)) net ≡ true
      is_given known = elim (known_by place n (root_case x) known) [
        | inl awake ↦ (issues.remembered_is_given up (root_case x) awake).1
        | inr recorded ↦
            (issues.recorded_is_given (root_case x)
            (holds.lasts.nested.kept_was_written (is_record_of (root_case x)) (λ k. refl) recorded)).1
      ]

      by_known : (b : Bool) → is_known (coordinator_view place n (root_case x)).standing ≡ b
          → (coordinator_view place n (root_case x)).standing ≡ Unknown
      by_known false gone = unknown_if (coordinator_view place n (root_case x)).standing gone
      by_known true known =
          absurd (never_given x net (is_given
          (known_not (coordinator_view place n (root_case x)).standing known)))
