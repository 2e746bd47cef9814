-- What a root keeps of its cases in every run.
use Rattle.std.proofs.Common.{◌≡◌, ◌∙◌, inl, inr, Bool, true, false, None, List, [], ◌∷◌, refl, sym, subst}
use Rattle.protocol.specs.declared.names.Case.{Case}
use Rattle.protocol.specs.declared.names.Presumption.{Presumption}
use Rattle.protocol.specs.declared.names.ProcessId.{ProcessId}
use Rattle.protocol.specs.declared.messages.Envelope.{Envelope}
use Rattle.protocol.specs.declared.trees.TreeProcess.{TreeProcess}
use Rattle.protocol.specs.Names.{root_case}
use Rattle.protocol.specs.Records.{boot_of, has, has_case}
use Rattle.protocol.specs.Restarts.{is_known}
use Rattle.protocol.specs.Nodes.{Node, Place, kept}
use Rattle.protocol.specs.Memory.{memory_of}
use Rattle.protocol.specs.Standings.{coordinator_view, some_case}
use Rattle.protocol.specs.Views.{next_begun, root_place}
use Rattle.proof_processes.specs.WorldHolds.{RootHolds, Coordinates, NodeHolds, is_record_of}
use Rattle.proof_processes.proofs.OwnCases.{root_is_own}
use Rattle.proof_processes.proofs.RootKnown.{known_by}
use Rattle.tree_state.specs.Fits.{RootFits}
use Rattle.tree_state.specs.StandsFor.{ChildrenFit}
use Rattle.proof_runs.proofs.worlds.Cases.{known_not, not_given, one_of, unrecorded}

module _ (me : ProcessId) (tree : List TreeProcess) (net : List Envelope) (n : Node)
    (holds : NodeHolds (root_place me tree) net n) (up : n.failed ≡ false) where
  abbrev place : Place
  place = root_place me tree

  abbrev coordinates : Coordinates place net n
  coordinates = holds.role.0

  abbrev begins : RootHolds place n
  begins = holds.role.1

  written : (c : Case) → has (is_record_of c) (kept n) ≡ true → has (is_record_of c) n.life ≡ true
  written c e = holds.lasts.nested.kept_was_written (is_record_of c) (λ k. refl) e

  no_ticket : (c : Case) → is_known (coordinator_view place n c).standing ≡ true → c.ticket ≡ None
  no_ticket c known = elim (known_by place n c (known_not (coordinator_view place n c).standing known)) [
    | inl awake ↦ (begins.own_memory c awake).0
    | inr recorded ↦ (begins.own_records c (written c recorded)).0
  ]

  listed : (c : Case) → is_known (coordinator_view place n c).standing ≡ true
      → has_case (root_case c.txn ∷ []) c ≡ true
  listed c known =
      let own : c ≡ root_case c.txn = (λ i. record { txn = c.txn; ticket = no_ticket c known i }) in
      subst (λ (d : Case). has_case (root_case c.txn ∷ []) d ≡ true) (sym own) (root_is_own me tree n c.txn)

  pub root_children : ChildrenFit place n
  root_children =
      record {
        listed = listed;
        one = λ x t c d e f g h. one_of (root_case x) c e
            ∙ sym (one_of (root_case x) d g);
      }

  fresh : (p : Presumption) → has (is_record_of (root_case (next_begun place n p))) (kept n) ≡ false
  fresh p = by_test (has (is_record_of (root_case (next_begun place n p))) (kept n)) refl
    where
      by_test : (b : Bool) → has (is_record_of (root_case (next_begun place n p))) (kept n) ≡ b
          → has (is_record_of (root_case (next_begun place n p))) (kept n) ≡ false
      by_test false e = e
      by_test true e =
          let x = next_begun place n p in
          let own = begins.own_records (root_case x) (written (root_case x) e) in
          not_given (boot_of (kept n)) (memory_of place n (some_case place)).begun x.sequence refl
          (begins.begun_once up x own.1.1).1

  pub root_fits : RootFits place n
  root_fits =
      record {
        children = root_children;
        alike = coordinates.alike up;
        fresh = λ p. unrecorded (root_case (next_begun place n p)) (kept n) (fresh p);
      }
