-- The transactions that a root began: over every run.
use Rattle.std.proofs.Common.{◌≡◌, ◌≢◌, ◌≤◌, ◌+◌, ◌⊎◌, inl, inr, ℕ, Bool, true, false, Option, None, List, refl, sym, subst, arith}
use Rattle.std.specs.List.{list_any}
use Rattle.protocol.specs.declared.names.Case.{Case}
use Rattle.protocol.specs.declared.names.ProcessId.{ProcessId}
use Rattle.protocol.specs.declared.names.Ticket.{Ticket}
use Rattle.protocol.specs.declared.names.Txn.{Txn}
use Rattle.protocol.specs.declared.trees.TreeProcess.{TreeProcess}
use Rattle.protocol.specs.Names.{root_case, process_of}
use Rattle.protocol.specs.Records.{has, is_commit, boot_of}
use Rattle.protocol.specs.Nodes.{AtRoot, Place, place_of, role_of, Node, opened_node}
use Rattle.protocol.specs.Memory.{Idle, memory_of}
use Rattle.protocol.specs.Views.{root_place}
use Rattle.protocol.specs.World.{World, Made, IsRun, opens, makes}
use Rattle.protocol.proofs.RunLaws.{makes_at}
use Rattle.proof_pairs.specs.readings.ReadingOf.{is_begun, is_told_of_txn}
use Rattle.proof_pairs.specs.turns.Steps.{StepOf}
use Rattle.proof_pairs.proofs.turns.Steps.{step_of}
use Rattle.proof_processes.specs.RootBegins.{OwnTransactions}
use Rattle.proof_processes.proofs.RootCases.{InHistory, recorded, accepted, begun, told, found_undecided, RootCases}
use Rattle.proof_processes.specs.WorldHolds.{IsGivenOut, is_record_of, has_begun}
use Rattle.proof_processes.proofs.RootBegun.{forgotten, begun_last}
use Rattle.proof_processes.proofs.RootHistories.{among}
use Rattle.proof_processes.proofs.RootJoined.{own_case}
use Rattle.proof_processes.proofs.RootMemories.{remembered_is_begun}
use Rattle.proof_processes.proofs.RootNumbered.{all_root_cases, at_root, none_opened}
use Rattle.proof_processes.proofs.RootTraces.{BegunSo, traces}
use Rattle.proof_processes.proofs.Worlds.{all_last, has_other, put}

opened_begun : (me : ProcessId) (tree : List TreeProcess) → BegunSo me tree opened_node
opened_begun me tree = record {
  remembered = λ c e. absurd (both (forgotten me tree opened_node c refl) e);
  in_histories = λ c x. none_opened c x;
  known = λ x e. absurd (cc);
}
  where
    both : {b : Bool} → b ≡ false → b ≡ true → ⊥
    both e f = cc

pub all_begun : (tree : List TreeProcess) (es : List Made) (w : World) → IsRun tree es w → (p : ProcessId)
    → role_of tree p ≡ AtRoot → BegunSo p tree (w.at p)
all_begun tree _ _ opens p role = opened_begun p tree
all_begun tree _ _ (makes es w m e w' run stands step) p at_top =
    let at = makes_at tree w m e w' step in
    let q = m.step.process in
    let s = step_of (place_of tree q) (w.at q) m e at.node at.made in
    let P : ProcessId → Node → Type 0 = λ x k. role_of tree x ≡ AtRoot → BegunSo x tree k in
    subst (λ (x : World). P p (x.at p)) (sym at.world)
    (put P q p at.node w.at
    (λ role. begun_last q tree (w.at q) (all_last tree es w run q).nested
    (all_root_cases tree es w run q role)
    (all_begun tree es w run q role) m e at.node
    (subst (λ (x : Place). StepOf x (w.at q) m e at.node) (at_root tree q role) s))
    (all_begun tree es w run p)) at_top

-- What this says.

module _ (me : ProcessId) (tree : List TreeProcess) (n : Node) (cases : RootCases (root_place me tree) n)
    (h : BegunSo me tree n)
  where
    abbrev place : Place
    place = root_place me tree

    -- a transaction that left a trace was begun
    pub was_begun : (x : Txn) → has_begun place n x ≡ true → InHistory n (root_case x)
    was_begun x e = begun x refl (by_trace (traces place n x e))
      where
        by_trace : (is_begun (memory_of place n (root_case x)).phase ≡ true)
            ⊎ ((list_any (is_told_of_txn x) n.told ≡ true)
            ⊎ ((among x n.found_undecided ≡ true) ⊎ (has (is_commit (root_case x)) n.life ≡ true)))
            → among x n.begun ≡ true
        by_trace (inl y) = h.remembered (root_case x) y
        by_trace (inr (inl y)) = h.in_histories (root_case x) (told x refl y)
        by_trace (inr (inr (inl y))) = h.in_histories (root_case x) (found_undecided x refl y)
        by_trace (inr (inr (inr y))) =
            h.in_histories (root_case x)
            (recorded (has_other (is_commit (root_case x)) (is_record_of (root_case x)) n.life
            (λ r f. grind arith) y))

    boot_before : (b k f : ℕ) → 1 ≤ k → IsGivenOut b k (f + 1) 0 → b ≤ f
    boot_before b k f c (inl l) = omega (arith, l)
    boot_before b k f c (inr s) = absurd (let z = s.1 in omega (arith, z, c))

    pub leaves_trace : (c : Case) → InHistory n c → has_begun place n c.txn ≡ true
    leaves_trace c x = h.known c.txn (h.in_histories c x)

    holds : OwnTransactions (root_place me tree) n
    holds = record {
      begun_once = λ up x e. let r = cases.begun_now up (root_case x) (was_begun x e) in (r.own, r.number);
      begun_before = λ x e.
          let r = cases.begun_before (root_case x) (was_begun x e) in
          boot_before x.boot x.sequence (boot_of n.forced) r.counted r.number;
      own_records = λ d e.
          let r = cases.begun_before d (recorded e) in
          (r.no_ticket, (own_case me _ _ d r, leaves_trace d (recorded e)));
      accepted_is_begun = λ d t e.
          let r = cases.begun_before d (accepted t e) in (r.no_ticket, leaves_trace d (accepted t e));
      own_memory = λ d f. own_awake d f;
    }
      where
        own_awake : (d : Case) → (memory_of (root_place me tree) n d).phase ≢ Idle
            → (d.ticket ≡ None) × (process_of d ≡ me)
        own_awake d f = elim (remembered_is_begun (root_place me tree) refl n d) [
          | inl idle ↦ absurd (f idle)
          | inr b ↦ (
            b.no_ticket,
            subst (λ (o : Option Ticket). process_of (record { txn = d.txn; ticket = o }) ≡ me)
                (sym b.no_ticket) b.own,
          )
        ]

pub own_transactions : (tree : List TreeProcess) (es : List Made) (w : World) → IsRun tree es w
    → (p : ProcessId)
    → role_of tree p ≡ AtRoot → OwnTransactions (place_of tree p) (w.at p)
own_transactions tree es w run p e =
    subst (λ (x : Place). OwnTransactions x (w.at p)) (sym (at_root tree p e))
    (holds p tree (w.at p) (all_root_cases tree es w run p e) (all_begun tree es w run p e))
