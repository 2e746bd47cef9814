-- A trim of the root's log is the move of a trim.
use Rattle.std.proofs.Common.{◌≡◌, ◌∙◌, ap, sym, subst, Bool, true, false, List, [], ◌++◌, refl, ◌||◌, arith}
use Rattle.protocol.specs.declared.names.Case.{Case}
use Rattle.protocol.specs.declared.names.ProcessId.{ProcessId}
use Rattle.protocol.specs.declared.names.Ticket.{Ticket}
use Rattle.protocol.specs.declared.names.Txn.{Txn}
use Rattle.protocol.specs.declared.records.Record.{Record}
use Rattle.protocol.specs.declared.standings.Standing.{Standing}
use Rattle.protocol.specs.declared.trees.TreeProcess.{TreeProcess}
use Rattle.protocol.specs.Names.{child_case, root_case}
use Rattle.protocol.specs.Records.{has, is_collecting, is_prepare, is_commit, is_abort, is_end}
use Rattle.protocol.specs.Nodes.{Place, Role, AtRoot, Node, kept, place_of, role_of, is_leaf}
use Rattle.protocol.specs.Memory.{Memory, memory_of}
use Rattle.protocol.specs.Standings.{coordinator_view, coordinator_standing, phase_standing}
use Rattle.protocol.specs.Restarts.{trims, trim_effect, trimmed}
use Rattle.protocol.specs.Outcomes.{is_commit_outcome}
use Rattle.protocol.specs.World.{World}
use Rattle.proof_pairs.specs.Reading.{Reading}
use Rattle.proof_pairs.specs.ParentMoves
use Rattle.proof_pairs.specs.Invariant.{Common}
use Rattle.proof_pairs.specs.readings.ReadingOf.{reading_of, reading_from, parent_half, parent_half_at, child_half, wire, ParentHalf, ChildHalf, Wire, phase_by}
use Rattle.proof_pairs.specs.readings.Halves.{trimmed_parent}
use Rattle.proof_pairs.specs.readings.StepLaws.{RootTrims}
use Rattle.proof_pairs.proofs.readings.Lists.{has-nil, has-none, has-append}
use Rattle.proof_pairs.proofs.readings.Trimmed.{Gone, gone, boot_trimmed}
use Rattle.proof_pairs.proofs.readings.Delivered.{trimmed_as}
use Rattle.proof_pairs.proofs.readings.ReadingSteps.{at_root, before_root}
use Rattle.proof_pairs.proofs.readings.CoordinatorHalves.{standing-by_records}
use Rattle.proof_pairs.proofs.readings.FaultStep.{wire-quiet}

or-false : (a : Bool) → (a || false) ≡ a
or-false a = grind arith

half_trims : (s s' : Standing) (m : Memory) (me : ProcessId) (tree : List TreeProcess) (n : Node) (c : Case)
    (t : Ticket)
    → Gone c t (trimmed AtRoot (kept n))
    → phase_by n.failed s' ≡ phase_by n.failed s
    → parent_half_at s' m (trims (record { me = me; role = AtRoot; tree = tree }) n) c t
    ≡ trimmed_parent (parent_half_at s m n c t)
half_trims s s' m me tree n c t g same =
    rw same
    (simp (
      has-nil,
      has-append,
      g.collecting,
      g.promise,
      g.commit,
      g.abort,
      g.end,
      g.collects,
      g.names_it,
      g.owes,
      or-false,
      has-none (is_commit c),
    ))

memory_trims : (me : ProcessId) (tree : List TreeProcess) (n : Node) (c : Case)
    → (let place : Place = record { me = me; role = AtRoot; tree = tree } in memory_of place
    (trims place n) c ≡ memory_of place n c)
unfolding memory_of
memory_trims me tree n c = rw (boot_trimmed (kept n))

-- with no record of the case, memory says where it stands
bare_standing : (rs : List Record) (c : Case) (t : Ticket) (m : Memory) → Gone c t rs
    → coordinator_standing (rs ++ []) c m ≡ phase_standing c.txn.presumption m.phase
bare_standing rs c t m g = rw (
  has-nil (is_end c) rs ∙ g.end,
  has-nil (is_commit c) rs
      ∙ g.commit,
  has-nil (is_abort c) rs ∙ g.abort,
  has-nil (is_prepare c) rs
      ∙ g.promise,
  has-nil (is_collecting c) rs ∙ g.collecting,
)

outcome_trims : (place : Place) (n : Node) (c : Case) (t : Ticket) → place.role ≡ AtRoot
    → Gone c t (trimmed AtRoot (kept n))
    → has (is_commit c) (trims place n).durable ≡ has (is_commit c) n.durable
outcome_trims place n c t role g = rw role (has-append (is_commit c) (trimmed AtRoot (kept n)) n.durable
    ∙ (ap (λ (b : Bool). has (is_commit c) n.durable || b) g.commit
    ∙ or-false (has (is_commit c) n.durable)))

kept-outcome : (a b : Bool) → (a ≡ true → b ≡ true) → b ≡ (a || b)
kept-outcome a b f = grind arith

reading-trims : (manager outcome above : Bool) (p : ParentHalf) (k : ChildHalf) (v : Wire)
    → (p.commit_kept ≡ true → outcome ≡ true)
    → reading_from true manager outcome above (trimmed_parent p) k v ≡ ParentMoves.trims_parent
    (reading_from true manager outcome above p k v)
reading-trims manager outcome above p k v f = rw (sym (kept-outcome p.commit_kept outcome f))

moved : (manager outcome outcome' above : Bool) (p p' : ParentHalf) (k : ChildHalf) (v v' : Wire)
    → outcome ≡ outcome' → p ≡ p' → v ≡ v'
    → reading_from true manager outcome above p k v ≡ reading_from true manager outcome' above p' k v'
moved manager outcome outcome' above p p' k v v' o e f =
    ap (λ a. reading_from true manager a above p k v) o
    ∙ (ap (λ a. reading_from true manager outcome' above a k v) e
    ∙ ap (λ a. reading_from true manager outcome' above p' k a) f)

here : (w : World) (x : Txn) → has (is_commit (root_case x)) (w.at x.root).durable ≡ is_commit_outcome w x
unfolding is_commit_outcome
here w x = refl

-- a commit that is kept in a process that is up is the outcome
kept_commit : (r : Reading) → Common r → r.parent_is_root ≡ true → r.failed ≡ false → r.commit_kept ≡ true
    → r.outcome ≡ true
kept_commit r h root up c = h.root_commit_is_the_outcome root (h.root_commit_is_forced root c up)

same_standing : (place : Place) (n n' : Node) (c : Case) (m : Memory) → memory_of place n' c ≡ m
    → coordinator_standing (kept n') c m ≡ phase_standing c.txn.presumption m.phase
    → (coordinator_view place n' c).standing ≡ phase_standing c.txn.presumption m.phase
same_standing place n n' c m e f = standing-by_records place n' c
    ∙ (ap (λ (x : Memory). coordinator_standing (kept n') c x) e ∙ f)

pub root_trims : RootTrims
root_trims tree w w' above x t a e pair inv unknown agrees made =
    let place : Place = record { me = x.root; role = AtRoot; tree = tree } in
    let n = w.at x.root in
    let c = root_case x in
    let both = trimmed_as tree w x.root AtRoot a e w' pair.root made in
    let g = gone (kept n) c t unknown in
    let old = before_root tree w above x t pair in
    let agrees' : (coordinator_view place n c).standing ≡ phase_standing x.presumption
    (memory_of place n c).phase =
    subst (λ (r : Role). (coordinator_view (record { me = x.root; role = r; tree = tree }) n c).standing
    ≡ phase_standing x.presumption (memory_of (record { me = x.root; role = r; tree = tree }) n
    c).phase) pair.root agrees in
    let same : memory_of place (trims place n) c ≡ memory_of place n c = memory_trims x.root tree n c in
    let stands : (coordinator_view place (trims place n) c).standing ≡ (coordinator_view place n c).standing =
    same_standing place n (trims place n) c (memory_of place n c) same
    (bare_standing (trimmed AtRoot (kept n)) c t (memory_of place n c) g) ∙ sym agrees' in
    let half : parent_half place (trims place n) c t ≡ trimmed_parent (parent_half place n c t) =
    ap (λ (m : Memory). parent_half_at (coordinator_view place (trims place n) c).standing m
    (trims place n) c t) same
    ∙ half_trims (coordinator_view place n c).standing
    (coordinator_view place (trims place n) c).standing (memory_of place n c) x.root tree n c t g
    (ap (phase_by n.failed) stands) in
    ap (λ (y : World). reading_of tree y above c t) both.1
    ∙ (at_root tree w above x t pair (trims place n) (trim_effect place n)
    ∙ (moved (is_leaf (role_of tree t.child)) _ _ above _ _
    (child_half (place_of tree t.child) (w.at t.child) (child_case x t)) _ _
    (outcome_trims place n c t refl g ∙ here w x) half (wire-quiet c t w.net)
    ∙ (reading-trims (is_leaf (role_of tree t.child)) (is_commit_outcome w x) above
    (parent_half place n c t) (child_half (place_of tree t.child) (w.at t.child) (child_case x t))
    (wire c t w.net)
    (kept_commit (reading_of tree w above c t) inv refl both.0)
    ∙ ap (λ (r : Reading). ParentMoves.trims_parent r) old)))
