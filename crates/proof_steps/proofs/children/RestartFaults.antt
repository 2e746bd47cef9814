-- A manager's restart in which its device fails keeps the invariant of its pairs.
use Rattle.std.proofs.Common.{◌≡◌, ◌∙◌, ◌||◌, ◌&&◌, ◌+◌, ℕ, zero, suc, Bool, true, false, not, List, [], ◌∷◌, ◌++◌, take, refl, sym, ap, arith}
use Rattle.protocol.specs.declared.names.Case.{Case}
use Rattle.protocol.specs.declared.names.ProcessId.{ProcessId}
use Rattle.protocol.specs.declared.names.Ticket.{Ticket}
use Rattle.protocol.specs.declared.names.Presumption.{Presumption}
use Rattle.protocol.specs.declared.records.Record.{Record}
use Rattle.protocol.specs.declared.records.Record.TheVariants.{Opened}
use Rattle.protocol.specs.declared.standings.Standing.TheVariants.{Unknown}
use Rattle.protocol.specs.declared.trees.TreeProcess.{TreeProcess}
use Rattle.protocol.specs.Names.{child_case}
use Rattle.protocol.specs.Records.{has, boot_of, is_heuristic, is_forgot}
use Rattle.protocol.specs.Nodes.{Place, AtLeaf, Node, Heard, Effect, kept}
use Rattle.protocol.specs.CoordinatorRows.{forced}
use Rattle.protocol.specs.Restarts.{left_of, crashed, restart_fails}
use Rattle.protocol.specs.Standings.{manager_view}
use Rattle.proof_pairs.specs.Reading.{Reading}
use Rattle.proof_pairs.specs.ChildCrash
use Rattle.proof_pairs.specs.ChildCrash.{ChildFront}
use Rattle.proof_pairs.specs.Invariant.{Common}
use Rattle.proof_pairs.specs.readings.Halves.{child_front, failed_half}
use Rattle.proof_pairs.specs.readings.ReadingOf.{reading_from, child_half, ParentHalf, ChildHalf, Wire, is_dead}
use Rattle.protocol.specs.Audits.{is_promise}
use Rattle.proof_pairs.proofs.readings.LeafCrash.{half_fails, QuietWhileOpen}
use Rattle.proof_pairs.proofs.readings.LeafRows.{and-false}
use Rattle.proof_pairs.proofs.readings.RestartStep.{promises}
use Rattle.proof_pairs.specs.turns.LeafTurns.{writes_and_sends}
use Rattle.proof_processes.specs.Lasts.{logs_of, Lasts}
use Rattle.proof_processes.specs.WorldHolds.{InvariantOf}
use Rattle.proof_processes.proofs.Tests.{in_first}
use Rattle.proof_steps.proofs.children.FailMoves
use Rattle.proof_steps.proofs.children.Faults
use Rattle.proof_steps.proofs.children.LeafFaults.{front_of, half_fails_behind}
use Rattle.proof_steps.proofs.children.Moves
use Rattle.proof_steps.proofs.children.Moves.{Fits}
use Rattle.proof_steps.proofs.children.Restarts.{is_front}

refused-loses : (o p e f g n i r : Bool) → QuietWhileOpen n i p e r → (f ≡ true → p ≡ true)
    → (p ≡ true → e ≡ true → f ≡ true) → (p ≡ true → (i ≡ true) × (r ≡ false)) → (g ≡ true → f ≡ true)
    → (o || is_dead (f || (g || e)) false i r) ≡ (((i && n) || (p && not f)) || (o || is_dead (p || e) n i r))
unfolding is_dead
refused-loses o p e f g n i r quiet sub once asked within = grind arith

-- the half of a process that crashed to this front
abbrev lost : ChildFront → ChildHalf → ChildHalf
lost front k = record k {
  failed = false;
  is_open = false;
  prepared_kept = front.prepared;
  learnt_commit_kept = front.learnt_commit;
  learnt_abort_kept = front.learnt_abort;
  heuristic_kept = front.heuristic;
  heuristic_commits = front.heuristic_commits;
  forgot_kept = front.forgot;
}

reading-loses : (root outcome above : Bool) (p : ParentHalf) (k : ChildHalf) (v : Wire)
    (front forced_front : ChildFront)
    → QuietWhileOpen k.is_open v.issued k.prepared_kept k.prepared_ever v.read
    → (front.prepared ≡ true → k.prepared_kept ≡ true)
    → (k.prepared_kept ≡ true → k.prepared_ever ≡ true → front.prepared ≡ true)
    → (k.prepared_kept ≡ true → (v.issued ≡ true) × (v.read ≡ false))
    → (forced_front.prepared ≡ true → front.prepared ≡ true)
    → reading_from root true outcome above p (failed_half forced_front (lost front k)) v
    ≡ ChildCrash.hardens_failed_child forced_front
    (ChildCrash.child_loses front (reading_from root true outcome above p k v))
reading-loses root outcome above p k v front forced_front quiet sub once asked within =
    rw (
      and-false v.issued,
      refused-loses k.obeyed_abort k.prepared_kept k.prepared_ever front.prepared forced_front.prepared
          k.is_open v.issued v.read quiet sub once asked within,
    )

module _ (c : Case) (t : Ticket) (p : ProcessId) (tree : List TreeProcess) (n : Node) (v : Wire)
    (pr : Presumption) (root outcome above : Bool) (half : ParentHalf) (h : Heard)
    (last : Lasts (AtLeaf p) (logs_of n)) (k : ℕ) where
  abbrev d : Case
  d = child_case c.txn t

  abbrev place : Place
  place = record { me = t.child; role = AtLeaf p; tree = tree }

  abbrev R : ChildHalf → Reading
  R x = reading_from root true outcome above half x v

  abbrev r0 : Reading
  r0 = R (child_half place n d)

  -- the process as the crash leaves it, and the record that it writes then
  abbrev broken : Node
  broken = crashed place n k

  abbrev opens : Record
  opens = Opened (boot_of (kept broken) + 1)

  abbrev e : Effect
  e = writes_and_sends (forced opens) []

  abbrev left : ℕ → ℕ → Node
  left a f = restart_fails place n k a f

  abbrev front : ChildFront
  front = child_front d (left_of n k) n.durable

  module _ (inv : InvariantOf pr r0) where
    common : Common r0
    common = Moves.common_of pr r0 inv

    old_promise : has (is_promise d) n.forced ≡ true → has (is_promise d) n.durable ≡ true
    old_promise x = (common.child_forced_promise x).1

    old_decision : has (is_heuristic d) n.forced ≡ true → has (is_heuristic d) n.durable ≡ true
    old_decision x = (common.forced_heuristic x).1

    old_forgot : has (is_forgot d) n.forced ≡ true → has (is_forgot d) n.durable ≡ true
    old_forgot x = (common.forced_forgot x).1

    half_left : (a f : ℕ) (o : Bool) → child_half place (left a f) d
        ≡ failed_half (front_of d o (left a f).forced) (lost front (child_half place n d))
    half_left zero f o =
        half_fails Unknown (manager_view place (left zero f) d).standing broken h e f d old_promise
        old_decision
        old_forgot
    half_left (suc a) f o =
        half_fails_behind Unknown (manager_view place (left (suc a) f) d).standing broken h e a f d o
        opens true
        refl (record { no_abort = refl; no_prepare = refl }) old_promise old_decision old_forgot

    fronts : ChildCrash.IsChildFront front r0
    fronts = is_front t.child p n last k d tree root outcome above half v common

    holds : (a f : ℕ) (q : Record → Bool) → has q n.forced ≡ true → has q (left a f).forced ≡ true
    holds a f q x = in_first q n.forced (take f (take k n.unforced ++ take a (opens ∷ []))) x

    pub restart_breaks : (a f : ℕ) → Lasts (AtLeaf p) (logs_of (left a f))
        → Fits pr r0 (R (child_half place (left a f) d))
    restart_breaks a f stays =
        let s = ChildCrash.child_loses front r0 in
        let said = promises r0 common in
        let same = half_left a f s.heuristic_commits in
        Faults.fails_as c t p tree n v pr root outcome above half inv (left a f) stays (holds a f) s
        (ap (λ (z : ChildHalf). R z) same
        ∙ reading-loses root outcome above half (child_half place n d) v front
        (front_of d s.heuristic_commits (left a f).forced) said.quiet_open fronts.had_prepared
        (λ x y. fronts.holds_prepared (said.once x y)) said.asked
        (λ x. sym (ap (λ (z : ChildHalf). z.prepared_kept) same)
        ∙ in_first (is_promise d) (left a f).forced (left a f).unforced x))
        (record {
          failed = refl;
          prepared = refl;
          learnt_commit = refl;
          learnt_abort = refl;
          heuristic = refl;
          forgot = refl;
        })
        (FailMoves.loses pr front r0 inv fronts)
