-- A manager's trim keeps the invariant of its pairs, also where its device fails.
use Rattle.std.proofs.Common.{◌≡◌, ◌∙◌, ◌||◌, ◌&&◌, ◌⊎◌, inl, inr, ℕ, zero, suc, Bool, true, false, List, refl, sym, ap, subst, arith}
use Rattle.std.proofs.lemmas.List.{append-nil}
use Rattle.protocol.specs.declared.names.Case.{Case}
use Rattle.protocol.specs.declared.names.ProcessId.{ProcessId}
use Rattle.protocol.specs.declared.names.Ticket.{Ticket}
use Rattle.protocol_words.specs.Variants.{CaseBranch, CommittedOutcome}
use Rattle.protocol.specs.declared.names.Presumption.{Presumption}
use Rattle.protocol.specs.declared.records.Record.{Record}
use Rattle.protocol.specs.declared.standings.Standing.{Standing}
use Rattle.protocol.specs.declared.trees.TreeProcess.{TreeProcess}
use Rattle.protocol.specs.Names.{child_case}
use Rattle.protocol.specs.Records.{has, is_heuristic, is_decided}
use Rattle.protocol.specs.Nodes.{Place, AtLeaf, Node, kept}
use Rattle.protocol.specs.Memory.{Memory, Open, memory_of}
use Rattle.protocol.specs.Standings.{ManagerView, Mark, Unmarked, Promised, Decided, ToldOf, Finished, manager_view, marked_branch, mark_of}
use Rattle.protocol.specs.Restarts.{is_open, trimmed, trims, trim_fails}
use Rattle.proof_pairs.specs.Reading.{Reading, is_live}
use Rattle.proof_pairs.specs.ChildMoves
use Rattle.proof_pairs.specs.ChildCrash
use Rattle.proof_pairs.specs.Invariant.{Common}
use Rattle.proof_pairs.specs.Standing.{IsForgotten}
use Rattle.proof_pairs.specs.readings.ReadingOf.{reading_from, ParentHalf, ChildHalf, Wire, child_half, child_half_at, is_dead, phase_by}
use Rattle.proof_pairs.proofs.readings.LeafCrash.{QuietWhileOpen}
use Rattle.proof_pairs.specs.turns.Written.{is_coordinators}
use Rattle.proof_pairs.specs.turns.LeafTurns.{mark_at, IsUnknown}
use Rattle.proof_pairs.proofs.turns.LeafInputs.{viewed}
use Rattle.proof_processes.specs.Lasts.{logs_of, Lasts}
use Rattle.proof_processes.specs.WorldHolds.{InvariantOf}
use Rattle.proof_processes.proofs.Tests.{not_both, in_first}
use Rattle.proof_processes.proofs.Orders.{IsMarked}
use Rattle.proof_processes.proofs.Worlds.{has_other}
use Rattle.proof_steps.proofs.children.LastRecords.{decided_in_front}
use Rattle.proof_steps.proofs.children.LeafWrites.{hardens, stands_so}
use Rattle.proof_steps.proofs.children.Doubts.{nothing_known}
use Rattle.proof_steps.proofs.children.FailMoves
use Rattle.proof_steps.proofs.children.Moves
use Rattle.proof_steps.proofs.children.Moves.{Fits}
use Rattle.proof_processes.proofs.Boots.{trims_memory}
use Rattle.proof_processes.proofs.GivenCases.{unmarked_so}
use Rattle.proof_processes.proofs.TrimmedBranches.{trim_forgets}
use Rattle.proof_steps.proofs.children.Opens.{opens, closed_where_marked, closed_unless_open, is_phase_open}
use Rattle.proof_steps.proofs.children.Readings
use Rattle.proof_steps.proofs.children.TrimHalves.{cleared, keeps_open, keeps_unmarked, forgets_over, half_keeps, half_cleared}

-- the device failed, and nothing else changed
abbrev fallen : ChildHalf → ChildHalf
fallen k = record k { failed = true; is_open = false }

refused-falls : (o p e n i r : Bool) → QuietWhileOpen n i p e r
    → (o || is_dead (p || e) false i r) ≡ ((i && n) || (o || is_dead (p || e) n i r))
unfolding is_dead
refused-falls o p e n i r quiet = grind arith

and-false : (a : Bool) → (a && false) ≡ false
and-false a = grind arith

ever-or : (a b : Bool) → (a ≡ true → b ≡ true) → (a || b) ≡ b
ever-or a b f = grind arith

reading-falls : (root outcome above : Bool) (p : ParentHalf) (k : ChildHalf) (v : Wire)
    → QuietWhileOpen k.is_open v.issued k.prepared_kept k.prepared_ever v.read
    → reading_from root true outcome above p (fallen k) v
    ≡ ChildCrash.child_fails (reading_from root true outcome above p k v)
reading-falls root outcome above p k v quiet =
    rw (
      and-false v.issued,
      refused-falls k.obeyed_abort k.prepared_kept k.prepared_ever k.is_open v.issued v.read quiet,
    )

reading-cleared : (root outcome above : Bool) (p : ParentHalf) (k : ChildHalf) (v : Wire) → k.is_open ≡ false
    → (k.prepared_kept ≡ true → k.prepared_ever ≡ true)
    → reading_from root true outcome above p (stands_so false (cleared k)) v
    ≡ ChildMoves.trims_child (reading_from root true outcome above p k v)
reading-cleared root outcome above p k v e f = rw (e, ever-or k.prepared_kept k.prepared_ever f) refl

decided_is : (d : Case) (x : Record) → is_decided d CommittedOutcome x ≡ true → is_heuristic d x ≡ true
decided_is d x e = grind arith

module _ (c : Case) (t : Ticket) (p : ProcessId) (tree : List TreeProcess) (n : Node) (v : Wire)
    (last : Lasts (AtLeaf p) (logs_of n))
    (up : n.failed ≡ false)
    (pr : Presumption) (root outcome above : Bool) (half : ParentHalf) where
  abbrev d : Case
  d = child_case c.txn t

  abbrev place : Place
  place = record { me = t.child; role = AtLeaf p; tree = tree }

  abbrev k : ChildHalf
  k = child_half place n d

  abbrev R : ChildHalf → Reading
  R x = reading_from root true outcome above half x v

  abbrev r0 : Reading
  r0 = R k

  none : has is_coordinators (kept n) ≡ false
  none = by_test (has is_coordinators (kept n)) refl
    where
      by_test : (b : Bool) → has is_coordinators (kept n) ≡ b → has is_coordinators (kept n) ≡ false
      by_test true g =
          not_both is_coordinators (has is_coordinators n.life)
          (last.nested.kept_was_written is_coordinators (λ x. refl) g) last.by_role.no_coordinators_record
      by_test false g = g

  none_forced : has is_coordinators n.forced ≡ false
  none_forced = by_test (has is_coordinators n.forced) refl
    where
      by_test : (b : Bool) → has is_coordinators n.forced ≡ b → has is_coordinators n.forced ≡ false
      by_test true g = not_both is_coordinators (has is_coordinators (kept n))
          (in_first is_coordinators n.forced n.unforced g) none
      by_test false g = g

  module _ (inv : InvariantOf pr r0) where
    common : Common r0
    common = Moves.common_of pr r0 inv

    abbrev decided : List Record → Bool
    decided rs = has (is_decided d CommittedOutcome) rs

    -- an operator's decision that stands was once forced
    decided_ever : decided (kept n) ≡ true → decided n.durable ≡ true
    decided_ever e =
        let forced = common.heuristic_is_forced
        (has_other (is_decided d CommittedOutcome) (is_heuristic d) (kept n) (decided_is d) e) up in
        last.nested.forced_is_old (is_decided d CommittedOutcome)
        (decided_in_front d n.forced n.unforced (last.by_role.in_order d) none_forced forced ∙ e)

    promised_ever : k.prepared_kept ≡ true → k.prepared_ever ≡ true
    promised_ever e = (common.child_forced_promise (common.child_promise_is_forced e up)).1

    -- The half after the trim, where the branch then stands so.

    abbrev Left : Standing → ChildHalf → Type 0
    Left s x = child_half_at s (trims place n) d ≡ stands_so (is_live (phase_by n.failed s)) x

    pub trimmed_half : (s : Standing) → Left s (hardens k) ⊎ ((mark_at n d ≡ Finished) × Left s (cleared k))
    trimmed_half s = by_mark (mark_at n d) refl
      where
        whole : is_open (mark_of (CaseBranch d) (kept n)) ≡ true → Left s (hardens k)
        whole e = half_keeps t.child p tree n d (manager_view place n d).standing s
            (keeps_open p d (kept n) (last.by_role.in_order d) none e)

        by_mark : (x : Mark) → mark_at n d ≡ x
            → Left s (hardens k) ⊎ ((mark_at n d ≡ Finished) × Left s (cleared k))
        by_mark Unmarked e = inl
            (half_keeps t.child p tree n d (manager_view place n d).standing s
            (keeps_unmarked p d (kept n) (last.by_role.in_order d) none e))
        by_mark Promised e = inl (whole (ap is_open e))
        by_mark Decided e = inl (whole (ap is_open e))
        by_mark (ToldOf o) e = inl (whole (ap is_open e))
        by_mark Finished e = inr (
          e,
          half_cleared t.child p tree n d (manager_view place n d).standing s
              (forgets_over p d (kept n) (last.by_role.in_order d) none (ap is_open e))
              (ever-or (decided (kept n)) (decided n.durable) decided_ever),
        )

    -- The moves.

    over_is_closed : mark_at n d ≡ Finished → k.is_open ≡ false
    over_is_closed e = closed_where_marked place n d (subst IsMarked (sym e) tt)

    over_is_unknown : mark_at n d ≡ Finished → IsUnknown place n d
    over_is_unknown e =
        ap (λ (x : ManagerView). x.standing)
        (viewed place n d ∙ ap (λ (x : Mark). marked_branch (memory_of place n d) x) e)

    forgotten : mark_at n d ≡ Finished → IsForgotten r0
    forgotten e = record {
      closed = rw (over_is_closed e) (and-false v.issued);
      nothing = nothing_known n last.nested last.by_role d place (over_is_unknown e);
    }

    hardened : Fits pr r0 (R (hardens k))
    hardened = subst (λ (z : Reading). Fits pr r0 z)
        (sym (Readings.reading-hardened root outcome above half k v)) (Moves.hardens pr r0 inv up)

    clears : mark_at n d ≡ Finished → Fits pr r0 (R (stands_so false (cleared k)))
    clears e = subst (λ (z : Reading). Fits pr r0 z)
        (sym (reading-cleared root outcome above half k v (over_is_closed e) promised_ever))
        (Moves.trims_child pr r0 inv (record { up = up; forgotten = forgotten e }))

    -- and then the device fails
    falls : (x : ChildHalf) → x.failed ≡ false → Fits pr r0 (R x) → Fits pr r0 (R (fallen x))
    falls x still f =
        subst (λ (z : Reading). Fits pr r0 z) (sym (reading-falls root outcome above half x v quiet))
        (Moves.onward pr r0 (R x) (ChildCrash.child_fails (R x)) f
        (FailMoves.child_fails pr (R x) f.invariant (record { up = still })))
      where
        quiet : QuietWhileOpen x.is_open v.issued x.prepared_kept x.prepared_ever v.read
        quiet e = let w = (Moves.common_of pr (R x) f.invariant).not_voted e in
            (w.no_prepared.0, w.no_prepared.1, w.said_nothing.0)

    pub trim_breaks : (a : ℕ) → Fits pr r0 (R (child_half place (trim_fails place n a) d))
    trim_breaks zero = falls k up (Moves.unmoved pr r0 inv)
    trim_breaks (suc a) =
        let s = (manager_view place (trim_fails place n (suc a)) d).standing in
        elim (trimmed_half s) [
          | inl same ↦ subst (λ (z : ChildHalf). Fits pr r0 (R (fallen z))) (sym same)
              (falls (hardens k) up hardened)
          | inr gone ↦ subst (λ (z : ChildHalf). Fits pr r0 (R (fallen z))) (sym gone.1)
              (falls (stands_so false (cleared k)) up (clears gone.0))
        ]

    -- Where the device does not fail, the branch stays as open as it was.

    abbrev then : Node
    then = trims place n

    stays_as : (b : Bool) → k.is_open ≡ b → opens n.failed (manager_view place then d) ≡ b
        → Fits pr r0 (R (child_half place then d))
    stays_as b e f =
        let s = (manager_view place then d).standing in
        elim (trimmed_half s) [
          | inl same ↦ subst (λ (z : ChildHalf). Fits pr r0 (R z))
              (sym (same ∙ ap (λ (o : Bool). stands_so o (hardens k)) (f ∙ sym e))) hardened
          | inr gone ↦ subst (λ (z : ChildHalf). Fits pr r0 (R z))
              (sym (gone.1 ∙ ap (λ (o : Bool). stands_so o (cleared k))
              (f ∙ (sym e ∙ over_is_closed gone.0)))) (clears gone.0)
        ]

    seen : (x : Node) → manager_view place x d ≡ marked_branch (memory_of place x d) (mark_at x d)
    seen x = viewed place x d

    same_memory : memory_of place then d ≡ memory_of place n d
    same_memory = trims_memory place n d

    unmarked_then : mark_at n d ≡ Unmarked → mark_at then d ≡ Unmarked
    unmarked_then e =
        ap (mark_of (CaseBranch d)) (append-nil (trimmed (AtLeaf p) (kept n)))
        ∙ unmarked_so d (trimmed (AtLeaf p) (kept n)) (trim_forgets p d (kept n) (ap is_open e))

    pub trim_fits : ((memory_of place n d).phase ≡ Open → mark_at n d ≡ Unmarked)
        → Fits pr r0 (R (child_half place then d))
    trim_fits unmarked = elim (is_phase_open (memory_of place n d).phase) [
      | inl e ↦ stays_as k.is_open refl
          (ap (opens n.failed) (seen then)
          ∙ (ap (λ (x : Mark). opens n.failed (marked_branch (memory_of place then d) x))
          (unmarked_then (unmarked e))
          ∙ (ap (λ (m : Memory). opens n.failed (marked_branch m Unmarked)) same_memory
          ∙ (ap (λ (x : Mark). opens n.failed (marked_branch (memory_of place n d) x)) (sym (unmarked e))
          ∙ ap (opens n.failed) (sym (seen n))))))
      | inr other ↦ stays_as false
          (ap (opens n.failed) (seen n)
          ∙ closed_unless_open n.failed (memory_of place n d) (mark_at n d) other)
          (ap (opens n.failed) (seen then)
          ∙ closed_unless_open n.failed (memory_of place then d) (mark_at then d)
          (λ e. other (ap (λ (m : Memory). m.phase) (sym same_memory) ∙ e)))
    ]
