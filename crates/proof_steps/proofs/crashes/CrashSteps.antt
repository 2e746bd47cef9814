-- A coordinator's restarts and trims as steps of its process: what they do to a pair below it.
use Rattle.std.proofs.Common.{◌≡◌, ◌∙◌, ◌||◌, inl, inr, ℕ, zero, suc, Bool, true, false, Some, None, List, [], ◌++◌, take, refl, sym, ap, subst, arith}
use Rattle.std.proofs.lemmas.List.{append-nil}
use Rattle.protocol.specs.declared.names.Case.{Case}
use Rattle.protocol.specs.declared.names.ProcessId.{ProcessId}
use Rattle.protocol.specs.declared.names.Ticket.{Ticket}
use Rattle.protocol.specs.declared.messages.Envelope.{Envelope}
use Rattle.protocol.specs.declared.records.Record.{Record}
use Rattle.protocol.specs.declared.standings.Standing.{Standing}
use Rattle.protocol.specs.declared.trees.TreeProcess.{TreeProcess}
use Rattle.protocol.specs.Names.{child_case}
use Rattle.protocol.specs.Records.{has, is_prepare, is_commit, is_abort}
use Rattle.protocol.specs.Nodes.{AtRoot, Below, Node, Place, kept}
use Rattle.protocol.specs.Memory.{Memory, fresh_memory, memory_of}
use Rattle.protocol.specs.Standings.{coordinator_view}
use Rattle.protocol.specs.Restarts.{left_of, reopens, restart_effect, restart_fails, restarted, trim_fails, trimmed, trims}
use Rattle.proof_pairs.specs.Reading.{Reading, Closed}
use Rattle.proof_pairs.specs.readings.ReadingOf.{ChildHalf, ParentHalf, Wire, reading_from, parent_half_at, phase_by, wire}
use Rattle.protocol.specs.Audits.{is_decision_naming}
use Rattle.proof_processes.specs.Lasts.{logs_of, Nested}
use Rattle.proof_processes.specs.WorldHolds.{InvariantOf, NamesBy}
use Rattle.proof_processes.proofs.CaseOrders.{AllFit}
use Rattle.proof_processes.proofs.Tests.{has-append, in_either, in_first, in_second, in_front, not_both}
use Rattle.proof_processes.proofs.Boots.{trims_memory}
use Rattle.proof_steps.proofs.children.Moves.{Fits, onward}
use Rattle.proof_steps.proofs.crashes.Behind
use Rattle.proof_steps.proofs.crashes.Crashes
use Rattle.proof_steps.proofs.crashes.Restarts
use Rattle.proof_steps.proofs.crashes.Resumed.{wire_resumed}
use Rattle.proof_steps.proofs.crashes.Trims
use Rattle.proof_steps.proofs.crashes.Trimmed.{trims_alike}

-- a process that failed remembers the same
same_memory : (place : Place) (n : Node) (c : Case) → memory_of place (record n { failed = true }) c
    ≡ memory_of place n c
unfolding memory_of
same_memory place n c = refl

or-taken : (x y z : Bool) → x ≡ (y || z) → x ≡ (y || z)
or-taken x y z e = e

-- The restart.

module _ (me : ProcessId) (tree : List TreeProcess) (n : Node) (j : ℕ) (c : Case) (t : Ticket)
    (nested : Nested (logs_of n)) (fit : AllFit [] (kept n)) (manager above : Bool) (k : ChildHalf)
    (net : List Envelope)
  where
    abbrev left : List Record
    left = left_of n j

    abbrev d : Case
    d = child_case c.txn t

    none_left : has (is_prepare d) (kept n) ≡ false → (new : List Record) → has (is_prepare d) new ≡ false
        → has (is_prepare d) (left ++ new) ≡ false
    none_left e new f = by_test (has (is_prepare d) (left ++ new)) refl
      where
        by_test : (b : Bool) → has (is_prepare d) (left ++ new) ≡ b → has (is_prepare d) (left ++ new) ≡ false
        by_test false g = g
        by_test true g = elim (in_either (is_prepare d) left new g) [
          | inl old ↦ elim (in_either (is_prepare d) n.forced (take j n.unforced) old) [
            | inl front ↦ not_both (is_prepare d) (has (is_prepare d) (kept n))
                (in_first (is_prepare d) n.forced n.unforced front) e
            | inr rest ↦ not_both (is_prepare d) (has (is_prepare d) (kept n))
                (in_second (is_prepare d) n.forced n.unforced (in_front (is_prepare d) j n.unforced rest)) e
          ]
          | inr now ↦ not_both (is_prepare d) (has (is_prepare d) new) now f
        ]

    -- at the root

    module _ (none : has (is_prepare d) (kept n) ≡ false)
      where
        abbrev root : Place
        root = record { me = me; role = AtRoot; tree = tree }

        abbrev root_new : List Record
        root_new = reopens AtRoot left

        abbrev s : Standing
        s = (coordinator_view root n c).standing

        abbrev r0 : Reading
        r0 = reading_from true manager (has (is_commit c) n.durable) above
            (parent_half_at s (memory_of root n c) n c t) k (wire c t net)

        pub root_reopens : ((x : Case) → has (is_decision_naming x t) (left ++ root_new) ≡ true → x ≡ c)
            → (parent_half_at (coordinator_view root (restarted root n j) c).standing fresh_memory
            (restarted root n j) c t).begun
            ≡ (parent_half_at s (memory_of root n c) n c t).begun
            → InvariantOf c.txn.presumption r0
            → Fits c.txn.presumption r0
            (reading_from true manager (has (is_commit c) (restarted root n j).durable) above
            (parent_half_at (coordinator_view root (restarted root n j) c).standing
            (memory_of root (restarted root n j) c) (restarted root n j) c t) k
            (wire c t (net ++ (restart_effect root n j).messages)))
        root_reopens own begun inv =
            let n' = restarted root n j in
            let s' = (coordinator_view root n' c).standing in
            let m = memory_of root n c in
            let o = has (is_commit c) n.durable in
            let v = wire c t net in
            let now = Crashes.reopened root n j c t nested refl in
            let closed : phase_by n'.failed s' ≡ Closed = Crashes.closed root n j c t nested refl in
            let alone = Crashes.aborts_alone root n j c t nested refl in
            let aborts = λ (e : has (is_abort c) root_new ≡ true). sym alone ∙ e in
            subst (λ (z : Reading). Fits c.txn.presumption r0 z)
            (sym (ap (λ b. reading_from true manager b above
            (parent_half_at s' (memory_of root n' c) n' c t) k
            (wire c t (net ++ (restart_effect root n j).messages)))
            (now.ever_so (is_commit c) (λ x ts. refl) (λ b. refl))
            ∙ (ap (λ x. reading_from true manager (has (is_commit c) n'.forced || o) above
            (parent_half_at s' x n' c t) k
            (wire c t (net ++ (restart_effect root n j).messages))) (Crashes.forgetful root n' c refl)
            ∙ ap (λ x. reading_from true manager (has (is_commit c) n'.forced || o) above
            (parent_half_at s' fresh_memory n' c t) k x)
            (wire_resumed me None (left ++ root_new) c t own net
            (none_left none root_new (now.none_new (is_prepare d) (λ x ts. refl) (λ b. refl)))))))
            (Restarts.reopens_fits true manager o above k v c t n n' j root_new s s' m fit now closed refl
            aborts
            (ap (λ b. b) begun)
            (Behind.refused_root c.txn.presumption true manager o above k v c t n n' j root_new s s' m fit
            now closed
            refl aborts inv refl begun)
            c.txn.presumption refl (left ++ root_new) (λ q. ap (has q) (sym (append-nil (left ++ root_new))))
            (λ q. ap (has q) (sym (append-nil (left ++ root_new)))) alone inv)

        -- the device fails in it
        module _ (a f : ℕ) where
          abbrev broken : Node
          broken = restart_fails root n j a f

          pub root_breaks : AllFit [] (kept (restart_fails root n j a f))
              → (parent_half_at (coordinator_view root (restart_fails root n j a f) c).standing fresh_memory
              (restart_fails root n j a f) c t).begun
              ≡ (parent_half_at s (memory_of root n c) n c t).begun
              → InvariantOf c.txn.presumption r0
              → Fits c.txn.presumption r0
              (reading_from true manager (has (is_commit c) (restart_fails root n j a f).durable) above
              (parent_half_at (coordinator_view root (restart_fails root n j a f) c).standing
              (memory_of root (restart_fails root n j a f) c) (restart_fails root n j a f) c t) k
              (wire c t net))
          root_breaks fit' begun inv =
              let s' = (coordinator_view root broken c).standing in
              let m = memory_of root n c in
              let o = has (is_commit c) n.durable in
              let v = wire c t net in
              let now = Crashes.failed root n j c t nested refl a f in
              let aborts = λ (e : has (is_abort c) (take a root_new) ≡ true).
              sym (Crashes.aborts_alone root n j c t nested refl) ∙ in_front (is_abort c) a root_new e in
              subst (λ (z : Reading). Fits c.txn.presumption r0 z)
              (sym (ap (λ b. reading_from true manager b above
              (parent_half_at s' (memory_of root broken c) broken c t) k v)
              (now.ever_so (is_commit c) (λ x ts. refl) (λ b. refl))
              ∙ ap (λ x. reading_from true manager (has (is_commit c) broken.forced || o) above
              (parent_half_at s' x broken c t) k v) (Crashes.forgetful root broken c refl)))
              (Restarts.breaks_fits true manager o above k v c t n broken j (take a root_new) s s' m fit
              now refl refl aborts
              begun
              (Behind.refused_root c.txn.presumption true manager o above k v c t n broken j
              (take a root_new) s s' m fit now
              refl refl aborts inv refl begun)
              c.txn.presumption refl fit'
              (λ q e. in_first q n.forced (take f (take j n.unforced ++ take a root_new)) e) inv)

    -- below the root

    module _ (p : ProcessId) (outcome : Bool) (none : has (is_prepare d) (kept n) ≡ false)
        (quiet : (wire c t net).read_up ≡ true → has (is_prepare c) n.life ≡ false)
      where
        abbrev below : Place
        below = record { me = me; role = Below p; tree = tree }

        abbrev new : List Record
        new = reopens (Below p) left

        abbrev sb : Standing
        sb = (coordinator_view below n c).standing

        abbrev rb : Reading
        rb = reading_from false manager outcome above (parent_half_at sb (memory_of below n c) n c t) k
            (wire c t net)

        pub below_reopens : ((x : Case) → has (is_decision_naming x t) (left ++ new) ≡ true → x ≡ c)
            → InvariantOf c.txn.presumption rb
            → Fits c.txn.presumption rb
            (reading_from false manager outcome above
            (parent_half_at (coordinator_view below (restarted below n j) c).standing
            (memory_of below (restarted below n j) c) (restarted below n j) c t) k
            (wire c t (net ++ (restart_effect below n j).messages)))
        below_reopens own inv =
            let n' = restarted below n j in
            let s' = (coordinator_view below n' c).standing in
            let m = memory_of below n c in
            let v = wire c t net in
            let now = Crashes.reopened below n j c t nested refl in
            let closed : phase_by n'.failed s' ≡ Closed = Crashes.closed below n j c t nested refl in
            let alone = Crashes.aborts_alone below n j c t nested refl in
            let aborts = λ (e : has (is_abort c) new ≡ true). sym alone ∙ e in
            subst (λ (z : Reading). Fits c.txn.presumption rb z)
            (sym (ap (λ x. reading_from false manager outcome above (parent_half_at s' x n' c t) k
            (wire c t (net ++ (restart_effect below n j).messages))) (Crashes.forgetful below n' c refl)
            ∙ ap (λ x. reading_from false manager outcome above (parent_half_at s' fresh_memory n' c t) k x)
            (wire_resumed me (Some p) (left ++ new) c t own net
            (none_left none new (now.none_new (is_prepare d) (λ x ts. refl) (λ b. refl))))))
            (Restarts.reopens_fits false manager outcome above k v c t n n' j new sb s' m fit now closed
            refl aborts refl
            (Behind.refused_below c.txn.presumption false manager outcome above k v c t n n' j new sb s' m
            fit now closed
            refl aborts inv refl quiet)
            c.txn.presumption refl (left ++ new) (λ q. ap (has q) (sym (append-nil (left ++ new))))
            (λ q. ap (has q) (sym (append-nil (left ++ new)))) alone inv)

        module _ (a f : ℕ) where
          abbrev down : Node
          down = restart_fails below n j a f

          pub below_breaks : AllFit [] (kept (restart_fails below n j a f)) → InvariantOf c.txn.presumption rb
              → Fits c.txn.presumption rb
              (reading_from false manager outcome above
              (parent_half_at (coordinator_view below (restart_fails below n j a f) c).standing
              (memory_of below (restart_fails below n j a f) c) (restart_fails below n j a f) c t) k
              (wire c t net))
          below_breaks fit' inv =
              let s' = (coordinator_view below down c).standing in
              let m = memory_of below n c in
              let v = wire c t net in
              let now = Crashes.failed below n j c t nested refl a f in
              let aborts = λ (e : has (is_abort c) (take a new) ≡ true).
              sym (Crashes.aborts_alone below n j c t nested refl) ∙ in_front (is_abort c) a new e in
              subst (λ (z : Reading). Fits c.txn.presumption rb z)
              (sym (ap (λ x. reading_from false manager outcome above (parent_half_at s' x down c t) k v)
              (Crashes.forgetful below down c refl)))
              (Restarts.breaks_fits false manager outcome above k v c t n down j (take a new) sb s' m fit
              now refl refl
              aborts refl
              (Behind.refused_below c.txn.presumption false manager outcome above k v c t n down j
              (take a new) sb s' m fit
              now refl refl aborts inv refl quiet)
              c.txn.presumption refl fit'
              (λ q e. in_first q n.forced (take f (take j n.unforced ++ take a new)) e) inv)

-- The trim.

or-nil : (a : Bool) → a ≡ (a || false)
or-nil a = grind arith

module _ (me : ProcessId) (tree : List TreeProcess) (n : Node) (c : Case) (t : Ticket) (manager above : Bool)
    (k : ChildHalf) (v : Wire) (names : NamesBy c.txn.presumption c (kept n)) (up : n.failed ≡ false)
  where
    abbrev top : Place
    top = record { me = me; role = AtRoot; tree = tree }

    abbrev half_at : Place → Node → ParentHalf
    half_at place x = parent_half_at (coordinator_view place x c).standing (memory_of place x c) x c t

    abbrev at_top : Reading
    at_top = reading_from true manager (has (is_commit c) n.durable) above (half_at top n) k v

    commit_ever : has (is_commit c) (trims top n).durable
        ≡ (has (is_commit c) (trimmed AtRoot (kept n)) || has (is_commit c) n.durable)
    commit_ever = has-append (is_commit c) (trimmed AtRoot (kept n)) n.durable

    -- whatever stands then, as long as the case is as open as it was
    root_left : (s' : Standing) → phase_by n.failed s' ≡ phase_by n.failed (coordinator_view top n c).standing
        → InvariantOf c.txn.presumption at_top
        → Fits c.txn.presumption at_top
        (reading_from true manager (has (is_commit c) (trims top n).durable) above
        (parent_half_at s' (memory_of top n c) (trims top n) c t) k v)
    root_left s' same inv =
        subst (λ b. Fits c.txn.presumption at_top (reading_from true manager b above
        (parent_half_at s' (memory_of top n c) (trims top n) c t) k v)) (sym commit_ever)
        (Trims.root_trims c.txn.presumption manager (has (is_commit c) n.durable) above k v top n c t
        (coordinator_view top n c).standing s' (memory_of top n c) refl refl same names up inv)

    pub root_trims : phase_by n.failed (coordinator_view top (trims top n) c).standing
        ≡ phase_by n.failed (coordinator_view top n c).standing
        → InvariantOf c.txn.presumption at_top
        → Fits c.txn.presumption at_top
        (reading_from true manager (has (is_commit c) (trims top n).durable) above
        (half_at top (trims top n)) k v)
    root_trims same inv =
        subst (λ (x : Memory). Fits c.txn.presumption at_top
        (reading_from true manager (has (is_commit c) (trims top n).durable) above
        (parent_half_at (coordinator_view top (trims top n) c).standing x (trims top n) c t) k v))
        (sym (trims_memory top n c)) (root_left (coordinator_view top (trims top n) c).standing same inv)

    pub root_trim_breaks : (a : ℕ) → InvariantOf c.txn.presumption at_top
        → Fits c.txn.presumption at_top
        (reading_from true manager (has (is_commit c) (trim_fails top n a).durable) above
        (half_at top (trim_fails top n a))
        k v)
    unfolding memory_of
    root_trim_breaks zero inv =
        Trims.root_falls c.txn.presumption manager (has (is_commit c) n.durable) above (half_at top n)
        k v inv up
    root_trim_breaks (suc a) inv =
        let s = (coordinator_view top n c).standing in
        let first = root_left s refl inv in
        subst (λ (x : Memory). Fits c.txn.presumption at_top
        (reading_from true manager (has (is_commit c) (trims top n).durable) above
        (parent_half_at (coordinator_view top (trim_fails top n (suc a)) c).standing x
        (trim_fails top n (suc a)) c t) k v))
        (sym (same_memory top (trims top n) c ∙ trims_memory top n c))
        (onward c.txn.presumption at_top _ _ first
        (Trims.root_falls c.txn.presumption manager (has (is_commit c) (trims top n).durable) above
        (parent_half_at s (memory_of top n c) (trims top n) c t) k v first.invariant up))

    module _ (p : ProcessId) (outcome : Bool) where
      abbrev place : Place
      place = record { me = me; role = Below p; tree = tree }

      abbrev at_below : Reading
      at_below = reading_from false manager outcome above (half_at place n) k v

      alike : trimmed (Below p) (kept n) ≡ trimmed AtRoot (kept n)
      alike = trims_alike (Below p) tt (kept n)

      below_left : (s' : Standing) → phase_by n.failed s'
          ≡ phase_by n.failed (coordinator_view place n c).standing
          → InvariantOf c.txn.presumption at_below
          → Fits c.txn.presumption at_below
          (reading_from false manager outcome above
          (parent_half_at s' (memory_of place n c) (trims place n) c t) k v)
      below_left s' same inv =
          Trims.below_trims c.txn.presumption manager outcome above k v place n c t
          (coordinator_view place n c).standing s' (memory_of place n c) alike refl same names up inv

      pub below_trims : phase_by n.failed (coordinator_view place (trims place n) c).standing
          ≡ phase_by n.failed (coordinator_view place n c).standing
          → InvariantOf c.txn.presumption at_below
          → Fits c.txn.presumption at_below
          (reading_from false manager outcome above (half_at place (trims place n)) k v)
      below_trims same inv =
          subst (λ (x : Memory). Fits c.txn.presumption at_below
          (reading_from false manager outcome above
          (parent_half_at (coordinator_view place (trims place n) c).standing x (trims place n) c t) k v))
          (sym (trims_memory place n c))
          (below_left (coordinator_view place (trims place n) c).standing same inv)

      pub below_trim_breaks : (a : ℕ) → InvariantOf c.txn.presumption at_below
          → Fits c.txn.presumption at_below
          (reading_from false manager outcome above (half_at place (trim_fails place n a)) k v)
      unfolding memory_of
      below_trim_breaks zero inv =
          Trims.below_falls c.txn.presumption manager outcome above (half_at place n) k v inv up
      below_trim_breaks (suc a) inv =
          let s = (coordinator_view place n c).standing in
          let first = below_left s refl inv in
          subst (λ (x : Memory). Fits c.txn.presumption at_below
          (reading_from false manager outcome above
          (parent_half_at (coordinator_view place (trim_fails place n (suc a)) c).standing x
          (trim_fails place n (suc a))
          c t) k v))
          (sym (same_memory place (trims place n) c ∙ trims_memory place n c))
          (onward c.txn.presumption at_below _ _ first
          (Trims.below_falls c.txn.presumption manager outcome above
          (parent_half_at s (memory_of place n c) (trims place n) c t) k v first.invariant up))
