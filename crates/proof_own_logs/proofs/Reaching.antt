-- The log of a manager has reached the boots of the tickets by which its own cases promised, and so has what
-- a crash leaves of it.
use Rattle.std.proofs.Common.{◌≡◌, ◌≤◌, ◌+◌, ◌∙◌, ℕ, Bool, true, false, if◌then◌else◌, Option, Some, None, List, [], ◌∷◌, ◌++◌, append_assoc, fold, map, refl, sym, ap, subst, arith}
use Rattle.std.proofs.lemmas.Grind.{fold-append}
use Rattle.std.proofs.lemmas.List.{append-nil, map-append}
use Rattle.std.specs.List.{AllByRecursion}
use Rattle.protocol.specs.declared.messages.Envelope.{Envelope}
use Rattle.protocol.specs.declared.names.Case.{Case}
use Rattle.protocol.specs.declared.names.Kind.TheVariants.{Manager}
use Rattle.protocol.specs.declared.names.ProcessId.{ProcessId}
use Rattle.protocol.specs.declared.names.Ticket.{Ticket}
use Rattle.protocol.specs.declared.names.Txn.{Txn}
use Rattle.protocol.specs.declared.records.BranchName.TheVariants.{Foreign}
use Rattle.protocol_words.specs.Variants.{CaseBranch}
use Rattle.protocol.specs.declared.records.LogRecord.{LogRecord}
use Rattle.protocol.specs.declared.records.Record.{Record}
use Rattle.protocol.specs.declared.records.Record.TheVariants.{Opened, Prepared}
use Rattle.protocol.specs.declared.trees.TreeProcess.{TreeProcess}
use Rattle.protocol.specs.LogNames.{case_parent, in_log, is_own, own_records}
use Rattle.protocol.specs.Names.{process_of}
use Rattle.protocol.specs.NameLaws.{same_case-refl}
use Rattle.protocol.specs.Nodes.{Node, Place, kept}
use Rattle.protocol.specs.Outcomes.{sent}
use Rattle.protocol.specs.Records.{boot_after, boot_of, has, record_case}
use Rattle.protocol.specs.Views.{leaf_place}
use Rattle.proof_pairs.specs.readings.ReadingOf.{gives_case}
use Rattle.proof_processes.specs.Lasts.{Nested, logs_of}
use Rattle.proof_processes.specs.WorldHolds.{Issues, is_of, is_record_of}
use Rattle.proof_processes.proofs.Giving.{never_given}
use Rattle.proof_processes.proofs.PairOf.{given}
use Rattle.proof_processes.proofs.Tests.{has-cons, left, right}
use Rattle.log_rules.specs.sound.Sound.{IsSound}
use Rattle.log_records.specs.Sights.{LogSight, left_by, records_of, whole_within}
use Rattle.resource_manager.specs.Orders.{AreInOrder, MayFollow}
use Rattle.resource_manager.proofs.Lefts.{each_left}
use Rattle.kv_manager.specs.Sights.{are_ordered}
use Rattle.kv_manager.proofs.Boots.{left_ordered}
use Rattle.kv_manager.proofs.InOrder.{in_order}
use Rattle.sub_branches.specs.Rebuilt.{AreFit, IsGivenBy, IsGivenWhere, IsReached, ReachesBy, saying_of}
use Rattle.sub_branches.proofs.Marks.{boots_alike}
use Rattle.sub_branches.proofs.Steps.{reached_later}
use Rattle.proof_own_logs.proofs.Appending.{entries_of}

-- Boots never fall.

abbrev boot_in : List LogRecord → ℕ
boot_in ls = boot_of (entries_of ls)

boot_more : (ls : List LogRecord) (l : LogRecord) → boot_in (ls ++ l ∷ []) ≡ boot_after (boot_in ls) l.entry
unfolding boot_of
boot_more ls l = ap (fold boot_after 0) (map-append (λ (k : LogRecord). k.entry) ls (l ∷ []))
    ∙ fold-append boot_after 0 (entries_of ls) (l.entry ∷ [])

boot_grows : (ls : List LogRecord) (q : Option ProcessId) (r : Record)
    → MayFollow ls (record { entry = r; parent = q }) → boot_in ls ≤ boot_after (boot_in ls) r
boot_grows ls q (Opened n) may = may
boot_grows ls q _ may = omega arith

regroup : (front : List LogRecord) (l : LogRecord) (rest : List LogRecord)
    → front ++ l ∷ rest ≡ (front ++ l ∷ []) ++ rest
regroup front l rest = sym (append_assoc front (l ∷ []) rest)

boots_rise : (front rest : List LogRecord) → AreInOrder (front ++ rest)
    → boot_in front ≤ boot_in (front ++ rest)
boots_rise front [] h = subst (λ ls. boot_in front ≤ boot_in ls) (sym (append-nil front)) (omega arith)
boots_rise front (l ∷ rest) h =
    let step : boot_in front ≤ boot_in (front ++ l ∷ []) =
    subst (λ n. boot_in front ≤ n) (sym (boot_more front l))
    (boot_grows front l.parent l.entry (h front l rest refl)) in
    let more : boot_in (front ++ l ∷ []) ≤ boot_in ((front ++ l ∷ []) ++ rest) =
    boots_rise (front ++ l ∷ []) rest (subst AreInOrder (regroup front l rest) h) in
    let all : boot_in front ≤ boot_in ((front ++ l ∷ []) ++ rest) = omega (arith, step, more) in
    subst (λ ls. boot_in front ≤ boot_in ls) (sym (regroup front l rest)) all

-- Cases that a process gave.

module _ (place : Place) (net : List Envelope) (n : Node) (nested : Nested (logs_of n))
    (issues : Issues place net n)
  where
    -- each case of which a record stands has a ticket of a boot that is forced
    given_by : (d : Case) → has (is_record_of d) (kept n) ≡ true → IsGivenBy (boot_of n.forced) d
    given_by d there =
        let g = issues.recorded_is_given d (nested.kept_was_written (is_record_of d) (λ k. refl) there) in
        by_ticket d.txn d.ticket g.0 g.1
      where
        by_ticket : (x : Txn) (o : Option Ticket) → process_of (record { txn = x; ticket = o }) ≡ place.me
            → sent (gives_case (record { txn = x; ticket = o })) net ≡ true
            → IsGivenBy (boot_of n.forced) (record { txn = x; ticket = o })
        by_ticket x None at was = absurd (never_given x net was)
        by_ticket x (Some t) at was =
            let g = given net x t was in
            record { ticket = t; has = refl; within = issues.given_before g.of t at g.joined }

-- Records that promise.

reached_one : (place : Place) (boot : ℕ) (q : Option ProcessId) (r : Record)
    → ((d : Case) → record_case r ≡ Some d → IsGivenBy boot d) → ReachesBy place boot q (saying_of r)
reached_one place boot q (Prepared (CaseBranch c) ws) each = by_own (is_own place q c)
  where
    by_own : (b : Bool) → IsGivenWhere boot (if b then Some c else None)
    by_own true = each c refl
    by_own false = tt
reached_one place boot q (Prepared (Foreign x) ws) each = tt
reached_one place boot q _ each = tt

reached_each : (place : Place) (boot : ℕ) (p : Option ProcessId) (rs : List Record)
    → ((d : Case) → has (is_record_of d) rs ≡ true → IsGivenBy boot d)
    → AllByRecursion (IsReached place boot) (map (in_log p) rs)
reached_each place boot p [] each = tt
reached_each place boot p (r ∷ rs) each = (
  reached_one place boot (case_parent p (record_case r)) r
      (λ d e. each d (has-cons (is_record_of d) r rs ∙ left _ _ (ap (is_of d) e ∙ same_case-refl d))),
  reached_each place boot p rs (λ d e. each d (has-cons (is_record_of d) r rs ∙ right _ _ e)),
)

-- What a crash leaves.

entries_logged : (p : Option ProcessId) (rs : List Record) → entries_of (map (in_log p) rs) ≡ rs
entries_logged p [] = refl
entries_logged p (r ∷ rs) = ap (λ xs. r ∷ xs) (entries_logged p rs)

module _ (me p : ProcessId) (tree : List TreeProcess) (net : List Envelope) (n : Node)
    (nested : Nested (logs_of n))
    (issues : Issues (leaf_place me p tree) net n) (log : LogSight)
    (forced : log.kept.forced ≡ map (in_log (Some p)) n.forced)
    (records : records_of log.kept ≡ map (in_log (Some p)) (kept n))
    (sound : AllByRecursion (IsSound Manager) (records_of log.kept))
    (ordered : are_ordered (records_of log.kept) ≡ true)
    (keep : ℕ)
  where
    abbrev place : Place
    place = leaf_place me p tree

    abbrev left_logs : List LogRecord
    left_logs = left_by log keep

    still : AreInOrder left_logs
    still = in_order left_logs (left_ordered log keep ordered)

    boot_left : boot_of n.forced ≤ boot_of (own_records place left_logs)
    boot_left =
        let is : boot_in log.kept.forced ≡ boot_of n.forced =
        ap boot_in forced ∙ ap boot_of (entries_logged (Some p) n.forced) in
        let more : boot_in log.kept.forced ≤ boot_in left_logs =
        boots_rise log.kept.forced (whole_within (log.behind + keep) log.kept.unforced) still in
        let read : boot_of (own_records place left_logs) ≡ boot_in left_logs = boots_alike me p tree left_logs
        in
        omega (arith, is, more, read)

    -- a subordinate can have written it
    pub left_fit : AreFit place left_logs
    left_fit = record {
      sound = each_left (IsSound Manager) log keep sound;
      ordered = still;
      reached = reached_later place (boot_of n.forced) (boot_of (own_records place left_logs))
          left_logs boot_left
          (each_left (IsReached place (boot_of n.forced)) log keep
          (subst (AllByRecursion (IsReached place (boot_of n.forced))) (sym records)
          (reached_each place (boot_of n.forced) (Some p) (kept n) (given_by place net n nested issues))));
    }
