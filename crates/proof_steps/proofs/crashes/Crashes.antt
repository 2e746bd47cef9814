-- A coordinator after its restart, and after one in which its device failed: what is left of its log, and
-- what was
-- appended to it.
use Rattle.std.proofs.Common.{◌≡◌, ◌∙◌, ◌||◌, ◌&&◌, ℕ, Bool, true, false, List, [], ◌++◌, take, refl, sym, ap, subst, arith}
use Rattle.std.proofs.lemmas.List.{append-nil}
use Rattle.protocol.specs.declared.names.Case.{Case}
use Rattle.protocol.specs.declared.names.Ticket.{Ticket}
use Rattle.protocol.specs.declared.names.Presumption.{Presumption}
use Rattle.protocol.specs.declared.names.Presumption.TheVariants.{PresumeAbort, PresumeCommit}
use Rattle.protocol.specs.declared.records.Record.{Record}
use Rattle.protocol.specs.declared.records.Record.TheVariants.{Opened}
use Rattle.protocol_words.specs.Variants.{AbortRecord}
use Rattle.protocol.specs.declared.standings.Standing.{Standing}
use Rattle.protocol.specs.declared.standings.Standing.TheVariants.{Unknown, Active, Collecting, Prepared, Committing, Aborting, Heuristic}
use Rattle.protocol.specs.Records.{has, is_abort}
use Rattle.protocol.specs.Nodes.{Node, Place, kept}
use Rattle.protocol.specs.Memory.{Idle, fresh_memory, memory_of}
use Rattle.protocol.specs.Standings.{coordinator_view, coordinator_standing, phase_standing}
use Rattle.protocol.specs.Restarts.{left_of, coordinator_reopens, reopens, restarted, restart_fails}
use Rattle.proof_pairs.specs.Reading.{Closed}
use Rattle.proof_pairs.specs.readings.ReadingOf.{phase_by}
use Rattle.protocol.specs.Audits.{is_collecting_naming, is_decision_naming}
use Rattle.proof_pairs.proofs.turns.Operators.{reopens_none}
use Rattle.proof_processes.specs.Lasts.{logs_of, Nested}
use Rattle.proof_processes.proofs.Appends.{loses, breaks_keeps}
use Rattle.proof_processes.proofs.Cases.{viewed}
use Rattle.proof_processes.proofs.Phases.{standing_at, active_unrecorded, unrecorded_stands}
use Rattle.proof_processes.proofs.RootLogs.{reopened_collects_not}
use Rattle.proof_processes.proofs.Tests.{front_none, has-append}
use Rattle.proof_steps.proofs.crashes.Reopened.{AllName, aborts_name_collected, aborts_where_alone, collects_alone, names-take, names_by_aborts}
use Rattle.proof_steps.proofs.crashes.LostHalves.{Crashed}

-- nothing is remembered if nothing was heard
pub forgetful : (place : Place) (n : Node) (c : Case) → n.heard ≡ [] → memory_of place n c ≡ fresh_memory
unfolding memory_of
forgetful place n c e = rw e

first_alone : (x y z : Bool) → x ≡ false → (x || (y || z)) ≡ ((y || x) || z)
first_alone x y z e = grind arith

within : (x y z : Bool) → (x ≡ true → z ≡ true) → (y || z) ≡ ((x || y) || z)
within x y z f = grind arith

-- a standing that is neither Active nor Collecting
closed_so : (s : Standing) → (s ≡ Active → ⊥) → (s ≡ Collecting → ⊥) → phase_by false s ≡ Closed
closed_so Active f g = absurd (f refl)
closed_so Collecting f g = absurd (g refl)
closed_so Unknown f g = refl
closed_so Prepared f g = refl
closed_so Committing f g = refl
closed_so Aborting f g = refl
closed_so Heuristic f g = refl

idle_not : (p : Presumption) → phase_standing p Idle ≡ Active → ⊥
idle_not PresumeAbort e = cc
idle_not PresumeCommit e = cc

module _ (place : Place) (n : Node) (k : ℕ) (c : Case) (t : Ticket) (nested : Nested (logs_of n))
    (reopens_so : reopens place.role (left_of n k) ≡ coordinator_reopens (left_of n k))
  where
    abbrev left : List Record
    left = left_of n k

    abbrev new : List Record
    new = reopens place.role left

    none_new : (q : Record → Bool) → ((d : Case) (ts : List Ticket) → q (AbortRecord d ts) ≡ false)
        → ((b : ℕ) → q (Opened b) ≡ false) → has q new ≡ false
    none_new q f g = reopens_none q f g place.role left

    -- The restart.

    abbrev then : Node
    then = restarted place n k

    pub reopened : Crashed c t n (restarted place n k) k (reopens place.role (left_of n k))
    reopened = record {
      kept_so = λ q. ap (has q) (append-nil (left ++ new)) ∙ has-append q left new;
      ever_so = λ q f g. has-append q new (left ++ n.durable)
          ∙ (ap (λ b. has q new || b) (has-append q left n.durable)
          ∙ (first_alone (has q new) (has q left) (has q n.durable) (none_new q f g)
          ∙ ap (λ b. b || has q n.durable) (sym (has-append q left new))));
      none_new = none_new;
      names_new = subst
          (λ (l : List Record). has (is_decision_naming c t) l
          ≡ (has (is_abort c) l && has (is_collecting_naming c t) left)) (sym reopens_so)
          (names_by_aborts c left t (has (is_collecting_naming c t) left) (coordinator_reopens left)
          (aborts_name_collected c left t));
      accepted_so = refl;
      voted_so = refl;
      told_so = refl;
    }

    pub aborts_alone : has (is_abort c) (reopens place.role (left_of n k)) ≡ collects_alone c (left_of n k)
    aborts_alone = ap (has (is_abort c)) reopens_so ∙ aborts_where_alone c left

    pub closed : phase_by false (coordinator_view place (restarted place n k) c).standing ≡ Closed
    closed = closed_so (coordinator_view place then c).standing not_active not_collecting
      where
        stands : (coordinator_view place then c).standing
            ≡ standing_at (left ++ coordinator_reopens left) c Idle
        stands =
            viewed place then c
            ∙ (ap (λ m. coordinator_standing (kept then) c m) (forgetful place then c refl)
            ∙ ap (λ l. coordinator_standing l c fresh_memory)
            (append-nil (left ++ new) ∙ ap (λ l. left ++ l) reopens_so))

        not_active : (coordinator_view place then c).standing ≡ Active → ⊥
        not_active e =
            idle_not c.txn.presumption
            (sym (unrecorded_stands (left ++ coordinator_reopens left) c Idle
            (active_unrecorded (left ++ coordinator_reopens left) c Idle (sym stands ∙ e)))
            ∙ (sym stands ∙ e))

        not_collecting : (coordinator_view place then c).standing ≡ Collecting → ⊥
        not_collecting e = reopened_collects_not c left (sym stands ∙ e)

    -- The restart in which the device failed.

    module _ (a f : ℕ) where
      abbrev broken : Node
      broken = restart_fails place n k a f

      abbrev part : List Record
      part = take a new

      pub failed : Crashed c t n (restart_fails place n k a f) k (take a (reopens place.role (left_of n k)))
      failed = record {
        kept_so = λ q. ap (has q) (breaks_keeps (loses (logs_of n) k) new a f) ∙ has-append q left part;
        ever_so = λ q g h.
            let front = take f (take k n.unforced ++ part) in
            has-append q front n.durable
            ∙ (within (has q n.forced) (has q front) (has q n.durable) (nested.forced_is_old q)
            ∙ ap (λ b. b || has q n.durable) (sym (has-append q n.forced front)));
        none_new = λ q g h. front_none q a new (none_new q g h);
        names_new =
            names_by_aborts c left t (has (is_collecting_naming c t) left) part
            (names-take c left t (has (is_collecting_naming c t) left) a new
            (subst (λ (l : List Record). AllName c left t (has (is_collecting_naming c t) left) l)
            (sym reopens_so)
            (aborts_name_collected c left t)));
        accepted_so = refl;
        voted_so = refl;
        told_so = refl;
      }
