-- The parent's half of a pair after a coordinator's crash, by what is left of the log and what was
-- appended to it.
use Rattle.std.proofs.Common.{◌≡◌, ◌∙◌, ◌||◌, ◌&&◌, ℕ, Bool, false, List, [], ◌++◌, take, drop, append_assoc, refl, sym, ap, subst, arith}
use Rattle.std.specs.List.{list_any}
use Rattle.std.proofs.lemmas.List.{take-append-drop}
use Rattle.protocol.specs.declared.names.Case.{Case}
use Rattle.protocol.specs.declared.names.Ticket.{Ticket}
use Rattle.protocol.specs.declared.records.Record.{Record}
use Rattle.protocol.specs.declared.records.Record.TheVariants.{Opened}
use Rattle.protocol_words.specs.Variants.{AbortRecord}
use Rattle.protocol.specs.declared.standings.Standing.{Standing}
use Rattle.protocol.specs.Records.{has, in_list, is_collecting, is_prepare, is_commit, is_abort, is_end}
use Rattle.protocol.specs.Nodes.{Node, kept}
use Rattle.protocol.specs.Memory.{Memory, fresh_memory, has_acked}
use Rattle.protocol.specs.Outcomes.{has_accepted, is_told_aborted}
use Rattle.protocol.specs.Restarts.{left_of}
use Rattle.proof_pairs.specs.Reading.{Closed}
use Rattle.proof_pairs.specs.readings.ReadingOf.{parent_half_at, phase_by, is_told_committed, acknowledged}
use Rattle.protocol.specs.Audits.{is_collecting_naming, is_prepare_naming, is_decision_naming}
use Rattle.proof_processes.proofs.CaseOrders.{AllFit}
use Rattle.proof_processes.proofs.CaseFronts.{collects_in_front, names_in_front, owes_in_front}
use Rattle.proof_steps.proofs.crashes.Fronts.{parent_front}
use Rattle.proof_steps.proofs.crashes.Losing.{Lost}

-- what is left of the log, and what is not
pub whole : (n : Node) (k : ℕ) → (left_of n k ++ drop k n.unforced) ≡ kept n
whole n k =
    append_assoc n.forced (take k n.unforced) (drop k n.unforced)
    ∙ ap (λ l. n.forced ++ l) (take-append-drop k n.unforced)

or-none : (a b : Bool) → b ≡ false → (a || b) ≡ a
or-none a b e = grind arith

or-turned : (a b : Bool) → (a || b) ≡ (b || a)
or-turned a b = grind arith

owes-both : (x y ab named fc co : Bool) → x ≡ co → y ≡ (ab && named) → named ≡ fc → (x || y)
    ≡ ((ab && fc) || co)
owes-both x y ab named fc co e f g = grind arith

-- what is known of the process after the crash, in which these records were appended
pub record Crashed (c : Case) (t : Ticket) (n n' : Node) (k : ℕ) (new : List Record) : Type 0 where
  pub kept_so : (q : Record → Bool) → has q (kept n') ≡ (has q (left_of n k) || has q new)
  pub ever_so : (q : Record → Bool) → ((d : Case) (ts : List Ticket) → q (AbortRecord d ts) ≡ false)
      → ((b : ℕ) → q (Opened b) ≡ false)
      → has q n'.durable ≡ (has q n'.forced || has q n.durable)
  pub none_new : (q : Record → Bool) → ((d : Case) (ts : List Ticket) → q (AbortRecord d ts) ≡ false)
      → ((b : ℕ) → q (Opened b) ≡ false) → has q new ≡ false
  pub names_new : has (is_decision_naming c t) new
      ≡ (has (is_abort c) new && has (is_collecting_naming c t) (left_of n k))
  pub accepted_so : n'.accepted ≡ n.accepted
  pub voted_so : n'.voted ≡ n.voted
  pub told_so : n'.told ≡ n.told

nobody_listed : (t : Ticket) → in_list [] t ≡ false
unfolding in_list
nobody_listed t = refl

module _ (c : Case) (t : Ticket) (n n' : Node) (k : ℕ) (new : List Record) (s s' : Standing) (m : Memory)
    (fit : AllFit [] (kept n))
    (now : Crashed c t n n' k new) (closed : phase_by n'.failed s' ≡ Closed)
  where
    abbrev left : List Record
    left = left_of n k

    abbrev rest : List Record
    rest = drop k n.unforced

    fits : AllFit [] (left ++ rest)
    fits = subst (AllFit []) (sym (whole n k)) fit

    alone : (q : Record → Bool) → ((d : Case) (ts : List Ticket) → q (AbortRecord d ts) ≡ false)
        → ((b : ℕ) → q (Opened b) ≡ false) → has q (kept n') ≡ has q left
    alone q f g = now.kept_so q ∙ or-none (has q left) (has q new) (now.none_new q f g)

    collected : has (is_collecting_naming c t) left
        ≡ (has (is_collecting c) left && has (is_collecting_naming c t) (kept n))
    collected =
        collects_in_front c left rest fits t
        ∙ ap (λ l. has (is_collecting c) left && has (is_collecting_naming c t) l) (whole n k)

    promised : has (is_prepare_naming c t) left
        ≡ (has (is_prepare c) left && has (is_prepare_naming c t) (kept n))
    promised =
        names_in_front c left rest fits t
        ∙ ap (λ l. has (is_prepare c) left && has (is_prepare_naming c t) l) (whole n k)

    decided : has (is_decision_naming c t) left
        ≡ ((has (is_commit c) left || has (is_abort c) left) && has (is_decision_naming c t) (kept n))
    decided =
        owes_in_front c left rest fits t
        ∙ ap (λ l. (has (is_commit c) left || has (is_abort c) left) && has (is_decision_naming c t) l)
        (whole n k)

    none_acked : has_acked (fresh_memory.acks) (acknowledged c.txn.presumption) t ≡ false
    unfolding has_acked
    none_acked = refl

    same_accepted : has_accepted n' c t ≡ has_accepted n c t
    same_accepted = rw now.accepted_so refl

    pub lost : Lost (parent_front c left) (parent_front c n'.forced) (has (is_abort c) new)
        (parent_half_at s m n c t) (parent_half_at s' fresh_memory n' c t)
    lost = record {
      phase = closed;
      accepted = nobody_listed t;
      acked = none_acked;
      took_part = same_accepted;
      first_yes = rw now.voted_so refl;
      first_no = rw now.voted_so refl;
      first_read = rw now.voted_so refl;
      told_committed = ap (list_any (is_told_committed c.txn)) now.told_so;
      told_aborted = ap (list_any (is_told_aborted c.txn)) now.told_so;
      collecting_kept = alone (is_collecting c) (λ d ts. refl) (λ b. refl);
      own_prepare_kept = alone (is_prepare c) (λ d ts. refl) (λ b. refl);
      commit_kept = alone (is_commit c) (λ d ts. refl) (λ b. refl);
      abort_kept = now.kept_so (is_abort c) ∙ or-turned (has (is_abort c) left) (has (is_abort c) new);
      end_kept = alone (is_end c) (λ d ts. refl) (λ b. refl);
      collects = alone (is_collecting_naming c t) (λ d ts. refl) (λ b. refl) ∙ collected;
      names = alone (is_prepare_naming c t) (λ d ts. refl) (λ b. refl) ∙ promised;
      owed = now.kept_so (is_decision_naming c t)
          ∙ owes-both (has (is_decision_naming c t) left) (has (is_decision_naming c t) new)
          (has (is_abort c) new)
          (has (is_collecting_naming c t) left)
          (has (is_collecting c) left && has (is_collecting_naming c t) (kept n))
          ((has (is_commit c) left || has (is_abort c) left) && has (is_decision_naming c t) (kept n))
          decided now.names_new collected;
      collecting_forced = refl;
      own_prepare_forced = refl;
      own_prepare_ever = now.ever_so (is_prepare c) (λ d ts. refl) (λ b. refl);
      commit_forced = refl;
    }
