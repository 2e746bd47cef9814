-- What lasts at a process lasts through each of its steps.
use Rattle.protocol.specs.declared.names.ProcessId.{ProcessId}
use Rattle.protocol.specs.declared.messages.Envelope.{Envelope}
use Rattle.protocol.specs.declared.events.Input.{Input}
use Rattle.std.proofs.Common.{◌≡◌, ◌∙◌, ℕ, zero, suc, true, false, List, [], ◌∷◌, ◌++◌, take, refl, ap, arith, Option, Some, None}
use Rattle.std.specs.Prelude.{reverse}
use Rattle.protocol.specs.declared.names.Case.{Case}
use Rattle.protocol.specs.declared.names.Outcome.{Outcome}
use Rattle.protocol_words.specs.Variants.{AbortedOutcome, CommittedOutcome}
use Rattle.protocol.specs.declared.records.Record.{Record}
use Rattle.protocol.specs.declared.records.Record.TheVariants.{Opened}
use Rattle.protocol.specs.Records.{has, is_decided}
use Rattle.protocol.specs.Nodes.{Role, AtRoot, Below, AtLeaf, Place, Node, Heard, Effect, opened_node, Written, entries_written, is_any_forced, after, fails_in}
use Rattle.protocol.specs.Standings.{Unmarked}
use Rattle.protocol.specs.Restarts.{reopens, trim_fails}
use Rattle.protocol.specs.World.{Move}
use Rattle.proof_pairs.specs.turns.Written.{is_coordinators, AtMostOne, wrote_none, wrote_one, MayWrite, writes_nothing, for_act, for_report, for_child, for_parent, presumes, gives}
use Rattle.proof_pairs.specs.turns.Steps.{StepOf, heard_in, handled, failed_in, passed, failed_passing, reopened, failed_reopening, trims_log, failed_trimming, TurnAt, TurnOf}
use Rattle.proof_pairs.proofs.turns.Steps.{turn_of}
use Rattle.proof_pairs.proofs.turns.Operators.{reopens_none}
use Rattle.proof_processes.specs.Marks.{in_order_from, is_branch_record, is_managers}
use Rattle.proof_processes.specs.Lasts.{Logs, logs_of, standing, Nested, Manages, Coordinates, RoleLasts, Lasts}
use Rattle.proof_processes.proofs.Tests.{not_both, neither, in_none, front_none, has-reverse, has-nil}
use Rattle.proof_processes.proofs.Orders.{order_then_others}
use Rattle.proof_processes.proofs.Appends.{forces, writes, breaks, loses, falls, rises, replaces, either_logs, nested_forces, nested_writes, nested_breaks, nested_loses, nested_falls, nested_rises, nested_replaces}
use Rattle.proof_processes.proofs.Managers.{Fine, leaf_fine, manages_forces, manages_writes, manages_breaks, manages_loses, manages_falls, manages_rises, manages_replaces}

-- What an input appends: at a manager in order, at a coordinator no manager's record.

abbrev FineAt : Role → Logs → List Written → Type 0
FineAt (AtLeaf p) l ws = Fine l ws
FineAt _ l ws = has is_managers (entries_written ws) ≡ false

coordinators_own : (r : Record) → is_coordinators r ≡ true → is_managers r ≡ false
coordinators_own r e = grind arith

one_fine : (c : Case) (ws : List Written) → AtMostOne c ws → has is_managers (entries_written ws) ≡ false
unfolding has
one_fine c _ wrote_none = refl
one_fine c _ (wrote_one r b of kind) = neither _ _ (coordinators_own r kind) refl

writes_fine : (place : Place) (parent : Option ProcessId) (n : Node) (i : Input) (ws : List Written)
    (ls : List Envelope)
    → MayWrite place parent n i ws ls → has is_managers (entries_written ws) ≡ false
writes_fine place parent n i ws ls (writes_nothing e f) = ap (λ x. has is_managers (entries_written x)) e ∙
    has-nil is_managers
writes_fine place parent n i ws ls (for_act a c e f one sent) = one_fine c ws one
writes_fine place parent n i ws ls (for_report c e f g one h) = one_fine c ws one
writes_fine place parent n i ws ls (for_child c x t e one sent) = one_fine c ws one
writes_fine place parent n i ws ls (for_parent c k m e f one sent) = one_fine c ws one
writes_fine place parent n i ws ls (presumes x t o e f) = ap (λ y. has is_managers (entries_written y)) e ∙
    has-nil is_managers
writes_fine place parent n i ws ls (gives p d t e f k j a) = ap (λ x. has is_managers (entries_written x)) e ∙
    has-nil is_managers

fine_at : (role : Role) (place : Place) (n : Node) (h : Heard) (e : Effect) → RoleLasts role (logs_of n)
    → TurnAt role place n h e
    → FineAt role (logs_of n) e.written
fine_at (AtLeaf p) place n h e l t = leaf_fine place p n h l e t
fine_at AtRoot place n h e l t = writes_fine place None n h.input e.written e.messages t
fine_at (Below p) place n h e l t = writes_fine place (Some p) n h.input e.written e.messages t

-- The kinds of step.

grows_none : (l : Logs) (new : List Record) → Coordinates l → has is_managers new ≡ false
    → has is_managers (reverse new ++ l.life) ≡ false
grows_none l new h e = in_none is_managers (reverse new) l.life (has-reverse is_managers new ∙ e)
    h.no_managers_record

role_forces : (role : Role) (l : Logs) (ws : List Written) → FineAt role l ws → RoleLasts role l
    → RoleLasts role (forces l (entries_written ws))
role_forces (AtLeaf p) l ws f h = manages_forces l h (entries_written ws) f.own f.order
role_forces AtRoot l ws f h = record { no_managers_record = grows_none l (entries_written ws) h f }
role_forces (Below p) l ws f h = record { no_managers_record = grows_none l (entries_written ws) h f }

role_writes : (role : Role) (l : Logs) (ws : List Written) → is_any_forced ws ≡ false → FineAt role l ws
    → RoleLasts role l
    → RoleLasts role (writes l (entries_written ws))
role_writes (AtLeaf p) l ws e f h = manages_writes l h (entries_written ws) f.own f.order (f.unpromised e)
role_writes AtRoot l ws e f h = record { no_managers_record = grows_none l (entries_written ws) h f }
role_writes (Below p) l ws e f h = record { no_managers_record = grows_none l (entries_written ws) h f }

role_breaks : (role : Role) (l : Logs) (ws : List Written) (a f : ℕ) → FineAt role l ws → RoleLasts role l
    → RoleLasts role (breaks l (entries_written ws) a f)
role_breaks (AtLeaf p) l ws a f g h = manages_breaks l h (entries_written ws) a f g.own g.order
role_breaks AtRoot l ws a f g h =
    record {
      no_managers_record = grows_none l (take a (entries_written ws)) h
          (front_none is_managers a (entries_written ws) g);
    }
role_breaks (Below p) l ws a f g h =
    record {
      no_managers_record = grows_none l (take a (entries_written ws)) h
          (front_none is_managers a (entries_written ws) g);
    }

role_loses : (role : Role) (l : Logs) (k : ℕ) → RoleLasts role l → RoleLasts role (loses l k)
role_loses (AtLeaf p) l k h = manages_loses l h k
role_loses AtRoot l k h = record { no_managers_record = h.no_managers_record }
role_loses (Below p) l k h = record { no_managers_record = h.no_managers_record }

role_falls : (role : Role) (l : Logs) → RoleLasts role l → RoleLasts role (falls l)
role_falls (AtLeaf p) l h = manages_falls l h
role_falls AtRoot l h = record { no_managers_record = h.no_managers_record }
role_falls (Below p) l h = record { no_managers_record = h.no_managers_record }

role_rises : (role : Role) (l : Logs) → l.unforced ≡ [] → RoleLasts role l → RoleLasts role (rises l)
role_rises (AtLeaf p) l e h = manages_rises l h e
role_rises AtRoot l e h = record { no_managers_record = h.no_managers_record }
role_rises (Below p) l e h = record { no_managers_record = h.no_managers_record }

role_replaces : (role : Role) (l : Logs) → Nested l → RoleLasts role l → RoleLasts role (replaces role l)
role_replaces (AtLeaf p) l n h = manages_replaces l h p n
role_replaces AtRoot l n h =
    record { no_managers_record = grows_none l [] h (has-nil is_managers) }
role_replaces (Below p) l n h =
    record { no_managers_record = grows_none l [] h (has-nil is_managers) }

-- What a restart appends: Opened, and a coordinator's Aborts.

reopens_leaf : (p : ProcessId) (rs : List Record) → has is_coordinators (reopens (AtLeaf p) rs) ≡ false
unfolding has
reopens_leaf p rs = refl

role_reopens_forces : (role : Role) (l : Logs) (rs : List Record) → RoleLasts role l
    → RoleLasts role (forces l (reopens role rs))
role_reopens_forces (AtLeaf p) l rs h = manages_forces l h (reopens (AtLeaf p) rs) (reopens_leaf p rs)
    (λ d. order_then_others d Unmarked (standing l) (reopens (AtLeaf p) rs) (h.in_order d)
    (reopens_none (is_branch_record d) (λ c ts. refl) (λ k. refl) (AtLeaf p) rs))
role_reopens_forces AtRoot l rs h = record {
  no_managers_record = grows_none l (reopens AtRoot rs) h
      (reopens_none is_managers (λ c ts. refl) (λ k. refl) AtRoot rs);
}
role_reopens_forces (Below p) l rs h = record {
  no_managers_record = grows_none l (reopens (Below p) rs) h
      (reopens_none is_managers (λ c ts. refl) (λ k. refl) (Below p) rs);
}

role_reopens_breaks : (role : Role) (l : Logs) (rs : List Record) (a f : ℕ) → RoleLasts role l
    → RoleLasts role (breaks l (reopens role rs) a f)
role_reopens_breaks (AtLeaf p) l rs a f h = manages_breaks l h (reopens (AtLeaf p) rs) a f
    (reopens_leaf p rs)
    (λ d. order_then_others d Unmarked (standing l) (reopens (AtLeaf p) rs) (h.in_order d)
    (reopens_none (is_branch_record d) (λ c ts. refl) (λ k. refl) (AtLeaf p) rs))
role_reopens_breaks AtRoot l rs a f h = record {
  no_managers_record = grows_none l (take a (reopens AtRoot rs)) h
      (front_none is_managers a (reopens AtRoot rs)
      (reopens_none is_managers (λ c ts. refl) (λ k. refl) AtRoot rs));
}
role_reopens_breaks (Below p) l rs a f h = record {
  no_managers_record = grows_none l (take a (reopens (Below p) rs)) h
      (front_none is_managers a (reopens (Below p) rs)
      (reopens_none is_managers (λ c ts. refl) (λ k. refl) (Below p) rs));
}

-- Steps.

module _ (place : Place) (n : Node) (h : Lasts place.role (logs_of n)) where
  abbrev role : Role
  role = place.role

  fine : (i : Heard) (e : Effect) → TurnOf place n i e → FineAt role (logs_of n) e.written
  fine i e t = fine_at role place n i e h.by_role t.turn

  abbrev Stays : Logs → Type 0
  Stays l = Lasts role l

  appended : (i : Heard) (e : Effect) → TurnOf place n i e → Stays (logs_of (after n i e))
  appended i e t =
      let new = entries_written e.written in
      either_logs n new (is_any_forced e.written) Stays
      (λ b. record {
        nested = nested_forces (logs_of n) new h.nested;
        by_role = role_forces role (logs_of n)
            e.written (fine i e t) h.by_role;
      })
      (λ b. record {
        nested = nested_writes (logs_of n) new h.nested;
        by_role = role_writes role (logs_of n)
            e.written b (fine i e t) h.by_role;
      })

  broken : (i : Heard) (e : Effect) (a f : ℕ) → TurnOf place n i e → Stays (logs_of (fails_in n i e a f))
  broken i e a f t =
      record {
        nested = nested_breaks (logs_of n) (entries_written e.written) a f h.nested;
        by_role = role_breaks role (logs_of n) e.written a f (fine i e t) h.by_role;
      }

  trim_failed : (a : ℕ) → Stays (logs_of (trim_fails place n a))
  trim_failed zero = record
      { nested = nested_falls (logs_of n) h.nested; by_role = role_falls role (logs_of n) h.by_role }
  trim_failed (suc k) =
      record {
        nested = nested_falls (replaces role (logs_of n)) (nested_replaces role (logs_of n) h.nested);
        by_role = role_falls role (replaces role (logs_of n))
            (role_replaces role (logs_of n) h.nested h.by_role);
      }

  pub lasts : (m : Move) (e : Effect) (k : Node) → StepOf place n m e k → Stays (logs_of k)
  lasts m _ _ (handled i g hp np r) = appended (heard_in m i) g (turn_of place n (heard_in m i) g r)
  lasts m _ _ (failed_in i f g fl hp np r) = broken (heard_in m i) g f.appended f.forced
      (turn_of place n (heard_in m i) g r)
  lasts m _ _ (passed i hp r) = h
  lasts m _ _ (failed_passing i f fl hp r) =
      record { nested = nested_falls (logs_of n) h.nested; by_role = role_falls role (logs_of n) h.by_role }
  lasts m _ _ (reopened k hp) =
      let l = loses (logs_of n) k in
      let new = reopens role (standing l) in
      record {
        nested = nested_rises (forces l new) (nested_forces l new (nested_loses (logs_of n) k h.nested));
        by_role = role_rises role (forces l new) refl
            (role_reopens_forces role l (standing l) (role_loses role (logs_of n) k h.by_role));
      }
  lasts m _ _ (failed_reopening k f fl hp) =
      let l = loses (logs_of n) k in
      let new = reopens role (standing l) in
      record {
        nested = nested_breaks l new f.appended f.forced (nested_loses (logs_of n) k h.nested);
        by_role = role_reopens_breaks role l (standing l) f.appended f.forced
            (role_loses role (logs_of n) k h.by_role);
      }
  lasts m _ _ (trims_log hp up) =
      record {
        nested = nested_replaces role (logs_of n) h.nested;
        by_role = role_replaces role (logs_of n)
            h.nested h.by_role;
      }
  lasts m _ _ (failed_trimming f fl hp up) = trim_failed f.appended

-- A process that opened an empty log.

no_decision : (d : Case) (o : Outcome) → has (is_decided d o) (Opened 1 ∷ []) ≡ false
unfolding has
no_decision d CommittedOutcome = refl
no_decision d AbortedOutcome = refl

opened_manager : Manages (logs_of opened_node)
unfolding has in_order_from
opened_manager = record {
  no_coordinators_record = refl;
  in_order = λ d. refl;
  promise_is_forced = λ up d. refl;
  decision_stands = λ d o e. not_both (is_decided d o) (has (is_decided d o) (Opened 1 ∷ [])) e
      (no_decision d o);
}

opened_by : (role : Role) → RoleLasts role (logs_of opened_node)
unfolding has
opened_by (AtLeaf p) = opened_manager
opened_by AtRoot = record { no_managers_record = refl }
opened_by (Below p) = record { no_managers_record = refl }

pub opened_lasts : (role : Role) → Lasts role (logs_of opened_node)
opened_lasts role = record {
  nested = record
      { kept_was_written = λ q none e. e; old_was_written = λ q none e. e; forced_is_old = λ q e. e };
  by_role = opened_by role;
}
