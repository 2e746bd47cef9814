-- A manager's log through each kind of step.
use Rattle.proof_pairs.specs.turns.Written.{is_coordinators}
use Rattle.std.proofs.Common.{◌≡◌, ◌∙◌, ◌||◌, ◌⊎◌, inl, inr, ℕ, Bool, true, false, Some, List, [], ◌∷◌, ◌++◌, take, drop, refl, sym, ap, subst, append_assoc, arith}
use Rattle.std.specs.Prelude.{reverse}
use Rattle.std.proofs.lemmas.List.{append-nil, take-append-drop}
use Rattle.protocol.specs.declared.names.Case.{Case}
use Rattle.protocol.specs.declared.names.Outcome.{Outcome}
use Rattle.protocol_words.specs.Variants.{AbortedOutcome, CaseBranch, CommittedOutcome}
use Rattle.protocol.specs.declared.names.ProcessId.{ProcessId}
use Rattle.protocol.specs.declared.records.BranchName.{BranchName}
use Rattle.protocol.specs.declared.records.Record.{Record}
use Rattle.protocol.specs.declared.records.Record.TheVariants.{Prepared, Committed, RolledBack, HeurCommit, HeurRollback, Told, Forgot}
use Rattle.protocol.specs.NameLaws.{same_case_tells}
use Rattle.protocol.specs.Records.{has, is_branch, is_decided, is_forgot, is_prepared, record_branch}
use Rattle.protocol.specs.Nodes.{AtLeaf, Place, Node, Heard, Effect, Written, entries_written, is_any_forced}
use Rattle.protocol.specs.Standings.{Mark, Unmarked, mark_of}
use Rattle.protocol.specs.Restarts.{data_records, trimmed}
use Rattle.proof_pairs.specs.turns.LeafTurns.{LeafTurn, IsDecided, untold, told, mark_at, does_nothing, gives_again, gives_fresh, votes_yes, votes_read, votes_no, repeats_yes, refuses, obeys, notes, acknowledges_told, acknowledges, drops, asks, decides, forgets}
use Rattle.proof_processes.specs.Marks.{in_order_from, branch_is, may_follow}
use Rattle.proof_processes.specs.Lasts.{Logs, logs_of, standing, Nested, Manages}
use Rattle.proof_processes.proofs.Tests.{in_first, in_second, in_either, in_none, has-nil, front_none, has-reverse}
use Rattle.proof_processes.proofs.Orders.{order_front, order_push}
use Rattle.proof_processes.proofs.Trims.{trim_order, trim_decision, data_is_other}
use Rattle.proof_processes.proofs.Appends.{forces, writes, breaks, loses, falls, rises, replaces, breaks_keeps}

module _ (l : Logs) (h : Manages l) where
  -- a decision stands, or is forgotten, where the front and the life list have grown
  stays_so : (d : Case) (o : Outcome) (front life : List Record)
      → (has (is_decided d o) l.forced ≡ true → has (is_decided d o) front ≡ true)
      → has (is_decided d o) l.durable ≡ true
      → (has (is_decided d o) front ≡ true) ⊎ (has (is_forgot d) (life ++ l.life) ≡ true)
  stays_so d o front life f e = elim (h.decision_stands d o e) [
    | inl stands ↦ inl (f stands)
    | inr forgot ↦ inr (in_second (is_forgot d) life l.life forgot)
  ]

  grows_none : (new : List Record) → has is_coordinators new ≡ false
      → has is_coordinators (reverse new ++ l.life) ≡ false
  grows_none new e = in_none is_coordinators (reverse new) l.life (has-reverse is_coordinators new ∙ e)
      h.no_coordinators_record

  pub manages_forces : (new : List Record) → has is_coordinators new ≡ false
      → ((d : Case) → in_order_from d Unmarked (standing l ++ new) ≡ true) → Manages (forces l new)
  manages_forces new own order = record {
    no_coordinators_record = grows_none new own;
    in_order = λ d. ap (in_order_from d Unmarked) (append-nil (standing l ++ new)) ∙ order d;
    promise_is_forced = λ up d. has-nil (is_prepared d);
    decision_stands = λ d o e. elim (in_either (is_decided d o) new (standing l ++ l.durable) e) [
      | inl now ↦ inl (in_second (is_decided d o) (standing l) new now)
      | inr rest ↦ elim (in_either (is_decided d o) (standing l) l.durable rest) [
        | inl old ↦ inl (in_first (is_decided d o) (standing l) new old)
        | inr ever ↦ stays_so d o (standing l ++ new) (reverse new)
            (λ f. in_first (is_decided d o) (standing l) new
            (in_first (is_decided d o) l.forced l.unforced f)) ever
      ]
    ];
  }

  pub manages_writes : (new : List Record) → has is_coordinators new ≡ false
      → ((d : Case) → in_order_from d Unmarked (standing l ++ new) ≡ true)
      → ((d : Case) → has (is_prepared d) new ≡ false) → Manages (writes l new)
  manages_writes new own order none = record {
    no_coordinators_record = grows_none new own;
    in_order = λ d. ap (in_order_from d Unmarked) (sym (append_assoc l.forced l.unforced new)) ∙ order d;
    promise_is_forced = λ up d. in_none (is_prepared d) l.unforced new (h.promise_is_forced up d) (none d);
    decision_stands = λ d o e. stays_so d o l.forced (reverse new) (λ f. f) e;
  }

  pub manages_breaks : (new : List Record) (a f : ℕ) → has is_coordinators new ≡ false
      → ((d : Case) → in_order_from d Unmarked (standing l ++ new) ≡ true)
      → Manages (breaks l new a f)
  manages_breaks new a f own order = record {
    no_coordinators_record = grows_none (take a new) (front_none is_coordinators a new own);
    in_order = λ d. ap (in_order_from d Unmarked) (breaks_keeps l new a f)
        ∙ order_front d Unmarked (standing l ++ take a new) (drop a new)
        (ap (in_order_from d Unmarked) (append_assoc (standing l) (take a new) (drop a new)
        ∙ ap (λ x. standing l ++ x) (take-append-drop a new)) ∙ order d);
    promise_is_forced = λ up d. absurd (cc);
    decision_stands = λ d o e. elim
        (in_either (is_decided d o) (take f (l.unforced ++ take a new)) l.durable e) [
          | inl front ↦ inl (in_second (is_decided d o) l.forced (take f (l.unforced ++ take a new)) front)
          | inr ever ↦ stays_so d o (l.forced ++ take f (l.unforced ++ take a new)) (reverse (take a new))
              (λ g. in_first (is_decided d o) l.forced (take f (l.unforced ++ take a new)) g) ever
        ];
  }

  pub manages_loses : (k : ℕ) → Manages (loses l k)
  manages_loses k = record {
    no_coordinators_record = h.no_coordinators_record;
    in_order = λ d. order_front d Unmarked (l.forced ++ take k l.unforced) (drop k l.unforced)
        (ap (in_order_from d Unmarked) (append_assoc l.forced (take k l.unforced) (drop k l.unforced)
        ∙ ap (λ x. l.forced ++ x) (take-append-drop k l.unforced)) ∙ h.in_order d);
    promise_is_forced = λ up d. absurd (cc);
    decision_stands = h.decision_stands;
  }

  pub manages_falls : Manages (falls l)
  manages_falls = record {
    no_coordinators_record = h.no_coordinators_record;
    in_order = h.in_order;
    promise_is_forced = λ up d. absurd (cc);
    decision_stands = h.decision_stands;
  }

  pub manages_replaces : (p : ProcessId) → Nested l → Manages (replaces (AtLeaf p) l)
  manages_replaces p nested = record {
    no_coordinators_record = grows_none (data_records (AtLeaf p) (standing l))
        (data_is_other is_coordinators (λ k v. refl) (λ k. refl) (AtLeaf p) (standing l));
    in_order = λ d. ap (in_order_from d Unmarked) (append-nil (trimmed (AtLeaf p) (standing l)))
        ∙ trim_order p d (standing l) (h.in_order d);
    promise_is_forced = λ up d. has-nil (is_prepared d);
    decision_stands = λ d o e. elim
        (in_either (is_decided d o) (trimmed (AtLeaf p) (standing l)) l.durable e) [
          | inl now ↦ inl now
          | inr ever ↦ elim (h.decision_stands d o ever) [
            | inl stands ↦ kept_or d o (in_first (is_decided d o) l.forced l.unforced stands)
                (has (is_forgot d) (standing l)) refl
            | inr forgot ↦ inr (in_second (is_forgot d)
                (reverse (data_records (AtLeaf p) (standing l))) l.life
                forgot)
          ]
        ];
  }
    where
      kept_or : (d : Case) (o : Outcome) → has (is_decided d o) (standing l) ≡ true → (b : Bool)
          → has (is_forgot d) (standing l) ≡ b
          → (has (is_decided d o) (trimmed (AtLeaf p) (standing l)) ≡ true)
          ⊎ (has (is_forgot d) (reverse (data_records (AtLeaf p) (standing l)) ++ l.life) ≡ true)
      kept_or d o e true f =
          inr (in_second (is_forgot d) (reverse (data_records (AtLeaf p) (standing l))) l.life
          (nested.kept_was_written (is_forgot d) (λ k. refl) f))
      kept_or d o e false f = inl (trim_decision p d o (standing l) (h.in_order d) e f)

-- a log that is forced whole
pub manages_rises : (l : Logs) → Manages l → l.unforced ≡ [] → Manages (rises l)
manages_rises l h e = record {
  no_coordinators_record = h.no_coordinators_record;
  in_order = h.in_order;
  promise_is_forced = λ up d. ap (has (is_prepared d)) e ∙ has-nil (is_prepared d);
  decision_stands = h.decision_stands;
}

-- What an input appends.

no_record : (q : Record → Bool) (r : Record) → q r ≡ false → has q (r ∷ []) ≡ false
unfolding has
no_record q r e = rw e refl

no_promise : (c : Case) (r : Record) → is_prepared c r ≡ false → has (is_prepared c) (r ∷ []) ≡ false
unfolding has
no_promise c r e = rw e refl

pub record Fine (l : Logs) (ws : List Written) : Type 0 where
  pub order : (d : Case) → in_order_from d Unmarked (standing l ++ entries_written ws) ≡ true
  pub own : has is_coordinators (entries_written ws) ≡ false
  pub unpromised : is_any_forced ws ≡ false → (d : Case) → has (is_prepared d) (entries_written ws) ≡ false

module _ (place : Place) (p : ProcessId) (n : Node) (h : Heard) where
  abbrev l : Logs
  l = logs_of n

  module _ (m : Manages l) where
    fine_none : Fine l []
    fine_none = record {
      own = has-nil is_coordinators;
      order = λ d. ap (in_order_from d Unmarked) (append-nil (standing l)) ∙ m.in_order d;
      unpromised = λ e d. has-nil (is_prepared d);
    }

    fine_one : (d : Case) (r : Record) (b : Bool) → is_coordinators r ≡ false
        → record_branch r ≡ Some (CaseBranch d) → may_follow (mark_at n d) r ≡ true
        → (b ≡ false → (c : Case) → has (is_prepared c) (r ∷ []) ≡ false)
        → Fine l (record { entry = r; is_forced = b } ∷ [])
    fine_one d r b own of follows none = record {
      own = no_record is_coordinators r own;
      order = λ c. order_push c (standing l) r (m.in_order c) (λ e. same c (ap (branch_is c) (sym of) ∙ e));
      unpromised = λ e c. none (not_forced b e) c;
    }
      where
        not_forced : (b : Bool) → (b || false) ≡ false → b ≡ false
        not_forced true e = absurd (cc)
        not_forced false e = refl

        same : (c : Case) → is_branch c (CaseBranch d) ≡ true
            → may_follow (mark_of (CaseBranch c) (standing l)) r ≡ true
        same c e =
            subst (λ (x : Case). may_follow (mark_of (CaseBranch x) (standing l)) r ≡ true)
            (let t = same_case_tells d c in grind (arith, t, e)) follows

    forget_follows : (k : Mark) (b : BranchName) → IsDecided k → may_follow k (Forgot b) ≡ true
    forget_follows _ b untold = refl
    forget_follows _ b (told o) = refl

    pub leaf_fine : (e : Effect) → LeafTurn place p n h e → Fine l e.written
    leaf_fine _ (votes_yes d k ws i a) =
        fine_one d (Prepared (CaseBranch d) ws) true refl refl (rw a.unmarked refl) (λ e. absurd (cc))
    leaf_fine _ (obeys d CommittedOutcome i e) = fine_one d (Committed (CaseBranch d)) _ refl refl
        (rw e refl) (λ f c. no_promise c (Committed (CaseBranch d)) refl)
    leaf_fine _ (obeys d AbortedOutcome i e) = fine_one d (RolledBack (CaseBranch d)) _ refl refl
        (rw e refl) (λ f c. no_promise c (RolledBack (CaseBranch d)) refl)
    leaf_fine _ (notes d o i e) = fine_one d (Told (CaseBranch d) o) _ refl refl (rw e refl)
        (λ f c. no_promise c (Told (CaseBranch d) o) refl)
    leaf_fine _ (decides d CommittedOutcome i e) =
        fine_one d (HeurCommit (CaseBranch d)) true refl refl (rw e refl) (λ f. absurd (cc))
    leaf_fine _ (decides d AbortedOutcome i e) =
        fine_one d (HeurRollback (CaseBranch d)) true refl refl (rw e refl) (λ f. absurd (cc))
    leaf_fine _ (forgets d i e) =
        fine_one d (Forgot (CaseBranch d)) true refl refl (forget_follows (mark_at n d) (CaseBranch d) e)
        (λ f. absurd (cc))
    leaf_fine _ does_nothing = fine_none
    leaf_fine _ (gives_again d t i a) = fine_none
    leaf_fine _ (gives_fresh d i a s) = fine_none
    leaf_fine _ (votes_read d k i a) = fine_none
    leaf_fine _ (votes_no d k i a) = fine_none
    leaf_fine _ (repeats_yes d k i a) = fine_none
    leaf_fine _ (refuses d k i a) = fine_none
    leaf_fine _ (acknowledges_told d u i k) = fine_none
    leaf_fine _ (acknowledges d u i k) = fine_none
    leaf_fine _ (drops d i a) = fine_none
    leaf_fine _ (asks d i k) = fine_none
