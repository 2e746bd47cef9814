-- What the last record of a branch says in a reading: in doubt, decided by an operator, or forgotten.
use Rattle.std.proofs.Common.{◌≡◌, ◌∙◌, ◌||◌, ◌&&◌, ◌⊎◌, inl, inr, Bool, true, false, List, [], ◌∷◌, refl, sym, ap, subst, arith}
use Rattle.protocol.specs.declared.names.Case.{Case}
use Rattle.protocol_words.specs.Variants.{AbortedOutcome, CommittedOutcome}
use Rattle.protocol.specs.declared.records.Record.{Record}
use Rattle.protocol.specs.declared.standings.Standing.TheVariants.{Unknown}
use Rattle.protocol.specs.Records.{has, is_abort, is_prepare, is_prepared, is_heuristic, is_decided, is_forgot, is_committed, is_rolled_back}
use Rattle.protocol.specs.Nodes.{Place, Node, kept}
use Rattle.protocol.specs.Restarts.{is_open}
use Rattle.protocol.specs.Memory.{memory_of}
use Rattle.protocol.specs.Standings.{ManagerView, Mark, Unmarked, Promised, Decided, ToldOf, Finished, marked_branch}
use Rattle.proof_pairs.specs.turns.LeafTurns.{mark_at, Waits, promised, decided, IsDecided, untold, told, IsOpenBranch, IsUnknown}
use Rattle.proof_pairs.specs.turns.Written.{is_coordinators}
use Rattle.proof_pairs.proofs.turns.LeafInputs.{viewed}
use Rattle.protocol.specs.Audits.{is_promise, is_learnt_commit, is_learnt_abort, is_told_of}
use Rattle.proof_processes.specs.Marks.{is_branch_record}
use Rattle.proof_processes.specs.Lasts.{logs_of, Nested, Manages}
use Rattle.proof_processes.proofs.Tests.{left, right, neither, not_both}
use Rattle.proof_processes.proofs.Orders.{mark_behind, mark_is, IsDecidedMark}
use Rattle.proof_processes.proofs.Worlds.{has_other}
use Rattle.proof_processes.proofs.Promises.{open_promised, open_mark}
use Rattle.proof_steps.proofs.children.Tables.{no_commit, no_abort, no_forgot, no_heuristic, no_record, not_forgotten, IsTold, IsLate, IsLast}
use Rattle.proof_steps.proofs.children.PresentRecords.{has_heuristic, has_told, finished}

first_false : (a b : Bool) → (a || b) ≡ false → a ≡ false
first_false a b e = grind arith

second_false : (a b : Bool) → (a || b) ≡ false → b ≡ false
second_false a b e = grind arith

none_by : (q r : Record → Bool) (xs : List Record) → ((x : Record) → q x ≡ true → r x ≡ true)
    → has r xs ≡ false → has q xs ≡ false
none_by q r xs f e = by_test (has q xs) refl
  where
    by_test : (b : Bool) → has q xs ≡ b → has q xs ≡ false
    by_test true g = not_both q (has r xs) (has_other q r xs f g) e
    by_test false g = g

abort_is : (d : Case) (x : Record) → is_abort d x ≡ true → is_coordinators x ≡ true
abort_is d x e = grind arith

promise_is : (d : Case) (x : Record) → is_promise d x ≡ true
    → (is_branch_record d x || is_coordinators x) ≡ true
promise_is d x e = grind arith

prepared_is : (d : Case) (x : Record) → is_prepared d x ≡ true → is_promise d x ≡ true
prepared_is d x e = grind arith

commit_is : (d : Case) (x : Record) → is_committed d x ≡ true → is_learnt_commit d x ≡ true
commit_is d x e = grind arith

rolled_is : (d : Case) (x : Record) → is_rolled_back d x ≡ true → is_learnt_abort d x ≡ true
rolled_is d x e = grind arith

has_none : (d : Case) (xs : List Record) → has (is_branch_record d) xs ≡ false
    → has is_coordinators xs ≡ false
    → has (λ x. is_branch_record d x || is_coordinators x) xs ≡ false
unfolding has
has_none d [] f g = refl
has_none d (x ∷ xs) f g =
    neither _ _
    (neither (is_branch_record d x) (is_coordinators x)
    (first_false (is_branch_record d x) (has (is_branch_record d) xs) f)
    (first_false (is_coordinators x) (has is_coordinators xs) g))
    (has_none d xs (second_false (is_branch_record d x) (has (is_branch_record d) xs) f)
    (second_false (is_coordinators x) (has is_coordinators xs) g))

decided_is : (d : Case) (x : Record) → is_decided d CommittedOutcome x ≡ true → is_heuristic d x ≡ true
decided_is d x e = grind arith

-- where no operator's decision stands, or ever was forced, there is none by commit
pub none_ever : (n : Node) (d : Case) → has (is_heuristic d) (kept n) ≡ false
    → has (is_heuristic d) n.durable ≡ false
    → (has (is_decided d CommittedOutcome) (kept n) || has (is_decided d CommittedOutcome) n.durable) ≡
    false
none_ever n d e f =
    neither _ _ (none_by (is_decided d CommittedOutcome) (is_heuristic d) (kept n) (decided_is d) e)
    (none_by (is_decided d CommittedOutcome) (is_heuristic d) n.durable (decided_is d) f)

module _ (n : Node) (nested : Nested (logs_of n)) (m : Manages (logs_of n)) (d : Case) where
  no_coordinators : has is_coordinators (kept n) ≡ false
  no_coordinators = by_test (has is_coordinators (kept n)) refl
    where
      by_test : (b : Bool) → has is_coordinators (kept n) ≡ b → has is_coordinators (kept n) ≡ false
      by_test true g =
          not_both is_coordinators (has is_coordinators n.life)
          (nested.kept_was_written is_coordinators (λ k. refl) g) m.no_coordinators_record
      by_test false g = g

  abbrev last : Mark
  last = mark_behind d Unmarked (kept n)

  last_is : mark_at n d ≡ last
  last_is = mark_is d (kept n)

  no_abort_record : (has (is_abort d) (kept n) && has (is_prepare d) (kept n)) ≡ false
  no_abort_record = rw (none_by (is_abort d) is_coordinators (kept n) (abort_is d) no_coordinators) refl

  learnt_no_abort : has (is_learnt_abort d) (kept n) ≡ false
      → (has (is_learnt_abort d) (kept n) || (has (is_abort d) (kept n) && has (is_prepare d) (kept n))) ≡
      false
  learnt_no_abort e = neither _ _ e no_abort_record

  -- what waits for an outcome
  pub record Doubt : Type 0 where
    pub no_commit : has (is_learnt_commit d) (kept n) ≡ false
    pub no_abort : (has (is_learnt_abort d) (kept n) ||
        (has (is_abort d) (kept n) && has (is_prepare d) (kept n))) ≡ false
    pub not_forgotten : has (is_forgot d) (kept n) ≡ false

  untold_mark : (k : Mark) → Waits k → IsTold d k → ⊥
  untold_mark _ promised t = t
  untold_mark _ decided t = t

  pub doubt : Waits (mark_at n d) → Doubt
  doubt w =
      let u : IsTold d last → ⊥ = λ t. untold_mark (mark_at n d) w (subst (IsTold d) (sym last_is) t) in
      record {
        no_commit = no_commit d (kept n) (m.in_order d) no_coordinators u;
        no_abort = learnt_no_abort (no_abort d (kept n) (m.in_order d) no_coordinators u);
        not_forgotten = no_forgot d (kept n) (m.in_order d) no_coordinators u;
      }

  pub promised_so : IsOpenBranch (mark_at n d) → has (is_promise d) (kept n) ≡ true
  promised_so k =
      has_other (is_prepared d) (is_promise d) (kept n) (prepared_is d)
      (open_promised d (kept n) (m.in_order d) (ap is_open (sym last_is) ∙ open_mark (mark_at n d) k))

  pub plain_so : mark_at n d ≡ Promised → has (is_heuristic d) (kept n) ≡ false
  plain_so e = no_heuristic d (kept n) (m.in_order d) no_coordinators
      (λ l. subst (IsLate d) (sym last_is ∙ e) l)

  decided_mark : (k : Mark) → IsDecided k → IsDecidedMark k
  decided_mark _ untold = tt
  decided_mark _ (told o) = tt

  pub heuristic_so : IsDecided (mark_at n d) → has (is_heuristic d) (kept n) ≡ true
  heuristic_so k = has_heuristic d (kept n) (m.in_order d)
      (subst IsDecidedMark last_is (decided_mark (mark_at n d) k))

  not_last : (k : Mark) → IsDecided k → IsLast d k → ⊥
  not_last _ untold l = l
  not_last _ (told o) l = l

  pub unforgotten_so : IsDecided (mark_at n d) → has (is_forgot d) (kept n) ≡ false
  unforgotten_so k =
      not_forgotten d (kept n) (m.in_order d) no_coordinators
      (λ l. not_last (mark_at n d) k (subst (IsLast d) (sym last_is) l))

  pub told_commit_so : mark_at n d ≡ ToldOf CommittedOutcome → has (is_learnt_commit d) (kept n) ≡ true
  told_commit_so e =
      has_other (is_told_of d CommittedOutcome) (is_learnt_commit d) (kept n) (λ x f. right _ _ f)
      (has_told d CommittedOutcome (kept n) (m.in_order d) (sym last_is ∙ e))

  pub told_abort_so : mark_at n d ≡ ToldOf AbortedOutcome
      → (has (is_learnt_abort d) (kept n) || (has (is_abort d) (kept n) && has (is_prepare d) (kept n))) ≡
      true
  told_abort_so e =
      left _ _
      (has_other (is_told_of d AbortedOutcome) (is_learnt_abort d) (kept n) (λ x f. right _ _ f)
      (has_told d AbortedOutcome (kept n) (m.in_order d) (sym last_is ∙ e)))

  -- what is not known any more
  abbrev pub Nothing : Type 0
  Nothing = (has (is_promise d) (kept n) ≡ false)
      ⊎ ((has (is_forgot d) (kept n) ≡ true)
      ⊎ ((has (is_heuristic d) (kept n) ≡ false)
      × ((has (is_learnt_commit d) (kept n) ≡ true)
      ⊎ ((has (is_learnt_abort d) (kept n) || (has (is_abort d) (kept n) && has (is_prepare d) (kept n))) ≡
      true))))

  none_promised : last ≡ Unmarked → has (is_promise d) (kept n) ≡ false
  none_promised e = by_test (has (is_promise d) (kept n)) refl
    where
      by_test : (b : Bool) → has (is_promise d) (kept n) ≡ b → has (is_promise d) (kept n) ≡ false
      by_test true g =
          not_both (is_promise d) _
          (has_other (is_promise d) (λ x. is_branch_record d x || is_coordinators x) (kept n) (promise_is d)
          g)
          (has_none d (kept n) (no_record d (kept n) (m.in_order d) no_coordinators e) no_coordinators)
      by_test false g = g

  unknown_at : (k : Mark) → mark_at n d ≡ k → (place : Place)
      → (marked_branch (memory_of place n d) k).standing ≡ Unknown → Nothing
  unknown_at Unmarked e place s = inl (none_promised (sym last_is ∙ e))
  unknown_at Finished e place s = elim (finished d (kept n) (m.in_order d) (sym last_is ∙ e)) [
    | inl forgot ↦ inr (inl forgot)
    | inr both ↦ inr (inr (
      both.0,
      elim both.1 [
        | inl c ↦ inl (has_other (is_committed d) (is_learnt_commit d) (kept n) (commit_is d) c)
        | inr a ↦ inr (left _ _ (has_other (is_rolled_back d) (is_learnt_abort d) (kept n) (rolled_is d) a))
      ],
    ))
  ]
  unknown_at Promised e place s = absurd (cc)
  unknown_at Decided e place s = absurd (cc)
  unknown_at (ToldOf o) e place s = absurd (cc)

  pub nothing_known : (place : Place) → IsUnknown place n d → Nothing
  nothing_known place u =
      unknown_at (mark_at n d) refl place
      (sym (ap (λ (v : ManagerView). v.standing) (viewed place n d)) ∙ u)
