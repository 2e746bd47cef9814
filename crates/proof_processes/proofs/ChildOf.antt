-- A coordinator as a child: its half above is read off its half below.
use Rattle.std.proofs.Common.{◌≡◌, ◌∙◌, ◌⊎◌, Bool, true, false, ◌||◌, ◌&&◌, List, [], ◌∷◌, refl, sym, arith}
use Rattle.protocol.specs.declared.names.Case.{Case}
use Rattle.protocol.specs.declared.names.Ticket.{Ticket}
use Rattle.protocol_words.specs.Variants.{CommittedOutcome}
use Rattle.protocol.specs.declared.records.Record.{Record}
use Rattle.protocol.specs.declared.standings.Standing.{Standing}
use Rattle.protocol.specs.Records.{has, is_commit, is_abort, is_prepare, is_heuristic, is_decided, is_forgot}
use Rattle.protocol.specs.Nodes.{Node, kept}
use Rattle.protocol.specs.Memory.{Memory}
use Rattle.proof_pairs.specs.Reading.{is_live}
use Rattle.proof_pairs.specs.readings.ReadingOf.{parent_half_at, child_half_at, ParentHalf, ChildHalf}
use Rattle.protocol.specs.Audits.{is_promise, is_learnt_commit, is_learnt_abort, is_committing}
use Rattle.proof_processes.specs.Lasts.{Coordinates, Nested, logs_of}
use Rattle.proof_processes.specs.Marks.{is_branch_record, is_managers}
use Rattle.proof_processes.proofs.Worlds.{has_other}

-- of the case's records it says also whether a Commit was ever written, and whether an Abort is forced
abbrev pub child_of : ParentHalf → Bool → Bool → ChildHalf
child_of p committed aborts = record {
  failed = p.failed;
  is_open = is_live p.phase;
  obeyed_abort = p.obeyed_abort;
  committed = committed;
  prepared_kept = p.own_prepare_kept;
  prepared_forced = p.own_prepare_forced;
  prepared_ever = p.own_prepare_ever;
  learnt_commit_kept = p.commit_kept;
  learnt_commit_forced = p.commit_forced;
  learnt_abort_kept = p.abort_kept && p.own_prepare_kept;
  learnt_abort_forced = aborts && p.own_prepare_forced;
  heuristic_kept = false;
  heuristic_forced = false;
  heuristic_ever = false;
  heuristic_commits = false;
  forgot_kept = false;
  forgot_forced = false;
  forgot_ever = false;
}

step : (q r b : Bool) (x y z : Bool) → (q ≡ true → (r ≡ true) ⊎ (b ≡ true)) → (r ≡ true → q ≡ true)
    → (b || z) ≡ false → (z ≡ false → x ≡ y) → (q || x) ≡ (r || y)
step q r b x y z f g e h = grind arith

-- with no record that passes the third test, the first finds what the second finds
same_found : (q r b : Record → Bool) (xs : List Record)
    → ((x : Record) → q x ≡ true → (r x ≡ true) ⊎ (b x ≡ true))
    → ((x : Record) → r x ≡ true → q x ≡ true) → has b xs ≡ false → has q xs ≡ has r xs
unfolding has
same_found q r b [] f g e = refl
same_found q r b (x ∷ xs) f g e = step (q x) (r x) (b x) _ _ (has b xs) (f x) (g x) e
    (same_found q r b xs f g)

none_step : (q b x z : Bool) → (q ≡ true → b ≡ true) → (b || z) ≡ false → (z ≡ false → x ≡ false)
    → (q || x) ≡ false
none_step q b x z f e h = grind arith

none_found : (q b : Record → Bool) (xs : List Record) → ((x : Record) → q x ≡ true → b x ≡ true) → has b xs
    ≡ false → has q xs ≡ false
unfolding has
none_found q b [] f e = refl
none_found q b (x ∷ xs) f e = none_step (q x) (b x) _ (has b xs) (f x) e (none_found q b xs f)

promises : (d : Case) (x : Record) → is_promise d x ≡ true
    → (is_prepare d x ≡ true) ⊎ (is_branch_record d x ≡ true)
promises d x e = grind arith

promises_back : (d : Case) (x : Record) → is_prepare d x ≡ true → is_promise d x ≡ true
promises_back d x e = grind arith

commits : (d : Case) (x : Record) → is_learnt_commit d x ≡ true → (is_commit d x
    ≡ true) ⊎ (is_branch_record d x ≡ true)
commits d x e = grind arith

commits_back : (d : Case) (x : Record) → is_commit d x ≡ true → is_learnt_commit d x ≡ true
commits_back d x e = grind arith

ends : (d : Case) (x : Record) → is_committing d x ≡ true
    → (is_commit d x ≡ true) ⊎ (is_branch_record d x ≡ true)
ends d x e = grind arith

ends_back : (d : Case) (x : Record) → is_commit d x ≡ true → is_committing d x ≡ true
ends_back d x e = grind arith

aborts : (d : Case) (x : Record) → is_learnt_abort d x ≡ true → is_branch_record d x ≡ true
aborts d x e = grind arith

decides : (d : Case) (x : Record) → is_heuristic d x ≡ true → is_branch_record d x ≡ true
decides d x e = grind arith

commits_alone : (d : Case) (x : Record) → is_decided d CommittedOutcome x ≡ true → is_branch_record d x ≡ true
commits_alone d x e = grind arith

forgets : (d : Case) (x : Record) → is_forgot d x ≡ true → is_branch_record d x ≡ true
forgets d x e = grind arith

pub record NoBranch (d : Case) (n : Node) : Type 0 where
  pub kept_none : has (is_branch_record d) (kept n) ≡ false
  pub forced_none : has (is_branch_record d) n.forced ≡ false
  pub durable_none : has (is_branch_record d) n.durable ≡ false
  pub life_none : has (is_branch_record d) n.life ≡ false

pub half_as_child : (s : Standing) (m : Memory) (n : Node) (d : Case) (t : Ticket) → NoBranch d n
    → child_half_at s n d ≡ child_of (parent_half_at s m n d t) (has (is_commit d) n.life)
    (has (is_abort d) n.forced)
half_as_child s m n d t b =
    rw (
      same_found (is_promise d) (is_prepare d) (is_branch_record d) (kept n) (promises d) (promises_back d)
          b.kept_none,
      same_found (is_promise d) (is_prepare d) (is_branch_record d) n.forced (promises d) (promises_back d)
          b.forced_none,
      same_found (is_promise d) (is_prepare d) (is_branch_record d) n.durable (promises d) (promises_back d)
          b.durable_none,
      same_found (is_learnt_commit d) (is_commit d) (is_branch_record d) (kept n) (commits d) (commits_back
          d) b.kept_none,
      same_found (is_learnt_commit d) (is_commit d) (is_branch_record d) n.forced (commits d) (commits_back
          d) b.forced_none,
      same_found (is_committing d) (is_commit d) (is_branch_record d) n.life (ends d)
          (ends_back d) b.life_none,
      none_found (is_learnt_abort d) (is_branch_record d) (kept n) (aborts d) b.kept_none,
      none_found (is_learnt_abort d) (is_branch_record d) n.forced (aborts d) b.forced_none,
      none_found (is_learnt_abort d) (is_branch_record d) n.life (aborts d) b.life_none,
      none_found (is_heuristic d) (is_branch_record d) (kept n) (decides d) b.kept_none,
      none_found (is_heuristic d) (is_branch_record d) n.forced (decides d) b.forced_none,
      none_found (is_heuristic d) (is_branch_record d) n.durable (decides d) b.durable_none,
      none_found (is_decided d CommittedOutcome) (is_branch_record d) (kept n) (commits_alone d) b.kept_none,
      none_found (is_decided d CommittedOutcome) (is_branch_record d) n.durable
          (commits_alone d) b.durable_none,
      none_found (is_forgot d) (is_branch_record d) (kept n) (forgets d) b.kept_none,
      none_found (is_forgot d) (is_branch_record d) n.forced (forgets d) b.forced_none,
      none_found (is_forgot d) (is_branch_record d) n.durable (forgets d) b.durable_none,
    ) refl

-- a coordinator writes no record of a branch
pub no_branch : (d : Case) (n : Node) → Nested (logs_of n) → Coordinates (logs_of n) → NoBranch d n
no_branch d n h k = record {
  kept_none = none (has (is_branch_record d) (kept n)) refl
      (h.kept_was_written (is_branch_record d) (λ i. refl));
  forced_none = none (has (is_branch_record d) n.forced) refl
      (λ e. h.old_was_written (is_branch_record d) (λ i. refl) (h.forced_is_old (is_branch_record d) e));
  durable_none = none (has (is_branch_record d) n.durable) refl
      (h.old_was_written (is_branch_record d) (λ i. refl));
  life_none = none (has (is_branch_record d) n.life) refl (λ e. e);
}
  where
    managers : (x : Record) → is_branch_record d x ≡ true → is_managers x ≡ true
    managers x e = grind arith

    none : (b : Bool) {c : Bool} → c ≡ b → (c ≡ true → has (is_branch_record d) n.life ≡ true) → c ≡ false
    none false e f = e
    none true e f = absurd (let x = sym k.no_managers_record
        ∙ has_other (is_branch_record d) is_managers n.life managers (f e) in cc)
