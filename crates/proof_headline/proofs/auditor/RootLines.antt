-- The root's lines: what it decided, by itself.
use Rattle.std.proofs.Common.{◌≡◌, ◌∙◌, ◌⊎◌, inl, inr, ◌||◌, Bool, true, false, Option, List, refl, ap, arith, if◌then◌else◌}
use Rattle.protocol.specs.declared.names.Case.{Case}
use Rattle.protocol.specs.declared.names.Outcome.{Outcome}
use Rattle.protocol.specs.declared.names.Outcome.TheVariants.{Committed, Aborted}
use Rattle.protocol.specs.declared.names.Txn.{Txn}
use Rattle.protocol.specs.declared.records.Record.{Record}
use Rattle.protocol.specs.declared.trees.TreeProcess.{TreeProcess}
use Rattle.protocol.specs.Names.{root_case}
use Rattle.protocol.specs.Records.{has, is_abort, is_collecting, is_commit, is_end}
use Rattle.protocol.specs.Nodes.{Role, AtRoot, Node, kept, role_of}
use Rattle.protocol.specs.Outcomes.{is_commit_outcome, outcome_of}
use Rattle.protocol.specs.World.{IsRun, Made, World}
use Rattle.protocol.specs.Audits.{is_learnt_commit, is_promise}
use Rattle.proof_processes.specs.Lasts.{Coordinates, Nested, RoleLasts, logs_of}
use Rattle.proof_processes.specs.Marks.{is_branch_record}
use Rattle.proof_processes.proofs.ChildOf.{no_branch}
use Rattle.proof_processes.proofs.RootsHold.{all_never}
use Rattle.proof_processes.proofs.Ended.{by_abort}
use Rattle.proof_processes.proofs.Tests.{both, either, in_either, in_first, not_both}
use Rattle.proof_processes.proofs.Worlds.{all_last, has_other}
use Rattle.proof_headline.proofs.Ends.{has_either}
use Rattle.protocol.specs.Audits.{decided_or, decision_by, has_line_in, is_abort_learnt, own_decision}
use Rattle.proof_headline.proofs.auditor.Sinces.{own_same}
use Rattle.proof_headline.proofs.auditor.RootCommits.{commits_forced}

-- What a coordinator's own records say.

commits_or : (d : Case) (r : Record) → is_learnt_commit d r ≡ true
    → (is_commit d r ≡ true) ⊎ (is_branch_record d r ≡ true)
commits_or d r e = grind arith

aborts_or : (d : Case) (r : Record) → is_abort_learnt d r ≡ true
    → (is_abort d r ≡ true) ⊎ (is_branch_record d r ≡ true)
aborts_or d r e = grind arith

-- a coordinator that learnt a commit has a Commit
pub learnt_commit : (d : Case) (rs : List Record) → has (is_branch_record d) rs ≡ false
    → has (is_learnt_commit d) rs ≡ true → has (is_commit d) rs ≡ true
learnt_commit d rs none e = elim (has_either (is_learnt_commit d) (is_commit d) (is_branch_record d) rs
    (commits_or d) e) [
      | inl f ↦ f
      | inr f ↦ not_both (is_branch_record d) (has (is_branch_record d) rs) f none
    ]

-- one that learnt an abort has an Abort
pub learnt_abort : (d : Case) (rs : List Record) → has (is_branch_record d) rs ≡ false
    → has (is_abort_learnt d) rs ≡ true → has (is_abort d) rs ≡ true
learnt_abort d rs none e = elim (has_either (is_abort_learnt d) (is_abort d) (is_branch_record d) rs
    (aborts_or d) e) [
      | inl f ↦ f
      | inr f ↦ not_both (is_branch_record d) (has (is_branch_record d) rs) f none
    ]

commit_learns : (d : Case) (r : Record) → is_commit d r ≡ true → is_learnt_commit d r ≡ true
commit_learns d r e = grind arith

abort_learns : (d : Case) (r : Record) → is_abort d r ≡ true → is_abort_learnt d r ≡ true
abort_learns d r e = grind arith

-- a Commit is learnt, and so is an Abort
pub has_learnt_commit : (d : Case) (rs : List Record) → has (is_commit d) rs ≡ true
    → has (is_learnt_commit d) rs ≡ true
has_learnt_commit d rs e = has_other (is_commit d) (is_learnt_commit d) rs (commit_learns d) e

pub has_learnt_abort : (d : Case) (rs : List Record) → has (is_abort d) rs ≡ true
    → has (is_abort_learnt d) rs ≡ true
has_learnt_abort d rs e = has_other (is_abort d) (is_abort_learnt d) rs (abort_learns d) e

-- What a decision of the root is.

coordinates_in : (role : Role) (n : Node) → role ≡ AtRoot → RoleLasts role (logs_of n)
    → Coordinates (logs_of n)
coordinates_in AtRoot n e l = l
coordinates_in role n e l = absurd (cc)

-- with an outcome that is read from this test, the root's answer is the outcome
pub tells_by : (b : Bool) → Outcome
tells_by b = if b then Committed else Aborted

module _ (tree : List TreeProcess) (es : List Made) (w : World) (run : IsRun tree es w) (x : Txn)
    (role : role_of tree x.root ≡ AtRoot) (up : (w.at x.root).failed ≡ false)
  where
    abbrev n : Node
    n = w.at x.root

    abbrev c : Case
    c = root_case x

    nested : Nested (logs_of n)
    nested = (all_last tree es w run x.root).nested

    pub none_of_branch : has (is_branch_record (root_case x)) (kept (w.at x.root)) ≡ false
    none_of_branch =
        (no_branch c n nested (coordinates_in (role_of tree x.root) n role
        (all_last tree es w run x.root).by_role)).kept_none

    -- a Commit that it keeps is the outcome
    pub kept_commit : has (is_commit (root_case x)) (kept (w.at x.root)) ≡ true → is_commit_outcome w x
        ≡ true
    unfolding is_commit_outcome
    kept_commit e = nested.forced_is_old (is_commit c) (elim (in_either
        (is_commit c) n.forced n.unforced e) [
          | inl f ↦ f
          | inr f ↦ not_both (is_commit c) (has (is_commit c) n.unforced) f
              (commits_forced tree es w run x.root role up c)
        ])

    -- with an Abort it never commits
    pub kept_abort : has (is_abort (root_case x)) (kept (w.at x.root)) ≡ true → is_commit_outcome w x
        ≡ false
    unfolding is_commit_outcome
    kept_abort e = ((all_never tree es w run x.root role).dead c
        (by_abort (nested.kept_was_written (is_abort c) (λ k. refl) e))).none_ever

    -- nor has it committed while it collects, with no Commit
    pub kept_collecting : has (is_collecting (root_case x)) (kept (w.at x.root)) ≡ true
        → has (is_commit (root_case x)) (kept (w.at x.root)) ≡ false → is_commit_outcome w x ≡ false
    unfolding is_commit_outcome
    kept_collecting e none = by_test (has (is_commit c) n.durable) refl
      where
        by_test : (b : Bool) → has (is_commit c) n.durable ≡ b → has (is_commit c) n.durable ≡ false
        by_test false f = f
        by_test true f = elim ((all_never tree es w run x.root role).stand c f) [
          | inl g ↦ not_both (is_commit c) (has (is_commit c) (kept n)) (in_first
              (is_commit c) n.forced n.unforced g) none
          | inr g ↦ not_both (is_collecting c) (has (is_collecting c) (kept n)) e g
        ]

    -- So its line is true.

    abbrev Says : Outcome → Type 0
    Says o = o ≡ outcome_of w x

    says_commit : is_commit_outcome w x ≡ true → Says Committed
    says_commit e = rw e refl

    says_abort : is_commit_outcome w x ≡ false → Says Aborted
    says_abort e = rw e refl

    by_records : (a b p : Bool) → (a ≡ true → is_commit_outcome w x ≡ true)
        → (a ≡ false → is_commit_outcome w x ≡ false) → Says (decided_or (decision_by a b p) Aborted)
    by_records true b p f g = says_commit (f refl)
    by_records false true p f g = says_abort (g refl)
    by_records false false true f g = says_abort (g refl)
    by_records false false false f g = says_abort (g refl)

    no_commit : (b : Bool) → has (is_learnt_commit (root_case x)) (kept (w.at x.root)) ≡ b → b ≡ false
        → has (is_commit (root_case x)) (kept (w.at x.root)) ≡ false
    no_commit b e f = by_test (has (is_commit c) (kept n)) refl
      where
        by_test : (a : Bool) → has (is_commit c) (kept n) ≡ a → has (is_commit c) (kept n) ≡ false
        by_test false g = g
        by_test true g = not_both (is_commit c) (has (is_learnt_commit c) (kept n)) (has_learnt_commit c
            (kept n) g) (e ∙ f)

    undecided : has_line_in AtRoot (root_case x) (kept (w.at x.root)) ≡ true
        → has (is_commit (root_case x)) (kept (w.at x.root)) ≡ false → is_commit_outcome w x ≡ false
    undecided line none = elim (either _ _ line) [
      | inl decided ↦ elim (either _ _ decided) [
        | inl commit ↦ not_both (is_commit c) (has (is_commit c) (kept n)) commit none
        | inr abort ↦ kept_abort abort
      ]
      | inr collects ↦ kept_collecting (both _ _ collects).0 none
    ]

    pub root_says : has_line_in AtRoot (root_case x) (kept (w.at x.root)) ≡ true
        → Says (decided_or (own_decision (root_case x) (kept (w.at x.root))) Aborted)
    root_says line =
        ap (λ (o : Option Outcome). decided_or o Aborted)
        (own_same (role_of tree x.root) n c (all_last tree es w run x.root))
        ∙ by_records (has (is_learnt_commit c) (kept n)) (has (is_abort_learnt c) (kept n))
        (has (is_promise c) (kept n) || has (is_end c) (kept n))
        (λ e. kept_commit (learnt_commit c (kept n) none_of_branch e))
        (λ e. undecided line (no_commit (has (is_learnt_commit c) (kept n)) refl e))
