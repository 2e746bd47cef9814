-- Agreement, where the world's invariant holds: no end differs from the outcome.
use Rattle.std.proofs.Common.{◌≡◌, ◌∙◌, ◌⊎◌, inl, inr, ◌||◌, ◌≢◌, Bool, true, false, List, [], ◌∷◌, refl, sym, subst, arith}
use Rattle.protocol.specs.declared.names.Case.{Case}
use Rattle.protocol.specs.declared.names.Outcome.{Outcome}
use Rattle.protocol_words.specs.Variants.{AbortedOutcome, CaseBranch, CommittedOutcome}
use Rattle.protocol.specs.declared.names.ProcessId.{ProcessId}
use Rattle.protocol.specs.declared.names.Ticket.{Ticket}
use Rattle.protocol.specs.declared.names.Txn.{Txn}
use Rattle.protocol.specs.declared.messages.Envelope.{Envelope}
use Rattle.protocol.specs.declared.records.Record.{Record}
use Rattle.protocol.specs.declared.standings.Standing.TheVariants.{Active}
use Rattle.protocol.specs.declared.trees.TreeProcess.{TreeProcess}
use Rattle.protocol.specs.Names.{child_case}
use Rattle.protocol.specs.Records.{has, is_abort, is_commit, is_committed, is_prepare, is_prepared, is_rolled_back}
use Rattle.protocol.specs.Nodes.{Role, AtRoot, Below, AtLeaf, Place, Node, is_listed, kept, place_of, role_of}
use Rattle.protocol.specs.Memory.{Memory, Phase, Idle, Open, Asked, Over, memory_of}
use Rattle.protocol.specs.Standings.{Mark, Unmarked, Promised, Decided, ToldOf, Finished, manager_view, marked_branch, heard_branch, mark_of, standing_in}
use Rattle.protocol.specs.Outcomes.{DiesUnprepared, EndsIn, TakesPart, follows, is_commit_outcome, is_joined_message, is_read_message, outcome_of, sent}
use Rattle.protocol.specs.Trees.{IsTree}
use Rattle.protocol.specs.World.{World}
use Rattle.proof_pairs.specs.Invariant.{Common}
use Rattle.proof_pairs.specs.Reading.{Reading, is_live}
use Rattle.proof_pairs.proofs.Promises.{refused_child}
use Rattle.protocol.specs.Audits.{is_committing, is_learnt_abort, is_promise}
use Rattle.proof_pairs.specs.readings.ReadingOf.{is_dead, phase_by}
use Rattle.proof_pairs.specs.turns.Written.{is_coordinators}
use Rattle.proof_processes.specs.Lasts.{Manages, Nested, RoleLasts, logs_of}
use Rattle.proof_processes.specs.Numbers.{IsIssuer}
use Rattle.proof_processes.specs.WorldHolds.{Issues, RoleHolds, WorldHolds, is_record_of, pair_reading}
use Rattle.proof_processes.proofs.PairOf.{common_of}
use Rattle.proof_processes.proofs.Tests.{both, either, left, right}
use Rattle.proof_processes.proofs.Worlds.{has_other}
use Rattle.proof_headline.proofs.Pairs.{joined_pair, takes}
use Rattle.proof_headline.proofs.Parts.{standing_world, tells}

-- Tests of lists of records.

pub follows_first : (q r : Record → Bool) (xs : List Record) → follows q r xs ≡ true → has q xs ≡ true
unfolding has
follows_first q r [] e = absurd (cc)
follows_first q r (x ∷ xs) e = grind (arith, follows_first q r xs)

pub follows_second : (q r : Record → Bool) (xs : List Record) → follows q r xs ≡ true → has r xs ≡ true
unfolding has
follows_second q r [] e = absurd (cc)
follows_second q r (x ∷ xs) e = grind (arith, follows_second q r xs)

pub has_either : (q r s : Record → Bool) (xs : List Record)
    → ((x : Record) → q x ≡ true → (r x ≡ true) ⊎ (s x ≡ true)) → has q xs ≡ true
    → (has r xs ≡ true) ⊎ (has s xs ≡ true)
unfolding has
has_either q r s [] f e = absurd (cc)
has_either q r s (x ∷ xs) f e = elim (either (q x) (has q xs) e) [
  | inl now ↦ elim (f x now) [ inl a ↦ inl (left _ _ a) | inr b ↦ inr (left _ _ b) ]
  | inr rest ↦ elim (has_either q r s xs f rest) [ inl a ↦ inl (right _ _ a) | inr b ↦ inr (right _ _ b) ]
]

record_of_promise : (d : Case) (r : Record) → is_promise d r ≡ true → is_record_of d r ≡ true
record_of_promise d r e = grind arith

promise_of : (d : Case) (r : Record) → is_prepare d r ≡ true → is_promise d r ≡ true
promise_of d r e = grind arith

promise_prepared : (d : Case) (r : Record) → is_prepared d r ≡ true → is_promise d r ≡ true
promise_prepared d r e = grind arith

commits_so : (d : Case) (r : Record) → is_commit d r ≡ true → is_committing d r ≡ true
commits_so d r e = grind arith

committed_so : (d : Case) (r : Record) → is_committed d r ≡ true → is_committing d r ≡ true
committed_so d r e = grind arith

rolled_back_so : (d : Case) (r : Record) → is_rolled_back d r ≡ true → is_learnt_abort d r ≡ true
rolled_back_so d r e = grind arith

promise_by : (d : Case) (r : Record) → is_promise d r ≡ true → (is_prepared d r ≡ true)
    ⊎ (is_coordinators r ≡ true)
promise_by d r e = grind arith

-- A branch that is active no longer.

not_live : (f : Bool) (m : Memory) (k : Mark) → (marked_branch m k).standing ≢ Active
    → is_live (phase_by f (marked_branch m k).standing) ≡ false
not_live true m k e = refl
not_live false m Promised e = refl
not_live false m Decided e = refl
not_live false m (ToldOf o) e = refl
not_live false m Finished e = refl
not_live false m Unmarked e = by_phase m.phase e
  where
    by_phase : (p : Phase) → (heard_branch m p).standing ≢ Active
        → is_live (phase_by false (heard_branch m p).standing) ≡ false
    by_phase Idle e = refl
    by_phase Open e = absurd (e refl)
    by_phase Asked e = refl
    by_phase Over e = refl

closed_branch : (place : Place) (n : Node) (d : Case) → (manager_view place n d).standing ≢ Active
    → is_live (phase_by n.failed (manager_view place n d).standing) ≡ false
unfolding manager_view
closed_branch place n d e = not_live n.failed (memory_of place n d) (mark_of (CaseBranch d) (kept n)) e

closed_in : (role : Role) (place : Place) (n : Node) (d : Case) (p : ProcessId) → role ≡ AtLeaf p
    → (manager_view place n d).standing ≢ Active
    → is_live (phase_by n.failed (standing_in role place n d)) ≡ false
closed_in (AtLeaf q) place n d p f e = closed_branch place n d e
closed_in AtRoot place n d p f e = absurd (cc)
closed_in (Below q) place n d p f e = absurd (cc)

-- By role.

pub issues_in : (role : Role) (place : Place) (net : List Envelope) (n : Node) → IsIssuer role
    → RoleHolds role place net n → Issues place net n
issues_in AtRoot place net n i h = absurd (i)
issues_in (Below p) place net n i h = h.1.1
issues_in (AtLeaf p) place net n i h = h.1

manages_in : (role : Role) (n : Node) (p : ProcessId) → role ≡ AtLeaf p → RoleLasts role (logs_of n)
    → Manages (logs_of n)
manages_in (AtLeaf q) n p f l = l
manages_in AtRoot n p f l = absurd (cc)
manages_in (Below q) n p f l = absurd (cc)

abbrev pub Tells : World → Txn → Outcome → Type 0
Tells w x o = o ≡ outcome_of w x

pub says_commit : (w : World) (x : Txn) → is_commit_outcome w x ≡ true → Tells w x CommittedOutcome
says_commit w x e = rw e refl

pub says_abort : (w : World) (x : Txn) → is_commit_outcome w x ≡ false → Tells w x AbortedOutcome
says_abort w x e = rw e refl

dead_so : (a b c d : Bool) → a ≡ false → b ≡ false → c ≡ true → d ≡ false → is_dead a b c d ≡ true
unfolding is_dead
dead_so a b c d e f g h = rw (e, f, g, h) refl

no_promise : (n : Node) (d : Case) → Nested (logs_of n) → Manages (logs_of n) → has (is_prepared d) n.life
    ≡ false
    → (has (is_promise d) (kept n) || has (is_promise d) n.durable) ≡ false
no_promise n d h m none = by_test _ refl
  where
    not_written : {A : Type 0} → has (is_promise d) n.life ≡ true → A
    not_written e = elim (has_either (is_promise d) (is_prepared d) is_coordinators n.life (promise_by d) e) [
      | inl a ↦ absurd (let x = sym none ∙ a in cc)
      | inr b ↦ absurd (let x = sym m.no_coordinators_record ∙ b in cc)
    ]

    by_test : (b : Bool) → (has (is_promise d) (kept n) || has (is_promise d) n.durable) ≡ b
        → (has (is_promise d) (kept n) || has (is_promise d) n.durable) ≡ false
    by_test false e = e
    by_test true e = elim (either _ _ e) [
      | inl now ↦ not_written (h.kept_was_written (is_promise d) (λ k. refl) now)
      | inr old ↦ not_written (h.old_was_written (is_promise d) (λ k. refl) old)
    ]

module _ (tree : List TreeProcess) (is_tree : IsTree tree) (w : World) (h : WorldHolds tree w) where
  -- Of a ticket that was given.
  module _ (c : Case) (t : Ticket) (joined : sent (is_joined_message c t) w.net ≡ true) where
    abbrev d : Case
    d = child_case c.txn t

    abbrev n : Node
    n = w.at t.child

    abbrev r : Reading
    r = pair_reading tree w c t

    pub common : Common r
    common = common_of c.txn.presumption r (joined_pair tree w h c t joined).1

    pub listed : is_listed tree t.child ≡ true
    listed = (joined_pair tree w h c t joined).0.listed

    issues : IsIssuer (role_of tree t.child) → Issues (place_of tree t.child) w.net n
    issues i = issues_in (role_of tree t.child) (place_of tree t.child) w.net n i
        (h.nodes t.child listed).role

    commits : has (is_committing d) n.life ≡ true → Tells w c.txn CommittedOutcome
    commits e = says_commit w c.txn (common.child_commit_is_the_outcome e)

    refuses : IsIssuer (role_of tree t.child) → has (is_promise d) n.life ≡ true
        → (has (is_learnt_abort d) n.life || follows (is_abort d) (is_prepare d) n.life) ≡ true
        → Tells w c.txn AbortedOutcome
    refuses i promised e =
        let asked = common.asked_takes_part ((issues i).promised_was_asked d promised) in
        says_abort w c.txn (refused_child r common (left _ _ e) asked.0 asked.1)

    pub part : TakesPart w c.txn t → (r.took_part ≡ true) × (r.took_part_up ≡ true)
    part p =
        let s = standing_world tree w h in
        both _ _ (sym (takes tree is_tree w s c t (joined_pair tree w h c t joined).0 joined)
        ∙ tells tree w s is_tree c.txn t p)

    dies : (p : ProcessId) → role_of tree t.child ≡ AtLeaf p → DiesUnprepared tree w c.txn t
        → Tells w c.txn AbortedOutcome
    dies p leaf e =
        let lasts = (h.nodes t.child listed).lasts in
        let takes_part_in = part e.takes_part in
        let dead = dead_so (has (is_promise d) (kept n) || has (is_promise d) n.durable) _ (sent
        (is_joined_message c t) w.net)
        (sent (is_read_message d) w.net)
        (no_promise n d lasts.nested (manages_in (role_of tree t.child) n p leaf lasts.by_role)
        e.never_promised)
        (closed_in (role_of tree t.child) (place_of tree t.child) n d p leaf e.is_active_no_longer) joined
        e.never_read in
        says_abort w c.txn (refused_child r common (right _ _ dead) takes_part_in.0 takes_part_in.1)

    pub ends : (role : Role) → role_of tree t.child ≡ role → (o : Outcome) → EndsIn role tree w c.txn t o
        → Tells w c.txn o
    ends AtRoot f o e = absurd (e)
    ends (Below p) f CommittedOutcome e =
        commits (has_other (is_commit d) (is_committing d) n.life (commits_so d) (follows_first _ _ n.life e))
    ends (Below p) f AbortedOutcome e = refuses (subst IsIssuer (sym f) tt)
        (has_other (is_prepare d) (is_promise d) n.life (promise_of d) (follows_second _ _ n.life e))
        (right _ _ e)
    ends (AtLeaf p) f CommittedOutcome (inl e) =
        commits (has_other (is_committed d) (is_committing d) n.life (committed_so d)
        (follows_first _ _ n.life e))
    ends (AtLeaf p) f AbortedOutcome (inl e) = refuses (subst IsIssuer (sym f) tt)
        (has_other (is_prepared d) (is_promise d) n.life (promise_prepared d) (follows_second _ _ n.life e))
        (left _ _ (has_other (is_rolled_back d) (is_learnt_abort d) n.life (rolled_back_so d) (follows_first
        _ _ n.life e)))
    ends (AtLeaf p) f o (inr e) = subst (λ (z : Outcome). Tells w c.txn z) (sym e.0) (dies p f e.1)
