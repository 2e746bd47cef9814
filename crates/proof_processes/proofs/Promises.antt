-- Who says YES: a manager after its forced promise, or a coordinator for its own case.
use Rattle.std.proofs.Common.{◌≡◌, ◌∙◌, ◌||◌, inl, inr, ℕ, Bool, true, false, Option, Some, None, List, [], ◌∷◌, ◌++◌, refl, sym, ap, subst, if◌then◌else◌}
use Rattle.std.specs.Prelude.{not}
use Rattle.std.specs.List.{flat_map}
use Rattle.std.proofs.lemmas.List.Folds.{list_any-append}
use Rattle.protocol.specs.declared.names.Case.{Case}
use Rattle.protocol.specs.declared.names.ProcessId.{ProcessId}
use Rattle.protocol.specs.declared.names.Ticket.{Ticket}
use Rattle.protocol.specs.declared.names.Outcome.{Outcome}
use Rattle.protocol_words.specs.Variants.{AbortedOutcome, CaseBranch, CommittedOutcome, PreparedRecord}
use Rattle.protocol.specs.declared.messages.Message.{Message}
use Rattle.protocol.specs.declared.messages.Message.TheVariants.{Prepare, Commit, Abort, Ack, Inquire}
use Rattle.protocol.specs.declared.messages.Envelope.{Envelope}
use Rattle.protocol.specs.declared.records.Record.{Record}
use Rattle.protocol.specs.declared.records.Write.{Write}
use Rattle.protocol.specs.declared.standings.Standing.{Standing}
use Rattle.protocol.specs.declared.standings.Standing.TheVariants.{Unknown, Active, Collecting, Prepared, Committing, Aborting, Heuristic}
use Rattle.protocol.specs.declared.events.Input.{Input}
use Rattle.protocol.specs.Names.{child_case, same_case}
use Rattle.protocol.specs.NameLaws.{same_case_tells, same_case-refl}
use Rattle.protocol.specs.Records.{has, is_prepared, cases_in}
use Rattle.protocol.specs.Nodes.{Role, AtRoot, Below, AtLeaf, Place, Node, Heard, Effect, kept, Written, after}
use Rattle.protocol.specs.Standings.{CoordinatorView, ManagerView, Mark, Unmarked, mark_after}
use Rattle.protocol.specs.CoordinatorRows.{Seat, tells_outcome, post, each, posted_up}
use Rattle.protocol.specs.ManagerRows.{Leaf, is_acknowledged}
use Rattle.protocol.specs.Reactions.{leaf_of, seat_of}
use Rattle.protocol.specs.Outcomes.{sent, is_yes_message}
use Rattle.protocol.specs.Restarts.{is_open, resumes, resumes_by, coordinator_resumes, manager_resumes, inquires_by, untold_inquiry, recorded_view, recorded_branch}
use Rattle.protocol.specs.World.{InputStands}
use Rattle.proof_pairs.specs.turns.LeafTurns.{LeafTurn, Hears, mark_at, IsOpenBranch, waits, by_operator, IsDecided, untold, told, does_nothing, gives_again, gives_fresh, votes_yes, votes_read, votes_no, repeats_yes, refuses, obeys, notes, acknowledges_told, acknowledges, drops, asks, decides, forgets}
use Rattle.proof_pairs.specs.turns.Written.{MayWrite, AllSent, writes_nothing, for_act, for_report, for_child, for_parent, presumes, gives}
use Rattle.proof_processes.specs.Marks.{is_branch_record, may_follow, in_order_from}
use Rattle.proof_processes.specs.Lasts.{logs_of, Manages}
use Rattle.proof_processes.specs.Owns.{is_own_case, is_foreign, AllGoToOwners}
use Rattle.proof_processes.proofs.Tests.{left, right, both, in_either, in_second, not_both, has-cons}
use Rattle.proof_processes.proofs.Orders.{mark_behind, mark_is, other_leaves}
use Rattle.proof_processes.proofs.Cases.{known_is_own, child_of_own}
use Rattle.proof_processes.proofs.Owning.{delivered, of_parent}
use Rattle.proof_processes.proofs.Addresses.{SaysYes, any_yes, not_so}
use Rattle.protocol.specs.declared.messages.Finding.{Finding}

-- An open branch has promised.

first_is_promise : (d : Case) (r : Record) → is_branch_record d r ≡ true → may_follow Unmarked r ≡ true
    → is_prepared d r ≡ true
first_is_promise d (PreparedRecord b ws) e f = e
first_is_promise d r e f = absurd (cc)

follows_so : (a b : Bool) → (not a || b) ≡ true → a ≡ true → b ≡ true
follows_so true b e f = e
follows_so false b e f = absurd (cc)

-- the first record of the branch is its promise
open_by : (d : Case) (r : Record) (rs : List Record) (b : Bool) → is_branch_record d r ≡ b
    → (not (is_branch_record d r) || may_follow Unmarked r) ≡ true
    → in_order_from d (mark_after (CaseBranch d) Unmarked r) rs ≡ true
    → is_open (mark_behind d (mark_after (CaseBranch d) Unmarked r) rs) ≡ true
    → (in_order_from d Unmarked rs ≡ true → is_open (mark_behind d Unmarked rs) ≡ true → has (is_prepared d)
    rs ≡ true)
    → has (is_prepared d) (r ∷ rs) ≡ true
open_by d r rs true e f g h k =
    has-cons (is_prepared d) r rs ∙ left _ _
    (first_is_promise d r e (follows_so (is_branch_record d r) _ f e))
open_by d r rs false e f g h k =
    let same : mark_after (CaseBranch d) Unmarked r ≡ Unmarked = other_leaves d Unmarked r e in
    has-cons (is_prepared d) r rs
    ∙ right _ _
    (k (ap (λ m. in_order_from d m rs) (sym same) ∙ g)
    (ap (λ m. is_open (mark_behind d m rs)) (sym same) ∙ h))

pub open_promised : (d : Case) (rs : List Record) → in_order_from d Unmarked rs ≡ true
    → is_open (mark_behind d Unmarked rs) ≡ true → has (is_prepared d) rs ≡ true
unfolding in_order_from
open_promised d [] e f = absurd (cc)
open_promised d (r ∷ rs) e f =
    let b = both _ _ e in open_by d r rs (is_branch_record d r) refl b.0 b.1 f (open_promised d rs)

decided_is_open : (k : Mark) → IsDecided k → is_open k ≡ true
decided_is_open _ untold = refl
decided_is_open _ (told o) = refl

pub open_mark : (k : Mark) → IsOpenBranch k → is_open k ≡ true
open_mark _ waits = refl
open_mark _ (by_operator k d) = decided_is_open k d

-- while the process is up, its promise is in the forced front
pub promise_forced : (n : Node) → Manages (logs_of n) → n.failed ≡ false → (d : Case)
    → IsOpenBranch (mark_at n d)
    → has (is_prepared d) n.forced ≡ true
promise_forced n m up d k =
    elim (in_either (is_prepared d) n.forced n.unforced
    (open_promised d (kept n) (m.in_order d)
    (ap is_open (sym (mark_is d (kept n))) ∙ open_mark (mark_at n d) k))) [
      | inl forced ↦ forced
      | inr loose ↦ not_both (is_prepared d) (has (is_prepared d) n.unforced) loose
          (m.promise_is_forced up d)
    ]

-- A manager.

pub record PromisedYes (me : ProcessId) (n : Node) (c : Case) : Type 0 where
  pub own : is_own_case me c ≡ true
  pub promised : has (is_prepared c) n.forced ≡ true

same_yes : (d c : Case) → (same_case d c || false) ≡ true → d ≡ c
same_yes d c e = elim (same_case_tells d c) [ inl t ↦ t.1 | inr g ↦ absurd (let k = g.0 in cc) ]

acknowledges_no_yes : (l : Leaf) (o : Outcome) (fs : List Finding) (c : Case) (b : Bool)
    → sent (is_yes_message c) (if b then post l.me l.parent (Ack l.own o fs) ∷ [] else []) ≡ false
unfolding sent
acknowledges_no_yes l o fs c true = refl
acknowledges_no_yes l o fs c false = refl

promise_new : (n : Node) (d : Case) (ws : List Write)
    → has (is_prepared d) (kept n ++ PreparedRecord (CaseBranch d) ws ∷ []) ≡ true
unfolding has
promise_new n d ws = in_second (is_prepared d) (kept n) (PreparedRecord (CaseBranch d) ws ∷ [])
    (rw (same_case-refl d) refl)

module _ (place : Place) (p : ProcessId) (n : Node) (h : Heard) (net : List Envelope)
    (goes : AllGoToOwners net)
    (stands : InputStands net place.me h.input) (m : Manages (logs_of n)) (up : n.failed ≡ false) (c : Case)
  where
    own_prepared : (d : Case) (k : ℕ) → Hears h (Prepare d k) → is_own_case place.me d ≡ true
    own_prepared d k i = delivered net place.me h.input i.0 (Prepare d k) goes stands i.1

    abbrev Yesses : Effect → Type 0
    Yesses e = sent (is_yes_message c) e.messages ≡ true → PromisedYes place.me (after n h e) c

    pub leaf_yes : (e : Effect) → LeafTurn place p n h e → Yesses e
    unfolding sent
    leaf_yes _ (votes_yes d k ws i a) e =
        let same = same_yes d c e in
        record {
          own = subst (λ (x : Case). is_own_case place.me x ≡ true) same (own_prepared d k i);
          promised = subst (λ (x : Case). has (is_prepared x)
              (kept n ++ PreparedRecord (CaseBranch d) ws ∷ []) ≡ true) same (promise_new n d ws);
        }
    leaf_yes _ (repeats_yes d k i a) e =
        let same = same_yes d c e in
        record {
          own = subst (λ (x : Case). is_own_case place.me x ≡ true) same (own_prepared d k i);
          promised = subst (λ (x : Case). has (is_prepared x) n.forced ≡ true) same
              (promise_forced n m up d a);
        }
    leaf_yes _ (obeys d o i k) e = not_so _
        (acknowledges_no_yes (leaf_of place p d) o _ c (is_acknowledged d.txn.presumption o)) e
    leaf_yes _ (notes d o i k) e = not_so _
        (acknowledges_no_yes (leaf_of place p d) o _ c (is_acknowledged d.txn.presumption o)) e
    leaf_yes _ (acknowledges_told d o i k) e = not_so _
        (acknowledges_no_yes (leaf_of place p d) o _ c (is_acknowledged d.txn.presumption o)) e
    leaf_yes _ (acknowledges d o i k) e = not_so _
        (acknowledges_no_yes (leaf_of place p d) o _ c (is_acknowledged d.txn.presumption o)) e
    leaf_yes _ (drops d i a) e =
        not_so _ (acknowledges_no_yes (leaf_of place p d) AbortedOutcome _ c
        (is_acknowledged d.txn.presumption AbortedOutcome)) e
    leaf_yes _ does_nothing e = absurd (cc)
    leaf_yes _ (gives_again d t i a) e = absurd (cc)
    leaf_yes _ (gives_fresh d i a s) e = absurd (cc)
    leaf_yes _ (votes_read d k i a) e = absurd (cc)
    leaf_yes _ (votes_no d k i a) e = absurd (cc)
    leaf_yes _ (refuses d k i a) e = absurd (cc)
    leaf_yes _ (asks d i k) e = absurd (cc)
    leaf_yes _ (decides d o i k) e = absurd (cc)
    leaf_yes _ (forgets d i k) e = absurd (cc)

-- A coordinator.

none_said : {A : Type 0} (c : Case) (ls : List Envelope) → ls ≡ [] → sent (is_yes_message c) ls ≡ true → A
unfolding sent
none_said c ls f e = let g = ap (sent (is_yes_message c)) f in absurd (cc)

tells_no_yes : (c d : Case) (o : Outcome) → is_yes_message c (tells_outcome o d) ≡ false
tells_no_yes c d CommittedOutcome = refl
tells_no_yes c d AbortedOutcome = refl

one_said : {A : Type 0} (c : Case) (ls : List Envelope) (l : Envelope) → ls ≡ l ∷ []
    → is_yes_message c l.message ≡ false
    → sent (is_yes_message c) ls ≡ true → A
unfolding sent
one_said c ls l f g e =
    not_so (is_yes_message c l.message || false) (or_false (is_yes_message c l.message) g)
    (sym (ap (sent (is_yes_message c)) f) ∙ e)
  where
    or_false : (b : Bool) → b ≡ false → (b || false) ≡ false
    or_false b e = rw e refl

no_parent : {A : Type 0} (s : Seat) (c : Case) → s.parent ≡ None → SaysYes s c → A
no_parent s c e y = let f = y.has_parent in absurd (cc)

pub root_yes : {A : Type 0} (place : Place) (n : Node) (i : Input) (ws : List Written) (ls : List Envelope)
    → MayWrite place None n i ws ls
    → (c : Case) → sent (is_yes_message c) ls ≡ true → A
root_yes place n i ws ls (writes_nothing e f) c g = none_said c ls f g
root_yes place n i ws ls (for_act a d e f one all) c g = no_parent (seat_of place None d) c refl
    (any_yes (seat_of place None d) c ls all g)
root_yes place n i ws ls (for_report d e f k one h) c g = none_said c ls h g
root_yes place n i ws ls (for_child d x t e one all) c g = no_parent (seat_of place None d) c refl
    (any_yes (seat_of place None d) c ls all g)
root_yes place n i ws ls (for_parent d k m e f one all) c g =
    no_parent (seat_of place None d) c refl (any_yes (seat_of place None d) c ls all g)
root_yes place n i ws ls (presumes x t o e f) c g = one_said c ls _ f (tells_no_yes c (child_case x t) o) g
root_yes place n i ws ls (gives p d t e f k j a) c g = one_said c ls _ f refl g

module _ (place : Place) (p : ProcessId) (role : place.role ≡ Below p) (n : Node)
    (none : has (is_foreign place.me) (kept n) ≡ false) (net : List Envelope) (goes : AllGoToOwners net)
  where
    own_yes : (d c : Case) (ls : List Envelope) → is_own_case place.me d ≡ true
        → AllSent (seat_of place (Some p) d) ls
        → sent (is_yes_message c) ls ≡ true → is_own_case place.me c ≡ true
    own_yes d c ls own all g =
        subst (λ (x : Case). is_own_case place.me x ≡ true)
        (any_yes (seat_of place (Some p) d) c ls all g).same own

    pub cascaded_yes : (i : Input) (ws : List Written) (ls : List Envelope) → InputStands net place.me i
        → MayWrite place (Some p) n i ws ls
        → (c : Case) → sent (is_yes_message c) ls ≡ true → is_own_case place.me c ≡ true
    cascaded_yes i ws ls s (writes_nothing e f) c g = none_said c ls f g
    cascaded_yes i ws ls s (for_act a d e known one all) c g = own_yes d c ls
        (known_is_own place p role n none d known) all g
    cascaded_yes i ws ls s (for_report d e f k one h) c g = none_said c ls h g
    cascaded_yes i ws ls s (for_child d x t e one all) c g = own_yes d c ls
        (child_of_own place p role n none x t d e) all g
    cascaded_yes i ws ls s (for_parent d k m e f one all) c g =
        own_yes d c ls (of_parent place.me d m f (delivered net place.me i k m goes s e)) all g
    cascaded_yes i ws ls s (presumes x t o e f) c g = one_said c ls _ f (tells_no_yes c (child_case x t) o) g
    cascaded_yes i ws ls s (gives q d t e f k j a) c g = one_said c ls _ f refl g

-- A restart says nothing but COMMIT, ABORT and INQUIRE.

module _ (q : Message → Bool) (commits : (d : Case) → q (Commit d) ≡ false)
    (aborts : (d : Case) → q (Abort d) ≡ false) (inquires : (d : Case) → q (Inquire d) ≡ false) where
  abbrev Quiet : List Envelope → Type 0
  Quiet ls = sent q ls ≡ false

  quiet_both : (xs ys : List Envelope) → Quiet xs → Quiet ys → Quiet (xs ++ ys)
  unfolding sent
  quiet_both xs ys e f = list_any-append (λ (l : Envelope). q l.message) xs ys ∙ rw (e, f) refl

  quiet_commits : (s : Seat) (ts : List Ticket) → Quiet (each s Commit ts)
  unfolding sent
  quiet_commits s [] = refl
  quiet_commits s (t ∷ ts) = rw (commits (child_case s.own.txn t)) (quiet_commits s ts)

  quiet_aborts : (s : Seat) (ts : List Ticket) → Quiet (each s Abort ts)
  unfolding sent
  quiet_aborts s [] = refl
  quiet_aborts s (t ∷ ts) = rw (aborts (child_case s.own.txn t)) (quiet_aborts s ts)

  quiet_up : (s : Seat) (o : Option ProcessId) → Quiet (posted_up s.me o (Inquire s.own))
  unfolding sent
  quiet_up s None = refl
  quiet_up s (Some p) = rw (inquires s.own) refl

  quiet_resumed : (s : Seat) (v : CoordinatorView) (st : Standing) → Quiet (resumes_by s v st)
  unfolding sent
  quiet_resumed s v Committing = quiet_commits s v.owed
  quiet_resumed s v Aborting = quiet_aborts s v.owed
  quiet_resumed s v Prepared = quiet_up s s.parent
  quiet_resumed s v Unknown = refl
  quiet_resumed s v Active = refl
  quiet_resumed s v Collecting = refl
  quiet_resumed s v Heuristic = refl

  quiet_untold : (me p : ProcessId) (d : Case) (o : Option Outcome) → Quiet (untold_inquiry me p d o)
  unfolding sent
  quiet_untold me p d None = rw (inquires d) refl
  quiet_untold me p d (Some o) = refl

  quiet_inquired : (me p : ProcessId) (d : Case) (v : ManagerView) (st : Standing)
      → Quiet (inquires_by me p d v st)
  unfolding sent
  quiet_inquired me p d v Prepared = rw (inquires d) refl
  quiet_inquired me p d v Heuristic = quiet_untold me p d v.told
  quiet_inquired me p d v Unknown = refl
  quiet_inquired me p d v Active = refl
  quiet_inquired me p d v Collecting = refl
  quiet_inquired me p d v Committing = refl
  quiet_inquired me p d v Aborting = refl

  quiet_flat : (f : Case → List Envelope) → ((d : Case) → Quiet (f d)) → (cs : List Case)
      → Quiet (flat_map f cs)
  unfolding sent
  quiet_flat f g [] = refl
  quiet_flat f g (d ∷ cs) = quiet_both (f d) (flat_map f cs) (g d) (quiet_flat f g cs)

  pub quiet_resumes : (role : Role) (me : ProcessId) (rs : List Record) → Quiet (resumes role me rs)
  quiet_resumes AtRoot me rs = quiet_flat (coordinator_resumes me None rs)
      (λ d. let v = recorded_view rs d in quiet_resumed (record { me = me; parent = None; own = d }) v
      v.standing) (cases_in rs)
  quiet_resumes (Below p) me rs = quiet_flat (coordinator_resumes me (Some p) rs)
      (λ d. let v = recorded_view rs d in quiet_resumed (record { me = me; parent = Some p; own = d }) v
      v.standing) (cases_in rs)
  quiet_resumes (AtLeaf p) me rs = quiet_flat (manager_resumes me p rs)
      (λ d. let v = recorded_branch rs d in quiet_inquired me p d v v.standing) (cases_in rs)
