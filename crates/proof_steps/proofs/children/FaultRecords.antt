-- An input of a manager in which its device fails, as one of its pairs sees it; and what a record after it
-- is to the pair.
use Rattle.std.proofs.Common.{◌≡◌, ◌∙◌, ℕ, zero, suc, Bool, true, false, List, [], ◌∷◌, ◌++◌, take, refl, sym, ap, subst}
use Rattle.std.specs.Prelude.{not}
use Rattle.protocol.specs.declared.names.Case.{Case}
use Rattle.protocol.specs.declared.names.ProcessId.{ProcessId}
use Rattle.protocol.specs.declared.names.Ticket.{Ticket}
use Rattle.protocol.specs.declared.names.Outcome.{Outcome}
use Rattle.protocol_words.specs.Variants.{AbortedOutcome, CaseBranch, CommittedOutcome, MessageInput, PreparedRecord}
use Rattle.protocol.specs.declared.names.Presumption.{Presumption}
use Rattle.protocol.specs.declared.messages.Message.TheVariants.{Prepare, Commit, Abort}
use Rattle.protocol.specs.declared.messages.Envelope.{Envelope}
use Rattle.protocol.specs.declared.records.Record.{Record}
use Rattle.protocol.specs.declared.records.Record.TheVariants.{Committed, RolledBack}
use Rattle.protocol.specs.declared.records.Write.{Write}
use Rattle.protocol.specs.declared.trees.TreeProcess.{TreeProcess}
use Rattle.protocol.specs.Names.{child_case}
use Rattle.protocol.specs.NameLaws.{same_case-refl}
use Rattle.protocol.specs.Records.{has, is_heuristic, is_decided, is_forgot}
use Rattle.protocol.specs.Nodes.{Place, AtLeaf, Node, Heard, Effect, entries_written, fails_in}
use Rattle.protocol.specs.Standings.{manager_view}
use Rattle.protocol.specs.Outcomes.{is_outcome_message}
use Rattle.protocol.specs.World.{InputStands}
use Rattle.proof_pairs.specs.Reading.{Reading}
use Rattle.proof_pairs.specs.ChildCrash
use Rattle.proof_pairs.specs.Standing.{IsInDoubt}
use Rattle.proof_pairs.specs.Invariant.{Common}
use Rattle.proof_pairs.specs.readings.ReadingOf.{reading_from, ParentHalf, ChildHalf, Wire, child_half, wire, is_prepare_message}
use Rattle.protocol.specs.Audits.{is_promise, is_learnt_commit, is_learnt_abort, is_committing}
use Rattle.proof_pairs.specs.readings.Halves.{failed_half}
use Rattle.proof_pairs.proofs.readings.LeafCrash.{half_fails}
use Rattle.proof_pairs.specs.turns.LeafTurns.{Hears, mark_at, IsActive, IsOpenBranch, Waits}
use Rattle.proof_pairs.specs.turns.Written.{is_coordinators}
use Rattle.proof_processes.specs.Lasts.{logs_of, Nested, Manages, Lasts}
use Rattle.proof_processes.specs.Marks.{is_branch_record}
use Rattle.proof_processes.specs.WorldHolds.{InvariantOf}
use Rattle.proof_processes.proofs.Tests.{in_first}
use Rattle.proof_processes.proofs.Orders.{IsMarked}
use Rattle.proof_steps.proofs.children.LeafWrites.{wrote, IsBranchs, unrelated}
use Rattle.proof_steps.proofs.children.LeafFaults
use Rattle.proof_steps.proofs.children.LeafFaults.{front_of, half_fails_behind, fails_none}
use Rattle.proof_steps.proofs.children.Faults
use Rattle.proof_steps.proofs.children.Faults.{Unforced}
use Rattle.proof_steps.proofs.children.FailMoves
use Rattle.proof_steps.proofs.children.Moves
use Rattle.proof_steps.proofs.children.Moves.{Fits}
use Rattle.proof_steps.proofs.children.Opens.{closed_where_marked, open_where_active}
use Rattle.proof_steps.proofs.children.Doubts.{doubt, promised_so}
use Rattle.proof_processes.proofs.Deliveries.{was_sent}

-- The pair's case and ticket, with the parent's half; the manager below its parent, what it was and heard,
-- and the net;
-- and what is known of them.
pub record Broken : Type 0 where
  pub c : Case
  pub t : Ticket
  pub p : ProcessId
  pub tree : List TreeProcess
  pub n : Node
  pub h : Heard
  pub net : List Envelope
  pub up : n.failed ≡ false
  pub nested : Nested (logs_of n)
  pub m : Manages (logs_of n)
  pub stands : InputStands net t.child h.input
  pub pr : Presumption
  pub root : Bool
  pub outcome : Bool
  pub above : Bool
  pub half : ParentHalf
  pub inv : InvariantOf pr (reading_from root true outcome above half
      (child_half (record { me = t.child; role = AtLeaf p; tree = tree }) n (child_case c.txn t))
      (wire c t net))

module _ (turn : Broken) where
  open turn use {c, t, p, tree, n, h, net, up, nested, m, stands, pr, root, outcome, above, half, inv}

  abbrev pub branch : Case
  branch = child_case c.txn t

  abbrev pub place_in : Place
  place_in = record { me = t.child; role = AtLeaf p; tree = tree }

  abbrev pub half_in : ChildHalf
  half_in = child_half place_in n branch

  abbrev pub wire_in : Wire
  wire_in = wire c t net

  abbrev pub R : ChildHalf → Reading
  R x = reading_from root true outcome above half x wire_in

  abbrev pub r0 : Reading
  r0 = R half_in

  -- the process after the fault
  abbrev pub Failed : Effect → ℕ → ℕ → Node
  Failed e a f = fails_in n h e a f

  abbrev pub Left : Effect → ℕ → ℕ → Type 0
  Left e a f = Lasts (AtLeaf p) (logs_of (Failed e a f))

  abbrev pub Ok : Effect → ℕ → ℕ → Type 0
  Ok e a f = Fits pr r0 (R (child_half place_in (Failed e a f) branch))

  abbrev pub One : Effect → Record → Bool → Type 0
  One e r b = e.written ≡ record { entry = r; is_forced = b } ∷ []

  -- the record that ends the branch
  abbrev pub ended : Outcome → Record
  ended CommittedOutcome = Committed (CaseBranch branch)
  ended AbortedOutcome = RolledBack (CaseBranch branch)

  pub common : Common r0
  common = Moves.common_of pr r0 inv

  holds : (e : Effect) (a f : ℕ) (q : Record → Bool) → has q n.forced ≡ true
      → has q (Failed e a f).forced ≡ true
  holds e a f q x = in_first q n.forced (take f (n.unforced ++ take a (entries_written e.written))) x

  old_promise : has (is_promise branch) n.forced ≡ true → has (is_promise branch) n.durable ≡ true
  old_promise x = (common.child_forced_promise x).1

  old_decision : has (is_heuristic branch) n.forced ≡ true → has (is_heuristic branch) n.durable ≡ true
  old_decision x = (common.forced_heuristic x).1

  old_forgot : has (is_forgot branch) n.forced ≡ true → has (is_forgot branch) n.durable ≡ true
  old_forgot x = (common.forced_forgot x).1

  -- nothing was appended
  fails_first : (e : Effect) (f : ℕ) → Left e zero f → Ok e zero f
  fails_first e f last =
      Faults.fails_quietly c t p tree n wire_in pr root outcome above half inv (Failed e zero f) last
      (holds e zero f) up
      (half_fails (manager_view place_in n branch).standing
      (manager_view place_in (Failed e zero f) branch).standing n h e
      f branch old_promise old_decision old_forgot)

  pub silent : (e : Effect) → e.written ≡ [] → (a f : ℕ) → Left e a f → Ok e a f
  silent e none a f last =
      let same = fails_none n h e a f none in
      subst (λ (z : Node). Fits pr r0 (R (child_half place_in z branch))) (sym same)
      (fails_first e f (subst (λ (z : Node). Lasts (AtLeaf p) (logs_of z)) same last))

  -- the record was
  module _ (e : Effect) (r : Record) (b : Bool) (one : One e r b) (none : IsBranchs branch r) where
    half_so : (a f : ℕ) (o : Bool) → child_half place_in (Failed e (suc a) f) branch
        ≡ failed_half (front_of branch o (Failed e (suc a) f).forced) (wrote r branch half_in)
    half_so a f o =
        half_fails_behind (manager_view place_in n branch).standing
        (manager_view place_in (Failed e (suc a) f) branch).standing n h e a f branch o r b one
        none old_promise
        old_decision old_forgot

    pub fails_other : is_branch_record branch r ≡ false → is_coordinators r ≡ false → (a f : ℕ) → Left e a f
        → Ok e a f
    fails_other other plain zero f last = fails_first e f last
    fails_other other plain (suc a) f last =
        Faults.fails_quietly c t p tree n wire_in pr root outcome above half inv (Failed e (suc a) f) last
        (holds e (suc a) f) up
        (half_so a f half_in.heuristic_commits
        ∙ ap (λ (z : ChildHalf). failed_half (front_of branch half_in.heuristic_commits
        (Failed e (suc a) f).forced) z)
        (unrelated branch r half_in other plain))

    -- it is the branch's, and failing after it is this move
    pub fails_own : (s : Reading)
        → ((rs : List Record) → R (failed_half (front_of branch s.heuristic_commits rs)
        (wrote r branch half_in))
        ≡ ChildCrash.hardens_failed_child (front_of branch s.heuristic_commits rs) s)
        → Unforced s r0 → Fits pr r0 s → (a f : ℕ) → Left e a f → Ok e a f
    fails_own s same u g zero f last = fails_first e f last
    fails_own s same u g (suc a) f last =
        Faults.fails_as c t p tree n wire_in pr root outcome above half inv (Failed e (suc a) f) last
        (holds e (suc a) f) s
        (ap (λ (z : ChildHalf). R z) (half_so a f s.heuristic_commits) ∙ same (Failed e (suc a) f).forced)
        u g

  -- What the branch of this ticket writes.

  pub in_doubt : Waits (mark_at n branch) → IsOpenBranch (mark_at n branch) → IsInDoubt r0
  in_doubt u o =
      let x = doubt n nested m branch u in
      record {
        prepared = promised_so n nested m branch o;
        no_commit = x.no_commit;
        no_abort = x.no_abort;
        not_forgotten = x.not_forgotten;
      }

  prepared_sent : (j x : ℕ) → h.input ≡ MessageInput j (Prepare branch x) → wire_in.prepare ≡ true
  prepared_sent j x i = was_sent (is_prepare_message branch) net t.child h.input j (Prepare branch x) stands i
      (same_case-refl branch)

  pub commit_sent : (j : ℕ) → h.input ≡ MessageInput j (Commit branch) → wire_in.commit ≡ true
  commit_sent j i = was_sent (is_outcome_message CommittedOutcome branch) net t.child h.input
      j (Commit branch)
      stands i (same_case-refl branch)

  pub abort_sent : (j : ℕ) → h.input ≡ MessageInput j (Abort branch) → wire_in.abort ≡ true
  abort_sent j i = was_sent (is_outcome_message AbortedOutcome branch) net t.child h.input j
      (Abort branch) stands i
      (same_case-refl branch)

  pub promises_own : (e : Effect) (b : Bool) (ws : List Write)
      → One e (PreparedRecord (CaseBranch branch) ws) b
      → (x : ℕ) → Hears h (Prepare branch x) → IsActive place_in n branch → (a f : ℕ) → Left e a f → Ok e a f
  promises_own e b ws one x i act =
      let r = PreparedRecord (CaseBranch branch) ws in
      let asked = prepared_sent i.0 x i.1 in
      let opened = open_where_active place_in n branch up act.unmarked act.is_open in
      let own = same_case-refl branch in
      fails_own e r b one (record { no_abort = refl; no_prepare = refl }) (ChildCrash.fails_to_promise r0)
      (λ rs. LeafFaults.reading-fails_to_promise root outcome above half half_in wire_in
      (front_of branch r0.heuristic_commits rs) branch r opened (rw own refl) refl refl refl refl refl refl)
      (record {
        failed = refl;
        prepared = refl;
        learnt_commit = refl;
        learnt_abort = refl;
        heuristic = refl;
        forgot = refl;
      })
      (FailMoves.fails_to_promise pr r0 inv
      (record { asked = asked; is_open = rw (Moves.asked_is_issued r0 common asked, opened) refl }))

  -- a record that tells of the outcome
  module _ (e : Effect) (r : Record) (b : Bool) (one : One e r b) (none : IsBranchs branch r)
      (w : Waits (mark_at n branch)) (op : IsOpenBranch (mark_at n branch)) (mk : IsMarked (mark_at n branch))
      (plain : is_promise branch r ≡ false) (undecided : is_heuristic branch r ≡ false)
      (decides_none : is_decided branch CommittedOutcome r ≡ false)
      (forgets_none : is_forgot branch r ≡ false) where
    closed : half_in.is_open ≡ false
    closed = closed_where_marked place_in n branch mk

    kept_so : half_in.prepared_kept ≡ true
    kept_so = promised_so n nested m branch op

    pub commits_own : is_learnt_commit branch r ≡ true → is_learnt_abort branch r ≡ false
        → is_committing branch r ≡ not half_in.heuristic_kept → wire_in.commit ≡ true
        → (a f : ℕ) → Left e a f → Ok e a f
    commits_own commit abort ends sent_so =
        fails_own e r b one none (ChildCrash.fails_to_commit r0)
        (λ rs. LeafFaults.reading-fails_to_commit root outcome above half half_in wire_in
        (front_of branch r0.heuristic_commits rs) branch r closed kept_so plain commit abort
        undecided decides_none
        forgets_none ends)
        (record {
          failed = refl;
          prepared = refl;
          learnt_commit = refl;
          learnt_abort = refl;
          heuristic = refl;
          forgot = refl;
        })
        (FailMoves.fails_to_commit pr r0 inv (record { up = up; told = sent_so; in_doubt = in_doubt w op }))

    pub aborts_own : is_learnt_commit branch r ≡ false → is_learnt_abort branch r ≡ true
        → is_committing branch r ≡ false → wire_in.abort ≡ true
        → (a f : ℕ) → Left e a f → Ok e a f
    aborts_own commit abort ends sent_so =
        fails_own e r b one none (ChildCrash.fails_to_roll_back r0)
        (λ rs. LeafFaults.reading-fails_to_roll_back root outcome above half half_in wire_in
        (front_of branch r0.heuristic_commits rs) branch r closed kept_so plain commit abort
        undecided decides_none
        forgets_none ends)
        (record {
          failed = refl;
          prepared = refl;
          learnt_commit = refl;
          learnt_abort = refl;
          heuristic = refl;
          forgot = refl;
        })
        (FailMoves.fails_to_roll_back pr r0 inv
        (record { up = up; told = sent_so; in_doubt = in_doubt w op }))
