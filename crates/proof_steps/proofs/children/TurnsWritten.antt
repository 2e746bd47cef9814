-- A record of the pair's branch keeps the invariant: a promise, and what tells of an outcome.
use Rattle.proof_processes.specs.Marks.{is_branch_record}
use Rattle.std.proofs.Common.{◌≡◌, ℕ, Bool, true, false, List, [], ◌∷◌, ◌++◌, refl, sym, subst}
use Rattle.std.specs.Prelude.{not}
use Rattle.protocol.specs.declared.names.Case.{Case}
use Rattle.protocol_words.specs.Variants.{AbortedOutcome, CaseBranch, CommittedOutcome, MessageInput, PreparedRecord}
use Rattle.protocol.specs.declared.names.Presumption.TheVariants.{PresumeAbort, PresumeCommit}
use Rattle.protocol.specs.declared.messages.Message.TheVariants.{Prepare, Yes, Commit, Abort}
use Rattle.protocol.specs.declared.messages.Envelope.{Envelope}
use Rattle.protocol.specs.declared.records.Record.{Record}
use Rattle.protocol.specs.declared.records.Write.{Write}
use Rattle.protocol.specs.NameLaws.{same_case-refl}
use Rattle.protocol.specs.Records.{is_heuristic, is_decided, is_forgot}
use Rattle.protocol.specs.Nodes.{Place, kept, after}
use Rattle.protocol.specs.CoordinatorRows.{post, forced, plain}
use Rattle.protocol.specs.Standings.{manager_view, mark_of}
use Rattle.protocol.specs.Outcomes.{is_outcome_message}
use Rattle.proof_pairs.specs.Reading.{Reading}
use Rattle.proof_pairs.specs.ChildMoves
use Rattle.proof_pairs.specs.Standing.{IsInDoubt}
use Rattle.proof_pairs.specs.readings.ReadingOf.{ChildHalf, Wire, wire}
use Rattle.protocol.specs.Audits.{is_promise, is_learnt_commit, is_learnt_abort, is_committing}
use Rattle.proof_pairs.proofs.readings.Lists.{mark_of-push, mark_of-push_behind}
use Rattle.proof_pairs.specs.turns.LeafTurns.{mark_at, IsActive, IsOpenBranch, writes_and_sends, Waits}
use Rattle.proof_processes.proofs.Deliveries.{was_sent}
use Rattle.proof_processes.proofs.Orders.{IsMarked, marks}
use Rattle.proof_steps.proofs.children.LeafWrites.{wrote, hardens, stands_so, half_forced, half_plain, IsBranchs}
use Rattle.proof_steps.proofs.children.Moves
use Rattle.proof_steps.proofs.children.Moves.{Fits}
use Rattle.proof_steps.proofs.children.Opens.{closed_where_marked, marked_is_closed}
use Rattle.proof_steps.proofs.children.Doubts.{doubt, promised_so}
use Rattle.proof_steps.proofs.children.Readings
use Rattle.proof_steps.proofs.children.Wires
use Rattle.proof_steps.proofs.children.Turns.{Turn, branch, place_in, half_in, wire_in, R, r0, O, Fine, ack}
use Rattle.proof_steps.proofs.children.TurnsQuiet.{active_open, may_vote}
use Rattle.protocol.specs.declared.messages.Finding.{Finding}

module _ (turn : Turn) where
  open turn use {
    c,
    t,
    p,
    tree,
    n,
    h,
    net,
    up,
    nested,
    m,
    stands,
    row,
    own,
    pr,
    of,
    root,
    outcome,
    above,
    half,
    inv,
  }

  abbrev d : Case
  d = branch turn

  abbrev place : Place
  place = place_in turn

  abbrev k : ChildHalf
  k = half_in turn

  abbrev v : Wire
  v = wire_in turn

  -- A record of the branch was written.

  abbrev Wrote : Record → ChildHalf
  Wrote r = wrote r d k

  pub forced_own : (r : Record) (ls : List Envelope) (w : Wire) (s : Reading) → IsBranchs d r
      → is_branch_record d r ≡ true
      → wire c t (net ++ ls) ≡ w → R turn (stands_so false (hardens (Wrote r))) w ≡ s → Fits pr (r0 turn) s
      → Fine turn (forced r) ls
  forced_own r ls w s b mine e f g =
      let x = writes_and_sends (forced r) ls in
      let closed : (O turn) x ≡ false =
      marked_is_closed t.child p tree n h x d
      (subst IsMarked (sym (mark_of-push (CaseBranch d) (kept n) r))
      (marks d (mark_of (CaseBranch d) (kept n)) r mine)) in
      subst (λ (z : ChildHalf). Fits pr (r0 turn) (R turn z (wire c t (net ++ ls))))
      (sym (half_forced (manager_view place n d).standing (manager_view place (after n h x) d).standing n
      h x d r refl b))
      (subst (λ (y : Bool). Fits pr (r0 turn)
      (R turn (stands_so y (hardens (Wrote r))) (wire c t (net ++ ls))))
      (sym closed)
      (subst (λ (z : Wire). Fits pr (r0 turn) (R turn (stands_so false (hardens (Wrote r))) z)) (sym e)
      (subst (λ (z : Reading). Fits pr (r0 turn) z) (sym f) g)))

  plain_own : (r : Record) (ls : List Envelope) (w : Wire) (s : Reading) → IsBranchs d r
      → is_branch_record d r ≡ true
      → wire c t (net ++ ls) ≡ w → R turn (stands_so false (Wrote r)) w ≡ s → Fits pr (r0 turn) s
      → Fine turn (plain r) ls
  plain_own r ls w s b mine e f g =
      let x = writes_and_sends (plain r) ls in
      let closed : (O turn) x ≡ false =
      marked_is_closed t.child p tree n h x d
      (subst IsMarked (sym (mark_of-push_behind (CaseBranch d) n.forced n.unforced r))
      (marks d (mark_of (CaseBranch d) (kept n)) r mine)) in
      subst (λ (z : ChildHalf). Fits pr (r0 turn) (R turn z (wire c t (net ++ ls))))
      (sym (half_plain (manager_view place n d).standing (manager_view place (after n h x) d).standing n h
      x d r refl b))
      (subst (λ (y : Bool). Fits pr (r0 turn) (R turn (stands_so y (Wrote r)) (wire c t (net ++ ls))))
      (sym closed)
      (subst (λ (z : Wire). Fits pr (r0 turn) (R turn (stands_so false (Wrote r)) z)) (sym e)
      (subst (λ (z : Reading). Fits pr (r0 turn) z) (sym f) g)))

  -- all that stood before was forced
  pub hard : Fits pr (r0 turn) (ChildMoves.hardens_child (r0 turn))
  hard = Moves.hardens pr (r0 turn) inv up

  pub onward : (s : Reading) → Fits pr (ChildMoves.hardens_child (r0 turn)) s → Fits pr (r0 turn) s
  onward s f = Moves.onward pr (r0 turn) (ChildMoves.hardens_child (r0 turn)) s hard f

  pub says_yes : (x j : ℕ) (ws : List Write) → h.input ≡ MessageInput j (Prepare d x) → IsActive place n d
      → Fine turn (forced (PreparedRecord (CaseBranch d) ws)) (post t.child p (Yes d) ∷ [])
  says_yes x j ws i a =
      let r = PreparedRecord (CaseBranch d) ws in
      let may = may_vote turn x j i a in
      let mine = same_case-refl d in
      forced_own r (post t.child p (Yes d) ∷ []) (record v { yes = true })
      (ChildMoves.votes_yes (ChildMoves.hardens_child (r0 turn)))
      (record { no_abort = refl; no_prepare = refl }) mine (Wires.wire-yes c t t.child p net)
      (Readings.reading-yes root outcome above half k v d r (active_open turn a) (rw mine refl) refl refl refl
      refl refl refl)
      (onward (ChildMoves.votes_yes (ChildMoves.hardens_child (r0 turn)))
      (Moves.votes_yes pr (ChildMoves.hardens_child (r0 turn)) hard.invariant
      (record { asked = may.asked; is_open = may.is_open })))

  -- An outcome finds the branch in doubt.

  pub in_doubt : Waits (mark_at n d) → IsOpenBranch (mark_at n d) → IsInDoubt (r0 turn)
  in_doubt u o =
      let x = doubt n nested m d u in
      record {
        prepared = promised_so n nested m d o;
        no_commit = x.no_commit;
        no_abort = x.no_abort;
        not_forgotten = x.not_forgotten;
      }

  pub commit_sent : (j : ℕ) → h.input ≡ MessageInput j (Commit d) → v.commit ≡ true
  commit_sent j i = was_sent (is_outcome_message CommittedOutcome d) net t.child h.input j (Commit d)
      stands i (same_case-refl d)

  pub abort_sent : (j : ℕ) → h.input ≡ MessageInput j (Abort d) → v.abort ≡ true
  abort_sent j i = was_sent (is_outcome_message AbortedOutcome d) net t.child h.input j (Abort d) stands i
      (same_case-refl d)

  -- a record that tells of a commit, or of an abort
  pub record TellsCommit (r : Record) : Type 0 where
    pub none : IsBranchs d r
    pub mine : is_branch_record d r ≡ true
    pub plain : is_promise d r ≡ false
    pub commit : is_learnt_commit d r ≡ true
    pub abort : is_learnt_abort d r ≡ false
    pub heuristic : is_heuristic d r ≡ false
    pub decides : is_decided d CommittedOutcome r ≡ false
    pub forgot : is_forgot d r ≡ false
    pub ends : is_committing d r ≡ not k.heuristic_kept

  pub record TellsAbort (r : Record) : Type 0 where
    pub none : IsBranchs d r
    pub mine : is_branch_record d r ≡ true
    pub plain : is_promise d r ≡ false
    pub commit : is_learnt_commit d r ≡ false
    pub abort : is_learnt_abort d r ≡ true
    pub heuristic : is_heuristic d r ≡ false
    pub decides : is_decided d CommittedOutcome r ≡ false
    pub forgot : is_forgot d r ≡ false
    pub ends : is_committing d r ≡ false

  module _ (j : ℕ) (w : Waits (mark_at n d)) (o : IsOpenBranch (mark_at n d))
      (mk : IsMarked (mark_at n d)) where
    closed : k.is_open ≡ false
    closed = closed_where_marked place n d mk

    pub commit_forced : (fs : List Finding) → PresumeAbort ≡ pr → h.input ≡ MessageInput j (Commit d)
        → (r : Record) → TellsCommit r
        → Fine turn (forced r) (ack turn CommittedOutcome fs)
    commit_forced fs pa i r g =
        forced_own r (ack turn CommittedOutcome fs) (record v { ack = true })
        (ChildMoves.commits_forced (ChildMoves.hardens_child (r0 turn))) g.none g.mine
        (Wires.wire-ack c t t.child p net CommittedOutcome fs)
        (Readings.reading-commit_forced root outcome above half k v d r closed
        (promised_so n nested m d o) g.plain g.commit g.abort
        g.heuristic g.decides g.forgot g.ends)
        (onward (ChildMoves.commits_forced (ChildMoves.hardens_child (r0 turn)))
        (Moves.commits_forced pr (sym pa) (ChildMoves.hardens_child (r0 turn)) hard.invariant
        (let x = in_doubt w o in record {
          up = up;
          told = commit_sent j i;
          in_doubt = record {
            prepared = x.prepared;
            no_commit = x.no_commit;
            no_abort = x.no_abort;
            not_forgotten =
                x.not_forgotten;
          };
        })))

    pub commit_plain : PresumeCommit ≡ pr → h.input ≡ MessageInput j (Commit d) → (r : Record)
        → TellsCommit r → Fine turn (plain r) []
    commit_plain pc i r g =
        plain_own r [] v (ChildMoves.commits (r0 turn)) g.none g.mine (Wires.wire-none c t t.child p net)
        (Readings.reading-commit_plain root outcome above half k v d r closed (promised_so n nested m d o)
        g.plain g.commit g.abort
        g.heuristic g.decides g.forgot g.ends)
        (Moves.commits pr (sym pc) (r0 turn) inv
        (record { up = up; told = commit_sent j i; in_doubt = in_doubt w o }))

    pub abort_plain : PresumeAbort ≡ pr → h.input ≡ MessageInput j (Abort d) → (r : Record) → TellsAbort r
        → Fine turn (plain r) []
    abort_plain pa i r g =
        plain_own r [] v (ChildMoves.rolls_back (r0 turn)) g.none g.mine (Wires.wire-none c t t.child p net)
        (Readings.reading-abort_plain root outcome above half k v d r closed (promised_so n nested m d o)
        g.plain g.commit g.abort
        g.heuristic g.decides g.forgot g.ends)
        (Moves.rolls_back pr (sym pa) (r0 turn) inv
        (record { up = up; told = abort_sent j i; in_doubt = in_doubt w o }))

    pub abort_forced : (fs : List Finding) → PresumeCommit ≡ pr → h.input ≡ MessageInput j (Abort d)
        → (r : Record) → TellsAbort r
        → Fine turn (forced r) (ack turn AbortedOutcome fs)
    abort_forced fs pc i r g =
        forced_own r (ack turn AbortedOutcome fs) (record v { ack = true })
        (ChildMoves.rolls_back_forced (ChildMoves.hardens_child (r0 turn))) g.none g.mine
        (Wires.wire-ack c t t.child p net AbortedOutcome fs)
        (Readings.reading-abort_forced root outcome above half k v d r closed (promised_so n nested m d o)
        g.plain g.commit g.abort
        g.heuristic g.decides g.forgot g.ends)
        (onward (ChildMoves.rolls_back_forced (ChildMoves.hardens_child (r0 turn)))
        (Moves.rolls_back_forced pr (sym pc) (ChildMoves.hardens_child (r0 turn)) hard.invariant
        (let x = in_doubt w o in record {
          up = up;
          told = abort_sent j i;
          in_doubt = record {
            prepared = x.prepared;
            no_commit = x.no_commit;
            no_abort = x.no_abort;
            not_forgotten =
                x.not_forgotten;
          };
        })))
