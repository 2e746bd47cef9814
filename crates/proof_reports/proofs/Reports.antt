-- Whom an End of the root reports as mixed: through each kind of step.
use Rattle.std.proofs.Common.{◌≡◌, ◌∙◌, ◌||◌, inl, inr, ℕ, zero, suc, Bool, true, false, None, List, [], ◌∷◌, ◌++◌, take, refl, sym, ap, subst, arith}
use Rattle.std.specs.List.{flat_map}
use Rattle.std.specs.Prelude.{reverse}
use Rattle.protocol.specs.declared.names.Case.{Case}
use Rattle.protocol.specs.declared.names.ProcessId.{ProcessId}
use Rattle.protocol.specs.declared.names.Ticket.{Ticket}
use Rattle.protocol.specs.declared.names.Txn.{Txn}
use Rattle.protocol.specs.declared.names.Outcome.{Outcome}
use Rattle.protocol_words.specs.Variants.{AbortedOutcome, CommittedOutcome, Handles}
use Rattle.protocol.specs.declared.names.Presumption.TheVariants.{PresumeAbort, PresumeCommit}
use Rattle.protocol.specs.declared.messages.Finding.{Finding}
use Rattle.protocol.specs.declared.messages.Finding.TheVariants.{Mixed, Unreported}
use Rattle.protocol.specs.declared.records.Record.{Record}
use Rattle.protocol.specs.declared.records.Record.TheVariants.{End}
use Rattle.protocol.specs.declared.events.Input.{Input}
use Rattle.protocol.specs.declared.standings.Standing.{Standing}
use Rattle.protocol.specs.declared.standings.Standing.TheVariants.{Unknown, Active, Collecting, Prepared, Committing, Aborting, Heuristic}
use Rattle.protocol.specs.declared.trees.TreeProcess.{TreeProcess}
use Rattle.protocol.specs.Names.{same_case, same_ticket}
use Rattle.protocol.specs.Records.{cases_in, has, in_list, is_abort, is_commit, mixed_of}
use Rattle.protocol.specs.Nodes.{AtRoot, Effect, First, Heard, Node, Place, Second, Version, Written, appends, entries_written, is_any_forced, kept}
use Rattle.protocol.specs.CoordinatorRows.{Row, end_reports}
use Rattle.protocol.specs.Restarts.{aborts_collecting, coordinator_reopens, crashed, data_records, recorded_view, reopens, restart_abort, trim_fails}
use Rattle.protocol.specs.Standings.{CoordinatorView, coordinator_view, found_below}
use Rattle.protocol.specs.World.{Move}
use Rattle.proof_pairs.specs.turns.CoordinatorTurns.{CaseTurn, CoordinatorTurn, HasDecided, aborts, accepts, acknowledges, clears, answers, asks, asks_for_votes, begins, by_abort, by_commit, commits, counts_vote, does_nothing, ends, finds_nobody, gives_again, gives_fresh, gives_up, hears_no, invites, of_case, passes_abort, passes_commit, presumes, promises, reads_only, refuses, repeats_yes, rests, sends_work, waits_for_acks}
use Rattle.proof_pairs.specs.turns.Steps.{StepOf, heard_in, handled, failed_in, passed, failed_passing, reopened, failed_reopening, trims_log, failed_trimming}
use Rattle.proof_pairs.proofs.turns.CoordinatorReactions.{coordinator_turn_of}
use Rattle.proof_pairs.proofs.turns.Steps.{turn_of}
use Rattle.proof_processes.specs.Lasts.{Nested, logs_of}
use Rattle.proof_processes.proofs.Remembering.{coordinator_place}
use Rattle.proof_processes.proofs.Tests.{both, case_is, either, has-cons, has-nil, has-reverse, in_either, in_front, in_none, in_second}
use Rattle.proof_processes.proofs.Trims.{data_is_other}
use Rattle.proof_steps.proofs.parents.Tables.{aborting_facts, committing_facts}
use Rattle.proof_headline.proofs.Grows.{durable_still, ticket_is}
use Rattle.proof_reports.specs.Findings.{AreTrue, WasDecidedAgainst, reports_mixed}
use Rattle.proof_reports.proofs.Commits.{NoCommitUnforced, commit_is_old}
use Rattle.proof_reports.proofs.Later.{AllHeardTrue, InputTrue}
use Rattle.proof_reports.proofs.Memories.{below_is_true}
use Rattle.proof_reports.proofs.Turns.{child_says}

-- the root ended the case so: by a commit that was in its forced front, or by an Abort record
abbrev pub has_ended : Node → Case → Outcome → Bool
has_ended n c CommittedOutcome = has (is_commit c) n.durable
has_ended n c AbortedOutcome = has (is_abort c) n.life

-- the ticket was decided against the outcome by which the case ended
pub record IsReported (at : ProcessId → Node) (n : Node) (c : Case) (t : Ticket) : Type 0 where
  pub outcome : Outcome
  pub against : WasDecidedAgainst at c.txn outcome t
  pub ended : has_ended n c outcome ≡ true

-- Life lists.

life_of : (n : Node) (ws : List Written) → (appends n ws).life ≡ reverse (entries_written ws) ++ n.life
life_of n ws = by_force (is_any_forced ws) refl
  where
    by_force : (b : Bool) → is_any_forced ws ≡ b → (appends n ws).life
        ≡ reverse (entries_written ws) ++ n.life
    by_force true f = rw f refl
    by_force false f = rw f refl

module _ (place : Place) (m : Move) (q : Record → Bool) where
  life_still : (n : Node) (e : Effect) (k : Node) → StepOf place n m e k → has q n.life ≡ true
      → has q k.life ≡ true
  life_still n _ _ (handled i g hp np r) e =
      ap (has q) (life_of n g.written) ∙ in_second q (reverse (entries_written g.written)) n.life e
  life_still n _ _ (failed_in i f g fl hp np r) e =
      in_second q (reverse (take f.appended (entries_written g.written))) n.life e
  life_still n _ _ (passed i hp r) e = e
  life_still n _ _ (failed_passing i f fl hp r) e = e
  life_still n _ _ (reopened j hp) e =
      in_second q (reverse (reopens place.role (kept (crashed place n j)))) n.life e
  life_still n _ _ (failed_reopening j f fl hp) e =
      in_second q (reverse (take f.appended (reopens place.role (kept (crashed place n j))))) n.life e
  life_still n _ _ (trims_log hp up) e = in_second q (reverse (data_records place.role (kept n))) n.life e
  life_still n _ _ (failed_trimming f fl hp up) e = by_front f.appended
    where
      by_front : (j : ℕ) → has q (trim_fails place n j).life ≡ true
      by_front zero = e
      by_front (suc j) = in_second q (reverse (data_records place.role (kept n))) n.life e

pub ended_still : (place : Place) (m : Move) (n : Node) (e : Effect) (k : Node) → StepOf place n m e k
    → (c : Case)
    (o : Outcome) → has_ended n c o ≡ true → has_ended k c o ≡ true
ended_still place m n e k s c CommittedOutcome f = durable_still place m (is_commit c) n e k s f
ended_still place m n e k s c AbortedOutcome f = life_still place m (is_abort c) n e k s f

-- What the root writes.

or_nothing : (x : Bool) → (x || false) ≡ true → x ≡ true
or_nothing x y = grind arith

module _ (at : ProcessId → Node) (t : Ticket) where
  in_mixed : (x : Txn) (o : Outcome) (fs : List Finding) → AreTrue at x o fs → in_list (mixed_of fs) t ≡ true
      → WasDecidedAgainst at x o t
  unfolding in_list mixed_of
  in_mixed x o [] a e = absurd (cc)
  in_mixed x o (Mixed u ∷ fs) a e = elim (either (same_ticket u t) _ e) [
    | inl now ↦ subst (λ (y : Ticket). WasDecidedAgainst at x o y) (ticket_is u t now) a.0
    | inr rest ↦ in_mixed x o fs a.1 rest
  ]
  in_mixed x o (Unreported u ∷ fs) a e = in_mixed x o fs a.1 e

module _ (at : ProcessId → Node) (me : ProcessId) (tree : List TreeProcess) (n : Node)
    (heard : AllHeardTrue at n.heard) (forced : NoCommitUnforced n) (nested : Nested (logs_of n))
    (c : Case) (t : Ticket)
  where
    abbrev place : Place
    place = coordinator_place me None tree

    decided_ended : (d : Case) (o : Outcome) (s : Standing) → HasDecided o s
        → (coordinator_view place n d).standing ≡ s
        → has_ended n d o ≡ true
    decided_ended d _ _ by_commit e = commit_is_old n forced nested d (committing_facts place n d e).commit
    decided_ended d _ _ by_abort e =
        nested.kept_was_written (is_abort d) (λ k. refl) (aborting_facts place n d e).abort

    by_version : (v : Version) (d : Case) (o : Outcome) (fs : List Finding) → AreTrue at d.txn o fs
        → has_ended n d o ≡ true → has (reports_mixed c t) (End d (end_reports v None fs) ∷ []) ≡ true
        → IsReported at n c t
    unfolding has
    by_version First d o fs a f e = absurd (cc)
    by_version Second d o [] a f e = absurd (cc)
    by_version Second d o (g ∷ fs) a f e =
        let b = both (same_case d c) (in_list (mixed_of (g ∷ fs)) t) (or_nothing _ e) in
        subst (λ (y : Case). IsReported at n y t) (case_is d c b.0)
        (record { outcome = o; against = in_mixed at t d.txn o (g ∷ fs) a b.1; ended = f })

    module _ (h : Heard) (now : InputTrue at h.input) where
      case_reports : (d : Case) (row : Row) → CaseTurn place None n h d row
          → has (reports_mixed c t) (entries_written row.written) ≡ true → IsReported at n c t
      unfolding has
      case_reports d _ (rests r) x = absurd (cc)
      case_reports d _ (invites q i e f a) x = absurd (cc)
      case_reports d _ (accepts u i e f) x = absurd (cc)
      case_reports d _ (sends_work q u op i e f a) x = absurd (cc)
      case_reports d _ (finds_nobody i e f) x = absurd (cc)
      case_reports d _ (asks_for_votes PresumeAbort i e f a) x = absurd (cc)
      case_reports d _ (asks_for_votes PresumeCommit i e f a) x = absurd (cc)
      case_reports d _ (gives_up why p i e f) x = absurd (cc)
      case_reports d _ (counts_vote u w i f e) x = absurd (cc)
      case_reports d _ (reads_only u w ys PresumeAbort i e f) x = absurd (cc)
      case_reports d _ (reads_only u w ys PresumeCommit i e f) x = absurd (cc)
      case_reports d _ (commits u w ys PresumeAbort i e f a) x = absurd (cc)
      case_reports d _ (commits u w ys PresumeCommit i e f a) x = absurd (cc)
      case_reports d _ (promises u w ys p i e f) x = absurd (cc)
      case_reports d _ (hears_no u us PresumeAbort i e f) x = absurd (cc)
      case_reports d _ (hears_no u us PresumeCommit i e f) x = absurd (cc)
      case_reports d _ (aborts why us PresumeAbort i e f a) x = absurd (cc)
      case_reports d _ (aborts why us PresumeCommit i e f a) x = absurd (cc)
      case_reports d _ (passes_commit p i e f) x = absurd (let z = i.is_parent in cc)
      case_reports d _ (passes_abort p i e f) x = absurd (let z = i.is_parent in cc)
      case_reports d _ (repeats_yes j i e) x = absurd (cc)
      case_reports d _ (asks i e) x = absurd (cc)
      case_reports d _ (refuses j i e) x = absurd (cc)
      case_reports d _ (acknowledges o fs i e) x = absurd (cc)
      case_reports d _ (waits_for_acks u o fs i e f a) x = absurd (cc)
      case_reports d _ (ends u o fs i e f a) x =
          by_version h.version d o (found_below place n d o fs)
          (below_is_true at me None tree n heard d o fs (child_says at me None tree n heard h now d u o fs i))
          (decided_ended d o (coordinator_view place n d).standing e refl) x
      case_reports d _ (clears i e f a) x = absurd (cc)
      case_reports d _ (answers u o i e) x = absurd (cc)

      turn_reports : (e : Effect) → CoordinatorTurn place None n h e
          → has (reports_mixed c t) (entries_written e.written) ≡ true → IsReported at n c t
      unfolding has
      turn_reports _ (does_nothing i) x = absurd (cc)
      turn_reports _ (of_case d row turn) x = case_reports d row turn x
      turn_reports _ (begins p a i) x = absurd (cc)
      turn_reports _ (gives_again p d u a i e) x = absurd (cc)
      turn_reports _ (gives_fresh p d a i e) x = absurd (cc)
      turn_reports _ (presumes y u i e) x = absurd (cc)

-- What a restart writes.

module _ (q : Record → Bool) where
  flat_none : (f : Case → List Record) → ((c : Case) → has q (f c) ≡ false) → (cs : List Case)
      → has q (flat_map f cs) ≡ false
  flat_none f g [] = has-nil q
  flat_none f g (c ∷ cs) = in_none q (f c) (flat_map f cs) (g c) (flat_none f g cs)

module _ (c : Case) (t : Ticket) where
  restart_none : (d : Case) (v : CoordinatorView) (s : Standing)
      → has (reports_mixed c t) (restart_abort d v s) ≡ false
  unfolding has
  restart_none d v Unknown = refl
  restart_none d v Active = refl
  restart_none d v Collecting = refl
  restart_none d v Prepared = refl
  restart_none d v Committing = refl
  restart_none d v Aborting = refl
  restart_none d v Heuristic = refl

  reopens_none : (rs : List Record) → has (reports_mixed c t) (coordinator_reopens rs) ≡ false
  reopens_none rs =
      has-cons (reports_mixed c t) _ (flat_map (aborts_collecting rs) (cases_in rs))
      ∙ flat_none (reports_mixed c t) (aborts_collecting rs)
      (λ d. restart_none d (recorded_view rs d) (recorded_view rs d).standing) (cases_in rs)

-- Each step.

module _ (at : ProcessId → Node) (me : ProcessId) (tree : List TreeProcess) (m : Move) (n : Node)
    (heard : AllHeardTrue at n.heard) (forced : n.failed ≡ false → NoCommitUnforced n)
    (nested : Nested (logs_of n))
    (c : Case) (t : Ticket) (old : has (reports_mixed c t) n.life ≡ true → IsReported at n c t)
  where
    abbrev here : Place
    here = coordinator_place me None tree

    abbrev q : Record → Bool
    q = reports_mixed c t

    behind : (new : List Record) → (has q new ≡ true → IsReported at n c t)
        → has q (reverse new ++ n.life) ≡ true → IsReported at n c t
    behind new f e = elim (in_either q (reverse new) n.life e) [
      | inl g ↦ f (sym (has-reverse q new) ∙ g)
      | inr g ↦ old g
    ]

    never : (b : Bool) → b ≡ false → b ≡ true → IsReported at n c t
    never b e f = absurd (cc)

    pub reported_then : ((i : Input) → m.step.happening ≡ Handles i → InputTrue at i)
        → (e : Effect) (k : Node)
        → StepOf here n m e k → has q k.life ≡ true → IsReported at n c t
    reported_then now _ _ (handled i g hp np r) x =
        behind (entries_written g.written)
        (turn_reports at me tree n heard (forced (turn_of here n (heard_in m i) g r).up) nested c
        t (heard_in m i)
        (now i hp) g (coordinator_turn_of here n (heard_in m i) g r))
        (sym (ap (has q) (life_of n g.written)) ∙ x)
    reported_then now _ _ (failed_in i f g fl hp np r) x =
        behind (take f.appended (entries_written g.written))
        (λ y. turn_reports at me tree n heard (forced (turn_of here n (heard_in m i) g r).up) nested c
        t (heard_in m i)
        (now i hp) g (coordinator_turn_of here n (heard_in m i) g r)
        (in_front q f.appended (entries_written g.written) y)) x
    reported_then now _ _ (passed i hp r) x = old x
    reported_then now _ _ (failed_passing i f fl hp r) x = old x
    reported_then now _ _ (reopened j hp) x =
        behind (reopens AtRoot (kept (crashed here n j)))
        (λ y. never _ (reopens_none c t (kept (crashed here n j))) y) x
    reported_then now _ _ (failed_reopening j f fl hp) x =
        behind (take f.appended (reopens AtRoot (kept (crashed here n j))))
        (λ y. never _ (reopens_none c t (kept (crashed here n j)))
        (in_front q f.appended (reopens AtRoot (kept (crashed here n j))) y)) x
    reported_then now _ _ (trims_log hp up) x =
        behind (data_records AtRoot (kept n))
        (λ y. never _ (data_is_other q (λ k v. refl) (λ k. refl) AtRoot (kept n)) y) x
    reported_then now _ _ (failed_trimming f fl hp up) x = by_front f.appended x
      where
        by_front : (j : ℕ) → has q (trim_fails here n j).life ≡ true → IsReported at n c t
        by_front zero y = old y
        by_front (suc j) y =
            behind (data_records AtRoot (kept n))
            (λ z. never _ (data_is_other q (λ k v. refl) (λ k. refl) AtRoot (kept n)) z) y
