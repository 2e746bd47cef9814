-- An outcome that finds the branch in doubt keeps the invariant of its pair.
use Rattle.protocol.specs.Reactions.{leaf_of}
use Rattle.protocol.specs.ManagerRows.{is_acknowledged, ends_record}
use Rattle.std.proofs.Common.{◌≡◌, ℕ, true, false, [], ◌∷◌, refl, sym, subst, if◌then◌else◌, List}
use Rattle.std.specs.Prelude.{not}
use Rattle.protocol.specs.declared.names.Case.{Case}
use Rattle.protocol.specs.declared.names.Outcome.{Outcome}
use Rattle.protocol_words.specs.Variants.{AbortedOutcome, CaseBranch, CommittedOutcome, MessageInput}
use Rattle.protocol.specs.declared.names.Presumption.{Presumption}
use Rattle.protocol.specs.declared.names.Presumption.TheVariants.{PresumeAbort, PresumeCommit}
use Rattle.protocol.specs.declared.records.Record.TheVariants.{Committed, RolledBack, Told}
use Rattle.protocol.specs.Names.{same_case}
use Rattle.protocol.specs.NameLaws.{same_case-refl}
use Rattle.protocol.specs.Nodes.{Place}
use Rattle.protocol.specs.CoordinatorRows.{tells_outcome}
use Rattle.protocol.specs.Standings.{Promised, Decided}
use Rattle.proof_pairs.specs.readings.ReadingOf.{ChildHalf, Wire}
use Rattle.proof_pairs.specs.turns.LeafTurns.{mark_at, IsOpenBranch, Waits, promised, decided, waits, by_operator, IsDecided, untold}
use Rattle.proof_processes.proofs.Orders.{IsMarked}
use Rattle.proof_steps.proofs.children.Doubts.{plain_so, heuristic_so}
use Rattle.proof_steps.proofs.children.Turns.{Turn, branch, place_in, half_in, wire_in, Fine, ack, Written_as, Acked}
use Rattle.proof_steps.proofs.children.TurnsWritten.{TellsCommit, TellsAbort, commit_forced, commit_plain, abort_plain, abort_forced}
use Rattle.protocol.specs.declared.messages.Finding.{Finding}

module _ (turn : Turn) where
  open turn use {
    c,
    t,
    p,
    tree,
    n,
    h,
    net,
    up,
    nested,
    m,
    stands,
    row,
    own,
    pr,
    of,
    root,
    outcome,
    above,
    half,
    inv,
  }

  abbrev d : Case
  d = branch turn

  abbrev place : Place
  place = place_in turn

  abbrev k : ChildHalf
  k = half_in turn

  abbrev v : Wire
  v = wire_in turn

  pub obeys_own : (o : Outcome) (fs : List Finding) (j : ℕ) → h.input ≡ MessageInput j (tells_outcome o d)
      → mark_at n d ≡ Promised
      → Fine turn (Written_as turn o (ends_record (leaf_of place p d) o)) (Acked turn o fs)
  obeys_own o fs j i e =
      by_both pr refl o i
    where
      w : Waits (mark_at n d)
      w = subst Waits (sym e) promised

      op : IsOpenBranch (mark_at n d)
      op = subst IsOpenBranch (sym e) waits

      mk : IsMarked (mark_at n d)
      mk = subst IsMarked (sym e) tt

      own_branch : (same_case d d) ≡ true
      own_branch = same_case-refl d

      plain_ends : true ≡ not k.heuristic_kept
      plain_ends = rw (plain_so n nested m d e) refl

      committed : (TellsCommit turn) (Committed (CaseBranch d))
      committed = record {
        none = record { no_abort = refl; no_prepare = refl };
        mine = own_branch;
        plain = refl;
        commit = rw own_branch refl;
        abort = refl;
        heuristic = refl;
        decides = refl;
        forgot = refl;
        ends = rw own_branch plain_ends;
      }

      rolled : (TellsAbort turn) (RolledBack (CaseBranch d))
      rolled = record {
        none = record { no_abort = refl; no_prepare = refl };
        mine = own_branch;
        plain = refl;
        commit = refl;
        abort = rw own_branch refl;
        heuristic = refl;
        decides = refl;
        forgot = refl;
        ends = refl;
      }

      by_both : (q : Presumption) → q ≡ pr → (u : Outcome) → h.input ≡ MessageInput j (tells_outcome u d)
          → Fine turn (record {
            entry = ends_record (leaf_of place p d) u;
            is_forced = is_acknowledged pr
                u;
          } ∷
          [])
          (if is_acknowledged pr u then (ack turn) u fs else [])
      by_both PresumeAbort f CommittedOutcome g =
          subst (λ (x : Presumption). (Fine turn)
          (record { entry = Committed (CaseBranch d); is_forced = is_acknowledged x CommittedOutcome }
          ∷ [])
          (if is_acknowledged x CommittedOutcome then (ack turn) CommittedOutcome fs else [])) f
          (commit_forced turn j w op mk fs f g (Committed (CaseBranch d)) committed)
      by_both PresumeCommit f CommittedOutcome g =
          subst (λ (x : Presumption). (Fine turn)
          (record { entry = Committed (CaseBranch d); is_forced = is_acknowledged x CommittedOutcome }
          ∷ [])
          (if is_acknowledged x CommittedOutcome then (ack turn) CommittedOutcome fs else [])) f
          (commit_plain turn j w op mk f g (Committed (CaseBranch d)) committed)
      by_both PresumeAbort f AbortedOutcome g =
          subst (λ (x : Presumption). (Fine turn)
          (record { entry = RolledBack (CaseBranch d); is_forced = is_acknowledged x AbortedOutcome }
          ∷ [])
          (if is_acknowledged x AbortedOutcome then (ack turn) AbortedOutcome fs else [])) f
          (abort_plain turn j w op mk f g (RolledBack (CaseBranch d)) rolled)
      by_both PresumeCommit f AbortedOutcome g =
          subst (λ (x : Presumption). (Fine turn)
          (record { entry = RolledBack (CaseBranch d); is_forced = is_acknowledged x AbortedOutcome }
          ∷ [])
          (if is_acknowledged x AbortedOutcome then (ack turn) AbortedOutcome fs else [])) f
          (abort_forced turn j w op mk fs f g (RolledBack (CaseBranch d)) rolled)

  pub notes_own : (o : Outcome) (fs : List Finding) (j : ℕ) → h.input ≡ MessageInput j (tells_outcome o d)
      → mark_at n d ≡ Decided
      → Fine turn (Written_as turn o (Told (CaseBranch d) o)) (Acked turn o fs)
  notes_own o fs j i e = by_both pr refl o i
    where
      w : Waits (mark_at n d)
      w = subst Waits (sym e) decided

      op : IsOpenBranch (mark_at n d)
      op = subst IsOpenBranch (sym e) (by_operator Decided untold)

      mk : IsMarked (mark_at n d)
      mk = subst IsMarked (sym e) tt

      own_branch : (same_case d d) ≡ true
      own_branch = same_case-refl d

      decided_ends : false ≡ not k.heuristic_kept
      decided_ends = rw (heuristic_so n nested m d (subst IsDecided (sym e) untold)) refl

      committed : (TellsCommit turn) (Told (CaseBranch d) CommittedOutcome)
      committed = record {
        none = record { no_abort = refl; no_prepare = refl };
        mine = own_branch;
        plain = refl;
        commit = rw own_branch refl;
        abort = refl;
        heuristic = refl;
        decides = refl;
        forgot = refl;
        ends = decided_ends;
      }

      rolled : (TellsAbort turn) (Told (CaseBranch d) AbortedOutcome)
      rolled = record {
        none = record { no_abort = refl; no_prepare = refl };
        mine = own_branch;
        plain = refl;
        commit = refl;
        abort = rw own_branch refl;
        heuristic = refl;
        decides = refl;
        forgot = refl;
        ends = refl;
      }

      by_both : (q : Presumption) → q ≡ pr → (u : Outcome) → h.input ≡ MessageInput j (tells_outcome u d)
          → Fine turn (record { entry = Told (CaseBranch d) u; is_forced = is_acknowledged pr u } ∷ [])
          (if is_acknowledged pr u then (ack turn) u fs else [])
      by_both PresumeAbort f CommittedOutcome g =
          subst (λ (x : Presumption). (Fine turn)
          (record {
            entry = Told (CaseBranch d) CommittedOutcome;
            is_forced = is_acknowledged x
                CommittedOutcome;
          } ∷ [])
          (if is_acknowledged x CommittedOutcome then (ack turn) CommittedOutcome fs else [])) f
          (commit_forced turn j w op mk fs f g (Told (CaseBranch d) CommittedOutcome) committed)
      by_both PresumeCommit f CommittedOutcome g =
          subst (λ (x : Presumption). (Fine turn)
          (record {
            entry = Told (CaseBranch d) CommittedOutcome;
            is_forced = is_acknowledged x
                CommittedOutcome;
          } ∷ [])
          (if is_acknowledged x CommittedOutcome then (ack turn) CommittedOutcome fs else [])) f
          (commit_plain turn j w op mk f g (Told (CaseBranch d) CommittedOutcome) committed)
      by_both PresumeAbort f AbortedOutcome g =
          subst (λ (x : Presumption). (Fine turn)
          (record {
            entry = Told (CaseBranch d) AbortedOutcome;
            is_forced = is_acknowledged x
                AbortedOutcome;
          } ∷ [])
          (if is_acknowledged x AbortedOutcome then (ack turn) AbortedOutcome fs else [])) f
          (abort_plain turn j w op mk f g (Told (CaseBranch d) AbortedOutcome) rolled)
      by_both PresumeCommit f AbortedOutcome g =
          subst (λ (x : Presumption). (Fine turn)
          (record {
            entry = Told (CaseBranch d) AbortedOutcome;
            is_forced = is_acknowledged x
                AbortedOutcome;
          } ∷ [])
          (if is_acknowledged x AbortedOutcome then (ack turn) AbortedOutcome fs else [])) f
          (abort_forced turn j w op mk fs f g (Told (CaseBranch d) AbortedOutcome) rolled)
