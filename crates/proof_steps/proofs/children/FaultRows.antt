-- What a manager's rows write of the pair's branch, where the device fails in it, keeps the invariant.
use Rattle.std.proofs.Common.{◌≡◌, ℕ, Bool, true, false, refl, sym, subst}
use Rattle.std.specs.Prelude.{not}
use Rattle.protocol.specs.declared.names.Case.{Case}
use Rattle.protocol.specs.declared.names.Outcome.{Outcome}
use Rattle.protocol_words.specs.Variants.{AbortedOutcome, CaseBranch, CommittedOutcome}
use Rattle.protocol.specs.declared.records.Record.{Record}
use Rattle.protocol.specs.declared.records.Record.TheVariants.{Committed, RolledBack, Told, Forgot}
use Rattle.protocol.specs.Names.{same_case}
use Rattle.protocol.specs.NameLaws.{same_case-refl}
use Rattle.protocol.specs.Records.{is_heuristic, is_decided, is_forgot}
use Rattle.protocol.specs.Nodes.{Place, Effect}
use Rattle.protocol.specs.CoordinatorRows.{tells_outcome}
use Rattle.protocol.specs.Standings.{Promised, Decided, Mark}
use Rattle.proof_pairs.specs.ChildCrash
use Rattle.proof_pairs.specs.Standing.{IsInDoubt}
use Rattle.proof_pairs.specs.readings.ReadingOf.{ChildHalf, Wire}
use Rattle.protocol.specs.Audits.{is_promise, is_learnt_commit, is_learnt_abort, is_committing}
use Rattle.proof_pairs.specs.turns.LeafTurns.{Hears, mark_at, IsOpenBranch, Waits, promised, decided, waits, by_operator, IsDecided, untold, told}
use Rattle.proof_processes.proofs.Orders.{IsMarked}
use Rattle.proof_steps.proofs.children.LeafWrites.{IsBranchs}
use Rattle.proof_steps.proofs.children.LeafFaults
use Rattle.proof_steps.proofs.children.LeafFaults.{front_of, half_fails_behind, fails_none}
use Rattle.proof_steps.proofs.children.FailMoves
use Rattle.proof_steps.proofs.children.Moves
use Rattle.proof_steps.proofs.children.Moves.{Fits}
use Rattle.proof_steps.proofs.children.Opens.{closed_where_marked}
use Rattle.proof_steps.proofs.children.Doubts.{promised_so, plain_so, heuristic_so, unforgotten_so, none_ever}
use Rattle.proof_steps.proofs.children.FaultRecords.{Broken, branch, place_in, half_in, wire_in, Left, Ok, One, ended, r0, common, fails_own, in_doubt, commit_sent, abort_sent, commits_own, aborts_own}

module _ (turn : Broken) where
  open turn use {c, t, p, tree, n, h, net, up, nested, m, stands, pr, root, outcome, above, half, inv}

  abbrev d : Case
  d = branch turn

  abbrev place : Place
  place = place_in turn

  abbrev k : ChildHalf
  k = half_in turn

  abbrev v : Wire
  v = wire_in turn

  pub obeys_own : (e : Effect) (b : Bool) (o : Outcome) → Hears h (tells_outcome o d) → mark_at n d ≡ Promised
      → One turn e (ended turn o) b → (a f : ℕ) → Left turn e a f → Ok turn e a f
  obeys_own e b o i q = by_outcome o i
    where
      w : Waits (mark_at n d)
      w = subst Waits (sym q) promised

      op : IsOpenBranch (mark_at n d)
      op = subst IsOpenBranch (sym q) waits

      mk : IsMarked (mark_at n d)
      mk = subst IsMarked (sym q) tt

      own : same_case d d ≡ true
      own = same_case-refl d

      plain_ends : true ≡ not k.heuristic_kept
      plain_ends = rw (plain_so n nested m d q) refl

      by_outcome : (u : Outcome) → Hears h (tells_outcome u d) → One turn e (ended turn u) b → (a f : ℕ)
          → Left turn e a f → Ok turn e a f
      by_outcome CommittedOutcome j one =
          commits_own turn e (Committed (CaseBranch d)) b one (record { no_abort = refl; no_prepare = refl })
          w op mk refl refl refl refl (rw own refl) refl (rw own plain_ends) (commit_sent turn j.0 j.1)
      by_outcome AbortedOutcome j one =
          aborts_own turn e (RolledBack (CaseBranch d)) b one (record { no_abort = refl; no_prepare = refl })
          w op mk refl refl refl refl refl (rw own refl) refl (abort_sent turn j.0 j.1)

  pub notes_own : (e : Effect) (b : Bool) (o : Outcome) → Hears h (tells_outcome o d) → mark_at n d ≡ Decided
      → One turn e (Told (CaseBranch d) o) b → (a f : ℕ) → Left turn e a f → Ok turn e a f
  notes_own e b o i q = by_outcome o i
    where
      w : Waits (mark_at n d)
      w = subst Waits (sym q) decided

      op : IsOpenBranch (mark_at n d)
      op = subst IsOpenBranch (sym q) (by_operator Decided untold)

      mk : IsMarked (mark_at n d)
      mk = subst IsMarked (sym q) tt

      own : same_case d d ≡ true
      own = same_case-refl d

      decided_ends : false ≡ not k.heuristic_kept
      decided_ends = rw (heuristic_so n nested m d (subst IsDecided (sym q) untold)) refl

      by_outcome : (u : Outcome) → Hears h (tells_outcome u d) → One turn e (Told (CaseBranch d) u) b
          → (a f : ℕ) → Left turn e a f → Ok turn e a f
      by_outcome CommittedOutcome j one =
          commits_own turn e (Told (CaseBranch d) CommittedOutcome) b one
          (record { no_abort = refl; no_prepare = refl })
          w op mk refl refl refl refl (rw own refl) refl decided_ends (commit_sent turn j.0 j.1)
      by_outcome AbortedOutcome j one =
          aborts_own turn e (Told (CaseBranch d) AbortedOutcome) b one
          (record { no_abort = refl; no_prepare = refl })
          w op mk refl refl refl refl refl (rw own refl) refl (abort_sent turn j.0 j.1)

  pub forgets_own : (e : Effect) (b : Bool) → One turn e (Forgot (CaseBranch d)) b → IsDecided (mark_at n d)
      → (a f : ℕ) → Left turn e a f → Ok turn e a f
  forgets_own e b one q =
      let r = Forgot (CaseBranch d) in
      let op : IsOpenBranch (mark_at n d) = by_operator (mark_at n d) q in
      fails_own turn e r b one (record { no_abort = refl; no_prepare = refl })
      (ChildCrash.fails_to_forget (r0 turn))
      (λ rs. LeafFaults.reading-fails_to_forget root outcome above half k v
      (front_of d (r0 turn).heuristic_commits rs) d r
      (closed_where_marked place n d (is_marked (mark_at n d) q))
      (promised_so n nested m d op) refl refl refl refl refl (same_case-refl d) refl)
      (record {
        failed = refl;
        prepared = refl;
        learnt_commit = refl;
        learnt_abort = refl;
        heuristic = refl;
        forgot = refl;
      })
      (FailMoves.fails_to_forget pr (r0 turn) inv
      (record {
        manager = refl;
        up = up;
        heuristic = record {
          heuristic = heuristic_so n nested m d q;
          not_forgotten = unforgotten_so n nested m d q;
        };
      }))
    where
      is_marked : (x : Mark) → IsDecided x → IsMarked x
      is_marked _ untold = tt
      is_marked _ (told o) = tt

  pub decides_own : (e : Effect) (b : Bool) (r : Record) (o : Bool) → One turn e r b → IsBranchs d r
      → mark_at n d ≡ Promised
      → is_promise d r ≡ false → is_learnt_commit d r ≡ false → is_learnt_abort d r ≡ false
      → is_heuristic d r ≡ true → is_decided d CommittedOutcome r ≡ o → is_forgot d r ≡ false
      → is_committing d r ≡ false
      → (a f : ℕ) → Left turn e a f → Ok turn e a f
  decides_own e b r o one none q plain commit abort decision says forgot ends =
      fails_own turn e r b one none (ChildCrash.fails_to_decide_alone o (r0 turn))
      (λ rs. LeafFaults.reading-fails_to_decide root outcome above half k v (front_of d o rs) d r
      (closed_where_marked place n d (subst IsMarked (sym q) tt)) (promised_so n nested m d op) plain o
      commit abort decision says forgot ends never)
      (record {
        failed = refl;
        prepared = refl;
        learnt_commit = refl;
        learnt_abort = refl;
        heuristic = refl;
        forgot = refl;
      })
      (FailMoves.fails_to_decide_alone pr o (r0 turn) inv
      (record { manager = refl; up = up; in_doubt = doubts; undecided = plain_so_far }))
    where
      op : IsOpenBranch (mark_at n d)
      op = subst IsOpenBranch (sym q) waits

      plain_so_far : k.heuristic_kept ≡ false
      plain_so_far = plain_so n nested m d q

      doubts : IsInDoubt (r0 turn)
      doubts = in_doubt turn (subst Waits (sym q) promised) op

      never : k.heuristic_commits ≡ false
      never = none_ever n d plain_so_far (Moves.never_decided (r0 turn) (common turn) plain_so_far doubts)
