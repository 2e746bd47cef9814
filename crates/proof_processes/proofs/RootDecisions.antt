-- How a row of the root decides its case.
use Rattle.std.proofs.Common.{◌≡◌, ◌∙◌, ◌||◌, ◌&&◌, inl, inr, Bool, true, false, None, [], refl, sym, subst, arith}
use Rattle.std.specs.List.{list_any}
use Rattle.protocol.specs.declared.names.Case.{Case}
use Rattle.protocol.specs.declared.names.Txn.{Txn}
use Rattle.protocol.specs.declared.names.Presumption.TheVariants.{PresumeAbort, PresumeCommit}
use Rattle.protocol.specs.declared.standings.Standing.TheVariants.{Active, Collecting}
use Rattle.protocol.specs.Names.{same_case, same_txn}
use Rattle.protocol.specs.NameLaws.{same_case-refl, same_txn_tells}
use Rattle.protocol.specs.Records.{has, is_commit, is_abort}
use Rattle.protocol.specs.Nodes.{Place, Node, Heard, Effect, entries_written, told_first}
use Rattle.protocol.specs.Standings.{coordinator_view}
use Rattle.protocol.specs.CoordinatorRows.{Reason, Row}
use Rattle.protocol.specs.Outcomes.{is_told_aborted}
use Rattle.protocol.specs.Reactions.{row_effect}
use Rattle.proof_pairs.specs.turns.CoordinatorTurns.{IsToAbort, CaseTurn, rests, invites, accepts, sends_work, finds_nobody, asks_for_votes, gives_up, counts_vote, reads_only, commits, promises, hears_no, aborts, passes_commit, passes_abort, repeats_yes, asks, refuses, acknowledges, waits_for_acks, ends, clears, answers, CoordinatorTurn, does_nothing, of_case, begins, gives_again, gives_fresh, presumes}
use Rattle.proof_processes.proofs.Tests.{case_is}

-- the effect writes a Commit, or an Abort, of the case, or tells `aborted` of the transaction
abbrev pub commits_now : Case → Effect → Bool
commits_now d e = has (is_commit d) (entries_written e.written)

abbrev pub aborts_now : Case → Effect → Bool
aborts_now d e = has (is_abort d) (entries_written e.written)

abbrev pub tells_now : Txn → Effect → Bool
tells_now x e = list_any (is_told_aborted x) (told_first e.told [])

or_nothing : (x : Bool) → (x || false) ≡ true → x ≡ true
or_nothing x y = grind arith

txn_is : (x y : Txn) → same_txn x y ≡ true → x ≡ y
txn_is x y e = elim (same_txn_tells x y) [ inl t ↦ t.1 | inr f ↦ absurd (let g = f.0 in cc) ]

module _ (place : Place) (n : Node) (h : Heard) where
  -- the row of a case that collects commits it, or aborts it; that of one that takes children drops it;
  -- others decide nothing
  data Decision (c : Case) (e : Effect) : Type 0 where
    commit : (coordinator_view place n c).standing ≡ Collecting → ((d : Case) → aborts_now d e ≡ false)
        → ((d : Case) → commits_now d e ≡ true → c ≡ d) → ((x : Txn) → tells_now x e ≡ false) → Decision c e
    abort : (coordinator_view place n c).standing ≡ Collecting → ((d : Case) → commits_now d e ≡ false)
        → ((d : Case) → aborts_now d e ≡ true → c ≡ d) → aborts_now c e ≡ true
        → ((x : Txn) → tells_now x e ≡ true → c.txn ≡ x) → Decision c e
    drop : (why : Reason) → IsToAbort None h c why → (coordinator_view place n c).standing ≡ Active
        → ((d : Case) → commits_now d e ≡ false) → ((d : Case) → aborts_now d e ≡ false)
        → ((x : Txn) → tells_now x e ≡ true → c.txn ≡ x) → Decision c e
    nothing : ((d : Case) → commits_now d e ≡ false) → ((d : Case) → aborts_now d e ≡ false)
        → ((x : Txn) → tells_now x e ≡ false) → Decision c e

  first_of : (a b : Bool) → (a && b) ≡ true → a ≡ true
  first_of a b e = grind arith

  only_it : (c d : Case) → (same_case c d || false) ≡ true → c ≡ d
  only_it c d g = case_is c d (or_nothing _ g)

  only_txn : (c : Case) (x : Txn) (b : Bool) → ((same_txn c.txn x && b) || false) ≡ true → c.txn ≡ x
  only_txn c x b g = txn_is c.txn x (first_of _ b (or_nothing _ g))

  itself : (c : Case) → (same_case c c || false) ≡ true
  itself c = rw (same_case-refl c) refl

  and_false : (a : Bool) → ((a && false) || false) ≡ false
  and_false true = refl
  and_false false = refl

  row_decides : (c : Case) (row : Row) → CaseTurn place None n h c row → Decision c (row_effect c row)
  unfolding has
  row_decides c _ (rests r) = nothing (λ d. refl) (λ d. refl) (λ x. refl)
  row_decides c _ (invites q i e f a) = nothing (λ d. refl) (λ d. refl) (λ x. refl)
  row_decides c _ (accepts t i e f) = nothing (λ d. refl) (λ d. refl) (λ x. refl)
  row_decides c _ (sends_work q t op i e f a) = nothing (λ d. refl) (λ d. refl) (λ x. refl)
  row_decides c _ (finds_nobody i e f) = nothing (λ d. refl) (λ d. refl) (λ x. and_false (same_txn c.txn x))
  row_decides c _ (asks_for_votes PresumeAbort i e f a) = nothing (λ d. refl) (λ d. refl) (λ x. refl)
  row_decides c _ (asks_for_votes PresumeCommit i e f a) = nothing (λ d. refl) (λ d. refl) (λ x. refl)
  row_decides c _ (gives_up why p i e f) = drop why i e (λ d. refl) (λ d. refl) (λ x g. only_txn c x true g)
  row_decides c _ (counts_vote t w i f e) = nothing (λ d. refl) (λ d. refl) (λ x. refl)
  row_decides c _ (reads_only t w ys PresumeAbort i e f) =
      nothing (λ d. refl) (λ d. refl) (λ x. and_false (same_txn c.txn x))
  row_decides c _ (reads_only t w ys PresumeCommit i e f) =
      nothing (λ d. refl) (λ d. refl) (λ x. and_false (same_txn c.txn x))
  row_decides c _ (commits t w ys PresumeAbort i e f a) =
      commit i.vote.stands (λ d. refl) (λ d g. only_it c d g) (λ x. and_false (same_txn c.txn x))
  row_decides c _ (commits t w ys PresumeCommit i e f a) =
      commit i.vote.stands (λ d. refl) (λ d g. only_it c d g) (λ x. and_false (same_txn c.txn x))
  row_decides c _ (promises t w ys p i e f) = absurd (cc)
  row_decides c _ (hears_no t us PresumeAbort i e f) =
      abort i.stands (λ d. refl) (λ d g. only_it c d g) (itself c) (λ x g. only_txn c x true g)
  row_decides c _ (hears_no t us PresumeCommit i e f) =
      abort i.stands (λ d. refl) (λ d g. only_it c d g) (itself c) (λ x g. only_txn c x true g)
  row_decides c _ (aborts why us PresumeAbort i e f a) =
      abort e (λ d. refl) (λ d g. only_it c d g) (itself c) (λ x g. only_txn c x true g)
  row_decides c _ (aborts why us PresumeCommit i e f a) =
      abort e (λ d. refl) (λ d g. only_it c d g) (itself c) (λ x g. only_txn c x true g)
  row_decides c _ (passes_commit p i e f) = absurd (let x = i.is_parent in cc)
  row_decides c _ (passes_abort p i e f) = absurd (let x = i.is_parent in cc)
  row_decides c _ (repeats_yes j i e) = absurd (let x = i.is_parent in cc)
  row_decides c _ (asks i e) = nothing (λ d. refl) (λ d. refl) (λ x. refl)
  row_decides c _ (refuses j i e) = absurd (let x = i.is_parent in cc)
  row_decides c _ (acknowledges o fs i e) = absurd (let x = i.is_parent in cc)
  row_decides c _ (waits_for_acks t o fs i e f a) = nothing (λ d. refl) (λ d. refl) (λ x. refl)
  row_decides c _ (ends t o fs i e f a) = nothing (λ d. refl) (λ d. refl) (λ x. refl)
  row_decides c _ (clears i e f a) = nothing (λ d. refl) (λ d. refl) (λ x. refl)
  row_decides c _ (answers t o i e) = nothing (λ d. refl) (λ d. refl) (λ x. refl)

  -- What an input that does so found.

  -- a Commit is of a case that collects
  pub commits_collecting : (e : Effect) → CoordinatorTurn place None n h e → (d : Case)
      → commits_now d e ≡ true
      → (coordinator_view place n d).standing ≡ Collecting
  unfolding has
  commits_collecting _ (of_case c row t) d g = by_decision (row_decides c row t)
    where
      by_decision : Decision c (row_effect c row) → (coordinator_view place n d).standing ≡ Collecting
      by_decision (commit s a k f) =
          subst (λ (x : Case). (coordinator_view place n x).standing ≡ Collecting) (k d g) s
      by_decision (abort s k a o f) = absurd (let x = sym (k d) ∙ g in cc)
      by_decision (drop why i s k a f) = absurd (let x = sym (k d) ∙ g in cc)
      by_decision (nothing k a f) = absurd (let x = sym (k d) ∙ g in cc)
  commits_collecting _ (does_nothing i) d g = absurd (cc)
  commits_collecting _ (begins p e i) d g = absurd (cc)
  commits_collecting _ (gives_again p y u e i a) d g = absurd (cc)
  commits_collecting _ (gives_fresh p y e i a) d g = absurd (cc)
  commits_collecting _ (presumes y u i e) d g = absurd (cc)

  -- an Abort too, and it stands alone
  pub record AbortsCollecting (d : Case) (e : Effect) : Type 0 where
    pub stands : (coordinator_view place n d).standing ≡ Collecting
    pub alone : commits_now d e ≡ false

  pub aborts_collecting_case : (e : Effect) → CoordinatorTurn place None n h e → (d : Case) → aborts_now d e
      ≡ true
      → AbortsCollecting d e
  unfolding has
  aborts_collecting_case _ (of_case c row t) d g = by_decision (row_decides c row t)
    where
      by_decision : Decision c (row_effect c row) → AbortsCollecting d (row_effect c row)
      by_decision (abort s k a o f) = record {
        stands = subst (λ (x : Case). (coordinator_view place n x).standing ≡ Collecting) (a d g) s;
        alone = k d;
      }
      by_decision (commit s a k f) = absurd (let x = sym (a d) ∙ g in cc)
      by_decision (drop why i s k a f) = absurd (let x = sym (a d) ∙ g in cc)
      by_decision (nothing k a f) = absurd (let x = sym (a d) ∙ g in cc)
  aborts_collecting_case _ (does_nothing i) d g = absurd (cc)
  aborts_collecting_case _ (begins p e i) d g = absurd (cc)
  aborts_collecting_case _ (gives_again p y u e i a) d g = absurd (cc)
  aborts_collecting_case _ (gives_fresh p y e i a) d g = absurd (cc)
  aborts_collecting_case _ (presumes y u i e) d g = absurd (cc)

  -- `aborted` is told where an Abort is written, or a case that takes children is dropped
  pub data TellsAborted (x : Txn) (e : Effect) : Type 0 where
    with_abort : (c : Case) → c.txn ≡ x → aborts_now c e ≡ true → TellsAborted x e
    dropping : (c : Case) (why : Reason) → c.txn ≡ x → IsToAbort None h c why
        → (coordinator_view place n c).standing ≡ Active → ((d : Case) → commits_now d e ≡ false)
        → TellsAborted x e

  pub tells_aborted : (e : Effect) → CoordinatorTurn place None n h e → (x : Txn) → tells_now x e ≡ true
      → TellsAborted x e
  unfolding has
  tells_aborted _ (of_case c row t) x g = by_decision (row_decides c row t)
    where
      by_decision : Decision c (row_effect c row) → TellsAborted x (row_effect c row)
      by_decision (abort s k a o f) = with_abort c (f x g) o
      by_decision (drop why i s k a f) = dropping c why (f x g) i s k
      by_decision (commit s a k f) = absurd (let y = sym (f x) ∙ g in cc)
      by_decision (nothing k a f) = absurd (let y = sym (f x) ∙ g in cc)
  tells_aborted _ (does_nothing i) x g = absurd (cc)
  tells_aborted _ (begins p e i) x g = absurd (cc)
  tells_aborted _ (gives_again p y u e i a) x g = absurd (cc)
  tells_aborted _ (gives_fresh p y e i a) x g = absurd (cc)
  tells_aborted _ (presumes y u i e) x g = absurd (cc)
