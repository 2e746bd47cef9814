-- What the application is told is the transaction's outcome.
use Rattle.std.proofs.Common.{◌≡◌, ◌∙◌, ◌||◌, ap, sym, subst, refl, inl, inr, ℕ, Bool, true, false, cond, is_none, Option, Some, None, List, [], ◌∷◌, ◌++◌, filter, zero, suc}
use Rattle.std.specs.Prelude.{⊤}
use Rattle.std.specs.List.{AllByRecursion, list_any}
use Rattle.protocol.specs.declared.names.Case.{Case}
use Rattle.protocol_words.specs.outcome
use Rattle.protocol.specs.declared.names.Presumption.TheVariants.{PresumeAbort, PresumeCommit}
use Rattle.protocol.specs.declared.names.ProcessId.{ProcessId}
use Rattle.protocol.specs.declared.names.Ticket.{Ticket}
use Rattle.protocol.specs.declared.names.Txn.{Txn}
use Rattle.protocol_words.specs.Variants.{CommitRecord}
use Rattle.protocol.specs.declared.events.Conclusion.{Conclusion}
use Rattle.protocol.specs.declared.events.Conclusion.TheVariants.{Committed, Aborted, ReadOnly}
use Rattle.protocol.specs.declared.events.JournalEntry.{JournalEntry}
use Rattle.protocol.specs.declared.events.Fault.{Fault}
use Rattle.protocol.specs.declared.events.Told.{Told}
use Rattle.protocol.specs.declared.trees.TreeProcess.{TreeProcess}
use Rattle.protocol.specs.Names.{root_case, same_process}
use Rattle.protocol.specs.NameLaws.{same_case-refl, same_process_tells, same_txn_tells}
use Rattle.protocol.specs.Names.{same_txn}
use Rattle.protocol.specs.Nodes.{AtLeaf, AtRoot, Below, Effect, Heard, Node, Place, Role, Written, after, appends, is_any_forced, place_of, role_of, told_first}
use Rattle.protocol.specs.Outcomes.{is_commit_outcome, is_told_aborted}
use Rattle.protocol.specs.CoordinatorRows.{Row, forced}
use Rattle.protocol.specs.Reactions.{Does, reacts, told_of}
use Rattle.protocol.specs.Records.{has, is_commit}
use Rattle.protocol.specs.Restarts.{trim_fails}
use Rattle.protocol.specs.Trees.{IsTree}
use Rattle.protocol.specs.World.{IsRun, Made, Move, World, entry_of, journal_of, makes, opens, put_at, world_makes}
use Rattle.protocol.proofs.RunLaws.{makes_at}
use Rattle.proof_pairs.specs.readings.ReadingOf.{is_told_of_txn}
use Rattle.proof_pairs.specs.turns.CoordinatorTurns.{CaseTurn, rests, invites, accepts, sends_work, finds_nobody, asks_for_votes, gives_up, counts_vote, reads_only, commits, promises, hears_no, aborts, passes_commit, passes_abort, repeats_yes, asks, refuses, acknowledges, waits_for_acks, ends, clears, answers, CoordinatorTurn, does_nothing, of_case, begins, gives_again, gives_fresh, presumes}
use Rattle.proof_pairs.specs.turns.LeafTurns.{LeafTurn}
use Rattle.proof_pairs.specs.turns.LeafTurns
use Rattle.proof_pairs.specs.turns.Steps.{StepOf, TurnAt, handled, failed_in, passed, failed_passing, reopened, failed_reopening, trims_log, failed_trimming, heard_in}
use Rattle.proof_pairs.proofs.turns.CoordinatorReactions.{CoordinatorTurnAt, coordinator_turn_of}
use Rattle.proof_pairs.proofs.turns.Steps.{step_of, turn_of}
use Rattle.proof_processes.specs.WorldHolds.{RootHolds, has_begun, is_record_of}
use Rattle.proof_processes.proofs.RootsHold.{roots_begin}
use Rattle.proof_headline.proofs.Grows.{durable_still}
use Rattle.proof_headline.proofs.runs.Headline
use Rattle.proof_lives.specs.Tells.{EntriesTellSo, IsOutcome, TellsSo, ToldIsSo}

-- Rows that tell.

-- where commit is told, a Commit of the case was forced
abbrev TellsBy : Case → List Written → Conclusion → Type 0
TellsBy c ws Committed = (ts : List Ticket) × (ws ≡ forced (CommitRecord c ts))
TellsBy c ws _ = ⊤

some_same : (a b : Conclusion) → Some a ≡ Some b → a ≡ b
some_same a b e = cc

-- else nothing is asked
quiet_by : (c : Case) (ws : List Written) (a b : Conclusion) → a ≡ b → (a ≡ Committed → ⊥) → TellsBy c ws b
quiet_by c ws a Committed e other = absurd (other e)
quiet_by c ws a Aborted e other = tt
quiet_by c ws a ReadOnly e other = tt

module _ (place : Place) (n : Node) (h : Heard) where
  -- the root alone tells
  row_tells : (parent : Option ProcessId) (c : Case) (row : Row) → CaseTurn place parent n h c row
      → (a : Conclusion) → row.told ≡ Some a → (parent ≡ None) × TellsBy c row.written a
  row_tells None c _ (finds_nobody i e f) a g =
      (refl, quiet_by c _ ReadOnly a (some_same ReadOnly a g) (λ y. cc))
  row_tells None c _ (gives_up why p i e f) a g =
      (refl, quiet_by c _ Aborted a (some_same Aborted a g) (λ y. cc))
  row_tells None c _ (reads_only t w ys p i e f) a g =
      (refl, quiet_by c _ ReadOnly a (some_same ReadOnly a g) (λ y. cc))
  row_tells None c _ (hears_no t us PresumeAbort i e f) a g =
      (refl, quiet_by c _ Aborted a (some_same Aborted a g) (λ y. cc))
  row_tells None c _ (hears_no t us PresumeCommit i e f) a g =
      (refl, quiet_by c _ Aborted a (some_same Aborted a g) (λ y. cc))
  row_tells None c _ (aborts why us PresumeAbort i e f k) a g =
      (refl, quiet_by c _ Aborted a (some_same Aborted a g) (λ y. cc))
  row_tells None c _ (aborts why us PresumeCommit i e f k) a g =
      (refl, quiet_by c _ Aborted a (some_same Aborted a g) (λ y. cc))
  row_tells (Some p) c _ (finds_nobody i e f) a g = absurd (cc)
  row_tells (Some p) c _ (gives_up why q i e f) a g = absurd (cc)
  row_tells (Some p) c _ (reads_only t w ys q i e f) a g = absurd (cc)
  row_tells (Some p) c _ (hears_no t us PresumeAbort i e f) a g = absurd (cc)
  row_tells (Some p) c _ (hears_no t us PresumeCommit i e f) a g = absurd (cc)
  row_tells (Some p) c _ (aborts why us PresumeAbort i e f k) a g = absurd (cc)
  row_tells (Some p) c _ (aborts why us PresumeCommit i e f k) a g = absurd (cc)
  row_tells parent c _ (commits t w ys PresumeAbort i e f k) a g =
      (f, subst (λ x. TellsBy c (forced (CommitRecord c ys)) x) (some_same Committed a g) (ys, refl))
  row_tells parent c _ (commits t w ys PresumeCommit i e f k) a g =
      (f, subst (λ x. TellsBy c (forced (CommitRecord c [])) x) (some_same Committed a g) ([], refl))
  row_tells parent c _ (rests r) a g = absurd (cc)
  row_tells parent c _ (invites q i e f k) a g = absurd (cc)
  row_tells parent c _ (accepts t i e f) a g = absurd (cc)
  row_tells parent c _ (sends_work q t op i e f k) a g = absurd (cc)
  row_tells parent c _ (asks_for_votes PresumeAbort i e f k) a g = absurd (cc)
  row_tells parent c _ (asks_for_votes PresumeCommit i e f k) a g = absurd (cc)
  row_tells parent c _ (counts_vote t w i f e) a g = absurd (cc)
  row_tells parent c _ (promises t w ys p i e f) a g = absurd (cc)
  row_tells parent c _ (passes_commit PresumeAbort i e f) a g = absurd (cc)
  row_tells parent c _ (passes_commit PresumeCommit i e f) a g = absurd (cc)
  row_tells parent c _ (passes_abort PresumeAbort i e f) a g = absurd (cc)
  row_tells parent c _ (passes_abort PresumeCommit i e f) a g = absurd (cc)
  row_tells parent c _ (repeats_yes j i e) a g = absurd (cc)
  row_tells parent c _ (asks i e) a g = absurd (cc)
  row_tells parent c _ (refuses j i e) a g = absurd (cc)
  row_tells parent c _ (acknowledges o fs i e) a g = absurd (cc)
  row_tells parent c _ (waits_for_acks t o fs i e f k) a g = absurd (cc)
  row_tells parent c _ (ends t o fs i e f k) a g = absurd (cc)
  row_tells parent c _ (clears i e f b) a g = absurd (cc)
  row_tells parent c _ (answers t o i e) a g = absurd (cc)

  -- what an input told, of which case
  pub record Says (role : Role) (e : Effect) (u : Told) : Type 0 where
    pub at_root : role ≡ AtRoot
    pub own : Case
    pub of : own.txn ≡ u.txn
    pub by : TellsBy own e.written u.conclusion

  told_is : (c : Case) (o : Option Conclusion) (u : Told) → told_of c.txn o ≡ Some u
      → (o ≡ Some u.conclusion) × (c.txn ≡ u.txn)
  told_is c None u g = absurd (cc)
  told_is c (Some a) u g =
      let is : record { txn = c.txn; conclusion = a } ≡ u = cc in
      (ap (λ (t : Told). Some t.conclusion) is, ap (λ (t : Told). t.txn) is)

  turn_tells : (role : Role) (parent : Option ProcessId) (e : Effect) → CoordinatorTurn place parent n h e
      → (parent ≡ None → role ≡ AtRoot) → (u : Told) → e.told ≡ Some u → Says role e u
  turn_tells role parent _ (of_case c row t) top u g =
      let is = told_is c row.told u g in
      let so = row_tells parent c row t u.conclusion is.0 in
      record { at_root = top so.0; own = c; of = is.1; by = so.1 }
  turn_tells role parent _ (does_nothing i) top u g = absurd (cc)
  turn_tells role parent _ (begins p e i) top u g = absurd (cc)
  turn_tells role parent _ (gives_again p d t e i k) top u g = absurd (cc)
  turn_tells role parent _ (gives_fresh p d e i k) top u g = absurd (cc)
  turn_tells role parent _ (presumes x t i e) top u g = absurd (cc)

  leaf_tells : (p : ProcessId) (e : Effect) → LeafTurn place p n h e → e.told ≡ None
  leaf_tells p _ LeafTurns.does_nothing = refl
  leaf_tells p _ (LeafTurns.gives_again d t i k) = refl
  leaf_tells p _ (LeafTurns.gives_fresh d i k s) = refl
  leaf_tells p _ (LeafTurns.votes_yes d j ws i k) = refl
  leaf_tells p _ (LeafTurns.votes_read d j i k) = refl
  leaf_tells p _ (LeafTurns.votes_no d j i k) = refl
  leaf_tells p _ (LeafTurns.repeats_yes d j i k) = refl
  leaf_tells p _ (LeafTurns.refuses d j i k) = refl
  leaf_tells p _ (LeafTurns.obeys d o i k) = refl
  leaf_tells p _ (LeafTurns.notes d o i k) = refl
  leaf_tells p _ (LeafTurns.acknowledges_told d o i k) = refl
  leaf_tells p _ (LeafTurns.acknowledges d o i k) = refl
  leaf_tells p _ (LeafTurns.drops d i k) = refl
  leaf_tells p _ (LeafTurns.asks d i k) = refl
  leaf_tells p _ (LeafTurns.decides d o i k) = refl
  leaf_tells p _ (LeafTurns.forgets d i k) = refl

  says_by : (role : Role) (e : Effect) → CoordinatorTurnAt role place n h e → TurnAt role place n h e
      → (u : Told) → e.told ≡ Some u → Says role e u
  says_by AtRoot e t l u g = turn_tells AtRoot None e t (λ top. refl) u g
  says_by (Below p) e t l u g = turn_tells (Below p) (Some p) e t (λ top. absurd (cc)) u g
  says_by (AtLeaf p) e t l u g = absurd (let clash : None ≡ Some u = sym (leaf_tells p e l) ∙ g in cc)

  input_says : (e : Effect) → reacts place n h ≡ Does e → (u : Told) → e.told ≡ Some u → Says place.role e u
  input_says e does u g =
      says_by place.role e (coordinator_turn_of place n h e does) (turn_of place n h e does).turn u g

-- What was told stays told.

either_later : (a b : Bool) → b ≡ true → (a || b) ≡ true
either_later true b e = refl
either_later false b e = e

first_told : (q : Told → Bool) (o : Option Told) (ts : List Told) → list_any q ts ≡ true
    → list_any q (told_first o ts) ≡ true
first_told q None ts e = e
first_told q (Some t) ts e = either_later (q t) (list_any q ts) e

appends_told : (n : Node) (ws : List Written) → (appends n ws).told ≡ n.told
appends_told n ws = by_force (is_any_forced ws) refl
  where
    by_force : (b : Bool) → is_any_forced ws ≡ b → (appends n ws).told ≡ n.told
    by_force true f = rw f refl
    by_force false f = rw f refl

appends_failed : (n : Node) (ws : List Written) → (appends n ws).failed ≡ n.failed
appends_failed n ws = by_force (is_any_forced ws) refl
  where
    by_force : (b : Bool) → is_any_forced ws ≡ b → (appends n ws).failed ≡ n.failed
    by_force true f = rw f refl
    by_force false f = rw f refl

module _ (place : Place) (m : Move) (q : Told → Bool) where
  told_still : (n : Node) (e : Effect) (k : Node) → StepOf place n m e k → list_any q n.told ≡ true
      → list_any q k.told ≡ true
  told_still n _ _ (handled i g hp np r) e = first_told q g.told n.told e
  told_still n _ _ (failed_in i f g fl hp np r) e = e
  told_still n _ _ (passed i hp r) e = e
  told_still n _ _ (failed_passing i f fl hp r) e = e
  told_still n _ _ (reopened j hp) e = e
  told_still n _ _ (failed_reopening j f fl hp) e = e
  told_still n _ _ (trims_log hp up) e = e
  told_still n _ _ (failed_trimming f fl hp up) e = by_front f.appended
    where
      by_front : (j : ℕ) → list_any q (trim_fails place n j).told ≡ true
      by_front zero = e
      by_front (suc j) = e

-- A step that tells is an input that was handled.

pub record Handled (place : Place) (n : Node) (e : Effect) (k : Node) : Type 0 where
  pub heard : Heard
  pub does : reacts place n heard ≡ Does e
  pub is : k ≡ after n heard e

module _ (place : Place) (m : Move) where
  step_handled : (n : Node) (e : Effect) (k : Node) → StepOf place n m e k → (u : Told) → e.told ≡ Some u
      → Handled place n e k
  step_handled n _ _ (handled i e hp np r) u g = record { heard = heard_in m i; does = r; is = refl }
  step_handled n _ _ (failed_in i f e fl hp np r) u g = absurd (cc)
  step_handled n _ _ (passed i hp r) u g = absurd (cc)
  step_handled n _ _ (failed_passing i f fl hp r) u g = absurd (cc)
  step_handled n _ _ (reopened j hp) u g = absurd (cc)
  step_handled n _ _ (failed_reopening j f fl hp) u g = absurd (cc)
  step_handled n _ _ (trims_log hp up) u g = absurd (cc)
  step_handled n _ _ (failed_trimming f fl hp up) u g = absurd (cc)

-- What is known of what was told.

abbrev Held : List TreeProcess → World → Txn → Conclusion → Type 0
Held tree w x Committed = is_commit_outcome w x ≡ true
Held tree w x Aborted = (role_of tree x.root ≡ AtRoot)
    × (list_any (is_told_aborted x) (w.at x.root).told ≡ true)
Held tree w x ReadOnly = ⊤

abbrev HeldOf : List TreeProcess → World → Option Told → Type 0
HeldOf tree w None = ⊤
HeldOf tree w (Some u) = Held tree w u.txn u.conclusion

same_self : (x : Txn) → same_txn x x ≡ true
same_self x = elim (same_txn_tells x x) [ inl t ↦ t.0 | inr z ↦ absurd (z.1 refl) ]

module _ (tree : List TreeProcess) (es : List Made) (w : World) (m : Move) (e : Effect) (w' : World)
    (run : IsRun tree (record { move = m; effect = e } ∷ es) w')
    (made : world_makes tree w m ≡ Some (e, w')) where
  abbrev q : ProcessId
  q = m.step.process

  left_as : w' ≡ record { at = put_at q (makes_at tree w m e w' made).node w.at; net = w.net ++ e.messages }
  left_as = (makes_at tree w m e w' made).world

  self_here : same_process q q ≡ true
  self_here = elim (same_process_tells q q) [ inl t ↦ t.0 | inr z ↦ absurd (z.1 refl) ]

  others : (p : ProcessId) → same_process q p ≡ false → w'.at p ≡ w.at p
  others p away = ap (λ (x : World). x.at p) left_as ∙ rw away refl

  step : StepOf (place_of tree q) (w.at q) m e (w'.at q)
  step =
      let at = makes_at tree w m e w' made in
      let here : w'.at q ≡ at.node = ap (λ (x : World). x.at q) at.world ∙ rw self_here refl in
      subst (λ (n : Node). StepOf (place_of tree q) (w.at q) m e n) (sym here)
      (step_of (place_of tree q) (w.at q) m e at.node at.made)

  by_process : (P : Node → Node → Type 0) → ((n : Node) → P n n) → P (w.at q) (w'.at q)
      → (p : ProcessId) → P (w.at p) (w'.at p)
  by_process P same here p = elim (same_process_tells q p) [
    | inl f ↦ subst (λ (x : ProcessId). P (w.at x) (w'.at x)) f.1 here
    | inr f ↦ subst (λ (n : Node). P (w.at p) n) (sym (others p f.0)) (same (w.at p))
  ]

  commits_still : (x : Txn) → is_commit_outcome w x ≡ true → is_commit_outcome w' x ≡ true
  unfolding is_commit_outcome
  commits_still x = by_process
      (λ n k. has (is_commit (root_case x)) n.durable ≡ true → has (is_commit (root_case x)) k.durable ≡ true)
      (λ n f. f) (durable_still (place_of tree q) m (is_commit (root_case x)) (w.at q) e (w'.at q) step)
      x.root

  aborts_still : (x : Txn) → list_any (is_told_aborted x) (w.at x.root).told ≡ true
      → list_any (is_told_aborted x) (w'.at x.root).told ≡ true
  aborts_still x = by_process
      (λ n k. list_any (is_told_aborted x) n.told ≡ true → list_any (is_told_aborted x) k.told ≡ true)
      (λ n f. f) (told_still (place_of tree q) m (is_told_aborted x) (w.at q) e (w'.at q) step) x.root

  held_still : (x : Txn) (a : Conclusion) → Held tree w x a → Held tree w' x a
  held_still x Committed h = commits_still x h
  held_still x Aborted h = (h.0, aborts_still x h.1)
  held_still x ReadOnly h = tt

  -- what is told now
  begins_here : role_of tree q ≡ AtRoot → RootHolds (place_of tree q) (w'.at q)
  begins_here top = roots_begin tree (record { move = m; effect = e } ∷ es) w' run q top

  module _ (i : Heard) (does : reacts (place_of tree q) (w.at q) i ≡ Does e)
      (is : w'.at q ≡ after (w.at q) i e)
      (u : Told) (g : e.told ≡ Some u) where
    says : Says (place_of tree q) (w.at q) i (role_of tree q) e u
    says = input_says (place_of tree q) (w.at q) i e does u g

    up : (w'.at q).failed ≡ false
    up = ap (λ (n : Node). n.failed) is
        ∙ (appends_failed (w.at q) e.written ∙ (turn_of (place_of tree q) (w.at q) i e does).up)

    told_now : (w'.at q).told ≡ u ∷ (w.at q).told
    told_now = ap (λ (n : Node). n.told) is ∙ ap (λ (o : Option Told). told_first o (w.at q).told) g

    any_told : list_any (is_told_of_txn u.txn) (w'.at q).told ≡ true
    any_told = ap (λ ts. list_any (is_told_of_txn u.txn) ts) told_now ∙ rw (same_self u.txn) refl

    has_it : has_begun (place_of tree q) (w'.at q) u.txn ≡ true
    has_it = told_begun _ _ _ _ any_told
      where
        told_begun : (a b c d : Bool) → b ≡ true → (a || b || c || d) ≡ true
        told_begun true b c d e = refl
        told_begun false true c d e = refl
        told_begun false false c d e = absurd (cc)

    own_root : u.txn.root ≡ q
    own_root = ((begins_here says.at_root).begun_once up u.txn has_it).0

    committed_now : (ts : List Ticket) → e.written ≡ forced (CommitRecord says.own ts)
        → is_commit_outcome w' u.txn ≡ true
    unfolding is_commit_outcome has
    committed_now ts ws =
        let k = w'.at q in
        let d : k ≡ after (w.at q) i (record e { written = forced (CommitRecord says.own ts) }) =
        is ∙ ap (λ (xs : List Written). after (w.at q) i (record e { written = xs })) ws in
        let recorded : has (is_record_of says.own) k.life ≡ true =
        ap (λ (n : Node). has (is_record_of says.own) n.life) d ∙ rw (same_case-refl says.own) refl in
        let own = (begins_here says.at_root).own_records says.own recorded in
        let whole : says.own ≡ root_case u.txn =
        ap (λ (o : Option Ticket). record { txn = says.own.txn; ticket = o }) own.0
        ∙ ap (λ (x : Txn). root_case x) says.of in
        let durable : has (is_commit says.own) k.durable ≡ true =
        ap (λ (n : Node). has (is_commit says.own) n.durable) d ∙ rw (same_case-refl says.own) refl in
        subst (λ (p : ProcessId). has (is_commit (root_case u.txn)) (w'.at p).durable ≡ true) (sym own_root)
        (subst (λ (c : Case). has (is_commit c) k.durable ≡ true) whole durable)

    aborted_now : u.conclusion ≡ Aborted → Held tree w' u.txn Aborted
    aborted_now a =
        let any : list_any (is_told_aborted u.txn) (w'.at q).told ≡ true =
        ap (λ ts. list_any (is_told_aborted u.txn) ts) told_now ∙ rw (same_self u.txn, a) refl in (
          ap (λ (p : ProcessId). role_of tree p) own_root ∙ says.at_root,
          subst (λ (p : ProcessId). list_any (is_told_aborted u.txn) (w'.at p).told ≡ true)
              (sym own_root) any,
        )

    held_by : (a : Conclusion) → u.conclusion ≡ a → Held tree w' u.txn a
    held_by Committed is_so =
        let by : TellsBy says.own e.written Committed =
        subst (λ (c : Conclusion). TellsBy says.own e.written c) is_so says.by in
        committed_now by.0 by.1
    held_by Aborted is_so = aborted_now is_so
    held_by ReadOnly is_so = tt

    held_now : Held tree w' u.txn u.conclusion
    held_now = held_by u.conclusion refl

  now_told : (u : Told) → e.told ≡ Some u → Held tree w' u.txn u.conclusion
  now_told u g =
      let h = step_handled (place_of tree q) m (w.at q) e (w'.at q) step u g in
      held_now h.heard h.does h.is u g

  now_held : (o : Option Told) → e.told ≡ o → HeldOf tree w' o
  now_held None g = tt
  now_held (Some u) g = now_told u g

  still_of : (o : Option Told) → HeldOf tree w o → HeldOf tree w' o
  still_of None h = tt
  still_of (Some u) h = held_still u.txn u.conclusion h

  all_still : (ds : List Made) → AllByRecursion (λ d. HeldOf tree w d.effect.told) ds
      → AllByRecursion (λ d. HeldOf tree w' d.effect.told) ds
  all_still [] h = tt
  all_still (d ∷ ds) h = (still_of d.effect.told h.0, all_still ds h.1)

all_held : (tree : List TreeProcess) (es : List Made) (w : World) → IsRun tree es w
    → AllByRecursion (λ e. HeldOf tree w e.effect.told) es
all_held tree _ _ opens = tt
all_held tree _ _ (makes es w m e w' run stands made) = (
  now_held tree es w m e w' (makes es w m e w' run stands made) made e.told refl,
  all_still tree es w m e w' (makes es w m e w' run stands made) made es (all_held tree es w run),
)

-- So it is the outcome.

module _ (tree : List TreeProcess) (is_tree : IsTree tree) (es : List Made) (w : World)
    (run : IsRun tree es w) where
  is_outcome : (x : Txn) (a : Conclusion) → Held tree w x a → IsOutcome w x a
  is_outcome x Committed h = rw h refl
  is_outcome x Aborted h =
      sym ((Headline.headline tree is_tree es w run).agreement.root_agrees x outcome.Aborted h.0
      (by_told _ _ _ h.1))
    where
      by_told : (a b c : Bool) → b ≡ true → (a || b || c) ≡ true
      by_told true b c e = refl
      by_told false true c e = refl
      by_told false false c e = absurd (cc)
  is_outcome x ReadOnly h = tt

  tells_so : (o : Option Told) → HeldOf tree w o → TellsSo w o
  tells_so None h = tt
  tells_so (Some u) h = is_outcome u.txn u.conclusion h

  all_tell : (ds : List Made) → AllByRecursion (λ d. HeldOf tree w d.effect.told) ds
      → AllByRecursion (λ d. TellsSo w d.effect.told) ds
  all_tell [] h = tt
  all_tell (d ∷ ds) h = (tells_so d.effect.told h.0, all_tell ds h.1)

pub told_so : ToldIsSo
told_so tree es w is_tree run = all_tell tree is_tree es w run es (all_held tree es w run)

-- The journal.

module _ (w : World) where
  abbrev So : JournalEntry → Type 0
  So x = TellsSo w x.reaction.told

  all_behind : (xs ys : List JournalEntry) → AllByRecursion So xs → AllByRecursion So ys
      → AllByRecursion So (xs ++ ys)
  all_behind [] ys h k = k
  all_behind (x ∷ xs) ys h k = (h.0, all_behind xs ys h.1 k)

  entry_so : (e : Made) (f : Option Fault) → e.move.step.fault ≡ f → TellsSo w e.effect.told → So (entry_of e)
  entry_so e None is h = rw is h
  entry_so e (Some f) is h = rw is tt

  journal_so : (es : List Made) → AllByRecursion (λ e. TellsSo w e.effect.told) es
      → AllByRecursion So (journal_of es)
  unfolding journal_of
  journal_so [] h = tt
  journal_so (e ∷ es) h =
      all_behind (journal_of es) (entry_of e ∷ []) (journal_so es h.1)
      (entry_so e e.move.step.fault refl h.0, tt)

  filtered : (q : JournalEntry → Bool) (xs : List JournalEntry) → AllByRecursion So xs
      → AllByRecursion So (filter q xs)
  filtered q [] h = tt
  filtered q (x ∷ xs) h = by_test (q x) (filtered q xs h.1)
    where
      by_test : (b : Bool) → AllByRecursion So (filter q xs)
          → AllByRecursion So (cond b (x ∷ filter q xs) (filter q xs))
      by_test true rest = (h.0, rest)
      by_test false rest = rest

pub entries_tell_so : EntriesTellSo
entries_tell_so s es w is_tree f =
    subst (λ xs. AllByRecursion (λ x. TellsSo w x.reaction.told) xs) f.shown
    (filtered w (λ x. is_none x.step.fault) (journal_of es)
    (journal_so w es (told_so s.tree es w is_tree f.follows.is_run)))
