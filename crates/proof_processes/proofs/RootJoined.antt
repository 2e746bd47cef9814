-- Whom a root's case accepted, JOINED named for it: over every run.
use Rattle.std.proofs.Common.{◌≡◌, ◌∙◌, ◌||◌, ◌⊎◌, inl, inr, ℕ, zero, suc, Bool, true, false, Option, Some, None, List, ◌++◌, refl, sym, ap, subst, arith}
use Rattle.std.proofs.lemmas.List.Folds.{list_any-append}
use Rattle.protocol.specs.declared.names.Case.{Case}
use Rattle.protocol.specs.declared.names.ProcessId.{ProcessId}
use Rattle.protocol.specs.declared.names.Ticket.{Ticket}
use Rattle.protocol.specs.declared.names.Presumption.TheVariants.{PresumeAbort, PresumeCommit}
use Rattle.protocol.specs.declared.messages.Envelope.{Envelope}
use Rattle.protocol.specs.declared.messages.Message.TheVariants.{Joined}
use Rattle.protocol_words.specs.Variants.{Handles, MessageInput}
use Rattle.protocol.specs.declared.events.Input.{Input}
use Rattle.protocol.specs.declared.trees.TreeProcess.{TreeProcess}
use Rattle.protocol.specs.Names.{process_of}
use Rattle.protocol.specs.Nodes.{Role, AtRoot, Below, AtLeaf, Place, place_of, role_of, Node, Heard, Effect, after, fails_in, IsCoordinator}
use Rattle.protocol.specs.CoordinatorRows.{Row}
use Rattle.protocol.specs.Reactions.{row_effect, reacts, Does}
use Rattle.protocol.specs.Restarts.{trim_fails}
use Rattle.protocol.specs.World.{World, Move, Made, IsRun, opens, makes, InputStands, MayHappen}
use Rattle.protocol.specs.Outcomes.{sent, has_accepted, is_joined_message}
use Rattle.protocol.proofs.RunLaws.{makes_at}
use Rattle.proof_pairs.specs.turns.CoordinatorTurns.{CaseTurn, rests, invites, accepts, sends_work, finds_nobody, asks_for_votes, gives_up, counts_vote, reads_only, commits, promises, hears_no, aborts, passes_commit, passes_abort, repeats_yes, asks, refuses, acknowledges, waits_for_acks, ends, clears, answers, CoordinatorTurn, does_nothing, of_case, begins, gives_again, gives_fresh, presumes}
use Rattle.proof_pairs.specs.turns.Steps.{StepOf, heard_in, handled, failed_in, passed, failed_passing, reopened, failed_reopening, trims_log, failed_trimming}
use Rattle.proof_pairs.proofs.turns.Steps.{step_of}
use Rattle.proof_pairs.proofs.turns.CoordinatorReactions.{CoordinatorTurnAt, coordinator_turn_of}
use Rattle.proof_processes.proofs.Tests.{either, right}
use Rattle.proof_processes.proofs.Deliveries.{was_sent}
use Rattle.proof_processes.proofs.RootCases.{IsRoots, accepted}
use Rattle.proof_pairs.proofs.readings.Lists.{sent-append}
use Rattle.proof_processes.proofs.RootHistories.{took}
use Rattle.proof_processes.proofs.RootNumbered.{all_root_cases}
use Rattle.proof_processes.proofs.Worlds.{put}

-- An input accepts only whom JOINED names.

module _ (place : Place) (parent : Option ProcessId) (n : Node) (h : Heard) (c : Case) (t : Ticket) where
  abbrev pub HearsJoined : Type 0
  HearsJoined = (k : ℕ) × ((d : Case) × ((u : Ticket) × ((h.input ≡ MessageInput k (Joined d u))
      × (is_joined_message c t (Joined d u) ≡ true))))

  row_accepts : (d : Case) (row : Row) → CaseTurn place parent n h d row
      → took c t (row_effect d row).accepts ≡ true → HearsJoined
  row_accepts d _ (accepts u i e f) g = (i.0, (d, (u, (i.1, or_nothing _ g))))
    where
      or_nothing : (x : Bool) → (x || false) ≡ true → x ≡ true
      or_nothing x y = grind arith
  row_accepts d _ (rests r) g = absurd (cc)
  row_accepts d _ (invites q i e f a) g = absurd (cc)
  row_accepts d _ (sends_work q u op i e f a) g = absurd (cc)
  row_accepts d _ (finds_nobody i e f) g = absurd (cc)
  row_accepts d _ (asks_for_votes PresumeAbort i e f a) g = absurd (cc)
  row_accepts d _ (asks_for_votes PresumeCommit i e f a) g = absurd (cc)
  row_accepts d _ (gives_up why p i e f) g = absurd (cc)
  row_accepts d _ (counts_vote u w i f e) g = absurd (cc)
  row_accepts d _ (reads_only u w ys p i e f) g = absurd (cc)
  row_accepts d _ (commits u w ys PresumeAbort i e f a) g = absurd (cc)
  row_accepts d _ (commits u w ys PresumeCommit i e f a) g = absurd (cc)
  row_accepts d _ (promises u w ys p i e f) g = absurd (cc)
  row_accepts d _ (hears_no u us PresumeAbort i e f) g = absurd (cc)
  row_accepts d _ (hears_no u us PresumeCommit i e f) g = absurd (cc)
  row_accepts d _ (aborts why us PresumeAbort i e f a) g = absurd (cc)
  row_accepts d _ (aborts why us PresumeCommit i e f a) g = absurd (cc)
  row_accepts d _ (passes_commit PresumeAbort i e f) g = absurd (cc)
  row_accepts d _ (passes_commit PresumeCommit i e f) g = absurd (cc)
  row_accepts d _ (passes_abort PresumeAbort i e f) g = absurd (cc)
  row_accepts d _ (passes_abort PresumeCommit i e f) g = absurd (cc)
  row_accepts d _ (repeats_yes j i e) g = absurd (cc)
  row_accepts d _ (asks i e) g = absurd (cc)
  row_accepts d _ (refuses j i e) g = absurd (cc)
  row_accepts d _ (acknowledges o fs i e) g = absurd (cc)
  row_accepts d _ (waits_for_acks u o fs i e f a) g = absurd (cc)
  row_accepts d _ (ends u o fs i e f a) g = absurd (cc)
  row_accepts d _ (clears i e f a) g = absurd (cc)
  row_accepts d _ (answers u o i e) g = absurd (cc)

  pub effect_accepts : (e : Effect) → CoordinatorTurn place parent n h e → took c t e.accepts ≡ true
      → HearsJoined
  effect_accepts _ (of_case d row r) g = row_accepts d row r g
  effect_accepts _ (does_nothing i) g = absurd (cc)
  effect_accepts _ (begins p e i) g = absurd (cc)
  effect_accepts _ (gives_again p y u e i a) g = absurd (cc)
  effect_accepts _ (gives_fresh p y e i a) g = absurd (cc)
  effect_accepts _ (presumes y u i e) g = absurd (cc)

abbrev AllJoined : List Envelope → Node → Type 0
AllJoined net n = (c : Case) (t : Ticket) → has_accepted n c t ≡ true
    → sent (is_joined_message c t) net ≡ true

joined_by : (role : Role) → IsCoordinator role
    → (place : Place) (n : Node) (h : Heard) (c : Case) (t : Ticket)
    (e : Effect) → CoordinatorTurnAt role place n h e → took c t e.accepts ≡ true
    → HearsJoined place None n h c t
joined_by AtRoot i place n h c t e r g = effect_accepts place None n h c t e r g
joined_by (Below p) i place n h c t e r g = effect_accepts place (Some p) n h c t e r g
joined_by (AtLeaf p) i place n h c t e r g = absurd i

module _ (place : Place) (net : List Envelope) (n : Node) (i : IsCoordinator place.role)
    (old : AllJoined net n) where
  heard_joined : (m : Move) (x : Input) (e : Effect) → MayHappen net place.me m.step.happening
      → m.step.happening ≡ Handles x
      → reacts place n (heard_in m x) ≡ Does e → (k : Node) → k.accepted ≡ e.accepts ++ n.accepted
      → AllJoined net k
  heard_joined m x e stands hp r k a c t g =
      by_either (either _ _ (sym (list_any-append _ e.accepts n.accepted) ∙ (ap (took c t) (sym a) ∙ g)))
    where
      came : InputStands net place.me x
      came = subst (MayHappen net place.me) hp stands

      by_either : (took c t e.accepts ≡ true) ⊎ (has_accepted n c t ≡ true)
          → sent (is_joined_message c t) net ≡ true
      by_either (inr before) = old c t before
      by_either (inl now) =
          let j = joined_by place.role i place n (heard_in m x) c t e
          (coordinator_turn_of place n (heard_in m x) e r)
          now in
          was_sent (is_joined_message c t) net place.me x j.0 (Joined j.1.0 j.1.1.0) came j.1.1.1.0 j.1.1.1.1

  trim_failed : (a : ℕ) → AllJoined net (trim_fails place n a)
  trim_failed zero = old
  trim_failed (suc a) = old

  joined_last : (m : Move) → MayHappen net place.me m.step.happening → (e : Effect) (k : Node)
      → StepOf place n m e k
      → AllJoined net k
  joined_last m stands _ _ (handled x g hp np r) =
      heard_joined m x g stands hp r (after n (heard_in m x) g) refl
  joined_last m stands _ _ (failed_in x f g fl hp np r) =
      heard_joined m x g stands hp r (fails_in n (heard_in m x) g f.appended f.forced) refl
  joined_last m stands _ _ (passed x hp r) = old
  joined_last m stands _ _ (failed_passing x f fl hp r) = old
  joined_last m stands _ _ (reopened k hp) = old
  joined_last m stands _ _ (failed_reopening k f fl hp) = old
  joined_last m stands _ _ (trims_log hp up) = old
  joined_last m stands _ _ (failed_trimming f fl hp up) = trim_failed f.appended

more_sent : (net ls : List Envelope) (n : Node) → AllJoined net n → AllJoined (net ++ ls) n
more_sent net ls n old c t g =
    sent-append (is_joined_message c t) net ls ∙ right _ _ (old c t g)

-- Runs.

-- at each coordinator
pub all_joined : (tree : List TreeProcess) (es : List Made) (w : World) → IsRun tree es w → (p : ProcessId)
    → IsCoordinator (role_of tree p) → AllJoined w.net (w.at p)
all_joined tree _ _ opens p i = λ c t g. absurd (cc)
all_joined tree _ _ (makes es w m e w' run stands step) p i =
    let at = makes_at tree w m e w' step in
    let q = m.step.process in
    let s = step_of (place_of tree q) (w.at q) m e at.node at.made in
    let P : ProcessId → Node → Type 0 = λ x k. IsCoordinator (role_of tree x)
    → AllJoined (w.net ++ e.messages) k in
    subst (λ (x : World). IsCoordinator (role_of tree p) → AllJoined x.net (x.at p)) (sym at.world)
    (put P q p at.node w.at
    (λ c. more_sent w.net e.messages at.node
    (joined_last (place_of tree q) w.net (w.at q) c (all_joined tree es w run q c) m stands e at.node s))
    (λ c. more_sent w.net e.messages (w.at p) (all_joined tree es w run p c))) i

-- a root's case is its own
pub own_case : (me : ProcessId) (b k : ℕ) (c : Case) → IsRoots me b k c → process_of c ≡ me
own_case me b k c r =
    subst (λ (o : Option Ticket). process_of (record { txn = c.txn; ticket = o }) ≡ me)
    (sym r.no_ticket) r.own

pub accepted_was_joined : (tree : List TreeProcess) (es : List Made) (w : World) → IsRun tree es w
    → (p : ProcessId)
    → role_of tree p ≡ AtRoot → (c : Case) (t : Ticket) → has_accepted (w.at p) c t ≡ true
    → (process_of c ≡ p) × (sent (is_joined_message c t) w.net ≡ true)
accepted_was_joined tree es w run p e c t g = (
  own_case p _ _ c ((all_root_cases tree es w run p e).begun_before c (accepted t g)),
  all_joined tree es w run p (subst IsCoordinator (sym e) tt) c t g,
)
