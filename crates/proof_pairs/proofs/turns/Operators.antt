-- Operators' records are written for operators alone.
use Rattle.std.proofs.Common.{◌≡◌, ◌||◌, ◌⊎◌, inl, inr, ℕ, zero, suc, Bool, true, false, Option, Some, None, List, [], ◌∷◌, ◌++◌, take, refl, ap, ◌∙◌, arith}
use Rattle.std.specs.List.{list_any, flat_map}
use Rattle.std.proofs.lemmas.List.Folds.{list_any-append}
use Rattle.protocol.specs.declared.names.Case.{Case}
use Rattle.protocol.specs.declared.names.ProcessId.{ProcessId}
use Rattle.protocol.specs.declared.names.Ticket.{Ticket}
use Rattle.protocol.specs.declared.names.Outcome.{Outcome}
use Rattle.protocol_words.specs.Variants.{AbortRecord, AbortedOutcome, ActInput, CommittedOutcome, Handles}
use Rattle.protocol.specs.declared.messages.Envelope.{Envelope}
use Rattle.protocol.specs.declared.records.Record.{Record}
use Rattle.protocol.specs.declared.records.Record.TheVariants.{Opened}
use Rattle.protocol.specs.declared.standings.Standing.{Standing}
use Rattle.protocol.specs.declared.standings.Standing.TheVariants.{Unknown, Active, Collecting, Prepared, Committing, Aborting, Heuristic}
use Rattle.protocol.specs.declared.events.Act.TheVariants.{Decide, Forget}
use Rattle.protocol.specs.declared.events.Input.{Input}
use Rattle.protocol.specs.declared.trees.TreeProcess.{TreeProcess}
use Rattle.protocol.specs.NameLaws.{same_case_tells}
use Rattle.protocol.specs.Records.{has, is_decided, is_forgot, cases_in}
use Rattle.protocol.specs.Nodes.{Role, AtRoot, Below, AtLeaf, Place, place_of, Node, Heard, Written, Effect}
use Rattle.protocol.specs.Standings.{CoordinatorView}
use Rattle.protocol.specs.ManagerRows.{Leaf, ends_record, decides_record}
use Rattle.protocol.specs.Outcomes.{ByOperatorAlone}
use Rattle.protocol.specs.Restarts.{forced_all, reopens, aborts_collecting, restart_abort, recorded_view}
use Rattle.protocol.specs.World.{World, Move, Made, IsRun, opens, makes}
use Rattle.protocol.proofs.RunLaws.{makes_at}
use Rattle.proof_pairs.specs.turns.LeafTurns.{LeafTurn, does_nothing, gives_again, gives_fresh, votes_yes, votes_read, votes_no, repeats_yes, refuses, obeys, notes, acknowledges_told, acknowledges, drops, asks, decides, forgets}
use Rattle.proof_pairs.specs.turns.Written.{is_coordinators, AtMostOne, wrote_none, wrote_one, MayWrite, writes_nothing, for_act, for_report, for_child, for_parent, presumes, gives}
use Rattle.proof_pairs.specs.turns.Steps.{StepOf, heard_in, handled, failed_in, passed, failed_passing, reopened, failed_reopening, trims_log, failed_trimming, TurnAt}
use Rattle.proof_pairs.proofs.turns.Steps.{step_of, turn_of}

-- one of the records that were written passes the test
abbrev pub any_written : (Record → Bool) → List Written → Bool
any_written q ws = list_any (λ w. q w.entry) ws

-- a front of them passes no other test
pub any_taken : (q : Record → Bool) (k : ℕ) (ws : List Written) → any_written q (take k ws) ≡ true
    → any_written q ws ≡ true
any_taken q zero ws e = absurd (cc)
any_taken q (suc k) [] e = e
any_taken q (suc k) (w ∷ ws) e = elim (either (q w.entry) (any_written q (take k ws)) e) [
  | inl now ↦ first (q w.entry) (any_written q ws) now
  | inr rest ↦ second (q w.entry) (any_written q ws) (any_taken q k ws rest)
]
  where
    either : (a b : Bool) → (a || b) ≡ true → (a ≡ true) ⊎ (b ≡ true)
    either a b e = grind arith

    first : (a b : Bool) → a ≡ true → (a || b) ≡ true
    first a b e = grind arith

    second : (a b : Bool) → b ≡ true → (a || b) ≡ true
    second a b e = grind arith

-- What a restart writes: Opened, and Aborts.

pub any_forced : (q : Record → Bool) (rs : List Record) → any_written q (forced_all rs) ≡ has q rs
unfolding has
any_forced q [] = refl
any_forced q (r ∷ rs) = ap (λ b. q r || b) (any_forced q rs)

has_append : (q : Record → Bool) (xs ys : List Record) → has q (xs ++ ys) ≡ (has q xs || has q ys)
unfolding has
has_append q xs ys = list_any-append q xs ys

has_one : (q : Record → Bool) (r : Record) → q r ≡ false → has q (r ∷ []) ≡ false
unfolding has
has_one q r e = rw e refl

has_first : (q : Record → Bool) (r : Record) (rs : List Record) → q r ≡ false → has q rs ≡ false
    → has q (r ∷ rs) ≡ false
unfolding has
has_first q r rs e f = rw (e, f) refl

aborts_none : (q : Record → Bool) → ((c : Case) (ts : List Ticket) → q (AbortRecord c ts) ≡ false)
    → (c : Case) (v : CoordinatorView) (st : Standing) → has q (restart_abort c v st) ≡ false
unfolding has
aborts_none q none c v Collecting = has_one q (AbortRecord c v.named) (none c v.named)
aborts_none q none c v Unknown = refl
aborts_none q none c v Active = refl
aborts_none q none c v Prepared = refl
aborts_none q none c v Committing = refl
aborts_none q none c v Aborting = refl
aborts_none q none c v Heuristic = refl

pub all_none : (q : Record → Bool) → ((c : Case) (ts : List Ticket) → q (AbortRecord c ts) ≡ false)
    → (rs : List Record) (cs : List Case)
    → has q (flat_map (aborts_collecting rs) cs) ≡ false
unfolding has
all_none q none rs [] = refl
all_none q none rs (c ∷ cs) =
    has_append q (aborts_collecting rs c) (flat_map (aborts_collecting rs) cs)
    ∙ both _ _ (let v = recorded_view rs c in aborts_none q none c v v.standing) (all_none q none rs cs)
  where
    both : (a b : Bool) → a ≡ false → b ≡ false → (a || b) ≡ false
    both a b e f = grind arith

pub reopens_none : (q : Record → Bool) → ((c : Case) (ts : List Ticket) → q (AbortRecord c ts) ≡ false)
    → ((k : ℕ) → q (Opened k) ≡ false)
    → (role : Role) (rs : List Record) → has q (reopens role rs) ≡ false
reopens_none q none first (AtLeaf p) rs = has_one q _ (first _)
reopens_none q none first AtRoot rs = has_first q _ _ (first _) (all_none q none rs (cases_in rs))
reopens_none q none first (Below p) rs = has_first q _ _ (first _) (all_none q none rs (cases_in rs))

-- Turns.

-- a record that only an operator writes, and the act that asks for it
pub record OperatorsOwn (q : Record → Bool) (i : Input) : Type 0 where
  pub opened : (k : ℕ) → q (Opened k) ≡ false
  pub aborted : (c : Case) (ts : List Ticket) → q (AbortRecord c ts) ≡ false
  pub coordinators : (r : Record) → is_coordinators r ≡ true → q r ≡ false
  pub leaf : (place : Place) (p : ProcessId) (n : Node) (h : Heard) (e : Effect) → LeafTurn place p n h e
      → any_written q e.written ≡ true → h.input ≡ i

module _ (q : Record → Bool) (i : Input) (own : OperatorsOwn q i) where
  at_most_one : (c : Case) (ws : List Written) → AtMostOne c ws → any_written q ws ≡ false
  at_most_one c _ wrote_none = refl
  at_most_one c _ (wrote_one r b of kind) = rw (own.coordinators r kind) refl

  wrote : (place : Place) (parent : Option ProcessId) (n : Node) (j : Input) (ws : List Written)
      (ls : List Envelope)
      → MayWrite place parent n j ws ls → any_written q ws ≡ false
  wrote place parent n j ws ls (writes_nothing e f) = rw e refl
  wrote place parent n j ws ls (for_act a c e f one sent) = at_most_one c ws one
  wrote place parent n j ws ls (for_report c e f g one h) = at_most_one c ws one
  wrote place parent n j ws ls (for_child c x t e one sent) = at_most_one c ws one
  wrote place parent n j ws ls (for_parent c k m e f one sent) = at_most_one c ws one
  wrote place parent n j ws ls (presumes x t o e f) = rw e refl
  wrote place parent n j ws ls (gives p d t e f k y a) = rw e refl

  by_role : (role : Role) (place : Place) (n : Node) (h : Heard) (e : Effect) → TurnAt role place n h e
      → any_written q e.written ≡ true → h.input ≡ i
  by_role AtRoot place n h e t f = absurd (let g = wrote place None n h.input e.written e.messages t in cc)
  by_role (Below p) place n h e t f = absurd
      (let g = wrote place (Some p) n h.input e.written e.messages t in cc)
  by_role (AtLeaf p) place n h e t f = own.leaf place p n h e t f

  pub by_step : (place : Place) (n : Node) (m : Move) (e : Effect) (k : Node) → StepOf place n m e k
      → any_written q e.written ≡ true → m.step.happening ≡ Handles i
  by_step place n m _ _ (handled j g hp np r) f =
      hp ∙ ap (λ x. Handles x)
      (by_role place.role place n (heard_in m j) g (turn_of place n (heard_in m j) g r).turn f)
  by_step place n m _ _ (failed_in j ft g fl hp np r) f =
      hp ∙ ap (λ x. Handles x)
      (by_role place.role place n (heard_in m j) g (turn_of place n (heard_in m j) g r).turn
      (any_taken q ft.appended g.written f))
  by_step place n m _ _ (passed j hp r) f = absurd (cc)
  by_step place n m _ _ (failed_passing j ft fl hp r) f = absurd (cc)
  by_step place n m _ _ (reopened k hp) f = absurd
      (reopened_so _ (any_forced q (reopens place.role _) ∙ reopens_none q own.aborted own.opened place.role
      _) f)
    where
      reopened_so : (b : Bool) → b ≡ false → b ≡ true → ⊥
      reopened_so b e f = cc
  by_step place n m _ _ (failed_reopening k ft fl hp) f =
      absurd (not_both _ (any_forced q (reopens place.role _) ∙ reopens_none q own.aborted own.opened
      place.role _)
      (any_taken q ft.appended (forced_all (reopens place.role _)) f))
    where
      not_both : (b : Bool) → b ≡ false → b ≡ true → ⊥
      not_both b e f = cc
  by_step place n m _ _ (trims_log hp up) f = absurd (cc)
  by_step place n m _ _ (failed_trimming ft fl hp up) f = absurd (cc)

-- An operator's decision.

decided_tells : (c : Case) (o : Outcome) (l : Leaf) (u : Outcome)
    → is_decided c o (decides_record l u) ≡ true → (l.own ≡ c) × (u ≡ o)
decided_tells c CommittedOutcome l CommittedOutcome e =
    (let t = same_case_tells l.own c in grind (arith, t), refl)
decided_tells c AbortedOutcome l AbortedOutcome e =
    (let t = same_case_tells l.own c in grind (arith, t), refl)
decided_tells c CommittedOutcome l AbortedOutcome e = absurd (cc)
decided_tells c AbortedOutcome l CommittedOutcome e = absurd (cc)

alone : (b : Bool) → (b || false) ≡ true → b ≡ true
alone b e = grind arith

no_decision_ends : (c : Case) (o : Outcome) (l : Leaf) (u : Outcome)
    → is_decided c o (ends_record l u) ≡ false
no_decision_ends c CommittedOutcome l CommittedOutcome = refl
no_decision_ends c CommittedOutcome l AbortedOutcome = refl
no_decision_ends c AbortedOutcome l CommittedOutcome = refl
no_decision_ends c AbortedOutcome l AbortedOutcome = refl

never : (a : Bool) → a ≡ false → (a || false) ≡ true → ⊥
never a e f = grind arith

leaf_decides : (c : Case) (o : Outcome) (place : Place) (p : ProcessId) (n : Node) (h : Heard) (e : Effect)
    → LeafTurn place p n h e
    → any_written (is_decided c o) e.written ≡ true → h.input ≡ ActInput (Decide c o)
leaf_decides c o place p n h _ (decides d u i k) f =
    let t = decided_tells c o (record { me = place.me; parent = p; own = d }) u (alone _ f) in
    i ∙ (ap (λ x. ActInput (Decide x u)) t.0 ∙ ap (λ x. ActInput (Decide c x)) t.1)
leaf_decides c o place p n h _ (obeys d u i k) f =
    absurd (never _ (no_decision_ends c o (record { me = place.me; parent = p; own = d }) u) f)
leaf_decides c CommittedOutcome place p n h _ (votes_yes d k ws i a) f = absurd (cc)
leaf_decides c AbortedOutcome place p n h _ (votes_yes d k ws i a) f = absurd (cc)
leaf_decides c CommittedOutcome place p n h _ (notes d u i k) f = absurd (cc)
leaf_decides c AbortedOutcome place p n h _ (notes d u i k) f = absurd (cc)
leaf_decides c CommittedOutcome place p n h _ (forgets d i k) f = absurd (cc)
leaf_decides c AbortedOutcome place p n h _ (forgets d i k) f = absurd (cc)
leaf_decides c o place p n h _ does_nothing f = absurd (cc)
leaf_decides c o place p n h _ (gives_again d t i a) f = absurd (cc)
leaf_decides c o place p n h _ (gives_fresh d i a s) f = absurd (cc)
leaf_decides c o place p n h _ (votes_read d k i a) f = absurd (cc)
leaf_decides c o place p n h _ (votes_no d k i a) f = absurd (cc)
leaf_decides c o place p n h _ (repeats_yes d k i a) f = absurd (cc)
leaf_decides c o place p n h _ (refuses d k i a) f = absurd (cc)
leaf_decides c o place p n h _ (acknowledges_told d u i k) f = absurd (cc)
leaf_decides c o place p n h _ (acknowledges d u i k) f = absurd (cc)
leaf_decides c o place p n h _ (drops d i a) f = absurd (cc)
leaf_decides c o place p n h _ (asks d i k) f = absurd (cc)

no_decision_by_coordinators : (c : Case) (o : Outcome) (r : Record) → is_coordinators r ≡ true
    → is_decided c o r ≡ false
no_decision_by_coordinators c CommittedOutcome r e = grind arith
no_decision_by_coordinators c AbortedOutcome r e = grind arith

no_decision_opens : (c : Case) (o : Outcome) (k : ℕ) → is_decided c o (Opened k) ≡ false
no_decision_opens c CommittedOutcome k = refl
no_decision_opens c AbortedOutcome k = refl

no_decision_aborts : (c : Case) (o : Outcome) (d : Case) (ts : List Ticket)
    → is_decided c o (AbortRecord d ts) ≡ false
no_decision_aborts c CommittedOutcome d ts = refl
no_decision_aborts c AbortedOutcome d ts = refl

decisions : (c : Case) (o : Outcome) → OperatorsOwn (is_decided c o) (ActInput (Decide c o))
decisions c o = record {
  opened = no_decision_opens c o;
  aborted = no_decision_aborts c o;
  coordinators = no_decision_by_coordinators c o;
  leaf = leaf_decides c o;
}

-- A Forgot.

leaf_forgets : (c : Case) (place : Place) (p : ProcessId) (n : Node) (h : Heard) (e : Effect)
    → LeafTurn place p n h e
    → any_written (is_forgot c) e.written ≡ true → h.input ≡ ActInput (Forget c)
leaf_forgets c place p n h _ (forgets d i k) f =
    let same : d ≡ c = (let t = same_case_tells d c in let g = alone _ f in grind (arith, t, g)) in
    i ∙ ap (λ x. ActInput (Forget x)) same
leaf_forgets c place p n h _ (decides d CommittedOutcome i k) f = absurd (cc)
leaf_forgets c place p n h _ (decides d AbortedOutcome i k) f = absurd (cc)
leaf_forgets c place p n h _ (obeys d CommittedOutcome i k) f = absurd (cc)
leaf_forgets c place p n h _ (obeys d AbortedOutcome i k) f = absurd (cc)
leaf_forgets c place p n h _ (votes_yes d k ws i a) f = absurd (cc)
leaf_forgets c place p n h _ (notes d u i k) f = absurd (cc)
leaf_forgets c place p n h _ does_nothing f = absurd (cc)
leaf_forgets c place p n h _ (gives_again d t i a) f = absurd (cc)
leaf_forgets c place p n h _ (gives_fresh d i a s) f = absurd (cc)
leaf_forgets c place p n h _ (votes_read d k i a) f = absurd (cc)
leaf_forgets c place p n h _ (votes_no d k i a) f = absurd (cc)
leaf_forgets c place p n h _ (repeats_yes d k i a) f = absurd (cc)
leaf_forgets c place p n h _ (refuses d k i a) f = absurd (cc)
leaf_forgets c place p n h _ (acknowledges_told d u i k) f = absurd (cc)
leaf_forgets c place p n h _ (acknowledges d u i k) f = absurd (cc)
leaf_forgets c place p n h _ (drops d i a) f = absurd (cc)
leaf_forgets c place p n h _ (asks d i k) f = absurd (cc)

no_forgot_by_coordinators : (c : Case) (r : Record) → is_coordinators r ≡ true → is_forgot c r ≡ false
no_forgot_by_coordinators c r e = grind arith

forgots : (c : Case) → OperatorsOwn (is_forgot c) (ActInput (Forget c))
forgots c = record {
  opened = λ k. refl;
  aborted = λ d ts. refl;
  coordinators = no_forgot_by_coordinators c;
  leaf = leaf_forgets c;
}

-- Runs.

pub by_operator_alone : (tree : List TreeProcess) (es : List Made) (w : World) → IsRun tree es w
    → ByOperatorAlone es
by_operator_alone tree _ _ opens = tt
by_operator_alone tree _ _ (makes es w m e w' run stands step) =
    let at = makes_at tree w m e w' step in
    let s = step_of (place_of tree m.step.process) (w.at m.step.process) m e at.node at.made in (
      record {
        decided = λ c o f. by_step (is_decided c o) (ActInput (Decide c o)) (decisions c o) _ _ m e at.node
            s f;
        forgot = λ c f. by_step (is_forgot c) (ActInput (Forget c)) (forgots c) _ _ m e at.node s f;
      },
      by_operator_alone tree es w run,
    )
