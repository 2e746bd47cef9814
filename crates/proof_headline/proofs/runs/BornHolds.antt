-- Who sends JOIN, and who answers it: each is of a case that is known, over every run.
use Rattle.std.proofs.Common.{◌≡◌, ◌∙◌, inl, inr, ◌||◌, ℕ, zero, suc, Bool, true, false, Option, Some, None, List, [], ◌∷◌, ◌++◌, if◌then◌else◌, refl, sym, ap, subst, arith}
use Rattle.std.specs.List.{list_any}
use Rattle.protocol.specs.declared.names.Case.{Case}
use Rattle.protocol.specs.declared.names.Outcome.{Outcome}
use Rattle.protocol_words.specs.Variants.{AbortedOutcome}
use Rattle.protocol.specs.declared.names.ProcessId.{ProcessId}
use Rattle.protocol.specs.declared.names.Ticket.{Ticket}
use Rattle.protocol.specs.declared.names.Txn.{Txn}
use Rattle.protocol.specs.declared.messages.Envelope.{Envelope}
use Rattle.protocol.specs.declared.messages.Message.{Message}
use Rattle.protocol.specs.declared.messages.Message.TheVariants.{Join, Ack}
use Rattle.protocol.specs.declared.events.Happening.{Happening}
use Rattle.protocol.specs.declared.events.Input.{Input}
use Rattle.protocol.specs.declared.trees.TreeProcess.{TreeProcess}
use Rattle.protocol.specs.Names.{child_case, process_of, root_case, same_process, same_txn}
use Rattle.protocol.specs.NameLaws.{same_case-refl, same_process_tells}
use Rattle.protocol.specs.Nodes.{AtLeaf, AtRoot, Below, Effect, Heard, Node, Place, Role, begun_first, place_of, role_of}
use Rattle.protocol.specs.Outcomes.{is_joined_message, sent}
use Rattle.protocol.specs.ManagerRows.{acknowledgement, is_acknowledged}
use Rattle.protocol.specs.Reactions.{leaf_of, seat_of}
use Rattle.protocol.specs.Records.{cases_in}
use Rattle.protocol.specs.Restarts.{coordinator_reopens, left_of, reopens, restart_effect, trim_fails}
use Rattle.protocol.specs.World.{InputStands, IsRun, Made, Move, MayHappen, World, makes, opens, put_at, world_makes}
use Rattle.protocol.proofs.RunLaws.{makes_at}
use Rattle.proof_pairs.specs.readings.ReadingOf.{gives_case, is_born, is_root_ticket, parent_half}
use Rattle.proof_pairs.proofs.readings.Inquiries.{quiet_restart}
use Rattle.proof_pairs.specs.turns.LeafTurns
use Rattle.proof_pairs.specs.turns.LeafTurns.{Hears, LeafTurn}
use Rattle.proof_pairs.specs.turns.Steps.{StepOf, TurnAt, heard_in, handled, failed_in, passed, failed_passing, reopened, failed_reopening, trims_log, failed_trimming}
use Rattle.proof_pairs.specs.turns.Written.{MayWrite, for_act, for_child, for_parent, for_report, gives, presumes, writes_nothing}
use Rattle.proof_pairs.proofs.turns.Steps.{step_of, turn_of}
use Rattle.proof_processes.specs.WorldHolds.{IsParentRole, is_about}
use Rattle.proof_processes.proofs.Deliveries.{was_sent}
use Rattle.proof_processes.proofs.Remembering.{coordinator_place, role_below}
use Rattle.proof_processes.proofs.RootBegins.{all_begun}
use Rattle.proof_processes.proofs.RootHistories.{among}
use Rattle.proof_processes.proofs.RootNumbered.{at_root}
use Rattle.proof_processes.proofs.Tests.{right}
use Rattle.proof_steps.specs.parents.ParentRows.{JoinedAreBorn}
use Rattle.proof_steps.proofs.crashes.Resumed
use Rattle.proof_headline.proofs.Grows.{sent_still, sent_then}
use Rattle.proof_headline.proofs.runs.Born.{Known, KnownBy, child_known, given_known, is_join, standing_known}
use Rattle.proof_headline.proofs.runs.NetsHold.{nets_hold}
use Rattle.proof_headline.proofs.runs.JoinMessages.{about_it, all_answer_none, all_join, ends, first_case, none_at_all, one_alone, told_answers_none, told_joins_none}
use Rattle.protocol.specs.declared.messages.Finding.{Finding}

abbrev JoinsKnown : World → List Envelope → Type 0
JoinsKnown w ls = (c : Case) → sent (is_join c) ls ≡ true → Known w c

abbrev AnswersKnown : World → List Envelope → Type 0
AnswersKnown w ls = (c : Case) (t : Ticket) → sent (is_joined_message c t) ls ≡ true → Known w c

module _ (tree : List TreeProcess) (es : List Made) (w : World) (run : IsRun tree es w) (me : ProcessId)
    (joins : JoinsKnown w w.net)
  where
    -- a coordinator's input
    module _ (parent : Option ProcessId) (role : role_of tree me ≡ role_below parent)
        (up : (w.at me).failed ≡ false) (i : Input) (stands : InputStands w.net me i)
      where
        abbrev place : Place
        place = coordinator_place me parent tree

        writes_join : (ws : _) (ls : List Envelope) → MayWrite place parent (w.at me) i ws ls
            → JoinsKnown w ls
        writes_join ws ls (writes_nothing e f) c g = none_at_all (is_join c) ls f g
        writes_join ws ls (for_act a d e k o s) c g =
            subst (Known w) (all_join c (seat_of place parent d) ls s g)
            (standing_known tree es w run me parent role up d k)
        writes_join ws ls (for_report d e f k o h) c g = none_at_all (is_join c) ls h g
        writes_join ws ls (for_child d x t e o s) c g =
            subst (Known w) (all_join c (seat_of place parent d) ls s g)
            (child_known tree es w run me parent role x t d e)
        writes_join ws ls (for_parent d k m e f o s) c g =
            subst (Known w) (all_join c (seat_of place parent d) ls s g)
            (given_known w d ((nets_hold tree es w run).about_given d
            (was_sent (is_about d) w.net me i k m stands e (about_it d m f))))
        writes_join ws ls (presumes x t o e f) c g =
            told_joins_none c o (child_case x t) (one_alone (is_join c) _ ls f g)
        writes_join ws ls (gives p d t e f k j a) c g = ends _ (one_alone (is_join c) _ ls f g) refl

        writes_answer : (ws : _) (ls : List Envelope) → MayWrite place parent (w.at me) i ws ls
            → AnswersKnown w ls
        writes_answer ws ls (writes_nothing e f) c t g = none_at_all (is_joined_message c t) ls f g
        writes_answer ws ls (for_act a d e k o s) c t g = all_answer_none c t (seat_of place parent d) ls s g
        writes_answer ws ls (for_report d e f k o h) c t g = none_at_all (is_joined_message c t) ls h g
        writes_answer ws ls (for_child d x u e o s) c t g = all_answer_none c t (seat_of place parent d)
            ls s g
        writes_answer ws ls (for_parent d k m e f o s) c t g = all_answer_none c t
            (seat_of place parent d) ls s g
        writes_answer ws ls (presumes x u o e f) c t g =
            told_answers_none c t o (child_case x u) (one_alone (is_joined_message c t) _ ls f g)
        writes_answer ws ls (gives p d u e f k j a) c t g =
            subst (Known w) (first_case c d u t (one_alone (is_joined_message c t) _ ls f g))
            (joins d (was_sent (is_join d) w.net me i k (Join d) stands j (same_case-refl d)))

    -- a manager's input
    module _ (p : ProcessId) (h : Heard) (stands : InputStands w.net me h.input) where
      abbrev leaf_place : Place
      leaf_place = record { me = me; role = AtLeaf p; tree = tree }

      heard_join : (d : Case) → Hears h (Join d) → Known w d
      heard_join d i = joins d (was_sent (is_join d) w.net me h.input i.0 (Join d) stands i.1
          (same_case-refl d))

      quiet_ack : (q : Message → Bool) (d : Case) (o : Outcome) (fs : List Finding)
          → ((x : Case) (u : Outcome) → q (Ack x u fs) ≡ false)
          → sent q (acknowledgement (leaf_of leaf_place p d) o fs) ≡ false
      unfolding sent
      quiet_ack q d o fs f = by_test (is_acknowledged d.txn.presumption o)
        where
          or_none : (a : Bool) → a ≡ false → (a || false) ≡ false
          or_none a e = grind arith

          by_test : (b : Bool) → list_any (λ (l : Envelope). q l.message)
              (if b then record { from = me; to = p; message = Ack d o fs } ∷ [] else []) ≡ false
          by_test true = or_none (q (Ack d o fs)) (f d o)
          by_test false = refl

      leaf_answers : (c : Case) (t : Ticket) (e : Effect) → LeafTurn leaf_place p (w.at me) h e
          → sent (is_joined_message c t) e.messages ≡ true → Known w c
      leaf_answers c t _ LeafTurns.does_nothing g = none_at_all (is_joined_message c t) [] refl g
      leaf_answers c t _ (LeafTurns.gives_again d u i a) g =
          subst (Known w) (first_case c d u t (one_alone (is_joined_message c t) _ _ refl g)) (heard_join d i)
      leaf_answers c t _ (LeafTurns.gives_fresh d i a s) g =
          subst (Known w) (first_case c d _ t (one_alone (is_joined_message c t) _ _ refl g)) (heard_join d i)
      leaf_answers c t _ (LeafTurns.votes_yes d k ws i a) g =
          ends _ (one_alone (is_joined_message c t) _ _ refl g) refl
      leaf_answers c t _ (LeafTurns.votes_read d k i a) g =
          ends _ (one_alone (is_joined_message c t) _ _ refl g) refl
      leaf_answers c t _ (LeafTurns.votes_no d k i a) g =
          ends _ (one_alone (is_joined_message c t) _ _ refl g) refl
      leaf_answers c t _ (LeafTurns.repeats_yes d k i a) g =
          ends _ (one_alone (is_joined_message c t) _ _ refl g) refl
      leaf_answers c t _ (LeafTurns.refuses d k i a) g =
          ends _ (one_alone (is_joined_message c t) _ _ refl g) refl
      leaf_answers c t _ (LeafTurns.obeys d o i e) g = ends _ g
          (quiet_ack (is_joined_message c t) d o _ (λ x u. refl))
      leaf_answers c t _ (LeafTurns.notes d o i e) g = ends _ g
          (quiet_ack (is_joined_message c t) d o _ (λ x u. refl))
      leaf_answers c t _ (LeafTurns.acknowledges_told d o i e) g =
          ends _ g (quiet_ack (is_joined_message c t) d o _ (λ x u. refl))
      leaf_answers c t _ (LeafTurns.acknowledges d o i e) g =
          ends _ g (quiet_ack (is_joined_message c t) d o _ (λ x u. refl))
      leaf_answers c t _ (LeafTurns.drops d i a) g =
          ends _ g (quiet_ack (is_joined_message c t) d AbortedOutcome _ (λ x u. refl))
      leaf_answers c t _ (LeafTurns.asks d i k) g = ends _ (one_alone (is_joined_message c t) _ _ refl g) refl
      leaf_answers c t _ (LeafTurns.decides d o i e) g = none_at_all (is_joined_message c t) [] refl g
      leaf_answers c t _ (LeafTurns.forgets d i k) g = none_at_all (is_joined_message c t) [] refl g

      leaf_joins : (c : Case) (e : Effect) → LeafTurn leaf_place p (w.at me) h e
          → sent (is_join c) e.messages ≡ true → Known w c
      leaf_joins c _ LeafTurns.does_nothing g = none_at_all (is_join c) [] refl g
      leaf_joins c _ (LeafTurns.gives_again d u i a) g = ends _ (one_alone (is_join c) _ _ refl g) refl
      leaf_joins c _ (LeafTurns.gives_fresh d i a s) g = ends _ (one_alone (is_join c) _ _ refl g) refl
      leaf_joins c _ (LeafTurns.votes_yes d k ws i a) g = ends _ (one_alone (is_join c) _ _ refl g) refl
      leaf_joins c _ (LeafTurns.votes_read d k i a) g = ends _ (one_alone (is_join c) _ _ refl g) refl
      leaf_joins c _ (LeafTurns.votes_no d k i a) g = ends _ (one_alone (is_join c) _ _ refl g) refl
      leaf_joins c _ (LeafTurns.repeats_yes d k i a) g = ends _ (one_alone (is_join c) _ _ refl g) refl
      leaf_joins c _ (LeafTurns.refuses d k i a) g = ends _ (one_alone (is_join c) _ _ refl g) refl
      leaf_joins c _ (LeafTurns.obeys d o i e) g = ends _ g (quiet_ack (is_join c) d o _ (λ x u. refl))
      leaf_joins c _ (LeafTurns.notes d o i e) g = ends _ g (quiet_ack (is_join c) d o _ (λ x u. refl))
      leaf_joins c _ (LeafTurns.acknowledges_told d o i e) g =
          ends _ g (quiet_ack (is_join c) d o _ (λ x u. refl))
      leaf_joins c _ (LeafTurns.acknowledges d o i e) g = ends _ g (quiet_ack (is_join c) d o _ (λ x u. refl))
      leaf_joins c _ (LeafTurns.drops d i a) g =
          ends _ g (quiet_ack (is_join c) d AbortedOutcome _ (λ x u. refl))
      leaf_joins c _ (LeafTurns.asks d i k) g = ends _ (one_alone (is_join c) _ _ refl g) refl
      leaf_joins c _ (LeafTurns.decides d o i e) g = none_at_all (is_join c) [] refl g
      leaf_joins c _ (LeafTurns.forgets d i k) g = none_at_all (is_join c) [] refl g

-- Steps.

more_begun : (x : Txn) (o : Option Txn) (xs : List Txn) → among x xs ≡ true → among x (begun_first o xs)
    ≡ true
more_begun x None xs e = e
more_begun x (Some y) xs e = right (same_txn y x) (among x xs) e

begun_grows : (at : Place) (n : Node) (m : Move) (e : Effect) (k : Node) → StepOf at n m e k → (x : Txn)
    → among x n.begun ≡ true → among x k.begun ≡ true
begun_grows here n m _ _ (handled i g hp np r) x f = more_begun x g.begun n.begun f
begun_grows here n m _ _ (failed_in i ft g fl hp np r) x f = more_begun x g.begun n.begun f
begun_grows here n m _ _ (passed i hp r) x f = f
begun_grows here n m _ _ (failed_passing i ft fl hp r) x f = f
begun_grows here n m _ _ (reopened j hp) x f = f
begun_grows here n m _ _ (failed_reopening j ft fl hp) x f = f
begun_grows here n m _ _ (trims_log hp up) x f = f
begun_grows here n m _ _ (failed_trimming ft fl hp up) x f = by_part ft.appended
  where
    by_part : (a : ℕ) → among x (trim_fails here n a).begun ≡ true
    by_part zero = f
    by_part (suc a) = f

-- what is known of joins in a world
record JoinsHold (w : World) : Type 0 where
  joins : JoinsKnown w w.net
  answers : AnswersKnown w w.net

module _ (tree : List TreeProcess) (es : List Made) (w : World) (run : IsRun tree es w) (old : JoinsHold w)
    (m : Move)
    (e : Effect) (w' : World) (stands : MayHappen w.net m.step.process m.step.happening)
    (made : world_makes tree w m ≡ Some (e, w'))
  where
    abbrev q : ProcessId
    q = m.step.process

    abbrev node : Node
    node = (makes_at tree w m e w' made).node

    abbrev at : Role → Place
    at r = record { me = q; role = r; tree = tree }

    step : StepOf (place_of tree q) (w.at q) m e node
    step = step_of (place_of tree q) (w.at q) m e node (makes_at tree w m e w' made).made

    nobody : Ticket
    nobody = record { child = q; boot = 0; number = 0 }

    nothing : JoinsKnown w [] × AnswersKnown w []
    nothing = (
      λ c f. none_at_all (is_join c) [] refl f,
      λ c t f. none_at_all (is_joined_message c t) []
          refl f,
    )

    by_coordinator : (parent : Option ProcessId) → role_of tree q ≡ role_below parent
        → (g : Effect) (k : Node)
        → StepOf (coordinator_place q parent tree) (w.at q) m g k → JoinsKnown w g.messages
        × AnswersKnown w g.messages
    by_coordinator parent role _ _ (handled i g hp np r) =
        let t = turn_of (coordinator_place q parent tree) (w.at q) (heard_in m i) g r in
        let s = subst (λ (x : Happening). MayHappen w.net q x) hp stands in
        let writes = written_by parent t.turn in (
          writes_join tree es w run q old.joins parent role t.up i s g.written g.messages writes,
          writes_answer tree es w run q old.joins parent role t.up i s g.written g.messages writes,
        )
      where
        written_by : (o : Option ProcessId)
            → TurnAt (role_below o) (coordinator_place q o tree) (w.at q) (heard_in m i) g
            → MayWrite (coordinator_place q o tree) o (w.at q) i g.written g.messages
        written_by None t = t
        written_by (Some p) t = t
    by_coordinator parent role _ _ (reopened j hp) = resumes parent
      where
        resumes : (o : Option ProcessId)
            → JoinsKnown w (restart_effect (coordinator_place q o tree) (w.at q) j).messages
            × AnswersKnown w (restart_effect (coordinator_place q o tree) (w.at q) j).messages
        resumes None = (
          λ c f. ends _ f (Resumed.quiet q None
              (left_of (w.at q) j ++ coordinator_reopens (left_of (w.at q) j)) c nobody
              (is_join c) (λ x. refl) (λ x. refl) (λ x. refl)),
          λ c t f. ends _ f (Resumed.quiet q None
              (left_of (w.at q) j ++ coordinator_reopens (left_of (w.at q) j)) c t
              (is_joined_message c t) (λ x. refl) (λ x. refl) (λ x. refl)),
        )
        resumes (Some p) = (
          λ c f. ends _ f (Resumed.quiet q (Some p)
              (left_of (w.at q) j ++ coordinator_reopens (left_of (w.at q) j)) c
              nobody (is_join c) (λ x. refl) (λ x. refl) (λ x. refl)),
          λ c t f. ends _ f (Resumed.quiet q (Some p)
              (left_of (w.at q) j ++ coordinator_reopens (left_of (w.at q) j)) c t
              (is_joined_message c t) (λ x. refl) (λ x. refl) (λ x. refl)),
        )
    by_coordinator parent role _ _ (failed_in i f g fl hp np r) = nothing
    by_coordinator parent role _ _ (passed i hp r) = nothing
    by_coordinator parent role _ _ (failed_passing i f fl hp r) = nothing
    by_coordinator parent role _ _ (failed_reopening j f fl hp) = nothing
    by_coordinator parent role _ _ (trims_log hp up) = nothing
    by_coordinator parent role _ _ (failed_trimming f fl hp up) = nothing

    by_leaf : (p : ProcessId) → (g : Effect) (k : Node) → StepOf (at (AtLeaf p)) (w.at q) m g k
        → JoinsKnown w g.messages × AnswersKnown w g.messages
    by_leaf p _ _ (handled i g hp np r) =
        let t = turn_of (at (AtLeaf p)) (w.at q) (heard_in m i) g r in
        let s = subst (λ (x : Happening). MayHappen w.net q x) hp stands in (
          λ c f. leaf_joins tree es w run q old.joins p (heard_in m i) s c g t.turn f,
          λ c u f. leaf_answers tree es w run q old.joins p (heard_in m i) s c u g t.turn f,
        )
    by_leaf p _ _ (reopened j hp) =
        let rs = left_of (w.at q) j ++ reopens (AtLeaf p) (left_of (w.at q) j) in (
          λ c f. ends _ f (quiet_restart q p rs (cases_in rs) (is_join c) (λ x. refl)),
          λ c t f. ends _ f (quiet_restart q p rs (cases_in rs) (is_joined_message c t) (λ x. refl)),
        )
    by_leaf p _ _ (failed_in i f g fl hp np r) = nothing
    by_leaf p _ _ (passed i hp r) = nothing
    by_leaf p _ _ (failed_passing i f fl hp r) = nothing
    by_leaf p _ _ (failed_reopening j f fl hp) = nothing
    by_leaf p _ _ (trims_log hp up) = nothing
    by_leaf p _ _ (failed_trimming f fl hp up) = nothing

    by_role : (r : Role) → role_of tree q ≡ r → JoinsKnown w e.messages × AnswersKnown w e.messages
    by_role AtRoot f = by_coordinator None f e node (subst (λ r. StepOf (at r) (w.at q) m e node) f step)
    by_role (Below p) f = by_coordinator (Some p) f e node
        (subst (λ r. StepOf (at r) (w.at q) m e node) f step)
    by_role (AtLeaf p) f = by_leaf p e node (subst (λ r. StepOf (at r) (w.at q) m e node) f step)

    -- what is known stays known
    abbrev later : World
    later = record { at = put_at q node w.at; net = w.net ++ e.messages }

    still_begun : (x : Txn) (p : ProcessId) → among x (w.at p).begun ≡ true
        → among x (put_at q node w.at p).begun ≡ true
    still_begun x p f = by_test (same_process q p) refl
      where
        by_test : (b : Bool) → same_process q p ≡ b → among x (if b then node else w.at p).begun ≡ true
        by_test true g = begun_grows (place_of tree q) (w.at q) m e node step x
            (ap (λ r. among x (w.at r).begun) (process_is q p g) ∙ f)
          where
            process_is : (a b : ProcessId) → same_process a b ≡ true → a ≡ b
            process_is a b h = elim (same_process_tells a b)
                [ inl t ↦ t.1 | inr z ↦ absurd (let y = z.0 in cc) ]
        by_test false g = f

    still_known : (c : Case) → Known w c → Known later c
    still_known c k = by_ticket c.txn c.ticket k
      where
        by_ticket : (x : Txn) (o : Option Ticket) → KnownBy w x o → KnownBy later x o
        by_ticket x None f = still_begun x x.root f
        by_ticket x (Some t) f = sent_still (gives_case (child_case x t)) w.net e.messages f

    joins_keep : JoinsHold later
    joins_keep =
        let new = by_role (role_of tree q) refl in
        record {
          joins = λ c f. still_known c (elim (sent_then (is_join c) w.net e.messages f) [
            | inl now ↦ new.0 c now
            | inr before ↦ old.joins c before
          ]);
          answers = λ c t f. still_known c (elim (sent_then (is_joined_message c t) w.net e.messages f) [
            | inl now ↦ new.1 c t now
            | inr before ↦ old.answers c t before
          ]);
        }

all_joins : (tree : List TreeProcess) (es : List Made) (w : World) → IsRun tree es w → JoinsHold w
all_joins tree _ _ opens = record {
  joins = λ c f. none_at_all (is_join c) [] refl f;
  answers = λ c t f. none_at_all (is_joined_message c t) [] refl f;
}
all_joins tree _ _ (makes es w m e w' run stands made) =
    subst JoinsHold (sym (makes_at tree w m e w' made).world)
    (joins_keep tree es w run (all_joins tree es w run) m e w' stands made)

pub joined_are_born : (tree : List TreeProcess) (es : List Made) (w : World) → IsRun tree es w
    → JoinedAreBorn tree w
joined_are_born tree es w run c t pair e =
    by_ticket c.txn c.ticket pair.parent.role pair.parent.top ((all_joins tree es w run).answers c t e)
  where
    by_ticket : (x : Txn) (o : Option Ticket)
        → IsParentRole (role_of tree (process_of (record { txn = x; ticket = o }))) o
        → role_of tree x.root ≡ AtRoot
        → KnownBy w x o
        → is_born (is_root_ticket o)
        (parent_half (place_of tree (process_of (record { txn = x; ticket = o })))
        (w.at (process_of (record { txn = x; ticket = o }))) (record { txn = x; ticket = o }) t).begun
        (sent (gives_case (record { txn = x; ticket = o })) w.net) ≡ true
    by_ticket x None i top k =
        subst (λ (place : Place). (parent_half place (w.at x.root) (root_case x) t).begun ≡ true)
        (sym (at_root tree x.root top))
        ((all_begun tree es w run x.root top).known x k)
    by_ticket x (Some u) i top k = k
