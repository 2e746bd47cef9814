-- What an input's effect is to each case of a coordinator.
use Rattle.std.proofs.Common.{◌≡◌, ◌≢◌, ◌∙◌, ◌||◌, ◌&&◌, inl, inr, ℕ, Bool, true, false, Option, Some, None, List, [], refl, sym, ap, subst, arith}
use Rattle.protocol.specs.declared.names.Case.{Case}
use Rattle.protocol.specs.declared.names.ProcessId.{ProcessId}
use Rattle.protocol.specs.declared.names.Ticket.{Ticket}
use Rattle.protocol.specs.declared.names.Txn.{Txn}
use Rattle.protocol.specs.declared.messages.Message.{Message}
use Rattle.protocol.specs.declared.messages.Message.TheVariants.{Joined, Prepare, Abort}
use Rattle.protocol.specs.declared.standings.Vote.{Vote}
use Rattle.protocol_words.specs.Variants.{MessageInput, VoteNo, VoteRead, VoteYes}
use Rattle.protocol.specs.declared.events.Input.{Input}
use Rattle.protocol.specs.declared.trees.TreeProcess.{TreeProcess}
use Rattle.protocol.specs.Names.{same_case, same_txn, root_case, child_case}
use Rattle.protocol.specs.NameLaws.{same_case_tells, same_txn_tells}
use Rattle.protocol.specs.Records.{has, has_case, in_list, boot_of}
use Rattle.protocol.specs.Nodes.{Place, Node, Heard, Effect, kept}
use Rattle.protocol.specs.Memory.{Memory, Idle, Open, Asked, memory_of, is_counted}
use Rattle.protocol.specs.Standings.{belongs, own_cases}
use Rattle.protocol.specs.CoordinatorRows.{Row}
use Rattle.protocol.specs.Reactions.{row_effect}
use Rattle.protocol.specs.Views.{vote_message}
use Rattle.proof_pairs.specs.turns.CoordinatorTurns.{CaseTurn, CoordinatorTurn, does_nothing, of_case, begins as begins_txn, gives_again, gives_fresh, presumes, IsOfNoCase, unticketed, belongs_nowhere, not_taken, ChildSays, votes, acknowledged, inquires, IsNotTaken}
use Rattle.proof_processes.proofs.CaseSteps.{named_case, Concerns, by_name, by_child, turn_concerns, Silent, other_silent, Apart, stays, begins, unnamed_apart, named_apart, says_unnamed}
use Rattle.proof_processes.proofs.OwnCases.{child_belongs, child_nowhere}
use Rattle.proof_processes.proofs.Remembering.{role_below, coordinator_place, remembers_at, OpensMemory, Asks, by_commit, by_prepare, Ends, by_act, by_abort, CountedVote, SameLists, MovesMemory, keeps, asks, closes, takes, counts, opens, moves, none_counts}
use Rattle.proof_processes.proofs.VoteInputs.{is_vote_input, vote_case}

-- A vote that counts is of the child that speaks.

spoken : (says : Case → Message) → ChildSays says → (j k : ℕ) (d e : Case) (w : Vote)
    → MessageInput j (says d) ≡ MessageInput k (vote_message w e) → d ≡ e
spoken _ (votes v) j k d e w f = vote_case j k v w d e f
spoken _ (acknowledged o fs) j k d e VoteYes f = absurd (cc)
spoken _ (acknowledged o fs) j k d e VoteNo f = absurd (cc)
spoken _ (acknowledged o fs) j k d e VoteRead f = absurd (cc)
spoken _ inquires j k d e VoteYes f = absurd (cc)
spoken _ inquires j k d e VoteNo f = absurd (cc)
spoken _ inquires j k d e VoteRead f = absurd (cc)

ticket_of : (x y : Txn) (t u : Ticket) → child_case x t ≡ child_case y u → t ≡ u
ticket_of x y t u e = let f : Some t ≡ Some u = ap (λ (c : Case). c.ticket) e in cc

is_in_list : (ts : List Ticket) (vs : List (Ticket × Vote)) (t : Ticket) → is_counted ts vs t ≡ true
    → in_list ts t ≡ true
is_in_list ts vs t e = first (in_list ts t) _ e
  where
    first : (a b : Bool) → (a && b) ≡ true → a ≡ true
    first a b f = grind arith

-- A message that the coordinator does not take leaves the case, or begins it.

not_asked : {A : Type 0} (parent : Option ProcessId) (c : Case) (j : ℕ) (x : Message) → IsNotTaken parent x
    → (i : Input) → i ≡ MessageInput j x → Asks parent c i → A
not_asked parent c j x untaken _ e (by_commit y top g) = absurd (cc)
not_asked parent c j x untaken _ e (by_prepare p l k below) =
    absurd (subst (λ (r : Option ProcessId). IsNotTaken r (Prepare c k)) below
    (subst (λ (y : Message). IsNotTaken parent y) (let f : x ≡ Prepare c k = cc in f) untaken))

not_ended : {A : Type 0} (parent : Option ProcessId) (c : Case) (j : ℕ) (x : Message) → IsNotTaken parent x
    → (i : Input) → i ≡ MessageInput j x → Ends parent c i → A
not_ended parent c j x untaken _ e (by_act y top g) = absurd (cc)
not_ended parent c j x untaken _ e (by_abort p l below) =
    absurd (subst (λ (r : Option ProcessId). IsNotTaken r (Abort c)) below
    (subst (λ (y : Message). IsNotTaken parent y) (let f : x ≡ Abort c = cc in f) untaken))

joined_is_taken : {A : Type 0} (parent : Option ProcessId) (c : Case) (u : Ticket)
    → IsNotTaken parent (Joined c u) → A
joined_is_taken None c u e = absurd e
joined_is_taken (Some p) c u e = absurd e

vote_is_taken : {A : Type 0} (parent : Option ProcessId) (w : Vote) (d : Case)
    → IsNotTaken parent (vote_message w d)
    → A
vote_is_taken None VoteYes d e = absurd e
vote_is_taken None VoteNo d e = absurd e
vote_is_taken None VoteRead d e = absurd e
vote_is_taken (Some p) VoteYes d e = absurd e
vote_is_taken (Some p) VoteNo d e = absurd e
vote_is_taken (Some p) VoteRead d e = absurd e

same_message : (j k : ℕ) (x y : Message) → MessageInput j x ≡ MessageInput k y → x ≡ y
same_message j k x y e = cc

untaken_apart : (parent : Option ProcessId) (me : ProcessId) (boot : ℕ) (c : Case) (m : Memory) (i : Input)
    (k : Memory) (j : ℕ) (x : Message) → IsNotTaken parent x → i ≡ MessageInput j x
    → MovesMemory parent me boot c m i k → Apart parent me boot c m i k
untaken_apart parent me boot c m i k j x untaken e (keeps v p l) = stays p l
untaken_apart parent me boot c m i k j x untaken e (asks a o p l) = not_asked parent c j x untaken i e a
untaken_apart parent me boot c m i k j x untaken e (closes a o p l) = not_ended parent c j x untaken i e a
untaken_apart parent me boot c m i k j x untaken e (takes l u y o b p a v) =
    joined_is_taken parent c u
    (subst (λ (z : Message). IsNotTaken parent z) (same_message j l x (Joined c u) (sym e ∙ y)) untaken)
untaken_apart parent me boot c m i k j x untaken e (counts t w y p a v) =
    vote_is_taken parent w (child_case y.txn t)
    (subst (λ (z : Message). IsNotTaken parent z)
    (same_message j y.number x (vote_message w (child_case y.txn t)) (sym e ∙ y.hears)) untaken)
untaken_apart parent me boot c m i k j x untaken e (opens o p a v) = begins o p a v

-- Each case.

quiet_silent : (c : Case) (e : Effect) → e.written ≡ [] → e.accepts ≡ [] → e.counts ≡ [] → Silent c e
unfolding has
quiet_silent c e w a k = record {
  unwritten = rw w refl;
  untaken = λ t. rw a refl;
  uncounted = λ t v. rw k refl;
}

module _ (me : ProcessId) (parent : Option ProcessId) (tree : List TreeProcess) (n : Node) where
  -- a ticket that is remembered as accepted belongs to no other case
  abbrev pub Alone : Type 0
  Alone = (c d : Case) (t : Ticket)
      → in_list (memory_of (coordinator_place me parent tree) n c).accepted t ≡ true
      → belongs (memory_of (coordinator_place me parent tree) n d) (kept n) d t ≡ true → same_case d c ≡ true

  -- a case that is not Idle is one of the coordinator's
  abbrev pub Listed : Type 0
  Listed = (c : Case) → (memory_of (coordinator_place me parent tree) n c).phase ≢ Idle
      → has_case (own_cases (role_below parent) (coordinator_place me parent tree) n c.txn) c ≡ true

module _ (me : ProcessId) (parent : Option ProcessId) (tree : List TreeProcess) (n : Node) (h : Heard) where
  abbrev place : Place
  place = coordinator_place me parent tree

  abbrev m : Case → Memory
  m c = memory_of (coordinator_place me parent tree) n c

  abbrev k : Case → Memory
  k c = remembers_at parent me (boot_of (kept n)) c (memory_of (coordinator_place me parent tree) n c) h.input

  -- the effect is of the case's row, or nothing of the case moves, or the case begins
  pub data CaseStep (c : Case) (e : Effect) : Type 0 where
    own : (row : Row) → CaseTurn (coordinator_place me parent tree) parent n h c row → e ≡ row_effect c row
        → CaseStep c e
    other : (remembers_at parent me (boot_of (kept n)) c (memory_of (coordinator_place me parent tree) n c)
        h.input).phase ≡ (memory_of (coordinator_place me parent tree) n c).phase
        → SameLists (memory_of (coordinator_place me parent tree) n c)
        (remembers_at parent me (boot_of (kept n)) c
        (memory_of (coordinator_place me parent tree) n c) h.input)
        → Silent c e → CaseStep c e
    begun : OpensMemory parent me (boot_of (kept n)) c
        (memory_of (coordinator_place me parent tree) n c) h.input
        → (remembers_at parent me (boot_of (kept n)) c (memory_of (coordinator_place me parent tree) n c)
        h.input).phase ≡ Open
        → (remembers_at parent me (boot_of (kept n)) c (memory_of (coordinator_place me parent tree) n c)
        h.input).accepted ≡ []
        → (remembers_at parent me (boot_of (kept n)) c (memory_of (coordinator_place me parent tree) n c)
        h.input).votes ≡ []
        → Silent c e → CaseStep c e

  module _ (alone : Alone me parent tree n) (listed : Listed me parent tree n) where
    moved : (c : Case) → MovesMemory parent me (boot_of (kept n)) c (m c) h.input (k c)
    moved c = moves parent me (boot_of (kept n)) c (m c) h.input

    by_apart : (c : Case) (e : Effect) → Silent c e → Apart parent me (boot_of (kept n)) c (m c) h.input (k c)
        → CaseStep c e
    by_apart c e s (stays p l) = other p l s
    by_apart c e s (begins o p a v) = begun o p a v s

    of_other : (c d : Case) (row : Row) → CaseTurn (coordinator_place me parent tree) parent n h d row
        → same_case d c ≡ false → Concerns (coordinator_place me parent tree) n h.input d
        → CaseStep c (row_effect d row)
    of_other c d row t f (by_name e) =
        by_apart c _ (other_silent place parent n h c d row t f)
        (named_apart parent me (boot_of (kept n)) c d (m c) h.input (k c) e f (moved c))
    of_other c d row t f (by_child says kind y u j i found) =
        by_apart c _ (other_silent place parent n h c d row t f)
        (unnamed_apart parent me (boot_of (kept n)) c (m c) h.input (k c)
        (ap named_case i ∙ says_unnamed says kind j (child_case y u)) uncounted (moved c))
      where
        uncounted : (v : Ticket) (w : Vote) → CountedVote c (m c) h.input v w → ⊥
        uncounted v w x =
            let same : u ≡ v =
            ticket_of y x.txn u v (spoken says kind j x.number (child_case y u) (child_case x.txn v) w
            (sym i ∙ x.hears)) in
            not_both (alone c d v (is_in_list (m c).accepted (m c).votes v x.counts)
            (subst (λ (z : Ticket). belongs (m d) (kept n) d z ≡ true) same
            (child_belongs me parent tree n y u d found)))
          where
            not_both : same_case d c ≡ true → ⊥
            not_both g = absurd (let z = sym f ∙ g in cc)

    of_row : (c d : Case) (row : Row) → CaseTurn (coordinator_place me parent tree) parent n h d row
        → CaseStep c (row_effect d row)
    of_row c d row t = elim (same_case_tells d c) [
      | inl s ↦ subst (λ (x : Case). CaseStep x (row_effect d row)) s.1 (own row t refl)
      | inr f ↦ of_other c d row t f.0 (turn_concerns place parent n h d row t)
    ]

    -- a message of no case

    of_none : (c : Case) (e : Effect) → Silent c e → IsOfNoCase (coordinator_place me parent tree) parent n h
        → CaseStep c e
    of_none c e s (unticketed says y kind i) =
        by_apart c e s
        (unnamed_apart parent me (boot_of (kept n)) c (m c) h.input (k c)
        (ap named_case i.1 ∙ says_unnamed says kind i.0 (root_case y)) uncounted (moved c))
      where
        uncounted : (v : Ticket) (w : Vote) → CountedVote c (m c) h.input v w → ⊥
        uncounted v w x =
            let f : None ≡ Some v =
            ap (λ (z : Case). z.ticket)
            (spoken says kind i.0 x.number (root_case y) (child_case x.txn v) w (sym i.1 ∙ x.hears)) in
            absurd (cc)
    of_none c e s (belongs_nowhere says y t kind i none) =
        by_apart c e s
        (unnamed_apart parent me (boot_of (kept n)) c (m c) h.input (k c)
        (ap named_case i.1 ∙ says_unnamed says kind i.0 (child_case y t)) uncounted (moved c))
      where
        first_false : (a b : Bool) → (a || b) ≡ false → a ≡ false
        first_false a b f = grind arith

        not_idle : (v : Ticket) (w : Vote) → CountedVote c (m c) h.input v w → (m c).phase ≢ Idle
        not_idle v w x f = absurd (let g : Asked ≡ Idle = sym x.asked ∙ f in cc)

        txn_is : (a b : Txn) → same_txn a b ≡ true → a ≡ b
        txn_is a b f = elim (same_txn_tells a b) [ inl z ↦ z.1 | inr g ↦ absurd (let z = g.0 in cc) ]

        uncounted : (v : Ticket) (w : Vote) → CountedVote c (m c) h.input v w → ⊥
        uncounted v w x =
            let same = spoken says kind i.0 x.number (child_case y t) (child_case x.txn v) w
            (sym i.1 ∙ x.hears) in
            let u : t ≡ v = ticket_of y x.txn t v same in
            let z : y ≡ c.txn = ap (λ (d : Case). d.txn) same ∙ txn_is x.txn c.txn x.same in
            let out : belongs (m c) (kept n) c t ≡ false =
            child_nowhere me parent tree n y t c none
            (subst (λ (q : Txn). has_case (own_cases (role_below parent) place n q) c ≡ true) (sym z)
            (listed c (not_idle v w x))) in
            not_both
            (subst (λ (q : Ticket). in_list (m c).accepted q ≡ true) (sym u)
            (is_in_list (m c).accepted (m c).votes v x.counts))
            (first_false _ _ out)
          where
            not_both : in_list (m c).accepted t ≡ true → in_list (m c).accepted t ≡ false → ⊥
            not_both f g = cc
    of_none c e s (not_taken x i untaken) =
        by_apart c e s
        (untaken_apart parent me (boot_of (kept n)) c (m c) h.input (k c) i.0 x untaken i.1 (moved c))

    -- an input that names no case and is no vote
    of_quiet : (c : Case) (e : Effect) → Silent c e → (i : Input) → h.input ≡ i → named_case i ≡ None
        → is_vote_input i ≡ false → CaseStep c e
    of_quiet c e s i x none untaken =
        by_apart c e s
        (unnamed_apart parent me (boot_of (kept n)) c (m c) h.input (k c) (ap named_case x ∙ none)
        (none_counts c (m c) h.input (ap is_vote_input x ∙ untaken)) (moved c))

    pub case_step : (e : Effect) → CoordinatorTurn (coordinator_place me parent tree) parent n h e
        → (c : Case)
        → CaseStep c e
    case_step _ (of_case d row t) c = of_row c d row t
    case_step e (does_nothing i) c = of_none c e (quiet_silent c e refl refl refl) i
    case_step e (begins_txn p top i) c = of_quiet c e (quiet_silent c e refl refl refl) _ i refl refl
    case_step e (gives_again p d t below i a) c =
        of_quiet c e (quiet_silent c e refl refl refl) _ i.1 refl refl
    case_step e (gives_fresh p d below i a) c = of_quiet c e (quiet_silent c e refl refl refl) _ i.1 refl refl
    case_step e (presumes y t i none) c = of_quiet c e (quiet_silent c e refl refl refl) _ i.1 refl refl
