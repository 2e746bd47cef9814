-- Who is remembered after an input at a coordinator, or was heard to vote, or is named by a record, was
-- accepted.
use Rattle.std.proofs.Common.{◌≡◌, ◌∙◌, ◌&&◌, ◌||◌, ◌⊎◌, inl, inr, ℕ, Bool, true, false, not, Option, Some, None, List, [], ◌∷◌, ◌++◌, refl, sym, ap, subst, arith, if◌then◌else◌}
use Rattle.std.proofs.lemmas.List.Folds.{list_any-append}
use Rattle.protocol.specs.declared.names.Case.{Case}
use Rattle.protocol.specs.declared.names.ProcessId.{ProcessId}
use Rattle.protocol.specs.declared.names.Ticket.{Ticket}
use Rattle.protocol.specs.declared.messages.Message.TheVariants.{Joined}
use Rattle.protocol.specs.declared.standings.Standing.{Standing}
use Rattle.protocol.specs.declared.standings.Standing.TheVariants.{Active}
use Rattle.protocol.specs.declared.standings.Vote.{Vote}
use Rattle.protocol.specs.declared.events.Input.{Input}
use Rattle.protocol_words.specs.Variants.{MessageInput}
use Rattle.protocol.specs.declared.events.StepError.TheVariants.{NoSuch}
use Rattle.protocol.specs.declared.trees.TreeProcess.{TreeProcess}
use Rattle.protocol.specs.Names.{same_case, same_ticket}
use Rattle.protocol.specs.NameLaws.{same_ticket_tells, same_case-refl}
use Rattle.protocol.specs.Records.{in_list, boot_of}
use Rattle.protocol.specs.Nodes.{Place, Node, kept, Heard, Effect}
use Rattle.protocol.specs.Memory.{Memory, Open, memory_of, has_child, has_voted, is_counted, same_vote}
use Rattle.protocol.specs.Standings.{CoordinatorView, coordinator_view}
use Rattle.protocol.specs.CoordinatorRows.{on_joined}
use Rattle.protocol.specs.Reactions.{Refused, Does, reacts, handles, act_is_listed, row_effect}
use Rattle.protocol.specs.Outcomes.{has_accepted}
use Rattle.proof_pairs.specs.turns.CoordinatorTurns.{CountsVote, CoordinatorTurn}
use Rattle.proof_pairs.proofs.turns.CoordinatorReactions.{coordinator_turn_of}
use Rattle.proof_processes.proofs.Cases.{viewed}
use Rattle.proof_processes.proofs.CaseSteps.{heard_so}
use Rattle.proof_processes.proofs.CoordinatorKept.{Coordinated}
use Rattle.proof_processes.proofs.CoordinatorPhases.{active_accepted, collecting_accepted}
use Rattle.proof_processes.proofs.Remembering.{coordinator_place, remembers_at, MovesMemory, keeps, asks, closes, takes, counts, opens, moves}
use Rattle.proof_processes.proofs.RootHistories.{took}
use Rattle.proof_processes.proofs.RowCounts.{HeardSo, effect_counts}
use Rattle.proof_processes.proofs.Tests.{either, left, right, both, case_is}

-- The turn of a coordinator with this parent.
pub turn_here : (me : ProcessId) (parent : Option ProcessId) (tree : List TreeProcess) (n : Node) (h : Heard)
    (e : Effect) → reacts (coordinator_place me parent tree) n h ≡ Does e
    → CoordinatorTurn (coordinator_place me parent tree) parent n h e
turn_here me None tree n h e r = coordinator_turn_of (coordinator_place me None tree) n h e r
turn_here me (Some p) tree n h e r = coordinator_turn_of (coordinator_place me (Some p) tree) n h e r

pub took_before : (c : Case) (t : Ticket) (xs ys : List (Case × Ticket)) → took c t ys ≡ true
    → took c t (xs ++ ys) ≡ true
took_before c t xs ys e = list_any-append _ xs ys ∙ right (took c t xs) (took c t ys) e

took_now : (c : Case) (t : Ticket) (xs ys : List (Case × Ticket)) → took c t xs ≡ true → took c t (xs ++ ys)
    ≡ true
took_now c t xs ys e = list_any-append _ xs ys ∙ left (took c t xs) (took c t ys) e

in_longer : (ts : List Ticket) (u t : Ticket) → in_list (ts ++ u ∷ []) t ≡ true
    → (in_list ts t ≡ true) ⊎ (same_ticket u t ≡ true)
unfolding in_list
in_longer ts u t e = last (either _ _ (sym (list_any-append _ ts (u ∷ [])) ∙ e))
  where
    last : (in_list ts t ≡ true) ⊎ ((same_ticket u t || false) ≡ true)
        → (in_list ts t ≡ true) ⊎ (same_ticket u t ≡ true)
    last (inl a) = inl a
    last (inr b) = inr (or_nothing (same_ticket u t) b)
      where
        or_nothing : (x : Bool) → (x || false) ≡ true → x ≡ true
        or_nothing x f = grind arith

pub in_nobody : {A : Type 0} (t : Ticket) → in_list [] t ≡ true → A
unfolding in_list
in_nobody t e = absurd (cc)

-- JOINED is answered by its row, at any coordinator
reacts_joined : (me : ProcessId) (parent : Option ProcessId) (tree : List TreeProcess) (n : Node) (h : Heard)
    → n.failed ≡ false → (k : ℕ) (d : Case) (u : Ticket) → h.input ≡ MessageInput k (Joined d u)
    → let v = coordinator_view (coordinator_place me parent tree) n d in
    reacts (coordinator_place me parent tree) n h ≡ Does (row_effect d (on_joined u v v.standing))
unfolding reacts
reacts_joined me None tree n h up k d u i =
    let place = coordinator_place me None tree in
    let v = coordinator_view place n d in
    subst (λ (x : Input). (if act_is_listed tree x then handles place n h x else Refused NoSuch)
    ≡ Does (row_effect d (on_joined u v v.standing))) (sym i) (rw up refl)
reacts_joined me (Some p) tree n h up k d u i =
    let place = coordinator_place me (Some p) tree in
    let v = coordinator_view place n d in
    subst (λ (x : Input). (if act_is_listed tree x then handles place n h x else Refused NoSuch)
    ≡ Does (row_effect d (on_joined u v v.standing))) (sym i) (rw up refl)

row_accepts : (d : Case) (u : Ticket) (v : CoordinatorView) (s : Standing) → s ≡ Active
    → has_child v.accepted u.child ≡ false
    → (row_effect d (on_joined u v s)).accepts ≡ (d, u) ∷ []
row_accepts d u v Active f g = rw g refl
row_accepts d u v s f g = absurd (cc)

module _ (me : ProcessId) (parent : Option ProcessId) (tree : List TreeProcess) (n : Node)
    (old : Coordinated (coordinator_place me parent tree) n) (h : Heard) (e : Effect) (up : n.failed ≡ false)
    (r : reacts (coordinator_place me parent tree) n h ≡ Does e)
  where
    abbrev place : Place
    place = coordinator_place me parent tree

    accepted_now : (k : ℕ) (d : Case) (u : Ticket) → h.input ≡ MessageInput k (Joined d u)
        → (memory_of place n d).phase ≡ Open → has_child (memory_of place n d).accepted u.child ≡ false
        → e.accepts ≡ (d, u) ∷ []
    accepted_now k d u i o f =
        let v = coordinator_view place n d in
        let active : v.standing ≡ Active = viewed place n d ∙ (old.together up d).open_is_active o in
        let same : row_effect d (on_joined u v v.standing) ≡ e =
        does_so (row_effect d (on_joined u v v.standing))
        (sym (reacts_joined me parent tree n h up k d u i) ∙ r) in
        ap (λ (g : Effect). g.accepts) (sym same)
        ∙ row_accepts d u v v.standing active
        (ap (λ ts. has_child ts u.child) (active_accepted me parent tree n h d active) ∙ f)
      where
        does_so : (g : Effect) → Does g ≡ Does e → g ≡ e
        does_so g q = cc

    -- who is remembered then

    module _ (c : Case) (t : Ticket) where
      abbrev m : Memory
      m = memory_of (coordinator_place me parent tree) n c

      kept_one : in_list (memory_of (coordinator_place me parent tree) n c).accepted t ≡ true
          → took c t (e.accepts ++ n.accepted) ≡ true
      kept_one f = took_before c t e.accepts n.accepted (old.remembered_accepted c t f)

      by_move : (k : Memory) → MovesMemory parent me (boot_of (kept n)) c m h.input k
          → in_list k.accepted t ≡ true
          → took c t (e.accepts ++ n.accepted) ≡ true
      by_move k (keeps v p l) f = kept_one (ap (λ ts. in_list ts t) (sym l.accepted) ∙ f)
      by_move k (asks a o p l) f = kept_one (ap (λ ts. in_list ts t) (sym l.accepted) ∙ f)
      by_move k (closes a o p l) f = kept_one (ap (λ ts. in_list ts t) (sym l.accepted) ∙ f)
      by_move k (counts u w x p a v) f = kept_one (ap (λ ts. in_list ts t) (sym a) ∙ f)
      by_move k (opens o p a v) f = in_nobody t (ap (λ ts. in_list ts t) (sym a) ∙ f)
      by_move k (takes j u i o b p a v) f =
          elim (in_longer m.accepted u t (ap (λ ts. in_list ts t) (sym a) ∙ f)) [
            | inl before ↦ kept_one before
            | inr now ↦ took_now c t e.accepts n.accepted
                (ap (took c t) (accepted_now j c u i o b) ∙ rw (same_case-refl c, now) refl)
          ]

      pub remembered_then : in_list (remembers_at parent me (boot_of (kept n)) c
          (memory_of (coordinator_place me parent tree) n c) h.input).accepted t ≡ true
          → took c t (e.accepts ++ n.accepted) ≡ true
      remembered_then = by_move _ (moves parent me (boot_of (kept n)) c m h.input)

      -- who has voted then

      counted_in : (ts : List Ticket) (vs : List (Ticket × Vote)) (u : Ticket) → is_counted ts vs u ≡ true
          → in_list ts u ≡ true
      counted_in ts vs u f = (both (in_list ts u) (not (has_voted vs u)) f).0

      counts_one : (q : Vote → Bool) (d : Case) (u : Ticket) (w : Vote)
          → CountsVote (coordinator_place me parent tree) n h d u w
          → HeardSo c t q ((d, (u, w)) ∷ []) → has_accepted n c t ≡ true
      counts_one q d u w i f =
          let v = coordinator_view place n d in
          let there : has_accepted n d u ≡ true =
          old.remembered_accepted d u
          (ap (λ ts. in_list ts u) (sym (collecting_accepted me parent tree n h d i.stands))
          ∙ counted_in v.accepted v.votes u i.counts) in
          let g = both (same_case d c) (same_ticket u t && q w) (or_nothing _ f) in
          let k = both (same_ticket u t) (q w) g.1 in
          subst (λ (x : Case). has_accepted n x t ≡ true) (case_is d c g.0)
          (subst (λ (x : Ticket). has_accepted n d x ≡ true) (ticket_is u t k.0) there)
        where
          or_nothing : (x : Bool) → (x || false) ≡ true → x ≡ true
          or_nothing x f = grind arith

          ticket_is : (a b : Ticket) → same_ticket a b ≡ true → a ≡ b
          ticket_is a b f = elim (same_ticket_tells a b) [ inl x ↦ x.1 | inr y ↦ absurd (let z = y.0 in cc) ]

      pub voted_then : (w : Vote) → heard_so c t w (e.counts ++ n.voted) ≡ true
          → took c t (e.accepts ++ n.accepted) ≡ true
      voted_then w f =
          took_before c t e.accepts n.accepted (elim
          (either _ _ (sym (list_any-append _ e.counts n.voted) ∙ f)) [
            | inl now ↦ effect_counts place parent n h c t (same_vote w) (has_accepted n c t ≡ true)
                (counts_one (same_vote w)) e (turn_here me parent tree n h e r) now
            | inr before ↦ old.voted_accepted c t w before
          ])
