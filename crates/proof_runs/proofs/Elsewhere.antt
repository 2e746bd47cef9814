-- What children say of one case leaves the others as they are.
use Rattle.std.proofs.Common.{◌≡◌, Bool, true, false, not, ◌&&◌, ◌||◌, if◌then◌else◌, Option, None, Some, List, [], ◌∷◌, ◌++◌, refl, sym, ap, ◌∙◌, arith}
use Rattle.std.specs.Prelude.{⊤}
use Rattle.std.proofs.lemmas.List.{append-nil}
use Rattle.protocol.specs.declared.names.Case.{Case}
use Rattle.protocol.specs.declared.names.Outcome.{Outcome}
use Rattle.protocol.specs.declared.names.Ticket.{Ticket}
use Rattle.protocol.specs.declared.names.Txn.{Txn}
use Rattle.protocol.specs.declared.records.Record.{Record}
use Rattle.protocol_words.specs.Variants.{AbortRecord, CommitRecord}
use Rattle.protocol.specs.declared.messages.Message.TheVariants.{Ack}
use Rattle.protocol.specs.declared.standings.Standing.{Standing}
use Rattle.protocol.specs.declared.standings.Standing.TheVariants.{Unknown, Active, Collecting, Prepared, Committing, Aborting, Heuristic}
use Rattle.protocol.specs.declared.standings.Vote.{Vote}
use Rattle.protocol.specs.declared.standings.Vote.TheVariants.{Yes, No, Read}
use Rattle.protocol.specs.Names.{child_case, same_case, same_outcome, same_ticket, same_txn}
use Rattle.protocol.specs.NameLaws.{same_ticket_tells}
use Rattle.protocol.specs.Records.{has_case, in_list, named_by, named_in, owing_by, owing_in}
use Rattle.protocol.specs.Nodes.{Node, Place, kept}
use Rattle.protocol.specs.Memory.{Asked, Idle, Memory, Open, Over, Phase, found_of, has_acked, has_voted, hears_child, memory_of, of_child, takes_ack, takes_vote, with_vote}
use Rattle.protocol.specs.Standings.{CoordinatorView, belongs, coordinator_standing, coordinator_view, decided_outcome, own_cases, still_owed, view_at}
use Rattle.protocol.specs.Restarts.{is_known}
use Rattle.protocol.specs.Views.{IsOpenAlike, vote_message}
use Rattle.protocol.specs.SameViews.{SameView}
use Rattle.proof_model.proofs.AckLaws.{acked, found_push, has_acked-push}
use Rattle.protocol.proofs.NameTests.{case_tells, txn_tells}
use Rattle.proof_model.proofs.StandingLaws.{view_standing}
use Rattle.process_state.specs.States.{CoreState}
use Rattle.process_state.specs.Turns.{FindsChildCase, is_case_of}
use Rattle.tree_state.specs.StandsFor.{ChildrenFit}
use Rattle.proof_runs.proofs.Children.{and_all, lists}
use Rattle.proof_runs.proofs.Coordinators.{read}
use Rattle.protocol.specs.declared.messages.Finding.{Finding}

-- no other case was found
abbrev pub IsOther : Option Case → Case → Type 0
IsOther None d = ⊤
IsOther (Some c) d = same_case c d ≡ false

module _ (place : Place) (n : Node) (fit : ChildrenFit place n) (s : CoreState)
    (sees : (c : Case) → SameView (s.view_of c) (coordinator_view place n c)) where
  abbrev view : Case → CoordinatorView
  view c = coordinator_view place n c

  is_case-at : (x : Txn) (t : Ticket) (c : Case) → is_case_of s x t c
      ≡ (same_txn c.txn x && (is_known (view c).standing
      && (in_list (view c).accepted t || in_list (view c).named t)))
  is_case-at x t c = let same = sees c in
      (λ i. same_txn c.txn x && (is_known (same.standing i)
      && (in_list (same.accepted i) t || same.named t i)))

  its_parts : (x : Txn) (t : Ticket) (c : Case) → is_case_of s x t c ≡ true
      → (c.txn ≡ x) × (is_known (view c).standing ≡ true)
      × (belongs (memory_of place n c) (kept n) c t ≡ true)
  its_parts x t c is =
      let parts = and_all place n fit _ _ _ (sym (is_case-at x t c) ∙ is) in
      ((txn_tells c.txn x).0 parts.0, parts.1, sym (lists place n fit c t parts.1) ∙ parts.2)

  is_its : (x : Txn) (t : Ticket) (c : Case) → same_txn c.txn x ≡ true → is_known (view c).standing ≡ true
      → belongs (memory_of place n c) (kept n) c t ≡ true → is_case_of s x t c ≡ true
  is_its x t c of known its = is_case-at x t c ∙ rw (of, known, lists place n fit c t known, its) refl

  -- what was found is live, and of the transaction
  pub found_known : (x : Txn) (t : Ticket) (c : Case) → FindsChildCase s (Some (x, t)) (Some c)
      → (c.txn ≡ x) × (is_known (view c).standing ≡ true)
  found_known x t c is = let parts = its_parts x t c is in (parts.0, parts.1)

  pub found_belongs : (x : Txn) (t : Ticket) (c : Case) → FindsChildCase s (Some (x, t)) (Some c)
      → belongs (memory_of place n c) (kept n) c t ≡ true
  found_belongs x t c is = (its_parts x t c is).2

  -- the child belongs to no live case but to the one that was found
  pub belongs_not : (x : Txn) (t : Ticket) (found : Option Case) → FindsChildCase s (Some (x, t)) found
      → (d : Case)
      → IsOther found d
      → same_txn x d.txn ≡ true → is_known (view d).standing ≡ true
      → belongs (memory_of place n d) (kept n) d t ≡ false
  belongs_not x t found finds d other of known = by_test (belongs (memory_of place n d) (kept n) d t) refl
    where
      flipped : same_txn d.txn x ≡ true
      flipped = let one : x ≡ d.txn = (txn_tells x d.txn).0 of in (txn_tells d.txn x).1 (sym one)

      there : has_case (own_cases place.role place n x) d ≡ true
      there = let one : x
          ≡ d.txn =
          (txn_tells x d.txn).0 of in ap (λ y. has_case (own_cases place.role place n y) d) one
          ∙ fit.listed d known

      none_other : {A : Type 0} (o : Option Case) → FindsChildCase s (Some (x, t)) o → IsOther o d
          → belongs (memory_of place n d) (kept n) d t ≡ true → A
      none_other None none other its = let yes : is_case_of s x t d
          ≡ true = is_its x t d flipped known its in let no : is_case_of s x t d
          ≡ false = none d in absurd (cc)
      none_other (Some c) is other its =
          let parts = its_parts x t c is in
          let listed : has_case (own_cases place.role place n x) c ≡ true =
          ap (λ y. has_case (own_cases place.role place n y) c) (sym parts.0) ∙ fit.listed c parts.1 in
          let one : c ≡ d = fit.one x t c d listed parts.2 there its in
          let same : same_case c d ≡ true = (case_tells c d).1 one in
          absurd (cc)

      by_test : (b : Bool) → belongs (memory_of place n d) (kept n) d t ≡ b
          → belongs (memory_of place n d) (kept n) d t ≡ false
      by_test false is = is
      by_test true is = none_other found finds other is

either_false : (a b : Bool) → (a || b) ≡ false → a ≡ false
either_false a b h = grind arith

other_false : (a b : Bool) → (a || b) ≡ false → b ≡ false
other_false a b h = grind arith

-- who owes is named
in_append-false : (ts us : List Ticket) (t : Ticket) → in_list (ts ++ us) t ≡ false
    → (in_list ts t ≡ false) × (in_list us t ≡ false)
unfolding in_list
in_append-false [] us t h = (refl, h)
in_append-false (u ∷ ts) us t h =
    let rest = in_append-false ts us t (other_false (same_ticket u t) _ h) in
    (rw (either_false (same_ticket u t) _ h, rest.0) refl, rest.1)

both_not : (ts us : List Ticket) (t : Ticket) → in_list ts t ≡ false → in_list us t ≡ false
    → in_list (ts ++ us) t ≡ false
unfolding in_list
both_not [] us t h k = k
both_not (u ∷ ts) us t h k =
    rw (either_false (same_ticket u t) _ h) (both_not ts us t (other_false (same_ticket u t) _ h) k)

none_in : (t : Ticket) → in_list [] t ≡ false
unfolding in_list
none_in t = refl

owing_one : (c : Case) (t : Ticket) (r : Record) → in_list (named_in c r) t ≡ false
    → in_list (owing_in c r) t ≡ false
owing_one c t (CommitRecord d ts) h = h
owing_one c t (AbortRecord d ts) h = h
owing_one c t r h = none_in t

pub unnamed_unowing : (c : Case) (t : Ticket) (rs : List Record) → in_list (named_by c rs) t ≡ false
    → in_list (owing_by c rs) t ≡ false
unfolding named_by owing_by
unnamed_unowing c t [] h = none_in t
unnamed_unowing c t (r ∷ rs) h =
    let parts = in_append-false (named_in c r) (named_by c rs) t h in
    both_not (owing_in c r) (owing_by c rs) t (owing_one c t r parts.0) (unnamed_unowing c t rs parts.1)

-- an acknowledgement of a ticket that does not owe one changes nothing
pub others_owe : (acks : List (Ticket × Outcome)) (t : Ticket) (a o : Outcome)
    (ts : List Ticket) → in_list ts t ≡ false
    → still_owed (acks ++ (t, a) ∷ []) o ts ≡ still_owed acks o ts
unfolding in_list still_owed
others_owe acks t a o [] h = refl
others_owe acks t a o (u ∷ ts) h =
    by_tests (not (has_acked (acks ++ (t, a) ∷ []) o u)) (not (has_acked acks o u))
    (same_not u (either_false (same_ticket u t) _ h))
    (others_owe acks t a o ts (other_false (same_ticket u t) _ h))
  where
    no_more : (x y : Bool) → (x || (y && false)) ≡ x
    no_more x y = grind arith

    flipped : (u : Ticket) → same_ticket u t ≡ false → same_ticket t u ≡ false
    flipped u e = grind (arith, same_ticket_tells)

    same_not : (u : Ticket) → same_ticket u t ≡ false
        → not (has_acked (acks ++ (t, a) ∷ []) o u) ≡ not (has_acked acks o u)
    same_not u e =
        ap not (has_acked-push acks t u a o ∙ rw (flipped u e)
        (no_more (has_acked acks o u) (same_outcome a o)))

    by_tests : (x y : Bool) → x ≡ y → still_owed (acks ++ (t, a) ∷ []) o ts ≡ still_owed acks o ts
        → (if x then u ∷ still_owed (acks ++ (t, a) ∷ []) o ts else still_owed (acks ++ (t, a) ∷ []) o ts)
        ≡ (if y then u ∷ still_owed acks o ts else still_owed acks o ts)
    by_tests x y e rest = (λ i. if e i then u ∷ rest i else rest i)

-- and it brings nothing
others_found : (acks : List (Ticket × Outcome))
    (found : List (Ticket × (Outcome × List Finding))) (t : Ticket)
    (a o : Outcome) (fs : List Finding) (ts : List Ticket) → in_list ts t ≡ false
    → found_of (found ++ (if has_acked acks a t then [] else (t, (a, fs)) ∷ [])) o ts ≡ found_of found o ts
others_found acks found t a o fs ts none = by_test (has_acked acks a t)
  where
    by_outcome : (b : Bool)
        → (found_of found o ts ++ (if b && false then fs else [])) ≡ found_of found o ts
    by_outcome true = append-nil (found_of found o ts)
    by_outcome false = append-nil (found_of found o ts)

    by_test : (b : Bool)
        → found_of (found ++ (if b then [] else (t, (a, fs)) ∷ [])) o ts ≡ found_of found o ts
    by_test true = ap (λ l. found_of l o ts) (append-nil found)
    by_test false =
        found_push found t a o fs ts
        ∙ (ap (λ k. found_of found o ts ++ (if same_outcome a o && k then fs else [])) none
        ∙ by_outcome (same_outcome a o))

owing_so : (v : CoordinatorView) (ts us : List Ticket) (fs gs : List Finding) → ts ≡ us → fs ≡ gs
    → record v { owed = ts; found = fs } ≡ record v { owed = us; found = gs }
owing_so v ts us fs gs e f = (λ i. record v { owed = e i; found = f i })

-- the view of a live case in which nobody owes the ticket, or of one that is not live
acked_view : (rs : List Record) (d : Case) (m : Memory) (t : Ticket) (o : Outcome) (fs : List Finding)
    (st : Standing) → (is_known st ≡ true → in_list (owing_by d rs) t ≡ false)
    → view_at st rs d (acked m t o fs) ≡ view_at st rs d m
acked_view rs d m t o fs Unknown h = refl
acked_view rs d m t o fs Active h = owing_so (view_at Active rs d m) _ _ _ _
    (others_owe m.acks t o (decided_outcome Active) (owing_by d rs) (h refl))
    (others_found m.acks m.found t o (decided_outcome Active) fs (owing_by d rs) (h refl))
acked_view rs d m t o fs Collecting h = owing_so (view_at Collecting rs d m) _ _ _ _
    (others_owe m.acks t o (decided_outcome Collecting) (owing_by d rs) (h refl))
    (others_found m.acks m.found t o (decided_outcome Collecting) fs (owing_by d rs) (h refl))
acked_view rs d m t o fs Prepared h = owing_so (view_at Prepared rs d m) _ _ _ _
    (others_owe m.acks t o (decided_outcome Prepared) (owing_by d rs) (h refl))
    (others_found m.acks m.found t o (decided_outcome Prepared) fs (owing_by d rs) (h refl))
acked_view rs d m t o fs Committing h = owing_so (view_at Committing rs d m) _ _ _ _
    (others_owe m.acks t o (decided_outcome Committing) (owing_by d rs) (h refl))
    (others_found m.acks m.found t o (decided_outcome Committing) fs (owing_by d rs) (h refl))
acked_view rs d m t o fs Aborting h = owing_so (view_at Aborting rs d m) _ _ _ _
    (others_owe m.acks t o (decided_outcome Aborting) (owing_by d rs) (h refl))
    (others_found m.acks m.found t o (decided_outcome Aborting) fs (owing_by d rs) (h refl))
acked_view rs d m t o fs Heuristic h = owing_so (view_at Heuristic rs d m) _ _ _ _
    (others_owe m.acks t o (decided_outcome Heuristic) (owing_by d rs) (h refl))
    (others_found m.acks m.found t o (decided_outcome Heuristic) fs (owing_by d rs) (h refl))

module _ (place : Place) (n : Node) (d : Case) (alike : IsOpenAlike place n d) where
  abbrev m : Memory
  m = memory_of place n d

  abbrev rs : List Record
  rs = kept n

  stands_as : (coordinator_view place n d).standing ≡ coordinator_standing rs d m
  unfolding coordinator_view
  stands_as = view_standing (coordinator_standing rs d m) rs d m

  -- the ticket belongs to a case of the transaction only where that is not live
  abbrev pub IsStranger : Txn → Ticket → Type 0
  IsStranger x t =
      same_txn x d.txn ≡ true → is_known (coordinator_view place n d).standing
      ≡ true → belongs m rs d t ≡ false

  pub vote_hears : (x : Txn) (t : Ticket) (w : Vote)
      → hears_child d m (vote_message w (child_case x t))
      ≡ of_child d (child_case x t) m (λ u. takes_vote m u w m.phase)
  vote_hears x t Yes = refl
  vote_hears x t No = refl
  vote_hears x t Read = refl

  not_taken : (t : Ticket) (w : Vote)
      → (is_known (coordinator_view place n d).standing ≡ true → belongs m rs d t ≡ false)
      → (ph : Phase) → m.phase ≡ ph → takes_vote m t w ph ≡ m
  not_taken t w stranger Idle is = refl
  not_taken t w stranger Open is = refl
  not_taken t w stranger Over is = refl
  not_taken t w stranger Asked is =
      let none : in_list m.accepted t ≡ false =
      either_false _ _ (stranger (ap is_known (alike.asked_is_collecting is))) in
      ap (λ b. if b && not (has_voted m.votes t) then with_vote m t w else m) none

  pub vote_keeps : (x : Txn) (t : Ticket) (w : Vote) → IsStranger x t
      → read rs d (hears_child d m (vote_message w (child_case x t))) ≡ read rs d m
  vote_keeps x t w stranger = ap (read rs d) (vote_hears x t w ∙ by_txn (same_txn x d.txn) refl)
    where
      by_txn : (b : Bool) → same_txn x d.txn ≡ b → (if b then takes_vote m t w m.phase else m) ≡ m
      by_txn false of = refl
      by_txn true of = not_taken t w (stranger of) m.phase refl

  pub ack_keeps : (x : Txn) (t : Ticket) (o : Outcome) (fs : List Finding) → IsStranger x t
      → read rs d (hears_child d m (Ack (child_case x t) o fs)) ≡ read rs d m
  ack_keeps x t o fs stranger = by_txn (same_txn x d.txn) refl
    where
      unnamed : same_txn x d.txn ≡ true → is_known (coordinator_standing rs d m) ≡ true
          → in_list (owing_by d rs) t ≡ false
      unnamed of known =
          unnamed_unowing d t rs
          (other_false (in_list m.accepted t) (in_list (named_by d rs) t)
          (stranger of (ap is_known stands_as ∙ known)))

      noted : same_txn x d.txn ≡ true → (ph : Phase) → read rs d (takes_ack m t o fs ph) ≡ read rs d m
      noted of Open = refl
      noted of Asked = refl
      noted of Idle = acked_view rs d m t o fs (coordinator_standing rs d m) (unnamed of)
      noted of Over = acked_view rs d m t o fs (coordinator_standing rs d m) (unnamed of)

      by_txn : (b : Bool) → same_txn x d.txn ≡ b
          → read rs d (if b then takes_ack m t o fs m.phase else m) ≡ read rs d m
      by_txn false of = refl
      by_txn true of = noted of m.phase
