-- The costs of a committed update.
use Rattle.std.proofs.Common.{◌≡◌, ◌∙◌, ◌+◌, ◌*◌, ℕ, Bool, true, false, not, ◌==◌, ◌&&◌, ◌||◌, Option, None, List, [], ◌∷◌, ◌++◌, length, filter, fold, refl, arith, ap, sym, subst, if◌then◌else◌}
use Rattle.std.specs.List.{list_any, list_all}
use Rattle.std.proofs.lemmas.Bool.{and_parts, and_from}
use Rattle.std.proofs.lemmas.List.{length-map}
use Rattle.std.proofs.lemmas.List.Folds.{list_any-append}
use Rattle.protocol.specs.declared.names.Case.{Case}
use Rattle.protocol.specs.declared.names.ProcessId.{ProcessId}
use Rattle.protocol.specs.declared.names.Presumption.{Presumption}
use Rattle.protocol.specs.declared.names.Presumption.TheVariants.{PresumeAbort, PresumeCommit}
use Rattle.protocol.specs.declared.names.Outcome.{Outcome}
use Rattle.protocol.specs.declared.names.Ticket.{Ticket}
use Rattle.protocol.specs.declared.messages.Finding.{Finding}
use Rattle.protocol.specs.declared.records.Write.{Write}
use Rattle.protocol.specs.declared.standings.Standing.TheVariants.{Collecting, Committing}
use Rattle.protocol_words.specs.Variants.{ActiveStanding, VoteYes}
use Rattle.protocol.specs.declared.standings.Vote.{Vote}
use Rattle.protocol.specs.Names.{same_ticket}
use Rattle.protocol.specs.NameLaws.{names, same_ticket-refl}
use Rattle.protocol.specs.Records.{in_list, none_of}
use Rattle.protocol.specs.Memory.{all_voted, has_voted, voted_so, yes_of}
use Rattle.protocol.specs.Standings.{CoordinatorView, unknown_view}
use Rattle.protocol.specs.CoordinatorRows.{Seat, Row, active_commit_alone, active_commit_with, collecting_read_only, other_tickets, quiet, root_commits}
use Rattle.protocol.specs.ManagerRows.{Leaf}
use Rattle.protocol.specs.Counts.{Cost, together, row_cost, Walked, walks, asks, hears_yes, hears_ack, acknowledging, root_walk, are_distinct, IsOrderOf, root_price, manager_cost, manager_price, CommittedUpdateCosts}

-- Lists of tickets.

refused : (a : Bool) → not a ≡ true → a ≡ false
refused a e = grind arith

same_is : (t u : Ticket) → same_ticket t u ≡ true → t ≡ u
same_is t u e = grind (arith, names)

in-cons : (t u : Ticket) (ts : List Ticket) → in_list (t ∷ ts) u ≡ (same_ticket t u || in_list ts u)
unfolding in_list
in-cons t u ts = refl

in-none : (u : Ticket) → in_list [] u ≡ false
unfolding in_list
in-none u = refl

in-push : (ts : List Ticket) (t u : Ticket) → in_list (ts ++ t ∷ []) u ≡ (in_list ts u || same_ticket t u)
unfolding in_list
in-push ts t u = grind (arith, list_any-append)

in-head : (t : Ticket) (ts : List Ticket) → in_list (t ∷ ts) t ≡ true
in-head t ts = in-cons t t ts ∙ rw (same_ticket-refl t) refl

in-tail : (t u : Ticket) (ts : List Ticket) → in_list ts u ≡ true → in_list (t ∷ ts) u ≡ true
in-tail t u ts e = in-cons t u ts ∙ right (same_ticket t u) (in_list ts u) e
  where
    right : (a b : Bool) → b ≡ true → (a || b) ≡ true
    right a b e = grind arith

-- a ticket that is in a list, and one that is not
apart : (t u : Ticket) (ts : List Ticket) → not (in_list ts t) ≡ true → in_list ts u ≡ true
    → same_ticket t u ≡ false
apart t u ts n e = by (same_ticket t u) refl
  where
    by : (b : Bool) → same_ticket t u ≡ b → same_ticket t u ≡ false
    by false s = s
    by true s = absurd (let f : true ≡ false = sym e
        ∙ (ap (in_list ts) (sym (same_is t u s)) ∙ refused _ n) in cc)

-- a test that all tickets of a list pass
all_pass : (q : Ticket → Bool) (ts : List Ticket) → ((u : Ticket) → in_list ts u ≡ true → q u ≡ true)
    → list_all q ts ≡ true
all_pass q [] f = refl
all_pass q (t ∷ ts) f =
    and_from (q t) (list_all q ts) (f t (in-head t ts)) (all_pass q ts (λ u e. f u (in-tail t u ts e)))

each_passes : (q : Ticket → Bool) (ts : List Ticket) (u : Ticket) → list_all q ts ≡ true → in_list ts u ≡ true
    → q u ≡ true
each_passes q [] u f e = absurd (let g : false ≡ true = sym (in-none u) ∙ e in cc)
each_passes q (t ∷ ts) u f e =
    let both = and_parts (q t) (list_all q ts) f in
    passes_by (same_ticket t u) refl both.0 (λ g. each_passes q ts u both.1 g)
  where
    later : (b c : Bool) → (b || c) ≡ true → b ≡ false → c ≡ true
    later b c g h = grind arith

    passes_by : (b : Bool) → same_ticket t u ≡ b → q t ≡ true → (in_list ts u ≡ true → q u ≡ true)
        → q u ≡ true
    passes_by true s now rest = subst (λ z. q z ≡ true) (same_is t u s) now
    passes_by false s now rest = rest (later (same_ticket t u) (in_list ts u) (sym (in-cons t u ts) ∙ e) s)

one_fails : (q : Ticket → Bool) (ts : List Ticket) (u : Ticket) → in_list ts u ≡ true → q u ≡ false
    → list_all q ts ≡ false
one_fails q ts u e f = by_all (list_all q ts) refl
  where
    by_all : (b : Bool) → list_all q ts ≡ b → list_all q ts ≡ false
    by_all false s = s
    by_all true s = absurd (let g : false ≡ true = sym f ∙ each_passes q ts u s e in cc)

filter_all : (q : Ticket → Bool) (ts : List Ticket) → list_all q ts ≡ true → filter q ts ≡ ts
filter_all q [] f = refl
filter_all q (t ∷ ts) f =
    let both = and_parts (q t) (list_all q ts) f in rw (both.0, filter_all q ts both.1) refl

empty : (ts : List Ticket) → ((u : Ticket) → in_list ts u ≡ false) → none_of ts ≡ true
unfolding none_of
empty [] f = refl
empty (t ∷ ts) f = absurd (let g : true ≡ false = sym (in-head t ts) ∙ f t in cc)

some : (ts : List Ticket) (u : Ticket) → in_list ts u ≡ true → none_of ts ≡ false
unfolding none_of
some [] u e = absurd (let g : false ≡ true = sym (in-none u) ∙ e in cc)
some (t ∷ ts) u e = refl

others : (t u : Ticket) (ts : List Ticket) → in_list (other_tickets t ts) u
    ≡ (in_list ts u && not (same_ticket t u))
unfolding other_tickets in_list
others t u [] = refl
others t u (v ∷ vs) = kept (same_ticket t v) refl (others t u vs)
  where
    gone : (a b c : Bool) → (a ≡ true → c ≡ true) → (b && not c) ≡ ((a || b) && not c)
    gone a b c f = grind arith

    stays : (a b c : Bool) → (a ≡ true → c ≡ false) → (a || (b && not c)) ≡ ((a || b) && not c)
    stays a b c f = grind arith

    rest : List Ticket
    rest = filter (λ x. not (same_ticket t x)) vs

    kept : (b : Bool) → same_ticket t v ≡ b
        → list_any (λ x. same_ticket x u) rest ≡ (list_any (λ x. same_ticket x u) vs && not (same_ticket t u))
        → list_any (λ x. same_ticket x u) (if not b then v ∷ rest else rest)
        ≡ ((same_ticket v u || list_any (λ x. same_ticket x u) vs) && not (same_ticket t u))
    kept true s h = h ∙ gone (same_ticket v u) _ (same_ticket t u) (λ e.
        let p : v ≡ u = same_is v u e in subst (λ z. same_ticket t z ≡ true) p s)
    kept false s h = ap (λ b. same_ticket v u || b) h
        ∙ stays (same_ticket v u) _ (same_ticket t u) (λ e.
        let p : v ≡ u = same_is v u e in subst (λ z. same_ticket t z ≡ false) p s)

-- Votes.

has_voted-push : (vs : List (Ticket × Vote)) (t u : Ticket)
    → has_voted (vs ++ (t, VoteYes) ∷ []) u ≡ (has_voted vs u || same_ticket t u)
unfolding has_voted
has_voted-push vs t u = grind (arith, list_any-append)

voted_yes-push : (vs : List (Ticket × Vote)) (t u : Ticket)
    → voted_so VoteYes (vs ++ (t, VoteYes) ∷ []) u ≡ (voted_so VoteYes vs u || same_ticket t u)
unfolding voted_so
voted_yes-push vs t u = grind (arith, list_any-append)

-- Costs.

abbrev nothing : Cost
nothing = record { records = 0; forced = 0; messages = 0 }

plus-none : (n : ℕ) → n + 0 ≡ n
plus-none n = omega arith

for_nothing : (c : Cost) → together c nothing ≡ c
for_nothing c = rw (plus-none c.records, plus-none c.forced, plus-none c.messages) refl

-- The votes.

module _ (me : ProcessId) (own : Case) (v : CoordinatorView) where
  abbrev s : Seat
  s = record { me = me; parent = None; own = own }

  -- votes are collected, and these have come
  abbrev waiting : List (Ticket × Vote) → CoordinatorView
  waiting vs = record v { standing = Collecting; votes = vs }

  abbrev walked : Cost → CoordinatorView → Walked
  walked c w = record { cost = c; view = w }

  -- the votes that have come, all YES, and the tickets that are still to vote
  record Votes (vs : List (Ticket × Vote)) (rest : List Ticket) : Type 0 where
    distinct : are_distinct rest ≡ true
    among : (u : Ticket) → in_list rest u ≡ true → in_list v.accepted u ≡ true
    fresh : (u : Ticket) → in_list rest u ≡ true → has_voted vs u ≡ false
    all : (u : Ticket) → in_list v.accepted u ≡ true → (has_voted vs u || in_list rest u) ≡ true
    said : (u : Ticket) → has_voted vs u ≡ voted_so VoteYes vs u

  decided : List (Ticket × Vote) → Cost → Walked
  decided vs c = walks (walked c (waiting vs)) (root_commits s (waiting vs) v.accepted own.txn.presumption)

  one_vote : (vs : List (Ticket × Vote)) (t : Ticket) (c : Cost) → in_list v.accepted t ≡ true
      → has_voted vs t ≡ false
      → (b : Bool) → all_voted v.accepted (vs ++ (t, VoteYes) ∷ []) ≡ b
      → (b ≡ true → none_of v.accepted ≡ false × (yes_of v.accepted (vs ++ (t, VoteYes) ∷ []) ≡ v.accepted))
      → hears_yes s (walked c (waiting vs)) t
      ≡ (if b then decided (vs ++ (t, VoteYes) ∷ []) c else walked c (waiting (vs ++ (t, VoteYes) ∷ [])))
  unfolding decided
  one_vote vs t c i f b e g = counted ∙ by_all b e g
    where
      now : List (Ticket × Vote)
      now = vs ++ (t, VoteYes) ∷ []

      row : Bool → List Ticket → Row
      row all ys =
          if all then (if none_of ys then collecting_read_only s
          else root_commits s (waiting now) ys own.txn.presumption)
          else quiet (waiting now)

      counted : hears_yes s (walked c (waiting vs)) t
          ≡ walks (walked c (waiting vs)) (row (all_voted v.accepted now) (yes_of v.accepted now))
      counted =
          ap (λ (k : Bool). walks (walked c (waiting vs))
          (if k then record (row (all_voted v.accepted now) (yes_of v.accepted now))
          { counts = (t, VoteYes) ∷ [] }
          else quiet (waiting vs))) (and_from (in_list v.accepted t) (not (has_voted vs t)) i (ap not f))

      by_all : (k : Bool) → all_voted v.accepted now ≡ k
          → (k ≡ true → none_of v.accepted ≡ false × (yes_of v.accepted now ≡ v.accepted))
          → walks (walked c (waiting vs)) (row (all_voted v.accepted now) (yes_of v.accepted now))
          ≡ (if k then decided now c else walked c (waiting now))
      by_all true h says =
          ap (λ (a : Bool). walks (walked c (waiting vs)) (row a (yes_of v.accepted now))) h
          ∙ (ap (λ ys. walks (walked c (waiting vs)) (row true ys)) (says refl).1
          ∙ ap (λ (n : Bool). walks (walked c (waiting vs)) (if n then collecting_read_only s
          else root_commits s (waiting now) v.accepted own.txn.presumption)) (says refl).0)
      by_all false h says =
          ap (λ (a : Bool). walks (walked c (waiting vs)) (row a (yes_of v.accepted now))) h
          ∙ ap (λ x. walked x (waiting now)) (for_nothing c)

  -- those that have voted, after one more
  votes_then : (vs : List (Ticket × Vote)) (t : Ticket) (rest : List Ticket) → Votes vs (t ∷ rest)
      → Votes (vs ++ (t, VoteYes) ∷ []) rest
  unfolding are_distinct
  votes_then vs t rest h =
      let both = and_parts (not (in_list rest t)) (are_distinct rest) h.distinct in
      record {
        distinct = both.1;
        among = λ u e. h.among u (in-tail t u rest e);
        fresh = λ u e. has_voted-push vs t u ∙ neither (has_voted vs u) (same_ticket t u)
            (h.fresh u (in-tail t u rest e)) (apart t u rest both.0 e);
        all = λ u e. ap (λ b. b || in_list rest u) (has_voted-push vs t u)
            ∙ (grouped (has_voted vs u) (same_ticket t u) (in_list rest u)
            ∙ (ap (λ b. has_voted vs u || b) (sym (in-cons t u rest)) ∙ h.all u e));
        said = λ u. has_voted-push vs t u
            ∙ (ap (λ b. b || same_ticket t u) (h.said u) ∙ sym (voted_yes-push vs t u));
      }
    where
      neither : (a b : Bool) → a ≡ false → b ≡ false → (a || b) ≡ false
      neither a b e f = grind arith

      grouped : (a b c : Bool) → ((a || b) || c) ≡ (a || (b || c))
      grouped a b c = grind arith

  all_heard : (vs : List (Ticket × Vote)) → Votes vs [] → (u : Ticket) → in_list v.accepted u ≡ true
      → has_voted vs u ≡ true
  all_heard vs h u e = alone (has_voted vs u) (in_list [] u) (in-none u) (h.all u e)
    where
      alone : (a b : Bool) → b ≡ false → (a || b) ≡ true → a ≡ true
      alone a b e f = grind arith

  -- the last of them decides
  votes_walk : (vs : List (Ticket × Vote)) (t : Ticket) (rest : List Ticket) (c : Cost)
      → none_of v.accepted ≡ false
      → Votes vs (t ∷ rest)
      → (final : List (Ticket × Vote)) × (fold (hears_yes s) (walked c (waiting vs)) (t ∷ rest)
      ≡ decided final c)
  unfolding all_voted yes_of
  votes_walk vs t [] c takes h =
      let now = vs ++ (t, VoteYes) ∷ [] in
      let h' = votes_then vs t [] h in
      let voted : list_all (has_voted now) v.accepted ≡ true =
      all_pass (has_voted now) v.accepted (all_heard now h') in
      let all_yes : filter (voted_so VoteYes now) v.accepted ≡ v.accepted =
      filter_all (voted_so VoteYes now) v.accepted
      (all_pass (voted_so VoteYes now) v.accepted (λ u e. sym (h'.said u) ∙ all_heard now h' u e)) in (
        now,
        one_vote vs t c (h.among t (in-head t [])) (h.fresh t (in-head t [])) true voted
            (λ e. (takes, all_yes)),
      )
  votes_walk vs t (u ∷ us) c takes h =
      let now = vs ++ (t, VoteYes) ∷ [] in
      let h' = votes_then vs t (u ∷ us) h in
      let waits : list_all (has_voted now) v.accepted ≡ false =
      one_fails (has_voted now) v.accepted u (h'.among u (in-head u us)) (h'.fresh u (in-head u us)) in
      let later = votes_walk now u us c takes h' in (
        later.0,
        ap (λ w. fold (hears_yes s) w (u ∷ us))
            (one_vote vs t c (h.among t (in-head t (u ∷ us))) (h.fresh t (in-head t (u ∷ us))) false waits
            (λ e. absurd (cc))) ∙ later.1,
      )

  -- The acknowledgements.

  abbrev owing : List Ticket → CoordinatorView → CoordinatorView
  owing o w = record w { standing = Committing; owed = o }

  abbrev end_cost : Cost
  end_cost = record { records = 1; forced = 0; messages = 0 }

  one_ack : (w : CoordinatorView) (o : List Ticket) (t : Ticket) (c : Cost) → in_list o t ≡ true
      → (b : Bool) → none_of (other_tickets t o) ≡ b
      → hears_ack s (walked c (owing o w)) t
      ≡ (if b then walked (together c end_cost) unknown_view else walked c (owing (other_tickets t o) w))
  one_ack w o t c i true e = rw (i, e) refl
  one_ack w o t c i false e =
      rw (i, e) (ap (λ x. walked x (owing (other_tickets t o) w)) (for_nothing c))

  abbrev Owes : List Ticket → List Ticket → Type 0
  Owes o rest = (u : Ticket) → in_list o u ≡ in_list rest u

  owes_then : (o : List Ticket) (t : Ticket) (rest : List Ticket) → in_list rest t ≡ false → Owes o (t ∷ rest)
      → Owes (other_tickets t o) rest
  owes_then o t rest n h u =
      others t u o ∙ (ap (λ b. b && not (same_ticket t u)) (h u ∙ in-cons t u rest)
      ∙ without (same_ticket t u) (in_list rest u) (λ e.
      subst (λ z. in_list rest z ≡ false) (same_is t u e) n))
    where
      without : (a b : Bool) → (a ≡ true → b ≡ false) → ((a || b) && not a) ≡ b
      without a b f = grind arith

  acks_walk : (w : CoordinatorView) (o : List Ticket) (t : Ticket) (rest : List Ticket) (c : Cost)
      → are_distinct (t ∷ rest) ≡ true → Owes o (t ∷ rest)
      → fold (hears_ack s) (walked c (owing o w)) (t ∷ rest) ≡ walked (together c end_cost) unknown_view
  unfolding are_distinct
  acks_walk w o t [] c d h =
      one_ack w o t c (h t ∙ in-head t []) true
      (empty (other_tickets t o) (λ u. owes_then o t [] (in-none t) h u ∙ in-none u))
  acks_walk w o t (u ∷ us) c d h =
      let both = and_parts (not (in_list (u ∷ us) t)) (are_distinct (u ∷ us)) d in
      let rest = owes_then o t (u ∷ us) (refused (in_list (u ∷ us) t) both.0) h in
      ap (λ x. fold (hears_ack s) x (u ∷ us))
      (one_ack w o t c (h t ∙ in-head t (u ∷ us)) false (some (other_tickets t o) u (rest u ∙ in-head u us)))
      ∙ acks_walk w (other_tickets t o) u us c both.1 rest

-- The whole walk.

same_tickets : (order tickets : List Ticket) → IsOrderOf order tickets → (u : Ticket)
    → in_list tickets u ≡ in_list order u
same_tickets order tickets is u =
    equal (in_list tickets u) (in_list order u) (λ e. each_passes (in_list order) tickets u is.all e)
    (λ e. each_passes (in_list tickets) order u is.among e)
  where
    equal : (a b : Bool) → (a ≡ true → b ≡ true) → (b ≡ true → a ≡ true) → a ≡ b
    equal a b f g = grind arith

cost_is : (c d : Cost) → c.records ≡ d.records → c.forced ≡ d.forced → c.messages ≡ d.messages → c ≡ d
cost_is c d e f g = rw (e, f, g) refl

twice : (l m n : ℕ) → l ≡ n → m ≡ n → l + m ≡ 2 * n
twice l m n f g = omega arith

twice_and_none : (l m n : ℕ) → l ≡ n → m ≡ n → (l + m) + 0 ≡ 2 * n
twice_and_none l m n f g = omega arith

-- a list that orders one that is not empty has a first ticket
record HasFirst (order : List Ticket) : Type 0 where
  first : Ticket
  rest : List Ticket
  is : order ≡ first ∷ rest

first_of : (order tickets : List Ticket) → none_of tickets ≡ false → IsOrderOf order tickets → HasFirst order
unfolding none_of
first_of (t ∷ ts) tickets takes is = record { first = t; rest = ts; is = refl }
first_of [] [] takes is = absurd (cc)
first_of [] (t ∷ ts) takes is =
    absurd (let f : false ≡ true = sym (in-none t)
    ∙ (and_parts (in_list [] t) (list_all (in_list []) ts) is.all).0 in cc)

no_votes : (t : Ticket) → has_voted [] t ≡ false
unfolding has_voted
no_votes t = refl

no_yes : (t : Ticket) → has_voted [] t ≡ voted_so VoteYes [] t
unfolding has_voted voted_so
no_yes t = refl

no_votes_yet : (me : ProcessId) (own : Case) (v : CoordinatorView) (order : List Ticket)
    → IsOrderOf order v.accepted
    → Votes me own v [] order
no_votes_yet me own v order is = record {
  distinct = is.distinct;
  among = λ u e. same_tickets order v.accepted is u ∙ e;
  fresh = λ u e. no_votes u;
  all = λ u e. rw (no_votes u) (sym (same_tickets order v.accepted is u) ∙ e);
  said = no_yes;
}

module _ (me : ProcessId) (own : Case) (a : List Ticket) (works promised named owed : List Ticket)
    (found : List Finding) (takes : none_of a ≡ false) where
  abbrev begins : CoordinatorView
  begins = record {
    standing = ActiveStanding;
    accepted = a;
    votes = [];
    works = works;
    promised = promised;
    named = named;
    owed = owed;
    found = found;
  }

  abbrev root : Seat
  root = record { me = me; parent = None; own = own }

  abbrev IsPaid : Presumption → List Ticket → List Ticket → Type 0
  IsPaid p votes acks =
      root_walk root begins votes acks ≡ record { cost = root_price p (length a); view = unknown_view }

  -- votes, under either presumption, from the view that the commit act leaves
  all_vote : (v : CoordinatorView) → v.accepted ≡ a → v.votes ≡ [] → v.standing ≡ Collecting → (c : Cost)
      → (votes : List Ticket) → IsOrderOf votes v.accepted
      → (final : List (Ticket × Vote)) × (fold (hears_yes root) (record { cost = c; view = v }) votes
      ≡ decided me own v final c)
  all_vote v is_a is_none is_collecting c votes is =
      let h = first_of votes v.accepted (rw is_a takes) is in
      let begun : v ≡ waiting me own v [] = rw (is_none, is_collecting) refl in
      let order = subst (λ l. IsOrderOf l v.accepted) h.is is in
      let walk = votes_walk me own v [] h.first h.rest c (rw is_a takes)
      (no_votes_yet me own v (h.first ∷ h.rest) order) in (
        walk.0,
        ap (λ l. fold (hears_yes root) (record { cost = c; view = v }) l) h.is
            ∙ (ap (λ x. fold (hears_yes root) (record { cost = c; view = x }) (h.first ∷ h.rest)) begun
            ∙ walk.1),
      )

  -- the commit act
  asked : (q : Presumption) → own.txn.presumption ≡ q
      → asks root begins ≡ record {
        cost = row_cost (active_commit_with root begins q);
        view = (active_commit_with root begins q).view;
      }
  asked q e =
      let of_row : Row → Walked = λ r. record { cost = row_cost r; view = r.view } in
      ap (λ (b : Bool). of_row (if b then active_commit_alone root
      else active_commit_with root begins own.txn.presumption)) takes
      ∙ ap (λ p. of_row (active_commit_with root begins p)) e

  -- the decision
  abbrev agreed : Presumption → List (Ticket × Vote) → CoordinatorView → Cost → Walked
  agreed q final v c =
      let r = root_commits root (waiting me own v final) a q in
      record { cost = together c (row_cost r); view = r.view }

  decides_as : (q : Presumption) → own.txn.presumption ≡ q → (v : CoordinatorView) → v.accepted ≡ a
      → (final : List (Ticket × Vote)) (c : Cost) → decided me own v final c ≡ agreed q final v c
  unfolding decided
  decides_as q e v is_a final c = rw (e, is_a) refl

  -- from the commit act to the decision
  voted : (q : Presumption) → own.txn.presumption ≡ q → (votes : List Ticket) → IsOrderOf votes a
      → let w = (active_commit_with root begins q).view in
      let c = row_cost (active_commit_with root begins q) in
      (final : List (Ticket × Vote)) × (fold (hears_yes root) (asks root begins) votes ≡ agreed q final w c)
  voted PresumeAbort e votes is =
      let w = (active_commit_with root begins PresumeAbort).view in
      let c = row_cost (active_commit_with root begins PresumeAbort) in
      let walk = all_vote w refl refl refl c votes is in (
        walk.0,
        ap (λ x. fold (hears_yes root) x votes) (asked PresumeAbort e)
            ∙ (walk.1 ∙ decides_as PresumeAbort e w refl walk.0 c),
      )
  voted PresumeCommit e votes is =
      let w = (active_commit_with root begins PresumeCommit).view in
      let c = row_cost (active_commit_with root begins PresumeCommit) in
      let walk = all_vote w refl refl refl c votes is in (
        walk.0,
        ap (λ x. fold (hears_yes root) x votes) (asked PresumeCommit e)
            ∙ (walk.1 ∙ decides_as PresumeCommit e w refl walk.0 c),
      )

  -- the acknowledgements after the decision
  paid : (q : Presumption) → own.txn.presumption ≡ q → (votes acks : List Ticket) → IsOrderOf votes a
      → IsOrderOf acks a
      → fold (hears_ack root) (fold (hears_yes root) (asks root begins) votes) (acknowledging q acks)
      ≡ record { cost = root_price q (length a); view = unknown_view }
  paid PresumeAbort e votes acks is is' =
      let walk = voted PresumeAbort e votes is in
      let h = first_of acks a takes is' in
      let order = subst (λ l. IsOrderOf l a) h.is is' in
      let w = (active_commit_with root begins PresumeAbort).view in
      let c = row_cost (active_commit_with root begins PresumeAbort) in
      let waits : CoordinatorView = record (waiting me own w walk.0) { named = named ++ a } in
      let c' = together c (row_cost (root_commits root (waiting me own w walk.0) a PresumeAbort)) in
      let at : agreed PresumeAbort walk.0 w c
      ≡ record { cost = c'; view = owing me own w a waits } = rw takes refl in
      ap (λ x. fold (hears_ack root) x acks) (walk.1 ∙ at)
      ∙ (ap (λ l. fold (hears_ack root) (record { cost = c'; view = owing me own w a waits }) l) h.is
      ∙ (acks_walk me own w waits a h.first h.rest c' order.distinct (same_tickets (h.first ∷ h.rest) a order)
      ∙ ap (λ (x : Cost). record { cost = x; view = unknown_view })
      (cost_is (together c' (end_cost me own w)) (root_price PresumeAbort (length a)) refl refl
      (twice_and_none _ _ (length a) (length-map a _) (length-map a _)))))
  paid PresumeCommit e votes acks is is' =
      let walk = voted PresumeCommit e votes is in
      let w = (active_commit_with root begins PresumeCommit).view in
      let c = row_cost (active_commit_with root begins PresumeCommit) in
      let c' = together c (row_cost (root_commits root (waiting me own w walk.0) a PresumeCommit)) in
      walk.1 ∙ ap (λ (x : Cost). record { cost = x; view = unknown_view })
      (cost_is c' (root_price PresumeCommit (length a)) refl refl
      (twice _ _ (length a) (length-map a _) (length-map a _)))

-- A manager.

same_number : (n : ℕ) → (n == n) ≡ true
same_number n = grind arith

managed : (me parent : ProcessId) (ticket : Option Ticket) (root : ProcessId) (boot sequence : ℕ)
    (p : Presumption) (n : ℕ)
    (ws : List Write) (told : Option Outcome)
    → let l : Leaf = record {
      me = me;
      parent = parent;
      own = record {
        txn = record { root = root; boot = boot; sequence = sequence; presumption = p };
        ticket = ticket;
      };
    } in
    manager_cost l n ws (record { standing = ActiveStanding; done = n; spoiled = false; told = told })
    ≡ manager_price p
managed me parent ticket root boot sequence PresumeAbort n ws told = rw (same_number n) refl
managed me parent ticket root boot sequence PresumeCommit n ws told = rw (same_number n) refl

pub committed_update_costs : (s : Seat) → CommittedUpdateCosts s
committed_update_costs s =
    record {
      root = λ at_root v active none takes votes acks is is'.
          let P : Option ProcessId → Type 0 = λ q. root_walk (record s { parent = q }) v votes acks
          ≡ record { cost = root_price s.own.txn.presumption (length v.accepted); view = unknown_view } in
          let begun : v ≡ record v { standing = ActiveStanding; votes = [] } = rw (active, none) refl in
          let Q : CoordinatorView → Type 0 = λ x. root_walk (record s { parent = None }) x votes acks
          ≡ record { cost = root_price s.own.txn.presumption (length v.accepted); view = unknown_view } in
          subst P (sym at_root) (subst Q (sym begun)
          (paid s.me s.own v.accepted v.works v.promised v.named v.owed v.found takes
          s.own.txn.presumption refl votes
          acks is is'));
      manager = λ l n ws v active done sound.
          let stands : v ≡ record { standing = ActiveStanding; done = n; spoiled = false; told = v.told } = rw
          (sym active, sym done, sym sound) refl in
          ap (λ x. manager_cost l n ws x) stands
          ∙ managed l.me l.parent l.own.ticket l.own.txn.root l.own.txn.boot l.own.txn.sequence
          l.own.txn.presumption n ws v.told;
    }
