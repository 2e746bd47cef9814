-- What the view of a live case becomes where its children change.
use Rattle.std.proofs.Common.{◌≡◌, ℕ, ◌+◌, Bool, true, false, not, ◌&&◌, ◌||◌, None, Some, List, [], ◌∷◌, ◌++◌, map, if◌then◌else◌, refl, sym, ap, ◌∙◌}
use Rattle.std.specs.List.{cons_option}
use Rattle.protocol.specs.declared.messages.Finding.{Finding}
use Rattle.protocol.specs.declared.names.Ticket.{Ticket}
use Rattle.protocol.specs.declared.messages.Message.TheVariants.{Prepare}
use Rattle.protocol.specs.declared.standings.Standing.{Standing}
use Rattle.protocol.specs.declared.standings.Vote.{Vote}
use Rattle.protocol.specs.Names.{child_case, same_ticket}
use Rattle.protocol.specs.Records.{in_list}
use Rattle.protocol.specs.Memory.{is_counted, same_vote, voted_so, works_of}
use Rattle.protocol.specs.CoordinatorRows.{Seat, post, prepares}
use Rattle.protocol.specs.SameViews.{SameView}
use Rattle.coord_case.specs.declared.child.Child.{Child}
use Rattle.coord_case.specs.Lives.{Uncounts, accepted_in, are_distinct, changing, is_vote, meant, sending, vote_of, votes_in, voting, works_in}
use Rattle.coord_case.proofs.Children.{accepted-changing, accepted_in-push, each_two, casts-unvoting, casts-voting, counted_is, map_each, voted-casts, voted_so-push, votes_in-push, works-voting, works_in-push}
use Rattle.coord_case.proofs.Works.{works-sending, works_each, works_of-push}

-- the first vote of a ticket
pub counts-vote : (s : Standing) (cs : List Child) (promised named owed : List Ticket) (found : List Finding)
    (t : Ticket) (w : Vote)
    → is_counted (accepted_in cs) (votes_in cs) t ≡ true
    → SameView (meant s (changing t (voting (Some w)) cs) promised named owed found)
    (record (meant s cs promised named owed found) { votes = votes_in cs ++ (t, w) ∷ [] })
counts-vote s cs promised named owed found t w counted =
    let is = counted_is cs t counted in
    record {
      standing = refl;
      accepted = accepted-changing t (voting (Some w)) (λ c. refl) cs;
      voted = λ o u.
          voted-casts o (changing t (voting (Some w)) cs) u ∙ casts-voting (is_vote o) refl t w cs u is.0 is.1
          ∙ ap (λ b. b || (same_vote o w && same_ticket t u)) (sym (voted-casts o cs u))
          ∙ sym (voted_so-push o (votes_in cs) t w u);
      worked = λ u. ap (λ ws. works_of ws u) (works-voting t (Some w) cs);
      promised = refl;
      named = λ u. refl;
      owed = λ u. refl;
      found = refl;
    }

-- the vote of a ticket is taken back
pub uncounts-vote : (s : Standing) (cs : List Child) (promised named owed : List Ticket)
    (found : List Finding)
    (t : Ticket) → are_distinct cs ≡ true
    → Uncounts t (meant s cs promised named owed found)
    (meant s (changing t (voting None) cs) promised named owed found)
uncounts-vote s cs promised named owed found t distinct =
    record {
      standing = refl;
      accepted = accepted-changing t (voting None) (λ c. refl) cs;
      voted = λ o u.
          voted-casts o (changing t (voting None) cs) u ∙ casts-unvoting (is_vote o) refl t cs u distinct
          ∙ ap (λ b. b && not (same_ticket t u)) (sym (voted-casts o cs u));
      works = works-voting t None cs;
      promised = refl;
      named = refl;
      owed = refl;
      found = refl;
    }

votes-sending : (t : Ticket) (n : ℕ) (cs : List Child) → votes_in (changing t (sending n) cs) ≡ votes_in cs
votes-sending t n [] = refl
votes-sending t n (c ∷ cs) = by_test (same_ticket c.ticket t) (votes-sending t n cs)
  where
    by_test : (b : Bool) → votes_in (changing t (sending n) cs) ≡ votes_in cs
        → votes_in (if b then sending n c ∷ cs else c ∷ changing t (sending n) cs) ≡ votes_in (c ∷ cs)
    by_test true rest = refl
    by_test false rest = ap (cons_option (vote_of c)) rest

-- one work more to the ticket
pub sends-work : (s : Standing) (cs : List Child) (promised named owed : List Ticket)
    (found : List Finding) (t : Ticket)
    (n : ℕ) → are_distinct cs ≡ true
    → in_list (accepted_in cs) t ≡ true → n ≡ works_of (works_in cs) t + 1
    → SameView (meant s (changing t (sending n) cs) promised named owed found)
    (record (meant s cs promised named owed found) { works = works_in cs ++ t ∷ [] })
sends-work s cs promised named owed found t n distinct there is =
    record {
      standing = refl;
      accepted = accepted-changing t (sending n) (λ c. refl) cs;
      voted = λ o u. ap (λ vs. voted_so o vs u) (votes-sending t n cs);
      worked = λ u. works-sending cs t u n distinct there is ∙ sym (works_of-push (works_in cs) t u);
      promised = refl;
      named = λ u. refl;
      owed = λ u. refl;
      found = refl;
    }

-- a child more
pub accepts : (s : Standing) (cs ds : List Child) (promised named owed : List Ticket)
    (found : List Finding) (t : Ticket)
    → ds ≡ cs ++ record { ticket = t; works = 0; vote = None } ∷ []
    → meant s ds promised named owed found ≡ record (meant s cs promised named
    owed found) { accepted = accepted_in cs ++ t ∷ [] }
accepts s cs ds promised named owed found t pushed =
    rw (
      pushed,
      accepted_in-push cs (record { ticket = t; works = 0; vote = None }),
      votes_in-push
          cs t,
      works_in-push cs t,
    ) refl

-- PREPARE to each of the children
pub prepares-each : (seat : Seat) (s : Standing) (cs : List Child)
    (promised named owed : List Ticket) (found : List Finding) → are_distinct cs ≡ true
    → prepares seat (meant s cs promised named owed found)
    ≡ map (λ c. post seat.me c.ticket.child (Prepare (child_case seat.own.txn c.ticket) c.works)) cs
prepares-each seat s cs promised named owed found distinct =
    map_each (λ t. post seat.me t.child (Prepare (child_case seat.own.txn t) (works_of (works_in cs) t)))
    (λ c. post seat.me c.ticket.child (Prepare (child_case seat.own.txn c.ticket) c.works)) cs
    (each_two _ _ _ (λ c is is'. ap (λ n. post seat.me c.ticket.child (Prepare
    (child_case seat.own.txn c.ticket) n)) is) cs (works_each cs distinct) (works_each cs distinct))
