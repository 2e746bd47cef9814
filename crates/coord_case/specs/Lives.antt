-- What the code keeps of a live case, and the view that it stands for.
use Rattle.std.specs.Prelude.{◌≡◌, ℕ, Bool, true, false, not, ◌&&◌, cond, Option, Some, None, List, [], ◌∷◌, map, filter_map, replicate, if◌then◌else◌}
use Rattle.std.specs.List.{count_by, flat_map, list_any}
use Rattle.protocol.specs.declared.messages.Finding.{Finding}
use Rattle.protocol.specs.declared.names.Ticket.{Ticket}
use Rattle.protocol.specs.declared.standings.Standing.{Standing}
use Rattle.protocol.specs.declared.standings.Vote.{Vote}
use Rattle.protocol.specs.declared.standings.Vote.TheVariants.{Yes, No, Read}
use Rattle.protocol.specs.Names.{same_ticket}
use Rattle.protocol.specs.Memory.{has_child, same_vote, voted_so}
use Rattle.protocol.specs.Standings.{CoordinatorView}
use Rattle.coord_case.specs.declared.child.Child.{Child}

-- Children as lists of tickets.

-- a vote of the ticket, if there is one
abbrev pub vote_in : Option Vote → Ticket → Option (Ticket × Vote)
vote_in None t = None
vote_in (Some w) t = Some (t, w)

-- the child's vote, with its ticket
abbrev pub vote_of : Child → Option (Ticket × Vote)
vote_of c = vote_in c.vote c.ticket

-- the tickets of the children
abbrev pub accepted_in : List Child → List Ticket
accepted_in cs = map (λ c. c.ticket) cs

-- the votes of the children
abbrev pub votes_in : List Child → List (Ticket × Vote)
votes_in cs = filter_map vote_of cs

-- a ticket for each work of each child
abbrev pub works_in : List Child → List Ticket
works_in cs = flat_map (λ c. replicate c.works c.ticket) cs

-- the view that a standing, children, lists of tickets and findings stand for
abbrev pub meant : Standing → List Child → List Ticket → List Ticket → List Ticket → List Finding
    → CoordinatorView
meant s cs promised named owed found =
    record {
      standing = s;
      accepted = accepted_in cs;
      votes = votes_in cs;
      works = works_in cs;
      promised = promised;
      named = named;
      owed = owed;
      found = found;
    }

-- no two of the children are of one process
abbrev pub are_distinct : List Child → Bool
are_distinct [] = true
are_distinct (c ∷ cs) = not (has_child (accepted_in cs) c.ticket.child) && are_distinct cs

-- Tests of a child's vote.

-- it is there
abbrev pub is_cast : Option Vote → Bool
is_cast None = false
is_cast (Some w) = true

-- it is not there
abbrev pub is_missing : Option Vote → Bool
is_missing None = true
is_missing (Some w) = false

-- it is this one
abbrev pub is_vote : Vote → Option Vote → Bool
is_vote o None = false
is_vote o (Some w) = same_vote o w

-- it is neither NO nor READ
abbrev pub is_undecided : Option Vote → Bool
is_undecided w = not (is_vote No w) && not (is_vote Read w)

-- a child of the ticket has a vote that passes the test
abbrev pub casts : (Option Vote → Bool) → List Child → Ticket → Bool
casts p cs t = list_any (λ c. p c.vote && same_ticket c.ticket t) cs

-- a child of the ticket has not voted
abbrev pub awaits_vote : Ticket → List Child → Bool
awaits_vote t cs = list_any (λ c. is_missing c.vote && same_ticket c.ticket t) cs

-- the first child of the ticket is changed so
abbrev pub changing : Ticket → (Child → Child) → List Child → List Child
changing t f [] = []
changing t f (c ∷ cs) = if same_ticket c.ticket t then f c ∷ cs else c ∷ changing t f cs

-- the child with this vote
abbrev pub voting : Option Vote → Child → Child
voting w c = record c { vote = w }

-- the child to which N works were sent
abbrev pub sending : ℕ → Child → Child
sending n c = record c { works = n }

-- the works of the child that was found
abbrev pub works_found : Option Child → ℕ
works_found None = 0
works_found (Some c) = c.works

-- the vote of the child that was found
abbrev pub vote_found : Option Child → Option Vote
vote_found None = None
vote_found (Some c) = c.vote

-- how many of the children have not voted
abbrev pub missing_in : List Child → ℕ
missing_in cs = count_by (λ c. is_missing c.vote) cs

-- one, if the vote is YES
abbrev pub yes_by : Option Vote → ℕ
yes_by w = cond (is_vote Yes w) 1 0

-- how many of the children voted YES
abbrev pub yes_in : List Child → ℕ
yes_in cs = count_by (λ c. is_vote Yes c.vote) cs

-- no two of the children are of one process, M of them have not voted, and N voted YES
pub record AreCounted (cs : List Child) (m n : ℕ) : Type 0 where
  pub distinct : are_distinct cs ≡ true
  pub missing : m ≡ missing_in cs
  pub yes : n ≡ yes_in cs

-- What a view is left as, where the order of its votes and works may be another.

-- the ticket's vote is taken back, and nothing else moves
pub record Uncounts (t : Ticket) (old new : CoordinatorView) : Type 0 where
  pub standing : new.standing ≡ old.standing
  pub accepted : new.accepted ≡ old.accepted
  pub voted : (o : Vote) (u : Ticket)
      → voted_so o new.votes u ≡ (voted_so o old.votes u && not (same_ticket t u))
  pub works : new.works ≡ old.works
  pub promised : new.promised ≡ old.promised
  pub named : new.named ≡ old.named
  pub owed : new.owed ≡ old.owed
  pub found : new.found ≡ old.found
