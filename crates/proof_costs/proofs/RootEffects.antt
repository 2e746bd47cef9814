-- What a vote and an acknowledgement do at a root, also if the ticket belongs to no case: what their rows
-- say.
use Rattle.std.proofs.Common.{◌≡◌, Bool, true, false, Some, None, List, [], ◌∷◌, ◌++◌, refl, sym, ap, if◌then◌else◌}
use Rattle.std.specs.Prelude.{filter}
use Rattle.protocol.specs.declared.names.Case.{Case}
use Rattle.protocol.specs.declared.names.Outcome.{Outcome}
use Rattle.protocol_words.specs.Variants.{AbortRecord, CommitRecord, CommittedOutcome, VoteYes}
use Rattle.protocol.specs.declared.names.ProcessId.{ProcessId}
use Rattle.protocol.specs.declared.names.Ticket.{Ticket}
use Rattle.protocol.specs.declared.names.Txn.{Txn}
use Rattle.protocol.specs.declared.messages.Finding.{Finding}
use Rattle.protocol.specs.declared.records.Record.{Record}
use Rattle.protocol.specs.declared.standings.Standing.{Standing}
use Rattle.protocol.specs.declared.standings.Standing.TheVariants.{Unknown, Active, Collecting, Prepared, Committing, Aborting, Heuristic}
use Rattle.protocol.specs.declared.trees.TreeProcess.{TreeProcess}
use Rattle.protocol.specs.Names.{root_case, same_ticket}
use Rattle.protocol.specs.Records.{in_list, named_by, named_in, owing_by, owing_in}
use Rattle.protocol.specs.Nodes.{Node, Place, Version, kept}
use Rattle.protocol.specs.Memory.{Memory, memory_of}
use Rattle.protocol.specs.Standings.{belongs, coordinator_standing, coordinator_view, found_below, still_owed, view_at}
use Rattle.protocol.specs.CoordinatorRows.{Seat, on_ack, on_vote, quiet}
use Rattle.protocol.specs.Reactions.{ack_for, row_effect, vote_for}
use Rattle.protocol.specs.Views.{root_place, root_seat}
use Rattle.proof_model.proofs.TicketLaws.{either_false, other_false}

-- Who owes an acknowledgement is named.

none_in : (t : Ticket) → in_list [] t ≡ false
unfolding in_list
none_in t = refl

in_neither : (ts us : List Ticket) (t : Ticket) → in_list (ts ++ us) t ≡ false
    → (in_list ts t ≡ false) × (in_list us t ≡ false)
unfolding in_list
in_neither [] us t h = (refl, h)
in_neither (u ∷ ts) us t h =
    let rest = in_neither ts us t (other_false (same_ticket u t) _ h)
    in (rw (either_false (same_ticket u t) _ h, rest.0) refl, rest.1)

both_not : (ts us : List Ticket) (t : Ticket) → in_list ts t ≡ false → in_list us t ≡ false
    → in_list (ts ++ us) t ≡ false
unfolding in_list
both_not [] us t h k = k
both_not (u ∷ ts) us t h k = rw (either_false (same_ticket u t) _ h)
    (both_not ts us t (other_false (same_ticket u t) _ h) k)

owing_one : (c : Case) (t : Ticket) (r : Record) → in_list (named_in c r) t ≡ false
    → in_list (owing_in c r) t ≡ false
owing_one c t (CommitRecord d ts) h = h
owing_one c t (AbortRecord d ts) h = h
owing_one c t r h = none_in t

owes_not : (c : Case) (t : Ticket) (rs : List Record) → in_list (named_by c rs) t ≡ false
    → in_list (owing_by c rs) t ≡ false
unfolding named_by owing_by
owes_not c t [] h = none_in t
owes_not c t (r ∷ rs) h =
    let parts = in_neither (named_in c r) (named_by c rs) t h in
    both_not (owing_in c r) (owing_by c rs) t (owing_one c t r parts.0) (owes_not c t rs parts.1)

filter_not : (q : Ticket → Bool) (ts : List Ticket) (t : Ticket) → in_list ts t ≡ false
    → in_list (filter q ts) t ≡ false
unfolding in_list
filter_not q [] t h = refl
filter_not q (u ∷ ts) t h = by_test (q u) (filter_not q ts t (other_false (same_ticket u t) _ h))
  where
    by_test : (b : Bool) → in_list (filter q ts) t ≡ false
        → in_list (if b then u ∷ filter q ts else filter q ts) t ≡ false
    by_test true rest = rw (either_false (same_ticket u t) _ h) rest
    by_test false rest = rest

still_not : (acks : List (Ticket × Outcome)) (o : Outcome) (ts : List Ticket) (t : Ticket)
    → in_list ts t ≡ false
    → in_list (still_owed acks o ts) t ≡ false
unfolding still_owed
still_not acks o ts t h = filter_not _ ts t h

-- The effects of votes and acknowledgements are their rows', also if the ticket belongs to no case.

module _ (me : ProcessId) (tree : List TreeProcess) (n : Node) (x : Txn) (t : Ticket) where
  abbrev place : Place
  place = root_place me tree

  abbrev c : Case
  c = root_case x

  abbrev seat : Seat
  seat = root_seat me (root_case x)

  abbrev m : Memory
  m = memory_of (root_place me tree) n (root_case x)

  abbrev rs : List Record
  rs = kept n

  vote_unheard : (s : Standing) → belongs m rs c t ≡ false → let v = view_at s rs c m in
      on_vote seat t VoteYes v v.standing ≡ quiet v
  vote_unheard Collecting f = rw (either_false (in_list m.accepted t) (in_list (named_by c rs) t) f) refl
  vote_unheard Unknown f = refl
  vote_unheard Active f = refl
  vote_unheard Prepared f = refl
  vote_unheard Committing f = refl
  vote_unheard Aborting f = refl
  vote_unheard Heuristic f = refl

  -- YES
  pub vote_does : let v = coordinator_view place n c in
      vote_for place None n t VoteYes (if belongs m rs c t then Some c else None)
      ≡ row_effect c (on_vote seat t VoteYes v v.standing)
  unfolding coordinator_view
  vote_does = by_test (belongs m rs c t) refl
    where
      by_test : (b : Bool) → belongs m rs c t ≡ b → let v = view_at (coordinator_standing rs c m) rs c m in
          vote_for place None n t VoteYes (if b then Some c else None)
          ≡ row_effect c (on_vote seat t VoteYes v v.standing)
      by_test true f = refl
      by_test false f = ap (row_effect c) (sym (vote_unheard (coordinator_standing rs c m) f))

  ack_unheard : (ver : Version) (s : Standing) (fs : List Finding) → belongs m rs c t ≡ false
      → let v = view_at s rs c m in
      on_ack ver seat t CommittedOutcome fs v v.standing ≡ quiet v
  ack_unheard ver Committing fs f =
      rw (still_not m.acks CommittedOutcome (owing_by c rs) t
      (owes_not c t rs (other_false (in_list m.accepted t) (in_list (named_by c rs) t) f))) refl
  ack_unheard ver Collecting fs f = refl
  ack_unheard ver Unknown fs f = refl
  ack_unheard ver Active fs f = refl
  ack_unheard ver Prepared fs f = refl
  ack_unheard ver Aborting fs f = refl
  ack_unheard ver Heuristic fs f = refl

  ack_found : (ver : Version) (s : Standing) → let v = view_at s rs c m in
      on_ack ver seat t CommittedOutcome (found_below place n c CommittedOutcome []) v v.standing
      ≡ on_ack ver seat t CommittedOutcome (v.found ++ []) v v.standing
  unfolding found_below
  ack_found ver Committing = refl
  ack_found ver Collecting = refl
  ack_found ver Unknown = refl
  ack_found ver Active = refl
  ack_found ver Prepared = refl
  ack_found ver Aborting = refl
  ack_found ver Heuristic = refl

  -- an acknowledgement of the commit that finds nothing
  pub ack_does : (ver : Version) → let v = coordinator_view place n c in
      ack_for ver place None n t CommittedOutcome [] (if belongs m rs c t then Some c else None)
      ≡ row_effect c (on_ack ver seat t CommittedOutcome (v.found ++ []) v v.standing)
  unfolding coordinator_view
  ack_does ver = by_test (belongs m rs c t) refl
    where
      by_test : (b : Bool) → belongs m rs c t ≡ b → let v = view_at (coordinator_standing rs c m) rs c m in
          ack_for ver place None n t CommittedOutcome [] (if b then Some c else None)
          ≡ row_effect c (on_ack ver seat t CommittedOutcome (v.found ++ []) v v.standing)
      by_test true f = ap (row_effect c) (ack_found ver (coordinator_standing rs c m))
      by_test false f = ap (row_effect c) (sym (ack_unheard ver (coordinator_standing rs c m) _ f))
