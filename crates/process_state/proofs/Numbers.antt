-- Which message of the net it was that came makes no difference.
use Rattle.std.proofs.Common.{◌≡◌, ℕ, Bool, if◌then◌else◌, Option, None, Some, refl, subst, ap, ◌∙◌}
use Rattle.protocol.specs.declared.names.Case.{Case}
use Rattle.protocol.specs.declared.names.Ticket.{Ticket}
use Rattle.protocol_words.specs.Variants.{MessageInput}
use Rattle.protocol.specs.declared.messages.Message.{Message}
use Rattle.protocol.specs.declared.messages.Message.TheVariants.{Join, Joined, Work, Prepare, Yes, No, Read, Commit, Abort, Ack, Inquire}
use Rattle.protocol.specs.Nodes.{DataAnswer}
use Rattle.protocol.specs.Reactions.{Does}
use Rattle.process_state.specs.States.{CoreState}
use Rattle.process_state.specs.Turns.{Turn, Refuses, Begins, Issues, Takes, Handles, Says, reacted, turn_of}
use Rattle.process_state.specs.Makes.{ProcessMoves, Stays, retired_by, retires}
use Rattle.process_state.specs.Laws.{NumbersAreAlike}

-- the same tickets end their time
retires_alike : (j k : ℕ) (m : Message) (d : Case) (t : Ticket)
    → retires (MessageInput j m) d t ≡ retires (MessageInput k m) d t
retires_alike j k (Join c) d t = refl
retires_alike j k (Joined c u) d t = refl
retires_alike j k (Work c i op) d t = refl
retires_alike j k (Prepare c n) d t = refl
retires_alike j k (Yes c) d t = refl
retires_alike j k (No c) d t = refl
retires_alike j k (Read c) d t = refl
retires_alike j k (Commit c) d t = refl
retires_alike j k (Abort c) d t = refl
retires_alike j k (Ack c o fs) d t = refl
retires_alike j k (Inquire c) d t = refl

retired_alike : (j k : ℕ) (m : Message) (d : Case) (o : Option Ticket)
    → retired_by (MessageInput j m) d o ≡ retired_by (MessageInput k m) d o
retired_alike j k m d None = refl
retired_alike j k m d (Some t) = ap (λ (b : Bool). if b then None else Some t) (retires_alike j k m d t)

stays_alike : (old new : CoreState) (j k : ℕ) (m : Message)
    → Stays old new (MessageInput j m) → Stays old new (MessageInput k m)
stays_alike old new j k m h = record {
  place = h.place;
  boot = h.boot;
  tickets = λ d. h.tickets d ∙ retired_alike j k m d (old.ticket_for d);
  decided = h.decided;
}

moves_alike : (old new : CoreState) (j k : ℕ) (m : Message) (turn : Turn)
    → ProcessMoves old new (MessageInput j m) turn → ProcessMoves old new (MessageInput k m) turn
moves_alike old new j k m (Refuses e) h = h
moves_alike old new j k m (Begins x) h = record {
  log = h.log;
  own = h.own;
  others = h.others;
  branches = h.branches;
  begun = h.begun;
  given = h.given;
  stays = stays_alike old new j k m h.stays;
}
moves_alike old new j k m (Issues d t l) h = h
moves_alike old new j k m (Takes c row) h = record {
  log = h.log;
  own = h.own;
  others = h.others;
  branches = h.branches;
  begun = h.begun;
  given = h.given;
  stays = stays_alike old new j k m h.stays;
}
moves_alike old new j k m (Handles c row) h = record {
  log = h.log;
  own = h.own;
  others = h.others;
  views = h.views;
  begun = h.begun;
  given = h.given;
  stays = stays_alike old new j k m h.stays;
}
moves_alike old new j k m (Says ls) h = h

-- the same turn is met
turn_alike : (s : CoreState) (a : DataAnswer) (found : Option Case) (j k : ℕ) (m : Message)
    → turn_of s a found (MessageInput j m) ≡ turn_of s a found (MessageInput k m)
unfolding turn_of
turn_alike s a found j k m = refl

pub numbers_alike : NumbersAreAlike
numbers_alike old new a j k m reaction h =
    let same = turn_alike old a h.found j k m in
    record {
      found = h.found;
      finds = h.finds;
      moves = subst (ProcessMoves old new (MessageInput k m)) same
          (moves_alike old new j k m (turn_of old a h.found (MessageInput j m)) h.moves);
      effect = h.effect;
      does = subst (λ (turn : Turn). reacted turn ≡ Does h.effect) same h.does;
      shown = h.shown;
    }
