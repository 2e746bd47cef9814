-- When two views of a coordinator say the same, so that a core may keep counters where the definitions keep
-- lists.
use Rattle.std.specs.Prelude.{◌≡◌, []}
use Rattle.protocol.specs.declared.names.Ticket.{Ticket}
use Rattle.protocol.specs.declared.standings.Standing.TheVariants.{Active}
use Rattle.protocol.specs.declared.standings.Vote.{Vote}
use Rattle.protocol.specs.Records.{in_list}
use Rattle.protocol.specs.Memory.{voted_so, works_of}
use Rattle.protocol.specs.Standings.{CoordinatorView}
use Rattle.protocol.specs.CoordinatorRows.{Row}

-- Two views say the same: they differ at most in the order of votes and works, and in the order of the
-- tickets that are named or owe an acknowledgement, none of which a message or a record lists.
pub record SameView (v w : CoordinatorView) : Type 0 where
  pub standing : v.standing ≡ w.standing
  pub accepted : v.accepted ≡ w.accepted
  pub voted : (o : Vote) (t : Ticket) → voted_so o v.votes t ≡ voted_so o w.votes t
  pub worked : (t : Ticket) → works_of v.works t ≡ works_of w.works t
  pub promised : v.promised ≡ w.promised
  pub named : (t : Ticket) → in_list v.named t ≡ in_list w.named t
  pub owed : (t : Ticket) → in_list v.owed t ≡ in_list w.owed t
  pub found : v.found ≡ w.found

-- Two rows write, tell and send the same, accept and count the same, and leave views that say the same.
pub record SameRow (r q : Row) : Type 0 where
  pub written : r.written ≡ q.written
  pub told : r.told ≡ q.told
  pub messages : r.messages ≡ q.messages
  pub accepts : r.accepts ≡ q.accepts
  pub counts : r.counts ≡ q.counts
  pub view : SameView r.view q.view

-- a case that takes children and work, and has none
abbrev pub open_view : CoordinatorView
open_view =
    record {
      standing = Active;
      accepted = [];
      votes = [];
      works = [];
      promised = [];
      named = [];
      owed = [];
      found = [];
    }
