-- A process that keeps what it kept; of what operators decided, where a branch is decided by one.
use Rattle.std.proofs.Common.{◌≡◌}
use Rattle.protocol.specs.declared.names.Case.{Case}
use Rattle.protocol.specs.declared.standings.Standing.TheVariants.{Heuristic}
use Rattle.protocol.specs.SameViews.{SameView}
use Rattle.process_state.specs.States.{CoreState, SameCore}

-- nothing is otherwise of what counts
pub record SameKept (old new : CoreState) : Type 0 where
  pub log : new.log ≡ old.log
  pub place : new.place ≡ old.place
  pub boot : new.boot ≡ old.boot
  pub begun : new.begun ≡ old.begun
  pub given : new.given ≡ old.given
  pub tickets : (d : Case) → new.ticket_for d ≡ old.ticket_for d
  pub views : (c : Case) → SameView (new.view_of c) (old.view_of c)
  pub branches : (c : Case) → new.branch_of c ≡ old.branch_of c
  pub decided : (c : Case) → (new.branch_of c).standing ≡ Heuristic → new.decided_of c ≡ old.decided_of c

-- so if nothing is otherwise
pub same_kept : (old new : CoreState) → SameCore old new → SameKept old new
same_kept old new same = record {
  log = same.log;
  place = same.rest.place;
  boot = same.rest.boot;
  begun = same.rest.begun;
  given = same.rest.given;
  tickets = same.rest.tickets;
  views = same.rest.views;
  branches = same.rest.branches;
  decided = λ c is. same.rest.decided c;
}
