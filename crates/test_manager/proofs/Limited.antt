-- What a manager does is what it does as one that may refuse to finish any branch.
use Rattle.std.proofs.Common.{◌≡◌, ℕ, Bool, true, false, List, refl}
use Rattle.xa_codes.specs.declared.code.Code.{Code}
use Rattle.xa_tables.specs.declared.call.Call.{Call}
use Rattle.xa_tables.specs.declared.call.Verb.{Verb}
use Rattle.xa_tables.specs.declared.states.BranchState.{BranchState}
use Rattle.xa_xid.specs.declared.xid.Xid.{Xid}
use Rattle.xa_assoc.specs.declared.states.States.{States}
use Rattle.xa_assoc.specs.declared.errors.WorkError.{WorkError}
use Rattle.xa_assoc.specs.declared.errors.WorkError.TheVariants as works
use Rattle.protocol.specs.declared.messages.Op.{Op}
use Rattle.protocol.specs.declared.names.Outcome.{Outcome}
use Rattle.resource_manager.specs.Sights.{ManagerCalls, ManagerSight, SameManager}
use Rattle.resource_manager.specs.Ends.{Broke, Failed, BranchFails, ManagerFinishes, Limited, Made, BranchMakes, Refused, Unlisted}
use Rattle.resource_manager.specs.Works.{WorkRefused, ThreadWorks}
use Rattle.resource_manager.specs.Idle.{BeginsBranch, BranchComes, HasBegun, Idles, IsIdle, KeepsManager, WorksIdle}
use Rattle.resource_manager.specs.Deciding.{DecideFails, ManagerDecides, ManagerNotDecided}
use Rattle.resource_manager.specs.declared.errors.DecideError.{DecideError}
use Rattle.resource_manager.specs.declared.errors.DecideError.TheVariants as decides
use Rattle.resource_manager.specs.Restarting.{ManagerNotRestarted, ManagerRestartFails, RestartsManager}
use Rattle.resource_manager.specs.declared.errors.RestartError.{RestartError}
use Rattle.resource_manager.specs.declared.errors.RestartError.TheVariants as restarts
use Rattle.resource_manager.specs.Trimming.{ManagerNotTrimmed, ManagerTrimFails, ManagerTrims}
use Rattle.resource_manager.specs.declared.errors.TrimError.{TrimError}
use Rattle.resource_manager.specs.declared.errors.TrimError.TheVariants as trims
use Rattle.test_manager.specs.Sights.{limited}

pub same_limited : (old new : ManagerSight) → SameManager old new → SameManager (limited old) (limited new)
same_limited old new same = record {
  tables = same.tables;
  log = same.log;
  boot = same.boot;
  spent = refl;
  rest = record { writes = same.rest.writes; holders = same.rest.holders; decided = same.rest.decided };
}

-- Calls on the tables alone.

pub calls_limited : (old new : ManagerSight) (refuses : Type 0) (Moves : States → States → Type 0)
    → ManagerCalls old new refuses Moves → ManagerCalls (limited old) (limited new) refuses Moves
calls_limited old new refuses Moves h = record {
  failed = λ e. ((h.failed e).0, same_limited old new (h.failed e).1);
  works = h.works;
  log = h.log;
  boot = h.boot;
  spent = refl;
  rest = record { writes = h.rest.writes; holders = h.rest.holders; decided = h.rest.decided };
}

-- The calls that finish a branch.

makes_limited : (old new : ManagerSight) (x : Xid) (c : Call) (row : Code × BranchState)
    → BranchMakes old new x c row
    → BranchMakes (limited old) (limited new) x c row
makes_limited old new x c row h = record {
  listed = h.listed;
  tables = h.tables;
  log = h.log;
  own = h.own;
  others = h.others;
  held = h.held;
  decided = h.decided;
  others_decided = h.others_decided;
  boot = h.boot;
}

fails_limited : (old new : ManagerSight) (x : Xid) (c : Call) → BranchFails old new x c
    → BranchFails (limited old) (limited new) x c
fails_limited old new x c h = record {
  log = h.log;
  tables = h.tables;
  writes = h.writes;
  decided = h.decided;
  boot = h.boot;
}

pub finishes_limited : (old new : ManagerSight) (v : Verb) (x : Xid) (flags : ℕ) (answer : Code)
    → ManagerFinishes old new v x flags answer → ManagerFinishes (limited old) (limited new) v x flags answer
finishes_limited old new v x flags answer (Failed failed is same) =
    Failed failed is (same_limited old new same)
finishes_limited old new v x flags answer (Refused up is same) = Refused up is (same_limited old new same)
finishes_limited old new v x flags answer (Limited up spent is same) =
    Limited up refl is (same_limited old new same)
finishes_limited old new v x flags answer (Unlisted up c is none what same) =
    Unlisted up c is none what (same_limited old new same)
finishes_limited old new v x flags answer (Made up c is what makes) =
    Made up c is what (makes_limited old new x c _ makes)
finishes_limited old new v x flags answer (Broke up c is what fails) =
    Broke up c is what (fails_limited old new x c fails)

-- Work.

pub works_limited : (old new : ManagerSight) (t : ℕ) (op : Op) → ThreadWorks old new t op
    → ThreadWorks (limited old) (limited new) t op
works_limited old new t op h = record {
  allowed = h.allowed;
  branch = h.branch;
  active = h.active;
  own = h.own;
  others = h.others;
  locks = h.locks;
  tables = h.tables;
  log = h.log;
  boot = h.boot;
  decided = h.decided;
}

pub refused_limited : (old new : ManagerSight) (t : ℕ) (op : Op) (e : WorkError) → WorkRefused old new t op e
    → WorkRefused (limited old) (limited new) t op e
refused_limited old new t op works.Memory h = (h.0, same_limited old new h.1)
refused_limited old new t op works.RmFail h = (h.0, same_limited old new h.1)
refused_limited old new t op works.NotAssociated h = (h.0, same_limited old new h.1)
refused_limited old new t op works.RollbackOnly h = (h.0, same_limited old new h.1)
refused_limited old new t op works.TooLong h = (h.0, same_limited old new h.1)
refused_limited old new t op (works.Locked by) h = (h.0, same_limited old new h.1)
refused_limited old new t op works.TooManyWrites h = (h.0, same_limited old new h.1)

-- Whole pieces of work.

pub idle_of : (m : ManagerSight) → IsIdle (limited m) → IsIdle m
idle_of m h = record { opened = h.opened; quiet = h.quiet }

comes_limited : (old new : ManagerSight) (x : Xid) (s : BranchState) → BranchComes old new x s
    → BranchComes (limited old) (limited new) x s
comes_limited old new x s h = record {
  own = h.own;
  others = h.others;
  others_decided = h.others_decided;
  idle = record { opened = h.idle.opened; quiet = h.idle.quiet };
  boot = h.boot;
  form = h.form;
}

pub begun_limited : (old new : ManagerSight) (x : Xid) (begun : Bool) → HasBegun old new x begun
    → HasBegun (limited old) (limited new) x begun
begun_limited old new x true h = (
  h.0,
  record {
    comes = comes_limited old new x _ h.1.comes;
    log = h.1.log;
    rest = record { writes = h.1.rest.writes; holders = h.1.rest.holders; decided = h.1.rest.decided };
  },
)
begun_limited old new x false h = (h.0, same_limited old new h.1)

pub worked_limited : (old new : ManagerSight) (x : Xid) (op : Op) (done : Bool) → WorksIdle old new x op done
    → WorksIdle (limited old) (limited new) x op done
worked_limited old new x op done h = record {
  allowed = h.allowed;
  comes = comes_limited old new x _ h.comes;
  log = h.log;
  operates = h.operates;
}

pub idles_limited : (old new : ManagerSight) (x : Xid) → Idles old new x → Idles (limited old) (limited new) x
idles_limited old new x h = record {
  comes = comes_limited old new x _ h.comes;
  log = h.log;
  kept = record {
    branches = h.kept.branches;
    spent = refl;
    rest = record {
      writes = h.kept.rest.writes;
      holders = h.kept.rest.holders;
      decided = h.kept.rest.decided;
    };
  };
}

-- Operators' decisions.

pub decides_limited : (old new : ManagerSight) (x : Xid) (o : Outcome) → ManagerDecides old new x o
    → ManagerDecides (limited old) (limited new) x o
decides_limited old new x o h = record {
  works = h.works;
  prepared = h.prepared;
  tables = h.tables;
  log = h.log;
  own = h.own;
  others = h.others;
  held = h.held;
  decided = h.decided;
  others_decided = h.others_decided;
  boot = h.boot;
}

pub not_decided_limited : (old new : ManagerSight) (x : Xid) (o : Outcome) (e : DecideError)
    → ManagerNotDecided old new x o e → ManagerNotDecided (limited old) (limited new) x o e
not_decided_limited old new x o decides.Failed h = (h.0, same_limited old new h.1)
not_decided_limited old new x o decides.NotInDoubt h = (h.0, h.1, same_limited old new h.2)
not_decided_limited old new x o decides.Memory h = same_limited old new h
not_decided_limited old new x o decides.Device h = record {
  works = h.works;
  prepared = h.prepared;
  log = h.log;
  tables = h.tables;
  writes = h.writes;
  decided = h.decided;
  boot = h.boot;
}
not_decided_limited old new x o decides.Exhausted h = (refl, same_limited old new h.1)

-- Restarts and trims.

pub restarts_limited : (old new : ManagerSight) (keep : ℕ) → RestartsManager old new keep
    → RestartsManager (limited old) (limited new) keep
restarts_limited old new keep h = record {
  closed = h.closed;
  states = h.states;
  scans = h.scans;
  associations = h.associations;
  seats = h.seats;
  writes = h.writes;
  held = h.held;
  decided = h.decided;
  boot = h.boot;
  log = h.log;
}

pub not_restarted_limited : (old new : ManagerSight) (keep : ℕ) (e : RestartError)
    → ManagerNotRestarted old new keep e
    → ManagerNotRestarted (limited old) (limited new) keep e
not_restarted_limited old new keep restarts.Memory h = same_limited old new h
not_restarted_limited old new keep restarts.Device h = record {
  log = h.log;
  tables = h.tables;
  boot = h.boot;
  decided = h.decided;
}
not_restarted_limited old new keep restarts.Exhausted h = (same_limited old new h.0, h.1)

pub trims_limited : (old new : ManagerSight) (remain : ℕ) → ManagerTrims old new remain
    → ManagerTrims (limited old) (limited new) remain
trims_limited old new remain h = record {
  log = h.log;
  counts = h.counts;
  tables = h.tables;
  boot = h.boot;
  spent = refl;
  rest = record { writes = h.rest.writes; holders = h.rest.holders; decided = h.rest.decided };
}

pub not_trimmed_limited : (old new : ManagerSight) (e : TrimError) → ManagerNotTrimmed old new e
    → ManagerNotTrimmed (limited old) (limited new) e
not_trimmed_limited old new trims.Memory h = same_limited old new h
not_trimmed_limited old new trims.Device h = record {
  either = h.either;
  form = h.form;
  failed = h.failed;
  cause = h.cause;
  tables = h.tables;
  boot = h.boot;
  decided = h.decided;
}
not_trimmed_limited old new trims.Failed h = (same_limited old new h.0, h.1)
