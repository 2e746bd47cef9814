-- What comes of an operator's decision.
use Rattle.std.proofs.Common.{◌∙◌, List, sym, ap, subst}
use Rattle.xa_tables.specs.declared.states.BranchState.{BranchState}
use Rattle.xa_tables.specs.declared.states.BranchState.TheVariants.{S5}
use Rattle.xa_xid.specs.declared.xid.Xid.{Xid}
use Rattle.xa_assoc.specs.Associations.{AssocList}
use Rattle.xa_branch.specs.Branches.{state_in}
use Rattle.protocol.specs.declared.names.Outcome.{Outcome}
use Rattle.protocol_words.specs.step_error
use Rattle.log_records.specs.Sights.{LogSight}
use Rattle.process_state.proofs.Wrote.{wrote_form}
use Rattle.resource_manager.specs.Data.{is_begun}
use Rattle.resource_manager.specs.Sights.{ManagerSight}
use Rattle.resource_manager.specs.Deciding.{DecideFails, ManagerDecides, decision_writes}
use Rattle.resource_manager.specs.Ends.{logged_under}
use Rattle.sub_work.specs.Deeds.{BranchComes, DecidesWork, IsIdle, IsQuiet, WorkNotDecided}
use Rattle.sub_work.proofs.Known.{stays_known}
use Rattle.sub_work.proofs.Quiet.{same_idle}

pub decides : (old new : ManagerSight) (x : Xid) (o : Outcome) → IsIdle old
    → ManagerDecides old new x o → DecidesWork old new x o
decides old new x o idle d =
    let comes : BranchComes old new x S5 = record {
      own = d.tables.branch.own;
      others = d.tables.branch.others;
      others_decided = d.others_decided;
      idle = record {
        opened = d.tables.init ∙ idle.opened;
        quiet = subst (λ (a : AssocList). IsQuiet a) (sym d.tables.associations) idle.quiet;
      };
      boot = d.boot;
      form = ap (λ (l : LogSight). l.form) d.log
          ∙ wrote_form old.log (decision_writes x o) (logged_under x (decision_writes x o));
    } in
    record {
      comes = comes;
      log = d.log;
      releases = record {
        lets_go = record { wrote = record { own = d.own; others = d.others }; held = d.held };
        known = stays_known old new x S5 comes (ap is_begun d.prepared);
      };
      decided = d.decided;
    }

pub not_decided : (old new : ManagerSight) (x : Xid) (o : Outcome) → IsIdle old → DecideFails old new x o
    → WorkNotDecided old new x o step_error.Device
not_decided old new x o idle f = record {
  log = f.log;
  states = λ y. ap (λ (bs : List (Xid × BranchState)). state_in bs y) f.tables.branches.branches;
  decided = f.decided;
  idle = same_idle old new f.tables idle;
  boot = f.boot;
}
