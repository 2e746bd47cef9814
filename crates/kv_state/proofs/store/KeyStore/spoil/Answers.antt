use Rattle.std.proofs.Common.{rules, refl}
use Rattle.xa_tables.specs.declared.states.BranchState.TheVariants.{S4}
use Rattle.xa_assoc.specs.Answers.{TakesTableRow}
use Rattle.kv_state.specs.Stores.{KeySight, is_decided, is_let_go}
use Rattle.kv_state.proofs.Moves.{moves_keep}
use Rattle.kv_state.proofs.Tidy.{tidy_called}
use Rattle.kv_state.proofs.store.KeyStore.spoil.Goals as goal

pub invariant_of-self : goal.invariant_of-self
invariant_of-self c =
    let s : KeySight = record {
      tables = c.self.inside.states;
      writes = c.self.inside.writes;
      locks = c.self.inside.locks;
      versions = c.self.inside.versions;
      decisions = c.self.inside.heuristics;
    } in
    let takes : TakesTableRow s.tables c.finish.new.self c.args.xid.now S4 = search rules in
    tidy_called s _ c.self.invariant refl refl refl
    (moves_keep is_let_go s.tables c.finish.new.self c.args.xid.now S4 refl takes.branch)
    (moves_keep is_decided s.tables c.finish.new.self c.args.xid.now S4 refl takes.branch)
