use Rattle.std.proofs.Common.{Bool, refl}
use Rattle.xa_tables.specs.declared.states.BranchState.{BranchState}
use Rattle.kv_state.specs.Stores.{is_decided, is_let_go}
use Rattle.kv_state.proofs.Moves.{KeepsTest, either_way, recovers_keep, same_keeps}
use Rattle.kv_state.proofs.Tidy.{tidy_called}
use Rattle.xa_assoc.specs.Answers.{Recovers, SameStates, map_ok}
use Rattle.kv_state.proofs.store.KeyStore.recover.Goals as goal

pub invariant_of-self : goal.invariant_of-self
invariant_of-self c =
    tidy_called
    (record {
      tables = c.self.inside.states;
      writes = c.self.inside.writes;
      locks = c.self.inside.locks;
      versions = c.self.inside.versions;
      decisions = c.self.inside.heuristics;
    })
    _ c.self.invariant refl refl refl (keeps is_let_go) (keeps is_decided)
  where
    keeps : (q : BranchState → Bool) → KeepsTest q c.self.inside.states c.recover.new.self
    keeps q = either_way (λ answer. Recovers c.self.inside.states c.recover.new.self c.args.thread
        c.args.count c.args.flags.0 (map_ok answer)) (SameStates c.self.inside.states c.recover.new.self)
        (KeepsTest q c.self.inside.states c.recover.new.self) c.recover.result
        c.recover.ensures.answer c.recover.ensures.err
        (λ answer made. recovers_keep q _ _ c.args.thread c.args.count c.args.flags.0
        (map_ok answer) made) (same_keeps q _ _)
