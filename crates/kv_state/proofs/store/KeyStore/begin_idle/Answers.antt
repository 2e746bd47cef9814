use Rattle.std.proofs.Common.{Bool, false, refl, ◌≡◌}
use Rattle.xa_tables.specs.declared.states.BranchState.{BranchState}
use Rattle.xa_tables.specs.declared.states.BranchState.TheVariants.{S2}
use Rattle.xa_assoc.specs.Answers.{BeginsIdle, SameStates}
use Rattle.kv_state.specs.Stores.{is_decided, is_let_go}
use Rattle.kv_state.proofs.Moves.{KeepsTest, begins_keep, either_way, same_keeps}
use Rattle.kv_state.proofs.Tidy.{tidy_called}
use Rattle.kv_state.proofs.store.KeyStore.begin_idle.Goals as goal

pub invariant_of-self : goal.invariant_of-self
invariant_of-self c =
    tidy_called
    (record {
      tables = c.self.inside.states;
      writes = c.self.inside.writes;
      locks = c.self.inside.locks;
      versions = c.self.inside.versions;
      decisions = c.self.inside.heuristics;
    })
    _ c.self.invariant refl refl refl (keeps is_let_go refl) (keeps is_decided refl)
  where
    keeps : (q : BranchState → Bool) → q S2 ≡ false → KeepsTest q c.self.inside.states c.begin_idle.new.self
    keeps q apart = either_way (BeginsIdle c.self.inside.states c.begin_idle.new.self c.args.xid.now)
        (SameStates c.self.inside.states c.begin_idle.new.self)
        (KeepsTest q c.self.inside.states c.begin_idle.new.self) c.begin_idle.result
        c.begin_idle.ensures.begun c.begin_idle.ensures.err
        (λ begun made. begins_keep q _ _ c.args.xid.now begun apart made)
        (λ stays. same_keeps q _ _ stays)
