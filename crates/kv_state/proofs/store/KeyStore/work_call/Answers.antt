use Rattle.std.proofs.Common.{◌≡◌, Bool, false, refl}
use Rattle.xa_tables.specs.Calls.{legal}
use Rattle.xa_assoc.specs.Ready.{leaves}
use Rattle.kv_state.specs.Stores.{is_decided, is_let_go}
use Rattle.kv_state.proofs.Moves.{IsApart, KeepsTest, either_way, works_keep, same_keeps}
use Rattle.kv_state.proofs.Tidy.{tidy_called}
use Rattle.xa_codes.specs.declared.code.Code.TheVariants.{Proto}
use Rattle.xa_tables.specs.declared.states.BranchState.{BranchState}
use Rattle.xa_tables.specs.declared.states.BranchState.TheVariants.{S0}
use Rattle.xa_assoc.specs.Answers.{AnswersCall, SameStates, Wanted}
use Rattle.kv_state.proofs.store.KeyStore.work_call.Goals as goal

pub invariant_of-self : goal.invariant_of-self
invariant_of-self c =
    tidy_called
    (record {
      tables = c.self.inside.states;
      writes = c.self.inside.writes;
      locks = c.self.inside.locks;
      versions = c.self.inside.versions;
      decisions = c.self.inside.heuristics;
    })
    _ c.self.invariant refl refl refl (keeps is_let_go (record { one = refl; two = refl; four = refl }))
    (keeps is_decided (record { one = refl; two = refl; four = refl }))
  where
    keeps : (q : BranchState → Bool) → IsApart q → KeepsTest q c.self.inside.states c.work_call.new.self
    keeps q apart = either_way (λ answer. (wanted : Wanted) → AnswersCall wanted c.self.inside.states
        c.work_call.new.self c.args.verb c.args.thread c.args.xid.now c.args.flags.0 answer)
        ((leaves (legal c.args.verb c.args.flags.0) ≡ false)
        × SameStates c.self.inside.states c.work_call.new.self)
        (KeepsTest q c.self.inside.states c.work_call.new.self) c.work_call.result
        c.work_call.ensures.answer c.work_call.ensures.err
        (λ answer made. works_keep q (λ k. (Proto, S0)) _ _ c.args.verb
        c.args.thread c.args.xid.now c.args.flags.0 answer apart c.requires (made (λ k. (Proto, S0))))
        (λ stays. same_keeps q _ _ stays.1)
