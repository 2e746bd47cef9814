use Rattle.std.proofs.Common.{◌∙◌, sym, rules}
use Rattle.xa_assoc.proofs.Finishing.{answered, fails, works_as}
use Rattle.xa_assoc.proofs.states.States.work_call.Goals as goal

pub returns-in_default : goal.returns-in_default
returns-in_default c =
    let legal_is = sym c.legal_call.ensures ∙ c.in-Ok.is in
    let d = c.in_default in
    record {
      answer = λ wanted. answered wanted c.args.self.now c.end-in_default.new.self c.args.verb c.args.thread
          c.args.xid.now c.args.flags.0 c.in-Ok.call c.end-in_default.result legal_is (record {
            closed = search rules;
            null = search rules;
            does = λ opened named. fails wanted c.args.self.now c.end-in_default.new.self c.in-Ok.call
                c.args.thread c.args.xid.now c.end-in_default.result
                (works_as c.args.verb c.args.flags.0 c.in-Ok.call legal_is ∙ c.requires)
                d.not-Start d.not-StartJoin d.not-StartResume d.not-EndSuspend
                d.not-EndMigrate d.not-EndSuccess
                c.end-in_default.ensures;
          });
      err = tt;
    }
