use Rattle.std.proofs.Common.{sym, subst}
use Rattle.sub_process.specs.Subordinates.{Hears, SubState, seen}
use Rattle.sub_process.proofs.Steps.{unheard_of}
use Rattle.sub_process.proofs.subordinate.Subordinate.hear.Goals as goal

pub returns-in_default : goal.returns-in_default
returns-in_default g c =
    let s : SubState = seen g.M.ResourceManager.sight c.args.self.now in
    record {
      ok = subst (λ r. Hears s s c.args.message.now r) (sym c.silence.ensures)
          (unheard_of s c.args.message.now c.in_default.not-Join c.in_default.not-Work
          c.in_default.not-Prepare c.in_default.not-Commit c.in_default.not-Abort);
      err = tt;
    }
