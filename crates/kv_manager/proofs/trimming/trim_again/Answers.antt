use Rattle.std.proofs.lemmas.Result.{IfErr-weaker, on_ok_weaker}
use Rattle.kv_manager.proofs.Trimmed.{trimmed_again, untrimmed_again}
use Rattle.kv_manager.proofs.trimming.trim_again.Goals as goal

pub returns-clause-ok : goal.returns-clause-ok
returns-clause-ok g c = on_ok_weaker c.put_again.result
    (λ r. trimmed_again c.args.log.now c.put_again.new.self
    c.args.count c.requires.managers c.requires.settled r) c.put_again.ensures.ok

pub returns-clause-err : goal.returns-clause-err
returns-clause-err g c = IfErr-weaker c.put_again.result _ _ (λ e r. untrimmed_again c.args.log.now
    c.put_again.new.self c.args.count e c.requires.managers c.requires.settled r) c.put_again.ensures.err
