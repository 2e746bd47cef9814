use Rattle.sub_process.proofs.restarting.reopen.Goals as goal

pub returns-clause-ok : goal.returns-clause-ok
returns-clause-ok g c = record {
  mid = g.M.ResourceManager.sight c.restart.new.self;
  restarts = c.in_ok-restart.ensures.ok;
  answer = c.open.result;
  calls = c.open.ensures;
}
