use Rattle.std.proofs.Common.{rules}
use Rattle.sub_work.proofs.deeds.decide.Goals as goal

pub returns-in-Ok-clause-ok : goal.returns-in-Ok-clause-ok
returns-in-Ok-clause-ok g c = record {
  comes = record {
    own = search rules;
    others = search rules;
    others_decided = search rules;
    idle = search rules;
    boot = search rules;
    form = search rules;
  };
  log = search rules;
  releases = search rules;
  decided = search rules;
}
