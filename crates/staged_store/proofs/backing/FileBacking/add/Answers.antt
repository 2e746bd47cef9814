use Rattle.std.proofs.Common.{refl}
use Rattle.staged_store.proofs.Staging.{both_on_ok}
use Rattle.staged_store.proofs.backing.FileBacking.add.Goals as goal

pub returns : goal.returns
returns g c =
    both_on_ok c.force.result _ _ _
    (λ forces file. record {
      mid = c.append.new.self;
      appends = c.in_ok-append.ensures.ok;
      forces = forces;
      file = file;
      rewrites = refl;
    })
    c.force.ensures.ok c.force.ensures.file
