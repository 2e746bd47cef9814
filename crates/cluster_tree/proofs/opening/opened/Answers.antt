use Rattle.std.proofs.Common.{refl}
use Rattle.cluster_tree.proofs.MemoryAlone.{memory_alone}
use Rattle.cluster_tree.proofs.opening.opened.Goals as goal

pub returns-in-Err-clause-err : goal.returns-in-Err-clause-err
returns-in-Err-clause-err c =
    memory_alone _ _ _ _ c.in-Err.error (λ s. refl) c.new.ensures.empty c.in-Err.ensures.err
