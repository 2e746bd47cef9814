use Rattle.std.proofs.Common.{◌∙◌, refl, ap, length}
use Rattle.tree_world.proofs.MemoryAlone.{memory_alone}
use Rattle.tree_world.proofs.opening.World+MemoryStore.new.Goals as goal

pub returns-in-Err-clause-err : goal.returns-in-Err-clause-err
returns-in-Err-clause-err c =
    memory_alone _ _ c.args.tree c.in_ok-stores.stores.items c.in-Err.error (λ s. refl)
    (c.in_ok-stores.ensures.count ∙ ap length c.entries.ensures) c.in_ok-stores.ensures.empty
    c.in-Err.ensures.err
