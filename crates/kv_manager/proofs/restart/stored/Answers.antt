use Rattle.std.proofs.Common.{subst}
use Rattle.xa_assoc.specs.Restored.{Restored}
use Rattle.kv_manager.proofs.restart.stored.Goals as goal

pub restored-requires : goal.restored-requires
restored-requires c = λ t restored. c.requires t (subst (λ l. Restored l t) c.as_slice.ensures.value restored)
