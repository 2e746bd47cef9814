use Rattle.std.proofs.Common.{◌≡◌, ◌∙◌, ap, subst, List, map}
use Rattle.protocol.specs.declared.trees.TreeProcess.{TreeProcess}
use Rattle.log_store.specs.Memory.{memory_bytes}
use Rattle.tree_world.specs.Reopenings.{TreeNotReopened}
use Rattle.tree_world.specs.Worlds.{state}
use Rattle.tree_engine.specs.Reopened.{bytes_in}
use Rattle.tree_engine.proofs.Going.{begins}
use Rattle.tree_engine.proofs.Replaying.{damaged_so, reopened_so}
use Rattle.tree_engine.proofs.run.Run.reopen.Goals as goal

pub returns-in-Ok-clause-begins : goal.returns-in-Ok-clause-begins
returns-in-Ok-clause-begins c =
    let stores = c.in_ok-stores.stores.items in
    let are : map memory_bytes stores ≡ bytes_in c.args.tree c.args.logs.now =
    c.in_ok-stores.ensures ∙ ap (λ (es : List TreeProcess). bytes_in es c.args.logs.now) c.entries.ensures in
    record {
      is_tree = c.requires;
      reopened = reopened_so memory_bytes c.args.tree c.args.logs.now stores (state c.in-Ok.world) are
          c.in-Ok.ensures.reopened;
      begins = begins (state c.in-Ok.world);
      over = c.in-Ok.ensures.flag;
    }

pub returns-in-Err-Damaged-default-clause-damage : goal.returns-in-Err-Damaged-default-clause-damage
returns-in-Err-Damaged-default-clause-damage c =
    let stores = c.in_ok-stores.stores.items in
    let are : map memory_bytes stores ≡ bytes_in c.args.tree c.args.logs.now =
    c.in_ok-stores.ensures ∙ ap (λ (es : List TreeProcess). bytes_in es c.args.logs.now) c.entries.ensures in
    damaged_so memory_bytes (λ s. 0) c.args.tree c.args.logs.now stores c.in-Err-Damaged-default.process
    c.in-Err-Damaged-default.place are
    (subst (TreeNotReopened memory_bytes (λ s. 0) c.args.tree stores) c.in-Err-Damaged-default.field-0-0-is
    c.in-Err-Damaged-default.ensures.err)
