use Rattle.std.proofs.Common.{rules}
use Rattle.kv_store.proofs.Rebasing.{retained}
use Rattle.kv_store.proofs.versions.keep_last_of_each.Goals as goal

pub returns-clause-kept : goal.returns-clause-kept
returns-clause-kept c = retained _ _ (λ k v b w g call. search rules) _ _ c.retain.ensures.filtered
