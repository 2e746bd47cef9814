use Rattle.std.proofs.Common.{◌∙◌, sym, ap}
use Rattle.kv_store.specs.Versions.{VersionTable, value_at}
use Rattle.kv_store.proofs.Sorted.{keys_of_table}
use Rattle.kv_store.proofs.versions.Versions.pairs.Goals as goal

pub pairs_of-requires : goal.pairs_of-requires
pairs_of-requires c = λ k none.
    ap (λ (v : VersionTable). value_at v v.count k) (sym c.self.view_is)
    ∙ keys_of_table c.self.inside.keys.entries c.as_slice.result.now c.self.inside.count k
    (c.as_slice.ensures ∙ c.keys.ensures.rest) none
