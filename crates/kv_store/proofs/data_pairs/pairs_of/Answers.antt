use Rattle.std.proofs.Common.{◌≡◌, ◌∙◌, ap, sym, subst}
use Rattle.kv_store.specs.Pairs.{ArePairsOf, pairs_at}
use Rattle.kv_store.proofs.Sorted.{keys, map_ok, sorted_pairs}
use Rattle.kv_store.proofs.data_pairs.pairs_of.Goals as goal

pub returns : goal.returns
returns c =
    map_ok (λ pairs. pairs.items ≡ pairs_at c.args.versions.now (keys c.deref.result.now))
    (λ pairs. ArePairsOf c.args.versions.now pairs.items) c.pairs_at.result c.pairs_at.ensures
    (λ pairs made. subst (ArePairsOf c.args.versions.now)
    (sym (made ∙ ap (λ ks. pairs_at c.args.versions.now (keys ks)) c.deref.ensures.value))
    (sorted_pairs c.args.versions.now _ c.in_ok-keys.keys.items
    c.sort_unstable.new.self.items c.requires
    c.in_ok-keys.ensures c.sort_unstable.ensures.permutation c.sort_unstable.ensures.sorted))
