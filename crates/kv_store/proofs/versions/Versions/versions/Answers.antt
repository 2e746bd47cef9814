use Rattle.std.proofs.Common.{rules, ◌≡◌, ap, ◌∙◌}
use Rattle.key_lists.specs.Tables.{list_at, table_of}
use Rattle.key_lists.proofs.Tables.{list_at_key}
use Rattle.kv_store.specs.Versions.{rises_from}
use Rattle.kv_store.proofs.versions.Versions.versions.Goals as goal

pub returns-in-Some-clause-rises : goal.returns-in-Some-clause-rises
returns-in-Some-clause-rises c =
    let these : c.as_slice.result.now ≡ list_at (table_of c.self.inside.keys.entries) c.args.key.now =
    search (rules, list_at_key) in
    ap (rises_from 0) these ∙ c.self.invariant.rises c.args.key.now
