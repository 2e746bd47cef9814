use Rattle.std.proofs.Common.{◌≡◌}
use Rattle.toml.specs.Data.{table}
use Rattle.toml.specs.View.{view, table_view}
use Rattle.tree_script.proofs.Keys.{to_members, from_members, is_table}
use Rattle.tree_script.proofs.document.has_known_keys.Goals as goal

pub returns-in-Some : goal.returns-in-Some
returns-in-Some c =
    let known = c.keys_are_known.ensures in
    let is : view c.args.value.now ≡ table (table_view c.in-Some.table.now) =
    is_table _ _ c.in-Some.ensures in
    rw is (λ h. to_members _ (known.0 h), λ h. known.1 (from_members _ h))
