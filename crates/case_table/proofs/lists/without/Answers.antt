use Rattle.std.proofs.Common.{rules, ◌==◌, not, ap, ◌∙◌}
use Rattle.case_table.specs.Tables.{is_key}
use Rattle.case_table.proofs.Keys.{filter-from_retain, is_key-without}
use Rattle.case_table.proofs.lists.without.Goals as goal

pub returns : goal.returns
returns c = λ k.
    ap (λ ks. is_key ks k) (filter-from_retain _ (λ j. not (j == c.args.key)) _ (λ x b f y h. search rules) _
    _ c.retain.ensures.filtered)
    ∙ is_key-without c.args.list.now.items c.args.key k
