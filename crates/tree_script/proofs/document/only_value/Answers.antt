use Rattle.std.proofs.Common.{refl, codes, ◌∙◌, sym, List, ℕ}
use Rattle.toml.proofs.Views.{table_get}
use Rattle.tree_script.proofs.Entries.{only_found, only_none, one_long}
use Rattle.tree_script.proofs.document.only_value.Goals as goal

abbrev word : List ℕ
word = codes "process"

pub returns-then-len-eq1-clause-found : goal.returns-then-len-eq1-clause-found
returns-then-len-eq1-clause-found c =
    only_found word c.get.result c.args.table.now.entries
    (table_get c.get.result word c.args.table.now.entries c.get.ensures.value)
    (sym c.len.ensures.len ∙ c.if-len-eq1.true)

pub returns-then-len-eq1-clause-none : goal.returns-then-len-eq1-clause-none
returns-then-len-eq1-clause-none c =
    only_none word c.get.result c.args.table.now.entries
    (table_get c.get.result word c.args.table.now.entries c.get.ensures.value) refl

pub returns-else-len-eq1-clause-none : goal.returns-else-len-eq1-clause-none
returns-else-len-eq1-clause-none c = λ d is. c.if-len-eq1.false
    (c.len.ensures.len ∙ one_long _ c.args.table.now.entries d is)
