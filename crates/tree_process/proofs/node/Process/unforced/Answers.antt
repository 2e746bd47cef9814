use Rattle.std.proofs.Common.{◌∙◌}
use Rattle.std.proofs.lemmas.Result.{IfOk-weaker}
use Rattle.tree_process.specs.Nodes.{core_of}
use Rattle.tree_process.proofs.LastRecords.{all_within}
use Rattle.tree_process.proofs.node.Process.unforced.Goals as goal

pub returns : goal.returns
returns g c =
    let log = (core_of c.args.self.now).log in
    IfOk-weaker c.unforced_left.result _ _ (λ n h. h
    ∙ all_within log c.log_size.result c.log_size.ensures) c.unforced_left.ensures
