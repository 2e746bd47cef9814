use Rattle.std.proofs.Common.{subst, sym}
use Rattle.case_table.specs.Known.{KnowsCases}
use Rattle.sub_process.specs.Steps.{state}
use Rattle.sub_process.specs.Subordinates.{SubState, core_of}
use Rattle.sub_process.proofs.Known.{known_counted}
use Rattle.sub_process.proofs.subordinate.Subordinate.live.Goals as goal

pub returns-clause-known : goal.returns-clause-known
returns-clause-known g c =
    let s : SubState = record {
      me = c.self.inside.me;
      parent = c.self.inside.parent;
      tree = c.self.inside.tree;
      given = c.self.inside.given;
      table = c.self.inside.branches;
      manager = g.M.ResourceManager.sight c.self.inside.manager;
    } in
    subst (λ v. KnowsCases (λ d. ((state g.M.ResourceManager.sight v).branch_of d).standing) c.len.result)
    c.self.view_is
    (subst (λ n. KnowsCases (λ d. ((core_of s).branch_of d).standing) n) (sym c.len.ensures.count)
    (known_counted s.table c.len.ensures.kept.apart))
