use Rattle.std.proofs.Common.{◌≡◌, ◌∙◌, Option, List, sym, ap, subst}
use Rattle.std.specs.Prelude.{IfOk, option_map}
use Rattle.xa_branch.specs.declared.decision.Decision.{Decision}
use Rattle.protocol.specs.declared.messages.Finding.{Finding}
use Rattle.sub_process.specs.Subordinates.{IsAt, SubState, decided, decided_found, found_against, seen}
use Rattle.sub_process.proofs.Decisions.{found_is}
use Rattle.sub_process.proofs.subordinate.Subordinate.findings.Goals as goal

pub returns : goal.returns
returns g c =
    let s : SubState = record {
      me = c.self.inside.me;
      parent = c.self.inside.parent;
      tree = c.self.inside.tree;
      given = c.self.inside.given;
      table = c.self.inside.branches;
      manager = g.M.ResourceManager.sight c.self.inside.manager;
    } in
    let x = c.args.xid.now in
    let told = c.requires.at.1 in
    let at : IsAt s.table c.requires.at.0 c.args.case (decided x told) =
    subst (λ v. IsAt v.table c.requires.at.0 c.args.case (decided x told)) (sym c.self.view_is)
    c.requires.at.2 in
    subst (λ v. IfOk c.decided_findings.result
    (λ findings. findings ≡ decided_found (seen g.M.ResourceManager.sight v) c.args.case c.args.outcome))
    c.self.view_is
    (subst (λ (fs : List Finding). IfOk c.decided_findings.result (λ findings. findings ≡ fs))
    (ap (λ (d : Option Decision). found_against c.args.case (option_map (λ (e : Decision). e.outcome) d)
    c.args.outcome) c.decision.ensures
    ∙ found_is s c.args.case x told c.args.outcome at.live
    (c.self.invariant.stands c.args.case (decided x told) at.live))
    c.decided_findings.ensures)
