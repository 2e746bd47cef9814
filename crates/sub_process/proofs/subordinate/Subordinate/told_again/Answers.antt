use Rattle.std.proofs.Common.{◌≡◌, Some, true, false, [], rules, sym, subst}
use Rattle.protocol.specs.Names.{same_outcome}
use Rattle.protocol.specs.CoordinatorRows.{tells_outcome}
use Rattle.sub_branches.specs.Tables.{IsBranchTable}
use Rattle.sub_work.specs.Replies.{shown}
use Rattle.sub_process.specs.Subordinates.{Hears, IsAt, SubState, acknowledged, decided, decided_found, seen}
use Rattle.sub_process.proofs.Staying.{heard}
use Rattle.sub_process.proofs.Decisions.{told_other, told_same}
use Rattle.sub_process.proofs.subordinate.Subordinate.told_again.Goals as goal

pub findings-requires : goal.findings-requires
findings-requires g c = record { at = (c.requires.at.0, Some c.args.told, c.requires.at.1) }

pub returns-in_ok-acknowledges-clause-ok : goal.returns-in_ok-acknowledges-clause-ok
returns-in_ok-acknowledges-clause-ok g c =
    let s : SubState = record {
      me = c.self.inside.me;
      parent = c.self.inside.parent;
      tree = c.self.inside.tree;
      given = c.self.inside.given;
      table = c.self.inside.branches;
      manager = g.M.ResourceManager.sight c.self.inside.manager;
    } in
    let key = c.requires.at.0 in
    let x = c.args.xid.now in
    let at : IsAt s.table key c.args.case (decided x (Some c.args.told)) =
    subst (λ v. IsAt v.table key c.args.case (decided x (Some c.args.told)))
    (sym c.self.view_is) c.requires.at.1 in
    let kept : IsBranchTable s.table = subst (λ v. IsBranchTable v.table) (sym c.self.view_is) c.requires.kept
    in
    let same : same_outcome c.args.told c.args.outcome ≡ true = search rules in
    let found : c.in_ok-found.found ≡ decided_found s c.args.case c.args.outcome =
    subst (λ v. c.in_ok-found.found ≡ decided_found (seen g.M.ResourceManager.sight v)
    c.args.case c.args.outcome) (sym c.self.view_is) c.in_ok-found.ensures in
    let said : c.in_ok-acknowledges.field-0 ≡ shown []
    (acknowledged s.me s.parent c.args.case c.args.outcome (decided_found s c.args.case c.args.outcome)) =
    subst (λ fs. c.in_ok-acknowledges.field-0 ≡ shown []
    (acknowledged s.me s.parent c.args.case c.args.outcome fs)) found c.in_ok-acknowledges.ensures in
    subst (λ v. Hears (seen g.M.ResourceManager.sight v) (seen g.M.ResourceManager.sight v)
    (tells_outcome c.args.outcome c.args.case) c.in_ok-acknowledges.field-0) c.self.view_is
    (subst (λ r. Hears s s (tells_outcome c.args.outcome c.args.case) r) (sym said)
    (heard s c.args.case (tells_outcome c.args.outcome c.args.case) _
    (told_same s key c.args.case x c.args.told c.args.outcome kept at same)))

pub returns-else-is_same-clause-ok : goal.returns-else-is_same-clause-ok
returns-else-is_same-clause-ok g c =
    let s : SubState = record {
      me = c.self.inside.me;
      parent = c.self.inside.parent;
      tree = c.self.inside.tree;
      given = c.self.inside.given;
      table = c.self.inside.branches;
      manager = g.M.ResourceManager.sight c.self.inside.manager;
    } in
    let key = c.requires.at.0 in
    let x = c.args.xid.now in
    let at : IsAt s.table key c.args.case (decided x (Some c.args.told)) =
    subst (λ v. IsAt v.table key c.args.case (decided x (Some c.args.told)))
    (sym c.self.view_is) c.requires.at.1 in
    let kept : IsBranchTable s.table = subst (λ v. IsBranchTable v.table) (sym c.self.view_is) c.requires.kept
    in
    let other : same_outcome c.args.told c.args.outcome ≡ false = search rules in
    subst (λ v. Hears (seen g.M.ResourceManager.sight v) (seen g.M.ResourceManager.sight v)
    (tells_outcome c.args.outcome c.args.case) c.silence.result) c.self.view_is
    (subst (λ r. Hears s s (tells_outcome c.args.outcome c.args.case) r) (sym c.silence.ensures)
    (heard s c.args.case (tells_outcome c.args.outcome c.args.case) _
    (told_other s key c.args.case x c.args.told c.args.outcome kept at other)))
