use Rattle.std.proofs.Common.{◌≡◌, ◌∙◌, None, true, false, sym, ap, subst}
use Rattle.protocol.specs.declared.names.Ticket.{Ticket}
use Rattle.protocol.specs.Names.{child_case}
use Rattle.resource_manager.specs.Sights.{ManagerSight}
use Rattle.sub_work.specs.Deeds.{HasBegun}
use Rattle.process_state.specs.Turns.{next_ticket}
use Rattle.sub_branches.specs.Tables.{IsBranchTable, OpensBranch, SameTable, branch_in, ticket_in}
use Rattle.sub_branches.proofs.Undoing.{undone}
use Rattle.sub_process.specs.Subordinates.{IsNamed, IsTied, Joins, KeepsProcess, SubState, core_of, next_case, seen}
use Rattle.sub_process.proofs.Ties.{behind}
use Rattle.sub_process.proofs.Joins.{begun, begun_tied, is_fresh, not_begun, numbered, table_tied, undone_keeps, undone_tied}
use Rattle.sub_process.proofs.subordinate.Subordinate.start.Goals as goal

pub invariant_of-self : goal.invariant_of-self
invariant_of-self g c =
    let s : SubState = record {
      me = c.self.inside.me;
      parent = c.self.inside.parent;
      tree = c.self.inside.tree;
      given = c.self.inside.given;
      table = c.self.inside.branches;
      manager = g.M.ResourceManager.sight c.self.inside.manager;
    } in
    table_tied s c.open.new.self c.self.invariant c.in_err-key.ensures.err

pub invariant_of-self-in-Ok-true : goal.invariant_of-self-in-Ok-true
invariant_of-self-in-Ok-true g c =
    let s : SubState = record {
      me = c.self.inside.me;
      parent = c.self.inside.parent;
      tree = c.self.inside.tree;
      given = c.self.inside.given;
      table = c.self.inside.branches;
      manager = g.M.ResourceManager.sight c.self.inside.manager;
    } in
    let m : ManagerSight = g.M.ResourceManager.sight c.begin.new.manager in
    let fresh : c.args.ticket ≡ next_ticket (core_of s) = c.requires.fresh
    ∙ sym (ap (λ v. next_ticket (core_of (seen g.M.ResourceManager.sight v))) c.self.view_is) in
    let named : IsNamed s.parent (next_case s c.args.case) c.child_xid-xid.result =
    subst (λ (t : Ticket). IsNamed s.parent (child_case c.args.case.txn t) c.child_xid-xid.result)
    fresh c.child_xid-xid.ensures in
    let opens : OpensBranch s.table c.open.new.self c.args.case (next_ticket (core_of s))
    c.child_xid-xid.result =
    subst (λ (t : Ticket). OpensBranch s.table c.open.new.self c.args.case t c.child_xid-xid.result)
    fresh c.in_ok-key.ensures.ok in
    let h : HasBegun s.manager m c.child_xid-xid.result true = subst (λ r. HasBegun s.manager m
    c.child_xid-xid.result r) c.in-Ok-true.field-0-test c.in-Ok-true.ensures.ok in
    subst (λ (t : Ticket). IsTied c.self.inside.front (numbered s c.open.new.self m t.number)) (sym fresh)
    (begun_tied s c.args.case c.open.new.self m c.child_xid-xid.result c.self.invariant named opens h.1)

pub invariant_of-self-in-Ok-false : goal.invariant_of-self-in-Ok-false
invariant_of-self-in-Ok-false g c =
    let s : SubState = record {
      me = c.self.inside.me;
      parent = c.self.inside.parent;
      tree = c.self.inside.tree;
      given = c.self.inside.given;
      table = c.self.inside.branches;
      manager = g.M.ResourceManager.sight c.self.inside.manager;
    } in
    let m : ManagerSight = g.M.ResourceManager.sight c.begin.new.manager in
    let fresh : c.args.ticket ≡ next_ticket (core_of s) = c.requires.fresh
    ∙ sym (ap (λ v. next_ticket (core_of (seen g.M.ResourceManager.sight v))) c.self.view_is) in
    let kept : IsBranchTable s.table = subst (λ v. IsBranchTable v.table) (sym c.self.view_is) c.requires.kept
    in
    let ungiven : ticket_in s.table c.args.case ≡ None =
    ap (λ v. ticket_in v.table c.args.case) c.self.view_is ∙ c.requires.ungiven in
    let vacant : branch_in s.table (child_case c.args.case.txn c.args.ticket) ≡ None =
    ap (λ (t : Ticket). branch_in s.table (child_case c.args.case.txn t)) fresh
    ∙ is_fresh s c.args.case c.self.invariant in
    let same : SameTable s.table c.remove.new.self =
    undone s.table c.open.new.self c.remove.new.self c.in_ok-key.key c.args.case c.args.ticket
    c.child_xid-xid.result kept vacant ungiven c.in_ok-key.ensures.ok
    c.in_ok-key.ensures.at c.remove.ensures in
    let h : HasBegun s.manager m c.child_xid-xid.result false = subst (λ r. HasBegun s.manager m
    c.child_xid-xid.result r) c.in-Ok-false.field-0-test c.in-Ok-false.ensures.ok in
    undone_tied s c.remove.new.self m c.self.invariant same h.1

pub invariant_of-self-in-Err : goal.invariant_of-self-in-Err
invariant_of-self-in-Err g c =
    let s : SubState = record {
      me = c.self.inside.me;
      parent = c.self.inside.parent;
      tree = c.self.inside.tree;
      given = c.self.inside.given;
      table = c.self.inside.branches;
      manager = g.M.ResourceManager.sight c.self.inside.manager;
    } in
    let m : ManagerSight = g.M.ResourceManager.sight c.begin.new.manager in
    let fresh : c.args.ticket ≡ next_ticket (core_of s) = c.requires.fresh
    ∙ sym (ap (λ v. next_ticket (core_of (seen g.M.ResourceManager.sight v))) c.self.view_is) in
    let kept : IsBranchTable s.table = subst (λ v. IsBranchTable v.table) (sym c.self.view_is) c.requires.kept
    in
    let ungiven : ticket_in s.table c.args.case ≡ None =
    ap (λ v. ticket_in v.table c.args.case) c.self.view_is ∙ c.requires.ungiven in
    let vacant : branch_in s.table (child_case c.args.case.txn c.args.ticket) ≡ None =
    ap (λ (t : Ticket). branch_in s.table (child_case c.args.case.txn t)) fresh
    ∙ is_fresh s c.args.case c.self.invariant in
    let same : SameTable s.table c.remove-in-Err.new.self =
    undone s.table c.open.new.self c.remove-in-Err.new.self c.in_ok-key.key c.args.case c.args.ticket
    c.child_xid-xid.result kept vacant ungiven c.in_ok-key.ensures.ok
    c.in_ok-key.ensures.at c.remove-in-Err.ensures in
    undone_tied s c.remove-in-Err.new.self m c.self.invariant same c.in-Err.ensures.err

pub returns-in-Ok-true-clause-ok : goal.returns-in-Ok-true-clause-ok
returns-in-Ok-true-clause-ok g c =
    let s : SubState = record {
      me = c.self.inside.me;
      parent = c.self.inside.parent;
      tree = c.self.inside.tree;
      given = c.self.inside.given;
      table = c.self.inside.branches;
      manager = g.M.ResourceManager.sight c.self.inside.manager;
    } in
    let m : ManagerSight = g.M.ResourceManager.sight c.begin.new.manager in
    let fresh : c.args.ticket ≡ next_ticket (core_of s) = c.requires.fresh
    ∙ sym (ap (λ v. next_ticket (core_of (seen g.M.ResourceManager.sight v))) c.self.view_is) in
    let named : IsNamed s.parent (next_case s c.args.case) c.child_xid-xid.result =
    subst (λ (t : Ticket). IsNamed s.parent (child_case c.args.case.txn t) c.child_xid-xid.result)
    fresh c.child_xid-xid.ensures in
    let opens : OpensBranch s.table c.open.new.self c.args.case (next_ticket (core_of s))
    c.child_xid-xid.result =
    subst (λ (t : Ticket). OpensBranch s.table c.open.new.self c.args.case t c.child_xid-xid.result)
    fresh c.in_ok-key.ensures.ok in
    let h : HasBegun s.manager m c.child_xid-xid.result true = subst (λ r. HasBegun s.manager m
    c.child_xid-xid.result r) c.in-Ok-true.field-0-test c.in-Ok-true.ensures.ok in
    subst (λ v. Joins (seen g.M.ResourceManager.sight v) (numbered s c.open.new.self m c.args.ticket.number)
    c.args.case true) c.self.view_is
    (subst (λ (t : Ticket). Joins s (numbered s c.open.new.self m t.number) c.args.case true) (sym fresh)
    (begun s c.args.case c.open.new.self m c.child_xid-xid.result c.self.invariant named opens h))

pub returns-in-Ok-false-clause-ok : goal.returns-in-Ok-false-clause-ok
returns-in-Ok-false-clause-ok g c =
    let s : SubState = record {
      me = c.self.inside.me;
      parent = c.self.inside.parent;
      tree = c.self.inside.tree;
      given = c.self.inside.given;
      table = c.self.inside.branches;
      manager = g.M.ResourceManager.sight c.self.inside.manager;
    } in
    let m : ManagerSight = g.M.ResourceManager.sight c.begin.new.manager in
    let fresh : c.args.ticket ≡ next_ticket (core_of s) = c.requires.fresh
    ∙ sym (ap (λ v. next_ticket (core_of (seen g.M.ResourceManager.sight v))) c.self.view_is) in
    let named : IsNamed s.parent (next_case s c.args.case) c.child_xid-xid.result =
    subst (λ (t : Ticket). IsNamed s.parent (child_case c.args.case.txn t) c.child_xid-xid.result)
    fresh c.child_xid-xid.ensures in
    let kept : IsBranchTable s.table = subst (λ v. IsBranchTable v.table) (sym c.self.view_is) c.requires.kept
    in
    let ungiven : ticket_in s.table c.args.case ≡ None =
    ap (λ v. ticket_in v.table c.args.case) c.self.view_is ∙ c.requires.ungiven in
    let vacant : branch_in s.table (child_case c.args.case.txn c.args.ticket) ≡ None =
    ap (λ (t : Ticket). branch_in s.table (child_case c.args.case.txn t)) fresh
    ∙ is_fresh s c.args.case c.self.invariant in
    let same : SameTable s.table c.remove.new.self =
    undone s.table c.open.new.self c.remove.new.self c.in_ok-key.key c.args.case c.args.ticket
    c.child_xid-xid.result kept vacant ungiven c.in_ok-key.ensures.ok
    c.in_ok-key.ensures.at c.remove.ensures in
    let h : HasBegun s.manager m c.child_xid-xid.result false = subst (λ r. HasBegun s.manager m
    c.child_xid-xid.result r) c.in-Ok-false.field-0-test c.in-Ok-false.ensures.ok in
    subst (λ v. Joins (seen g.M.ResourceManager.sight v) (behind s c.remove.new.self m)
    c.args.case false) c.self.view_is
    (not_begun s c.args.case c.remove.new.self m c.child_xid-xid.result named same h)

pub returns-in-Err-clause-err : goal.returns-in-Err-clause-err
returns-in-Err-clause-err g c =
    let s : SubState = record {
      me = c.self.inside.me;
      parent = c.self.inside.parent;
      tree = c.self.inside.tree;
      given = c.self.inside.given;
      table = c.self.inside.branches;
      manager = g.M.ResourceManager.sight c.self.inside.manager;
    } in
    let m : ManagerSight = g.M.ResourceManager.sight c.begin.new.manager in
    let fresh : c.args.ticket ≡ next_ticket (core_of s) = c.requires.fresh
    ∙ sym (ap (λ v. next_ticket (core_of (seen g.M.ResourceManager.sight v))) c.self.view_is) in
    let kept : IsBranchTable s.table = subst (λ v. IsBranchTable v.table) (sym c.self.view_is) c.requires.kept
    in
    let ungiven : ticket_in s.table c.args.case ≡ None =
    ap (λ v. ticket_in v.table c.args.case) c.self.view_is ∙ c.requires.ungiven in
    let vacant : branch_in s.table (child_case c.args.case.txn c.args.ticket) ≡ None =
    ap (λ (t : Ticket). branch_in s.table (child_case c.args.case.txn t)) fresh
    ∙ is_fresh s c.args.case c.self.invariant in
    let same : SameTable s.table c.remove-in-Err.new.self =
    undone s.table c.open.new.self c.remove-in-Err.new.self c.in_ok-key.key c.args.case c.args.ticket
    c.child_xid-xid.result kept vacant ungiven c.in_ok-key.ensures.ok
    c.in_ok-key.ensures.at c.remove-in-Err.ensures in
    subst (λ v. KeepsProcess (seen g.M.ResourceManager.sight v) (behind s c.remove-in-Err.new.self m))
    c.self.view_is
    (undone_keeps s c.remove-in-Err.new.self m same c.in-Err.ensures.err)
