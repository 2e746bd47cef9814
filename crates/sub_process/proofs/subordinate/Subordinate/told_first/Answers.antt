use Rattle.std.proofs.Common.{◌≡◌, None, refl, sym, ap, subst}
use Rattle.protocol_words.specs.record_kind
use Rattle.protocol.specs.CoordinatorRows.{tells_outcome}
use Rattle.case_table.specs.Tables.{value_of}
use Rattle.resource_manager.specs.Sights.{ManagerSight}
use Rattle.sub_work.specs.Deeds.{outcome_call}
use Rattle.sub_branches.specs.declared.branch.LiveBranch.{LiveBranch}
use Rattle.sub_branches.specs.Tables.{IsBranchTable}
use Rattle.sub_process.specs.Subordinates.{Hears, IsAt, NotHeard, SubState, decided, decided_found, outcome_reply, seen}
use Rattle.sub_process.proofs.Ties.{behind}
use Rattle.sub_process.proofs.Decisions.{not_told, told_first, told_tied}
use Rattle.sub_process.proofs.Ends.{not_tied}
use Rattle.sub_process.proofs.subordinate.Subordinate.told_first.Goals as goal

pub findings-requires : goal.findings-requires
findings-requires g c = record { at = (c.args.key, None, c.requires.at) }

pub tell-requires-clause-named : goal.tell-requires-clause-named
tell-requires-clause-named g c =
    let b : LiveBranch = decided c.args.xid.now None in
    let at : IsAt c.self.inside.branches c.args.key c.args.case b =
    subst (λ v. IsAt v.table c.args.key c.args.case b) (sym c.self.view_is) c.requires.at in
    (c.self.invariant.named c.args.case b at.live).real

pub tell-requires-clause-state : goal.tell-requires-clause-state
tell-requires-clause-state g c =
    let b : LiveBranch = decided c.args.xid.now None in
    let at : IsAt c.self.inside.branches c.args.key c.args.case b =
    subst (λ v. IsAt v.table c.args.key c.args.case b) (sym c.self.view_is) c.requires.at in
    c.self.invariant.stands c.args.case b at.live

pub decide-requires : goal.decide-requires
decide-requires g c =
    let b : LiveBranch = decided c.args.xid.now None in
    let at : IsAt c.self.inside.branches c.args.key c.args.case b =
    subst (λ v. IsAt v.table c.args.key c.args.case b) (sym c.self.view_is) c.requires.at in
    (b, ap value_of at.entry, refl)

pub invariant_of-self : goal.invariant_of-self
invariant_of-self g c =
    let s : SubState = record {
      me = c.self.inside.me;
      parent = c.self.inside.parent;
      tree = c.self.inside.tree;
      given = c.self.inside.given;
      table = c.self.inside.branches;
      manager = g.M.ResourceManager.sight c.self.inside.manager;
    } in
    let b : LiveBranch = decided c.args.xid.now None in
    let at : IsAt c.self.inside.branches c.args.key c.args.case b =
    subst (λ v. IsAt v.table c.args.key c.args.case b) (sym c.self.view_is) c.requires.at in
    let kept : IsBranchTable s.table = subst (λ v. IsBranchTable v.table) (sym c.self.view_is) c.requires.kept
    in
    let m : ManagerSight = g.M.ResourceManager.sight c.tell.new.manager in
    told_tied s c.args.key c.args.case c.args.xid.now c.args.outcome c.self.invariant kept at
    c.decide.new.self m
    c.decide.ensures c.in-Ok.ensures.ok

pub invariant_of-self-in-Err-1 : goal.invariant_of-self-in-Err-1
invariant_of-self-in-Err-1 g c =
    let s : SubState = record {
      me = c.self.inside.me;
      parent = c.self.inside.parent;
      tree = c.self.inside.tree;
      given = c.self.inside.given;
      table = c.self.inside.branches;
      manager = g.M.ResourceManager.sight c.self.inside.manager;
    } in
    let b : LiveBranch = decided c.args.xid.now None in
    let at : IsAt c.self.inside.branches c.args.key c.args.case b =
    subst (λ v. IsAt v.table c.args.key c.args.case b) (sym c.self.view_is) c.requires.at in
    not_tied s (g.M.ResourceManager.sight c.tell.new.manager) c.args.case b (outcome_call c.args.outcome)
    c.in-Err.error c.self.invariant at.live c.in-Err.ensures.err

pub returns-in-Ok-clause-ok : goal.returns-in-Ok-clause-ok
returns-in-Ok-clause-ok g c =
    let s : SubState = record {
      me = c.self.inside.me;
      parent = c.self.inside.parent;
      tree = c.self.inside.tree;
      given = c.self.inside.given;
      table = c.self.inside.branches;
      manager = g.M.ResourceManager.sight c.self.inside.manager;
    } in
    let b : LiveBranch = decided c.args.xid.now None in
    let at : IsAt c.self.inside.branches c.args.key c.args.case b =
    subst (λ v. IsAt v.table c.args.key c.args.case b) (sym c.self.view_is) c.requires.at in
    let kept : IsBranchTable s.table = subst (λ v. IsBranchTable v.table) (sym c.self.view_is) c.requires.kept
    in
    let m : ManagerSight = g.M.ResourceManager.sight c.tell.new.manager in
    let found : c.in_ok-found.found ≡ decided_found s c.args.case c.args.outcome =
    subst (λ v. c.in_ok-found.found ≡ decided_found (seen g.M.ResourceManager.sight v)
    c.args.case c.args.outcome) (sym c.self.view_is) c.in_ok-found.ensures in
    let said : c.in_ok-reaction.reaction ≡ outcome_reply record_kind.Told c.args.case c.args.outcome
    (decided_found s c.args.case c.args.outcome) s.me s.parent =
    subst (λ fs. c.in_ok-reaction.reaction ≡ outcome_reply record_kind.Told c.args.case c.args.outcome fs
    s.me s.parent) found c.in_ok-reaction.ensures in
    subst (λ v. Hears (seen g.M.ResourceManager.sight v) (behind s c.decide.new.self m)
    (tells_outcome c.args.outcome c.args.case) c.in_ok-reaction.reaction) c.self.view_is
    (subst (λ r. Hears s (behind s c.decide.new.self m) (tells_outcome c.args.outcome c.args.case) r)
    (sym said)
    (told_first s c.args.key c.args.case c.args.xid.now c.args.outcome c.self.invariant kept at
    c.decide.new.self
    m c.decide.ensures c.in-Ok.ensures.ok))

pub returns-in-Err-clause-err : goal.returns-in-Err-clause-err
returns-in-Err-clause-err g c =
    let s : SubState = record {
      me = c.self.inside.me;
      parent = c.self.inside.parent;
      tree = c.self.inside.tree;
      given = c.self.inside.given;
      table = c.self.inside.branches;
      manager = g.M.ResourceManager.sight c.self.inside.manager;
    } in
    let b : LiveBranch = decided c.args.xid.now None in
    let at : IsAt c.self.inside.branches c.args.key c.args.case b =
    subst (λ v. IsAt v.table c.args.key c.args.case b) (sym c.self.view_is) c.requires.at in
    let kept : IsBranchTable s.table = subst (λ v. IsBranchTable v.table) (sym c.self.view_is) c.requires.kept
    in
    let m : ManagerSight = g.M.ResourceManager.sight c.tell.new.manager in
    subst (λ v. NotHeard (seen g.M.ResourceManager.sight v) (behind s s.table m)
    (tells_outcome c.args.outcome c.args.case) c.in-Err.error) c.self.view_is
    (not_told s c.args.key c.args.case c.args.xid.now c.args.outcome c.self.invariant kept at m
    c.in-Err.error c.in-Err.ensures.err)
