use Rattle.std.proofs.Common.{rules, ◌≡◌, ◌∙◌, ◌∷◌, [], None, true, false, sym, subst}
use Rattle.protocol.specs.declared.messages.Message.TheVariants.{Prepare, Yes as YesMessage, Read as ReadMessage}
use Rattle.protocol.specs.declared.records.RecordKind.TheVariants as kind
use Rattle.protocol.specs.declared.records.Subject.TheVariants as subject
use Rattle.protocol.specs.CoordinatorRows.{post}
use Rattle.sub_work.specs.Replies.{shown}
use Rattle.sub_process.specs.Subordinates.{Hears, IsAt, NotHeard, SubState, active, seen}
use Rattle.xa_words.specs.call
use Rattle.sub_process.proofs.Ties.{behind}
use Rattle.sub_process.proofs.Ends.{not_tied}
use Rattle.resource_manager.specs.Sights.{ManagerSight}
use Rattle.sub_process.proofs.Votes.{not_voted, read, read_tied, yes, yes_of, yes_tied}
use Rattle.sub_process.proofs.subordinate.Subordinate.vote_with.Goals as goal

pub promise-requires-clause-named : goal.promise-requires-clause-named
promise-requires-clause-named g c =
    let at = subst (λ v. IsAt v.table c.args.key c.args.case
    (active c.args.xid.now c.requires.at.0 c.args.works false)) (sym c.self.view_is) c.requires.at.1 in
    (c.self.invariant.named c.args.case (active c.args.xid.now c.requires.at.0 c.args.works false)
    at.live).real

pub promise-requires-clause-state : goal.promise-requires-clause-state
promise-requires-clause-state g c =
    let at = subst (λ v. IsAt v.table c.args.key c.args.case
    (active c.args.xid.now c.requires.at.0 c.args.works false)) (sym c.self.view_is) c.requires.at.1 in
    c.self.invariant.stands c.args.case (active c.args.xid.now c.requires.at.0 c.args.works false) at.live

pub invariant_of-self : goal.invariant_of-self
invariant_of-self g c =
    let s : SubState = record {
      me = c.self.inside.me;
      parent = c.self.inside.parent;
      tree = c.self.inside.tree;
      given = c.self.inside.given;
      table = c.self.inside.branches;
      manager = g.M.ResourceManager.sight c.self.inside.manager;
    } in
    let at = subst (λ v. IsAt v.table c.args.key c.args.case
    (active c.args.xid.now c.requires.at.0 c.args.works false)) (sym c.self.view_is) c.requires.at.1 in
    not_tied s (g.M.ResourceManager.sight c.promise.new.manager) c.args.case
    (active c.args.xid.now c.requires.at.0 c.args.works false) call.Prepare c.in-Err.error
    c.self.invariant at.live c.in-Err.ensures.err

pub returns-in-Err-clause-err : goal.returns-in-Err-clause-err
returns-in-Err-clause-err g c =
    let s : SubState = record {
      me = c.self.inside.me;
      parent = c.self.inside.parent;
      tree = c.self.inside.tree;
      given = c.self.inside.given;
      table = c.self.inside.branches;
      manager = g.M.ResourceManager.sight c.self.inside.manager;
    } in
    let at = subst (λ v. IsAt v.table c.args.key c.args.case
    (active c.args.xid.now c.requires.at.0 c.args.works false)) (sym c.self.view_is) c.requires.at.1 in
    let m : ManagerSight = g.M.ResourceManager.sight c.promise.new.manager in
    subst (λ v. NotHeard (seen g.M.ResourceManager.sight v) (behind s s.table m)
    (Prepare c.args.case c.args.works) c.in-Err.error) c.self.view_is
    (not_voted s c.args.key c.args.case c.requires.at.0 c.args.works c.args.xid.now c.self.invariant at m
    c.in-Err.error c.in-Err.ensures.err)

pub invariant_of-self-in-Read-1 : goal.invariant_of-self-in-Read-1
invariant_of-self-in-Read-1 g c =
    let s : SubState = record {
      me = c.self.inside.me;
      parent = c.self.inside.parent;
      tree = c.self.inside.tree;
      given = c.self.inside.given;
      table = c.self.inside.branches;
      manager = g.M.ResourceManager.sight c.self.inside.manager;
    } in
    let at = subst (λ v. IsAt v.table c.args.key c.args.case
    (active c.args.xid.now c.requires.at.0 c.args.works false)) (sym c.self.view_is) c.requires.at.1 in
    read_tied s c.args.key c.args.case c.requires.at.0 c.args.works c.args.xid.now c.self.invariant at
    c.remove.new.self (g.M.ResourceManager.sight c.promise.new.manager) c.remove.ensures c.in-Ok.ensures.ok

pub invariant_of-self-in_default : goal.invariant_of-self-in_default
invariant_of-self-in_default g c =
    let s : SubState = record {
      me = c.self.inside.me;
      parent = c.self.inside.parent;
      tree = c.self.inside.tree;
      given = c.self.inside.given;
      table = c.self.inside.branches;
      manager = g.M.ResourceManager.sight c.self.inside.manager;
    } in
    let at = subst (λ v. IsAt v.table c.args.key c.args.case
    (active c.args.xid.now c.requires.at.0 c.args.works false)) (sym c.self.view_is) c.requires.at.1 in
    yes_tied s c.args.key c.args.case c.requires.at.0 c.args.works c.args.xid.now c.self.invariant at
    c.promise-in_default.new.self (g.M.ResourceManager.sight c.promise.new.manager)
    c.promise-in_default.ensures
    (yes_of (s.manager.writes c.args.xid.now) c.in-Ok.vote c.in-Ok.ensures.vote
    c.in_default.not-Read) c.in-Ok.ensures.ok

pub returns-in-Read-clause-ok : goal.returns-in-Read-clause-ok
returns-in-Read-clause-ok g c =
    let s : SubState = record {
      me = c.self.inside.me;
      parent = c.self.inside.parent;
      tree = c.self.inside.tree;
      given = c.self.inside.given;
      table = c.self.inside.branches;
      manager = g.M.ResourceManager.sight c.self.inside.manager;
    } in
    let at = subst (λ v. IsAt v.table c.args.key c.args.case
    (active c.args.xid.now c.requires.at.0 c.args.works false)) (sym c.self.view_is) c.requires.at.1 in
    let m : ManagerSight = g.M.ResourceManager.sight c.promise.new.manager in
    let said : c.says.result ≡ shown [] (post s.me s.parent (ReadMessage c.args.case) ∷ []) = search rules in
    subst (λ v. Hears (seen g.M.ResourceManager.sight v) (behind s c.remove.new.self m)
    (Prepare c.args.case c.args.works) c.says.result) c.self.view_is
    (subst (λ r. Hears s (behind s c.remove.new.self m) (Prepare c.args.case c.args.works)
    r) (sym said)
    (read s c.args.key c.args.case c.requires.at.0 c.args.works c.args.xid.now c.self.invariant at
    c.remove.new.self m c.remove.ensures
    (sym c.in-Read.is ∙ c.in-Ok.ensures.vote) c.in-Ok.ensures.ok))

pub returns-in_default : goal.returns-in_default
returns-in_default g c =
    let s : SubState = record {
      me = c.self.inside.me;
      parent = c.self.inside.parent;
      tree = c.self.inside.tree;
      given = c.self.inside.given;
      table = c.self.inside.branches;
      manager = g.M.ResourceManager.sight c.self.inside.manager;
    } in
    let at = subst (λ v. IsAt v.table c.args.key c.args.case
    (active c.args.xid.now c.requires.at.0 c.args.works false)) (sym c.self.view_is) c.requires.at.1 in
    let m : ManagerSight = g.M.ResourceManager.sight c.promise.new.manager in
    let said : c.says-in_default.result ≡ record {
      begun = None;
      written = record { kind = kind.Prepared; subject = subject.Case c.args.case; forced = true } ∷ [];
      told = None;
      messages = post s.me s.parent (YesMessage c.args.case) ∷ [];
      kept = None;
    } = search rules in
    record {
      ok = subst (λ v. Hears (seen g.M.ResourceManager.sight v) (behind s c.promise-in_default.new.self m)
          (Prepare c.args.case c.args.works) c.says-in_default.result) c.self.view_is
          (subst (λ r. Hears s (behind s c.promise-in_default.new.self m) (Prepare c.args.case c.args.works)
          r) (sym said)
          (yes s c.args.key c.args.case c.requires.at.0 c.args.works c.args.xid.now c.self.invariant at
          c.promise-in_default.new.self m c.promise-in_default.ensures
          (yes_of (s.manager.writes c.args.xid.now) c.in-Ok.vote c.in-Ok.ensures.vote
          c.in_default.not-Read) c.in-Ok.ensures.ok));
      err = tt;
    }
