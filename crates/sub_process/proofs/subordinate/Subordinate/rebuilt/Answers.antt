use Rattle.std.proofs.Common.{◌≡◌, ◌≤◌, ◌∙◌, ◌+◌, ◌^◌, ◌++◌, ◌∷◌, [], ap, refl, sym, subst}
use Rattle.protocol.specs.LogNames.{own_records}
use Rattle.protocol.specs.Records.{boot_of}
use Rattle.protocol.specs.Views.{leaf_place}
use Rattle.log_records.specs.Sights.{left_by}
use Rattle.resource_manager.specs.Restarting.{boot_record}
use Rattle.sub_branches.specs.declared.names.RebuildError.TheVariants.{Exhausted, Unfit}
use Rattle.sub_branches.specs.Rebuilt.{AreFit, BranchesNotRebuilt, RebuildsBranches}
use Rattle.sub_branches.specs.Remembered.{RemembersBranches}
use Rattle.sub_process.specs.Fronts.{IsFrontOf}
use Rattle.sub_process.specs.Subordinates.{SubState, place_of}
use Rattle.sub_process.proofs.Reached.{left_fit}
use Rattle.sub_process.proofs.subordinate.Subordinate.rebuilt.Goals as goal

pub rebuild-requires : goal.rebuild-requires
rebuild-requires g c =
    let s : SubState = record {
      me = c.self.inside.me;
      parent = c.self.inside.parent;
      tree = c.self.inside.tree;
      given = c.self.inside.given;
      table = c.self.inside.branches;
      manager = g.M.ResourceManager.sight c.self.inside.manager;
    } in
    let front : IsFrontOf (place_of s) s.manager.log c.args.front =
    subst (λ v. IsFrontOf (leaf_place v.me v.parent v.tree)
    (g.M.ResourceManager.sight v.manager).log c.args.front)
    (sym c.self.view_is) c.requires in
    (front.first, front.says s.parent refl)

pub returns-in-Ok-clause-ok : goal.returns-in-Ok-clause-ok
returns-in-Ok-clause-ok g c =
    let s : SubState = record {
      me = c.self.inside.me;
      parent = c.self.inside.parent;
      tree = c.self.inside.tree;
      given = c.self.inside.given;
      table = c.self.inside.branches;
      manager = g.M.ResourceManager.sight c.self.inside.manager;
    } in
    let front : IsFrontOf (place_of s) s.manager.log c.args.front =
    subst (λ v. IsFrontOf (leaf_place v.me v.parent v.tree)
    (g.M.ResourceManager.sight v.manager).log c.args.front)
    (sym c.self.view_is) c.requires in
    let left : front.first ++ c.deref.result.now ≡ left_by s.manager.log c.args.keep =
    ap (λ ks. front.first ++ ks) c.deref.ensures.value
    ∙ c.in_ok-records.ensures {u = tt} front.first front.stands in
    subst (λ v. RebuildsBranches (leaf_place v.me v.parent v.tree) v.parent
    (left_by (g.M.ResourceManager.sight v.manager).log c.args.keep) c.in-Ok.rebuilt.0) c.self.view_is
    (subst (λ ls. RebuildsBranches (place_of s) s.parent ls c.in-Ok.rebuilt.0) left
    (c.in-Ok.ensures.ok front.first (front.says s.parent refl)))

pub returns-in-Ok-clause-remembered : goal.returns-in-Ok-clause-remembered
returns-in-Ok-clause-remembered g c =
    let s : SubState = record {
      me = c.self.inside.me;
      parent = c.self.inside.parent;
      tree = c.self.inside.tree;
      given = c.self.inside.given;
      table = c.self.inside.branches;
      manager = g.M.ResourceManager.sight c.self.inside.manager;
    } in
    let front : IsFrontOf (place_of s) s.manager.log c.args.front =
    subst (λ v. IsFrontOf (leaf_place v.me v.parent v.tree)
    (g.M.ResourceManager.sight v.manager).log c.args.front)
    (sym c.self.view_is) c.requires in
    let left : front.first ++ c.deref.result.now ≡ left_by s.manager.log c.args.keep =
    ap (λ ks. front.first ++ ks) c.deref.ensures.value
    ∙ c.in_ok-records.ensures {u = tt} front.first front.stands in
    subst (λ v. RemembersBranches (leaf_place v.me v.parent v.tree) v.parent
    (left_by (g.M.ResourceManager.sight v.manager).log c.args.keep ++ boot_record
    (c.in-Ok.rebuilt.0.boot + 1) ∷ [])
    c.in-Ok.rebuilt.1) c.self.view_is
    (subst (λ ls. RemembersBranches (place_of s) s.parent
    (ls ++ boot_record (c.in-Ok.rebuilt.0.boot + 1) ∷ [])
    c.in-Ok.rebuilt.1) left
    (c.in-Ok.ensures.remembered front.first (front.says s.parent refl)))

pub returns-in-Err-Exhausted-clause-err : goal.returns-in-Err-Exhausted-clause-err
returns-in-Err-Exhausted-clause-err g c =
    let s : SubState = record {
      me = c.self.inside.me;
      parent = c.self.inside.parent;
      tree = c.self.inside.tree;
      given = c.self.inside.given;
      table = c.self.inside.branches;
      manager = g.M.ResourceManager.sight c.self.inside.manager;
    } in
    let front : IsFrontOf (place_of s) s.manager.log c.args.front =
    subst (λ v. IsFrontOf (leaf_place v.me v.parent v.tree)
    (g.M.ResourceManager.sight v.manager).log c.args.front)
    (sym c.self.view_is) c.requires in
    let left : front.first ++ c.deref.result.now ≡ left_by s.manager.log c.args.keep =
    ap (λ ks. front.first ++ ks) c.deref.ensures.value
    ∙ c.in_ok-records.ensures {u = tt} front.first front.stands in
    let why : BranchesNotRebuilt (place_of s) (front.first ++ c.deref.result.now) Exhausted =
    subst (BranchesNotRebuilt (place_of s) (front.first ++ c.deref.result.now)) c.in-Err-Exhausted.field-0-is
    (c.in-Err-Exhausted.ensures.err front.first (front.says s.parent refl)) in
    subst (λ v. 2 ^ 63 ≤ boot_of (own_records (leaf_place v.me v.parent v.tree)
    (left_by (g.M.ResourceManager.sight v.manager).log c.args.keep)) + 1) c.self.view_is
    (subst (λ ls. 2 ^ 63 ≤ boot_of (own_records (place_of s) ls) + 1) left why)

pub unreachable-requires : goal.unreachable-requires
unreachable-requires g c =
    let s : SubState = record {
      me = c.self.inside.me;
      parent = c.self.inside.parent;
      tree = c.self.inside.tree;
      given = c.self.inside.given;
      table = c.self.inside.branches;
      manager = g.M.ResourceManager.sight c.self.inside.manager;
    } in
    let front : IsFrontOf (place_of s) s.manager.log c.args.front =
    subst (λ v. IsFrontOf (leaf_place v.me v.parent v.tree)
    (g.M.ResourceManager.sight v.manager).log c.args.front)
    (sym c.self.view_is) c.requires in
    let left : front.first ++ c.deref.result.now ≡ left_by s.manager.log c.args.keep =
    ap (λ ks. front.first ++ ks) c.deref.ensures.value
    ∙ c.in_ok-records.ensures {u = tt} front.first front.stands in
    let fit : AreFit (place_of s) (left_by s.manager.log c.args.keep) =
    left_fit s c.args.keep c.self.invariant.reached c.records_are_sound.ensures c.records_are_in_order.ensures
    in
    let why : BranchesNotRebuilt (place_of s) (front.first ++ c.deref.result.now) Unfit =
    subst (BranchesNotRebuilt (place_of s) (front.first ++ c.deref.result.now)) c.in-Err-Unfit.field-0-is
    (c.in-Err-Unfit.ensures.err front.first (front.says s.parent refl)) in
    why (subst (AreFit (place_of s)) (sym left) fit)
