use Rattle.std.proofs.Common.{ap, ◌∙◌, sym, option_map, []}
use Rattle.std.specs.Prelude.{unwrap_or}
use Rattle.xa_branch.proofs.Lists.{scan_of-left_of, if_ok_then}
use Rattle.xa_branch.proofs.scans.Scans.rest.Goals as goal

pub returns-in-None : goal.returns-in-None
returns-in-None c =
    let none = ap (option_map (λ v. v.items)) c.in-None.ensures.value
    ∙ sym (scan_of-left_of c.self.inside.left.entries c.args.thread) in
    rw (← c.self.view_is) (c.new.ensures.items ∙ ap (λ o. unwrap_or o []) none)

pub returns-in-Some : goal.returns-in-Some
returns-in-Some c =
    let some = ap (option_map (λ v. v.items)) c.in-Some.ensures.value
    ∙ sym (scan_of-left_of c.self.inside.left.entries c.args.thread) in
    rw (← c.self.view_is)
    (if_ok_then c.to_vec.result _ _ c.to_vec.ensures.items_if_clones_equal
    (λ v same. same (λ x y e. e) ∙ c.as_slice.ensures.value ∙ ap (λ o. unwrap_or o []) some))
