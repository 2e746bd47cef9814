use Rattle.coord_case.proofs.Children.{changing-at, changing-past, place}
use Rattle.std.proofs.Common.{rules, ◌≡◌, ◌≤◌, length, get_or, set, ap, sym, ◌∙◌, arith}
use Rattle.std.proofs.lemmas.Grind.{common_steps}
use Rattle.coord_case.specs.Lives.{sending}
use Rattle.coord_case.proofs.lists.set_works.Goals as goal

pub returns-in-None : goal.returns-in-None
returns-in-None c =
    let past : length c.args.children.now.items ≤ place c.args.ticket.now c.args.children.now.items =
    grind (arith, common_steps) in
    record {
      items = sym (changing-past c.args.ticket.now (sending c.args.works)
          c.args.children.now.items past);
    }

pub returns-in-Some-get_mut : goal.returns-in-Some-get_mut
returns-in-Some-get_mut c =
    let here : c.in-Some.at ≡ place c.args.ticket.now c.args.children.now.items =
    grind (arith, common_steps) in
    let is : c.in-Some-get_mut.child.now ≡ get_or c.args.children.now.items c.in-Some.at
    c.in-Some-get_mut.child.now = search rules in
    record {
      items =
          ap (λ x. set c.args.children.now.items c.in-Some.at (record x { works = c.args.works })) is
          ∙ ap (λ k. set c.args.children.now.items k (record (get_or c.args.children.now.items k
          c.in-Some-get_mut.child.now) { works = c.args.works })) here
          ∙ changing-at c.args.ticket.now (sending c.args.works) c.args.children.now.items
          c.in-Some-get_mut.child.now;
    }
