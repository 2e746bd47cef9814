use Rattle.std.proofs.Common.{◌<◌, ◌+◌, ◌∙◌, ap, arith, length, refl, sym}
use Rattle.cluster_journal.specs.Marks.{given_back}
use Rattle.cluster_journal.specs.declared.marks.Delivery.TheVariants.{Open}
use Rattle.cluster_journal.proofs.Numbers.{claimed_is, gives_back, is_not_claimed, keeps_back, marks_it}
use Rattle.cluster_journal.proofs.marks.Deliveries.give_back.Goals as goal

pub returns-then-is_claimed : goal.returns-then-is_claimed
returns-then-is_claimed c =
    let ms = c.self.inside.marks.items in
    let p = c.in-Some.place in
    let m = c.index.result.now in
    let found = c.in-Some.ensures.found in
    let len = c.len.ensures ∙ c.self.inside.marks.ok.0 in
    let lt : p < length ms = omega (arith, found.0, len) in
    c.set_mark.ensures.marks ∙ sym (marks_it ms (p + 1) p m _ m.to Open refl lt c.index.ensures refl)
    ∙ gives_back ms c.args.number p m _ m.to found.1 lt c.index.ensures refl
    (claimed_is m.mark (sym c.is_claimed.ensures ∙ c.if-is_claimed.true))
    ∙ ap (λ l. given_back l c.args.number) c.self.view_is

pub returns-else-is_claimed : goal.returns-else-is_claimed
returns-else-is_claimed c =
    let ms = c.self.inside.marks.items in
    let p = c.in-Some.place in
    let m = c.index.result.now in
    let found = c.in-Some.ensures.found in
    let len = c.len.ensures ∙ c.self.inside.marks.ok.0 in
    let lt : p < length ms = omega (arith, found.0, len) in
    sym c.self.view_is ∙ keeps_back ms c.args.number p m _ found.1 lt c.index.ensures
    (is_not_claimed m.mark (sym c.is_claimed.ensures ∙ c.if-is_claimed.false))
    ∙ ap (λ l. given_back l c.args.number) c.self.view_is
