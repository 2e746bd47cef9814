use Rattle.coord_case.proofs.Children.{counted_is, distinct-changing}
use Rattle.coord_case.proofs.Counts.{few_yes, vote_counts}
use Rattle.coord_case.proofs.Held.{counts-vote}
use Rattle.std.proofs.Common.{◌≡◌, true, Some, refl, ap, ◌∙◌, arith}
use Rattle.protocol.specs.Memory.{is_counted}
use Rattle.coord_case.specs.Lives.{accepted_in, are_distinct, missing_in, votes_in, voting, yes_in}
use Rattle.coord_case.proofs.live.Live.count_vote.Goals as goal

pub overflow_sub-self : goal.overflow_sub-self
overflow_sub-self c =
    let is = counted_is c.self.inside.children.items c.args.ticket.now
    (ap (λ v. is_counted v.accepted v.votes c.args.ticket.now) c.self.view_is ∙ c.requires) in
    let counts = vote_counts c.self.inside.children.items c.args.ticket.now c.args.vote is.0 is.1 in
    omega (arith, counts.0, c.self.invariant.missing)

pub overflow_add-self : goal.overflow_add-self
overflow_add-self c =
    let is = counted_is c.self.inside.children.items c.args.ticket.now
    (ap (λ v. is_counted v.accepted v.votes c.args.ticket.now) c.self.view_is ∙ c.requires) in
    let counts = vote_counts c.self.inside.children.items c.args.ticket.now c.args.vote is.0 is.1 in
    let now = ap yes_in c.set_vote.ensures.items in
    record {
      fits = omega (
        arith,
        counts.1,
        now,
        few_yes c.set_vote.new.children.items,
        c.self.invariant.yes,
        c.yes_in_vote.ensures,
        c.len-children.ensures.value,
        c.len-children.type_inv,
      );
    }

pub invariant_of-self : goal.invariant_of-self
invariant_of-self c =
    let is = counted_is c.self.inside.children.items c.args.ticket.now
    (ap (λ v. is_counted v.accepted v.votes c.args.ticket.now) c.self.view_is ∙ c.requires) in
    let counts = vote_counts c.self.inside.children.items c.args.ticket.now c.args.vote is.0 is.1 in
    let missing = ap missing_in c.set_vote.ensures.items in
    let yes = ap yes_in c.set_vote.ensures.items in
    record {
      distinct = ap are_distinct c.set_vote.ensures.items
          ∙ distinct-changing c.args.ticket.now (voting (Some c.args.vote)) (λ d. refl)
          c.self.inside.children.items ∙ c.self.invariant.distinct;
      missing = omega (arith, counts.0, missing, c.self.invariant.missing);
      yes = omega (arith, counts.1, yes, c.self.invariant.yes, c.yes_in_vote.ensures);
    }

pub returns : goal.returns
returns c =
    let counted : is_counted (accepted_in c.self.inside.children.items)
    (votes_in c.self.inside.children.items) c.args.ticket.now ≡ true =
    ap (λ v. is_counted v.accepted v.votes c.args.ticket.now) c.self.view_is ∙ c.requires in
    rw (c.set_vote.ensures.items, ← c.self.view_is) (counts-vote c.self.inside.standing
    c.self.inside.children.items _ _ _ _ c.args.ticket.now c.args.vote counted)
