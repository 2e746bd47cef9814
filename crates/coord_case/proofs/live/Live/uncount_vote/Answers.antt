use Rattle.coord_case.proofs.Children.{distinct-changing}
use Rattle.coord_case.proofs.Counts.{few_missing, unvoting-none, vote_uncounts}
use Rattle.coord_case.proofs.Held.{uncounts-vote}
use Rattle.std.proofs.Common.{◌≡◌, List, Option, None, find, refl, ap, subst, sym, ◌∙◌, arith}
use Rattle.protocol.specs.declared.names.Ticket.{Ticket}
use Rattle.protocol.specs.declared.standings.Vote.{Vote}
use Rattle.protocol.specs.Names.{same_ticket}
use Rattle.coord_case.specs.declared.child.Child.{Child}
use Rattle.coord_case.specs.Lives.{Uncounts, are_distinct, meant, missing_in, vote_found, voting, yes_in}
use Rattle.coord_case.proofs.live.Live.uncount_vote.Goals as goal

abbrev voted : Ticket → List Child → Option Vote
voted t cs = vote_found (find (λ d. same_ticket d.ticket t) cs)

found_is : (t : Ticket) (cs ds : List Child) (o w : Option Vote) → ds ≡ cs → o ≡ voted t ds → o ≡ w
    → voted t cs ≡ w
found_is t cs ds o w same found is = sym (ap (voted t) same) ∙ sym found ∙ is

pub overflow_sub-self : goal.overflow_sub-self
overflow_sub-self c =
    let counts = vote_uncounts c.self.inside.children.items c.args.ticket.now c.in-Some.vote
    (found_is _ _ _ _ _ c.as_slice.ensures c.vote_of.ensures c.in-Some.is) in
    omega (arith, counts.1, c.self.invariant.yes, c.yes_in_vote.ensures)

pub overflow_add-self : goal.overflow_add-self
overflow_add-self c =
    let counts = vote_uncounts c.self.inside.children.items c.args.ticket.now c.in-Some.vote
    (found_is _ _ _ _ _ c.as_slice.ensures c.vote_of.ensures c.in-Some.is) in
    let now = ap missing_in c.set_vote.ensures.items in
    record {
      fits = omega (
        arith,
        counts.0,
        now,
        few_missing c.set_vote.new.children.items,
        c.self.invariant.missing,
        c.len-children.ensures.value,
        c.len-children.type_inv,
      );
    }

pub invariant_of-self : goal.invariant_of-self
invariant_of-self c =
    let counts = vote_uncounts c.self.inside.children.items c.args.ticket.now c.in-Some.vote
    (found_is _ _ _ _ _ c.as_slice.ensures c.vote_of.ensures c.in-Some.is) in
    let missing = ap missing_in c.set_vote.ensures.items in
    let yes = ap yes_in c.set_vote.ensures.items in
    record {
      distinct = ap are_distinct c.set_vote.ensures.items
          ∙ distinct-changing c.args.ticket.now (voting None) (λ d. refl) c.self.inside.children.items
          ∙ c.self.invariant.distinct;
      missing = omega (arith, counts.0, missing, c.self.invariant.missing);
      yes = omega (arith, counts.1, yes, c.self.invariant.yes, c.yes_in_vote.ensures);
    }

pub returns-in-Some : goal.returns-in-Some
returns-in-Some c =
    rw (c.set_vote.ensures.items, ← c.self.view_is) (uncounts-vote c.self.inside.standing
    c.self.inside.children.items _ _ _ _ c.args.ticket.now c.self.invariant.distinct)

pub returns-in-None : goal.returns-in-None
returns-in-None c =
    let s = c.self.inside in
    let none : vote_found (find (λ d. same_ticket d.ticket c.args.ticket.now) s.children.items) ≡ None =
    found_is _ _ _ _ _ c.as_slice.ensures c.vote_of.ensures c.in-None.is in
    rw (← c.self.view_is) (subst (λ cs. Uncounts c.args.ticket.now
    (meant s.standing s.children.items s.promised.items s.named.items s.owed.items s.found.items)
    (meant s.standing cs s.promised.items s.named.items s.owed.items s.found.items))
    (unvoting-none s.children.items c.args.ticket.now none)
    (uncounts-vote s.standing s.children.items _ _ _ _ c.args.ticket.now c.self.invariant.distinct))
