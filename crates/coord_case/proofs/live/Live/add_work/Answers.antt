use Rattle.coord_case.proofs.Children.{distinct-changing}
use Rattle.coord_case.proofs.Counts.{counted-sending}
use Rattle.coord_case.proofs.Held.{sends-work}
use Rattle.std.proofs.Common.{◌≡◌, ◌+◌, true, refl, ap, sym, ◌∙◌}
use Rattle.protocol.specs.declared.standings.Vote.TheVariants.{Yes}
use Rattle.protocol.specs.Records.{in_list}
use Rattle.protocol.specs.Memory.{works_of}
use Rattle.coord_case.specs.Lives.{accepted_in, are_distinct, is_missing, is_vote, missing_in, sending, works_in, yes_in}
use Rattle.coord_case.proofs.live.Live.add_work.Goals as goal

pub invariant_of-self : goal.invariant_of-self
invariant_of-self c =
    let now = c.set_works.ensures.items in
    let t = c.args.ticket.now in
    let n = c.args.sent + 1 in
    let cs = c.self.inside.children.items in
    record {
      distinct = ap are_distinct now
          ∙ distinct-changing t (sending n) (λ d. refl) cs ∙ c.self.invariant.distinct;
      missing = c.self.invariant.missing ∙ sym (ap missing_in now ∙ counted-sending is_missing t n cs);
      yes = c.self.invariant.yes ∙ sym (ap yes_in now ∙ counted-sending (is_vote Yes) t n cs);
    }

pub returns : goal.returns
returns c =
    let there : in_list (accepted_in c.self.inside.children.items) c.args.ticket.now ≡ true =
    ap (λ v. in_list v.accepted c.args.ticket.now) c.self.view_is ∙ c.requires.accepted in
    let is : c.args.sent + 1 ≡ works_of (works_in c.self.inside.children.items) c.args.ticket.now + 1 =
    ap (λ n. n + 1) (c.requires.sent ∙ sym (ap (λ v. works_of v.works c.args.ticket.now) c.self.view_is)) in
    rw (c.set_works.ensures.items, ← c.self.view_is) (sends-work c.self.inside.standing
    c.self.inside.children.items _ _ _ _ c.args.ticket.now (c.args.sent + 1)
    c.self.invariant.distinct there is)
