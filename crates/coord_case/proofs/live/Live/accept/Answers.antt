use Rattle.coord_case.proofs.Children.{distinct-push}
use Rattle.coord_case.proofs.Counts.{counted-push, few_missing}
use Rattle.coord_case.proofs.Held.{accepts}
use Rattle.std.proofs.Common.{rules, ◌≡◌, ℕ, [], ◌∷◌, ◌++◌, None, ap, sym, ◌∙◌, ◌+◌, arith}
use Rattle.protocol.specs.declared.standings.Vote.TheVariants.{Yes}
use Rattle.coord_case.specs.Lives.{are_distinct, is_missing, is_vote, missing_in, yes_in}
use Rattle.coord_case.proofs.live.Live.accept.Goals as goal

pub overflow_add-self : goal.overflow_add-self
overflow_add-self c =
    let pushed : c.push_reserved.new.self.items ≡ c.self.inside.children.items
    ++ record { ticket = c.args.ticket; works = 0; vote = None } ∷ [] = search rules in
    let more : missing_in c.push_reserved.new.self.items ≡ c.self.inside.missing + 1 =
    ap missing_in pushed ∙ counted-push is_missing c.self.inside.children.items _
    ∙ ap (λ n. n + 1) (sym c.self.invariant.missing) in
    record {
      fits = omega (
        arith,
        more,
        few_missing c.push_reserved.new.self.items,
        c.len-children.ensures.value,
        c.len-children.type_inv,
      );
    }

pub invariant_of-self-2 : goal.invariant_of-self-2
invariant_of-self-2 c =
    let pushed : c.push_reserved.new.self.items ≡ c.self.inside.children.items
    ++ record { ticket = c.args.ticket; works = 0; vote = None } ∷ [] = search rules in
    record {
      distinct = ap are_distinct pushed
          ∙ distinct-push c.self.inside.children.items _ c.self.invariant.distinct (search rules);
      missing = ap (λ n. n + 1) c.self.invariant.missing
          ∙ sym (ap missing_in pushed ∙ counted-push is_missing c.self.inside.children.items _);
      yes = c.self.invariant.yes ∙ sym (ap yes_in pushed
          ∙ counted-push (is_vote Yes) c.self.inside.children.items _
          ∙ plain (yes_in c.self.inside.children.items));
    }
  where
    plain : (n : ℕ) → n + 0 ≡ n
    plain n = omega arith

pub returns-clause-ok : goal.returns-clause-ok
returns-clause-ok c =
    let pushed : c.push_reserved.new.self.items ≡ c.self.inside.children.items
    ++ record { ticket = c.args.ticket; works = 0; vote = None } ∷ [] = search rules in
    rw (← c.self.view_is) (accepts c.self.inside.standing c.self.inside.children.items
    c.push_reserved.new.self.items c.self.inside.promised.items c.self.inside.named.items
    c.self.inside.owed.items c.self.inside.found.items c.args.ticket pushed)
