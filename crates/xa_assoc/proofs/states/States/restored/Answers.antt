use Rattle.std.proofs.Common.{◌≡◌, ◌≢◌, ◌∙◌, ◌+◌, ◌++◌, ◌∷◌, [], take, ap, sym, subst, arith, rules}
use Rattle.std.proofs.lemmas.List.{take_more}
use Rattle.xa_words.specs.code
use Rattle.xa_branch.specs.Branches.{BeginsState}
use Rattle.xa_assoc.proofs.Restoring.{is_refused, is_taken}
use Rattle.xa_assoc.proofs.states.States.restored.Goals as goal

pub returns-then-ne : goal.returns-then-ne
returns-then-ne c =
    let left = c.args.left.now in
    let i = c.loop-xid.xid-index in
    let e = c.loop-xid-item.result in
    let bad : c.in_ok-code.code ≢ code.Ok = search rules in
    let next : take (i + 1) left ≡ take i left ++ e ∷ [] = take_more left i e (omega arith)
    ∙ ap (λ q. take i left ++ q ∷ []) (sym c.loop-xid-item.is) in
    is_refused left i c.loop-xid.branches c.restore.new.self e c.in_ok-code.code (record {
      within = omega arith;
      short = omega arith;
      front = c.loop-xid.invariant.0;
      next = next;
      begins = subst (λ s. BeginsState c.loop-xid.branches c.restore.new.self e.0 s c.in_ok-code.code)
          c.state_left.ensures c.in_ok-code.ensures.restored;
    }) bad

pub loop-xid-preserved : goal.loop-xid-preserved
loop-xid-preserved c =
    let left = c.args.left.now in
    let i = c.loop-xid.xid-index in
    let e = c.loop-xid-item.result in
    let good : c.in_ok-code.code ≡ code.Ok = search rules in
    let next : take (i + 1) left ≡ take i left ++ e ∷ [] = take_more left i e (omega arith)
    ∙ ap (λ q. take i left ++ q ∷ []) (sym c.loop-xid-item.is) in
    is_taken left i c.loop-xid.branches c.restore.new.self e c.in_ok-code.code (record {
      within = omega arith;
      short = omega arith;
      front = c.loop-xid.invariant.0;
      next = next;
      begins = subst (λ s. BeginsState c.loop-xid.branches c.restore.new.self e.0 s c.in_ok-code.code)
          c.state_left.ensures c.in_ok-code.ensures.restored;
    }) good c.loop-xid.invariant.2 c.loop-xid.invariant.1
