use Rattle.std.proofs.Common.{◌≡◌, ◌∙◌, ◌∷◌, ◌+◌, [], drop, sym, subst, arith}
use Rattle.std.proofs.lemmas.List.{drop_all}
use Rattle.xa_branch.specs.Cases.{open_cases}
use Rattle.kv_state.proofs.Holding.{item_and_rest}
use Rattle.kv_state.proofs.Remembering.{IsCopying, copying_ends, copying_goes_on, copying_passes, copying_starts}
use Rattle.kv_state.proofs.remembered.copied.Goals.{in-Some+in_ok-restore, in_default}
use Rattle.kv_state.proofs.remembered.copied.Goals as goal

pub loop-xid-init : goal.loop-xid-init
loop-xid-init c = copying_starts c.args.decisions.now c.new-copy.result c.new-copy.ensures

pub loop-xid-preserved : goal.loop-xid-preserved
loop-xid-preserved c =
    let t = c.args.decisions.now in
    let listed = c.open_cases-branches.result.now in
    let i = c.loop-xid.xid-index in
    let here : drop i listed ≡ c.xid-item.result ∷ drop (i + 1) listed =
    item_and_rest listed i c.xid-item.result c.loop-xid-test.true c.xid-item.is in
    let copying : IsCopying t (c.xid-item.result ∷ drop (i + 1) listed) c.loop-xid.copy =
    subst (λ ks. IsCopying t ks c.loop-xid.copy) here
    (subst (λ ks. IsCopying t (drop i ks) c.loop-xid.copy) (sym c.open_cases-branches.ensures)
    c.loop-xid.invariant) in
    subst (λ ks. IsCopying t (drop (i + 1) ks) c.match-decision.copy) c.open_cases-branches.ensures
    (elim c.match-decision.branch [
      | in-Some+in_ok-restore w ↦ subst (IsCopying t (drop (i + 1) listed)) (sym w.copy-is)
          (copying_goes_on t c.xid-item.result (drop (i + 1) listed) c.loop-xid.copy copying
          w.restore.new.self
          w.in-Some.decision (sym c.decision.ensures ∙ w.in-Some.is) w.in_ok-restore.ensures.ok)
      | in_default w ↦ subst (IsCopying t (drop (i + 1) listed)) (sym w.copy-is)
          (copying_passes t c.xid-item.result (drop (i + 1) listed) c.loop-xid.copy copying
          (sym c.decision.ensures ∙ w.in_default.is))
    ])

pub returns : goal.returns
returns c =
    let t = c.args.decisions.now in
    let listed = c.open_cases-branches.result.now in
    let over : drop c.loop-xid.xid-index listed ≡ [] =
    drop_all c.loop-xid.xid-index listed (omega (arith, c.loop-xid-test.false)) in
    copying_ends t c.loop-xid.copy
    (subst (λ ks. IsCopying t ks c.loop-xid.copy) over
    (subst (λ ks. IsCopying t (drop c.loop-xid.xid-index ks) c.loop-xid.copy)
    (sym c.open_cases-branches.ensures)
    c.loop-xid.invariant))
