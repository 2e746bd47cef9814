use Rattle.std.proofs.Common.{◌≡◌, ◌∙◌, ◌+◌, Bool, true, false, Option, Some, None, is_some, not, ap, drop, refl, subst, sym, arith}
use Rattle.std.proofs.lemmas.List.{drop_all}
use Rattle.sub_branches.specs.declared.branch.LiveBranch.{LiveBranch}
use Rattle.sub_branches.proofs.Remembering.{IsCopying, copies_one, copying_ends, copying_starts, passes_one}
use Rattle.sub_branches.proofs.rebuilt.copied.Goals as goal
use Rattle.sub_branches.proofs.rebuilt.copied.Goals.{then-is_none+in-Some+in_ok-restore, then-is_none+in_default, else-is_none}

pub loop-case-init : goal.loop-case-init
loop-case-init c = copying_starts c.args.branches.now c.new-copy.result c.args.cases.now c.requires.listed
    c.new-copy.ensures.branches c.new-copy.ensures.tickets

some_kept : (o : Option LiveBranch) (b : Bool) → is_some o ≡ not b → b ≡ false → o ≡ None → ⊥
some_kept o b some is none =
    absurd (let f : false ≡ true = ap is_some (sym none) ∙ some ∙ ap not is in cc)

pub loop-case-preserved : goal.loop-case-preserved
loop-case-preserved c =
    let t = c.args.branches.now in
    elim c.if-is_none.branch [
      | then-is_none+in-Some+in_ok-restore w ↦
          subst (IsCopying t (drop (c.loop-case.case-index + 1) c.args.cases.now)) (sym w.copy-is)
          (copies_one t c.args.cases.now c.loop-case.case-index _ c.loop-case.copy w.restore.new.self
          w.in-Some.branch
          c.loop-case-test.true c.loop-case.invariant (sym w.in-Some.ensures) w.in_ok-restore.ensures.ok)
      | then-is_none+in_default w ↦
          subst (IsCopying t (drop (c.loop-case.case-index + 1) c.args.cases.now)) (sym w.copy-is)
          (passes_one t c.args.cases.now c.loop-case.case-index _ c.loop-case.copy
          c.loop-case-test.true c.loop-case.invariant (λ none. sym w.in_default.ensures))
      | else-is_none w ↦
          subst (IsCopying t (drop (c.loop-case.case-index + 1) c.args.cases.now)) (sym w.copy-is)
          (passes_one t c.args.cases.now c.loop-case.case-index _ c.loop-case.copy
          c.loop-case-test.true c.loop-case.invariant
          (λ none. absurd (some_kept c.kept_of.result c.is_none.result c.is_none.ensures w.if-is_none.false
          (c.kept_of.ensures ∙ none))))
    ]

pub returns-clause-branches : goal.returns-clause-branches
returns-clause-branches c = copying_ends c.args.branches.now c.loop-case.copy
    (subst (λ ks. IsCopying c.args.branches.now ks c.loop-case.copy)
    (drop_all c.loop-case.case-index c.args.cases.now (omega (arith, c.loop-case-test.false)))
    c.loop-case.invariant)
