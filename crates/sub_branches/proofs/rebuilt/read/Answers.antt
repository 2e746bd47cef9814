use Rattle.std.proofs.Common.{◌≡◌, ◌∙◌, ◌+◌, ◌∷◌, [], ◌++◌, List, append_assoc, take, drop, ap, sym, subst, arith}
use Rattle.std.proofs.lemmas.List.{take-append-drop, take_all, take_more}
use Rattle.protocol.specs.declared.records.LogRecord.{LogRecord}
use Rattle.protocol.specs.Views.{leaf_place}
use Rattle.sub_branches.specs.Rebuilt.{AreFit, CanCome, IsRefusal, RecordsLeave}
use Rattle.sub_branches.proofs.Fitting.{can_come, passed_on, refuses_more}
use Rattle.sub_branches.proofs.Remembering.{reading_begins, reading_goes_on}
use Rattle.sub_branches.proofs.rebuilt.read.Goals as goal

pub loop-next-init : goal.loop-next-init
loop-next-init c = reading_begins (leaf_place c.args.me c.args.parent c.args.tree.now)
    c.args.parent c.args.cases

pub loop-next-preserved : goal.loop-next-preserved
loop-next-preserved c =
    let done = take c.loop-next.next-index c.args.records.now in
    let more = take_more c.args.records.now c.loop-next.next-index c.next-item.result c.loop-next-test.true in
    reading_goes_on c.args.me c.args.parent c.args.tree.now c.args.cases c.loop-next.cases
    c.take.new.self done
    (take (c.loop-next.next-index + 1) c.args.records.now) c.next-item.result c.loop-next.invariant
    c.in_ok-take.ensures.ok (ap (λ l. done ++ l ∷ []) c.next-item.is ∙ sym more)

pub returns-in_err-take-clause-err : goal.returns-in_err-take-clause-err
returns-in_err-take-clause-err c =
    let place = leaf_place c.args.me c.args.parent c.args.tree.now in
    let rs = c.args.records.now in
    let i = c.loop-next.next-index in
    let more = take_more rs i c.next-item.result c.loop-next-test.true in
    let split : take i rs ++ c.next-item.result ∷ drop (i + 1) rs ≡ rs =
    sym (append_assoc (take i rs) (c.next-item.result ∷ []) (drop (i + 1) rs))
    ∙ ap (λ ls. ls ++ drop (i + 1) rs) (ap (λ l. take i rs ++ l ∷ []) c.next-item.is ∙ sym more)
    ∙ take-append-drop (i + 1) rs in
    passed_on c.from_residual.result c.in_err-take.field-0.0
    (λ e. (ls : List LogRecord) → RecordsLeave place c.args.parent ls c.args.cases
    → IsRefusal (AreFit place (ls ++ rs)) e)
    c.from_residual.ensures.1
    (λ ls left. refuses_more (AreFit place (ls ++ rs)) (CanCome place c.loop-next.cases c.next-item.result)
    (λ fit. can_come c.args.me c.args.parent c.args.tree.now (ls ++ take i rs) (drop (i + 1) rs)
    c.loop-next.cases
    (c.loop-next.invariant.leaves ls left) c.next-item.result
    (subst (AreFit place) (sym (append_assoc ls (take i rs) (c.next-item.result ∷ drop (i + 1) rs)
    ∙ ap (λ ks. ls ++ ks) split)) fit))
    c.in_err-take.field-0.0 c.in_err-take.ensures.err)

pub returns-clause-ok : goal.returns-clause-ok
returns-clause-ok c = λ ls left.
    let rs = c.args.records.now in
    subst (λ ks. RecordsLeave (leaf_place c.args.me c.args.parent c.args.tree.now) c.args.parent (ls ++ ks)
    c.loop-next.cases)
    (take_all c.loop-next.next-index rs (omega (arith, c.loop-next-test.false)))
    (c.loop-next.invariant.leaves ls left)
