use Rattle.std.proofs.Common.{sym, ap, ◌∙◌, arith, refl, length}
use Rattle.tree_script.specs.Rules.{pieces, around_rule}
use Rattle.script_words.proofs.Texts.{long}
use Rattle.tree_script.proofs.Rest.{no_tree, lines_fit}
use Rattle.tree_script.proofs.front.read_front.Goals as goal

pub returns-in-Err-TreeText-clause-err : goal.returns-in-Err-TreeText-clause-err
returns-in-Err-TreeText-clause-err c =
    let h = c.in-Some.ensures in
    let text = c.in-Ok.ensures.cases in (
      text.1,
      no_tree c.args.bytes.now c.in-Some.document.now h.0 h.1
          (ap (λ t. around_rule (pieces t)) (sym text.0) ∙ h.2) h.3
          (c.in-Err-TreeText.ensures.none c.in-Err-TreeText.field-0-is),
    )

pub overflow_add-result : goal.overflow_add-result
overflow_add-result c =
    let h = c.in-Some.ensures in
    let text = c.in-Ok.ensures.cases in
    let f = lines_fit c.in-Some.document.now c.in-Ok.text.now c.in-Some.behind.now h.0 _ h.3 h.6 refl in
    record { fits = omega (arith, h.4, f, ap length text.0) }

pub returns-clause-few : goal.returns-clause-few
returns-clause-few c =
    let h = c.in-Some.ensures in
    let text = c.in-Ok.ensures.cases in
    let m = sym (long c.in_ok-lines.lines.items) ∙ ap length c.in_ok-lines.ensures in
    let f = lines_fit c.in-Some.document.now c.in-Ok.text.now c.in-Some.behind.now h.0 _ h.3 h.6 m in
    omega (arith, h.4, f, ap length text.0)
