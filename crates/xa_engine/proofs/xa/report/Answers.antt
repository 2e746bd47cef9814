use Rattle.std.proofs.Common.{◌≡◌, ◌∙◌, ℕ, List, ap, subst}
use Rattle.script_words.proofs.Texts.{texts}
use Rattle.xa_engine.specs.declared.script.reading.XaScriptError.TheVariants.{Line}
use Rattle.xa_engine.specs.script.Scripts.{IsFirstBadLine}
use Rattle.xa_engine.proofs.script.Lines.{bad_of, lines_of}
use Rattle.xa_engine.proofs.xa.report.Goals as goal

pub returns : goal.returns
returns c =
    let has = lines_of c.args.input.now (λ v. texts v.items) c.in_ok-lines.field-0 c.in-Ok.lines c.in-Ok.is
    c.in_ok-lines.ensures in
    let bad = bad_of (texts c.deref.result.now) _ c.in_ok-text.field-0 c.in-Err-2.number c.in-Err-2.is
    c.in_ok-text.ensures in (
      Line c.in-Err-2.number,
      (
        has.text,
        has.short,
        subst (λ (ls : List (List ℕ)). IsFirstBadLine ls c.in-Err-2.number)
            (ap texts c.deref.ensures.value ∙ has.whole) bad,
      ),
      c.in_ok-refusal-in-Err-2.ensures,
    )
