use Rattle.std.proofs.Common.{◌≡◌, ◌∙◌, ◌++◌, ◌∷◌, [], ap, sym, arith, append_assoc, refl}
use Rattle.std.specs.Prelude.{codes}
use Rattle.std.specs.List.{flat_map}
use Rattle.script_words.specs.Lines.{is_skipped}
use Rattle.script_words.proofs.Texts.{texts, text_at, long}
use Rattle.xa_engine.specs.Answers.{answer_text}
use Rattle.xa_engine.proofs.Runs.{leads_more, text_more}
use Rattle.xa_engine.proofs.script.Lines.{skips, goes_on, ends, spelled, unspelled}
use Rattle.xa_engine.proofs.xa.run.Goals as goal

pub loop-i-init : goal.loop-i-init
loop-i-init c = ([], [], tt, (refl, c.is_sound.ensures), c.new-out.ensures.items)

pub loop-i-preserved-then-says_nothing : goal.loop-i-preserved-then-says_nothing
loop-i-preserved-then-says_nothing c =
    let inv = c.loop-i.invariant in (
      inv.0,
      inv.1,
      skips (texts c.args.lines.now) c.loop-i.i inv.0 (omega (arith, long c.args.lines.now))
          (ap is_skipped (text_at c.args.lines.now c.loop-i.i) ∙ sym c.if-says_nothing.ensures) inv.2,
      inv.3,
      inv.4,
    )

pub loop-i-preserved : goal.loop-i-preserved
loop-i-preserved c =
    let inv = c.loop-i.invariant in
    let made = c.in_ok-step-in-Some.ensures in (
      inv.0 ++ c.in-Some.request ∷ [],
      inv.1 ++ made.answer ∷ [],
      goes_on (texts c.args.lines.now) c.loop-i.i inv.0 c.in-Some.request
          (omega (arith, long c.args.lines.now))
          (ap is_skipped (text_at c.args.lines.now c.loop-i.i) ∙ sym c.if-says_nothing.ensures)
          (spelled c.args.lines.now c.loop-i.i _ c.in-Some.request c.in-Some.is
          c.in_ok-request.ensures.found) inv.2,
      leads_more c.args.manager.now c.loop-i.manager c.step.new.manager inv.0 c.in-Some.request inv.1
          made.answer inv.3 made.makes made.sound,
      made.line ∙ ap (λ t. t ++ answer_text made.answer) inv.4 ∙ sym (text_more inv.1 made.answer),
    )

pub returns-in-None : goal.returns-in-None
returns-in-None c =
    let inv = c.loop-i.invariant in record {
      index = c.loop-i.i;
      counted = refl;
      within = omega (arith, long c.args.lines.now);
      front = inv.0;
      before = inv.2;
      kept = ap is_skipped (text_at c.args.lines.now c.loop-i.i) ∙ sym c.if-says_nothing.ensures;
      bad = unspelled c.args.lines.now c.loop-i.i _ c.in-None.is c.in_ok-request.ensures.none;
    }

pub returns : goal.returns
returns c =
    let inv = c.loop-i.invariant in (
      inv.0,
      ends (texts c.args.lines.now) c.loop-i.i inv.0
          (omega (arith, long c.args.lines.now, c.loop-i-test.false)) inv.2,
      record {
        answers = inv.1;
        leads = inv.3;
        lines = c.in_ok-push.ensures ∙ ap (λ t. t ++ (codes "end" ++ 10 ∷ [])) inv.4
            ∙ sym (append_assoc (flat_map answer_text inv.1) (codes "end") (10 ∷ []));
      },
    )
