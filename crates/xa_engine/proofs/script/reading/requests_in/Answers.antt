use Rattle.std.proofs.Common.{sym, ap, ◌∙◌, arith, refl}
use Rattle.script_words.specs.Lines.{is_skipped}
use Rattle.script_words.proofs.Texts.{texts, text_at, long}
use Rattle.xa_engine.proofs.script.Lines.{skips, goes_on, ends, spelled, unspelled}
use Rattle.xa_engine.proofs.script.reading.requests_in.Goals as goal

pub loop-i-preserved-then-says_nothing : goal.loop-i-preserved-then-says_nothing
loop-i-preserved-then-says_nothing c =
    skips (texts c.args.lines.now) c.loop-i.i _ (omega (arith, long c.args.lines.now))
    (ap is_skipped (text_at c.args.lines.now c.loop-i.i) ∙ sym c.if-says_nothing.ensures) c.loop-i.invariant

pub loop-i-preserved : goal.loop-i-preserved
loop-i-preserved c =
    rw c.in_ok-push-in-Some.ensures.items
    (goes_on (texts c.args.lines.now) c.loop-i.i _ c.in-Some.request (omega (arith, long c.args.lines.now))
    (ap is_skipped (text_at c.args.lines.now c.loop-i.i) ∙ sym c.if-says_nothing.ensures)
    (spelled c.args.lines.now c.loop-i.i _ c.in-Some.request c.in-Some.is
    c.in_ok-request.ensures.found) c.loop-i.invariant)

pub returns-in-None : goal.returns-in-None
returns-in-None c = record {
  index = c.loop-i.i;
  counted = refl;
  within = omega (arith, long c.args.lines.now);
  front = _;
  before = c.loop-i.invariant;
  kept = ap is_skipped (text_at c.args.lines.now c.loop-i.i) ∙ sym c.if-says_nothing.ensures;
  bad = unspelled c.args.lines.now c.loop-i.i _ c.in-None.is c.in_ok-request.ensures.none;
}

pub returns : goal.returns
returns c =
    ends (texts c.args.lines.now) c.loop-i.i _
    (omega (arith, long c.args.lines.now, c.loop-i-test.false)) c.loop-i.invariant
