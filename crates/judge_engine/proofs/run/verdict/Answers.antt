use Rattle.std.proofs.Common.{◌≡◌, ◌∙◌, ◌<◌, ℕ, List, ap, length, rules, subst}
use Rattle.std.specs.Str.Lines.{lines}
use Rattle.script_words.proofs.Texts.{texts}
use Rattle.judge_engine.specs.declared.judging.JudgeFault.{JudgeFault}
use Rattle.judge_engine.specs.declared.run.Refusal.TheVariants as why
use Rattle.judge_engine.specs.Reports.{IsFaultsText}
use Rattle.judge_engine.proofs.Texts.{first_found, none_found, refusal_reports}
use Rattle.judge_engine.proofs.run.verdict.Goals as goal

pub returns-in-Err-TooMany : goal.returns-in-Err-TooMany
returns-in-Err-TooMany c = refusal_reports c.refused.result c.args.extent why.TooMany c.args.text.now
    c.refused.ensures.text c.refused.ensures.ending (
      c.requires.text,
      (c.args.transcript.now, c.requires.read, c.in-Err-TooMany.ensures.too_many c.in-Err-TooMany.field-0-is),
    )

pub returns-then-is_empty : goal.returns-then-is_empty
returns-then-is_empty c =
    let t = c.args.transcript.now in
    let none : length c.in-Ok.found.items ≡ 0 = search rules in (
      c.requires.text,
      (
        t,
        c.requires.read,
        record {
          legal = none_found t.rules t.events.items c.in-Ok.found.items none c.in-Ok.ensures.verdict;
          few = c.in-Ok.ensures.few;
          report = c.in_ok-conforms-in-Ok.ensures;
        },
      ),
    )

pub returns : goal.returns
returns c =
    let t = c.args.transcript.now in
    let found = c.in-Ok.found.items in
    let some : 0 < length found = search rules in
    let first = first_found t.rules t.events.items found some c.in-Ok.ensures.verdict in (
      c.requires.text,
      (
        t,
        c.requires.read,
        record {
          faults = found;
          index = first.0;
          first = first.1;
          fault = first.2;
          told = c.in-Ok.ensures.told;
          few = c.in-Ok.ensures.few;
          report = subst (λ (fs : List JudgeFault). IsFaultsText c.args.extent (lines c.args.text.now) t fs
              c.in_ok-out-in-Ok.out.items)
              c.deref-else-is_empty.ensures.value
              (subst (λ (ls : List (List ℕ)). IsFaultsText c.args.extent ls t c.deref-else-is_empty.result.now
              c.in_ok-out-in-Ok.out.items) (ap texts c.deref.ensures.value ∙ c.in_ok-lines.ensures)
              c.in_ok-out-in-Ok.ensures);
        },
      ),
    )
