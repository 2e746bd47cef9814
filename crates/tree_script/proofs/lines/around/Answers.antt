use Rattle.std.proofs.Common.{sym, ◌∙◌, arith, refl, []}
use Rattle.tree_script.proofs.Rest.{fewer_lines, document_range, goes_on, found, last_found, last_none, one_longer, text_behind}
use Rattle.tree_script.proofs.lines.around.Goals as goal

pub returns-then-is_rule : goal.returns-then-is_rule
returns-then-is_rule c =
    let h = c.loop-line.invariant in
    let f = found c.args.text.now c.loop-line.rest.now c.in-Some.line.now c.in-Some.more.now h.0 h.1
    (sym c.in-Some.ensures) (sym c.if-is_rule.ensures) h.3 in
    let d = c.range.ensures.value ∙ document_range c.args.text.now c.loop-line.rest.now h.0 h.1 in
    (h.0, _, f.0, d, h.2, refl, rw d f.1)

pub overflow_add-number : goal.overflow_add-number
overflow_add-number c =
    let h = c.loop-line.invariant in
    let f = fewer_lines c.args.text.now c.loop-line.rest.now c.in-Some.line.now c.in-Some.more.now h.0 h.1
    (sym c.in-Some.ensures) in
    record { fits = omega (arith, h.2, f) }

pub loop-line-preserved : goal.loop-line-preserved
loop-line-preserved c =
    let h = c.loop-line.invariant in
    let g = goes_on c.args.text.now c.loop-line.rest.now c.in-Some.line.now c.in-Some.more.now h.0 h.1
    (sym c.in-Some.ensures) (sym c.if-is_rule.ensures) h.3 in (
      _,
      g.0,
      rw h.2 (one_longer h.0 c.in-Some.line.now),
      g.1,
      text_behind c.loop-line.rest.now c.in-Some.line.now c.in-Some.more.now h.4 (sym c.in-Some.ensures),
    )

pub returns-then-eq : goal.returns-then-eq
returns-then-eq c =
    let h = c.loop-line.invariant in
    let f = last_found c.args.text.now c.loop-line.rest.now h.0 h.1 (sym c.in_default.ensures) h.3
    (sym c.eq.ensures ∙ c.if-eq.true) in
    let d = c.range-then-eq.ensures.value ∙ document_range c.args.text.now c.loop-line.rest.now h.0 h.1 in
    (h.0, [], f.0, d, h.2, refl, rw d f.1)

pub returns-else-eq : goal.returns-else-eq
returns-else-eq c =
    let h = c.loop-line.invariant in
    last_none c.args.text.now c.loop-line.rest.now h.0 (sym c.in_default.ensures) h.3
    (sym c.eq.ensures ∙ c.if-eq.false)
