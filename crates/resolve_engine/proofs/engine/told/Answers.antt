use Rattle.std.proofs.Common.{◌≡◌, ◌∙◌, ℕ, List, Bor, not, option_map, take, map, filter, arith, ap, sym, subst}
use Rattle.std.proofs.lemmas.List.{take_all}
use Rattle.script_words.proofs.Texts.{texts, text_at, long}
use Rattle.resolve_engine.specs.Reports.{Gives, is_name}
use Rattle.resolve_engine.proofs.Giving.{ended, is_more, is_none, none_given, one_more}
use Rattle.resolve_engine.proofs.engine.told.Goals as goal

pub loop-name-init : goal.loop-name-init
loop-name-init c = λ kept finds.
    rw c.new-out.ensures.items
    (none_given c.args.asked.now.form c.args.asked.now.trust (option_map (λ s. s.now) c.args.asked.now.name)
    c.args.tree.now c.args.finder.now.logs.now kept)

pub loop-name-preserved-then-is_empty : goal.loop-name-preserved-then-is_empty
loop-name-preserved-then-is_empty c = λ kept finds.
    let items = c.deref-name-items.result.now in
    let i = c.loop-name.name-index in
    subst (λ (ls : List (List ℕ)). Gives c.args.asked.now.form c.args.asked.now.trust
    (option_map (λ s. s.now) c.args.asked.now.name) c.args.tree.now c.args.finder.now.logs.now kept ls
    c.loop-name.waiting c.loop-name.out.items)
    (sym (is_none (texts items) i (omega (arith, long items))
    (ap is_name (text_at items i) ∙ ap not (sym c.if-is_empty.ensures))))
    (c.loop-name.invariant kept finds)

pub loop-name-preserved : goal.loop-name-preserved
loop-name-preserved c = λ kept finds.
    let items = c.deref-name-items.result.now in
    let i = c.loop-name.name-index in
    let n = option_map (λ s. s.now) c.args.asked.now.name in
    let named = ap is_name (text_at items i) ∙ ap not (sym c.if-is_empty.ensures) in
    rw (is_more (texts items) i (omega (arith, long items)) named)
    (rw (text_at items i)
    (one_more c.args.asked.now.form c.args.asked.now.trust n c.args.tree.now c.args.finder.now.logs.now kept
    (filter is_name (take i (texts items))) _ c.loop-name.waiting c.in_ok-waiting.field-0
    c.loop-name.out.items
    c.push_name.new.out.items (c.loop-name.invariant kept finds) (c.in_ok-waiting.ensures kept finds)))
