use Rattle.std.proofs.Common.{◌∙◌, ◌++◌, ap, sym}
use Rattle.log_script.specs.Places.{placed_in}
use Rattle.log_lines.specs.Held.{records_text}
use Rattle.log_lines.proofs.Holding.{held_empty, held_sound, joined}
use Rattle.log_lines.proofs.held.push_held.Goals as goal

pub returns-in-Empty : goal.returns-in-Empty
returns-in-Empty c =
    c.in_ok-push_heading.ensures
    ∙ ap (λ t. c.args.out.now.items ++ t) (sym
    (held_empty c.args.form c.args.bytes.now c.args.found c.requires
    c.in-Empty.is))

pub returns-in_ok-push_torn-in-Sound : goal.returns-in_ok-push_torn-in-Sound
returns-in_ok-push_torn-in-Sound c =
    joined c.args.out.now.items _ _ _ c.push_heading.new.out.items c.push_records.new.out.items
    c.push_torn.new.out.items c.in_ok-push_heading.ensures
    (c.in_ok-push_records-in-Sound.ensures ∙ ap
    (λ t. c.push_heading.new.out.items ++ records_text (placed_in c.args.form 5 0 t))
    c.split_at.ensures.back)
    c.in_ok-push_torn-in-Sound.ensures
    ∙ ap (λ t. c.args.out.now.items ++ t) (sym
    (held_sound c.args.form c.args.bytes.now c.args.found c.in-Sound.torn
    c.requires c.in-Sound.is))
