use Rattle.std.proofs.Common.{◌∙◌, sym}
use Rattle.log_text.proofs.MarkReading.{fault_mark, front_mark, unnamed_mark}
use Rattle.log_text.proofs.mark.TrimMark.in_frame.Goals as goal

pub returns-in-Some : goal.returns-in-Some
returns-in-Some c = λ f l e. unnamed_mark f c.args.kind c.args.payload.now _ l
    (sym c.nameless.ensures ∙ c.in-Some.is) e

pub returns-in-Ok : goal.returns-in-Ok
returns-in-Ok c = λ f l e.
    let ok = c.in-Ok.ensures.ok in
    front_mark f c.args.kind c.args.payload.now _ _ _ _ l
    (sym c.nameless.ensures ∙ c.in_default.is) ok.0 ok.1 ok.2
    c.split_at.ensures.back c.deed_in.ensures e

pub returns-in-Err : goal.returns-in-Err
returns-in-Err c = λ f l e. fault_mark f c.args.kind c.args.payload.now _ _ l
    (sym c.nameless.ensures ∙ c.in_default.is) c.in-Err.ensures.err e
