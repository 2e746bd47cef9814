use Rattle.std.proofs.Common.{◌≡◌, ◌∙◌, sym, ap, subst, true, arith}
use Rattle.std.proofs.lemmas.Grind.{common_steps}
use Rattle.protocol.specs.Records.{same_bytes}
use Rattle.log_text.specs.Forms.{header}
use Rattle.log_records.specs.Openings.{EndsTorn}
use Rattle.log_records.proofs.Settling.{found_sound}
use Rattle.log_records.proofs.opening.find.Goals as goal

pub returns-clause-ok : goal.returns-clause-ok
returns-clause-ok c =
    let t : same_bytes c.split_at.result.0.now (header c.args.form.format) ≡ true =
    grind (arith, common_steps, c.if-not-is_same.false, c.is_same-2.ensures) in
    found_sound c.args.form c.args.bytes.now c.in_ok-torn.torn (omega arith)
    (ap (λ h. same_bytes h (header c.args.form.format)) (sym c.split_at.ensures.front) ∙ t)
    (subst (λ xs. EndsTorn c.args.form xs c.in_ok-torn.torn) c.split_at.ensures.back c.in_ok-torn.ensures.ok)
