use Rattle.log_text.proofs.Owned.{opened_is}
use Rattle.log_text.proofs.form.LogForm.opened.Goals as goal

pub returns : goal.returns
returns c =
    opened_is c.args.self c.args.boot c.to_be_bytes.result c.owner.result c.requires c.to_be_bytes.ensures
    c.owner.ensures
