use Rattle.log_text.proofs.NameReading.{name_of_front, no_name}
use Rattle.log_text.proofs.names.name_at.Goals as goal

pub returns-in-Ok : goal.returns-in-Ok
returns-in-Ok c =
    let ok = c.in-Ok.ensures.ok in
    name_of_front _ _ _ _ c.args.bytes.now ok.0 ok.1 ok.2 c.name_in.ensures c.split_at.ensures.back

pub returns-in-Err : goal.returns-in-Err
returns-in-Err c = no_name c.args.bytes.now _ c.in-Err.ensures.err
