use Rattle.std.proofs.Common.{rules}
use Rattle.std.proofs.lemmas.Fmt.{length-decimal-le}
use Rattle.trace_lines.proofs.names.write_number.Goals as goal

pub write_digits-requires : goal.write_digits-requires
write_digits-requires c = search (rules, length-decimal-le 20)

pub returns-clause-begin : goal.returns-clause-begin
returns-clause-begin c = search (rules, length-decimal-le 20)
