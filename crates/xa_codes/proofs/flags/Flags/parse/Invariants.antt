use Rattle.std.proofs.Common.{◌≡◌, length, drop}
use Rattle.xa_codes.proofs.Names.{words, read}
use Rattle.xa_codes.proofs.flags.Flags.parse.Given as goal

abbrev pub invariant-loop-name : goal.invariant-loop-name
invariant-loop-name l = read l.flags.0 (drop (length l.yielded) (words l.text)) ≡ read 0 (words l.text)
