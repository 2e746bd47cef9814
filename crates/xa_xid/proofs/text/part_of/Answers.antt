use Rattle.std.proofs.Common.{refl}
use Rattle.spellings.proofs.HexText.{room}
use Rattle.xa_xid.proofs.text.part_of.Goals as goal

pub decode-requires-clause-room : goal.decode-requires-clause-room
decode-requires-clause-room c = room c.args.text.now _ c.requires.spelled c.requires.size refl
