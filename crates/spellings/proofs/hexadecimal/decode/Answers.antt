use Rattle.std.proofs.Common.{refl}
use Rattle.spellings.proofs.HexText.{decodes}
use Rattle.spellings.proofs.hexadecimal.decode.Goals as goal

pub unwrap-requires : goal.unwrap-requires
unwrap-requires c =
    let p = rw (decodes c.args.text.now c.requires.spelled.0 _ c.requires.spelled.1 c.requires.room) at
    c.decode_to_slice.ensures.value in
    rw p.0 refl

pub returns : goal.returns
returns c =
    let p = rw (decodes c.args.text.now c.requires.spelled.0 _ c.requires.spelled.1 c.requires.room) at
    c.decode_to_slice.ensures.value in
    rw p.1 c.requires.spelled.1
