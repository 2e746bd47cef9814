use Rattle.std.proofs.Common.{Some, sym, ap, ◌∙◌, arith, length, refl}
use Rattle.std.proofs.lemmas.List.{take_at}
use Rattle.spellings.proofs.HexText.{length-spelled}
use Rattle.log_script.proofs.Digits.{none_empty, none_strange, some_bytes, half}
use Rattle.log_script.proofs.line.decoded.Goals as goal

pub returns-then-is_empty : goal.returns-then-is_empty
returns-then-is_empty c = none_empty c.args.digits.now (sym c.if-is_empty.ensures)

pub returns-then-not-is_hexadecimal : goal.returns-then-not-is_hexadecimal
returns-then-not-is_hexadecimal c = none_strange c.args.digits.now
    (λ h. absurd (let t = c.if-not-is_hexadecimal.ensures.1 h in cc))

pub decode-requires-clause-room : goal.decode-requires-clause-room
decode-requires-clause-room c =
    omega (
      arith,
      half c.args.digits.now (c.if-not-is_hexadecimal.ensures.0 refl),
      c.deref_mut.ensures.len,
      c.in_ok-bytes.ensures.len,
      ap length c.deref_mut.ensures.value,
    )

pub returns : goal.returns
returns c =
    let digits = half c.args.digits.now (c.if-not-is_hexadecimal.ensures.0 refl) in
    let bytes = length-spelled c.args.digits.now c.decode.new.bytes c.decode.ensures in
    ap (λ bs. Some bs) (c.from_vec.ensures ∙ take_at c.decode.new.bytes _ c.in_ok-bytes.bytes.len
    (omega (arith, digits, bytes, c.in_ok-bytes.ensures.len)))
    ∙ some_bytes c.args.digits.now c.decode.new.bytes (sym c.if-is_empty.ensures) c.decode.ensures
