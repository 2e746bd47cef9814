-- `{:.80}` cuts a text at 80 characters, and fills nothing up.
use Rattle.std.proofs.Common.{◌≡◌, ◌-◌, List, ℕ, arith, append-nil}
use Rattle.std.specs.Fmt.{char_count, format_spec, padded, styled_text, take_chars}
use Rattle.explain_inputs.proofs.refusal.push_line.Goals as goal

cut : (text : List ℕ) → styled_text (format_spec 32 0 0 0 80) text ≡ take_chars 80 text
unfolding padded
cut text =
    let none : (0 - char_count (take_chars 80 text)) - 0 ≡ 0 = omega arith in
    rw none (append-nil (take_chars 80 text))

pub returns : goal.returns
returns c =
    let e : styled_text c.laid_out.result c.args.line.now ≡ take_chars 80 c.args.line.now =
    rw c.laid_out.ensures (cut c.args.line.now) in
    rw e at c.writeln.ensures.bytes
