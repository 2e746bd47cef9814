use Rattle.std.proofs.Common.{ap, ◌∙◌}
use Rattle.std.proofs.lemmas.Bool.{eqb-true}
use Rattle.std.specs.List.{list_all}
use Rattle.spellings.specs.HexText.{is_lower_digit}
use Rattle.spellings.proofs.HexText.{tells, spelled_even}
use Rattle.spellings.proofs.hexadecimal.is_hexadecimal.Goals as goal

pub returns-then-text-eq0 : goal.returns-then-text-eq0
returns-then-text-eq0 c =
    tells c.args.text.now c.are_lower_digits.result c.if-text-eq0.true (c.are_lower_digits.ensures
    ∙ ap (list_all is_lower_digit) c.as_bytes.ensures.value)

pub returns-else-text-eq0 : goal.returns-else-text-eq0
returns-else-text-eq0 c = (
  λ even. absurd (c.if-text-eq0.false (eqb-true _ _ even)),
  λ h. absurd
      (c.if-text-eq0.false (spelled_even c.args.text.now h)),
)
