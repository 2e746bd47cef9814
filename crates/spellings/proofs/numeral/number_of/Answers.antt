use Rattle.std.proofs.Common.{sym, ◌≡◌, true}
use Rattle.spellings.specs.Numerals.{is_numeral}
use Rattle.spellings.proofs.Numerals.{number_is, not_numeral, found_of, none_of}
use Rattle.spellings.proofs.numeral.number_of.Goals as goal

pub returns-then-is_spelled-clause-value : goal.returns-then-is_spelled-clause-value
returns-then-is_spelled-clause-value c =
    let numeral : is_numeral c.args.word.now ≡ true = rw (← c.as_bytes.ensures.value)
    (sym c.if-is_spelled.ensures) in
    number_is _ _ _ c.ok.ensures.value c.parse.ensures.value.0 numeral

pub returns-then-is_spelled-clause-found : goal.returns-then-is_spelled-clause-found
returns-then-is_spelled-clause-found c = found_of _ _ (returns-then-is_spelled-clause-value c)

pub returns-then-is_spelled-clause-none : goal.returns-then-is_spelled-clause-none
returns-then-is_spelled-clause-none c = none_of _ _ (returns-then-is_spelled-clause-value c)

pub returns-else-is_spelled-clause-value : goal.returns-else-is_spelled-clause-value
returns-else-is_spelled-clause-value c = sym
    (not_numeral c.args.word.now (rw (← c.as_bytes.ensures.value) (sym c.if-is_spelled.ensures)))

pub returns-else-is_spelled-clause-none : goal.returns-else-is_spelled-clause-none
returns-else-is_spelled-clause-none c = none_of _ _ (returns-else-is_spelled-clause-value c)
