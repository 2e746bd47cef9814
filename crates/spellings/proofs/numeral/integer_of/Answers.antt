use Rattle.std.proofs.Common.{suc, sym, ◌∙◌, arith, lit<}
use Rattle.std.proofs.lemmas.Bool.{ltb-true}
use Rattle.std.proofs.lemmas.Str.Pattern.{strip_prefix_char}
use Rattle.spellings.proofs.Numerals.{positive_only, negative_only, minus_first, one_number}
use Rattle.spellings.proofs.numeral.integer_of.Goals as goal
use Rattle.spellings.proofs.numeral.integer_of.Goals.{then-number-eq0, else-number-eq0}

pub returns-in_err-number-in-None-clause-none : goal.returns-in_err-number-in-None-clause-none
returns-in_err-number-in-None-clause-none c =
    rw c.from_residual.ensures (λ z fits is.
    let h = positive_only c.args.word.now c.strip_prefix.result c.in-None.is
    (strip_prefix_char 45 c.args.word.now _ c.strip_prefix.ensures.cases (lit< tt)) z fits is in
    c.in_err-number-in-None.ensures.none h.0 (omega (arith, h.1)) h.2)

pub returns-else-number-clause-none : goal.returns-else-number-clause-none
returns-else-number-clause-none c = λ z fits is.
    let h = positive_only c.args.word.now c.strip_prefix.result c.in-None.is
    (strip_prefix_char 45 c.args.word.now _ c.strip_prefix.ensures.cases (lit< tt)) z fits is in
    let same = one_number c.args.word.now c.in_ok-number-in-None.number h.0
    c.in_ok-number-in-None.ensures.value (omega (arith, h.1)) h.2 in
    omega (arith, h.1, same)

pub returns-in_err-number-in-Some-clause-none : goal.returns-in_err-number-in-Some-clause-none
returns-in_err-number-in-Some-clause-none c =
    rw c.from_residual-in_err-number-in-Some.ensures (λ z fits is.
    let first = minus_first c.args.word.now c.strip_prefix.result c.in-Some.digits c.in-Some.is
    (strip_prefix_char 45 c.args.word.now _ c.strip_prefix.ensures.cases (lit< tt)) in
    let h = negative_only c.args.word.now c.in-Some.digits.now first z fits is in
    c.in_err-number-in-Some.ensures.none (suc h.0) (omega (arith, h.1)) h.2)

pub returns-then-number-2-clause-none : goal.returns-then-number-2-clause-none
returns-then-number-2-clause-none c = λ z fits is.
    let first = minus_first c.args.word.now c.strip_prefix.result c.in-Some.digits c.in-Some.is
    (strip_prefix_char 45 c.args.word.now _ c.strip_prefix.ensures.cases (lit< tt)) in
    let h = negative_only c.args.word.now c.in-Some.digits.now first z fits is in
    let same = one_number c.in-Some.digits.now c.in_ok-number-in-Some.number (suc h.0)
    c.in_ok-number-in-Some.ensures.value (omega (arith, h.1)) h.2 in
    elim c.if-number-eq0.branch [
      | then-number-eq0 w ↦ omega (arith, h.1, same, w.if-number-eq0.true)
      | else-number-eq0 w ↦ omega (
        arith,
        h.1,
        same,
        ltb-true 2147483648 _ (sym w.value-is
            ∙ c.if-number-2.true),
      )
    ]
