use Rattle.std.proofs.Common.{◌≡◌, ◌∙◌, ℕ, List, Bor, ap, sym, subst, drop, take, arith}
use Rattle.std.proofs.lemmas.List.{drop-map, take-map}
use Rattle.script_words.specs.Lines.{asked_in}
use Rattle.script_words.proofs.Texts.{texts}
use Rattle.reopen_script.specs.Ahead.{IsNumbered, ahead_in, behind_in, leading, logs_said}
use Rattle.reopen_script.proofs.Reading.{wrong_ahead}
use Rattle.reopen_script.proofs.script.open_reopen.Goals as goal

pub returns-in-Err-logs_said-clause-err : goal.returns-in-Err-logs_said-clause-err
returns-in-Err-logs_said-clause-err c =
    let front = c.in-Ok.front in
    let xs = front.lines.items in
    let count = c.leading-count.result in
    let same : count ≡ leading (texts xs) =
    c.leading-count.ensures.count ∙ ap (λ (ls : List (Bor (List ℕ))). leading (texts ls))
    c.deref.ensures.value in
    let ahead : texts c.split_at.result.0.now ≡ ahead_in (texts xs) =
    ap texts (c.split_at.ensures.front ∙ ap (take count) c.deref-2.ensures.value)
    ∙ sym (take-map (λ (s : Bor (List ℕ)). s.now) count xs) ∙ ap (λ (k : ℕ). take k (texts xs)) same in
    let behind : texts c.split_at.result.1.now ≡ behind_in (texts xs) =
    ap texts (c.split_at.ensures.back ∙ ap (drop count) c.deref-2.ensures.value)
    ∙ sym (drop-map (λ (s : Bor (List ℕ)). s.now) count xs) ∙ ap (λ (k : ℕ). drop k (texts xs)) same in
    let asked = c.count_asked.ensures ∙ ap asked_in behind in
    wrong_ahead c.args.bytes.now front.tree front.rule (texts xs) c.in-Err-logs_said.error
    (record { front = c.in-Ok.ensures.ok; few = omega (arith, asked, c.if-count_asked-gt-MOST_EVENTS.false) })
    (subst (λ (ls : List (List ℕ)). IsNumbered c.in-Err-logs_said.error
    (logs_said front.tree front.rule (ahead_in (texts xs)) ls)) behind
    (subst (λ (ls : List (List ℕ)). IsNumbered c.in-Err-logs_said.error
    (logs_said front.tree front.rule ls (texts c.split_at.result.1.now))) ahead
    c.in-Err-logs_said.ensures.err))
