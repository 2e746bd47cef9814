-- The marks of messages.
use Rattle.std.proofs.Common.{◌≡◌, ◌∙◌, ap, sym, refl, zero, ◌-◌, ◌≤◌, Bool, false, List, [], ◌∷◌, ◌++◌, length, replicate, arith}
use Rattle.std.proofs.lemmas.List.{append-nil, length-append}
use Rattle.protocol.specs.declared.messages.Envelope.{Envelope}
use Rattle.tree_state.specs.Worlds.{undelivered}
use Rattle.tree_journal.specs.Kept.{StepsState}
use Rattle.tree_journal.specs.Journals.{unmarked}

-- a mark for each message
all_undelivered : (ls : List Envelope) → undelivered ls ≡ replicate (length ls) false
all_undelivered [] = refl
all_undelivered (l ∷ ls) = ap (λ (bs : List Bool). false ∷ bs) (all_undelivered ls)

-- where each message has its own mark, those of further ones come after
marked_behind : (sent waiting more : List Envelope) (bs : List Bool) → length bs ≤ length sent
    → length bs ≡ length (sent ++ waiting)
    → bs ++ unmarked (sent ++ more) bs ≡ (bs ++ unmarked (sent ++ waiting) bs) ++ undelivered more
marked_behind sent waiting more bs few all =
    let count : length (sent ++ more) - length bs ≡ length more =
    omega (arith, few, all, length-append sent waiting, length-append sent more) in
    let none : length (sent ++ waiting) - length bs ≡ zero = omega (arith, all) in
    let own : bs ++ unmarked (sent ++ waiting) bs ≡ bs =
    ap (λ n. bs ++ replicate n false) none ∙ append-nil bs in
    ap (λ n. bs ++ replicate n false) count ∙ ap (λ cs. bs ++ cs) (sym (all_undelivered more))
    ∙ ap (λ ds. ds ++ undelivered more) (sym own)

-- likewise, where a step was entered: its messages are those that wait
pub marked_entered : (old new : StepsState) (more : List Envelope) (bs : List Bool) → new.sent ≡ old.sent
    → new.waiting ≡ more → length bs ≤ length old.sent → length bs ≡ length (old.sent ++ old.waiting)
    → bs ++ unmarked (new.sent ++ new.waiting) bs
    ≡ (bs ++ unmarked (old.sent ++ old.waiting) bs) ++ undelivered more
marked_entered old new more bs sent waiting few all =
    ap (λ ls. bs ++ unmarked (ls ++ new.waiting) bs) sent
    ∙ ap (λ ls. bs ++ unmarked (old.sent ++ ls) bs) waiting
    ∙ marked_behind old.sent old.waiting more bs few all
