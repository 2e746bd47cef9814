-- Receivers by their names.
use Rattle.std.proofs.Common.{◌≡◌, ◌≢◌, ◌∙◌, sym, refl, ℕ, zero, suc, ◌<◌, Bool, true, false, position, All, Some, List, [], ◌∷◌, length, get_or, arith}
use Rattle.std.specs.List.{list_any}
use Rattle.std.specs.Prelude.{◌||◌, HoldsAt, slice_get}
use Rattle.std.proofs.lemmas.List.Elements.{All-cons, All-nil}
use Rattle.std.proofs.lemmas.List.Quantifiers.{position-Some}
use Rattle.std.proofs.lemmas.Option.{slice_get-get_or}
use Rattle.protocol.specs.declared.names.ProcessId.{ProcessId}
use Rattle.protocol.specs.contracts.names.ProcessIdPartialEq.TheImpl as processes
use Rattle.cluster_journal.specs.declared.queues.Receiver.{Receiver}
use Rattle.cluster_journal.specs.Marks.{processes_of}
use Rattle.cluster_journal.proofs.Counts.{is_itself, is_the_one, process_equality}

-- no receiver is a process that is not among the names
pub absent : (rs : List Receiver) (to : ProcessId)
    → list_any (processes.ghosts.eq to) (processes_of rs) ≡ false
    → All (λ r. r.process ≢ to) rs
absent [] to h = All-nil (λ r. r.process ≢ to)
absent (r ∷ rs) to h = by (processes.ghosts.eq to r.process) refl h (λ so. absent rs to so)
  where
    by : (b : Bool) → processes.ghosts.eq to r.process ≡ b
        → b || list_any (processes.ghosts.eq to) (processes_of rs) ≡ false
        → (list_any (processes.ghosts.eq to) (processes_of rs) ≡ false → All (λ x. x.process ≢ to) rs)
        → All (λ x. x.process ≢ to) (r ∷ rs)
    by true is so rest = absurd (cc)
    by false is so rest =
        All-cons (λ x. x.process ≢ to) r rs (λ one.
        let mine = is_itself to r.process (sym one) in
        let it = process_equality to r.process in
        absurd (cc)) (rest so)

-- the receiver at the place of a name
pub named_at : (rs : List Receiver) (at : ℕ) (p to : ProcessId) → slice_get (processes_of rs) at ≡ Some p
    → processes.ghosts.eq to p ≡ true → (at < length rs) × HoldsAt (λ r. r.process ≡ to) rs at
named_at [] at p to is same = absurd (cc)
named_at (r ∷ rs) zero p to is same =
    (omega arith, λ d. some_is r.process p is ∙ sym (is_the_one to p (sym (process_equality to p) ∙ same)))
  where
    some_is : (a b : ProcessId) → Some a ≡ Some b → a ≡ b
    some_is a b h = cc
named_at (r ∷ rs) (suc at) p to is same =
    let rest = named_at rs at p to is same in
    (let less = rest.0 in omega (arith, less), rest.1)

-- the receiver at which a name was found
pub named_found : (rs : List Receiver) (at : ℕ) (to : ProcessId)
    → position (processes.ghosts.eq to) (processes_of rs) ≡ Some at
    → (at < length rs) × HoldsAt (λ r. r.process ≡ to) rs at
named_found rs at to is =
    let ps = processes_of rs in
    let there = position-Some (processes.ghosts.eq to) ps at to is in
    named_at rs at (get_or ps at to) to (slice_get-get_or ps at to there.0) there.1
