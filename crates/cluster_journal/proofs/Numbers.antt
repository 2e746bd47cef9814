-- Marks by number.
use Rattle.std.proofs.Common.{◌≡◌, ◌∙◌, ap, sym, refl, ℕ, suc, ◌+◌, ◌<◌, true, false, ◌&&◌, Some, List, length, get_or, slice_set, arith}
use Rattle.std.proofs.lemmas.Option.{slice_get-get_or}
use Rattle.protocol.specs.declared.names.ProcessId.{ProcessId}
use Rattle.protocol.specs.Names.{same_process}
use Rattle.cluster_journal.specs.declared.marks.Delivery.{Delivery}
use Rattle.cluster_journal.specs.declared.marks.Delivery.TheVariants.{Open, Claimed, Delivered}
use Rattle.cluster_journal.specs.declared.marks.MarkedMessage.{MarkedMessage}
use Rattle.cluster_journal.specs.Marks.{given_back, is_claimed, is_open, is_open_to, marked, marked_at, reopened, reopened_from}

-- a message that nobody may take opens nothing
pub closed_to : (q : ProcessId) (m : MarkedMessage) → is_open m.mark ≡ false → is_open_to q m ≡ false
closed_to q m closed = ap (λ b. b && same_process q m.to) closed

number_of : (number place : ℕ) → number ≡ place + 1 → number ≡ suc place
number_of number place is = omega arith

-- the message with a number, if there is one
pub marks_it : (ms : List MarkedMessage) (number place : ℕ) (m d : MarkedMessage) (to : ProcessId)
    (mark : Delivery)
    → number ≡ place + 1 → place < length ms → m ≡ get_or ms place d → to ≡ m.to
    → slice_set ms place (record { to = to; mark = mark }) ≡ marked ms number mark
marks_it ms number place m d to mark is lt at same =
    ap (λ t. slice_set ms place (record { to = t; mark = mark })) same
    ∙ sym (ap (λ n. marked ms n mark) (number_of number place is)
    ∙ ap (λ o. marked_at ms place o mark) (slice_get-get_or ms place d lt ∙ ap Some (sym at)))

-- Claims that are given back.

there : (ms : List MarkedMessage) (number place : ℕ) (m d : MarkedMessage) → number ≡ place + 1
    → place < length ms
    → m ≡ get_or ms place d → given_back ms number ≡ reopened_from ms place m.to m.mark
there ms number place m d is lt at =
    ap (λ n. given_back ms n) (number_of number place is)
    ∙ ap (λ o. reopened ms place o) (slice_get-get_or ms place d lt ∙ ap Some (sym at))

not_claimed : (ms : List MarkedMessage) (place : ℕ) (to : ProcessId) (mark : Delivery) → (mark ≡ Claimed → ⊥)
    → reopened_from ms place to mark ≡ ms
not_claimed ms place to Open other = refl
not_claimed ms place to Claimed other = absurd (other refl)
not_claimed ms place to Delivered other = refl

pub gives_back : (ms : List MarkedMessage) (number place : ℕ) (m d : MarkedMessage) (to : ProcessId)
    → number ≡ place + 1
    → place < length ms → m ≡ get_or ms place d → to ≡ m.to → m.mark ≡ Claimed
    → slice_set ms place (record { to = to; mark = Open }) ≡ given_back ms number
gives_back ms number place m d to is lt at same claimed =
    ap (λ t. slice_set ms place (record { to = t; mark = Open })) same
    ∙ sym (there ms number place m d is lt at ∙ ap (λ n. reopened_from ms place m.to n) claimed)

pub keeps_back : (ms : List MarkedMessage) (number place : ℕ) (m d : MarkedMessage) → number ≡ place + 1
    → place < length ms
    → m ≡ get_or ms place d → (m.mark ≡ Claimed → ⊥) → ms ≡ given_back ms number
keeps_back ms number place m d is lt at other =
    sym (there ms number place m d is lt at ∙ not_claimed ms place m.to m.mark other)

pub claimed_is : (m : Delivery) → is_claimed m ≡ true → m ≡ Claimed
claimed_is Open h = absurd (cc)
claimed_is Claimed h = refl
claimed_is Delivered h = absurd (cc)

pub is_not_claimed : (m : Delivery) → is_claimed m ≡ false → m ≡ Claimed → ⊥
is_not_claimed Open h e = absurd (cc)
is_not_claimed Claimed h e = absurd (cc)
is_not_claimed Delivered h e = absurd (cc)
