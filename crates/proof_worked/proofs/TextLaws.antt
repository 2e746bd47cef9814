-- No two names are spelled alike.
use Rattle.std.proofs.Common.{◌≡◌, ◌≢◌, ◌+◌, ◌%◌, ◌^◌, ◌<◌, ◌≤◌, ℕ, Option, Some, None, List, [], ◌∷◌, ◌++◌, refl, ap, sym, ◌∙◌, arith, append_assoc}
use Rattle.std.specs.Fmt.{decimal}
use Rattle.std.proofs.lemmas.Fmt.{decimal_by_steps, decimal_injective}
use Rattle.std.proofs.lemmas.List.{append-nil}
use Rattle.protocol.specs.declared.names.Case.{Case}
use Rattle.protocol.specs.declared.names.ProcessId.{ProcessId}
use Rattle.protocol.specs.declared.names.Presumption.{Presumption}
use Rattle.protocol.specs.declared.names.Presumption.TheVariants.{PresumeAbort, PresumeCommit}
use Rattle.protocol.specs.declared.names.Ticket.{Ticket}
use Rattle.protocol.specs.Texts.{ticket_text, case_text, ticket_part, FitsOwner, TellsCases, TellsTickets}

-- Digits.

abbrev Digits : List ℕ → Type 0
Digits [] = Unit {0}
Digits (x ∷ xs) = (48 ≤ x) × (x ≤ 57) × Digits xs

digits_push : (ds : List ℕ) (d : ℕ) → Digits ds → 48 ≤ d → d ≤ 57 → Digits (ds ++ d ∷ [])
digits_push [] d h low high = (low, high, tt)
digits_push (x ∷ xs) d h low high = (h.0, h.1, digits_push xs d h.2 low high)

decimal_digits : (n : ℕ) → n < 2 ^ 64 → Digits (decimal n)
decimal_digits n h =
    decimal_by_steps (λ k ds. Digits ds) (λ k lt. (omega arith, omega arith, tt))
    (λ k ds big before. digits_push ds (48 + k % 10) before (omega arith) (omega arith)) n h

-- a byte that is no digit
abbrev IsMark : ℕ → Type 0
IsMark c = (d : ℕ) → 48 ≤ d → d ≤ 57 → d ≢ c

full_stop : IsMark 46
full_stop d low high e = omega arith

at_sign : IsMark 64
at_sign d low high e = omega arith

head_same : (x y : ℕ) (xs ys : List ℕ) → x ∷ xs ≡ y ∷ ys → x ≡ y
head_same x y xs ys e = cc

tail_same : (x y : ℕ) (xs ys : List ℕ) → x ∷ xs ≡ y ∷ ys → xs ≡ ys
tail_same x y xs ys e = cc

-- digits before a mark are told from what follows it
split : (c : ℕ) → IsMark c → (a a' b b' : List ℕ) → Digits a → Digits a' → a ++ c ∷ b ≡ a' ++ c ∷ b'
    → (a ≡ a') × (b ≡ b')
split c mark [] [] b b' h k e = (refl, tail_same c c b b' e)
split c mark [] (y ∷ ys) b b' h k e = absurd (mark y k.0 k.1 (sym (head_same c y b (ys ++ c ∷ b') e)))
split c mark (x ∷ xs) [] b b' h k e = absurd (mark x h.0 h.1 (head_same x c (xs ++ c ∷ b) b' e))
split c mark (x ∷ xs) (y ∷ ys) b b' h k e =
    let rest = split c mark xs ys b b' h.2 k.2 (tail_same x y (xs ++ c ∷ b) (ys ++ c ∷ b') e) in
    let first : x ≡ y = head_same x y (xs ++ c ∷ b) (ys ++ c ∷ b') e in
    (rw (first, rest.0) refl, rest.1)

-- digits alone hold no mark
unmarked : (c : ℕ) → IsMark c → (a a' b : List ℕ) → Digits a → a ≡ a' ++ c ∷ b → ⊥
unmarked c mark [] [] b h e = cc
unmarked c mark [] (y ∷ ys) b h e = cc
unmarked c mark (x ∷ xs) [] b h e = mark x h.0 h.1 (head_same x c xs b e)
unmarked c mark (x ∷ xs) (y ∷ ys) b h e = unmarked c mark xs ys b h.2 (tail_same x y xs (ys ++ c ∷ b) e)

-- Tickets.

ticket_parts : (t : Ticket) → ticket_text t ≡ decimal t.child.0 ++ 46
    ∷ (decimal t.boot ++ 46 ∷ decimal t.number)
ticket_parts t = simp append_assoc

ticket_same : (a b n a' b' n' : ℕ) → a ≡ a' → b ≡ b' → n ≡ n'
    → ◌≡◌ {A = Ticket} (record { child = record { 0 = a }; boot = b; number = n })
    (record { child = record { 0 = a' }; boot = b'; number = n' })
ticket_same a b n a' b' n' e f g = rw (e, f, g) refl

pub tickets_told : (t u : Ticket) → TellsTickets t u
tickets_told t u h k e =
    let whole : decimal t.child.0 ++ 46 ∷ (decimal t.boot ++ 46 ∷ decimal t.number) ≡ decimal u.child.0 ++ 46
    ∷ (decimal u.boot ++ 46 ∷ decimal u.number) =
    sym (ticket_parts t) ∙ (e ∙ ticket_parts u) in
    let first = split 46 full_stop _ _ _ _ (decimal_digits t.child.0 h.0)
    (decimal_digits u.child.0 k.0) whole in
    let second = split 46 full_stop _ _ _ _ (decimal_digits t.boot h.1.boot_fits)
    (decimal_digits u.boot k.1.boot_fits) first.1 in
    ticket_same _ _ _ _ _ _
    (decimal_injective t.child.0 u.child.0 h.0 k.0 first.0)
    (decimal_injective t.boot u.boot h.1.boot_fits k.1.boot_fits second.0)
    (decimal_injective t.number u.number h.1.number_fits k.1.number_fits second.1)

-- Transactions and cases: the text after the letter.

letter_code : Presumption → ℕ
letter_code PresumeAbort = 97
letter_code PresumeCommit = 99

case_parts : (p : Presumption) (root : ProcessId) (boot sequence : ℕ) (o : Option Ticket)
    → case_text (record {
      txn = record { root = root; boot = boot; sequence = sequence; presumption = p };
      ticket = o;
    })
    ≡ letter_code p ∷ (decimal boot ++ 46 ∷ (decimal sequence ++ ticket_part o))
unfolding letter_code
case_parts PresumeAbort root boot sequence o = simp append_assoc
case_parts PresumeCommit root boot sequence o = simp append_assoc

letters_told : (p q : Presumption) → letter_code p ≡ letter_code q → p ≡ q
unfolding letter_code
letters_told PresumeAbort PresumeAbort e = refl
letters_told PresumeCommit PresumeCommit e = refl
letters_told PresumeAbort PresumeCommit e = absurd (omega arith)
letters_told PresumeCommit PresumeAbort e = absurd (omega arith)

owners_told : (s s' : ℕ) (o o' : Option Ticket) → s < 2 ^ 64 → s' < 2 ^ 64 → FitsOwner o → FitsOwner o'
    → decimal s ++ ticket_part o ≡ decimal s' ++ ticket_part o' → (s ≡ s') × (o ≡ o')
owners_told s s' None None f g h k e =
    (decimal_injective s s' f g (sym (append-nil (decimal s)) ∙ (e ∙ append-nil (decimal s'))), refl)
owners_told s s' None (Some u) f g h k e =
    absurd (unmarked 64 at_sign (decimal s) (decimal s') (ticket_text u) (decimal_digits s f)
    (sym (append-nil (decimal s)) ∙ e))
owners_told s s' (Some t) None f g h k e =
    absurd (unmarked 64 at_sign (decimal s') (decimal s) (ticket_text t) (decimal_digits s' g)
    (sym (append-nil (decimal s')) ∙ sym e))
owners_told s s' (Some t) (Some u) f g h k e =
    let parts = split 64 at_sign (decimal s) (decimal s') (ticket_text t) (ticket_text u) (decimal_digits s f)
    (decimal_digits s' g) e in
    (decimal_injective s s' f g parts.0, ap Some (tickets_told t u h k parts.1))

case_same : (p q : Presumption) (root root' : ProcessId) (b s b' s' : ℕ) (o o' : Option Ticket) → p ≡ q
    → root ≡ root' → b ≡ b' → s ≡ s' → o ≡ o'
    → ◌≡◌ {A = Case} (record {
      txn = record { root = root; boot = b; sequence = s; presumption = p };
      ticket = o;
    }) (record {
      txn = record { root = root'; boot = b'; sequence = s'; presumption = q };
      ticket = o';
    })
case_same p q root root' b s b' s' o o' e f g h i = rw (e, f, g, h, i) refl

pub cases_told : (c d : Case) → TellsCases c d
cases_told c d h k root e =
    let whole = sym (case_parts c.txn.presumption c.txn.root c.txn.boot c.txn.sequence c.ticket)
    ∙ (e ∙ case_parts d.txn.presumption d.txn.root d.txn.boot d.txn.sequence d.ticket) in
    let letter = letters_told c.txn.presumption d.txn.presumption (head_same _ _ _ _ whole) in
    let boots = split 46 full_stop _ _ _ _ (decimal_digits c.txn.boot h.0.boot_fits)
    (decimal_digits d.txn.boot k.0.boot_fits) (tail_same _ _ _ _ whole) in
    let rest = owners_told c.txn.sequence d.txn.sequence c.ticket d.ticket h.0.number_fits k.0.number_fits h.1
    k.1 boots.1 in
    case_same _ _ _ _ _ _ _ _ _ _ letter root
    (decimal_injective c.txn.boot d.txn.boot h.0.boot_fits k.0.boot_fits boots.0) rest.0 rest.1
