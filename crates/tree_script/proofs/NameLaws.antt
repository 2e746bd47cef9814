-- Names: what is read is spelled so, and what is spelled so is read.
use Rattle.std.proofs.Common.{◌≡◌, ◌^◌, ◌<◌, ℕ, true, false, cond, eqb, ltb, Option, Some, None, List, [], ◌∷◌, ◌++◌, refl, ap, sym, subst, ◌∙◌, arith, inl, inr, codes, append_assoc}
use Rattle.std.specs.Fmt.{decimal}
use Rattle.std.proofs.lemmas.List.{append-nil}
use Rattle.std.proofs.lemmas.Bool.{cases_eq, cases_lt, lt-ltb, le-ltb}
use Rattle.std.proofs.lemmas.Bool.Decides.{nat_tests}
use Rattle.spellings.specs.Numerals.{number_at}
use Rattle.spellings.specs.Words.{cut_at}
use Rattle.spellings.proofs.Numerals.{number_takes, number_again}
use Rattle.spellings.proofs.Cuts.{cut_takes, cut_again, some_is}
use Rattle.protocol.specs.declared.names.ProcessId.{ProcessId}
use Rattle.protocol.specs.declared.names.Presumption.{Presumption}
use Rattle.protocol.specs.declared.names.Presumption.TheVariants.{PresumeAbort, PresumeCommit}
use Rattle.protocol.specs.declared.names.Txn.{Txn}
use Rattle.protocol.specs.declared.names.Ticket.{Ticket}
use Rattle.protocol.specs.declared.names.Case.{Case}
use Rattle.protocol.specs.Texts.{presumption_letter, txn_text, ticket_text, ticket_part, case_text}
use Rattle.tree_script.specs.Names.{process_at, letter_at, txn_at, ticket_at, case_at, case_parts}
use Rattle.tree_script.specs.Spellings.{process_text, FitsProcess, FitsTxn, FitsTicket, FitsOwner, FitsCase, ReadIsSpelled, SpelledIsRead}
use Rattle.tree_script.proofs.Misses.{bind_some, misses, misses_append, misses_without, cut_none, full_stop, at_sign, blank, IsMark, decimal_misses}

abbrev process : ℕ → ProcessId
process n = record { 0 = n }

abbrev narrow : ℕ → Option ProcessId
narrow n = cond (ltb n (2 ^ 32)) (Some (process n)) None

pub process_takes : ReadIsSpelled process_at process_text FitsProcess
unfolding process_at
process_takes w p e =
    let a = bind_some (number_at w) narrow p e in
    let d = number_takes w a.0 a.1 in
    elim (cases_lt a.0 (2 ^ 32)) [
      | inl lt ↦ (
          let made : Some (process a.0) ≡ Some p = rw (lt-ltb _ _ lt) at a.2 in
          subst (λ (q : ProcessId). (w ≡ process_text q) × FitsProcess q) (some_is (process a.0) p made)
          (d.0, lt))
      | inr le ↦ absurd (let no : None ≡ Some p = rw (le-ltb _ _ le) at a.2 in cc)
    ]

pub process_again : SpelledIsRead process_at process_text FitsProcess
unfolding process_at
process_again p fits = let lt : p.0 < 2 ^ 32 = fits in rw (number_again p.0 (omega arith), lt-ltb _ _ lt) refl

letter_takes : (bs : List ℕ) (l : Presumption × List ℕ) → letter_at bs ≡ Some l
    → bs ≡ presumption_letter l.0 ++ l.1
letter_takes [] l e = absurd cc
letter_takes (b ∷ bs) l e =
    elim (cases_eq b 97) [
      | inl a ↦ (
          let yes : eqb b 97 ≡ true = grind (arith, nat_tests) in
          let here : Some (PresumeAbort, bs) ≡ Some l = rw yes at e in
          subst (λ (q : Presumption × List ℕ). b ∷ bs ≡ presumption_letter q.0 ++ q.1)
          (some_is (PresumeAbort, bs) l here) (ap (λ (x : ℕ). x ∷ bs) a))
      | inr a ↦ elim (cases_eq b 99) [
        | inl c ↦ (
            let no : eqb b 97 ≡ false = grind (arith, nat_tests) in
            let yes : eqb b 99 ≡ true = grind (arith, nat_tests) in
            let here : Some (PresumeCommit, bs) ≡ Some l = rw (no, yes) at e in
            subst (λ (q : Presumption × List ℕ). b ∷ bs ≡ presumption_letter q.0 ++ q.1)
            (some_is (PresumeCommit, bs) l here) (ap (λ (x : ℕ). x ∷ bs) c))
        | inr c ↦ absurd (
            let no : eqb b 97 ≡ false = grind (arith, nat_tests) in
            let nor : eqb b 99 ≡ false = grind (arith, nat_tests) in
            let none : None ≡ Some l = rw (no, nor) at e in cc)
      ]
    ]

letter_again : (p : Presumption) (rest : List ℕ) → letter_at (presumption_letter p ++ rest) ≡ Some (p, rest)
letter_again PresumeAbort rest = refl
letter_again PresumeCommit rest = refl

pub letter_no_stop : (p : Presumption) → misses 46 (presumption_letter p) ≡ true
letter_no_stop PresumeAbort = refl
letter_no_stop PresumeCommit = refl

pub letter_no_at : (p : Presumption) → misses 64 (presumption_letter p) ≡ true
letter_no_at PresumeAbort = refl
letter_no_at PresumeCommit = refl

pub letter_no_blank : (p : Presumption) → misses 32 (presumption_letter p) ≡ true
letter_no_blank PresumeAbort = refl
letter_no_blank PresumeCommit = refl

txn_joined : (w a r l m n : List ℕ) (p : Presumption) → w ≡ a ++ 46 ∷ r → a ≡ presumption_letter p ++ l
    → l ≡ m → r ≡ n → w ≡ presumption_letter p ++ m ++ codes "." ++ n
txn_joined w a r l m n p e f g h = rw (e, f, g, h) (simp append_assoc)

abbrev txn_of : ProcessId → Txn → Txn
txn_of r x = record { root = r; boot = x.boot; sequence = x.sequence; presumption = x.presumption }

pub txn_takes : (root : ProcessId) → ReadIsSpelled (txn_at root) txn_text (FitsTxn root)
unfolding txn_at
txn_takes root w x e =
    let a = bind_some (cut_at 46 w) _ x e in
    let b = bind_some (letter_at a.0.0) _ x a.2 in
    let c = bind_some (number_at b.0.1) _ x b.2 in
    let d = bind_some (number_at a.0.1) _ x c.2 in
    let boot = number_takes b.0.1 c.0 c.1 in
    let sequence = number_takes a.0.1 d.0 d.1 in
    let made : Txn = record { root = root; boot = c.0; sequence = d.0; presumption = b.0.0 } in
    let spelled : w ≡ txn_text made =
    txn_joined w a.0.0 a.0.1 b.0.1 (decimal c.0) (decimal d.0) b.0.0 (cut_takes 46 w a.0 a.1)
    (letter_takes a.0.0 b.0 b.1) boot.0 sequence.0 in
    subst (λ (y : Txn). (w ≡ txn_text y) × FitsTxn root y) (some_is made x d.2)
    (spelled, record { of_the_root = refl; boot_fits = boot.1; sequence_fits = sequence.1 })

txn_form : (l m n : List ℕ) → l ++ m ++ codes "." ++ n ≡ (l ++ m) ++ 46 ∷ n
txn_form l m n = simp append_assoc

pub txn_again : (root : ProcessId) → SpelledIsRead (txn_at root) txn_text (FitsTxn root)
unfolding txn_at
txn_again root x fits =
    let head = misses_append 46 (presumption_letter x.presumption) (decimal x.boot)
    (letter_no_stop x.presumption) (decimal_misses 46 full_stop x.boot fits.boot_fits) in
    let first = cut_again 46 (presumption_letter x.presumption ++ decimal x.boot) (decimal x.sequence)
    (misses_without 46 _ head) in
    ap (txn_at root) (txn_form (presumption_letter x.presumption) (decimal x.boot) (decimal x.sequence))
    ∙ (rw (
      first,
      letter_again x.presumption (decimal x.boot),
      number_again x.boot fits.boot_fits,
      number_again x.sequence fits.sequence_fits,
    )
    (ap (λ (r : ProcessId). Some (txn_of r x)) (sym fits.of_the_root)))

regroup : (a b c : List ℕ) → a ++ 46 ∷ (b ++ 46 ∷ c) ≡ a ++ codes "." ++ b ++ codes "." ++ c
regroup a b c = simp append_assoc

ticket_joined : (w a r b c x y z : List ℕ) → w ≡ a ++ 46 ∷ r → r ≡ b ++ 46 ∷ c → a ≡ x → b ≡ y → c ≡ z
    → w ≡ x ++ codes "." ++ y ++ codes "." ++ z
ticket_joined w a r b c x y z p q ea eb ec = p ∙ ap (λ (t : List ℕ). a ++ 46 ∷ t) q
    ∙ rw (ea, eb, ec) (regroup x y z)

pub ticket_takes : ReadIsSpelled ticket_at ticket_text FitsTicket
unfolding ticket_at
ticket_takes w t e =
    let a = bind_some (cut_at 46 w) _ t e in
    let b = bind_some (process_at a.0.0) _ t a.2 in
    let c = bind_some (cut_at 46 a.0.1) _ t b.2 in
    let d = bind_some (number_at c.0.0) _ t c.2 in
    let f = bind_some (number_at c.0.1) _ t d.2 in
    let child = process_takes a.0.0 b.0 b.1 in
    let boot = number_takes c.0.0 d.0 d.1 in
    let number = number_takes c.0.1 f.0 f.1 in
    let made : Ticket = record { child = b.0; boot = d.0; number = f.0 } in
    let spelled : w ≡ ticket_text made =
    ticket_joined w a.0.0 a.0.1 c.0.0 c.0.1 (process_text b.0) (decimal d.0) (decimal f.0)
    (cut_takes 46 w a.0 a.1) (cut_takes 46 a.0.1 c.0 c.1) child.0 boot.0 number.0 in
    subst (λ (x : Ticket). (w ≡ ticket_text x) × FitsTicket x) (some_is made t f.2)
    (spelled, record { child_fits = child.1; boot_fits = boot.1; number_fits = number.1 })

pub process_misses : (c : ℕ) → IsMark c → (p : ProcessId) → FitsProcess p → misses c (process_text p) ≡ true
process_misses c mark p fits = let lt : p.0 < 2 ^ 32 = fits in decimal_misses c mark p.0 (omega arith)

pub ticket_again : SpelledIsRead ticket_at ticket_text FitsTicket
unfolding ticket_at
ticket_again t fits =
    let first = cut_again 46 (process_text t.child) (decimal t.boot ++ 46 ∷ decimal t.number)
    (misses_without 46 _ (process_misses 46 full_stop t.child fits.child_fits)) in
    let second = cut_again 46 (decimal t.boot) (decimal t.number)
    (misses_without 46 _ (decimal_misses 46 full_stop t.boot fits.boot_fits)) in
    ap ticket_at (sym (regroup (process_text t.child) (decimal t.boot) (decimal t.number)))
    ∙ rw (
      first,
      process_again t.child fits.child_fits,
      second,
      number_again t.boot fits.boot_fits,
      number_again t.number fits.number_fits,
    ) refl

abbrev whole : Txn → Option Ticket → Case
whole x o = record { txn = x; ticket = o }

case_read : (root : ProcessId) (w : List ℕ) (o : Option (List ℕ × List ℕ)) → cut_at 64 w ≡ o → (c : Case)
    → case_parts root w o ≡ Some c → (w ≡ case_text c) × FitsCase root c
case_read root w None cut c e =
    let a = bind_some (txn_at root w) _ c e in
    let t = txn_takes root w a.0 a.1 in
    subst (λ (d : Case). (w ≡ case_text d) × FitsCase root d) (some_is (whole a.0 None) c a.2)
    (t.0 ∙ sym (append-nil (txn_text a.0)), record { txn_fits = t.1; ticket_fits = tt })
case_read root w (Some p) cut c e =
    let a = bind_some (txn_at root p.0) _ c e in
    let b = bind_some (ticket_at p.1) _ c a.2 in
    let t = txn_takes root p.0 a.0 a.1 in
    let k = ticket_takes p.1 b.0 b.1 in
    let spelled : w ≡ case_text (whole a.0 (Some b.0)) =
    cut_takes 64 w p cut ∙ (ap (λ (l : List ℕ). l ++ 64 ∷ p.1) t.0
    ∙ ap (λ (l : List ℕ). txn_text a.0 ++ 64 ∷ l) k.0) in
    subst (λ (d : Case). (w ≡ case_text d) × FitsCase root d) (some_is (whole a.0 (Some b.0)) c b.2)
    (spelled, record { txn_fits = t.1; ticket_fits = k.1 })

pub case_takes : (root : ProcessId) → ReadIsSpelled (case_at root) case_text (FitsCase root)
unfolding case_at
case_takes root w c e = case_read root w (cut_at 64 w) refl c e

pub txn_misses : (c : ℕ) → IsMark c → ((p : Presumption) → misses c (presumption_letter p) ≡ true)
    → misses c (codes ".") ≡ true
    → (root : ProcessId) (x : Txn) → FitsTxn root x → misses c (txn_text x) ≡ true
txn_misses c mark letters stop root x fits =
    rw (txn_form (presumption_letter x.presumption) (decimal x.boot) (decimal x.sequence))
    (misses_append c _ _ (misses_append c _ _ (letters x.presumption)
    (decimal_misses c mark x.boot fits.boot_fits))
    (misses_append c (codes ".") _ stop (decimal_misses c mark x.sequence fits.sequence_fits)))

pub ticket_misses : (c : ℕ) → IsMark c → misses c (codes ".") ≡ true → (t : Ticket) → FitsTicket t
    → misses c (ticket_text t) ≡ true
ticket_misses c mark stop t fits =
    rw (← regroup (process_text t.child) (decimal t.boot) (decimal t.number))
    (misses_append c (process_text t.child) _ (process_misses c mark t.child fits.child_fits)
    (misses_append c (codes ".") _ stop
    (misses_append c (decimal t.boot) _ (decimal_misses c mark t.boot fits.boot_fits)
    (misses_append c (codes ".") _ stop (decimal_misses c mark t.number fits.number_fits)))))

whole_again : (root : ProcessId) (x : Txn) (o : Option Ticket) → FitsTxn root x → FitsOwner o
    → case_at root (txn_text x ++ ticket_part o) ≡ Some (whole x o)
unfolding case_at
whole_again root x None fits owner =
    ap (case_at root) (append-nil (txn_text x))
    ∙ rw (
      cut_none 64 (txn_text x) (txn_misses 64 at_sign letter_no_at refl root x fits),
      txn_again root x fits,
    ) refl
whole_again root x (Some t) fits owner =
    rw (
      cut_again 64 (txn_text x) (ticket_text t)
          (misses_without 64 _ (txn_misses 64 at_sign letter_no_at refl root x fits)),
      txn_again root x fits,
      ticket_again t owner,
    ) refl

pub case_again : (root : ProcessId) → SpelledIsRead (case_at root) case_text (FitsCase root)
case_again root c fits = whole_again root c.txn c.ticket fits.txn_fits fits.ticket_fits

owner_no_blank : (o : Option Ticket) → FitsOwner o → misses 32 (ticket_part o) ≡ true
owner_no_blank None fits = refl
owner_no_blank (Some t) fits = misses_append 32 (codes "@") (ticket_text t) refl
    (ticket_misses 32 blank refl t fits)

pub txn_no_blank : (root : ProcessId) (x : Txn) → FitsTxn root x → misses 32 (txn_text x) ≡ true
txn_no_blank root x fits = txn_misses 32 blank letter_no_blank refl root x fits

pub case_no_blank : (root : ProcessId) (c : Case) → FitsCase root c → misses 32 (case_text c) ≡ true
case_no_blank root c fits = misses_append 32 (txn_text c.txn) (ticket_part c.ticket)
    (txn_no_blank root c.txn fits.txn_fits) (owner_no_blank c.ticket fits.ticket_fits)
