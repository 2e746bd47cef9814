-- What the children say of works.
use Rattle.std.proofs.Common.{◌≡◌, ℕ, zero, suc, ◌+◌, Bool, true, false, ◌||◌, cond, Some, List, [], ◌∷◌, ◌++◌, find, replicate, if◌then◌else◌, refl, sym, ap, ◌∙◌, arith}
use Rattle.std.proofs.lemmas.Grind.{common_steps}
use Rattle.protocol.specs.declared.names.Ticket.{Ticket}
use Rattle.protocol.specs.Names.{same_ticket}
use Rattle.protocol.specs.Records.{in_list}
use Rattle.protocol.specs.Memory.{has_child, works_of}
use Rattle.coord_case.specs.declared.child.Child.{Child}
use Rattle.coord_case.specs.Lives.{accepted_in, are_distinct, changing, sending, works_found, works_in}
use Rattle.coord_case.proofs.Children.{Each, and_first, and_second, each_differs, each_two, first_false, of_not, same_process-sym, same_ticket-is, same_ticket-refl, second_false, ticket_child}

-- N, if it holds
abbrev pub count_if : Bool → ℕ → ℕ
count_if true n = n
count_if false n = 0

works_of-first : (u t : Ticket) (ws : List Ticket)
    → works_of (u ∷ ws) t ≡ count_if (same_ticket u t) 1 + works_of ws t
unfolding works_of
works_of-first u t ws = grind (arith, common_steps)

more_if : (b : Bool) (k n : ℕ) → count_if b 1 + (count_if b k + n) ≡ count_if b (suc k) + n
more_if true k n = omega arith
more_if false k n = omega arith

nothing_if : (b : Bool) → count_if b 0 ≡ 0
nothing_if true = refl
nothing_if false = refl

pub works_of-child : (k : ℕ) (u t : Ticket) (ws : List Ticket)
    → works_of (replicate k u ++ ws) t ≡ count_if (same_ticket u t) k + works_of ws t
works_of-child zero u t ws = rw (nothing_if (same_ticket u t)) (omega arith)
works_of-child (suc k) u t ws =
    works_of-first u t (replicate k u ++ ws) ∙ ap (λ n. count_if (same_ticket u t) 1 + n)
    (works_of-child k u t ws) ∙ more_if (same_ticket u t) k (works_of ws t)

pub works_of-push : (ws : List Ticket) (t u : Ticket)
    → works_of (ws ++ t ∷ []) u ≡ works_of ws u + count_if (same_ticket t u) 1
unfolding works_of
works_of-push ws t u = grind (arith, common_steps)

no_works : (t : Ticket) → works_of [] t ≡ 0
unfolding works_of
no_works t = refl

-- none was sent to a ticket of a process that has no child
pub works-none : (cs : List Child) (t : Ticket) → has_child (accepted_in cs) t.child ≡ false
    → works_of (works_in cs) t ≡ 0
unfolding has_child
works-none [] t h = no_works t
works-none (c ∷ cs) t h =
    let other : same_ticket c.ticket t ≡ false = ticket_child c.ticket t (first_false _ _ h) in
    let rest : works_of (works_in cs) t ≡ 0 = works-none cs t (second_false _ _ h) in
    works_of-child c.works c.ticket t (works_in cs) ∙ rw (other, rest) refl

-- to the first child alone its works were sent
works-here : (c : Child) (cs : List Child) → has_child (accepted_in cs) c.ticket.child ≡ false
    → works_of (works_in (c ∷ cs)) c.ticket ≡ c.works
works-here c cs h =
    works_of-child c.works c.ticket c.ticket (works_in cs)
    ∙ rw (same_ticket-refl c.ticket, works-none cs c.ticket h) (omega arith)

works-there : (c : Child) (cs : List Child) (t : Ticket) → same_ticket c.ticket t ≡ false
    → works_of (works_in (c ∷ cs)) t ≡ works_of (works_in cs) t
works-there c cs t h = works_of-child c.works c.ticket t (works_in cs) ∙ rw h (omega arith)

pub works_each : (cs : List Child) → are_distinct cs ≡ true
    → Each (λ d. works_of (works_in cs) d.ticket ≡ d.works) cs
works_each [] h = tt
works_each (c ∷ cs) h =
    let apart : has_child (accepted_in cs) c.ticket.child ≡ false = of_not _ (and_first _ _ h) in (
      works-here c cs apart,
      each_two _ _ _ (λ d differs says.
          works-there c cs d.ticket (ticket_child c.ticket d.ticket
          (same_process-sym c.ticket.child d.ticket.child ∙ differs)) ∙ says)
          cs (each_differs c.ticket.child cs apart) (works_each cs (and_second _ _ h)),
    )

pub works-found : (cs : List Child) (t : Ticket) → are_distinct cs ≡ true
    → works_of (works_in cs) t ≡ works_found (find (λ c. same_ticket c.ticket t) cs)
works-found [] t h = no_works t
works-found (c ∷ cs) t h = by_test (same_ticket c.ticket t) refl (works-found cs t (and_second _ _ h))
  where
    by_test : (b : Bool) → same_ticket c.ticket t ≡ b
        → works_of (works_in cs) t ≡ works_found (find (λ c. same_ticket c.ticket t) cs)
        → works_of (works_in (c ∷ cs)) t ≡ works_found
        (cond b (Some c) (find (λ c. same_ticket c.ticket t) cs))
    by_test true e rest = ap (works_of (works_in (c ∷ cs))) (sym (same_ticket-is c.ticket t e))
        ∙ works-here c cs (of_not _ (and_first _ _ h))
    by_test false e rest = works-there c cs t e ∙ rest

-- one work more
pub works-sending : (cs : List Child) (t u : Ticket) (n : ℕ) → are_distinct cs ≡ true
    → in_list (accepted_in cs) t ≡ true → n ≡ works_of (works_in cs) t + 1
    → works_of (works_in (changing t (sending n) cs)) u ≡ works_of (works_in cs) u
    + count_if (same_ticket t u) 1
unfolding in_list
works-sending [] t u n h there is = absurd (cc)
works-sending (c ∷ cs) t u n h there is = by_test (same_ticket c.ticket t) refl there
    (works-sending cs t u n (and_second _ _ h))
  where
    one_more : (b : Bool) (k w : ℕ) → count_if b (k + 1) + w ≡ (count_if b k + w) + count_if b 1
    one_more true k w = omega arith
    one_more false k w = omega arith

    by_test : (b : Bool) → same_ticket c.ticket t ≡ b → (b || in_list (accepted_in cs) t) ≡ true
        → (in_list (accepted_in cs) t ≡ true → n ≡ works_of (works_in cs) t + 1 → works_of (works_in
        (changing t (sending n) cs)) u ≡ works_of (works_in cs) u + count_if (same_ticket t u) 1)
        → works_of (works_in (if b then sending n c ∷ cs else c ∷ changing t (sending n) cs)) u
        ≡ works_of (works_in (c ∷ cs)) u + count_if (same_ticket t u) 1
    by_test true e there rest =
        let one : c.ticket ≡ t = same_ticket-is c.ticket t e in
        let sent : n ≡ c.works + 1 = is ∙ ap (λ k. k + 1)
        (ap (works_of (works_in (c ∷ cs))) (sym one) ∙ works-here c cs (of_not _ (and_first _ _ h))) in
        works_of-child n c.ticket u (works_in cs)
        ∙ rw (sent) (one_more (same_ticket c.ticket u) c.works (works_of (works_in cs) u))
        ∙ ap (λ k. k + count_if (same_ticket c.ticket u) 1)
        (sym (works_of-child c.works c.ticket u (works_in cs)))
        ∙ ap (λ x. works_of (works_in (c ∷ cs)) u + count_if (same_ticket x u) 1) one
    by_test false e there rest =
        let later = rest there (is ∙ ap (λ k. k + 1) (works-there c cs t e)) in
        works_of-child c.works c.ticket u (works_in (changing t (sending n) cs))
        ∙ ap (λ k. count_if (same_ticket c.ticket u) c.works + k) later
        ∙ assoc (count_if (same_ticket c.ticket u) c.works) (works_of (works_in cs) u)
        (count_if (same_ticket t u) 1)
        ∙ ap (λ k. k + count_if (same_ticket t u) 1) (sym (works_of-child c.works c.ticket u (works_in cs)))
      where
        assoc : (a b c : ℕ) → a + (b + c) ≡ (a + b) + c
        assoc a b c = omega arith
