-- What the children say of votes.
use Rattle.std.proofs.Common.{◌≡◌, ℕ, suc, ◌+◌, ◌≤◌, length, Bool, true, false, not, ◌&&◌, ◌||◌, cond, Option, None, Some, List, [], ◌∷◌, ◌++◌, filter, find, map, option_map, replicate, if◌then◌else◌, set, get_or, refl, sym, ap, ◌∙◌, arith}
use Rattle.std.specs.List.{cons_option, list_all, list_any, position_or_len}
use Rattle.std.proofs.lemmas.Grind.{common_steps}
use Rattle.protocol.specs.declared.names.ProcessId.{ProcessId}
use Rattle.protocol.specs.declared.names.Ticket.{Ticket}
use Rattle.protocol.specs.declared.standings.Vote.{Vote}
use Rattle.protocol.specs.declared.standings.Vote.TheVariants.{Yes, No, Read}
use Rattle.protocol.specs.Names.{same_process, same_ticket}
use Rattle.protocol.specs.Records.{in_list}
use Rattle.protocol.specs.Memory.{all_voted, has_child, has_voted, is_counted, same_vote, undecided_of, voted_so, yes_of}
use Rattle.protocol.proofs.NameTests.{ticket_tells}
use Rattle.coord_case.specs.declared.child.Child.{Child}
use Rattle.coord_case.specs.Lives.{accepted_in, are_distinct, awaits_vote, casts, changing, is_cast, is_missing, is_undecided, is_vote, vote_in, vote_of, votes_in, voting, works_in}

-- one ticket is of one child
pub ticket_child : (a b : Ticket) → same_process a.child b.child ≡ false → same_ticket a b ≡ false
unfolding same_ticket same_process
ticket_child a b h = grind (arith, common_steps)

-- A child more.

pub accepted_in-push : (cs : List Child) (c : Child)
    → accepted_in (cs ++ c ∷ []) ≡ accepted_in cs ++ c.ticket ∷ []
accepted_in-push [] c = refl
accepted_in-push (d ∷ cs) c = ap (λ ts. d.ticket ∷ ts) (accepted_in-push cs c)

pub votes_in-push : (cs : List Child) (t : Ticket)
    → votes_in (cs ++ record { ticket = t; works = 0; vote = None } ∷ []) ≡ votes_in cs
votes_in-push [] t = refl
votes_in-push (d ∷ cs) t = ap (cons_option (vote_of d)) (votes_in-push cs t)

pub works_in-push : (cs : List Child) (t : Ticket)
    → works_in (cs ++ record { ticket = t; works = 0; vote = None } ∷ []) ≡ works_in cs
works_in-push [] t = refl
works_in-push (d ∷ cs) t = ap (λ ws. replicate d.works d.ticket ++ ws) (works_in-push cs t)

pub same_process-sym : (a b : ProcessId) → same_process a b ≡ same_process b a
unfolding same_process
same_process-sym a b = grind (arith, common_steps)

has_child-push : (ts : List Ticket) (t : Ticket) (q : ProcessId)
    → has_child (ts ++ t ∷ []) q ≡ (has_child ts q || same_process t.child q)
unfolding has_child
has_child-push [] t q = grind (arith, common_steps)
has_child-push (u ∷ ts) t q = grind (arith, common_steps, has_child-push ts t q)

has_child-cons : (t : Ticket) (ts : List Ticket) (q : ProcessId)
    → has_child (t ∷ ts) q ≡ (same_process t.child q || has_child ts q)
unfolding has_child
has_child-cons t ts q = refl

pub distinct-push : (cs : List Child) (c : Child) → are_distinct cs ≡ true
    → has_child (accepted_in cs) c.ticket.child ≡ false → are_distinct (cs ++ c ∷ []) ≡ true
unfolding has_child
distinct-push [] c distinct new = refl
distinct-push (d ∷ cs) c distinct new =
    let rest : are_distinct cs ≡ true = grind (arith, common_steps) in
    let others : has_child (accepted_in cs) c.ticket.child ≡ false = grind (arith, common_steps) in
    let apart : has_child (accepted_in cs) d.ticket.child ≡ false = grind (arith, common_steps) in
    let two : same_process c.ticket.child d.ticket.child ≡ false =
    grind (arith, common_steps, same_process-sym) in
    rw (
      distinct-push cs c rest others,
      accepted_in-push cs c,
      has_child-push (accepted_in cs) c.ticket
          d.ticket.child,
      apart,
      two,
    ) refl

-- What the votes say, the children say.

voted-by : (o : Vote) (w : Option Vote) (u t : Ticket) (vs : List (Ticket × Vote))
    (below : Bool) → voted_so o vs t ≡ below
    → voted_so o (cons_option (vote_in w u) vs) t ≡ ((is_vote o w && same_ticket u t) || below)
unfolding voted_so
voted-by o None u t vs below h = h
voted-by o (Some w) u t vs below h = ap (λ b. (same_vote o w && same_ticket u t) || b) h

pub voted-casts : (o : Vote) (cs : List Child) (t : Ticket)
    → voted_so o (votes_in cs) t ≡ casts (is_vote o) cs t
unfolding voted_so
voted-casts o [] t = refl
voted-casts o (c ∷ cs) t = voted-by o c.vote c.ticket t (votes_in cs) _ (voted-casts o cs t)

has_voted-by : (w : Option Vote) (u t : Ticket) (vs : List (Ticket × Vote))
    (below : Bool) → has_voted vs t ≡ below
    → has_voted (cons_option (vote_in w u) vs) t ≡ ((is_cast w && same_ticket u t) || below)
unfolding has_voted
has_voted-by None u t vs below h = h
has_voted-by (Some w) u t vs below h = ap (λ b. same_ticket u t || b) h

pub has_voted-casts : (cs : List Child) (t : Ticket) → has_voted (votes_in cs) t ≡ casts is_cast cs t
unfolding has_voted
has_voted-casts [] t = refl
has_voted-casts (c ∷ cs) t = has_voted-by c.vote c.ticket t (votes_in cs) _ (has_voted-casts cs t)

-- A child of another ticket.

pub first_false : (a b : Bool) → (a || b) ≡ false → a ≡ false
first_false true b h = h
first_false false b h = refl

pub second_false : (a b : Bool) → (a || b) ≡ false → b ≡ false
second_false true b h = absurd (cc)
second_false false b h = h

not_both : (a b c : Bool) → b ≡ false → c ≡ false → ((a && b) || c) ≡ false
not_both true b c hb hc = rw (hb, hc) refl
not_both false b c hb hc = hc

pub casts-none : (p : Option Vote → Bool) (cs : List Child) (t : Ticket)
    → has_child (accepted_in cs) t.child ≡ false → casts p cs t ≡ false
unfolding has_child
casts-none p [] t h = refl
casts-none p (c ∷ cs) t h =
    not_both (p c.vote) _ _ (ticket_child c.ticket t (first_false _ _ h))
    (casts-none p cs t (second_false _ _ h))

-- the child at hand says nothing of the others' tickets
pub passed_by : (p : Bool) (u t : Ticket) (below : Bool) → same_process t.child u.child ≡ false
    → ((p && same_ticket u t) || below) ≡ below
passed_by true u t below h = rw (ticket_child u t (same_process-sym u.child t.child ∙ h)) refl
passed_by false u t below h = refl

pub and_first : (a b : Bool) → (a && b) ≡ true → a ≡ true
and_first true b h = refl
and_first false b h = h

pub and_second : (a b : Bool) → (a && b) ≡ true → b ≡ true
and_second true b h = h
and_second false b h = absurd (cc)

pub of_not : (a : Bool) → not a ≡ true → a ≡ false
of_not true h = absurd (cc)
of_not false h = refl

pub same_ticket-refl : (t : Ticket) → same_ticket t t ≡ true
same_ticket-refl t = (ticket_tells t t).1 refl

-- what the child says of its own ticket
pub own_says : (p : Option Vote → Bool) (c : Child) (cs : List Child)
    → has_child (accepted_in cs) c.ticket.child ≡ false
    → casts p (c ∷ cs) c.ticket ≡ p c.vote
own_says p c cs h = rw (same_ticket-refl c.ticket, casts-none p cs c.ticket h) (plain (p c.vote))
  where
    plain : (b : Bool) → ((b && true) || false) ≡ b
    plain true = refl
    plain false = refl

-- Children one by one.

-- the fact holds of each child
abbrev pub Each : (Child → Type 0) → List Child → Type 0
Each P [] = Unit {0}
Each P (c ∷ cs) = P c × Each P cs

pub each_two : (A B C : Child → Type 0) → ((c : Child) → A c → B c → C c) → (cs : List Child)
    → Each A cs → Each B cs → Each C cs
each_two A B C both [] as' bs = tt
each_two A B C both (c ∷ cs) as' bs = (both c as'.0 bs.0, each_two A B C both cs as'.1 bs.1)

-- no child is of a process that has none
pub each_differs : (q : ProcessId) (cs : List Child) → has_child (accepted_in cs) q ≡ false
    → Each (λ d. same_process d.ticket.child q ≡ false) cs
unfolding has_child
each_differs q [] h = tt
each_differs q (c ∷ cs) h = (first_false _ _ h, each_differs q cs (second_false _ _ h))

-- each child says of its ticket what its vote says
pub casts_each : (p : Option Vote → Bool) (cs : List Child) → are_distinct cs ≡ true
    → Each (λ d. casts p cs d.ticket ≡ p d.vote) cs
casts_each p [] h = tt
casts_each p (c ∷ cs) h =
    let apart : has_child (accepted_in cs) c.ticket.child ≡ false = of_not _ (and_first _ _ h) in (
      own_says p c cs apart,
      each_two _ _ _ (λ d differs says. passed_by (p c.vote)
          c.ticket d.ticket (casts p cs d.ticket) differs ∙ says) cs (each_differs c.ticket.child cs apart)
          (casts_each p cs (and_second _ _ h)),
    )

pub filter_each : (f : Ticket → Bool) (g : Child → Bool) (cs : List Child) → Each (λ d. f d.ticket ≡ g d) cs
    → filter f (accepted_in cs) ≡ accepted_in (filter g cs)
filter_each f g [] each = refl
filter_each f g (c ∷ cs) each = rw each.0 (mapped_if (g c) c (filter g cs) _ (filter_each f g cs each.1))
  where
    mapped_if : (b : Bool) (c : Child) (cs : List Child) (ts : List Ticket) → ts ≡ accepted_in cs
        → cond b (c.ticket ∷ ts) ts ≡ accepted_in (cond b (c ∷ cs) cs)
    mapped_if true c cs ts h = ap (λ ts. c.ticket ∷ ts) h
    mapped_if false c cs ts h = h

pub all_each : (f : Ticket → Bool) (g : Child → Bool) (cs : List Child) → Each (λ d. f d.ticket ≡ g d) cs
    → list_all f (accepted_in cs) ≡ list_all g cs
all_each f g [] each = refl
all_each f g (c ∷ cs) each = rw (each.0, all_each f g cs each.1) refl

pub map_each : {X : Type 0} (f : Ticket → X) (g : Child → X) (cs : List Child)
    → Each (λ d. f d.ticket ≡ g d) cs → map f (accepted_in cs) ≡ map g cs
map_each f g [] each = refl
map_each f g (c ∷ cs) each = λ i. each.0 i ∷ map_each f g cs each.1 i

pub find_accepted : (f : Ticket → Bool) (cs : List Child)
    → find f (accepted_in cs) ≡ option_map (λ c. c.ticket) (find (λ c. f c.ticket) cs)
find_accepted f [] = refl
find_accepted f (c ∷ cs) = by_test (f c.ticket) (find_accepted f cs)
  where
    by_test : (b : Bool) → find f (accepted_in cs) ≡ option_map (λ c. c.ticket) (find (λ c. f c.ticket) cs)
        → cond b (Some c.ticket) (find f (accepted_in cs))
        ≡ option_map (λ c. c.ticket) (cond b (Some c) (find (λ c. f c.ticket) cs))
    by_test true rest = refl
    by_test false rest = rest

pub any_accepted : (f : Ticket → Bool) (cs : List Child)
    → list_any f (accepted_in cs) ≡ list_any (λ c. f c.ticket) cs
any_accepted f [] = refl
any_accepted f (c ∷ cs) = ap (λ b. f c.ticket || b) (any_accepted f cs)

pub has_child_any : (cs : List Child) (q : ProcessId)
    → has_child (accepted_in cs) q ≡ list_any (λ c. same_process c.ticket.child q) cs
unfolding has_child
has_child_any [] q = refl
has_child_any (c ∷ cs) q = ap (λ b. same_process c.ticket.child q || b) (has_child_any cs q)

-- A vote.

accepted_by : (b : Bool) (c c' : Child) (cs ds : List Child) → c'.ticket ≡ c.ticket
    → accepted_in ds ≡ accepted_in cs
    → accepted_in (if b then c' ∷ cs else c ∷ ds) ≡ accepted_in (c ∷ cs)
accepted_by true c c' cs ds e h = ap (λ t. t ∷ accepted_in cs) e
accepted_by false c c' cs ds e h = ap (λ ts. c.ticket ∷ ts) h

-- a change of a child leaves the tickets
pub accepted-changing : (t : Ticket) (f : Child → Child) → ((c : Child) → (f c).ticket ≡ c.ticket)
    → (cs : List Child) → accepted_in (changing t f cs) ≡ accepted_in cs
accepted-changing t f keeps [] = refl
accepted-changing t f keeps (c ∷ cs) = accepted_by (same_ticket c.ticket t) c (f c) cs _ (keeps c)
    (accepted-changing t f keeps cs)

works_by : (b : Bool) (w : Option Vote) (c : Child) (cs ds : List Child) → works_in ds ≡ works_in cs
    → works_in (if b then record c { vote = w } ∷ cs else c ∷ ds) ≡ works_in (c ∷ cs)
works_by true w c cs ds h = refl
works_by false w c cs ds h = ap (λ ws. replicate c.works c.ticket ++ ws) h

pub works-voting : (t : Ticket) (w : Option Vote) (cs : List Child)
    → works_in (changing t (voting w) cs) ≡ works_in cs
works-voting t w [] = refl
works-voting t w (c ∷ cs) = works_by (same_ticket c.ticket t) w c cs _ (works-voting t w cs)

distinct_by : (b : Bool) (c c' : Child) (cs ds : List Child) → c'.ticket ≡ c.ticket
    → accepted_in ds ≡ accepted_in cs → are_distinct ds ≡ are_distinct cs
    → are_distinct (if b then c' ∷ cs else c ∷ ds) ≡ are_distinct (c ∷ cs)
distinct_by true c c' cs ds e h k = ap (λ (t : Ticket). not
    (has_child (accepted_in cs) t.child) && are_distinct cs) e
distinct_by false c c' cs ds e h k = rw (h, k) refl

pub distinct-changing : (t : Ticket) (f : Child → Child) → ((c : Child) → (f c).ticket ≡ c.ticket)
    → (cs : List Child) → are_distinct (changing t f cs) ≡ are_distinct cs
distinct-changing t f keeps [] = refl
distinct-changing t f keeps (c ∷ cs) =
    distinct_by (same_ticket c.ticket t) c (f c) cs _ (keeps c) (accepted-changing t f keeps cs)
    (distinct-changing t f keeps cs)

pub or_assoc : (a b c : Bool) → (a || (b || c)) ≡ ((a || b) || c)
or_assoc true b c = refl
or_assoc false b c = refl

-- the first child of the ticket has not voted, and now does
casts_hit : (p : Option Vote → Bool) → p None ≡ false
    → (t : Ticket) (w : Vote) (c : Child) (cs : List Child) (u : Ticket) → c.ticket ≡ t → p c.vote ≡ false
    → casts p (record c { vote = Some w } ∷ cs) u ≡ (casts p (c ∷ cs) u || (p (Some w) && same_ticket t u))
casts_hit p none t w c cs u same missing =
    ap (λ x. (p (Some w) && same_ticket x u) || casts p cs u) same ∙ or_swap_to (p c.vote)
    (same_ticket c.ticket u) (casts p cs u) (p (Some w) && same_ticket t u) missing
  where
    or_swap_to : (a b c d : Bool) → a ≡ false → (d || c) ≡ (((a && b) || c) || d)
    or_swap_to a b true true h = rw h refl
    or_swap_to a b true false h = rw h refl
    or_swap_to a b false true h = rw h refl
    or_swap_to a b false false h = rw h refl

pub same_ticket-is : (a b : Ticket) → same_ticket a b ≡ true → a ≡ b
same_ticket-is a b h = (ticket_tells a b).0 h

pub casts-voting : (p : Option Vote → Bool) → p None ≡ false
    → (t : Ticket) (w : Vote) (cs : List Child) (u : Ticket)
    → in_list (accepted_in cs) t ≡ true → casts is_cast cs t ≡ false
    → casts p (changing t (voting (Some w)) cs) u ≡ (casts p cs u || (p (Some w) && same_ticket t u))
unfolding in_list
casts-voting p none t w [] u there missing = absurd (cc)
casts-voting p none t w (c ∷ cs) u there missing =
    by_test (same_ticket c.ticket t) refl (casts-voting p none t w cs u) there missing
  where
    by_test : (b : Bool) → same_ticket c.ticket t ≡ b
        → (in_list (accepted_in cs) t ≡ true → casts is_cast cs t ≡ false
        → casts p (changing t (voting (Some w)) cs) u ≡ (casts p cs u || (p (Some w) && same_ticket t u)))
        → (b || in_list (accepted_in cs) t) ≡ true → ((is_cast c.vote && b) || casts is_cast cs t) ≡ false
        → casts p (if b then record c { vote = Some w } ∷ cs else c ∷ changing t (voting (Some w)) cs) u
        ≡ (casts p (c ∷ cs) u || (p (Some w) && same_ticket t u))
    by_test true e rest there missing = casts_hit p none t w c cs u (same_ticket-is c.ticket t e)
        (uncast_by p none c.vote (casts is_cast cs t) missing)
      where
        uncast_by : (p : Option Vote → Bool) → p None ≡ false → (v : Option Vote) (below : Bool)
            → ((is_cast v && true) || below) ≡ false → p v ≡ false
        uncast_by p none None below h = none
        uncast_by p none (Some w) below h = absurd (cc)
    by_test false e rest there missing =
        let below : casts is_cast cs t ≡ false = second_false _ _ missing in
        ap (λ b. (p c.vote && same_ticket c.ticket u) || b) (rest there below)
        ∙ or_assoc (p c.vote && same_ticket c.ticket u) _ _

one_less : (a b x : Bool) → (x ≡ true → b ≡ false) → b ≡ (((a && x) || b) && not x)
one_less true true true h = h refl
one_less true false true h = refl
one_less false true true h = h refl
one_less false false true h = refl
one_less true true false h = refl
one_less true false false h = refl
one_less false true false h = refl
one_less false false false h = refl

passes : (a b x : Bool) → (x ≡ true → a ≡ false) → (a || (b && not x)) ≡ ((a || b) && not x)
passes a true true h = rw (h refl) refl
passes a false true h = rw (h refl) refl
passes true true false h = refl
passes true false false h = refl
passes false true false h = refl
passes false false false h = refl

and_false : (b c : Bool) → c ≡ false → (b && c) ≡ false
and_false true c h = h
and_false false c h = refl

pub casts-unvoting : (p : Option Vote → Bool) → p None ≡ false
    → (t : Ticket) (cs : List Child) (u : Ticket) → are_distinct cs ≡ true
    → casts p (changing t (voting None) cs) u ≡ (casts p cs u && not (same_ticket t u))
casts-unvoting p none t [] u h = refl
casts-unvoting p none t (c ∷ cs) u h = by_test (same_ticket c.ticket t) refl
    (casts-unvoting p none t cs u (and_second _ _ h))
  where
    by_test : (b : Bool) → same_ticket c.ticket t ≡ b
        → casts p (changing t (voting None) cs) u ≡ (casts p cs u && not (same_ticket t u))
        → casts p (if b then record c { vote = None } ∷ cs else c ∷ changing t (voting None) cs) u
        ≡ (casts p (c ∷ cs) u && not (same_ticket t u))
    by_test true e rest =
        let is : c.ticket ≡ t = same_ticket-is c.ticket t e in
        let apart : has_child (accepted_in cs) c.ticket.child ≡ false = of_not _ (and_first _ _ h) in
        let gone : same_ticket t u ≡ true → casts p cs u ≡ false =
        λ k. ap (casts p cs) (sym (is ∙ same_ticket-is t u k)) ∙ casts-none p cs c.ticket apart in
        rw (none, is) (one_less (p c.vote) (casts p cs u) (same_ticket t u) gone)
    by_test false e rest =
        let other : same_ticket t u ≡ true → (p c.vote && same_ticket c.ticket u) ≡ false =
        λ k. and_false (p c.vote) _ (ap (same_ticket c.ticket) (sym (same_ticket-is t u k)) ∙ e) in
        ap (λ b. (p c.vote && same_ticket c.ticket u) || b) rest
        ∙ passes (p c.vote && same_ticket c.ticket u) (casts p cs u) (same_ticket t u) other

-- a vote of the ticket counts
pub awaits-counted : (cs : List Child) (t : Ticket) → are_distinct cs ≡ true
    → awaits_vote t cs ≡ (in_list (accepted_in cs) t && not (casts is_cast cs t))
unfolding in_list
awaits-counted [] t h = refl
awaits-counted (c ∷ cs) t h = by_test (same_ticket c.ticket t) refl (awaits-counted cs t (and_second _ _ h))
  where
    hit : (v : Option Vote) → ((is_missing v && true) || false) ≡ (true && not ((is_cast v && true) || false))
    hit None = refl
    hit (Some w) = refl

    miss : (v : Option Vote) (a i c : Bool) → a ≡ (i && not c)
        → ((is_missing v && false) || a) ≡ (i && not ((is_cast v && false) || c))
    miss None a i c h = h
    miss (Some w) a i c h = h

    by_test : (b : Bool) → same_ticket c.ticket t ≡ b
        → awaits_vote t cs ≡ (in_list (accepted_in cs) t && not (casts is_cast cs t))
        → ((is_missing c.vote && b) || awaits_vote t cs)
        ≡ ((b || in_list (accepted_in cs) t) && not ((is_cast c.vote && b) || casts is_cast cs t))
    by_test true e rest =
        let apart : has_child (accepted_in cs) c.ticket.child ≡ false = of_not _ (and_first _ _ h) in
        let own : has_child (accepted_in cs) t.child ≡ false =
        sym (ap (λ x. has_child (accepted_in cs) x.child) (same_ticket-is c.ticket t e)) ∙ apart in
        rw (casts-none is_missing cs t own, casts-none is_cast cs t own) (hit c.vote)
    by_test false e rest = miss c.vote _ _ _ rest

-- Where the first child of the ticket stands.

abbrev pub place : Ticket → List Child → ℕ
place t cs = position_or_len (λ c. same_ticket c.ticket t) cs

first_place : (t : Ticket) (c : Child) (cs : List Child)
    → same_ticket c.ticket t ≡ true → place t (c ∷ cs) ≡ 0
first_place t c cs e = rw e refl

one_more : (n : ℕ) → 1 + n ≡ suc n
one_more n = omega arith

next_place : (t : Ticket) (c : Child) (cs : List Child) → same_ticket c.ticket t ≡ false
    → place t (c ∷ cs) ≡ suc (place t cs)
next_place t c cs e = rw e (one_more (place t cs))

pub changing-at : (t : Ticket) (f : Child → Child) (cs : List Child) (d : Child)
    → set cs (place t cs) (f (get_or cs (place t cs) d)) ≡ changing t f cs
changing-at t f [] d = refl
changing-at t f (c ∷ cs) d = by_test (same_ticket c.ticket t) refl (changing-at t f cs d)
  where
    at : ℕ → List Child
    at n = set (c ∷ cs) n (f (get_or (c ∷ cs) n d))

    by_test : (b : Bool) → same_ticket c.ticket t ≡ b
        → set cs (place t cs) (f (get_or cs (place t cs) d)) ≡ changing t f cs
        → set (c ∷ cs) (place t (c ∷ cs)) (f (get_or (c ∷ cs) (place t (c ∷ cs)) d))
        ≡ (if b then f c ∷ cs else c ∷ changing t f cs)
    by_test true e rest = ap at (first_place t c cs e)
    by_test false e rest = ap at (next_place t c cs e) ∙ ap (λ ds. c ∷ ds) rest

pub changing-past : (t : Ticket) (f : Child → Child) (cs : List Child)
    → length cs ≤ place t cs → changing t f cs ≡ cs
changing-past t f [] h = refl
changing-past t f (c ∷ cs) h = by_test (same_ticket c.ticket t) refl (changing-past t f cs) h
  where
    by_test : (b : Bool) → same_ticket c.ticket t ≡ b → (length cs ≤ place t cs → changing t f cs ≡ cs)
        → length (c ∷ cs) ≤ place t (c ∷ cs)
        → (if b then f c ∷ cs else c ∷ changing t f cs) ≡ c ∷ cs
    by_test true e rest h =
        absurd (omega (arith, first_place t c cs e))
    by_test false e rest h =
        ap (λ ds. c ∷ ds) (rest (omega (arith, next_place t c cs e)))

-- What the view says of the votes.

pub all_voted-cast : (cs : List Child) → are_distinct cs ≡ true
    → all_voted (accepted_in cs) (votes_in cs) ≡ list_all (λ c. is_cast c.vote) cs
unfolding all_voted
all_voted-cast cs h = ap (λ q. list_all q (accepted_in cs)) (λ i t. has_voted-casts cs t i)
    ∙ all_each (casts is_cast cs) (λ c. is_cast c.vote) cs (casts_each is_cast cs h)

pub yes_of-cast : (cs : List Child) → are_distinct cs ≡ true
    → yes_of (accepted_in cs) (votes_in cs) ≡ accepted_in (filter (λ c. is_vote Yes c.vote) cs)
unfolding yes_of
yes_of-cast cs h =
    ap (λ q. filter q (accepted_in cs)) (λ i t. voted-casts Yes cs t i)
    ∙ filter_each (casts (is_vote Yes) cs) (λ c. is_vote Yes c.vote) cs (casts_each (is_vote Yes) cs h)

pub undecided_of-cast : (cs : List Child) → are_distinct cs ≡ true
    → undecided_of (accepted_in cs) (votes_in cs) ≡ accepted_in (filter (λ c. is_undecided c.vote) cs)
unfolding undecided_of
undecided_of-cast cs h =
    ap (λ q. filter q (accepted_in cs)) (λ i t. not (voted-casts No cs t i) && not (voted-casts Read cs t i))
    ∙ filter_each (λ t. not (casts (is_vote No) cs t) && not (casts (is_vote Read) cs t))
    (λ c. is_undecided c.vote) cs
    (each_two _ _ _ (λ d no read. λ i. not (no i) && not (read i)) cs (casts_each (is_vote No) cs h)
    (casts_each (is_vote Read) cs h))

pub counted-awaits : (cs : List Child) (t : Ticket) → are_distinct cs ≡ true
    → awaits_vote t cs ≡ is_counted (accepted_in cs) (votes_in cs) t
counted-awaits cs t h = awaits-counted cs t h
    ∙ ap (λ b. in_list (accepted_in cs) t && not b) (sym (has_voted-casts cs t))

counted_there : (a b : Bool) → (a && not b) ≡ true → a ≡ true
counted_there true b h = refl
counted_there false b h = absurd (cc)

counted_new : (a b : Bool) → (a && not b) ≡ true → b ≡ false
counted_new a true h = absurd (all_false a h)
  where
    all_false : (a : Bool) → (a && false) ≡ true → ⊥
    all_false true h = cc
    all_false false h = cc
counted_new a false h = refl

-- a vote that counts is of a child that has not voted
pub counted_is : (cs : List Child) (t : Ticket) → is_counted (accepted_in cs) (votes_in cs) t ≡ true
    → (in_list (accepted_in cs) t ≡ true) × (casts is_cast cs t ≡ false)
counted_is cs t counted = (counted_there _ _ counted, sym (has_voted-casts cs t) ∙ counted_new _ _ counted)

pub voted_so-push : (o : Vote) (vs : List (Ticket × Vote)) (t : Ticket) (w : Vote) (u : Ticket)
    → voted_so o (vs ++ (t, w) ∷ []) u ≡ (voted_so o vs u || (same_vote o w && same_ticket t u))
unfolding voted_so
voted_so-push o [] t w u = grind (arith, common_steps)
voted_so-push o (v ∷ vs) t w u = ap (λ b. (same_vote o v.1 && same_ticket v.0 u) || b) (voted_so-push o vs t w
    u) ∙ or_assoc (same_vote o v.1 && same_ticket v.0 u) (voted_so o vs u) (same_vote o w && same_ticket t u)
