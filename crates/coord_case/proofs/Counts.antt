-- How many of the children have voted, and how.
use Rattle.std.proofs.Common.{◌≡◌, ◌≤◌, ℕ, ◌+◌, ◌==◌, length, Bool, true, false, ◌&&◌, ◌||◌, cond, Option, None, Some, List, [], ◌∷◌, ◌++◌, filter, find, if◌then◌else◌, refl, sym, ap, ◌∙◌, arith}
use Rattle.std.proofs.lemmas.Grind.{common_steps}
use Rattle.std.proofs.lemmas.List.Sums.{count_by-le-length, sum_by-cons, sum_by_push}
use Rattle.std.specs.List.{count_by, list_all}
use Rattle.protocol.specs.declared.names.Ticket.{Ticket}
use Rattle.protocol.specs.declared.standings.Vote.{Vote}
use Rattle.protocol.specs.declared.standings.Vote.TheVariants.{Yes}
use Rattle.protocol.specs.Names.{same_ticket}
use Rattle.protocol.specs.Records.{in_list, none_of}
use Rattle.coord_case.specs.declared.child.Child.{Child}
use Rattle.coord_case.specs.Lives.{accepted_in, casts, changing, is_cast, is_missing, is_vote, missing_in, sending, vote_found, voting, yes_by, yes_in}
use Rattle.coord_case.proofs.Children.{second_false}

-- one, if the vote passes the test
abbrev pub one_if : (Option Vote → Bool) → Option Vote → ℕ
one_if p w = cond (p w) 1 0

-- how many of the children have a vote that passes the test
abbrev pub counted : (Option Vote → Bool) → List Child → ℕ
counted p cs = count_by (λ c. p c.vote) cs

pub counted-cons : (p : Option Vote → Bool) (c : Child) (cs : List Child)
    → counted p (c ∷ cs) ≡ one_if p c.vote + counted p cs
counted-cons p c cs = sum_by-cons (λ d. cond (p d.vote) 1 0) c cs

pub counted-push : (p : Option Vote → Bool) (cs : List Child) (c : Child)
    → counted p (cs ++ c ∷ []) ≡ counted p cs + one_if p c.vote
counted-push p cs c = sum_by_push (λ d. cond (p d.vote) 1 0) cs c

-- the first child of the ticket has another vote
pub counted-voting : (p : Option Vote → Bool) (t : Ticket) (w : Option Vote) (cs : List Child) (c : Child)
    → find (λ d. same_ticket d.ticket t) cs ≡ Some c
    → counted p (changing t (voting w) cs) + one_if p c.vote ≡ counted p cs + one_if p w
counted-voting p t w [] c h = absurd (cc)
counted-voting p t w (d ∷ cs) c h = by_test (same_ticket d.ticket t) h (counted-voting p t w cs c)
  where
    by_test : (b : Bool) → cond b (Some d) (find (λ e. same_ticket e.ticket t) cs) ≡ Some c
        → (find (λ e. same_ticket e.ticket t) cs ≡ Some c
        → counted p (changing t (voting w) cs) + one_if p c.vote ≡ counted p cs + one_if p w)
        → counted p (if b then voting w d ∷ cs else d ∷ changing t (voting w) cs) + one_if p c.vote
        ≡ counted p (d ∷ cs) + one_if p w
    by_test true h rest =
        let is : d ≡ c = cc in
        let same : one_if p d.vote ≡ one_if p c.vote = ap (λ (x : Child). one_if p x.vote) is in
        omega (arith, counted-cons p (voting w d) cs, counted-cons p d cs, same)
    by_test false h rest =
        omega (arith, counted-cons p d (changing t (voting w) cs), counted-cons p d cs, rest h)

-- works count for no vote
pub counted-sending : (p : Option Vote → Bool) (t : Ticket) (n : ℕ) (cs : List Child)
    → counted p (changing t (sending n) cs) ≡ counted p cs
counted-sending p t n [] = refl
counted-sending p t n (d ∷ cs) = by_test (same_ticket d.ticket t) (counted-sending p t n cs)
  where
    by_test : (b : Bool) → counted p (changing t (sending n) cs) ≡ counted p cs
        → counted p (if b then sending n d ∷ cs else d ∷ changing t (sending n) cs) ≡ counted p (d ∷ cs)
    by_test true rest = counted-cons p (sending n d) cs ∙ sym (counted-cons p d cs)
    by_test false rest =
        counted-cons p d (changing t (sending n) cs) ∙ ap (λ k. one_if p d.vote + k) rest
        ∙ sym (counted-cons p d cs)

-- the first child of a ticket that is accepted and has not voted has no vote
pub first_missing : (cs : List Child) (t : Ticket) → in_list (accepted_in cs) t ≡ true
    → casts is_cast cs t ≡ false
    → (c : Child) × (find (λ d. same_ticket d.ticket t) cs ≡ Some c) × (c.vote ≡ None)
unfolding in_list
first_missing [] t there uncast = absurd (cc)
first_missing (d ∷ cs) t there uncast =
    by_test (same_ticket d.ticket t) there uncast (first_missing cs t)
  where
    voteless : (w : Option Vote) (below : Bool) → ((is_cast w && true) || below) ≡ false → w ≡ None
    voteless None below h = refl
    voteless (Some w) below h = absurd (cc)

    by_test : (b : Bool) → (b || in_list (accepted_in cs) t) ≡ true
        → ((is_cast d.vote && b) || casts is_cast cs t) ≡ false
        → (in_list (accepted_in cs) t ≡ true → casts is_cast cs t ≡ false
        → (c : Child) × (find (λ e. same_ticket e.ticket t) cs ≡ Some c) × (c.vote ≡ None))
        → (c : Child) × (cond b (Some d) (find (λ e. same_ticket e.ticket t) cs) ≡ Some c) × (c.vote ≡ None)
    by_test true there uncast rest = (d, refl, voteless d.vote _ uncast)
    by_test false there uncast rest = rest there (second_false _ _ uncast)

-- the first vote of a ticket is one less that is missing
pub vote_counts : (cs : List Child) (t : Ticket) (w : Vote) → in_list (accepted_in cs) t ≡ true
    → casts is_cast cs t ≡ false
    → (missing_in (changing t (voting (Some w)) cs) + 1 ≡ missing_in cs)
    × (yes_in (changing t (voting (Some w)) cs) ≡ yes_in cs + yes_by (Some w))
vote_counts cs t w there uncast =
    let first = first_missing cs t there uncast in
    let missing = counted-voting is_missing t (Some w) cs first.0 first.1 in
    let yes = counted-voting (is_vote Yes) t (Some w) cs first.0 first.1 in
    let one : one_if is_missing first.0.vote ≡ 1 = ap (one_if is_missing) first.2 in
    let nothing : one_if (is_vote Yes) first.0.vote ≡ 0 = ap (one_if (is_vote Yes)) first.2 in
    (omega (arith, missing, one), omega (arith, yes, nothing))

found_voted : (o : Option Child) (w : Vote) → vote_found o ≡ Some w
    → (c : Child) × (o ≡ Some c) × (c.vote ≡ Some w)
found_voted None w h = absurd (cc)
found_voted (Some c) w h = (c, refl, h)

-- a vote that is taken back is one more that is missing
pub vote_uncounts : (cs : List Child) (t : Ticket) (w : Vote)
    → vote_found (find (λ d. same_ticket d.ticket t) cs) ≡ Some w
    → (missing_in (changing t (voting None) cs) ≡ missing_in cs + 1)
    × (yes_in (changing t (voting None) cs) + yes_by (Some w) ≡ yes_in cs)
vote_uncounts cs t w voted =
    let first = found_voted _ w voted in
    let missing = counted-voting is_missing t None cs first.0 first.1 in
    let yes = counted-voting (is_vote Yes) t None cs first.0 first.1 in
    let nothing : one_if is_missing first.0.vote ≡ 0 = ap (one_if is_missing) first.2 in
    let own : one_if (is_vote Yes) first.0.vote ≡ yes_by (Some w) = ap (one_if (is_vote Yes)) first.2 in
    (omega (arith, missing, nothing), omega (arith, yes, own))

-- there is no vote to take back
pub unvoting-none : (cs : List Child) (t : Ticket)
    → vote_found (find (λ d. same_ticket d.ticket t) cs) ≡ None → changing t (voting None) cs ≡ cs
unvoting-none [] t h = refl
unvoting-none (d ∷ cs) t h = by_test (same_ticket d.ticket t) h (unvoting-none cs t)
  where
    by_test : (b : Bool) → vote_found (cond b (Some d) (find (λ e. same_ticket e.ticket t) cs)) ≡ None
        → (vote_found (find (λ e. same_ticket e.ticket t) cs) ≡ None → changing t (voting None) cs ≡ cs)
        → (if b then voting None d ∷ cs else d ∷ changing t (voting None) cs) ≡ d ∷ cs
    by_test true h rest = ap (λ w. voting w d ∷ cs) (sym h)
    by_test false h rest = ap (λ ds. d ∷ ds) (rest h)

-- no more votes are missing than there are children
pub few_missing : (cs : List Child) → missing_in cs ≤ length cs
few_missing cs = count_by-le-length (λ c. is_missing c.vote) cs

-- no more votes are YES than there are children
pub few_yes : (cs : List Child) → yes_in cs ≤ length cs
few_yes cs = count_by-le-length (λ c. is_vote Yes c.vote) cs

no_more : (n : ℕ) → 0 + n ≡ n
no_more n = omega arith

-- each child has voted just if none is missing
pub none_missing : (cs : List Child) → (missing_in cs == 0) ≡ list_all (λ c. is_cast c.vote) cs
none_missing [] = refl
none_missing (c ∷ cs) =
    ap (λ n. n == 0) (counted-cons is_missing c cs) ∙ by_vote c.vote (missing_in cs) _ (none_missing cs)
  where
    by_vote : (w : Option Vote) (n : ℕ) (b : Bool) → (n == 0) ≡ b
        → (one_if is_missing w + n == 0) ≡ (is_cast w && b)
    by_vote None n b h = grind (arith, common_steps)
    by_vote (Some w) n b h = ap (λ m. m == 0) (no_more n) ∙ h

-- nobody voted YES just if none is counted
pub none_yes : (cs : List Child)
    → (yes_in cs == 0) ≡ none_of (accepted_in (filter (λ c. is_vote Yes c.vote) cs))
unfolding none_of
none_yes [] = refl
none_yes (c ∷ cs) =
    ap (λ n. n == 0) (counted-cons (is_vote Yes) c cs)
    ∙ by_test (is_vote Yes c.vote) (yes_in cs) (filter (λ d. is_vote Yes d.vote) cs) (none_yes cs)
  where
    by_test : (b : Bool) (n : ℕ) (ds : List Child) → (n == 0) ≡ none_of (accepted_in ds)
        → (cond b 1 0 + n == 0) ≡ none_of (accepted_in (cond b (c ∷ ds) ds))
    by_test true n ds h = grind (arith, common_steps)
    by_test false n ds h = ap (λ m. m == 0) (no_more n) ∙ h
