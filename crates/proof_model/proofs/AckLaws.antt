-- Acknowledgements at a case of a coordinator.
use Rattle.std.proofs.Common.{◌≡◌, ◌∙◌, ap, sym, ◌&&◌, ◌||◌, not, inl, inr, Bool, true, false, List, [], ◌∷◌, ◌++◌, refl, arith, if◌then◌else◌}
use Rattle.std.specs.Prelude.{filter}
use Rattle.std.proofs.lemmas.List.{append-nil}
use Rattle.std.proofs.lemmas.List.Folds.{list_any-append}
use Rattle.std.proofs.lemmas.Grind.{flat_map-append}
use Rattle.std.proofs.lemmas.Map.Views.{any-filter_same}
use Rattle.protocol.specs.declared.names.Case.{Case}
use Rattle.protocol.specs.declared.names.Ticket.{Ticket}
use Rattle.protocol.specs.declared.names.Outcome.{Outcome}
use Rattle.protocol_words.specs.Variants.{AbortedOutcome, CommittedOutcome}
use Rattle.protocol.specs.declared.names.Presumption.{Presumption}
use Rattle.protocol.specs.declared.messages.Finding.{Finding}
use Rattle.protocol.specs.declared.records.Record.{Record}
use Rattle.protocol.specs.declared.standings.Standing.TheVariants.{Unknown, Prepared, Committing, Aborting}
use Rattle.protocol.specs.Names.{same_ticket, same_outcome}
use Rattle.protocol.specs.NameLaws.{same_ticket_tells}
use Rattle.protocol.specs.Records.{in_list, none_of, owing_by}
use Rattle.protocol.specs.Nodes.{Version, entries_written}
use Rattle.protocol.specs.Memory.{Memory, Phase, Idle, Open, Asked, Over, has_acked, first_found, found_of}
use Rattle.protocol.specs.Standings.{unknown_view, view_at, still_owed, other_outcome}
use Rattle.protocol.specs.CoordinatorRows.{Seat, decided_ack, other_tickets}
use Rattle.proof_model.proofs.TicketLaws.{other_false, pushed}
use Rattle.proof_model.proofs.StandingLaws.{standing_with}

-- Acknowledgements.

-- no acknowledgement is heard while children or votes can still come
abbrev pub QuietAt : Phase → List (Ticket × Outcome) → Type 0
QuietAt Open acks = acks ≡ []
QuietAt Asked acks = acks ≡ []
QuietAt Idle acks = Unit {0}
QuietAt Over acks = Unit {0}

pub has_acked-push : (acks : List (Ticket × Outcome)) (t u : Ticket) (a o : Outcome)
    → has_acked (acks ++ (t, a) ∷ []) o u ≡ (has_acked acks o u || (same_outcome a o && same_ticket t u))
unfolding has_acked
has_acked-push acks t u a o = grind (arith, list_any-append)

pub filter_same : (f g : Ticket → Bool) (ts : List Ticket) → ((u : Ticket) → f u ≡ g u)
    → filter f ts ≡ filter g ts
filter_same f g [] h = refl
filter_same f g (t ∷ ts) h = rw (h t, filter_same f g ts h) refl

pub or_nothing : (b : Bool) → not (b || false) ≡ not b
or_nothing true = refl
or_nothing false = refl

-- an acknowledgement that disagrees changes nothing
pub disagreeing : (acks : List (Ticket × Outcome)) (t : Ticket) (a o : Outcome) (ts : List Ticket)
    → same_outcome a o ≡ false
    → still_owed (acks ++ (t, a) ∷ []) o ts ≡ still_owed acks o ts
unfolding still_owed
disagreeing acks t a o ts d = filter_same _ _ ts
    (λ u. rw has_acked-push (rw d (or_nothing (has_acked acks o u))))

pub filter_head : (g h : Ticket → Bool) (t : Ticket) (ts : List Ticket) (a b : Bool) → g t ≡ a → h t ≡ b
    → filter g (filter h ts) ≡ filter (λ u. g u && h u) ts
    → filter g (filter h (t ∷ ts)) ≡ filter (λ u. g u && h u) (t ∷ ts)
filter_head g h t ts true true e k ih = simp (e, k, ih) refl
filter_head g h t ts true false e k ih = simp (e, k, ih) refl
filter_head g h t ts false true e k ih = simp (e, k, ih) refl
filter_head g h t ts false false e k ih = simp (e, k, ih) refl

pub filter_filter : (g h : Ticket → Bool) (ts : List Ticket)
    → filter g (filter h ts) ≡ filter (λ u. g u && h u) ts
filter_filter g h [] = refl
filter_filter g h (t ∷ ts) = filter_head g h t ts (g t) (h t) refl refl (filter_filter g h ts)

pub same_outcome-refl : (o : Outcome) → same_outcome o o ≡ true
unfolding same_outcome
same_outcome-refl CommittedOutcome = refl
same_outcome-refl AbortedOutcome = refl

pub neither : (a b : Bool) → not (a || (true && b)) ≡ (not b && not a)
neither true true = refl
neither true false = refl
neither false true = refl
neither false false = refl

-- an acknowledgement that agrees takes its ticket away
pub agreeing : (acks : List (Ticket × Outcome)) (t : Ticket) (o : Outcome) (ts : List Ticket)
    → still_owed (acks ++ (t, o) ∷ []) o ts ≡ other_tickets t (still_owed acks o ts)
unfolding still_owed other_tickets
agreeing acks t o ts =
    filter_same _ _ ts (λ u. rw has_acked-push
    (rw (same_outcome-refl o) (neither (has_acked acks o u) (same_ticket t u))))
    ∙ sym (filter_filter (λ u. not (same_ticket t u)) (λ u. not (has_acked acks o u)) ts)

pub flipped : (a b : Ticket) → same_ticket a b ≡ same_ticket b a
flipped a b = grind (arith, same_ticket_tells)

pub none_taken : (t u : Ticket) (ts : List Ticket) (b : Bool) → same_ticket u t ≡ b
    → (b || in_list ts t) ≡ false
    → other_tickets t ts ≡ ts → other_tickets t (u ∷ ts) ≡ u ∷ ts
unfolding other_tickets in_list
none_taken t u ts true e h ih = absurd (cc)
none_taken t u ts false e h ih = rw (flipped t u, e) (ap (λ l. u ∷ l) ih)

-- a ticket that is not there takes nothing away
pub not_there : (t : Ticket) (ts : List Ticket) → in_list ts t ≡ false → other_tickets t ts ≡ ts
unfolding other_tickets in_list
not_there t [] h = refl
not_there t (u ∷ us) h = none_taken t u us (same_ticket u t) refl h
    (not_there t us (other_false (same_ticket u t) (in_list us t) h))

abbrev pub acked : Memory → Ticket → Outcome → List Finding → Memory
acked m t o fs = record m { acks = m.acks ++ (t, o) ∷ []; found = m.found ++ first_found m t o fs }

-- What is found.

pub found_push : (found : List (Ticket × (Outcome × List Finding))) (t : Ticket) (a o : Outcome)
    (fs : List Finding) (ts : List Ticket)
    → found_of (found ++ (t, (a, fs)) ∷ []) o ts
    ≡ found_of found o ts ++ (if same_outcome a o && in_list ts t then fs else [])
unfolding found_of
found_push found t a o fs ts =
    flat_map-append _ found ((t, (a, fs)) ∷ [])
    ∙ ap (λ l. found_of found o ts ++ l) (append-nil (if same_outcome a o && in_list ts t then fs else []))

-- an acknowledgement that disagrees brings nothing
pub found_apart : (acks : List (Ticket × Outcome))
    (found : List (Ticket × (Outcome × List Finding))) (t : Ticket)
    (a o : Outcome) (fs : List Finding) (ts : List Ticket) → same_outcome a o ≡ false
    → found_of (found ++ (if has_acked acks a t then [] else (t, (a, fs)) ∷ [])) o ts ≡ found_of found o ts
found_apart acks found t a o fs ts d = by_test (has_acked acks a t)
  where
    by_test : (b : Bool)
        → found_of (found ++ (if b then [] else (t, (a, fs)) ∷ [])) o ts ≡ found_of found o ts
    by_test true = ap (λ l. found_of l o ts) (append-nil found)
    by_test false =
        found_push found t a o fs ts
        ∙ (ap (λ b. found_of found o ts ++ (if b && in_list ts t then fs else [])) d
        ∙ append-nil (found_of found o ts))

-- who still owes is named, and has not acknowledged
pub still_there : (acks : List (Ticket × Outcome)) (o : Outcome) (t : Ticket) (ts : List Ticket)
    → in_list (still_owed acks o ts) t ≡ (not (has_acked acks o t) && in_list ts t)
unfolding still_owed in_list
still_there acks o t ts =
    any-filter_same (λ u. same_ticket u t) (λ u. not (has_acked acks o u)) (not (has_acked acks o t))
    (λ u e. ap (λ v. not (has_acked acks o v)) (is_same u e)) ts
  where
    is_same : (u : Ticket) → same_ticket u t ≡ true → u ≡ t
    is_same u e = elim (same_ticket_tells u t) [ inl k ↦ k.1 | inr k ↦ absurd (let z = k.0 in cc) ]

-- an acknowledgement brings what it found where its ticket still owes it
pub found_taken : (acks : List (Ticket × Outcome))
    (found : List (Ticket × (Outcome × List Finding))) (t : Ticket)
    (o : Outcome) (fs : List Finding) (ts : List Ticket)
    → found_of (found ++ (if has_acked acks o t then [] else (t, (o, fs)) ∷ [])) o ts
    ≡ found_of found o ts ++ (if in_list (still_owed acks o ts) t then fs else [])
found_taken acks found t o fs ts = by_test (has_acked acks o t) refl
  where
    by_test : (b : Bool) → has_acked acks o t ≡ b
        → found_of (found ++ (if b then [] else (t, (o, fs)) ∷ [])) o ts
        ≡ found_of found o ts ++ (if in_list (still_owed acks o ts) t then fs else [])
    by_test true e =
        ap (λ l. found_of l o ts) (append-nil found)
        ∙ sym (ap (λ b. found_of found o ts ++ (if b then fs else [])) (still_there acks o t ts
        ∙ ap (λ b. not b && in_list ts t) e) ∙ append-nil (found_of found o ts))
    by_test false e =
        found_push found t o o fs ts
        ∙ (ap (λ b. found_of found o ts ++ (if b && in_list ts t then fs else [])) (same_outcome-refl o)
        ∙ sym (ap (λ b. found_of found o ts ++ (if b then fs else [])) (still_there acks o t ts
        ∙ ap (λ b. not b && in_list ts t) e)))

-- of nobody nothing is found
pub found_nobody : (found : List (Ticket × (Outcome × List Finding))) (o : Outcome) → found_of found o [] ≡ []
unfolding found_of in_list
found_nobody [] o = refl
found_nobody (a ∷ fs) o = by_test (same_outcome a.1.0 o) (found_nobody fs o)
  where
    by_test : (b : Bool) → found_of fs o [] ≡ [] → ((if b && false then a.1.1 else []) ++ found_of fs o [])
        ≡ []
    by_test true none = none
    by_test false none = none

-- an acknowledgement that agrees with the decision
pub acked_commit : (ver : Version) (s : Seat) (p : Presumption) (t : Ticket) (rs : List Record) (m : Memory)
    (fs : List Finding) (b none : Bool)
    → standing_with p rs s.own m ≡ Committing
    → in_list (still_owed m.acks CommittedOutcome (owing_by s.own rs)) t ≡ b
    → none_of (other_tickets t (still_owed m.acks CommittedOutcome (owing_by s.own rs))) ≡ none
    → let v = view_at Committing rs s.own m in
    let row = decided_ack ver s CommittedOutcome t (v.found ++ fs) v in
    let rs' = rs ++ entries_written row.written in
    view_at (standing_with p rs' s.own (acked m t CommittedOutcome fs)) rs' s.own
    (acked m t CommittedOutcome fs)
    ≡ row.view
acked_commit ver s p t rs m fs true true h there last = simp (pushed, there, last) refl
acked_commit ver s p t rs m fs true false h there last =
    let brings = found_taken m.acks m.found t CommittedOutcome fs (owing_by s.own rs) in
    simp (append-nil, there, last, h, agreeing, brings) refl
acked_commit ver s p t rs m fs false none h there last =
    let stays : other_tickets t (still_owed m.acks CommittedOutcome (owing_by s.own rs))
    ≡ still_owed m.acks CommittedOutcome (owing_by s.own rs) =
    not_there t (still_owed m.acks CommittedOutcome (owing_by s.own rs)) there in
    let brings = found_taken m.acks m.found t CommittedOutcome fs (owing_by s.own rs) in
    simp (append-nil, there, h, agreeing, stays, brings) refl

pub acked_abort : (ver : Version) (s : Seat) (p : Presumption) (t : Ticket) (rs : List Record) (m : Memory)
    (fs : List Finding) (b none : Bool)
    → standing_with p rs s.own m ≡ Aborting
    → in_list (still_owed m.acks AbortedOutcome (owing_by s.own rs)) t ≡ b
    → none_of (other_tickets t (still_owed m.acks AbortedOutcome (owing_by s.own rs))) ≡ none
    → let v = view_at Aborting rs s.own m in
    let row = decided_ack ver s AbortedOutcome t (v.found ++ fs) v in
    let rs' = rs ++ entries_written row.written in
    view_at (standing_with p rs' s.own (acked m t AbortedOutcome fs)) rs' s.own (acked m t AbortedOutcome fs)
    ≡ row.view
acked_abort ver s p t rs m fs true true h there last = simp (pushed, there, last) refl
acked_abort ver s p t rs m fs true false h there last =
    let brings = found_taken m.acks m.found t AbortedOutcome fs (owing_by s.own rs) in
    simp (append-nil, there, last, h, agreeing, brings) refl
acked_abort ver s p t rs m fs false none h there last =
    let stays : other_tickets t (still_owed m.acks AbortedOutcome (owing_by s.own rs))
    ≡ still_owed m.acks AbortedOutcome (owing_by s.own rs) =
    not_there t (still_owed m.acks AbortedOutcome (owing_by s.own rs)) there in
    let brings = found_taken m.acks m.found t AbortedOutcome fs (owing_by s.own rs) in
    simp (append-nil, there, h, agreeing, stays, brings) refl

-- one that disagrees
pub apart : (o : Outcome) → same_outcome o (other_outcome o) ≡ false
unfolding same_outcome
apart CommittedOutcome = refl
apart AbortedOutcome = refl

pub owed_none : (acks : List (Ticket × Outcome)) (o : Outcome) → still_owed acks o [] ≡ []
unfolding still_owed
owed_none acks o = refl

pub refused_commit : (c : Case) (p : Presumption) (t : Ticket) (rs : List Record) (m : Memory)
    (fs : List Finding)
    → standing_with p rs c m ≡ Committing
    → view_at (standing_with p (rs ++ []) c (acked m t AbortedOutcome fs)) (rs ++ []) c
    (acked m t AbortedOutcome fs) ≡ view_at Committing rs c m
refused_commit c p t rs m fs h =
    let same : still_owed (m.acks ++ (t, AbortedOutcome) ∷ []) CommittedOutcome (owing_by c rs)
    ≡ still_owed m.acks CommittedOutcome (owing_by c rs) =
    disagreeing m.acks t AbortedOutcome CommittedOutcome (owing_by c rs) (apart AbortedOutcome) in
    let brings = found_apart m.acks m.found t AbortedOutcome CommittedOutcome fs (owing_by c rs)
    (apart AbortedOutcome) in
    simp (append-nil, h, same, brings) refl

pub refused_abort : (c : Case) (p : Presumption) (t : Ticket) (rs : List Record) (m : Memory)
    (fs : List Finding)
    → standing_with p rs c m ≡ Aborting
    → view_at (standing_with p (rs ++ []) c (acked m t CommittedOutcome fs)) (rs ++ []) c
    (acked m t CommittedOutcome fs) ≡ view_at Aborting rs c m
refused_abort c p t rs m fs h =
    let same : still_owed (m.acks ++ (t, CommittedOutcome) ∷ []) AbortedOutcome (owing_by c rs)
    ≡ still_owed m.acks AbortedOutcome (owing_by c rs) =
    disagreeing m.acks t CommittedOutcome AbortedOutcome (owing_by c rs) (apart CommittedOutcome) in
    let brings = found_apart m.acks m.found t CommittedOutcome AbortedOutcome fs (owing_by c rs)
    (apart CommittedOutcome) in
    simp (append-nil, h, same, brings) refl

-- one at a case that was not decided
pub unawaited : (c : Case) (p : Presumption) (t : Ticket) (o : Outcome) (rs : List Record) (m : Memory)
    (fs : List Finding)
    → standing_with p rs c m ≡ Unknown
    → view_at (standing_with p (rs ++ []) c (acked m t o fs)) (rs ++ []) c (acked m t o fs) ≡ unknown_view
unawaited c p t o rs m fs h = simp (append-nil, h) refl

pub promised_ack : (c : Case) (p : Presumption) (t : Ticket) (o : Outcome) (rs : List Record) (m : Memory)
    (fs : List Finding)
    → standing_with p rs c m ≡ Prepared → owing_by c rs ≡ []
    → view_at (standing_with p (rs ++ []) c (acked m t o fs)) (rs ++ []) c (acked m t o fs)
    ≡ view_at Prepared rs c m
promised_ack c p t o rs m fs h owes = simp (append-nil, h) (simp (owes, owed_none, found_nobody) refl)
