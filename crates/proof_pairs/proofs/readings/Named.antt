-- Who is named, and who is sent to.
use Rattle.std.proofs.Common.{◌≡◌, ◌∙◌, Bool, true, false, ◌||◌, ◌&&◌, if◌then◌else◌, List, [], ◌∷◌, ◌++◌, map, filter, refl, ap, arith}
use Rattle.std.specs.List.{list_any, flat_map}
use Rattle.std.proofs.lemmas.List.Folds.{list_any-append}
use Rattle.protocol.specs.declared.names.Case.{Case}
use Rattle.protocol.specs.declared.names.Ticket.{Ticket}
use Rattle.protocol.specs.declared.messages.Message.{Message}
use Rattle.protocol.specs.declared.messages.Message.TheVariants.{Commit, Abort}
use Rattle.protocol.specs.declared.records.Record.{Record}
use Rattle.protocol.specs.declared.records.Record.TheVariants.{Opened, Collecting, Prepare, End, Prepared, Committed, RolledBack, Direct, HeurCommit, HeurRollback, Told, Forgot, Base, Pair, Cleared}
use Rattle.protocol_words.specs.Variants.{AbortRecord, CommitRecord, VoteYes}
use Rattle.protocol.specs.declared.standings.Vote.{Vote}
use Rattle.protocol.specs.Memory.{yes_of, voted_so}
use Rattle.protocol.specs.Names.{same_case, same_ticket, child_case}
use Rattle.protocol.specs.NameLaws.{same_ticket-refl, names}
use Rattle.protocol.specs.Records.{has, in_list, promised_by, promised_in}
use Rattle.protocol.specs.CoordinatorRows.{Seat, each, to_child}
use Rattle.protocol.specs.Outcomes.{sent}
use Rattle.protocol.specs.Audits.{is_prepare_naming}

in_list-append : (xs ys : List Ticket) (t : Ticket) → in_list (xs ++ ys) t ≡ (in_list xs t || in_list ys t)
unfolding in_list
in_list-append xs ys t = grind (arith, list_any-append)

in_list-if : (b : Bool) (ts : List Ticket) (t : Ticket)
    → in_list (if b then ts else []) t ≡ (b && in_list ts t)
unfolding in_list
in_list-if true ts t = refl
in_list-if false ts t = refl

pub in_list-none : (t : Ticket) → in_list [] t ≡ false
unfolding in_list
in_list-none t = refl

promised_in-naming : (c : Case) (t : Ticket) (r : Record)
    → in_list (promised_in c r) t ≡ is_prepare_naming c t r
promised_in-naming c t (Prepare d ts) = in_list-if (same_case d c) ts t
promised_in-naming c t (Opened n) = in_list-none t
promised_in-naming c t (Collecting d ts) = in_list-none t
promised_in-naming c t (CommitRecord d ts) = in_list-none t
promised_in-naming c t (AbortRecord d ts) = in_list-none t
promised_in-naming c t (End d r) = in_list-none t
promised_in-naming c t (Cleared d) = in_list-none t
promised_in-naming c t (Prepared b ws) = in_list-none t
promised_in-naming c t (Committed b) = in_list-none t
promised_in-naming c t (RolledBack b) = in_list-none t
promised_in-naming c t (Direct b ws) = in_list-none t
promised_in-naming c t (HeurCommit b) = in_list-none t
promised_in-naming c t (HeurRollback b) = in_list-none t
promised_in-naming c t (Told b o) = in_list-none t
promised_in-naming c t (Forgot b) = in_list-none t
promised_in-naming c t (Base n) = in_list-none t
promised_in-naming c t (Pair k v) = in_list-none t

-- a ticket that the promise names
pub promised_by-naming : (c : Case) (t : Ticket) (rs : List Record)
    → in_list (promised_by c rs) t ≡ has (is_prepare_naming c t) rs
unfolding promised_by has
promised_by-naming c t [] = in_list-none t
promised_by-naming c t (r ∷ rs) =
    in_list-append (promised_in c r) (flat_map (promised_in c) rs) t
    ∙ (ap (λ b. b || in_list (flat_map (promised_in c) rs) t) (promised_in-naming c t r)
    ∙ ap (λ b. is_prepare_naming c t r || b) (promised_by-naming c t rs))

-- the same message to each of these tickets
pub sent-each_commit : (s : Seat) (t : Ticket) (ts : List Ticket) (q : Message → Bool)
    → ((u : Ticket) → q (Commit (child_case s.own.txn u)) ≡ same_ticket u t)
    → sent q (each s Commit ts) ≡ in_list ts t
unfolding sent in_list
sent-each_commit s t [] q f = refl
sent-each_commit s t (u ∷ us) q f = ap (λ b. b || list_any (λ e. q e.message) (map (to_child s Commit) us))
    (f u) ∙ ap (λ b. same_ticket u t || b) (sent-each_commit s t us q f)

pub sent-each_abort : (s : Seat) (t : Ticket) (ts : List Ticket) (q : Message → Bool)
    → ((u : Ticket) → q (Abort (child_case s.own.txn u)) ≡ same_ticket u t)
    → sent q (each s Abort ts) ≡ in_list ts t
unfolding sent in_list
sent-each_abort s t [] q f = refl
sent-each_abort s t (u ∷ us) q f = ap (λ b. b || list_any (λ e. q e.message) (map (to_child s Abort) us))
    (f u) ∙ ap (λ b. same_ticket u t || b) (sent-each_abort s t us q f)

-- other tests find none of these messages
pub sent-each_none : (s : Seat) (m : Case → Message) (ts : List Ticket) (q : Message → Bool)
    → ((d : Case) → q (m d) ≡ false) → sent q (each s m ts) ≡ false
unfolding sent
sent-each_none s m [] q f = refl
sent-each_none s m (u ∷ us) q f = ap (λ b. b || list_any (λ e. q e.message) (map (to_child s m) us))
    (f (child_case s.own.txn u)) ∙ sent-each_none s m us q f

pub same_child : (c : Case) (u t : Ticket)
    → same_case (child_case c.txn u) (child_case c.txn t) ≡ same_ticket u t
same_child c u t = grind (arith, names)

-- the tickets of a list that voted so
in_list-step : (b q r p : Bool) (u t : Ticket) (vs : List (Ticket × Vote)) (rest : List Ticket)
    → in_list rest t ≡ (r && p) → voted_so VoteYes vs u ≡ b → voted_so VoteYes vs t ≡ p
    → same_ticket u t ≡ q
    → in_list (if b then u ∷ rest else rest) t ≡ ((q || r) && p)
unfolding in_list
in_list-step b true r p u t vs rest rec e f g = grind (arith, names)
in_list-step b false r p u t vs rest rec e f g = grind (arith, names)

pub in_list-yes : (ts : List Ticket) (vs : List (Ticket × Vote)) (t : Ticket)
    → in_list (yes_of ts vs) t ≡ (in_list ts t && voted_so VoteYes vs t)
unfolding in_list yes_of
in_list-yes [] vs t = refl
in_list-yes (u ∷ us) vs t = in_list-step (voted_so VoteYes vs u) (same_ticket u t)
    (list_any (λ a. same_ticket a t) us) (voted_so VoteYes vs t) u t vs (filter (voted_so VoteYes vs) us)
    (in_list-yes us vs t) refl refl refl

pub voted_so-last : (vs : List (Ticket × Vote)) (t : Ticket)
    → voted_so VoteYes (vs ++ (t, VoteYes) ∷ []) t ≡ true
unfolding voted_so
voted_so-last vs t = grind (arith, list_any-append, same_ticket-refl)
