-- Which rows of the root append an End, and with what reports.
use Rattle.std.proofs.Common.{◌≡◌, ◌∙◌, ℕ, zero, suc, Bool, true, Option, Some, None, List, [], ◌∷◌, take, refl, ap, subst}
use Rattle.std.specs.Prelude.{slice_get}
use Rattle.protocol.specs.declared.names.Case.{Case}
use Rattle.protocol.specs.declared.names.Presumption.TheVariants.{PresumeAbort, PresumeCommit}
use Rattle.protocol.specs.declared.names.Ticket.{Ticket}
use Rattle.protocol.specs.declared.names.Outcome.{Outcome}
use Rattle.protocol.specs.declared.messages.Finding.{Finding}
use Rattle.protocol.specs.declared.messages.Message.TheVariants.{Ack}
use Rattle.protocol.specs.declared.records.Record.{Record}
use Rattle.protocol_words.specs.Variants.{EndRecord}
use Rattle.protocol.specs.declared.records.Reports.{Reports}
use Rattle.protocol.specs.declared.standings.Standing.TheVariants.{Collecting}
use Rattle.protocol.specs.Records.{has, none_of}
use Rattle.protocol.specs.Nodes.{Effect, Heard, Node, Place, Written, entries_written}
use Rattle.protocol.specs.CoordinatorRows.{Row, end_reports, other_tickets}
use Rattle.protocol.specs.Restarts.{forced_all}
use Rattle.protocol.specs.Standings.{coordinator_view, found_below}
use Rattle.proof_pairs.specs.turns.CoordinatorTurns.{CaseTurn, CoordinatorTurn, HasDecided, HearsChild, aborts, accepts, acknowledges, clears, answers, asks, asks_for_votes, begins, commits, counts_vote, does_nothing, ends, finds_nobody, gives_again, gives_fresh, gives_up, hears_no, invites, of_case, passes_abort, passes_commit, presumes, promises, reads_only, refuses, repeats_yes, rests, sends_work, waits_for_acks}
use Rattle.proof_processes.proofs.Tests.{has-cons, left, right}

-- Lists.

pub has_at : (q : Record → Bool) (rs : List Record) (j : ℕ) (r : Record) → slice_get rs j ≡ Some r
    → q r ≡ true
    → has q rs ≡ true
has_at q [] j r e f = absurd (cc)
has_at q (x ∷ rs) zero r e f = has-cons q x rs ∙ left _ _ (let g : x ≡ r = cc in ap q g ∙ f)
has_at q (x ∷ rs) (suc j) r e f = has-cons q x rs ∙ right (q x) _ (has_at q rs j r e f)

pub taken_at : (a : ℕ) (ws : List Written) (j : ℕ) (r : Record)
    → slice_get (entries_written (take a ws)) j ≡ Some r → slice_get (entries_written ws) j ≡ Some r
taken_at zero ws j r e = absurd (cc)
taken_at (suc a) [] j r e = absurd (cc)
taken_at (suc a) (w ∷ ws) zero r e = e
taken_at (suc a) (w ∷ ws) (suc j) r e = taken_at a ws j r e

pub entries_taken : (a : ℕ) (ws : List Written) → entries_written (take a ws) ≡ take a (entries_written ws)
entries_taken zero ws = refl
entries_taken (suc a) [] = refl
entries_taken (suc a) (w ∷ ws) = ap (λ rs. w.entry ∷ rs) (entries_taken a ws)

pub entries_forced : (rs : List Record) → entries_written (forced_all rs) ≡ rs
entries_forced [] = refl
entries_forced (r ∷ rs) = ap (λ xs. r ∷ xs) (entries_forced rs)

none_at : {A : Type 0} (j : ℕ) (r : Record) → slice_get [] j ≡ Some r → A
none_at j r e = absurd (cc)

pub one_at : (x : Record) (j : ℕ) (r : Record) → slice_get (x ∷ []) j ≡ Some r → x ≡ r
one_at x zero r e = let f : x ≡ r = cc in f
one_at x (suc j) r e = absurd (cc)

-- How the root's case ends: all read only, and it reports nothing; or the last acknowledgement has come.
pub data EndsBy (place : Place) (n : Node) (h : Heard) (c : Case) (r : Option Reports) : Type 0 where
  read_only : (coordinator_view place n c).standing ≡ Collecting → EndsBy place n h c r
  acked_last : (t : Ticket) (o : Outcome) (fs : List Finding) → HearsChild place n h c t (λ d. Ack d o fs)
      → HasDecided o (coordinator_view place n c).standing
      → none_of (other_tickets t (coordinator_view place n c).owed) ≡ true
      → end_reports h.version None (found_below place n c o fs) ≡ r → EndsBy place n h c r

module _ (place : Place) (n : Node) (h : Heard) (c : Case) (r : Option Reports) (j : ℕ) where
  abbrev Here : List Written → Type 0
  Here ws = slice_get (entries_written ws) j ≡ Some (EndRecord c r)

  abbrev By : Type 0
  By = EndsBy place n h c r

  none_here : {A : Type 0} → slice_get [] j ≡ Some (EndRecord c r) → A
  none_here e = none_at j (EndRecord c r) e

  other_here : {A : Type 0} (x : Record) → (x ≡ EndRecord c r → ⊥)
      → slice_get (x ∷ []) j ≡ Some (EndRecord c r) → A
  other_here x differs e = absurd (differs (one_at x j (EndRecord c r) e))

  -- the End is this one
  pub record SameEnd (d : Case) (s : Option Reports) : Type 0 where
    pub case_so : d ≡ c
    pub reports_so : s ≡ r

  same_end : (d : Case) (s : Option Reports) → slice_get (EndRecord d s ∷ []) j ≡ Some (EndRecord c r)
      → SameEnd d s
  same_end d s e =
      let f = one_at (EndRecord d s) j (EndRecord c r) e in
      record { case_so = let g : d ≡ c = cc in g; reports_so = let g : s ≡ r = cc in g }

  ends_same : (d : Case) (t : Ticket) (o : Outcome) (fs : List Finding)
      → HearsChild place n h d t (λ x. Ack x o fs)
      → HasDecided o (coordinator_view place n d).standing
      → none_of (other_tickets t (coordinator_view place n d).owed) ≡ true
      → SameEnd d (end_reports h.version None (found_below place n d o fs)) → By
  ends_same d t o fs i from last s = by_case c s.case_so
    where
      by_case : (x : Case) → d ≡ x → EndsBy place n h x r
      by_case x e = subst (λ (y : Case). EndsBy place n h y r) e (acked_last t o fs i from last s.reports_so)

  case_ends : (d : Case) (row : Row) → CaseTurn place None n h d row → Here row.written → By
  case_ends d _ (rests k) x = none_here x
  case_ends d _ (invites q i e f a) x = none_here x
  case_ends d _ (accepts u i e f) x = none_here x
  case_ends d _ (sends_work q u op i e f a) x = none_here x
  case_ends d _ (finds_nobody i e f) x = none_here x
  case_ends d _ (asks_for_votes PresumeAbort i e f a) x = none_here x
  case_ends d _ (asks_for_votes PresumeCommit i e f a) x = other_here _ (λ y. cc) x
  case_ends d _ (gives_up why p i e f) x = none_here x
  case_ends d _ (counts_vote u w i f e) x = none_here x
  case_ends d _ (reads_only u w ys PresumeAbort i e f) x = none_here x
  case_ends d _ (reads_only u w ys PresumeCommit i e f) x =
      subst (λ (y : Case). EndsBy place n h y r) (same_end d None x).case_so (read_only i.vote.stands)
  case_ends d _ (commits u w ys PresumeAbort i e f a) x = other_here _ (λ y. cc) x
  case_ends d _ (commits u w ys PresumeCommit i e f a) x = other_here _ (λ y. cc) x
  case_ends d _ (promises u w ys p i e f) x = absurd (cc)
  case_ends d _ (hears_no u us PresumeAbort i e f) x = other_here _ (λ y. cc) x
  case_ends d _ (hears_no u us PresumeCommit i e f) x = other_here _ (λ y. cc) x
  case_ends d _ (aborts why us PresumeAbort i e f a) x = other_here _ (λ y. cc) x
  case_ends d _ (aborts why us PresumeCommit i e f a) x = other_here _ (λ y. cc) x
  case_ends d _ (passes_commit p i e f) x = absurd (let z = i.is_parent in cc)
  case_ends d _ (passes_abort p i e f) x = absurd (let z = i.is_parent in cc)
  case_ends d _ (repeats_yes k i e) x = none_here x
  case_ends d _ (asks i e) x = none_here x
  case_ends d _ (refuses k i e) x = none_here x
  case_ends d _ (acknowledges o fs i e) x = none_here x
  case_ends d _ (waits_for_acks u o fs i e f a) x = none_here x
  case_ends d _ (ends u o fs i e f a) x = ends_same d u o fs i e a (same_end d _ x)
  case_ends d _ (clears i e f a) x = other_here _ (λ y. cc) x
  case_ends d _ (answers u o i e) x = none_here x

  pub turn_ends : (g : Effect) → CoordinatorTurn place None n h g → Here g.written → By
  turn_ends _ (does_nothing i) x = none_here x
  turn_ends _ (of_case d row turn) x = case_ends d row turn x
  turn_ends _ (begins p a i) x = none_here x
  turn_ends _ (gives_again p d u a i e) x = none_here x
  turn_ends _ (gives_fresh p d a i e) x = none_here x
  turn_ends _ (presumes y u i e) x = none_here x
