-- A case that a cascaded coordinator remembers is one whose ticket it gave since its last restart; of no
-- other does it remember an accepted ticket.
use Rattle.std.proofs.Common.{◌≡◌, ◌≢◌, ◌∙◌, ℕ, Bool, true, false, Option, Some, None, List, [], ◌∷◌, ◌++◌, refl, sym, ap, subst, if◌then◌else◌}
use Rattle.std.specs.Prelude.{fold}
use Rattle.std.proofs.lemmas.List.Folds.{list_any-append}
use Rattle.protocol.specs.declared.names.Case.{Case}
use Rattle.protocol.specs.declared.names.ProcessId.{ProcessId}
use Rattle.protocol.specs.declared.names.Ticket.{Ticket}
use Rattle.protocol.specs.declared.messages.Message.{Message}
use Rattle.protocol.specs.declared.messages.Message.TheVariants.{Join, Joined, Work, Prepare, Yes, No, Read, Commit, Abort, Ack, Inquire}
use Rattle.protocol.specs.declared.standings.Vote.{Vote}
use Rattle.protocol_words.specs.Variants.{ActInput, MessageInput, VoteNo, VoteRead, VoteYes}
use Rattle.protocol.specs.declared.events.Input.{Input}
use Rattle.protocol.specs.Names.{child_case}
use Rattle.protocol.specs.NameLaws.{same_case-refl}
use Rattle.protocol.specs.Records.{boot_of, has_case, in_list, none_of}
use Rattle.protocol.specs.Nodes.{Place, Role, Below, Node, Heard, kept}
use Rattle.protocol.specs.Memory.{Memory, Phase, Idle, Open, Asked, Over, fresh_memory, memory_of, remembers, cascaded_remembers, active_ticket, all_voted, phase_after}
use Rattle.protocol.specs.Standings.{some_case}
use Rattle.proof_processes.proofs.Remembering.{OpensMemory, by_begin, by_join, MovesMemory, keeps, asks, closes, takes, counts, opens, moves}
use Rattle.proof_processes.proofs.Selves.{Self, self_of, self_same, self_remembers, issuer_self, hears_self, joins_self, next_of}
use Rattle.proof_processes.proofs.Tests.{left, right}

has_more : (cs ds : List Case) (c : Case) → has_case cs c ≡ true → has_case (cs ++ ds) c ≡ true
unfolding has_case
has_more cs ds c e = list_any-append _ cs ds ∙ left _ _ e

has_last_case : (cs : List Case) (c : Case) → has_case (cs ++ c ∷ []) c ≡ true
unfolding has_case
has_last_case cs c = list_any-append _ cs (c ∷ []) ∙ right _ _ (left _ _ (same_case-refl c))

-- tickets that were given stay so
joins_more : (me : ProcessId) (boot : ℕ) (s : Self) (d : Case) (o : Option Ticket) (c : Case)
    → has_case s.issued c ≡ true → has_case (joins_self me boot s d o).issued c ≡ true
joins_more me boot s d (Some t) c e = e
joins_more me boot s d None c e = has_more s.issued _ c e

hears_more : (me : ProcessId) (boot : ℕ) (s : Self) (x : Message) (c : Case) → has_case s.issued c ≡ true
    → has_case (hears_self me boot true s x).issued c ≡ true
hears_more me boot s (Join d) c e = joins_more me boot s d (active_ticket s.active d) c e
hears_more me boot s (Prepare d k) c e = e
hears_more me boot s (Abort d) c e = e
hears_more me boot s (Joined d t) c e = e
hears_more me boot s (Work d k op) c e = e
hears_more me boot s (Yes d) c e = e
hears_more me boot s (No d) c e = e
hears_more me boot s (Read d) c e = e
hears_more me boot s (Commit d) c e = e
hears_more me boot s (Ack d o fs) c e = e
hears_more me boot s (Inquire d) c e = e

issued_more : (me : ProcessId) (boot : ℕ) (s : Self) (i : Input) (c : Case) → has_case s.issued c ≡ true
    → has_case (issuer_self me boot true s i).issued c ≡ true
issued_more me boot s (MessageInput k x) c e = hears_more me boot s x c e
issued_more me boot s (ActInput a) c e = e

-- JOIN that finds none active gives the next
joined_issues : (me : ProcessId) (boot : ℕ) (s : Self) (d : Case) (o : Option Ticket) → o ≡ None
    → has_case (joins_self me boot s d o).issued (child_case d.txn (next_of me boot s)) ≡ true
joined_issues me boot s d None e = has_last_case s.issued (child_case d.txn (next_of me boot s))
joined_issues me boot s d (Some t) e = absurd (cc)

-- What is remembered of a case.

-- a case that is not Idle was given, and an Idle one has accepted nobody
record Kept (c : Case) (m : Memory) : Type 0 where
  awake : (m.phase ≡ Idle → ⊥) → has_case m.issued c ≡ true
  idle : m.phase ≡ Idle → m.accepted ≡ []

module _ (me p : ProcessId) (boot : ℕ) (c : Case) where
  abbrev next : Memory → Heard → Memory
  next m h = cascaded_remembers me boot c m h.input

  still_issued : (m : Memory) (h : Heard) → has_case m.issued c ≡ true → has_case (next m h).issued c ≡ true
  still_issued m h e =
      ap (λ (s : Self). has_case s.issued c) (self_remembers me boot c (Below p) m h)
      ∙ issued_more me boot (self_of m) h.input c e

  now_issued : (m : Memory) (h : Heard) (i : Input) → h.input ≡ i → OpensMemory (Some p) me boot c m i
      → has_case (next m h).issued c ≡ true
  now_issued m h _ i (by_begin x top e) = absurd (cc)
  now_issued m h _ i (by_join q j d below none e) =
      ap (λ (s : Self). has_case s.issued c) (self_remembers me boot c (Below p) m h)
      ∙ (ap (λ (x : Input). has_case (issuer_self me boot true (self_of m) x).issued c) i
      ∙ subst (λ (x : Case). has_case (joins_self me boot (self_of m) d (active_ticket m.active d)).issued x
      ≡ true) e
      (joined_issues me boot (self_of m) d (active_ticket m.active d) none))

  was_awake : (x y : Phase) → x ≡ y → (y ≡ Idle → ⊥) → x ≡ Idle → ⊥
  was_awake x y e f g = f (sym e ∙ g)

  not_now : {A : Type 0} (x y : Phase) → x ≡ y → (y ≡ Idle → ⊥) → x ≡ Idle → A
  not_now x y e f g = absurd (f (sym e ∙ g))

  votes_or_over : (b : Bool) → (if b then Over else Asked) ≡ Idle → ⊥
  votes_or_over true e = cc
  votes_or_over false e = cc

  vote_ends : (w : Vote) (b : Bool) → phase_after w b ≡ Idle → ⊥
  vote_ends VoteNo b f = cc
  vote_ends VoteYes true f = cc
  vote_ends VoteYes false f = cc
  vote_ends VoteRead true f = cc
  vote_ends VoteRead false f = cc

  kept_then : (m : Memory) → Kept c m → (h : Heard) → Kept c (next m h)
  kept_then m old h = by_move (moves (Some p) me boot c m h.input)
    where
      by_move : MovesMemory (Some p) me boot c m h.input (next m h) → Kept c (next m h)
      by_move (keeps v e l) = record {
        awake = λ f. still_issued m h (old.awake (λ g. f (e ∙ g)));
        idle = λ f. l.accepted ∙ old.idle (sym e ∙ f);
      }
      by_move (asks a o e l) = record {
        awake = λ f. still_issued m h (old.awake (was_awake _ Open o (λ g. cc)));
        idle = not_now _ _ e (votes_or_over (none_of m.accepted));
      }
      by_move (closes a o e l) = record {
        awake = λ f. still_issued m h (old.awake o);
        idle = not_now _ Over e (λ g. cc);
      }
      by_move (takes j u i o b e a v) = record {
        awake = λ f. still_issued m h (old.awake (was_awake _ Open o (λ g. cc)));
        idle = not_now _ Open e (λ g. cc);
      }
      by_move (counts u w x e a v) = record {
        awake = λ f. still_issued m h (old.awake (was_awake _ Asked x.asked (λ g. cc)));
        idle = not_now _ _ e (vote_ends w (all_voted m.accepted (m.votes ++ (u, w) ∷ [])));
      }
      by_move (opens o e a v) = record {
        awake = λ f. now_issued m h h.input refl o;
        idle = λ f. a;
      }

  all_kept : (m : Memory) → Kept c m → (hs : List Heard) → Kept c (fold (remembers me (Below p) boot c) m hs)
  all_kept m old [] = old
  all_kept m old (h ∷ hs) = all_kept (next m h) (kept_then m old h) hs

kept_of : (place : Place) (p : ProcessId) → place.role ≡ Below p → (n : Node) (c : Case)
    → Kept c (memory_of place n c)
unfolding memory_of
kept_of place p e n c =
    subst (λ (r : Role). Kept c (fold (remembers place.me r (boot_of (kept n)) c) fresh_memory n.heard))
    (sym e)
    (all_kept place.me p (boot_of (kept n)) c fresh_memory
    (record { awake = λ f. absurd (f refl); idle = λ f. refl }) n.heard)

pub awake_is_issued : (place : Place) (p : ProcessId) → place.role ≡ Below p → (n : Node) (c : Case)
    → (memory_of place n c).phase ≢ Idle → has_case (memory_of place n (some_case place)).issued c ≡ true
awake_is_issued place p e n c f =
    ap (λ (s : Self). has_case s.issued c) (self_same place n (some_case place) c)
    ∙ (kept_of place p e n c).awake (λ g. absurd (f g))

none_in_nobody : (t : Ticket) → in_list [] t ≡ false
unfolding in_list
none_in_nobody t = refl

pub idle_accepts_none : (place : Place) (p : ProcessId) → place.role ≡ Below p
    → (n : Node) (c : Case) (t : Ticket)
    → (memory_of place n c).phase ≡ Idle → in_list (memory_of place n c).accepted t ≡ false
idle_accepts_none place p e n c t f =
    ap (λ ts. in_list ts t) ((kept_of place p e n c).idle f) ∙ none_in_nobody t
