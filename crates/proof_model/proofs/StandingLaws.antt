-- What a standing, or a phase, says of the lists.
use Rattle.std.proofs.Common.{◌≡◌, ◌∙◌, ℕ, Bool, true, false, List, ◌++◌, refl}
use Rattle.std.specs.Prelude.{fold}
use Rattle.std.proofs.lemmas.Grind.{fold-append}
use Rattle.protocol.specs.declared.names.Case.{Case}
use Rattle.protocol.specs.declared.names.Ticket.{Ticket}
use Rattle.protocol.specs.declared.names.Presumption.{Presumption}
use Rattle.protocol.specs.declared.names.Presumption.TheVariants.{PresumeAbort, PresumeCommit}
use Rattle.protocol.specs.declared.standings.Vote.{Vote}
use Rattle.protocol.specs.declared.records.Record.{Record}
use Rattle.protocol.specs.declared.standings.Standing.{Standing}
use Rattle.protocol.specs.declared.standings.Standing.TheVariants.{Unknown, Active, Collecting, Prepared, Committing, Aborting, Heuristic}
use Rattle.protocol.specs.Records.{has, none_of, boot_of, boot_after, is_end, is_commit, is_abort, is_prepare, is_collecting, owing_by}
use Rattle.protocol.specs.Nodes.{Place, Node, kept, Heard, Effect, entries_written, after}
use Rattle.protocol.specs.Memory.{Memory, Phase, Idle, Open, Asked, Over, memory_of, remembers, takes_vote, accepts_ticket}
use Rattle.protocol.specs.Standings.{coordinator_view, coordinator_standing, standing_by, phase_standing, view_at}
use Rattle.protocol.proofs.ListLaws.{memory_of-after, kept-after}

-- What a standing says of the records.

pub record NoRecords (rs : List Record) (c : Case) : Type 0 where
  pub no_end : has (is_end c) rs ≡ false
  pub no_commit : has (is_commit c) rs ≡ false
  pub no_abort : has (is_abort c) rs ≡ false
  pub no_prepare : has (is_prepare c) rs ≡ false

pub record ActiveFacts (E C A P K : Bool) (hs : Standing) : Type 0 where
  pub no_end : E ≡ false
  pub no_commit : C ≡ false
  pub no_abort : A ≡ false
  pub no_prepare : P ≡ false
  pub no_collecting : K ≡ false
  pub heard : hs ≡ Active

pub active_facts : (E C A P K N : Bool) (hs : Standing) → standing_by E C A P K N hs ≡ Active
    → ActiveFacts E C A P K hs
active_facts true C A P K N hs e = absurd (cc)
active_facts false true A P K true hs e = absurd (cc)
active_facts false true A P K false hs e = absurd (cc)
active_facts false false true P K true hs e = absurd (cc)
active_facts false false true P K false hs e = absurd (cc)
active_facts false false false true K N hs e = absurd (cc)
active_facts false false false false true N hs e = absurd (cc)
active_facts false false false false false N hs
    e = record {
      no_end = refl;
      no_commit = refl;
      no_abort = refl;
      no_prepare = refl;
      no_collecting = refl;
      heard = e;
    }

pub phase_active : (p : Presumption) (ph : Phase) → phase_standing p ph ≡ Active → ph ≡ Open
phase_active PresumeAbort Open e = refl
phase_active PresumeCommit Open e = refl
phase_active PresumeAbort Idle e = absurd (cc)
phase_active PresumeCommit Idle e = absurd (cc)
phase_active PresumeAbort Asked e = absurd (cc)
phase_active PresumeCommit Asked e = absurd (cc)
phase_active PresumeAbort Over e = absurd (cc)
phase_active PresumeCommit Over e = absurd (cc)

pub view_standing : (s : Standing) (rs : List Record) (c : Case) (m : Memory)
    → (view_at s rs c m).standing ≡ s
view_standing Unknown rs c m = refl
view_standing Active rs c m = refl
view_standing Collecting rs c m = refl
view_standing Prepared rs c m = refl
view_standing Committing rs c m = refl
view_standing Aborting rs c m = refl
view_standing Heuristic rs c m = refl

-- the view of a case after a row
pub fold_boot : (xs ys : List Record) → boot_of (xs ++ ys) ≡ fold boot_after (boot_of xs) ys
unfolding boot_of
fold_boot xs ys = fold-append _ _ xs ys

pub view-after : (place : Place) (n : Node) (h : Heard) (e : Effect) (c : Case)
    → ((b : ℕ) → fold boot_after b (entries_written e.written) ≡ b)
    → let rs = kept n ++ entries_written e.written in
    let m = remembers place.me place.role (boot_of (kept n)) c (memory_of place n c) h in
    coordinator_view place (after n h e) c ≡ view_at (coordinator_standing rs c m) rs c m
unfolding coordinator_view
view-after place n h e c boot =
    let same : boot_of (kept n ++ entries_written e.written) ≡ boot_of (kept n) =
    fold_boot (kept n) (entries_written e.written) ∙ boot (boot_of (kept n)) in
    rw (memory_of-after place n h e c same, kept-after n h e) refl

-- the standing with the presumption beside the case
abbrev pub standing_with : Presumption → List Record → Case → Memory → Standing
standing_with p rs c m =
    standing_by (has (is_end c) rs) (has (is_commit c) rs) (has (is_abort c) rs) (has (is_prepare c) rs)
    (has (is_collecting c) rs) (none_of (owing_by c rs)) (phase_standing p m.phase)

-- What a phase lets in.

pub not_accepted : (m : Memory) (t : Ticket) (ph : Phase) → (ph ≡ Open → ⊥) → accepts_ticket m t ph ≡ m
not_accepted m t Idle h = refl
not_accepted m t Open h = absurd (h refl)
not_accepted m t Asked h = refl
not_accepted m t Over h = refl

pub not_taken : (m : Memory) (t : Ticket) (w : Vote) (ph : Phase) → (ph ≡ Asked → ⊥) → takes_vote m t w ph ≡ m
not_taken m t w Idle h = refl
not_taken m t w Open h = refl
not_taken m t w Asked h = absurd (h refl)
not_taken m t w Over h = refl

pub phase_standing_known : (p : Presumption) (ph : Phase) → phase_standing p ph ≡ Heuristic → ⊥
phase_standing_known p Open e = cc
phase_standing_known PresumeAbort Asked e = cc
phase_standing_known PresumeCommit Asked e = cc
phase_standing_known PresumeAbort Idle e = cc
phase_standing_known PresumeCommit Idle e = cc
phase_standing_known PresumeAbort Over e = cc
phase_standing_known PresumeCommit Over e = cc

pub never_heuristic : (E C A P K N : Bool) (hs : Standing) → (hs ≡ Heuristic → ⊥)
    → standing_by E C A P K N hs ≡ Heuristic → ⊥
never_heuristic true C A P K N hs d e = cc
never_heuristic false true A P K true hs d e = cc
never_heuristic false true A P K false hs d e = cc
never_heuristic false false true P K true hs d e = cc
never_heuristic false false true P K false hs d e = cc
never_heuristic false false false true K N hs d e = cc
never_heuristic false false false false true N hs d e = cc
never_heuristic false false false false false N hs d e = d e

pub prepared_facts : (E C A P K N : Bool) (hs : Standing) → (hs ≡ Prepared → ⊥)
    → standing_by E C A P K N hs ≡ Prepared → (C ≡ false) × (A ≡ false)
prepared_facts true C A P K N hs d e = absurd (cc)
prepared_facts false true A P K true hs d e = absurd (cc)
prepared_facts false true A P K false hs d e = absurd (cc)
prepared_facts false false true P K true hs d e = absurd (cc)
prepared_facts false false true P K false hs d e = absurd (cc)
prepared_facts false false false true K N hs d e = (refl, refl)
prepared_facts false false false false true N hs d e = absurd (cc)
prepared_facts false false false false false N hs d e = absurd (d e)

pub phase_unprepared : (p : Presumption) (ph : Phase) → phase_standing p ph ≡ Prepared → ⊥
phase_unprepared p Open e = cc
phase_unprepared PresumeAbort Asked e = cc
phase_unprepared PresumeCommit Asked e = cc
phase_unprepared PresumeAbort Idle e = cc
phase_unprepared PresumeCommit Idle e = cc
phase_unprepared PresumeAbort Over e = cc
phase_unprepared PresumeCommit Over e = cc
