-- Seats of a cluster that opens.
use Rattle.std.proofs.Common.{◌≡◌, ◌∙◌, ◌+◌, ◌<◌, ap, refl, sym, subst, ℕ, zero, suc, Some, List, [], ◌∷◌, ◌++◌, length, get_or, slice_get, take, arith}
use Rattle.std.proofs.lemmas.List.{length-map, map-append, take_more}
use Rattle.atomic_table.specs.Seated.{TableId}
use Rattle.atomic_table.specs.declared.shared.Seat.{Seat}
use Rattle.protocol.specs.declared.names.ProcessId.{ProcessId}
use Rattle.protocol.specs.declared.events.JournalEntry.{JournalEntry}
use Rattle.protocol.specs.declared.trees.TreeProcess.{TreeProcess}
use Rattle.protocol.specs.Trees.{IsTree}
use Rattle.process_state.specs.States.{CoreState}
use Rattle.process_state.specs.Opening.{IsOpenedProcess}
use Rattle.resource_manager.specs.Data.{ManagerData, DataRests, no_data}
use Rattle.proof_cuts.specs.Alone.{RunsAlone, opens_alone}
use Rattle.proof_cuts.specs.Owns.{OwnRun}
use Rattle.proof_cuts.proofs.Owns.{opens_own}
use Rattle.tree_process.specs.Openings.{OpenedAs}
use Rattle.cluster_ties.specs.declared.views.View.{View}
use Rattle.cluster_ties.specs.declared.views.ProcessView.{ProcessView}
use Rattle.cluster_ties.specs.Seats.{IsProcessSeat, KeepsJournal, SitsAt}
use Rattle.cluster_ties.specs.Views.{holder, keeper, process_at, worker}
use Rattle.cluster_process.proofs.Turning.{of_worker}
use Rattle.cluster_tree.specs.Opening.{IsTableOf, KeepsSeats, SeatsTree, names_of}
use Rattle.cluster_tree.proofs.Apart.{role_at, tree_apart}

-- a process that has opened has made nothing
pub opened_own : (tree : List TreeProcess) (i : ℕ) (e : TreeProcess) (s : CoreState) → IsTree tree
    → i < length tree → e ≡ get_or tree i e → OpenedAs tree e s → OwnRun tree e.id [] s
opened_own tree i e s t lt is o =
    let role = role_at tree i e lt is (tree_apart tree t) in
    opens_own tree e.id s o.failures
    (subst (λ r. IsOpenedProcess s (record { me = e.id; role = r; tree = tree }) o.failures)
    (sym role) o.opened)

-- and has no data
pub opened_by_itself : (tree : List TreeProcess) (i : ℕ) (e : TreeProcess) (s : CoreState) (d : ManagerData)
    → IsTree tree
    → i < length tree → e ≡ get_or tree i e → OpenedAs tree e s → DataRests no_data d
    → RunsAlone tree e.id [] s d
opened_by_itself tree i e s d t lt is o empty =
    let role = role_at tree i e lt is (tree_apart tree t) in
    opens_alone s d
    (record {
      failures = o.failures;
      opened = subst (λ r. IsOpenedProcess s (record { me = e.id; role = r; tree = tree }) o.failures)
          (sym role) o.opened;
    }) empty

named_at : (tree : List TreeProcess) (i : ℕ) (e : TreeProcess) → i < length tree → e ≡ get_or tree i e
    → slice_get (names_of tree) i ≡ Some e.id
named_at [] i e lt is = absurd (omega (arith, lt))
named_at (x ∷ es) zero e lt is = ap (λ (y : TreeProcess). Some y.id) (sym is)
named_at (x ∷ es) (suc i) e lt is = named_at es i e (omega (arith, lt)) is

-- the journal's seat is the journal's
pub keeps_journal : (table : TableId) (tree : List TreeProcess) (opened given : ℕ)
    (seat : Seat (List (ℕ × JournalEntry)) View)
    → KeepsSeats table tree opened given seat → KeepsJournal seat.me
keeps_journal table tree opened given seat k =
    k.keeps ∙ sym (ap (λ m. (
      keeper m.0.journal.names m.0.journal.opened m.0.journal.given m.0.journal.all,
      [],
    )) k.keeps)

-- one process more has a seat
pub one_opened : (table : TableId) (tree : List TreeProcess) (opened given : ℕ)
    (old new : Seat (List (ℕ × JournalEntry)) View)
    → KeepsSeats table tree opened given old → new.table_id ≡ old.table_id
    → new.me ≡ (
      keeper old.me.0.journal.names (old.me.0.journal.opened + 1) old.me.0.journal.given old.me.0.journal.all,
      [],
    )
    → KeepsSeats table tree (opened + 1) given new
one_opened table tree opened given old new k here me = record {
  here = here ∙ k.here;
  keeps = me
      ∙ ap (λ m. (keeper m.0.journal.names (m.0.journal.opened + 1) m.0.journal.given m.0.journal.all, []))
      k.keeps;
}

-- one pass more was given
pub one_given : (table : TableId) (tree : List TreeProcess) (opened given : ℕ)
    (old new : Seat (List (ℕ × JournalEntry)) View)
    → KeepsSeats table tree opened given old → new.table_id ≡ old.table_id
    → new.me ≡ (
      keeper old.me.0.journal.names old.me.0.journal.opened (old.me.0.journal.given + 1) old.me.0.journal.all,
      [],
    )
    → KeepsSeats table tree opened (given + 1) new
one_given table tree opened given old new k here me = record {
  here = here ∙ k.here;
  keeps = me
      ∙ ap (λ m. (keeper m.0.journal.names m.0.journal.opened (m.0.journal.given + 1) m.0.journal.all, []))
      k.keeps;
}

-- the seat of the process at this place, which has made nothing
pub seat_at : (table : TableId) (tree : List TreeProcess) (place given : ℕ)
    (journal seat : Seat (List (ℕ × JournalEntry)) View)
    (e : TreeProcess) → KeepsSeats table tree place given journal → place < length tree
    → e ≡ get_or tree place e
    → seat.me ≡ (
      worker (process_at journal.me.0.journal.opened
          (slice_get journal.me.0.journal.names journal.me.0.journal.opened) [] []),
      [],
    )
    → IsProcessSeat seat.me × (seat.me.0.process.name ≡ Some e.id) × (seat.me.0.process.own ≡ [])
seat_at table tree place given journal seat e k lt is me =
    let at : seat.me ≡ (worker (process_at place (Some e.id) [] []), []) =
    me
    ∙ ap (λ m. (
      worker (process_at m.0.journal.opened (slice_get m.0.journal.names m.0.journal.opened) [] []),
      [],
    )) k.keeps
    ∙ ap (λ n. (worker (process_at place n [] []), [])) (named_at tree place e lt is) in (
      of_worker seat.me (process_at place (Some e.id) [] []) at refl,
      ap (λ m. m.0.process.name) at,
      ap (λ m. m.0.process.own) at,
    )

-- the pass of the next caller
pub pass_at : (table : TableId) (tree : List TreeProcess) (opened given : ℕ)
    (journal pass : Seat (List (ℕ × JournalEntry)) View)
    → KeepsSeats table tree opened given journal → pass.me ≡ (holder journal.me.0.journal.given [], [])
    → pass.me ≡ (holder given [], [])
pass_at table tree opened given journal pass k me = me ∙ ap (λ m. (holder m.0.journal.given [], [])) k.keeps

-- a seat at this table
pub sits_at : (table : TableId) (tree : List TreeProcess) (opened given : ℕ) (id : TableId)
    (journal : Seat (List (ℕ × JournalEntry)) View)
    → id ≡ table → KeepsSeats table tree opened given journal → 0 < table.words → SitsAt id journal.table_id
sits_at table tree opened given id journal is k words =
    (k.here ∙ sym is, subst (λ (t : TableId). 0 < t.words) (sym is) words)

-- there are as many names as processes
pub as_many : (table : TableId) (tree : List TreeProcess) (id : TableId) (names : List ProcessId) (place : ℕ)
    → IsTableOf table tree id names → place < length tree → place < length names
as_many table tree id names place t lt =
    let long : length names ≡ length tree = ap length t.names_are ∙ length-map tree (λ e. e.id) in
    omega (arith, long, lt)

-- the table that was opened for a tree
pub table_opened : (table : TableId) (meant tree : List TreeProcess) (id : TableId) (names : List ProcessId)
    → SeatsTree table meant tree id names → 0 < id.words → IsTableOf table tree id names
table_opened table meant tree id names s words = record {
  here = s.here;
  names_are = s.names_are;
  words = subst (λ (t : TableId). 0 < t.words) s.here words;
}

-- its journal's seat
pub seats_opened : (table : TableId) (meant tree : List TreeProcess) (id : TableId) (names : List ProcessId)
    (journal : Seat (List (ℕ × JournalEntry)) View) → SeatsTree table meant tree id names
    → journal.table_id ≡ id
    → journal.me ≡ (keeper names 0 0 [], []) → KeepsSeats table tree 0 0 journal
seats_opened table meant tree id names journal s sits keeps = record {
  here = sits ∙ s.here;
  keeps = keeps ∙ ap (λ ns. (keeper ns 0 0 [], [])) s.names_are;
}

-- the next process's name
pub names_next : (tree : List TreeProcess) (i : ℕ) (e : TreeProcess) (old new : List ProcessId)
    → i < length tree
    → e ≡ get_or tree i e → new ≡ old ++ e.id ∷ [] → old ≡ names_of (take i tree)
    → new ≡ names_of (take (i + 1) tree)
names_next tree i e old new lt is pushed so =
    rw (take_more tree i e lt, ← is, map-append (λ (x : TreeProcess). x.id) (take i tree) (e ∷ []))
    (pushed ∙ ap (λ l. l ++ e.id ∷ []) so)

-- the journal's seat has N seats given
pub opened_is : (table : TableId) (tree : List TreeProcess) (opened given : ℕ)
    (journal : Seat (List (ℕ × JournalEntry)) View)
    → KeepsSeats table tree opened given journal → journal.me.0.journal.opened ≡ opened
opened_is table tree opened given journal k = ap (λ m. m.0.journal.opened) k.keeps

-- N passes were given
pub given_is : (table : TableId) (tree : List TreeProcess) (opened given : ℕ)
    (journal : Seat (List (ℕ × JournalEntry)) View)
    → KeepsSeats table tree opened given journal → journal.me.0.journal.given ≡ given
given_is table tree opened given journal k = ap (λ m. m.0.journal.given) k.keeps

-- there is a name for the next
pub has_name : (table : TableId) (tree : List TreeProcess) (id : TableId) (names : List ProcessId)
    (place given : ℕ)
    (journal : Seat (List (ℕ × JournalEntry)) View) → IsTableOf table tree id names
    → KeepsSeats table tree place given journal
    → place < length tree → journal.me.0.journal.opened < length names
has_name table tree id names place given journal t k lt =
    subst (λ n. n < length names) (sym (opened_is table tree place given journal k))
    (as_many table tree id names place t lt)

-- N passes were given as the journal's seat says
pub regiven : (table : TableId) (tree : List TreeProcess) (opened given : ℕ)
    (seat : Seat (List (ℕ × JournalEntry)) View)
    → KeepsSeats table tree opened given seat → KeepsSeats table tree opened seat.me.0.journal.given seat
regiven table tree opened given seat k = record {
  here = k.here;
  keeps = k.keeps ∙ ap (λ n. (keeper (names_of tree) opened n [], []))
      (sym (ap (λ m. m.0.journal.given) k.keeps));
}

-- nothing is entered
pub keeps_none : (table : TableId) (tree : List TreeProcess) (opened given : ℕ)
    (seat : Seat (List (ℕ × JournalEntry)) View)
    → KeepsSeats table tree opened given seat
    → seat.me ≡ (keeper seat.me.0.journal.names seat.me.0.journal.opened seat.me.0.journal.given [], [])
keeps_none table tree opened given seat k =
    k.keeps ∙ sym (ap (λ m. (keeper m.0.journal.names m.0.journal.opened m.0.journal.given [], [])) k.keeps)
