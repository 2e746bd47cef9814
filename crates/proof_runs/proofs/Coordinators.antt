-- What a turn leaves of a coordinator, at the root and below it: the half that no row has to itself.
use Rattle.std.proofs.Common.{◌≡◌, ℕ, false, if◌then◌else◌, Option, Some, None, List, ◌∷◌, ◌++◌, [], map, inl, inr, refl, sym, ap, subst, ◌∙◌}
use Rattle.std.proofs.lemmas.List.{append-nil}
use Rattle.protocol.specs.declared.names.Case.{Case}
use Rattle.protocol.specs.declared.names.Ticket.{Ticket}
use Rattle.protocol.specs.declared.messages.Envelope.{Envelope}
use Rattle.protocol.specs.declared.events.Input.{Input}
use Rattle.protocol.specs.declared.events.StepError.{StepError}
use Rattle.protocol.specs.declared.records.Record.{Record}
use Rattle.protocol_words.specs.Variants.{ClearedRecord}
use Rattle.protocol.specs.declared.standings.Standing.{Standing}
use Rattle.protocol.specs.declared.standings.Standing.TheVariants.{Heuristic, Unknown}
use Rattle.protocol.specs.LogNames.{in_log, parent_of}
use Rattle.protocol.specs.Names.{same_case}
use Rattle.protocol.specs.NameLaws.{same_case_tells}
use Rattle.protocol.specs.Records.{boot_of}
use Rattle.protocol.specs.Nodes.{DataAnswer, Effect, Heard, Node, Place, after, entries_written, kept}
use Rattle.protocol.specs.Memory.{Memory, active_ticket, memory_of, remembers}
use Rattle.protocol.specs.Standings.{CoordinatorView, ManagerView, coordinator_standing, coordinator_view, unknown_branch, view_at as view_by}
use Rattle.protocol.specs.CoordinatorRows.{Row}
use Rattle.protocol.specs.Reactions.{row_effect, sends_only}
use Rattle.protocol.specs.SameViews.{SameRow, SameView}
use Rattle.protocol.proofs.ListLaws.{memory_of-after}
use Rattle.proof_model.proofs.RootViewLaws.{IsRowOfCase, quiet_of}
use Rattle.proof_model.proofs.StandingLaws.{view-after}
use Rattle.proof_processes.proofs.Selves.{Self, self_after, self_of, self_remembers}
use Rattle.log_records.specs.Sights.{LogSight}
use Rattle.process_state.specs.States.{CoreState, wrote}
use Rattle.process_state.specs.Makes.{TakesRow, retired_by, retires}
use Rattle.process_state.specs.Turns.{Refuses, Says, Takes, heard_now}
use Rattle.process_state.proofs.Alike.{row_effect-same}
use Rattle.tree_state.specs.StandsFor.{StandsFor, StandsUp, branch_at, view_at}
use Rattle.proof_runs.proofs.Cleared.{cleared_read}
use Rattle.proof_runs.proofs.Managers.{Follows, done_is, same_view-trans}
use Rattle.proof_runs.proofs.Records.{Holds, NoBoot, boot-after, held_after, same_boot}

-- how a case reads by these records and this memory
abbrev pub read : List Record → Case → Memory → CoordinatorView
read rs c m = view_by (coordinator_standing rs c m) rs c m

-- two views that say the same give rows that do
pub at_standing : (v w : CoordinatorView) (f g : Standing → Row) → SameView v w
    → ((st : Standing) → SameRow (f st) (g st))
    → SameRow (f v.standing) (g w.standing)
at_standing v w f g same rows = subst (λ st. SameRow (f st) (g w.standing))
    (sym same.standing) (rows w.standing)

module _ (n : Node) (s s' : CoreState) (place : Place) (a : DataAnswer)
    (views_are : (m : Node) (c : Case) → view_at place.role place m c ≡ coordinator_view place m c)
    (no_branch : (m : Node) (c : Case) → branch_at place.role place m c ≡ unknown_branch) where
  abbrev pub old : CoreState
  old = record s { place = place }

  abbrev pub new : CoreState
  new = record s' { place = place }

  abbrev pub heard : Input → Heard
  heard i = heard_now a i

  abbrev pub memory : Case → Memory
  memory c = memory_of place n c

  abbrev pub boot : ℕ
  boot = boot_of (kept n)

  abbrev pub view : Case → CoordinatorView
  view c = coordinator_view place n c

  -- what is remembered of a case after the input
  abbrev pub next : Input → Case → Memory
  next i c = remembers place.me place.role boot c (memory c) (heard i)

  -- the same of the process itself
  abbrev pub self_next : Input → Case → Self
  self_next i c = self_after place.me place.role boot (self_of (memory c)) (heard i)

  -- what is remembered of the case leaves its view
  abbrev pub Keeps : Input → Case → Type 0
  Keeps i d = read (kept n) d (next i d) ≡ read (kept n) d (memory d)

  -- the number of transactions and tickets stays, and the tickets but those that the input retires
  pub record Remains (i : Input) : Type 0 where
    pub begun : (c : Case) → (self_next i c).begun ≡ (memory c).begun
    pub given : (c : Case) → (self_next i c).given ≡ (memory c).given
    pub tickets : (d : Case)
        → active_ticket (self_next i d).active d ≡ retired_by i d (active_ticket (memory d).active d)

  pub counted : (i : Input) (e : Effect) → NoBoot (entries_written e.written) → (c : Case)
      → self_of (memory_of place (after n (heard i) e) c) ≡ self_next i c
  counted i e quiet c =
      ap self_of (memory_of-after place n (heard i) e c (same_boot n (entries_written e.written) quiet))
      ∙ self_remembers place.me boot c place.role (memory c) (heard i)

  -- another case's view after a row
  row_others : (i : Input) (c d : Case) (row : Row) → IsRowOfCase c row → same_case c d ≡ false → Keeps i d
      → coordinator_view place (after n (heard i) (row_effect c row)) d ≡ view d
  unfolding coordinator_view
  row_others i c d row own apart keeps =
      view-after place n (heard i) (row_effect c row) d own.boot
      ∙ own.others d (kept n) (next i d) apart ∙ keeps

  -- any view after a report that was seen to
  pub cleared_written : (i : Input) (e : Effect) (c d : Case)
      → entries_written e.written ≡ ClearedRecord c ∷ []
      → Keeps i d → coordinator_view place (after n (heard i) e) d ≡ view d
  unfolding coordinator_view
  cleared_written i e c d one keeps =
      view-after place n (heard i) e d (λ b. rw one refl)
      ∙ ap (λ rs. read (kept n ++ rs) d (next i d)) one ∙ cleared_read d c (kept n) (next i d) ∙ keeps

  -- any view after what writes nothing
  pub nothing_written : (i : Input) (e : Effect) → e.written ≡ [] → (d : Case) → Keeps i d
      → coordinator_view place (after n (heard i) e) d ≡ view d
  unfolding coordinator_view
  nothing_written i e none d keeps =
      view-after place n (heard i) e d (λ b. rw none refl)
      ∙ rw none (ap (λ rs. read rs d (next i d)) (append-nil (kept n)) ∙ keeps)

  -- the case's own view after a row, by how the extended lists read
  pub own_moved : (i : Input) (c : Case) (row : Row) → IsRowOfCase c row
      → read (kept n ++ entries_written row.written) c (next i c) ≡ row.view
      → coordinator_view place (after n (heard i) (row_effect c row)) c ≡ row.view
  unfolding coordinator_view
  own_moved i c row own reads = view-after place n (heard i) (row_effect c row) c own.boot ∙ reads

  module _ (runs : n.failed ≡ false) (stands : StandsFor n old) where
    pub up : StandsUp n old
    up = stands.up runs

    holds : Holds (parent_of place.role) n s.log
    holds = record { forced = stands.forced; unforced = stands.unforced; failed = stands.failed }

    pub sees : (c : Case) → SameView (s.view_of c) (view c)
    sees c = subst (λ v. SameView (s.view_of c) v) (views_are n c) (up.views c)

    -- what is after an input whose records are none of a boot, but for the views
    pub record Behind (i : Input) (e : Effect) : Type 0 where
      pub forced : s'.log.kept.forced ≡ map (in_log (parent_of place.role)) (after n (heard i) e).forced
      pub unforced : s'.log.kept.unforced ≡ map (in_log (parent_of place.role)) (after n (heard i) e).unforced
      pub failed : s'.log.failed ≡ (after n (heard i) e).failed
      pub boots : s'.boot ≡ boot_of (kept (after n (heard i) e))
      pub begins : (c : Case) → s'.begun ≡ (memory_of place (after n (heard i) e) c).begun
      pub gives : (c : Case) → s'.given ≡ (memory_of place (after n (heard i) e) c).given
      pub tickets : (d : Case) → s'.ticket_for d
          ≡ active_ticket (memory_of place (after n (heard i) e) d).active d
      pub branches : (c : Case) → s'.branch_of c ≡ s.branch_of c

    pub stand : (i : Input) (e : Effect) → Behind i e
        → ((c : Case) → SameView (s'.view_of c) (coordinator_view place (after n (heard i) e) c))
        → StandsFor (after n (heard i) e) new
    stand i e behind views =
        record {
          forced = behind.forced;
          unforced = behind.unforced;
          failed = behind.failed;
          up = λ _. record {
            boot = behind.boots;
            begun = behind.begins;
            given = behind.gives;
            tickets = behind.tickets;
            views = λ c. subst (λ v. SameView (s'.view_of c) v)
                (sym (views_are (after n (heard i) e) c)) (views c);
            branches = λ c. behind.branches c ∙ up.branches c ∙ no_branch n c
                ∙ sym (no_branch (after n (heard i) e) c);
            decided = λ c is. absurd (let clash : Unknown ≡ Heuristic =
                ap (λ (v : ManagerView). v.standing) (sym (behind.branches c ∙ up.branches c ∙ no_branch n c))
                ∙ is
                in cc);
          };
        }

    -- A row is taken.

    row_behind : (i : Input) (c : Case) (row : Row) → NoBoot (entries_written row.written) → Remains i
        → TakesRow old new i c row
        → Behind i (row_effect c row)
    row_behind i c row quiet remains made =
        let e = row_effect c row in
        let q = parent_of place.role in
        let held : Holds q (after n (heard i) e)
        (wrote s.log row.written (map (in_log q) (entries_written row.written))) =
        held_after q n (heard i) e s.log holds in
        record {
          forced = ap (λ (l : LogSight). l.kept.forced) made.log ∙ held.forced;
          unforced = ap (λ (l : LogSight). l.kept.unforced) made.log ∙ held.unforced;
          failed = ap (λ (l : LogSight). l.failed) made.log ∙ held.failed;
          boots = made.stays.boot ∙ up.boot ∙ sym (boot-after n (heard i) e quiet);
          begins = λ d. made.begun ∙ up.begun d ∙ sym (remains.begun d)
              ∙ sym (ap (λ (g : Self). g.begun) (counted i e quiet d));
          gives = λ d. made.given ∙ up.given d ∙ sym (remains.given d)
              ∙ sym (ap (λ (g : Self). g.given) (counted i e quiet d));
          tickets = λ d. made.stays.tickets d ∙ ap (retired_by i d) (up.tickets d) ∙ sym (remains.tickets d)
              ∙ sym (ap (λ (g : Self). active_ticket g.active d) (counted i e quiet d));
          branches = made.branches;
        }

    same_taken : (i : Input) (c : Case) (row row' : Row) → SameRow row row' → TakesRow old new i c row
        → TakesRow old new i c row'
    same_taken i c row row' same made =
        record {
          log = made.log
              ∙ ap (λ ws. wrote s.log ws (map (in_log (parent_of place.role)) (entries_written ws)))
              same.written;
          own = same_view-trans (s'.view_of c) row.view row'.view made.own same.view;
          others = made.others;
          branches = made.branches;
          begun = made.begun;
          given = made.given;
          stays = made.stays;
        }

    -- a row like it is of the case, and the lists read as it says; every other case keeps its view
    pub taken : (i : Input) (c : Case) (row row' : Row) → SameRow row row' → IsRowOfCase c row' → Remains i
        → coordinator_view place (after n (heard i) (row_effect c row')) c ≡ row'.view
        → ((d : Case) → same_case c d ≡ false → Keeps i d) → Follows n (heard i) old new i (Takes c row)
    taken i c row row' same own remains moved keeps e is made =
        let m = same_taken i c row row' same made in
        subst (λ f. StandsFor (after n (heard i) f) new)
        (sym (row_effect-same c row row' same) ∙ done_is (row_effect c row) e is)
        (stand i (row_effect c row') (row_behind i c row' own.boot remains m)
        (λ d. elim (same_case_tells c d) [
          | inl one ↦
              subst (λ q. SameView (s'.view_of q)
              (coordinator_view place (after n (heard i) (row_effect c row')) q))
              one.1
              (subst (λ v. SameView (s'.view_of c) v) (sym moved) m.own)
          | inr apart ↦
              subst (λ v. SameView (s'.view_of d) v)
              (sym (row_others i c d row' own apart.0 (keeps d apart.0)))
              (same_view-trans (s'.view_of d) (s.view_of d) (view d) (m.others d apart.0) (sees d))
        ]))

    -- a row that writes nothing and leaves the view as it is
    pub rested : (i : Input) (c : Case) (row row' : Row) → SameRow row row'
        → row'.written ≡ [] → row'.view ≡ view c
        → Remains i
        → ((d : Case) → Keeps i d) → Follows n (heard i) old new i (Takes c row)
    rested i c row row' same none shown remains keeps =
        taken i c row row' same (quiet_of c row' none) remains
        (nothing_written i (row_effect c row') none c (keeps c) ∙ sym shown) (λ d apart. keeps d)

    -- Nothing is done but that something is said.

    pub said : (i : Input) (ls : List Envelope) → Remains i
        → ((d : Case) → retired_by i d (active_ticket (memory d).active d)
        ≡ active_ticket (memory d).active d)
        → ((d : Case) → Keeps i d) → Follows n (heard i) old new i (Says ls)
    said i ls remains untouched keeps e is made =
        let f = sends_only ls in
        let q = parent_of place.role in
        let held : Holds q (after n (heard i) f) (wrote s.log [] []) =
        held_after q n (heard i) f s.log holds in
        let quiet : NoBoot [] = λ b. refl in
        subst (λ g. StandsFor (after n (heard i) g) new) (done_is f e is)
        (stand i f (record {
          forced = ap (λ (l : LogSight). l.kept.forced) made.log ∙ held.forced;
          unforced =
              ap (λ (l : LogSight). l.kept.unforced) made.log
              ∙ sym (append-nil s.log.kept.unforced) ∙ held.unforced;
          failed = ap (λ (l : LogSight). l.failed) made.log ∙ held.failed;
          boots = made.rest.boot ∙ up.boot ∙ sym (boot-after n (heard i) f quiet);
          begins = λ d. made.rest.begun ∙ up.begun d ∙ sym (remains.begun d)
              ∙ sym (ap (λ (g : Self). g.begun) (counted i f quiet d));
          gives = λ d. made.rest.given ∙ up.given d ∙ sym (remains.given d)
              ∙ sym (ap (λ (g : Self). g.given) (counted i f quiet d));
          tickets = λ d. made.rest.tickets d ∙ up.tickets d ∙ sym (untouched d) ∙ sym (remains.tickets d)
              ∙ sym (ap (λ (g : Self). active_ticket g.active d) (counted i f quiet d));
          branches = made.rest.branches;
        }) (λ c. subst (λ v. SameView (s'.view_of c) v) (sym (nothing_written i f refl c (keeps c)))
        (same_view-trans (s'.view_of c) (s.view_of c) (view c) (made.rest.views c) (sees c))))

    pub refused : (i : Input) (x : StepError) → Follows n (heard i) old new i (Refuses x)
    refused i x e is made = absurd made

    pub kept_by : (i : Input) → ((d : Case) (t : Ticket) → retires i d t ≡ false)
        → (d : Case) (o : Option Ticket) → retired_by i d o ≡ o
    kept_by i none d None = refl
    kept_by i none d (Some t) = ap (λ b. if b then None else Some t) (none d t)
