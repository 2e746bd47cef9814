-- What a restart makes of the records of a log.
use Rattle.std.proofs.Common.{◌≡◌, ◌∙◌, Bool, true, false, List, [], ◌++◌, Option, Some, None, map, unwrap_or, refl, sym, ap, subst, arith}
use Rattle.std.proofs.lemmas.List.Folds.{flat_map-map}
use Rattle.std.specs.List.{flat_map}
use Rattle.std.specs.Map.{lookup}
use Rattle.protocol.specs.declared.names.Case.{Case}
use Rattle.protocol.specs.declared.names.Kind.TheVariants.{Coordinator}
use Rattle.protocol.specs.declared.names.ProcessId.{ProcessId}
use Rattle.protocol.specs.declared.messages.Envelope.{Envelope}
use Rattle.protocol.specs.declared.records.LogRecord.{LogRecord}
use Rattle.protocol.specs.declared.records.ShownRecord.{ShownRecord}
use Rattle.protocol.specs.declared.records.Record.{Record}
use Rattle.protocol.specs.declared.trees.TreeProcess.{TreeProcess}
use Rattle.protocol.specs.declared.events.StepError.{StepError}
use Rattle.protocol_words.specs.step_error
use Rattle.protocol.specs.LogNames.{in_log, own_records}
use Rattle.protocol.specs.Nodes.{Place, logged_of}
use Rattle.protocol.specs.Records.{boot_of, cases_in}
use Rattle.protocol.specs.Restarts.{coordinator_reopens, coordinator_resumes, forced_all, recorded_view, reopens, resumes, resumes_by}
use Rattle.protocol.specs.Standings.{CoordinatorView}
use Rattle.log_text.specs.Made.{frame_record}
use Rattle.log_records.specs.Sights.{AreRecords}
use Rattle.log_writing.specs.Writes.{AreHeld, NotFramed}
use Rattle.process_state.specs.Restarting.{recorded_view_at}
use Rattle.coord_cases.specs.declared.rebuilding.RebuiltCases.{RebuiltCases}
use Rattle.coord_records.specs.Summaries.{Summary, no_records, summary_of, view_of}
use Rattle.coord_records.specs.Plans.{NotPlanned}
use Rattle.coord_records.specs.Readings.{place_below, reading_of, role_below, same}
use Rattle.coord_records.specs.Remembered.{LogMemory, RemembersCases, entries_of}
use Rattle.coord_cases.specs.Restores.{CasesNotRebuilt, RebuildsCases, RestoresAll, read_again, resumed_of, view_found}
use Rattle.coord_records.proofs.Summaries.{view_recorded}
use Rattle.coord_records.proofs.CaseTables.{entry_by}
use Rattle.coord_records.proofs.Readings.{each_alike, view_is}
use Rattle.coord_records.proofs.Remembering.{found_kept, found_out, no_view, nothing_lost}
use Rattle.coord_cases.proofs.OwnCases.{parent_again, read_again_is, reopens_role}

-- the view that is remembered is the one that the records say
found_view : (rs : List Record) (m : LogMemory) → RemembersCases rs m → (c : Case)
    → view_found (lookup (same c) m.said.table) ≡ recorded_view rs c
found_view rs m k c = ap (λ t. view_found (lookup (same c) t)) k.table ∙ by_test (k.keeps c) refl
  where
    by_found : (o : Option Summary) → view_found o ≡ view_of (unwrap_or o no_records)
    by_found None = refl
    by_found (Some s) = refl

    by_test : (b : Bool) → k.keeps c ≡ b
        → view_found (lookup (same c) (entries_of k.keeps (reading_of rs).table)) ≡ recorded_view rs c
    by_test true kept = ap view_found (found_kept k.keeps c kept (reading_of rs).table)
        ∙ by_found (lookup (same c) (reading_of rs).table) ∙ view_is rs c
    by_test false out = ap view_found (found_out k.keeps c out (reading_of rs).table)
        ∙ sym (no_view rs m k c out)

viewed_at : (parent : Option ProcessId) (rs : List Record) (c : Case)
    → recorded_view rs c ≡ recorded_view_at (role_below parent) rs c
viewed_at None rs c = refl
viewed_at (Some p) rs c = refl

resumes_of : (me : ProcessId) (parent : Option ProcessId) (rs : List Record) (c : Case)
    → resumed_of me parent (entry_by (summary_of rs) c) ≡ coordinator_resumes me parent rs c
resumes_of me parent rs c = ap (λ (v : CoordinatorView). resumes_by
    (record { me = me; parent = parent; own = c }) v v.standing) (sym (view_recorded rs c))

resumes_role : (me : ProcessId) (parent : Option ProcessId) (rs : List Record)
    → flat_map (coordinator_resumes me parent rs) (cases_in rs) ≡ resumes (role_below parent) me rs
resumes_role me None rs = refl
resumes_role me (Some p) rs = refl

-- a case that is left out sends nothing
no_resume : (me : ProcessId) (parent : Option ProcessId) (rs : List Record) (m : LogMemory)
    (k : RemembersCases rs m)
    (c : Case) → k.keeps c ≡ false → resumed_of me parent (c, summary_of rs c) ≡ []
no_resume me parent rs m k c out =
    ap (λ (v : CoordinatorView). resumes_by (record { me = me; parent = parent; own = c }) v v.standing)
    (sym (view_recorded rs c) ∙ no_view rs m k c out)

resumes_so : (me : ProcessId) (parent : Option ProcessId) (rs : List Record) (m : LogMemory)
    → RemembersCases rs m
    → flat_map (resumed_of me parent) m.said.table ≡ resumes (role_below parent) me rs
resumes_so me parent rs m k =
    ap (flat_map (resumed_of me parent)) k.table
    ∙ nothing_lost (resumed_of me parent) k.keeps (summary_of rs) (no_resume me parent rs m k) (cases_in rs)
    ∙ flat_map-map (resumed_of me parent) (entry_by (summary_of rs)) (cases_in rs)
    ∙ each_alike (λ c. resumed_of me parent (entry_by (summary_of rs) c)) (coordinator_resumes me parent rs)
    (resumes_of me parent rs) (cases_in rs)
    ∙ resumes_role me parent rs

module _ (me : ProcessId) (parent : Option ProcessId) (tree : List TreeProcess) (ls : List LogRecord)
    (new : List Record) (behind : LogMemory)
    (appends : new ≡ coordinator_reopens (own_records (place_below me parent tree) ls))
    (reads : RemembersCases (own_records (place_below me parent tree) ls
    ++ coordinator_reopens (own_records (place_below me parent tree) ls)) behind) where
  -- where the process sits
  abbrev here : Place
  here = place_below me parent tree

  -- the records of the log, as the process reads them
  abbrev mine : List Record
  mine = own_records here ls

  new_so : new ≡ reopens (role_below parent) mine
  new_so = appends ∙ sym (reopens_role parent mine)

  behind_so : RemembersCases (read_again here ls) behind
  behind_so = subst (λ rs. RemembersCases rs behind) (ap (λ rs. mine ++ rs) (sym (reopens_role parent mine))
      ∙ sym (read_again_is me parent tree ls)) reads

  pub rebuilds : (r : RebuiltCases) (written : List ShownRecord) (messages : List Envelope)
      → r.boot ≡ behind.said.boot
      → map frame_record r.frames.items ≡ map (in_log parent) new
      → AreRecords Coordinator (map frame_record r.frames.items)
      → written ≡ map logged_of (forced_all new) → RestoresAll me parent behind.said r.cases messages
      → r.reaction ≡ record { begun = None; written = written; told = None; messages = messages; kept = None }
      → ((rs : List Record) → RemembersCases rs behind → RemembersCases rs r.remembered)
      → RebuildsCases here ls r
  rebuilds r written messages boot spells sound shows restores reaction forgets =
      record {
        boot = boot ∙ behind_so.boot;
        frames = spells ∙ ap (map (in_log parent)) new_so
            ∙ ap (λ p. map (in_log p) (reopens (role_below parent) mine)) (sym (parent_again parent));
        sound = sound;
        views = λ c.
            restores.views c ∙ found_view (read_again here ls) behind behind_so c
            ∙ viewed_at parent (read_again here ls) c;
        tickets = restores.tickets;
        entries = restores.entries;
        shown =
            reaction
            ∙ (λ i. record {
              begun = None;
              written = (shows ∙ ap (λ rs. map logged_of (forced_all rs)) new_so) i;
              told = None;
              messages = (restores.messages ∙ resumes_so me parent (read_again here ls) behind behind_so
                  ∙ ap (resumes (role_below parent) me) (read_again_is me parent tree ls)) i;
              kept = None;
            });
        remembers = forgets (read_again here ls) behind_so;
      }

-- What cannot be rebuilt.

-- no restart was planned
pub not_planned : (me : ProcessId) (parent : Option ProcessId) (tree : List TreeProcess) (ls : List LogRecord)
    (e : StepError) → NotPlanned (boot_of (own_records (place_below me parent tree) ls)) e
    → CasesNotRebuilt (place_below me parent tree) ls e
not_planned me parent tree ls step_error.Memory h = tt
not_planned me None tree ls step_error.Exhausted h = λ held. absurd (omega (arith, h, held.0.1))
not_planned me (Some p) tree ls step_error.Exhausted h = λ held. absurd (omega (arith, h, held.0.1))
not_planned me parent tree ls e h = absurd h

-- what it appends has no frames
pub not_framed : (me : ProcessId) (parent : Option ProcessId) (tree : List TreeProcess) (ls : List LogRecord)
    (rs : List Record) (e : StepError) → rs ≡ coordinator_reopens
    (own_records (place_below me parent tree) ls)
    → NotFramed parent rs e → CasesNotRebuilt (place_below me parent tree) ls e
not_framed me parent tree ls rs step_error.Memory is h = tt
not_framed me None tree ls rs step_error.Exhausted is h = λ held. h (subst (AreHeld None) (sym is) held)
not_framed me (Some p) tree ls rs step_error.Exhausted is h =
    λ held. h (subst (AreHeld (Some p)) (sym is) held)
not_framed me parent tree ls rs e is h = absurd h
