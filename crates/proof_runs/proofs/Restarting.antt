-- A process's restart is a move of the model's process.
use Rattle.std.proofs.Common.{◌≡◌, ◌∙◌, ◌+◌, ◌-◌, ℕ, true, false, Bool, Option, None, List, [], ◌∷◌, ◌++◌, append_assoc, append-nil, take, drop, refl, sym, ap, subst, if◌then◌else◌}
use Rattle.std.specs.Prelude.{length, fold, map, nat_le}
use Rattle.protocol.specs.declared.names.Case.{Case}
use Rattle.protocol.specs.declared.names.ProcessId.{ProcessId}
use Rattle.protocol.specs.declared.records.LogRecord.{LogRecord}
use Rattle.protocol.specs.declared.records.Record.{Record}
use Rattle.protocol.specs.declared.events.Reaction.{Reaction}
use Rattle.protocol.specs.declared.events.StepError.TheVariants.{Device}
use Rattle.protocol.proofs.LogNameLaws.{reads_back}
use Rattle.protocol.specs.LogNames.{in_log, is_own_record, own_records}
use Rattle.protocol.specs.Memory.{Memory, active_ticket, fresh_memory, memory_of, remembers}
use Rattle.protocol.specs.Nodes.{AtLeaf, AtRoot, Below, Node, Place, Role, kept, reaction_of}
use Rattle.protocol.specs.Records.{boot_of}
use Rattle.protocol.specs.Restarts.{left_of, recorded_branch, recorded_view, reopens, restart_effect, restart_fails, restarted}
use Rattle.protocol.specs.Standings.{coordinator_standing, coordinator_view, manager_view, marked_branch, mark_of, view_at as standing_view}
use Rattle.protocol_words.specs.Variants.{CaseBranch}
use Rattle.protocol.specs.World.{fault_effect, node_makes}
use Rattle.protocol.specs.SameViews.{SameView}
use Rattle.log_records.specs.Sights.{LogSight, left_by, records_of, record_size, whole_within}
use Rattle.process_state.specs.Restarting.{ProcessNotRestarted, ReadOff, ProcessRestarts, read_of, recorded_branch_at, recorded_view_at, reopened, reopening, restarted_log}
use Rattle.process_state.specs.States.{CoreState, logged, parent}
use Rattle.tree_state.specs.Fits.{KeepsOwn}
use Rattle.tree_state.specs.Steps.{BreaksAs, StepsAs, quiet_move, records_kept, restart_of}
use Rattle.tree_state.specs.StandsFor.{StandsFor, StandsUp, branch_at, view_at}
use Rattle.proof_runs.proofs.Faults.{Split, map_drop, map_take, split}
use Rattle.proof_runs.proofs.OwnRecords.{all_append, all_behind, all_front, all_taken, reopens_own}
use Rattle.proof_runs.proofs.Records.{map_append}

-- A process that has heard nothing and stands as its records say.

module _ (place : Place) (n : Node) (none : n.heard ≡ []) (c : Case) where
  fresh : memory_of place n c ≡ fresh_memory
  unfolding memory_of
  fresh = ap (fold (remembers place.me place.role (boot_of (kept n)) c) fresh_memory) none

  read_view : recorded_view (kept n) c ≡ coordinator_view place n c
  unfolding recorded_view coordinator_view
  read_view = ap (λ (m : Memory). standing_view (coordinator_standing (kept n) c m) (kept n) c m) (sym fresh)

  read_branch : recorded_branch (kept n) c ≡ manager_view place n c
  unfolding recorded_branch manager_view
  read_branch = ap (λ (m : Memory). marked_branch m (mark_of (CaseBranch c) (kept n))) (sym fresh)

  views : (role : Role) → recorded_view_at role (kept n) c ≡ view_at role place n c
  views AtRoot = read_view
  views (Below p) = read_view
  views (AtLeaf p) = refl

  branches : (role : Role) → recorded_branch_at role (kept n) c ≡ branch_at role place n c
  branches AtRoot = refl
  branches (Below p) = refl
  branches (AtLeaf p) = read_branch

  no_ticket : active_ticket (memory_of place n c).active c ≡ None
  unfolding active_ticket
  no_ticket = ap (λ (m : Memory). active_ticket m.active c) fresh

pub read_off_up : (n : Node) (s : CoreState) → n.heard ≡ [] → ReadOff s (kept n) → StandsUp n s
read_off_up n s none read =
    record {
      boot = read.boot;
      begun = λ c. read.begun ∙ sym (ap (λ (m : Memory). m.begun) (fresh s.place n none c));
      given = λ c. read.given ∙ sym (ap (λ (m : Memory). m.given) (fresh s.place n none c));
      tickets = λ d. read.tickets d ∙ sym (no_ticket s.place n none d);
      views = λ c. subst (λ v. SameView (s.view_of c) v) (views s.place n none c s.place.role) (read.views c);
      branches = λ c. read.branches c ∙ branches s.place n none c s.place.role;
      decided = read.decided;
    }

-- What a crash leaves.

within_is_front : (m : ℕ) (ls : List LogRecord) → whole_within m ls ≡ take (length (whole_within m ls)) ls
unfolding whole_within
within_is_front m [] = refl
within_is_front m (l ∷ ls) = by_test (nat_le (record_size l) m) (within_is_front (m - record_size l) ls)
  where
    by_test : (b : Bool)
        → whole_within (m - record_size l) ls ≡ take (length (whole_within (m - record_size l) ls)) ls
        → (if b then l ∷ whole_within (m - record_size l) ls else [])
        ≡ take (length (if b then l ∷ whole_within (m - record_size l) ls else [])) (l ∷ ls)
    by_test true e = ap (λ t. l ∷ t) e
    by_test false e = refl

module _ (n : Node) (old new : CoreState) (keep : ℕ) (stands : StandsFor n old)
    (own : KeepsOwn old.place n) where
  abbrev place : Place
  place = old.place

  abbrev q : Option ProcessId
  q = parent old

  abbrev k : ℕ
  k = records_kept old keep

  abbrev left : List Record
  left = left_of n k

  abbrev added : List Record
  added = reopens place.role left

  abbrev front : List LogRecord
  front = whole_within (old.log.behind + keep) old.log.kept.unforced

  front_is : front ≡ logged old (take k n.unforced)
  front_is =
      within_is_front (old.log.behind + keep) old.log.kept.unforced
      ∙ ap (take k) stands.unforced ∙ sym (map_take (in_log q) k n.unforced)

  left_is : left_by old.log keep ≡ logged old left
  left_is = (λ j. stands.forced j ++ front_is j) ∙ sym (map_append (in_log q) n.forced (take k n.unforced))

  own_left : KeepsOwn place (record n { unforced = take k n.unforced })
  own_left =
      all_append (is_own_record place) n.forced (take k n.unforced)
      (all_front (is_own_record place) n.forced n.unforced own)
      (all_taken (is_own_record place) k n.unforced
      (all_behind (is_own_record place) n.forced n.unforced own))

  read_left : read_of old (left_by old.log keep) ≡ left
  read_left = ap (own_records place) left_is ∙ reads_back place left own_left

  added_is : reopened old keep ≡ added
  added_is = ap (reopens place.role) read_left

  whole_is : restarted_log old keep ≡ logged old (left ++ added)
  whole_is = (λ j. left_is j ++ logged old (added_is j)) ∙ sym (map_append (in_log q) left added)

  read_whole : read_of old (restarted_log old keep) ≡ left ++ added
  read_whole =
      ap (own_records place) whole_is
      ∙ reads_back place (left ++ added) (all_append (is_own_record place) left added own_left
      (reopens_own place place.role left own_left))

  stands_restarted : (reaction : Reaction) → ProcessRestarts old keep new reaction
      → StandsFor (restarted place n k) (record new { place = place })
  stands_restarted reaction made =
      record {
        forced = ap (λ (l : LogSight). l.kept.forced) made.log ∙ whole_is;
        unforced = ap (λ (l : LogSight). l.kept.unforced) made.log;
        failed = ap (λ (l : LogSight). l.failed) made.log;
        up = λ runs. read_off_up (restarted place n k) (record new { place = place }) refl
            (subst (λ rs. ReadOff (record new { place = place }) rs) (sym (append-nil (left ++ added)))
            (subst (λ p. ReadOff (record new { place = p }) (left ++ added)) made.place
            (subst (λ rs. ReadOff new rs) read_whole made.read)));
      }

  pub restarts_so : (reaction : Reaction) → ProcessRestarts old keep new reaction
      → StepsAs n old new (quiet_move place.me (restart_of old keep) None) reaction
  unfolding node_makes
  restarts_so reaction made =
      record {
        effect = restart_effect place n k;
        left = restarted place n k;
        makes = refl;
        shown = made.shown ∙ ap (λ rs. reaction_of (reopening place.role place.me rs)) read_left;
        stands = subst (λ p. StandsFor (restarted place n k) (record new { place = p })) (sym made.place)
            (stands_restarted reaction made);
      }

  -- The device fails: what was left stands, and after it a front of what the restart writes.

  module _ (breaks : ProcessNotRestarted old keep new Device) where
    abbrev appended : ℕ
    appended = breaks.0.appended

    abbrev behind : List Record
    behind = take k n.unforced ++ take appended added

    records : records_of new.log.kept ≡ old.log.kept.forced ++ map (in_log q) behind
    records =
        breaks.0.stand
        ∙ ap (λ rs. left_by old.log keep ++ take appended (logged old rs)) added_is
        ∙ ap (λ ls. (old.log.kept.forced ++ ls) ++ take appended (logged old added)) front_is
        ∙ append_assoc old.log.kept.forced (logged old (take k n.unforced)) (take appended (logged old added))
        ∙ ap (λ ls. old.log.kept.forced ++ ls)
        (ap (λ ls. logged old (take k n.unforced) ++ ls) (sym (map_take (in_log q) appended added))
        ∙ sym (map_append (in_log q) (take k n.unforced) (take appended added)))

    parts : Split old.log.kept.forced (map (in_log q) behind) new.log.kept.forced new.log.kept.unforced
    parts = split _ _ _ _ records breaks.0.no_less

    left_so : StandsFor (restart_fails place n k appended parts.more) (record new { place = place })
    left_so =
        record {
          forced = parts.forced_is
              ∙ (λ j. stands.forced j ++ sym (map_take (in_log q) parts.more behind) j)
              ∙ sym (map_append (in_log q) n.forced (take parts.more behind));
          unforced = parts.unforced_is ∙ sym (map_drop (in_log q) parts.more behind);
          failed = breaks.0.failed;
          up = λ runs. absurd (cc);
        }

    pub restart_faults_so : BreaksAs n old new (restart_of old keep)
    unfolding node_makes
    restart_faults_so =
        record {
          fault = record { appended = appended; forced = parts.more };
          effect = fault_effect (restart_effect place n k) appended;
          left = restart_fails place n k appended parts.more;
          makes = refl;
          stands = subst (λ p. StandsFor (restart_fails place n k appended parts.more)
              (record new { place = p }))
              (sym breaks.1) left_so;
        }
