-- What a restart makes rests on what the crash left.
use Rattle.std.proofs.Common.{ℕ, List, ◌++◌, subst, sym, ap, ◌∙◌, map}
use Rattle.protocol.specs.declared.records.LogRecord.{LogRecord}
use Rattle.protocol.specs.declared.records.Record.{Record}
use Rattle.protocol.specs.declared.events.Reaction.{Reaction}
use Rattle.protocol.specs.LogNames.{in_log, own_records, parent_of}
use Rattle.protocol.specs.Nodes.{Place, reaction_of}
use Rattle.protocol.specs.Restarts.{reopens}
use Rattle.log_records.specs.Sights.{LogSight, left_by}
use Rattle.process_state.specs.States.{forced_sight, form_of}
use Rattle.process_state.specs.Restarting.{ReadOff, reopening}
use Rattle.process_state.specs.Laws.{LeftLogsRestartAlike}

-- the log that a restart leaves of a process here, where these records are left
abbrev log_of : Place → List LogRecord → List LogRecord
log_of place left = left ++ map (in_log (parent_of place.role)) (reopens place.role (own_records place left))

abbrev sight_of : Place → List LogRecord → ℕ → LogSight
sight_of place left failures = forced_sight (form_of place) (log_of place left) failures

abbrev read_by : Place → List LogRecord → List Record
read_by place left = own_records place (log_of place left)

abbrev shown_by : Place → List LogRecord → Reaction
shown_by place left = reaction_of (reopening place.role place.me (own_records place left))

pub left_alike : LeftLogsRestartAlike
left_alike s old j k new reaction place failures left h =
    let p = sym place in
    let l = sym left in
    record {
      place = h.place ∙ p;
      log = h.log ∙ (ap (λ q. sight_of q (left_by s.log j) s.log.failures) p
          ∙ (ap (λ ls. sight_of old.place ls s.log.failures) l
          ∙ ap (λ n. sight_of old.place (left_by old.log k) n) (sym failures)));
      read = subst (ReadOff new) (ap (λ q. read_by q (left_by s.log j)) p ∙ ap (λ ls. read_by old.place ls) l)
          h.read;
      shown = h.shown ∙ (ap (λ q. shown_by q (left_by s.log j)) p ∙ ap (λ ls. shown_by old.place ls) l);
    }
