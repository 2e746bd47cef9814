-- A fault as it is noted, and what a count will say of it.
use Rattle.std.proofs.Common.{◌≡◌, ◌∙◌, ◌+◌, ◌-◌, sym, ap, subst, refl, ℕ, Option, Some, None, option_map, List, [], ◌∷◌, length, Result, Ok, Err, IfErr, IfOk}
use Rattle.protocol.specs.declared.names.ProcessId.{ProcessId}
use Rattle.protocol.specs.declared.events.JournalEntry.{JournalEntry}
use Rattle.protocol.specs.declared.events.Fault.{Fault}
use Rattle.protocol.specs.declared.events.Happening.{Happening}
use Rattle.protocol_words.specs.Variants.{ActInput, ActOf, Handles, MessageInput, Restarting, Trimming}
use Rattle.protocol.specs.declared.events.Act.{Act}
use Rattle.protocol.specs.declared.events.Event.TheVariants.{Deliver, Restart, Trim}
use Rattle.protocol.specs.declared.events.Input.{Input}
use Rattle.protocol.specs.declared.events.Reaction.{Reaction}
use Rattle.protocol.specs.declared.events.StepError.{StepError}
use Rattle.protocol.specs.declared.events.StepError.TheVariants.{Device}
use Rattle.protocol.specs.declared.messages.Envelope.{Envelope}
use Rattle.protocol.specs.Plays.{process_of_act, sent_as}
use Rattle.protocol.specs.Trees.{root_of}
use Rattle.protocol.specs.declared.trees.TreeProcess.{TreeProcess}
use Rattle.process_state.specs.States.{CoreState}
use Rattle.tree_state.specs.Steps.{records_kept, restart_of}
use Rattle.tree_state.specs.Worlds.{KeepsBytes, NotActed, NotDelivered, WorldState}
use Rattle.log_records.specs.Sights.{left_by}
use Rattle.proof_failures.specs.Fails.{InputFails, MessageFails, RestartBreaksOff, TrimBreaksOff}
use Rattle.tree_state.specs.Faults.{TrimLeaves, fault_entry, trim_fault}
use Rattle.tree_faults.specs.declared.count.Count.{Count}
use Rattle.tree_faults.specs.declared.faults.LastFault.{LastFault}
use Rattle.tree_faults.specs.declared.faults.FaultCause.{FaultCause}
use Rattle.tree_faults.proofs.Trims.{trim_leaves}
use Rattle.log_rules.specs.sound.Written.{AreBytes}
use Rattle.log_text.proofs.NumberBytes.{bytes_behind}
use Rattle.tree_faults.specs.Counts.{CountsAt, KeepsAt, count_in, left_since, trim_left}
use Rattle.tree_faults.specs.Faults.{FaultsSight, fault_by, failed_entries, happening_by, last_step, log_bytes, step_by}
use Rattle.tree_faults.proofs.Counting.{kept_alike, left_count}
use Rattle.tree_world.specs.LogsLeft.{LogStandsBy}
use Rattle.tree_world.specs.Nodes.{BreaksUnder, NoStepAt, NodesSight, SpellsLogBy}
use Rattle.tree_world.specs.Restarts.{RestartBreaksAt, TrimBreaksAt}
use Rattle.tree_faults.specs.declared.faults.FaultCause.TheVariants.{Act as ActCause, Message as MessageCause, Restart as RestartCause, Trim as TrimCause}
use Rattle.tree_faults.specs.Traces.{NotesFault, last_in}
use Rattle.tree_journal.specs.Journals.{JournalState, SameJournal}
use Rattle.tree_world.proofs.Acting.{not_acted, not_delivered, refused_so}
use Rattle.tree_world.proofs.Handling.{world}

-- what is told of the last fault, where it is known what was to happen and how the process stands
last_told : (s : WorldState) (f : FaultsSight) (x : LastFault) (h : Happening) (c : CoreState)
    → f.last ≡ Some x
    → happening_by s.net x.cause ≡ Some h → s.node_at x.process ≡ Some c
    → last_in s f ≡ fault_entry x.process h (fault_by x.cause x.before c) ∷ []
last_told s f x h c last happens stands =
    ap (λ o. failed_entries (last_step s.net s.node_at o)) last
    ∙ (λ i. failed_entries (step_by x (happens i) (stands i)))

-- of an input
pub record InputNoted (s t : WorldState) (g : FaultsSight) (q : ProcessId) (i : Input) : Type 0 where
  pub entry : JournalEntry
  pub last : last_in t g ≡ entry ∷ []
  pub fails : InputFails s t q i entry

pub input_noted : (tree : List TreeProcess) (nodes after : NodesSight) (j k : JournalState) (g : FaultsSight)
    (x : LastFault) (i : Input) → SameJournal j k → BreaksUnder nodes after x.process i
    → CountsAt x.before (nodes.node_at x.process) → g.last ≡ Some x
    → happening_by k.net x.cause ≡ Some (Handles i)
    → ((c : CoreState) → fault_by x.cause x.before c ≡ left_since x.before.records x.before (count_in c))
    → InputNoted (world tree nodes j) (world tree after k) g x.process i
input_noted tree nodes after j k g x i keeps breaks counts last happens numbers =
    let before = breaks.before in
    let behind = breaks.behind in
    let is : x.before ≡ count_in before = subst (CountsAt x.before) breaks.moves.stood counts in
    record {
      entry = fault_entry x.process (Handles i) (fault_by x.cause x.before behind);
      last = last_told (world tree after k) g x (Handles i) behind last happens breaks.moves.stands;
      fails = record {
        fails = record {
          before = before;
          behind = behind;
          moves = record {
            tree = refl;
            stood = breaks.moves.stood;
            stands = breaks.moves.stands;
            others = breaks.moves.others;
            others_data = breaks.moves.others_data;
          };
          answer = breaks.fails.answer;
          answers = breaks.fails.answers;
          broken = breaks.fails.broken;
          net = keeps.net;
          delivered = keeps.delivered;
          entries = keeps.entries;
        };
        writes = breaks.fails.writes;
        entry = ap (fault_entry x.process (Handles i))
            (numbers behind ∙ ap (λ (c : Count). left_since c.records c (count_in behind)) is);
      };
    }

-- of a restart
pub record RestartNoted (s t : WorldState) (g : FaultsSight) (q : ProcessId) (bytes : Option ℕ) : Type 0 where
  pub entry : JournalEntry
  pub last : last_in t g ≡ entry ∷ []
  pub fails : RestartBreaksOff s t q bytes entry

pub restart_noted : (tree : List TreeProcess) (nodes after : NodesSight) (j k : JournalState)
    (g : FaultsSight)
    (x : LastFault) (bytes : Option ℕ) (kept : ℕ) → SameJournal j k
    → RestartBreaksAt nodes after x.process bytes
    → CountsAt x.before (nodes.node_at x.process) → KeepsAt bytes (nodes.node_at x.process) kept
    → g.last ≡ Some x
    → happening_by k.net x.cause ≡ Some (Restarting kept)
    → ((c : CoreState) → fault_by x.cause x.before c ≡ left_since (x.before.forced + kept)
    x.before (count_in c))
    → RestartNoted (world tree nodes j) (world tree after k) g x.process bytes
restart_noted tree nodes after j k g x bytes kept keeps breaks counts left last happens numbers =
    let before = breaks.before in
    let behind = breaks.behind in
    let keep = breaks.breaks.keep in
    let is : x.before ≡ count_in before = subst (CountsAt x.before) breaks.moves.stood counts in
    let named = subst (λ o. KeepsAt bytes o kept) breaks.moves.stood left in
    let same : kept ≡ records_kept before keep =
    named.count_is ∙ kept_alike before bytes named.keep keep named.keeps breaks.breaks.keeps in
    let stood : x.before.forced + kept ≡ length (left_by before.log keep) =
    (λ i. (is i).forced + same i) ∙ sym (left_count before keep) in
    record {
      entry = fault_entry x.process (Restarting kept) (fault_by x.cause x.before behind);
      last = last_told (world tree after k) g x (Restarting kept) behind last happens breaks.moves.stands;
      fails = record {
        fails = record {
          before = before;
          behind = behind;
          keep = keep;
          moves = record {
            tree = refl;
            stood = breaks.moves.stood;
            stands = breaks.moves.stands;
            others = breaks.moves.others;
            others_data = breaks.moves.others_data;
          };
          keeps = breaks.breaks.keeps;
          broken = breaks.breaks.broken;
          net = keeps.net;
          delivered = keeps.delivered;
          entries = keeps.entries;
        };
        entry = ap (fault_entry x.process (Restarting kept))
            (numbers behind ∙ (λ i. left_since (stood i) (is i) (count_in behind)))
            ∙ ap (λ n. fault_entry x.process (Restarting n)
            (left_since (length (left_by before.log keep)) (count_in before) (count_in behind))) same;
      };
    }

-- of a trim
pub record TrimNoted (s t : WorldState) (g : FaultsSight) (q : ProcessId) : Type 0 where
  pub entry : JournalEntry
  pub last : last_in t g ≡ entry ∷ []
  pub fails : TrimBreaksOff s t q entry

pub trim_noted : (tree : List TreeProcess) (nodes after : NodesSight) (j k : JournalState) (g : FaultsSight)
    (x : LastFault) (text : List ℕ) → SameJournal j k → (breaks : TrimBreaksAt nodes after x.process)
    → CountsAt x.before (nodes.node_at x.process) → g.last ≡ Some x
    → happening_by k.net x.cause ≡ Some Trimming
    → ((c : CoreState) → fault_by x.cause x.before c ≡ trim_fault
    (trim_left text (log_bytes c) x.before (count_in c)))
    → TrimLeaves breaks.before breaks.behind
    (trim_left text (log_bytes breaks.behind) (count_in breaks.before) (count_in breaks.behind))
    → TrimNoted (world tree nodes j) (world tree after k) g x.process
trim_noted tree nodes after j k g x text keeps breaks counts last happens numbers leaves =
    let before = breaks.before in
    let behind = breaks.behind in
    let is : x.before ≡ count_in before = subst (CountsAt x.before) breaks.moves.stood counts in
    record {
      entry = fault_entry x.process Trimming (fault_by x.cause x.before behind);
      last = last_told (world tree after k) g x Trimming behind last happens breaks.moves.stands;
      fails = record {
        fails = record {
          before = before;
          behind = behind;
          moves = record {
            tree = refl;
            stood = breaks.moves.stood;
            stands = breaks.moves.stands;
            others = breaks.moves.others;
            others_data = breaks.moves.others_data;
          };
          works = breaks.breaks.works;
          sound = breaks.breaks.sound;
          broken = breaks.breaks.broken;
          net = keeps.net;
          delivered = keeps.delivered;
          entries = keeps.entries;
        };
        left = trim_left text (log_bytes behind) (count_in before) (count_in behind);
        leaves = leaves;
        entry = ap (fault_entry x.process Trimming)
            (numbers behind ∙ ap (λ c. trim_fault (trim_left text (log_bytes behind) c (count_in behind)))
            is);
      };
    }

-- What a call leaves where the device failed.

-- what is said of each error is said of this one
pub with_device : {T : Type 0} (made : Result T StepError) (P : StepError → Type 0) → made ≡ Err Device
    → IfErr made P
    → P Device
with_device made P is h = subst (λ (m : Result _ StepError). IfErr m P) is h

-- what is said of each success is said of this one
pub with_ok : {T : Type 0} (made : Result T StepError) (x : T) (P : T → Type 0) → made ≡ Ok x → IfOk made P
    → P x
with_ok made x P is h = subst (λ (m : Result _ StepError). IfOk m P) is h

-- and what is said of this one alone
pub where_failed : {T : Type 0} (made : Result T StepError) (P : Type 0) → made ≡ Err Device
    → IfErr made (λ e. e ≡ Device → P) → P
where_failed made P is h = with_device made (λ e. e ≡ Device → P) is h refl

-- an act
pub act_fails : (tree : List TreeProcess) (nodes after : NodesSight) (j k : JournalState)
    (q p : ProcessId) (a : Act)
    (made : Result Reaction StepError) → p ≡ q → SameJournal j k → made ≡ Err Device
    → IfErr made (NoStepAt nodes after p (ActInput a))
    → NotActed (world tree nodes j) (world tree after k) q a Device
act_fails tree nodes after j k q p a made at keeps is stops =
    subst (λ (x : ProcessId). NotActed (world tree nodes j) (world tree after k) x a Device) at
    (not_acted tree nodes after j k p a Device keeps
    (refused_so nodes after p (ActInput a) made Device is stops))

pub delivery_fails : (tree : List TreeProcess) (nodes after : NodesSight) (j k : JournalState)
    (n : ℕ) (m : Envelope)
    (made : Result Reaction StepError) → SameJournal j k → sent_as k.net n ≡ Some m → made ≡ Err Device
    → IfErr made (NoStepAt nodes after m.to (MessageInput n m.message))
    → NotDelivered (world tree nodes j) (world tree after k) n Device
delivery_fails tree nodes after j k n m made keeps sent is stops =
    not_delivered tree nodes after j k n m Device keeps (ap (λ ls. sent_as ls n) (sym keeps.net) ∙ sent)
    (refused_so nodes after m.to (MessageInput n m.message) made Device is stops)

pub act_noted : (tree : List TreeProcess) (nodes after : NodesSight) (j k : JournalState) (f g : FaultsSight)
    (q : ProcessId) (a : Act) (c : Count) (made : Result Reaction StepError)
    → q ≡ process_of_act (root_of tree) a
    → SameJournal j k → made ≡ Err Device → IfErr made
    (λ e. e ≡ Device → BreaksUnder nodes after q (ActInput a))
    → CountsAt c (nodes.node_at q) → g ≡ record f {
      last =
          Some (record { process = q; cause = ActCause a; before = c });
    }
    → NotesFault (world tree nodes j) f (ActOf a) (world tree after k) g
act_noted tree nodes after j k f g q a c made at keeps is under counts noted =
    let x : LastFault = record { process = q; cause = ActCause a; before = c } in
    let n = input_noted tree nodes after j k g x (ActInput a) keeps
    (where_failed made (BreaksUnder nodes after q (ActInput a)) is under)
    counts (ap (λ (h : FaultsSight). h.last) noted) refl (λ s. refl) in
    record {
      counted = ap (λ (h : FaultsSight). h.counted) noted;
      entry = n.entry;
      last = n.last;
      fails = subst (λ p. InputFails (world tree nodes j) (world tree after k) p (ActInput a) n.entry) at
          n.fails;
    }

-- a delivery
pub delivery_noted : (tree : List TreeProcess) (nodes after : NodesSight) (j k : JournalState)
    (f g : FaultsSight)
    (n : ℕ) (m : Envelope) (c : Count) (made : Result Reaction StepError) → SameJournal j k
    → sent_as k.net n ≡ Some m
    → made ≡ Err Device → IfErr made (λ e. e ≡ Device
    → BreaksUnder nodes after m.to (MessageInput n m.message))
    → CountsAt c (nodes.node_at m.to)
    → g ≡ record f { last = Some (record { process = m.to; cause = MessageCause n; before = c }) }
    → NotesFault (world tree nodes j) f (Deliver n) (world tree after k) g
delivery_noted tree nodes after j k f g n m c made keeps sent is under counts noted =
    let x : LastFault = record { process = m.to; cause = MessageCause n; before = c } in
    let i : Input = MessageInput n m.message in
    let note = input_noted tree nodes after j k g x i keeps
    (where_failed made (BreaksUnder nodes after m.to i) is under)
    counts (ap (λ (h : FaultsSight). h.last) noted)
    (ap (option_map (λ (l : Envelope). Handles (MessageInput n l.message))) sent) (λ s. refl) in
    record {
      counted = ap (λ (h : FaultsSight). h.counted) noted;
      entry = note.entry;
      last = note.last;
      fails = subst (λ o. MessageFails (world tree nodes j) (world tree after k) n o note.entry)
          (sym (ap (λ ls. sent_as ls n) (sym keeps.net) ∙ sent)) note.fails;
    }

-- a restart
pub restart_fault : (tree : List TreeProcess) (nodes after : NodesSight) (j k : JournalState)
    (f g : FaultsSight)
    (q : ProcessId) (bytes : Option ℕ) (kept : ℕ) (c : Count) → SameJournal j k
    → RestartBreaksAt nodes after q bytes
    → CountsAt c (nodes.node_at q) → KeepsAt bytes (nodes.node_at q) kept
    → g ≡ record f { last = Some (record { process = q; cause = RestartCause kept; before = c }) }
    → NotesFault (world tree nodes j) f (Restart q bytes) (world tree after k) g
restart_fault tree nodes after j k f g q bytes kept c keeps breaks counts left noted =
    let x : LastFault = record { process = q; cause = RestartCause kept; before = c } in
    let n = restart_noted tree nodes after j k g x bytes kept keeps breaks counts left
    (ap (λ (h : FaultsSight). h.last) noted) refl (λ s. refl) in
    record {
      counted = ap (λ (h : FaultsSight). h.counted) noted;
      entry = n.entry;
      last = n.last;
      fails = n.fails;
    }

-- a trim, where the bytes of the log before it are known
pub trim_fault_noted : (tree : List TreeProcess) (nodes after : NodesSight) (j k : JournalState)
    (f g : FaultsSight)
    (q : ProcessId) (cause : FaultCause) (text : List ℕ) (c : Count) → SameJournal j k
    → TrimBreaksAt nodes after q
    → CountsAt c (nodes.node_at q) → SpellsLogBy (nodes.node_at q) text → AreBytes text
    → LogStandsBy (after.node_at q)
    → happening_by k.net cause ≡ Some Trimming
    → ((b : Count) (s : CoreState) → fault_by cause b s
    ≡ trim_fault (trim_left text (log_bytes s) b (count_in s)))
    → g ≡ record f { last = Some (record { process = q; cause = cause; before = c }) }
    → NotesFault (world tree nodes j) f (Trim q) (world tree after k) g
trim_fault_noted tree nodes after j k f g q cause text c keeps breaks counts spelled bytes stand
    happens numbers noted =
    let x : LastFault = record { process = q; cause = cause; before = c } in
    let spells = subst (λ (o : Option CoreState). SpellsLogBy o text) breaks.moves.stood spelled in
    let stands = subst LogStandsBy breaks.moves.stands stand in
    let broken = breaks.breaks.broken in
    let leaves = trim_leaves breaks.before breaks.behind text (bytes_behind 5 text bytes) spells
    breaks.breaks.works
    broken.place stands.sound broken in
    let n = trim_noted tree nodes after j k g x text keeps breaks counts
    (ap (λ (h : FaultsSight). h.last) noted)
    happens (numbers c) leaves in
    record {
      counted = ap (λ (h : FaultsSight). h.counted) noted;
      entry = n.entry;
      last = n.last;
      fails = n.fails;
    }
