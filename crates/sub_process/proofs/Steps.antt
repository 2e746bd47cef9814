-- What an input makes of a subordinate.
use Rattle.std.proofs.Common.{◌≡◌, ◌≢◌, ◌∙◌, ℕ, Bool, true, false, Option, Some, None, [], ◌∷◌, Result, Ok, Err, IfOk, IfErr, refl, sym, ap, subst, if◌then◌else◌}
use Rattle.std.specs.Prelude.{◌&&◌, OnOk}
use Rattle.protocol.specs.declared.names.Case.{Case}
use Rattle.protocol.specs.declared.names.Ticket.{Ticket}
use Rattle.protocol.specs.declared.names.Txn.{Txn}
use Rattle.protocol.specs.declared.messages.Message.{Message}
use Rattle.protocol.specs.declared.messages.Message.TheVariants.{Join, Joined, Work, Prepare, Yes, No, Read, Commit, Abort, Ack, Inquire}
use Rattle.protocol.specs.declared.messages.Op.{Op}
use Rattle.protocol.specs.declared.events.Act.{Act}
use Rattle.protocol.specs.declared.events.Act.TheVariants.{Ask}
use Rattle.protocol.specs.declared.events.Input.{Input}
use Rattle.protocol_words.specs.Variants.{ActInput, MessageInput}
use Rattle.protocol.specs.declared.events.Reaction.{Reaction}
use Rattle.protocol.specs.declared.events.StepError.{StepError}
use Rattle.protocol.specs.declared.events.StepError.TheVariants.{Memory, Device, UnknownTxn, NotAChild, Closed, Failed, NotInDoubt, NothingToForget, NoSuch, Exhausted}
use Rattle.protocol.specs.Names.{same_txn}
use Rattle.protocol.specs.Nodes.{DataAnswer}
use Rattle.protocol.specs.CoordinatorRows.{post}
use Rattle.protocol.specs.ManagerRows.{Leaf, untold_ask}
use Rattle.protocol.specs.Reactions.{act_is_listed, sends_only}
use Rattle.process_state.specs.Turns.{FindsChildCase, Handles, Refuses, Says, Turn, asked_by, asked_in, leaf_ask_turn, leaf_in, reacted, turn_of, up_turn, is_refusal}
use Rattle.process_state.specs.Makes.{Limited, ProcessMakes, NotMade}
use Rattle.sub_branches.specs.declared.branch.LiveBranch.{LiveBranch}
use Rattle.sub_branches.specs.declared.branch.BranchStage.{BranchStage}
use Rattle.sub_branches.specs.declared.branch.BranchStage.TheVariants.{Active, Heuristic, Prepared}
use Rattle.sub_branches.specs.Stages.{awaits}
use Rattle.sub_branches.specs.Tables.{branch_in, kept_view, stage_view, ticket_in}
use Rattle.sub_process.specs.Subordinates.{Hears, NotHeard, NotTurned, SubState, Turns, MovesWrites, core_of, turn_for}
use Rattle.sub_work.specs.Replies.{shown}
use Rattle.sub_work.specs.Deeds.{KeepsManager}
use Rattle.sub_process.specs.Steps.{Acts, InputLeaves, NotActed, data_answer, turn_at}
use Rattle.sub_process.proofs.Joins.{stays, stays_core}
use Rattle.sub_process.proofs.Rows.{handled}
use Rattle.sub_process.proofs.Staying.{no_record, rests}
use Rattle.sub_process.proofs.Decisions.{no_retire}

-- Acts.

-- the reaction table refuses it by this error
pub refuses : (s : SubState) (turn : Turn) (e : StepError) → turn ≡ Refuses e
    → is_refusal e ≡ true → NotTurned s s turn e
refuses s turn Device is no_device = absurd cc
refuses s turn Exhausted is no_numbers = absurd cc
refuses s turn Memory is ok = stays s
refuses s turn UnknownTxn is ok = (stays s, is)
refuses s turn NotAChild is ok = (stays s, is)
refuses s turn Closed is ok = (stays s, is)
refuses s turn Failed is ok = (stays s, is)
refuses s turn NotInDoubt is ok = (stays s, is)
refuses s turn NothingToForget is ok = (stays s, is)
refuses s turn NoSuch is ok = (stays s, is)

-- an ask of a case at a stage
asks_at : (l : Leaf) (st : BranchStage) → awaits st ≡ true
    → leaf_ask_turn l (stage_view st) (stage_view st).standing ≡ Handles l.own (untold_ask l (stage_view st))
asks_at l (Active g n p) h = absurd cc
asks_at l Prepared h = refl
asks_at l (Heuristic None) h = refl
asks_at l (Heuristic (Some o)) h = absurd cc

not_asks_at : (l : Leaf) (st : BranchStage) → awaits st ≡ false
    → leaf_ask_turn l (stage_view st) (stage_view st).standing ≡ Refuses NotInDoubt
not_asks_at l (Active g n p) h = refl
not_asks_at l Prepared h = absurd cc
not_asks_at l (Heuristic None) h = absurd cc
not_asks_at l (Heuristic (Some o)) h = refl

-- a case that awaits its outcome is asked about
pub asked : (s : SubState) (c : Case) (b : LiveBranch) → Some b ≡ branch_in s.table c → awaits b.stage ≡ true
    → Acts s s (Ask c) (shown [] (post s.me s.parent (Inquire c) ∷ []))
asked s c b at is =
    let l : Leaf = leaf_in (core_of s) s.parent c in
    let turn : turn_at s (Ask c) ≡ Handles c (untold_ask l (stage_view b.stage)) =
    ap (λ (o : Option LiveBranch). leaf_ask_turn l (kept_view o) (kept_view o).standing)
    (sym at) ∙ asks_at l b.stage is in
    record {
      turns = subst (λ (t : Turn). Turns s s (ActInput (Ask c)) t
          (shown [] (post s.me s.parent (Inquire c) ∷ []))) (sym turn)
          (handled s s.table s.manager (ActInput (Ask c)) c (untold_ask l (stage_view b.stage))
          (no_record s.manager.log) (ap kept_view (sym at))
          (λ d apart. refl) (λ d. no_retire (Ask c) d (ticket_in s.table d)) (λ d e. refl) refl);
      writes = rests s.manager;
    }

-- and any other is not
pub not_asked : (s : SubState) (c : Case) (b : LiveBranch) → Some b ≡ branch_in s.table c
    → awaits b.stage ≡ false
    → NotActed s s (Ask c) NotInDoubt
not_asked s c b at is =
    let l : Leaf = leaf_in (core_of s) s.parent c in
    refuses s (turn_at s (Ask c)) NotInDoubt
    (ap (λ (o : Option LiveBranch). leaf_ask_turn l (kept_view o) (kept_view o).standing) (sym at)
    ∙ not_asks_at l b.stage is) refl

-- Which turn an input meets.

none_asked : (s : SubState) (o : Option (Txn × Ticket)) → FindsChildCase (core_of s) o None
none_asked s None = refl
none_asked s (Some p) = λ c. by_txn (same_txn c.txn p.0)
  where
    by_txn : (b : Bool) → (b && false) ≡ false
    by_txn true = refl
    by_txn false = refl

module _ (s : SubState) (a : DataAnswer) (i : Input) where
  pub unlisted : act_is_listed s.tree i ≡ false → turn_of (core_of s) a None i ≡ Refuses NoSuch
  unfolding turn_of
  unlisted e = ap (λ b. if b then (if s.manager.log.failed then Refuses Failed else up_turn (core_of s) a
      None i) else Refuses NoSuch) e

  pub has_failed : act_is_listed s.tree i ≡ true → s.manager.log.failed ≡ true
      → turn_of (core_of s) a None i ≡ Refuses Failed
  unfolding turn_of
  has_failed e f =
      ap (λ b. if b then (if s.manager.log.failed then Refuses Failed else up_turn (core_of s) a
      None i) else Refuses NoSuch) e
      ∙ ap (λ b. if b then Refuses Failed else up_turn (core_of s) a None i) f

  pub up : act_is_listed s.tree i ≡ true → s.manager.log.failed ≡ false
      → turn_of (core_of s) a None i ≡ up_turn (core_of s) a None i
  unfolding turn_of
  up e f =
      ap (λ b. if b then (if s.manager.log.failed then Refuses Failed else up_turn (core_of s) a
      None i) else Refuses NoSuch) e
      ∙ ap (λ b. if b then Refuses Failed else up_turn (core_of s) a None i) f

none_found : (s : SubState) (i : Input) → FindsChildCase (core_of s) (asked_by i) None
none_found s (ActInput a) = refl
none_found s (MessageInput k m) = none_asked s (asked_in m)

-- Makes.

pub made : (old new : SubState) (a : DataAnswer) (i : Input) (turn : Turn) (reaction : Reaction)
    → turn_of (core_of old) a None i ≡ turn
    → Turns old new i turn reaction → ProcessMakes (core_of old) (core_of new) a i reaction
made old new a i turn reaction is t = record {
  found = None;
  finds = none_found old i;
  moves = rw is t.moves;
  effect = t.effect;
  does = ap reacted is ∙ t.does;
  shown = t.shown;
}

pub not_made : (old new : SubState) (a : DataAnswer) (i : Input) (turn : Turn) (e : StepError)
    → turn_of (core_of old) a None i ≡ turn
    → NotTurned old new turn e → NotMade (core_of old) (core_of new) a i e
not_made old new a i turn Memory is t = t.core
not_made old new a i turn Device is t = record { found = None; finds = none_found old i; breaks = rw is t }
not_made old new a i turn UnknownTxn is t = record {
  same = t.0.core;
  found = None;
  finds = none_found old i;
  refuses = is ∙ t.1;
}
not_made old new a i turn NotAChild is t = record {
  same = t.0.core;
  found = None;
  finds = none_found old i;
  refuses = is ∙ t.1;
}
not_made old new a i turn Closed is t = record {
  same = t.0.core;
  found = None;
  finds = none_found old i;
  refuses = is ∙ t.1;
}
not_made old new a i turn Failed is t = record {
  same = t.0.core;
  found = None;
  finds = none_found old i;
  refuses = is ∙ t.1;
}
not_made old new a i turn NotInDoubt is t = record {
  same = t.0.core;
  found = None;
  finds = none_found old i;
  refuses = is ∙ t.1;
}
not_made old new a i turn NothingToForget is t =
    record { same = t.0.core; found = None; finds = none_found old i; refuses = is ∙ t.1 }
not_made old new a i turn NoSuch is t = record {
  same = t.0.core;
  found = None;
  finds = none_found old i;
  refuses = is ∙ t.1;
}
not_made old new a i turn Exhausted is t = record { same = t.0.core; why = Limited t.1 }

-- an error but the device's leaves the manager as it was
kept_by : (old new : SubState) (turn : Turn) (e : StepError) → NotTurned old new turn e
    → e ≢ Device → KeepsManager old.manager new.manager
kept_by old new turn Memory t other = t.manager
kept_by old new turn Device t other = absurd (other refl)
kept_by old new turn _ t other = t.0.manager

-- Results.

pub act_ok : (s t : SubState) (a : Act) (r : Result Reaction StepError)
    → act_is_listed s.tree (ActInput a) ≡ true → s.manager.log.failed ≡ false
    → IfOk r (Acts s t a) → IfOk r (ProcessMakes (core_of s) (core_of t)
    (data_answer s (ActInput a)) (ActInput a))
act_ok s t a (Ok reaction) listed works acts =
    made s t _ (ActInput a) (turn_at s a) reaction (up s _ (ActInput a) listed works) acts.turns
act_ok s t a (Err e) listed works acts = acts

pub act_writes : (s t : SubState) (a : Act) (r : Result Reaction StepError) → IfOk r (Acts s t a)
    → OnOk r (InputLeaves (ActInput a) s t)
act_writes s t a (Ok reaction) acts = acts.writes
act_writes s t a (Err e) acts = acts

pub act_err : (s t : SubState) (a : Act) (r : Result Reaction StepError)
    → act_is_listed s.tree (ActInput a) ≡ true → s.manager.log.failed ≡ false
    → IfErr r (NotActed s t a) → IfErr r (NotMade (core_of s) (core_of t)
    (data_answer s (ActInput a)) (ActInput a))
act_err s t a (Ok reaction) listed works acts = acts
act_err s t a (Err e) listed works acts = not_made s t _ (ActInput a) (turn_at s a) e
    (up s _ (ActInput a) listed works) acts

pub act_kept : (s t : SubState) (a : Act) (r : Result Reaction StepError) → IfErr r (NotActed s t a)
    → IfErr r (λ e. e ≢ Device → KeepsManager s.manager t.manager)
act_kept s t a (Ok reaction) acts = acts
act_kept s t a (Err e) acts = kept_by s t (turn_at s a) e acts

pub hear_ok : (old new : SubState) (k : ℕ) (m : Message) (r : Result Reaction StepError)
    → old.manager.log.failed ≡ false → IfOk r (Hears old new m)
    → IfOk r (ProcessMakes (core_of old) (core_of new) (data_answer old (MessageInput k m))
    (MessageInput k m))
hear_ok old new k m (Ok reaction) works h = made old new _ (MessageInput k m) (turn_for old m) reaction
    (up old _ (MessageInput k m) refl works) (h.turns k)
hear_ok old new k m (Err e) works h = h

pub hear_writes : (old new : SubState) (k : ℕ) (m : Message) (r : Result Reaction StepError)
    → IfOk r (Hears old new m) → OnOk r (InputLeaves (MessageInput k m) old new)
hear_writes old new k m (Ok reaction) h = h.writes
hear_writes old new k m (Err e) h = h

pub hear_err : (old new : SubState) (k : ℕ) (m : Message) (r : Result Reaction StepError)
    → old.manager.log.failed ≡ false → IfErr r (NotHeard old new m)
    → IfErr r (NotMade (core_of old) (core_of new) (data_answer old (MessageInput k m)) (MessageInput k m))
hear_err old new k m (Ok reaction) works h = h
hear_err old new k m (Err e) works h = not_made old new _ (MessageInput k m) (turn_for old m) e
    (up old _ (MessageInput k m) refl works) h

pub hear_kept : (old new : SubState) (m : Message) (r : Result Reaction StepError)
    → IfErr r (NotHeard old new m) → IfErr r (λ e. e ≢ Device → KeepsManager old.manager new.manager)
hear_kept old new m (Ok reaction) h = h
hear_kept old new m (Err e) h = kept_by old new (turn_for old m) e h

-- a message that says nothing to a manager
pub unheard : (s : SubState) (m : Message) → turn_for s m ≡ Says [] → MovesWrites s s m
    → Hears s s m (shown [] [])
unheard s m is writes = record {
  turns = λ k. subst (λ (t : Turn). Turns s s (MessageInput k m) t (shown [] [])) (sym is)
      (record { moves = stays_core s; effect = sends_only []; does = refl; shown = refl });
  writes = writes;
}

-- a message that is none of a parent
pub unheard_of : (s : SubState) (m : Message) → ((c : Case) → m ≡ Join c → ⊥)
    → ((c : Case) (i : ℕ) (op : Op) → m ≡ Work c i op → ⊥)
    → ((c : Case) (n : ℕ) → m ≡ Prepare c n → ⊥) → ((c : Case) → m ≡ Commit c → ⊥)
    → ((c : Case) → m ≡ Abort c → ⊥) → Hears s s m (shown [] [])
unheard_of s (Join c) no_join no_work no_prepare no_commit no_abort = absurd (no_join c refl)
unheard_of s (Work c i op) no_join no_work no_prepare no_commit no_abort = absurd (no_work c i op refl)
unheard_of s (Prepare c n) no_join no_work no_prepare no_commit no_abort = absurd (no_prepare c n refl)
unheard_of s (Commit c) no_join no_work no_prepare no_commit no_abort = absurd (no_commit c refl)
unheard_of s (Abort c) no_join no_work no_prepare no_commit no_abort = absurd (no_abort c refl)
unheard_of s (Joined d t) no_join no_work no_prepare no_commit no_abort =
    unheard s (Joined d t) refl (rests s.manager)
unheard_of s (Yes c) no_join no_work no_prepare no_commit no_abort = unheard s (Yes c) refl (rests s.manager)
unheard_of s (No c) no_join no_work no_prepare no_commit no_abort = unheard s (No c) refl (rests s.manager)
unheard_of s (Read c) no_join no_work no_prepare no_commit no_abort =
    unheard s (Read c) refl (rests s.manager)
unheard_of s (Ack c o fs) no_join no_work no_prepare no_commit no_abort =
    unheard s (Ack c o fs) refl (rests s.manager)
unheard_of s (Inquire c) no_join no_work no_prepare no_commit no_abort =
    unheard s (Inquire c) refl (rests s.manager)
