-- What a step leaves of a log, where it shows the same.
use Rattle.std.proofs.Common.{◌≡◌, ◌∙◌, ◌+◌, ℕ, Bool, true, false, List, [], ◌∷◌, Option, Some, None, refl, sym, ap, if◌then◌else◌}
use Rattle.std.specs.Prelude.{◌||◌, map}
use Rattle.std.specs.List.{list_any}
use Rattle.protocol.specs.declared.names.Case.{Case}
use Rattle.protocol.specs.declared.names.Ticket.{Ticket}
use Rattle.protocol.specs.declared.messages.Message.{Message}
use Rattle.protocol.specs.declared.messages.Message.TheVariants.{Join, Work, Prepare, Commit, Abort}
use Rattle.protocol.specs.declared.events.Act.{Act}
use Rattle.protocol.specs.declared.events.Act.TheVariants.{Decide, Forget}
use Rattle.protocol.specs.declared.events.StepError.TheVariants.{Failed, NoSuch}
use Rattle.protocol.specs.declared.records.ShownRecord.{ShownRecord}
use Rattle.protocol.specs.declared.events.Input.{Input}
use Rattle.protocol_words.specs.Variants.{ActInput, MessageInput}
use Rattle.protocol.specs.declared.events.Reaction.{Reaction}
use Rattle.protocol.specs.Nodes.{DataAnswer, Effect, Node, Place, Written, is_any_forced, logged_of, reaction_of}
use Rattle.protocol.specs.LogNames.{in_log, parent_of}
use Rattle.protocol.specs.Memory.{active_ticket, memory_of}
use Rattle.protocol.specs.Names.{child_case}
use Rattle.protocol.specs.Reactions.{Does, act_is_listed}
use Rattle.protocol.specs.Standings.{ManagerView}
use Rattle.log_records.specs.Sights.{LogSight}
use Rattle.process_state.specs.States.{CoreState, log_behind}
use Rattle.process_state.specs.Turns.{Begins, Handles, Issues, Refuses, Says, Takes, Turn, reacted, turn_of, up_turn}
use Rattle.process_state.specs.Makes.{ProcessMakes, ProcessMoves}
use Rattle.tree_state.specs.StandsFor.{StandsFor, branch_at}
use Rattle.resource_manager.specs.Turns.{Begins as BeginsBranch, abort_data, act_data, commit_data, data_turn, decide_data, forget_data, join_data, message_data, next_case, prepare_data, work_data}

-- a record of these was shown as forced
abbrev pub shows_force : List ShownRecord → Bool
shows_force ls = list_any (λ (l : ShownRecord). l.forced) ls

-- how many bytes of the unforced records are forced after a step that shows this
abbrev pub behind_by : ℕ → Reaction → ℕ
behind_by n r = if shows_force r.written then 0 else n

force_shown : (ws : List Written) → is_any_forced ws ≡ shows_force (map logged_of ws)
force_shown [] = refl
force_shown (w ∷ ws) = ap (λ (b : Bool). w.is_forced || b) (force_shown ws)

wrote_behind : (b : Bool) (l m n : LogSight) → m.behind ≡ 0 → n.behind ≡ l.behind
    → (if b then m else n).behind ≡ (if b then 0 else l.behind)
wrote_behind true l m n h k = h
wrote_behind false l m n h k = k

some_effect : (d e : Effect) → Does d ≡ Does e → d ≡ e
some_effect d e h = cc

shown_behind : (l m n : LogSight) (ws : List Written) (e : Effect) → e.written ≡ ws → m.behind ≡ 0
    → n.behind ≡ l.behind
    → (if is_any_forced ws then m else n).behind ≡ behind_by l.behind (reaction_of e)
shown_behind l m n ws e is h k =
    wrote_behind (is_any_forced ws) l m n h k
    ∙ ap (λ (b : Bool). if b then 0 else l.behind) (force_shown ws)
    ∙ ap (λ (vs : List Written). if shows_force (map logged_of vs) then 0 else l.behind) (sym is)

log_shown : (c : CoreState) (ws : List Written) (e : Effect) → e.written ≡ ws
    → (log_behind c ws).behind ≡ behind_by c.log.behind (reaction_of e)
log_shown c ws e is = shown_behind c.log _ _ ws e is refl refl

same_log : (c : CoreState) (l : LogSight) (e : Effect) → e.written ≡ [] → l ≡ c.log
    → l.behind ≡ behind_by c.log.behind (reaction_of e)
same_log c l e none is =
    ap (λ (k : LogSight). k.behind) is
    ∙ ap (λ (ws : List Written). if shows_force (map logged_of ws) then 0 else c.log.behind) (sym none)

written_is : (d e : Effect) (ws : List Written) → d.written ≡ ws → Does d ≡ Does e → e.written ≡ ws
written_is d e ws is h = ap (λ (f : Effect). f.written) (sym (some_effect d e h)) ∙ is

turned_behind : (c new : CoreState) (i : Input) (t : Turn) (e : Effect) → ProcessMoves c new i t
    → reacted t ≡ Does e
    → new.log.behind ≡ behind_by c.log.behind (reaction_of e)
turned_behind c new i (Refuses x) e m is = absurd m
turned_behind c new i (Begins x) e m is = same_log c new.log e (written_is _ e [] refl is) m.log
turned_behind c new i (Issues d t l) e m is = same_log c new.log e (written_is _ e [] refl is) m.log
turned_behind c new i (Takes d row) e m is =
    ap (λ (l : LogSight). l.behind) m.log ∙ log_shown c row.written e (written_is _ e row.written refl is)
turned_behind c new i (Handles d row) e m is =
    ap (λ (l : LogSight). l.behind) m.log ∙ log_shown c row.written e (written_is _ e row.written refl is)
turned_behind c new i (Says ls) e m is = same_log c new.log e (written_is _ e [] refl is) m.log

-- what a step shows says how much of the log is forced after it
pub step_behind : (c new : CoreState) (a : DataAnswer) (i : Input) (r : Reaction) → ProcessMakes c new a i r
    → new.log.behind ≡ behind_by c.log.behind r
step_behind c new a i r m =
    turned_behind c new i (turn_of c a m.found i) m.effect m.moves m.does
    ∙ ap (λ (x : Reaction). behind_by c.log.behind x) (sym m.shown)

up_by : (listed failed : Bool) (c new : CoreState) (i : Input) (t : Turn)
    → ProcessMoves c new i (if listed then (if failed then Refuses Failed else t) else Refuses NoSuch)
    → failed ≡ false
up_by true false c new i t m = refl
up_by true true c new i t m = absurd m
up_by false failed c new i t m = absurd m

-- a process that makes an input has not failed
pub made_up : (c new : CoreState) (a : DataAnswer) (i : Input) (r : Reaction) → ProcessMakes c new a i r
    → c.log.failed ≡ false
unfolding turn_of
made_up c new a i r m =
    up_by (act_is_listed c.place.tree i) c.log.failed c new i (up_turn c a m.found i) m.moves

-- Two processes that stand for the same process of the model.

abbrev pub Alike : CoreState → CoreState → Type 0
Alike c d = ((g : Case) → d.branch_of g ≡ c.branch_of g) × ((g : Case) → d.ticket_for g ≡ c.ticket_for g)
    × ((g : Case) → next_case d g ≡ next_case c g)

pub stand_alike : (n : Node) (c d : CoreState) → d.place ≡ c.place → n.failed ≡ false → StandsFor n c
    → StandsFor n d
    → Alike c d
stand_alike n c d place works h k =
    let u = h.up works in
    let v = k.up works in (
      λ g. v.branches g ∙ ap (λ (p : Place). branch_at p.role p n g) place ∙ sym (u.branches g),
      λ g. v.tickets g ∙ ap (λ (p : Place). active_ticket (memory_of p n g).active g) place
          ∙ sym (u.tickets g),
      λ g.
          let given = v.given g ∙ ap (λ (p : Place). (memory_of p n g).given) place ∙ sym (u.given g) in
          ap (λ (p : Place). child_case g.txn
          (record { child = p.me; boot = d.boot; number = d.given + 1 })) place
          ∙ ap (λ (b : ℕ). child_case g.txn
          (record { child = c.place.me; boot = b; number = d.given + 1 })) (v.boot ∙ sym u.boot)
          ∙ ap (λ (x : ℕ). child_case g.txn
          (record { child = c.place.me; boot = c.boot; number = x + 1 })) given,
    )

-- the records of their logs are the same
pub logs_alike : (n : Node) (c d : CoreState) → d.place ≡ c.place → StandsFor n c → StandsFor n d
    → (d.log.kept.forced ≡ c.log.kept.forced) × (d.log.kept.unforced ≡ c.log.kept.unforced)
logs_alike n c d place h k = (
  k.forced ∙ ap (λ (p : Place). map (in_log (parent_of p.role)) n.forced) place ∙ sym h.forced,
  k.unforced ∙ ap (λ (p : Place). map (in_log (parent_of p.role)) n.unforced) place ∙ sym h.unforced,
)

module _ (c d : CoreState) (alike : Alike c d) where
  join_alike : (g : Case) (b : Bool) (o : Option Ticket) → join_data d g b o ≡ join_data c g b o
  join_alike g b (Some t) = refl
  join_alike g true None = ap BeginsBranch (alike.2 g)
  join_alike g false None = refl

  message_alike : (a : DataAnswer) (m : Message) → message_data d a m ≡ message_data c a m
  message_alike a (Join g) =
      ap (λ (o : Option Ticket). join_data d g a.starts o) (alike.1 g)
      ∙ join_alike g a.starts (c.ticket_for g)
  message_alike a (Work g i op) =
      ap (λ (v : ManagerView). work_data g i op a.does v v.standing) (alike.0 g)
  message_alike a (Prepare g n) =
      ap (λ (v : ManagerView). prepare_data g n a.holding v v.standing) (alike.0 g)
  message_alike a (Commit g) = ap (λ (v : ManagerView). commit_data g v v.standing) (alike.0 g)
  message_alike a (Abort g) = ap (λ (v : ManagerView). abort_data g v v.standing) (alike.0 g)
  message_alike a _ = refl

  act_alike : (x : Act) → act_data d x ≡ act_data c x
  act_alike (Decide g o) = ap (λ (v : ManagerView). decide_data g v.standing) (alike.0 g)
  act_alike (Forget g) = ap (λ (v : ManagerView). forget_data g v.standing) (alike.0 g)
  act_alike _ = refl

  -- an input makes the same of their data
  pub turns_alike : (a : DataAnswer) (i : Input) → data_turn d a i ≡ data_turn c a i
  turns_alike a (ActInput x) = act_alike x
  turns_alike a (MessageInput k m) = message_alike a m
