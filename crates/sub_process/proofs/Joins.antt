-- What comes of a JOIN.
use Rattle.std.proofs.Common.{◌≡◌, ◌≢◌, ◌≤◌, ◌+◌, ◌∙◌, ℕ, negsuc, Bool, true, false, Option, Some, None, List, [], ◌∷◌, refl, sym, ap, subst, arith}
use Rattle.xa_xid.specs.declared.xid.Xid.{Xid}
use Rattle.xa_xid.specs.Xids.{XidParts, null_xid}
use Rattle.xa_branch.specs.Names.{same}
use Rattle.xa_assoc.specs.Answers.{state_at}
use Rattle.xa_branch.specs.declared.decision.Decision.{Decision}
use Rattle.protocol.specs.declared.names.Case.{Case}
use Rattle.protocol.specs.declared.names.Presumption.{Presumption}
use Rattle.protocol.specs.declared.names.Presumption.TheVariants.{PresumeAbort, PresumeCommit}
use Rattle.protocol.specs.declared.names.ProcessId.{ProcessId}
use Rattle.protocol.specs.declared.names.Ticket.{Ticket}
use Rattle.protocol.specs.declared.names.Txn.{Txn}
use Rattle.protocol.specs.declared.messages.Envelope.{Envelope}
use Rattle.protocol.specs.declared.messages.Message.TheVariants.{Join, Joined}
use Rattle.protocol.specs.declared.events.Input.{Input}
use Rattle.protocol_words.specs.Variants.{HeuristicStanding, MessageInput}
use Rattle.protocol.specs.Branches.{branch_format, branch_parts}
use Rattle.protocol.specs.Names.{same_case}
use Rattle.protocol.specs.CoordinatorRows.{post}
use Rattle.protocol.specs.Reactions.{sends_only}
use Rattle.protocol.specs.Standings.{ManagerView}
use Rattle.process_state.specs.States.{SameCore}
use Rattle.process_state.specs.Turns.{Issues, Says, Turn, leaf_joined_turn, next_ticket}
use Rattle.resource_manager.specs.Data
use Rattle.resource_manager.specs.Sights.{ManagerSight, SameManager, manager_data}
use Rattle.resource_manager.specs.Turns.{MovesData, join_data}
use Rattle.xa_tables.specs.declared.states.BranchState.TheVariants.{S2}
use Rattle.sub_work.proofs.Known.{comes_known, same_known}
use Rattle.sub_process.proofs.Staying.{rests}
use Rattle.sub_work.specs.Deeds.{BeginsBranch, HasBegun, starts}
use Rattle.sub_branches.specs.declared.branch.LiveBranch.{LiveBranch}
use Rattle.sub_branches.specs.Tables.{BranchTable, OpensBranch, SameTable, branch_in, kept_view, opened, ticket_in, view_in}
use Rattle.sub_process.specs.declared.subordinate.Front.{Front}
use Rattle.sub_process.specs.Subordinates.{AgreesWith, Hears, IsGiven, IsNamed, IsTied, Joins, KeepsProcess, SubState, Turns, core_of, decided_at, next_case, place_of, stage_state, xid_of}
use Rattle.sub_work.specs.Replies.{shown}
use Rattle.sub_work.proofs.Kept.{same_kept}
use Rattle.sub_process.proofs.Reached.{same_reached}
use Rattle.sub_process.proofs.Ties.{apart_xids, behind, one, same_tied}
use Rattle.sub_process.proofs.Rows.{no_view, same_decided}

some_same : {A : Type 0} (a b : A) → Some a ≡ Some b → a ≡ b
some_same a b e = cc

-- a subordinate that gave a ticket more
abbrev pub numbered : SubState → BranchTable → ManagerSight → ℕ → SubState
numbered s t m n = record (behind s t m) { given = n }

-- these messages go out, and nothing moves
said : (old new : SubState) (i : Input) (ls : List Envelope) → SameCore (core_of old) (core_of new)
    → Turns old new i (Says ls) (shown [] ls)
said old new i ls same = record { moves = same; effect = sends_only ls; does = refl; shown = refl }

pub stays_core : (s : SubState) → SameCore (core_of s) (core_of s)
stays_core s = record {
  log = refl;
  rest = record {
    place = refl;
    boot = refl;
    begun = refl;
    given = refl;
    tickets = λ d. refl;
    views = λ d.
        no_view;
    branches = λ d. refl;
    decided = λ d. refl;
    spent = refl;
  };
}

pub stays : (s : SubState) → KeepsProcess s s
stays s = record {
  core = stays_core s;
  manager = record {
    branches = refl;
    spent = refl;
    rest = record { writes = λ x. refl; holders = λ k. refl; decided = λ x. refl };
  };
}

-- the turn of a JOIN by the ticket that is active
abbrev turn_by : SubState → Case → Bool → Option Ticket → Turn
turn_by s d b o = leaf_joined_turn (core_of s) s.parent d b o

-- the active ticket is told again
pub repeated : (s : SubState) (d : Case) (t : Ticket) → Some t ≡ ticket_in s.table d
    → Hears s s (Join d) (shown [] (post s.me s.parent (Joined d t) ∷ []))
repeated s d t e = record {
  turns = λ k.
      subst (λ (turn : Turn). Turns s s (MessageInput k (Join d)) turn
      (shown [] (post s.me s.parent (Joined d t) ∷ [])))
      (ap (turn_by s d (starts s.manager (xid_of s (next_case s d)))) e)
      (said s s (MessageInput k (Join d)) (post s.me s.parent (Joined d t) ∷ []) (stays_core s));
  writes = subst (λ (o : Option Ticket). MovesData (manager_data s.manager) (manager_data s.manager)
      (λ c. xid_of s c)
      (join_data (core_of s) d (starts s.manager (xid_of s (next_case s d))) o)) e (rests s.manager);
}

-- what the data make of a start
abbrev joined_data : SubState → SubState → Case → Bool → Option Ticket → Type 0
joined_data s new d b o =
    MovesData (manager_data s.manager) (manager_data new.manager) (λ c. xid_of s c)
    (join_data (core_of s) d b o)

-- a fresh ticket was given
pub issued : (s new : SubState) (d : Case) → ticket_in s.table d ≡ None → Joins s new d true
    → Hears s new (Join d) (shown [] (post s.me s.parent (Joined d (next_ticket (core_of s))) ∷ []))
issued s new d ungiven j =
    let ls : List Envelope = post s.me s.parent (Joined d (next_ticket (core_of s))) ∷ [] in
    let is : turn_by s d (starts s.manager (xid_of s (next_case s d))) (ticket_in s.table d)
    ≡ Issues d (next_ticket (core_of s)) (post s.me s.parent (Joined d (next_ticket (core_of s)))) =
    ap (turn_by s d (starts s.manager (xid_of s (next_case s d)))) ungiven
    ∙ ap (λ b. turn_by s d b None) j.0 in
    record {
      turns = λ k.
          subst (λ (turn : Turn). Turns s new (MessageInput k (Join d)) turn (shown [] ls)) (sym is)
          (record { moves = j.1; effect = sends_only ls; does = refl; shown = refl });
      writes = subst (λ (o : Option Ticket). joined_data s new d
          (starts s.manager (xid_of s (next_case s d))) o)
          (sym ungiven) (subst (λ (b : Bool). joined_data s new d b None) (sym j.0) j.2);
    }

-- the manager refused the start: nothing is said
pub refused : (s new : SubState) (d : Case) → ticket_in s.table d ≡ None → Joins s new d false
    → Hears s new (Join d) (shown [] [])
refused s new d ungiven j =
    let is : turn_by s d (starts s.manager (xid_of s (next_case s d))) (ticket_in s.table d) ≡ Says [] =
    ap (turn_by s d (starts s.manager (xid_of s (next_case s d)))) ungiven
    ∙ ap (λ b. turn_by s d b None) j.0 in
    record {
      turns = λ k.
          subst (λ (turn : Turn). Turns s new (MessageInput k (Join d)) turn (shown [] [])) (sym is)
          (said s new (MessageInput k (Join d)) [] j.1);
      writes = subst (λ (o : Option Ticket). joined_data s new d
          (starts s.manager (xid_of s (next_case s d))) o)
          (sym ungiven) (subst (λ (b : Bool). joined_data s new d b None) (sym j.0) j.2);
    }

-- The case of a fresh ticket.

-- the case of the ticket that is given next is not live
pub is_fresh : {f : Front} (s : SubState) (d : Case) → IsTied f s → branch_in s.table (next_case s d) ≡ None
is_fresh s d tied = by_branch (branch_in s.table (next_case s d)) refl
  where
    by_branch : (o : Option LiveBranch) → branch_in s.table (next_case s d) ≡ o → o ≡ None
    by_branch None e = refl
    by_branch (Some b) e =
        let g = tied.given_before (next_case s d) b e in
        let is : next_ticket (core_of s) ≡ g.ticket = some_same (next_ticket (core_of s)) g.ticket g.has in
        let before : g.ticket.number ≤ s.given = g.before (ap (λ (t : Ticket). t.boot) (sym is)) in
        let number : s.given + 1 ≡ g.ticket.number = ap (λ (t : Ticket). t.number) is in
        absurd (omega arith)

module _ {f : Front} (s : SubState) (d : Case) (t : BranchTable) (m : ManagerSight) (x : Xid)
    (tied : IsTied f s)
    (named : IsNamed s.parent (next_case s d) x)
    (opens : OpensBranch s.table t d (next_ticket (core_of s)) x) where
  abbrev own : Case
  own = next_case s d

  abbrev new : SubState
  new = numbered s t m (s.given + 1)

  named_at : BeginsBranch s.manager m x → (c : Case) (w : LiveBranch) (r : Bool) → same_case own c ≡ r
      → branch_in t c ≡ Some w → IsNamed s.parent c w.xid
  named_at b c w true e h =
      let entry : opened x d ≡ w = some_same (opened x d) w
      (sym opens.branches.own ∙ ap (branch_in t) (one own c e) ∙ h) in
      subst (λ (q : Case). IsNamed s.parent q w.xid) (one own c e)
      (subst (λ (y : Xid). IsNamed s.parent own y) (ap (λ (z : LiveBranch). z.xid) entry) named)
  named_at b c w false e h = tied.named c w (sym (opens.branches.others c e) ∙ h)

  stands_at : BeginsBranch s.manager m x → (c : Case) (w : LiveBranch) (r : Bool)
      → same_case own c ≡ r → branch_in t c ≡ Some w
      → state_at m.tables w.xid ≡ stage_state w.stage
  stands_at b c w true e h =
      let entry : opened x d ≡ w = some_same (opened x d) w
      (sym opens.branches.own ∙ ap (branch_in t) (one own c e) ∙ h) in
      subst (λ (z : LiveBranch). state_at m.tables z.xid ≡ stage_state z.stage) entry b.comes.own
  stands_at b c w false e h =
      let stood = sym (opens.branches.others c e) ∙ h in
      let apart = apart_xids s.parent own c x w.xid named (tied.named c w stood) e (same x w.xid) refl in
      b.comes.others w.xid apart ∙ tied.stands c w stood

  told_at : BeginsBranch s.manager m x → (c : Case) (w : LiveBranch) (r : Bool)
      → same_case own c ≡ r → branch_in t c ≡ Some w
      → AgreesWith w.stage (m.decided w.xid)
  told_at b c w true e h =
      let entry : opened x d ≡ w = some_same (opened x d) w
      (sym opens.branches.own ∙ ap (branch_in t) (one own c e) ∙ h) in
      subst (λ (z : LiveBranch). AgreesWith z.stage (m.decided z.xid)) entry tt
  told_at b c w false e h =
      let stood = sym (opens.branches.others c e) ∙ h in
      subst (λ (k : Decision). AgreesWith w.stage k) (sym (b.rest.decided w.xid)) (tied.told c w stood)

  given_at : BeginsBranch s.manager m x → (c : Case) (w : LiveBranch) (r : Bool) → same_case own c ≡ r
      → branch_in t c ≡ Some w → IsGiven new c
  given_at b c w true e h =
      subst (λ (q : Case). IsGiven new q) (one own c e)
      (record {
        ticket = next_ticket (core_of s);
        has = refl;
        within = subst (λ n. s.manager.boot ≤ n) (sym b.comes.boot) (omega arith);
        before = λ f. omega arith;
      })
  given_at b c w false e h =
      let g = tied.given_before c w (sym (opens.branches.others c e) ∙ h) in
      record {
        ticket = g.ticket;
        has = g.has;
        within = subst (λ n. g.ticket.boot ≤ n) (sym b.comes.boot) g.within;
        before = λ f. let before : g.ticket.number ≤ s.given = g.before (f ∙ b.comes.boot) in omega arith;
      }

  pub begun_tied : BeginsBranch s.manager m x → IsTied f new
  begun_tied b = record {
    own = b.comes.form ∙ tied.own;
    idle = b.comes.idle;
    named = λ c w h. named_at b c w (same_case own c) refl h;
    stands = λ c w h. stands_at b c w (same_case own c) refl h;
    told = λ c w h. told_at b c w (same_case own c) refl h;
    given_before = λ c w h. given_at b c w (same_case own c) refl h;
    reached = same_reached (place_of s) s.manager m tied.reached b.comes.boot b.log;
  }

  begun_decided : BeginsBranch s.manager m x → (c : Case) (r : Bool) → same_case own c ≡ r
      → (view_in t c).standing ≡ HeuristicStanding
      → decided_at m (branch_in t c) ≡ decided_at s.manager (branch_in s.table c)
  begun_decided b c true e h =
      let view : kept_view (Some (opened x d)) ≡ view_in t c =
      ap kept_view (sym opens.branches.own ∙ ap (branch_in t) (one own c e)) in
      let is : (kept_view (Some (opened x d))).standing ≡ HeuristicStanding =
      ap (λ (k : ManagerView). k.standing) view ∙ h in
      absurd (cc)
  begun_decided b c false e h =
      ap (decided_at m) (opens.branches.others c e)
      ∙ same_decided s m b.rest.decided (branch_in s.table c)

  pub begun : HasBegun s.manager m x true → Joins s new d true
  begun h = (
    ap (starts s.manager) (sym named.is) ∙ h.0,
    record {
      log = h.1.log;
      cases = (
        ap kept_view opens.branches.own,
        λ c apart. ap kept_view
            (opens.branches.others c apart),
        λ c. no_view,
      );
      ticket = opens.tickets.own;
      tickets = λ e apart. opens.tickets.others e apart;
      decided = λ e is. begun_decided h.1 e (same_case own e) refl is;
      begun = refl;
      given = refl;
      place = refl;
      boot = h.1.comes.boot;
    },
    subst (λ (y : Xid). Data.DataBegins (manager_data s.manager) (manager_data m) y) named.is (record {
      keeps = record { writes = h.1.rest.writes; holders = h.1.rest.holders };
      known = comes_known s.manager m x S2 h.1.comes;
    }),
  )

-- The start was refused, or wanted memory.

pub table_tied : {f : Front} (s : SubState) (t : BranchTable) → IsTied f s → SameTable s.table t
    → IsTied f (behind s t s.manager)
table_tied s t tied same = record {
  own = tied.own;
  idle = tied.idle;
  named = λ c w h. tied.named c w (sym (same.branches c) ∙ h);
  stands = λ c w h. tied.stands c w (sym (same.branches c) ∙ h);
  told = λ c w h. tied.told c w (sym (same.branches c) ∙ h);
  given_before = λ c w h. let g = tied.given_before c w (sym (same.branches c) ∙ h)
      in record { ticket = g.ticket; has = g.has; within = g.within; before = g.before };
  reached = tied.reached;
}

pub undone_tied : {f : Front} (s : SubState) (t : BranchTable) (m : ManagerSight) → IsTied f s
    → SameTable s.table t
    → SameManager s.manager m → IsTied f (behind s t m)
undone_tied s t m tied same stays = same_tied (behind s t s.manager) m (table_tied s t tied same) stays

undone_core : (s : SubState) (t : BranchTable) (m : ManagerSight) → SameTable s.table t
    → SameManager s.manager m → SameCore (core_of s) (core_of (behind s t m))
undone_core s t m same stays = record {
  log = stays.log;
  rest = record {
    place = refl;
    boot = stays.boot;
    begun = refl;
    given = refl;
    tickets = same.tickets;
    views = λ c. no_view;
    branches = λ c. ap kept_view (same.branches c);
    decided = λ c. ap (decided_at m) (same.branches c)
        ∙ same_decided s m stays.rest.decided (branch_in s.table c);
    spent = stays.spent;
  };
}

pub undone_keeps : (s : SubState) (t : BranchTable) (m : ManagerSight) → SameTable s.table t
    → SameManager s.manager m → KeepsProcess s (behind s t m)
undone_keeps s t m same still = record {
  core = undone_core s t m same still;
  manager = same_kept s.manager m still;
}

pub not_begun : (s : SubState) (d : Case) (t : BranchTable) (m : ManagerSight) (x : Xid)
    → IsNamed s.parent (next_case s d) x → SameTable s.table t
    → HasBegun s.manager m x false → Joins s (behind s t m) d false
not_begun s d t m x named same h = (
  ap (starts s.manager) (sym named.is)
      ∙ h.0,
  undone_core s t m same h.1,
  record {
    keeps = record { writes = h.1.rest.writes; holders = h.1.rest.holders };
    known = same_known s.manager m h.1.tables;
  },
)

-- The XID.

pub is_real : (x : Txn) (b : Option (ProcessId × Ticket)) → branch_parts x b ≢ null_xid
is_real x b e = by_presumption x.presumption (ap (λ (q : XidParts). q.format) e)
  where
    by_presumption : (p : Presumption) → branch_format p ≡ negsuc 0 → ⊥
    by_presumption PresumeAbort f = absurd cc
    by_presumption PresumeCommit f = absurd cc
