-- What the table keeps, through each change.
use Rattle.std.proofs.Common.{◌≡◌, ◌∙◌, ℕ, Bool, true, false, Option, None, Some, List, [], refl, sym, ap, subst, if◌then◌else◌}
use Rattle.xa_xid.specs.declared.xid.Xid.{Xid}
use Rattle.protocol.specs.declared.names.Case.{Case}
use Rattle.protocol.specs.declared.names.Outcome.{Outcome}
use Rattle.protocol.specs.declared.names.Ticket.{Ticket}
use Rattle.protocol.specs.Names.{child_case, same_case}
use Rattle.protocol.proofs.NameTests.{case_tells}
use Rattle.case_table.specs.Tables.{AreApart, Inserts, MovesValue, Removes, Updates, entry_at, live_value}
use Rattle.case_table.specs.Lends.{rewritten, with_value}
use Rattle.case_table.proofs.Writes.{Moves-changed, Updates-set, apart_changed, apart_inserted, apart_removed, live_at, same_case-itself}
use Rattle.sub_branches.specs.declared.branch.LiveBranch.{LiveBranch}
use Rattle.sub_branches.specs.declared.branch.BranchStage.{BranchStage}
use Rattle.sub_branches.specs.declared.branch.BranchStage.TheVariants.{Active, Heuristic, Prepared}
use Rattle.sub_branches.specs.Tables.{BranchTable, HasTicket, IsGivenFor, IsBranchTable, NotesStage, OpensBranch, Retires, branch_in, has_promised, nothing, promised, retired_at, ticket_in, tickets_of}

abbrev pub Tickets : Type 0
Tickets = List (Option (Case × Ticket))

abbrev pub Slots : Type 0
Slots = List (Option (Case × LiveBranch))

abbrev pub table : Tickets → Slots → BranchTable
table ts bs = record { tickets = ts; branches = bs }

one : (c d : Case) → same_case c d ≡ true → c ≡ d
one c d e = (case_tells c d).0 e

pub none_kept : IsBranchTable (table (tickets_of []) [])
unfolding live_value tickets_of
none_kept = record {
  apart = λ c j k here there. absurd cc;
  given = λ d k e. absurd cc;
  active = λ c b e. absurd cc;
}

pub some_same : {A : Type 0} (a b : A) → Some a ≡ Some b → a ≡ b
some_same a b e = cc

given_one : (d e : Case) (s : BranchStage) → IsGivenFor d s → IsGivenFor e s → d ≡ e
given_one d e (Active g done spoiled) h k = h ∙ sym k
given_one d e Prepared h k = absurd h
given_one d e (Heuristic told) h k = absurd h

ticket_with : (ts us : Tickets) (c : Case) (s : BranchStage)
    → ((d : Case) (k : Ticket) → live_value ts d ≡ Some k → child_case d.txn k ≡ c → live_value us d ≡ Some k)
    → HasTicket ts c s → HasTicket us c s
ticket_with ts us c (Active d done spoiled) moves h = (h.0, moves d h.0 h.1 h.2, h.2)
ticket_with ts us c Prepared moves h = tt
ticket_with ts us c (Heuristic told) moves h = tt

-- a case is opened
module _ (old new : BranchTable) (d0 : Case) (t : Ticket) (x : Xid) (kept : IsBranchTable old)
    (fresh : branch_in old (child_case d0.txn t) ≡ None)
    (ungiven : ticket_in old d0 ≡ None) (opens : OpensBranch old new d0 t x)
    (apart : AreApart new.branches) where
  given_opened : (d : Case) (k : Ticket) (b : Bool) → same_case d0 d ≡ b → ticket_in new d ≡ Some k
      → (v : LiveBranch) × (branch_in new (child_case d.txn k) ≡ Some v) × IsGivenFor d v.stage
  given_opened d k true is e =
      let here = one d0 d is in
      let ticket : t ≡ k = some_same t k (sym opens.tickets.own ∙ ap (ticket_in new) here ∙ e) in (
        record { xid = x; stage = Active d0 0 false },
        ap (λ (c : Case). branch_in new c) (ap (λ (j : Ticket). child_case d.txn j) (sym ticket)
            ∙ ap (λ (c : Case). child_case c.txn t) (sym here)) ∙ opens.branches.own,
        sym here,
      )
  given_opened d k false differs e =
      let before : ticket_in old d ≡ Some k = sym (opens.tickets.others d differs) ∙ e in
      let g = kept.given d k before in
      (g.0, stays (same_case (child_case d0.txn t) (child_case d.txn k)) refl g.1, g.2)
    where
      stays : (b : Bool) → same_case (child_case d0.txn t) (child_case d.txn k) ≡ b → {v : LiveBranch}
          → branch_in old (child_case d.txn k) ≡ Some v
          → branch_in new (child_case d.txn k) ≡ Some v
      stays true is at = absurd (let none = ap (branch_in old) (sym (one _ _ is))
          ∙ fresh in let f = sym at ∙ none in cc)
      stays false apart at = opens.branches.others (child_case d.txn k) apart ∙ at

  active_opened : (c : Case) (v : LiveBranch) (b : Bool) → same_case (child_case d0.txn t) c ≡ b
      → branch_in new c ≡ Some v → HasTicket new.tickets c v.stage
  active_opened c v true is e =
      let here = one _ c is in
      let entry : record { xid = x; stage = Active d0 0 false } ≡ v =
      some_same _ v (sym opens.branches.own ∙ ap (branch_in new) here ∙ e) in
      subst (λ (w : LiveBranch). HasTicket new.tickets c w.stage) entry (t, opens.tickets.own, here)
  active_opened c v false apart e =
      ticket_with old.tickets new.tickets c v.stage (λ d k at child. moves d k (same_case d0 d) refl at)
      (kept.active c v (sym (opens.branches.others c apart) ∙ e))
    where
      moves : (d : Case) (k : Ticket) (b : Bool) → same_case d0 d ≡ b → live_value old.tickets d ≡ Some k
          → live_value new.tickets d ≡ Some k
      moves d k true is at = absurd (let none = ap (ticket_in old) (sym (one d0 d is))
          ∙ ungiven in let f = sym at ∙ none in cc)
      moves d k false differs at = opens.tickets.others d differs ∙ at

  pub opened_kept : IsBranchTable new
  opened_kept = record {
    apart = apart;
    given = λ d k e. given_opened d k (same_case d0 d) refl e;
    active = λ c v e. active_opened c v (same_case (child_case d0.txn t) c) refl e;
  }

-- what an Active case is noted as
module _ (old new : BranchTable) (key : ℕ) (g : Case) (done : ℕ) (spoiled : Bool) (kept : IsBranchTable old)
    (notes : NotesStage old new key (Active g done spoiled))
    (at : branch_in old notes.owner ≡ Some notes.branch) (given : IsGivenFor g notes.branch.stage)
    (apart : AreApart new.branches) where
  noted : LiveBranch
  noted = record { xid = notes.branch.xid; stage = Active g done spoiled }

  given_noted : (d : Case) (k : Ticket) (b : Bool)
      → same_case notes.owner (child_case d.txn k) ≡ b → ticket_in new d ≡ Some k
      → (v : LiveBranch) × (branch_in new (child_case d.txn k) ≡ Some v) × IsGivenFor d v.stage
  given_noted d k true is e =
      let here = one _ _ is in
      let h = kept.given d k (ap (λ (ts : Tickets). live_value ts d) (sym notes.tickets) ∙ e) in
      let entry : notes.branch ≡ h.0 = some_same _ h.0 (sym at ∙ ap (branch_in old) here ∙ h.1) in (
        record { xid = notes.branch.xid; stage = Active g done spoiled },
        ap (branch_in new) (sym here) ∙ notes.branches.own,
        given_one d g h.0.stage h.2 (subst (λ (w : LiveBranch). IsGivenFor g w.stage) entry given),
      )
  given_noted d k false apart e =
      let h = kept.given d k (ap (λ (ts : Tickets). live_value ts d) (sym notes.tickets) ∙ e) in
      (h.0, notes.branches.others _ apart ∙ h.1, h.2)

  ticket_noted : (s : BranchStage) → IsGivenFor g s → HasTicket old.tickets notes.owner s
      → HasTicket new.tickets notes.owner (Active g done spoiled)
  ticket_noted (Active e n p) is h = (
    h.0,
    ap (λ (ts : Tickets). live_value ts g) notes.tickets ∙ ap (live_value old.tickets) is
        ∙ h.1,
    ap (λ (d : Case). child_case d.txn h.0) is ∙ h.2,
  )
  ticket_noted Prepared is h = absurd is
  ticket_noted (Heuristic told) is h = absurd is

  active_noted : (c : Case) (v : LiveBranch) (b : Bool) → same_case notes.owner c ≡ b
      → branch_in new c ≡ Some v
      → HasTicket new.tickets c v.stage
  active_noted c v true is e =
      let here = one _ c is in
      let entry : record { xid = notes.branch.xid; stage = Active g done spoiled } ≡ v =
      some_same _ v (sym notes.branches.own ∙ ap (branch_in new) here ∙ e) in
      subst (λ (w : LiveBranch). HasTicket new.tickets c w.stage) entry
      (subst (λ (q : Case). HasTicket new.tickets q (Active g done spoiled)) here
      (ticket_noted notes.branch.stage given (kept.active notes.owner notes.branch at)))
  active_noted c v false apart e =
      ticket_with old.tickets new.tickets c v.stage
      (λ d k there child. ap (λ (ts : Tickets). live_value ts d) notes.tickets ∙ there)
      (kept.active c v (sym (notes.branches.others c apart) ∙ e))

  pub noted_kept : IsBranchTable new
  noted_kept = record {
    apart = apart;
    given = λ d k e. given_noted d k (same_case notes.owner (child_case d.txn k)) refl e;
    active = λ c v e. active_noted c v (same_case notes.owner c) refl e;
  }

-- what is not Active
abbrev pub IsInactive : Option LiveBranch → Type 0
IsInactive None = Unit {0}
IsInactive (Some b) = has_promised b.stage ≡ true

needs_no_ticket : (ts : Tickets) (c : Case) (s : BranchStage) → has_promised s ≡ true → HasTicket ts c s
needs_no_ticket ts c (Active d done spoiled) h = absurd cc
needs_no_ticket ts c Prepared h = tt
needs_no_ticket ts c (Heuristic told) h = tt

-- the ticket of a stage was taken out
abbrev pub Dropped : Tickets → Tickets → BranchStage → Type 0
Dropped ts us (Active g done spoiled) = MovesValue ts us g None
Dropped ts us _ = us ≡ ts

-- a case ends, or is Active no longer
module _ (old : BranchTable) (us : Tickets) (owner : Case) (branch : LiveBranch) (kept : IsBranchTable old)
    (at : branch_in old owner ≡ Some branch) where
  -- the case of another ticket is another
  other_case : (s : BranchStage) → branch.stage ≡ s → (d : Case) (k : Ticket) → ticket_in old d ≡ Some k
      → (IsGivenFor d s → ⊥) → (b : Bool)
      → same_case (child_case d.txn k) owner ≡ b → b ≡ false
  other_case s stage d k there none false e = refl
  other_case s stage d k there none true e =
      let h = kept.given d k there in
      let entry : branch ≡ h.0 = some_same branch h.0
      (sym at ∙ ap (branch_in old) (sym (one _ owner e)) ∙ h.1) in
      absurd (none (subst (λ (q : BranchStage). IsGivenFor d q)
      (ap (λ (w : LiveBranch). w.stage) (sym entry) ∙ stage) h.2))

  remains : (s : BranchStage) → branch.stage ≡ s → (d : Case) (o : Option Ticket) → ticket_in old d ≡ o
      → (IsGivenFor d s → ⊥) → o ≡ retired_at owner d o
  remains s stage d None there none = refl
  remains s stage d (Some k) there none =
      ap (λ b. if b then None else Some k) (sym
      (other_case s stage d k there none (same_case (child_case d.txn k) owner) refl))

  gone : (g : Case) (t : Ticket) → child_case g.txn t ≡ owner → None ≡ retired_at owner g (Some t)
  gone g t is = ap (λ b. if b then None else Some t)
      (sym (ap (λ (c : Case). same_case c owner) is ∙ same_case-itself owner))

  by_stage : (s : BranchStage) → branch.stage ≡ s → Dropped old.tickets us s
      → HasTicket old.tickets owner s → (d : Case)
      → live_value us d ≡ retired_at owner d (ticket_in old d)
  by_stage Prepared stage drops h d =
      ap (λ (ts : Tickets). live_value ts d) drops
      ∙ remains Prepared stage d (ticket_in old d) refl (λ is. is)
  by_stage (Heuristic told) stage drops h d =
      ap (λ (ts : Tickets). live_value ts d) drops
      ∙ remains (Heuristic told) stage d (ticket_in old d) refl (λ is. is)
  by_stage (Active g n p) stage drops h d = by_case (same_case g d) refl
    where
      by_case : (b : Bool) → same_case g d ≡ b → live_value us d ≡ retired_at owner d (ticket_in old d)
      by_case true is =
          subst (λ (e : Case). live_value us e ≡ retired_at owner e (ticket_in old e)) (one g d is)
          (drops.own ∙ gone g h.0 h.2 ∙ ap (retired_at owner g) (sym h.1))
      by_case false differs =
          drops.others d differs ∙ remains (Active g n p) stage d (ticket_in old d) refl
          (λ is. absurd (let f : same_case g d ≡ true = ap (same_case g) is
          ∙ same_case-itself g in let h : true ≡ false = sym f ∙ differs in cc))

  pub retired : Dropped old.tickets us branch.stage → (d : Case)
      → live_value us d ≡ retired_at owner d (ticket_in old d)
  retired drops d = by_stage branch.stage refl drops (kept.active owner branch at) d

  split_by : (b : Bool) (k j : Ticket) → (if b then None else Some k) ≡ Some j → (k ≡ j) × (b ≡ false)
  split_by true k j e = absurd cc
  split_by false k j e = (cc, refl)

  pub retired_kept : (bs : Slots) (v : Option LiveBranch) → IsInactive v → MovesValue old.branches bs owner v
      → AreApart bs → Dropped old.tickets us branch.stage → IsBranchTable (table us bs)
  retired_kept bs v inactive moves apart drops = record {
    apart = apart;
    given = λ d k e. given_at d k (ticket_in old d) refl (sym (retired drops d) ∙ e);
    active = λ c w e. active_at c w v inactive (same_case owner c) refl moves.own e;
  }
    where
      given_at : (d : Case) (k : Ticket) (o : Option Ticket) → ticket_in old d ≡ o
          → retired_at owner d o ≡ Some k
          → (w : LiveBranch) × (live_value bs (child_case d.txn k) ≡ Some w) × IsGivenFor d w.stage
      given_at d k None there e = absurd cc
      given_at d k (Some j) there e =
          let s = split_by (same_case (child_case d.txn j) owner) j k e in
          let h = kept.given d k (there ∙ ap (λ (q : Ticket). Some q) s.0) in
          let apart : same_case owner (child_case d.txn k) ≡ false = flips owner (child_case d.txn k)
          (same_case owner (child_case d.txn k)) refl
          (ap (λ (q : Ticket). same_case (child_case d.txn q) owner) (sym s.0) ∙ s.1) in
          (h.0, moves.others _ apart ∙ h.1, h.2)
        where
          flips : (a b : Case) (r : Bool) → same_case a b ≡ r → same_case b a ≡ false → r ≡ false
          flips a b false e h = refl
          flips a b true e h = absurd (let w : same_case a a ≡ false = subst (λ (q : Case). same_case q a
              ≡ false) (sym (one a b e)) h in let f : true ≡ false = sym (same_case-itself a) ∙ w in cc)

      active_at : (c : Case) (w : LiveBranch) (v : Option LiveBranch) → IsInactive v → (b : Bool)
          → same_case owner c ≡ b → live_value bs owner ≡ v
          → live_value bs c ≡ Some w → HasTicket us c w.stage
      active_at c w None inactive true is own e =
          absurd (let f = sym own ∙ ap (live_value bs) (one owner c is) ∙ e in cc)
      active_at c w (Some q) inactive true is own e =
          let same_one : q ≡ w = some_same q w (sym own ∙ ap (live_value bs) (one owner c is) ∙ e) in
          needs_no_ticket us c w.stage (ap (λ (z : LiveBranch). has_promised z.stage) (sym same_one)
          ∙ inactive)
      active_at c w o inactive false apart own e =
          ticket_with old.tickets us c w.stage
          (λ d k there child. retired drops d ∙ ap (retired_at owner d) there
          ∙ ap (λ b. if b then None else Some k)
          (ap (λ (q : Case). same_case q owner) child ∙ apart_back owner c apart))
          (kept.active c w (sym (moves.others c apart) ∙ e))
        where
          apart_back : (a b : Case) → same_case a b ≡ false → same_case b a ≡ false
          apart_back a b h = by (same_case b a) refl where
            by : (r : Bool) → same_case b a ≡ r → r ≡ false
            by false e = refl
            by true e = absurd (let w : same_case a a ≡ false = subst (λ (q : Case). same_case a q ≡ false)
                (one b a e) h in let f : true ≡ false = sym (same_case-itself a) ∙ w in cc)

-- The functions.

not_active : (s : BranchStage) → has_promised s ≡ true → (g : Case) (n : ℕ) (p : Bool) → s ≡ Active g n p → ⊥
not_active (Active d done spoiled) h g n p e = absurd cc
not_active Prepared h g n p e = absurd cc
not_active (Heuristic told) h g n p e = absurd cc

pub none_dropped : (ts : Tickets) (s : BranchStage)
    → ((g : Case) (n : ℕ) (p : Bool) → s ≡ Active g n p → ⊥) → Dropped ts ts s
none_dropped ts (Active g n p) h = absurd (h g n p refl)
none_dropped ts Prepared h = refl
none_dropped ts (Heuristic told) h = refl

module _ (ts us : Tickets) (bs : Slots) (key : ℕ) (c : Case) (b : LiveBranch)
    (kept : IsBranchTable (table ts bs))
    (entry : entry_at bs key ≡ Some (c, b)) where
  at : live_value bs c ≡ Some b
  at = live_at bs c key (c, b) kept.apart entry (same_case-itself c)

  pub updates : (w : LiveBranch) → Updates bs (with_value bs key w) key (Some (c, w))
  updates w = subst (λ e. Updates bs (with_value bs key w) key (rewritten e w)) entry
      (Updates-set bs key (rewritten (entry_at bs key) w) (rw entry refl))

  -- a branch promised
  pub promises : Dropped ts us b.stage
      → (IsBranchTable (table us (with_value bs key (record { xid = b.xid; stage = Prepared }))))
      × Retires (table ts bs) (table us (with_value bs key (record { xid = b.xid; stage = Prepared }))) key
      promised
  promises drops =
      let w : LiveBranch = record { xid = b.xid; stage = Prepared } in
      let moves = Moves-changed bs (with_value bs key w) key c b w entry (updates w) kept.apart in (
        retired_kept (table ts bs) us c b kept at (with_value bs key w) (Some w) refl moves
            (apart_changed bs (with_value bs key w) key c b w entry (updates w) kept.apart) drops,
        record {
          owner = c;
          branch = b;
          was = entry;
          branches = moves;
          tickets = retired
              (table ts bs) us c b kept at drops;
        },
      )

  -- an Active branch goes on
  pub notes : (g : Case) (done : ℕ) (spoiled : Bool) → IsGivenFor g b.stage
      → IsBranchTable (table ts (with_value bs key (record { xid = b.xid; stage = Active g done spoiled })))
      × NotesStage (table ts bs) (table ts (with_value bs key
      (record { xid = b.xid; stage = Active g done spoiled }))) key (Active g done spoiled)
  notes g done spoiled given =
      let w : LiveBranch = record { xid = b.xid; stage = Active g done spoiled } in
      let moves = Moves-changed bs (with_value bs key w) key c b w entry (updates w) kept.apart in
      let notes : NotesStage (table ts bs) (table ts (with_value bs key w)) key (Active g done spoiled) =
      record { owner = c; branch = b; was = entry; branches = moves; tickets = refl } in (
        noted_kept (table ts bs) (table ts (with_value bs key w)) key g done spoiled kept notes at given
            (apart_changed bs (with_value bs key w) key c b w entry (updates w) kept.apart),
        notes,
      )

  -- an operator decided a branch that promised
  pub decides : (told : Option Outcome) → has_promised b.stage ≡ true
      → IsBranchTable (table ts (with_value bs key (record { xid = b.xid; stage = Heuristic told })))
      × NotesStage (table ts bs) (table ts (with_value bs key
      (record { xid = b.xid; stage = Heuristic told })))
      key (Heuristic told)
  decides told promised =
      let w : LiveBranch = record { xid = b.xid; stage = Heuristic told } in
      let moves = Moves-changed bs (with_value bs key w) key c b w entry (updates w) kept.apart in (
        retired_kept (table ts bs) ts c b kept at (with_value bs key w) (Some w) refl moves
            (apart_changed bs (with_value bs key w) key c b w entry (updates w) kept.apart)
            (none_dropped ts b.stage (not_active b.stage promised)),
        record { owner = c; branch = b; was = entry; branches = moves; tickets = refl },
      )

-- a branch is live no longer
pub removes : (ts us : Tickets) (bs cs : Slots) (key : ℕ) (b : LiveBranch) → IsBranchTable (table ts bs)
    → Removes bs cs key b → Dropped ts us b.stage
    → IsBranchTable (table us cs) × Retires (table ts bs) (table us cs) key nothing
removes ts us bs cs key b kept gone drops =
    let at = live_at bs gone.owner key (gone.owner, b) kept.apart gone.was (same_case-itself gone.owner) in (
      retired_kept (table ts bs) us gone.owner b kept at cs None tt gone.moves
          (apart_removed bs cs key gone.updates kept.apart) drops,
      record {
        owner = gone.owner;
        branch = b;
        was = gone.was;
        branches = gone.moves;
        tickets = retired
            (table ts bs) us gone.owner b kept at drops;
      },
    )

-- a case was opened
pub opens : (ts us : Tickets) (bs cs : Slots) (d : Case) (t : Ticket) (x : Xid)
    (k : ℕ) → IsBranchTable (table ts bs)
    → live_value bs (child_case d.txn t) ≡ None → live_value ts d ≡ None → MovesValue ts us d (Some t)
    → Inserts bs cs (child_case d.txn t) (record { xid = x; stage = Active d 0 false }) k
    → IsBranchTable (table us cs)
opens ts us bs cs d t x k kept fresh ungiven given opened =
    opened_kept (table ts bs) (table us cs) d t x kept fresh ungiven
    (record { branches = opened.moves; tickets = given })
    (apart_inserted bs cs k (child_case d.txn t) (record { xid = x; stage = Active d 0 false })
    fresh opened.updates kept.apart)

-- a case that promised is live again
module _ (ts : Tickets) (bs cs : Slots) (c0 : Case) (b0 : LiveBranch) (key : ℕ)
    (kept : IsBranchTable (table ts bs))
    (fresh : live_value bs c0 ≡ None) (promised : has_promised b0.stage ≡ true)
    (inserts : Inserts bs cs c0 b0 key) where
  given_restored : (d : Case) (k : Ticket) (b : Bool)
      → same_case c0 (child_case d.txn k) ≡ b → live_value ts d ≡ Some k
      → (v : LiveBranch) × (live_value cs (child_case d.txn k) ≡ Some v) × IsGivenFor d v.stage
  given_restored d k true is e =
      let g = kept.given d k e in
      absurd (let none = ap (live_value bs) (sym (one c0 _ is)) ∙ fresh in let some = g.1 in cc)
  given_restored d k false differs e =
      let g = kept.given d k e in (g.0, inserts.moves.others (child_case d.txn k) differs ∙ g.1, g.2)

  -- a branch that promised needs no ticket
  needs_none : (c : Case) (s : BranchStage) → has_promised s ≡ true → HasTicket ts c s
  needs_none c (Active e m q) is = absurd (cc)
  needs_none c Prepared is = tt
  needs_none c (Heuristic told) is = tt

  active_restored : (c : Case) (v : LiveBranch) (b : Bool) → same_case c0 c ≡ b
      → live_value cs c ≡ Some v → HasTicket ts c v.stage
  active_restored c v true is e =
      let entry : b0 ≡ v = some_same _ v (sym inserts.moves.own ∙ ap (live_value cs) (one c0 c is) ∙ e) in
      subst (λ (w : LiveBranch). HasTicket ts c w.stage) entry (needs_none c b0.stage promised)
  active_restored c v false differs e = kept.active c v (sym (inserts.moves.others c differs) ∙ e)

  pub restored_kept : IsBranchTable (table ts cs)
  restored_kept = record {
    apart = apart_inserted bs cs key c0 b0 fresh inserts.updates kept.apart;
    given = λ d k e. given_restored d k (same_case c0 (child_case d.txn k)) refl e;
    active = λ c v e. active_restored c v (same_case c0 c) refl e;
  }
