-- The active tickets are those of the Active branches.
use Rattle.std.proofs.Common.{◌≡◌, ◌∙◌, ℕ, zero, suc, Bool, true, false, cond, Option, None, Some, is_some, List, [], ◌∷◌, filter, map, refl, sym, ap, subst, inl, inr}
use Rattle.std.proofs.lemmas.Bool.{cases_eq}
use Rattle.std.specs.Prelude.{Result, Ok, Err, IfOk, OnOk, OnErr}
use Rattle.std.specs.Fn.{FnReturnsAt, Shared}
use Rattle.std.specs.Borrow.{Bor}
use Rattle.xa_xid.specs.declared.xid.Xid.{Xid}
use Rattle.protocol.specs.declared.names.Case.{Case}
use Rattle.protocol.specs.declared.names.Outcome.{Outcome}
use Rattle.protocol.specs.declared.names.Ticket.{Ticket}
use Rattle.protocol.specs.Names.{child_case, same_case}
use Rattle.protocol.proofs.NameTests.{case_tells, txn_tells}
use Rattle.case_table.specs.Tables.{AreApart, FindsBy, Inserts, MovesValue, Updates, entry_at, if_of_case, is_of_case, live_value, Removes}
use Rattle.case_table.specs.Lends.{with_value}
use Rattle.case_table.proofs.Writes.{Moves-inserted, Moves-removed, live_at, same_case-itself}
use Rattle.sub_branches.specs.declared.branch.LiveBranch.{LiveBranch}
use Rattle.sub_branches.specs.declared.branch.BranchStage.{BranchStage}
use Rattle.sub_branches.specs.declared.branch.BranchStage.TheVariants.{Active, Heuristic, Prepared}
use Rattle.sub_branches.specs.Tables.{HasTicket, IsGivenFor, IsBranchTable, NotesStage, OpensBranch, Restores, Retires, SameTable, entry_ticket, given_ticket, has_promised, is_for, nothing, opened, promised, ticket_by, tickets_of}
use Rattle.sub_branches.proofs.Keeping.{Dropped, Slots, decides, notes, opens, promises, removes, restored_kept, some_same, table, updates}

-- Lists of which what is nothing is left out.

module _ {V : Type 0} where
  live_filter : (ms : List (Option (Case × V))) (d : Case)
      → live_value (filter is_some ms) d ≡ live_value ms d
  unfolding live_value
  live_filter [] d = refl
  live_filter (None ∷ ms) d = live_filter ms d
  live_filter (Some p ∷ ms) d = ap (if_of_case d (Some p)) (live_filter ms d)

  filter_none : (ms : List (Option (Case × V))) → ((k : ℕ) → entry_at ms k ≡ None) → filter is_some ms ≡ []
  filter_none [] none = refl
  filter_none (None ∷ ms) none = filter_none ms (λ k. none (suc k))
  filter_none (Some p ∷ ms) none = let clash : Some p ≡ None = none 0 in absurd (cc)

  filter_same : (old new : List (Option (Case × V))) → ((k : ℕ) → entry_at new k ≡ entry_at old k)
      → filter is_some new ≡ filter is_some old
  filter_same [] new same = filter_none new same
  filter_same (o ∷ old) [] same = sym (filter_none (o ∷ old) (λ k. sym (same k)))
  filter_same (o ∷ old) (n ∷ new) same =
      ap (λ s. cond (is_some s) (s ∷ filter is_some new) (filter is_some new)) (same 0)
      ∙ ap (λ ms. cond (is_some o) (o ∷ ms) ms) (filter_same old new (λ k. same (suc k)))

  moves_filtered : (ms ns : List (Option (Case × V))) (d : Case) (v : Option V) → MovesValue ms ns d v
      → MovesValue (filter is_some ms) (filter is_some ns) d v
  moves_filtered ms ns d v moves = record {
    own = live_filter ns d ∙ moves.own;
    others = λ e differs. live_filter ns e ∙ moves.others e differs ∙ sym (live_filter ms e);
  }

-- What becomes of the tickets where one key changes.

entry_ticket_at : (bs : Slots) (k : ℕ) → entry_at (map given_ticket bs) k ≡ given_ticket (entry_at bs k)
entry_ticket_at [] k = refl
entry_ticket_at (b ∷ bs) zero = refl
entry_ticket_at (b ∷ bs) (suc k) = entry_ticket_at bs k

tickets_updated : (bs cs : Slots) (key : ℕ) (slot : Option (Case × LiveBranch)) → Updates bs cs key slot
    → Updates (map given_ticket bs) (map given_ticket cs) key (given_ticket slot)
tickets_updated bs cs key slot updates = record {
  changed = entry_ticket_at cs key ∙ ap given_ticket updates.changed;
  others = λ k differs. entry_ticket_at cs k ∙ ap given_ticket (updates.others k differs)
      ∙ sym (entry_ticket_at bs k);
}

-- a key whose active ticket stays, or that has none
pub tickets_same : (bs cs : Slots) (key : ℕ) (slot : Option (Case × LiveBranch)) → Updates bs cs key slot
    → given_ticket slot ≡ given_ticket (entry_at bs key) → tickets_of cs ≡ tickets_of bs
unfolding tickets_of
tickets_same bs cs key slot updates stays = filter_same (map given_ticket bs) (map given_ticket cs) (λ k.
    let u = tickets_updated bs cs key slot updates in
    elim (cases_eq k key) [
      | inl same ↦
          ap (entry_at (map given_ticket cs)) same ∙ u.changed ∙ stays ∙ sym (entry_ticket_at bs key)
          ∙ sym (ap (entry_at (map given_ticket bs)) same)
      | inr differs ↦ u.others k differs
    ])

-- the case of an active ticket that was given for the parent's case
record GivenAt (bs : Slots) (k : ℕ) (d : Case) : Type 0 where
  pub owner : Case
  pub branch : LiveBranch
  pub at : entry_at bs k ≡ Some (owner, branch)
  pub ticket : Ticket
  pub live : live_value (tickets_of bs) d ≡ Some ticket
  pub child : child_case d.txn ticket ≡ owner

module _ (bs : Slots) (kept : IsBranchTable (table (tickets_of bs) bs)) where
  its_ticket : (c d : Case) (s : BranchStage) (o : Option Ticket) → is_of_case d (ticket_by s o) ≡ true
      → HasTicket (tickets_of bs) c s
      → (t : Ticket) × (live_value (tickets_of bs) d ≡ Some t) × (child_case d.txn t ≡ c)
  its_ticket c d (Active e n p) None is has = absurd (cc)
  its_ticket c d (Active e n p) (Some u) is has =
      let here : e ≡ d = (case_tells e d).0 is in (
        has.0,
        ap (live_value (tickets_of bs)) (sym here) ∙ has.1,
        ap (λ (g : Case). child_case g.txn has.0) (sym here) ∙ has.2,
      )
  its_ticket c d Prepared o is has = absurd (cc)
  its_ticket c d (Heuristic told) o is has = absurd (cc)

  given_at : (k : ℕ) (d : Case) → is_of_case d (entry_at (map given_ticket bs) k) ≡ true → GivenAt bs k d
  given_at k d is = by_entry (entry_at bs k) refl (sym (ap (is_of_case d) (entry_ticket_at bs k)) ∙ is)
    where
      by_entry : (slot : Option (Case × LiveBranch)) → entry_at bs k ≡ slot
          → is_of_case d (given_ticket slot) ≡ true → GivenAt bs k d
      by_entry None at is = absurd (cc)
      by_entry (Some p) at is =
          let t = its_ticket p.0 d p.1.stage p.0.ticket is
          (kept.active p.0 p.1 (live_at bs p.0 k p kept.apart at (same_case-itself p.0))) in
          record { owner = p.0; branch = p.1; at = at; ticket = t.0; live = t.1; child = t.2 }

  tickets_apart : AreApart (map given_ticket bs)
  tickets_apart d j k here there =
      let a = given_at j d here in
      let b = given_at k d there in
      let ticket : a.ticket ≡ b.ticket = some_same a.ticket b.ticket (sym a.live ∙ b.live) in
      let owner : a.owner ≡ b.owner = sym a.child ∙ ap (child_case d.txn) ticket ∙ b.child in
      kept.apart a.owner j k (ap (is_of_case a.owner) a.at ∙ same_case-itself a.owner)
      (ap (is_of_case a.owner) b.at ∙ ap (λ c. same_case c a.owner) (sym owner) ∙ same_case-itself a.owner)

  -- the ticket of an Active branch goes
  ticket_goes : (cs : Slots) (key : ℕ) (c g : Case) (b : LiveBranch) (n : ℕ) (p : Bool)
      (slot : Option (Case × LiveBranch)) → entry_at bs key ≡ Some (c, b) → b.stage ≡ Active g n p
      → Updates bs cs key slot → given_ticket slot ≡ None → MovesValue (tickets_of bs) (tickets_of cs) g None
  unfolding tickets_of
  ticket_goes cs key c g b n p slot entry stage updates none =
      let has : HasTicket (tickets_of bs) c (Active g n p) = subst (HasTicket (tickets_of bs) c) stage
      (kept.active c b (live_at bs c key (c, b) kept.apart entry (same_case-itself c))) in
      let was : entry_at (map given_ticket bs) key ≡ Some (g, has.0) =
      entry_ticket_at bs key ∙ ap given_ticket entry ∙ ap (λ s. ticket_by s c.ticket) stage
      ∙ ap (λ (e : Case). ticket_by (Active g n p) e.ticket) (sym has.2) in
      moves_filtered (map given_ticket bs) (map given_ticket cs) g None
      (Moves-removed (map given_ticket bs) (map given_ticket cs) key g has.0 was
      (subst (Updates (map given_ticket bs) (map given_ticket cs) key) none
      (tickets_updated bs cs key slot updates)) tickets_apart)

  -- the ticket of a branch that is Active no longer goes, if it had one
  pub ticket_drops : (cs : Slots) (key : ℕ) (c : Case) (b : LiveBranch) (slot : Option (Case × LiveBranch))
      → entry_at bs key ≡ Some (c, b) → Updates bs cs key slot → given_ticket slot ≡ None
      → Dropped (tickets_of bs) (tickets_of cs) b.stage
  ticket_drops cs key c b slot entry updates none = by_stage b.stage refl
    where
      by_stage : (s : BranchStage) → b.stage ≡ s → Dropped (tickets_of bs) (tickets_of cs) s
      by_stage (Active g n p) stage = ticket_goes cs key c g b n p slot entry stage updates none
      by_stage Prepared stage = tickets_same bs cs key slot updates (none
          ∙ sym (ap given_ticket entry ∙ ap (λ s. ticket_by s c.ticket) stage))
      by_stage (Heuristic told) stage = tickets_same bs cs key slot updates (none
          ∙ sym (ap given_ticket entry ∙ ap (λ s. ticket_by s c.ticket) stage))

  -- the ticket of a case that is opened
  pub ticket_enters : (cs : Slots) (d : Case) (t : Ticket) (x : Xid) (key : ℕ)
      → live_value (tickets_of bs) d ≡ None → Inserts bs cs (child_case d.txn t) (opened x d) key
      → MovesValue (tickets_of bs) (tickets_of cs) d (Some t)
  unfolding tickets_of
  ticket_enters cs d t x key ungiven inserts =
      moves_filtered (map given_ticket bs) (map given_ticket cs) d (Some t)
      (Moves-inserted (map given_ticket bs) (map given_ticket cs) key d t
      (sym (live_filter (map given_ticket bs) d) ∙ ungiven)
      (entry_ticket_at bs key ∙ ap given_ticket inserts.vacant)
      (tickets_updated bs cs key (Some (child_case d.txn t, opened x d)) inserts.updates) tickets_apart)

  -- What the functions leave.

  given_stays : (g : Case) (n : ℕ) (p : Bool) (s : BranchStage) (o : Option Ticket) → IsGivenFor g s
      → ticket_by (Active g n p) o ≡ ticket_by s o
  given_stays g n p (Active e m q) None is = refl
  given_stays g n p (Active e m q) (Some t) is = ap (λ d. Some (d, t)) is
  given_stays g n p Prepared o is = absurd is
  given_stays g n p (Heuristic told) o is = absurd is

  promised_none : (s : BranchStage) (o : Option Ticket) → has_promised s ≡ true → None ≡ ticket_by s o
  promised_none (Active e m q) o is = absurd (cc)
  promised_none Prepared o is = refl
  promised_none (Heuristic told) o is = refl

  module _ (key : ℕ) (c : Case) (b : LiveBranch) (entry : entry_at bs key ≡ Some (c, b)) where
    updated : (w : LiveBranch) → Updates bs (with_value bs key w) key (Some (c, w))
    updated w = updates (tickets_of bs) (tickets_of bs) bs key c b kept entry w

    pub noted : (g : Case) (done : ℕ) (spoiled : Bool) → IsGivenFor g b.stage
        → IsBranchTable (table (tickets_of (with_value bs key
        (record { xid = b.xid; stage = Active g done spoiled })))
        (with_value bs key (record { xid = b.xid; stage = Active g done spoiled })))
        × NotesStage (table (tickets_of bs) bs)
        (table (tickets_of (with_value bs key (record { xid = b.xid; stage = Active g done spoiled })))
        (with_value bs key (record { xid = b.xid; stage = Active g done spoiled }))) key
        (Active g done spoiled)
    noted g done spoiled given =
        let w : LiveBranch = record { xid = b.xid; stage = Active g done spoiled } in
        let same : tickets_of (with_value bs key w) ≡ tickets_of bs =
        tickets_same bs (with_value bs key w) key (Some (c, w)) (updated w)
        (given_stays g done spoiled b.stage c.ticket given ∙ sym (ap given_ticket entry)) in
        subst (λ ts. IsBranchTable (table ts (with_value bs key w))
        × NotesStage (table (tickets_of bs) bs) (table ts (with_value bs key w)) key (Active g done spoiled))
        (sym same)
        (notes (tickets_of bs) (tickets_of bs) bs key c b kept entry g done spoiled given)

    pub decided : (told : Option Outcome) → has_promised b.stage ≡ true
        → IsBranchTable (table (tickets_of (with_value bs key
        (record { xid = b.xid; stage = Heuristic told })))
        (with_value bs key (record { xid = b.xid; stage = Heuristic told })))
        × NotesStage (table (tickets_of bs) bs)
        (table (tickets_of (with_value bs key (record { xid = b.xid; stage = Heuristic told })))
        (with_value bs key (record { xid = b.xid; stage = Heuristic told }))) key (Heuristic told)
    decided told is =
        let w : LiveBranch = record { xid = b.xid; stage = Heuristic told } in
        let same : tickets_of (with_value bs key w) ≡ tickets_of bs =
        tickets_same bs (with_value bs key w) key (Some (c, w)) (updated w)
        (promised_none b.stage c.ticket is ∙ sym (ap given_ticket entry)) in
        subst (λ ts. IsBranchTable (table ts (with_value bs key w))
        × NotesStage (table (tickets_of bs) bs) (table ts (with_value bs key w)) key (Heuristic told))
        (sym same)
        (decides (tickets_of bs) (tickets_of bs) bs key c b kept entry told is)

    pub promising : IsBranchTable (table (tickets_of
        (with_value bs key (record { xid = b.xid; stage = Prepared })))
        (with_value bs key (record { xid = b.xid; stage = Prepared })))
        × Retires (table (tickets_of bs) bs)
        (table (tickets_of (with_value bs key (record { xid = b.xid; stage = Prepared })))
        (with_value bs key (record { xid = b.xid; stage = Prepared }))) key promised
    promising =
        let w : LiveBranch = record { xid = b.xid; stage = Prepared } in
        promises (tickets_of bs) (tickets_of (with_value bs key w)) bs key c b kept entry
        (ticket_drops (with_value bs key w) key c b (Some (c, w)) entry (updated w) refl)

  pub removed : (cs : Slots) (key : ℕ) (b : LiveBranch) → Removes bs cs key b
      → IsBranchTable (table (tickets_of cs) cs)
      × Retires (table (tickets_of bs) bs) (table (tickets_of cs) cs) key nothing
  removed cs key b gone =
      removes (tickets_of bs) (tickets_of cs) bs cs key b kept gone
      (ticket_drops cs key gone.owner b None gone.was gone.updates refl)

  module _ (cs : Slots) (c : Case) (b : LiveBranch) (key : ℕ) (fresh : live_value bs c ≡ None)
      (is : has_promised b.stage ≡ true) (inserts : Inserts bs cs c b key) where
    restored_same : tickets_of cs ≡ tickets_of bs
    restored_same = tickets_same bs cs key (Some (c, b)) inserts.updates
        (sym (promised_none b.stage c.ticket is) ∙ sym (ap given_ticket inserts.vacant))

    pub restored : IsBranchTable (table (tickets_of cs) cs)
        × Restores (table (tickets_of bs) bs) (table (tickets_of cs) cs) c b
    restored = (
      subst (λ ts. IsBranchTable (table ts cs)) (sym restored_same)
          (restored_kept (tickets_of bs) bs cs c b key kept fresh is inserts),
      record { branches = inserts.moves; tickets = restored_same },
    )

  module _ (cs : Slots) (d : Case) (t : Ticket) (x : Xid)
      (fresh : live_value bs (child_case d.txn t) ≡ None)
      (ungiven : live_value (tickets_of bs) d ≡ None) where
    pub entered_kept : {E : Type 0} (r : Result ℕ E)
        → IfOk r (λ key. Inserts bs cs (child_case d.txn t) (opened x d) key) → OnErr r (cs ≡ bs)
        → IsBranchTable (table (tickets_of cs) cs)
    entered_kept (Ok key) ok err =
        opens (tickets_of bs) (tickets_of cs) bs cs d t x key kept fresh ungiven
        (ticket_enters cs d t x key ungiven ok) ok
    entered_kept (Err e) ok err = subst (λ s. IsBranchTable (table (tickets_of s) s)) (sym err) kept

    pub entered : {E : Type 0} (r : Result ℕ E)
        → IfOk r (λ key. Inserts bs cs (child_case d.txn t) (opened x d) key)
        → OnOk r (OpensBranch (table (tickets_of bs) bs) (table (tickets_of cs) cs) d t x)
    entered (Ok key) ok = record { branches = ok.moves; tickets = ticket_enters cs d t x key ungiven ok }
    entered (Err e) ok = tt

  pub not_entered : (cs : Slots) {E : Type 0} (r : Result ℕ E) → OnErr r (cs ≡ bs)
      → OnErr r (SameTable (table (tickets_of bs) bs) (table (tickets_of cs) cs))
  not_entered cs (Ok key) err = tt
  not_entered cs (Err e) err = record {
    branches = λ c. ap (λ s. live_value s c) err;
    tickets = λ e. ap (λ s. live_value (tickets_of s) e) err;
  }

  -- The ticket that is looked for.

  for_it : (d : Case) (s : BranchStage) → IsGivenFor d s → is_for d s ≡ true
  for_it d (Active e n p) is = ap (λ g. same_case g d) (sym is) ∙ same_case-itself d
  for_it d Prepared is = absurd is
  for_it d (Heuristic told) is = absurd is

  none_for : (d : Case) (answers : LiveBranch → Bool → Type 0)
      → ((b : LiveBranch) (r : Bool) → answers b r → r ≡ is_for d b.stage)
      → FindsBy answers bs d.txn None → live_value (tickets_of bs) d ≡ None
  none_for d answers says finds = by_ticket (live_value (tickets_of bs) d) refl
    where
      by_ticket : (o : Option Ticket) → live_value (tickets_of bs) d ≡ o → o ≡ None
      by_ticket None e = refl
      by_ticket (Some k) e =
          let h = kept.given d k e in
          let no : false ≡ is_for d h.0.stage = says h.0 false
          (finds.key (child_case d.txn k) h.0 h.1 ((txn_tells d.txn d.txn).1 refl)) in
          let yes : is_for d h.0.stage ≡ true = for_it d h.0.stage h.2 in
          let clash : false ≡ true = no ∙ yes in
          absurd (cc)

  some_for : (d : Case) (answers : LiveBranch → Bool → Type 0)
      → ((b : LiveBranch) (r : Bool) → answers b r → r ≡ is_for d b.stage)
      → (k : ℕ) → FindsBy answers bs d.txn (Some k)
      → entry_ticket (entry_at bs k) ≡ live_value (tickets_of bs) d
  some_for d answers says k finds =
      let at = finds.key in
      ap entry_ticket at.1
      ∙ by_stage at.0.0 at.0.1.stage (kept.active at.0.0 at.0.1 at.2) (sym (says at.0.1 true at.4))
    where
      by_stage : (c : Case) (s : BranchStage) → HasTicket (tickets_of bs) c s → is_for d s ≡ true
          → c.ticket ≡ live_value (tickets_of bs) d
      by_stage c (Active e n p) has is =
          let here : e ≡ d = (case_tells e d).0 is in
          ap (λ (g : Case). g.ticket) (sym has.2) ∙ sym has.1 ∙ ap (live_value (tickets_of bs)) here
      by_stage c Prepared has is = absurd (cc)
      by_stage c (Heuristic told) has is = absurd (cc)

  pub ticket-none : {F : Type 0} (g : Shared F (Bor LiveBranch × Unit {0}) Bool) (test : F) (d : Case)
      → FindsBy (λ b r. FnReturnsAt g test b r) bs d.txn None
      → ((shown : Bor LiveBranch) (r : Bool) → g.post test (shown, tt) r → r ≡ is_for d shown.now.stage)
      → live_value (tickets_of bs) d ≡ None
  ticket-none g test d finds says =
      none_for d (λ b r. FnReturnsAt g test b r)
      (λ b r returns. says returns.shown r returns.says.met
      ∙ ap (λ (v : LiveBranch). is_for d v.stage) returns.shows) finds

  pub ticket-some : {F : Type 0} (g : Shared F (Bor LiveBranch × Unit {0}) Bool) (test : F) (d : Case) (k : ℕ)
      → FindsBy (λ b r. FnReturnsAt g test b r) bs d.txn (Some k)
      → ((shown : Bor LiveBranch) (r : Bool) → g.post test (shown, tt) r → r ≡ is_for d shown.now.stage)
      → entry_ticket (entry_at bs k) ≡ live_value (tickets_of bs) d
  ticket-some g test d k finds says =
      some_for d (λ b r. FnReturnsAt g test b r)
      (λ b r returns. says returns.shown r returns.says.met
      ∙ ap (λ (v : LiveBranch). is_for d v.stage) returns.shows) k finds
