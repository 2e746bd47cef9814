-- What comes of a WORK.
use Rattle.std.proofs.Common.{◌≡◌, ◌∙◌, ◌+◌, ℕ, Bool, true, false, Option, Some, None, [], refl, sym, ap, subst, if◌then◌else◌}
use Rattle.std.specs.Prelude.{◌==◌, ◌&&◌, is_none}
use Rattle.xa_tables.specs.declared.states.BranchState.TheVariants.{S2, S4}
use Rattle.xa_xid.specs.declared.xid.Xid.{Xid}
use Rattle.protocol.specs.declared.names.Case.{Case}
use Rattle.protocol.specs.declared.names.Ticket.{Ticket}
use Rattle.protocol.specs.declared.messages.Op.{Op}
use Rattle.protocol.specs.declared.messages.Message.TheVariants.{Work}
use Rattle.protocol_words.specs.Variants.{ActiveStanding, MessageInput}
use Rattle.protocol.specs.ManagerRows.{on_work, unmoved}
use Rattle.protocol.specs.Standings.{ManagerView}
use Rattle.process_state.specs.Turns.{Handles, Turn}
use Rattle.process_state.specs.Makes.{retired_by}
use Rattle.case_table.specs.Tables.{MovesValue}
use Rattle.resource_manager.specs.Sights.{ManagerSight, manager_data, obstacle}
use Rattle.sub_work.specs.Deeds.{Idles, BranchWorks}
use Rattle.resource_manager.specs.Data
use Rattle.resource_manager.specs.Turns.{DataTurn, MovesData, Operates, Rests, message_data, work_data}
use Rattle.sub_branches.specs.declared.branch.LiveBranch.{LiveBranch}
use Rattle.sub_branches.specs.declared.branch.BranchStage.{BranchStage}
use Rattle.sub_branches.specs.declared.branch.BranchStage.TheVariants.{Active}
use Rattle.sub_branches.specs.Tables.{BranchTable, NotesStage, kept_view, stage_view, ticket_in}
use Rattle.sub_process.specs.declared.subordinate.Front.{Front}
use Rattle.sub_process.specs.Subordinates.{Hears, IsAt, IsTied, SubState, Turns, active, answer_for, core_of, place_of, turn_for, xid_of}
use Rattle.sub_process.proofs.Reached.{same_reached}
use Rattle.sub_work.specs.Replies.{shown}
use Rattle.sub_process.proofs.Ties.{behind, keeps_decided, moved_tied}
use Rattle.sub_process.proofs.Rows.{handled}
use Rattle.sub_process.proofs.Staying.{no_record}
use Rattle.sub_process.proofs.Votes.{same_number}

some_same : {A : Type 0} (a b : A) → Some a ≡ Some b → a ≡ b
some_same a b e = cc

never : (k i : ℕ) (op : Op) (c d : Case) (o : Option Ticket)
    → o ≡ retired_by (MessageInput k (Work c i op)) d o
never k i op c d None = refl
never k i op c d (Some t) = refl

-- what a noted key was, is known
pub record NotesAt (old new : BranchTable) (c : Case) (w : LiveBranch) : Type 0 where
  pub branches : MovesValue old.branches new.branches c (Some w)
  pub tickets : new.tickets ≡ old.tickets

pub notes_at : (old new : BranchTable) (key : ℕ) (stage : BranchStage) (c : Case) (b : LiveBranch)
    → IsAt old key c b → NotesStage old new key stage
    → NotesAt old new c (record { xid = b.xid; stage = stage })
notes_at old new key stage c b at r =
    let is : (r.owner, r.branch) ≡ (c, b) = some_same (r.owner, r.branch) (c, b) (sym r.was ∙ at.entry) in
    subst (λ (p : Case × LiveBranch). NotesAt old new p.0 (record { xid = p.1.xid; stage = stage })) is
    (record { branches = r.branches; tickets = r.tickets })

-- the view after a work
abbrev view_after : ℕ → ℕ → Bool → ManagerView
view_after i n does =
    let v : ManagerView = record { standing = ActiveStanding; done = n; spoiled = false; told = None } in
    if does then record v { done = i } else record v { spoiled = true }

module _ {f : Front} (s : SubState) (key : ℕ) (c g : Case) (n i : ℕ) (x : Xid) (op : Op) (tied : IsTied f s)
    (at : IsAt s.table key c (active x g n false)) (next : i ≡ n + 1) where
  turn_is : (does : Bool) → is_none (obstacle s.manager x op) ≡ does
      → turn_for s (Work c i op) ≡ Handles c (unmoved (view_after i n does))
  turn_is does is =
      ap (λ (o : Option LiveBranch). Handles c (on_work i (is_none (obstacle s.manager (xid_of s c) op))
      (kept_view o) (kept_view o).standing)) at.live
      ∙ ap (λ (y : Xid). Handles c (on_work i (is_none (obstacle s.manager y op))
      (stage_view (Active g n false)) ActiveStanding))
      (sym (tied.named c (active x g n false) at.live).is)
      ∙ ap (λ b. Handles c (on_work i b (stage_view (Active g n false)) ActiveStanding)) is
      ∙ ap (λ b. Handles c (if b && true then unmoved (view_after i n does) else unmoved
      (stage_view (Active g n false))))
      (ap (λ (m : ℕ). i == m) (sym next) ∙ same_number i)

  -- the case takes the work, and so the data alone say what is done
  data_is : (does : Bool) → is_none (obstacle s.manager x op) ≡ does
      → message_data (core_of s) (answer_for s (Work c i op)) (Work c i op)
      ≡ (if does then Operates c op else Rests)
  data_is does is =
      ap (λ (o : Option LiveBranch). work_data c i op (is_none (obstacle s.manager (xid_of s c) op))
      (kept_view o) (kept_view o).standing) at.live
      ∙ ap (λ (y : Xid). work_data c i op (is_none (obstacle s.manager y op))
      (stage_view (Active g n false)) ActiveStanding)
      (sym (tied.named c (active x g n false) at.live).is)
      ∙ ap (λ b. work_data c i op b (stage_view (Active g n false)) ActiveStanding) is
      ∙ ap (λ b. if b && true then (if does then Operates c op else Rests) else Rests)
      (ap (λ (m : ℕ). i == m) (sym next) ∙ same_number i)

  moves_as : (does : Bool) (m : ManagerSight) → BranchWorks s.manager m x op does
      → MovesData (manager_data s.manager) (manager_data m) (λ c. xid_of s c)
      (if does then Operates c op else Rests)
  moves_as true m w = subst (λ (y : Xid). Data.Operates (manager_data s.manager) (manager_data m) y op)
      (tied.named c (active x g n false) at.live).is w.operates
  moves_as false m w = w.operates

  done_by : (does : Bool) (done : ℕ) (spoiled : Bool) (t : BranchTable) (m : ManagerSight)
      → stage_view (Active g done spoiled) ≡ view_after i n does
      → NotesStage s.table t key (Active g done spoiled) → BranchWorks s.manager m x op does
      → Hears s (behind s t m) (Work c i op) (shown [] [])
  done_by does done spoiled t m view notes w =
      let r = notes_at s.table t key (Active g done spoiled) c (active x g n false) at notes in
      record {
        turns = λ k.
            subst (λ (turn : Turn). Turns s (behind s t m) (MessageInput k (Work c i op)) turn (shown [] []))
            (sym (turn_is does w.allowed))
            (handled s t m (MessageInput k (Work c i op)) c (unmoved (view_after i n does))
            (w.log ∙ no_record s.manager.log)
            (ap kept_view r.branches.own ∙ view) (λ d apart. ap kept_view (r.branches.others d apart))
            (λ d. ap (λ ts. ticket_in (record { tickets = ts; branches = t.branches }) d) r.tickets
            ∙ never k i op c d (ticket_in s.table d))
            (keeps_decided s t m c (active x g n false) (Some (active x g done spoiled)) tied at.live
            r.branches
            w.comes.others_decided (MessageInput k (Work c i op)) (λ d o apart. refl) (λ e. absurd (cc)))
            w.comes.boot);
        writes = subst (λ (t : DataTurn). MovesData (manager_data s.manager) (manager_data m)
            (λ c. xid_of s c) t)
            (sym (data_is does w.allowed)) (moves_as does m w);
      }

  pub did : (t : BranchTable) (m : ManagerSight) → NotesStage s.table t key (Active g i false)
      → BranchWorks s.manager m x op true
      → Hears s (behind s t m) (Work c i op) (shown [] [])
  did t m notes w = done_by true i false t m refl notes w

  pub spoils : (t : BranchTable) (m : ManagerSight) → NotesStage s.table t key (Active g n true)
      → BranchWorks s.manager m x op false
      → Hears s (behind s t m) (Work c i op) (shown [] [])
  spoils t m notes w = done_by false n true t m refl notes w

  pub did_tied : (t : BranchTable) (m : ManagerSight) → NotesStage s.table t key (Active g i false)
      → BranchWorks s.manager m x op true → IsTied f (behind s t m)
  did_tied t m notes w =
      moved_tied s t m c (active x g n false) (Some (active x g i false)) S2 tied at.live
      (notes_at s.table t key (Active g i false) c (active x g n false) at
      notes).branches (refl, refl, tt) w.comes
      (same_reached (place_of s) s.manager m tied.reached w.comes.boot w.log)

  pub spoils_tied : (t : BranchTable) (m : ManagerSight) → NotesStage s.table t key (Active g n true)
      → BranchWorks s.manager m x op false → IsTied f (behind s t m)
  spoils_tied t m notes w =
      moved_tied s t m c (active x g n false) (Some (active x g n true)) S4 tied at.live
      (notes_at s.table t key (Active g n true) c (active x g n false) at
      notes).branches (refl, refl, tt) w.comes
      (same_reached (place_of s) s.manager m tied.reached w.comes.boot w.log)

  pub idles_tied : (m : ManagerSight) → Idles s.manager m x → IsTied f (behind s s.table m)
  idles_tied m w =
      moved_tied s s.table m c (active x g n false) (Some (active x g n false)) S2 tied at.live
      (record { own = at.live; others = λ d apart. refl }) (refl, refl, tt) w.comes
      (same_reached (place_of s) s.manager m tied.reached w.comes.boot w.log)
