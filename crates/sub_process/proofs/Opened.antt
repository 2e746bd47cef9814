-- A subordinate whose manager was just made over an empty log.
use Rattle.std.proofs.Common.{◌≡◌, ◌∙◌, ◌∷◌, [], false, List, None, refl, sym, ap, arith}
use Rattle.std.specs.Prelude.{length}
use Rattle.xa_codes.specs.declared.code.Code.{Code}
use Rattle.xa_tables.specs.declared.states.BranchState.{BranchState}
use Rattle.xa_xid.specs.declared.xid.Xid.{Xid}
use Rattle.xa_branch.specs.Branches.{BranchList, state_in}
use Rattle.xa_assoc.specs.Associations.{AssocList, IsBare, moved_of}
use Rattle.xa_assoc.specs.Answers.{OpensManager}
use Rattle.log_text.specs.Forms.{log_form}
use Rattle.protocol.specs.declared.names.Kind.TheVariants.{Manager}
use Rattle.protocol.specs.declared.names.Case.{Case}
use Rattle.protocol.specs.declared.names.ProcessId.{ProcessId}
use Rattle.protocol.specs.declared.trees.TreeProcess.{TreeProcess}
use Rattle.protocol.specs.Nodes.{AtLeaf}
use Rattle.case_table.specs.Tables.{live_value}
use Rattle.process_state.specs.States.{forced_sight}
use Rattle.process_state.specs.Opening.{IsOpenedProcess, first_opened}
use Rattle.process_state.proofs.Opened.{opened_is_read}
use Rattle.log_records.specs.Sights.{LogSight}
use Rattle.resource_manager.specs.Opening.{IsNewManager}
use Rattle.resource_manager.specs.Data.{DataRests, is_begun, no_data}
use Rattle.resource_manager.specs.Sights.{ManagerCalls, ManagerSight, manager_data}
use Rattle.sub_work.specs.Deeds.{IsIdle, IsQuiet}
use Rattle.sub_branches.specs.Tables.{BranchTable, branch_in, kept_view, ticket_in, view_in}
use Rattle.protocol.specs.Views.{leaf_place}
use Rattle.sub_process.specs.Fronts.{IsHeader}
use Rattle.sub_process.specs.declared.subordinate.Front.{Front}
use Rattle.sub_process.specs.Subordinates.{IsTied, core_of}
use Rattle.sub_process.proofs.Reached.{header_front, new_reached}

abbrev none : BranchTable
none = record { tickets = []; branches = [] }

no_ticket : (d : Case) → ticket_in none d ≡ None
unfolding live_value
no_ticket d = refl

no_branch : (c : Case) → branch_in none c ≡ None
unfolding live_value
no_branch c = refl

-- a list of no length
no_items : {A : Type 0} (xs : List A) → length xs ≡ 0 → xs ≡ []
no_items [] e = refl
no_items (x ∷ xs) e = absurd (omega arith)

pub bare_quiet : (a : AssocList) → IsBare a → a.seats ≡ [] → IsQuiet a
bare_quiet a bare seats = record {
  holders = no_items a.holders bare.holders;
  seats = seats;
  moved = λ x. ap (λ ms. moved_of (record a { moved = ms }) x) (no_items a.moved bare.moved);
}

module _ (old m : ManagerSight) (new : IsNewManager old) (refuses : Code → Type 0) (answer : Code)
    (calls : ManagerCalls old m (refuses answer) (λ s t. OpensManager s t 0 false answer)) where
  up : old.log.failed ≡ false
  up = ap (λ l. l.failed) new.log

  idle : IsIdle m
  idle = let o = calls.works up in record {
    opened = o.init;
    quiet = bare_quiet m.tables.associations (o.anew new.closed).0 (o.anew new.closed).1;
  }

  -- it has no data
  pub opened_data : DataRests no_data (manager_data m)
  opened_data = record {
    keeps = record {
      writes = λ y. calls.rest.writes y ∙ new.writes y;
      holders = λ k. calls.rest.holders k ∙ new.holders k;
    };
    known = λ y. ap (λ (bs : List (Xid × BranchState)). is_begun (state_in bs y))
        (ap (λ (bs : BranchList). bs.branches) (calls.works up).branches ∙ new.branches);
  }

  pub opened_tied : (f : Front) (me parent : ProcessId) (tree : List TreeProcess) (t : BranchTable)
      → IsHeader f → t.tickets ≡ [] → t.branches ≡ [] → old.log.form ≡ log_form me Manager
      → IsTied f (record { me = me; parent = parent; tree = tree; given = 0; table = t; manager = m })
  opened_tied f me parent tree t header tickets branches own = record {
    own = ap (λ (l : LogSight). l.form) calls.log ∙ own;
    idle = idle;
    named = λ c b e. absurd (let f = sym e ∙ bare c in cc);
    stands = λ c b e. absurd (let f = sym e ∙ bare c in cc);
    told = λ c b e. absurd (let f = sym e ∙ bare c in cc);
    given_before = λ c b e. absurd (let f = sym e ∙ bare c in cc);
    reached = new_reached (leaf_place me parent tree) m old.log.form old.log.failures (calls.boot ∙ new.boot)
        (calls.log ∙ new.log) (header_front (leaf_place me parent tree) m.log f header);
  }
    where
      bare : (c : Case) → branch_in t c ≡ None
      bare c = ap (λ bs. branch_in (record { tickets = t.tickets; branches = bs }) c) branches ∙ no_branch c

  pub opened : (me parent : ProcessId) (tree : List TreeProcess) (t : BranchTable)
      → t.tickets ≡ [] → t.branches ≡ [] → old.log.form ≡ log_form me Manager
      → IsOpenedProcess
      (core_of (record { me = me; parent = parent; tree = tree; given = 0; table = t; manager = m }))
      (record { me = me; role = AtLeaf parent; tree = tree }) old.log.failures
  opened me parent tree t tickets branches own =
      let read = opened_is_read (record { me = me; role = AtLeaf parent; tree = tree }) in
      record {
        place_is = refl;
        log = calls.log ∙ new.log
            ∙ ap (λ f. forced_sight f (first_opened ∷ []) old.log.failures) own;
        read = record {
          boot = calls.boot ∙ new.boot ∙ read.boot;
          begun = refl;
          given = refl;
          tickets = λ d. ap (λ ts. ticket_in (record { tickets = ts; branches = t.branches }) d) tickets
              ∙ no_ticket d;
          views = read.views;
          branches = λ c. ap (λ bs. view_in (record { tickets = t.tickets; branches = bs }) c) branches
              ∙ ap kept_view (no_branch c) ∙ read.branches c;
          decided = λ c is. absurd (
              let none : (kept_view (live_value t.branches c)).standing ≡ (kept_view None).standing =
              ap (λ bs. (kept_view (live_value bs c)).standing) branches
              ∙ ap (λ o. (kept_view o).standing) (no_branch c) in
              let no = sym none ∙ is in cc);
        };
      }
