-- What the data of a manager between two pieces of work answer.
use Rattle.std.proofs.Common.{true, refl}
use Rattle.protocol.specs.declared.messages.Message.{Message}
use Rattle.protocol.specs.declared.messages.Message.TheVariants.{Join, Work, Prepare}
use Rattle.protocol.specs.declared.events.Input.{Input}
use Rattle.protocol_words.specs.Variants.{ActInput, MessageInput}
use Rattle.xa_branch.specs.Branches.{AreBranchesListedOnce}
use Rattle.resource_manager.specs.Sights.{manager_data}
use Rattle.resource_manager.specs.Turns.{AnswersInput, AnswersMessage, case_xid}
use Rattle.sub_work.specs.Deeds.{IsIdle, starts}
use Rattle.sub_work.proofs.Begun.{can_begin}
use Rattle.sub_process.specs.Subordinates.{SubState, answer_for, core_of, next_case, xid_of}
use Rattle.sub_process.specs.Steps.{data_answer}

module _ (s : SubState) (idle : IsIdle s.manager)
    (once : AreBranchesListedOnce s.manager.tables.branches.branches) where
  answers_message : (m : Message)
      → AnswersMessage (core_of s) (manager_data s.manager) (case_xid s.parent) m (answer_for s m)
  answers_message (Join d) = record {
    begins = starts s.manager (xid_of s (next_case s d));
    lets = can_begin s.manager (xid_of s (next_case s d)) idle once;
    is = refl;
  }
  answers_message (Work c i op) = record { begins = true; lets = tt; is = refl }
  answers_message (Prepare c n) = record { begins = true; lets = tt; is = refl }
  answers_message _ = record { begins = true; lets = tt; is = refl }

  pub answers_input : (i : Input)
      → AnswersInput (core_of s) (manager_data s.manager) (case_xid s.parent) i (data_answer s i)
  answers_input (ActInput a) = refl
  answers_input (MessageInput k m) = answers_message m
