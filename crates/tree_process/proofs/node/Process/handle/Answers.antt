use Rattle.std.proofs.Common.{false, rules}
use Rattle.process_state.specs.Makes.{NoneLeft}
use Rattle.tree_process.proofs.Same.{rests, same_core}
use Rattle.tree_process.proofs.node.Process.handle.Goals as goal

pub returns-then-not-has_numbers-clause-err : goal.returns-then-not-has_numbers-clause-err
returns-then-not-has_numbers-clause-err g c =
    let answered = c.data_answers.ensures in
    record {
      answer = answered.0;
      answers = answered.1;
      not_made = record { same = same_core _; why = NoneLeft (λ has. search rules) };
      keeps = λ _. rests _;
    }

pub returns-then-not-has_numbers-clause-under : goal.returns-then-not-has_numbers-clause-under
returns-then-not-has_numbers-clause-under g c = λ is. absurd (cc)
