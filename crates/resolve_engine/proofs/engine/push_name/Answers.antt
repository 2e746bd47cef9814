use Rattle.std.proofs.Common.{◌≡◌, List, refl, sym, subst}
use Rattle.protocol.specs.declared.trees.TreeProcess.{TreeProcess}
use Rattle.resolve_engine.specs.declared.asked.Trust.{Trust}
use Rattle.resolve_engine.specs.Answers.{answer_of}
use Rattle.resolve_engine.specs.Reports.{naming_answer}
use Rattle.resolve_engine.proofs.engine.push_name.Goals as goal

pub returns : goal.returns
returns c = λ kept finds.
    let logs = c.args.finder.now.logs.now in
    let of = c.in_ok-naming.naming in
    let a = c.in_ok-answer.answer in record {
      given = record { name = c.args.name.now; answer = a; text = c.in_ok-push_told.ensures.0 };
      is_given = record {
        of = of;
        named = c.in_ok-naming.ensures.naming;
        answered = subst (λ (t : Trust). a ≡ naming_answer (answer_of t c.args.tree.now logs kept) of)
            c.requires.looks.trusts
            (subst (λ (tree : List TreeProcess).
            a ≡ naming_answer (answer_of c.args.finder.now.trust tree logs kept) of)
            c.requires.looks.tree_is (c.in_ok-answer.ensures kept finds));
        told = c.in_ok-push_told.ensures.1;
      };
      name_is = refl;
      text_is = c.in_ok-push_told.ensures.2;
      waiting = sym c.waits.ensures;
    }
