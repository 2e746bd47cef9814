use Rattle.std.proofs.Common.{◌≡◌, ◌∙◌, ap, length, subst, sym}
use Rattle.linked_node.specs.Openings.{FoundIn}
use Rattle.linked_node.proofs.Boxed.{of_ok}
use Rattle.linked_node.proofs.opening.opened.Goals as goal

pub returns-in-Ok-start : goal.returns-in-Ok-start
returns-in-Ok-start c =
    of_ok c.shown.result (λ kept serves. record {
      tree = c.in_ok-tree.tree;
      reads = c.in_ok-tree.ensures;
      entry = c.in-Some.entry.now;
      listed = sym c.in-Some.ensures;
      store = c.in_ok-store.store;
      found = subst (FoundIn c.args.is_new c.args.file.now) (sym c.in_ok-store.ensures.text)
          c.in_ok-number.ensures;
      forced = c.in_ok-store.ensures.forced ∙ ap length (sym c.in_ok-store.ensures.text);
      works = c.in_ok-store.ensures.works;
      first = c.in-Ok-start.node;
      opening = c.in-Ok-start.opening;
      starts = c.in-Ok-start.ensures.ok;
      serves = serves;
    }) c.shown.ensures
