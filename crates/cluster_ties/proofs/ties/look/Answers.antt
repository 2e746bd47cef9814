use Rattle.std.proofs.Common.{ap, refl, subst, sym}
use Rattle.atomic_table.specs.Table.{keeps}
use Rattle.atomic_table.proofs.Lists.{set_again}
use Rattle.cluster_ties.specs.Rule.{IsTied}
use Rattle.cluster_ties.proofs.Parting
use Rattle.cluster_ties.proofs.ties.look.Goals as goal

pub load-requires : goal.load-requires
load-requires c =
    let v = c.args.journal.now.me.0 in
    let kept = ap (λ m. m.0.journal.keeps) c.requires.journal in
    let key = c.args.ties.now.shared.key.items in (
      c.requires.here.0,
      c.requires.here.1,
      λ s h long at fits. (
        v,
        keeps,
        tt,
        subst (IsTied key) (sym (set_again s.views _ v at)) h,
        (refl, Parting.known _ s.views _ v h at kept),
      ),
    )
