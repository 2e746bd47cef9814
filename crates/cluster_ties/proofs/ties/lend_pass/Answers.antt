use Rattle.std.proofs.Common.{◌∙◌, ap}
use Rattle.cluster_ties.proofs.Parting
use Rattle.cluster_ties.proofs.ties.lend_pass.Goals as goal

pub split_seat-spare-requires : goal.split_seat-spare-requires
split_seat-spare-requires c =
    (c.requires.here.0, c.requires.here.2, λ s h at. Parting.spares _ s.views _ _ h at)

pub join_seat-requires : goal.join_seat-requires
join_seat-requires c =
    let r = c.requires.views in
    let same = c.replace-taken.ensures.value in (
      c.split_seat-spare.ensures.0 ∙ c.requires.here.0,
      ap (λ x. x.table_id) same ∙ c.requires.here.1,
      ap (λ x. x.me.1) same ∙ r.1,
      c.requires.here.2,
      λ s h at apart there. Parting.joins_pass _ s.views _ _ h at _ _
          (ap (λ x. x.me.0.pass.holds) same ∙ r.0) apart there,
    )
