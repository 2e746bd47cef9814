use Rattle.std.proofs.Common.{rules, ◌≡◌, ◌∙◌, ◌-◌, refl, sym, ap, subst, take, length}
use Rattle.std.proofs.lemmas.Result.{IfErr-weaker, IfOk-weaker}
use Rattle.log_records.specs.Openings.{IsLogFound, IsWrittenAnew}
use Rattle.log_records.specs.declared.opening.StoreText.TheVariants.{Empty, Sound}
use Rattle.log_records.proofs.Settling.{not_opened, settles_empty, settles_front}
use Rattle.log_records.proofs.log.settled_as.Goals as goal

pub returns-in-Empty-clause-ok : goal.returns-in-Empty-clause-ok
returns-in-Empty-clause-ok g c =
    let found : IsLogFound c.args.form (g.L.LogStore.bytes c.args.store) Empty =
    subst (IsLogFound c.args.form (g.L.LogStore.bytes c.args.store)) c.in-Empty.is c.requires.found in
    IfOk-weaker c.replaced.result _ _ (λ new r. settles_empty _ _ _ _ _ _ _ found
    (g.met.L.LogStore.front c.args.store)
    (r.text_stands ∙ c.header.ensures) (r.all ∙ ap length c.header.ensures) r.failures_stay)
    c.replaced.ensures.ok

pub returns-in-Ok-clause-ok : goal.returns-in-Ok-clause-ok
returns-in-Ok-clause-ok g c =
    let torn = c.in-Sound.torn in
    let found : IsLogFound c.args.form (g.L.LogStore.bytes c.args.store) (Sound torn) =
    subst (IsLogFound c.args.form (g.L.LogStore.bytes c.args.store)) c.in-Sound.is c.requires.found in
    let anew : IsWrittenAnew torn (g.L.LogStore.forced c.args.store) = search rules in
    let front : c.deref.result.now ≡ take (length (g.L.LogStore.bytes c.args.store) - torn)
    (g.L.LogStore.bytes c.args.store) =
    c.deref.ensures.value ∙ c.in-Ok.ensures ∙ ap
    (λ t. take (length t - torn) c.bytes-2.result.now) c.bytes.ensures
    ∙ ap (take (length (g.L.LogStore.bytes c.args.store) - torn)) c.bytes-2.ensures in
    IfOk-weaker c.replaced-in-Ok.result _ _ (λ new r. settles_front _ _ _ _ _ _ _ torn found anew
    (r.text_stands ∙ front) (r.all ∙ ap length (sym r.text_stands)) r.failures_stay)
    c.replaced-in-Ok.ensures.ok

pub returns-in-Empty-clause-err : goal.returns-in-Empty-clause-err
returns-in-Empty-clause-err g c =
    let found : IsLogFound c.args.form (g.L.LogStore.bytes c.args.store) Empty =
    subst (IsLogFound c.args.form (g.L.LogStore.bytes c.args.store)) c.in-Empty.is c.requires.found in
    IfErr-weaker c.replaced.result _ _ (λ e refused. not_opened g.L.LogStore.bytes g.L.LogStore.forced
    g.L.LogStore.failures c.args.form c.args.store e.1 _
    (settles_empty _ _ _ _ _ _ _ found (g.met.L.LogStore.front c.args.store) c.header.ensures
    (ap length c.header.ensures) refl) e.0 refused) c.replaced.ensures.err

pub returns-in-Ok-clause-err : goal.returns-in-Ok-clause-err
returns-in-Ok-clause-err g c =
    let torn = c.in-Sound.torn in
    let found : IsLogFound c.args.form (g.L.LogStore.bytes c.args.store) (Sound torn) =
    subst (IsLogFound c.args.form (g.L.LogStore.bytes c.args.store)) c.in-Sound.is c.requires.found in
    let anew : IsWrittenAnew torn (g.L.LogStore.forced c.args.store) = search rules in
    let front : c.deref.result.now ≡ take (length (g.L.LogStore.bytes c.args.store) - torn)
    (g.L.LogStore.bytes c.args.store) =
    c.deref.ensures.value ∙ c.in-Ok.ensures ∙ ap
    (λ t. take (length t - torn) c.bytes-2.result.now) c.bytes.ensures
    ∙ ap (take (length (g.L.LogStore.bytes c.args.store) - torn)) c.bytes-2.ensures in
    IfErr-weaker c.replaced-in-Ok.result _ _ (λ e refused. not_opened g.L.LogStore.bytes g.L.LogStore.forced
    g.L.LogStore.failures c.args.form c.args.store e.1 _
    (settles_front _ _ _ _ _ _ _ torn found anew front refl refl) e.0 refused) c.replaced-in-Ok.ensures.err
