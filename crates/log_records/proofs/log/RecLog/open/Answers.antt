use Rattle.std.proofs.Common.{◌≡◌, ◌≤◌, ◌⊎◌, ap, false, length, subst}
use Rattle.log_records.specs.Openings.{OpensLog}
use Rattle.log_records.specs.Sights.{IsLogText, log_state}
use Rattle.log_records.proofs.Known.{known_either, log_is_long}
use Rattle.log_records.proofs.Settling.{opens}
use Rattle.log_records.proofs.log.RecLog.open.Goals as goal

pub invariant_of-result : goal.invariant_of-result
invariant_of-result g c =
    let s = c.in_ok-store.ensures.ok in
    let form = c.of-form.result in
    let bytes = g.L.LogStore.bytes c.in_ok-store.store in
    let forced = g.L.LogStore.forced c.in_ok-store.store in
    let log : IsLogText form bytes forced false =
    record {
      second = ap (λ f. f.format) c.of-form.ensures;
      begins = s.begins;
      header_forced = s.header_forced;
      whole = λ _. s.whole;
    } in
    let known = c.known_of-known.result in
    let size = length c.bytes-2.result.now in
    let either : ((size ≤ forced) × (known ≡ size)) ⊎ (known ≡ 5) =
    subst (λ n. ((size ≤ n) × (known ≡ size)) ⊎ (known ≡ 5)) c.forced.ensures c.known_of-known.ensures in (
      log,
      known_either form bytes forced size known (log_is_long _ _ _ _ log) s.header_forced s.whole
          (ap length c.bytes-2.ensures) either,
      tt,
    )

pub returns-clause-ok : goal.returns-clause-ok
returns-clause-ok g c =
    let store = c.in_ok-store.store in
    subst (λ f. OpensLog f (g.L.LogStore.bytes c.args.store) (g.L.LogStore.forced c.args.store)
    (g.L.LogStore.failures c.args.store)
    (log_state c.of-form.result (g.L.LogStore.bytes store) (g.L.LogStore.forced store)
    (g.L.LogStore.failures store)
    (g.L.LogStore.room store) false)) c.of-form.ensures
    (opens _ _ _ _ _ _ _ (g.L.LogStore.room store) c.in_ok-store.ensures.ok)
