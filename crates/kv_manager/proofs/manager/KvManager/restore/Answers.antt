use Rattle.std.proofs.Common.{rules, sym, ap, ◌∙◌}
use Rattle.log_records.specs.Sights.{LogState, log_state}
use Rattle.kv_manager.proofs.manager.KvManager.restore.Goals as goal

pub returns-in-Err-over-clause-err : goal.returns-in-Err-over-clause-err
returns-in-Err-over-clause-err g c =
    record {
      opened_as = c.in-Ok.log;
      opens = search rules;
      left_as = c.in-Err-over.log;
      holds = ap (λ (l : LogState). l.sight) (sym c.into_store.ensures)
          ∙ ap (λ k. (log_state k (g.L.LogStore.bytes c.into_store.result)
          (g.L.LogStore.forced c.into_store.result) (g.L.LogStore.failures c.into_store.result) 0
          c.in-Err-over.log.sight.failed).sight) (c.in-Err-over.ensures.err.1 ∙ c.in-Ok.ensures.ok.form);
      why = c.in-Err-over.ensures.err.0;
    }
