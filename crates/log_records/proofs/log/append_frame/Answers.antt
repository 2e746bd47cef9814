use Rattle.std.proofs.Common.{◌≡◌, ◌∙◌, ◌+◌, OnOk, IfErr, length, subst, sym}
use Rattle.log_store.specs.Stores.{AppendBreaks, Appends, MemoryRefuses}
use Rattle.log_store.specs.declared.store.StoreError.TheVariants.{Device, Memory}
use Rattle.log_text.specs.Made.{frame_record}
use Rattle.log_text.specs.Payloads.{record_text}
use Rattle.log_text.proofs.Owned.{opened_whole}
use Rattle.log_records.proofs.log.append_frame.Goals as goal

pub returns-in-Some-clause-ok : goal.returns-in-Some-clause-ok
returns-in-Some-clause-ok g c =
    let text : c.opened.result ≡ record_text c.args.form (frame_record c.args.frame.now) =
    c.opened.ensures ∙ opened_whole c.args.form (frame_record c.args.frame.now) c.in-Some.boot
    (sym c.boot.ensures ∙ c.in-Some.is) in
    subst (λ t. OnOk c.append.result (Appends g.L.LogStore.bytes g.L.LogStore.forced g.L.LogStore.failures
    c.args.store.now c.append.new.self t)) text c.append.ensures.ok

pub returns-in-Some-clause-memory : goal.returns-in-Some-clause-memory
returns-in-Some-clause-memory g c =
    let text : c.opened.result ≡ record_text c.args.form (frame_record c.args.frame.now) =
    c.opened.ensures ∙ opened_whole c.args.form (frame_record c.args.frame.now) c.in-Some.boot
    (sym c.boot.ensures ∙ c.in-Some.is) in
    subst (λ t. IfErr c.append.result (λ e. e ≡ Memory → MemoryRefuses g.L.LogStore.bytes g.L.LogStore.forced
    g.L.LogStore.failures c.args.store.now c.append.new.self (g.L.LogStore.room c.args.store.now)
    (length (g.L.LogStore.bytes c.args.store.now) + length t))) text c.append.ensures.memory

pub returns-in-Some-clause-device : goal.returns-in-Some-clause-device
returns-in-Some-clause-device g c =
    let text : c.opened.result ≡ record_text c.args.form (frame_record c.args.frame.now) =
    c.opened.ensures ∙ opened_whole c.args.form (frame_record c.args.frame.now) c.in-Some.boot
    (sym c.boot.ensures ∙ c.in-Some.is) in
    subst (λ t. IfErr c.append.result (λ e. e ≡ Device → AppendBreaks g.L.LogStore.bytes g.L.LogStore.forced
    g.L.LogStore.failures c.args.store.now c.append.new.self t)) text c.append.ensures.device
