use Rattle.std.proofs.Common.{rules, ◌≡◌, ◌<◌, None, ap, sym, ◌∙◌, arith}
use Rattle.kv_store.specs.declared.version.Version.{Version}
use Rattle.kv_store.proofs.Values.{before_place, value_at_place, value_past}
use Rattle.kv_store.proofs.version.value_by.Goals as goal

pub returns-then-place-eq0 : goal.returns-then-place-eq0
returns-then-place-eq0 c =
    let first : c.place_of-place.result ≡ 0 = search rules in
    let any : Version = record { count = 0; value = None } in
    sym (value_at_place c.args.count None c.args.versions.now c.place_of-place.result
    any c.place_of-place.ensures
    ∙ ap (λ i. before_place None c.args.versions.now i any) first)

pub returns : goal.returns
returns c =
    let some : 0 < c.place_of-place.result = search (rules, arith) in
    c.value.ensures ∙ ap (λ v. v.value) c.index-versions-place.is
    ∙ sym (value_past c.args.count None c.args.versions.now c.place_of-place.result
    c.index-versions-place.result c.place_of-place.ensures some)
