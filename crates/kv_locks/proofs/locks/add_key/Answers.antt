use Rattle.std.proofs.Common.{rules, ◌≡◌, ap, sym, ◌∙◌, ◌++◌, ◌∷◌, [], unwrap_or}
use Rattle.std.proofs.lemmas.List.{append-nil}
use Rattle.std.specs.Map.{lookup}
use Rattle.key_lists.specs.Holders.{same}
use Rattle.kv_locks.specs.Locks.{keys_of}
use Rattle.kv_locks.proofs.Tables.{keeps_keys, key_listed, keys_or_none}
use Rattle.kv_locks.proofs.locks.add_key.Goals as goal

pub returns-in_err-push-clause-keeps : goal.returns-in_err-push-clause-keeps
returns-in_err-push-clause-keeps c =
    let u = c.in_ok-keys.ensures.update.0 c.push.new.self in
    let had : c.or_insert-list.result.now
    ≡ unwrap_or (lookup (same c.args.xid.now) c.args.keys.now.entries) c.new.result = search rules in
    let stays : c.push.new.self.items ≡ c.or_insert-list.result.now.items = search rules in
    keeps_keys c.args.keys.now.entries _ c.args.xid.now c.push.new.self [] (search rules)
    (stays ∙ ap (λ v. v.items) had
    ∙ keys_or_none (lookup (same c.args.xid.now) c.args.keys.now.entries) c.new.result c.new.ensures.items
    ∙ sym (append-nil (keys_of c.args.keys.now.entries c.args.xid.now)))

pub returns-clause-keeps : goal.returns-clause-keeps
returns-clause-keeps c =
    let u = c.in_ok-keys.ensures.update.0 c.push.new.self in
    let had : c.or_insert-list.result.now
    ≡ unwrap_or (lookup (same c.args.xid.now) c.args.keys.now.entries) c.new.result = search rules in
    let pushed : c.push.new.self.items
    ≡ c.or_insert-list.result.now.items ++ c.in_ok-key.key ∷ [] = search rules in
    keeps_keys c.args.keys.now.entries _ c.args.xid.now c.push.new.self (c.in_ok-key.key ∷ []) (search rules)
    (pushed ∙ ap (λ ks. ks ++ c.in_ok-key.key ∷ []) (ap (λ v. v.items) had
    ∙ keys_or_none (lookup (same c.args.xid.now) c.args.keys.now.entries) c.new.result c.new.ensures.items))

pub returns-clause-listed : goal.returns-clause-listed
returns-clause-listed c =
    let u = c.in_ok-keys.ensures.update.0 c.push.new.self in
    let pushed : c.push.new.self.items
    ≡ c.or_insert-list.result.now.items ++ c.in_ok-key.key ∷ [] = search rules in
    key_listed _ c.args.xid.now c.push.new.self c.or_insert-list.result.now.items c.in_ok-key.key
    c.args.key.now (search rules) pushed (search rules)
