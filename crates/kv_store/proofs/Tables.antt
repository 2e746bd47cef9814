-- The versions of all keys, as the map holds them.
use Rattle.std.proofs.Common.{◌≡◌, ℕ, ◌+◌, true, false, List, [], subst, refl, sym, arith}
use Rattle.std.specs.Global.{Vec}
use Rattle.key_lists.specs.Tables.{list_at, table_of}
use Rattle.kv_store.specs.declared.version.Version.{Version}
use Rattle.kv_store.specs.Versions.{IsVersions, rises_from}
use Rattle.kv_store.proofs.Values.{none_above_later}

-- the versions rise that there are not
pub kept_nothing : (n : ℕ) (es : List (Vec ℕ × Vec Version)) → es ≡ [] → IsVersions n n false (table_of es)
unfolding rises_from
kept_nothing n es none = subst (λ fs. IsVersions n n false (table_of fs)) (sym none) (record {
  starts = omega arith;
  rises = λ k. refl;
  settled = λ unstaged k. refl;
  next = λ k. refl;
})

pub kept_published : (base n : ℕ) (t : List (List ℕ × List Version)) → IsVersions base n true t
    → IsVersions base (n + 1) false t
kept_published base n t kept = record {
  starts = let starts = kept.starts in omega arith;
  rises = kept.rises;
  settled = λ unstaged k. kept.next k;
  next = λ k. none_above_later (n + 1) (list_at t k) (kept.next k);
}
