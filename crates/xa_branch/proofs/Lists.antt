-- The scans as a map holds them.
use Rattle.std.proofs.Common.{◌≡◌, ◌≢◌, ℕ, false, List, [], ◌∷◌, Option, Some, None, Result, Ok, Err, option_map, refl, ap, sym, ◌∙◌, arith}
use Rattle.std.specs.Global.{Vec}
use Rattle.std.specs.Map.{lookup}
use Rattle.std.specs.Prelude.{nat_eq, is_some, IfOk}
use Rattle.std.proofs.lemmas.Bool.Decides.{nat_tests}
use Rattle.xa_xid.specs.declared.xid.Xid.{Xid}
use Rattle.xa_branch.specs.Scans.{left_of, scan_of, has_scan, SetsScan}

-- what is left is what the map holds
pub scan_of-left_of : (es : List (ℕ × Vec Xid)) (t : ℕ)
    → scan_of (left_of es) t ≡ option_map (λ v. v.items) (lookup (nat_eq t) es)
scan_of-left_of [] t = refl
scan_of-left_of (e ∷ es) t = grind (arith, scan_of-left_of es t)

is_some-option_map : {A B : Type 0} (f : A → B) (o : Option A) → is_some (option_map f o) ≡ is_some o
is_some-option_map f None = refl
is_some-option_map f (Some x) = refl

pub has_scan-left_of : (es : List (ℕ × Vec Xid)) (t : ℕ)
    → has_scan (left_of es) t ≡ is_some (lookup (nat_eq t) es)
has_scan-left_of es t = ap is_some (scan_of-left_of es t)
    ∙ is_some-option_map (λ v. v.items) (lookup (nat_eq t) es)

apart : (a b : ℕ) → b ≢ a → nat_eq a b ≡ false
apart a b h = grind (arith, nat_tests)

-- one thread's entry changes, and so does what is left for it
pub leaves : (es fs : List (ℕ × Vec Xid)) (t : ℕ) (o : Option (Vec Xid)) → lookup (nat_eq t) fs ≡ o
    → ((q : ℕ) → nat_eq t q ≡ false → lookup (nat_eq q) fs ≡ lookup (nat_eq q) es)
    → SetsScan (left_of es) (left_of fs) t (option_map (λ v. v.items) o)
leaves es fs t o own others = record {
  own = scan_of-left_of fs t ∙ ap (option_map (λ v. v.items)) own;
  others = λ q differs. scan_of-left_of fs q ∙ ap (option_map (λ v. v.items)) (others q (apart t q differs))
      ∙ sym (scan_of-left_of es q);
}

pub if_ok_then : {T E : Type 0} (r : Result T E) (P Q : T → Type 0) → IfOk r P
    → ((x : T) → P x → Q x) → IfOk r Q
if_ok_then (Ok x) P Q p f = f x p
if_ok_then (Err e) P Q p f = tt
