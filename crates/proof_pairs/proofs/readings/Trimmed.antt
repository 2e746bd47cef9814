-- What a coordinator's trim leaves of a case that it forgets: nothing.
use Rattle.std.proofs.Common.{◌≡◌, ◌∙◌, ℕ, Bool, true, false, ◌||◌, ◌&&◌, if◌then◌else◌, Option, Some, None, List, [], ◌∷◌, ◌++◌, fold, refl, sym, ap, arith}
use Rattle.protocol.specs.declared.names.Case.{Case}
use Rattle.protocol.specs.declared.names.Ticket.{Ticket}
use Rattle.protocol.specs.declared.records.Record.{Record}
use Rattle.protocol.specs.declared.records.Record.TheVariants.{Opened}
use Rattle.protocol.specs.Names.{same_case}
use Rattle.protocol.specs.NameLaws.{names}
use Rattle.protocol.specs.Records.{has, record_case, boot_of, boot_after, is_collecting, is_prepare, is_commit, is_abort, is_end}
use Rattle.protocol.specs.Nodes.{AtRoot}
use Rattle.protocol.specs.Restarts.{case_stays, staying, trimmed}
use Rattle.protocol.specs.Outcomes.{follows}
use Rattle.protocol.specs.Audits.{is_collecting_naming, is_prepare_naming, is_decision_naming}
use Rattle.proof_pairs.proofs.readings.Lists.{has-cons, has-nil, has-none}

-- the record is of the case
abbrev of_option : Case → Option Case → Bool
of_option c None = false
of_option c (Some d) = same_case d c

abbrev pub is_of : Case → Record → Bool
is_of c r = of_option c (record_case r)

-- each test of the case finds records of the case only
abbrev pub Finds : Case → (Record → Bool) → Type 0
Finds c q = (r : Record) → q r ≡ true → is_of c r ≡ true

finds_collecting : (c : Case) (r : Record) → is_collecting c r ≡ true → is_of c r ≡ true
finds_collecting c r e = grind arith

finds_prepare : (c : Case) (r : Record) → is_prepare c r ≡ true → is_of c r ≡ true
finds_prepare c r e = grind arith

finds_commit : (c : Case) (r : Record) → is_commit c r ≡ true → is_of c r ≡ true
finds_commit c r e = grind arith

finds_abort : (c : Case) (r : Record) → is_abort c r ≡ true → is_of c r ≡ true
finds_abort c r e = grind arith

finds_end : (c : Case) (r : Record) → is_end c r ≡ true → is_of c r ≡ true
finds_end c r e = grind arith

finds_collecting_naming : (c : Case) (t : Ticket) (r : Record) → is_collecting_naming c t r ≡ true
    → is_of c r ≡ true
finds_collecting_naming c t r e = grind arith

finds_prepare_naming : (c : Case) (t : Ticket) (r : Record) → is_prepare_naming c t r ≡ true
    → is_of c r ≡ true
finds_prepare_naming c t r e = grind arith

finds_decision_naming : (c : Case) (t : Ticket) (r : Record) → is_decision_naming c t r ≡ true
    → is_of c r ≡ true
finds_decision_naming c t r e = grind arith

-- Nothing of a case that does not stay is left.

unknown_of : (rs : List Record) (c : Case) (o : Option Case)
    → case_stays rs (Some c) ≡ false → case_stays rs o ≡ true → of_option c o ≡ false
unknown_of rs c None u e = refl
unknown_of rs c (Some d) u e = grind (arith, names)

not_of : (a : Bool) (b : Bool) → (b ≡ true → a ≡ false) → b ≡ true → a ≡ false
not_of a b f e = f e

no_more : (q : Record → Bool) (r : Record) (rest : List Record) (b : Bool) → (b ≡ true → q r ≡ false)
    → has q rest ≡ false → has q (if b then r ∷ rest else rest) ≡ false
no_more q r rest true f e = has-cons q r rest ∙ (ap (λ (x : Bool). x || has q rest) (f refl) ∙ e)
no_more q r rest false f e = e

gone_staying : (rs l : List Record) (c : Case) → case_stays rs (Some c) ≡ false
    → has (is_of c) (staying AtRoot rs l) ≡ false
gone_staying rs [] c u = has-none (is_of c)
gone_staying rs (r ∷ behind) c u =
    no_more (is_of c) r (staying AtRoot rs behind) (case_stays rs (record_case r))
    (unknown_of rs c (record_case r) u) (gone_staying rs behind c u)

or-none : (a b : Bool) → a ≡ false → b ≡ false → (a || b) ≡ false
or-none a b e f = grind arith

not-true : (a b : Bool) → (a ≡ true → b ≡ true) → b ≡ false → a ≡ false
not-true a b f e = grind arith

or-first : (a b : Bool) → (a || b) ≡ false → a ≡ false
or-first a b e = grind arith

or-second : (a b : Bool) → (a || b) ≡ false → b ≡ false
or-second a b e = grind arith

-- a list with nothing of the case passes none of its tests
none_found : (q : Record → Bool) (c : Case) (l : List Record)
    → ((r : Record) → q r ≡ true → is_of c r ≡ true) → has (is_of c) l ≡ false → has q l ≡ false
none_found q c [] f e = has-none q
none_found q c (r ∷ l) f e =
    let e' : (is_of c r || has (is_of c) l) ≡ false = sym (has-cons (is_of c) r l) ∙ e in
    has-cons q r l ∙ or-none (q r) (has q l) (not-true (q r) (is_of c r) (f r) (or-first _ _ e'))
    (none_found q c l f (or-second _ _ e'))

-- the log that a trim of the root leaves has nothing of the case
gone_trimmed : (rs : List Record) (c : Case) → case_stays rs (Some c) ≡ false
    → has (is_of c) (trimmed AtRoot rs) ≡ false
unfolding trimmed
gone_trimmed rs c u = has-nil (is_of c) (Opened (boot_of rs) ∷ staying AtRoot rs rs)
    ∙ (has-cons (is_of c) (Opened (boot_of rs)) (staying AtRoot rs rs) ∙ gone_staying rs rs c u)

pub record Gone (c : Case) (t : Ticket) (new : List Record) : Type 0 where
  pub collecting : has (is_collecting c) new ≡ false
  pub promise : has (is_prepare c) new ≡ false
  pub commit : has (is_commit c) new ≡ false
  pub abort : has (is_abort c) new ≡ false
  pub end : has (is_end c) new ≡ false
  pub collects : has (is_collecting_naming c t) new ≡ false
  pub names_it : has (is_prepare_naming c t) new ≡ false
  pub owes : has (is_decision_naming c t) new ≡ false

pub gone : (rs : List Record) (c : Case) (t : Ticket) → case_stays rs (Some c) ≡ false
    → Gone c t (trimmed AtRoot rs)
gone rs c t u = let g = gone_trimmed rs c u in record {
  collecting = none_found (is_collecting c) c _ (finds_collecting c) g;
  promise = none_found (is_prepare c) c _ (finds_prepare c) g;
  commit = none_found (is_commit c) c _ (finds_commit c) g;
  abort = none_found (is_abort c) c _ (finds_abort c) g;
  end = none_found (is_end c) c _ (finds_end c) g;
  collects = none_found (is_collecting_naming c t) c _ (finds_collecting_naming c t) g;
  names_it = none_found (is_prepare_naming c t) c _ (finds_prepare_naming c t) g;
  owes = none_found (is_decision_naming c t) c _ (finds_decision_naming c t) g;
}

drops_first : (a b c d : Bool) → a ≡ false → c ≡ d → ((a && b) || c) ≡ d
drops_first a b c d e f = grind arith

-- a list without the first kind ends nothing
pub follows-none : (q p : Record → Bool) (xs ys : List Record) → has q xs ≡ false
    → follows q p (xs ++ ys) ≡ follows q p ys
follows-none q p [] ys e = refl
follows-none q p (x ∷ xs) ys e = let e' : (q x || has q xs) ≡ false = sym (has-cons q x xs) ∙ e in
    drops_first (q x) (has p (xs ++ ys)) (follows q p (xs
    ++ ys)) (follows q p ys) (or-first _ _ e') (follows-none q p xs ys (or-second _ _ e'))

-- The boot stays.

not_opened : (rs : List Record) (b : ℕ) (r : Record) → case_stays rs (record_case r) ≡ true
    → boot_after b r ≡ b
not_opened rs b r e = grind arith

boot_step : (b : ℕ) (r : Record) (rest : List Record) (s : Bool) → (s ≡ true → boot_after b r ≡ b)
    → fold boot_after b rest ≡ b → fold boot_after b (if s then r ∷ rest else rest) ≡ b
boot_step b r rest true f e = ap (λ n. fold boot_after n rest) (f refl) ∙ e
boot_step b r rest false f e = e

boot_staying : (rs l : List Record) (b : ℕ) → fold boot_after b (staying AtRoot rs l) ≡ b
boot_staying rs [] b = refl
boot_staying rs (r ∷ behind) b = boot_step b r (staying AtRoot rs behind) (case_stays rs (record_case r))
    (not_opened rs b r) (boot_staying rs behind b)

end-nil : (xs : List Record) → xs ++ [] ≡ xs
end-nil [] = refl
end-nil (x ∷ xs) = ap (λ l. x ∷ l) (end-nil xs)

pub boot_trimmed : (rs : List Record) → boot_of (trimmed AtRoot rs ++ []) ≡ boot_of rs
unfolding boot_of trimmed
boot_trimmed rs = rw (
  end-nil ((Opened (fold boot_after 0 rs) ∷ staying AtRoot rs rs)
      ++ []),
  end-nil (Opened (fold boot_after 0 rs) ∷ staying AtRoot rs rs),
)
    (boot_staying rs rs (fold boot_after 0 rs))
