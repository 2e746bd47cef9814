-- The last Opened of a log, as its process reads it.
use Rattle.std.proofs.Common.{◌≡◌, Bool, true, false, ◌||◌, if◌then◌else◌, ℕ, List, [], ◌∷◌, ◌++◌, fold, refl, sym, ap, ◌∙◌, append-nil, append_assoc}
use Rattle.std.specs.List.{AllByRecursion, list_any}
use Rattle.protocol.specs.declared.records.LogRecord.{LogRecord}
use Rattle.protocol.specs.declared.records.Record.{Record}
use Rattle.protocol.specs.declared.records.Record.TheVariants.{Opened}
use Rattle.protocol.specs.LogNames.{own_by, own_records}
use Rattle.protocol.specs.Nodes.{Place}
use Rattle.protocol.specs.Records.{boot_after, is_opened, record_case}
use Rattle.log_rules.specs.trim.Trims.{opened_after}

-- what a record is read as: an Opened as itself, any other as what leaves the boot
pub record ReadsBoot (place : Place) (l : LogRecord) : Type 0 where
  pub opened : is_opened l.entry ≡ true → (b : ℕ) → own_by place l (record_case l.entry)
      ≡ Opened (fold boot_after b (own_by place l (record_case l.entry))) ∷ []
  pub other : is_opened l.entry ≡ false → (b : ℕ)
      → fold boot_after b (own_by place l (record_case l.entry)) ≡ b

fold_append : (b : ℕ) (xs ys : List Record) → fold boot_after b (xs ++ ys)
    ≡ fold boot_after (fold boot_after b xs) ys
fold_append b [] ys = refl
fold_append b (x ∷ xs) ys = fold_append (boot_after b x) xs ys

-- one record more
boot_one : (place : Place) (o : List LogRecord) (l : LogRecord) (b : ℕ) → ReadsBoot place l
    → own_records place o ≡ Opened b ∷ []
    → own_records place (opened_after o l) ≡ Opened (fold boot_after b (own_by place l (record_case l.entry)))
    ∷ []
unfolding own_records
boot_one place o l b reads e = by_test (is_opened l.entry) refl
  where
    by_test : (k : Bool) → is_opened l.entry ≡ k
        → own_records place (if k then l ∷ [] else o)
        ≡ Opened (fold boot_after b (own_by place l (record_case l.entry))) ∷ []
    by_test true is = append-nil (own_by place l (record_case l.entry)) ∙ reads.opened is b
    by_test false is = e ∙ ap (λ n. Opened n ∷ []) (sym (reads.other is b))

opened_since : (place : Place) (o ls : List LogRecord) (b : ℕ) → AllByRecursion (ReadsBoot place) ls
    → own_records place o ≡ Opened b ∷ []
    → own_records place (fold opened_after o ls) ≡ Opened (fold boot_after b (own_records place ls)) ∷ []
unfolding own_records
opened_since place o [] b h e = e
opened_since place o (l ∷ ls) b h e =
    opened_since place (opened_after o l) ls (fold boot_after b (own_by place l (record_case l.entry))) h.1
    (boot_one place o l b h.0 e)
    ∙ ap (λ n. Opened n ∷ []) (sym (fold_append b (own_by place l (record_case l.entry))
    (own_records place ls)))

first_one : (place : Place) (l : LogRecord) (ls : List LogRecord) (b : ℕ) → ReadsBoot place l
    → AllByRecursion (ReadsBoot place) ls
    → (is_opened l.entry || list_any (λ k. is_opened k.entry) ls) ≡ true
    → (list_any (λ k. is_opened k.entry) ls ≡ true → own_records place (fold opened_after [] ls)
    ≡ Opened (fold boot_after b (own_records place ls)) ∷ [])
    → own_records place (fold opened_after (opened_after [] l) ls)
    ≡ Opened (fold boot_after b (own_by place l (record_case l.entry) ++ own_records place ls)) ∷ []
unfolding own_records
first_one place l ls b reads h e more = by_test (is_opened l.entry) refl e
  where
    by_test : (k : Bool) → is_opened l.entry ≡ k → (k || list_any (λ k. is_opened k.entry) ls) ≡ true
        → own_records place (fold opened_after (if k then l ∷ [] else []) ls)
        ≡ Opened (fold boot_after b (own_by place l (record_case l.entry) ++ own_records place ls)) ∷ []
    by_test true is f =
        opened_since place (l ∷ []) ls (fold boot_after b (own_by place l (record_case l.entry))) h
        (append-nil (own_by place l (record_case l.entry)) ∙ reads.opened is b)
        ∙ ap (λ n. Opened n ∷ []) (sym (fold_append b (own_by place l (record_case l.entry))
        (own_records place ls)))
    by_test false is f =
        more f ∙ ap (λ n. Opened n ∷ []) (ap (λ n. fold boot_after n (own_records place ls))
        (sym (reads.other is b))
        ∙ sym (fold_append b (own_by place l (record_case l.entry)) (own_records place ls)))

-- where there is an Opened, the last one has the boot of what is read
pub opened_last : (place : Place) (ls : List LogRecord) (b : ℕ) → AllByRecursion (ReadsBoot place) ls
    → list_any (λ l. is_opened l.entry) ls ≡ true
    → own_records place (fold opened_after [] ls) ≡ Opened (fold boot_after b (own_records place ls)) ∷ []
unfolding own_records
opened_last place [] b h e = absurd (cc)
opened_last place (l ∷ ls) b h e = first_one place l ls b h.0 h.1 e (λ some. opened_last place ls b h.1 some)

pub own_append : (place : Place) (xs ys : List LogRecord) → own_records place (xs ++ ys)
    ≡ own_records place xs ++ own_records place ys
unfolding own_records
own_append place [] ys = refl
own_append place (x ∷ xs) ys =
    ap (λ t. own_by place x (record_case x.entry) ++ t) (own_append place xs ys)
    ∙ sym (append_assoc (own_by place x (record_case x.entry)) (own_records place xs) (own_records place ys))
