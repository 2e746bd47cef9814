-- What the table of a log picks is what stays.
use Rattle.std.proofs.Common.{◌≡◌, ◌≤◌, ℕ, suc, ◌&&◌, nat_le, if◌then◌else◌, List, [], ◌∷◌, Option, Some, None, refl, ap, ◌∙◌, arith}
use Rattle.xa_xid.specs.declared.xid.Xid.{Xid}
use Rattle.protocol.specs.declared.records.LogRecord.{LogRecord}
use Rattle.log_rules.specs.declared.trim.lives.Life.{Life}
use Rattle.log_rules.specs.trim.Tables.{SaidTable, is_live, keeps_by, life_in, lives_of, log_name, no_life, picked}
use Rattle.log_rules.specs.trim.Trims.{PicksWhatStays, said_of, staying, stays_by}
use Rattle.log_rules.proofs.trim.Noted.{life_behind, life_from, life_said, life_since, step_within, table_life}

-- what the table says of a name is what the records say from this place on, and the last promise stands no
-- later
record Reaches (t : SaidTable) (i : ℕ) (ls : List LogRecord) (x : Xid) : Type 0 where
  pub life : Life
  pub rest : life_in t x ≡ life_from x i life ls
  pub no_later : life.since ≤ i

record Tells (whole : List LogRecord) (t : SaidTable) : Type 0 where
  pub said : (x : Xid) → (life_in t x).said ≡ said_of x whole

goes_on : (t : SaidTable) (i : ℕ) (l : LogRecord) (ls : List LogRecord) (x : Xid) → Reaches t i (l ∷ ls) x
    → Reaches t (suc i) ls x
unfolding life_from
goes_on t i l ls x r = record {
  life = life_behind x i r.life l;
  rest = r.rest;
  no_later = let w = step_within x i r.life l r.no_later in omega (arith, w);
}

kept_name : (whole : List LogRecord) (t : SaidTable) (i : ℕ) (l : LogRecord) (behind : List LogRecord)
    (o : Option Xid) → Tells whole t
    → ((x : Xid) → Reaches t i (l ∷ behind) x) → keeps_by t i o ≡ stays_by whole behind o
unfolding life_from
kept_name whole t i l behind None tells reaches = refl
kept_name whole t i l behind (Some x) tells reaches =
    let r = reaches x in
    let w = step_within x i r.life l r.no_later in
    ap (λ s. is_live s && nat_le (life_in t x).since i) (tells.said x)
    ∙ ap (λ b. is_live (said_of x whole) && b)
    (ap (λ life. nat_le life.since i) r.rest ∙ life_since x i (suc i) (life_behind x i r.life l) behind
    (omega arith) w)

picks : (whole : List LogRecord) (t : SaidTable) (i : ℕ) (ls : List LogRecord) → Tells whole t
    → ((x : Xid) → Reaches t i ls x) → picked t i ls ≡ staying whole ls
unfolding picked staying
picks whole t i [] tells reaches = refl
picks whole t i (l ∷ ls) tells reaches =
    let more = picks whole t (suc i) ls tells (λ x. goes_on t i l ls x (reaches x)) in
    ap (λ b. if b then l ∷ picked t (suc i) ls else picked t (suc i) ls)
    (kept_name whole t i l ls (log_name l) tells reaches)
    ∙ ap (λ rest. if stays_by whole ls (log_name l) then l ∷ rest else rest) more

tells_all : (ls : List LogRecord) (x : Xid) → (life_in (lives_of ls) x).said ≡ said_of x ls
unfolding said_of
tells_all ls x = ap (λ life. life.said) (table_life x 0 [] ls) ∙ life_said x 0 no_life ls

pub picks_what_stays : PicksWhatStays
picks_what_stays ls =
    picks ls (lives_of ls) 0 ls (record { said = tells_all ls })
    (λ x. record { life = no_life; rest = table_life x 0 [] ls; no_later = omega arith })
