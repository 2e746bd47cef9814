-- Each step keeps the rule.
use Rattle.std.proofs.Common.{◌≡◌, ◌≢◌, ℕ, zero, suc, ◌<◌, List, [], ◌∷◌, ◌++◌, set, true, refl, sym, ap, zero-le, ◌∙◌, subst, arith, Option, Some, None}
use Rattle.std.specs.Prelude.{slice_get}
use mathlib.Core.Option.{some, some-ne-none, some-injective}
use lib.ListN.{get_elem?}
use Rattle.protocol.specs.declared.names.ProcessId.{ProcessId}
use Rattle.protocol.specs.declared.messages.Envelope.{Envelope}
use Rattle.protocol.specs.declared.events.JournalEntry.{JournalEntry}
use Rattle.tree_state.specs.Cuts.{net_of}
use Rattle.cluster_ties.specs.declared.views.ProcessView.{ProcessView}
use Rattle.cluster_ties.specs.declared.views.View.{View}
use Rattle.cluster_ties.specs.Views.{AreBelow, AreBy, AreOf, IsFront, entered, entered_by, entries_in, keeper, noted, own_of, pairs_by, pairs_from, process_at, with_net}
use Rattle.cluster_ties.specs.Rule.{AreApartProcesses, Fits, IsTied}
use Rattle.cluster_ties.specs.Plays.{IsUpTo}
use Rattle.cluster_ties.proofs.Lists.{apart_by, at_upd, below_all, fits_set, front_grows, net_in, off, own_all, own_else, pairs_else, pairs_mine, upd, upd_else, upd_here, whole_front}

-- The beginning.

own_nothing : (o : Option ProcessId) → own_of o [] ≡ []
unfolding Rattle.protocol.specs.World.entries_of
own_nothing None = refl
own_nothing (Some q) = refl

pub begins : (names : List ProcessId) → AreApartProcesses names → IsTied names (keeper names 0 0 [] ∷ [])
begins names apart = record {
  js = 0;
  o = 0;
  g = 0;
  log = [];
  ps = λ p. 0;
  hs = λ p. 0;
  now = λ p. process_at p (slice_get names p) [] [];
  tie = λ p. sym (own_nothing (slice_get names p));
  named = λ p. refl;
  sent = λ p. record { more = []; all_are = refl };
  fresh = λ p le. refl;
  few = zero-le;
  apart = apart;
  known = tt;
  fits = one;
}
  where
    F : ℕ → View → Type 0
    F = Fits names 0 0 0 [] (λ p. 0) (λ p. 0) (λ p. process_at p (slice_get names p) [] [])

    one : (by : ℕ) (v : View) → get_elem? (keeper names 0 0 [] ∷ []) by ≡ some v → F by v
    one zero v e = subst (F 0) (some-injective _ _ e)
        ((λ k. (refl, refl, refl, refl, refl)), (λ k. absurd (off k)), (λ k. absurd (off k)))
    one (suc by) v e = absurd (some-ne-none v (sym e))

-- A step at a seat.

module _ (names : List ProcessId) (views : List View) (id : ℕ) (v : View)
    (h : IsTied names views) (at : get_elem? views id ≡ some v) where
  -- what the rule says of this seat
  pub works_at : v.process.works ≡ true
      → (id ≡ h.ps v.process.place) × (v.process ≡ h.now v.process.place) × (v.process.place < h.o)
  works_at works = (h.fits id v at).1 works

  pub keeps_at : v.journal.keeps ≡ true
      → (id ≡ h.js) × (v.journal.all ≡ h.log) × (v.journal.opened ≡ h.o) × (v.journal.given ≡ h.g)
      × (v.journal.names ≡ names)
  keeps_at keeps = (h.fits id v at).0 keeps

  pub holds_at : v.pass.holds ≡ true
      → (id ≡ h.hs v.pass.caller) × (v.pass.pairs ≡ pairs_by v.pass.caller 0 h.log) × (v.pass.caller < h.g)
  holds_at holds = (h.fits id v at).2 holds

  name_at : v.process.works ≡ true → v.process.name ≡ slice_get names v.process.place
  name_at works = ap (λ (x : ProcessView). x.name) (works_at works).1 ∙ h.named v.process.place

  own_at : v.process.works ≡ true → v.process.own ≡ own_of v.process.name (entries_in h.log)
  own_at works = ap (λ (x : ProcessView). x.own) (works_at works).1 ∙ h.tie v.process.place
      ∙ ap (λ o. own_of o (entries_in h.log)) (sym (name_at works))

  sent_at : v.process.works ≡ true → IsFront v.process.net (net_of (entries_in h.log))
  sent_at works =
      subst (λ (x : ProcessView). IsFront x.net (net_of (entries_in h.log))) (sym (works_at works).1)
      (h.sent v.process.place)

  -- a process's entries are the journal's
  pub sees : v.journal.keeps ≡ true → v.process.works ≡ true
      → v.process.own ≡ own_of v.process.name (entries_in v.journal.all)
  sees keeps works =
      own_at works ∙ ap (λ l. own_of v.process.name (entries_in l)) (sym (keeps_at keeps).1)

  -- and what it noted is the first of the journal's
  pub up_to : v.journal.keeps ≡ true → v.process.works ≡ true → IsUpTo v
  up_to keeps works = record {
    own = sees keeps works;
    sent = subst (λ l. IsFront v.process.net (net_of (entries_in l))) (sym (keeps_at keeps).1)
        (sent_at works);
  }

  -- The process notes the journal's messages.
  pub notes : v.journal.keeps ≡ true → v.process.works ≡ true → IsTied names (set views id (with_net v))
  notes keeps works =
      let p = v.process.place in
      let k = keeps_at keeps in
      let m = works_at works in
      let new : ProcessView = noted v.process (net_of (entries_in v.journal.all)) in
      let now : ℕ → ProcessView = upd h.now p new in
      record {
        js = h.js;
        o = h.o;
        g = h.g;
        log = h.log;
        ps = h.ps;
        hs = h.hs;
        now = now;
        few = h.few;
        apart = h.apart;
        known = h.known;
        tie = at_upd (λ q x. x.own ≡ own_of (slice_get names q) (entries_in h.log)) h.now p new
            (own_at works ∙ ap (λ o. own_of o (entries_in h.log)) (name_at works))
            (λ q ne. h.tie q);
        named = at_upd (λ q x. x.name ≡ slice_get names q) h.now p new (name_at works) (λ q ne. h.named q);
        sent = at_upd (λ q x. IsFront x.net (net_of (entries_in h.log))) h.now p new
            (whole_front v.journal.all h.log k.1)
            (λ q ne. h.sent q);
        fresh = λ q le.
            let ne : q ≢ p = λ e. (let b = m.2 in absurd (omega arith)) in
            upd_else h.now p new q ne ∙ h.fresh q le;
        fits = fits_set (Fits names h.js h.o h.g h.log h.ps h.hs now) views id (with_net v)
            (λ j u away e.
            let g = h.fits j u e in (
              g.0,
              (λ w.
                  let y = g.1 w in
                  let ne = apart_by h.ps j id u.process.place p away y.0 m.0 in
                  (y.0, y.1 ∙ sym (upd_else h.now p new u.process.place ne), y.2)),
              g.2,
            )) (
              (h.fits id v at).0,
              (λ w. (m.0, sym (upd_here h.now p new), m.2)),
              (h.fits id v at).2,
            );
      }

  -- The journal enters what a process made in a turn, and the pass notes it.
  pub puts : (zs : List (ℕ × JournalEntry)) → v.journal.keeps ≡ true → v.process.works ≡ true
      → v.pass.holds ≡ true
      → AreOf v.process.name zs → AreBy v.pass.caller zs → IsTied names (set views id (entered v zs))
  puts zs keeps works holds mine by_it =
      let p = v.process.place in
      let c = v.pass.caller in
      let k = keeps_at keeps in
      let m = works_at works in
      let d = holds_at holds in
      let log : List (ℕ × JournalEntry) = v.journal.all ++ zs in
      let new : ProcessView = entered_by v.process zs in
      let now : ℕ → ProcessView = upd h.now p new in
      let longer : net_of (entries_in log) ≡ net_of (entries_in h.log) ++ net_of (entries_in zs) =
      net_in v.journal.all zs ∙ ap (λ l. net_of (entries_in l) ++ net_of (entries_in zs)) k.1 in
      let grows : (ls : List Envelope) → IsFront ls (net_of (entries_in h.log))
      → IsFront ls (net_of (entries_in log)) =
      λ ls f. front_grows ls (net_of (entries_in h.log)) (net_of (entries_in zs))
      (net_of (entries_in log)) longer f in
      record {
        js = h.js;
        o = h.o;
        g = h.g;
        log = log;
        ps = h.ps;
        hs = h.hs;
        now = now;
        few = h.few;
        apart = h.apart;
        known = below_all h.g c v.journal.all zs (subst (AreBelow h.g) (sym k.1) h.known) by_it d.2;
        named = at_upd (λ q y. y.name ≡ slice_get names q) h.now p new (name_at works) (λ q ne. h.named q);
        sent = at_upd (λ q y. IsFront y.net (net_of (entries_in log))) h.now p new
            (grows v.process.net (sent_at works))
            (λ q ne. grows (h.now q).net (h.sent q));
        fresh = λ q le.
            let ne : q ≢ p = λ e. (let b = m.2 in absurd (omega arith)) in
            upd_else h.now p new q ne ∙ h.fresh q le;
        tie = at_upd (λ q y. y.own ≡ own_of (slice_get names q) (entries_in log)) h.now p new
            (ap (λ l. l ++ entries_in zs) (sees keeps works)
            ∙ sym (own_all v.process.name v.journal.all zs mine)
            ∙ ap (λ o. own_of o (entries_in log)) (name_at works))
            (λ q ne. h.tie q
            ∙ (ap (λ l. own_of (slice_get names q) (entries_in l)) (sym k.1)
            ∙ sym (own_else (slice_get names q) v.process.name v.journal.all zs mine
            (λ x e f. ne (h.apart q p x e (sym (name_at works) ∙ f))))));
        fits = fits_set (Fits names h.js h.o h.g log h.ps h.hs now) views id (entered v zs)
            (λ j u away e.
            let f = h.fits j u e in (
              (λ w. absurd (away ((f.0 w).0 ∙ sym k.0))),
              (λ w.
                  let y = f.1 w in
                  let ne = apart_by h.ps j id u.process.place p away y.0 m.0 in
                  (y.0, y.1 ∙ sym (upd_else h.now p new u.process.place ne), y.2)),
              (λ w.
                  let y = f.2 w in
                  let ne = apart_by h.hs j id u.pass.caller c away y.0 d.0 in (
                    y.0,
                    y.1 ∙ ap (pairs_by u.pass.caller 0) (sym k.1)
                        ∙ sym (pairs_else u.pass.caller c 0 v.journal.all zs ne by_it),
                    y.2,
                  )),
            )) (
              (λ w. (k.0, refl, k.2, k.3, k.4)),
              (λ w. (m.0, sym (upd_here h.now p new), m.2)),
              (λ w. (
                d.0,
                ap (λ l. l ++ pairs_from v.journal.all zs) (d.1 ∙ ap (pairs_by c 0) (sym k.1))
                    ∙ sym (pairs_mine c v.journal.all zs by_it),
                d.2,
              )),
            );
      }
