-- A head that came to an exchange, and what its client is told by it, keep it.
use Rattle.std.proofs.Common.{◌≡◌, ◌⊎◌, refl, ℕ, ◌<◌, ◌≤◌, Bool, true, false, not, ◌==◌, List, Option, Some, None, inl, inr, sym, subst, ap, ◌∙◌}
use Rattle.pp_law.specs.Connections.{is_exchange, is_for}
use Rattle.pp_law.specs.Lists.{change, is_this}
use Rattle.pp_law.specs.OwnHeads.{is_asked_by, key_of}
use Rattle.pp_law.specs.Requests.{key_in}
use Rattle.pp_law.specs.Stages.{filled_of, is_begun, is_headed, is_pending}
use Rattle.pp_law.specs.State.{Body, Brought, Client, Exchange, Instance}
use Rattle.pp_laws.specs.Runs.{IsIn}
use Rattle.pp_laws.proofs.Lists.{Changed, changed_at, in_change, other, same}
use Rattle.pp_laws.proofs.Tests.{first_holds, number_same, same_number}
use Rattle.pp_laws_coming.proofs.Asks.{BoundOn, apart_mapped, counts_on, early_fills, same_bound}
use Rattle.pp_laws_coming.proofs.Attempts.{MayBeLeft}
use Rattle.pp_laws_coming.proofs.Facts.{Facts, Follows, IsTold, Settled}
use Rattle.pp_laws_coming.proofs.Stays.{callers_mapped, is_whole_in, passed_in}

abbrev with_body : Body → Exchange → Exchange
with_body body e = record e { body = body }

abbrev with_bodies : Exchange → Body → List Exchange → List Exchange
with_bodies e body es = change (is_exchange e.number) (with_body body) es

-- each was there, headed as it was, or as that one is now
record WasHeaded (e : Exchange) (es : List Exchange) (d : Exchange) : Type 0 where
  was : Exchange
  there : IsIn was es
  number : d.number ≡ was.number
  fills : filled_of d ≡ filled_of was
  asker : d.asker ≡ was.asker
  place : d.place ≡ was.place
  asked : d.asked ≡ was.asked
  key : d.key ≡ was.key
  left : d.body_left ≡ was.body_left
  headed : ((is_headed d ≡ is_headed was) × BoundOn d was) ⊎ ((was ≡ e) × (is_headed d ≡ true))

module _ (e : Exchange) (body : Body) (come : is_pending body ≡ false) (cs : List Client) (es : List Exchange) (next : ℕ) (xs : List Instance) (next_row : ℕ) (there : IsIn e es) (placed : e.place ≡ None → ⊥)
    (keyed : (n : ℕ) (c : Client) (x : Instance) → e.asker ≡ Some n → IsIn c cs → c.number ≡ n → IsIn x xs → Follows x c → (filled_of e ≡ None → ⊥) × (x.key ≡ key_of e)) (h : Facts false None cs es next xs next_row) where
  was_headed : (d : Exchange) → IsIn d (with_bodies e body es) → WasHeaded e es d
  was_headed d i = by (in_change (is_exchange e.number) (with_body body) d es i)
    where
      by : Changed (is_exchange e.number) (with_body body) es d → WasHeaded e es d
      by (same j isnt) = record { was = d; there = j; number = refl; fills = refl; asker = refl; place = refl; asked = refl; key = refl; left = refl; headed = inl (refl, same_bound d d refl) }
      by (other x j hit eq) = record {
        was = x;
        there = j;
        number = ap (λ (y : Exchange). y.number) eq;
        fills = ap filled_of eq;
        asker = ap (λ (y : Exchange). y.asker) eq;
        place = ap (λ (y : Exchange). y.place) eq;
        asked = ap (λ (y : Exchange). y.asked) eq;
        key = ap (λ (y : Exchange). y.key) eq;
        left = ap (λ (y : Exchange). y.body_left) eq;
        headed = inr (h.apart x e j there (same_number x.number e.number hit), ap is_headed eq ∙ ap not come);
      }

  headed_come : Facts false None cs (with_bodies e body es) next xs next_row
  headed_come = record {
    callers = h.callers;
    apart = apart_mapped (changed_at (is_exchange e.number) (with_body body)) es (λ d i. number_by d (is_exchange e.number d)) h.apart;
    given = λ d i. let r = was_headed d i in subst (λ n. n < next) (sym r.number) (h.given r.was r.there);
    one = λ d x n i j di xj. let p = was_headed d i in let r = was_headed x j in p.number ∙ h.one p.was r.was n p.there r.there (sym p.asker ∙ di) (sym r.asker ∙ xj) ∙ sym r.number;
    fresh = λ d i none. let r = was_headed d i in r.asked ∙ h.fresh r.was r.there (sym r.place ∙ none);
    headed = λ d i is none. by_place d (was_headed d i) is none;
    placeless = λ d i counts nowhere nobody. let r = was_headed d i in h.placeless r.was r.there (counts_on false d r.was r.fills counts) (sym r.place ∙ nowhere) (sym r.asker ∙ nobody);
    rowed = h.rowed;
    settled = h.settled;
    told = λ d n c i j asks is off. let r = was_headed d i in told_by d n c j r (sym r.asker ∙ asks) is (h.told r.was n c r.there j (sym r.asker ∙ asks) is off);
  }
    where
      number_by : (d : Exchange) (t : Bool) → (elim t as (λ x. Exchange) [ true ↦ with_body body d | false ↦ d ]).number ≡ d.number
      number_by d true = refl
      number_by d false = refl

      by_place : (d : Exchange) → WasHeaded e es d → is_headed d ≡ true → d.place ≡ None → ⊥
      by_place d r is none = by r.headed
        where
          by : ((is_headed d ≡ is_headed r.was) × BoundOn d r.was) ⊎ ((r.was ≡ e) × (is_headed d ≡ true)) → ⊥
          by (inl as_was) = h.headed r.was r.there (sym as_was.0 ∙ is) (sym r.place ∙ none)
          by (inr at) = placed (ap (λ (y : Exchange). y.place) (sym at.0) ∙ sym r.place ∙ none)

      told_by : (d : Exchange) (n : ℕ) (c : Client) → IsIn c cs → (r : WasHeaded e es d) → r.was.asker ≡ Some n → c.number ≡ n → IsTold xs r.was c → IsTold xs d c
      told_by d n c j r asks is told = by r.headed
        where
          key : key_in c.front ≡ Some d.key
          key = told.key ∙ ap (λ k. Some k) (sym r.key)

          by : ((is_headed d ≡ is_headed r.was) × BoundOn d r.was) ⊎ ((r.was ≡ e) × (is_headed d ≡ true)) → IsTold xs d c
          by (inl as_was) = record {
            waits = λ fills unheaded. told.waits (sym r.fills ∙ fills) (sym as_was.0 ∙ unheaded);
            untold = λ unheaded. told.untold (sym as_was.0 ∙ unheaded);
            coming = told.coming;
            stands = told.stands;
            fills = λ v is. told.fills v (sym r.fills ∙ is);
            left = subst (λ m. m ≤ c.body_left) (sym r.left) told.left;
            key = key;
            bound = λ fills x k follows. (
                let b = told.bound (sym r.fills ∙ fills) x k follows in
                let t = as_was.1 b.to b.is in
                record { to = t.to; is = t.is; instance = t.instance ∙ b.instance });
          }
          by (inr at) = record {
            waits = λ fills unheaded. (let both : true ≡ false = sym at.1 ∙ unheaded in absurd (cc both));
            untold = λ unheaded. (let both : true ≡ false = sym at.1 ∙ unheaded in absurd (cc both));
            coming = told.coming;
            stands = told.stands;
            fills = λ v is. told.fills v (sym r.fills ∙ is);
            left = subst (λ m. m ≤ c.body_left) (sym r.left) told.left;
            key = key;
            bound = λ fills x k follows. absurd ((keyed n c x (ap (λ (y : Exchange). y.asker) (sym at.0) ∙ asks) j is k follows).0 (ap filled_of (sym at.0) ∙ sym r.fills ∙ fills));
          }

  is_its : (n : ℕ) (o : Option ℕ) → is_this n o ≡ true → o ≡ Some n
  is_its n None is = absurd (cc is)
  is_its n (Some m) is = ap (λ k. Some k) (same_number m n is)

  -- whoever asks for its client is that one, and is headed
  its_headed : (d : Exchange) (n : ℕ) → IsIn d (with_bodies e body es) → d.asker ≡ Some n → e.asker ≡ Some n → is_headed d ≡ true
  its_headed d n i asks its = by (in_change (is_exchange e.number) (with_body body) d es i)
    where
      number : d.number ≡ e.number
      number = let r = was_headed d i in r.number ∙ h.one r.was e n r.there there (sym r.asker ∙ asks) its

      by : Changed (is_exchange e.number) (with_body body) es d → is_headed d ≡ true
      by (same j isnt) = let both : true ≡ false = sym (ap (λ (m : ℕ). m == e.number) number ∙ number_same e.number) ∙ isnt in absurd (cc both)
      by (other y j hit eq) = ap is_headed eq ∙ ap not come

  pub told_come : (b : Brought) → is_whole_in b ≡ false → ((n : ℕ) (c : Client) (x : Instance) → e.asker ≡ Some n → IsIn c cs → c.number ≡ n → IsIn x xs → Follows x c → passed_in b ≡ None)
      → Facts false None (change (is_asked_by e) (λ c. record c { brought = b }) cs) (with_bodies e body es) next xs next_row
  told_come b more bare = record {
    callers = callers_mapped (changed_at (is_asked_by e) (λ c. record c { brought = b })) cs (λ c. number_by c (is_asked_by e c)) h.callers;
    apart = headed_come.apart;
    given = headed_come.given;
    one = headed_come.one;
    fresh = headed_come.fresh;
    headed = headed_come.headed;
    placeless = headed_come.placeless;
    rowed = headed_come.rowed;
    settled = λ c j. settled_by c (in_change (is_asked_by e) (λ x. record x { brought = b }) c cs j);
    told = λ d n c i j asks is off. by d n c i asks is off (in_change (is_asked_by e) (λ x. record x { brought = b }) c cs j);
  }
    where
      number_by : (c : Client) (t : Bool) → (elim t as (λ x. Client) [ true ↦ record c { brought = b } | false ↦ c ]).number ≡ c.number
      number_by c true = refl
      number_by c false = refl

      its_asker : (x : Client) → is_asked_by e x ≡ true → e.asker ≡ Some x.number
      its_asker x hit = is_its x.number e.asker (first_holds (is_for e x) (not (is_begun x)) hit)

      settled_by : (c : Client) → Changed (is_asked_by e) (λ x. record x { brought = b }) cs c → Settled xs next_row c
      settled_by c (same j isnt) = h.settled c j
      settled_by c (other x j hit eq) = subst (λ (y : Client). Settled xs next_row y) (sym eq) (record { given = (h.settled x j).given; unasked = λ off. (let told = h.told e x.number x there j (its_asker x hit) refl (λ none. cc none) in let both : true ≡ false = sym told.stands ∙ off in absurd (cc both)); bare = λ y k follows. bare x.number x y (its_asker x hit) j refl k (record { stands = follows.stands; source = follows.source }) })

      by : (d : Exchange) (n : ℕ) (c : Client) → IsIn d (with_bodies e body es) → d.asker ≡ Some n → c.number ≡ n → (None ≡ Some n → ⊥) → Changed (is_asked_by e) (λ x. record x { brought = b }) cs c → IsTold xs d c
      by d n c i asks is off (same j isnt) = headed_come.told d n c i j asks is off
      by d n c i asks is off (other x j hit eq) =
          let number : x.number ≡ n = ap (λ (y : Client). y.number) (sym eq) ∙ is in
          let its : e.asker ≡ Some n = its_asker x hit ∙ ap (λ k. Some k) number in
          let before : IsTold xs d x = headed_come.told d n x i j asks number off in
          subst (λ (y : Client). IsTold xs d y) (sym eq) (record {
            waits = λ fills unheaded. (let both : true ≡ false = sym (its_headed d n i asks its) ∙ unheaded in absurd (cc both));
            untold = λ unheaded. (let both : true ≡ false = sym (its_headed d n i asks its) ∙ unheaded in absurd (cc both));
            coming = more;
            stands = before.stands;
            fills = before.fills;
            left = before.left;
            key = before.key;
            bound = λ fills y k follows. before.bound fills y k (record { stands = follows.stands; source = follows.source });
          })

  pub left_told : MayBeLeft false e (with_bodies e body es)
  left_told v fills x i number counts nowhere =
      let r = was_headed x i in
      let one : r.was ≡ e = h.apart r.was e r.there there (sym r.number ∙ number) in
      let both : None ≡ Some v = sym (early_fills x counts) ∙ r.fills ∙ ap filled_of one ∙ fills in cc both
