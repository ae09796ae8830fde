-- What is noted of the body of a response.
use Rattle.std.proofs.Common.{◌≡◌, refl, sym, subst, ap, ◌∙◌, ℕ, Bool, true, false, List, [], ◌∷◌, Option, Some, None}
use Rattle.pp_flow.specs.Changes.{with_errand}
use Rattle.pp_flow.specs.declared.entry.Entry.{Entry}
use Rattle.pp_flow.specs.declared.errand.Body.{Body as ErrandBody}
use Rattle.pp_flow.specs.declared.errand.Body.TheVariants.{Pending as IsPending, Joining as IsJoining, Relaying as IsRelaying, Dropping as IsDropping}
use Rattle.pp_law.specs.Connections.{is_exchange, on_exchange}
use Rattle.pp_law.specs.Lists.{change}
use Rattle.pp_law.specs.Stages.{bound_in}
use Rattle.pp_law.specs.State.{Body, Pending, Joining, Relaying, Dropping, Bound, Exchange}
use Rattle.pp_seats_law.specs.Exchanges.{Binding, ShowsBody, ShowsExchange}
use Rattle.pp_flow_law.specs.Changes.{DropsAreNone, KeepsItsPlace, WantsAreTheLaws, wanting}
use Rattle.pp_flow_law.proofs.Errands.{errands}
use Rattle.pp_flow_law.proofs.Framed.{frames}

-- ---- how far it is wanted

abbrev wanted_body : ℕ → Body → Body
wanted_body at Pending = Pending
wanted_body at (Joining b) = Joining (record b { wanted = at })
wanted_body at Relaying = Relaying
wanted_body at Dropping = Dropping

abbrev wanted_in : ℕ → Exchange → Option Bound → Exchange
wanted_in at e o = elim o as (λ x. Exchange) [ None ↦ e | Some b ↦ record e { body = Joining (record b { wanted = at }) } ]

wants_is : (at : ℕ) (e : Exchange) → wanting at e ≡ record e { body = wanted_body at e.body }
wants_is at e = by e.body refl
  where
    by : (b : Body) → e.body ≡ b → wanted_in at e (bound_in b) ≡ record e { body = wanted_body at b }
    by Pending is = ap (λ (b : Body). record e { body = b }) is
    by (Joining b) is = refl
    by Relaying is = ap (λ (b : Body). record e { body = b }) is
    by Dropping is = ap (λ (b : Body). record e { body = b }) is

wants_keep : (at : ℕ) → KeepsItsPlace (wanting at)
wants_keep at e = (ap (λ (c : Exchange). c.number) (wants_is at e), ap (λ (c : Exchange). c.place) (wants_is at e))

wanted_shows : (number : ℕ → ℕ) (at : ℕ) (body : ErrandBody) (headed : Bool) (bound : Option Binding) (other : Body) (b : Binding) → ShowsBody number body headed bound other → bound ≡ Some b → ShowsBody number (IsJoining at) headed bound (wanted_body at other)
wanted_shows number at IsPending false None Pending b shows is = absurd cc
wanted_shows number at (IsJoining far) true (Some x) (Joining d) b shows is = record {
  joined = shows.joined;
  next = shows.next;
  to = shows.to;
  is_all = shows.is_all;
  wanted = refl;
}
wanted_shows number at IsRelaying true None Relaying b shows is = absurd cc
wanted_shows number at (IsDropping n) true None Dropping b shows is = absurd cc
wanted_shows number at body headed bound other b shows is = absurd shows

with_body : (number : ℕ → ℕ) (x : Entry) (e : Exchange) (body : ErrandBody) (other : Body) → ShowsExchange number x e → ShowsBody number body x.exchange.headed x.exchange.bound other
    → ShowsExchange number (record x { errand = record x.errand { body = body } }) (record e { body = other })
with_body number x e body other one shown = record {
  number = one.number;
  asker = one.asker;
  aim = one.aim;
  place = one.place;
  text_key = one.text_key;
  parts = one.parts;
  named = one.named;
  is_ranged = one.is_ranged;
  is_moved = one.is_moved;
  is_asked_once = one.is_asked_once;
  asks_head = one.asks_head;
  is_safe = one.is_safe;
  binds = one.binds;
  identity = one.identity;
  guess = one.guess;
  text = one.text;
  asked = one.asked;
  body_left = one.body_left;
  requested = one.requested;
  body = shown;
}

pub wants : WantsAreTheLaws
wants number l f s shows n at x b here bound =
    errands number l f s shows n x (record x.errand { body = IsJoining at }) (wanting at) here (wants_keep at) (λ e one.
    subst (λ (c : Exchange). ShowsExchange number (record x { errand = record x.errand { body = IsJoining at } }) c) (sym (wants_is at e))
    (with_body number x e (IsJoining at) (wanted_body at e.body) one (wanted_shows number at x.errand.body x.exchange.headed x.exchange.bound e.body b one.body bound)))

-- ---- how much was dropped

dropped_shows : (number : ℕ → ℕ) (m k : ℕ) (body : ErrandBody) (headed : Bool) (bound : Option Binding) (other : Body) → ShowsBody number body headed bound other → body ≡ IsDropping m → ShowsBody number (IsDropping k) headed bound other
dropped_shows number m k IsPending false None Pending shows is = absurd cc
dropped_shows number m k (IsJoining far) true (Some x) (Joining d) shows is = absurd cc
dropped_shows number m k IsRelaying true None Relaying shows is = absurd cc
dropped_shows number m k (IsDropping n) true None Dropping shows is = tt
dropped_shows number m k body headed bound other shows is = absurd shows

pub same_all : (n : ℕ) (es : List Exchange) → change (is_exchange n) (λ e. e) es ≡ es
same_all n [] = refl
same_all n (e ∷ es) = by (is_exchange n e) ∙ ap (λ (xs : List Exchange). e ∷ xs) (same_all n es)
  where
    by : (b : Bool) → (elim b as (λ t. Exchange) [ true ↦ e | false ↦ e ]) ∷ change (is_exchange n) (λ d. d) es ≡ e ∷ change (is_exchange n) (λ d. d) es
    by true = refl
    by false = refl

pub drops_none : DropsAreNone
unfolding on_exchange
drops_none number l f s shows n m k x here dropping =
    frames number l (with_errand n (record x.errand { body = IsDropping k }) f) (on_exchange n (λ e. e) s)
    (errands number l f s shows n x (record x.errand { body = IsDropping k }) (λ e. e) here (λ e. (refl, refl)) (λ e one.
    with_body number x e (IsDropping k) e.body one (dropped_shows number m k x.errand.body x.exchange.headed x.exchange.bound e.body one.body dropping))) l s
    (record { exchanges = sym (same_all n s.exchanges); next = refl; lines = λ i. refl })
