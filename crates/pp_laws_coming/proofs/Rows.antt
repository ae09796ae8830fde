-- Rows that are out keep it.
use Rattle.std.proofs.Common.{◌≡◌, refl, ℕ, ◌≤◌, ◌<◌, Bool, true, false, not, ◌==◌, List, filter, Option, Some, None, sym, subst, ap, ◌∙◌}
use Rattle.pp_law.specs.After.{brings_to, dropping_body}
use Rattle.pp_law.specs.Lists.{change, is_some_with}
use Rattle.pp_law.specs.Stages.{bound_in, bound_of, filled_of, is_headed, is_pending}
use Rattle.pp_law.specs.State.{Body, Pending, Joining, Relaying, Dropping, Bound, Client, Exchange, Instance}
use Rattle.pp_law.specs.Table.{is_instance}
use Rattle.pp_laws.specs.Runs.{IsIn}
use Rattle.pp_laws.proofs.Lists.{Changed, changed_at, in_change, in_filter, other, same}
use Rattle.pp_laws.proofs.Tests.{number_same, same_number}
use Rattle.pp_laws_coming.proofs.Asks.{apart_mapped, counts_on}
use Rattle.pp_laws_coming.proofs.Facts.{Facts, IsBoundTo, IsTold}

-- ---- rows

pub fewer_rows : {late : Bool} (test : Instance → Bool) (cs : List Client) (es : List Exchange) (next : ℕ) (xs : List Instance) (next_row : ℕ) → Facts late None cs es next xs next_row → Facts late None cs es next (filter test xs) next_row
fewer_rows test cs es next xs next_row h = record {
  callers = h.callers;
  apart = h.apart;
  given = h.given;
  one = h.one;
  fresh = h.fresh;
  headed = h.headed;
  placeless = h.placeless;
  rowed = λ x i. h.rowed x (in_filter test x xs i).0;
  settled = λ c i. record { given = (h.settled c i).given; bare = λ x j follows. (h.settled c i).bare x (in_filter test x xs j).0 follows; unasked = (h.settled c i).unasked };
  told = λ e n c i j asks is off. let told = h.told e n c i j asks is off in record {
    waits = told.waits;
    untold = told.untold;
    coming = told.coming;
    stands = told.stands;
    fills = told.fills;
    left = told.left;
    key = told.key;
    bound = λ fills x k follows. told.bound fills x (in_filter test x xs k).0 follows;
  };
}

-- what comes for it is dropped
record WasBound (id : ℕ) (es : List Exchange) (d : Exchange) : Type 0 where
  was : Exchange
  there : IsIn was es
  number : d.number ≡ was.number
  fills : filled_of d ≡ filled_of was
  asker : d.asker ≡ was.asker
  place : d.place ≡ was.place
  asked : d.asked ≡ was.asked
  key : d.key ≡ was.key
  left : d.body_left ≡ was.body_left
  headed : is_headed d ≡ is_headed was
  bound : (to : Bound) → bound_of was ≡ Some to → (to.instance ≡ id → ⊥) → IsBoundTo to.instance d

was_bound : (id : ℕ) (es : List Exchange) (d : Exchange) → IsIn d (change (brings_to id) dropping_body es) → WasBound id es d
was_bound id es d i = by (in_change (brings_to id) dropping_body d es i)
  where
    headed_by : (e : Exchange) (body : Body) → e.body ≡ body → is_some_with (λ b. b.instance == id) (bound_in body) ≡ true → is_headed e ≡ true
    headed_by e Pending is at = absurd (cc at)
    headed_by e Relaying is at = absurd (cc at)
    headed_by e Dropping is at = absurd (cc at)
    headed_by e (Joining b) is at = ap (λ (x : Body). not (is_pending x)) is

    its : (e : Exchange) (to : Bound) → brings_to id e ≡ true → bound_of e ≡ Some to → to.instance ≡ id
    its e to hit is = same_number to.instance id (sym (ap (λ (o : Option Bound). is_some_with (λ b. b.instance == id) o) is) ∙ hit)

    by : Changed (brings_to id) dropping_body es d → WasBound id es d
    by (same j isnt) = record { was = d; there = j; number = refl; fills = refl; asker = refl; place = refl; asked = refl; key = refl; left = refl; headed = refl; bound = λ to is off. record { to = to; is = is; instance = refl } }
    by (other e j hit eq) = record {
      was = e;
      there = j;
      number = ap (λ (x : Exchange). x.number) eq;
      fills = ap filled_of eq;
      asker = ap (λ (x : Exchange). x.asker) eq;
      place = ap (λ (x : Exchange). x.place) eq;
      asked = ap (λ (x : Exchange). x.asked) eq;
      key = ap (λ (x : Exchange). x.key) eq;
      left = ap (λ (x : Exchange). x.body_left) eq;
      headed = ap is_headed eq ∙ sym (headed_by e e.body refl hit);
      bound = λ to is off. absurd (off (its e to hit is));
    }

pub row_out : {late : Bool} (id : ℕ) (cs : List Client) (es : List Exchange) (next : ℕ) (xs : List Instance) (next_row : ℕ) → Facts late None cs es next xs next_row → Facts late None cs (change (brings_to id) dropping_body es) next (filter (λ x. not (is_instance id x)) xs) next_row
row_out {late} id cs es next xs next_row whole = record {
  callers = h.callers;
  apart = apart_mapped (changed_at (brings_to id) dropping_body) es (λ d i. number_by d (brings_to id d)) h.apart;
  given = λ d i. let r = was_bound id es d i in subst (λ n. n < next) (sym r.number) (h.given r.was r.there);
  one = λ d x n i j di xj. let p = was_bound id es d i in let r = was_bound id es x j in p.number ∙ h.one p.was r.was n p.there r.there (sym p.asker ∙ di) (sym r.asker ∙ xj) ∙ sym r.number;
  fresh = λ d i none. let r = was_bound id es d i in r.asked ∙ h.fresh r.was r.there (sym r.place ∙ none);
  headed = λ d i is none. let r = was_bound id es d i in h.headed r.was r.there (sym r.headed ∙ is) (sym r.place ∙ none);
  placeless = λ d i counts nowhere nobody. let r = was_bound id es d i in h.placeless r.was r.there (counts_on late d r.was r.fills counts) (sym r.place ∙ nowhere) (sym r.asker ∙ nobody);
  rowed = h.rowed;
  settled = h.settled;
  told = λ d n c i j asks is off. let r = was_bound id es d i in told_by d c r (h.told r.was n c r.there j (sym r.asker ∙ asks) is off);
}
  where
    left : List Instance
    left = filter (λ x. not (is_instance id x)) xs

    h : Facts late None cs es next (filter (λ x. not (is_instance id x)) xs) next_row
    h = fewer_rows (λ x. not (is_instance id x)) cs es next xs next_row whole

    number_by : (d : Exchange) (t : Bool) → (elim t as (λ x. Exchange) [ true ↦ dropping_body d | false ↦ d ]).number ≡ d.number
    number_by d true = refl
    number_by d false = refl

    apart_from : (x : Instance) (n : ℕ) → IsIn x (filter (λ y. not (is_instance id y)) xs) → n ≡ x.id → n ≡ id → ⊥
    apart_from x n i is its =
        let hit : is_instance id x ≡ true = ap (λ (m : ℕ). m == id) (sym is ∙ its) ∙ number_same id in
        let both : false ≡ true = sym (ap not hit) ∙ (in_filter (λ y. not (is_instance id y)) x xs i).1 in
        cc both

    told_by : (d : Exchange) (c : Client) (r : WasBound id es d) → IsTold (filter (λ x. not (is_instance id x)) xs) r.was c → IsTold (filter (λ x. not (is_instance id x)) xs) d c
    told_by d c r told = record {
      waits = λ fills off. told.waits (sym r.fills ∙ fills) (sym r.headed ∙ off);
      untold = λ off. told.untold (sym r.headed ∙ off);
      coming = told.coming;
      stands = told.stands;
      fills = λ v is. told.fills v (sym r.fills ∙ is);
      left = subst (λ n. n ≤ c.body_left) (sym r.left) told.left;
      key = told.key ∙ ap (λ k. Some k) (sym r.key);
      bound = λ fills x k follows. (
          let b = told.bound (sym r.fills ∙ fills) x k follows in
          let to = r.bound b.to b.is (apart_from x b.to.instance k b.instance) in
          record { to = to.to; is = to.is; instance = to.instance ∙ b.instance });
    }
