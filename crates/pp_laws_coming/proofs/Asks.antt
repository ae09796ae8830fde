-- Which changes of exchanges keep it.
use Rattle.std.proofs.Common.{◌≡◌, refl, ℕ, ◌<◌, Bool, true, false, List, map, filter, Option, Some, None, ◌≤◌, inl, inr, sym, subst, ap, ◌∙◌, le_refl, le_trans}
use Rattle.pp_law.specs.Stages.{bound_of, filled_of, is_headed}
use Rattle.pp_law.specs.State.{Bound, Client, Exchange, Instance}
use Rattle.pp_laws.specs.Runs.{IsIn}
use Rattle.pp_laws.proofs.Lists.{in_filter, in_map}
use Rattle.pp_laws_coming.proofs.Facts.{AreApart, AreFollowers, Counts, Facts, IsBoundTo, IsTold}

-- ---- exchanges

-- its body belongs to what it did
abbrev pub BoundOn : Exchange → Exchange → Type 0
BoundOn d e = (to : Bound) → bound_of e ≡ Some to → IsBoundTo to.instance d

pub same_bound : (d e : Exchange) → bound_of d ≡ bound_of e → BoundOn d e
same_bound d e alike to is = record { to = to; is = alike ∙ is; instance = refl }

-- it was there, as far as this counts: for nobody else, headed where it was, and at its place
pub record FromAsk (es : List Exchange) (e : Exchange) : Type 0 where
  pub was : Exchange
  pub there : IsIn was es
  pub number : e.number ≡ was.number
  pub fills : filled_of e ≡ filled_of was
  pub asker : (n : ℕ) → e.asker ≡ Some n → was.asker ≡ Some n
  pub headed : is_headed e ≡ is_headed was
  pub placed : is_headed was ≡ true → (was.place ≡ None → ⊥) → e.place ≡ None → ⊥
  pub asked : (was.place ≡ None → was.asked ≡ 0) → e.place ≡ None → e.asked ≡ 0
  pub key : e.key ≡ was.key
  pub left : e.body_left ≤ was.body_left
  pub bound : BoundOn e was

told_from : (xs : List Instance) (es : List Exchange) (e : Exchange) (c : Client) → (r : FromAsk es e) → IsTold xs r.was c → IsTold xs e c
told_from xs es e c r told = record {
  waits = λ fills off. told.waits (sym r.fills ∙ fills) (sym r.headed ∙ off);
  untold = λ off. told.untold (sym r.headed ∙ off);
  coming = told.coming;
  stands = told.stands;
  fills = λ v is. told.fills v (sym r.fills ∙ is);
  left = le_trans r.left told.left;
  key = told.key ∙ ap (λ k. Some k) (sym r.key);
  bound = λ fills x i follows. (
      let b = told.bound (sym r.fills ∙ fills) x i follows in
      let d = r.bound b.to b.is in
      record { to = d.to; is = d.is; instance = d.instance ∙ b.instance });
}

pub fewer_come : {late : Bool} (but : Option ℕ) (cs : List Client) (es ys : List Exchange) (next : ℕ) (xs : List Instance) (next_row : ℕ) → ((e : Exchange) → IsIn e ys → FromAsk es e) → AreApart ys → AreFollowers late ys → Facts late but cs es next xs next_row → Facts late but cs ys next xs next_row
fewer_come but cs es ys next xs next_row from apart followers h = record {
  callers = h.callers;
  apart = apart;
  given = λ e i. let r = from e i in subst (λ n. n < next) (sym r.number) (h.given r.was r.there);
  one = λ d e n i j di ej. let p = from d i in let r = from e j in p.number ∙ h.one p.was r.was n p.there r.there (p.asker n di) (r.asker n ej) ∙ sym r.number;
  fresh = λ e i. let r = from e i in r.asked (h.fresh r.was r.there);
  headed = λ e i is. let r = from e i in r.placed (sym r.headed ∙ is) (h.headed r.was r.there (sym r.headed ∙ is));
  placeless = followers;
  rowed = h.rowed;
  settled = h.settled;
  told = λ e n c i j asks is off. let r = from e i in told_from xs es e c r (h.told r.was n c r.there j (r.asker n asks) is off);
}

-- a change of each
pub record SameAsk (late : Bool) (d e : Exchange) : Type 0 where
  pub number : d.number ≡ e.number
  pub fills : filled_of d ≡ filled_of e
  pub asker : (n : ℕ) → d.asker ≡ Some n → e.asker ≡ Some n
  pub headed : is_headed d ≡ is_headed e
  pub placed : is_headed e ≡ true → (e.place ≡ None → ⊥) → d.place ≡ None → ⊥
  pub asked : (e.place ≡ None → e.asked ≡ 0) → d.place ≡ None → d.asked ≡ 0
  pub key : d.key ≡ e.key
  pub left : d.body_left ≤ e.body_left
  pub bound : BoundOn d e
  pub followers : Counts late e → (e.place ≡ None → e.asker ≡ None → ⊥) → d.place ≡ None → d.asker ≡ None → ⊥

pub ask_same : {late : Bool} (e : Exchange) → SameAsk late e e
ask_same e = record { number = refl; fills = refl; asker = λ n is. is; headed = refl; placed = λ is was. was; asked = λ was. was; key = refl; left = le_refl e.body_left; bound = same_bound e e refl; followers = λ counts was. was }

-- where it is what it was but for what is asked of it, and for how far its body is
pub as_it_was : {late : Bool} (d e : Exchange) → d.number ≡ e.number → filled_of d ≡ filled_of e → d.asker ≡ e.asker → is_headed d ≡ is_headed e → d.place ≡ e.place → d.key ≡ e.key → d.body_left ≤ e.body_left → BoundOn d e → ((e.place ≡ None → e.asked ≡ 0) → e.place ≡ None → d.asked ≡ 0) → SameAsk late d e
as_it_was d e number fills asker headed place key left bound asked = record {
  number = number;
  fills = fills;
  asker = λ n is. sym asker ∙ is;
  headed = headed;
  placed = λ is was none. was (sym place ∙ none);
  asked = λ was none. asked was (sym place ∙ none);
  key = key;
  left = left;
  bound = bound;
  followers = λ counts was nowhere nobody. was (sym place ∙ nowhere) (sym asker ∙ nobody);
}

pub ask_if : {late : Bool} (f : Exchange → Exchange) (e : Exchange) (t : Bool) → (t ≡ true → SameAsk late (f e) e) → SameAsk late (elim t as (λ x. Exchange) [ true ↦ f e | false ↦ e ]) e
ask_if f e true kept = kept refl
ask_if f e false kept = ask_same e

pub apart_mapped : (f : Exchange → Exchange) (es : List Exchange) → ((e : Exchange) → IsIn e es → (f e).number ≡ e.number) → AreApart es → AreApart (map f es)
apart_mapped f es number apart d e i j eq =
    let p = in_map f d es i in
    let r = in_map f e es j in
    p.is ∙ ap f (apart p.was r.was p.there r.there (sym (number p.was p.there) ∙ ap (λ (x : Exchange). x.number) (sym p.is) ∙ eq ∙ ap (λ (x : Exchange). x.number) r.is ∙ number r.was r.there)) ∙ sym r.is

pub from_same : (late : Bool) (es : List Exchange) (e d : Exchange) → IsIn e es → SameAsk late d e → FromAsk es d
from_same late es e d i kept = record { was = e; there = i; number = kept.number; fills = kept.fills; asker = kept.asker; headed = kept.headed; placed = kept.placed; asked = kept.asked; key = kept.key; left = kept.left; bound = kept.bound }

pub counts_on : (late : Bool) (d e : Exchange) → filled_of d ≡ filled_of e → Counts late d → Counts late e
counts_on late d e fills (inl is) = inl is
counts_on late d e fills (inr none) = inr (sym fills ∙ none)

pub asks_come : {late : Bool} (but : Option ℕ) (f : Exchange → Exchange) (cs : List Client) (es : List Exchange) (next : ℕ) (xs : List Instance) (next_row : ℕ) → ((e : Exchange) → IsIn e es → SameAsk late (f e) e) → Facts late but cs es next xs next_row → Facts late but cs (map f es) next xs next_row
asks_come {late} but f cs es next xs next_row kept h =
    fewer_come but cs es (map f es) next xs next_row from (apart_mapped f es (λ e i. (kept e i).number) h.apart) followers h
  where
    from : (d : Exchange) → IsIn d (map f es) → FromAsk es d
    from d i = let r = in_map f d es i in subst (λ (x : Exchange). FromAsk es x) (sym r.is) (from_same late es r.was (f r.was) r.there (kept r.was r.there))

    followers : AreFollowers late (map f es)
    followers d i =
        let r = in_map f d es i in
        let k = kept r.was r.there in
        subst (λ (x : Exchange). Counts late x → x.place ≡ None → x.asker ≡ None → ⊥) (sym r.is)
        (λ counts. let was : Counts late r.was = counts_on late (f r.was) r.was k.fills counts in k.followers was (h.placeless r.was r.there was))

pub over_come : {late : Bool} (but : Option ℕ) (test : Exchange → Bool) (cs : List Client) (es : List Exchange) (next : ℕ) (xs : List Instance) (next_row : ℕ) → Facts late but cs es next xs next_row → Facts late but cs (filter test es) next xs next_row
over_come {late} but test cs es next xs next_row h =
    fewer_come but cs es (filter test es) next xs next_row (λ e i. from_same late es e e (in_filter test e es i).0 (ask_same e)) (λ d e i j eq. h.apart d e (in_filter test d es i).0 (in_filter test e es j).0 eq) (λ e i. h.placeless e (in_filter test e es i).0) h

pub early_fills : (e : Exchange) → Counts false e → filled_of e ≡ None
early_fills e (inl is) = absurd (cc is)
early_fills e (inr none) = none
