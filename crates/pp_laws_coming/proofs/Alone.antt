-- Exchanges that their request leaves, and one that begins, keep it.
use Rattle.std.proofs.Common.{◌≡◌, ◌⊎◌, refl, ℕ, ◌+◌, ◌<◌, Bool, true, false, not, ◌==◌, ◌||◌, List, [], ◌∷◌, ◌++◌, filter, is_some, Option, Some, None, inl, inr, sym, subst, ap, ◌∙◌, le_refl, lt_irrefl, arith}
use Rattle.pp_law.specs.Closing.{is_of, is_over, left_alone}
use Rattle.pp_law.specs.Lists.{change, is_this}
use Rattle.pp_law.specs.Stages.{is_headed}
use Rattle.pp_law.specs.State.{Client, Exchange, Instance}
use Rattle.pp_laws.specs.Runs.{IsIn}
use Rattle.pp_laws.proofs.Lists.{Changed, changed_at, in_change, in_filter, in_map, in_push, other, same}
use Rattle.pp_laws.proofs.Tests.{number_same, same_number}
use Rattle.pp_laws_coming.proofs.Asks.{FromAsk, SameAsk, apart_mapped, ask_if, ask_same, asks_come, fewer_come, from_same, same_bound}
use Rattle.pp_laws_coming.proofs.Facts.{AreApart, AreFollowers, Counts, Facts, IsTold}

-- ---- who leaves an exchange

-- it may be nobody's: it has a place, or need not have one yet
abbrev pub MayLeave : Bool → Exchange → Type 0
MayLeave late e = Counts late e → e.place ≡ None → ⊥

alone_same : {late : Bool} (e : Exchange) → MayLeave late e → SameAsk late (left_alone e) e
alone_same e may = record {
  number = refl;
  fills = refl;
  asker = λ n is. absurd (cc is);
  headed = refl;
  placed = λ is was. was;
  asked = λ was. was;
  key = refl;
  left = le_refl e.body_left;
  bound = same_bound _ e refl;
  followers = λ counts was nowhere nobody. may counts nowhere;
}

pub left_come : {late : Bool} (but : Option ℕ) (test : Exchange → Bool) (cs : List Client) (es : List Exchange) (next : ℕ) (xs : List Instance) (next_row : ℕ) → ((e : Exchange) → IsIn e es → test e ≡ true → MayLeave late e) → Facts late but cs es next xs next_row → Facts late but cs (change test left_alone es) next xs next_row
left_come but test cs es next xs next_row may h = asks_come but (changed_at test left_alone) cs es next xs next_row (λ e i. ask_if left_alone e (test e) (λ is. alone_same e (may e i is))) h

left_by : (test : Exchange → Bool) (es : List Exchange) (e : Exchange) → IsIn e es → FromAsk es (changed_at test left_alone e)
left_by test es e i = by (test e)
  where
    by : (t : Bool) → FromAsk es (elim t as (λ x. Exchange) [ true ↦ left_alone e | false ↦ e ])
    by true = record { was = e; there = i; number = refl; fills = refl; asker = λ n is. absurd (cc is); headed = refl; placed = λ is was. was; asked = λ was. was; key = refl; left = le_refl e.body_left; bound = same_bound _ e refl }
    by false = from_same false es e e i (ask_same e)

pub from_left : (test : Exchange → Bool) (es : List Exchange) (e : Exchange) → IsIn e (change test left_alone es) → FromAsk es e
from_left test es e i = let r = in_map (changed_at test left_alone) e es i in subst (λ (x : Exchange). FromAsk es x) (sym r.is) (left_by test es r.was r.there)

pub apart_left : (test : Exchange → Bool) (es : List Exchange) → AreApart es → AreApart (change test left_alone es)
apart_left test es apart = apart_mapped (changed_at test left_alone) es (λ e i. by e (test e)) apart
  where
    by : (e : Exchange) (t : Bool) → (elim t as (λ x. Exchange) [ true ↦ left_alone e | false ↦ e ]).number ≡ e.number
    by e true = refl
    by e false = refl

never_over : (o p : Option ℕ) → not (not (is_some o || is_some p)) ≡ true → p ≡ None → o ≡ None → ⊥
never_over None None is nowhere nobody = cc is
never_over (Some n) p is nowhere nobody = cc nobody
never_over None (Some k) is nowhere nobody = cc nowhere

pub followers_left : {late : Bool} (es : List Exchange) → AreFollowers late (filter (λ e. not (is_over e)) es)
followers_left es e i counts nowhere nobody = never_over e.asker e.place (in_filter (λ x. not (is_over x)) e es i).1 nowhere nobody

pub leave_come : {late : Bool} (but : Option ℕ) (test : Exchange → Bool) (cs : List Client) (es : List Exchange) (next : ℕ) (xs : List Instance) (next_row : ℕ) → Facts late but cs es next xs next_row → Facts late but cs (filter (λ e. not (is_over e)) (change test left_alone es)) next xs next_row
leave_come but test cs es next xs next_row h =
    fewer_come but cs es (filter (λ e. not (is_over e)) (change test left_alone es)) next xs next_row (λ e i. from_left test es e (in_filter (λ x. not (is_over x)) e (change test left_alone es) i).0)
    (λ d e i j eq. apart_left test es h.apart d e (in_filter (λ x. not (is_over x)) d (change test left_alone es) i).0 (in_filter (λ x. not (is_over x)) e (change test left_alone es) j).0 eq) (followers_left (change test left_alone es)) h

-- ---- all count again

is_its : (n : ℕ) (o : Option ℕ) → is_this n o ≡ true → o ≡ Some n
is_its n None is = absurd (cc is)
is_its n (Some m) is = ap (λ k. Some k) (same_number m n is)

-- where none is that client's
abbrev pub NoneIsOf : ℕ → List Exchange → Type 0
NoneIsOf n es = (e : Exchange) → IsIn e es → e.asker ≡ Some n → ⊥

-- where what is told of those that it has is so still
pub all_told : {late : Bool} (n : ℕ) (cs : List Client) (es : List Exchange) (next : ℕ) (xs : List Instance) (next_row : ℕ) → ((e : Exchange) (c : Client) → IsIn e es → IsIn c cs → e.asker ≡ Some n → c.number ≡ n → IsTold xs e c) → Facts late (Some n) cs es next xs next_row → Facts late None cs es next xs next_row
all_told n cs es next xs next_row told h = record {
  callers = h.callers;
  apart = h.apart;
  given = h.given;
  one = h.one;
  fresh = h.fresh;
  headed = h.headed;
  placeless = h.placeless;
  rowed = h.rowed;
  settled = h.settled;
  told = λ e m c i j asks is off. by e m c i j asks is (m == n) refl;
}
  where
    by : (e : Exchange) (m : ℕ) (c : Client) → IsIn e es → IsIn c cs → e.asker ≡ Some m → c.number ≡ m → (t : Bool) → (m == n) ≡ t → IsTold xs e c
    by e m c i j asks is true its = let eq : m ≡ n = same_number m n its in told e c i j (asks ∙ ap (λ k. Some k) eq) (is ∙ eq)
    by e m c i j asks is false off = h.told e m c i j asks is (λ eq. let back : n ≡ m = cc eq in let both : true ≡ false = sym (number_same n) ∙ ap (λ k. k == n) back ∙ off in cc both)

pub all_count : {late : Bool} (n : ℕ) (cs : List Client) (es : List Exchange) (next : ℕ) (xs : List Instance) (next_row : ℕ) → NoneIsOf n es → Facts late (Some n) cs es next xs next_row → Facts late None cs es next xs next_row
all_count n cs es next xs next_row none h = all_told n cs es next xs next_row (λ e c i j asks is. absurd (none e i asks)) h

pub none_is_of : (n : ℕ) (es : List Exchange) → NoneIsOf n (change (is_of n) left_alone es)
none_is_of n es e i is = by (in_change (is_of n) left_alone e es i)
  where
    by : Changed (is_of n) left_alone es e → ⊥
    by (same j isnt) = let both : true ≡ false = sym (ap (is_this n) is ∙ number_same n) ∙ isnt in cc both
    by (other x j hit eq) = let both : None ≡ Some n = sym (ap (λ (y : Exchange). y.asker) eq) ∙ is in cc both

-- ---- one begins

pub push_come : {late : Bool} (cs : List Client) (es : List Exchange) (e : Exchange) (next n : ℕ) (xs : List Instance) (next_row : ℕ) → e.number ≡ next → e.place ≡ None → e.asked ≡ 0 → is_headed e ≡ false → e.asker ≡ Some n → NoneIsOf n es → ((c : Client) → IsIn c cs → c.number ≡ n → IsTold xs e c) → Facts late None cs es next xs next_row
    → Facts late None cs (es ++ e ∷ []) (next + 1) xs next_row
push_come {late} cs es e next n xs next_row number place asked unheaded asks none told h = record {
  callers = h.callers;
  apart = λ d f i j eq. apart_by d f (in_push d es e i) (in_push f es e j) eq;
  given = λ d i. given_by d (in_push d es e i);
  one = λ d f m i j di fj. one_by d f m (in_push d es e i) (in_push f es e j) di fj;
  fresh = λ d i nowhere. fresh_by d (in_push d es e i) nowhere;
  headed = λ d i is nowhere. headed_by d (in_push d es e i) is nowhere;
  placeless = λ d i counts nowhere nobody. placeless_by d (in_push d es e i) counts nowhere nobody;
  rowed = h.rowed;
  settled = h.settled;
  told = λ d m c i j its is off. told_by d m c (in_push d es e i) j its is;
}
  where
    never : (d : Exchange) → IsIn d es → d.number ≡ next → ⊥
    never d i is = lt_irrefl next (subst (λ m. m < next) is (h.given d i))

    last : (d : Exchange) → d ≡ e → d.number ≡ next
    last d eq = ap (λ (x : Exchange). x.number) eq ∙ number

    apart_by : (d f : Exchange) → IsIn d es ⊎ (d ≡ e) → IsIn f es ⊎ (f ≡ e) → d.number ≡ f.number → d ≡ f
    apart_by d f (inl i) (inl j) eq = h.apart d f i j eq
    apart_by d f (inl i) (inr is) eq = absurd (never d i (eq ∙ last f is))
    apart_by d f (inr is) (inl j) eq = absurd (never f j (sym eq ∙ last d is))
    apart_by d f (inr is) (inr too) eq = is ∙ sym too

    given_by : (d : Exchange) → IsIn d es ⊎ (d ≡ e) → d.number < next + 1
    given_by d (inl i) = let lt : d.number < next = h.given d i in omega arith
    given_by d (inr is) = let at : d.number ≡ next = last d is in omega arith

    its_asker : (d : Exchange) (m : ℕ) → d ≡ e → d.asker ≡ Some m → n ≡ m
    its_asker d m eq is = let both : Some n ≡ Some m = sym asks ∙ ap (λ (x : Exchange). x.asker) (sym eq) ∙ is in cc both

    one_by : (d f : Exchange) (m : ℕ) → IsIn d es ⊎ (d ≡ e) → IsIn f es ⊎ (f ≡ e) → d.asker ≡ Some m → f.asker ≡ Some m → d.number ≡ f.number
    one_by d f m (inl i) (inl j) di fj = h.one d f m i j di fj
    one_by d f m (inl i) (inr is) di fj = absurd (none d i (di ∙ ap (λ k. Some k) (sym (its_asker f m is fj))))
    one_by d f m (inr is) (inl j) di fj = absurd (none f j (fj ∙ ap (λ k. Some k) (sym (its_asker d m is di))))
    one_by d f m (inr is) (inr too) di fj = ap (λ (x : Exchange). x.number) (is ∙ sym too)

    fresh_by : (d : Exchange) → IsIn d es ⊎ (d ≡ e) → d.place ≡ None → d.asked ≡ 0
    fresh_by d (inl i) nowhere = h.fresh d i nowhere
    fresh_by d (inr is) nowhere = ap (λ (x : Exchange). x.asked) is ∙ asked

    headed_by : (d : Exchange) → IsIn d es ⊎ (d ≡ e) → is_headed d ≡ true → d.place ≡ None → ⊥
    headed_by d (inl i) is nowhere = h.headed d i is nowhere
    headed_by d (inr eq) is nowhere = let both : true ≡ false = sym is ∙ ap is_headed eq ∙ unheaded in cc both

    placeless_by : (d : Exchange) → IsIn d es ⊎ (d ≡ e) → Counts late d → d.place ≡ None → d.asker ≡ None → ⊥
    placeless_by d (inl i) counts nowhere nobody = h.placeless d i counts nowhere nobody
    placeless_by d (inr eq) counts nowhere nobody = let both : None ≡ Some n = sym nobody ∙ ap (λ (x : Exchange). x.asker) eq ∙ asks in cc both

    told_by : (d : Exchange) (m : ℕ) (c : Client) → IsIn d es ⊎ (d ≡ e) → IsIn c cs → d.asker ≡ Some m → c.number ≡ m → IsTold xs d c
    told_by d m c (inl i) j its is = h.told d m c i j its is (λ no. cc no)
    told_by d m c (inr eq) j its is = subst (λ (x : Exchange). IsTold xs x c) (sym eq) (told c j (is ∙ sym (its_asker d m eq its)))
