-- What each step of the law keeps of exchanges: each request that is there has one at most, and few have no place.
use Rattle.std.proofs.Common.{◌≡◌, ◌⊎◌, refl, ℕ, ◌+◌, ◌<◌, ◌≤◌, Bool, true, false, not, ◌==◌, ◌&&◌, ◌||◌, List, [], ◌∷◌, ◌++◌, map, filter, find, cond, length, is_some, Option, Some, None, inl, inr, sym, subst, ap, ap₂, ◌∙◌, le_refl, le_trans, arith}
use Rattle.std.specs.List.{list_any}
use Rattle.std.proofs.lemmas.List.{map-append}
use Rattle.pp_law.specs.Closing.{forsake, is_of, is_over, leave, left_alone}
use Rattle.pp_law.specs.Connections.{client, exchange, is_exchange, is_for, is_trying, may_ask_again, on_conn, on_exchange, put_on, unplaced}
use Rattle.pp_law.specs.Deciding.{add_exchange, begin_exchange}
use Rattle.pp_law.specs.Lists.{change, is_some_with, is_this}
use Rattle.pp_law.specs.State.{State, Client, Exchange}
use Rattle.pp_laws.specs.Numbers.{AreDistinct, AreRising}
use Rattle.pp_laws.specs.Runs.{IsIn}
use Rattle.pp_laws.proofs.Lists.{Changed, From, changed_at, in_change, in_filter, in_find, in_map, in_push, map_kept, one_of, other, rise_change, rise_filter, rise_map, rise_push, same}
use Rattle.pp_laws.proofs.Sound.{client_number, exchange_number}
use Rattle.pp_laws.proofs.Tests.{number_same, same_number}
use Rattle.pp_laws_bounds.proofs.Counts.{count-filter, count-map, length-map}
use Rattle.pp_laws_bounds.proofs.Pigeons.{pigeons, rise_differ}
use Rattle.pp_laws_pool.proofs.View.{View, Walk, Places, Begins, Holds, holds, facts_of, view, IsNew, SameAsk}
use Rattle.pp_laws_asks.specs.Asks.{is_waiting}

pub record Facts (clients : List Client) (exchanges : List Exchange) (next_exchange : ℕ) : Type 0 where
  pub few_clients : length clients ≤ 256
  pub rise : AreRising (map exchange_number exchanges)
  pub given : (e : Exchange) → IsIn e exchanges → e.number < next_exchange
  pub one : (d e : Exchange) (c : ℕ) → IsIn d exchanges → IsIn e exchanges → d.asker ≡ Some c → e.asker ≡ Some c → d.number ≡ e.number
  pub theirs : (e : Exchange) (c : ℕ) → IsIn e exchanges → e.asker ≡ Some c → IsIn c (map client_number clients)
  pub few : length (filter is_waiting exchanges) ≤ 256

abbrev pub Asks : View → Type 0
Asks v = Facts v.clients v.exchanges v.next_exchange

-- ---- fewer, or less

more_counted : {A : Type 0} (x y : A) (xs ys : List A) (t u : Bool) → (t ≡ true → u ≡ true) → length xs ≤ length ys → length (cond t (x ∷ xs) xs) ≤ length (cond u (y ∷ ys) ys)
more_counted x y xs ys true true is le = omega arith
more_counted x y xs ys true false is le = let both : false ≡ true = is refl in absurd (cc both)
more_counted x y xs ys false true is le = omega arith
more_counted x y xs ys false false is le = le

count-less : {A : Type 0} (p : A → Bool) (f : A → A) (xs : List A) → ((x : A) → IsIn x xs → p (f x) ≡ true → p x ≡ true) → length (filter p (map f xs)) ≤ length (filter p xs)
count-less p f [] less = le_refl 0
count-less p f (x ∷ xs) less = more_counted (f x) x (filter p (map f xs)) (filter p xs) (p (f x)) (p x) (less x (inl refl)) (count-less p f xs (λ y i. less y (inr i)))

-- each as it was, or with less
abbrev FromBefore : (Exchange → Exchange) → Exchange → Type 0
FromBefore f e = ((f e).number ≡ e.number) × ((c : ℕ) → (f e).asker ≡ Some c → e.asker ≡ Some c)

mapped : (v : View) (f : Exchange → Exchange) → ((e : Exchange) → FromBefore f e) → ((e : Exchange) → IsIn e v.exchanges → is_waiting (f e) ≡ true → is_waiting e ≡ true) → Asks v → Asks (record v { exchanges = map f v.exchanges })
mapped v f from less h = record {
  few_clients = h.few_clients;
  rise = rise_map exchange_number f (λ e. (from e).0) v.exchanges h.rise;
  given = λ e i. let r = in_map f e v.exchanges i in subst (λ n. n < v.next_exchange) (sym (ap exchange_number r.is ∙ (from r.was).0)) (h.given r.was r.there);
  one = λ d e c i j di ei.
      let p = in_map f d v.exchanges i in
      let r = in_map f e v.exchanges j in
      ap exchange_number p.is ∙ (from p.was).0 ∙ h.one p.was r.was c p.there r.there ((from p.was).1 c (sym (ap (λ (x : Exchange). x.asker) p.is) ∙ di)) ((from r.was).1 c (sym (ap (λ (x : Exchange). x.asker) r.is) ∙ ei)) ∙ sym (ap exchange_number r.is ∙ (from r.was).0);
  theirs = λ e c i ei. let r = in_map f e v.exchanges i in h.theirs r.was c r.there ((from r.was).1 c (sym (ap (λ (x : Exchange). x.asker) r.is) ∙ ei));
  few = le_trans (count-less is_waiting f v.exchanges less) h.few;
}

filtered : (v : View) (p : Exchange → Bool) → Asks v → Asks (record v { exchanges = filter p v.exchanges })
filtered v p h = record {
  few_clients = h.few_clients;
  rise = rise_filter exchange_number p v.exchanges h.rise;
  given = λ e i. h.given e (in_filter p e v.exchanges i).0;
  one = λ d e c i j. h.one d e c (in_filter p d v.exchanges i).0 (in_filter p e v.exchanges j).0;
  theirs = λ e c i. h.theirs e c (in_filter p e v.exchanges i).0;
  few = le_trans (count-filter is_waiting p v.exchanges) h.few;
}

-- ---- those that are changed, and those that are not

changed_from : (f : Exchange → Exchange) (e : Exchange) (t : Bool) → FromBefore f e → FromBefore (λ x. elim t [ true ↦ f x | false ↦ x ]) e
changed_from f e true from = from
changed_from f e false from = (refl, λ c is. is)

changed_less : (f : Exchange → Exchange) (e : Exchange) (t : Bool) → (is_waiting (f e) ≡ true → is_waiting e ≡ true) → is_waiting (elim t as (λ c. Exchange) [ true ↦ f e | false ↦ e ]) ≡ true → is_waiting e ≡ true
changed_less f e true less is = less is
changed_less f e false less is = is

changed : (v : View) (test : Exchange → Bool) (f : Exchange → Exchange) → ((e : Exchange) → FromBefore f e) → ((e : Exchange) → IsIn e v.exchanges → test e ≡ true → is_waiting (f e) ≡ true → is_waiting e ≡ true) → Asks v → Asks (record v { exchanges = change test f v.exchanges })
changed v test f from less h = mapped v (changed_at test f) (λ e. changed_from f e (test e) (from e)) (λ e i. by e i (test e) refl) h
  where
    by : (e : Exchange) → IsIn e v.exchanges → (t : Bool) → test e ≡ t → is_waiting (elim t as (λ c. Exchange) [ true ↦ f e | false ↦ e ]) ≡ true → is_waiting e ≡ true
    by e i true hit is = less e i hit is
    by e i false miss is = is

-- one that has an asker waits, and one without a place
asked_waits : (e : Exchange) (c : ℕ) → e.asker ≡ Some c → is_waiting e ≡ true
asked_waits e c is = ap (λ o. is_some o || not (is_some e.place)) is

left_less : (e : Exchange) → is_waiting (left_alone e) ≡ true → is_waiting e ≡ true
left_less e is = by (is_some e.asker) (not (is_some e.place)) is
  where
    by : (t u : Bool) → u ≡ true → (t || u) ≡ true
    by true u is = refl
    by false u is = is

same_waits : (d e : Exchange) → SameAsk d e → is_waiting d ≡ true → is_waiting e ≡ true
same_waits d e s is = ap₂ (λ (o p : Option ℕ). is_some o || not (is_some p)) (sym s.asker) (sym s.place) ∙ is

-- ---- it is asked again for the request that waits for it

may_again : (n : ℕ) (s : State) → may_ask_again s n ≡ true → (e : Exchange) × (exchange s n ≡ Some e) × (list_any (λ c. is_for e c && is_trying c.course) s.clients ≡ true)
may_again n s is = by (exchange s n) refl is
  where
    by : (o : Option Exchange) → exchange s n ≡ o → is_some_with (λ e. list_any (λ c. is_for e c && is_trying c.course) s.clients) o ≡ true → (e : Exchange) × (exchange s n ≡ Some e) × (list_any (λ c. is_for e c && is_trying c.course) s.clients ≡ true)
    by None none at = absurd (cc at)
    by (Some e) some at = (e, some, at)

somebody : (e : Exchange) (cs : List Client) → list_any (λ c. is_for e c && is_trying c.course) cs ≡ true → is_some e.asker ≡ true
somebody e [] is = absurd (cc is)
somebody e (c ∷ cs) is = by e.asker refl is (somebody e cs)
  where
    by : (o : Option ℕ) → e.asker ≡ o → ((is_this c.number o && is_trying c.course) || list_any (λ d. is_for e d && is_trying d.course) cs) ≡ true → (list_any (λ d. is_for e d && is_trying d.course) cs ≡ true → is_some e.asker ≡ true) → is_some o ≡ true
    by None none at rest = sym (ap is_some none) ∙ rest at
    by (Some n) some at rest = refl

again : (n : ℕ) (s : State) → may_ask_again s n ≡ true → Asks (view s) → Asks (view (on_exchange n unplaced s))
unfolding on_exchange
again n s may h = changed (view s) (is_exchange n) unplaced (λ e. (refl, λ c is. is)) less h
  where
    less : (e : Exchange) → IsIn e s.exchanges → is_exchange n e ≡ true → is_waiting (unplaced e) ≡ true → is_waiting e ≡ true
    less e i hit is =
        let w = may_again n s may in
        let there = in_find (is_exchange n) w.0 s.exchanges w.1 in
        let one : w.0 ≡ e = one_of exchange_number s.exchanges w.0 e h.rise there.0 i (same_number w.0.number n there.1 ∙ sym (same_number e.number n hit)) in
        ap (λ t. t || not (is_some e.place)) (subst (λ (x : Exchange). is_some x.asker ≡ true) one (somebody w.0 s.clients w.2))

-- ---- it gets a place

placed : (n k : ℕ) (s : State) → Asks (view s) → Asks (view (put_on n k s))
unfolding put_on on_conn on_exchange
placed n k s h = changed (view s) (is_exchange n) (λ e. record e { place = Some k; asked = 0 }) (λ e. (refl, λ c is. is)) (λ e i hit is. less (is_some e.asker) (not (is_some e.place)) is) h
  where
    less : (t u : Bool) → (t || false) ≡ true → (t || u) ≡ true
    less true u is = refl
    less false u is = absurd (cc is)

-- ---- it begins

in_map_of : {A B : Type 0} (f : A → B) (n : B) (xs : List A) → IsIn n (map f xs) → (x : A) × IsIn x xs × (n ≡ f x)
in_map_of f n xs i = let r = in_map f n xs i in (r.was, r.there, r.is)

-- where each waits for a request of its own, there are no more than requests
pub few_by_clients : (clients : List Client) (exchanges : List Exchange) → AreRising (map exchange_number exchanges)
    → ((d e : Exchange) (c : ℕ) → IsIn d exchanges → IsIn e exchanges → d.asker ≡ Some c → e.asker ≡ Some c → d.number ≡ e.number)
    → ((e : Exchange) → IsIn e exchanges → is_waiting e ≡ true → (c : Client) × IsIn c clients × (e.asker ≡ Some c.number))
    → length (filter is_waiting exchanges) ≤ length clients
few_by_clients clients exchanges rise one each = pigeons exchange_number key is_waiting exchanges clients (rise_differ (map exchange_number exchanges) rise) theirs
  where
    key : Client → Option ℕ
    key c = elim (find (is_of c.number) exchanges) [ None ↦ None | Some e ↦ Some e.number ]

    is_its : (n : ℕ) (e : Exchange) → is_of n e ≡ true → e.asker ≡ Some n
    is_its n e is = by e.asker is
      where
        by : (o : Option ℕ) → is_this n o ≡ true → o ≡ Some n
        by None at = absurd (cc at)
        by (Some m) at = ap (λ k. Some k) (same_number m n at)

    found : (ys : List Exchange) (e : Exchange) (n : ℕ) → IsIn e ys → e.asker ≡ Some n → (d : Exchange) × IsIn d ys × (d.asker ≡ Some n) × (find (is_of n) ys ≡ Some d)
    found [] e n i is = absurd i
    found (y ∷ ys) e n i is = by (is_of n y) refl i (λ j. found ys e n j is)
      where
        its : (o : Option ℕ) → o ≡ Some n → is_this n o ≡ true
        its o e = ap (is_this n) e ∙ number_same n

        by : (t : Bool) → is_of n y ≡ t → (e ≡ y) ⊎ IsIn e ys → (IsIn e ys → (d : Exchange) × IsIn d ys × (d.asker ≡ Some n) × (find (is_of n) ys ≡ Some d)) → (d : Exchange) × IsIn d (y ∷ ys) × (d.asker ≡ Some n) × (cond t (Some y) (find (is_of n) ys) ≡ Some d)
        by true hit j rest = (y, inl refl, is_its_one y hit, refl)
          where
            is_its_one : (z : Exchange) → is_this n z.asker ≡ true → z.asker ≡ Some n
            is_its_one z at = of z.asker at
              where
                of : (o : Option ℕ) → is_this n o ≡ true → o ≡ Some n
                of None none = absurd (cc none)
                of (Some m) some = ap (λ k. Some k) (same_number m n some)
        by false miss (inl eq) rest = let both : true ≡ false = sym (its y.asker (sym (ap (λ (x : Exchange). x.asker) eq) ∙ is)) ∙ miss in absurd (cc both)
        by false miss (inr j) rest = let r = rest j in (r.0, inr r.1, r.2, r.3)

    theirs : (e : Exchange) → IsIn e exchanges → is_waiting e ≡ true → (c : Client) × IsIn c clients × (key c ≡ Some e.number)
    theirs e i is =
        let w = each e i is in
        let r = found exchanges e w.0.number i w.2 in
        (w.0, w.1, ap (λ (o : Option Exchange). elim o [ None ↦ None | Some d ↦ Some d.number ]) r.3 ∙ ap (λ n. Some n) (one r.0 e w.0.number r.1 i r.2 w.2))

-- none of those that were left stands for nobody
over_or_asked : (e : Exchange) → not (is_over e) ≡ true → is_waiting e ≡ true → (c : ℕ) × (e.asker ≡ Some c)
over_or_asked e stays is = by e.asker (is_some e.place) refl stays is
  where
    by : (o : Option ℕ) (p : Bool) → e.asker ≡ o → not (not (is_some o || p)) ≡ true → (is_some o || not p) ≡ true → (c : ℕ) × (e.asker ≡ Some c)
    by (Some c) p is at waits = (c, is)
    by None true is at waits = absurd (cc waits)
    by None false is at waits = absurd (cc at)

begun : (e : Exchange) (s : State) → IsNew e s.clients s.next_exchange → Asks (view s) → Asks (view (begin_exchange e s))
unfolding begin_exchange add_exchange leave forsake
begun e s is_new h = record {
  few_clients = h.few_clients;
  rise = rise_new;
  given = λ d i. given_by d (in_push d rest e i);
  one = one_new;
  theirs = λ d c i is. theirs_by d c (in_push d rest e i) is;
  few = le_trans (few_by_clients s.clients (rest ++ e ∷ []) rise_new one_new (λ d i is. waits d (in_push d rest e i) is)) h.few_clients;
}
  where
    test : Exchange → Bool
    test x = is_some_with (λ n. is_of n x) e.asker

    rest : List Exchange
    rest = filter (λ d. not (is_over d)) (change test left_alone s.exchanges)

    less : Asks (record (view s) { exchanges = rest })
    less = filtered (record (view s) { exchanges = change test left_alone s.exchanges }) (λ d. not (is_over d)) (changed (view s) test left_alone (λ d. (refl, λ c is. absurd (cc is))) (λ d i hit is. left_less d is) h)

    rise_new : AreRising (map exchange_number (rest ++ e ∷ []))
    rise_new = rise_push exchange_number rest e less.rise (λ d i. subst (λ n. d.number < n) (sym is_new.number) (less.given d i))

    given_by : (d : Exchange) → IsIn d rest ⊎ (d ≡ e) → d.number < s.next_exchange + 1
    given_by d (inl i) = let lt : d.number < s.next_exchange = less.given d i in omega arith
    given_by d (inr eq) = let number : d.number ≡ s.next_exchange = ap exchange_number eq ∙ is_new.number in omega arith

    -- no other is for that request
    none_left : (d : Exchange) → IsIn d rest → d.asker ≡ Some is_new.asker → ⊥
    none_left d i is = by (in_change test left_alone d s.exchanges (in_filter (λ x. not (is_over x)) d (change test left_alone s.exchanges) i).0)
      where
        its : test d ≡ true
        its = ap (is_some_with (λ n. is_of n d)) is_new.is ∙ ap (is_this is_new.asker) is ∙ number_same is_new.asker

        by : Changed test left_alone s.exchanges d → ⊥
        by (same j isnt) = let both : true ≡ false = sym its ∙ isnt in cc both
        by (other x j hit eq) = let both : None ≡ Some is_new.asker = sym (ap (λ (y : Exchange). y.asker) eq) ∙ is in cc both

    same_in : {c k : ℕ} → Some c ≡ Some k → c ≡ k
    same_in e = cc e

    one_by : (d f : Exchange) (c : ℕ) → IsIn d rest ⊎ (d ≡ e) → IsIn f rest ⊎ (f ≡ e) → d.asker ≡ Some c → f.asker ≡ Some c → d.number ≡ f.number
    one_by d f c (inl i) (inl j) di fi = less.one d f c i j di fi
    one_by d f c (inl i) (inr eq) di fi = let c_is : c ≡ is_new.asker = same_in (sym fi ∙ ap (λ (x : Exchange). x.asker) eq ∙ is_new.is) in absurd (none_left d i (di ∙ ap (λ n. Some n) c_is))
    one_by d f c (inr eq) (inl j) di fi = let c_is : c ≡ is_new.asker = same_in (sym di ∙ ap (λ (x : Exchange). x.asker) eq ∙ is_new.is) in absurd (none_left f j (fi ∙ ap (λ n. Some n) c_is))
    one_by d f c (inr eq) (inr eq2) di fi = ap exchange_number (eq ∙ sym eq2)

    one_new : (d f : Exchange) (c : ℕ) → IsIn d (rest ++ e ∷ []) → IsIn f (rest ++ e ∷ []) → d.asker ≡ Some c → f.asker ≡ Some c → d.number ≡ f.number
    one_new d f c i j = one_by d f c (in_push d rest e i) (in_push f rest e j)

    theirs_by : (d : Exchange) (c : ℕ) → IsIn d rest ⊎ (d ≡ e) → d.asker ≡ Some c → IsIn c (map client_number s.clients)
    theirs_by d c (inl i) is = less.theirs d c i is
    theirs_by d c (inr eq) is = subst (λ n. IsIn n (map client_number s.clients)) (same_in (sym is_new.is ∙ sym (ap (λ (x : Exchange). x.asker) eq) ∙ is)) is_new.there

    caller : (d : Exchange) (c : ℕ) → d.asker ≡ Some c → IsIn c (map client_number s.clients) → (x : Client) × IsIn x s.clients × (d.asker ≡ Some x.number)
    caller d c is i = let w = in_map_of client_number c s.clients i in (w.0, w.1, is ∙ ap (λ n. Some n) w.2)

    waits : (d : Exchange) → IsIn d rest ⊎ (d ≡ e) → is_waiting d ≡ true → (x : Client) × IsIn x s.clients × (d.asker ≡ Some x.number)
    waits d (inl i) is = let w = over_or_asked d (in_filter (λ x. not (is_over x)) d (change test left_alone s.exchanges) i).1 is in caller d w.0 w.1 (less.theirs d w.0 i w.1)
    waits d (inr eq) is = let its : d.asker ≡ Some is_new.asker = ap (λ (x : Exchange). x.asker) eq ∙ is_new.is in caller d is_new.asker its is_new.there

-- ---- all

pub asks_walk : Walk Asks
asks_walk = record {
  clients = λ f kept v h. record {
    few_clients = subst (λ n. n ≤ 256) (sym (length-map f v.clients)) h.few_clients;
    rise = h.rise;
    given = h.given;
    one = h.one;
    theirs = λ e c i is. subst (λ ns. IsIn c ns) (sym (map_kept client_number f kept v.clients)) (h.theirs e c i is);
    few = h.few;
  };
  asks = λ f kept v h. mapped v f (λ e. ((kept e).number, λ c is. sym (kept e).asker ∙ is)) (λ e i is. same_waits (f e) e (kept e) is) h;
  left = λ test v h. changed v test left_alone (λ e. (refl, λ c is. absurd (cc is))) (λ e i hit is. left_less e is) h;
  over = λ test v h. filtered v test h;
  conns = λ f lesser v h. h;
  chunks = λ test v h. h;
  again = again;
}

pub asks_places : Places Asks
asks_places = placed

pub asks_begins : Begins Asks
asks_begins = begun
