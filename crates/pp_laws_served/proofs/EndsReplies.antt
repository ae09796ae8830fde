-- As replies are over nobody is left of whom nothing is left to answer.
use Rattle.std.proofs.Common.{◌≡◌, refl, ℕ, ◌+◌, ◌-◌, ◌<◌, Bool, true, false, not, ◌==◌, ◌&&◌, ◌||◌, List, [], ◌∷◌, map, drop, length, Option, Some, None, inl, inr, sym, subst, ap, ◌∙◌}
use Rattle.pp_law.specs.Closing.{close_client, exchanges_of, is_of, leave_one}
use Rattle.pp_law.specs.Connections.{client, each_client, each_exchange, end_exchange, exchange, is_client, on_client, on_exchange}
use Rattle.pp_law.specs.Lists.{change}
use Rattle.pp_law.specs.Replies.{close_finished, end_replies, end_reply, end_said, is_finished, is_said, next_request}
use Rattle.pp_law.specs.Requests.{NoHeadYet}
use Rattle.pp_law.specs.State.{State, Awaited, Client, Exchange, Trying, Undecided}
use Rattle.pp_law.specs.Table.{swept}
use Rattle.pp_laws.specs.Numbers.{AreRising}
use Rattle.pp_laws.specs.Runs.{IsIn}
use Rattle.pp_laws.proofs.Lists.{Changed, changed_at, in_change, in_find, map_kept, other, rise_change, same}
use Rattle.pp_laws.proofs.Sound.{client_number}
use Rattle.pp_laws.proofs.Tests.{number_same, same_number}
use Rattle.pp_laws_bounds.proofs.Counts.{in_map_of}
use Rattle.pp_laws_turn.proofs.Counts.{find_number}
use Rattle.pp_laws_served.proofs.Heed.{Heeds, facts_of as heeds_of, heeds_same}
use Rattle.pp_laws_served.proofs.HeedAsks.{close_client-heeds, each_client-heeds, forsake-heeds}
use Rattle.pp_laws_served.proofs.HeedRows.{swept-heeds}
use Rattle.pp_laws_served.proofs.HeedTurns.{close_finished-heeds}
use Rattle.pp_laws_served.proofs.Tended.{FactsOf, Tended, closing_not, facts_of, finished_still, fronted_short, tended, tended_on}

-- ---- who is closed

data Has (clients : List Client) (s : State) : Type 0 where
  has : s.clients ≡ clients → Has clients s

has_of : {clients : List Client} {s : State} → Has clients s → s.clients ≡ clients
has_of (has is) = is

has_when : {clients : List Client} (t : Bool) {x y : State} → Has clients x → Has clients y → Has clients (elim t as (λ c. State) [ true ↦ x | false ↦ y ])
has_when true hx hy = hx
has_when false hx hy = hy

has_each : {clients : List Client} (o : Option Exchange) {x : State} {y : Exchange → State} → Has clients x → ((e : Exchange) → Has clients (y e)) → Has clients (elim o as (λ c. State) [ None ↦ x | Some e ↦ y e ])
has_each None hx hy = hx
has_each (Some e) hx hy = hy e

leave_one-has : {clients : List Client} (e : Exchange) (s : State) → Has clients s → Has clients (leave_one e s)
unfolding leave_one end_exchange on_exchange
leave_one-has e s h = has_when (e.asked == 0) (has (has_of h)) (has (has_of h))

each-has : {clients : List Client} (ns : List ℕ) (s : State) → Has clients s → Has clients (each_exchange leave_one ns s)
unfolding each_exchange
each-has [] s h = h
each-has (n ∷ ns) s h = each-has ns _ (has_each (exchange s n) h (λ e. leave_one-has e s h))

abbrev closed_by : Bool → Client → Client
closed_by is_cut c = record c { is_closing = true; is_cut = c.is_cut || is_cut }

close_client-clients : (n : ℕ) (is_cut : Bool) (s : State) → (close_client n is_cut s).clients ≡ change (is_client n) (closed_by is_cut) s.clients
unfolding close_client swept on_client
close_client-clients n is_cut s = has_of (each-has (exchanges_of n s) _ (has refl))

-- ---- whoever is looked at

abbrev Clean : ℕ → State → Type 0
Clean n s = (c : Client) → IsIn c s.clients → c.number ≡ n → is_finished c ≡ false

clean_on : (n : ℕ) (o s : State) → Heeds o s → Clean n o → Clean n s
clean_on n o s q clean d i is = let w = (heeds_of q).clients_from d i in finished_still d w.was w.is (clean w.was w.there (sym w.is.number ∙ is))

closed_clean : (x : Client) (s : State) → Clean x.number (close_client x.number false s)
closed_clean x s c i is = by (in_change (is_client x.number) (closed_by false) c s.clients (subst (λ (cs : List Client). IsIn c cs) (close_client-clients x.number false s) i))
  where
    by : Changed (is_client x.number) (closed_by false) s.clients c → is_finished c ≡ false
    by (same j isnt) = let both : true ≡ false = sym (ap (λ m. m == x.number) is ∙ number_same x.number) ∙ isnt in absurd (cc both)
    by (other d j hit eq) = closing_not c (ap (λ (y : Client). y.is_closing) eq)

looked_at : (n : ℕ) (s : State) → AreRising (map client_number s.clients) → Clean n (elim (client s n) as (λ x. State) [ None ↦ s | Some c ↦ close_finished c s ])
unfolding close_finished
looked_at n s rise = by (client s n) refl
  where
    found : (c : Client) → IsIn c s.clients → c.number ≡ n → client s n ≡ Some c
    found c i is = find_number client_number n c s.clients rise i is

    at : (x : Client) → client s n ≡ Some x → (t : Bool) → is_finished x ≡ t → Clean n (elim t as (λ y. State) [ true ↦ close_client x.number false s | false ↦ s ])
    at x some false off c i is = let both : Some x ≡ Some c = sym some ∙ found c i is in let eq : x ≡ c = cc both in sym (ap is_finished eq) ∙ off
    at x some true on c i is = closed_clean x s c i (is ∙ sym (same_number x.number n (in_find (is_client n) x s.clients some).1))

    by : (o : Option Client) → client s n ≡ o → Clean n (elim o as (λ x. State) [ None ↦ s | Some c ↦ close_finished c s ])
    by None none = λ c i is. let both : None ≡ Some c = sym none ∙ found c i is in absurd (cc both)
    by (Some x) some = at x some (is_finished x) refl

step_heeds : (n : ℕ) (s : State) → Heeds s (elim (client s n) as (λ x. State) [ None ↦ s | Some c ↦ close_finished c s ])
step_heeds n s = by (client s n)
  where
    by : (o : Option Client) → Heeds s (elim o as (λ x. State) [ None ↦ s | Some c ↦ close_finished c s ])
    by None = heeds_same s
    by (Some c) = close_finished-heeds c s (heeds_same s)

all_clean : (ns : List ℕ) (s : State) → AreRising (map client_number s.clients) → (m : ℕ) → IsIn m ns → Clean m (each_client close_finished ns s)
unfolding each_client
all_clean [] s rise m i = absurd i
all_clean (n ∷ ns) s rise m (inl is) =
    let t : State = elim (client s n) as (λ x. State) [ None ↦ s | Some c ↦ close_finished c s ] in
    clean_on m t _ (each_client-heeds close_finished (λ c u h. close_finished-heeds c u h) ns t (heeds_same t)) (subst (λ k. Clean k t) (sym is) (looked_at n s rise))
all_clean (n ∷ ns) s rise m (inr i) = all_clean ns _ (subst AreRising (sym (heeds_of (step_heeds n s)).numbers) rise) m i

-- ---- a reply is over

-- behind the request and its body
freed : Client → Client
freed c = record c {
  front = NoHeadYet;
  heard = drop c.body_left c.heard;
  skip = c.skip + (c.body_left - length c.heard);
  body_left = 0;
  index = c.index + 1;
  stage = Undecided;
  waits_on = None;
  brought = Awaited;
  course = Trying 0;
  has_given_up = false;
  interim_left = [];
  closes = false;
}

next_short : (c : Client) → (next_request c).front ≡ NoHeadYet → length (next_request c).heard < 16384
unfolding freed
next_short c none = fronted_short (freed c) none

moves_on : (n : ℕ) (s : State) → Tended false s → Tended false (on_client n next_request s)
unfolding on_client
moves_on n s h = tended (record {
  rise = rise_change client_number (is_client n) next_request (λ c. refl) s.clients f.rise;
  short = λ c i none. by c (in_change (is_client n) next_request c s.clients i) none;
  over = λ is. absurd (cc is);
})
  where
    f : FactsOf false s
    f = facts_of h

    by : (c : Client) → Changed (is_client n) next_request s.clients c → c.front ≡ NoHeadYet → length c.heard < 16384
    by c (same i isnt) none = f.short c i none
    by c (other d i hit eq) none = subst (λ (x : Client). length x.heard < 16384) (sym eq) (next_short d (sym (ap (λ (x : Client). x.front) eq) ∙ none))

tended_when : {looks : Bool} (t : Bool) {x y : State} → Tended looks x → Tended looks y → Tended looks (elim t as (λ c. State) [ true ↦ x | false ↦ y ])
tended_when true hx hy = hx
tended_when false hx hy = hy

end_said-tended : (c : Client) (s : State) → Tended false s → Tended false (end_said c s)
unfolding end_said end_reply
end_said-tended c s h =
    tended_when (is_said c && not c.is_closing)
    (tended_when c.closes (tended_on s _ (close_client-heeds c.number false s (heeds_same s)) h)
    (tended_on (on_client c.number next_request s) _ (swept-heeds _ (forsake-heeds (is_of c.number) _ (heeds_same _))) (moves_on c.number s h))) h

each_said : (ns : List ℕ) (s : State) → Tended false s → Tended false (each_client end_said ns s)
unfolding each_client
each_said [] s h = h
each_said (n ∷ ns) s h = each_said ns _ (by (client s n))
  where
    by : (o : Option Client) → Tended false (elim o as (λ x. State) [ None ↦ s | Some c ↦ end_said c s ])
    by None = h
    by (Some c) = end_said-tended c s h

-- clients keep their numbers
data Named (names : List ℕ) (s : State) : Type 0 where
  named : map client_number s.clients ≡ names → Named names s

named_of : {names : List ℕ} {s : State} → Named names s → map client_number s.clients ≡ names
named_of (named is) = is

named_on : {names : List ℕ} (o s : State) → Heeds o s → Named names o → Named names s
named_on o s q h = named ((heeds_of q).numbers ∙ named_of h)

named_next : {names : List ℕ} (n : ℕ) (s : State) → Named names s → Named names (on_client n next_request s)
unfolding on_client
named_next n s h = named (map_kept client_number (changed_at (is_client n) next_request) (λ c. by c (is_client n c)) s.clients ∙ named_of h)
  where
    by : (c : Client) (t : Bool) → (elim t as (λ x. Client) [ true ↦ next_request c | false ↦ c ]).number ≡ c.number
    by c true = refl
    by c false = refl

named_when : {names : List ℕ} (t : Bool) {x y : State} → Named names x → Named names y → Named names (elim t as (λ c. State) [ true ↦ x | false ↦ y ])
named_when true hx hy = hx
named_when false hx hy = hy

end_said-named : {names : List ℕ} (c : Client) (s : State) → Named names s → Named names (end_said c s)
unfolding end_said end_reply
end_said-named c s h =
    named_when (is_said c && not c.is_closing)
    (named_when c.closes (named_on s _ (close_client-heeds c.number false s (heeds_same s)) h)
    (named_on (on_client c.number next_request s) _ (swept-heeds _ (forsake-heeds (is_of c.number) _ (heeds_same _))) (named_next c.number s h))) h

each_named : {names : List ℕ} (ns : List ℕ) (s : State) → Named names s → Named names (each_client end_said ns s)
unfolding each_client
each_named [] s h = h
each_named {names} (n ∷ ns) s h = each_named ns _ (by (client s n))
  where
    by : (o : Option Client) → Named names (elim o as (λ x. State) [ None ↦ s | Some c ↦ end_said c s ])
    by None = h
    by (Some c) = end_said-named c s h

-- and behind all of them nobody is left
pub end_replies-tended : (s : State) → Tended false s → Tended true (end_replies s)
unfolding end_replies
end_replies-tended s h = tended (record { rise = f.rise; short = f.short; over = λ looks c i. none c i })
  where
    names : List ℕ
    names = map (λ (c : Client). c.number) s.clients

    said : State
    said = each_client end_said names s

    g : FactsOf false said
    g = facts_of (each_said names s h)

    closes : Heeds said (each_client close_finished names said)
    closes = each_client-heeds close_finished (λ c u k. close_finished-heeds c u k) names said (heeds_same said)

    f : FactsOf false (each_client close_finished names said)
    f = facts_of (tended_on said _ closes (each_said names s h))

    none : (c : Client) → IsIn c (each_client close_finished names said).clients → is_finished c ≡ false
    none c i =
        let all : map client_number (each_client close_finished names said).clients ≡ names = (heeds_of closes).numbers ∙ named_of (each_named {names = names} names s (named refl)) in
        all_clean names said g.rise c.number (subst (λ (ns : List ℕ). IsIn c.number ns) all (in_map_of client_number c (each_client close_finished names said).clients i)) c i refl
