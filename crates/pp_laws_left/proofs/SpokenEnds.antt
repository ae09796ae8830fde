-- As replies are over none is left that was said whole.
use Rattle.std.proofs.Common.{◌≡◌, refl, ℕ, Bool, true, false, not, ◌==◌, ◌&&◌, ◌||◌, List, [], ◌∷◌, map, Option, Some, None, inl, inr, sym, subst, ap, ◌∙◌}
use Rattle.pp_law.specs.Closing.{close_client, forsake, is_of}
use Rattle.pp_law.specs.Connections.{client, each_client, is_client, on_client}
use Rattle.pp_law.specs.Replies.{close_finished, end_replies, end_reply, end_said, is_said, next_request}
use Rattle.pp_law.specs.State.{State, Client}
use Rattle.pp_law.specs.Table.{swept}
use Rattle.pp_laws.specs.Numbers.{AreRising}
use Rattle.pp_laws.specs.Runs.{IsIn}
use Rattle.pp_laws.proofs.Lists.{Changed, changed_at, in_change, in_find, map_kept, other, same}
use Rattle.pp_laws.proofs.Sound.{client_number}
use Rattle.pp_laws.proofs.Tests.{number_same, same_number}
use Rattle.pp_laws_bounds.proofs.Counts.{in_map_of}
use Rattle.pp_laws_turn.proofs.Counts.{find_number}
use Rattle.pp_laws_left.proofs.Keep.{AtEvent, FromClient, Keeps, facts_of as keeps_of, keeps_same}
use Rattle.pp_laws_left.proofs.KeepAsks.{close_client-keeps, closed-keeps, each_client-keeps, forsake-keeps}
use Rattle.pp_laws_left.proofs.KeepRows.{swept-keeps}
use Rattle.pp_laws_left.proofs.KeepTurns.{close_finished-keeps}
use Rattle.pp_laws_left.proofs.Spoken.{FactsOf, Speaks, Spoken, changed_spoken, facts_of, spoken, spoken_on, unsaid_on}
use Rattle.pp_laws_left.proofs.SpokenBegins.{next_speaks}

-- ---- a reply is over, and the next request is looked at

moved_on : {looks : Bool} (n : ℕ) (s : State) → Spoken looks s → Spoken looks (swept (forsake (is_of n) (on_client n next_request s)))
unfolding on_client
moved_on {looks} n s h =
    spoken_on (on_client n next_request s) _ (swept-keeps _ (forsake-keeps (is_of n) _ (keeps_same _)))
    (changed_spoken looks s (is_client n) next_request (λ c. refl) (λ c i hit was. let k = next_speaks {At = AtEvent s.phase s.owed} c in record { unsaid = λ is. k.unsaid refl; passed = k.passed; begun = k.begun; bare = k.bare }) (λ is. is) h)

when_spoken : {looks : Bool} (t : Bool) {x y : State} → Spoken looks x → Spoken looks y → Spoken looks (elim t as (λ c. State) [ true ↦ x | false ↦ y ])
when_spoken true hx hy = hx
when_spoken false hx hy = hy

end_said-spoken : {looks : Bool} (c : Client) (s : State) → Spoken looks s → Spoken looks (end_said c s)
unfolding end_said end_reply
end_said-spoken c s h = when_spoken (is_said c && not c.is_closing) (when_spoken c.closes (spoken_on s _ (close_client-keeps c.number false s (keeps_same s)) h) (moved_on c.number s h)) h

-- ---- numbers stay

data Named (names : List ℕ) (s : State) : Type 0 where
  named : map client_number s.clients ≡ names → Named names s

named_of : {names : List ℕ} {s : State} → Named names s → map client_number s.clients ≡ names
named_of (named is) = is

named_on : {names : List ℕ} (o s : State) → Keeps true o s → Named names o → Named names s
named_on o s q h = named ((keeps_of q).numbers ∙ named_of h)

named_next : {names : List ℕ} (n : ℕ) (s : State) → Named names s → Named names (on_client n next_request s)
unfolding on_client
named_next n s h = named (map_kept client_number (changed_at (is_client n) next_request) (λ c. by c (is_client n c)) s.clients ∙ named_of h)
  where
    by : (c : Client) (t : Bool) → (elim t as (λ x. Client) [ true ↦ next_request c | false ↦ c ]).number ≡ c.number
    by c true = refl
    by c false = refl

named_when : {names : List ℕ} (t : Bool) {x y : State} → Named names x → Named names y → Named names (elim t as (λ c. State) [ true ↦ x | false ↦ y ])
named_when true hx hy = hx
named_when false hx hy = hy

end_said-named : {names : List ℕ} (c : Client) (s : State) → Named names s → Named names (end_said c s)
unfolding end_said end_reply
end_said-named c s h =
    named_when (is_said c && not c.is_closing)
    (named_when c.closes (named_on s _ (close_client-keeps c.number false s (keeps_same s)) h)
    (named_on (on_client c.number next_request s) _ (swept-keeps _ (forsake-keeps (is_of c.number) _ (keeps_same _))) (named_next c.number s h))) h

named_step : {names : List ℕ} (n : ℕ) (s : State) → Named names s → Named names (elim (client s n) as (λ x. State) [ None ↦ s | Some c ↦ end_said c s ])
named_step {names} n s h = by (client s n)
  where
    by : (o : Option Client) → Named names (elim o as (λ x. State) [ None ↦ s | Some c ↦ end_said c s ])
    by None = h
    by (Some c) = end_said-named c s h

-- ---- whoever is looked at

abbrev Clean : ℕ → State → Type 0
Clean n s = (c : Client) → IsIn c s.clients → c.number ≡ n → c.is_closing ≡ false → is_said c ≡ false

clean_on : (n : ℕ) (o s : State) → Keeps true o s → Clean n o → Clean n s
clean_on n o s q clean d i is runs = let w = (keeps_of q).clients_from d i in unsaid_on d w.was w.is runs (clean w.was w.there (sym w.is.number ∙ is))

clean_next : (n m : ℕ) (s : State) → Clean n s → Clean n (on_client m next_request s)
unfolding on_client
clean_next n m s clean d i is runs = by (in_change (is_client m) next_request d s.clients i)
  where
    by : Changed (is_client m) next_request s.clients d → is_said d ≡ false
    by (same j isnt) = clean d j is runs
    by (other c j hit eq) = ap is_said eq ∙ (next_speaks {At = ⊥} c).unsaid refl (sym (ap (λ (x : Client). x.is_closing) eq) ∙ runs)

clean_when : (n : ℕ) (t : Bool) (x y : State) → Clean n x → Clean n y → Clean n (elim t as (λ c. State) [ true ↦ x | false ↦ y ])
clean_when n true x y hx hy = hx
clean_when n false x y hx hy = hy

ended_clean : (n m : ℕ) (closes : Bool) (s : State) → Clean n s → Clean n (elim closes as (λ x. State) [ true ↦ close_client m false s | false ↦ swept (forsake (is_of m) (on_client m next_request s)) ])
ended_clean n m closes s clean = clean_when n closes _ _ (clean_on n s _ (close_client-keeps m false s (keeps_same s)) clean) (clean_on n (on_client m next_request s) _ (swept-keeps _ (forsake-keeps (is_of m) _ (keeps_same _))) (clean_next n m s clean))

end_said-clean : (n : ℕ) (c : Client) (s : State) → Clean n s → Clean n (end_said c s)
unfolding end_said end_reply
end_said-clean n c s clean = clean_when n (is_said c && not c.is_closing) _ _ (ended_clean n c.number c.closes s clean) clean

step_clean : (n m : ℕ) (s : State) → Clean n s → Clean n (elim (client s m) as (λ x. State) [ None ↦ s | Some c ↦ end_said c s ])
step_clean n m s clean = by (client s m)
  where
    by : (o : Option Client) → Clean n (elim o as (λ x. State) [ None ↦ s | Some c ↦ end_said c s ])
    by None = clean
    by (Some c) = end_said-clean n c s clean

each_clean : (n : ℕ) (ns : List ℕ) (s : State) → Clean n s → Clean n (each_client end_said ns s)
unfolding each_client
each_clean n [] s clean = clean
each_clean n (m ∷ ns) s clean = each_clean n ns _ (step_clean n m s clean)

-- it is closing, or at its next request
closed_clean : (x : Client) (s : State) → Clean x.number (close_client x.number false s)
unfolding on_client
closed_clean x s c i is runs = by (in_change (is_client x.number) (λ y. record y { is_closing = true; is_cut = y.is_cut || false }) w.was s.clients w.there)
  where
    w : FromClient true (on_client x.number (λ y. record y { is_closing = true; is_cut = y.is_cut || false }) s).clients c
    w = (keeps_of (closed-keeps x.number false s)).clients_from c i

    by : Changed (is_client x.number) (λ y. record y { is_closing = true; is_cut = y.is_cut || false }) s.clients w.was → is_said c ≡ false
    by (same j isnt) = let both : true ≡ false = sym (ap (λ m. m == x.number) (sym w.is.number ∙ is) ∙ number_same x.number) ∙ isnt in absurd (cc both)
    by (other d j hit eq) = let both : true ≡ false = sym (w.is.closing (ap (λ (y : Client). y.is_closing) eq)) ∙ runs in absurd (cc both)

moved_clean : (x : Client) (s : State) → Clean x.number (on_client x.number next_request s)
unfolding on_client
moved_clean x s c i is runs = by (in_change (is_client x.number) next_request c s.clients i)
  where
    by : Changed (is_client x.number) next_request s.clients c → is_said c ≡ false
    by (same j isnt) = let both : true ≡ false = sym (ap (λ m. m == x.number) is ∙ number_same x.number) ∙ isnt in absurd (cc both)
    by (other d j hit eq) = ap is_said eq ∙ (next_speaks {At = ⊥} d).unsaid refl (sym (ap (λ (y : Client). y.is_closing) eq) ∙ runs)

both_clean : (x : Client) (s : State) (closes : Bool) → Clean x.number (elim closes as (λ y. State) [ true ↦ close_client x.number false s | false ↦ swept (forsake (is_of x.number) (on_client x.number next_request s)) ])
both_clean x s closes = clean_when x.number closes _ _ (closed_clean x s) (clean_on x.number (on_client x.number next_request s) _ (swept-keeps _ (forsake-keeps (is_of x.number) _ (keeps_same _))) (moved_clean x s))

not_both : (a b : Bool) → (a && not b) ≡ false → b ≡ false → a ≡ false
not_both true b off runs = let both : true ≡ false = ap not (sym runs) ∙ off in absurd (cc both)
not_both false b off runs = refl

looked_at : (n : ℕ) (s : State) → AreRising (map client_number s.clients) → Clean n (elim (client s n) as (λ x. State) [ None ↦ s | Some c ↦ end_said c s ])
unfolding end_said end_reply
looked_at n s rise = by (client s n) refl
  where
    found : (c : Client) → IsIn c s.clients → c.number ≡ n → client s n ≡ Some c
    found c i is = find_number client_number n c s.clients rise i is

    at : (x : Client) → client s n ≡ Some x → (t : Bool) → (is_said x && not x.is_closing) ≡ t
        → Clean n (elim t as (λ y. State) [ true ↦ elim x.closes as (λ z. State) [ true ↦ close_client x.number false s | false ↦ swept (forsake (is_of x.number) (on_client x.number next_request s)) ] | false ↦ s ])
    at x some false off = λ c i is runs. let both : Some x ≡ Some c = sym some ∙ found c i is in let eq : x ≡ c = cc both in sym (ap is_said eq) ∙ not_both (is_said x) x.is_closing off (ap (λ (y : Client). y.is_closing) eq ∙ runs)
    at x some true on = subst (λ m. Clean m (elim x.closes as (λ z. State) [ true ↦ close_client x.number false s | false ↦ swept (forsake (is_of x.number) (on_client x.number next_request s)) ])) (same_number x.number n (in_find (is_client n) x s.clients some).1) (both_clean x s x.closes)

    by : (o : Option Client) → client s n ≡ o → Clean n (elim o as (λ x. State) [ None ↦ s | Some c ↦ elim (is_said c && not c.is_closing) as (λ y. State) [ true ↦ elim c.closes as (λ z. State) [ true ↦ close_client c.number false s | false ↦ swept (forsake (is_of c.number) (on_client c.number next_request s)) ] | false ↦ s ] ])
    by None none = λ c i is runs. let both : None ≡ Some c = sym none ∙ found c i is in absurd (cc both)
    by (Some x) some = at x some (is_said x && not x.is_closing) refl

all_clean : (ns : List ℕ) (s : State) → AreRising (map client_number s.clients) → (m : ℕ) → IsIn m ns → Clean m (each_client end_said ns s)
unfolding each_client
all_clean [] s rise m i = absurd i
all_clean (n ∷ ns) s rise m (inl is) = each_clean m ns _ (subst (λ k. Clean k (elim (client s n) as (λ x. State) [ None ↦ s | Some c ↦ end_said c s ])) (sym is) (looked_at n s rise))
all_clean (n ∷ ns) s rise m (inr i) = all_clean ns _ (subst AreRising (sym (named_of (named_step {names = map client_number s.clients} n s (named refl)))) rise) m i

-- ---- all

each_spoken : {looks : Bool} (ns : List ℕ) (s : State) → Spoken looks s → Spoken looks (each_client end_said ns s)
unfolding each_client
each_spoken [] s h = h
each_spoken {looks} (n ∷ ns) s h = each_spoken ns _ (by (client s n))
  where
    by : (o : Option Client) → Spoken looks (elim o as (λ x. State) [ None ↦ s | Some c ↦ end_said c s ])
    by None = h
    by (Some c) = end_said-spoken c s h

each_named : {names : List ℕ} (ns : List ℕ) (s : State) → Named names s → Named names (each_client end_said ns s)
unfolding each_client
each_named [] s h = h
each_named (n ∷ ns) s h = each_named ns _ (named_step n s h)

pub end_replies-spoken : (s : State) → Spoken false s → Spoken true (end_replies s)
unfolding end_replies
end_replies-spoken s h = spoken_on said _ (each_client-keeps close_finished (λ c u k. close_finished-keeps c u k) names said (keeps_same said)) (spoken (record { rise = g.rise; all = λ c i. looked c i (g.all c i); nobody = g.nobody }))
  where
    names : List ℕ
    names = map (λ (c : Client). c.number) s.clients

    said : State
    said = each_client end_said names s

    g : FactsOf false said
    g = facts_of (each_spoken names s h)

    clean : (c : Client) → IsIn c said.clients → c.is_closing ≡ false → is_said c ≡ false
    clean c i runs = all_clean names s (facts_of h).rise c.number (subst (λ (ns : List ℕ). IsIn c.number ns) (named_of (each_named {names = names} names s (named refl))) (in_map_of client_number c said.clients i)) c i refl runs

    looked : (c : Client) → IsIn c said.clients → Speaks false (AtEvent said.phase said.owed) c → Speaks true (AtEvent said.phase said.owed) c
    looked c i k = record { unsaid = λ is runs. clean c i runs; passed = k.passed; begun = k.begun; bare = k.bare }
