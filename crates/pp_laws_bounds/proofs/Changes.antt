-- What is kept where clients, connections and exchanges are changed, come or go.
use Rattle.std.proofs.Common.{◌≡◌, ◌⊎◌, refl, ℕ, ◌+◌, ◌<◌, ◌≤◌, Bool, true, false, ◌==◌, ◌&&◌, List, [], ◌∷◌, ◌++◌, map, filter, length, bytes_eq, Some, None, inl, inr, sym, subst, ap, ◌∙◌, le_refl, le_trans, le_of_lt, arith}
use Rattle.pp_conf.specs.Conf.{Settings}
use Rattle.pp_law.specs.Lists.{Bytes, change}
use Rattle.pp_law.specs.State.{State, Client, Conn, Exchange}
use Rattle.pp_laws.specs.Runs.{IsIn}
use Rattle.pp_laws.proofs.Lists.{changed_at, in_filter, in_map, in_push, rise_filter, rise_map}
use Rattle.pp_laws.proofs.Sound.{conn_number}
use Rattle.pp_laws_bounds.specs.Bounds.{goes_to}
use Rattle.pp_laws_bounds.proofs.Counts.{count-filter, count-map, in_filter_of, in_map_of, length-filter, length-map, length-push}
use Rattle.pp_laws_bounds.proofs.Kept.{AreLined, FactsOf, Lines, Stands}

-- ---- clients

with_clients : (but : List ℕ) (s : State) (clients : List Client) → length clients ≤ length s.clients → FactsOf but s → FactsOf but (record s { clients = clients })
with_clients but s clients le h = record { few_clients = le_trans le h.few_clients; lines = h.lines; given = h.given; asked_well = h.asked_well; lined = h.lined; none_yet = h.none_yet }

pub clients_mapped : (but : List ℕ) (s : State) (f : Client → Client) → FactsOf but s → FactsOf but (record s { clients = map f s.clients })
clients_mapped but s f h = with_clients but s (map f s.clients) (subst (λ n. n ≤ length s.clients) (sym (length-map f s.clients)) (le_refl (length s.clients))) h

pub clients_changed : (but : List ℕ) (s : State) (p : Client → Bool) (f : Client → Client) → FactsOf but s → FactsOf but (record s { clients = change p f s.clients })
clients_changed but s p f h = clients_mapped but s (changed_at p f) h

pub clients_filtered : (but : List ℕ) (s : State) (p : Client → Bool) → FactsOf but s → FactsOf but (record s { clients = filter p s.clients })
clients_filtered but s p h = with_clients but s (filter p s.clients) (length-filter p s.clients) h

pub client_pushed : (but : List ℕ) (s : State) (c : Client) (n : ℕ) → s.top < n → length s.clients < 256 → FactsOf but s → FactsOf but (record s { clients = s.clients ++ c ∷ []; top = n })
client_pushed but s c n above room h = record {
  few_clients = let e : length (s.clients ++ c ∷ []) ≡ length s.clients + 1 = length-push s.clients c in omega arith;
  lines = h.lines;
  given = λ k i. le_trans (h.given k i) (le_of_lt above);
  asked_well = h.asked_well;
  lined = h.lined;
  none_yet = h.none_yet;
}

-- ---- connections

-- a change that lengthens no line
pub record Smaller (f : Conn → Conn) : Type 0 where
  pub number : (k : Conn) → (f k).number ≡ k.number
  pub goes : (host : Bytes) (port : ℕ) (k : Conn) → goes_to host port (f k) ≡ goes_to host port k
  pub line : (k : Conn) → length (f k).line ≤ length k.line
  pub closed : (k : Conn) → (k.is_closing ≡ true → k.line ≡ []) → (f k).is_closing ≡ true → (f k).line ≡ []

pub choose : (P : Conn → Type 0) (t : Bool) (x y : Conn) → P x → P y → P (elim t as (λ c. Conn) [ true ↦ x | false ↦ y ])
choose P true x y hx hy = hx
choose P false x y hx hy = hy

pub smaller_at : (p : Conn → Bool) (f : Conn → Conn) → Smaller f → Smaller (changed_at p f)
smaller_at p f is = record {
  number = λ k. choose (λ j. j.number ≡ k.number) (p k) (f k) k (is.number k) refl;
  goes = λ host port k. choose (λ j. goes_to host port j ≡ goes_to host port k) (p k) (f k) k (is.goes host port k) refl;
  line = λ k. choose (λ j. length j.line ≤ length k.line) (p k) (f k) k (is.line k) (le_refl (length k.line));
  closed = λ k was. choose (λ j. j.is_closing ≡ true → j.line ≡ []) (p k) (f k) k (is.closed k was) was;
}

pub lines_mapped : (settings : Settings) (conns : List Conn) (f : Conn → Conn) → Smaller f → Lines settings conns → Lines settings (map f conns)
lines_mapped settings conns f is h = record {
  rise = rise_map conn_number f is.number conns h.rise;
  few = subst (λ n. n ≤ 64) (sym (length-map f conns)) h.few;
  spared = λ host port. subst (λ n. n ≤ settings.host_connections) (sym (count-map (goes_to host port) f (is.goes host port) conns)) (h.spared host port);
  short = λ k i. let r = in_map f k conns i in subst (λ (j : Conn). length j.line ≤ 8) (sym r.is) (le_trans (is.line r.was) (h.short r.was r.there));
  closed = λ k i. let r = in_map f k conns i in subst (λ (j : Conn). j.is_closing ≡ true → j.line ≡ []) (sym r.is) (is.closed r.was (h.closed r.was r.there));
}

given_mapped : (top : ℕ) (conns : List Conn) (f : Conn → Conn) → ((k : Conn) → (f k).number ≡ k.number) → ((k : Conn) → IsIn k conns → k.number ≤ top) → (k : Conn) → IsIn k (map f conns) → k.number ≤ top
given_mapped top conns f number h k i = let r = in_map f k conns i in subst (λ n. n ≤ top) (sym (ap conn_number r.is ∙ number r.was)) (h r.was r.there)

-- nothing comes of nothing
pub none_mapped : (conns : List Conn) (f : Conn → Conn) → conns ≡ [] → map f conns ≡ []
none_mapped conns f none = ap (λ ks. map f ks) none

pub conns_with : (but next : List ℕ) (s : State) (f : Conn → Conn) → Smaller f → (s.is_stopped ≡ false → AreLined next s.exchanges (map f s.conns)) → FactsOf but s → FactsOf next (record s { conns = map f s.conns })
conns_with but next s f is lined h = record {
  few_clients = h.few_clients;
  lines = lines_mapped s.settings s.conns f is h.lines;
  given = given_mapped s.top s.conns f is.number h.given;
  asked_well = h.asked_well;
  lined = lined;
  none_yet = λ at. (none_mapped s.conns f (h.none_yet at).0, (h.none_yet at).1);
}

-- what was in a line of it still is
pub lined_mapped : (but : List ℕ) (exchanges : List Exchange) (conns : List Conn) (f : Conn → Conn) → ((k : Conn) → (f k).number ≡ k.number) → ((k : Conn) (n : ℕ) → IsIn n k.line → IsIn n (f k).line)
    → AreLined but exchanges conns → AreLined but exchanges (map f conns)
lined_mapped but exchanges conns f number line lined e n i is = by (lined e n i is)
  where
    by : Stands e n conns ⊎ IsIn e.number but → Stands e n (map f conns) ⊎ IsIn e.number but
    by (inl w) = inl (f w.0, in_map_of f w.0 conns w.1, number w.0 ∙ w.2, line w.0 e.number w.3)
    by (inr l) = inr l

-- a connection of which nothing that counts was changed
pub record SameConn (k j : Conn) : Type 0 where
  pub number : k.number ≡ j.number
  pub host : k.host ≡ j.host
  pub port : k.port ≡ j.port
  pub line : k.line ≡ j.line
  pub closing : k.is_closing ≡ j.is_closing

same_goes : (host : Bytes) (port : ℕ) (k j : Conn) → SameConn k j → goes_to host port k ≡ goes_to host port j
same_goes host port k j is = ap (λ h. bytes_eq h host && (k.port == port)) is.host ∙ ap (λ n. bytes_eq j.host host && (n == port)) is.port

pub same_smaller : (f : Conn → Conn) → ((k : Conn) → SameConn (f k) k) → Smaller f
same_smaller f is = record {
  number = λ k. (is k).number;
  goes = λ host port k. same_goes host port (f k) k (is k);
  line = λ k. subst (λ (l : List ℕ). length l ≤ length k.line) (sym (is k).line) (le_refl (length k.line));
  closed = λ k was closing. (is k).line ∙ was (sym (is k).closing ∙ closing);
}

pub conns_mapped : (but : List ℕ) (s : State) (f : Conn → Conn) → ((k : Conn) → SameConn (f k) k) → FactsOf but s → FactsOf but (record s { conns = map f s.conns })
conns_mapped but s f is h =
    conns_with but but s f (same_smaller f is) (λ going. lined_mapped but s.exchanges s.conns f (λ k. (is k).number) (λ k n l. subst (λ ns. IsIn n ns) (sym (is k).line) l) (h.lined going)) h

same_conn : (k : Conn) → SameConn k k
same_conn k = record { number = refl; host = refl; port = refl; line = refl; closing = refl }

pub conns_changed : (but : List ℕ) (s : State) (p : Conn → Bool) (f : Conn → Conn) → ((k : Conn) → SameConn (f k) k) → FactsOf but s → FactsOf but (record s { conns = change p f s.conns })
conns_changed but s p f is h = conns_mapped but s (changed_at p f) (λ k. choose (λ j. SameConn j k) (p k) (f k) k (is k) (same_conn k)) h

-- those that go carry nothing, or it is behind Stop
pub conns_filtered : (but : List ℕ) (s : State) (p : Conn → Bool) → (s.is_stopped ≡ false → (k : Conn) → IsIn k s.conns → p k ≡ false → k.line ≡ []) → FactsOf but s → FactsOf but (record s { conns = filter p s.conns })
conns_filtered but s p idle h = record {
  few_clients = h.few_clients;
  lines = record {
    rise = rise_filter conn_number p s.conns h.lines.rise;
    few = le_trans (length-filter p s.conns) h.lines.few;
    spared = λ host port. le_trans (count-filter (goes_to host port) p s.conns) (h.lines.spared host port);
    short = λ k i. h.lines.short k (in_filter p k s.conns i).0;
    closed = λ k i. h.lines.closed k (in_filter p k s.conns i).0;
  };
  given = λ k i. h.given k (in_filter p k s.conns i).0;
  asked_well = h.asked_well;
  lined = λ going e n i is. by going e n (h.lined going e n i is);
  none_yet = λ at. (ap (λ ks. filter p ks) (h.none_yet at).0, (h.none_yet at).1);
}
  where
    there : (e : Exchange) (n : ℕ) (w : Stands e n s.conns) (t : Bool) → s.is_stopped ≡ false → p w.0 ≡ t → Stands e n (filter p s.conns) ⊎ IsIn e.number but
    there e n w true going holds = inl (w.0, in_filter_of p w.0 s.conns w.1 holds, w.2, w.3)
    there e n w false going isnt = absurd (subst (λ ns. IsIn e.number ns) (idle going w.0 w.1 isnt) w.3)

    by : s.is_stopped ≡ false → (e : Exchange) (n : ℕ) → Stands e n s.conns ⊎ IsIn e.number but → Stands e n (filter p s.conns) ⊎ IsIn e.number but
    by going e n (inl w) = there e n w (p w.0) going refl
    by going e n (inr l) = inr l

-- ---- exchanges

-- it was there, with that number, and with that place where it has one; and what was asked of it fits
pub record ExchangeFrom (exchanges : List Exchange) (e : Exchange) : Type 0 where
  pub was : Exchange
  pub there : IsIn was exchanges
  pub number : e.number ≡ was.number
  pub place : (n : ℕ) → e.place ≡ Some n → was.place ≡ Some n
  pub fits : was.asked ≤ length was.text → e.asked ≤ length e.text

pub exchanges_kept : (but : List ℕ) (s : State) (exchanges : List Exchange) → ((e : Exchange) → IsIn e exchanges → ExchangeFrom s.exchanges e) → FactsOf but s → FactsOf but (record s { exchanges = exchanges })
exchanges_kept but s exchanges from h = record {
  few_clients = h.few_clients;
  lines = h.lines;
  given = h.given;
  asked_well = λ e i. let f = from e i in f.fits (h.asked_well f.was f.there);
  lined = λ going e n i is. let f = from e i in by e f.was n f.number (h.lined going f.was n f.there (f.place n is));
  none_yet = h.none_yet;
}
  where
    by : (e d : Exchange) (n : ℕ) → e.number ≡ d.number → Stands d n s.conns ⊎ IsIn d.number but → Stands e n s.conns ⊎ IsIn e.number but
    by e d n number (inl w) = inl (w.0, w.1, w.2, subst (λ m. IsIn m w.0.line) (sym number) w.3)
    by e d n number (inr l) = inr (subst (λ m. IsIn m but) (sym number) l)

-- an exchange of which nothing that counts was changed
pub record SameExchange (e d : Exchange) : Type 0 where
  pub number : e.number ≡ d.number
  pub place : (n : ℕ) → e.place ≡ Some n → d.place ≡ Some n
  pub fits : d.asked ≤ length d.text → e.asked ≤ length e.text

pub same_exchange : (e d : Exchange) → e.number ≡ d.number → e.place ≡ d.place → e.asked ≡ d.asked → e.text ≡ d.text → SameExchange e d
same_exchange e d number place asked text = record {
  number = number;
  place = λ n is. sym place ∙ is;
  fits = λ le. subst (λ n. n ≤ length e.text) (sym asked) (subst (λ (t : List ℕ). d.asked ≤ length t) (sym text) le);
}

from_same : (exchanges : List Exchange) (e d : Exchange) → IsIn d exchanges → SameExchange e d → ExchangeFrom exchanges e
from_same exchanges e d i is = record { was = d; there = i; number = is.number; place = is.place; fits = is.fits }

pub exchanges_filtered : (but : List ℕ) (s : State) (p : Exchange → Bool) → FactsOf but s → FactsOf but (record s { exchanges = filter p s.exchanges })
exchanges_filtered but s p h = exchanges_kept but s (filter p s.exchanges) (λ e i. from_same s.exchanges e e (in_filter p e s.exchanges i).0 (same_exchange e e refl refl refl refl)) h

pub exchanges_mapped : (but : List ℕ) (s : State) (f : Exchange → Exchange) → ((e : Exchange) → SameExchange (f e) e) → FactsOf but s → FactsOf but (record s { exchanges = map f s.exchanges })
exchanges_mapped but s f same_one h = exchanges_kept but s (map f s.exchanges) from h
  where
    from : (e : Exchange) → IsIn e (map f s.exchanges) → ExchangeFrom s.exchanges e
    from e i = let r = in_map f e s.exchanges i in from_same s.exchanges e r.was r.there (subst (λ (x : Exchange). SameExchange x r.was) (sym r.is) (same_one r.was))

pub exchanges_changed : (but : List ℕ) (s : State) (p : Exchange → Bool) (f : Exchange → Exchange) → ((e : Exchange) → SameExchange (f e) e) → FactsOf but s → FactsOf but (record s { exchanges = change p f s.exchanges })
exchanges_changed but s p f same_one h = exchanges_mapped but s (changed_at p f) (λ e. by e (p e)) h
  where
    by : (e : Exchange) (t : Bool) → SameExchange (elim t as (λ c. Exchange) [ true ↦ f e | false ↦ e ]) e
    by e true = same_one e
    by e false = same_exchange e e refl refl refl refl

pub exchange_pushed : (but : List ℕ) (s : State) (e : Exchange) (next : ℕ) → e.place ≡ None → e.asked ≡ 0 → FactsOf but s → FactsOf but (record s { exchanges = s.exchanges ++ e ∷ []; next_exchange = next })
exchange_pushed but s e next none fresh h = record {
  few_clients = h.few_clients;
  lines = h.lines;
  given = h.given;
  asked_well = λ d i. asked_by d (in_push d s.exchanges e i);
  lined = λ going d n i is. lined_by going d n (in_push d s.exchanges e i) is;
  none_yet = h.none_yet;
}
  where
    asked_by : (d : Exchange) → IsIn d s.exchanges ⊎ (d ≡ e) → d.asked ≤ length d.text
    asked_by d (inl i) = h.asked_well d i
    asked_by d (inr eq) = let zero_asked : d.asked ≡ 0 = ap (λ (x : Exchange). x.asked) eq ∙ fresh in omega arith

    lined_by : s.is_stopped ≡ false → (d : Exchange) (n : ℕ) → IsIn d s.exchanges ⊎ (d ≡ e) → d.place ≡ Some n → Stands d n s.conns ⊎ IsIn d.number but
    lined_by going d n (inl i) is = h.lined going d n i is
    lined_by going d n (inr eq) is = let both : None ≡ Some n = sym none ∙ sym (ap (λ (x : Exchange). x.place) eq) ∙ is in absurd (cc both)

-- of these numbers the first is nowhere any more
pub none_left : (n : ℕ) (but : List ℕ) (s : State) → ((e : Exchange) (m : ℕ) → IsIn e s.exchanges → e.number ≡ n → e.place ≡ Some m → ⊥) → FactsOf (n ∷ but) s → FactsOf but s
none_left n but s nowhere h = record {
  few_clients = h.few_clients;
  lines = h.lines;
  given = h.given;
  asked_well = h.asked_well;
  lined = λ going e m i is. by e m i is (h.lined going e m i is);
  none_yet = h.none_yet;
}
  where
    by : (e : Exchange) (m : ℕ) → IsIn e s.exchanges → e.place ≡ Some m → Stands e m s.conns ⊎ IsIn e.number (n ∷ but) → Stands e m s.conns ⊎ IsIn e.number but
    by e m i is (inl w) = inl w
    by e m i is (inr (inl at)) = absurd (nowhere e m i at is)
    by e m i is (inr (inr l)) = inr l
