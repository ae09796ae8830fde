-- The law: each state that a lawful log may go on as from is sound.
use Rattle.std.proofs.Common.{◌≡◌, ◌⊎◌, ℕ, true, false, ◌==◌, ◌||◌, ◌≤◌, List, [], ◌∷◌, count_by, map, find, length, Option, Some, None, inl, inr, sym, ap, ◌∙◌, arith}
use Rattle.pp_pipe.specs.Authentication.{binds_connection}
use Rattle.pp_law.specs.Closing.{is_of}
use Rattle.pp_law.specs.Lists.{is_this}
use Rattle.pp_law.specs.Opening.{is_same_phase}
use Rattle.pp_law.specs.Requests.{goes_alone, is_asked_once}
use Rattle.pp_law.specs.State.{State, Awaiting, Client, Exchange, Reply, Stage, Undecided, Waiting, Passing, Answering}
use Rattle.pp_laws.specs.Numbers.{AreRising}
use Rattle.pp_laws.specs.Runs.{IsIn}
use Rattle.pp_laws.proofs.Lists.{in_map, one_of}
use Rattle.pp_laws.proofs.Sound.{FactsOf, Sound, client_number, conn_number, exchange_number, facts_of as sound_facts, instance_id, source_in}
use Rattle.pp_laws.proofs.Tests.{same_number}
use Rattle.pp_laws_bounds.proofs.Happenings.{from_now}
use Rattle.pp_laws_asks.proofs.AsksFacts.{Asks}
use Rattle.pp_laws_bounds.proofs.Kept.{FactsOf as KeptFacts, Stands, facts_of as kept_facts}
use Rattle.pp_laws_bounds.proofs.Small.{facts_of as small_facts}
use Rattle.pp_laws_bounds.proofs.SmallHappenings.{IsSmall}
use Rattle.pp_laws_bounds.proofs.Pigeons.{rise_differ}
use Rattle.pp_laws_pool.proofs.View.{facts_of as pool_facts, view as pool_view}
use Rattle.pp_laws_turn.specs.SoundTurn.{AreToldApart, HasAsker, HasSource, IsAtRest, IsInLine, TurnsAreSound}
use Rattle.pp_laws_turn.proofs.Counts.{count_number, count_one, find_in, find_nothing, find_number}
use Rattle.pp_laws_turn.proofs.Kept.{Turn}
use Rattle.pp_laws_turn.proofs.Lifts.{asks_on, few_bodies_on, few_exchanges_on, few_pins_on, few_rows_on, kept_on, small_on, sound_on, turn_on}
use Rattle.pp_laws_turn.proofs.View.{facts_of, joined_in, view}

-- ---- numbers

pub told_apart : (s : State) → Sound from_now s → AreToldApart s
told_apart s sound_it =
    let f = sound_facts sound_it in
    record {
      clients = λ n. count_number client_number n s.clients (rise_differ (map client_number s.clients) f.callers.rise);
      conns = λ n. count_number conn_number n s.conns (rise_differ (map conn_number s.conns) f.lines.rise);
      exchanges = λ n. count_number exchange_number n s.exchanges (rise_differ (map exchange_number s.exchanges) f.asks.rise);
      instances = λ n. count_number instance_id n s.instances f.rows.differ;
    }

-- ---- clients, and what they ask for

reply_source : (stage : Stage) (r : Reply) (id : ℕ) → (elim stage as (λ x. Option Reply) [ Undecided ↦ None | Waiting ↦ None | Passing ↦ None | Answering q ↦ Some q ]) ≡ Some r → r.source ≡ Some id → source_in stage ≡ Some id
reply_source Undecided r id is source = absurd (cc is)
reply_source Waiting r id is source = absurd (cc is)
reply_source Passing r id is source = absurd (cc is)
reply_source (Answering q) r id is source = let e : q ≡ r = cc is in ap (λ (x : Reply). x.source) e ∙ source

pub has_source : (s : State) → Turn (view s) → (c : Client) → IsIn c s.clients → c.is_closing ≡ false → HasSource s c
has_source s h c i going r id is source =
    let w = in_map instance_id id s.instances (h.source c id i going (reply_source c.stage r id is source)) in
    find_in instance_id id w.was s.instances w.there (sym w.is)

pub has_asker : (s : State) → AreRising (map client_number s.clients) → Turn (view s) → (e : Exchange) (n : ℕ) → IsIn e s.exchanges → e.asker ≡ Some n → HasAsker s e n
has_asker s rise h e n i is =
    let g = h.goes e n i is (λ none. cc none) in
    record {
      asker = g.client;
      there = find_number client_number n g.client s.clients rise g.there g.number;
      going = g.at.going;
      request = g.at.request;
      front = g.at.front;
      head = g.at.head;
    }

is_its : (n : ℕ) (o : Option ℕ) → is_this n o ≡ true → o ≡ Some n
is_its n None is = absurd (cc is)
is_its n (Some m) is = ap (λ k. Some k) (same_number m n is)

pub asks_once : (s : State) → AreRising (map exchange_number s.exchanges) → Turn (view s) → (n : ℕ) → count_by (is_of n) s.exchanges ≤ 1
asks_once s rise h n = count_one exchange_number (is_of n) s.exchanges (rise_differ (map exchange_number s.exchanges) rise) (λ d e i j a b. h.one d e n i j (is_its n d.asker a) (is_its n e.asker b))

-- who is closing is nobody's asker: that one goes on
pub asks_nothing : (s : State) → AreRising (map client_number s.clients) → Turn (view s) → (c : Client) → IsIn c s.clients → c.is_closing ≡ true → find (is_of c.number) s.exchanges ≡ None
asks_nothing s rise h c i closing = find_nothing (is_of c.number) s.exchanges (λ e j its. none e j (is_its c.number e.asker its))
  where
    none : (e : Exchange) → IsIn e s.exchanges → e.asker ≡ Some c.number → ⊥
    none e j is =
        let g = h.goes e c.number j is (λ off. cc off) in
        let one : g.client ≡ c = one_of client_number s.clients g.client c rise g.there i g.number in
        let both : true ≡ false = sym closing ∙ ap (λ (x : Client). x.is_closing) (sym one) ∙ g.at.going in
        cc both

at_rest : (s : State) → IsSmall s → s.phase ≡ Awaiting → IsAtRest s
at_rest s h at = let w = (small_facts h.1).awaits (ap (is_same_phase Awaiting) at) in record { free = w.0; going = (small_facts h.1).said ∙ w.1 }

in_line : (s : State) (e : Exchange) (n : ℕ) → Stands e n s.conns ⊎ IsIn e.number [] → IsInLine s e n
in_line s e n (inl w) = record { place = w.0; there = w.1; number = w.2; here = w.3 }
in_line s e n (inr none) = absurd none

-- one that stands in a line of one is that
one_line : (n : ℕ) (line : List ℕ) → length line ≤ 1 → IsIn n line → line ≡ n ∷ []
one_line n [] short i = absurd i
one_line n (m ∷ []) short (inl eq) = ap (λ k. k ∷ []) (sym eq)
one_line n (m ∷ []) short (inr i) = absurd i
one_line n (m ∷ k ∷ line) short i = absurd (omega arith)

-- one that is asked once goes alone
alone_with : (e : Exchange) → (e.body_left ≡ 0) ⊎ (is_asked_once e.head ≡ true) → (e.body_left == 0) ≡ false → goes_alone e.head ≡ true
alone_with e (inl none) left = let both : true ≡ false = sym (ap (λ n. n == 0) none) ∙ left in absurd (cc both)
alone_with e (inr once) left = ap (λ b. b || binds_connection e.head.fields) once

pub sound_turns : TurnsAreSound
sound_turns terms s log obeys = record {
  numbers = record {
    clients_rise = f.callers.rise;
    clients_given = f.callers.given;
    conns_rise = f.lines.rise;
    conns_given = f.lines.given;
    exchanges_rise = f.asks.rise;
    exchanges_given = f.asks.given;
    instances_differ = f.rows.differ;
    instances_given = f.rows.given;
    chunks_given = f.rows.chunks_given;
    bounds_given = λ e b i is. f.asks.bounds e b i is;
  };
  apart = told_apart s so;
  bounded = record {
    clients = k.few_clients;
    conns = k.lines.few;
    hosts = k.lines.spared;
    lines = k.lines.short;
    waiting = a.few;
    exchanges = few_exchanges_on s so (kept_on terms s log obeys) a.few;
    rows = few_rows_on s (small_on terms s log obeys);
    bodies = few_bodies_on s (small_on terms s log obeys);
    pins = few_pins_on s k.few_clients (few_bodies_on s (small_on terms s log obeys));
  };
  rows = f.rows.own_keys;
  owes = t.owes;
  awaits = λ at. at_rest s (small_on terms s log obeys) at;
  closed = k.lines.closed;
  placed = f.placed;
  lined = λ e n going i is. in_line s e n (k.lined going e n i is);
  by_itself = λ k e i j at is. one_line e.number k.line (t.lined.alone k e i j at is) at;
  pipelines = t.lined.few;
  bodies = λ e i left. alone_with e (t.once e i).once left;
  made = λ c id plain i is. t.made c id i (ap joined_in is);
  once = asks_once s f.asks.rise t;
  sources = has_source s t;
  alone = asks_nothing s f.callers.rise t;
  rests = λ e i none. ap (λ n. n == 0) (t.fresh e i none);
  askers = has_asker s f.callers.rise t;
  keyed = λ e i. (t.once e i).key;
  short = t.short;
}
  where
    so : Sound from_now s
    so = sound_on terms s log obeys

    f : FactsOf from_now s
    f = sound_facts so

    k : KeptFacts [] s
    k = kept_facts (kept_on terms s log obeys)

    a : Asks (pool_view s)
    a = pool_facts (asks_on terms s log obeys)

    t : Turn (view s)
    t = facts_of (turn_on terms s log obeys)
