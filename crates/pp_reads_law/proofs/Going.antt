-- Where data of a response go, connections stay, and who goes on does; and its exchange has so many fewer to come.
use Rattle.std.proofs.Common.{◌≡◌, ◌≤◌, refl, sym, subst, ap, ◌∙◌, ℕ, ◌+◌, ◌==◌, Bool, true, false, find, length, map, List, Option, Some, None}
use Rattle.std.specs.Prelude.{count_by, option_map}
use Rattle.pp_cache_law.proofs.Finds.{find_mapped}
use Rattle.pp_cache_law.proofs.Numbers.{some_is}
use Rattle.pp_cache_law.proofs.PairLemmas.{count_mapped_same}
use Rattle.pp_turns_law.specs.Sides.{AreOrderly, MayClose}
use Rattle.pp_flow_law.proofs.Entries.{none_some}
use Rattle.pp_law.specs.Chunks.{joined, note_use}
use Rattle.pp_law.specs.Closing.{is_of}
use Rattle.pp_law.specs.Connections.{exchange, is_client, is_conn, is_exchange, is_for, on_client_of, on_exchange}
use Rattle.pp_law.specs.Lists.{Bytes, change, is_some_with, is_this}
use Rattle.pp_law.specs.OwnHeads.{first_offset, join, joined_one, join_bound, moved_on, note_own, note_sent, sent_as}
use Rattle.pp_law.specs.Passing.{pour, poured}
use Rattle.pp_law.specs.Responses.{deliver}
use Rattle.pp_law.specs.Stages.{bound_of, on_passed, passed_of}
use Rattle.pp_law.specs.State.{State, Answer, Aim, Own, Through, Filling, Bound, Client, Conn, Exchange, Instance as Known, Passed, Passes, Joining}
use Rattle.pp_law.specs.Table.{extent_of, instance}
use Rattle.pp_pass.specs.Pipe.{Pipe, with_data}
use Rattle.pp_peers_law.proofs.Finds.{find_there}
use Rattle.pp_states_law.specs.Charges.{GoesOn}
use Rattle.pp_states_law.specs.Losses.{IsComing}
use Rattle.pp_text.specs.Bytes.{is_empty}

record Was {A : Type 0} (h : A → A) (o : Option A) (d : A) : Type 0 where
  before : A
  there : o ≡ Some before
  is : h before ≡ d

was : {A : Type 0} (h : A → A) (o : Option A) (d : A) → option_map h o ≡ Some d → Was h o d
was h None d found = absurd (none_some d found)
was h (Some x) d found = record { before = x; there = refl; is = some_is (h x) d found }

-- ---- what goes into the pipe of a client leaves it going on

abbrev passing : Bytes → Client → Client
passing bytes c = on_passed (λ p. record p { pipe = poured bytes p.pipe }) c

abbrev passing_if : Exchange → Bytes → Client → Client
passing_if e bytes c = elim (is_for e c) as (λ t. Client) [ true ↦ passing bytes c | false ↦ c ]

still_open : (bytes : Bytes) (pipe : Pipe) → (poured bytes pipe).is_finished ≡ pipe.is_finished
still_open bytes pipe = by (is_empty bytes)
  where
    by : (b : Bool) → (elim b as (λ t. Pipe) [ true ↦ pipe | false ↦ with_data bytes pipe ]).is_finished ≡ pipe.is_finished
    by true = refl
    by false = refl

passing_number : (e : Exchange) (bytes : Bytes) (c : Client) → (passing_if e bytes c).number ≡ c.number
passing_number e bytes c = by (is_for e c) (passed_of c)
  where
    by : (b : Bool) (o : Option Passed) → (elim b as (λ t. Client) [ true ↦ elim o as (λ t. Client) [ None ↦ c | Some p ↦ record c { brought = Passes (record p { pipe = poured bytes p.pipe }) } ] | false ↦ c ]).number ≡ c.number
    by true None = refl
    by true (Some p) = refl
    by false o = refl

passing_goes : (e : Exchange) (bytes : Bytes) (c : Client) → GoesOn c → GoesOn (passing_if e bytes c)
passing_goes e bytes c on = by (is_for e c) (passed_of c)
  where
    by : (b : Bool) (o : Option Passed) → GoesOn (elim b as (λ t. Client) [ true ↦ elim o as (λ t. Client) [ None ↦ c | Some p ↦ record c { brought = Passes (record p { pipe = poured bytes p.pipe }) } ] | false ↦ c ])
    by true None = on
    by true (Some p) = record { going = on.going; given = on.given }
    by false o = on

passing_comes : (e : Exchange) (bytes : Bytes) (c : Client) → IsComing c → IsComing (passing_if e bytes c)
passing_comes e bytes c coming = by (is_for e c) (passed_of c) refl
  where
    by : (b : Bool) (o : Option Passed) → passed_of c ≡ o → IsComing (elim b as (λ t. Client) [ true ↦ elim o as (λ t. Client) [ None ↦ c | Some p ↦ record c { brought = Passes (record p { pipe = poured bytes p.pipe }) } ] | false ↦ c ])
    by true None is = coming
    by true (Some p) is = still_open bytes p.pipe ∙ sym (ap (λ (o : Option Passed). is_some_with (λ q. q.pipe.is_finished) o) is) ∙ coming
    by false o is = coming

-- ---- what is changed

moved_number : (n : ℕ) (x : Exchange) → (moved_on n x).number ≡ x.number
moved_number n x = by (bound_of x)
  where
    by : (o : Option Bound) → (elim o as (λ t. Exchange) [ None ↦ x | Some b ↦ record x { body = Joining (record b { next = b.next + n }) } ]).number ≡ x.number
    by None = refl
    by (Some b) = refl

moved_asker : (n : ℕ) (x : Exchange) → (moved_on n x).asker ≡ x.asker
moved_asker n x = by (bound_of x)
  where
    by : (o : Option Bound) → (elim o as (λ t. Exchange) [ None ↦ x | Some b ↦ record x { body = Joining (record b { next = b.next + n }) } ]).asker ≡ x.asker
    by None = refl
    by (Some b) = refl

noted_rest : (e : Exchange) (a : Answer) (at : ℕ) (bytes : Bytes) (s : State) → ((note_sent e a at bytes s).clients ≡ s.clients) × ((note_sent e a at bytes s).conns ≡ s.conns) × ((note_sent e a at bytes s).exchanges ≡ s.exchanges)
unfolding note_sent note_own
noted_rest e a at bytes s = by e.aim (is_empty bytes)
  where
    noted : Bool → State
    noted b = elim b as (λ t. State) [ true ↦ s | false ↦ record s { sent = sent_as e (first_offset a.head + at) bytes a.version s.sent } ]

    by : (aim : Aim) (b : Bool) → let t : State = elim aim as (λ t. State) [ Through ↦ s | Own ↦ noted b | Filling v from to ↦ noted b ] in (t.clients ≡ s.clients) × (t.conns ≡ s.conns) × (t.exchanges ≡ s.exchanges)
    by Through b = (refl, refl, refl)
    by Own true = (refl, refl, refl)
    by Own false = (refl, refl, refl)
    by (Filling v from to) true = (refl, refl, refl)
    by (Filling v from to) false = (refl, refl, refl)

join_rest : (b : Bound) (bytes : Bytes) (s : State) → ((join b bytes s).clients ≡ s.clients) × ((join b bytes s).conns ≡ s.conns) × ((join b bytes s).exchanges ≡ s.exchanges)
unfolding join note_use
join_rest b bytes s = by (joined_one b bytes s)
  where
    by : (o : Option Known) → let t : State = elim o as (λ t. State) [ None ↦ s | Some x ↦ note_use (record s { chunks = joined x.id (extent_of s x) b.next bytes s.chunks }) ] in (t.clients ≡ s.clients) × (t.conns ≡ s.conns) × (t.exchanges ≡ s.exchanges)
    by None = (refl, refl, refl)
    by (Some x) = (refl, refl, refl)

abbrev moved_in : Exchange → ℕ → Option Bound → List Exchange → List Exchange
moved_in e n o es = elim o as (λ t. List Exchange) [ None ↦ es | Some b ↦ change (is_exchange e.number) (moved_on n) es ]

bound_rest : (e : Exchange) (bytes : Bytes) (s : State)
    → ((join_bound e bytes s).clients ≡ s.clients) × ((join_bound e bytes s).conns ≡ s.conns) × ((join_bound e bytes s).exchanges ≡ moved_in e (length bytes) (bound_of e) s.exchanges)
unfolding join_bound on_exchange
bound_rest e bytes s = by (bound_of e)
  where
    by : (o : Option Bound) → let t : State = elim o as (λ t. State) [ None ↦ s | Some b ↦ on_exchange e.number (moved_on (length bytes)) (join b bytes s) ] in (t.clients ≡ s.clients) × (t.conns ≡ s.conns) × (t.exchanges ≡ moved_in e (length bytes) o s.exchanges)
    by None = (refl, refl, refl)
    by (Some b) = let one = join_rest b bytes s in (one.0, one.1, ap (λ (es : List Exchange). change (is_exchange e.number) (moved_on (length bytes)) es) one.2)

passed_rest : (e : Exchange) (bytes : Bytes) (s : State) → ((pour e (poured bytes) s).clients ≡ map (passing_if e bytes) s.clients) × ((pour e (poured bytes) s).conns ≡ s.conns) × ((pour e (poured bytes) s).exchanges ≡ s.exchanges)
unfolding pour on_client_of
passed_rest e bytes s = (refl, refl, refl)

module _ (e : Exchange) (a : Answer) (at : ℕ) (bytes : Bytes) (s : State) where
  abbrev noted : State
  noted = note_sent e a at bytes s

  abbrev bound : State
  bound = join_bound e bytes noted

  abbrev pub then : State
  then = deliver e a at bytes s

  clients_are : then.clients ≡ map (passing_if e bytes) s.clients
  unfolding deliver
  clients_are = (passed_rest e bytes bound).0 ∙ ap (λ (cs : List Client). map (passing_if e bytes) cs) ((bound_rest e bytes noted).0 ∙ (noted_rest e a at bytes s).0)

  pub conns_are : then.conns ≡ s.conns
  unfolding deliver
  conns_are = (passed_rest e bytes bound).1 ∙ (bound_rest e bytes noted).1 ∙ (noted_rest e a at bytes s).1

  exchanges_are : then.exchanges ≡ moved_in e (length bytes) (bound_of e) s.exchanges
  unfolding deliver
  exchanges_are = (passed_rest e bytes bound).2 ∙ (bound_rest e bytes noted).2 ∙ ap (λ (es : List Exchange). moved_in e (length bytes) (bound_of e) es) (noted_rest e a at bytes s).2

  -- ---- its exchange

  abbrev pub moved : Exchange
  moved = moved_on (length bytes) e

  pub known_then : exchange s e.number ≡ Some e → exchange then e.number ≡ Some moved
  known_then known = ap (λ (es : List Exchange). find (is_exchange e.number) es) exchanges_are ∙ by (bound_of e) refl
    where
      by : (o : Option Bound) → bound_of e ≡ o → find (is_exchange e.number) (moved_in e (length bytes) o s.exchanges) ≡ Some (moved_on (length bytes) e)
      by None is = known ∙ ap (λ (o : Option Bound). Some (elim o as (λ t. Exchange) [ None ↦ e | Some b ↦ record e { body = Joining (record b { next = b.next + length bytes }) } ])) (sym is)
      by (Some b) is = find_there e.number (moved_on (length bytes)) (λ x. moved_number (length bytes) x) s.exchanges e known

  -- ---- who goes on

  abbrev moved_if : Exchange → Exchange
  moved_if x = elim (is_exchange e.number x) as (λ t. Exchange) [ true ↦ moved_on (length bytes) x | false ↦ x ]

  number_if : (x : Exchange) → (moved_if x).number ≡ x.number
  number_if x = by (is_exchange e.number x)
    where
      by : (b : Bool) → (elim b as (λ t. Exchange) [ true ↦ moved_on (length bytes) x | false ↦ x ]).number ≡ x.number
      by true = moved_number (length bytes) x
      by false = refl

  asker_if : (x : Exchange) → (moved_if x).asker ≡ x.asker
  asker_if x = by (is_exchange e.number x)
    where
      by : (b : Bool) → (elim b as (λ t. Exchange) [ true ↦ moved_on (length bytes) x | false ↦ x ]).asker ≡ x.asker
      by true = moved_asker (length bytes) x
      by false = refl

  pub once_then : (n : ℕ) → count_by (is_of n) s.exchanges ≤ 1 → count_by (is_of n) then.exchanges ≤ 1
  once_then n once = subst (λ (es : List Exchange). count_by (is_of n) es ≤ 1) (sym exchanges_are) (by (bound_of e))
    where
      by : (o : Option Bound) → count_by (is_of n) (moved_in e (length bytes) o s.exchanges) ≤ 1
      by None = once
      by (Some b) = subst (λ (i : ℕ). i ≤ 1) (sym (count_mapped_same (is_of n) moved_if s.exchanges (λ x. ap (λ (o : Option ℕ). is_this n o) (asker_if x)))) once

  was_exchange : (m : ℕ) (d : Exchange) → exchange then m ≡ Some d → (b : Exchange) × (exchange s m ≡ Some b) × (d.asker ≡ b.asker)
  was_exchange m d there = by (bound_of e) (sym (ap (λ (es : List Exchange). find (is_exchange m) es) exchanges_are) ∙ there)
    where
      by : (o : Option Bound) → find (is_exchange m) (moved_in e (length bytes) o s.exchanges) ≡ Some d → (b : Exchange) × (exchange s m ≡ Some b) × (d.asker ≡ b.asker)
      by None found = (d, found, refl)
      by (Some c) found =
          let one : Was moved_if (find (is_exchange m) s.exchanges) d = was moved_if (find (is_exchange m) s.exchanges) d (sym (find_mapped (is_exchange m) moved_if s.exchanges (λ x. ap (λ (i : ℕ). i == m) (number_if x))) ∙ found) in
          (one.before, one.there, ap (λ (x : Exchange). x.asker) (sym one.is) ∙ asker_if one.before)

  was_client : (m : ℕ) (c : Client) → find (is_client m) then.clients ≡ Some c → Was (passing_if e bytes) (find (is_client m) s.clients) c
  was_client m c found =
      was (passing_if e bytes) (find (is_client m) s.clients) c
      (sym (find_mapped (is_client m) (passing_if e bytes) s.clients (λ x. ap (λ (i : ℕ). i == m) (passing_number e bytes x))) ∙ sym (ap (λ (cs : List Client). find (is_client m) cs) clients_are) ∙ found)

  pub delivered_may : MayClose s → MayClose then
  delivered_may may = record {
    apart = λ n. subst (λ (ks : List Conn). count_by (is_conn n) ks ≤ 1) (sym conns_are) (may.apart n);
    orderly = subst (λ (ks : List Conn). AreOrderly ks) (sym conns_are) may.orderly;
    go = record {
      going = λ m d there n c asks found.
          let before = was_exchange m d there in
          let one : Was (passing_if e bytes) (find (is_client n) s.clients) c = was_client n c found in
          subst (λ (x : Client). GoesOn x) one.is (passing_goes e bytes one.before (may.go.going m before.0 before.1 n one.before (sym before.2 ∙ asks) one.there));
      coming = λ m d there n c asks found.
          let before = was_exchange m d there in
          let one : Was (passing_if e bytes) (find (is_client n) s.clients) c = was_client n c found in
          subst (λ (x : Client). IsComing x) one.is (passing_comes e bytes one.before (may.go.coming m before.0 before.1 n one.before (sym before.2 ∙ asks) one.there));
    };
  }
