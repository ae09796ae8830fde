-- What is left to ask on a connection is what the law has left, and what is asked is no matter of who goes on.
use Rattle.std.proofs.Common.{◌≡◌, ◌≤◌, refl, sym, subst, ap, ap₂, ◌∙◌, ℕ, zero, suc, ◌-◌, Bool, true, false, ◌==◌, ◌&&◌, ◌||◌, not, cond, find, length, map, nat_lt, take, List, [], ◌∷◌, Option, Some, None, arith}
use Rattle.std.proofs.lemmas.Bool.Decides.{nat_tests}
use Rattle.std.specs.Option.{option_and_then}
use Rattle.std.specs.Cmp.Lexicographic.{pointwise}
use Rattle.std.specs.Prelude.{count_by, nat_eq, option_map}
use Rattle.pp_cache_law.proofs.Finds.{find_mapped, find_passes}
use Rattle.pp_cache_law.proofs.Numbers.{is_same, some_is}
use Rattle.pp_cache_law.specs.Pairs.{AreBoth}
use Rattle.pp_turns_law.specs.Sides.{AreOrderly, MayClose}
use Rattle.pp_endings_law.proofs.IdleOnes.{owing}
use Rattle.pp_flow.specs.Changes.{Exchanges, entry_of}
use Rattle.pp_flow.specs.declared.entry.Entry.{Entry}
use Rattle.pp_flow_law.proofs.Entries.{none_some}
use Rattle.pp_law.specs.Asking.{ask, ask_body, ask_next, asked_body, asked_text, asking, is_being_asked as asked_by_law, left_in}
use Rattle.pp_law.specs.Connections.{conn, exchange, is_client, is_conn, is_exchange, is_for, is_outstanding, on_client_of, on_exchange}
use Rattle.pp_law.specs.Lists.{Bytes, first_some}
use Rattle.pp_law.specs.State.{State, Client, Conn, Exchange}
use Rattle.pp_seats_law.specs.Exchanges.{ShowsExchange}
use Rattle.pp_state.specs.Asking.{is_being_asked, is_left}
use Rattle.pp_states_law.proofs.Kept.{GoesThrough}
use Rattle.pp_states_law.specs.Charges.{GoesOn}
use Rattle.pp_states_law.specs.Lines.{AllGo}
use Rattle.pp_states_law.specs.Losses.{IsComing}
use Rattle.pp_events_law.proofs.Standing.{go_through}

-- ---- the exchange that is asked next

still_asked : (out : Bool) (n : ℕ) → not (out && (n == 0)) ≡ (not out || nat_lt 0 n)
still_asked true n = grind (arith, nat_tests)
still_asked false n = refl

being_same : (number : ℕ → ℕ) (x : Entry) (e : Exchange) → ShowsExchange number x e → is_being_asked x ≡ asked_by_law e
being_same number x e shows = owing number x e shows ∙ still_asked (is_outstanding e) e.body_left

-- it is there, in the program too
pub record IsNextIn (number : ℕ → ℕ) (f : Exchanges) (s : State) (ns : List ℕ) (e : Exchange) : Type 0 where
  pub found : find (λ n. is_left (entry_of n f)) ns ≡ Some e.number
  pub known : exchange s e.number ≡ Some e

abbrev pub next_by_law : State → List ℕ → Option Exchange
next_by_law s ns = first_some (λ m. option_and_then left_in (exchange s m)) ns

pub next_in : (number : ℕ → ℕ) (f : Exchanges) (s : State) (each : (n : ℕ) → AreBoth (ShowsExchange number) (entry_of n f) (exchange s n)) (ns : List ℕ) (e : Exchange) → next_by_law s ns ≡ Some e → IsNextIn number f s ns e
next_in number f s each [] e next = absurd (none_some e next)
next_in number f s each (n ∷ ns) e next = by (entry_of n f) (exchange s n) refl refl (each n) next (λ rest. next_in number f s each ns e rest)
  where
    passes : is_left (entry_of n f) ≡ false → IsNextIn number f s ns e → IsNextIn number f s (n ∷ ns) e
    passes isnt rest = record { found = ap (λ (b : Bool). cond b (Some n) (find (λ m. is_left (entry_of m f)) ns)) isnt ∙ rest.found; known = rest.known }

    here : (x : Entry) (d : Exchange) → entry_of n f ≡ Some x → exchange s n ≡ Some d → ShowsExchange number x d → asked_by_law d ≡ true → d ≡ e → IsNextIn number f s (n ∷ ns) e
    here x d entry there shows asked same =
        let its : e.number ≡ n = ap (λ (i : Exchange). i.number) (sym same) ∙ is_same d.number n (find_passes (is_exchange n) s.exchanges d there) in record {
          found = ap (λ (b : Bool). cond b (Some n) (find (λ m. is_left (entry_of m f)) ns)) (ap (λ (o : Option Entry). is_left o) entry ∙ being_same number x d shows ∙ asked) ∙ ap (λ (i : ℕ). Some i) (sym its);
          known = ap (λ (i : ℕ). exchange s i) its ∙ there ∙ ap (λ (i : Exchange). Some i) same;
        }

    at : (x : Entry) (d : Exchange) (b : Bool) → entry_of n f ≡ Some x → exchange s n ≡ Some d → ShowsExchange number x d → asked_by_law d ≡ b
        → (elim (elim b as (λ t. Option Exchange) [ true ↦ Some d | false ↦ None ]) as (λ t. Option Exchange) [ Some y ↦ Some y | None ↦ next_by_law s ns ]) ≡ Some e → (next_by_law s ns ≡ Some e → IsNextIn number f s ns e) → IsNextIn number f s (n ∷ ns) e
    at x d true entry there shows asked is rest = here x d entry there shows asked (some_is d e is)
    at x d false entry there shows asked is rest = passes (ap (λ (o : Option Entry). is_left o) entry ∙ being_same number x d shows ∙ asked) (rest is)

    by : (o : Option Entry) (q : Option Exchange) → entry_of n f ≡ o → exchange s n ≡ q → AreBoth (ShowsExchange number) o q → (elim (option_and_then left_in q) as (λ t. Option Exchange) [ Some y ↦ Some y | None ↦ next_by_law s ns ]) ≡ Some e
        → (next_by_law s ns ≡ Some e → IsNextIn number f s ns e) → IsNextIn number f s (n ∷ ns) e
    by None None entry there both is rest = passes (ap (λ (o : Option Entry). is_left o) entry) (rest is)
    by (Some x) (Some d) entry there both is rest = at x d (asked_by_law d) entry there both refl is rest
    by None (Some d) entry there both is rest = absurd both
    by (Some x) None entry there both is rest = absurd both

pub line_of_next : (s : State) (k : ℕ) (j : Conn) (e : Exchange) → conn s k ≡ Some j → asking s k ≡ Some e → next_by_law s j.line ≡ Some e
line_of_next s k j e there next = sym (ap (λ (o : Option Conn). elim o as (λ t. Option Exchange) [ None ↦ None | Some i ↦ next_by_law s i.line ]) there) ∙ next

pub take_short : (n : ℕ) (xs : List ℕ) → length xs ≤ n → take n xs ≡ xs
take_short zero [] short = refl
take_short zero (x ∷ xs) short = absurd (omega (arith, short))
take_short (suc n) [] short = refl
take_short (suc n) (x ∷ xs) short = ap (λ (ys : List ℕ). x ∷ ys) (take_short n xs (omega (arith, short)))

-- ---- bytes that stand first

pub same_bytes : (xs : Bytes) → pointwise nat_eq xs xs ≡ true
same_bytes [] = refl
same_bytes (x ∷ xs) = ap₂ (λ (a b : Bool). a && b) (itself x) (same_bytes xs)
  where
    itself : (n : ℕ) → nat_eq n n ≡ true
    itself n = grind (arith, nat_tests)

-- ---- what is asked of a client's exchange leaves all else

-- it was there, and whose it is
record Had (s : State) (n : ℕ) (e : Exchange) : Type 0 where
  before : Exchange
  there : exchange s n ≡ Some before
  asker : (m : ℕ) → e.asker ≡ Some m → before.asker ≡ Some m

pub go_exchange : (g : Exchange → Exchange) → ((e : Exchange) → (g e).number ≡ e.number) → ((e : Exchange) → (g e).asker ≡ e.asker) → (s t : State) → t.exchanges ≡ map g s.exchanges → t.clients ≡ s.clients → AllGo s → AllGo t
go_exchange g number asker s t exchanges clients all = record {
  going = λ n e there m c asks found. let one : Had s n e = had n e there in all.going n one.before one.there m c (one.asker m asks) (client m c found);
  coming = λ n e there m c asks found. let one : Had s n e = had n e there in all.coming n one.before one.there m c (one.asker m asks) (client m c found);
}
  where
    client : (m : ℕ) (c : Client) → find (is_client m) t.clients ≡ Some c → find (is_client m) s.clients ≡ Some c
    client m c found = sym (ap (λ (cs : List Client). find (is_client m) cs) clients) ∙ found

    was : (n : ℕ) (e : Exchange) (o : Option Exchange) → exchange s n ≡ o → option_map g o ≡ Some e → Had s n e
    was n e None is found = absurd (none_some e found)
    was n e (Some d) is found = record { before = d; there = is; asker = λ m asks. sym (asker d) ∙ ap (λ (i : Exchange). i.asker) (some_is (g d) e found) ∙ asks }

    had : (n : ℕ) (e : Exchange) → exchange t n ≡ Some e → Had s n e
    had n e there = was n e (exchange s n) refl (sym (ap (λ (es : List Exchange). find (is_exchange n) es) exchanges ∙ find_mapped (is_exchange n) g s.exchanges (λ d. ap (λ (i : ℕ). i == n) (number d))) ∙ there)

-- so much of the body of its request, or of its text
asked_through : (n : ℕ) → GoesThrough (asked_body n)
asked_through n = record { number = λ c. refl; goes = λ c on. record { going = on.going; given = on.given }; comes = λ c on. on }

for_through : (e : Exchange) (f : Client → Client) → GoesThrough f → GoesThrough (λ c. elim (is_for e c) as (λ t. Client) [ true ↦ f c | false ↦ c ])
for_through e f goes = record { number = λ c. number_by c (is_for e c); goes = λ c on. goes_by c (is_for e c) on; comes = λ c on. comes_by c (is_for e c) on }
  where
    number_by : (c : Client) (b : Bool) → (elim b as (λ t. Client) [ true ↦ f c | false ↦ c ]).number ≡ c.number
    number_by c true = goes.number c
    number_by c false = refl

    goes_by : (c : Client) (b : Bool) → GoesOn c → GoesOn (elim b as (λ t. Client) [ true ↦ f c | false ↦ c ])
    goes_by c true on = goes.goes c on
    goes_by c false on = on

    comes_by : (c : Client) (b : Bool) → IsComing c → IsComing (elim b as (λ t. Client) [ true ↦ f c | false ↦ c ])
    comes_by c true on = goes.comes c on
    comes_by c false on = on

abbrev exchange_if : ℕ → (Exchange → Exchange) → Exchange → Exchange
exchange_if n f e = elim (is_exchange n e) as (λ t. Exchange) [ true ↦ f e | false ↦ e ]

text_go : (e : Exchange) (m : ℕ) (s : State) → AllGo s → AllGo (on_exchange e.number (asked_text m s.clock) s)
unfolding on_exchange
text_go e m s all = go_exchange (exchange_if e.number (asked_text m s.clock)) (λ d. by_number (is_exchange e.number d) d) (λ d. by_asker (is_exchange e.number d) d) s (on_exchange e.number (asked_text m s.clock) s) refl refl all
  where
    by_number : (b : Bool) (d : Exchange) → (elim b as (λ t. Exchange) [ true ↦ asked_text m s.clock d | false ↦ d ]).number ≡ d.number
    by_number true d = refl
    by_number false d = refl

    by_asker : (b : Bool) (d : Exchange) → (elim b as (λ t. Exchange) [ true ↦ asked_text m s.clock d | false ↦ d ]).asker ≡ d.asker
    by_asker true d = refl
    by_asker false d = refl

abbrev body_asked : ℕ → Exchange → Exchange
body_asked m d = record d { body_left = d.body_left - m }

body_go : (e : Exchange) (m : ℕ) (s : State) → AllGo s → AllGo (ask_body e m s)
unfolding ask_body on_client_of on_exchange
body_go e m s all =
    go_through (λ c. elim (is_for e c) as (λ t. Client) [ true ↦ asked_body m c | false ↦ c ]) (for_through e (asked_body m) (asked_through m)) (on_exchange e.number (body_asked m) s) (ask_body e m s) refl refl
    (go_exchange (exchange_if e.number (body_asked m)) (λ d. by_number (is_exchange e.number d) d) (λ d. by_asker (is_exchange e.number d) d) s (on_exchange e.number (body_asked m) s) refl refl all)
  where
    by_number : (b : Bool) (d : Exchange) → (elim b as (λ t. Exchange) [ true ↦ body_asked m d | false ↦ d ]).number ≡ d.number
    by_number true d = refl
    by_number false d = refl

    by_asker : (b : Bool) (d : Exchange) → (elim b as (λ t. Exchange) [ true ↦ body_asked m d | false ↦ d ]).asker ≡ d.asker
    by_asker true d = refl
    by_asker false d = refl

ask_conns : (k m : ℕ) (s : State) → (ask k m s).conns ≡ s.conns
unfolding ask ask_next ask_body on_client_of on_exchange
ask_conns k m s = by (asking s k)
  where
    of_one : (b : Bool) (e : Exchange) → (elim b as (λ t. State) [ false ↦ on_exchange e.number (asked_text m s.clock) s | true ↦ ask_body e m s ]).conns ≡ s.conns
    of_one true e = refl
    of_one false e = refl

    by : (o : Option Exchange) → (elim o as (λ t. State) [ None ↦ s | Some e ↦ ask_next e m s ]).conns ≡ s.conns
    by None = refl
    by (Some e) = of_one (is_outstanding e) e

-- clients and exchanges alone are changed
pub ask_rest : (k m : ℕ) (s : State) → ask k m s ≡ record s { clients = (ask k m s).clients; exchanges = (ask k m s).exchanges }
unfolding ask ask_next ask_body on_client_of on_exchange
ask_rest k m s = by (asking s k)
  where
    of_one : (b : Bool) (e : Exchange) → (elim b as (λ t. State) [ false ↦ on_exchange e.number (asked_text m s.clock) s | true ↦ ask_body e m s ]) ≡ record s {
      clients = (elim b as (λ t. State) [ false ↦ on_exchange e.number (asked_text m s.clock) s | true ↦ ask_body e m s ]).clients;
      exchanges = (elim b as (λ t. State) [ false ↦ on_exchange e.number (asked_text m s.clock) s | true ↦ ask_body e m s ]).exchanges;
    }
    of_one true e = refl
    of_one false e = refl

    by : (o : Option Exchange) → (elim o as (λ t. State) [ None ↦ s | Some e ↦ ask_next e m s ]) ≡ record s { clients = (elim o as (λ t. State) [ None ↦ s | Some e ↦ ask_next e m s ]).clients; exchanges = (elim o as (λ t. State) [ None ↦ s | Some e ↦ ask_next e m s ]).exchanges }
    by None = refl
    by (Some e) = of_one (is_outstanding e) e

pub ask_may : (k m : ℕ) (s : State) → MayClose s → MayClose (ask k m s)
unfolding ask ask_next
ask_may k m s may = record {
  apart = λ n. subst (λ (ks : List Conn). count_by (is_conn n) ks ≤ 1) (sym (ask_conns k m s)) (may.apart n);
  orderly = subst (λ (ks : List Conn). AreOrderly ks) (sym (ask_conns k m s)) may.orderly;
  go = by (asking s k);
}
  where
    of_one : (b : Bool) (e : Exchange) → AllGo (elim b as (λ t. State) [ false ↦ on_exchange e.number (asked_text m s.clock) s | true ↦ ask_body e m s ])
    of_one true e = body_go e m s may.go
    of_one false e = text_go e m s may.go

    by : (o : Option Exchange) → AllGo (elim o as (λ t. State) [ None ↦ s | Some e ↦ ask_next e m s ])
    by None = may.go
    by (Some e) = of_one (is_outstanding e) e
