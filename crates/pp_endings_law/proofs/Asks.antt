-- Which connections to origins are written to at the end of a turn.
use Rattle.std.proofs.Common.{◌≡◌, ◌≤◌, refl, sym, subst, ap, ap₂, ◌∙◌, ℕ, zero, suc, ◌-◌, Bool, true, false, not, ◌==◌, ◌&&◌, ◌||◌, cond, drop, find, length, min, nat_lt, take, List, [], ◌∷◌, Some, None, Option, arith}
use Rattle.std.proofs.lemmas.Bool.Decides.{nat_tests}
use Rattle.std.specs.List.{list_any}
use Rattle.std.specs.Prelude.{option_and_then, slice_get}
use Rattle.pp_cache_law.proofs.Numbers.{some_is, true_false}
use Rattle.pp_cache_law.specs.Pairs.{AreBoth}
use Rattle.pp_client.specs.Bodies.{unread}
use Rattle.pp_client.specs.Requests.{body_in}
use Rattle.pp_client.specs.declared.body.Body.{Body}
use Rattle.pp_client.specs.declared.body.Body.TheVariants.{Unread, Dropped, Over}
use Rattle.pp_turns_law.proofs.Regained.{next_suc}
use Rattle.pp_flow.specs.Changes.{entry_of, line_of}
use Rattle.pp_flow.specs.declared.entry.Entry.{Entry}
use Rattle.pp_flow_law.proofs.Entries.{other_way}
use Rattle.pp_flow_law.specs.Tables.{line_in, none_leaves}
use Rattle.pp_law.specs.Asking.{body_heard, left_to_ask}
use Rattle.pp_law.specs.Connections.{exchange, is_for, is_outstanding}
use Rattle.pp_law.specs.Lists.{Bytes, has_number, is_some_with, is_this}
use Rattle.pp_law.specs.State.{State, Client, Conn, Exchange}
use Rattle.pp_peers.specs.declared.peers.Peer.{Peer}
use Rattle.pp_peers_law.specs.Peers.{ShowsAsk, ShowsConn, ShowsLine}
use Rattle.pp_pipe.specs.declared.asks.Ask.{Ask}
use Rattle.pp_seats.specs.declared.seat.Seat.{Seat}
use Rattle.pp_seats_law.proofs.Entries.{exchanges}
use Rattle.pp_seats_law.specs.Clients.{AreShown, IsAt, IsNowhere}
use Rattle.pp_seats_law.specs.Exchanges.{ShowsExchange}
use Rattle.pp_seats_law.specs.Fronts.{ShowsBody}
use Rattle.pp_seats_law.specs.Seats.{ShowsOpen, ShowsSeat}
use Rattle.pp_state.specs.Asking.{asking_of, body_from, has_heard_body, is_left, is_there_to_ask, what_is_left}
use Rattle.pp_state.specs.Ends.{numbers_of, place_of, seat_for}
use Rattle.pp_state.specs.declared.asking.Asking.TheVariants.{Text}
use Rattle.pp_state.specs.declared.state.State.{State as Turn}
use Rattle.pp_states_law.proofs.Lines.{all_found, same_itself}
use Rattle.pp_states_law.proofs.Places.{at_place, no_place}
use Rattle.pp_text.specs.Bytes.{is_empty}
use Rattle.pp_turns_law.specs.Wants.{ShowsEnd}
use Rattle.pp_endings_law.proofs.IdleOnes.{owes, owing}
use Rattle.pp_endings_law.proofs.Read.{conn_found, conn_shown}
use Rattle.pp_endings_law.specs.Waits.{OriginsAreAskedAsTheLaws}

-- ---- lists

take_short : (n : ℕ) (xs : List ℕ) → length xs ≤ n → take n xs ≡ xs
take_short zero [] short = refl
take_short zero (x ∷ xs) short = absurd (omega (arith, short))
take_short (suc n) [] short = refl
take_short (suc n) (x ∷ xs) short = ap (λ (ys : List ℕ). x ∷ ys) (take_short n xs (omega (arith, short)))

some_left : (n : ℕ) (xs : Bytes) → n ≤ length xs → (n == length xs) ≡ false → is_empty (drop n xs) ≡ false
some_left zero [] less isnt = absurd (true_false isnt)
some_left zero (x ∷ xs) less isnt = refl
some_left (suc n) [] less isnt = absurd (omega (arith, less))
some_left (suc n) (x ∷ xs) less isnt = some_left n xs (omega (arith, less)) (sym (next_suc n (length xs)) ∙ isnt)

both_more : (b a : ℕ) → min (suc b) (suc a) ≡ suc (min b a)
both_more b a = omega arith

none_less : (b : ℕ) → min b 0 ≡ 0
none_less b = omega arith

nothing_less : (a : ℕ) → min 0 a ≡ 0
nothing_less a = omega arith

is_some_length : (n : ℕ) → nat_lt 0 (suc n) ≡ true
is_some_length n = grind (arith, nat_tests)

heard_same : (b a : ℕ) (xs : Bytes) → (b == 0) ≡ false → nat_lt 0 (length (take a xs)) ≡ not (is_empty (take (min b a) xs))
heard_same zero a xs some = absurd (true_false some)
heard_same (suc b) zero xs some = sym (ap (λ (n : ℕ). not (is_empty (take n xs))) (none_less (suc b)))
heard_same (suc b) (suc a) [] some = sym (ap (λ (n : ℕ). let none : Bytes = [] in not (is_empty (take n none))) (both_more b a))
heard_same (suc b) (suc a) (x ∷ xs) some = is_some_length (length (take a xs)) ∙ sym (ap (λ (n : ℕ). not (is_empty (take n (x ∷ xs)))) (both_more b a))

unread_is : (body : Body) (left skip : ℕ) → ShowsBody body left skip → unread body ≡ left
unread_is (Unread n) left skip shows = sym shows.0
unread_is (Dropped n) left skip shows = sym shows.0
unread_is Over left skip shows = sym shows.0

-- ---- what was heard of a body

abbrev heard_by : Exchange → Option Client → Bytes
heard_by e o = elim o [ None ↦ [] | Some c ↦ take (min e.body_left c.body_left) c.heard ]

find_none : (e : Exchange) → e.asker ≡ None → (cs : List Client) → find (is_for e) cs ≡ None
find_none e none [] = refl
find_none e none (c ∷ cs) = ap (λ (o : Option ℕ). cond (is_this c.number o) (Some c) (find (is_for e) cs)) none ∙ find_none e none cs

module _ (number : ℕ → ℕ) (name : Bytes) (e : Exchange) (n : ℕ) (asks : e.asker ≡ Some n) where
  not_its : (seat : Seat) (c : Client) → ShowsSeat number name [] seat c → (seat.client.id == n) ≡ false → is_for e c ≡ false
  not_its seat c shows off = ap (λ (o : Option ℕ). is_this c.number o) asks ∙ other_way c.number n (ap (λ (m : ℕ). m == n) (sym shows.number) ∙ off)

  nowhere_found : (seats : List Seat) (cs : List Client) → AreShown number name [] seats cs → IsNowhere n seats → find (is_for e) cs ≡ None
  nowhere_found [] [] shown none = refl
  nowhere_found [] (c ∷ cs) shown none = absurd shown
  nowhere_found (seat ∷ seats) [] shown none = absurd shown
  nowhere_found (seat ∷ seats) (c ∷ cs) shown none = ap (λ (b : Bool). cond b (Some c) (find (is_for e) cs)) (not_its seat c shown.0 none.0) ∙ nowhere_found seats cs shown.1 none.1

  same_id : (m k : ℕ) → (m == k) ≡ true → (k == m) ≡ true
  same_id m k is = grind (arith, nat_tests, is)

  seat_heard : (seat : Seat) (c : Client) → ShowsOpen number name [] seat c → (e.body_left == 0) ≡ false → nat_lt 0 (length (body_in seat.client.heard)) ≡ not (is_empty (heard_by e (Some c)))
  seat_heard seat c live some =
      ap₂ (λ (a : ℕ) (xs : Bytes). nat_lt 0 (length (take a xs))) (unread_is seat.client.heard.body c.body_left c.skip live.body) live.heard.behind ∙ heard_same e.body_left c.body_left c.heard some

  place_heard : (i : ℕ) (seats : List Seat) (cs : List Client) → AreShown number name [] seats cs → ((j : ℕ) (c : Client) → slice_get cs j ≡ Some c → c.is_closing ≡ false) → IsAt n i seats → (e.body_left == 0) ≡ false
      → has_heard_body (slice_get seats i) ≡ not (is_empty (heard_by e (find (is_for e) cs)))
  place_heard i [] cs shown going at some = absurd at
  place_heard zero (seat ∷ seats) [] shown going at some = absurd shown
  place_heard (suc i) (seat ∷ seats) [] shown going at some = absurd shown
  place_heard zero (seat ∷ seats) (c ∷ cs) shown going at some =
      let its : is_for e c ≡ true = ap (λ (o : Option ℕ). is_this c.number o) asks ∙ same_id c.number n (ap (λ (m : ℕ). m == n) (sym shown.0.number) ∙ at.0) in
      seat_heard seat c (shown.0.going (going 0 c refl)) some ∙ ap (λ (b : Bool). not (is_empty (heard_by e (cond b (Some c) (find (is_for e) cs))))) (sym its)
  place_heard (suc i) (seat ∷ seats) (c ∷ cs) shown going at some =
      place_heard i seats cs shown.1 (λ j d here. going (suc j) d here) at.1 some
      ∙ ap (λ (b : Bool). not (is_empty (heard_by e (cond b (Some c) (find (is_for e) cs))))) (sym (not_its seat c shown.0 at.0))

-- ---- one exchange of the line

abbrev asks_one : State → Option Exchange → Bool
asks_one s o = is_some_with (λ e. not (is_empty (left_to_ask s e))) o

abbrev left_by : State → Exchange → Bool → Bytes
left_by s e out = elim out [ false ↦ drop e.asked e.text | true ↦ body_heard s e ]

module _ (number : ℕ → ℕ) (peers : List Peer) (p : Turn) (s : State) (shows : ShowsEnd number none_leaves peers p s) where
  -- its text is not asked whole
  text_there : (n : ℕ) (x : Entry) (e : Exchange) → ShowsExchange number x e → is_outstanding e ≡ false → is_there_to_ask p.seats.items (what_is_left n p.seats.items (Some x)) ≡ true
  text_there n x e same out =
      ap (λ (b : Bool). is_there_to_ask p.seats.items (cond b (body_from n x.errand.body_left (seat_for x.exchange p.seats.items)) (Some (Text n (length x.text.items - x.errand.asked)))))
      ((exchanges number x e same).outstanding ∙ out)

  text_left : (e : Exchange) (ask : Ask) → ShowsAsk ask e → is_outstanding e ≡ false → asks_one s (Some e) ≡ true
  text_left e ask shown out =
      let text = shown.text in
      let few : e.asked ≤ length e.text = omega (arith, text) in
      ap (λ (b : Bool). not (is_empty (left_by s e b))) out ∙ ap not (some_left e.asked e.text few out)

  -- nothing is left of it
  nothing_left : (e : Exchange) → is_outstanding e ≡ true → (e.body_left == 0) ≡ true → asks_one s (Some e) ≡ false
  nothing_left e out none =
      ap (λ (b : Bool). not (is_empty (left_by s e b))) out ∙ ap not (by (find (is_for e) s.clients))
    where
      zero_is : (m : ℕ) → (m == 0) ≡ true → m ≡ 0
      zero_is m is = grind (arith, nat_tests, is)

      by : (o : Option Client) → is_empty (heard_by e o) ≡ true
      by None = refl
      by (Some c) = ap (λ (m : ℕ). is_empty (take m c.heard)) (ap (λ (m : ℕ). min m c.body_left) (zero_is e.body_left none) ∙ nothing_less c.body_left)

  -- its body is
  body_there : (n : ℕ) (x : Entry) (e : Exchange) → ShowsExchange number x e → is_outstanding e ≡ true → (e.body_left == 0) ≡ false → is_there_to_ask p.seats.items (what_is_left n p.seats.items (Some x)) ≡ asks_one s (Some e)
  body_there n x e same out some =
      ap (λ (b : Bool). is_there_to_ask p.seats.items (cond b (body_from n x.errand.body_left (seat_for x.exchange p.seats.items)) (Some (Text n (length x.text.items - x.errand.asked)))))
      ((exchanges number x e same).outstanding ∙ out)
      ∙ by e.asker refl
      ∙ sym (ap (λ (b : Bool). not (is_empty (left_by s e b))) out)
    where
      at_seat : Option ℕ → Bool
      at_seat asker = is_there_to_ask p.seats.items (body_from n x.errand.body_left (option_and_then (λ client. place_of client (numbers_of p.seats.items)) asker))

      at : (m : ℕ) → e.asker ≡ Some m → (o : Option ℕ) → place_of m (numbers_of p.seats.items) ≡ o → is_there_to_ask p.seats.items (body_from n x.errand.body_left o) ≡ not (is_empty (heard_by e (find (is_for e) s.clients)))
      at m asks None none =
          ap (λ (o : Option Client). not (is_empty (heard_by e o))) (sym (nowhere_found number p.name.items e m asks p.seats.items s.clients shows.turn.steps.shows.clients (no_place m p.seats.items none)))
      at m asks (Some i) found =
          place_heard number p.name.items e m asks i p.seats.items s.clients shows.turn.steps.shows.clients shows.going (at_place m i p.seats.items shows.turn.steps.order found) some

      by : (o : Option ℕ) → e.asker ≡ o → is_there_to_ask p.seats.items (body_from n x.errand.body_left (seat_for x.exchange p.seats.items)) ≡ not (is_empty (heard_by e (find (is_for e) s.clients)))
      by None none = ap at_seat (same.asker ∙ none) ∙ ap (λ (o : Option Client). not (is_empty (heard_by e o))) (sym (find_none e none s.clients))
      by (Some m) asks = ap at_seat (same.asker ∙ asks) ∙ at m asks (place_of m (numbers_of p.seats.items)) refl

  -- ---- the line

  abbrev asks_in : Option ℕ → Bool
  asks_in o = is_there_to_ask p.seats.items (asking_of p.seats.items p.flow o)

  abbrev first_left : List ℕ → Option ℕ
  first_left ns = find (λ n. is_left (entry_of n p.flow)) ns

  abbrev any_left : List ℕ → Bool
  any_left ns = list_any (λ n. asks_one s (exchange s n)) ns

  entry_at : (n : ℕ) (e : Exchange) → exchange s n ≡ Some e → (x : Entry) × (entry_of n p.flow ≡ Some x) × ShowsExchange number x e
  entry_at n e there = by (entry_of n p.flow) refl (subst (λ (o : Option Exchange). AreBoth (ShowsExchange number) (entry_of n p.flow) o) there (shows.turn.steps.shows.exchanges.each n))
    where
      by : (o : Option Entry) → entry_of n p.flow ≡ o → AreBoth (ShowsExchange number) o (Some e) → (x : Entry) × (entry_of n p.flow ≡ Some x) × ShowsExchange number x e
      by None none both = absurd both
      by (Some x) is both = (x, is, both)

  -- the first is left to ask
  asked_first : (n : ℕ) (ns : List ℕ) (x : Entry) (e : Exchange) → entry_of n p.flow ≡ Some x → ShowsExchange number x e → owes e ≡ false → asks_in (first_left (n ∷ ns)) ≡ is_there_to_ask p.seats.items (what_is_left n p.seats.items (Some x))
  asked_first n ns x e here same isnt =
      ap (λ (b : Bool). asks_in (cond b (Some n) (first_left ns))) (ap is_left here ∙ owing number x e same ∙ ap not isnt)
      ∙ ap (λ (o : Option Entry). is_there_to_ask p.seats.items (what_is_left n p.seats.items o)) here

  -- of none a body is left
  texts : (ns : List ℕ) (asks : List Ask) → ShowsLine s ns asks → ((m : ℕ) (e : Exchange) → has_number m ns ≡ true → exchange s m ≡ Some e → (e.body_left == 0) ≡ true) → asks_in (first_left ns) ≡ any_left ns
  texts [] asks shown none = refl
  texts (n ∷ ns) [] shown none = absurd shown
  texts (n ∷ ns) (ask ∷ asks) shown none = by (is_outstanding shown.0.0) refl (texts ns asks shown.1 (λ m d has there. none m d (or_later (n == m) (has_number m ns) has) there))
    where
      e : Exchange
      e = shown.0.0

      it : (x : Entry) × (entry_of n p.flow ≡ Some x) × ShowsExchange number x e
      it = entry_at n e shown.0.1

      body : (e.body_left == 0) ≡ true
      body = none n e (ap (λ (b : Bool). b || has_number n ns) (same_itself n)) shown.0.1

      or_later : (a b : Bool) → b ≡ true → (a || b) ≡ true
      or_later true b is = refl
      or_later false b is = is

      law : any_left (n ∷ ns) ≡ (asks_one s (Some e) || any_left ns)
      law = ap (λ (o : Option Exchange). asks_one s o || any_left ns) shown.0.1

      by : (b : Bool) → is_outstanding e ≡ b → asks_in (first_left ns) ≡ any_left ns → asks_in (first_left (n ∷ ns)) ≡ any_left (n ∷ ns)
      by true out rest =
          let all : owes e ≡ true = ap₂ (λ (a b : Bool). a && b) out body in
          ap (λ (b : Bool). asks_in (cond b (Some n) (first_left ns))) (ap is_left it.1 ∙ owing number it.0 e it.2 ∙ ap not all)
          ∙ rest
          ∙ sym (law ∙ ap (λ (b : Bool). b || any_left ns) (nothing_left e out body))
      by false out rest =
          asked_first n ns it.0 e it.1 it.2 (ap (λ (b : Bool). b && (e.body_left == 0)) out)
          ∙ text_there n it.0 e it.2 out
          ∙ sym (law ∙ ap (λ (b : Bool). b || any_left ns) (text_left e ask shown.0.2 out))

  -- of the one that is alone, it is
  body_alone : (n : ℕ) (ask : Ask) (e : Exchange) → exchange s n ≡ Some e → ShowsAsk ask e → (e.body_left == 0) ≡ false → asks_in (first_left (n ∷ [])) ≡ any_left (n ∷ [])
  body_alone n ask e there shown some = by (is_outstanding e) refl
    where
      it : (x : Entry) × (entry_of n p.flow ≡ Some x) × ShowsExchange number x e
      it = entry_at n e there

      or_none : (b : Bool) → b ≡ (b || false)
      or_none true = refl
      or_none false = refl

      and_false : (b : Bool) → (b && false) ≡ false
      and_false true = refl
      and_false false = refl

      isnt : owes e ≡ false
      isnt = ap (λ (b : Bool). is_outstanding e && b) some ∙ and_false (is_outstanding e)

      law : any_left (n ∷ []) ≡ (asks_one s (Some e) || false)
      law = ap (λ (o : Option Exchange). asks_one s o || false) there

      by : (b : Bool) → is_outstanding e ≡ b → asks_in (first_left (n ∷ [])) ≡ any_left (n ∷ [])
      by true out = asked_first n [] it.0 e it.1 it.2 isnt ∙ body_there n it.0 e it.2 out some ∙ or_none (asks_one s (Some e)) ∙ sym law
      by false out = asked_first n [] it.0 e it.1 it.2 isnt ∙ text_there n it.0 e it.2 out ∙ sym (law ∙ ap (λ (b : Bool). b || false) (text_left e ask shown out))

  length_two : (m n a : ℕ) (ns : List ℕ) → m ∷ n ∷ ns ≡ a ∷ [] → ⊥
  length_two m n a ns same = absurd (let bad : suc (suc (length ns)) ≡ suc zero = ap (λ (xs : List ℕ). length xs) same in omega (arith, bad))

  line_asks : (line : List ℕ) (asks : List Ask) → ShowsLine s line asks → ((m : ℕ) (e : Exchange) → has_number m line ≡ true → exchange s m ≡ Some e → (e.body_left == 0) ≡ false → line ≡ m ∷ []) → asks_in (first_left line) ≡ any_left line
  line_asks [] asks shown alone = refl
  line_asks (n ∷ ns) [] shown alone = absurd shown
  line_asks (n ∷ []) (ask ∷ asks) shown alone = by (shown.0.0.body_left == 0) refl
    where
      only : (m k : ℕ) → ((m == k) || false) ≡ true → m ≡ k
      only m k is = grind (arith, nat_tests, is)

      by : (b : Bool) → (shown.0.0.body_left == 0) ≡ b → asks_in (first_left (n ∷ [])) ≡ any_left (n ∷ [])
      by true none =
          texts (n ∷ []) (ask ∷ asks) shown
          (λ m e has there. ap (λ (d : Exchange). d.body_left == 0) (some_is e shown.0.0 (sym there ∙ ap (λ (i : ℕ). exchange s i) (sym (only n m has)) ∙ shown.0.1)) ∙ none)
      by false some = body_alone n ask shown.0.0 shown.0.1 shown.0.2 some
  line_asks (n ∷ k ∷ ns) (ask ∷ asks) shown alone =
      texts (n ∷ k ∷ ns) (ask ∷ asks) shown (λ m e has there. by m e has there (e.body_left == 0) refl)
    where
      by : (m : ℕ) (e : Exchange) → has_number m (n ∷ k ∷ ns) ≡ true → exchange s m ≡ Some e → (b : Bool) → (e.body_left == 0) ≡ b → b ≡ true
      by m e has there true none = refl
      by m e has there false some = absurd (length_two n k m ns (alone m e has there some))

pub origins_asked : OriginsAreAskedAsTheLaws
origins_asked number peers p s i peer k shows apart here there may =
    ap₂ (λ (b : Bool) (m : ℕ). b && asks_by m) seen.is_reached seen.number
    ∙ ap (λ (ns : List ℕ). k.is_reached && asks_at (take 16 ns)) line
    ∙ ap (λ (ns : List ℕ). k.is_reached && asks_at ns) (take_short 16 k.line may.short)
    ∙ ap (λ (b : Bool). k.is_reached && b) (line_asks number peers p s shows k.line peer.pipe.asks (seen.pipe may.goes_on).line may.alone)
  where
    asks_at : List ℕ → Bool
    asks_at ns = is_there_to_ask p.seats.items (asking_of p.seats.items p.flow (find (λ n. is_left (entry_of n p.flow)) ns))

    asks_by : ℕ → Bool
    asks_by m = asks_at (take 16 (line_of m p.flow.placed))

    seen : ShowsConn s peer k
    seen = conn_shown s i peers s.conns peer k shows.turn.steps.shows.conns here there

    line : line_of k.number p.flow.placed ≡ k.line
    line = shows.turn.steps.shows.exchanges.lines k.number ∙ ap (λ (o : Option Conn). line_in o) (conn_found s i s.conns k (all_found s apart) there)
