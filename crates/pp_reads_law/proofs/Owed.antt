-- Of the law: what the event of an origin that can be read leaves of its connection, and of clients.
use Rattle.std.proofs.Common.{◌≡◌, ◌≤◌, ◌+◌, ◌-◌, ◌^◌, refl, sym, subst, ap, ◌∙◌, ℕ, Bool, true, false, map, List, [], ◌∷◌, Option, Some, None}
use Rattle.std.specs.Prelude.{option_map}
use Rattle.pp_cache_law.proofs.Finds.{find_mapped, find_passes}
use Rattle.pp_turns_law.proofs.Twice.{regains_once}
use Rattle.pp_endings_law.specs.Gone.{IsAnswering}
use Rattle.pp_events_law.proofs.Anew.{anew_if}
use Rattle.pp_law.specs.After.{event, owing}
use Rattle.pp_law.specs.Asking.{pipe_room, read_limit, read_room}
use Rattle.pp_law.specs.Connections.{conn, exchange, is_client, is_conn, on_client, on_conn}
use Rattle.pp_law.specs.Lists.{first_some}
use Rattle.pp_law.specs.Phases.{in_phase}
use Rattle.pp_law.specs.Replies.{is_regained, regained, regained_by}
use Rattle.pp_law.specs.Stages.{is_begun}
use Rattle.pp_law.specs.State.{State, Client, Conn, Exchange, Handling, ReadOf}
use Rattle.pp_law.specs.Turn.{marked_client, marked_conn, touch}
use Rattle.pp_laws.proofs.Lists.{From, in_map}
use Rattle.pp_laws.specs.Runs.{IsIn}
use Rattle.pp_reads_law.specs.Goes.{AllGoOn, GoesOnTo}

abbrev pub owed_read : ℕ → State → State
owed_read k s = event (owing (ReadOf k) k s)

pub its_conn : (k : ℕ) (s : State) (j : Conn) → conn s k ≡ Some j → conn (owed_read k s) k ≡ Some (marked_conn s.clock j)
unfolding event owing regained touch on_conn on_client
its_conn k s j there = find_mapped (is_conn k) (λ i. elim (is_conn k i) as (λ t. Conn) [ true ↦ marked_conn s.clock i | false ↦ i ]) s.conns (λ i. same (is_conn k i) i) ∙ ap (λ (o : Option Conn). option_map (λ i. elim (is_conn k i) as (λ t. Conn) [ true ↦ marked_conn s.clock i | false ↦ i ]) o) there ∙ ap (λ (b : Bool). Some (elim b as (λ t. Conn) [ true ↦ marked_conn s.clock j | false ↦ j ])) (find_passes (is_conn k) s.conns j there)
  where
    same : (b : Bool) (i : Conn) → is_conn k (elim b as (λ t. Conn) [ true ↦ marked_conn s.clock i | false ↦ i ]) ≡ is_conn k i
    same true i = refl
    same false i = refl

pub its_answers : (k : ℕ) (s : State) (j : Conn) → IsAnswering s j → IsAnswering (owed_read k s) (marked_conn s.clock j)
unfolding event owing regained touch on_conn on_client
its_answers k s j one = record { first = one.first; others = one.others; line = one.line; known = one.known; whole = one.whole }

pub once_anew : (k : ℕ) (s : State) → regained (owed_read k s) ≡ owed_read k s
unfolding event
once_anew k s = regains_once (in_phase Handling (owing (ReadOf k) k s))

-- ---- each client stands as it was, but for its attempts and its mark

kept_of : ℕ → State → Client → Client
kept_of k s c = regained_by s (elim (is_client k c) as (λ t. Client) [ true ↦ marked_client s.clock c | false ↦ c ])

same_clients : (k : ℕ) (s : State) → (owed_read k s).clients ≡ map (kept_of k s) s.clients
unfolding event owing regained touch on_conn on_client kept_of
same_clients k s = map_twice (regained_by s) (λ c. elim (is_client k c) as (λ t. Client) [ true ↦ marked_client s.clock c | false ↦ c ]) s.clients
  where
    map_twice : (g f : Client → Client) (cs : List Client) → map g (map f cs) ≡ map (λ c. g (f c)) cs
    map_twice g f [] = refl
    map_twice g f (c ∷ cs) = ap (λ (ds : List Client). g (f c) ∷ ds) (map_twice g f cs)

kept_same : {A : Type 0} (k : ℕ) (s : State) (g : Client → A) → ((b : Bool) (c : Client) → g (anew_if b c) ≡ g c) → ((c : Client) → g (marked_client s.clock c) ≡ g c) → (c : Client) → g (kept_of k s c) ≡ g c
unfolding kept_of
kept_same k s g anew mark c = by (is_client k c)
  where
    by : (b : Bool) → g (regained_by s (elim b as (λ t. Client) [ true ↦ marked_client s.clock c | false ↦ c ])) ≡ g c
    by true = anew (is_regained s (marked_client s.clock c)) (marked_client s.clock c) ∙ mark c
    by false = anew (is_regained s c) c

-- ---- how much may be read

abbrev room_in : State → Option Exchange → ℕ
room_in s o = elim o as (λ t. ℕ) [ None ↦ read_limit | Some e ↦ elim (first_some (pipe_room e) s.clients) as (λ t. ℕ) [ None ↦ read_limit | Some n ↦ n ] ]

mapped_room : (e : Exchange) (f : Client → Client) → ((c : Client) → pipe_room e (f c) ≡ pipe_room e c) → (cs : List Client) → first_some (pipe_room e) (map f cs) ≡ first_some (pipe_room e) cs
mapped_room e f same [] = refl
mapped_room e f same (c ∷ cs) = ap (λ (o : Option ℕ). elim o as (λ t. Option ℕ) [ Some n ↦ Some n | None ↦ first_some (pipe_room e) (map f cs) ]) (same c) ∙ ap (λ (rest : Option ℕ). elim (pipe_room e c) as (λ t. Option ℕ) [ Some n ↦ Some n | None ↦ rest ]) (mapped_room e f same cs)

its_pipe : (k : ℕ) (s : State) (e : Exchange) (c : Client) → pipe_room e (kept_of k s c) ≡ pipe_room e c
its_pipe k s e c = kept_same k s (λ d. pipe_room e d) (λ b d. by b d) (λ d. refl) c
  where
    by : (b : Bool) (d : Client) → pipe_room e (anew_if b d) ≡ pipe_room e d
    by true d = refl
    by false d = refl

same_room : (k : ℕ) (s : State) (o : Option Exchange) → room_in (owed_read k s) o ≡ room_in s o
same_room k s None = refl
same_room k s (Some e) =
    ap (λ (cs : List Client). elim (first_some (pipe_room e) cs) as (λ t. ℕ) [ None ↦ read_limit | Some n ↦ n ]) (same_clients k s)
    ∙ ap (λ (o : Option ℕ). elim o as (λ t. ℕ) [ None ↦ read_limit | Some n ↦ n ]) (mapped_room e (kept_of k s) (its_pipe k s e) s.clients)

abbrev first_in : State → List ℕ → Option Exchange
first_in s line = elim line as (λ t. Option Exchange) [ [] ↦ None | m ∷ others ↦ exchange s m ]

same_first : (k : ℕ) (s : State) (line : List ℕ) → first_in (owed_read k s) line ≡ first_in s line
unfolding event owing regained touch on_conn on_client
same_first k s [] = refl
same_first k s (m ∷ others) = refl

abbrev room_at : State → Option Conn → ℕ
room_at s o = elim o as (λ t. ℕ) [ None ↦ 0 | Some i ↦ room_in s (first_in s i.line) ]

pub same_read_room : (k : ℕ) (s : State) (j : Conn) → conn s k ≡ Some j → read_room (owed_read k s) k ≡ read_room s k
same_read_room k s j there =
    ap (λ (o : Option Conn). room_at (owed_read k s) o) (its_conn k s j there)
    ∙ ap (λ (o : Option Exchange). room_in (owed_read k s) o) (same_first k s j.line)
    ∙ same_room k s (first_in s j.line)
    ∙ ap (λ (o : Option Conn). room_at s o) (sym there)

-- ---- who goes on to a next request

pub all_go_on : (k : ℕ) (s : State) → AllGoOn s → AllGoOn (owed_read k s)
all_go_on k s all c within = by c (in_map (kept_of k s) c s.clients (subst (λ (cs : List Client). IsIn c cs) (same_clients k s) within))
  where
    same : {A : Type 0} (g : Client → A) → ((b : Bool) (d : Client) → g (anew_if b d) ≡ g d) → ((d : Client) → g (marked_client s.clock d) ≡ g d) → (d : Client) → g (kept_of k s d) ≡ g d
    same g anew mark d = kept_same k s g anew mark d

    goes : (d : Client) → (d.is_closing ≡ false → is_begun d ≡ true → d.closes ≡ false → GoesOnTo d) → (kept_of k s d).is_closing ≡ false → is_begun (kept_of k s d) ≡ true → (kept_of k s d).closes ≡ false → GoesOnTo (kept_of k s d)
    goes d on going begun closes =
        let one : GoesOnTo d = on (sym (same (λ e. e.is_closing) (λ b e. closing_as b e) (λ e. refl) d) ∙ going) (sym (same (λ e. is_begun e) (λ b e. begun_as b e) (λ e. refl) d) ∙ begun) (sym (same (λ e. e.closes) (λ b e. closes_as b e) (λ e. refl) d) ∙ closes) in
        record {
          request = one.request;
          front = same (λ e. e.front) (λ b e. front_as b e) (λ e. refl) d ∙ one.front;
          known = one.known;
          counted = subst (λ (n : ℕ). n + 1 ≤ 2 ^ 64 - 1) (sym (same (λ e. e.index) (λ b e. index_as b e) (λ e. refl) d)) one.counted;
        }
      where
        closing_as : (b : Bool) (e : Client) → (anew_if b e).is_closing ≡ e.is_closing
        closing_as true e = refl
        closing_as false e = refl

        begun_as : (b : Bool) (e : Client) → is_begun (anew_if b e) ≡ is_begun e
        begun_as true e = refl
        begun_as false e = refl

        closes_as : (b : Bool) (e : Client) → (anew_if b e).closes ≡ e.closes
        closes_as true e = refl
        closes_as false e = refl

        front_as : (b : Bool) (e : Client) → (anew_if b e).front ≡ e.front
        front_as true e = refl
        front_as false e = refl

        index_as : (b : Bool) (e : Client) → (anew_if b e).index ≡ e.index
        index_as true e = refl
        index_as false e = refl

    by : (c : Client) → From (kept_of k s) s.clients c → c.is_closing ≡ false → is_begun c ≡ true → c.closes ≡ false → GoesOnTo c
    by c r = subst (λ (d : Client). d.is_closing ≡ false → is_begun d ≡ true → d.closes ≡ false → GoesOnTo d) (sym r.is) (goes r.was (all r.was r.there))
