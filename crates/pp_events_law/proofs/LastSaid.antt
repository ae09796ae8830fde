-- What the last bytes of a reply leave of their client, in the law, and of its seat.
use Rattle.std.proofs.Common.{◌≡◌, ◌≤◌, refl, ap, ap₂, ◌∙◌, ℕ, Bool, true, false, List, [], ◌∷◌}
use Rattle.pp_client.specs.Replies.{Reply as Said, is_said, left_next, said}
use Rattle.pp_client.specs.declared.interim.Interim.{Interim}
use Rattle.pp_client.specs.declared.reply.Begin.{Begin}
use Rattle.pp_client.specs.declared.reply.Begin.TheVariants.{Page, Instance as OfInstance, Passed as IsPassed}
use Rattle.pp_client.specs.declared.reply.Stage.{Stage as SaidStage}
use Rattle.pp_client.specs.declared.reply.Stage.TheVariants.{Due, Begun}
use Rattle.pp_clients_obey.proofs.Walks.{change_twice}
use Rattle.pp_turns_law.proofs.Quit.{closing_client}
use Rattle.pp_desk.specs.Replies.{account_renewed}
use Rattle.pp_endings_law.proofs.Kept.{KeepsNumber}
use Rattle.pp_endings_law.proofs.Law.{Steps, WasAsk, next_state}
use Rattle.pp_events_law.proofs.Kept.{next_said, said_through}
use Rattle.pp_law.specs.Closing.{close_client, forsake, is_of}
use Rattle.pp_law.specs.Connections.{is_client, on_client}
use Rattle.pp_law.specs.Lists.{Bytes, change, without}
use Rattle.pp_law.specs.Replies.{end_reply, next_request, said_by}
use Rattle.pp_law.specs.State.{State, Client, Reply, Stage, Undecided, Waiting, Passing, Answering}
use Rattle.pp_law.specs.Table.{is_left_over, swept}
use Rattle.pp_seats.specs.Accounts.{anew, said as said_account}
use Rattle.pp_seats.specs.Courses.{has_begun, has_begun_in}
use Rattle.pp_seats.specs.Follows.{answer_in}
use Rattle.pp_seats.specs.Seats.{at_next_request}
use Rattle.pp_seats.specs.declared.account.Account.{Account}
use Rattle.pp_seats.specs.declared.account.Account.TheVariants.{Unkept, Due as IsDue, Begun as HasBegun}
use Rattle.pp_pass.specs.Pipe.{Pipe}
use Rattle.pp_seats.specs.declared.seat.Answer.{Answer}
use Rattle.pp_seats.specs.declared.seat.Seat.{Seat}
use Rattle.pp_seats.specs.declared.seat.Stage.{Stage as SeatStage}
use Rattle.pp_seats.specs.declared.seat.Stage.TheVariants.{Undecided as IsUndecided, Waiting as IsWaiting, Passing as IsPassing, Answering as IsAnswering}
use Rattle.pp_seats_law.proofs.SaidOn.{IsToldBy, open_told, parts}
use Rattle.pp_seats_law.specs.Replies.{ShowsBegin, ShowsStage}
use Rattle.pp_seats_law.specs.Seats.{ShowsOpen}

-- ---- of the law

change_as : (n : ℕ) (f g : Client → Client) → ((c : Client) → f c ≡ g c) → (cs : List Client) → change (is_client n) f cs ≡ change (is_client n) g cs
change_as n f g same [] = refl
change_as n f g same (c ∷ cs) = ap₂ (λ (d : Client) (ds : List Client). d ∷ ds) (by (is_client n c)) (change_as n f g same cs)
  where
    by : (b : Bool) → (elim b as (λ t. Client) [ true ↦ f c | false ↦ c ]) ≡ (elim b as (λ t. Client) [ true ↦ g c | false ↦ c ])
    by true = same c
    by false = refl

on_twice : (n : ℕ) (f g : Client → Client) → KeepsNumber f → (s : State) → on_client n g (on_client n f s) ≡ on_client n (λ c. g (f c)) s
unfolding on_client
on_twice n f g keeps s = ap (λ (cs : List Client). let t : State = record s { clients = cs } in t) (change_twice f g keeps n s.clients)

on_as : (n : ℕ) (f g : Client → Client) → ((c : Client) → f c ≡ g c) → (s : State) → on_client n f s ≡ on_client n g s
unfolding on_client
on_as n f g same s = ap (λ (cs : List Client). let t : State = record s { clients = cs } in t) (change_as n f g same s.clients)

pub said_number : (k : ℕ) → KeepsNumber (said_by k)
said_number k = (said_through k).number

-- the next request stands as it would before them
pub next_same : (k n : ℕ) (s : State) → next_state n (on_client n (said_by k) s) ≡ next_state n s
next_same k n s =
    ap (λ (t : State). forsake (is_of n) (swept t)) (on_twice n (said_by k) next_request (said_number k) s ∙ on_as n (λ c. next_request (said_by k c)) next_request (next_said k) s)

pub sweep_first : (n : ℕ) (s : State) → swept (forsake (is_of n) (on_client n next_request s)) ≡ next_state n s
unfolding forsake swept on_client
sweep_first n s = refl

pub ends_as : (c : Client) (s : State) (b : Bool) → c.closes ≡ b → end_reply c s ≡ elim b as (λ t. State) [ true ↦ close_client c.number false s | false ↦ swept (forsake (is_of c.number) (on_client c.number next_request s)) ]
unfolding end_reply
ends_as c s b is = ap (λ (b : Bool). elim b as (λ t. State) [ true ↦ close_client c.number false s | false ↦ swept (forsake (is_of c.number) (on_client c.number next_request s)) ]) is

-- it is closed behind them
abbrev pub closed_behind : ℕ → Client → Client
closed_behind k c = closing_client false (said_by k c)

pub closed_steps : (k n : ℕ) (s t : State) → Steps n (closing_client false) (on_client n (said_by k) s) t → Steps n (closed_behind k) s t
unfolding on_client
closed_steps k n s t steps = record {
  clients = steps.clients ∙ change_twice (said_by k) (closing_client false) (said_number k) n s.clients;
  instances = steps.instances ∙ ap (λ (u : State). without (is_left_over u) s.instances) (on_twice n (said_by k) (closing_client false) (said_number k) s);
  exchange = λ m d there. let was : WasAsk (on_client n (said_by k) s) n m d = steps.exchange m d there in record { before = was.before; there = was.there; place = was.place; asked = was.asked; asker = was.asker };
  once = steps.once;
  rest = steps.rest;
}

-- ---- of its seat

begin_begun : (b : Begin) (text : Bytes) (a : Answer) (r : Reply) → ShowsBegin b text a r → a.has_begun ≡ true
begin_begun Page text a r shows = shows.0.begun
begin_begun (OfInstance id next to) text a r shows = shows.0.begun
begin_begun IsPassed text a r shows = shows.0.begun

-- a reply that is said whole was begun
says_begun : (number : ℕ → ℕ) (i : Interim) (stage : SaidStage) (text : Bytes) (pipe : Pipe) (at : SeatStage) (other : Stage) → ShowsStage number (parts i stage text pipe) at other → is_said (parts i stage text pipe) ≡ true → has_begun_in (answer_in at) ≡ true
says_begun number i Due text pipe at other shows all = absurd (cc all)
says_begun number i (Begun b) text pipe IsUndecided Undecided shows all = absurd (cc (shows.0))
says_begun number i (Begun b) text pipe IsWaiting Waiting shows all = absurd (cc shows)
says_begun number i (Begun b) text pipe IsPassing Passing shows all = absurd (cc shows)
says_begun number i (Begun b) text pipe (IsAnswering a) (Answering r) shows all = begin_begun b text a r shows.says
says_begun number i (Begun b) text pipe at other shows all = absurd shows

pub was_begun : (number : ℕ → ℕ) (name : Bytes) (k : ℕ) (seat : Seat) (c : Client) → ShowsOpen number name [] seat c → k ≤ left_next seat.client.reply → is_said (said k seat.client.reply) ≡ true → has_begun seat ≡ true
was_begun number name k seat c shows few all =
    let r : Said = said k seat.client.reply in
    let told : IsToldBy number k name [] seat c (said_account k seat.account) r = open_told number k name [] seat c (said_account k seat.account) shows few in
    says_begun number r.interim r.stage r.text r.pipe seat.stage (said_by k c).stage told.shows.stage all

accounts_same : (a : Account) → anew (anew a) ≡ anew a
accounts_same Unkept = refl
accounts_same (IsDue due) = refl
accounts_same (HasBegun told) = refl

pub renewed_same : (seat : Seat) → at_next_request (account_renewed seat) ≡ at_next_request seat
renewed_same seat = ap (λ (a : Account). let x : Seat = record (at_next_request seat) { account = a } in x) (accounts_same seat.account)
